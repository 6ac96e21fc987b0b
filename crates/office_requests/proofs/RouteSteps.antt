-- From a path to its route.
use Rattle.office_requests.proofs.Names.{◌≡◌, ℕ, List, refl, Bool, true, false, option_and_then, IsUtf8, is_utf8, None, IsUtf8-from_is_utf8, is_utf8-from_IsUtf8, asked_at, route_with, route_at}

false_unless : (b : Bool) (P : Type 0) → (b ≡ true → P) → ¬ P → b ≡ false
false_unless true P means none = absurd (none (means refl))
false_unless false P means none = refl

-- a path that isn't UTF-8 has no route
pub no_text : (path : List ℕ) → ¬ (IsUtf8 path) → route_at path ≡ None
no_text path none = rw (false_unless (is_utf8 path) (IsUtf8 path) (IsUtf8-from_is_utf8 path) none) refl

-- a path that is UTF-8 has the route of its pattern
pub text_route : (path : List ℕ) → IsUtf8 path → option_and_then (route_with path) (asked_at path) ≡ route_at path
text_route path utf8 = rw (is_utf8-from_IsUtf8 path utf8) refl
