-- The states that a stop may leave after one answer.
use Rattle.office_http.proofs.Names.{◌≡◌, ℕ, ◌⊎◌, inl, inr, Bool, true, false, sym, subst, Settings, Tables, Meaning, Meant, IsWholeAfter, LeftAfter, StopsAfter, is_accepted}

-- A stop may still leave the earlier states after an answer that changes nothing.
left_before : (accepted : Bool) (Before IsAfter : Type 0) → Before → LeftAfter accepted true Before IsAfter
left_before false Before IsAfter before = before
left_before true Before IsAfter before = inl before

-- It may leave more if it could leave more before.
pub left_weaker : (accepted busy : Bool) (First Before IsAfter : Type 0) → (Before → First) → LeftAfter accepted busy Before IsAfter → LeftAfter accepted busy First IsAfter
left_weaker false busy First Before IsAfter more left = more left
left_weaker true false First Before IsAfter more left = left
left_weaker true true First Before IsAfter more (inl left) = inl (more left)
left_weaker true true First Before IsAfter more (inr whole) = inr whole

module _ {S : Type 0} (M : Meaning S) (settings : Settings) (old new : S) (s : Tables) (moment : ℕ) (m : Meant) where
  -- A stop may leave nothing new.
  abbrev pub Stays : Type 0
  Stays = (u : Tables) → M.may_leave new u → M.may_leave old u

  abbrev left_with : Bool → Bool → Tables → Type 0
  left_with busy accepted u = LeftAfter accepted busy (M.may_leave old u) (IsWholeAfter settings s moment m u)

  pub stays_unavailable : Stays → StopsAfter M settings old new true s moment m
  stays_unavailable stays u left = left_before (is_accepted s moment m) (M.may_leave old u) (IsWholeAfter settings s moment m u) (stays u left)

  pub stays_refused : is_accepted s moment m ≡ false → Stays → StopsAfter M settings old new false s moment m
  stays_refused refused stays u left = subst (λ (b : Bool). left_with false b u) (sym refused) (stays u left)

  pub leaves_accepted : is_accepted s moment m ≡ true → ((u : Tables) → M.may_leave new u → IsWholeAfter settings s moment m u)
      → StopsAfter M settings old new false s moment m
  leaves_accepted accepted leaves u left = subst (λ (b : Bool). left_with false b u) (sym accepted) (leaves u left)

  pub leaves_either : is_accepted s moment m ≡ true → ((u : Tables) → M.may_leave new u → M.may_leave old u ⊎ IsWholeAfter settings s moment m u)
      → StopsAfter M settings old new true s moment m
  leaves_either accepted leaves u left = subst (λ (b : Bool). left_with true b u) (sym accepted) (leaves u left)

-- Two calls, of which the first one adds nothing.
pub stops_then : {S : Type 0} (M : Meaning S) (settings : Settings) (old mid new : S) (busy : Bool) (s : Tables) (moment : ℕ) (m : Meant)
    → ((u : Tables) → M.may_leave mid u → M.may_leave old u) → StopsAfter M settings mid new busy s moment m → StopsAfter M settings old new busy s moment m
stops_then M settings old mid new busy s moment m stays stops u left = left_weaker (is_accepted s moment m) busy (M.may_leave old u) (M.may_leave mid u) (IsWholeAfter settings s moment m u) (stays u) (stops u left)
