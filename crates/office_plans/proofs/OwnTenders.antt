-- The rule of a submission depends only on the caller's own tenders of the lot.
use Rattle.office_plans.proofs.Names.{◌≡◌, ℕ, Bool, true, false, cond, ◌&&◌, ◌||◌, List, [], ◌∷◌, filter, Option, list_any, refl, sym, ap, ◌∙◌, and_parts, both_ways, false_from_ne_true, same_id, Caller, Public, Clerk, NamedSecurity, is_sealed, Tables, envelopes_of_lot, EnvelopeRow, equal_ids, same_itself, is_sealed_by, present_rows, present_tests, own_envelopes, own_rows}
use Rattle.office_commands.specs.declared.command.Caller.TheVariants.{Tenderer}

and_false : (b : Bool) → (b && false) ≡ false
and_false true = refl
and_false false = refl

-- A test that nothing passes finds nothing.
none_passes : {X : Type 0} (p : X → Bool) → ((x : X) → p x ≡ false) → (xs : List X) → false ≡ list_any p xs
none_passes p none [] = refl
none_passes p none (x ∷ xs) = none_passes p none xs ∙ sym (ap (λ b. b || list_any p xs) (none x))

module _ {X : Type 0} (p q own : X → Bool) (only : (x : X) → p x ≡ true → own x ≡ true) where
  one_more : (x : X) (ys zs : List X) → list_any p ys ≡ list_any p zs → (a b : Bool) → own x ≡ b → list_any p (cond (a && b) (x ∷ ys) ys) ≡ list_any p (cond a (x ∷ zs) zs)
  one_more x ys zs same false b e = same
  one_more x ys zs same true true e = ap (λ c. p x || c) same
  one_more x ys zs same true false e = same ∙ sym (ap (λ b. b || list_any p zs) (false_from_ne_true (p x) (λ passes. both_ways (own x) e (only x passes))))

  -- If only own tenders pass a test, then it finds the same among own tenders as among all.
  any_own : (xs : List X) → list_any p (filter (λ x. q x && own x) xs) ≡ list_any p (filter q xs)
  any_own [] = refl
  any_own (x ∷ xs) = one_more x (filter (λ y. q y && own y) xs) (filter q xs) (any_own xs) (q x) (own x) refl

-- A tender that this tenderer submitted is this tenderer's own.
is_own : (id : List ℕ) (e : EnvelopeRow) → is_sealed_by (Tenderer id) e ≡ true → same_id e.tenderer id ≡ true
is_own id e passes = ap (λ name. same_id name id) (sym (equal_ids id e.tenderer (and_parts (is_sealed e.state) (same_id id e.tenderer) passes).1)) ∙ same_itself id

pub own_sealed : (caller : Caller) (notice lot : List ℕ) (s : Tables) → list_any (is_sealed_by caller) (own_envelopes caller notice lot s) ≡ list_any (is_sealed_by caller) (envelopes_of_lot notice lot s)
own_sealed Public notice lot s = none_passes (is_sealed_by Public) (λ e. and_false (is_sealed e.state)) (envelopes_of_lot notice lot s)
own_sealed Clerk notice lot s = none_passes (is_sealed_by Clerk) (λ e. and_false (is_sealed e.state)) (envelopes_of_lot notice lot s)
own_sealed (Tenderer id) notice lot s =
    any_own (is_sealed_by (Tenderer id)) (λ (e : EnvelopeRow). same_id e.notice notice && same_id e.lot lot) (λ (e : EnvelopeRow). same_id e.tenderer id) (is_own id) s.envelopes

-- The rule of a submission gives the same tests by the caller's own tenders as by all tenders of the lot.
pub own_tests : (caller : Caller) (notice lot : List ℕ) (s : Tables) (t : ℕ) (security : Option NamedSecurity)
    → present_tests (own_rows caller s notice lot) t caller security ≡ present_tests (present_rows s notice lot) t caller security
own_tests caller notice lot s t security = rw (own_sealed caller notice lot s) refl
