-- The sums that are remembered after a line was forgotten.
use Rattle.office_sums.proofs.Names.{◌≡◌, ℕ, Bool, true, false, cond, List, Option, Some, None, refl, sym, ◌∙◌, is_at, texts_ties, id_cmp, same_id, Tables, IsSorted, after_put, Put, IsCarried, TouchesNone, sums_at, Forgets, Remembers, Carried, SumsOfLine}
use Rattle.office_sums.proofs.SumsStaying.{sums_stay}

step : (b : Bool) (old new : Option SumsOfLine) (sums : SumsOfLine) → new ≡ cond b None old → new ≡ Some sums → (old ≡ Some sums) × (b ≡ false)
step true old new sums is found = absurd (let none : None ≡ Some sums = sym is ∙ found in cc)
step false old new sums is found = (sym is ∙ found, refl)

pub forgotten : (line : List ℕ) (old new : List (List ℕ × SumsOfLine)) → ((q : List ℕ) → sums_at new q ≡ cond (is_at (id_cmp line) q) None (sums_at old q)) → Forgets line old new
forgotten line old new each = record {
  each = λ q sums found.
      let left : (sums_at old q ≡ Some sums) × (is_at (id_cmp line) q ≡ false) = step (is_at (id_cmp line) q) (sums_at old q) (sums_at new q) sums (each q) found in
      (left.0, texts_ties line q ∙ left.1);
}

-- the other lines agree with the tables after a change that touches only this one
pub others_stay : (known left : List (List ℕ × SumsOfLine)) (p : Put) (t : Tables) (carried : Carried) → Forgets carried.line known left → IsCarried known p t carried → IsSorted t
    → Remembers known t → Remembers left (after_put p t)
others_stay known left p t carried forgets is sorted h = record {
  each = λ line sums found.
      let was : (sums_at known line ≡ Some sums) × (same_id carried.line line ≡ false) = forgets.each line sums found in
      sums_stay line sums p t sorted (is.others line was.1) (h.each line sums was.0);
}

-- all lines agree with the tables after a change that touches none
pub all_stay : (known : List (List ℕ × SumsOfLine)) (p : Put) (t : Tables) → TouchesNone p t → IsSorted t → Remembers known t → Remembers known (after_put p t)
all_stay known p t none sorted h = record { each = λ line sums found. sums_stay line sums p t sorted (none.each line) (h.each line sums found) }
