-- Short texts that are joined one after another.
use Rattle.office_http.proofs.Names.{◌≡◌, ℕ, ◌+◌, ◌≤◌, List, [], ◌++◌, length, ap, subst, arith, ◌∙◌, append_assoc, length-append, FitsBehind}

-- The fact that a text was added.
pub record Fits (old text new : List ℕ) : Type 0 where
  pub it : FitsBehind old text new

-- A text was added, and so was any text that is equal to it.
pub fit : (old text new : List ℕ) → FitsBehind old text new → Fits old text new
fit old text new it = record { it = it }

pub fit_as : (old text shown new : List ℕ) → FitsBehind old text new → text ≡ shown → Fits old shown new
fit_as old text shown new it same = record { it = subst (λ (t : List ℕ). FitsBehind old t new) same it }

pub fits_then : (old mid new x y : List ℕ) → Fits old x mid → Fits mid y new → Fits old (x ++ y) new
fits_then old mid new x y first second = record {
  it = λ room.
      let both : length (x ++ y) ≡ length x + length y = length-append x y in
      let at_mid : mid ≡ old ++ x = first.it (omega (arith, room, both)) in
      let long : length mid ≡ length (old ++ x) = ap length at_mid in
      let parts : length (old ++ x) ≡ length old + length x = length-append old x in
      let at_new : new ≡ mid ++ y = second.it (omega (arith, room, both, long, parts)) in
      at_new ∙ (ap (λ (t : List ℕ). t ++ y) at_mid ∙ append_assoc old x y);
}

-- A text in a new place.
pub fits_new : (old text new : List ℕ) → old ≡ [] → Fits old text new → length text ≤ 288 → new ≡ text
fits_new old text new none fits few =
    let nothing : length old ≡ 0 = ap length none in
    fits.it (omega (arith, nothing, few)) ∙ ap (λ (t : List ℕ). t ++ text) none
