-- Sums that are remembered once they were added up, and balances that are made from remembered sums.
use Rattle.office_sums.proofs.Names.{◌≡◌, ℕ, Bool, true, false, cond, List, [], Option, Some, None, Result, Ok, Err, OnOk, OnErr, IfSome, IfNone, refl, sym, ap, subst, ◌∙◌, BTreeMap, is_at, Updates, exact_bytes, tells_apart, id_cmp, Tables, reserved, contracted, pots_of, reservations, sums_of_line, LineFits, pots_with, SumsFit, AreJoined, ContractSums, Pots, LineRow, sums_at, pots_by, sums_in, AreSums, IsSummed, Remembers, SumsOfLine}

-- nothing is remembered
pub none_known : {A : Type 0} (line : List ℕ) (sums : SumsOfLine) → sums_at [] line ≡ Some sums → A
none_known line sums found = absurd (let none : None ≡ Some sums = found in cc)

some_inj : (a b : SumsOfLine) → Some a ≡ Some b → a ≡ b
some_inj a b e = cc

step : (line q : List ℕ) (sums found : SumsOfLine) (old new : Option SumsOfLine) (t : Tables) → AreSums line sums t → (old ≡ Some found → AreSums q found t)
    → (b : Bool) → (b ≡ true → line ≡ q) → new ≡ cond b (Some sums) old → new ≡ Some found → AreSums q found t
step line q sums found old new t are h true same is there =
    subst (λ k. AreSums k found t) (same refl) (subst (λ s. AreSums line s t) (some_inj sums found (sym is ∙ there)) are)
step line q sums found old new t are h false same is there = h (sym is ∙ there)

-- one line is added, or gets other sums
pub remembered : (line : List ℕ) (sums : SumsOfLine) (old new : List (List ℕ × SumsOfLine)) (t : Tables)
    → ((q : List ℕ) → sums_at new q ≡ cond (is_at (id_cmp line) q) (Some sums) (sums_at old q)) → AreSums line sums t → Remembers old t → Remembers new t
remembered line sums old new t each are h = record {
  each = λ q found there. step line q sums found (sums_at old q) (sums_at new q) t are (h.each q found) (is_at (id_cmp line) q) (tells_apart exact_bytes line q) (each q) there;
}

-- the same, whether there was memory for the line or not
pub put : {T E : Type 0} (result : Result T E) (line : List ℕ) (sums : SumsOfLine) (old new : BTreeMap (List ℕ) SumsOfLine) (t : Tables)
    → OnOk result (Updates id_cmp old new line (Some sums)) → OnErr result (new.entries ≡ old.entries) → AreSums line sums t → Remembers old.entries t → Remembers new.entries t
put (Ok v) line sums old new t updates same are h = remembered line sums old.entries new.entries t updates.0 are h
put (Err e) line sums old new t updates same are h = subst (λ known. Remembers known t) (sym same) h

-- the sums in a line's balances
pub sums_are : (row : LineRow) (pots : Pots) (t : Tables) → pots ≡ pots_of row t → LineFits row.line t → AreSums row.line (sums_in pots) t
sums_are row pots t are fit = record {
  reserved_is = ap (λ (p : Pots). p.reserved) are;
  contracted_is = ap (λ (p : Pots). p.contracted) are;
  paid_is = ap (λ (p : Pots). p.paid) are;
  fit = fit;
}

-- the balances that were added up from the amounts of the joined rows
pub summed : (row : LineRow) (t : Tables) (amounts : List ℕ) (contracts : List ContractSums) (result : Option Pots)
    → amounts ≡ reservations row.line t → contracts ≡ sums_of_line row.line t → AreJoined row t
    → IfSome result (λ pots. pots ≡ pots_with row amounts contracts) → IfSome result (λ _. SumsFit amounts contracts) → IfNone result (¬ (SumsFit amounts contracts))
    → IsSummed row t result
summed row t amounts contracts (Some pots) r c joined are fit unfit = (
  are ∙ ap (λ rs. pots_with row rs contracts) r ∙ ap (pots_with row (reservations row.line t)) c ∙ joined.pots,
  joined.fits.0 (subst (SumsFit (reservations row.line t)) c (subst (λ rs. SumsFit rs contracts) r fit)),
)
summed row t amounts contracts None r c joined are fit unfit =
    λ fits. unfit (subst (λ rs. SumsFit rs contracts) (sym r) (subst (SumsFit (reservations row.line t)) (sym c) (joined.fits.1 fits)))

-- the balances by a line's sums
pub pots_are : (row : LineRow) (sums : SumsOfLine) (t : Tables) → AreSums row.line sums t → IsSummed row t (Some (pots_by row sums))
pots_are row sums t are = (
  ap (λ n. record { appropriation = row.appropriation; free = row.free; reserved = n; contracted = sums.contracted; paid = sums.paid }) are.reserved_is
      ∙ ap (λ n. record { appropriation = row.appropriation; free = row.free; reserved = reserved row.line t; contracted = n; paid = sums.paid }) are.contracted_is
      ∙ ap (λ n. record { appropriation = row.appropriation; free = row.free; reserved = reserved row.line t; contracted = contracted row.line t; paid = n }) are.paid_is,
  are.fit,
)
