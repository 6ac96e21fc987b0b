-- The digits of a decimal numeral.
use Rattle.ocds_merge.proofs.Names.{◌≡◌, ℕ, ◌^◌, ◌<◌, ◌≤◌, List, ◌++◌, length, take, drop, get_or, decimal, refl, sym, ap, ◌∙◌, subst, arith, take-append-drop, length-take-le, get_or-take, digits_value-lt, IsNumeralModel, decimal-digits_value, AllDigits, digits_value}
use Rattle.ocds_merge.proofs.ScanLaw.{Each, each_sound}

abbrev Fits : ℕ → Type 0
Fits k = 10 ^ k < 2 ^ 64

fits : Each Fits 20
fits = (omega arith, (omega arith, (omega arith, (omega arith, (omega arith, (omega arith, (omega arith, (omega arith, (omega arith, (omega arith, (omega arith, (omega arith, (omega arith, (omega arith, (omega arith, (omega arith, (omega arith, (omega arith, (omega arith, (omega arith, tt))))))))))))))))))))

model : IsNumeralModel (AllDigits 10) (digits_value 10)
model = record { to = λ ds h. h; from = λ ds h. h; same = λ ds h. refl }

pub number_passed : (text : List ℕ) (count : ℕ) → count ≤ length text → AllDigits 10 (take count text) → 0 < count → count < 20 → (get_or text 0 0 ≡ 48 → count ≡ 1)
    → (n : ℕ) × (n < 2 ^ 64) × (text ≡ decimal n ++ drop count text)
number_passed text count within digits some few zero =
    let ds = take count text in
    let long : length ds ≡ count = length-take-le count text within in
    let low : digits_value 10 ds < 2 ^ 64 = omega (arith, subst (λ (k : ℕ). digits_value 10 ds < 10 ^ k) long (digits_value-lt 10 ds digits), each_sound Fits 20 fits count few) in
    let is : decimal (digits_value 10 ds) ≡ ds =
    decimal-digits_value model ds digits (omega (arith, long)) (λ e. long ∙ zero (sym (get_or-take count text 0 0 some) ∙ e)) low in
    (digits_value 10 ds, low, sym (take-append-drop count text) ∙ ap (λ (s : List ℕ). s ++ drop count text) (sym is))
