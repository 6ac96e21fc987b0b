-- Texts that are joined one after another.
use Rattle.office_http.proofs.Names.{◌≡◌, ℕ, ◌+◌, ◌-◌, List, [], ◌++◌, append_assoc, take, drop, length, sym, ap, ◌∙◌, append-nil, arith, drop-append_seam, take-append_seam, length-append}

-- A text that was added is the text to which it is equal.
pub put_as : (old new text shown : List ℕ) → new ≡ old ++ text → text ≡ shown → new ≡ old ++ shown
put_as old new text shown put is = rw is at put

-- A head in a new list, then two texts together, then two more.
pub five_in_new : (out head first second third fourth a b c d e : List ℕ) → out ≡ [] → head ≡ out ++ a → first ≡ head ++ b → second ≡ first ++ c
    → third ≡ second ++ d → fourth ≡ third ++ e → fourth ≡ a ++ (b ++ c) ++ d ++ e
five_in_new out head first second third fourth a b c d e is_new at_head at_first at_second at_third at_fourth =
    rw (at_fourth, at_third, at_second, at_first, at_head, is_new) (simp append_assoc)

-- Eight texts after the content.
pub eight_behind : (out first second third fourth fifth sixth seventh eighth a b c d e f g h : List ℕ)
    → first ≡ out ++ a → second ≡ first ++ b → third ≡ second ++ c → fourth ≡ third ++ d
    → fifth ≡ fourth ++ e → sixth ≡ fifth ++ f → seventh ≡ sixth ++ g → eighth ≡ seventh ++ h
    → eighth ≡ out ++ (a ++ b ++ c ++ d ++ e ++ f ++ g ++ h)
eight_behind out first second third fourth fifth sixth seventh eighth a b c d e f g h at_first at_second at_third at_fourth at_fifth at_sixth at_seventh at_eighth =
    rw (at_eighth, at_seventh, at_sixth, at_fifth, at_fourth, at_third, at_second, at_first) (simp append_assoc)

-- A text that is added at the end and then rotated to the front. `n` is the length of both.
pub turned : (old front joined out : List ℕ) (n : ℕ) → n ≡ length joined → joined ≡ old ++ front
    → out ≡ drop (n - length front) joined ++ take (n - length front) joined → out ≡ front ++ old
turned old front joined out n many is turns =
    let long : length joined ≡ length old + length front = ap length is ∙ length-append old front in
    let seam : n - length front ≡ length old = omega (arith, many, long) in
    turns
    ∙ ap (λ (k : ℕ). drop k joined ++ take k joined) seam
    ∙ ap (λ (xs : List ℕ). drop (length old) xs ++ take (length old) xs) is
    ∙ (λ i. drop-append_seam old front i ++ take-append_seam old front i)

-- A body of this length after the head that says it.
pub around : (start : ℕ → List ℕ) (close body front shown out : List ℕ) (n : ℕ) → n ≡ length body → front ≡ start n ++ close → shown ≡ front
    → out ≡ shown ++ body → out ≡ start (length body) ++ [] ++ close ++ body
around start close body front shown out n many made same joined =
    joined
    ∙ ap (λ (xs : List ℕ). xs ++ body)
    (same ∙ made ∙ ap (λ (k : ℕ). start k ++ close) many ∙ ap (λ (xs : List ℕ). xs ++ close) (sym (append-nil (start (length body)))))
