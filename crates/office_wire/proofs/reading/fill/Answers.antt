use Rattle.office_wire.proofs.Names.{◌≡◌, ℕ, ◌+◌, ◌-◌, ◌≤◌, List, ◌++◌, rules, arith, length, take, drop, sym, ap, ◌∙◌, subst, le_refl, drop_at, length-take-le, take-put_mid_below, Consumes, Consumes-trans, put_mid, post_of, take-add, take-append-le}
use Rattle.office_wire.proofs.reading.fill.Goals as goal

-- after `n` bytes are written from `at` on, the beginning is the first `at` bytes followed by these
front_then : (at k n : ℕ) (xs ys : List ℕ) → at ≤ length xs → n ≤ length ys → take (at + n) (put_mid at k xs ys) ≡ take at xs ++ take n ys
front_then at k n xs ys within fits =
    take-add at n (put_mid at k xs ys)
    ∙ ap (λ (l : List ℕ). l ++ take n (drop at (put_mid at k xs ys))) (take-put_mid_below at k xs ys at (le_refl at) within)
    ∙ ap (λ (l : List ℕ). take at xs ++ take n l) (drop_at (take at xs) (ys ++ post_of at k xs) at (length-take-le at xs within))
    ∙ ap (λ (l : List ℕ). take at xs ++ l) (take-append-le n ys (post_of at k xs) fits)

pub parts-preserved : goal.parts-preserved
parts-preserved g c =
    let at = c.parts.at in
    let room = length c.parts.buf - at in
    let inv = c.parts.invariant in
    let given = c.in_ok-count.ensures in
    record {
      within = search rules;
      left = omega (arith, inv.left, given.spent);
      whole = given.whole ∙ inv.whole;
      given = subst (Consumes _ _) (sym (front_then at room c.in_ok-count.count c.parts.buf c.read_some.new.buf inv.within given.bound)) (Consumes-trans _ _ _ _ _ inv.given given.given);
    }
