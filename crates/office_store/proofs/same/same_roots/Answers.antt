use Rattle.office_store.proofs.Names.{rules, arith, ◌≡◌, ◌∙◌, ◌<◌, ℕ, length, map, IsTrue, ap, sym, true≢false, List, get_or, get_or-map, term_in}
use Rattle.office_store.proofs.same.same_roots.Goals as goal

mapped_at : {Z : Type 0} (f g : ℕ → Z) (xs ys : List ℕ) (at : ℕ) → at < length xs → at < length ys → map f xs ≡ map g ys → f (get_or xs at 0) ≡ g (get_or ys at 0)
mapped_at {Z} f g xs ys at first second same = sym (get_or-map f xs at 0 (f 0) first) ∙ ap (λ (l : List Z). get_or l at (f 0)) same ∙ get_or-map g ys at 0 (f 0) second

pub returns-then-not-same_term : goal.returns-then-not-same_term
returns-then-not-same_term c =
    let at = c.loop-at.at in
    let first : at < length c.args.places.now = omega arith in
    let second : at < length c.args.others.now = omega arith in (
      λ no. absurd (true≢false (sym no)),
      λ same.
          let yes : IsTrue c.same_term.result = c.same_term.ensures.1 (mapped_at (term_in c.args.a.now) (term_in c.args.b.now) c.args.places.now c.args.others.now at first second same) in
          search rules,
    )
