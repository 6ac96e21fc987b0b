use Rattle.office_sums.proofs.Names.{◌≡◌, suc, Some, sym, ap, ◌∙◌, arith, after_put, Release, numbers_to, count_at}
use Rattle.office_sums.proofs.NumbersOn.{next_numbers, others_stay}
use Rattle.office_sums.proofs.numbered.RememberedCounts.follow_release.Goals as goal

pub returns-then-before-seq : goal.returns-then-before-seq
returns-then-before-seq c t = record {
  right = λ sorted h.
      let row = c.args.row.now in
      let before = c.in-Some.before in
      let was : count_at c.args.self.now row.notice ≡ Some before = sym c.get-count.ensures ∙ c.in-Some.is in
      let next : row.seq ≡ suc before = omega (arith, c.if-before-seq.true, c.get-seq.ensures.value, c.get-seq.ensures.least) in
      c.insert.ensures (after_put (Release row) t) (next_numbers row t sorted before next (h.each row.notice before was) ∙ ap numbers_to (sym c.get-seq.ensures.value))
      (others_stay row c.args.self.now c.forget.new.self t c.forget.ensures h);
}

pub returns-else-before-seq : goal.returns-else-before-seq
returns-else-before-seq c t = record { right = λ sorted h. others_stay c.args.row.now c.args.self.now c.forget.new.self t c.forget.ensures h }

pub returns-in_default : goal.returns-in_default
returns-in_default c t = record { right = λ sorted h. others_stay c.args.row.now c.args.self.now c.forget.new.self t c.forget.ensures h }
