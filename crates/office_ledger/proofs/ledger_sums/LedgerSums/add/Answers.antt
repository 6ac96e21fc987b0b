use Rattle.office_ledger.proofs.Names.{◌≡◌, ◌+◌, ◌*◌, ◌≤◌, sym, ap, ◌∙◌, subst, arith, Summing, HasRoom, LineSums}
use Rattle.office_ledger.specs.declared.ledger_sums.LedgerSums.TheInside
use Rattle.office_ledger.proofs.Rooms.{less_room}
use Rattle.office_ledger.proofs.ledger_sums.LedgerSums.add.Goals.{in-Some-lot, in_default-lot}
use Rattle.office_ledger.proofs.ledger_sums.LedgerSums.add.Goals as goal

pub invariant_of-self : goal.invariant_of-self
invariant_of-self c =
    let left : c.self-2.inside.left ≡ c.self.inside.left = ap (λ (s : Summing). s.left) (c.self-2.view_is ∙ c.in_ok-enter_line.ensures.entered) ∙ sym (ap (λ (s : Summing). s.left) c.self.view_is) in
    let more : c.in-Some.left * 3 + 3 ≤ c.self-2.inside.left * 3 = omega (arith, left, c.in-Some.ensures) in
    let room : HasRoom (c.in-Some.left * 3 + 3) c.self-2.inside.sums = less_room c.self-2.inside.sums (c.self-2.inside.left * 3) (c.in-Some.left * 3 + 3) more c.self-2.invariant in
    elim c.match-row.branch [
      | in-Some-lot w ↦ subst (λ (s : LineSums). HasRoom (c.in-Some.left * 3) s) (sym (ap (λ (i : TheInside.Inside). i.sums) w.self-inside-is)) (w.take.ensures.room (c.in-Some.left * 3) room)
      | in_default-lot w ↦
          subst (λ (s : LineSums). HasRoom (c.in-Some.left * 3) s) (sym (ap (λ (i : TheInside.Inside). i.sums) w.self-inside-is))
          (less_room c.self-2.inside.sums (c.in-Some.left * 3 + 3) (c.in-Some.left * 3) (omega arith) room)
    ]
