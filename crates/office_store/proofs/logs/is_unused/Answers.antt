use Rattle.office_store.proofs.Names.{rules, arith, ◌≡◌, false, length, take, sym, ap, ap₂, ◌∙◌, ◌||◌, nat_lt, part_front, held_is_part, has_shut_gate}
use Rattle.office_store.proofs.logs.is_unused.Goals as goal

pub returns-clause-unused : goal.returns-clause-unused
returns-clause-unused g c clean =
    let log = g.D.Disk.seen c.args.log.now in
    let len : length c.read_at.new.buf ≡ 41 = search rules in
    let head : take 41 log ≡ c.read_at.new.buf =
    sym (part_front log 41) ∙ held_is_part log _ 0 41 (rw (← c.len.ensures.seen) (c.in_ok-read_at.ensures.read (search rules) (omega arith))) len in
    let long : nat_lt (length log) 56 ≡ false = search rules in
    c.has_shut_gate.ensures ∙ ap has_shut_gate (sym head) ∙ sym (ap (λ b. b || has_shut_gate (take 41 log)) long)
