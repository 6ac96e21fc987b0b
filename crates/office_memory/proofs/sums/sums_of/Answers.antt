use Rattle.office_memory.proofs.Names.{◌≡◌, ◌+◌, ◌∷◌, [], length, sym, ap, ◌∙◌, subst, arith, ℕ, values_of, sums_with_entry, sums_with_entries, EntryRow, sums_are, HasRoom}
use Rattle.office_memory.proofs.AddedUp.{entry_room}
use Rattle.office_memory.proofs.sums.sums_of.Goals as goal

pub loop-kept-preserved : goal.loop-kept-preserved
loop-kept-preserved c =
    let taken : c.loop-kept.kept-iterator ≡ (c.in-Some.field-0-0.now, c.in-Some.kept.now) ∷ c.next.new.self = c.in-Some.ensures.steps in
    let room : ℕ → Type 0 = λ n. HasRoom n c.loop-kept.sums in (
      ap (λ s. sums_with_entries s (values_of c.next.new.self)) (c.with_entry-sums.ensures.sums ∙ ap (λ (e : EntryRow). sums_with_entry e.kind e.amount c.loop-kept.sums) c.get-entry.ensures)
          ∙ sym (ap (λ es. sums_with_entries c.loop-kept.sums (values_of es)) taken)
          ∙ c.loop-kept.invariant.0,
      entry_room c.get-entry.result.now.kind c.get-entry.result.now.amount c.loop-kept.sums c.with_entry-sums.result c.with_entry-sums.ensures.sums c.with_entry-sums.ensures.bound (length c.next.new.self) (subst room (omega (arith, ap length taken)) c.loop-kept.invariant.1),
    )

pub with_entry-sums-requires-clause-gained : goal.with_entry-sums-requires-clause-gained
with_entry-sums-requires-clause-gained c =
    let taken : c.loop-kept.kept-iterator ≡ (c.in-Some.field-0-0.now, c.in-Some.kept.now) ∷ c.next.new.self = c.in-Some.ensures.steps in
    let room : ℕ → Type 0 = λ n. HasRoom n c.loop-kept.sums in
    let has : HasRoom (length c.next.new.self + 1) c.loop-kept.sums = subst room (omega (arith, ap length taken)) c.loop-kept.invariant.1 in
    omega (arith, has.gained)

pub with_entry-sums-requires-clause-lost : goal.with_entry-sums-requires-clause-lost
with_entry-sums-requires-clause-lost c =
    let taken : c.loop-kept.kept-iterator ≡ (c.in-Some.field-0-0.now, c.in-Some.kept.now) ∷ c.next.new.self = c.in-Some.ensures.steps in
    let room : ℕ → Type 0 = λ n. HasRoom n c.loop-kept.sums in
    let has : HasRoom (length c.next.new.self + 1) c.loop-kept.sums = subst room (omega (arith, ap length taken)) c.loop-kept.invariant.1 in
    omega (arith, has.lost)

pub with_entry-sums-requires-clause-paid : goal.with_entry-sums-requires-clause-paid
with_entry-sums-requires-clause-paid c =
    let taken : c.loop-kept.kept-iterator ≡ (c.in-Some.field-0-0.now, c.in-Some.kept.now) ∷ c.next.new.self = c.in-Some.ensures.steps in
    let room : ℕ → Type 0 = λ n. HasRoom n c.loop-kept.sums in
    let has : HasRoom (length c.next.new.self + 1) c.loop-kept.sums = subst room (omega (arith, ap length taken)) c.loop-kept.invariant.1 in
    omega (arith, has.paid)

pub returns : goal.returns
returns c =
    let none : c.loop-kept.kept-iterator ≡ [] = c.in-None.ensures.steps.0 in
    sym (ap (λ es. sums_with_entries c.loop-kept.sums (values_of es)) none) ∙ c.loop-kept.invariant.0 ∙ sums_are c.args.entries.now c.args.contract.now
