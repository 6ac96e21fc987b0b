use Rattle.office_sums.proofs.Names.{◌≡◌, ◌+◌, ◌∷◌, List, drop, sym, ap, ◌∙◌, arith, at_drop_all, drop_more, sums_with_entries, ContractSums, EntryRow}
use Rattle.office_sums.proofs.carried.sums_after.Goals as goal

pub loop-entry-preserved : goal.loop-entry-preserved
loop-entry-preserved c =
    let entries = c.args.entries.now in
    let at = c.loop-entry.entry-index in
    let e = c.entry-item.result in
    let rest : List EntryRow = drop (at + 1) entries in
    let is : drop at entries ≡ e ∷ rest = drop_more entries at e c.loop-entry-test.true ∙ ap (λ (r : EntryRow). r ∷ rest) (sym c.entry-item.is) in
    ap (λ (s : ContractSums). sums_with_entries s rest) c.in_ok-sums.ensures
    ∙ sym (ap (sums_with_entries c.loop-entry.sums) is) ∙ c.loop-entry.invariant

pub returns : goal.returns
returns c =
    sym (at_drop_all (sums_with_entries c.loop-entry.sums) c.args.entries.now c.loop-entry.entry-index (omega (arith, c.loop-entry-test.false))) ∙ c.loop-entry.invariant
