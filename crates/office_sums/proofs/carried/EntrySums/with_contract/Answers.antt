use Rattle.office_sums.proofs.Names.{◌≡◌, ◌+◌, sym, ap, ◌∙◌, arith, bare_sums, sums_with_entries, ContractSums, no_sums}
use Rattle.office_sums.proofs.EntriesAdd.{both, entries_add, three_same}
use Rattle.office_sums.proofs.carried.EntrySums.with_contract.Goals as goal

pub returns : goal.returns
returns c entries are =
    let bare : ContractSums = bare_sums c.args.contract.now in
    let sums : ContractSums = c.args.self.sums in
    let gained : c.in_ok-checked_add.field-0 ≡ bare.gained + sums.gained = omega (arith, c.in_ok-checked_add.ensures.1, c.units.ensures.value) in
    let lost : c.in_ok-checked_add-2.field-0 ≡ bare.lost + sums.lost = omega (arith, c.in_ok-checked_add-2.ensures.1, c.units-2.ensures.value) in
    let alone : both bare no_sums ≡ bare = three_same _ _ _ _ _ _ (omega arith) (omega arith) (omega arith) in
    three_same _ _ _ _ _ _ gained lost (omega arith)
    ∙ ap (both bare) are ∙ sym (entries_add entries bare no_sums) ∙ ap (λ s. sums_with_entries s entries) alone
