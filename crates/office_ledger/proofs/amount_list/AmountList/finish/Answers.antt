use Rattle.office_ledger.proofs.Names.{◌≡◌, ap, ◌∙◌, reservations, sums_of_line, Listing, LotListing, all_listed}
use Rattle.office_ledger.proofs.Listed.{sums_listed}
use Rattle.office_ledger.proofs.Reserved.{reserved_listed}
use Rattle.office_ledger.proofs.amount_list.AmountList.finish.Goals as goal

pub returns-in-Ok-clause-amounts : goal.returns-in-Ok-clause-amounts
returns-in-Ok-clause-amounts c t line sorted h =
    let reserved : c.self.inside.reserved.items ≡ reservations line t =
    ap (λ (s : Listing). s.reserved.amounts) c.self.view_is ∙ ap (λ (s : LotListing). s.amounts) h.reserved ∙ reserved_listed t sorted line in
    let sums : c.in-Ok.contracts.items ≡ sums_of_line line t =
    c.in-Ok.ensures.sums ∙ ap (λ (s : Listing). all_listed s.contracts.listed) c.self.view_is ∙ ap all_listed h.sums ∙ sums_listed t sorted line in
    c.from_vecs.ensures ∙ (λ i. record { reserved = reserved i; contracts = sums i })
