use Rattle.office_plans.proofs.Names.{◌≡◌, ◌++◌, map, not, list_any, Looks, lot_cmp, lot_key, AreFrom, has_seal_and_lot, tender_read}
use Rattle.office_plans.proofs.opened.load_each.Given as goal

abbrev pub invariant-loop-envelope : goal.invariant-loop-envelope
invariant-loop-envelope g l =
    Looks g.H.Lookups.meaning l.fn.shelf l.shelf
    (λ s. AreFrom lot_cmp lot_key s.lots l.lots × (l.tenders.items ++ map (tender_read s) l.envelope-iterator.rest.items ≡ map (tender_read s) l.fn.envelopes.items)
    × (list_any (λ e. not (has_seal_and_lot s e)) l.envelope-iterator.rest.items ≡ list_any (λ e. not (has_seal_and_lot s e)) l.fn.envelopes.items))
