use Rattle.office_ledger.proofs.Names.{◌≡◌, Vec, Global, Some, sym, ap, ◌∙◌, subst, LedgerRow, ledger_of, Summing, closed}
use Rattle.office_ledger.proofs.Lines.{IsLedger, adds_up}
use Rattle.office_ledger.proofs.Following.{no_ledger}
use Rattle.office_ledger.proofs.ledger_sums.LedgerSums.finish.Goals as goal

pub returns-in-Ok : goal.returns-in-Ok
returns-in-Ok c t sorted h =
    let rows : Some c.self.inside.rows.items ≡ closed c.args.self.added = ap (λ (s : Summing). s.added.rows) (c.self.view_is ∙ c.in-Ok.ensures.ended) in
    subst (IsLedger t) (sym (rows ∙ ap closed h.sums)) (adds_up c.joined_sums.ensures t sorted)

pub returns-in-Err : goal.returns-in-Err
returns-in-Err c t sorted h = no_ledger c.joined_sums.ensures t sorted (Vec LedgerRow Global) (λ t rows. rows.items ≡ ledger_of t) c.in-Err.fault (closed c.args.self.added) (ap closed (sym h.sums)) c.in-Err.ensures.fault
