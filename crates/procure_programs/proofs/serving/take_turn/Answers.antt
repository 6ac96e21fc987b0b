use Rattle.procure_programs.proofs.Names.{inr, sym, ◌∙◌, err_from_is_err_and, hosting}
use Rattle.procure_programs.proofs.Turns.{asks, ends_by, none_taken}
use Rattle.procure_programs.proofs.serving.take_turn.Goals as goal

pub returns-in_err-is_taken : goal.returns-in_err-is_taken
returns-in_err-is_taken g c =
    let p = err_from_is_err_and c.from_residual.result c.from_residual.ensures.1 in
    rw (p.1, p.2) (ends_by (hosting g.T.Host.events g.T.Reader.Read.remaining g.T.Writer.Write.contents) g.H.Lookups.meaning g.H.StoredShelf.store c.in_err-is_taken.field-0.0
    c.args.host.now c.take_one.new.host c.args.office.now c.take_one.new.office c.in_err-is_taken.ensures)

pub returns-then-not-is_taken : goal.returns-then-not-is_taken
returns-then-not-is_taken g c =
    none_taken (hosting g.T.Host.events g.T.Reader.Read.remaining g.T.Writer.Write.contents) g.H.Lookups.meaning g.H.StoredShelf.store
    c.args.host.now c.take_one.new.host c.args.office.now c.take_one.new.office c.in_ok-is_taken.is_taken c.if-not-is_taken.true c.in_ok-is_taken.ensures

pub returns-then-unwrap_or : goal.returns-then-unwrap_or
returns-then-unwrap_or g c = (
  c.is_shut.result,
  asks (hosting g.T.Host.events g.T.Reader.Read.remaining g.T.Writer.Write.contents) g.H.Lookups.meaning g.H.StoredShelf.store
      c.args.host.now c.take_one.new.host c.args.office.now c.take_one.new.office c.is_shut.new.self c.is_shut.result c.in_ok-is_taken.is_taken c.if-not-is_taken.false
      c.in_ok-is_taken.ensures c.is_shut.ensures.told c.is_shut.ensures.settings,
  sym c.unwrap_or.ensures ∙ c.if-unwrap_or.true,
)

pub returns : goal.returns
returns g c = inr (
  c.is_shut.result,
  asks (hosting g.T.Host.events g.T.Reader.Read.remaining g.T.Writer.Write.contents) g.H.Lookups.meaning g.H.StoredShelf.store
      c.args.host.now c.take_one.new.host c.args.office.now c.take_one.new.office c.is_shut.new.self c.is_shut.result c.in_ok-is_taken.is_taken c.if-not-is_taken.false
      c.in_ok-is_taken.ensures c.is_shut.ensures.told c.is_shut.ensures.settings,
  sym c.unwrap_or.ensures ∙ c.if-unwrap_or.false,
)
