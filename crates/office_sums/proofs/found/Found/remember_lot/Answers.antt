use Rattle.office_sums.proofs.Names.{sym, lots_exact}
use Rattle.office_sums.proofs.found.Found.remember_lot.Goals as goal

pub returns : goal.returns
returns c t is h = record {
  lines = h.lines;
  tenderers = h.tenderers;
  notices = h.notices;
  lots = c.remember.ensures lots_exact t.lots (sym is) h.lots;
  awards = h.awards;
  contracts = h.contracts;
}
