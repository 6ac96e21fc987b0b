use Rattle.office_wire.proofs.Names.{subst, length-take-le, take, FillKeeps, Consumes_shown}
use Rattle.office_wire.proofs.CountLemmas.{none_shown}
use Rattle.office_wire.proofs.counted.append_line.Goals as goal

pub returns-clause-part : goal.returns-clause-part
returns-clause-part g c =
    let shown = c.in-Ok.shown.now in
    let end = c.line_length-count in
    let rested = c.fill_buf.follows.lender-at-none in
    let filled = subst (FillKeeps _ (g.R.Read.remaining rested) (g.R.BufRead.consumable_len rested)) c.in-Ok.is c.fill_buf.follows.holds-at-none in
    let moved = Consumes_shown _ _ _ _ shown end.result end.ensures.within c.in-Ok.ensures.front c.in-Ok.ensures.end filled.0 filled.1 c.consume.ensures.bytes in
    record {
      part = take end.result shown;
      appended = c.in_ok-extend_from_slice.ensures.items;
      long = length-take-le end.result shown end.ensures.within;
      within = end.ensures.bound;
      line = end.ensures.line;
      taken = moved.0;
      ended = λ none room. moved.1 (none_shown _ _ (λ some. end.ensures.some some room) none);
    }
