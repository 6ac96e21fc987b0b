use Rattle.office_wire.proofs.Names.{◌≡◌, ◌<◌, ◌++◌, length, arith, false, HasNoRequest}
use Rattle.office_wire.proofs.HeadLemmas.{no_head_quiet}
use Rattle.office_wire.proofs.ReadLemmas.{reads_on}
use Rattle.office_wire.proofs.lines.HeadLines.read_on.Goals as goal

pub returns-clause-read : goal.returns-clause-read
returns-clause-read g c =
    let short : length c.self.inside.bytes.items < 8192 = rw c.self.view_is c.requires in
    let x = reads_on _ _ _ _ _ c.in_ok-count.count c.in_ok-count.ensures.part c.if-count-eq0.false (omega (arith, c.len-most.ensures)) short in
    rw (c.judge.ensures.same, ← c.self.view_is) x

pub returns-clause-no_head : goal.returns-clause-no_head
returns-clause-no_head g c said none =
    let no : c.judge.result ≡ false = cc said in
    let before : HasNoRequest c.self.inside.bytes.items = rw c.self.view_is none in
    let short : length c.self.inside.bytes.items < 8192 = rw c.self.view_is c.requires in
    let x = reads_on _ _ _ _ _ c.in_ok-count.count c.in_ok-count.ensures.part c.if-count-eq0.false (omega (arith, c.len-most.ensures)) short in
    let now = c.judge.ensures.no_head no (c.self.inside.bytes.items ++ x.front) x.last x.appended (no_head_quiet _ x.front x.quiet before) in
    rw c.judge.ensures.same now
