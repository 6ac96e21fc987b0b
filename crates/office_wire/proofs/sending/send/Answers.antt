use Rattle.office_wire.proofs.Names.{◌-◌, length, take, drop, arith, ◌∙◌, take_all, length-drop, err_from_is_err_and}
use Rattle.office_wire.proofs.SendLemmas.{appends_more, appends_keep, front, take_on}
use Rattle.office_wire.proofs.sending.send.Goals as goal

pub returns-in_err-at-clause-err : goal.returns-in_err-at-clause-err
returns-in_err-at-clause-err g c =
    let p = err_from_is_err_and c.from_residual.result c.from_residual.ensures.1 in
    rw p.1 (record {
      part = take c.parts.at c.args.bytes.now;
      front = front c.parts.at c.args.bytes.now;
      more = appends_keep _ _ _ (take c.parts.at c.args.bytes.now) c.parts.invariant.sent c.in_err-at.ensures.kept;
    })

pub parts-preserved : goal.parts-preserved
parts-preserved g c =
    let bytes = c.args.bytes.now in
    let at = c.parts.at in
    let n = c.in_ok-at.field-0 in
    let h = c.in_ok-at.ensures in
    let small = length-drop at bytes in
    let all = take_all (length bytes - at) (drop at bytes) (omega arith) in
    let more = rw all at h.taken in
    record {
      within = (let b = rw all at h.bound in omega (arith, b, c.parts.invariant.within));
      sent = rw (take_on bytes at n c.parts.invariant.within) (appends_more _ _ _ (take at bytes) (take n (drop at bytes)) c.parts.invariant.sent more);
      sound = h.sound ∙ c.parts.invariant.sound;
    }
