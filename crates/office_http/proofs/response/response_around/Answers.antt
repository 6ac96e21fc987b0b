use Rattle.office_http.proofs.Names.{◌≡◌, ◌∙◌, length, codes, rules, head_start}
use Rattle.office_http.proofs.Joining.{around}
use Rattle.office_http.proofs.response.response_around.Goals as goal

pub returns : goal.returns
returns c =
    let body = c.args.body in
    let long : c.len.result ≡ length body.items = c.len.ensures ∙ search (rules, body.ok) in
    around (head_start 200 c.args.media.now) (codes "\r\nConnection: close\r\n\r\n") body.items c.in_ok-head.head.items c.deref.result.now
    c.put_before.new.out.items c.len.result long c.in_ok-head.ensures c.deref.ensures.value c.in_ok-put_before.ensures
