use Rattle.office_http.proofs.Names.{◌≡◌, ◌∙◌, length, codes, refl, head_start}
use Rattle.office_http.proofs.Joining.{around}
use Rattle.office_http.proofs.response.response_behind.Goals as goal

pub returns : goal.returns
returns c =
    let body = c.args.body.now in
    around (head_start 200 c.args.media.now) (codes "\r\nConnection: close\r\n\r\n") body c.in_ok-out.out.items c.in_ok-out.out.items
    c.extend_from_slice.new.self.items (length body) refl c.in_ok-out.ensures refl c.in_ok-extend_from_slice.ensures.items
