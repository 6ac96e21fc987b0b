use Rattle.office_http.proofs.Joining.{five_in_new, put_as}
use Rattle.office_http.proofs.response.response.Goals as goal

pub returns : goal.returns
returns c =
    five_in_new _ _ _ _ _ _ _ _ _ _ _
    c.in_ok-out.ensures.items
    c.in_ok-put_head.ensures
    (put_as _ _ _ _ c.in_ok-extend_from_slice.ensures.items c.as_bytes.ensures.value)
    (put_as _ _ _ _ c.in_ok-extend_from_slice-2.ensures.items c.as_bytes-2.ensures.value)
    c.in_ok-extend_from_slice-3.ensures.items
    c.in_ok-extend_from_slice-4.ensures.items
