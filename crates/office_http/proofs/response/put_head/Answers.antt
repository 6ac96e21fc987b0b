use Rattle.office_http.proofs.Names.{◌≡◌, ◌∙◌, decimal, phrase_of}
use Rattle.office_http.proofs.Joining.{eight_behind, put_as}
use Rattle.office_http.proofs.response.put_head.Goals as goal

pub returns : goal.returns
returns c =
    let status : c.as_bytes.result.now ≡ decimal c.args.status = c.as_bytes.ensures.value ∙ c.format.ensures.text in
    let phrase : c.as_bytes-2.result.now ≡ phrase_of c.args.status = c.as_bytes-2.ensures.value ∙ c.phrase.ensures in
    let media : c.as_bytes-3.result.now ≡ c.args.media.now = c.as_bytes-3.ensures.value in
    let size : c.as_bytes-4.result.now ≡ decimal c.args.length = c.as_bytes-4.ensures.value ∙ c.format-2.ensures.text in
    eight_behind _ _ _ _ _ _ _ _ _ _ _ _ _ _ _ _ _
    c.in_ok-extend_from_slice.ensures.items
    (put_as _ _ _ _ c.in_ok-extend_from_slice-2.ensures.items status)
    c.in_ok-extend_from_slice-3.ensures.items
    (put_as _ _ _ _ c.in_ok-extend_from_slice-4.ensures.items phrase)
    c.in_ok-extend_from_slice-5.ensures.items
    (put_as _ _ _ _ c.in_ok-extend_from_slice-6.ensures.items media)
    c.in_ok-extend_from_slice-7.ensures.items
    (put_as _ _ _ _ c.in_ok-extend_from_slice-8.ensures.items size)
