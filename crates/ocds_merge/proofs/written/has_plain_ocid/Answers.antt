use Rattle.ocds_merge.proofs.Names.{ℕ, List, Some, codes, sym, ap, ◌∙◌, bytes_eq-Decides}
use Rattle.ocds_merge.proofs.ReadWritten.{member_read}
use Rattle.ocds_merge.proofs.written.has_plain_ocid.Goals as goal

pub returns-in-Ok : goal.returns-in-Ok
returns-in-Ok c is w =
    let found : List ℕ = c.in-Ok.found.now in
    member_read c.args.text.now (codes "ocid") found (λ d rest kept ends whole. c.in-Ok.ensures d rest kept ends (c.as_bytes.ensures.value ∙ whole)) w
    ∙ ap Some ((bytes_eq-Decides found c.as_bytes-in-Ok.result.now).0 (sym c.eq.ensures ∙ is) ∙ c.as_bytes-in-Ok.ensures.value)
