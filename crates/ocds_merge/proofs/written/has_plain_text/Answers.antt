use Rattle.ocds_merge.proofs.Names.{ℕ, List, Option, sym, subst, ◌∙◌, IsTrue, is_some}
use Rattle.ocds_merge.proofs.ReadWritten.{member_read}
use Rattle.ocds_merge.proofs.written.has_plain_text.Goals as goal

pub returns-in-Ok : goal.returns-in-Ok
returns-in-Ok c is w =
    let there = member_read c.args.text.now c.args.name.now c.in-Ok._found.now (λ d rest kept ends whole. c.in-Ok.ensures d rest kept ends (c.as_bytes.ensures.value ∙ whole)) w in
    subst (λ (o : Option (List ℕ)). IsTrue (is_some o)) (sym there) is
