use Rattle.procure_config.proofs.Names.{inl, inr}
use Rattle.procure_config.proofs.Documents.{in_document, no_document, read_settings, read_fault}
use Rattle.procure_config.proofs.settings.read_settings.Goals as goal

pub returns-in-Ok-clause-settings : goal.returns-in-Ok-clause-settings
returns-in-Ok-clause-settings c =
    let ok = c.in-Ok.ensures.ok in
    read_settings _ _ (in_document _ _ ok.0 ok.1) c.settings_of.result c.settings_of.ensures

pub returns-in-Ok-clause-fault : goal.returns-in-Ok-clause-fault
returns-in-Ok-clause-fault c =
    let ok = c.in-Ok.ensures.ok in
    read_fault _ _ (in_document _ _ ok.0 ok.1) c.settings_of.result c.settings_of.ensures

pub returns-in-Err-clause-fault : goal.returns-in-Err-clause-fault
returns-in-Err-clause-fault c = elim c.document_fault.ensures [
  | inl memory ↦ inl memory
  | inr (text, known) ↦ inr (rw text (no_document _ (c.in-Err.ensures.refused known)))
]
