-- The rule of a command, and the parts that rules share.
use Rattle.std.specs.Prelude.{ℕ, Bool, ◌&&◌, List, [], map, filter, Option, Some, None, is_some, option_map}
use Rattle.std.specs.Option.{option_map_or}
use Rattle.office_commands.specs.declared.command.Caller.{Caller}
use Rattle.office_values.specs.declared.refusal.Refusal.{Refusal}
use Rattle.office_base.specs.declared.records.LotRow.{LotRow}
use Rattle.office_base.specs.declared.records.EnvelopeRow.{EnvelopeRow}
use Rattle.office_base.specs.declared.records.SealRow.{SealRow}
use Rattle.office_base.specs.Tables.{Tables, find_award, find_contract, lot_at, seal_at, envelopes_of_notice}
use Rattle.office_base.specs.declared.puts.Put.{Put}
use Rattle.tender_core.specs.Rules.Open.{SealedTender, is_sealed_envelope}
use Rattle.office_base.specs.declared.records.AwardRow.{AwardRow}
use Rattle.office_base.specs.declared.records.ContractRow.{ContractRow}
use Rattle.office_machine.specs.Readings.{Readings}
use Rattle.office_machine.specs.Replies.{Reply}

-- How a command determines the notice of its release: it publishes none, names the notice, or names an award or a contract of it.
pub data Source : Type 0 where
  Silent : Source
  UnderNotice : List ℕ → Source
  UnderAward : ℕ → Source
  UnderContract : ℕ → Source

-- That notice. None if the command publishes no release, or if the award or the contract doesn't exist.
abbrev pub notice_of : Source → List AwardRow → List ContractRow → Option (List ℕ)
notice_of Silent awards contracts = None
notice_of (UnderNotice notice) awards contracts = Some notice
notice_of (UnderAward award) awards contracts = option_map (λ (a : AwardRow). a.notice) (find_award awards award)
notice_of (UnderContract contract) awards contracts = option_map (λ (c : ContractRow). c.notice) (find_contract contracts contract)

-- The rule of a command: its refusals, its changes, its release and its reply.
pub record Rule : Type 0 where
  -- The conditions of its refusals, in their order.
  pub tests : Tables → ℕ → Caller → List (Bool × Refusal)
  -- Whether rows are missing that the command needs. In a reached office none are, unless the command is refused.
  pub lacks : Tables → Bool
  -- The changes that it makes if it is accepted, without its release.
  pub puts : Readings → Tables → ℕ → Caller → List Put
  -- The notice for which it publishes a release.
  pub publishes : Source
  -- The reply if it is accepted, from the office before it and the office after it.
  pub reply : Readings → Tables → Tables → ℕ → Caller → Reply

-- The seal of a tender exists, and its lot.
abbrev pub has_seal_and_lot : Tables → EnvelopeRow → Bool
has_seal_and_lot s e = is_some (seal_at e.receipt s) && is_some (lot_at (e.notice, e.lot) s)

-- The tenders of a notice that are still sealed, which alone are opened.
abbrev pub sealed_of_notice : List ℕ → Tables → List EnvelopeRow
sealed_of_notice notice s = filter is_sealed_envelope (envelopes_of_notice notice s)

-- A sealed tender with its bytes and the items of its lot; none if the seal or the lot doesn't exist.
abbrev pub sealed_tender : Tables → EnvelopeRow → SealedTender
sealed_tender s e = record {
  envelope = e;
  bytes = option_map_or (λ (seal : SealRow). seal.bytes) (seal_at e.receipt s) [];
  items = option_map_or (λ (lot : LotRow). lot.items) (lot_at (e.notice, e.lot) s) [];
}

-- The sealed tenders of a notice.
abbrev pub sealed_tenders : List ℕ → Tables → List SealedTender
sealed_tenders notice s = map (sealed_tender s) (sealed_of_notice notice s)
