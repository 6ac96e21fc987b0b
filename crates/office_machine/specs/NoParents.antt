-- Over any tables: an accepted command that misses no row makes no missing parent of a row, and replaces no row of another owner.
use Rattle.std.specs.Prelude.{◌≡◌, ℕ, true, false, List, None, Some, IsSome}
use Rattle.office_base.specs.Tables.{Tables, IsSorted, award_at, contract_at, entry_at, envelope_at, lot_at, performance_at, seal_at, security_at, tenderer_at}
use Rattle.office_base.specs.declared.records.AwardRow.{AwardRow}
use Rattle.office_base.specs.declared.records.ContractRow.{ContractRow}
use Rattle.office_base.specs.declared.records.EntryRow.{EntryRow}
use Rattle.office_base.specs.declared.records.EnvelopeRow.{EnvelopeRow}
use Rattle.office_base.specs.declared.records.LotRow.{LotRow}
use Rattle.office_base.specs.declared.records.PerformanceRow.{PerformanceRow}
use Rattle.office_base.specs.declared.records.SealRow.{SealRow}
use Rattle.office_base.specs.declared.records.SecurityRow.{SecurityRow}
use Rattle.office_machine.specs.Lacking.{is_lacking}
use Rattle.office_machine.specs.Machine.{Given, Means, next, refusal_of}
use Rattle.office_machine.specs.Parents.{HaveParents}
use Rattle.office_machine.specs.References.{Parent, is_named, is_there}

-- A row of `t` whose parent is missing has none in `u` either.
abbrev pub OrphansStay : Tables → Tables → Type 0
OrphansStay t u = (parent : Parent) → is_named parent t ≡ true → is_there parent t ≡ false → is_there parent u ≡ false

-- Two rows with one key belong to the same rows.
abbrev pub LotsAgree : LotRow → LotRow → Type 0
LotsAgree a b = a.line ≡ b.line

abbrev pub EnvelopesAgree : EnvelopeRow → EnvelopeRow → Type 0
EnvelopesAgree a b = (a.notice ≡ b.notice) × (a.lot ≡ b.lot) × (a.tenderer ≡ b.tenderer) × (a.digest ≡ b.digest)

abbrev pub SecuritiesAgree : SecurityRow → SecurityRow → Type 0
SecuritiesAgree a b = (a.notice ≡ b.notice) × (a.lot ≡ b.lot) × (a.tenderer ≡ b.tenderer) × (a.reference ≡ b.reference) × (a.amount ≡ b.amount)

abbrev pub AwardsAgree : AwardRow → AwardRow → Type 0
AwardsAgree a b = (a.notice ≡ b.notice) × (a.lot ≡ b.lot) × (a.receipt ≡ b.receipt)

abbrev pub ContractsAgree : ContractRow → ContractRow → Type 0
ContractsAgree a b = (a.notice ≡ b.notice) × (a.lot ≡ b.lot) × (a.tenderer ≡ b.tenderer)

abbrev pub PerformancesAgree : PerformanceRow → PerformanceRow → Type 0
PerformancesAgree a b = (a.reference ≡ b.reference) × (a.amount ≡ b.amount)

-- A row of `t` that is in `u` belongs to the same rows there. A seal and an entry are the same there.
pub record OwnersStay (t u : Tables) : Type 0 where
  pub lots : (key : List ℕ × List ℕ) (a b : LotRow) → lot_at key t ≡ Some a → lot_at key u ≡ Some b → LotsAgree a b
  pub envelopes : (n : ℕ) (a b : EnvelopeRow) → envelope_at n t ≡ Some a → envelope_at n u ≡ Some b → EnvelopesAgree a b
  pub seals : (n : ℕ) (a b : SealRow) → seal_at n t ≡ Some a → seal_at n u ≡ Some b → a ≡ b
  pub securities : (n : ℕ) (a b : SecurityRow) → security_at n t ≡ Some a → security_at n u ≡ Some b → SecuritiesAgree a b
  pub awards : (n : ℕ) (a b : AwardRow) → award_at n t ≡ Some a → award_at n u ≡ Some b → AwardsAgree a b
  pub contracts : (n : ℕ) (a b : ContractRow) → contract_at n t ≡ Some a → contract_at n u ≡ Some b → ContractsAgree a b
  pub entries : (key : ℕ × List ℕ) (a b : EntryRow) → entry_at key t ≡ Some a → entry_at key u ≡ Some b → a ≡ b
  pub performances : (n : ℕ) (a b : PerformanceRow) → performance_at n t ≡ Some a → performance_at n u ≡ Some b → PerformancesAgree a b

-- The parents that neither a key nor an index finds from a row that is missing: tenderers, the tenders of awards and the securities of tenders.
pub record HaveOthers (t : Tables) : Type 0 where
  pub envelopes : (n : ℕ) (e : EnvelopeRow) → envelope_at n t ≡ Some e → IsSome (tenderer_at e.tenderer t) × ((m : ℕ) → e.security ≡ Some m → IsSome (security_at m t))
  pub securities : (n : ℕ) (s : SecurityRow) → security_at n t ≡ Some s → IsSome (tenderer_at s.tenderer t)
  pub awards : (n : ℕ) (a : AwardRow) → award_at n t ≡ Some a → IsSome (envelope_at a.receipt t)
  pub contracts : (n : ℕ) (c : ContractRow) → contract_at n t ≡ Some c → IsSome (tenderer_at c.tenderer t)

-- The law: no other kind is forgotten. If each parent that is named exists, and those do, all rows have their parents.
abbrev pub NoKindIsForgotten : Type 0
NoKindIsForgotten = (t : Tables) → ((parent : Parent) → is_named parent t ≡ true → is_there parent t ≡ true) → HaveOthers t → HaveParents t t

-- The laws, over any tables whose rows are in the order of their keys, as every store keeps them.
abbrev pub NoParentIsMade : Type 0
NoParentIsMade = (means : Means) (x : Given) → IsSorted x.before → refusal_of x ≡ None → is_lacking x ≡ false → OrphansStay x.before (next means x)

abbrev pub NoOwnerIsReplaced : Type 0
NoOwnerIsReplaced = (means : Means) (x : Given) → IsSorted x.before → refusal_of x ≡ None → is_lacking x ≡ false → OwnersStay x.before (next means x)
