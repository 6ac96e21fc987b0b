-- In every reached office, each row that another row refers to exists.
use Rattle.std.specs.Prelude.{◌≡◌, ℕ, ◌<◌, List, Some, IsSome}
use Rattle.office_base.specs.declared.records.NoticeRow.{NoticeRow}
use Rattle.office_base.specs.declared.records.LotRow.{LotRow}
use Rattle.office_base.specs.declared.records.EnvelopeRow.{EnvelopeRow}
use Rattle.office_base.specs.declared.records.SecurityRow.{SecurityRow}
use Rattle.office_base.specs.declared.records.AwardRow.{AwardRow}
use Rattle.office_base.specs.declared.records.ContractRow.{ContractRow}
use Rattle.office_base.specs.declared.records.EntryRow.{EntryRow}
use Rattle.office_base.specs.declared.records.ReleaseRow.{ReleaseRow}
use Rattle.office_base.specs.declared.records.CompiledRow.{CompiledRow}
use Rattle.office_base.specs.declared.records.LateRow.{LateRow}
use Rattle.office_base.specs.declared.records.PerformanceRow.{PerformanceRow}
use Rattle.office_base.specs.Tables.{Tables, line_at, tenderer_at, notice_at, lot_at, envelope_at, security_at, award_at, contract_at, entry_at, release_at, compiled_at, late_at, performance_at}
use Rattle.office_machine.specs.Machine.{Means, Given, Reaches}

-- The notice and the budget line of a lot exist.
pub record LotHas (t : Tables) (l : LotRow) : Type 0 where
  pub notice : IsSome (notice_at l.notice t)
  pub line : IsSome (line_at l.line t)

-- The notice, the lot and the tenderer of an envelope exist, and so does the security that it carries, if any.
pub record EnvelopeHas (t : Tables) (e : EnvelopeRow) : Type 0 where
  pub notice : IsSome (notice_at e.notice t)
  pub lot : IsSome (lot_at (e.notice, e.lot) t)
  pub tenderer : IsSome (tenderer_at e.tenderer t)
  pub security : (n : ℕ) → e.security ≡ Some n → IsSome (security_at n t)

-- The notice, the lot and the tenderer of a security exist.
pub record SecurityHas (t : Tables) (s : SecurityRow) : Type 0 where
  pub notice : IsSome (notice_at s.notice t)
  pub lot : IsSome (lot_at (s.notice, s.lot) t)
  pub tenderer : IsSome (tenderer_at s.tenderer t)

-- The notice, the lot and the envelope of an award exist.
pub record AwardHas (t : Tables) (a : AwardRow) : Type 0 where
  pub notice : IsSome (notice_at a.notice t)
  pub lot : IsSome (lot_at (a.notice, a.lot) t)
  pub envelope : IsSome (envelope_at a.receipt t)

-- The notice, the lot and the tenderer of a contract exist.
pub record ContractHas (t : Tables) (c : ContractRow) : Type 0 where
  pub notice : IsSome (notice_at c.notice t)
  pub lot : IsSome (lot_at (c.notice, c.lot) t)
  pub tenderer : IsSome (tenderer_at c.tenderer t)

-- The contract of an entry exists.
pub record EntryHas (t : Tables) (e : EntryRow) : Type 0 where
  pub contract : IsSome (contract_at e.contract t)

-- The contract of a performance security exists.
pub record PerformanceHas (t : Tables) (w : PerformanceRow) : Type 0 where
  pub contract : IsSome (contract_at w.contract t)

-- The notice of a release exists.
pub record ReleaseHas (t : Tables) (r : ReleaseRow) : Type 0 where
  pub notice : IsSome (notice_at r.notice t)

-- The notice of a merge of releases exists.
pub record MergeHas (t : Tables) (r : CompiledRow) : Type 0 where
  pub notice : IsSome (notice_at r.notice t)

-- The notice of a rule on late withdrawals exists.
pub record LateHas (t : Tables) (r : LateRow) : Type 0 where
  pub notice : IsSome (notice_at r.notice t)

-- The rows that the rows of `t` refer to exist in `u`.
pub record HaveParents (u t : Tables) : Type 0 where
  pub lots : (key : List ℕ × List ℕ) (l : LotRow) → lot_at key t ≡ Some l → LotHas u l
  pub envelopes : (n : ℕ) (e : EnvelopeRow) → envelope_at n t ≡ Some e → EnvelopeHas u e
  pub securities : (n : ℕ) (s : SecurityRow) → security_at n t ≡ Some s → SecurityHas u s
  pub awards : (n : ℕ) (a : AwardRow) → award_at n t ≡ Some a → AwardHas u a
  pub contracts : (n : ℕ) (c : ContractRow) → contract_at n t ≡ Some c → ContractHas u c
  pub entries : (key : ℕ × List ℕ) (e : EntryRow) → entry_at key t ≡ Some e → EntryHas u e
  pub performances : (n : ℕ) (w : PerformanceRow) → performance_at n t ≡ Some w → PerformanceHas u w
  pub releases : (key : List ℕ × ℕ) (r : ReleaseRow) → release_at key t ≡ Some r → ReleaseHas u r
  pub merges : (key : List ℕ) (r : CompiledRow) → compiled_at key t ≡ Some r → MergeHas u r
  pub late_rules : (key : List ℕ) (r : LateRow) → late_at key t ≡ Some r → LateHas u r

-- The law: in every reached office, the rows that its rows refer to exist.
abbrev pub ParentsAreThere : Type 0
ParentsAreThere = (means : Means) (xs : List Given) (t : Tables) → Reaches means xs t → HaveParents t t

-- Each contract whose notice asks for a performance security has one.
abbrev pub HavePerformances : Tables → Type 0
HavePerformances t = (number : ℕ) (c : ContractRow) (n : NoticeRow) → contract_at number t ≡ Some c → notice_at c.notice t ≡ Some n → 0 < n.performance
    → IsSome (performance_at number t)

-- The law: this is true of every reached office.
abbrev pub PerformancesAreThere : Type 0
PerformancesAreThere = (means : Means) (xs : List Given) (t : Tables) → Reaches means xs t → HavePerformances t
