-- The fates of tenders and securities, as accepted commands decide them.
use Rattle.std.specs.Prelude.{◌≡◌, ℕ, zero, suc, ◌+◌, Bool, true, false, not, cond, ◌&&◌, List, [], ◌∷◌, map, Option, Some, None, length, nat_lt, option_map}
use Rattle.std.specs.Ordering.{nat_cmp}
use Rattle.std.specs.List.{list_any}
use Rattle.office_values.specs.Ids.{same_id}
use Rattle.office_base.specs.Tables.{same_number, Tables, envelope_key, seal_key, security_key, notice_at, envelope_at, seal_at, security_at, award_at, performance_at, envelopes_of_lot}
use Rattle.office_commands.specs.declared.tender.NamedSecurity.{NamedSecurity}
use Rattle.office_commands.specs.Callers.{tenderer_of}
use Rattle.office_commands.specs.declared.commands.Command.{Command}
use Rattle.office_commands.specs.declared.commands.Command.TheVariants.{Cancel, Open, Present, Modify, Withdraw, Award, Fail, Sign, End}
use Rattle.office_base.specs.Rows.{holds_of, IsInOrder}
use Rattle.office_base.specs.declared.records.NoticeRow.{NoticeRow}
use Rattle.office_base.specs.declared.records.EnvelopeRow.{EnvelopeRow}
use Rattle.office_base.specs.declared.records.SealRow.{SealRow}
use Rattle.office_base.specs.declared.records.SecurityRow.{SecurityRow}
use Rattle.office_base.specs.declared.records.AwardRow.{AwardRow}
use Rattle.office_base.specs.declared.records.EnvelopeState.TheVariants as envelope_states
use Rattle.office_base.specs.declared.records.EnvelopeState.{EnvelopeState}
use Rattle.office_base.specs.declared.records.SecurityState.TheVariants as security_states
use Rattle.office_base.specs.declared.records.SecurityState.{SecurityState}
use Rattle.office_base.specs.Transitions.{is_in_time}
use Rattle.award_core.specs.Rules.Award.{is_admissible}
use Rattle.office_commands.specs.declared.contract.How.{How}
use Rattle.office_commands.specs.declared.contract.How.TheVariants as hows
use Rattle.office_base.specs.declared.records.PerformanceRow.{PerformanceRow}
use Rattle.office_machine.specs.Machine.{Given, Means, Reaches, time_of}

-- A tender, as it came in with a receipt. `named` is the security that was named with it; `security` is the number of the security that it carries.
pub record Reception : Type 0 where
  pub notice : List ℕ
  pub lot : List ℕ
  pub tenderer : List ℕ
  pub moment : ℕ
  pub bytes : List ℕ
  pub in_time : Bool
  pub named : Option NamedSecurity
  pub security : Option ℕ

-- A tender that is submitted. A security that is named with it has the number of its receipt.
abbrev pub presented : Given → List ℕ → List ℕ → Option NamedSecurity → List ℕ → Reception
presented x notice lot security bytes = record {
  notice = notice;
  lot = lot;
  tenderer = tenderer_of x.caller;
  moment = time_of x;
  bytes = bytes;
  in_time = holds_of (is_in_time (time_of x)) (notice_at notice x.before);
  named = security;
  security = option_map (λ (named : NamedSecurity). x.before.clock.receipts + 1) security;
}

-- A tender that replaces another one carries the security of that one.
abbrev pub reception_replacing : Given → List ℕ → Reception → Reception
reception_replacing x bytes old = record old { moment = time_of x; bytes = bytes; in_time = true; named = None }

-- The tender that a command takes in, if any. `earlier` gives the tenders that came in before.
abbrev pub received_by : Command → Given → (ℕ → Option Reception) → Option Reception
received_by (Present notice lot security bytes) x earlier = Some (presented x notice lot security bytes)
received_by (Modify receipt bytes) x earlier = option_map (reception_replacing x bytes) (earlier receipt)
received_by _ x earlier = None

-- The tender of a receipt after a command: the earlier one if there is one, else the new one.
abbrev pub received_after : Option Reception → Option Reception → Option Reception
received_after None new = new
received_after (Some old) new = Some old

-- The tender that came in with a receipt, if any. An accepted command takes its tender in under the next number.
abbrev pub received_at : List Given → ℕ → Option Reception
received_at [] r = None
received_at (x ∷ xs) r = received_after (received_at xs r) (cond (same_number r (x.before.clock.receipts + 1)) (received_by x.command x (λ q. received_at xs q)) None)

-- A tender came in, and it is for this notice.
abbrev pub is_of_notice : List ℕ → Option Reception → Bool
is_of_notice notice None = false
is_of_notice notice (Some c) = same_id c.notice notice

-- A tender came in, and it is for this lot.
abbrev pub is_received_for : List ℕ → List ℕ → Option Reception → Bool
is_received_for notice lot None = false
is_received_for notice lot (Some c) = same_id c.notice notice && same_id c.lot lot

-- The moment is before the deadline of the notice.
abbrev pub is_before_deadline : ℕ → NoticeRow → Bool
is_before_deadline t n = nat_lt t n.deadline

-- A tender came in, and the command is given before the deadline of its notice.
abbrev pub is_effective : Given → Option Reception → Bool
is_effective x None = false
is_effective x (Some c) = holds_of (is_before_deadline (time_of x)) (notice_at c.notice x.before)

-- There is a number, and it is this one.
abbrev pub has_number : ℕ → Option ℕ → Bool
has_number s None = false
has_number s (Some n) = same_number s n

-- A tender came in, and it carries the security with this number.
abbrev pub carries : ℕ → Option Reception → Bool
carries s None = false
carries s (Some c) = has_number s c.security

-- The fate of a tender.

-- A tender that comes in time is sealed first; a late one is returned at once.
abbrev pub first_state : Reception → EnvelopeState
first_state c = cond c.in_time envelope_states.Sealed envelope_states.Returned

-- The state that a command gives to a sealed tender; `Sealed` if it decides nothing.
abbrev pub tender_decided : Command → Given → (ℕ → Option Reception) → ℕ → EnvelopeState
tender_decided (Modify receipt bytes) x earlier r = cond (same_number r receipt) envelope_states.Withdrawn envelope_states.Sealed
tender_decided (Withdraw receipt) x earlier r = cond (same_number r receipt && is_effective x (earlier r)) envelope_states.Withdrawn envelope_states.Sealed
tender_decided (Open notice) x earlier r = cond (is_of_notice notice (earlier r)) envelope_states.Opened envelope_states.Sealed
tender_decided (Cancel notice rationale) x earlier r = cond (is_of_notice notice (earlier r)) envelope_states.Returned envelope_states.Sealed
tender_decided _ x earlier r = envelope_states.Sealed

-- The fate begins when the tender comes in, and the first command that decides it is final.
abbrev pub fate_after : Option EnvelopeState → Option Reception → EnvelopeState → Option EnvelopeState
fate_after None now decided = option_map first_state now
fate_after (Some envelope_states.Sealed) now decided = Some decided
fate_after (Some envelope_states.Withdrawn) now decided = Some envelope_states.Withdrawn
fate_after (Some envelope_states.Returned) now decided = Some envelope_states.Returned
fate_after (Some envelope_states.Opened) now decided = Some envelope_states.Opened

-- The fate of the tender with a receipt; none if no tender came in with it.
abbrev pub fate_of_tender : List Given → ℕ → Option EnvelopeState
fate_of_tender [] r = None
fate_of_tender (x ∷ xs) r = fate_after (fate_of_tender xs r) (received_at (x ∷ xs) r) (tender_decided x.command x (received_at xs) r)

-- The fate of a security.

-- A security is held first; that of a late tender is returned at once.
abbrev pub first_security : Reception → NamedSecurity → SecurityState
first_security c named = cond c.in_time security_states.Held security_states.Returned

-- The first state of the security that was named with a tender, if one was.
abbrev pub security_received : Option Reception → Option SecurityState
security_received None = None
security_received (Some c) = option_map (first_security c) c.named

-- No tender of the lot is admissible when the command is given.
abbrev pub is_for_nobody : Given → List ℕ → List ℕ → Bool
is_for_nobody x notice lot = not (list_any is_admissible (envelopes_of_lot notice lot x.before))

-- A tender came in, and it is for the lot of the award.
abbrev pub is_of_award : Option AwardRow → Option Reception → Bool
is_of_award None c = false
is_of_award (Some w) c = is_received_for w.notice w.lot c

-- The tender of the award carries this security.
abbrev pub is_award_security : ℕ → (ℕ → Option Reception) → Option AwardRow → Bool
is_award_security s earlier None = false
is_award_security s earlier (Some w) = carries s (earlier w.receipt)

-- A withdrawal before the deadline returns the security; a later one forfeits it.
abbrev pub withdrawn_security : Given → Option Reception → SecurityState
withdrawn_security x c = cond (is_effective x c) security_states.Returned security_states.Forfeited

-- The state that a command gives to a held security; `Held` if it decides nothing.
abbrev pub security_decided : Command → Given → (ℕ → Option Reception) → ℕ → SecurityState
security_decided (Withdraw receipt) x earlier s = cond (carries s (earlier receipt)) (withdrawn_security x (earlier receipt)) security_states.Held
security_decided (Cancel notice rationale) x earlier s = cond (is_of_notice notice (earlier s)) security_states.Returned security_states.Held
security_decided (Award notice lot) x earlier s = cond (is_received_for notice lot (earlier s) && is_for_nobody x notice lot) security_states.Returned security_states.Held
security_decided (Sign award named) x earlier s = cond (is_of_award (award_at award x.before) (earlier s)) security_states.Returned security_states.Held
security_decided (Fail award) x earlier s = cond (is_award_security s earlier (award_at award x.before)) security_states.Forfeited security_states.Held
security_decided _ x earlier s = security_states.Held

-- The fate begins when the security is named with a tender, and the first command that decides it is final.
abbrev pub security_after : Option SecurityState → Option Reception → SecurityState → Option SecurityState
security_after None now decided = security_received now
security_after (Some security_states.Held) now decided = Some decided
security_after (Some security_states.Returned) now decided = Some security_states.Returned
security_after (Some security_states.Forfeited) now decided = Some security_states.Forfeited

-- The fate of the security with a number; none if no such security was named.
abbrev pub fate_of_security : List Given → ℕ → Option SecurityState
fate_of_security [] s = None
fate_of_security (x ∷ xs) s = security_after (fate_of_security xs s) (received_at (x ∷ xs) s) (security_decided x.command x (received_at xs) s)

-- The fate of a performance security.

-- The performance security that a command names for a contract. Only a signing names one.
abbrev pub named_for : Command → ℕ → Option NamedSecurity
named_for (Sign award named) c = cond (same_number c award) named None
named_for _ c = None

-- The performance security of a contract after a command: the earlier one if there is one, else the new one.
abbrev pub named_after : Option NamedSecurity → Option NamedSecurity → Option NamedSecurity
named_after None new = new
named_after (Some old) new = Some old

-- The performance security that was named at the signing of a contract, if one was.
abbrev pub performance_named : List Given → ℕ → Option NamedSecurity
performance_named [] c = None
performance_named (x ∷ xs) c = named_after (performance_named xs c) (named_for x.command c)

-- A regular end returns the performance security; a default forfeits it.
abbrev pub ended_fate : How → SecurityState
ended_fate hows.Regular = security_states.Returned
ended_fate hows.ForDefault = security_states.Forfeited

-- The state that a command gives to a held performance security; `Held` if it decides nothing.
abbrev pub performance_decided : Command → ℕ → SecurityState
performance_decided (End contract how) c = cond (same_number c contract) (ended_fate how) security_states.Held
performance_decided _ c = security_states.Held

-- The performance security is held from the signing on, and the first end of the contract decides its fate.
abbrev pub performance_after : Option SecurityState → Option NamedSecurity → SecurityState → Option SecurityState
performance_after None named decided = option_map (λ (n : NamedSecurity). security_states.Held) named
performance_after (Some security_states.Held) named decided = Some decided
performance_after (Some security_states.Returned) named decided = Some security_states.Returned
performance_after (Some security_states.Forfeited) named decided = Some security_states.Forfeited

-- The fate of a contract's performance security; none if none was named.
abbrev pub fate_of_performance : List Given → ℕ → Option SecurityState
fate_of_performance [] c = None
fate_of_performance (x ∷ xs) c = performance_after (fate_of_performance xs c) (performance_named (x ∷ xs) c) (performance_decided x.command c)

-- The tables after accepted commands.

-- The bytes of a tender in this state are kept.
abbrev pub is_kept : EnvelopeState → Bool
is_kept envelope_states.Sealed = true
is_kept envelope_states.Withdrawn = false
is_kept envelope_states.Returned = false
is_kept envelope_states.Opened = true

-- The envelope is that of the tender that came in with the receipt, with its moment (Model Law, article 40), and its state is the fate. The seal has the bytes
-- while they are kept, and else it doesn't exist.
pub record EnvelopeIs (digest : List ℕ → List ℕ) (r : ℕ) (c : Reception) (fate : Option EnvelopeState) (e : EnvelopeRow) (seal : Option SealRow) : Type 0 where
  pub of_notice : e.notice ≡ c.notice
  pub of_lot : e.lot ≡ c.lot
  pub of_tenderer : e.tenderer ≡ c.tenderer
  pub moment_is : e.moment ≡ c.moment
  pub security_is : e.security ≡ c.security
  pub length_is : e.length ≡ length c.bytes
  pub digest_is : e.digest ≡ digest c.bytes
  pub fate_is : fate ≡ Some e.state
  pub seal_is : seal ≡ cond (is_kept e.state) (Some (record { receipt = r; bytes = c.bytes })) None

-- The row is that of the security that was named with the receipt, and its state is the fate.
pub record SecurityIs (s : ℕ) (c : Reception) (named : NamedSecurity) (fate : Option SecurityState) (w : SecurityRow) : Type 0 where
  pub number_is : w.security ≡ s
  pub of_notice : w.notice ≡ c.notice
  pub of_lot : w.lot ≡ c.lot
  pub of_tenderer : w.tenderer ≡ c.tenderer
  pub reference_is : w.reference ≡ named.reference
  pub amount_is : w.amount ≡ named.amount
  pub fate_is : fate ≡ Some w.state

-- If a tender came in with the receipt, it has an envelope and a seal as its fate says. Else it has neither.
abbrev pub TenderIs : (List ℕ → List ℕ) → ℕ → Option Reception → Option EnvelopeState → Option EnvelopeRow → Option SealRow → Type 0
TenderIs digest r None fate None seal = (fate ≡ None) × (seal ≡ None)
TenderIs digest r None fate (Some e) seal = ⊥
TenderIs digest r (Some c) fate None seal = ⊥
TenderIs digest r (Some c) fate (Some e) seal = EnvelopeIs digest r c fate e seal

-- If a security was named with the tender, it has a row as its fate says. Else it has none.
abbrev pub NamedIs : ℕ → Reception → Option NamedSecurity → Option SecurityState → Option SecurityRow → Type 0
NamedIs s c None fate None = fate ≡ None
NamedIs s c None fate (Some w) = ⊥
NamedIs s c (Some named) fate None = ⊥
NamedIs s c (Some named) fate (Some w) = SecurityIs s c named fate w

-- A security has a row exactly if a tender came in with its number and named it, and the row is as its fate says.
abbrev pub HasFate : ℕ → Option Reception → Option SecurityState → Option SecurityRow → Type 0
HasFate s None fate None = fate ≡ None
HasFate s None fate (Some w) = ⊥
HasFate s (Some c) fate row = NamedIs s c c.named fate row

-- Numbers in sequence: the first one, and how many there are.
abbrev pub numbers : ℕ → ℕ → List ℕ
numbers from zero = []
numbers from (suc n) = from ∷ numbers (from + 1) n

-- Each receipt that was given out has one envelope, and there are no others. Each envelope and its seal are those of the tender that came in, in the state of
-- its fate.
pub record TendersHaveFates (means : Means) (xs : List Given) (t : Tables) : Type 0 where
  pub numbered : map envelope_key t.envelopes ≡ numbers 1 t.clock.receipts
  pub each : (r : ℕ) → TenderIs means.readings.digest r (received_at xs r) (fate_of_tender xs r) (envelope_at r t) (seal_at r t)
  pub seals_in_order : IsInOrder nat_cmp seal_key t.seals

-- The securities are those that were named with accepted tenders, each in the state of its fate.
pub record SecuritiesHaveFates (xs : List Given) (t : Tables) : Type 0 where
  pub each : (s : ℕ) → HasFate s (received_at xs s) (fate_of_security xs s) (security_at s t)
  pub in_order : IsInOrder nat_cmp security_key t.securities

-- The row is that of the performance security that was named at the signing, and its state is the fate.
pub record PerformanceIs (c : ℕ) (named : NamedSecurity) (fate : Option SecurityState) (w : PerformanceRow) : Type 0 where
  pub contract_is : w.contract ≡ c
  pub reference_is : w.reference ≡ named.reference
  pub amount_is : w.amount ≡ named.amount
  pub fate_is : fate ≡ Some w.state

-- If a performance security was named, it has a row as its fate says. Else it has none.
abbrev pub HasPerformance : ℕ → Option NamedSecurity → Option SecurityState → Option PerformanceRow → Type 0
HasPerformance c None fate None = fate ≡ None
HasPerformance c None fate (Some w) = ⊥
HasPerformance c (Some named) fate None = ⊥
HasPerformance c (Some named) fate (Some w) = PerformanceIs c named fate w

-- The performance securities are those that were named at accepted signings, each in the state of its fate.
abbrev pub PerformancesHaveFates : List Given → Tables → Type 0
PerformancesHaveFates xs t = (c : ℕ) → HasPerformance c (performance_named xs c) (fate_of_performance xs c) (performance_at c t)

-- The law: this is true of the performance securities of every reached office.
abbrev pub PerformancesAreKept : Type 0
PerformancesAreKept = (means : Means) (xs : List Given) (t : Tables) → Reaches means xs t → PerformancesHaveFates xs t

-- The law: this is true of the tenders of every reached office.
abbrev pub TendersAreKept : Type 0
TendersAreKept = (means : Means) (xs : List Given) (t : Tables) → Reaches means xs t → TendersHaveFates means xs t

-- The law: this is true of the securities of every reached office.
abbrev pub SecuritiesAreKept : Type 0
SecuritiesAreKept = (means : Means) (xs : List Given) (t : Tables) → Reaches means xs t → SecuritiesHaveFates xs t
