-- The rule of a signing: an award becomes a contract (Model Law, article 22).
use Rattle.std.specs.Prelude.{◌≡◌, ℕ, Bool, true, false, not, ◌&&◌, ◌||◌, List, [], ◌∷◌, ◌++◌, Option, Some, None, is_some, nat_lt, nat_eq}
use Rattle.office_commands.specs.declared.tender.NamedSecurity.{NamedSecurity}
use Rattle.office_values.specs.declared.refusal.Thing.TheVariants as things
use Rattle.office_values.specs.declared.refusal.Refusal.{Refusal}
use Rattle.office_values.specs.declared.refusal.Refusal.TheVariants.{NoSuch, SecurityMissing, SecurityTooSmall, SecurityNotAsked}
use Rattle.office_base.specs.Rows.{holds_of}
use Rattle.office_base.specs.Transitions.{clock_put, has_all_releases, with_next_release, securities_returned, put_if, puts_if}
use Rattle.award_core.specs.Rules.Fail.{standing_tests}
use Rattle.office_base.specs.declared.records.LotState.TheVariants as lot_states
use Rattle.office_base.specs.declared.records.AwardState.TheVariants as award_states
use Rattle.office_base.specs.declared.records.NoticeRow.{NoticeRow}
use Rattle.office_base.specs.declared.records.LotRow.{LotRow}
use Rattle.office_base.specs.declared.records.EnvelopeRow.{EnvelopeRow}
use Rattle.office_base.specs.declared.records.SecurityRow.{SecurityRow}
use Rattle.office_base.specs.declared.records.AwardRow.{AwardRow}
use Rattle.office_base.specs.declared.records.ContractRow.{ContractRow}
use Rattle.office_base.specs.declared.records.PerformanceRow.{PerformanceRow}
use Rattle.office_base.specs.declared.records.SecurityState.TheVariants.{Held}
use Rattle.office_base.specs.declared.records.ClockRow.{ClockRow}
use Rattle.office_base.specs.declared.puts.Put.TheVariants as puts
use Rattle.office_base.specs.declared.puts.Put.{Put}
use Rattle.office_base.specs.Tables.{Tables, award_at}
use Rattle.office_base.specs.Parents.{notice_of_award, lot_of_award, envelope_of_award, securities_of_award}
use Rattle.award_core.specs.declared.sign.SignRows.{SignRows}

-- whether the notice requires a performance security, and none is named
abbrev pub is_missing : Option NamedSecurity → NoticeRow → Bool
is_missing named n = nat_lt 0 n.performance && not (is_some named)

-- whether the named performance security is less than the notice requires
abbrev pub performance_is_too_small : Option NamedSecurity → NoticeRow → Bool
performance_is_too_small named n = holds_of (λ (s : NamedSecurity). nat_lt s.amount n.performance) named

-- whether a performance security is named, and the notice requires none
abbrev pub isnt_asked : Option NamedSecurity → NoticeRow → Bool
isnt_asked named n = nat_eq n.performance 0 && is_some named

abbrev pub signed_award : AwardRow → AwardRow
signed_award a = record a { state = award_states.Signed }

-- the lot, contracted, with nothing reserved
abbrev pub contracted_lot : LotRow → LotRow
contracted_lot l = record l { state = lot_states.Contracted; reserved = 0 }

-- the tenderer of a tender; empty if the tender doesn't exist
abbrev pub tenderer_in : Option EnvelopeRow → List ℕ
tenderer_in None = []
tenderer_in (Some e) = e.tenderer

-- the contract of an award, which has the number and the price of the award
abbrev pub contract_row : ℕ → AwardRow → List ℕ → ContractRow
contract_row t a tenderer = record {
  contract = a.award;
  notice = a.notice;
  lot = a.lot;
  tenderer = tenderer;
  signed = a.price;
  moment = t;
  ended = None;
  how = None;
  released = 0;
}

-- the performance security of the contract, held
abbrev pub performance_made : AwardRow → NamedSecurity → PerformanceRow
performance_made a named = record { contract = a.award; reference = named.reference; amount = named.amount; state = Held }

abbrev pub performance_put : AwardRow → NamedSecurity → Put
performance_put a named = puts.Performance (performance_made a named)

-- the changes of the award, its lot, the contract, the notice and the clock, and those that return the tender securities of the lot
abbrev pub sign_parts : ClockRow → ℕ → AwardRow → NoticeRow → LotRow → Option EnvelopeRow → List SecurityRow → List Put
sign_parts clock t a n l envelope securities =
    puts.Award (signed_award a)
    ∷ puts.Lot (contracted_lot l)
    ∷ puts.Contract (contract_row t a (tenderer_in envelope))
    ∷ puts.Notice (with_next_release n)
    ∷ clock_put clock t
    ∷ securities_returned securities

-- the rows that a signing reads
abbrev pub sign_rows : Tables → ℕ → SignRows
sign_rows s award = record {
  award = award_at award s;
  notice = notice_of_award (award_at award s) s;
  lot = lot_of_award (award_at award s) s;
  envelope = envelope_of_award (award_at award s) s;
  securities = securities_of_award (award_at award s) s;
  clock = s.clock;
}

-- whether the award exists, but its notice, its lot or its tender is missing
abbrev pub sign_lacks : SignRows → Bool
sign_lacks rows = is_some rows.award && (not (is_some rows.notice) || not (is_some rows.lot) || not (is_some rows.envelope))

-- the conditions of its refusals, in order: the award doesn't exist, then those of the performance security, then those that it shares with the failing of an
-- award
abbrev pub sign_tests : SignRows → ℕ → Option NamedSecurity → List (Bool × Refusal)
sign_tests rows t named =
    (not (is_some rows.award), NoSuch things.Award)
    ∷ (holds_of (is_missing named) rows.notice, SecurityMissing)
    ∷ (holds_of (performance_is_too_small named) rows.notice, SecurityTooSmall)
    ∷ (holds_of (isnt_asked named) rows.notice, SecurityNotAsked)
    ∷ standing_tests t rows.award rows.notice

-- its changes: the award, its lot, the contract, the notice, the clock, the tender securities of the lot, and the named performance security
abbrev pub sign_puts : SignRows → ℕ → Option NamedSecurity → List Put
sign_puts rows t named =
    puts_if (λ (a : AwardRow). puts_if (λ (n : NoticeRow). puts_if (λ (l : LotRow).
    sign_parts rows.clock t a n l rows.envelope rows.securities ++ put_if (performance_put a) named
    ) rows.lot) rows.notice) rows.award

-- Why a signing of an award that exists has no changes: a row is missing, or the notice has as many releases as it can have.
abbrev pub CantSign : SignRows → Type 0
CantSign rows = is_some rows.award ≡ true → sign_lacks rows ≡ false → has_all_releases rows.notice ≡ true
