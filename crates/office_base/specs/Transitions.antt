-- Tests and changes that the rules of several commands share.
use Rattle.std.specs.Prelude.{ℕ, ◌+◌, Bool, true, not, cond, ◌&&◌, List, [], ◌∷◌, map, filter, Option, Some, None, is_some, nat_le}
use Rattle.office_base.specs.Limits.{release_limit, receipt_limit, days}
use Rattle.office_base.specs.Rows.{holds_of}
use Rattle.office_base.specs.States.{is_held, is_opened}
use Rattle.office_base.specs.declared.records.SecurityState.TheVariants as security_states
use Rattle.office_base.specs.declared.records.NoticeRow.{NoticeRow}
use Rattle.office_base.specs.declared.records.EnvelopeRow.{EnvelopeRow}
use Rattle.office_base.specs.declared.records.SecurityState.{SecurityState}
use Rattle.office_base.specs.declared.records.SecurityRow.{SecurityRow}
use Rattle.office_base.specs.declared.records.LateRow.{LateRow}
use Rattle.office_base.specs.declared.records.PerformanceRow.{PerformanceRow}
use Rattle.office_base.specs.declared.records.ClockRow.{ClockRow}
use Rattle.office_base.specs.declared.puts.Put.TheVariants as puts
use Rattle.office_base.specs.declared.puts.Put.{Put}

-- the clock, set to the moment of a command
abbrev pub at_moment : ClockRow → ℕ → ClockRow
at_moment clock t = record clock { moment = t }

-- the change that sets the clock to the moment of a command
abbrev pub clock_put : ClockRow → ℕ → Put
clock_put clock t = puts.Clock (at_moment clock t)

-- the change that sets the clock and counts one more receipt
abbrev pub receipt_clock : ClockRow → ℕ → Put
receipt_clock clock t = puts.Clock (record clock { moment = t; receipts = clock.receipts + 1 })

-- the change that sets the clock and counts one more award
abbrev pub award_clock : ClockRow → ℕ → Put
award_clock clock t = puts.Clock (record clock { moment = t; awards = clock.awards + 1 })

-- whether the office has given all its numbers of receipts
abbrev pub has_all_receipts : ClockRow → Bool
has_all_receipts clock = nat_le receipt_limit clock.receipts

-- the notice, with one more release
abbrev pub with_next_release : NoticeRow → NoticeRow
with_next_release n = record n { releases = n.releases + 1 }

-- whether the notice exists and has as many releases as it can have
abbrev pub has_all_releases : Option NoticeRow → Bool
has_all_releases notice = holds_of (λ (n : NoticeRow). nat_le release_limit n.releases) notice

-- whether a tender that comes now is in time (Model Law, article 40): not after the deadline, and before the opening
abbrev pub is_in_time : ℕ → NoticeRow → Bool
is_in_time t n = nat_le t n.deadline && not (is_opened n.state)

-- whether the deadline has come, so that it is too late to modify a tender or to withdraw it freely (article 41)
abbrev pub is_past_deadline : ℕ → NoticeRow → Bool
is_past_deadline t n = nat_le n.deadline t

-- whether the validity of the tenders has ended
abbrev pub is_expired : ℕ → NoticeRow → Bool
is_expired t n = nat_le (n.deadline + days n.validity) t

-- the security, returned to its tenderer
abbrev pub returned : SecurityRow → SecurityRow
returned s = record s { state = security_states.Returned }

-- the security in this final state if it was held; otherwise it stays as it is
abbrev pub settled : SecurityState → SecurityRow → SecurityRow
settled state s = record s { state = cond (is_held s.state) state s.state }

-- whether the row of the security that a tender names is missing
abbrev pub lacks_security : EnvelopeRow → Option SecurityRow → Bool
lacks_security e security = is_some e.security && not (is_some security)

-- the tender, marked so that it can't win any more
abbrev pub passed_over : EnvelopeRow → EnvelopeRow
passed_over e = record e { failed = true }

-- whether the deadline of the notice has come, and the notice allows withdrawals after it
abbrev pub is_late : Option LateRow → ℕ → Option NoticeRow → Bool
is_late late t notice = is_some late && holds_of (is_past_deadline t) notice

-- the change that returns a security
abbrev pub security_returned : SecurityRow → Put
security_returned s = puts.Security (returned s)

-- the change that gives a security this final state if it was held
abbrev pub security_settled : SecurityState → SecurityRow → Put
security_settled state s = puts.Security (settled state s)

-- the performance security in this final state if it was held; otherwise it stays as it is
abbrev pub settled_performance : SecurityState → PerformanceRow → PerformanceRow
settled_performance state w = record w { state = cond (is_held w.state) state w.state }

-- the change that gives a performance security this final state if it was held
abbrev pub performance_settled : SecurityState → PerformanceRow → Put
performance_settled state w = puts.Performance (settled_performance state w)

-- whether a security is held
abbrev pub is_held_security : SecurityRow → Bool
is_held_security s = is_held s.state

-- the changes that return those of these securities that are held
abbrev pub securities_returned : List SecurityRow → List Put
securities_returned securities = map security_returned (filter is_held_security securities)

-- the change for a row, or no change if the row doesn't exist
abbrev pub put_if : {X : Type 0} → (X → Put) → Option X → List Put
put_if make None = []
put_if make (Some x) = make x ∷ []

-- the changes for a row, or no changes if the row doesn't exist
abbrev pub puts_if : {X : Type 0} → (X → List Put) → Option X → List Put
puts_if make None = []
puts_if make (Some x) = make x
