-- Worked examples of amending: the deadline of a notice moves.
use Rattle.std.specs.Prelude.{◌++◌, ◌+◌, ◌-◌, ◌∷◌, ◌≡◌, None, Some, [], codes, map, ℕ}
use Rattle.office_commands.specs.declared.commands.Command.TheVariants.{AmendNotice, Cancel, Open}
use Rattle.office_values.specs.declared.refusal.Refusal.TheVariants.{DeadlineEarlier, DeadlinePassed, LimitReached, NoSuch, NotOpenForTenders, TooEarlyToOpen}
use Rattle.office_values.specs.declared.refusal.Thing.TheVariants as things
use Rattle.office_base.specs.Tables.{Tables}
use Rattle.office_base.specs.declared.records.EnvelopeState.TheVariants as envelope
use Rattle.office_base.specs.declared.records.NoticeRow.{NoticeRow}
use Rattle.office_machine.specs.Replies.{OfNotice, Refused}
use Rattle.office_machine.specs.Requests.{Request}
use Rattle.office_machine.specs.Worked.Office.{by_clerk, deadline, february, money, n1, next_day, office, presents, refused, road_repair, setup, states_of_tenders, t1, replies, replies_in}

-- The deadline of the notice is moved to `due`.
abbrev pub amend : ℕ → ℕ → Request
amend moment due = by_clerk moment (AmendNotice n1 due (codes "More time"))

-- The office, when the notice has so many amendments and releases.
abbrev pub counted : ℕ → ℕ → Tables
counted amendments releases =
    record (office setup) { notices = map (λ (n : NoticeRow). record n { amendments = amendments; releases = releases }) (office setup).notices }

pub record AmendingWorked : Type 0 where
  -- A deadline moves to a later moment.
  pub moves_later : replies setup (amend february next_day ∷ []) ≡ OfNotice n1 2 february ∷ []
  -- The notice has the new deadline, one amendment more and one release more.
  pub notice_is : (office (setup ++ amend february next_day ∷ [])).notices
      ≡ record road_repair { deadline = next_day; amendments = 1; releases = 2 } ∷ []
  -- The new deadline may equal the old one.
  pub stays : replies setup (amend february deadline ∷ []) ≡ OfNotice n1 2 february ∷ []
  -- A deadline doesn't move to an earlier moment, not even by a second.
  pub not_earlier : replies setup (amend february (deadline - 1) ∷ []) ≡ Refused DeadlineEarlier ∷ []
  -- A deadline can be moved up to the last second before it.
  pub at_last_second : replies setup (amend (deadline - 1) next_day ∷ []) ≡ OfNotice n1 2 (deadline - 1) ∷ []
  -- A deadline can't be moved at its own second.
  pub not_at_deadline : replies setup (amend deadline next_day ∷ []) ≡ Refused DeadlinePassed ∷ []
  -- After an amendment, a tender that would have been late is in time, and the opening waits for the new deadline.
  pub late_is_in_time : refused setup (amend february next_day ∷ presents t1 (deadline + 1) (codes "500") ∷ by_clerk deadline (Open n1) ∷ [])
      ≡ None ∷ None ∷ Some TooEarlyToOpen ∷ []
  -- That tender is sealed.
  pub tender_is_sealed : states_of_tenders (setup ++ amend february next_day ∷ presents t1 (deadline + 1) (codes "500") ∷ []) ≡ envelope.Sealed ∷ []
  -- A notice that doesn't exist can't be amended.
  pub no_such_notice : replies money (amend february next_day ∷ []) ≡ Refused (NoSuch things.Notice) ∷ []
  -- A cancelled notice can't be amended.
  pub not_once_cancelled : refused setup (by_clerk february (Cancel n1 (codes "Plans")) ∷ amend february next_day ∷ []) ≡ None ∷ Some NotOpenForTenders ∷ []
  -- A fiftieth amendment is published.
  pub fiftieth_amendment : replies_in (counted 49 50) (amend february next_day ∷ []) ≡ OfNotice n1 51 february ∷ []
  -- A fifty-first amendment is refused.
  pub amendments_are_bounded : replies_in (counted 50 51) (amend february next_day ∷ []) ≡ Refused LimitReached ∷ []
  -- An amendment that would be the ten-thousandth release is refused.
  pub releases_are_bounded : replies_in (counted 0 9999) (amend february next_day ∷ []) ≡ Refused LimitReached ∷ []
