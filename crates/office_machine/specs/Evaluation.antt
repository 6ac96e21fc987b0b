-- The evaluation of a notice: what was found of each tender of a lot, and which awards were made (Model Law, articles 11, 25 and 43).
use Rattle.std.specs.Prelude.{ℕ, Bool, cond, not, ◌&&◌, ◌||◌, List, [], map, filter, Option, Some, None, nat_eq}
use Rattle.std.specs.List.{list_any}
use Rattle.office_values.specs.Ids.{same_id}
use Rattle.office_commands.specs.declared.command.Caller.{Caller}
use Rattle.office_commands.specs.Rights.{is_clerk}
use Rattle.office_values.specs.declared.refusal.Thing.TheVariants as things
use Rattle.office_values.specs.declared.refusal.Refusal.TheVariants.{NoSuch, NotOpened}
use Rattle.office_base.specs.States.{is_read, is_opened, is_undecided}
use Rattle.office_base.specs.declared.records.NoticeRow.{NoticeRow}
use Rattle.office_base.specs.declared.records.LotRow.{LotRow}
use Rattle.office_base.specs.declared.records.EnvelopeRow.{EnvelopeRow}
use Rattle.office_base.specs.declared.records.AwardRow.{AwardRow}
use Rattle.office_base.specs.Tables.{Tables, envelopes_of_lot}
use Rattle.award_core.specs.Rules.Award.{is_admissible, points}
use Rattle.award_core.specs.Best.{lowest_in}
use Rattle.office_machine.specs.Replies.{Reply, Refused, EvaluationSeen, EvaluatedTender, EvaluatedLot}

-- The points of an admissible tender, measured by the lowest price of the admissible ones. None if the price alone decides, or if the tender isn't admissible.
abbrev pub points_told : ℕ → ℕ → EnvelopeRow → Option ℕ
points_told weight lowest e = cond (not (nat_eq weight 0) && is_admissible e) (Some (points weight lowest e)) None

-- A tender, as the evaluation shows it.
abbrev pub evaluated_tender : ℕ → ℕ → EnvelopeRow → EvaluatedTender
evaluated_tender weight lowest e = record {
  receipt = e.receipt;
  tenderer = e.tenderer;
  reading = e.reading;
  responsive = e.responsive;
  quality = e.quality;
  points = points_told weight lowest e;
  admissible = is_admissible e;
  failed = e.failed;
}

-- The opened tenders of a lot, as the evaluation shows them.
abbrev pub evaluated_tenders : ℕ → List EnvelopeRow → List EvaluatedTender
evaluated_tenders weight envelopes = map (evaluated_tender weight (lowest_in envelopes)) (filter (λ (e : EnvelopeRow). is_read e.state) envelopes)

-- The award is for the lot with this identifier.
abbrev pub is_award_of : List ℕ → AwardRow → Bool
is_award_of lot a = same_id a.lot lot

-- The awards of a lot, selected from those of its notice.
abbrev pub awards_of_lot : List ℕ → List AwardRow → List AwardRow
awards_of_lot lot awards = filter (is_award_of lot) awards

-- The lot has an outcome: it isn't undecided, or it has an award.
abbrev pub has_outcome : List AwardRow → LotRow → Bool
has_outcome awards l = not (is_undecided l.state) || list_any (is_award_of l.lot) awards

-- A lot with these tenders and awards, as the evaluation shows it.
abbrev pub lot_told : List EvaluatedTender → List AwardRow → LotRow → EvaluatedLot
lot_told tenders awards l = record { lot = l.lot; state = l.state; tenders = tenders; awards = awards }

-- The clerk sees the tenders and awards of every lot. Others see those of lots that have an outcome: until then the findings are confidential (Model Law,
-- article 24).
abbrev pub evaluated_lot : Caller → ℕ → List AwardRow → Tables → LotRow → EvaluatedLot
evaluated_lot caller weight awards s l =
    cond (is_clerk caller || has_outcome awards l)
    (lot_told (evaluated_tenders weight (envelopes_of_lot l.notice l.lot s)) (awards_of_lot l.lot awards) l)
    (lot_told [] [] l)

-- The reply to a query for the evaluation. `NoSuch` if the notice doesn't exist, and `NotOpened` unless its state is opened.
abbrev pub evaluation_told : Caller → Tables → Option NoticeRow → List LotRow → List AwardRow → Reply
evaluation_told caller s None lots awards = Refused (NoSuch things.Notice)
evaluation_told caller s (Some n) lots awards =
    cond (is_opened n.state) (EvaluationSeen n.notice (map (evaluated_lot caller n.weight awards s) lots)) (Refused NotOpened)
