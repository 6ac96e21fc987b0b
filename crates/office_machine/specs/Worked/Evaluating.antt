-- Worked examples of evaluations: what the clerk and others see of tenders, and the points by which the next award is made.
use Rattle.std.specs.Prelude.{◌++◌, ◌∷◌, ◌≡◌, Bool, List, None, Option, Some, [], codes, false, true, ℕ}
use Prim.Native.Nat.{suc-le-suc, zero-le}
use Rattle.office_commands.specs.declared.command.Caller.{Caller}
use Rattle.office_commands.specs.declared.command.Caller.TheVariants.{Clerk, Public, Tenderer}
use Rattle.office_commands.specs.declared.commands.Command.TheVariants.{Examine, Present}
use Rattle.office_commands.specs.declared.notice.Criteria.TheVariants.{Points, Price}
use Rattle.office_commands.specs.declared.queries.Query.TheVariants as queries
use Rattle.office_values.specs.declared.refusal.Refusal.TheVariants.{NoSuch, NotOpened}
use Rattle.office_values.specs.declared.refusal.Thing.TheVariants as things
use Rattle.office_base.specs.declared.reading.Reading.{Reading}
use Rattle.office_base.specs.declared.reading.Reading.TheVariants.{Priced, Unreadable}
use Rattle.office_base.specs.declared.records.AwardRow.{AwardRow}
use Rattle.office_base.specs.declared.records.AwardState.{AwardState}
use Rattle.office_base.specs.declared.records.AwardState.TheVariants as award_in
use Rattle.office_base.specs.declared.records.LotState.{LotState}
use Rattle.office_base.specs.declared.records.LotState.TheVariants as lot_in
use Rattle.office_machine.specs.Replies.{EvaluatedLot, EvaluatedTender, EvaluationSeen, Refused, Reply}
use Rattle.office_machine.specs.Requests.{Request}
use Rattle.office_machine.specs.Worked.Office.{awards, by, by_clerk, cancels, deadline, decided, examines, fails, february, l1, l2, looks, lot, money, n1, n2, opens, presents, publish, security, setup, setup_with, standstill_end, t1, t2, t3, tenderers, replies}
use Rattle.office_machine.specs.Worked.Withdrawing.{hour_later, two, withdraws}

-- A query for the evaluation.
abbrev pub evaluates : Caller → List ℕ → Request
evaluates caller notice = looks caller standstill_end (queries.Evaluation notice)

-- Three opened tenders, the last of which can't be read. The price has 60 of a hundred points.
abbrev pub opened : List Request
opened =
    setup_with 1000 (suc-le-suc zero-le) (Points 60) 600
    ++ presents t1 february (codes "500")
    ∷ presents t2 february (codes "750")
    ∷ presents t3 february (codes "abc")
    ∷ opens deadline
    ∷ []

-- The two readable tenders are examined, with a quality of 10 and of 35.
abbrev pub examined : List Request
examined = opened ++ by_clerk decided (Examine 1 true (Some 10)) ∷ by_clerk decided (Examine 2 true (Some 35)) ∷ []

-- The dearer tender wins the lot.
abbrev pub awarded : List Request
awarded = examined ++ awards decided ∷ []

-- The winner of the lot doesn't sign.
abbrev pub failed : List Request
failed = awarded ++ fails standstill_end 1 ∷ []

-- A tender as the evaluation shows it.
abbrev pub tender : ℕ → List ℕ → Reading → Option Bool → Option ℕ → Option ℕ → Bool → Bool → EvaluatedTender
tender receipt who reading responsive quality points admissible failed = record {
  receipt = receipt;
  tenderer = who;
  reading = Some reading;
  responsive = responsive;
  quality = quality;
  points = points;
  admissible = admissible;
  failed = failed;
}

-- A tender that isn't examined yet.
abbrev pub waiting : ℕ → List ℕ → ℕ → EvaluatedTender
waiting receipt who price = tender receipt who (Priced price price 0) None None None false false

-- A tender that can win.
abbrev pub admissible : ℕ → List ℕ → ℕ → Option ℕ → Option ℕ → EvaluatedTender
admissible receipt who price quality points = tender receipt who (Priced price price 0) (Some true) quality points true false

-- The tender that can't be read.
abbrev pub unreadable : EvaluatedTender
unreadable = tender 3 t3 Unreadable None None None false false

-- The award of the lot to the dearer tender.
abbrev pub award_of : AwardState → AwardRow
award_of state = record { award = 1; notice = n1; lot = l1; receipt = 2; price = 750; moment = decided; state = state }

-- A lot as the evaluation shows it.
abbrev pub lot_seen : List ℕ → LotState → List EvaluatedTender → List AwardRow → EvaluatedLot
lot_seen lot state tenders awards = record { lot = lot; state = state; tenders = tenders; awards = awards }

-- The evaluation of a notice that has this lot only.
abbrev pub one_lot : LotState → List EvaluatedTender → List AwardRow → Reply
one_lot state tenders awards = EvaluationSeen n1 (lot_seen l1 state tenders awards ∷ [])

-- The three tenders after the examination.
abbrev pub all_three : List EvaluatedTender
all_three = admissible 1 t1 500 (Some 10) (Some 70000) ∷ admissible 2 t2 750 (Some 35) (Some 75000) ∷ unreadable ∷ []

-- The three tenders after the award has failed.
abbrev pub one_failed : List EvaluatedTender
one_failed = admissible 1 t1 500 (Some 10) (Some 70000) ∷ tender 2 t2 (Priced 750 750 0) (Some true) (Some 35) None false true ∷ unreadable ∷ []

-- Two opened tenders of 500 and 550, of which the price alone decides.
abbrev pub by_price : List Request
by_price = setup ++ presents t1 february (codes "500") ∷ presents t2 february (codes "550") ∷ opens deadline ∷ []

-- Two lots with one tender each. The first lot is awarded, and the tender of the other isn't examined.
abbrev pub two_lots : List Request
two_lots =
    money
    ++ tenderers
    ++ publish Price (lot l1 300 ∷ lot l2 400 ∷ [])
    ∷ presents t1 february (codes "300")
    ∷ by t2 february (Present n1 l2 security (codes "400"))
    ∷ opens deadline
    ∷ examines 1
    ∷ awards decided
    ∷ []

pub record EvaluatingWorked : Type 0 where
  -- The evaluation is refused before the opening, for a notice that was cancelled before it, and for a notice that doesn't exist.
  pub not_yet : replies setup (evaluates Clerk n1 ∷ evaluates Public n1 ∷ evaluates Public n2 ∷ []) ≡ Refused NotOpened ∷ Refused NotOpened ∷ Refused (NoSuch things.Notice) ∷ []
  pub never : replies (setup ++ cancels february ∷ []) (evaluates Clerk n1 ∷ []) ≡ Refused NotOpened ∷ []
  -- The clerk sees tenders that aren't examined yet.
  pub clerk_sees_all : replies opened (evaluates Clerk n1 ∷ []) ≡ one_lot lot_in.Undecided (waiting 1 t1 500 ∷ waiting 2 t2 750 ∷ unreadable ∷ []) [] ∷ []
  -- After the examination, the tenders have 60000 + 10000 and 40000 + 35000 thousandths of points.
  pub clerk_sees_points : replies examined (evaluates Clerk n1 ∷ []) ≡ one_lot lot_in.Undecided all_three [] ∷ []
  -- Before the award, others see only the lot, whatever was examined.
  pub confidential : replies examined (evaluates Public n1 ∷ evaluates (Tenderer t1) n1 ∷ []) ≡ one_lot lot_in.Undecided [] [] ∷ one_lot lot_in.Undecided [] [] ∷ []
  -- After the award everyone sees the tenders and the award.
  pub awarded_for_all : replies awarded (evaluates Public n1 ∷ evaluates Clerk n1 ∷ [])
      ≡ one_lot lot_in.Awarded all_three (award_of award_in.Active ∷ []) ∷ one_lot lot_in.Awarded all_three (award_of award_in.Active ∷ []) ∷ []
  -- After the award has failed, everyone still sees them. A winner who didn't sign has no points.
  pub failed_for_all : replies failed (evaluates Public n1 ∷ []) ≡ one_lot lot_in.Undecided one_failed (award_of award_in.Failed ∷ []) ∷ []
  -- If the price alone decides, no tender has points. A tender that isn't responsive has none either way.
  pub without_points : replies (by_price ++ by_clerk decided (Examine 1 false None) ∷ examines 2 ∷ []) (evaluates Clerk n1 ∷ [])
      ≡ one_lot lot_in.Undecided (tender 1 t1 (Priced 500 500 0) (Some false) None None false false ∷ admissible 2 t2 550 None None ∷ []) [] ∷ []
  -- A lot that is cancelled after the opening is shown with tenders that weren't examined.
  pub cancelled : replies (by_price ++ cancels decided ∷ []) (evaluates Public n1 ∷ []) ≡ one_lot lot_in.Cancelled (waiting 1 t1 500 ∷ waiting 2 t2 550 ∷ []) [] ∷ []
  -- Of two lots, the public sees the tenders of the awarded one only.
  pub lot_by_lot : replies two_lots (evaluates Public n1 ∷ [])
      ≡ EvaluationSeen n1
      (lot_seen l1 lot_in.Awarded (admissible 1 t1 300 None None ∷ [])
      (record { award = 1; notice = n1; lot = l1; receipt = 1; price = 300; moment = decided; state = award_in.Active } ∷ [])
      ∷ lot_seen l2 lot_in.Undecided [] []
      ∷ [])
      ∷ []
  -- A tender that was withdrawn late is still shown, but can't win any more.
  pub withdrawn_late : replies (two ++ opens deadline ∷ withdraws t1 hour_later 1 ∷ []) (evaluates Clerk n1 ∷ [])
      ≡ one_lot lot_in.Undecided (tender 1 t1 (Priced 500 500 0) None None None false true ∷ waiting 2 t2 600 ∷ []) [] ∷ []
