-- Worked examples of cancelling: what a cancellation returns and frees, before the opening and after it.
use Rattle.std.specs.Prelude.{◌++◌, ◌∷◌, ◌≡◌, List, [], codes, map}
use Rattle.office_commands.specs.declared.command.Caller.TheVariants.{Public}
use Rattle.office_commands.specs.declared.commands.Command.TheVariants.{Present}
use Rattle.office_commands.specs.declared.notice.Criteria.TheVariants.{Price}
use Rattle.office_commands.specs.declared.queries.Query.TheVariants as queries
use Rattle.office_values.specs.declared.refusal.Refusal.TheVariants.{AlreadyDecided, NoSuch, NotOpenForTenders, NotOpened, NothingToCancel}
use Rattle.office_values.specs.declared.refusal.Thing.TheVariants as things
use Rattle.office_base.specs.declared.records.AwardRow.{AwardRow}
use Rattle.office_base.specs.declared.records.AwardState.{AwardState}
use Rattle.office_base.specs.declared.records.AwardState.TheVariants as award_in
use Rattle.office_base.specs.declared.records.EnvelopeState.TheVariants as envelope
use Rattle.office_base.specs.declared.records.LotState.TheVariants as lot_in
use Rattle.office_base.specs.declared.records.NoticeRow.{NoticeRow}
use Rattle.office_base.specs.declared.records.NoticeState.{NoticeState}
use Rattle.office_base.specs.declared.records.NoticeState.TheVariants as notice_in
use Rattle.office_base.specs.declared.records.SecurityState.TheVariants as security_in
use Rattle.office_machine.specs.Replies.{OfNotice, Refused}
use Rattle.office_machine.specs.Requests.{Request}
use Rattle.office_machine.specs.Worked.Office.{awarded, awards, by, cancels, deadline, decided, examines, fails, february, l1, l2, looks, lot, money, n1, office, opens, pots, pots_are, presents, publish, security, setup, signs, standstill_end, states_of_lots, states_of_securities, states_of_tenders, t1, t2, tendered, tenderers, replies, two_notices}

-- One tender of 700 with a security wins the lot.
abbrev pub won : List Request
won = setup ++ presents t1 february (codes "700") ∷ opens deadline ∷ examines 1 ∷ awards decided ∷ []

-- Of two lots, the first has a contract, and the other has a tender that isn't examined.
abbrev pub one_contracted : List Request
one_contracted =
    money
    ++ tenderers
    ++ publish Price (lot l1 300 ∷ lot l2 400 ∷ [])
    ∷ presents t1 february (codes "300")
    ∷ by t2 february (Present n1 l2 security (codes "400"))
    ∷ opens deadline
    ∷ examines 1
    ∷ awards decided
    ∷ signs standstill_end 1
    ∷ []

-- Two sealed tenders, and the notice is cancelled before its opening.
abbrev pub cancelled : List Request
cancelled = tendered ++ cancels february ∷ []

-- Two lots on one line, and the notice is cancelled.
abbrev pub two_lots : List Request
two_lots = money ++ publish Price (lot l1 600 ∷ lot l2 400 ∷ []) ∷ cancels february ∷ []

-- The states of all notices.
abbrev pub notice_states : List Request → List NoticeState
notice_states asked = map (λ (n : NoticeRow). n.state) (office asked).notices

-- The states of all awards.
abbrev pub award_states : List Request → List AwardState
award_states asked = map (λ (a : AwardRow). a.state) (office asked).awards

pub record CancellingWorked : Type 0 where
  -- A notice is cancelled before its opening.
  pub is_cancelled : replies tendered (cancels february ∷ []) ≡ OfNotice n1 2 february ∷ []
  -- The reserved money is free again.
  pub money_goes_back : pots cancelled ≡ pots_are 1000 1000 0 0 0
  -- The sealed tenders are returned.
  pub tenders_go_back : states_of_tenders cancelled ≡ envelope.Returned ∷ envelope.Returned ∷ []
  -- The bytes of the returned tenders aren't kept.
  pub bytes_go_back : (office cancelled).seals ≡ []
  -- The securities of the returned tenders are returned.
  pub securities_go_back : states_of_securities cancelled ≡ security_in.Returned ∷ security_in.Returned ∷ []
  -- The notice has one release more.
  pub releases_are : map (λ (n : NoticeRow). n.releases) (office cancelled).notices ≡ 2 ∷ []
  -- The lot is cancelled.
  pub lot_is_cancelled : states_of_lots cancelled ≡ lot_in.Cancelled ∷ []
  -- The notice is cancelled.
  pub notice_is_cancelled : notice_states cancelled ≡ notice_in.Cancelled ∷ []
  -- A cancelled notice can't be cancelled again or opened, and it has no minutes.
  pub nothing_is_left : replies cancelled (cancels february ∷ opens deadline ∷ looks Public deadline (queries.Minutes n1) ∷ [])
      ≡ Refused NothingToCancel ∷ Refused NotOpenForTenders ∷ Refused NotOpened ∷ []
  -- A lot of 600 was awarded at 700, which is reserved.
  pub won_pots : pots won ≡ pots_are 1000 300 700 0 0
  -- After the cancellation the award can't be signed, and the lot can't be awarded.
  pub award_is_cancelled : replies won (cancels decided ∷ signs standstill_end 1 ∷ awards standstill_end ∷ [])
      ≡ OfNotice n1 4 decided ∷ Refused AlreadyDecided ∷ Refused AlreadyDecided ∷ []
  -- The price of the cancelled award is free again.
  pub reserved_goes_back : pots (won ++ cancels decided ∷ []) ≡ pots_are 1000 1000 0 0 0
  -- The award is cancelled.
  pub award_state : award_states (won ++ cancels decided ∷ []) ≡ award_in.Cancelled ∷ []
  -- The winner's security is returned.
  pub security_goes_back : states_of_securities (won ++ cancels decided ∷ []) ≡ security_in.Returned ∷ []
  -- A notice that was opened remains opened.
  pub notice_stays_opened : notice_states (won ++ cancels decided ∷ []) ≡ notice_in.Opened ∷ []
  -- Its tenders remain opened.
  pub tender_stays_opened : states_of_tenders (won ++ cancels decided ∷ []) ≡ envelope.Opened ∷ []
  -- The security of a winner who didn't sign remains forfeited.
  pub stays_forfeited : states_of_securities (won ++ fails standstill_end 1 ∷ cancels standstill_end ∷ []) ≡ security_in.Forfeited ∷ []
  -- The money that this lot still reserved is free again.
  pub failed_goes_back : pots (won ++ fails standstill_end 1 ∷ cancels standstill_end ∷ []) ≡ pots_are 1000 1000 0 0 0
  -- The failed award remains failed.
  pub failed_award_stays : award_states (won ++ fails standstill_end 1 ∷ cancels standstill_end ∷ []) ≡ award_in.Failed ∷ []
  -- A lot with a contract remains, and the other lot ends.
  pub other_lot_ends : states_of_lots (one_contracted ++ cancels standstill_end ∷ []) ≡ lot_in.Contracted ∷ lot_in.Cancelled ∷ []
  -- The contract keeps its money.
  pub contract_stays : pots (one_contracted ++ cancels standstill_end ∷ []) ≡ pots_are 1000 700 0 300 0
  -- If every lot has a contract, there is nothing to cancel.
  pub nothing_but_contracts : replies (awarded ++ signs standstill_end 1 ∷ []) (cancels standstill_end ∷ []) ≡ Refused NothingToCancel ∷ []
  -- The money that two lots on one line reserved is free again.
  pub both_go_back : pots two_lots ≡ pots_are 1000 1000 0 0 0
  -- Another notice keeps its money.
  pub other_money_stays : pots (two_notices ++ cancels february ∷ []) ≡ pots_are 1000 700 300 0 0
  -- A tender for another notice remains sealed.
  pub other_tender_stays : states_of_tenders (two_notices ++ cancels february ∷ []) ≡ envelope.Returned ∷ envelope.Returned ∷ envelope.Sealed ∷ []
  -- The security of that tender is still held.
  pub other_security_stays : states_of_securities (two_notices ++ cancels february ∷ [])
      ≡ security_in.Returned ∷ security_in.Returned ∷ security_in.Held ∷ []
  -- A notice that doesn't exist can't be cancelled.
  pub no_such_notice : replies money (cancels february ∷ []) ≡ Refused (NoSuch things.Notice) ∷ []
