-- Worked examples of sealed tenders: two runs that differ in the bytes that one tenderer seals give nobody else different replies.
use Rattle.std.specs.Prelude.{◌++◌, ◌∷◌, ◌≡◌, List, None, Option, Some, [], codes, map, ℕ}
use Rattle.office_commands.specs.declared.command.Caller.TheVariants.{Clerk, Public, Tenderer}
use Rattle.office_commands.specs.declared.commands.Command.TheVariants.{Modify, Withdraw}
use Rattle.office_commands.specs.declared.queries.Query.TheVariants as queries
use Rattle.office_values.specs.declared.refusal.Refusal.TheVariants.{Forbidden, NotOpened, NotYourTender}
use Rattle.office_base.specs.declared.reading.Reading.{Reading}
use Rattle.office_base.specs.declared.reading.Reading.TheVariants.{Priced, Unreadable}
use Rattle.office_base.specs.declared.records.EnvelopeRow.{EnvelopeRow}
use Rattle.office_base.specs.declared.records.EnvelopeState.TheVariants as envelope
use Rattle.office_base.specs.declared.records.LotState.TheVariants as lot_in
use Rattle.office_base.specs.declared.records.NoticeState.TheVariants as notice_in
use Rattle.office_base.specs.declared.records.SecurityState.TheVariants as security_in
use Rattle.office_machine.specs.Fates.{fate_of_tender}
use Rattle.office_machine.specs.Replies.{Awarded, EvaluationSeen, Minutes, OpenedAll, OwnTendersSeen, Received, Refused, Registry, Reply, SecuritiesSeen, Security, Tender, Withdrew}
use Rattle.office_machine.specs.Requests.{AreRequests, Request}
use Rattle.office_machine.specs.Seals.{ReleasesHideSeals, SameButSeals, PackagesHideSeals, without_digest}
use Rattle.office_machine.specs.Worlds.{ChosenTender}
use Rattle.office_machine.specs.Worked.Listing.{held_security, own}
use Rattle.office_machine.specs.Worked.Office.{accepted, awards, by, deadline, decided, february, l1, looks, means, n1, north, office, opens, packages, presents, road_repair, setup, t1, t2, replies}

-- T1 is the chosen tenderer, and N1's lot is the chosen lot.
abbrev pub theirs : ChosenTender
theirs = record { who = t1; notice = n1; lot = l1 }

-- T1 submits the first bytes and replaces them by the second ones. Everyone makes queries, T1 withdraws, and the clerk opens and awards.
abbrev pub requests : List ℕ → List ℕ → List Request
requests these those =
    presents t1 february these
    ∷ by t1 february (Modify 1 those)
    ∷ looks (Tenderer t1) february (queries.Tender 2)
    ∷ looks (Tenderer t2) february (queries.Tender 2)
    ∷ looks Clerk february (queries.Tender 2)
    ∷ looks Clerk february (queries.Register n1)
    ∷ looks Clerk february (queries.Security 1)
    ∷ looks (Tenderer t1) february (queries.OwnTenders n1)
    ∷ looks (Tenderer t2) february (queries.OwnTenders n1)
    ∷ looks Clerk february (queries.Securities n1)
    ∷ looks Clerk february (queries.Evaluation n1)
    ∷ looks Public february (queries.Minutes n1)
    ∷ by t1 february (Withdraw 2)
    ∷ opens deadline
    ∷ looks Public deadline (queries.Minutes n1)
    ∷ looks Clerk deadline (queries.Evaluation n1)
    ∷ awards decided
    ∷ []

-- The run with the one pair of bytes.
abbrev pub one : List Request
one = requests (codes "500") (codes "4500")

-- The run with the other pair of bytes.
abbrev pub other : List Request
other = requests (codes "abc") (codes "abcd")

-- The replies to a run, in which T1 sees these two digests.
abbrev pub telling : List ℕ → List ℕ → List Reply
telling these those =
    Received these 1 (Some 1) envelope.Sealed february
    ∷ Received those 2 (Some 1) envelope.Sealed february
    ∷ Tender those 4 n1 l1 february 2 (Some 1) envelope.Sealed
    ∷ Refused NotYourTender
    ∷ Refused Forbidden
    ∷ Registry n1
    (record { receipt = 1; lot = l1; moment = february; length = 3; state = envelope.Withdrawn }
    ∷ record { receipt = 2; lot = l1; moment = february; length = 4; state = envelope.Sealed }
    ∷ [])
    ∷ Security 50 (codes "G1") 1 security_in.Held t1
    ∷ OwnTendersSeen (own these 3 1 envelope.Withdrawn ∷ own those 4 2 envelope.Sealed ∷ [])
    ∷ OwnTendersSeen []
    ∷ SecuritiesSeen (held_security None ∷ [])
    ∷ Refused NotOpened
    ∷ Refused NotOpened
    ∷ Withdrew 2 envelope.Withdrawn february
    ∷ OpenedAll n1 0 2 deadline
    ∷ Minutes (record road_repair { state = notice_in.Opened; opened = Some deadline; releases = 2 }) (north ∷ []) []
    ∷ EvaluationSeen n1 (record { lot = l1; state = lot_in.Undecided; tenders = []; awards = [] } ∷ [])
    ∷ Awarded l1 None 3 decided
    ∷ []

-- A tender that isn't withdrawn, and the opening that reads it.
abbrev pub opened : List ℕ → List Request
opened bytes = presents t1 february bytes ∷ opens deadline ∷ []

-- The readings of its opened tender.
abbrev pub readings : List ℕ → List (Option Reading)
readings bytes = map (λ (e : EnvelopeRow). e.reading) (office (setup ++ opened bytes)).envelopes

pub record SealsWorked : Type 0 where
  -- The two runs differ only in T1's sealed bytes.
  pub same_but_seals : SameButSeals means theirs (office setup) one other
  -- The commands of the run can be given.
  pub can_be_given : AreRequests means (office setup) one
  -- Releases without a text reveal nothing.
  pub publishes_blindly : ReleasesHideSeals means
  -- Packages without a text reveal nothing.
  pub sees_blindly : PackagesHideSeals packages
  -- The replies to the one run.
  pub first_is_told : replies setup one ≡ telling (codes "500") (codes "4500")
  -- The replies to the other run differ only in digests, which only T1 sees.
  pub other_is_told : replies setup other ≡ telling (codes "abc") (codes "abcd")
  -- Without digests the replies are equal.
  pub alike_but_digests : map without_digest (replies setup other) ≡ map without_digest (replies setup one)
  -- Both tenders are withdrawn in the end, so the opening and the award reveal nothing either.
  pub both_are_withdrawn : map (fate_of_tender (accepted (setup ++ one))) (1 ∷ 2 ∷ []) ≡ Some envelope.Withdrawn ∷ Some envelope.Withdrawn ∷ []
  -- A tender that is still sealed at the opening is read then.
  pub read_at_opening : readings (codes "500") ≡ Some (Priced 500 500 0) ∷ []
  -- So the readings of other bytes may differ.
  pub other_is_read : readings (codes "abc") ≡ Some Unreadable ∷ []
