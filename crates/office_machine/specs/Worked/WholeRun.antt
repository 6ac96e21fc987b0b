-- A whole procurement by all sixteen commands, from its money to its payments.
use Rattle.std.specs.Prelude.{◌++◌, ◌∷◌, ◌≡◌, List, None, Some, [], codes, map, true, ℕ}
use Rattle.office_commands.specs.declared.commands.Command.TheVariants.{AmendContract, AmendNotice, End, Modify, Pay, Withdraw}
use Rattle.office_commands.specs.declared.contract.ChangeKind.TheVariants as changes
use Rattle.office_commands.specs.declared.contract.How.TheVariants.{Regular}
use Rattle.office_commands.specs.declared.notice.Criteria.TheVariants.{Price}
use Rattle.office_base.specs.Tables.{no_tables}
use Rattle.office_base.specs.declared.records.EnvelopeState.TheVariants as envelope
use Rattle.office_base.specs.declared.records.LotState.TheVariants as lot_in
use Rattle.office_base.specs.declared.records.SecurityState.TheVariants as security_in
use Rattle.office_machine.specs.Fates.{fate_of_security, fate_of_tender}
use Rattle.office_machine.specs.Machine.{Reaches}
use Rattle.office_machine.specs.Moves.{Contracted, Free, Move, Outside, Paid, Pot, Reserved, inflow, moves, outflow}
use Rattle.office_machine.specs.Replies.{Awarded, Enrolled, Examined, Failed, Imported, OfContract, OfNotice, OpenedAll, Received, Signed, Withdrew}
use Rattle.office_machine.specs.Requests.{AreRequests, Request}
use Rattle.office_machine.specs.Worked.Office.{accepted, awards, by, by_clerk, cancels, decided, examines, fails, february, january, l1, l2, lot, means, money, n1, office, opens, pots, pots_are, presents, publish, published, roads, second_end, signs, standstill_end, states_of_lots, t1, t2, t3, tenderers, replies}

-- 2026-03-01T18:00:00Z, to which the deadline is moved.
abbrev pub evening : ℕ
evening = 1772388000

-- Money, tenderers, and a notice of two lots.
abbrev pub preparation : List Request
preparation = money ++ tenderers ++ publish Price (lot l1 600 ∷ lot l2 300 ∷ []) ∷ []

-- The deadline moves, and three tenders come for the first lot. The first of them is replaced, and the third is withdrawn.
abbrev pub competition : List Request
competition =
    by_clerk february (AmendNotice n1 evening (codes "More time"))
    ∷ presents t1 february (codes "500")
    ∷ presents t2 february (codes "550/540")
    ∷ presents t3 february (codes "400")
    ∷ by t1 february (Modify 1 (codes "480"))
    ∷ by t3 february (Withdraw 3)
    ∷ []

-- The tenders are opened and examined. The cheaper one wins the lot, but its tenderer doesn't sign, so the other one wins.
abbrev pub decision : List Request
decision = opens evening ∷ examines 2 ∷ examines 4 ∷ awards decided ∷ fails standstill_end 1 ∷ awards standstill_end ∷ signs second_end 2 ∷ []

-- The contract is raised, paid and ended. The second lot, for which no tender came, is cancelled.
abbrev pub execution : List Request
execution =
    by_clerk second_end (AmendContract 2 (codes "E1") changes.Raise 60 (codes "A longer road"))
    ∷ by_clerk second_end (Pay 2 (codes "E2") 200)
    ∷ by_clerk second_end (End 2 Regular)
    ∷ cancels second_end
    ∷ []

-- The whole procurement.
abbrev pub run : List Request
run = preparation ++ competition ++ decision ++ execution

-- An amount that moves between two balances of the roads.
abbrev pub moved : Pot → Pot → ℕ → Move
moved from to amount = record { line = roads; from = from; to = to; amount = amount }

pub record WholeRunWorked : Type 0 where
  -- All requests of the preparation are accepted, with these replies.
  pub preparation_is_told : replies [] preparation
      ≡ Imported (codes "B1") 1 january
      ∷ Enrolled t1 january
      ∷ Enrolled t2 january
      ∷ Enrolled t3 january
      ∷ OfNotice n1 1 published
      ∷ []
  -- The replies to the requests of the competition.
  pub competition_is_told : replies preparation competition
      ≡ OfNotice n1 2 february
      ∷ Received (codes "500") 1 (Some 1) envelope.Sealed february
      ∷ Received (codes "550/540") 2 (Some 2) envelope.Sealed february
      ∷ Received (codes "400") 3 (Some 3) envelope.Sealed february
      ∷ Received (codes "480") 4 (Some 1) envelope.Sealed february
      ∷ Withdrew 3 envelope.Withdrawn february
      ∷ []
  -- The replies to the requests of the decision.
  pub decision_is_told : replies (preparation ++ competition) decision
      ≡ OpenedAll n1 2 3 evening
      ∷ Examined 2 true decided
      ∷ Examined 4 true decided
      ∷ Awarded l1 (Some (record { award = 1; price = 480; tender = 4 })) 4 decided
      ∷ Failed 1 5 standstill_end
      ∷ Awarded l1 (Some (record { award = 2; price = 540; tender = 2 })) 6 standstill_end
      ∷ Signed 2 7 second_end
      ∷ []
  -- The replies to the requests about the contract and the cancellation.
  pub execution_is_told : replies (preparation ++ competition ++ decision) execution
      ≡ OfContract 2 600 8 second_end
      ∷ OfContract 2 400 9 second_end
      ∷ OfContract 2 0 10 second_end
      ∷ OfNotice n1 11 second_end
      ∷ []
  -- Until the award, the estimates of both lots are reserved.
  pub pots_reserved : pots (preparation ++ competition) ≡ pots_are 1000 100 900 0 0
  -- After the signing, the price of the second winner is contracted.
  pub pots_contracted : pots (preparation ++ competition ++ decision) ≡ pots_are 1000 160 300 540 0
  -- In the end all money is free, except for the amount paid.
  pub pots_at_last : pots run ≡ pots_are 1000 800 0 0 200
  -- These balances follow from the moves of the accepted commands, the last one first.
  pub moves_are : moves (accepted run)
      ≡ moved Reserved Free 300
      ∷ moved Contracted Free 400
      ∷ moved Contracted Paid 200
      ∷ moved Free Contracted 60
      ∷ moved Reserved Contracted 540
      ∷ moved Free Reserved 60
      ∷ moved Reserved Free 120
      ∷ moved Free Reserved 600
      ∷ moved Free Reserved 300
      ∷ moved Outside Free 1000
      ∷ []
  -- The moves brought 1820 into free.
  pub came_to_free : inflow (moves (accepted run)) roads Free ≡ 1820
  -- The moves took 1020 out of free, which leaves 800.
  pub went_from_free : outflow (moves (accepted run)) roads Free ≡ 1020
  -- The fate of each tender.
  pub fates_of_tenders : map (fate_of_tender (accepted run)) (1 ∷ 2 ∷ 3 ∷ 4 ∷ [])
      ≡ Some envelope.Withdrawn ∷ Some envelope.Opened ∷ Some envelope.Withdrawn ∷ Some envelope.Opened ∷ []
  -- The fate of each security.
  pub fates_of_securities : map (fate_of_security (accepted run)) (1 ∷ 2 ∷ 3 ∷ 4 ∷ [])
      ≡ Some security_in.Forfeited ∷ Some security_in.Returned ∷ Some security_in.Returned ∷ None ∷ []
  -- The states of the two lots.
  pub states_at_last : states_of_lots run ≡ lot_in.Contracted ∷ lot_in.Cancelled ∷ []
  -- Each of these requests can be given.
  pub can_be_given : AreRequests means no_tables run
  -- The accepted commands reach the last office, so the laws about reached offices are true of it.
  pub is_reached : Reaches means (accepted run) (office run)
