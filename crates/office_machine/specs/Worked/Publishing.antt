-- Worked examples of publishing: how much money a notice reserves, and when it is refused.
use Rattle.std.specs.Prelude.{◌++◌, ◌∷◌, ◌≡◌, List, [], codes, suc, zero, ℕ}
use Prim.Native.Nat.{suc-le-suc, zero-le}
use Rattle.office_commands.specs.declared.budget.BudgetKind.TheVariants.{Add}
use Rattle.office_commands.specs.declared.commands.Command.TheVariants.{Import, Publish}
use Rattle.office_commands.specs.declared.item.Item.{Item}
use Rattle.office_commands.specs.declared.lot.NewLot.{NewLot}
use Rattle.office_commands.specs.declared.notice.Criteria.TheVariants.{Price}
use Rattle.office_values.specs.declared.refusal.Refusal.TheVariants.{DeadlinePassed, Exists, InsufficientFunds, LimitReached, NoSuch}
use Rattle.office_values.specs.declared.refusal.Thing.TheVariants as things
use Rattle.office_base.specs.Joined.{ledger_of}
use Rattle.office_machine.specs.Replies.{OfNotice, Refused}
use Rattle.office_machine.specs.Requests.{Request}
use Rattle.office_machine.specs.Worked.Office.{by_clerk, deadline, february, january, l1, l2, lot, money, n1, n2, north, notice, numbered_name, office, pots, pots_are, publish, published, road_repair, roads, row, setup, replies}

-- Two lots of 600 and 400.
abbrev pub two_lots : Request
two_lots = publish Price (lot l1 600 ∷ lot l2 400 ∷ [])

-- Two lots of 600 and 401, one unit more than the roads have.
abbrev pub one_too_much : Request
one_too_much = publish Price (lot l1 600 ∷ lot l2 401 ∷ [])

-- So many lots of 1 each.
abbrev pub small_lots : ℕ → List NewLot
small_lots zero = []
small_lots (suc n) = lot (numbered_name 76 n) 1 ∷ small_lots n

-- So many items.
abbrev pub items : ℕ → List Item
items zero = []
items (suc n) = record { id = numbered_name 73 n; title = codes "Paving"; quantity = 1 } ∷ items n

-- A lot with so many items.
abbrev pub lot_with : ℕ → NewLot
lot_with n = record (lot l1 1) { items = items n }

-- A second budget line, the parks.
abbrev pub parks : List ℕ
parks = codes "2000"

-- The roads have 1000 and the parks 50, and the notice has a lot of 600 on the one and a lot of 50 on the other.
abbrev pub two_lines : List Request
two_lines =
    money
    ++ by_clerk january (Import (codes "B2") (row parks Add 50 (suc-le-suc zero-le) ∷ []))
    ∷ publish Price (lot l1 600 ∷ record (lot l2 50) { line = parks } ∷ [])
    ∷ []

-- A notice with this identifier whose lot is on a line that doesn't exist.
abbrev pub elsewhere : List ℕ → Request
elsewhere id = by_clerk february (Publish id (notice deadline Price (record (lot l1 1) { line = codes "9999" } ∷ [])))

pub record PublishingWorked : Type 0 where
  -- Two lots may take all free money.
  pub two_lots_are_published : replies money (two_lots ∷ []) ≡ OfNotice n1 1 published ∷ []
  -- Then all money is reserved.
  pub all_is_reserved : pots (money ++ two_lots ∷ []) ≡ pots_are 1000 0 1000 0 0
  -- Two lots may not take one unit more than the free money.
  pub one_unit_more_is_refused : replies money (one_too_much ∷ []) ≡ Refused InsufficientFunds ∷ []
  -- After this refusal all money is still free.
  pub all_stays_free : pots (money ++ one_too_much ∷ []) ≡ pots_are 1000 1000 0 0 0
  -- After this refusal no lot is stored.
  pub no_lot_is_kept : (office (money ++ one_too_much ∷ [])).lots ≡ []
  -- Lots of one notice may be on two lines, and each reserves money of its own line.
  pub each_from_its_line : ledger_of (office two_lines)
      ≡ record { line = roads; pots = record { appropriation = 1000; free = 400; reserved = 600; contracted = 0; paid = 0 } }
      ∷ record { line = parks; pots = record { appropriation = 50; free = 0; reserved = 50; contracted = 0; paid = 0 } }
      ∷ []
  -- A notice can't be published at its deadline.
  pub deadline_is_to_come : replies money (by_clerk deadline (Publish n1 (notice deadline Price (lot l1 600 ∷ []))) ∷ []) ≡ Refused DeadlinePassed ∷ []
  -- A notice can't be published with a lot on a line that doesn't exist, even if its identifier is taken too.
  pub unknown_line : replies setup (elsewhere n1 ∷ elsewhere n2 ∷ []) ≡ Refused (NoSuch things.Line) ∷ Refused (NoSuch things.Line) ∷ []
  -- A notice whose identifier is taken can't be published.
  pub not_twice : replies setup (two_lots ∷ []) ≡ Refused Exists ∷ []
  -- A notice may have 20 lots.
  pub twenty_lots : replies money (publish Price (small_lots 20) ∷ []) ≡ OfNotice n1 1 published ∷ []
  -- Each of the 20 lots reserves its estimate.
  pub twenty_are_reserved : pots (money ++ publish Price (small_lots 20) ∷ []) ≡ pots_are 1000 980 20 0 0
  -- A notice can't have 21 lots.
  pub twenty_one_lots : replies money (publish Price (small_lots 21) ∷ []) ≡ Refused LimitReached ∷ []
  -- A lot may have 50 items.
  pub fifty_items : replies money (publish Price (lot_with 50 ∷ []) ∷ []) ≡ OfNotice n1 1 published ∷ []
  -- A lot can't have 51 items.
  pub fifty_one_items : replies money (publish Price (lot_with 51 ∷ []) ∷ []) ≡ Refused LimitReached ∷ []
  -- The row of the published notice.
  pub notice_is : (office setup).notices ≡ road_repair ∷ []
  -- The row of its lot.
  pub lot_is : (office setup).lots ≡ north ∷ []
  -- The row of its first release.
  pub release_is : (office setup).releases ≡ record { notice = n1; seq = 1; moment = published; text = [] } ∷ []
