-- Worked examples of awarding: which tender wins, or that none does, and how much money is reserved.
use Rattle.std.specs.Prelude.{◌++◌, ◌-◌, ◌∷◌, ◌≡◌, ◌≤◌, List, None, Some, [], codes, true, ℕ}
use Prim.Native.Nat.{suc-le-suc, zero-le}
use Rattle.office_commands.specs.declared.commands.Command.TheVariants.{Award, Examine}
use Rattle.office_commands.specs.declared.notice.Criteria.TheVariants.{Points, Price}
use Rattle.office_values.specs.declared.refusal.Refusal.TheVariants.{AlreadyDecided, Expired, InsufficientFunds, NoSuch, NotAllExamined, NotOpened}
use Rattle.office_values.specs.declared.refusal.Thing.TheVariants as things
use Rattle.office_base.specs.declared.records.AwardState.TheVariants as award_in
use Rattle.office_base.specs.declared.records.LotState.TheVariants as lot_in
use Rattle.office_machine.specs.Replies.{Awarded, Refused, Reply}
use Rattle.office_machine.specs.Requests.{Request}
use Rattle.office_machine.specs.Worked.Office.{awarded, awards, by_clerk, deadline, decided, examined, examines, expiry, february, l1, l2, n1, n2, office, opens, pots, pots_are, presents, setup, setup_with, states_of_lots, t1, t2, t3, tendered, replies}

-- The reply to an award that has a winner.
abbrev pub won_by : ℕ → ℕ → Reply
won_by receipt price = Awarded l1 (Some (record { award = 1; price = price; tender = receipt })) 3 decided

-- Three tenders with these texts, all opened and examined as responsive.
abbrev pub bids : List ℕ → List ℕ → List ℕ → List Request
bids first second third =
    setup
    ++ presents t1 february first
    ∷ presents t2 february second
    ∷ presents t3 february third
    ∷ opens deadline
    ∷ examines 1
    ∷ examines 2
    ∷ examines 3
    ∷ []

-- Two tenders with these texts and this weight of the price, each with its quality.
abbrev pub scores : ℕ → List ℕ → ℕ → List ℕ → ℕ → List Request
scores weight first good second better =
    setup_with 1000 (suc-le-suc zero-le) (Points weight) 600
    ++ presents t1 february first
    ∷ presents t2 february second
    ∷ opens deadline
    ∷ by_clerk decided (Examine 1 true (Some good))
    ∷ by_clerk decided (Examine 2 true (Some better))
    ∷ []

-- One tender of this price, opened and examined, for a lot of 600 on a line with this amount.
abbrev pub one_bid : (amount : ℕ) → 1 ≤ amount → List ℕ → List Request
one_bid amount some price = setup_with amount some Price 600 ++ presents t1 february price ∷ opens deadline ∷ examines 1 ∷ []

-- One tender that can't be read.
abbrev pub unreadable : List Request
unreadable = setup ++ presents t1 february (codes "abc") ∷ opens deadline ∷ []

pub record AwardingWorked : Type 0 where
  -- The lowest price wins.
  pub lowest_price_wins : replies (bids (codes "520") (codes "500") (codes "510")) (awards decided ∷ []) ≡ won_by 2 500 ∷ []
  -- The winner's price is reserved, and the rest of the estimate is free again.
  pub price_is_reserved : pots (bids (codes "520") (codes "500") (codes "510") ++ awards decided ∷ []) ≡ pots_are 1000 500 500 0 0
  -- Of two equal prices, the lower receipt wins.
  pub tie_goes_to_first : replies (bids (codes "520") (codes "500") (codes "500")) (awards decided ∷ []) ≡ won_by 2 500 ∷ []
  -- The corrected price counts, here 480 and 505.
  pub corrected_price_counts : replies (bids (codes "550/480") (codes "500") (codes "490/505")) (awards decided ∷ []) ≡ won_by 1 480 ∷ []
  -- If the price has 60 points, 10000 and 35000 thousandths in all lose to 40000 and 35000: the dearer tender wins.
  pub quality_outweighs : replies (scores 60 (codes "500") 10 (codes "750") 35) (awards decided ∷ []) ≡ won_by 2 750 ∷ []
  -- The price of the dearer winner is reserved.
  pub dearer_is_reserved : pots (scores 60 (codes "500") 10 (codes "750") 35 ++ awards decided ∷ []) ≡ pots_are 1000 250 750 0 0
  -- With a quality of 29 instead, the cheaper tender wins.
  pub price_outweighs : replies (scores 60 (codes "500") 10 (codes "750") 29) (awards decided ∷ []) ≡ won_by 1 500 ∷ []
  -- At equal points, 70000 thousandths each, the lower price wins.
  pub points_are_equal : replies (scores 60 (codes "500") 10 (codes "750") 30) (awards decided ∷ []) ≡ won_by 1 500 ∷ []
  -- A price of 0 has all points for the price. Of two such tenders the lower receipt wins.
  pub for_nothing : replies (scores 100 (codes "0") 0 (codes "0") 0) (awards decided ∷ []) ≡ won_by 1 0 ∷ []
  -- A tender that is dearer than the estimate may win.
  pub takes_what_is_free : replies (one_bid 700 (suc-le-suc zero-le) (codes "700")) (awards decided ∷ []) ≡ won_by 1 700 ∷ []
  -- It takes the rest from the free money, here all of it.
  pub all_is_reserved : pots (one_bid 700 (suc-le-suc zero-le) (codes "700") ++ awards decided ∷ []) ≡ pots_are 700 0 700 0 0
  -- It can't win if one unit of free money is missing.
  pub one_unit_short : replies (one_bid 699 (suc-le-suc zero-le) (codes "700")) (awards decided ∷ []) ≡ Refused InsufficientFunds ∷ []
  -- After this refusal, the estimate is still reserved.
  pub estimate_stays : pots (one_bid 699 (suc-le-suc zero-le) (codes "700") ++ awards decided ∷ []) ≡ pots_are 699 99 600 0 0
  -- Without an admissible tender nobody wins the lot, and the lot is decided.
  pub nobody_wins : replies unreadable (awards decided ∷ awards decided ∷ []) ≡ Awarded l1 None 3 decided ∷ Refused AlreadyDecided ∷ []
  -- Then the estimate is free again.
  pub all_is_free : pots (unreadable ++ awards decided ∷ []) ≡ pots_are 1000 1000 0 0 0
  -- Then the lot is unsuccessful.
  pub lot_is_unsuccessful : states_of_lots (unreadable ++ awards decided ∷ []) ≡ lot_in.Unsuccessful ∷ []
  -- No lot is awarded before the opening.
  pub not_before_opening : replies tendered (awards deadline ∷ []) ≡ Refused NotOpened ∷ []
  -- No lot is awarded while a priced tender isn't examined.
  pub not_all_examined : replies (tendered ++ opens deadline ∷ examines 1 ∷ []) (awards decided ∷ []) ≡ Refused NotAllExamined ∷ []
  -- One second before tenders expire, a tender can still win.
  pub at_last_second : replies examined (awards (expiry - 1) ∷ [])
      ≡ Awarded l1 (Some (record { award = 1; price = 500; tender = 1 })) 3 (expiry - 1) ∷ []
  -- No tender wins when tenders have expired.
  pub expired : replies examined (awards expiry ∷ []) ≡ Refused Expired ∷ []
  -- A lot without an admissible tender can be decided even after tenders have expired.
  pub nobody_wins_later : replies unreadable (awards expiry ∷ []) ≡ Awarded l1 None 3 expiry ∷ []
  -- An awarded lot isn't awarded again.
  pub not_twice : replies awarded (awards decided ∷ []) ≡ Refused AlreadyDecided ∷ []
  -- A lot that doesn't exist can't be awarded, nor can a lot of a notice that doesn't exist.
  pub no_such_lot : replies examined (by_clerk decided (Award n1 l2) ∷ by_clerk decided (Award n2 l1) ∷ [])
      ≡ Refused (NoSuch things.Lot) ∷ Refused (NoSuch things.Notice) ∷ []
  -- The row of an award.
  pub award_is : (office awarded).awards
      ≡ record { award = 1; notice = n1; lot = l1; receipt = 1; price = 500; moment = decided; state = award_in.Active } ∷ []
