-- Worked examples of late withdrawals, which a notice may allow and which forfeit the security.
use Rattle.std.specs.Prelude.{◌++◌, ◌+◌, ◌-◌, ◌∷◌, ◌≡◌, List, None, Some, [], codes, true, ℕ}
use Rattle.office_commands.specs.declared.commands.Command.TheVariants.{Examine, Modify, Publish, Withdraw}
use Rattle.office_commands.specs.declared.notice.Criteria.TheVariants.{Price}
use Rattle.office_values.specs.declared.refusal.Refusal.TheVariants.{AlreadyDecided, AlreadyPresented, DeadlinePassed, Expired, NotSealed}
use Rattle.office_base.specs.declared.reading.Reading.TheVariants.{Priced}
use Rattle.office_base.specs.declared.records.EnvelopeState.TheVariants as envelope
use Rattle.office_base.specs.declared.records.SecurityState.TheVariants as security_in
use Rattle.office_machine.specs.Fates.{fate_of_security, fate_of_tender}
use Rattle.office_machine.specs.Replies.{Awarded, Examined, Minutes, Refused, Withdrew}
use Rattle.office_machine.specs.Requests.{Request}
use Rattle.office_machine.specs.Worked.Office.{accepted, awards, by, by_clerk, cancels, deadline, decided, examines, expiry, february, l1, lenient, lot, money, n1, north, office, opens, pots, pots_are, presents, published, setup, states_of_securities, states_of_tenders, t1, t2, tenderers, replies}
use Rattle.office_machine.specs.Worked.Opening.{minuted, notice_opened, sees_minutes}

-- The notice of the other examples, except that its tenders can be withdrawn late.
abbrev pub lenient_setup : List Request
lenient_setup = money ++ tenderers ++ by_clerk published (Publish n1 (lenient deadline Price (lot l1 600 ∷ []))) ∷ []

-- A tender of 500.
abbrev pub one : List Request
one = lenient_setup ++ presents t1 february (codes "500") ∷ []

-- A tender of 500, and one of 600.
abbrev pub two : List Request
two = one ++ presents t2 february (codes "600") ∷ []

-- A tender is withdrawn.
abbrev pub withdraws : List ℕ → ℕ → ℕ → Request
withdraws who moment receipt = by who moment (Withdraw receipt)

-- 2026-03-01T13:00:00Z, an hour after the deadline.
abbrev pub hour_later : ℕ
hour_later = deadline + 3600

-- Both tenders are opened at the deadline, and the cheaper one is withdrawn an hour later, before it is examined.
abbrev pub cheaper_withdrawn : List Request
cheaper_withdrawn = two ++ opens deadline ∷ withdraws t1 hour_later 1 ∷ []

-- A tender is examined as responsive at the moment of the opening.
abbrev pub examines_at_once : ℕ → Request
examines_at_once receipt = by_clerk deadline (Examine receipt true None)

-- Both tenders are opened and examined as responsive.
abbrev pub two_examined : List Request
two_examined = two ++ opens deadline ∷ examines_at_once 1 ∷ examines_at_once 2 ∷ []

pub record WithdrawingWorked : Type 0 where
  -- A tender that is withdrawn at the deadline remains sealed. It can't be withdrawn again or replaced, and no other is taken in its place.
  pub at_the_deadline : replies one (withdraws t1 deadline 1 ∷ withdraws t1 deadline 1 ∷ by t1 deadline (Modify 1 (codes "450")) ∷ presents t1 deadline (codes "450") ∷ [])
      ≡ Withdrew 1 envelope.Sealed deadline ∷ Refused AlreadyDecided ∷ Refused DeadlinePassed ∷ Refused AlreadyPresented ∷ []
  -- The security of a tender that is withdrawn late is forfeited, and the bytes are kept.
  pub forfeited : states_of_securities (one ++ withdraws t1 deadline 1 ∷ []) ≡ security_in.Forfeited ∷ []
  pub kept_shut : (office (one ++ withdraws t1 deadline 1 ∷ [])).seals ≡ record { receipt = 1; bytes = codes "500" } ∷ []
  -- The withdrawn tender is opened and in the minutes, but nobody wins the lot. The estimate is free again, and the security remains forfeited.
  pub nobody_wins : replies (one ++ withdraws t1 deadline 1 ∷ opens deadline ∷ []) (awards deadline ∷ []) ≡ Awarded l1 None 3 deadline ∷ []
  pub opened_too : states_of_tenders (one ++ withdraws t1 deadline 1 ∷ opens deadline ∷ []) ≡ envelope.Opened ∷ []
  pub listed : replies (one ++ withdraws t1 deadline 1 ∷ opens deadline ∷ []) (sees_minutes ∷ [])
      ≡ Minutes (notice_opened deadline 2) (north ∷ []) (minuted 1 t1 (codes "Alpha") (Priced 500 500 0) ∷ []) ∷ []
  pub all_is_free : pots (one ++ withdraws t1 deadline 1 ∷ opens deadline ∷ awards deadline ∷ []) ≡ pots_are 1000 1000 0 0 0
  pub stays_forfeited : states_of_securities (one ++ withdraws t1 deadline 1 ∷ opens deadline ∷ awards deadline ∷ []) ≡ security_in.Forfeited ∷ []
  -- A tender can be withdrawn after the opening and before its examination. Then it can't be examined, and the award doesn't wait for it.
  pub after_the_opening : replies (two ++ opens deadline ∷ []) (withdraws t1 hour_later 1 ∷ examines 1 ∷ examines 2 ∷ awards decided ∷ [])
      ≡ Withdrew 1 envelope.Opened hour_later ∷ Refused AlreadyDecided ∷ Examined 2 true decided ∷ Awarded l1 (Some (record { award = 1; price = 600; tender = 2 })) 3 decided ∷ []
  -- A tender can be withdrawn after its examination. Then the next best one wins.
  pub after_the_examination : replies two_examined (withdraws t1 hour_later 1 ∷ awards decided ∷ [])
      ≡ Withdrew 1 envelope.Opened hour_later ∷ Awarded l1 (Some (record { award = 1; price = 600; tender = 2 })) 3 decided ∷ []
  -- In both cases the price of the next best tender is reserved.
  pub next_best_is_reserved : pots (two_examined ++ withdraws t1 hour_later 1 ∷ awards decided ∷ []) ≡ pots_are 1000 400 600 0 0
  pub reserved_unexamined : pots (cheaper_withdrawn ++ examines 2 ∷ awards decided ∷ []) ≡ pots_are 1000 400 600 0 0
  -- A winner can't withdraw.
  pub winner_stays : replies (two_examined ++ withdraws t1 hour_later 1 ∷ awards decided ∷ []) (withdraws t2 decided 2 ∷ []) ≡ Refused AlreadyDecided ∷ []
  -- One second before the deadline, the tender is withdrawn in time and the security is returned.
  pub in_time : replies one (withdraws t1 (deadline - 1) 1 ∷ []) ≡ Withdrew 1 envelope.Withdrawn (deadline - 1) ∷ []
  pub goes_back : states_of_securities (one ++ withdraws t1 (deadline - 1) 1 ∷ []) ≡ security_in.Returned ∷ []
  -- A tender can be withdrawn until the last second before it expires.
  pub at_last_second : replies (two ++ opens deadline ∷ []) (withdraws t1 (expiry - 1) 1 ∷ withdraws t2 expiry 2 ∷ []) ≡ Withdrew 1 envelope.Opened (expiry - 1) ∷ Refused Expired ∷ []
  -- A cancellation returns a tender that was withdrawn late, and not its security.
  pub cancelled : states_of_tenders (one ++ withdraws t1 deadline 1 ∷ cancels deadline ∷ []) ≡ envelope.Returned ∷ []
  pub not_given_back : states_of_securities (one ++ withdraws t1 deadline 1 ∷ cancels deadline ∷ []) ≡ security_in.Forfeited ∷ []
  -- A returned tender can't be withdrawn.
  pub isnt_there : replies (one ++ cancels deadline ∷ []) (withdraws t1 deadline 1 ∷ []) ≡ Refused NotSealed ∷ []
  -- A notice that doesn't allow late withdrawals refuses them.
  pub says_nothing : replies (setup ++ presents t1 february (codes "500") ∷ []) (withdraws t1 deadline 1 ∷ []) ≡ Refused DeadlinePassed ∷ []
  -- The row that allows late withdrawals exists only if the notice says so.
  pub row_is : (office lenient_setup).late_rules ≡ record { notice = n1 } ∷ []
  pub no_row : (office setup).late_rules ≡ []
  -- The fates that the commands give agree with the rows.
  pub security_fate : fate_of_security (accepted (one ++ withdraws t1 deadline 1 ∷ opens deadline ∷ awards deadline ∷ [])) 1 ≡ Some security_in.Forfeited
  pub tender_fate : fate_of_tender (accepted (one ++ withdraws t1 deadline 1 ∷ opens deadline ∷ awards deadline ∷ [])) 1 ≡ Some envelope.Opened
