-- Worked examples of signing: the standstill, winners who are passed over, and the expiry of tenders.
use Rattle.std.specs.Prelude.{◌++◌, ◌-◌, ◌∷◌, ◌≡◌, List, None, Some, []}
use Rattle.office_values.specs.declared.refusal.Refusal.TheVariants.{AlreadyDecided, Expired, NoSuch, Standstill}
use Rattle.office_values.specs.declared.refusal.Thing.TheVariants as things
use Rattle.office_base.specs.declared.records.LotState.TheVariants as lot_in
use Rattle.office_machine.specs.Replies.{Awarded, Failed, Refused, Signed}
use Rattle.office_machine.specs.Requests.{Request}
use Rattle.office_machine.specs.Worked.Office.{awarded, awards, expiry, fails, l1, n1, office, pots, pots_are, refused, second_end, signs, standstill_end, states_of_lots, t1, replies}

-- The first winner doesn't sign, and the next best tender wins the lot.
abbrev pub passed_over : List Request
passed_over = awarded ++ fails standstill_end 1 ∷ awards standstill_end ∷ []

pub record SigningWorked : Type 0 where
  -- One second before the standstill of ten days is over, an award can neither be signed nor fail.
  pub stands_still : replies awarded (signs (standstill_end - 1) 1 ∷ fails (standstill_end - 1) 1 ∷ []) ≡ Refused Standstill ∷ Refused Standstill ∷ []
  -- After the standstill the contract is signed.
  pub is_signed : replies awarded (signs standstill_end 1 ∷ []) ≡ Signed 1 4 standstill_end ∷ []
  -- The price of a signed award is contracted.
  pub price_is_contracted : pots (awarded ++ signs standstill_end 1 ∷ []) ≡ pots_are 1000 500 0 500 0
  -- The row of a contract.
  pub contract_is : (office (awarded ++ signs standstill_end 1 ∷ [])).contracts
      ≡ record { contract = 1; notice = n1; lot = l1; tenderer = t1; signed = 500; moment = standstill_end; ended = None; how = None; released = 0 } ∷ []
  -- The lot of a signed award is contracted.
  pub lot_is_contracted : states_of_lots (awarded ++ signs standstill_end 1 ∷ []) ≡ lot_in.Contracted ∷ []
  -- A signed award is decided: it can't be signed again or fail, and the lot can't be awarded.
  pub signed_once : refused (awarded ++ signs standstill_end 1 ∷ []) (signs standstill_end 1 ∷ fails standstill_end 1 ∷ awards standstill_end ∷ [])
      ≡ Some AlreadyDecided ∷ Some AlreadyDecided ∷ Some AlreadyDecided ∷ []
  -- An award fails if its winner doesn't sign.
  pub is_failed : replies awarded (fails standstill_end 1 ∷ []) ≡ Failed 1 4 standstill_end ∷ []
  -- Its price is still reserved.
  pub stays_reserved : pots (awarded ++ fails standstill_end 1 ∷ []) ≡ pots_are 1000 500 500 0 0
  -- The next best tender wins the lot.
  pub next_best_wins : replies (awarded ++ fails standstill_end 1 ∷ []) (awards standstill_end ∷ [])
      ≡ Awarded l1 (Some (record { award = 2; price = 550; tender = 2 })) 5 standstill_end ∷ []
  -- The price of the next best tender is reserved.
  pub next_price_is_reserved : pots passed_over ≡ pots_are 1000 450 550 0 0
  -- The new award has a standstill of its own. The failed award can't be signed.
  pub new_standstill : replies passed_over (signs standstill_end 1 ∷ signs (second_end - 1) 2 ∷ signs second_end 2 ∷ [])
      ≡ Refused AlreadyDecided ∷ Refused Standstill ∷ Signed 2 6 second_end ∷ []
  -- If the second award fails too, nobody is left to win.
  pub nobody_is_left : replies (passed_over ++ fails second_end 2 ∷ []) (awards second_end ∷ []) ≡ Awarded l1 None 7 second_end ∷ []
  -- Then all money is free again.
  pub all_is_free : pots (passed_over ++ fails second_end 2 ∷ awards second_end ∷ []) ≡ pots_are 1000 1000 0 0 0
  -- An award can be signed up to the last second before the tenders expire.
  pub at_last_second : replies awarded (signs (expiry - 1) 1 ∷ []) ≡ Signed 1 4 (expiry - 1) ∷ []
  -- When tenders have expired, an award can neither be signed nor fail.
  pub expired : replies awarded (signs expiry 1 ∷ fails expiry 1 ∷ []) ≡ Refused Expired ∷ Refused Expired ∷ []
  -- An award that doesn't exist can neither be signed nor fail.
  pub no_such_award : replies awarded (signs standstill_end 2 ∷ fails standstill_end 2 ∷ []) ≡ Refused (NoSuch things.Award) ∷ Refused (NoSuch things.Award) ∷ []
