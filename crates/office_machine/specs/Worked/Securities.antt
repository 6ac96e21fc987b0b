-- Worked examples of tender securities: required, named, held, returned and forfeited.
use Rattle.std.specs.Prelude.{◌++◌, ◌+◌, ◌-◌, ◌∷◌, ◌≡◌, List, None, Option, Some, [], codes, false, ℕ}
use Rattle.office_commands.specs.declared.commands.Command.TheVariants.{Examine, Present, Withdraw}
use Rattle.office_commands.specs.declared.notice.Criteria.TheVariants.{Price}
use Rattle.office_commands.specs.declared.tender.NamedSecurity.{NamedSecurity}
use Rattle.office_values.specs.declared.refusal.Refusal.TheVariants.{SecurityMissing, SecurityNotAsked, SecurityTooSmall}
use Rattle.office_base.specs.declared.records.EnvelopeState.TheVariants as envelope
use Rattle.office_base.specs.declared.records.SecurityState.{SecurityState}
use Rattle.office_base.specs.declared.records.SecurityState.TheVariants as security_in
use Rattle.office_machine.specs.Replies.{Received, Refused}
use Rattle.office_machine.specs.Requests.{Request}
use Rattle.office_machine.specs.Worked.Office.{awarded, awards, by, by_clerk, cancels, deadline, decided, examines, fails, february, l1, l2, lot, money, n1, office, opens, presents, publish, second_end, secured, security, setup, signs, standstill_end, states_of_securities, t1, t2, tendered, tenderers, replies}

-- T1 submits a tender with this security, or with none.
abbrev pub presents_with : Option NamedSecurity → ℕ → Request
presents_with named moment = by t1 moment (Present n1 l1 named (codes "500"))

-- A notice whose lot asks for no security.
abbrev pub unsecured : List Request
unsecured = money ++ tenderers ++ publish Price (record (lot l1 600) { security = 0 } ∷ []) ∷ []

-- One lot has a contract, and the other lot of the notice isn't awarded yet.
abbrev pub two_lots : List Request
two_lots =
    money
    ++ tenderers
    ++ publish Price (lot l1 600 ∷ lot l2 400 ∷ [])
    ∷ presents t1 february (codes "500")
    ∷ by t2 february (Present n1 l2 security (codes "400"))
    ∷ opens deadline
    ∷ examines 1
    ∷ awards decided
    ∷ signs standstill_end 1
    ∷ []

-- The states of the securities of the winner and of the other tenderer, after the award and these requests.
abbrev pub states : List Request → List SecurityState
states rest = states_of_securities (awarded ++ rest)

pub record SecuritiesWorked : Type 0 where
  -- The lot asks for a security of 50, so a tender must name one.
  pub is_missing : replies setup (presents_with None february ∷ []) ≡ Refused SecurityMissing ∷ []
  -- A security of 49 is too small.
  pub is_too_small : replies setup (presents_with (secured (codes "G1") 49) february ∷ []) ≡ Refused SecurityTooSmall ∷ []
  -- A security of 50 is enough.
  pub is_enough : replies setup (presents_with (secured (codes "G1") 50) february ∷ []) ≡ Received (codes "500") 1 (Some 1) envelope.Sealed february ∷ []
  -- A security of 51 is enough.
  pub is_more : replies setup (presents_with (secured (codes "G1") 51) february ∷ []) ≡ Received (codes "500") 1 (Some 1) envelope.Sealed february ∷ []
  -- If the lot asks for no security, none may be named.
  pub is_not_asked : replies unsecured (presents_with security february ∷ presents_with None february ∷ [])
      ≡ Refused SecurityNotAsked ∷ Received (codes "500") 1 None envelope.Sealed february ∷ []
  -- A late tender is returned, whether or not it names a security.
  pub late_without : replies setup (presents_with None (deadline + 1) ∷ presents_with (secured (codes "G1") 1) (deadline + 1) ∷ [])
      ≡ Received (codes "500") 1 None envelope.Returned (deadline + 1)
      ∷ Received (codes "500") 2 (Some 2) envelope.Returned (deadline + 1)
      ∷ []
  -- The security that was named with a late tender is returned.
  pub late_is_returned : states_of_securities (setup ++ presents_with None (deadline + 1) ∷ presents_with (secured (codes "G1") 1) (deadline + 1) ∷ [])
      ≡ security_in.Returned ∷ []
  -- The row of a security has the number of the tender's receipt.
  pub row_is : (office (setup ++ presents_with security february ∷ [])).securities
      ≡ record { security = 1; tenderer = t1; notice = n1; lot = l1; reference = codes "G1"; amount = 50; state = security_in.Held } ∷ []
  -- After the award all securities are still held, even that of the tenderer who lost.
  pub held_after_award : states [] ≡ security_in.Held ∷ security_in.Held ∷ []
  -- At the signing all securities of the lot are returned.
  pub returned_at_signing : states (signs standstill_end 1 ∷ []) ≡ security_in.Returned ∷ security_in.Returned ∷ []
  -- A winner who doesn't sign forfeits the security.
  pub forfeited : states (fails standstill_end 1 ∷ []) ≡ security_in.Forfeited ∷ security_in.Held ∷ []
  -- A cancellation doesn't return a forfeited security.
  pub stays_forfeited : states (fails standstill_end 1 ∷ cancels standstill_end ∷ []) ≡ security_in.Forfeited ∷ security_in.Returned ∷ []
  -- A signing by the next best tenderer doesn't return a forfeited security.
  pub stays_forfeited_at_signing : states (fails standstill_end 1 ∷ awards standstill_end ∷ signs second_end 2 ∷ [])
      ≡ security_in.Forfeited ∷ security_in.Returned ∷ []
  -- A signing on one lot doesn't return the securities of another lot.
  pub other_lot_is_held : states_of_securities two_lots ≡ security_in.Returned ∷ security_in.Held ∷ []
  -- If nobody wins the lot, all its securities are returned.
  pub returned_to_all : states_of_securities
      (tendered ++ opens deadline ∷ by_clerk decided (Examine 1 false None) ∷ by_clerk decided (Examine 2 false None) ∷ awards decided ∷ [])
      ≡ security_in.Returned ∷ security_in.Returned ∷ []
  -- A withdrawal before the deadline returns the security.
  pub withdrawn_in_time : states_of_securities (tendered ++ by t1 (deadline - 1) (Withdraw 1) ∷ []) ≡ security_in.Returned ∷ security_in.Held ∷ []
  -- A withdrawal at the deadline is refused, and the security is still held.
  pub withdrawn_too_late : states_of_securities (tendered ++ by t1 deadline (Withdraw 1) ∷ []) ≡ security_in.Held ∷ security_in.Held ∷ []
