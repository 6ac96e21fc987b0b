-- Worked examples of performance securities: required at the signing, held, and returned or forfeited at the end of the contract.
use Rattle.std.specs.Prelude.{◌++◌, ◌∷◌, ◌≡◌, List, None, Option, Some, [], codes, map, ℕ}
use Rattle.office_commands.specs.declared.commands.Command.TheVariants.{End, Publish, Sign}
use Rattle.office_commands.specs.declared.contract.How.TheVariants as hows
use Rattle.office_commands.specs.declared.notice.Criteria.TheVariants.{Price}
use Rattle.office_commands.specs.declared.tender.NamedSecurity.{NamedSecurity}
use Rattle.office_values.specs.declared.refusal.Refusal.TheVariants.{ContractEnded, SecurityMissing, SecurityNotAsked, SecurityTooSmall}
use Rattle.office_base.specs.declared.records.PerformanceRow.{PerformanceRow}
use Rattle.office_base.specs.declared.records.SecurityState.{SecurityState}
use Rattle.office_base.specs.declared.records.SecurityState.TheVariants as security_in
use Rattle.office_machine.specs.Fates.{fate_of_performance}
use Rattle.office_machine.specs.Replies.{Refused, Signed}
use Rattle.office_machine.specs.Requests.{Request}
use Rattle.office_machine.specs.Worked.Office.{accepted, awarded, awards, by_clerk, deadline, decided, demanding, examines, february, l1, lot, money, n1, office, opens, pots, pots_are, presents, published, secured, standstill_end, t1, tenderers, replies}

-- A notice asks for a performance security of 70, and its lot is awarded at 600.
abbrev pub won : List Request
won =
    money
    ++ tenderers
    ++ by_clerk published (Publish n1 (demanding deadline Price (lot l1 600 ∷ [])))
    ∷ presents t1 february (codes "600")
    ∷ opens deadline
    ∷ examines 1
    ∷ awards decided
    ∷ []

-- The contract is signed with this security.
abbrev pub signs_with : Option NamedSecurity → Request
signs_with named = by_clerk standstill_end (Sign 1 named)

-- The performance security P1 of this amount.
abbrev pub p1 : ℕ → Option NamedSecurity
p1 amount = secured (codes "P1") amount

-- The contract is ended.
abbrev pub ends : Rattle.office_commands.specs.declared.contract.How.How → Request
ends how = by_clerk standstill_end (End 1 how)

-- The states of all performance securities.
abbrev pub states_of_performances : List Request → List SecurityState
states_of_performances asked = map (λ (w : PerformanceRow). w.state) (office asked).performances

pub record PerformancesWorked : Type 0 where
  -- A signing needs a security, 69 are too little, and 70 are enough.
  pub is_asked : replies won (signs_with None ∷ signs_with (p1 69) ∷ signs_with (p1 70) ∷ [])
      ≡ Refused SecurityMissing ∷ Refused SecurityTooSmall ∷ Signed 1 4 standstill_end ∷ []
  -- The security has the number of its contract, and is held.
  pub row_is : (office (won ++ signs_with (p1 70) ∷ [])).performances ≡ record { contract = 1; reference = codes "P1"; amount = 70; state = security_in.Held } ∷ []
  -- A regular end of the contract returns the security.
  pub returned : states_of_performances (won ++ signs_with (p1 70) ∷ ends hows.Regular ∷ []) ≡ security_in.Returned ∷ []
  -- A default forfeits the security; a second end is refused and changes nothing.
  pub forfeited : states_of_performances (won ++ signs_with (p1 70) ∷ ends hows.ForDefault ∷ ends hows.Regular ∷ []) ≡ security_in.Forfeited ∷ []
  pub ended_once : replies (won ++ signs_with (p1 70) ∷ ends hows.ForDefault ∷ []) (ends hows.Regular ∷ []) ≡ Refused ContractEnded ∷ []
  -- If the notice asks for no performance security, none may be named, and no row exists.
  pub isnt_asked : replies awarded (signs_with (p1 70) ∷ signs_with None ∷ []) ≡ Refused SecurityNotAsked ∷ Signed 1 4 standstill_end ∷ []
  pub none_there : (office (awarded ++ signs_with None ∷ ends hows.Regular ∷ [])).performances ≡ []
  -- A performance security moves no money.
  pub moves_nothing : pots (won ++ signs_with (p1 70) ∷ ends hows.ForDefault ∷ []) ≡ pots_are 1000 1000 0 0 0
  -- The fates that the commands give agree with the rows.
  pub held_fate : fate_of_performance (accepted (won ++ signs_with (p1 70) ∷ [])) 1 ≡ Some security_in.Held
  pub forfeited_fate : fate_of_performance (accepted (won ++ signs_with (p1 70) ∷ ends hows.ForDefault ∷ [])) 1 ≡ Some security_in.Forfeited
  pub no_fate : fate_of_performance (accepted (awarded ++ signs_with None ∷ ends hows.Regular ∷ [])) 1 ≡ None
