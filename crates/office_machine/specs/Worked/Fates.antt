-- Worked examples of fates: what accepted commands make of each tender and each security, by receipt.
use Rattle.std.specs.Prelude.{◌++◌, ◌∷◌, ◌≡◌, List, None, Option, Some, [], codes, map, ℕ}
use Rattle.office_commands.specs.declared.commands.Command.TheVariants.{Modify, Withdraw}
use Rattle.office_values.specs.declared.refusal.Refusal.TheVariants.{AlreadyDecided, DeadlinePassed, NotOpenForTenders, NotSealed}
use Rattle.office_base.specs.declared.records.EnvelopeState.{EnvelopeState}
use Rattle.office_base.specs.declared.records.EnvelopeState.TheVariants as envelope
use Rattle.office_base.specs.declared.records.SecurityState.{SecurityState}
use Rattle.office_base.specs.declared.records.SecurityState.TheVariants as security_in
use Rattle.office_machine.specs.Fates.{fate_of_security, fate_of_tender}
use Rattle.office_machine.specs.Requests.{Request}
use Rattle.office_machine.specs.Worked.Office.{accepted, awards, by, cancels, deadline, decided, examines, fails, february, opens, presents, refused, second_end, setup, signs, standstill_end, states_of_securities, states_of_tenders, t1, t2}

-- T1 submits a tender (1), replaces it (2) and withdraws 2; it can't withdraw 2 again. T1 submits another (3), and T2 one (4). T2 withdraws too late, and after
-- the opening submits another (5). T1 wins and doesn't sign; then T2 wins and signs.
abbrev pub competition : List Request
competition =
    presents t1 february (codes "700")
    ∷ by t1 february (Modify 1 (codes "650"))
    ∷ by t1 february (Withdraw 2)
    ∷ by t1 february (Withdraw 2)
    ∷ presents t1 february (codes "500")
    ∷ presents t2 february (codes "550")
    ∷ by t2 deadline (Withdraw 4)
    ∷ opens deadline
    ∷ presents t2 deadline (codes "300")
    ∷ examines 3
    ∷ examines 4
    ∷ awards decided
    ∷ fails standstill_end 1
    ∷ awards standstill_end
    ∷ signs standstill_end 1
    ∷ signs second_end 2
    ∷ []

-- A sealed tender, and its notice is cancelled and then can't be opened.
abbrev pub cancellation : List Request
cancellation = presents t1 february (codes "700") ∷ cancels february ∷ opens deadline ∷ []

-- The fates of the tenders with these receipts, after the setup and these requests.
abbrev pub fates : List Request → List ℕ → List (Option EnvelopeState)
fates asked receipts = map (fate_of_tender (accepted (setup ++ asked))) receipts

-- The fates of the securities with these numbers, after the setup and these requests.
abbrev pub security_fates : List Request → List ℕ → List (Option SecurityState)
security_fates asked numbers = map (fate_of_security (accepted (setup ++ asked))) numbers

pub record FatesWorked : Type 0 where
  -- The refusals of the competition's commands.
  pub competition_is_told : refused setup competition
      ≡ None
      ∷ None
      ∷ None
      ∷ Some NotSealed
      ∷ None
      ∷ None
      ∷ Some DeadlinePassed
      ∷ None
      ∷ None
      ∷ None
      ∷ None
      ∷ None
      ∷ None
      ∷ None
      ∷ Some AlreadyDecided
      ∷ None
      ∷ []
  -- A replaced tender is withdrawn. A receipt that wasn't given out has no fate.
  pub fates_of_tenders : fates competition (0 ∷ 1 ∷ 2 ∷ 3 ∷ 4 ∷ 5 ∷ 6 ∷ [])
      ≡ None ∷ Some envelope.Withdrawn ∷ Some envelope.Withdrawn ∷ Some envelope.Opened ∷ Some envelope.Opened ∷ Some envelope.Returned ∷ None ∷ []
  -- One security came with receipts 1 and 2. The winner who didn't sign has forfeited security 3.
  pub fates_of_securities : security_fates competition (1 ∷ 2 ∷ 3 ∷ 4 ∷ 5 ∷ [])
      ≡ Some security_in.Returned ∷ None ∷ Some security_in.Forfeited ∷ Some security_in.Returned ∷ Some security_in.Returned ∷ []
  -- The rows of the tenders have the same states.
  pub rows_of_tenders : states_of_tenders (setup ++ competition)
      ≡ envelope.Withdrawn ∷ envelope.Withdrawn ∷ envelope.Opened ∷ envelope.Opened ∷ envelope.Returned ∷ []
  -- The rows of the securities have the same states.
  pub rows_of_securities : states_of_securities (setup ++ competition)
      ≡ security_in.Returned ∷ security_in.Forfeited ∷ security_in.Returned ∷ security_in.Returned ∷ []
  -- A cancelled notice isn't opened.
  pub cancellation_is_told : refused setup cancellation ≡ None ∷ None ∷ Some NotOpenForTenders ∷ []
  -- The sealed tender of the cancelled notice is returned.
  pub returned_by_it : fates cancellation (1 ∷ 2 ∷ []) ≡ Some envelope.Returned ∷ None ∷ []
  -- The security of the cancelled notice's tender is returned.
  pub security_returned_by_it : security_fates cancellation (1 ∷ 2 ∷ []) ≡ Some security_in.Returned ∷ None ∷ []
