-- Worked examples of replacing and withdrawing sealed tenders.
use Rattle.std.specs.Prelude.{◌++◌, ◌-◌, ◌∷◌, ◌≡◌, List, None, Some, [], codes, ℕ}
use Rattle.office_commands.specs.declared.commands.Command.TheVariants.{Modify, Withdraw}
use Rattle.office_values.specs.declared.refusal.Refusal.TheVariants.{DeadlinePassed, LimitReached, NoSuch, NotSealed, NotYourTender}
use Rattle.office_values.specs.declared.refusal.Thing.TheVariants as things
use Rattle.office_base.specs.Tables.{Tables}
use Rattle.office_base.specs.declared.records.EnvelopeState.TheVariants as envelope
use Rattle.office_base.specs.declared.records.SecurityState.TheVariants as security_in
use Rattle.office_machine.specs.Replies.{Received, Refused, Withdrew}
use Rattle.office_machine.specs.Requests.{Request}
use Rattle.office_machine.specs.Worked.Office.{by, deadline, february, office, presents, refused, setup, states_of_securities, states_of_tenders, t1, t2, replies, replies_in}

-- T1's first tender.
abbrev pub first : Request
first = presents t1 february (codes "500")

-- A tender is replaced.
abbrev pub modifies : List ℕ → ℕ → ℕ → Request
modifies who moment receipt = by who moment (Modify receipt (codes "450"))

-- A tender is withdrawn.
abbrev pub withdraws : List ℕ → ℕ → ℕ → Request
withdraws who moment receipt = by who moment (Withdraw receipt)

-- T1 submits a tender (1) and replaces it (2).
abbrev pub modified : List Request
modified = setup ++ first ∷ modifies t1 february 1 ∷ []

-- T1 withdraws the replacement.
abbrev pub withdrawn : List Request
withdrawn = modified ++ withdraws t1 february 2 ∷ []

-- The office with a sealed tender, after so many receipts were given out.
abbrev pub numbered : ℕ → Tables
numbered receipts = record (office (setup ++ first ∷ [])) { clock = record { moment = february; receipts = receipts; awards = 0 } }

pub record ReplacingWorked : Type 0 where
  -- A replacement has a receipt of its own, and the security of the tender that it replaces.
  pub has_new_receipt : replies (setup ++ first ∷ []) (modifies t1 february 1 ∷ []) ≡ Received (codes "450") 2 (Some 1) envelope.Sealed february ∷ []
  -- The replaced tender is withdrawn.
  pub old_is_withdrawn : states_of_tenders modified ≡ envelope.Withdrawn ∷ envelope.Sealed ∷ []
  -- Only the bytes of the replacement are kept.
  pub new_bytes_are_kept : (office modified).seals ≡ record { receipt = 2; bytes = codes "450" } ∷ []
  -- The one security is still held.
  pub security_is_held : states_of_securities modified ≡ security_in.Held ∷ []
  -- The replacement can be withdrawn.
  pub is_withdrawn : replies modified (withdraws t1 february 2 ∷ []) ≡ Withdrew 2 envelope.Withdrawn february ∷ []
  -- Then both tenders are withdrawn.
  pub both_are_withdrawn : states_of_tenders withdrawn ≡ envelope.Withdrawn ∷ envelope.Withdrawn ∷ []
  -- Then no bytes are kept.
  pub no_bytes_are_kept : (office withdrawn).seals ≡ []
  -- Then the security is returned.
  pub security_is_returned : states_of_securities withdrawn ≡ security_in.Returned ∷ []
  -- A withdrawn tender can't be withdrawn or replaced again, but the tenderer can submit another one.
  pub withdrawn_once : replies withdrawn (withdraws t1 february 2 ∷ withdraws t1 february 1 ∷ modifies t1 february 2 ∷ first ∷ [])
      ≡ Refused NotSealed ∷ Refused NotSealed ∷ Refused NotSealed ∷ Received (codes "500") 3 (Some 3) envelope.Sealed february ∷ []
  -- A tender can be replaced and withdrawn up to the last second before the deadline.
  pub at_last_second : replies (setup ++ first ∷ []) (modifies t1 (deadline - 1) 1 ∷ withdraws t1 (deadline - 1) 2 ∷ [])
      ≡ Received (codes "450") 2 (Some 1) envelope.Sealed (deadline - 1) ∷ Withdrew 2 envelope.Withdrawn (deadline - 1) ∷ []
  -- At the deadline a tender can be neither replaced nor withdrawn.
  pub not_at_deadline : replies (setup ++ first ∷ []) (modifies t1 deadline 1 ∷ withdraws t1 deadline 1 ∷ [])
      ≡ Refused DeadlinePassed ∷ Refused DeadlinePassed ∷ []
  -- An earlier moment doesn't help if a tender came at the deadline before.
  pub moment_runs_back : refused (setup ++ first ∷ []) (presents t2 deadline (codes "550") ∷ withdraws t1 (deadline - 1) 1 ∷ [])
      ≡ None ∷ Some DeadlinePassed ∷ []
  -- A tenderer can't change another tenderer's tender.
  pub not_anothers : replies (setup ++ first ∷ []) (modifies t2 february 1 ∷ withdraws t2 february 1 ∷ []) ≡ Refused NotYourTender ∷ Refused NotYourTender ∷ []
  -- A tender that doesn't exist can't be changed.
  pub no_such_tender : replies (setup ++ first ∷ []) (modifies t1 february 99 ∷ withdraws t1 february 99 ∷ [])
      ≡ Refused (NoSuch things.Tender) ∷ Refused (NoSuch things.Tender) ∷ []
  -- At most 10^9 receipts are given out. A withdrawal needs none.
  pub receipts_are_bounded : replies_in (numbered 1000000000) (modifies t1 february 1 ∷ withdraws t1 february 1 ∷ [])
      ≡ Refused LimitReached ∷ Withdrew 1 envelope.Withdrawn february ∷ []
