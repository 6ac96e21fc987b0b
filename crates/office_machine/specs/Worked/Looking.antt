-- Worked examples of queries: which callers see a tender, a security, the register and the minutes before the opening.
use Rattle.std.specs.Prelude.{◌++◌, ◌∷◌, ◌≡◌, List, Some, [], codes, ℕ}
use Rattle.office_commands.specs.declared.command.Caller.{Caller}
use Rattle.office_commands.specs.declared.command.Caller.TheVariants.{Clerk, Public, Tenderer}
use Rattle.office_commands.specs.declared.commands.Command.TheVariants.{Modify}
use Rattle.office_commands.specs.declared.queries.Query.{Query}
use Rattle.office_commands.specs.declared.queries.Query.TheVariants as queries
use Rattle.office_values.specs.declared.refusal.Refusal.TheVariants.{Forbidden, NoSuch, NotOpened, NotYourTender}
use Rattle.office_values.specs.declared.refusal.Thing.TheVariants as things
use Rattle.office_base.specs.declared.records.EnvelopeState.TheVariants as envelope
use Rattle.office_base.specs.declared.records.SecurityState.TheVariants as security_in
use Rattle.office_machine.specs.Replies.{Package, Refused, Registry, Security, Tender}
use Rattle.office_machine.specs.Requests.{Request}
use Rattle.office_machine.specs.Worked.Office.{by, february, l1, looks, n1, n2, notice, presents, security, setup, t1, t2, replies}

-- A query for a tender.
abbrev pub sees_tender : Caller → ℕ → Request
sees_tender caller receipt = looks caller february (queries.Tender receipt)

-- A query for a security.
abbrev pub sees_security : Caller → ℕ → Request
sees_security caller security = looks caller february (queries.Security security)

-- A query for the register of a notice.
abbrev pub sees_register : Caller → List ℕ → Request
sees_register caller notice = looks caller february (queries.Register notice)

-- A query by the public.
abbrev pub public_sees : Query → Request
public_sees query = looks Public february query

-- T1's tender is replaced: receipt 2 carries security 1.
abbrev pub modified : List Request
modified = setup ++ presents t1 february (codes "500") ∷ by t1 february (Modify 1 (codes "4500")) ∷ []

pub record LookingWorked : Type 0 where
  -- A tenderer sees its own tender with its digest, and without its bytes.
  pub own_tender : replies modified (sees_tender (Tenderer t1) 1 ∷ sees_tender (Tenderer t1) 2 ∷ [])
      ≡ Tender (codes "500") 3 n1 l1 february 1 (Some 1) envelope.Withdrawn
      ∷ Tender (codes "4500") 4 n1 l1 february 2 (Some 1) envelope.Sealed
      ∷ []
  -- Nobody else sees the tender, not even the clerk.
  pub others_tender : replies modified (sees_tender (Tenderer t2) 2 ∷ sees_tender Clerk 2 ∷ sees_tender Public 2 ∷ [])
      ≡ Refused NotYourTender ∷ Refused Forbidden ∷ Refused Forbidden ∷ []
  -- A tender that didn't come in doesn't exist.
  pub no_such_tender : replies modified (sees_tender (Tenderer t1) 99 ∷ []) ≡ Refused (NoSuch things.Tender) ∷ []
  -- The tenderer who named a security and the clerk see it.
  pub security_is_held : replies modified (sees_security (Tenderer t1) 1 ∷ sees_security Clerk 1 ∷ [])
      ≡ Security 50 (codes "G1") 1 security_in.Held t1 ∷ Security 50 (codes "G1") 1 security_in.Held t1 ∷ []
  -- Nobody else sees the security. It has only the number of the first receipt.
  pub others_security : replies modified (sees_security (Tenderer t2) 1 ∷ sees_security Public 1 ∷ sees_security Clerk 2 ∷ [])
      ≡ Refused NotYourTender ∷ Refused Forbidden ∷ Refused (NoSuch things.Security) ∷ []
  -- The clerk sees the register, which shows no digest and no tenderer.
  pub register_is_seen : replies modified (sees_register Clerk n1 ∷ [])
      ≡ Registry n1
      (record { receipt = 1; lot = l1; moment = february; length = 3; state = envelope.Withdrawn }
      ∷ record { receipt = 2; lot = l1; moment = february; length = 4; state = envelope.Sealed }
      ∷ [])
      ∷ []
  -- Nobody else sees the register.
  pub register_is_the_clerks : replies modified (sees_register (Tenderer t1) n1 ∷ sees_register Public n1 ∷ sees_register Clerk n2 ∷ [])
      ≡ Refused Forbidden ∷ Refused Forbidden ∷ Refused (NoSuch things.Notice) ∷ []
  -- There are no minutes before the opening.
  pub no_minutes_yet : replies modified (public_sees (queries.Minutes n1) ∷ public_sees (queries.Minutes n2) ∷ [])
      ≡ Refused NotOpened ∷ Refused (NoSuch things.Notice) ∷ []
  -- Everyone sees the packages of published releases.
  pub packages_are_seen : replies modified (public_sees (queries.Releases n1) ∷ public_sees (queries.Record n1) ∷ public_sees (queries.Record n2) ∷ [])
      ≡ Package [] ∷ Package [] ∷ Refused (NoSuch things.Notice) ∷ []
