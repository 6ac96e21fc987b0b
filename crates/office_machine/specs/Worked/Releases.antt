-- Worked examples of releases: which commands publish one, and how many a notice may have.
use Rattle.std.specs.Prelude.{◌++◌, ◌∷◌, ◌≡◌, List, Some, [], codes, map, replicate, ℕ}
use Rattle.office_commands.specs.declared.commands.Command.TheVariants.{AmendContract, AmendNotice, End, Pay}
use Rattle.office_commands.specs.declared.contract.ChangeKind.TheVariants as changes
use Rattle.office_commands.specs.declared.contract.How.TheVariants.{Regular}
use Rattle.office_values.specs.declared.refusal.Refusal.TheVariants.{LimitReached}
use Rattle.office_base.specs.Tables.{Tables}
use Rattle.office_base.specs.declared.records.EnvelopeState.TheVariants as envelope
use Rattle.office_base.specs.declared.records.NoticeRow.{NoticeRow}
use Rattle.office_base.specs.declared.records.ReleaseRow.{ReleaseRow}
use Rattle.office_machine.specs.Replies.{OpenedAll, Received, Refused}
use Rattle.office_machine.specs.Requests.{Request}
use Rattle.office_machine.specs.Worked.Office.{awarded, awards, by_clerk, cancels, deadline, decided, examined, fails, february, n1, next_day, office, opens, presents, published, setup, signs, standstill_end, t1, tendered, replies_in}

-- The office after these requests, when the notice has so many releases.
abbrev pub with_releases : List Request → ℕ → Tables
with_releases asked releases = record (office asked) { notices = map (λ (n : NoticeRow). record n { releases = releases }) (office asked).notices }

-- The office after these requests, when the notice has as many releases as it may have.
abbrev pub full : List Request → Tables
full asked = with_releases asked 9999

-- The contract is signed.
abbrev pub signed : List Request
signed = awarded ++ signs standstill_end 1 ∷ []

-- The contract is raised.
abbrev pub raise : Request
raise = by_clerk standstill_end (AmendContract 1 (codes "E1") changes.Raise 1 (codes "Changed"))

-- The contract is paid.
abbrev pub pay : Request
pay = by_clerk standstill_end (Pay 1 (codes "E1") 1)

-- The contract is ended.
abbrev pub end : Request
end = by_clerk standstill_end (End 1 Regular)

-- The numbers of the stored releases.
abbrev pub numbers : List Request → List ℕ
numbers asked = map (λ (r : ReleaseRow). r.seq) (office asked).releases

-- The number of releases that each notice's row counts.
abbrev pub counts : List Request → List ℕ
counts asked = map (λ (n : NoticeRow). n.releases) (office asked).notices

-- The moments of the stored releases.
abbrev pub moments : List Request → List ℕ
moments asked = map (λ (r : ReleaseRow). r.moment) (office asked).releases

-- An end of the contract whose moment is before that of the signing.
abbrev pub earlier_end : Request
earlier_end = by_clerk february (End 1 Regular)

pub record ReleasesWorked : Type 0 where
  -- Publishing, opening, awarding and signing publish one release each. Submitting and examining tenders publish none.
  pub four_releases : numbers signed ≡ 1 ∷ 2 ∷ 3 ∷ 4 ∷ []
  -- The notice's row counts the releases.
  pub are_counted : counts signed ≡ 4 ∷ []
  -- The row counts the releases of a raise and of an end.
  pub counted_on : counts (signed ++ raise ∷ end ∷ []) ≡ 6 ∷ []
  -- The row counts the release of a payment.
  pub payment_is_counted : counts (signed ++ pay ∷ []) ≡ 5 ∷ []
  -- The row counts the releases of a failure and of a cancellation.
  pub failing_is_counted : counts (awarded ++ fails standstill_end 1 ∷ cancels standstill_end ∷ []) ≡ 5 ∷ []
  -- Each release has the moment of its command.
  pub at_moments : moments signed ≡ published ∷ deadline ∷ decided ∷ standstill_end ∷ []
  -- A command with an earlier moment gets the moment of the last accepted one. So neither the moments of releases nor the clock go back.
  pub never_fall : moments (signed ++ earlier_end ∷ []) ≡ published ∷ deadline ∷ decided ∷ standstill_end ∷ standstill_end ∷ []
  pub clock_stands : (office (signed ++ earlier_end ∷ [])).clock.moment ≡ standstill_end
  -- A notice has at most 9,999 releases: then its deadline can't be moved, and it can be neither cancelled nor opened.
  pub no_more_of_notice : replies_in (full tendered) (by_clerk february (AmendNotice n1 next_day (codes "More time")) ∷ cancels february ∷ opens deadline ∷ [])
      ≡ replicate 3 (Refused LimitReached)
  -- Then no lot can be awarded.
  pub no_award : replies_in (full examined) (awards decided ∷ []) ≡ Refused LimitReached ∷ []
  -- Then an award can neither be signed nor fail.
  pub no_signing : replies_in (full awarded) (signs standstill_end 1 ∷ fails standstill_end 1 ∷ []) ≡ replicate 2 (Refused LimitReached)
  -- Then a contract can't be raised, paid or ended.
  pub no_more_of_contract : replies_in (full signed) (raise ∷ pay ∷ end ∷ []) ≡ replicate 3 (Refused LimitReached)
  -- A command that publishes nothing is still accepted.
  pub tenders_come : replies_in (full setup) (presents t1 february (codes "500") ∷ []) ≡ Received (codes "500") 1 (Some 1) envelope.Sealed february ∷ []
  -- The last release is the 9,999th.
  pub last_one : replies_in (with_releases tendered 9998) (opens deadline ∷ []) ≡ OpenedAll n1 2 9999 deadline ∷ []
