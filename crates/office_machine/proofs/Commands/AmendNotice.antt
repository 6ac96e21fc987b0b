-- The amendment of a notice keeps the laws of the office.
pub mod Gentle
use Rattle.office_machine.proofs.Names.{arith, ◌≡◌, ℕ, List, [], ◌∷◌, Option, Some, None, refl, max, amended, amend_notice_rows, amend_notice_tests, amend_notice_puts, AmendNotice, has_all_releases, Tables, notice_at, ClockRow, NoticeRow, AllByRecursion, time_of}
use Rattle.office_machine.proofs.Worlds.WorldsPut.{IsPlain, plain_pairs}
use Rattle.office_machine.proofs.Commands.Lawful.{Lawful, Idle, given}
use Rattle.office_machine.proofs.Parents.ParentsPut.{AllParents}
use Rattle.office_machine.proofs.Passed.{none_holds, not_false, neither, witness}
use Rattle.office_machine.proofs.FateLaws.QuietFates.{kept_after, one_more, notice_stands}
use Rattle.office_machine.proofs.FateLaws.Seen.{seen, IsQuiet}
use Rattle.office_machine.proofs.Commands.Tail.{moved, loud}
use Rattle.office_machine.proofs.Commands.AmendNotice.Gentle.{amend_notice_gently}

-- the rows that its rows refer to exist
parents_of : (u : Tables) (clock : ClockRow) (t : ℕ) (notice : Option NoticeRow) (deadline : ℕ) → AllParents u (amend_notice_puts (record { notice = notice; clock = clock }) t deadline)
parents_of u clock t None deadline = tt
parents_of u clock t (Some n) deadline = (tt, (tt, tt))

-- the state of the notice remains as it was
quiet_puts : (s : Tables) (t : ℕ) (key : List ℕ) (deadline : ℕ) (notice : Option NoticeRow) → notice_at key s ≡ notice
    → AllByRecursion (IsQuiet (seen s) s.clock.receipts) (amend_notice_puts (record { notice = notice; clock = s.clock }) t deadline)
quiet_puts s t key deadline None is = tt
quiet_puts s t key deadline (Some n) is = (notice_stands s key n is, (refl, tt))

-- in both worlds the puts are the same
plain : (clock : ClockRow) (t : ℕ) (notice : Option NoticeRow) (deadline : ℕ) → AllByRecursion IsPlain (amend_notice_puts (record { notice = notice; clock = clock }) t deadline)
plain clock t None deadline = tt
plain clock t (Some n) deadline = (tt, (tt, tt))

pub amend_notice : (notice : List ℕ) (deadline : ℕ) (rationale : List ℕ) → Lawful (AmendNotice notice deadline rationale)
amend_notice notice deadline rationale = record {
  accounts = Idle refl (λ s moment caller xs. record { moves_none = refl; held = λ _. refl; none_brought = λ _. refl; none_taken = λ _. refl });
  fates = λ readings xs s moment caller kept own allowed.
      let x = given s moment caller (AmendNotice notice deadline rationale) in
      kept_after readings (x ∷ xs) _ s (quiet_puts s (time_of x) notice deadline (notice_at notice s) refl) (one_more readings xs x s kept refl (λ r. refl) (λ q. refl));
  tail = λ readings s moment caller have allowed.
      let now : ℕ = max moment s.clock.moment in
      let tests = none_holds (amend_notice_tests (amend_notice_rows s notice) now deadline) allowed in
      let n = witness (notice_at notice s) (not_false _ tests.0) in
      moved refl (λ i. amend_notice_puts (record { notice = n.1 i; clock = s.clock }) now deadline)
      (loud notice n.0 (amended deadline n.0) _ [] n.1 (neither _ (has_all_releases (notice_at notice s)) tests.1.1.1.1.0).1 refl refl refl refl tt refl (omega arith));
  parents = λ readings s moment caller order have registered may allowed u grown later. parents_of u s.clock _ (notice_at notice s) deadline;
  lacks = λ xs s moment caller whole allowed. refl;
  alike = λ th W s es' ss' all seals readings t caller quiet. plain_pairs th W (amend_notice_puts (record { notice = notice_at notice s; clock = s.clock }) t deadline) (plain s.clock t (notice_at notice s) deadline);
  gentle = amend_notice_gently notice deadline rationale;
}
