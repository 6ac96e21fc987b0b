-- In every reached office, each row that another row refers to exists.
use Rattle.office_machine.proofs.Names.{◌≡◌, ℕ, true, List, Option, Some, None, is_some, refl, sym, ◌∙◌, ap, subst, IsSome, option_and_then, option_map, row_at, Caller, Command, Tables, IsSorted, no_tables, find_notice, notice_at, after_puts, first_of, NoticeRow, AreOfNotices, Means, Given, IsRegistered, may_give, publication_puts, command_tests, effect, next, puts_of, publication, release_row, with_merges, CompiledRow, HaveParents, ParentsAreThere, published_for}
use Rattle.office_machine.proofs.Accounts.Aside.{after-append}
use Rattle.office_machine.proofs.Parents.ParentsPut.{Grows, grows-puts, AllParents, parents_after, parents-append}
use Rattle.office_machine.proofs.Commands.{lawful}
use Rattle.office_machine.proofs.Commands.Tail.{CountsNext, with_notice}
use Rattle.office_machine.proofs.Runs.{along}
use Rattle.office_machine.proofs.Passed.{allowed_by, may_by}
use Rattle.office_machine.proofs.Rows.Keyed.{found_put}
use Rattle.office_machine.proofs.Rows.SortedTables.{sorted}
use Rattle.office_machine.proofs.Rows.Keyed as keyed

module _ (means : Means) (s : Tables) (moment : ℕ) (caller : Caller) (order : IsSorted s) (have : HaveParents s s) (registered : IsRegistered caller s.tenderers) where
  abbrev given : Command → Given
  given command = record { before = s; moment = moment; caller = caller; command = command }

  abbrev after : Command → Tables
  after command = next means (given command)

  -- rows that exist after the effect still exist after the release
  later : (command : Command) → Grows (after_puts (effect means.readings (given command)) s) (after command)
  later command =
      subst (Grows (after_puts (effect means.readings (given command)) s)) (sym (after-append (effect means.readings (given command)) (publication_puts (publication means (given command))) s))
      (grows-puts (publication_puts (publication means (given command))) (after_puts (effect means.readings (given command)) s))

  -- the notice that a command counts exists
  counted_there : (key : Option (List ℕ)) (row : Option NoticeRow) (rows : List NoticeRow) → CountsNext s key row → (n : List ℕ) → key ≡ Some n → IsSome (find_notice (with_notice row rows) n)
  counted_there None row rows counts n e = cc
  counted_there (Some k) None rows counts n e = absurd counts
  counted_there (Some k) (Some row) rows counts n e =
      let one : k ≡ n = cc in
      ap (λ q. is_some (find_notice (with_notice (Some row) rows) q)) (sym (counts.0 ∙ one)) ∙ ap is_some (found_put keyed.notices rows row)

  published_there : (command : Command) → first_of (command_tests (given command)) ≡ None → (n : List ℕ) → published_for s command ≡ Some n → IsSome (notice_at n (after command))
  published_there command allowed n e =
      let tail = (lawful command).tail means.readings s moment caller have allowed in
      (later command).notices n (subst (λ rows. IsSome (find_notice rows n)) (sym (tail.writes.notices s)) (counted_there (published_for s command) tail.notice s.notices tail.counts n e))

  publication_has : (u : Tables) (x : Given) (key text : Option (List ℕ)) → ((n : List ℕ) → key ≡ Some n → IsSome (notice_at n u)) → AllParents u (publication_puts (option_and_then (λ n. option_map (release_row x n) text) key))
  publication_has u x None text there = tt
  publication_has u x (Some n) None there = tt
  publication_has u x (Some n) (Some text) there = (record { notice = there n refl }, tt)

  pub parents_kept : (command : Command) → may_give caller command ≡ true → first_of (command_tests (given command)) ≡ None → HaveParents (after command) (after command)
  parents_kept command may allowed =
      parents_after (puts_of means (given command)) s have
      (parents-append (after command) (effect means.readings (given command)) (publication_puts (publication means (given command))) ((lawful command).parents means.readings s moment caller order have registered may allowed (after command) (grows-puts (puts_of means (given command)) s) (later command)) (publication_has (after command) (given command) (published_for s command) (means.release (given command)) (published_there command allowed)))

none_have : HaveParents no_tables no_tables
unfolding row_at
none_have = record {
  lots = λ k r found. absurd (let none : None ≡ Some r = found in cc);
  envelopes = λ k r found. absurd (let none : None ≡ Some r = found in cc);
  securities = λ k r found. absurd (let none : None ≡ Some r = found in cc);
  awards = λ k r found. absurd (let none : None ≡ Some r = found in cc);
  contracts = λ k r found. absurd (let none : None ≡ Some r = found in cc);
  entries = λ k r found. absurd (let none : None ≡ Some r = found in cc);
  performances = λ k r found. absurd (let none : None ≡ Some r = found in cc);
  releases = λ k r found. absurd (let none : None ≡ Some r = found in cc);
  merges = λ k r found. absurd (let none : None ≡ Some r = found in cc);
  late_rules = λ k r found. absurd (let none : None ≡ Some r = found in cc);
}

-- merges of releases of its notices beside the office don't change this
have_beside : (trees : List CompiledRow) (t : Tables) → AreOfNotices trees t → HaveParents t t → HaveParents (with_merges trees t) (with_merges trees t)
have_beside trees t of_notices have = record {
  lots = λ k l found. let h = have.lots k l found in record { notice = h.notice; line = h.line };
  envelopes = λ k e found. let h = have.envelopes k e found in record { notice = h.notice; lot = h.lot; tenderer = h.tenderer; security = h.security };
  securities = λ k s found. let h = have.securities k s found in record { notice = h.notice; lot = h.lot; tenderer = h.tenderer };
  awards = λ k a found. let h = have.awards k a found in record { notice = h.notice; lot = h.lot; envelope = h.envelope };
  contracts = λ k c found. let h = have.contracts k c found in record { notice = h.notice; lot = h.lot; tenderer = h.tenderer };
  entries = λ k e found. record { contract = (have.entries k e found).contract };
  performances = λ k w found. record { contract = (have.performances k w found).contract };
  releases = λ k r found. record { notice = (have.releases k r found).notice };
  merges = λ k r found. record { notice = of_notices k r found };
  late_rules = λ k r found. record { notice = (have.late_rules k r found).notice };
}

pub parents_there : ParentsAreThere
parents_there means = along means (λ xs t. HaveParents t t) none_have (λ trees in_order xs. have_beside trees)
    (λ xs x accepted have. parents_kept means x.before x.moment x.caller (sorted means xs x.before accepted.reached) have accepted.given.1 x.command (may_by x accepted.allowed) (allowed_by x accepted.allowed))
