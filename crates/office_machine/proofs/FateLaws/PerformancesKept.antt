-- The performance securities are those that were named at accepted signings, each in the state of its fate.
use Rattle.office_machine.proofs.Names.{◌≡◌, ℕ, ◌<◌, Bool, true, false, cond, not, List, [], ◌∷◌, ◌++◌, filter, Option, Some, None, is_some, IsSome, nat_lt, max, option_map, option_and_then, refl, sym, ap, ◌∙◌, subst, inl, inr, arith, nat_tests, AllByRecursion, nat_cmp_total, nat_cmp-IsAntisymmetric, nat_cmp, eq_by_cmp, NamedSecurity, Caller, How, Command, Sign, End, Refusal, AwardRow, NoticeRow, ContractRow, SecurityRow, PerformanceRow, SecurityState, is_held, Tables, performance_key, performance_at, contract_at, notice_at, find_contract, find_performance, put_contract, named_for, named_after, performance_named, performance_decided, performance_after, fate_of_performance, ended_fate, HasPerformance, first_of, notice_of_award, envelope_of_award, securities_of_award, put_if, performance_settled, settled_performance, is_held_security, security_returned, securities_returned, ReleaseRow, CompiledRow, award_at, entries_of_contract, after_puts, contract_row, is_missing, sign_parts, performance_put, sign_puts, tenderer_in, end_parts, ended_contract, ended_state, end_puts, isnt_active, is_active, Given, Means, Reaches, time_of, effect, publication, publication_puts, command_tests, with_merges, PerformancesHaveFates, PerformancesAreKept, HaveParents, HavePerformances, PerformancesAreThere, published_for, Put, found_key, row_at-row_put}
use Rattle.office_commands.specs.declared.contract.How.TheVariants as hows
use Rattle.office_base.specs.declared.records.SecurityState.TheVariants as security
use Rattle.award_core.specs.Rules.Sign.{performance_made}
use Rattle.office_machine.proofs.Runs.{along}
use Rattle.office_machine.proofs.Commands.Footprint.{TableName, Contracts, Performances, Securities, leaves, on-append, on-if, on-map, touches}
use Rattle.office_machine.proofs.Commands.Tail.{HasTail, bond_for, is_bond, is_touched, with_performance}
use Rattle.office_machine.proofs.Accounts.Aside.{after-append}
use Rattle.office_machine.proofs.FateLaws.Added.{equal_numbers}
use Rattle.office_machine.proofs.Accounts.Kept.{AccountsStand}
use Rattle.office_machine.proofs.Accounts.AccountsKept.{all_kept}
use Rattle.office_machine.proofs.Parents.ParentsThere.{parents_there}
use Rattle.office_machine.proofs.Parents.PerformancesAsked.{asks_as_before, of_old}
use Rattle.office_machine.proofs.Parents.SpokenOf.{OfAward, OfContract, of_award, of_contract}
use Rattle.office_machine.proofs.Passed.{none_holds, allowed_by, not_and, not_false, test_of, witness}
use Rattle.office_machine.proofs.Rows.Keyed.{found}
use Rattle.office_machine.proofs.FateLaws.Matched.{same_itself}
use Rattle.office_machine.proofs.Untouched.{tail_of}
use Rattle.office_machine.proofs.Rows.Keyed as keyed
use Rattle.office_machine.proofs.Rows.RowsChanged.{row_at-changed_put}

-- ---- one row, in any tables

-- after a command that names nothing for the contract, the row has the state that the command decides
pub goes_on : (c : ℕ) (named : Option NamedSecurity) (fate : Option SecurityState) (decided : SecurityState) (row : Option PerformanceRow) → HasPerformance c named fate row
    → HasPerformance c (named_after named None) (performance_after fate (named_after named None) decided) (option_map (λ (w : PerformanceRow). record w { state = cond (is_held w.state) decided w.state }) row)
goes_on c None fate decided None h = subst (λ f. performance_after f None decided ≡ None) (sym h) refl
goes_on c None fate decided (Some w) h = absurd h
goes_on c (Some named) fate decided None h = absurd h
goes_on c (Some named) fate decided (Some w) h =
    record {
      contract_is = h.contract_is;
      reference_is = h.reference_is;
      amount_is = h.amount_is;
      fate_is = ap (λ f. performance_after f (Some named) decided) h.fate_is ∙ by w.state;
    }
  where
    by : (state : SecurityState) → performance_after (Some state) (Some named) decided ≡ Some (cond (is_held state) decided state)
    by security.Held = refl
    by security.Returned = refl
    by security.Forfeited = refl

-- a security that is named for the first time is held
pub begins : (c : ℕ) (named : Option NamedSecurity) (fate : Option SecurityState) (decided : SecurityState) (new : NamedSecurity) → HasPerformance c named fate None
    → HasPerformance c (named_after named (Some new)) (performance_after fate (named_after named (Some new)) decided) (Some (record { contract = c; reference = new.reference; amount = new.amount; state = security.Held }))
begins c (Some named) fate decided new h = absurd h
begins c None fate decided new h = record {
  contract_is = refl;
  reference_is = refl;
  amount_is = refl;
  fate_is = ap (λ f. performance_after f (Some new) decided) h;
}

-- a held security about which nothing is decided remains
pub stays : (row : Option PerformanceRow) → option_map (λ (w : PerformanceRow). record w { state = cond (is_held w.state) security.Held w.state }) row ≡ row
stays None = refl
stays (Some w) = ap (λ s. Some (record w { state = s })) (by w.state)
  where
    by : (state : SecurityState) → cond (is_held state) security.Held state ≡ state
    by security.Held = refl
    by security.Returned = refl
    by security.Forfeited = refl

-- a command that names nothing and decides nothing for a contract keeps the facts about its row
pub one_idle : (c : ℕ) (x : Given) (xs : List Given) (row : Option PerformanceRow) → named_for x.command c ≡ None → performance_decided x.command c ≡ security.Held
    → HasPerformance c (performance_named xs c) (fate_of_performance xs c) row → HasPerformance c (performance_named (x ∷ xs) c) (fate_of_performance (x ∷ xs) c) row
one_idle c x xs row none undecided h =
    subst (λ n. HasPerformance c (named_after (performance_named xs c) n) (performance_after (fate_of_performance xs c) (named_after (performance_named xs c) n) (performance_decided x.command c)) row) (sym none)
    (subst (λ d. HasPerformance c (named_after (performance_named xs c) None) (performance_after (fate_of_performance xs c) (named_after (performance_named xs c) None) d) row) (sym undecided)
    (subst (λ r. HasPerformance c (named_after (performance_named xs c) None) (performance_after (fate_of_performance xs c) (named_after (performance_named xs c) None) security.Held) r) (stays row)
    (goes_on c (performance_named xs c) (fate_of_performance xs c) security.Held row h)))

-- ---- command by command

-- the performance securities have their fates, and each contract has the one that its notice asks for
record AreKept (xs : List Given) (t : Tables) : Type 0 where
  pub fates : PerformancesHaveFates xs t
  pub asked : HavePerformances t

-- the performance securities are unchanged, and each contract still has the one that its notice asks for
module _ (x : Given) (xs : List Given) (ps : List Put) (kept : AreKept xs x.before) (same : (after_puts ps x.before).performances ≡ x.before.performances) (asked : HavePerformances (after_puts ps x.before)) where
  left_as : (c : ℕ) → performance_at c (after_puts ps x.before) ≡ performance_at c x.before
  left_as c = ap (λ rows. find_performance rows c) same

  idle_kept : ((c : ℕ) → named_for x.command c ≡ None) → ((c : ℕ) → performance_decided x.command c ≡ security.Held) → AreKept (x ∷ xs) (after_puts ps x.before)
  idle_kept none undecided = record {
    fates = λ c.
        subst (HasPerformance c (performance_named (x ∷ xs) c) (fate_of_performance (x ∷ xs) c)) (sym (left_as c)) (one_idle c x xs (performance_at c x.before) (none c) (undecided c) (kept.fates c));
    asked = asked;
  }

-- the row that a signing puts; the existing one if it names nothing
abbrev named_row : AwardRow → Option NamedSecurity → Option PerformanceRow → Option PerformanceRow
named_row w None before = before
named_row w (Some n) before = Some (performance_made w n)

-- the rule of an end gives the state of the fate
same_end : (how : How) → ended_fate how ≡ ended_state how
same_end hows.Regular = refl
same_end hows.ForDefault = refl

same_either : {X : Type 0} (b : Bool) (o : Option X) → cond b o o ≡ o
same_either true o = refl
same_either false o = refl

-- the row of another contract is unchanged
module _ (x : Given) (xs : List Given) (c : ℕ) (before after : Option PerformanceRow) (same : after ≡ before) (h : HasPerformance c (performance_named xs c) (fate_of_performance xs c) before) where
  elsewhere_kept : named_for x.command c ≡ None → performance_decided x.command c ≡ security.Held → HasPerformance c (performance_named (x ∷ xs) c) (fate_of_performance (x ∷ xs) c) after
  elsewhere_kept none undecided = subst (HasPerformance c (performance_named (x ∷ xs) c) (fate_of_performance (x ∷ xs) c)) (sym same) (one_idle c x xs before none undecided h)

module _ (means : Means) (xs : List Given) (s : Tables) (moment : ℕ) (caller : Caller) (kept : AreKept xs s) (accounts : AccountsStand xs s) (reached : Reaches means xs s) where
  abbrev given : Command → Given
  given command = record { before = s; moment = moment; caller = caller; command = command }

  have : HaveParents s s
  have = parents_there means xs s reached

  -- the performance securities after an accepted command
  performances_after : (command : Command) → first_of (command_tests (given command)) ≡ None
      → (after_puts (effect means.readings (given command)) s).performances ≡ with_performance (bond_for s command) s.performances
  performances_after command allowed = (tail_of means xs s moment caller reached command allowed).writes.performances s

  -- a signing
  module _ (award : ℕ) (named : Option NamedSecurity) (allowed : first_of (command_tests (given (Sign award named))) ≡ None) where
    abbrev x : Given
    x = given (Sign award named)

    passes : AllByRecursion (λ (test : Bool × Refusal). test.0 ≡ false) (command_tests x)
    passes = none_holds (command_tests x) allowed

    of : OfAward s award
    of = of_award s have award (not_false _ passes.0)

    -- an active award has no contract, so no performance security
    none_by : (o : Option PerformanceRow) → performance_at award s ≡ o → o ≡ None
    none_by None at = refl
    none_by (Some w) at =
        let r = witness (contract_at award s) (subst (λ k. IsSome (contract_at k s)) (found_key keyed.performances s.performances award w at) (have.performances award w at).contract) in
        let its = (accounts.contracts award r.0 r.1).of_award in
        let active : is_active of.w.state ≡ true = not_false _ (test_of isnt_active (award_at award s) of.w of.is false passes.1.1.1.1.0) in
        let one : Some of.w ≡ Some its.0 = sym of.is ∙ its.1 in
        let same : of.w ≡ its.0 = cc in
        let no : true ≡ false = sym active ∙ ap (λ (w : AwardRow). is_active w.state) same ∙ its.2 in
        absurd cc

    none_yet : performance_at award s ≡ None
    none_yet = none_by (performance_at award s) refl

    number : of.w.award ≡ award
    number = found_key keyed.awards s.awards award of.w of.is

    abbrev parts : List Put
    parts = sign_parts s.clock (time_of x) of.w of.n of.l (envelope_of_award (award_at award s) s) (securities_of_award (award_at award s) s)

    abbrev ps : List Put
    ps = parts ++ put_if (performance_put of.w) named

    effect_is : effect means.readings x ≡ ps
    effect_is = λ i. sign_puts (record { award = of.is i; notice = of.notice i; lot = of.lot i; envelope = (envelope_of_award (award_at award s) s); securities = (securities_of_award (award_at award s) s); clock = s.clock }) (time_of x) named

    abbrev first : Tables
    first = after_puts parts s

    rows_after : (named : Option NamedSecurity) (c : ℕ) → find_performance (with_performance (option_map (performance_made of.w) named) s.performances) c ≡ cond (eq_by_cmp nat_cmp c of.w.award) (named_row of.w named (performance_at c s)) (performance_at c s)
    rows_after None c = sym (same_either (eq_by_cmp nat_cmp c of.w.award) (performance_at c s))
    rows_after (Some n) c = row_at-row_put nat_cmp_total performance_key s.performances (performance_made of.w n) c

    fates_by : (named' : Option NamedSecurity) → named ≡ named' → (c : ℕ) (b : Bool) → eq_by_cmp nat_cmp c award ≡ b
        → HasPerformance c (performance_named (x ∷ xs) c) (fate_of_performance (x ∷ xs) c) (cond b (named_row of.w named' (performance_at c s)) (performance_at c s))
    fates_by named' is c false other =
        one_idle c x xs (performance_at c s) (ap (λ b. cond b named None) other) refl (kept.fates c)
    fates_by None is c true one =
        one_idle c x xs (performance_at c s) (ap (λ b. cond b named None) one ∙ is) refl (kept.fates c)
    fates_by (Some n) is c true one =
        let here : performance_at c s ≡ None = ap (λ c. performance_at c s) (equal_numbers c award one) ∙ none_yet in
        let it : named_for x.command c ≡ Some n = ap (λ b. cond b named None) one ∙ is in
        let row : Some (performance_made of.w n) ≡ Some (record { contract = c; reference = n.reference; amount = n.amount; state = security.Held }) =
        ap (λ k. Some (record { contract = k; reference = n.reference; amount = n.amount; state = security.Held })) (number ∙ sym (equal_numbers c award one)) in
        subst (HasPerformance c (performance_named (x ∷ xs) c) (fate_of_performance (x ∷ xs) c)) (sym row)
        (subst (λ m. HasPerformance c (named_after (performance_named xs c) m) (performance_after (fate_of_performance xs c) (named_after (performance_named xs c) m) security.Held) (Some (record { contract = c; reference = n.reference; amount = n.amount; state = security.Held }))) (sym it)
        (begins c (performance_named xs c) (fate_of_performance xs c) security.Held n (subst (HasPerformance c (performance_named xs c) (fate_of_performance xs c)) here (kept.fates c))))

    -- the puts after the contract's own put no contract
    abbrev signed_row : ContractRow
    signed_row = contract_row (time_of x) of.w (tenderer_in (envelope_of_award (award_at award s) s))

    contracts_after : (after_puts ps s).contracts ≡ put_contract s.contracts signed_row
    contracts_after =
        let test : TableName → Bool = is_touched (Performances ∷ Securities ∷ []) in
        let back : List SecurityRow = securities_of_award (award_at award s) s in
        (leaves test (securities_returned back ++ put_if (performance_put of.w) named) (after_puts (sign_parts s.clock (time_of x) of.w of.n of.l (envelope_of_award (award_at award s) s) []) s)
        (on-append test (securities_returned back) (put_if (performance_put of.w) named) (on-map test security_returned (filter is_held_security back) (λ _. refl)) (on-if test (performance_put of.w) named (λ _. refl)))).contracts refl

    at : (c : ℕ) → performance_at c (after_puts ps s) ≡ cond (eq_by_cmp nat_cmp c of.w.award) (named_row of.w named (performance_at c s)) (performance_at c s)
    at c =
        ap (λ ps. find_performance (after_puts ps s).performances c) (sym effect_is)
        ∙ ap (λ rows. find_performance rows c) (performances_after (Sign award named) allowed ∙ ap (λ o. with_performance (option_and_then (λ w. option_map (performance_made w) named) o) s.performances) of.is)
        ∙ rows_after named c

    tail : HasTail s (max moment s.clock.moment) (touches (Sign award named)) (published_for s (Sign award named)) (bond_for s (Sign award named)) ps
    tail = subst (λ ps. HasTail s (max moment s.clock.moment) (touches (Sign award named)) (published_for s (Sign award named)) (bond_for s (Sign award named)) ps) effect_is (tail_of means xs s moment caller reached (Sign award named) allowed)

    row_named : (o : Option NamedSecurity) → is_some o ≡ true → (before : Option PerformanceRow) → IsSome (named_row of.w o before)
    row_named None there before = cc
    row_named (Some n) there before = refl

    -- if the notice asks for a performance security, one is named
    asked_named : 0 < of.n.performance → is_some named ≡ true
    asked_named more =
        let asks : nat_lt 0 of.n.performance ≡ true = grind (arith, nat_tests, more) in
        not_false _ (not_and (nat_lt 0 of.n.performance) (not (is_some named)) (test_of (is_missing named) (notice_of_award (award_at award s) s) of.n of.notice false passes.1.0) asks)

    asked_own : (c : ContractRow) (n : NoticeRow) → c ≡ signed_row → notice_at c.notice (after_puts ps s) ≡ Some n → 0 < n.performance → IsSome (performance_at of.w.award (after_puts ps s))
    asked_own c n same found more =
        let as_before = asks_as_before ps tail of.w.notice n of.n (ap (λ (c : ContractRow). notice_at c.notice (after_puts ps s)) (sym same) ∙ found) of.notice_is in
        subst IsSome (sym (at of.w.award ∙ ap (λ b. cond b (named_row of.w named (performance_at of.w.award s)) (performance_at of.w.award s)) (same_itself of.w.award)))
        (row_named named (asked_named (omega (arith, as_before, more))) (performance_at of.w.award s))

    asked_after : HavePerformances (after_puts ps s)
    asked_after k c n is notice more =
        elim (found keyed.contracts s.contracts signed_row k c (ap (λ rows. find_contract rows k) (sym contracts_after) ∙ is)) as (λ _. IsSome (performance_at k (after_puts ps s))) [
          | inl p ↦ subst (λ k. IsSome (performance_at k (after_puts ps s))) (sym p.0) (asked_own c n p.1 notice more)
          | inr p ↦ of_old ps tail have kept.asked k c c n p.1 refl notice more
        ]

    sign_kept : AreKept (x ∷ xs) (after_puts (effect means.readings x) s)
    sign_kept =
        subst (λ ps. AreKept (x ∷ xs) (after_puts ps s)) (sym effect_is)
        (record {
          fates = λ c.
              subst (HasPerformance c (performance_named (x ∷ xs) c) (fate_of_performance (x ∷ xs) c)) (sym (at c))
              (subst (λ k. HasPerformance c (performance_named (x ∷ xs) c) (fate_of_performance (x ∷ xs) c) (cond (eq_by_cmp nat_cmp c k) (named_row of.w named (performance_at c s)) (performance_at c s))) (sym number) (fates_by named refl c (eq_by_cmp nat_cmp c award) refl));
          asked = asked_after;
        })

  -- an end
  module _ (contract : ℕ) (how : How) (allowed : first_of (command_tests (given (End contract how))) ≡ None) where
    abbrev y : Given
    y = given (End contract how)

    ends_of : OfContract s contract
    ends_of = of_contract s have contract (not_false _ (none_holds (command_tests y) allowed).0)

    abbrev ending : List Put
    ending = end_parts s.clock (time_of y) how ends_of.c (entries_of_contract contract s) ends_of.n ends_of.w

    abbrev qs : List Put
    qs = ending ++ put_if (performance_settled (ended_state how)) (performance_at contract s)

    end_is : effect means.readings y ≡ qs
    end_is = λ i. end_puts (record { contract = ends_of.is i; entries = entries_of_contract contract s; notice = ends_of.notice i; line = ends_of.line i; performance = performance_at contract s; clock = s.clock }) (time_of y) how

    abbrev settled : PerformanceRow → PerformanceRow
    settled w = settled_performance (ended_state how) w

    settled_after : (o : Option PerformanceRow) → performance_at contract s ≡ o → (c : ℕ)
        → find_performance (with_performance (option_map settled o) s.performances) c ≡ option_map (λ w. cond (eq_by_cmp nat_cmp c contract) (settled w) w) (performance_at c s)
    settled_after None at c = by (eq_by_cmp nat_cmp c contract) refl (performance_at c s) refl
      where
        by : (b : Bool) → eq_by_cmp nat_cmp c contract ≡ b → (o : Option PerformanceRow) → performance_at c s ≡ o → performance_at c s ≡ option_map (λ w. cond b (settled w) w) o
        by b e None is = is
        by false e (Some w) is = is
        by true e (Some w) is = let no : None ≡ Some w = sym at ∙ sym (ap (λ c. performance_at c s) (equal_numbers c contract e)) ∙ is in absurd cc
    settled_after (Some w) at c =
        row_at-changed_put nat_cmp_total nat_cmp-IsAntisymmetric performance_key settled s.performances contract c w at (found_key keyed.performances s.performances contract w at)

    ended_by : (c : ℕ) (b : Bool) → eq_by_cmp nat_cmp c contract ≡ b → HasPerformance c (performance_named (y ∷ xs) c) (fate_of_performance (y ∷ xs) c) (option_map (λ w. cond b (settled w) w) (performance_at c s))
    ended_by c false other =
        subst (HasPerformance c (performance_named (y ∷ xs) c) (fate_of_performance (y ∷ xs) c)) (itself (performance_at c s))
        (one_idle c y xs (performance_at c s) refl (ap (λ b. cond b (ended_fate how) security.Held) other) (kept.fates c))
      where
        itself : (o : Option PerformanceRow) → o ≡ option_map (λ w. w) o
        itself None = refl
        itself (Some w) = refl
    ended_by c true one =
        subst (λ d. HasPerformance c (named_after (performance_named xs c) None) (performance_after (fate_of_performance xs c) (named_after (performance_named xs c) None) d) (option_map settled (performance_at c s)))
        (sym (ap (λ b. cond b (ended_fate how) security.Held) one ∙ same_end how))
        (goes_on c (performance_named xs c) (fate_of_performance xs c) (ended_state how) (performance_at c s) (kept.fates c))

    end_tail : HasTail s (max moment s.clock.moment) (touches (End contract how)) (published_for s (End contract how)) (bond_for s (End contract how)) qs
    end_tail = subst (λ ps. HasTail s (max moment s.clock.moment) (touches (End contract how)) (published_for s (End contract how)) (bond_for s (End contract how)) ps) end_is (tail_of means xs s moment caller reached (End contract how) allowed)

    abbrev ended_row : ContractRow
    ended_row = ended_contract (time_of y) how (entries_of_contract contract s) ends_of.c

    ended_after : (after_puts qs s).contracts ≡ put_contract s.contracts ended_row
    ended_after =
        (leaves is_bond (put_if (performance_settled (ended_state how)) (performance_at contract s)) (after_puts ending s)
        (on-if is_bond (performance_settled (ended_state how)) (performance_at contract s) (λ _. refl))).contracts refl

    asked_ended : HavePerformances (after_puts qs s)
    asked_ended k c n is notice more =
        elim (found keyed.contracts s.contracts ended_row k c (ap (λ rows. find_contract rows k) (sym ended_after) ∙ is)) as (λ _. IsSome (performance_at k (after_puts qs s))) [
          | inl p ↦
              let here : contract_at k s ≡ Some ends_of.c = ap (λ k. contract_at k s) (p.0 ∙ found_key keyed.contracts s.contracts contract ends_of.c ends_of.is) ∙ ends_of.is in
              of_old qs end_tail have kept.asked k c ends_of.c n here (sym (ap (λ (c : ContractRow). c.notice) p.1)) notice more
          | inr p ↦ of_old qs end_tail have kept.asked k c c n p.1 refl notice more
        ]

    end_kept : AreKept (y ∷ xs) (after_puts (effect means.readings y) s)
    end_kept =
        subst (λ ps. AreKept (y ∷ xs) (after_puts ps s)) (sym end_is)
        (record {
          fates = λ c. subst (HasPerformance c (performance_named (y ∷ xs) c) (fate_of_performance (y ∷ xs) c)) (sym (end_at c)) (ended_by c (eq_by_cmp nat_cmp c contract) refl);
          asked = asked_ended;
        })
      where
        end_at : (c : ℕ) → performance_at c (after_puts qs s) ≡ option_map (λ w. cond (eq_by_cmp nat_cmp c contract) (settled w) w) (performance_at c s)
        end_at c =
            ap (λ ps. find_performance (after_puts ps s).performances c) (sym end_is)
            ∙ ap (λ rows. find_performance rows c) (performances_after (End contract how) allowed)
            ∙ settled_after (performance_at contract s) refl c

  -- a command that puts no contract and no performance security
  idle : (command : Command) → bond_for s command ≡ None → is_touched (touches command) Contracts ≡ false → ((c : ℕ) → named_for command c ≡ None) → ((c : ℕ) → performance_decided command c ≡ security.Held)
      → first_of (command_tests (given command)) ≡ None → AreKept (given command ∷ xs) (after_puts (effect means.readings (given command)) s)
  idle command none off unnamed undecided allowed =
      let ps : List Put = effect means.readings (given command) in
      let tail = tail_of means xs s moment caller reached command allowed in
      let same = (leaves (is_touched (touches command)) ps s tail.touched).contracts off in
      idle_kept (given command) xs ps kept (tail.writes.performances s ∙ ap (λ b. with_performance b s.performances) none)
      (λ k c n is notice more. of_old ps tail have kept.asked k c c n (ap (λ rows. find_contract rows k) (sym same) ∙ is) refl notice more) unnamed undecided

  one_kept : (command : Command) → first_of (command_tests (given command)) ≡ None → AreKept (given command ∷ xs) (after_puts (effect means.readings (given command)) s)
  one_kept (Sign award named) allowed = sign_kept award named allowed
  one_kept (End contract how) allowed = end_kept contract how allowed
  one_kept command allowed = idle command refl refl (λ c. refl) (λ c. refl) allowed

published_kept : (means : Means) (xs : List Given) (t : Tables) (p : Option ReleaseRow) → AreKept xs t → AreKept xs (after_puts (publication_puts p) t)
published_kept means xs t None kept = kept
published_kept means xs t (Some p) kept = record { fates = kept.fates; asked = kept.asked }

beside : (merges : List CompiledRow) (xs : List Given) (t : Tables) → AreKept xs t → AreKept xs (with_merges merges t)
beside merges xs t kept = record { fates = kept.fates; asked = kept.asked }

kept_along : (means : Means) (xs : List Given) (t : Tables) → Reaches means xs t → AreKept xs t
unfolding Rattle.office_base.specs.Rows.row_at
kept_along means =
    along means AreKept (record { fates = λ c. refl; asked = λ k c n found. absurd (let no : None ≡ Some c = found in cc) })
    (λ merges in_order xs t of_notices. beside merges xs t)
    (λ xs x accepted kept.
    subst (AreKept (x ∷ xs)) (sym (after-append (effect means.readings x) (publication_puts (publication means x)) x.before))
    (published_kept means (x ∷ xs) (after_puts (effect means.readings x) x.before) (publication means x)
    (one_kept means xs x.before x.moment x.caller kept (all_kept means xs x.before accepted.reached) accepted.reached x.command (allowed_by x accepted.allowed))))

pub performances_kept : PerformancesAreKept
performances_kept means xs t reached = (kept_along means xs t reached).fates

pub performances_there : PerformancesAreThere
performances_there means xs t reached = (kept_along means xs t reached).asked
