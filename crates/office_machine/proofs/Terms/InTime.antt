-- Once a tender of a notice came late, none is in time.
use Rattle.office_machine.proofs.Names.{◌≡◌, ℕ, ◌≤◌, ◌<◌, ◌⊎◌, Bool, true, false, not, cond, ◌&&◌, ◌||◌, List, [], ◌∷◌, Option, Some, None, option_map, is_some, nat_le, nat_lt, refl, sym, ap, ◌∙◌, subst, inl, inr, arith, le-max_right, nat_tests, Caller, Command, NewNotice, same_id, notice_of_envelope, holds_of, first_of, is_opened, is_receiving, Tables, envelope_at, notice_at, seal_at, is_in_time, is_past_deadline, EnvelopeRow, NoticeRow, NoticeState, equal_ids, amend_notice_rows, amend_notice_tests, amended, cancelled_notice, modify_rows, modify_tests, open_rows, open_tests, opened_notice, present_rows, present_tests, notice_row, publish_rows, publish_tests, Reception, TenderIs, fate_of_tender, received_at, reception_replacing, NoneInTimeAfterLate, has_come_late, is_in_time_for, is_late_for, taken_in, Given, Means, Reaches, command_tests, time_of, ClockRow}
use Rattle.office_commands.specs.declared.commands.Command.TheVariants as commands
use Rattle.office_base.specs.declared.records.NoticeState.TheVariants as notice_states
use Rattle.office_machine.proofs.FateLaws.FatesKept.{tenders_kept}
use Rattle.office_machine.proofs.Parents.ParentsThere.{parents_there}
use Rattle.office_machine.proofs.Passed.{allowed_by, at_least, none_holds, not_false, test_of, witness}
use Rattle.office_machine.proofs.Releases.NextIs.{next_is}
use Rattle.office_machine.proofs.Runs.{along}
use Rattle.office_machine.proofs.Terms.Said.{Has, uncounted}
use Rattle.office_machine.proofs.Terms.TermsKept.{all_has, notice_after, notice_by, said, with_change}

above : (a b : ℕ) → nat_le a b ≡ false → b < a
above a b e = grind (arith, nat_tests, e)

not_up_to : (a b : ℕ) → b < a → nat_le a b ≡ false
not_up_to a b l = grind (arith, nat_tests, l)

up_to : (a b : ℕ) → a ≤ b → nat_le a b ≡ true
up_to a b l = grind (arith, nat_tests, l)

shut_by : (early opened : Bool) → (early && not opened) ≡ false → (early ≡ false) ⊎ (opened ≡ true)
shut_by false opened e = inl refl
shut_by true true e = inr refl
shut_by true false e = absurd (let no : true ≡ false = e in cc)

shut_from : (early opened : Bool) → (early ≡ false) ⊎ (opened ≡ true) → (early && not opened) ≡ false
shut_from early opened (inl e) = ap (λ b. b && not opened) e
shut_from true opened (inr e) = ap not e
shut_from false opened (inr e) = refl

-- from this moment on no tender of the notice is in time, and its deadline doesn't move
pub record IsShut (m : ℕ) (n : NoticeRow) : Type 0 where
  past : n.deadline ≤ m
  shut : is_in_time m n ≡ false

still_shut : (m t : ℕ) (n : NoticeRow) → m ≤ t → IsShut m n → IsShut t n
still_shut m t n le s = record {
  past = omega (arith, le, s.past);
  shut =
      shut_from (nat_le t n.deadline) (is_opened n.state)
      (elim (shut_by (nat_le m n.deadline) (is_opened n.state) s.shut) as (λ _. (nat_le t n.deadline ≡ false) ⊎ (is_opened n.state ≡ true)) [
        | inl e ↦ inl (not_up_to t n.deadline (omega (arith, le, above m n.deadline e)))
        | inr e ↦ inr e
      ]);
}

cancelled_opened : (state : NoticeState) → is_opened (cond (is_receiving state) notice_states.Cancelled state) ≡ is_opened state
cancelled_opened notice_states.Receiving = refl
cancelled_opened notice_states.Opened = refl
cancelled_opened notice_states.Cancelled = refl

abbrev pub ShutAt : List Given → ℕ → List ℕ → Type 0
ShutAt xs m k = (n : NoticeRow) × (notice_after xs k ≡ Some n) × IsShut m n

-- a notice that was opened is past its deadline, and one of which a tender came late is shut
pub record Closes (xs : List Given) (m : ℕ) : Type 0 where
  opened : (k : List ℕ) (n : NoticeRow) → notice_after xs k ≡ Some n → is_opened n.state ≡ true → n.deadline ≤ m
  late : (k : List ℕ) → has_come_late xs k ≡ true → ShutAt xs m k

either_true : (a b : Bool) → (a || b) ≡ true → (a ≡ true) ⊎ (b ≡ true)
either_true true b e = inl refl
either_true false b e = inr e

both_true : (a b : Bool) → (a && b) ≡ true → (a ≡ true) × (b ≡ true)
both_true true b e = (refl, e)
both_true false b e = absurd (let no : false ≡ true = e in cc)

not_true : (b : Bool) → not b ≡ true → b ≡ false
not_true true e = absurd (let no : false ≡ true = e in cc)
not_true false e = refl

and_false : (b : Bool) → (b && false) ≡ false
and_false true = refl
and_false false = refl

clash : {A : Type 0} (b : Bool) → b ≡ true → b ≡ false → A
clash b e f = absurd (let no : true ≡ false = sym e ∙ f in cc)

module _ (means : Means) (xs : List Given) (s : Tables) (moment : ℕ) (caller : Caller) (reached : Reaches means xs s) (old : Closes xs s.clock.moment) where
  abbrev given : Command → Given
  given command = record { before = s; moment = moment; caller = caller; command = command }

  abbrev m : ℕ
  m = s.clock.moment

  abbrev t : Command → ℕ
  t command = time_of (given command)

  abbrev Allows : Command → Type 0
  Allows command = first_of (command_tests (given command)) ≡ None

  later : (command : Command) → m ≤ t command
  later command = le-max_right moment s.clock.moment

  has : Has (said xs) s
  has = all_has means xs s reached

  -- the row of a notice
  row_found : (k : List ℕ) (n : NoticeRow) → notice_after xs k ≡ Some n → (r : NoticeRow) × (notice_at k s ≡ Some r) × (uncounted r ≡ n)
  row_found k n is = by (notice_at k s) refl
    where
      by : (o : Option NoticeRow) → notice_at k s ≡ o → (r : NoticeRow) × (notice_at k s ≡ Some r) × (uncounted r ≡ n)
      by None e = absurd (let no : None ≡ Some n = sym (ap (option_map uncounted) e) ∙ has.notices k ∙ is in cc)
      by (Some r) e = (r, e, let one : Some (uncounted r) ≡ Some n = sym (ap (option_map uncounted) e) ∙ has.notices k ∙ is in cc)

  deadline_of : (k : List ℕ) (n r : NoticeRow) → uncounted r ≡ n → r.deadline ≡ n.deadline
  deadline_of k n r e = ap (λ (n : NoticeRow). n.deadline) e

  -- a command that would change a notice past its deadline, or a publication of a notice that exists, is refused
  no_amendment : {A : Type 0} (name k : List ℕ) (deadline : ℕ) (rationale : List ℕ) → Allows (commands.AmendNotice name deadline rationale) → name ≡ k
      → (n : NoticeRow) → notice_after xs k ≡ Some n → n.deadline ≤ m → A
  no_amendment name k deadline rationale allowed same n is past =
      let now : ℕ = t (commands.AmendNotice name deadline rationale) in
      let tests = none_holds (amend_notice_tests (amend_notice_rows s name) now deadline) allowed in
      let found = row_found k n is in
      let early : nat_le found.0.deadline now ≡ false = test_of (is_past_deadline now) (notice_at name s) found.0 (ap (λ k. notice_at k s) same ∙ found.1) false tests.1.0 in
      let le : m ≤ now = later (commands.AmendNotice name deadline rationale) in
      clash (nat_le found.0.deadline now) (up_to found.0.deadline now (omega (arith, past, le, deadline_of k n found.0 found.2))) early

  no_publication : {A : Type 0} (name k : List ℕ) (new : NewNotice) → Allows (commands.Publish name new) → name ≡ k → (n : NoticeRow) → notice_after xs k ≡ Some n → A
  no_publication name k new allowed same n is =
      let tests = none_holds (publish_tests (publish_rows s name) (t (commands.Publish name new)) new) allowed in
      let found = row_found k n is in
      clash (is_some (notice_at name s)) (ap is_some (ap (λ k. notice_at k s) same ∙ found.1)) tests.1.0

  -- a notice that is shut stays so
  abbrev Stays : Command → List ℕ → NoticeRow → Type 0
  Stays command k n = (n' : NoticeRow) × (notice_by command (t command) k (Some n) ≡ Some n') × IsShut (t command) n'

  set_stays : (command : Command) (b : Bool) (new n : NoticeRow) → IsShut m n → (b ≡ true → IsShut (t command) new) → (n' : NoticeRow) × (cond b (Some new) (Some n) ≡ Some n') × IsShut (t command) n'
  set_stays command true new n shut h = (new, refl, h refl)
  set_stays command false new n shut h = (n, refl, still_shut m (t command) n (later command) shut)

  change_stays : (command : Command) (b : Bool) (change : NoticeRow → NoticeRow) (n : NoticeRow) → IsShut m n → (b ≡ true → IsShut (t command) (uncounted (change n)))
      → (n' : NoticeRow) × (with_change b change (Some n) ≡ Some n') × IsShut (t command) n'
  change_stays command true change n shut h = (uncounted (change n), refl, h refl)
  change_stays command false change n shut h = (n, refl, still_shut m (t command) n (later command) shut)

  stays : (command : Command) → Allows command → (k : List ℕ) (n : NoticeRow) → notice_after xs k ≡ Some n → IsShut m n → Stays command k n
  stays (commands.Publish name new) allowed k n is shut =
      set_stays (commands.Publish name new) (same_id name k) (uncounted (notice_row (t (commands.Publish name new)) name new)) n shut
      (λ e. no_publication name k new allowed (equal_ids name k e) n is)
  stays (commands.AmendNotice name deadline rationale) allowed k n is shut =
      change_stays (commands.AmendNotice name deadline rationale) (same_id name k) (amended deadline) n shut
      (λ e. no_amendment name k deadline rationale allowed (equal_ids name k e) n is shut.past)
  stays (commands.Open name) allowed k n is shut =
      let now : ℕ = t (commands.Open name) in
      let le : m ≤ now = later (commands.Open name) in
      change_stays (commands.Open name) (same_id name k) (opened_notice now) n shut
      (λ e. record { past = omega (arith, le, shut.past); shut = shut_from (nat_le now n.deadline) true (inr refl) })
  stays (commands.Cancel name rationale) allowed k n is shut =
      let now : ℕ = t (commands.Cancel name rationale) in
      let on = still_shut m now n (later (commands.Cancel name rationale)) shut in
      change_stays (commands.Cancel name rationale) (same_id name k) cancelled_notice n shut
      (λ e. record { past = on.past; shut = ap (λ b. nat_le now n.deadline && not b) (cancelled_opened n.state) ∙ on.shut })
  stays command allowed k n is shut = (n, refl, still_shut m (t command) n (later command) shut)

  shut_next : (command : Command) → Allows command → (k : List ℕ) → ShutAt xs m k → ShutAt (given command ∷ xs) (t command) k
  shut_next command allowed k (n, is, shut) =
      let on = stays command allowed k n is shut in
      (on.0, ap (notice_by command (t command) k) is ∙ on.1, on.2)

  -- a notice that is opened is past its deadline
  abbrev PastAt : Command → List ℕ → Type 0
  PastAt command k = (n : NoticeRow) → notice_by command (t command) k (notice_after xs k) ≡ Some n → is_opened n.state ≡ true → n.deadline ≤ t command

  past_still : (command : Command) (k : List ℕ) (n : NoticeRow) → notice_after xs k ≡ Some n → is_opened n.state ≡ true → n.deadline ≤ t command
  past_still command k n is opened = let le : m ≤ t command = later command in omega (arith, le, old.opened k n is opened)

  change_past : (command : Command) (b : Bool) (change : NoticeRow → NoticeRow) (k : List ℕ)
      → ((n : NoticeRow) → b ≡ true → notice_after xs k ≡ Some n → is_opened (change n).state ≡ true → (change n).deadline ≤ t command)
      → (o : Option NoticeRow) → notice_after xs k ≡ o → (n : NoticeRow) → with_change b change o ≡ Some n → is_opened n.state ≡ true → n.deadline ≤ t command
  change_past command true change k h None e n is opened = absurd (let no : ◌≡◌ {A = Option NoticeRow} None (Some n) = is in cc)
  change_past command true change k h (Some r) e n is opened =
      let one : uncounted (change r) ≡ n = cc in
      subst (λ (n : NoticeRow). n.deadline ≤ t command) one (h r refl e (ap (λ (n : NoticeRow). is_opened n.state) one ∙ opened))
  change_past command false change k h o e n is opened = past_still command k n (e ∙ is) opened

  set_past : (command : Command) (b : Bool) (new : NoticeRow) (k : List ℕ) → is_opened new.state ≡ false → (n : NoticeRow) → cond b (Some new) (notice_after xs k) ≡ Some n → is_opened n.state ≡ true
      → n.deadline ≤ t command
  set_past command true new k closed n is opened =
      let one : new ≡ n = cc in clash (is_opened n.state) opened (sym (ap (λ (n : NoticeRow). is_opened n.state) one) ∙ closed)
  set_past command false new k closed n is opened = past_still command k n is opened

  past : (command : Command) → Allows command → (k : List ℕ) → PastAt command k
  past (commands.Publish name new) allowed k =
      set_past (commands.Publish name new) (same_id name k) (uncounted (notice_row (t (commands.Publish name new)) name new)) k refl
  past (commands.AmendNotice name deadline rationale) allowed k =
      change_past (commands.AmendNotice name deadline rationale) (same_id name k) (amended deadline) k
      (λ n e is opened. no_amendment name k deadline rationale allowed (equal_ids name k e) n is (old.opened k n is opened))
      (notice_after xs k) refl
  past (commands.Open name) allowed k =
      let now : ℕ = t (commands.Open name) in
      change_past (commands.Open name) (same_id name k) (opened_notice now) k
      (λ n e is opened.
      let found = row_found k n is in
      let tests = none_holds (open_tests (open_rows s name) now) allowed in
      let due : nat_lt now found.0.deadline ≡ false =
      test_of (λ (n : NoticeRow). nat_lt now n.deadline) (notice_at name s) found.0 (ap (λ k. notice_at k s) (equal_ids name k e) ∙ found.1) false tests.1.1.0 in
      omega (arith, at_least now found.0.deadline due, deadline_of k n found.0 found.2))
      (notice_after xs k) refl
  past (commands.Cancel name rationale) allowed k =
      change_past (commands.Cancel name rationale) (same_id name k) cancelled_notice k
      (λ n e is opened. past_still (commands.Cancel name rationale) k n is (sym (cancelled_opened n.state) ∙ opened))
      (notice_after xs k) refl
  past command allowed k = λ n is opened. past_still command k n is opened

  -- a notice of which a tender comes late is shut
  late_now : (command : Command) → Allows command → (k : List ℕ) → is_late_for k (taken_in xs (given command)) ≡ true → ShutAt (given command ∷ xs) (t command) k
  late_now (commands.Present notice lot security bytes) allowed k is =
      let now : ℕ = t (commands.Present notice lot security bytes) in
      let both = both_true (same_id notice k) (not (holds_of (is_in_time now) (notice_at notice s))) is in
      let tests = none_holds (present_tests (present_rows s notice lot) now caller security) allowed in
      let r = witness (notice_at notice s) (not_false _ tests.0) in
      let shut : is_in_time now r.0 ≡ false = test_of (is_in_time now) (notice_at notice s) r.0 r.1 false (not_true _ both.1) in
      let there : notice_after xs notice ≡ Some (uncounted r.0) = sym (has.notices notice) ∙ ap (option_map uncounted) r.1 in
      let le : m ≤ now = later (commands.Present notice lot security bytes) in
      let due : r.0.deadline ≤ now =
      elim (shut_by (nat_le now r.0.deadline) (is_opened r.0.state) shut) as (λ _. r.0.deadline ≤ now) [
        | inl e ↦ omega (arith, above now r.0.deadline e)
        | inr e ↦ omega (arith, le, old.opened notice (uncounted r.0) there e)
      ] in
      (uncounted r.0, ap (notice_after xs) (sym (equal_ids notice k both.0)) ∙ there, record { past = due; shut = shut })
  late_now (commands.Modify receipt bytes) allowed k is = by (received_at xs receipt) is
    where
      by : (o : Option Reception) → is_late_for k (option_map (reception_replacing (given (commands.Modify receipt bytes)) bytes) o) ≡ true
          → ShutAt (given (commands.Modify receipt bytes) ∷ xs) (t (commands.Modify receipt bytes)) k
      by None e = absurd (let no : false ≡ true = e in cc)
      by (Some c) e = clash (same_id c.notice k && false) e (and_false (same_id c.notice k))
  late_now command allowed k is = absurd (let no : false ≡ true = is in cc)

  pub closes_next : (command : Command) → Allows command → Closes (given command ∷ xs) (t command)
  closes_next command allowed = record {
    opened = past command allowed;
    late = λ k is.
        elim (either_true (is_late_for k (taken_in xs (given command))) (has_come_late xs k) is) as (λ _. ShutAt (given command ∷ xs) (t command) k) [
          | inl new ↦ late_now command allowed k new
          | inr before ↦ shut_next command allowed k (old.late k before)
        ];
  }

  -- and no tender of it is in time
  module _ (k : List ℕ) (n : NoticeRow) (is : notice_after xs k ≡ Some n) (shut : IsShut m n) where
    in_time_false : (notice : List ℕ) (now : ℕ) → m ≤ now → (b : Bool) → same_id notice k ≡ b → (b && holds_of (is_in_time now) (notice_at notice s)) ≡ false
    in_time_false notice now le false e = refl
    in_time_false notice now le true e =
        let found = row_found k n is in
        ap (holds_of (is_in_time now)) (ap (λ k. notice_at k s) (equal_ids notice k e) ∙ found.1)
        ∙ ap (is_in_time now) found.2
        ∙ (still_shut m now n le shut).shut

    replaced : (receipt : ℕ) (bytes : List ℕ) → Allows (commands.Modify receipt bytes) → (c : Reception) → received_at xs receipt ≡ Some c → c.notice ≡ k → ⊥
    replaced receipt bytes allowed c came same =
        by (envelope_at receipt s) refl (subst (λ o. TenderIs means.readings.digest receipt o (fate_of_tender xs receipt) (envelope_at receipt s) (seal_at receipt s)) came ((tenders_kept means xs s reached).each receipt))
      where
        now : ℕ
        now = t (commands.Modify receipt bytes)

        early : holds_of (is_past_deadline now) (notice_of_envelope (envelope_at receipt s) s) ≡ false
        early = (none_holds (modify_tests (modify_rows s receipt) now caller) allowed).1.1.0

        by : (o : Option EnvelopeRow) → envelope_at receipt s ≡ o → TenderIs means.readings.digest receipt (Some c) (fate_of_tender xs receipt) o (seal_at receipt s) → ⊥
        by None e stands = stands
        by (Some row) e stands =
            let found = row_found k n is in
            let of : notice_of_envelope (envelope_at receipt s) s ≡ Some found.0 = ap (λ o. notice_of_envelope o s) e ∙ ap (λ k. notice_at k s) (stands.of_notice ∙ same) ∙ found.1 in
            let early_yet : nat_le found.0.deadline now ≡ false = test_of (is_past_deadline now) (notice_of_envelope (envelope_at receipt s) s) found.0 of false early in
            let le : m ≤ now = later (commands.Modify receipt bytes) in
            clash (nat_le found.0.deadline now) (up_to found.0.deadline now (omega (arith, le, shut.past, deadline_of k n found.0 found.2))) early_yet

    pub none_in_time : (command : Command) → Allows command → is_in_time_for k (taken_in xs (given command)) ≡ false
    none_in_time (commands.Present notice lot security bytes) allowed =
        in_time_false notice (t (commands.Present notice lot security bytes)) (later (commands.Present notice lot security bytes)) (same_id notice k) refl
    none_in_time (commands.Modify receipt bytes) allowed = by (received_at xs receipt) refl
      where
        by : (o : Option Reception) → received_at xs receipt ≡ o → is_in_time_for k (option_map (reception_replacing (given (commands.Modify receipt bytes)) bytes) o) ≡ false
        by None e = refl
        by (Some c) e = with_test (same_id c.notice k) refl
          where
            with_test : (b : Bool) → same_id c.notice k ≡ b → (b && true) ≡ false
            with_test true same = absurd (replaced receipt bytes allowed c e (equal_ids c.notice k same))
            with_test false same = refl
    none_in_time command allowed = refl

none_closes : Closes [] 0
none_closes = record {
  opened = λ k n is opened. absurd (let no : ◌≡◌ {A = Option NoticeRow} None (Some n) = is in cc);
  late = λ k is. absurd (let no : false ≡ true = is in cc);
}

closes : (means : Means) (xs : List Given) (t : Tables) → Reaches means xs t → Closes xs t.clock.moment
closes means = along means (λ xs t. Closes xs t.clock.moment) none_closes (λ merges in_order xs t of_notices h. h)
    (λ xs x accepted h.
    let is = next_is means x (parents_there means xs x.before accepted.reached) accepted.allowed in
    subst (Closes (x ∷ xs)) (sym (ap (λ (c : ClockRow). c.moment) is.clock_is ∙ is.moment))
    (closes_next means xs x.before x.moment x.caller accepted.reached h x.command (allowed_by x accepted.allowed)))

pub none_in_time_after : NoneInTimeAfterLate
none_in_time_after means x xs t reached notice late =
    let old = closes means xs x.before reached.reached in
    let shut = old.late notice late in
    none_in_time means xs x.before x.moment x.caller reached.reached old notice shut.0 shut.1 shut.2 x.command (allowed_by x reached.allowed)
