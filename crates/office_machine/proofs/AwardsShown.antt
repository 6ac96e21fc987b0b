-- The winner is shown as the best tender just before an award and just after it.
use Rattle.office_machine.proofs.Names.{◌≡◌, ℕ, zero, suc, ◌+◌, ◌<◌, Bool, true, false, cond, not, ◌&&◌, ◌||◌, List, [], ◌∷◌, length, slice_index_or, map, filter, Option, Some, None, option_map, unwrap_or, nat_lt, nat_eq, refl, sym, ◌∙◌, ap, subst, arith, AllByRecursion, Contains, list_any, Ordering, Less, Equal, Greater, same_id, Refusal, NotOpened, is_clerk, Caller, Clerk, Command, Award, line_of_lot, is_priced, by_order, row_at, row_put, first_of, is_read, is_opened, is_undecided, Tables, of_notice, lot_cmp, lot_key, notice_at, lot_at, line_at, find_notice, find_lot, put_notice, put_lot, lots_of_notice, awards_of_notice, envelopes_of_lot, securities_of_lot, after_put, after_puts, clock_put, is_held_security, security_returned, with_next_release, Put, ClockRow, EnvelopeRow, LineRow, LotRow, NoticeRow, ReleaseRow, SecurityRow, lowest_in, IsBest, IsAnswer, is_admissible, is_better, is_cheaper, is_responsive, points, price_of, weight_in, winner, award_puts, award_rows, award_tests, awarded, unsuccessful, decision_puts, best_is_found, is_shown_better, IsShownBest, IsShownWinner, LotIsShown, ShowsLot, evaluation_shown, WinnerIsShown, ReplyIsShown, WinnersAreShown, awards_of_lot, evaluated_tender, evaluated_tenders, evaluated_lot, evaluation_told, has_outcome, is_award_of, lot_told, Means, Given, Reaches, command_tests, effect, publication, publication_puts, time_of, EvaluatedLot, EvaluatedTender, EvaluationSeen, winning, reply_by, same_itself, IsKeyed, found_key}
use Rattle.office_base.specs.declared.puts.Put.TheVariants as puts
use Rattle.office_machine.specs.Replies.{Refused}
use Rattle.office_machine.proofs.Accounts.Aside.{after-append}
use Rattle.office_machine.proofs.Parents.ParentsThere.{parents_there}
use Rattle.office_machine.proofs.Passed.{none_holds, allowed_by, not_false, test_of, witness}
use Rattle.office_machine.proofs.Rows.Keyed.{found_put}
use Rattle.office_machine.proofs.Rows.Keyed as keyed

-- Lists.

has_head : {X : Type 0} (x : X) (xs : List X) → Contains (x ∷ xs) x
has_head x xs = (0, omega arith, refl)

has_tail : {X : Type 0} (y x : X) (xs : List X) → Contains xs x → Contains (y ∷ xs) x
has_tail y x xs c = (suc c.0, omega (arith, c.1), c.2)

has_mapped : {X Y : Type 0} (f : X → Y) (xs : List X) (x : X) (k : ℕ) → k < length xs → slice_index_or xs k x ≡ x → Contains (map f xs) (f x)
has_mapped f [] x k few is = absurd (let none : k < 0 = few in omega arith)
has_mapped f (y ∷ ys) x zero few is = subst (λ z. Contains (map f (y ∷ ys)) (f z)) is (has_head (f y) (map f ys))
has_mapped f (y ∷ ys) x (suc k) few is = has_tail (f y) (f x) (map f ys) (has_mapped f ys x k (omega arith) is)

has_kept : {X : Type 0} (y x : X) (xs : List X) (b : Bool) → Contains xs x → Contains (cond b (y ∷ xs) xs) x
has_kept y x xs true c = has_tail y x xs c
has_kept y x xs false c = c

has_filtered : {X : Type 0} (p : X → Bool) (xs : List X) (x : X) (k : ℕ) → k < length xs → slice_index_or xs k x ≡ x → p x ≡ true → Contains (filter p xs) x
has_filtered p [] x k few is passing = absurd (let none : k < 0 = few in omega arith)
has_filtered p (y ∷ ys) x zero few is passing =
    subst (λ b. Contains (cond b (y ∷ filter p ys) (filter p ys)) x) (sym (ap p is ∙ passing)) (subst (λ z. Contains (y ∷ filter p ys) z) is (has_head y (filter p ys)))
has_filtered p (y ∷ ys) x (suc k) few is passing = has_kept y x (filter p ys) (p y) (has_filtered p ys x k (omega arith) is passing)

module _ {X : Type 0} where
  has_first : (y x : X) (ys : List X) (o : Option X) (c : Ordering) → (o ≡ Some x → Contains ys x) → by_order c None (Some y) o ≡ Some x → Contains (y ∷ ys) x
  has_first y x ys o Less rest e = absurd (let none : ◌≡◌ {A = Option X} None (Some x) = e in cc)
  has_first y x ys o Equal rest e = let one : Some y ≡ Some x = e in let same : y ≡ x = cc in subst (λ z. Contains (y ∷ ys) z) same (has_head y ys)
  has_first y x ys o Greater rest e = has_tail y x ys (rest e)

  has_found : {K : Type 0} (R : K → K → Ordering) (key : X → K) (xs : List X) (k : K) (x : X) → row_at R key xs k ≡ Some x → Contains xs x
  unfolding row_at
  has_found R key [] k x is = absurd (let none : ◌≡◌ {A = Option X} None (Some x) = is in cc)
  has_found R key (y ∷ ys) k x is = has_first y x ys (row_at R key ys k) (R k (key y)) (has_found R key ys k x) is

-- The winner among the tenders of a lot is the best of those that are shown.

-- the points that are shown: 0 unless the tender is admissible and points decide
abbrev points_seen : Bool → Bool → ℕ → ℕ
points_seen none may n = unwrap_or (cond (not none && may) (Some n) None) 0

seen_as : (none a b : Bool) (p q : ℕ) (cheaper : Bool) → a ≡ true → b ≡ true
    → (nat_lt (points_seen none b q) (points_seen none a p) || (nat_eq (points_seen none a p) (points_seen none b q) && cheaper)) ≡ cond none cheaper (nat_lt q p || (nat_eq p q && cheaper))
seen_as true true true p q cheaper x y = refl
seen_as false true true p q cheaper x y = refl
seen_as none true false p q cheaper x y = absurd (let no : false ≡ true = y in cc)
seen_as none false b p q cheaper x y = absurd (let no : false ≡ true = x in cc)

first_of_four : (a b c d : Bool) → (a && b && c && d) ≡ true → a ≡ true
first_of_four true b c d e = refl
first_of_four false b c d e = e

module _ (weight : ℕ) (rows : List EnvelopeRow) where
  abbrev told : EnvelopeRow → EvaluatedTender
  told f = evaluated_tender weight (lowest_in rows) f

  abbrev read_one : EnvelopeRow → Bool
  read_one f = is_read f.state

  -- a property of all tenders is a property of those that are shown
  shown_more : (P : EvaluatedTender → Type 0) (f : EnvelopeRow) (fs : List EnvelopeRow) (b : Bool) → P (told f) → AllByRecursion P (map told fs) → AllByRecursion P (map told (cond b (f ∷ fs) fs))
  shown_more P f fs true one all = (one, all)
  shown_more P f fs false one all = all

  shown_all : (P : EvaluatedTender → Type 0) (fs : List EnvelopeRow) → AllByRecursion (λ (f : EnvelopeRow). P (told f)) fs → AllByRecursion P (map told (filter read_one fs))
  shown_all P [] all = tt
  shown_all P (f ∷ fs) all = shown_more P f (filter read_one fs) (read_one f) all.0 (shown_all P fs all.1)

  -- the shown columns give the same order as the rows
  compared : (e f : EnvelopeRow) → is_admissible e ≡ true → is_admissible f ≡ true → is_shown_better (told f) (told e) ≡ is_better weight (lowest_in rows) f e
  compared e f own may =
      seen_as (nat_eq weight 0) (is_admissible f) (is_admissible e) (points weight (lowest_in rows) f) (points weight (lowest_in rows) e) (is_cheaper f e) may own

  none_shown_better : (e : EnvelopeRow) → is_admissible e ≡ true → (fs : List EnvelopeRow)
      → AllByRecursion (λ (f : EnvelopeRow). is_admissible f ≡ true → is_better weight (lowest_in rows) f e ≡ false) fs
      → AllByRecursion (λ (f : EnvelopeRow). is_admissible f ≡ true → is_shown_better (told f) (told e) ≡ false) fs
  none_shown_better e own [] all = tt
  none_shown_better e own (f ∷ fs) all = ((λ may. compared e f own may ∙ all.0 may), none_shown_better e own fs all.1)

  pub best_shown : (e : EnvelopeRow) → IsBest weight rows e → IsShownBest (evaluated_tenders weight rows) e.receipt (price_of e)
  best_shown e b =
      let was_read : read_one e ≡ true = first_of_four (is_read e.state) (is_priced e.reading) (is_responsive e.responsive) (not e.failed) b.admissible in
      let kept : Contains (filter read_one rows) e = has_filtered read_one rows e b.among.0 b.among.1 b.among.2 was_read in
      record {
        best = told e;
        of_receipt = refl;
        at_price = refl;
        among = has_mapped told (filter read_one rows) e kept.0 kept.1 kept.2;
        admissible = b.admissible;
        none_better = shown_all (λ (t : EvaluatedTender). t.admissible ≡ true → is_shown_better t (told e) ≡ false) rows (none_shown_better e b.admissible rows b.none_better);
      }

  winner_shown : (clock : ClockRow) (o : Option EnvelopeRow) → IsAnswer weight rows o → IsShownWinner (option_map (winning clock) o) (evaluated_tenders weight rows)
  winner_shown clock None none = shown_all (λ (t : EvaluatedTender). t.admissible ≡ false) rows none
  winner_shown clock (Some e) best = best_shown e best

-- A lot of an opened notice is shown to the clerk, and to everyone once it has an outcome.

or_true : (b : Bool) → (b || true) ≡ true
or_true true = refl
or_true false = refl

same_lot : (b : Bool) (shown hidden : EvaluatedLot) (lot : List ℕ) → shown.lot ≡ lot → hidden.lot ≡ lot → (cond b shown hidden).lot ≡ lot
same_lot true shown hidden lot one other = one
same_lot false shown hidden lot one other = other

module _ (caller : Caller) (s : Tables) (notice lot : List ℕ) (n : NoticeRow) (l : LotRow) (there : notice_at notice s ≡ Some n) (opened : is_opened n.state ≡ true)
    (is : lot_at (notice, lot) s ≡ Some l) (seen : (is_clerk caller || has_outcome (awards_of_notice notice s) l) ≡ true) where
  abbrev told_lot : LotRow → EvaluatedLot
  told_lot row = evaluated_lot caller n.weight (awards_of_notice notice s) s row

  named : lot_key l ≡ (notice, lot)
  named = found_key keyed.lots s.lots (notice, lot) l is

  listed : Contains (lots_of_notice notice s) l
  listed =
      let has : Contains s.lots l = has_found lot_cmp lot_key s.lots (notice, lot) l is in
      has_filtered (of_notice notice) s.lots l has.0 has.1 has.2 (ap (λ (k : List ℕ × List ℕ). same_id k.0 notice) named ∙ same_itself notice)

  all_told : evaluation_shown caller s notice ≡ EvaluationSeen n.notice (map told_lot (lots_of_notice notice s))
  all_told =
      ap (λ o. evaluation_told caller s o (lots_of_notice notice s) (awards_of_notice notice s)) there
      ∙ ap (λ b. cond b (EvaluationSeen n.notice (map told_lot (lots_of_notice notice s))) (Refused NotOpened)) opened

  pub lot_shown : (Such : List EvaluatedTender → Type 0) → Such (evaluated_tenders n.weight (envelopes_of_lot notice lot s)) → ShowsLot Such (evaluation_shown caller s notice) lot
  lot_shown Such such =
      let open_lot : EvaluatedLot = lot_told (evaluated_tenders n.weight (envelopes_of_lot l.notice l.lot s)) (awards_of_lot l.lot (awards_of_notice notice s)) l in
      let its_own : l.lot ≡ lot = ap (λ (k : List ℕ × List ℕ). k.1) named in
      let its_tenders : Such open_lot.tenders = subst (λ (k : List ℕ × List ℕ). Such (evaluated_tenders n.weight (envelopes_of_lot k.0 k.1 s))) (sym named) such in
      let it : LotIsShown Such (map told_lot (lots_of_notice notice s)) lot = record {
        shown = told_lot l;
        same = same_lot (is_clerk caller || has_outcome (awards_of_notice notice s) l) open_lot (lot_told [] [] l) lot its_own its_own;
        among = has_mapped told_lot (lots_of_notice notice s) l listed.0 listed.1 listed.2;
        such = subst (λ (b : Bool). Such (cond b open_lot (lot_told [] [] l)).tenders) (sym seen) its_tenders;
      } in
      subst (λ reply. ShowsLot Such reply lot) (sym all_told) it

-- The office after an award.

-- returned securities don't change the evaluation
returned_shown : (Such : List EvaluatedTender → Type 0) (caller : Caller) (notice lot : List ℕ) (ws : List SecurityRow) (v : Tables) → ShowsLot Such (evaluation_shown caller v notice) lot
    → ShowsLot Such (evaluation_shown caller (after_puts (map security_returned ws) v) notice) lot
returned_shown Such caller notice lot [] v h = h
returned_shown Such caller notice lot (w ∷ ws) v h = returned_shown Such caller notice lot ws (after_put (security_returned w) v) h

published_shown : (Such : List EvaluatedTender → Type 0) (caller : Caller) (notice lot : List ℕ) (p : Option ReleaseRow) (v : Tables) → ShowsLot Such (evaluation_shown caller v notice) lot
    → ShowsLot Such (evaluation_shown caller (after_puts (publication_puts p) v) notice) lot
published_shown Such caller notice lot None v h = h
published_shown Such caller notice lot (Some p) v h = h

found_as : {K X : Type 0} {R : K → K → Ordering} {key : X → K} (t : IsKeyed R key) (xs : List X) (r : X) (k : K) → key r ≡ k → row_at R key (row_put R key xs r) k ≡ Some r
found_as {R = R} {key = key} t xs r k at = subst (λ q. row_at R key (row_put R key xs r) q ≡ Some r) at (found_put t xs r)

module _ (s : Tables) (notice lot : List ℕ) (n : NoticeRow) (l : LotRow) (there : notice_at notice s ≡ Some n) (opened : is_opened n.state ≡ true) (is : lot_at (notice, lot) s ≡ Some l)
    (Such : List EvaluatedTender → Type 0) (such : Such (evaluated_tenders n.weight (envelopes_of_lot notice lot s))) (caller : Caller) where
  -- if the notice gets one release more and the lot is decided, the lot's tenders are still shown
  decided_shown : (v : Tables) (decided : LotRow) → v.notices ≡ put_notice s.notices (with_next_release n) → v.lots ≡ put_lot s.lots decided → v.envelopes ≡ s.envelopes
      → lot_key decided ≡ (notice, lot) → is_undecided decided.state ≡ false → ShowsLot Such (evaluation_shown caller v notice) lot
  decided_shown v decided notices lots envelopes at state =
      let notice_there : notice_at notice v ≡ Some (with_next_release n) =
      ap (λ rows. find_notice rows notice) notices ∙ found_as keyed.notices s.notices (with_next_release n) notice (found_key keyed.notices s.notices notice n there) in
      let lot_there : lot_at (notice, lot) v ≡ Some decided = ap (λ rows. find_lot rows (notice, lot)) lots ∙ found_as keyed.lots s.lots decided (notice, lot) at in
      let shown : (is_clerk caller || has_outcome (awards_of_notice notice v) decided) ≡ true =
      ap (λ b. is_clerk caller || (not b || list_any (is_award_of decided.lot) (awards_of_notice notice v))) state ∙ or_true (is_clerk caller) in
      lot_shown caller v notice lot (with_next_release n) decided notice_there opened lot_there shown Such
      (subst (λ (es : List EnvelopeRow). Such (evaluated_tenders n.weight (filter (λ (e : EnvelopeRow). same_id e.notice notice && same_id e.lot lot) es))) (sym envelopes) such)

  decision_shown : (t : ℕ) (r : LineRow) (o : Option EnvelopeRow) (securities : List SecurityRow)
      → ShowsLot Such (evaluation_shown caller (after_puts (decision_puts s.clock t n l r o securities) s) notice) lot
  decision_shown t r None securities =
      let v : Tables = after_puts (puts.Lot (unsuccessful l) ∷ puts.Line (record r { free = r.free + l.reserved }) ∷ puts.Notice (with_next_release n) ∷ clock_put s.clock t ∷ []) s in
      returned_shown Such caller notice lot (filter is_held_security securities) v
      (decided_shown v (unsuccessful l) refl refl refl (found_key keyed.lots s.lots (notice, lot) l is) refl)
  decision_shown t r (Some e) securities =
      decided_shown (after_puts (decision_puts s.clock t n l r (Some e) securities) s) (awarded e l) refl refl refl (found_key keyed.lots s.lots (notice, lot) l is) refl

-- Every accepted award.

pub open_notice : (s : Tables) (notice lot : List ℕ) (t : ℕ) → AllByRecursion (λ (test : Bool × Refusal). test.0 ≡ false) (award_tests (award_rows s notice lot) t) → (n : NoticeRow) → notice_at notice s ≡ Some n
    → is_opened n.state ≡ true
open_notice s notice lot t tests n there = not_false (is_opened n.state) (test_of (λ (n : NoticeRow). not (is_opened n.state)) (notice_at notice s) n there false tests.1.1.0)

module _ (means : Means) (xs : List Given) (s : Tables) (moment : ℕ) (caller : Caller) (reached : Reaches means xs s) where
  abbrev given : Command → Given
  given command = record { before = s; moment = moment; caller = caller; command = command }

  abbrev Wins : List ℕ → List ℕ → List EvaluatedTender → Type 0
  Wins notice lot shown = IsShownWinner (option_map (winning s.clock) (winner (notice_at notice s) (envelopes_of_lot notice lot s))) shown

  award_shown : (notice lot : List ℕ) → first_of (command_tests (given (Award notice lot))) ≡ None
      → WinnerIsShown means (given (Award notice lot)) notice lot (option_map (winning s.clock) (winner (notice_at notice s) (envelopes_of_lot notice lot s)))
  award_shown notice lot allowed =
      let x : Given = given (Award notice lot) in
      let now : ℕ = time_of x in
      let tenders : List EnvelopeRow = envelopes_of_lot notice lot s in
      let securities : List SecurityRow = securities_of_lot notice lot s in
      let tests = none_holds (award_tests (award_rows s notice lot) now) allowed in
      let n = witness (notice_at notice s) (not_false _ tests.0) in
      let l = witness (lot_at (notice, lot) s) (not_false _ tests.1.0) in
      let opened : is_opened n.0.state ≡ true = open_notice s notice lot now tests n.0 n.1 in
      let r = witness (line_at l.0.line s) ((parents_there means xs s reached).lots (notice, lot) l.0 l.1).line in
      let line : line_of_lot (lot_at (notice, lot) s) s ≡ Some r.0 = ap (λ o. line_of_lot o s) l.1 ∙ r.1 in
      let weight : ℕ = weight_in (notice_at notice s) in
      let such : Wins notice lot (evaluated_tenders n.0.weight tenders) =
      subst (λ (k : ℕ). Wins notice lot (evaluated_tenders k tenders)) (ap weight_in n.1) (winner_shown weight tenders s.clock (winner (notice_at notice s) tenders) (best_is_found.found weight tenders)) in
      let decided : effect means.readings x ≡ decision_puts s.clock now n.0 l.0 r.0 (winner (Some n.0) tenders) securities =
      λ i. award_puts (record { notice = n.1 i; lot = l.1 i; line = line i; envelopes = tenders; securities = securities; clock = s.clock }) now in
      record {
        before = lot_shown Clerk s notice lot n.0 l.0 n.1 opened l.1 refl (Wins notice lot) such;
        after = λ who.
            subst (λ (v : Tables). ShowsLot (Wins notice lot) (evaluation_shown who v notice) lot) (sym (after-append (effect means.readings x) (publication_puts (publication means x)) s))
            (published_shown (Wins notice lot) who notice lot (publication means x) (after_puts (effect means.readings x) s)
            (subst (λ (ps : List Put). ShowsLot (Wins notice lot) (evaluation_shown who (after_puts ps s) notice) lot) (sym decided)
            (decision_shown s notice lot n.0 l.0 n.1 opened l.1 (Wins notice lot) such who now r.0 (winner (Some n.0) tenders) securities)));
      }

  by_command : (command : Command) → first_of (command_tests (given command)) ≡ None → ReplyIsShown means (given command) command (reply_by None means (given command))
  by_command (Award notice lot) allowed = award_shown notice lot allowed
  by_command _ allowed = tt

pub winners_shown : WinnersAreShown
winners_shown means xs x reached allowed = by_command means xs x.before x.moment x.caller reached x.command (allowed_by x allowed)
