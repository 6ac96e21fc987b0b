-- The cancellation of a notice keeps the laws of the office.
pub mod Accounts
pub mod Fates
pub mod Gentle
use Rattle.office_machine.proofs.Names.{max, ℕ, List, IsSome, [], ◌∷◌, ◌≡◌, Bool, false, ◌++◌, map, filter, Option, Some, None, refl, ap, sym, arith, not, ◌||◌, AllByRecursion, list_any, Cancel, EnvelopeRow, IsSorted, notice_at, Tables, lots_of_notice, awards_of_notice, envelopes_of_notice, securities_of_notice, of_notice, line_at, LineRow, NoticeRow, LotRow, SecurityRow, AwardRow, ClockRow, Put, security_returned, has_all_releases, clock_put, cancel_tests, cancel_rows, is_open_lot, is_ended_award, award_put, is_ended_envelope, envelope_put, drop_put, is_ended_security, cancelled_notice, returned_envelope, cancel_puts, cancel_lacks, lacks_line, ChosenTender, Pairs, HaveParents, LotHas, EnvelopeHas, AwardHas}
use Rattle.office_base.specs.declared.puts.Put.TheVariants as puts
use Rattle.tender_core.specs.Rules.Cancel.{freed_line_put as cancel_line, cancelled_lot_put as cancel_lot}
use Rattle.office_machine.proofs.Commands.Tail.{HasTail, moved, front_map, loud}
use Rattle.office_machine.proofs.Commands.Footprint.{Notices, Envelopes, Seals, Lines, Lots, Securities, Awards}
use Rattle.office_machine.proofs.Worlds.WorldsPut.{TwoEnvelopes, Alike, plain-map, plain-append, PutPair, Plain, receipt_is, pairs-filter, plain_pairs, pairs-append, pairs-map, alike-set}
use Rattle.office_machine.proofs.Parents.ParentsPut.{Grows, Parents, AllParents, lot_still, envelope_still, award_still, parents-append, parents-map, parents-all, all-filter, all-table}
use Rattle.office_machine.proofs.Worlds.WorldsRows.{notice_pairs}
use Rattle.office_machine.proofs.Parents.RowsHave.{securities_have, returned}
use Rattle.office_machine.proofs.Commands.Cancel.Accounts.{cancel_keeps}
use Rattle.office_machine.proofs.Commands.Lawful.{Lawful, Moving}
use Rattle.office_machine.proofs.Passed.{none_holds, not_false, witness}
use Rattle.office_machine.proofs.Commands.Cancel.Fates as cancel_fates
use Rattle.office_machine.proofs.Rows.Keyed as keyed
use Rattle.office_machine.proofs.Commands.Cancel.Gentle.{cancel_gently}

-- six kinds of rows are put before the notice and the clock
tail_of : (s : Tables) (t : ℕ) (notice : List ℕ) (n : NoticeRow) → notice_at notice s ≡ Some n → has_all_releases (notice_at notice s) ≡ false
    → HasTail s t (Notices ∷ Lines ∷ Lots ∷ Awards ∷ Envelopes ∷ Seals ∷ Securities ∷ []) (Some notice) None
    (cancel_puts (record { notice = Some n; lines = s.lines; lots = lots_of_notice notice s; awards = awards_of_notice notice s; envelopes = envelopes_of_notice notice s; securities = securities_of_notice notice s; clock = s.clock }) t)
tail_of s t notice n is full =
    let lots : List LotRow = lots_of_notice notice s in
    let ended : List LotRow = filter is_open_lot lots in
    let gone : List EnvelopeRow = filter (is_ended_envelope lots) (envelopes_of_notice notice s) in
    let awards : List AwardRow = filter (is_ended_award lots) (awards_of_notice notice s) in
    let securities : List SecurityRow = filter (is_ended_security lots) (securities_of_notice notice s) in
    front_map (cancel_line s.lines ended) ended (λ _. refl)
    (front_map cancel_lot ended (λ _. refl)
    (front_map award_put awards (λ _. refl)
    (front_map envelope_put gone (λ _. refl)
    (front_map drop_put gone (λ _. refl)
    (front_map security_returned securities (λ _. refl)
    (loud notice n (cancelled_notice n) _ [] is full refl refl refl refl tt refl (omega arith)))))))

module _ (s u : Tables) (have : HaveParents s s) (g : Grows s u) (order : IsSorted s) where
  -- if the rows that a row refers to exist, those of its put do, for every row of a table
  lots_have : (make : LotRow → Put) → ((l : LotRow) → LotHas u l → Parents u (make l)) → AllByRecursion (λ l. Parents u (make l)) s.lots
  lots_have make h = all-table keyed.lots (λ l. Parents u (make l)) s.lots order.lots (λ k l is. h l (lot_still s u g l (have.lots k l is)))

  awards_have : (make : AwardRow → Put) → ((a : AwardRow) → AwardHas u a → Parents u (make a)) → AllByRecursion (λ a. Parents u (make a)) s.awards
  awards_have make h = all-table keyed.awards (λ a. Parents u (make a)) s.awards order.awards (λ k a is. h a (award_still s u g a (have.awards k a is)))

  envelopes_have : (make : EnvelopeRow → Put) → ((e : EnvelopeRow) → EnvelopeHas u e → Parents u (make e)) → AllByRecursion (λ e. Parents u (make e)) s.envelopes
  envelopes_have make h = all-table keyed.envelopes (λ e. Parents u (make e)) s.envelopes order.envelopes (λ k e is. h e (envelope_still s u g e (have.envelopes k e is)))

  -- the rows that its rows refer to exist
  parents_of : (clock : ClockRow) (t : ℕ) (notice : List ℕ) (row : Option NoticeRow) → AllParents u (cancel_puts (record { notice = row; lines = s.lines; lots = lots_of_notice notice s; awards = awards_of_notice notice s; envelopes = envelopes_of_notice notice s; securities = securities_of_notice notice s; clock = clock }) t)
  parents_of clock t notice None = tt
  parents_of clock t notice (Some n) =
      let lots : List LotRow = lots_of_notice notice s in
      let ended : List LotRow = filter is_open_lot lots in
      let gone : List EnvelopeRow = filter (is_ended_envelope lots) (envelopes_of_notice notice s) in
      parents-append u (map (cancel_line s.lines ended) ended) _ (parents-map u (cancel_line s.lines ended) ended (λ _. tt))
      (parents-append u (map cancel_lot ended) _ (parents-all u cancel_lot ended (all-filter _ is_open_lot lots (all-filter _ (of_notice notice) s.lots (lots_have cancel_lot (λ l h. record { notice = h.notice; line = h.line })))))
      (parents-append u (map award_put (filter (is_ended_award lots) (awards_of_notice notice s))) _
      (parents-all u award_put (filter (is_ended_award lots) (awards_of_notice notice s)) (all-filter _ (is_ended_award lots) (awards_of_notice notice s) (all-filter _ _ s.awards (awards_have award_put (λ a h. record { notice = h.notice; lot = h.lot; envelope = h.envelope })))))
      (parents-append u (map envelope_put gone) _
      (parents-all u envelope_put gone (all-filter _ (is_ended_envelope lots) (envelopes_of_notice notice s) (all-filter _ _ s.envelopes (envelopes_have envelope_put (λ e h. record { notice = h.notice; lot = h.lot; tenderer = h.tenderer; security = h.security })))))
      (parents-append u (map drop_put gone) _ (parents-map u drop_put gone (λ _. tt))
      (parents-append u (map security_returned (filter (is_ended_security lots) (securities_of_notice notice s))) _
      (parents-all u security_returned (filter (is_ended_security lots) (securities_of_notice notice s)) (all-filter _ (is_ended_security lots) (securities_of_notice notice s) (all-filter _ _ s.securities (securities_have s u have g order security_returned (returned s u have g)))))
      (tt, (tt, tt)))))))

-- if the rows of two worlds are alike, they end alike
module _ (th : ChosenTender) (W : ℕ → Bool) where
  pairs : (clock : ClockRow) (t : ℕ) (lines : List LineRow) (n : Option NoticeRow) (lots : List LotRow) (awards : List AwardRow) (es es' : List EnvelopeRow) (securities : List SecurityRow) → Pairs (Alike th W) es es'
      → Pairs (PutPair th W) (cancel_puts (record { notice = n; lines = lines; lots = lots; awards = awards; envelopes = es; securities = securities; clock = clock }) t) (cancel_puts (record { notice = n; lines = lines; lots = lots; awards = awards; envelopes = es'; securities = securities; clock = clock }) t)
  pairs clock t lines None lots awards es es' securities all = tt
  pairs clock t lines (Some n) lots awards es es' securities all =
      let ended : List LotRow = filter is_open_lot lots in
      let gone : Pairs (Alike th W) (filter (is_ended_envelope lots) es) (filter (is_ended_envelope lots) es') = pairs-filter th W (is_ended_envelope lots) (λ _ _. refl) es es' all in
      pairs-append th W (map (cancel_line lines ended) ended) (map (cancel_line lines ended) ended) _ _ (plain_pairs th W (map (cancel_line lines ended) ended) (plain-map (cancel_line lines ended) ended (λ _. tt)))
      (pairs-append th W (map cancel_lot ended) (map cancel_lot ended) _ _ (plain_pairs th W (map cancel_lot ended) (plain-map cancel_lot ended (λ _. tt)))
      (pairs-append th W (map award_put (filter (is_ended_award lots) awards)) (map award_put (filter (is_ended_award lots) awards)) _ _ (plain_pairs th W (map award_put (filter (is_ended_award lots) awards)) (plain-map award_put (filter (is_ended_award lots) awards) (λ _. tt)))
      (pairs-append th W (map envelope_put (filter (is_ended_envelope lots) es)) (map envelope_put (filter (is_ended_envelope lots) es')) _ _
      (pairs-map th W (Alike th W) envelope_put envelope_put (filter (is_ended_envelope lots) es) (filter (is_ended_envelope lots) es') gone
      (λ e e' a. TwoEnvelopes (returned_envelope e) (returned_envelope e') refl refl (alike-set th W returned_envelope (λ _ _. refl) (λ _. refl) (λ _. refl) (λ _. refl) e e' a)))
      (pairs-append th W (map drop_put (filter (is_ended_envelope lots) es)) (map drop_put (filter (is_ended_envelope lots) es')) _ _
      (pairs-map th W (Alike th W) drop_put drop_put (filter (is_ended_envelope lots) es) (filter (is_ended_envelope lots) es') gone (λ e e' a. Plain tt (ap (λ n. puts.DropSeal n) (sym (receipt_is th W e e' a)))))
      (plain_pairs th W (map security_returned (filter (is_ended_security lots) securities) ++ (puts.Notice (cancelled_notice n) ∷ clock_put clock t ∷ []))
      (plain-append (map security_returned (filter (is_ended_security lots) securities)) _ (plain-map security_returned (filter (is_ended_security lots) securities) (λ _. tt)) (tt, (tt, tt))))))))

-- the lines of the notice's lots exist
module _ (s : Tables) (have : HaveParents s s) (order : IsSorted s) where
  lines_there : (lots : List LotRow) → AllByRecursion (λ (l : LotRow). IsSome (line_at l.line s)) lots → list_any (lacks_line s.lines) lots ≡ false
  lines_there [] h = refl
  lines_there (l ∷ lots) h = λ i. ap not h.0 i || lines_there lots h.1 i

  none_lacking : (notice : List ℕ) (o : Option NoticeRow) → cancel_lacks (record { notice = o; lines = s.lines; lots = lots_of_notice notice s; awards = []; envelopes = []; securities = []; clock = s.clock }) ≡ false
  none_lacking notice None = refl
  none_lacking notice (Some n) =
      lines_there (filter is_open_lot (lots_of_notice notice s))
      (all-filter _ is_open_lot (lots_of_notice notice s) (all-filter _ (of_notice notice) s.lots (all-table keyed.lots (λ (l : LotRow). IsSome (line_at l.line s)) s.lots order.lots (λ k l is. (have.lots k l is).line))))

pub cancel : (notice rationale : List ℕ) → Lawful (Cancel notice rationale)
cancel notice rationale = record {
  accounts = Moving (λ readings xs s moment caller kept order have own allowed. cancel_keeps readings xs s moment caller notice rationale kept order allowed);
  fates = λ readings. cancel_fates.cancel_keeps readings notice rationale;
  tail = λ readings s moment caller have allowed.
      let now : ℕ = max moment s.clock.moment in
      let tests = none_holds (cancel_tests (cancel_rows s notice)) allowed in
      let n = witness (notice_at notice s) (not_false _ tests.0) in
      moved refl (λ i. cancel_puts (record { notice = n.1 i; lines = s.lines; lots = lots_of_notice notice s; awards = awards_of_notice notice s; envelopes = envelopes_of_notice notice s; securities = securities_of_notice notice s; clock = s.clock }) now)
      (tail_of s now notice n.0 n.1 tests.1.1.0);
  parents = λ readings s moment caller order have registered may allowed u grown later. parents_of s u have grown order s.clock _ notice (notice_at notice s);
  lacks = λ xs s moment caller whole allowed. none_lacking s whole.parents whole.order notice (notice_at notice s);
  alike = λ th W s es' ss' all seals readings t caller quiet.
      pairs th W s.clock t s.lines (notice_at notice s) (lots_of_notice notice s) (awards_of_notice notice s) (envelopes_of_notice notice s) (envelopes_of_notice notice (record s { envelopes = es' })) (securities_of_notice notice s) (notice_pairs th W s es' all notice);
  gentle = cancel_gently notice rationale;
}
