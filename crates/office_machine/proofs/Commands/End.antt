-- The end of a contract keeps the laws of the office.
pub mod Gentle
use Rattle.office_machine.proofs.Names.{max, Option, nat_lt, ◌≡◌, ℕ, ◌+◌, Bool, true, false, cond, List, ◌∷◌, Some, None, is_some, refl, sym, ◌∙◌, ap, subst, ◌⊎◌, inl, inr, arith, [], not, ◌||◌, ◌&&◌, nat_cmp-IsAntisymmetric, nat_cmp_total, AllByRecursion, nat_cmp, eq_by_cmp, same_id, Refusal, Caller, How, End, IsSorted, same_number, Tables, line_at, notice_at, lot_at, contract_at, find_line, put_line, find_contract, put_contract, entries_of_contract, after_puts, performance_at, first_of, holds_of, with_next_release, clock_put, performance_settled, put_if, settled_performance, LineRow, NoticeRow, LotRow, ContractRow, plus, minus, outstanding, paid_under, notice_of_contract, lot_of_contract, line_of_lot, PerformanceRow, EntryRow, ClockRow, other_keys, end_tests, end_rows, ended_contract, ended_state, end_puts, end_lacks, lacks_performance, has_ended, HaveParents, Given, time_of, command_tests, effect, Readings, moves, brought, taken, owed, line_in, found_key, own_key}
use Rattle.office_commands.specs.declared.commands.Command.TheVariants as commands
use Rattle.office_base.specs.declared.puts.Put.TheVariants as puts
use Rattle.office_machine.proofs.Parents.SpokenOf.{of_contract}
use Rattle.office_machine.proofs.Parents.Whole.{IsWhole, less, line_there, not_overdrawn}
use Rattle.office_machine.proofs.Parents.ParentsPut.{Grows, AllParents, contract_still, parents-if}
use Rattle.office_machine.proofs.Worlds.WorldsPut.{plain-if, IsPlain, plain_pairs}
use Rattle.office_machine.proofs.Commands.Tail.{on_contract, moved, bonded, front}
use Rattle.office_machine.proofs.FateLaws.QuietFates.{Stands, contract_notice, kept_after, one_more}
use Rattle.office_machine.proofs.Accounts.Aside.{kept_aside, aside-if}
use Rattle.office_machine.proofs.Rows.Keyed.{found, none_before}
use Rattle.office_machine.proofs.Accounts.Kept.{AccountsStand, PotsAre, ContractIs, NoContractIs, over_contracts}
use Rattle.office_machine.proofs.Accounts.Joins.{outstanding-own, over_contracts-replaced, free-replaced}
use Rattle.office_machine.proofs.Passed.{none_holds, not_false, witness, test_of, split}
use Rattle.office_machine.proofs.Commands.Lawful.{Lawful, Moving}
use Rattle.office_machine.proofs.FateLaws.Views.{View}
use Rattle.office_machine.proofs.FateLaws.Seen.{seen, IsQuiet}
use Rattle.office_machine.proofs.FateLaws.FatesHold.{Keeps, given}
use Rattle.office_machine.proofs.Rows.Keyed as keyed
use Rattle.office_machine.proofs.Commands.End.Gentle.{end_gently}

-- an end keeps the accounts
module _ (readings : Readings) (xs : List Given) (s : Tables) (moment : ℕ) (caller : Caller) (c : ℕ) (how : How) (kept : AccountsStand xs s) (order : IsSorted s) where
  abbrev x : Given
  x = record { before = s; moment = moment; caller = caller; command = commands.End c how }

  module _ (r : ContractRow) (l : LotRow) (n : NoticeRow) (w : LineRow) (is : contract_at c s ≡ Some r) (lot : lot_at (r.notice, r.lot) s ≡ Some l) (notice : notice_at r.notice s ≡ Some n) (line : line_at l.line s ≡ Some w)
      (runs : is_some r.ended ≡ false) where
    abbrev left : ℕ
    left = outstanding (entries_of_contract c s) r

    abbrev r' : ContractRow
    r' = ended_contract (time_of x) how (entries_of_contract c s) r

    abbrev s' : Tables
    s' = record s { contracts = put_contract s.contracts r'; lines = put_line s.lines (record w { free = w.free + left }) }

    number : r.contract ≡ c
    number = found_key keyed.contracts s.contracts c r is

    contract_is : ContractIs xs s c r
    contract_is = kept.contracts c r is

    here : find_contract s.contracts r.contract ≡ Some r
    here = ap (find_contract s.contracts) number ∙ is

    left_is : left ≡ outstanding s.entries r
    left_is = outstanding-own s.entries c r number

    line_is : w.line ≡ l.line
    line_is = found_key keyed.lines s.lines l.line w line

    line_here : find_line s.lines w.line ≡ Some w
    line_here = ap (find_line s.lines) line_is ∙ line

    -- the line of the move is that of the contract's lot
    of_lot : line_in (lot_of_contract (contract_at c s) s) ≡ l.line
    of_lot = ap line_in (ap (λ o. lot_of_contract o s) is ∙ lot)

    joined : (f : ContractRow → ℕ) (q : List ℕ) → over_contracts f s.lots s'.contracts q + cond (same_id l.line q) (f r) 0 ≡ over_contracts f s.lots s.contracts q + cond (same_id l.line q) (f r') 0
    joined f q = over_contracts-replaced f s.lots s.contracts r r' l q here lot lot

    outgoing : owed xs c ≡ left
    outgoing = omega (arith, contract_is.came_in, contract_is.went_out, left_is)

    pots : (q : List ℕ) → PotsAre (moves (x ∷ xs)) s' q
    pots q =
        let old = kept.pots q in
        let freed = free-replaced s.lines w (w.free + left) q line_here in
        let moved_of : cond (same_id (line_in (lot_of_contract (contract_at c s) s)) q) (owed xs c) 0 ≡ cond (same_id l.line q) left 0 = (λ i. cond (same_id (of_lot i) q) (outgoing i) 0) in
        let there : cond (same_id l.line q) left 0 ≡ cond (same_id w.line q) left 0 = ap (λ n. cond (same_id n q) left 0) (sym line_is) in
        record {
          appropriation_is = omega (arith, old.appropriation_is, freed.appropriation_is);
          free_is = omega (arith, old.free_is, freed.free_is, split (same_id w.line q) w.free left (w.free + left) refl, moved_of, there);
          reserved_is = omega (arith, old.reserved_is);
          gains_are = omega (arith, old.gains_are, joined (plus s.entries) q);
          losses_are = omega (arith, old.losses_are, joined (minus s.entries) q, moved_of, split (same_id l.line q) (minus s.entries r) left (minus s.entries r') (omega (arith, contract_is.running runs)));
          paid_is = omega (arith, old.paid_is, joined (paid_under s.entries) q);
          none_spent = omega (arith, old.none_spent);
        }

    contracts : (n : ℕ) (y : ContractRow) → find_contract s'.contracts n ≡ Some y → ContractIs (x ∷ xs) s' n y
    contracts n y h = by (found keyed.contracts s.contracts r' n y h)
      where
        by : ((n ≡ r.contract) × (y ≡ r')) ⊎ ((eq_by_cmp nat_cmp n r.contract ≡ false) × (find_contract s.contracts n ≡ Some y)) → ContractIs (x ∷ xs) s' n y
        by (inl p) =
            let at : ContractIs (x ∷ xs) s' r.contract r' =
            record {
              of_award = (contract_is.of_award.0, ap (Rattle.office_base.specs.Tables.find_award s.awards) number ∙ contract_is.of_award.1, contract_is.of_award.2);
              running = λ e. cc;
              within = omega (arith, contract_is.within, contract_is.running runs, left_is);
              came_in = subst (λ n. plus s.entries r' ≡ brought (x ∷ xs) n) (sym number) (omega (arith, contract_is.came_in));
              went_out = subst (λ n. minus s.entries r' ≡ taken (x ∷ xs) n) (sym number) (omega (arith, contract_is.went_out, contract_is.within, contract_is.running runs, outgoing, left_is, ap (λ b. cond b (owed xs c) 0) (own_key nat_cmp_total c)));
            }
            in
            subst (λ n. ContractIs (x ∷ xs) s' n y) (sym p.0) (subst (ContractIs (x ∷ xs) s' r.contract) (sym p.1) at)
        by (inr p) = record {
          of_award = old.of_award;
          running = old.running;
          within = old.within;
          came_in = omega (arith, old.came_in);
          went_out = omega (arith, old.went_out, ap (λ b. cond b (owed xs n) 0) apart);
        }
          where
            old : ContractIs xs s n y
            old = kept.contracts n y p.1

            apart : same_number c n ≡ false
            apart = other_keys nat_cmp-IsAntisymmetric c n (λ e. let i : same_number n r.contract ≡ true = ap (λ k. same_number n k) (number ∙ e) ∙ own_key nat_cmp_total n in let f = p.0 in absurd cc)

    no_contract_is : (n : ℕ) → find_contract s'.contracts n ≡ None → NoContractIs (x ∷ xs) s' n
    no_contract_is n h =
        let p = none_before keyed.contracts s.contracts r' n h in
        let old = kept.no_contract n p.1 in
        let apart : same_number c n ≡ false = other_keys nat_cmp-IsAntisymmetric c n (λ e. let i : same_number n r.contract ≡ true = ap (λ k. same_number n k) (number ∙ e) ∙ own_key nat_cmp_total n in let f = p.0 in absurd cc) in
        record { came_in = omega (arith, old.came_in); went_out = omega (arith, old.went_out, ap (λ b. cond b (owed xs n) 0) apart); raised = old.raised; lessened = old.lessened; paid_out = old.paid_out }

    ended_keeps : AccountsStand (x ∷ xs) s'
    ended_keeps = record {
      pots = pots;
      lots = kept.lots;
      awards = λ a w h. let old = kept.awards a w h in record { drawn = old.drawn; of_lot = old.of_lot };
      one_active = kept.one_active;
      contracts = contracts;
      no_contract = no_contract_is;
    }

    effect_is : end_puts (record { contract = Some r; entries = entries_of_contract c s; notice = Some n; line = Some w; performance = performance_at c s; clock = s.clock }) (time_of x) how ≡ effect readings x
    effect_is = λ i. end_puts (record { contract = sym is i; entries = entries_of_contract c s; notice = (sym (ap (λ o. notice_of_contract o s) is ∙ notice) i); line = (sym (ap (λ o. line_of_lot o s) (ap (λ o. lot_of_contract o s) is ∙ lot) ∙ line) i); performance = performance_at c s; clock = s.clock }) (time_of x) how

    keeps : AccountsStand (x ∷ xs) (after_puts (effect readings x) s)
    keeps = subst (λ ps. AccountsStand (x ∷ xs) (after_puts ps s)) effect_is
        (kept_aside (x ∷ xs) (puts.Notice (with_next_release n) ∷ clock_put s.clock (time_of x) ∷ put_if (performance_settled (ended_state how)) (performance_at c s)) s' (tt, (omega arith, aside-if s.clock.awards (performance_settled (ended_state how)) (performance_at c s) (λ _. tt))) ended_keeps)

  module _ (have : HaveParents s s) (allowed : first_of (command_tests x) ≡ None) where
    passes : AllByRecursion (λ (test : Bool × Refusal). test.0 ≡ false) (command_tests x)
    passes = none_holds (command_tests x) allowed

    pub end_keeps : AccountsStand (x ∷ xs) (after_puts (effect readings x) s)
    end_keeps =
        let found = witness (contract_at c s) (not_false _ passes.0) in
        let r = found.0 in
        let is = found.1 in
        let of = have.contracts c r is in
        let lot = witness _ of.lot in
        let notice = witness _ of.notice in
        let line = witness _ (have.lots (r.notice, r.lot) lot.0 lot.1).line in
        keeps r lot.0 notice.0 line.0 is lot.1 notice.1 line.1 (test_of has_ended (contract_at c s) r is false passes.1.0)

-- the puts touch no tender and no security
quiet_puts : (V : View) (clock : ClockRow) (t : ℕ) (how : How) (c : Option ContractRow) (entries : List EntryRow) (n : Option NoticeRow) (r : Option LineRow) (p : Option PerformanceRow) → Stands V n
    → AllByRecursion (IsQuiet V clock.receipts) (end_puts (record { contract = c; entries = entries; notice = n; line = r; performance = p; clock = clock }) t how)
quiet_puts V clock t how (Some c) entries (Some n) (Some r) None h = (tt, (tt, (h n refl, (refl, tt))))
quiet_puts V clock t how (Some c) entries (Some n) (Some r) (Some p) h = (tt, (tt, (h n refl, (refl, (tt, tt)))))
quiet_puts V clock t how None entries _ _ p h = tt
quiet_puts V clock t how (Some c) entries None _ p h = tt
quiet_puts V clock t how (Some c) entries (Some n) None p h = tt

-- the command takes no tender in, and decides no tender and no security
fates_kept : (readings : Readings) (contract : ℕ) (how : How) → Keeps readings (End contract how)
fates_kept readings contract how xs t m caller kept own allowed =
    kept_after readings (given t m caller (End contract how) ∷ xs) _ t
    (quiet_puts (seen t) t.clock (max m t.clock.moment) how (contract_at contract t) (entries_of_contract contract t) (notice_of_contract (contract_at contract t) t) (line_of_lot (lot_of_contract (contract_at contract t) t) t) (performance_at contract t)
    (λ n found. contract_notice t (contract_at contract t) n found))
    (one_more readings xs (given t m caller (End contract how)) t kept refl (λ r. refl) (λ s. refl))

module _ (s u : Tables) (have : HaveParents s s) (g : Grows s u) where
  -- the rows that its rows refer to exist
  parents_of : (clock : ClockRow) (t : ℕ) (how : How) (contract : ℕ) (c : Option ContractRow) (entries : List EntryRow) (n : Option NoticeRow) (w : Option LineRow) (p : Option PerformanceRow) → contract_at contract s ≡ c → performance_at contract s ≡ p → AllParents u (end_puts (record { contract = c; entries = entries; notice = n; line = w; performance = p; clock = clock }) t how)
  parents_of clock t how contract (Some c) entries (Some n) (Some w) p is bond = let h = contract_still s u g c (have.contracts contract c is) in (record { notice = h.notice; lot = h.lot; tenderer = h.tenderer }, (tt, (tt, (tt, parents-if u (performance_settled (ended_state how)) p (λ v found. record { contract = g.contracts v.contract (have.performances contract v (bond ∙ found)).contract })))))
  parents_of clock t how contract None entries n w p is bond = tt
  parents_of clock t how contract (Some c) entries None w p is bond = tt
  parents_of clock t how contract (Some c) entries (Some n) None p is bond = tt

-- in both worlds the puts are the same
plain : (clock : ClockRow) (t : ℕ) (how : How) (c : Option ContractRow) (es : List EntryRow) (n : Option NoticeRow) (w : Option LineRow) (p : Option PerformanceRow) → AllByRecursion IsPlain (end_puts (record { contract = c; entries = es; notice = n; line = w; performance = p; clock = clock }) t how)
plain clock t how (Some c) es (Some n) (Some w) p = (tt, (tt, (tt, (tt, plain-if (performance_settled (ended_state how)) p (λ _. tt)))))
plain clock t how None es n w p = tt
plain clock t how (Some c) es None w p = tt
plain clock t how (Some c) es (Some n) None p = tt

-- the contract's notice, its lot's line and any performance security that the notice asks for exist; no more went from the contract than came
module _ (xs : List Given) (s : Tables) (whole : IsWhole xs s) (contract : ℕ) where
  performance_there : (c : ContractRow) → contract_at contract s ≡ Some c → (o : Option NoticeRow) → notice_at c.notice s ≡ o → holds_of (λ (n : NoticeRow). lacks_performance n (performance_at contract s)) o ≡ false
  performance_there c is None at = refl
  performance_there c is (Some n) at = by (nat_lt 0 n.performance) refl
    where
      by : (b : Bool) → nat_lt 0 n.performance ≡ b → (b && not (is_some (performance_at contract s))) ≡ false
      by true e = ap not (whole.performances contract c n is at (less 0 n.performance e))
      by false e = refl

  none_lacking : (o : Option ContractRow) → contract_at contract s ≡ o
      → end_lacks (record { contract = o; entries = entries_of_contract contract s; notice = notice_of_contract o s; line = line_of_lot (lot_of_contract o s) s; performance = performance_at contract s; clock = s.clock }) ≡ false
  none_lacking None is = refl
  none_lacking (Some c) is =
      let h = whole.parents.contracts contract c is in
      let line = line_there s whole.parents (c.notice, c.lot) (lot_at (c.notice, c.lot) s) refl h.lot in
      λ i. ap not h.notice i || ap not line i || performance_there c is (notice_at c.notice s) refl i || not_overdrawn xs s whole.accounts contract c is i

pub end_contract : (contract : ℕ) (how : How) → Lawful (End contract how)
end_contract contract how = record {
  accounts = Moving (λ readings xs s moment caller kept order have own allowed. end_keeps readings xs s moment caller contract how kept order have allowed);
  fates = λ readings. fates_kept readings contract how;
  tail = λ readings s moment caller have allowed.
      let tests = none_holds (end_tests (end_rows s contract)) allowed in
      let of = of_contract s have contract (not_false _ tests.0) in
      moved refl (λ i. end_puts (record { contract = of.is i; entries = entries_of_contract contract s; notice = of.notice i; line = of.line i; performance = performance_at contract s; clock = s.clock }) (max moment s.clock.moment) how)
      (bonded (settled_performance (ended_state how)) (performance_at contract s) refl
      (front (puts.Contract _ ∷ puts.Line _ ∷ []) (refl, (refl, tt)) (on_contract contract of refl tests.1.1.0)));
  parents = λ readings s moment caller order have registered may allowed u grown later. parents_of s u have grown s.clock _ how contract (contract_at contract s) (entries_of_contract contract s) (notice_of_contract (contract_at contract s) s) (line_of_lot (lot_of_contract (contract_at contract s) s) s) (performance_at contract s) refl refl;
  lacks = λ xs s moment caller whole allowed. none_lacking xs s whole contract (contract_at contract s) refl;
  alike = λ th W s es' ss' all seals readings t caller quiet.
      plain_pairs th W (end_puts (record { contract = contract_at contract s; entries = entries_of_contract contract s; notice = (notice_of_contract (contract_at contract s) s); line = (line_of_lot (lot_of_contract (contract_at contract s) s) s); performance = performance_at contract s; clock = s.clock }) t how)
      (plain s.clock t how (contract_at contract s) (entries_of_contract contract s) (notice_of_contract (contract_at contract s) s) (line_of_lot (lot_of_contract (contract_at contract s) s) s) (performance_at contract s));
  gentle = end_gently contract how;
}
