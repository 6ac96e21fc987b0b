-- The submission of a tender keeps the laws of the office.
pub mod Fates
pub mod Gentle
use Rattle.office_machine.proofs.Names.{max, ℕ, List, Option, IsSome, ◌+◌, [], ◌∷◌, refl, is_some, ◌≡◌, Bool, true, false, Some, None, option_map, sym, ◌∙◌, ap, arith, subst, length, Present, NamedSecurity, Caller, Public, Clerk, Tenderer, tenderer_of, is_tenderer, notice_at, lot_at, Tables, tenderer_at, security_at, after_puts, holds_of, is_in_time, put_if, ClockRow, received_puts, seal_puts, security_put, received, ChosenTender, Pairs, is_theirs, command_tests, IsRegistered}
use Rattle.office_base.specs.declared.puts.Put.TheVariants as puts
use Rattle.tender_core.specs.Rules.Present.{security_made}
use Rattle.office_machine.proofs.Commands.Tail.{HasTail, front, quiet}
use Rattle.office_machine.proofs.Commands.Footprint.{Envelopes, Seals, Securities}
use Rattle.office_machine.proofs.Worlds.WorldsPut.{TwoEnvelopes, TwoSeals, plain-if, PutPair, Plain, plain_pairs, pairs-append}
use Rattle.office_machine.proofs.Parents.NoOrphans.{receipt_is_new}
use Rattle.office_machine.proofs.Parents.ParentsPut.{Grows, AllParents, parents-append, parents-if}
use Rattle.office_machine.proofs.Passed.{none_holds, not_false}
use Rattle.office_machine.proofs.Commands.Lawful.{Lawful, Idle, given}
use Rattle.office_machine.proofs.Rows.Keyed.{found_put}
use Rattle.office_machine.proofs.Commands.Present.Fates as present_fates
use Rattle.office_machine.proofs.Rows.Keyed as keyed
use Rattle.office_machine.proofs.Commands.Present.Gentle.{present_gently}

-- the puts of the command
tail_of : (digest : List ℕ → List ℕ) (s : Tables) (t : ℕ) (caller : Caller) (notice lot : List ℕ) (security : Option NamedSecurity) (bytes : List ℕ) (in_time : Bool)
    → HasTail s t (Envelopes ∷ Seals ∷ Securities ∷ []) None None (received_puts digest s.clock t caller notice lot security bytes in_time)
tail_of digest s t caller notice lot None bytes true = front (puts.Envelope _ ∷ []) (refl, tt) (quiet _ (puts.Seal _ ∷ []) (refl, tt) refl (omega arith))
tail_of digest s t caller notice lot None bytes false = front (puts.Envelope _ ∷ []) (refl, tt) (quiet _ [] tt refl (omega arith))
tail_of digest s t caller notice lot (Some named) bytes true = front (puts.Envelope _ ∷ []) (refl, tt) (quiet _ (puts.Seal _ ∷ puts.Security _ ∷ []) (refl, (refl, tt)) refl (omega arith))
tail_of digest s t caller notice lot (Some named) bytes false = front (puts.Envelope _ ∷ []) (refl, tt) (quiet _ (puts.Security _ ∷ []) (refl, tt) refl (omega arith))

module _ (s u : Tables) (g : Grows s u) where
  seal_parents : (clock : ClockRow) (bytes : List ℕ) (in_time : Bool) → AllParents u (seal_puts clock bytes in_time)
  seal_parents clock bytes true = (tt, tt)
  seal_parents clock bytes false = tt

  named_is : (o : Option NamedSecurity) (m n : ℕ) → option_map (λ (named : NamedSecurity). m) o ≡ Some n → (is_some o ≡ true) × (m ≡ n)
  named_is None m n e = cc
  named_is (Some named) m n e = (refl, let f : Some m ≡ Some n = e in cc)

  -- the rows that its rows refer to exist
  parents_of : (digest : List ℕ → List ℕ) (clock : ClockRow) (t : ℕ) (caller : Caller) (notice lot : List ℕ) (security : Option NamedSecurity) (bytes : List ℕ) (in_time : Bool)
      → IsSome (notice_at notice s) → IsSome (lot_at (notice, lot) s) → IsSome (tenderer_at (tenderer_of caller) s) → (is_some security ≡ true → IsSome (security_at (clock.receipts + 1) u))
      → AllParents u (received_puts digest clock t caller notice lot security bytes in_time)
  parents_of digest clock t caller notice lot security bytes in_time there lot_there who new = (
    record {
      notice = g.notices notice there;
      lot = g.lots (notice, lot) lot_there;
      tenderer = g.tenderers (tenderer_of caller) who;
      security = λ n e. let named = named_is security (clock.receipts + 1) n e in subst (λ n. IsSome (security_at n u)) named.1 (new named.0);
    },
    (
      tt,
      parents-append u (seal_puts clock bytes in_time) _ (seal_parents clock bytes in_time)
          (parents-if u (security_put clock caller notice lot in_time) security (λ named is. record { notice = g.notices notice there; lot = g.lots (notice, lot) lot_there; tenderer = g.tenderers (tenderer_of caller) who })),
    ),
  )

-- the puts of a submission have the security that their envelope carries
security_put_there : (digest : List ℕ → List ℕ) (clock : ClockRow) (t : ℕ) (caller : Caller) (notice lot : List ℕ) (security : Option NamedSecurity) (bytes : List ℕ) (in_time : Bool) (s : Tables) → is_some security ≡ true
    → IsSome (security_at (clock.receipts + 1) (after_puts (received_puts digest clock t caller notice lot security bytes in_time) s))
security_put_there digest clock t caller notice lot None bytes in_time s e = cc
security_put_there digest clock t caller notice lot (Some named) bytes true s e = ap is_some (found_put keyed.securities s.securities (security_made clock caller notice lot true named))
security_put_there digest clock t caller notice lot (Some named) bytes false s e = ap is_some (found_put keyed.securities s.securities (security_made clock caller notice lot false named))

-- a tenderer who may submit a tender is registered
presenter : (caller : Caller) (s : Tables) → is_tenderer caller ≡ true → IsRegistered caller s.tenderers → IsSome (tenderer_at (tenderer_of caller) s)
presenter Public s may registered = cc
presenter Clerk s may registered = cc
presenter (Tenderer id) s may registered = registered

-- the command with these bytes in one world and other bytes in the other
module _ (th : ChosenTender) (W : ℕ → Bool) (digest : List ℕ → List ℕ) (clock : ClockRow) (t : ℕ) (bytes bytes' : List ℕ) (len : length bytes ≡ length bytes') where
  seal_pairs : (in_time : Bool) → (W (clock.receipts + 1) ≡ false → bytes ≡ bytes') → Pairs (PutPair th W) (seal_puts clock bytes in_time) (seal_puts clock bytes' in_time)
  seal_pairs true same = (TwoSeals (record { receipt = clock.receipts + 1; bytes = bytes }) (record { receipt = clock.receipts + 1; bytes = bytes' }) refl refl refl (λ out. λ i. record { receipt = clock.receipts + 1; bytes = same out i }), tt)
  seal_pairs false same = tt

  pub present_pairs : (caller : Caller) (notice lot : List ℕ) (security : Option NamedSecurity) (in_time : Bool) → is_theirs th (received digest clock t caller notice lot security bytes in_time) ≡ W (clock.receipts + 1)
      → (is_theirs th (received digest clock t caller notice lot security bytes in_time) ≡ false → bytes ≡ bytes')
      → Pairs (PutPair th W) (received_puts digest clock t caller notice lot security bytes in_time) (received_puts digest clock t caller notice lot security bytes' in_time)
  present_pairs caller notice lot security in_time own same = (
    TwoEnvelopes (received digest clock t caller notice lot security bytes in_time) (received digest clock t caller notice lot security bytes' in_time) refl refl
        (record { rows = record { but_digest = λ i. record (received digest clock t caller notice lot security bytes in_time) { length = sym len i; digest = digest bytes' }; digest = λ out. ap digest (sym (same out)) }; own = own }),
    (
      Plain tt refl,
      pairs-append th W (seal_puts clock bytes in_time) (seal_puts clock bytes' in_time) (put_if (security_put clock caller notice lot in_time) security) (put_if (security_put clock caller notice lot in_time) security)
          (seal_pairs in_time (λ out. same (own ∙ out)))
          (plain_pairs th W (put_if (security_put clock caller notice lot in_time) security) (plain-if (security_put clock caller notice lot in_time) security (λ _. tt))),
    ),
  )

pub present : (notice lot : List ℕ) (security : Option NamedSecurity) (bytes : List ℕ) → Lawful (Present notice lot security bytes)
present notice lot security bytes = record {
  accounts = Idle refl (λ s moment caller xs. record { moves_none = refl; held = λ _. refl; none_brought = λ _. refl; none_taken = λ _. refl });
  fates = λ readings. present_fates.present_keeps readings notice lot security bytes;
  tail = λ readings s moment caller have allowed.
      let now : ℕ = max moment s.clock.moment in
      tail_of readings.digest s now caller notice lot security bytes (holds_of (is_in_time now) (notice_at notice s));
  parents = λ readings s moment caller order have registered may allowed u grown later.
      let passes = none_holds (command_tests (given s moment caller (Present notice lot security bytes))) allowed in
      let there = not_false (is_some (notice_at notice s)) passes.0 in
      let lot_there = not_false (is_some (lot_at (notice, lot) s)) passes.1.0 in
      parents_of s u grown readings.digest s.clock _ caller notice lot security bytes _ there lot_there (presenter caller s may registered)
      (λ named. later.securities (s.clock.receipts + 1) (security_put_there readings.digest s.clock _ caller notice lot security bytes _ s named));
  lacks = λ xs s moment caller whole allowed. receipt_is_new xs s whole;
  alike = λ th W s es' ss' all seals readings t caller quiet. absurd quiet;
  gentle = present_gently notice lot security bytes;
}
