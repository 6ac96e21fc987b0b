-- In a reached office, the rows that its rows refer to exist, and no more went from a contract than came.
use Rattle.office_machine.proofs.Names.{◌≡◌, ℕ, ◌+◌, ◌≤◌, ◌<◌, true, false, not, ◌&&◌, List, filter, Option, Some, None, IsSome, is_some, nat_lt, option_and_then, refl, ap, subst, arith, nat_tests, is_raise, is_less, is_overdrawn, minus, plus, line_of_lot, security_of_envelope, lacks_security, IsSorted, Tables, contract_at, entries_of_contract, envelope_at, lot_at, same_number, seal_at, security_at, ContractRow, EntryRow, EnvelopeRow, LotRow, found_key, is_kept, Given, EnvelopeHas, HaveParents, HavePerformances}
use Rattle.office_machine.proofs.Accounts.Joins.{entry_sum-own}
use Rattle.office_machine.proofs.Accounts.Kept.{AccountsStand}
use Rattle.office_machine.proofs.Rows.Keyed as keyed

pub record IsWhole (xs : List Given) (s : Tables) : Type 0 where
  pub parents : HaveParents s s
  pub performances : HavePerformances s
  pub accounts : AccountsStand xs s
  pub order : IsSorted s
  -- No tender, no seal and no security has the next receipt, and each tender that is sealed or opened has its seal.
  pub unused : envelope_at (s.clock.receipts + 1) s ≡ None
  pub no_seal : seal_at (s.clock.receipts + 1) s ≡ None
  pub no_security : security_at (s.clock.receipts + 1) s ≡ None
  pub seals : (n : ℕ) (e : EnvelopeRow) → envelope_at n s ≡ Some e → is_kept e.state ≡ true → IsSome (seal_at n s)

pub not_less : (a b : ℕ) → b ≤ a → nat_lt a b ≡ false
not_less a b h = grind (arith, nat_tests, h)

pub less : (a b : ℕ) → nat_lt a b ≡ true → a < b
less a b h = grind (arith, nat_tests, h)

-- the security that a tender carries exists
module _ (s : Tables) (have : HaveParents s s) where
  pub security_there : (e : EnvelopeRow) → EnvelopeHas s e → lacks_security e (security_of_envelope (Some e) s) ≡ false
  security_there e h = by e.security h.security
    where
      by : (o : Option ℕ) → ((n : ℕ) → o ≡ Some n → IsSome (security_at n s)) → (is_some o && not (is_some (option_and_then (λ n. security_at n s) o))) ≡ false
      by None there = refl
      by (Some n) there = ap not (there n refl)

  pub line_there : (key : List ℕ × List ℕ) (o : Option LotRow) → lot_at key s ≡ o → IsSome o → IsSome (line_of_lot o s)
  line_there key None is there = absurd (let no : false ≡ true = there in cc)
  line_there key (Some l) is there = (have.lots key l is).line

-- no more went from a contract than came, by its own entries
own_within : (es : List EntryRow) (n : ℕ) (c : ContractRow) → c.contract ≡ n → minus es c ≤ plus es c → is_overdrawn (filter (λ (e : EntryRow). same_number e.contract n) es) c ≡ false
own_within es n c is within =
    subst (λ n. is_overdrawn (filter (λ (e : EntryRow). same_number e.contract n) es) c ≡ false) is
    (not_less _ _ (omega (arith, within, entry_sum-own is_raise es c.contract, entry_sum-own is_less es c.contract)))

pub not_overdrawn : (xs : List Given) (s : Tables) → AccountsStand xs s → (contract : ℕ) (c : ContractRow) → contract_at contract s ≡ Some c → is_overdrawn (entries_of_contract contract s) c ≡ false
not_overdrawn xs s kept contract c is = own_within s.entries contract c (found_key keyed.contracts s.contracts contract c is) (kept.contracts contract c is).within
