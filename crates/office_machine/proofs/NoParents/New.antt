-- Over any tables, a put of a row that none names makes no parent, and replaces none.
use Rattle.office_machine.proofs.Names.{ℕ, ◌+◌, Bool, true, false, cond, not, ◌&&◌, ◌≡◌, List, [], ◌∷◌, Option, Some, is_some, filter, length, nat_eq, refl, sym, ◌∙◌, ap, arith, nat_tests, AllByRecursion, list_any, nat_cmp_total, same_id, Caller, NamedSecurity, same_itself, of_found, found_key, own_key, Tables, entry_at, envelope_at, seal_at, security_at, entries_of_contract, entry_cmp, entry_key, same_number, EntryRow, EnvelopeRow, seal_puts, security_put, is_taken, receipt_is_taken, OfReceipt, has_rows, is_named, is_there}
use Rattle.office_base.specs.declared.puts.Put.TheVariants as puts
use Rattle.office_machine.proofs.NoParents.Gentle.{AreGentle, IsGentle}
use Rattle.office_machine.proofs.Passed.{neither}
use Rattle.office_machine.proofs.Rows.Keyed as keyed

pub unnamed : (there named : Bool) → named ≡ false → (not there && named) ≡ false
unnamed true named e = refl
unnamed false named e = e

pub no_row : {X : Type 0} {P : Type 0} (o : Option X) (x : X) → is_some o ≡ false → o ≡ Some x → P
no_row o x none is = absurd (let no : true ≡ false = sym (ap is_some is) ∙ none in cc)

empty_by : {X : Type 0} (x : X) (xs : List X) → has_rows (x ∷ xs) ≡ false → ⊥
empty_by x xs e = let some : nat_eq (length (x ∷ xs)) 0 ≡ false = grind (arith, nat_tests) in let no : true ≡ false = ap not (sym some) ∙ e in cc

pub none_of : {X : Type 0} (p : X → Bool) (xs : List X) → has_rows (filter p xs) ≡ false → AllByRecursion (λ x. p x ≡ false) xs
none_of p [] e = tt
none_of p (x ∷ xs) e =
    elim (p x) as (λ b. p x ≡ b → has_rows (cond b (x ∷ filter p xs) (filter p xs)) ≡ false → (p x ≡ false) × AllByRecursion (λ x. p x ≡ false) xs) [
      | true ↦ λ is h. absurd (empty_by x (filter p xs) h)
      | false ↦ λ is h. (is, none_of p xs h)
    ] refl e

-- the next receipt has no tender, no seal and no security
module _ (s : Tables) (new : receipt_is_taken s ≡ false) where
  abbrev next : ℕ
  next = s.clock.receipts + 1

  pub new_tender : (row : EnvelopeRow) → row.receipt ≡ next → IsGentle s (puts.Envelope row)
  new_tender row is =
      let each = neither (is_some (envelope_at next s)) (is_named (OfReceipt next) s) new in (
        unnamed (is_there (OfReceipt row.receipt) s) (is_named (OfReceipt row.receipt) s) (ap (λ k. is_named (OfReceipt k) s) is ∙ each.1),
        λ a was. no_row (envelope_at next s) a each.0 (ap (λ k. envelope_at k s) (sym is) ∙ was),
      )

  none_named : (is_some (seal_at next s) ≡ false) × (is_some (security_at next s) ≡ false)
  none_named = neither (is_some (seal_at next s)) (is_some (security_at next s)) (neither (is_some (envelope_at next s)) (is_named (OfReceipt next) s) new).1

  pub new_seal : (bytes : List ℕ) → IsGentle s (puts.Seal (record { receipt = next; bytes = bytes }))
  new_seal bytes = (refl, λ a was. no_row (seal_at next s) a none_named.0 was)

  pub new_seals : (bytes : List ℕ) (in_time : Bool) → AreGentle s (seal_puts s.clock bytes in_time)
  new_seals bytes true = (new_seal bytes, tt)
  new_seals bytes false = tt

  pub new_security : (caller : Caller) (notice lot : List ℕ) (in_time : Bool) (named : NamedSecurity) → IsGentle s (security_put s.clock caller notice lot in_time named)
  new_security caller notice lot in_time named = (refl, λ a was. no_row (security_at next s) a none_named.1 was)

-- if none of the rows that pass one test passes another, no row passes both
none_both : {X : Type 0} (p q : X → Bool) (xs : List X) → list_any p (filter q xs) ≡ false → AllByRecursion (λ x. q x ≡ true → p x ≡ false) xs
none_both p q [] h = tt
none_both p q (x ∷ xs) h =
    elim (q x) as (λ b. q x ≡ b → list_any p (cond b (x ∷ filter q xs) (filter q xs)) ≡ false → (q x ≡ true → p x ≡ false) × AllByRecursion (λ x. q x ≡ true → p x ≡ false) xs) [
      | true ↦ λ is none. let each = neither (p x) (list_any p (filter q xs)) none in ((λ _. each.0), none_both p q xs each.1)
      | false ↦ λ is none. ((λ yes. absurd (let no : true ≡ false = sym yes ∙ is in cc)), none_both p q xs none)
    ] refl h

-- an entry whose identifier no entry of its contract has is new
module _ (s : Tables) (contract : ℕ) (entry : List ℕ) (new : list_any (is_taken entry) (entries_of_contract contract s) ≡ false) where
  not_taken : (a : EntryRow) → entry_at (contract, entry) s ≡ Some a → ⊥
  not_taken a is =
      let at : ◌≡◌ {A = ℕ × List ℕ} (a.contract, a.entry) (contract, entry) = found_key keyed.entries s.entries (contract, entry) a is in
      let own : same_number a.contract contract ≡ true = ap (λ (k : ℕ × List ℕ). same_number k.0 contract) at ∙ own_key nat_cmp_total contract in
      let taken : is_taken entry a ≡ true = ap (λ (k : ℕ × List ℕ). same_id k.1 entry) at ∙ same_itself entry in
      let free : is_taken entry a ≡ false = of_found entry_cmp entry_key (λ (e : EntryRow). same_number e.contract contract ≡ true → is_taken entry e ≡ false) s.entries (contract, entry) a (none_both (is_taken entry) (λ (e : EntryRow). same_number e.contract contract) s.entries new) is own in
      let no : true ≡ false = sym taken ∙ free in cc

  pub new_entry : (row : EntryRow) → row.contract ≡ contract → row.entry ≡ entry → IsGentle s (puts.Entry row)
  new_entry row number is = (refl, λ a was. absurd (not_taken a ((λ i. entry_at (sym number i, sym is i) s) ∙ was)))
