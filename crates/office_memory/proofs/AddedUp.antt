-- Lemmas for adding up the entries of contracts and the lines of the ledger.
use Rattle.office_memory.proofs.Names.{◌≡◌, ℕ, ◌+◌, ◌^◌, ◌≤◌, List, Some, None, sym, ap, ◌∙◌, subst, arith, sums_with_entry, Tables, IsSorted, reservations, sums_of_line, pots_with, SumsFit, JoinedSums, ContractSums, Pots, EntryKind, Raise, Cut, Payment, LineRow, HasRoom, IsLedgerRow}

-- after one of n + 1 entries is added, n more still fit into 128 bits
pub entry_room : (k : EntryKind) (amount : ℕ) (sums new : ContractSums) → new ≡ sums_with_entry k amount sums → amount ≤ 2 ^ 50 → (n : ℕ) → HasRoom (n + 1) sums → HasRoom n new
entry_room Raise amount sums new are bound n h = record {
  gained = omega (arith, h.gained, bound, ap (λ (s : ContractSums). s.gained) are);
  lost = omega (arith, h.lost, ap (λ (s : ContractSums). s.lost) are);
  paid = omega (arith, h.paid, ap (λ (s : ContractSums). s.paid) are);
}
entry_room Cut amount sums new are bound n h = record {
  gained = omega (arith, h.gained, ap (λ (s : ContractSums). s.gained) are);
  lost = omega (arith, h.lost, bound, ap (λ (s : ContractSums). s.lost) are);
  paid = omega (arith, h.paid, ap (λ (s : ContractSums). s.paid) are);
}
entry_room Payment amount sums new are bound n h = record {
  gained = omega (arith, h.gained, ap (λ (s : ContractSums). s.gained) are);
  lost = omega (arith, h.lost, bound, ap (λ (s : ContractSums). s.lost) are);
  paid = omega (arith, h.paid, bound, ap (λ (s : ContractSums). s.paid) are);
}

-- ---- the ledger

module _ (law : JoinedSums) (t : Tables) (sorted : IsSorted t) (row : LineRow) (reserved : List ℕ) (sums : List ContractSums)
    (reserved_are : reserved ≡ reservations row.line t) (sums_are_theirs : sums ≡ sums_of_line row.line t) where
  fits : SumsFit (reservations row.line t) (sums_of_line row.line t) → SumsFit reserved sums
  fits h =
      let family : List ContractSums → Type 0 = λ s. SumsFit reserved s in
      let first : List ℕ → Type 0 = λ r. SumsFit r (sums_of_line row.line t) in
      subst family (sym sums_are_theirs) (subst first (sym reserved_are) h)

  fits_back : SumsFit reserved sums → SumsFit (reservations row.line t) (sums_of_line row.line t)
  fits_back h =
      let family : List ContractSums → Type 0 = λ s. SumsFit (reservations row.line t) s in
      let first : List ℕ → Type 0 = λ r. SumsFit r sums in
      subst family sums_are_theirs (subst first reserved_are h)

  -- the balances that were added up are the right row of the ledger
  pub row_found : (pots : Pots) → pots ≡ pots_with row reserved sums → SumsFit reserved sums → IsLedgerRow t row (Some (record { line = row.line; pots = pots }))
  row_found pots are fit = (
    ap (λ (p : Pots). record { line = row.line; pots = p })
        (are ∙ ap (λ r. pots_with row r sums) reserved_are ∙ ap (pots_with row (reservations row.line t)) sums_are_theirs ∙ (law t sorted row).pots),
    (law t sorted row).fits.0 (fits_back fit),
  )

  -- if there are no balances, the line doesn't fit its bounds
  pub no_row : ¬ (SumsFit reserved sums) → IsLedgerRow t row None
  no_row unfit h = unfit (fits ((law t sorted row).fits.1 h))
