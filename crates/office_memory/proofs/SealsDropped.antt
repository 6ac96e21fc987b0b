-- Sealed bytes that are put while others are still to be dropped.
use Rattle.office_memory.proofs.Names.{◌≡◌, ℕ, not, nat_eq, List, filter, sym, ap, arith, nat_cmp_total, nat_cmp, eq_by_cmp, nat_tests, RowsAreKept, IsInOrder, seal_key, put_seal, SealRow, rows_drop}
use Rattle.office_memory.proofs.RowsDropped.{put_over_drops}

number_test : (a b : ℕ) → nat_eq a b ≡ eq_by_cmp nat_cmp a b
number_test a b = grind (arith, nat_tests)

-- putting sealed bytes removes their receipt from those that are still to be dropped
pub seal_put : RowsAreKept nat_cmp seal_key → (rows : List SealRow) (receipts : List ℕ) (row : SealRow) → IsInOrder nat_cmp seal_key rows
    → rows_drop nat_cmp seal_key (put_seal rows row) (filter (λ k. not (nat_eq k row.receipt)) receipts) ≡ put_seal (rows_drop nat_cmp seal_key rows receipts) row
seal_put laws rows receipts row order =
    sym (put_over_drops nat_cmp_total seal_key laws (λ k. not (nat_eq k row.receipt)) receipts rows row (λ k. ap not (number_test k row.receipt)) order)
