-- The laws of every table: the rows that a look-up finds after a change, and the order of the keys.
use Rattle.std.specs.Prelude.{◌≡◌, cond, List, Some}
use Rattle.std.specs.Ordering.{eq_by_cmp}
use Rattle.std.specs.declared.cmp.Ordering.{Ordering}
use Rattle.std.specs.declared.cmp.Ordering.TheVariants.{Equal}
use Rattle.office_base.specs.Rows.{row_at, row_put, row_drop, IsInOrder}

-- the laws of a table whose rows have these keys in this order
pub record RowsAreKept {K X : Type 0} (R : K → K → Ordering) (key : X → K) : Type 0 where
  -- after a put, a look-up of the row's key finds the row; a look-up of another key finds the same as before
  pub found_put : (xs : List X) (r : X) (k : K) → row_at R key (row_put R key xs r) k ≡ cond (eq_by_cmp R k (key r)) (Some r) (row_at R key xs k)
  -- a row that a look-up finds has the key that was asked for
  pub found_key : (xs : List X) (k : K) (x : X) → row_at R key xs k ≡ Some x → R k (key x) ≡ Equal
  -- a row is found at its own key after it was put
  pub own_found : (xs : List X) (r : X) → row_at R key (row_put R key xs r) (key r) ≡ Some r
  -- a put keeps the keys in order
  pub order_put : (xs : List X) (r : X) → IsInOrder R key xs → IsInOrder R key (row_put R key xs r)
  -- a drop keeps the keys in order
  pub order_drop : (xs : List X) (k : K) → IsInOrder R key xs → IsInOrder R key (row_drop R key xs k)
