-- The names of other crates, and of this one's definitions, that the proofs of this crate use. A file takes them by one import.
pub use Rattle.keyed_table.specs.Inside.Keyed.{stands_at_its_key, IsKeyed}
pub use Rattle.keyed_table.specs.Replacing.{with_old, IsThere}
pub use Rattle.keyed_table.specs.RowRanges.{is_between, rows_between, start_of}
pub use Rattle.office_base.proofs.Orders.{same_key, equal_back, alike_right, equal_from_test}
pub use Rattle.office_base.proofs.RowLaws.{all-put}
pub use Rattle.office_base.specs.Pages.{is_after, rows_after}
pub use Rattle.office_base.specs.RowLaws.{RowsAreKept}
pub use Rattle.office_base.specs.Rows.{by_order, StartsAbove, IsInOrder}
unfoldable pub use Rattle.office_base.specs.Rows.{row_at, row_put, row_drop}
pub use Rattle.std.proofs.Common.{refl, sym, ap, ◌∙◌, subst, map}
pub use Rattle.std.proofs.Math.Seq.{take-append_seam}
pub use Rattle.std.proofs.lemmas.Bool.{and_parts}
pub use Rattle.std.proofs.lemmas.List.{append-nil, take_all}
pub use Rattle.std.proofs.lemmas.Map.{NonePasses, lookup-none, keys-set_value}
pub use Rattle.std.proofs.lemmas.Map.Entries.{none_below_head}
pub use Rattle.std.proofs.lemmas.Map.Keys.{sorted_tail, sorted_head}
pub use Rattle.std.specs.BTreeMap.{is_at, insert_entry, get}
pub use Rattle.std.specs.BTreeMap.Range.{range_contains}
pub use Rattle.std.specs.Cmp.{IsTotalOrder}
pub use Rattle.std.specs.List.{list_all, AllByRecursion}
pub use Rattle.std.specs.List.Sorted.{IsStrictlySortedBy}
pub use Rattle.std.specs.Map.{keys_of, values_of, lookup, set_value, remove_entry}
pub use Rattle.std.specs.Ordering.{is_eq, is_le, is_lt}
pub use Rattle.std.specs.Prelude.{◌≡◌, List, [], ◌∷◌, Bool, true, false, ◌&&◌, None, IsSome, cond, not, filter, Option, Some, ℕ, ◌≤◌, ◌++◌, length, take}
pub use Rattle.std.specs.declared.cmp.Ordering.{Ordering}
pub use Rattle.std.specs.declared.cmp.Ordering.TheVariants.{Less, Equal, Greater}
pub use Rattle.std.specs.declared.ops.Bound.TheVariants.{Unbounded}
