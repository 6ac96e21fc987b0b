-- Pages: how a table is read in parts, each after the last key of the one before.
use Rattle.std.specs.Prelude.{◌≡◌, ◌≤◌, ◌<◌, ◌+◌, ◌-◌, ℕ, zero, suc, Bool, true, cond, nat_lt, List, [], ◌++◌, length, take, filter, slice_get, Option, Some, None, option_map}
use Rattle.std.specs.Ordering.{is_lt}
use Rattle.std.specs.declared.cmp.Ordering.{Ordering}
use Rattle.office_values.specs.Ids.{id_cmp}
use Rattle.office_base.specs.Tables.{Tables, IsSorted, notice_key, tenderer_key}
use Rattle.office_base.specs.declared.records.NoticeRow.{NoticeRow}
use Rattle.office_base.specs.declared.records.TendererRow.{TendererRow}

-- whether a key comes after a given one; every key does if none is given
abbrev pub is_after : {K : Type 0} → (K → K → Ordering) → Option K → K → Bool
is_after R None k = true
is_after R (Some a) k = is_lt (R a k)

-- the rows whose keys come after a given one; all rows if none is given
abbrev pub rows_after : {K X : Type 0} → (K → K → Ordering) → (X → K) → Option K → List X → List X
rows_after R key after rows = filter (λ r. is_after R after (key r)) rows

-- the first `most` notices after a given one, or of all
abbrev pub notices_after : Option (List ℕ) → ℕ → Tables → List NoticeRow
notices_after after most t = take most (rows_after id_cmp notice_key after t.notices)

-- the first `most` tenderers after a given one, or of all
abbrev pub tenderers_after : Option (List ℕ) → ℕ → Tables → List TendererRow
tenderers_after after most t = take most (rows_after id_cmp tenderer_key after t.tenderers)

-- The key after which the next page begins, found in up to `most + 1` rows: that of row `most`. It is nothing if there are no more rows.
abbrev pub next_after : {K X : Type 0} → (X → K) → ℕ → List X → Option K
next_after key most rows = cond (nat_lt most (length rows)) (option_map key (slice_get rows (most - 1))) None

-- the rows that `go` gives for a key, or none if there is no key
abbrev pub followed : {K X : Type 0} → Option K → (K → List X) → List X
followed None go = []
followed (Some k) go = go k

-- the page after a key, and the pages that follow it, at most so many
unfoldable pub read_pages : {K X : Type 0} → (K → K → Ordering) → (X → K) → ℕ → ℕ → Option K → List X → List X
read_pages R key most zero after rows = []
read_pages R key most (suc more) after rows =
    take most (rows_after R key after rows) ++ followed (next_after key most (take (most + 1) (rows_after R key after rows))) (λ k. read_pages R key most more (Some k) rows)

-- a reader who takes page after page until none follows gets each row once, in the order of the keys, whatever the size of a page
abbrev pub PagesAreAll : {K X : Type 0} → (K → K → Ordering) → (X → K) → List X → Type 0
PagesAreAll R key rows = (most more : ℕ) → 0 < most → length rows ≤ more → read_pages R key most more None rows ≡ rows

-- the tables of notices and of tenderers can be read page by page
pub record ArePaged (t : Tables) : Type 0 where
  pub notices : PagesAreAll id_cmp notice_key t.notices
  pub tenderers : PagesAreAll id_cmp tenderer_key t.tenderers

-- all tables in order can be read page by page
abbrev pub TablesArePaged : Type 0
TablesArePaged = (t : Tables) → IsSorted t → ArePaged t
