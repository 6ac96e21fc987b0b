-- Other programs' tables in the same database, which a change of the office must leave as they are.
use Rattle.std.specs.Prelude.{◌≡◌, ◌⊎◌, ℕ, Bool, true, Some, []}
use Rattle.sqlite_schema.specs.declared.schema.Reference.{Reference}
use Rattle.sqlite_schema.specs.declared.schema.Schema.{Schema}
use Rattle.sqlite_schema.specs.declared.schema.Table.{Table}
use Rattle.sqlite_schema.specs.Rules.{ParentKey, parent_key}
use Rattle.sqlite_rules.specs.Lists.{Has}
use Rattle.sqlite_trees.specs.Tree.{Trees}

-- the foreign keys of marked tables lead to marked tables alone
abbrev pub LeadsInside : Schema → (ℕ → Bool) → Type 0
LeadsInside schema marked =
    (t : Table) (r : Reference) (key : ParentKey) → Has schema.tables t → marked t.tree ≡ true → Has t.references r → parent_key schema.tables r ≡ Some key → marked key.0 ≡ true

-- a table of the new schema is one of the old schema, or has no foreign keys
abbrev pub AddsNoReference : Schema → Schema → Type 0
AddsNoReference old new = (t : Table) → Has new.tables t → Has old.tables t ⊎ (t.references ≡ [])

-- each marked table keeps its rows
abbrev pub KeepsMarked : Schema → (ℕ → Bool) → Trees → Trees → Type 0
KeepsMarked schema marked old new = (t : Table) → Has schema.tables t → marked t.tree ≡ true → new t.tree ≡ old t.tree
