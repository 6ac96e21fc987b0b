-- Things of other programs in a file whose office is migrated.
use Rattle.std.specs.Prelude.{◌≡◌, ◌&&◌, ◌||◌, ◌==◌, ℕ, Bool, false, nat_le, not, is_some, List, [], ◌∷◌, codes, drop, length, take}
use Rattle.std.specs.Char.{is_ascii_alphanumeric}
use Rattle.std.specs.List.{list_any}
use Rattle.sqlite_schema.specs.declared.schema.Schema.{Schema}
use Rattle.sqlite_schema.specs.declared.schema.Table.{Table}
use Rattle.sqlite_schema.specs.declared.schema.View.{View}
use Rattle.sqlite_schema.specs.Names.{same_name}
use Rattle.sqlite_rules.specs.Lists.{Has}
use Rattle.sqlite.specs.Effect.{Database}
use Rattle.office_tables.specs.Earlier.{had_former}
use Rattle.office_tables.specs.Tables.Notices.{former_notices, notices}
use Rattle.office_tables.specs.Tables.Office.{office}

-- the name is that of a table whose rows a migration changes: `office`, and both tables of notices if the notices move
abbrev pub is_changed_where : Bool → List ℕ → Bool
is_changed_where had name = same_name office.name name || (had && (same_name former_notices.name name || same_name notices.name name))

-- a migration from this edition changes the rows of the table of this name
abbrev pub is_changed : ℕ → List ℕ → Bool
is_changed edition name = is_changed_where (had_former edition) name

-- a foreign key of the table refers to a table whose rows a migration changes
abbrev pub refers_there : ℕ → Table → Bool
refers_there edition t = list_any (λ r. is_changed edition r.parent) t.references

-- SQLite reads the byte as part of a word: a letter, a digit, `_`, `$`, or a byte that isn't ASCII
abbrev pub is_of_word : ℕ → Bool
is_of_word b = is_ascii_alphanumeric b || b == 95 || b == 36 || nat_le 128 b

-- the text begins with a byte of a word
abbrev pub goes_on : List ℕ → Bool
goes_on [] = false
goes_on (b ∷ text) = is_of_word b

-- the text begins with this word, in any case of its letters, and the word ends there
abbrev pub begins_with : List ℕ → List ℕ → Bool
begins_with word text = nat_le (length word) (length text) && (same_name (take (length word) text) word && not (goes_on (drop (length word) text)))

-- the word is one of the words of the text; `within` says that the byte before the text is part of a word
abbrev pub mentions_from : Bool → List ℕ → List ℕ → Bool
mentions_from within word [] = false
mentions_from within word (b ∷ text) = (not within && begins_with word (b ∷ text)) || mentions_from (is_of_word b) word text

-- the word is one of the words of the text, in any case of its letters
abbrev pub mentions : List ℕ → List ℕ → Bool
mentions word text = mentions_from false word text

-- the text of a view contains the name of a table whose rows a migration changes
abbrev pub shows_there : ℕ → View → Bool
shows_there edition v = not (is_some v.foreign) && (mentions (codes "office") v.sql || (had_former edition && (mentions (codes "notices") v.sql || mentions (codes "notices_2") v.sql)))

-- a foreign key or a view of another program leads to a table whose rows a migration changes
abbrev pub leads_there : ℕ → Schema → Bool
leads_there edition schema = list_any (refers_there edition) schema.tables || list_any (shows_there edition) schema.views

-- each table still exists, and keeps its rows unless a migration changes them
abbrev pub KeepsRest : ℕ → Database → Database → Type 0
KeepsRest edition old new =
    (t : Table) → Has old.schema.tables t → Has new.schema.tables t × (is_changed edition t.name ≡ false → new.trees t.tree ≡ old.trees t.tree)
