-- The page size that a database file names (SQLite file format, section 1.3.2).
use Rattle.std.specs.Prelude.{ℕ, ◌+◌, ◌*◌, ◌==◌, nat_lt, List, [], ◌∷◌, length, slice_index, if◌then◌else◌}
use Rattle.std.specs.List.{list_any}

-- The page sizes that two bytes can name directly.
abbrev pub page_sizes : List ℕ
page_sizes = 512 ∷ 1024 ∷ 2048 ∷ 4096 ∷ 8192 ∷ 16384 ∷ 32768 ∷ []

-- The page size that a number names: 1 means 65,536, and any number that isn't a page size means the usual one.
abbrev pub size_named : ℕ → ℕ
size_named named = if named == 1 then 65536 else (if list_any (λ size. size == named) page_sizes then named else 4096)

-- The page size by bytes 16 and 17 of the file, the high one first. It is the usual one if the file ends before byte 18.
abbrev pub page_size_in : List ℕ → ℕ
page_size_in head = if nat_lt (length head) 18 then 4096 else size_named (slice_index head 16 * 256 + slice_index head 17)
