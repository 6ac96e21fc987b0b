-- Whether a log was used, and whether it can be read. SQLite's log begins with a header of 32 bytes, and each page in it with one of 24 bytes (fileformat2.html,
-- section 4). The ported SQLite writes two bytes last, as gates: the first byte of the log, and byte 8 of the first page's header.
use Rattle.std.specs.Prelude.{◌≡◌, ◌⊎◌, ◌&&◌, ◌||◌, ◌==◌, ℕ, ◌+◌, ◌<◌, Bool, false, nat_lt, if◌then◌else◌, List, [], length, slice_index, take}
use Rattle.sqlite_wal.specs.Format.{be32, checksum, is_big}
use Rattle.sqlite_wal.specs.Opening.{RefusesLog}
use Rattle.sqlite_wal.specs.PageSize.{IsPageSize, size_in_file}
use Rattle.sqlite_wal.specs.Recovery.{Image, AreFramesOf, IsIgnored}
use Rattle.sqlite_wal.specs.declared.error.Error.{Error}
use Rattle.sqlite.specs.Files.{NamesSize}

-- the byte in place of a gate's own byte while the gate is shut
abbrev pub shut_gate : ℕ → ℕ
shut_gate open_byte = if open_byte == 0 then 1 else 0

-- the header ends with the checksum of its first 24 bytes
abbrev pub has_right_sum : List ℕ → Bool
has_right_sum head =
    let sum = checksum (is_big head) (0, 0) (take 24 head) in
    (sum.0 == be32 head 24) && (sum.1 == be32 head 28)

-- The gate of the log is shut. Or the header is whole, and the gate of its first page is shut: that gate opens to a byte of the header.
abbrev pub has_shut_gate : List ℕ → Bool
has_shut_gate head = (slice_index head 0 == 0) || (has_right_sum head && (slice_index head 40 == shut_gate (slice_index head 16)))

-- No change was ever committed to the log since it was made or emptied: it is too short for a page, or a gate is shut. So nothing is lost with it.
abbrev pub is_unused : List ℕ → Bool
is_unused log = nat_lt (length log) 56 || has_shut_gate (take 41 log)

-- the database file isn't empty, and recovery takes pages from the log
pub record HasCommit (image : Image) : Type 0 where
  pub present : 0 < length image.db
  pub size : ℕ
  pub numbers : List ℕ
  pub frames : AreFramesOf size image.log numbers
  pub some : 0 < length numbers

-- no page size is named by the log's header or, if the log is ignored, by the database file
abbrev pub NamesNoSize : Image → Type 0
NamesNoSize image = (¬ IsIgnored image.log → ¬ IsPageSize (be32 image.log 8)) × (IsIgnored image.log → ¬ IsPageSize (size_in_file image.db))

-- Recovery takes nothing from the log: the database file is empty, no page size is named, or the log has no whole page of that size.
abbrev pub LacksCommit : Image → Type 0
LacksCommit image =
    (length image.db ≡ 0)
    ⊎ (NamesNoSize image ⊎ ((size : ℕ) × NamesSize image size × (AreFramesOf size image.log [] ⊎ ((e : Error) × RefusesLog size image.log e))))
