-- A reader that counts its reads.
use Rattle.std.specs.Prelude.{◌≡◌, ℕ, ◌≤◌, ◌<◌, ◌⊎◌, Bool, true, List, ◌++◌, length, Option, OnSome}
use Rattle.std.specs.Io.{StopsAt}
use Rattle.std.specs.Io.KnownBytes.{Consumes, IsAtEnd}

-- The bytes that the reader will give, if they are known; the number of reads that may still be made; and whether one has failed.
pub record ReaderView : Type 0 where
  pub remaining : Option (List ℕ)
  pub left : ℕ
  pub has_failed : Bool

-- Nothing more is read: no read is left, or one has failed.
abbrev pub HasStopped : ReaderView → Type 0
HasStopped r = (r.left ≡ 0) ⊎ (r.has_failed ≡ true)

-- `n` bytes were read and appended, at most `most`. Only the last of them may be a line feed, and no bytes means that the input is at its end.
pub record TakesPart (old new : Option (List ℕ)) (before after : List ℕ) (most n : ℕ) : Type 0 where
  pub part : List ℕ
  pub appended : after ≡ before ++ part
  pub long : length part ≡ n
  pub within : n ≤ most
  pub line : StopsAt part 10
  pub taken : Consumes old new part
  pub ended : n ≡ 0 → 0 < most → OnSome old (IsAtEnd new)
