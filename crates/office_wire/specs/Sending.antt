-- The contents of a writer after bytes were sent.
use Rattle.std.specs.Prelude.{◌≡◌, ℕ, Bool, List, ◌++◌, Option}
use Rattle.std.specs.Io.KnownBytes.{Appends}

-- The bytes that were written so far, if they are known, and whether a write or a flush has failed. `is_flushed` says that the last write or flush that
-- succeeded was a flush.
pub record WriterView : Type 0 where
  pub contents : Option (List ℕ)
  pub has_failed : Bool
  pub is_flushed : Bool

-- The text begins with this part.
abbrev pub IsPrefix : List ℕ → List ℕ → Type 0
IsPrefix part text = (rest : List ℕ) × (text ≡ part ++ rest)

-- Known contents grew by the first part of the text.
pub record AppendsPart (old new : Option (List ℕ)) (text : List ℕ) : Type 0 where
  pub part : List ℕ
  pub front : IsPrefix part text
  pub more : Appends old new part
