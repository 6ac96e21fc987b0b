-- The input of a run: blocks that have a line `at MOMENT` and one request.
use Rattle.std.specs.Prelude.{◌≡◌, ◌≢◌, ℕ, List, [], ◌∷◌, ◌++◌, length, Option, Some, None, codes}
use Rattle.office_values.specs.Moments.{IsMomentText}
use Rattle.office_wire.specs.Request.{RequestView, IsRequest, IsRefused}
use Rattle.office_wire.specs.declared.fault.ReadFault.{ReadFault}
use Rattle.office_wire.specs.declared.fault.ReadFault.TheVariants as fault

-- The line has 24 bytes: `at YYYY-MM-DDTHH:MM:SSZ` and a line feed.
pub record IsLine (line : List ℕ) (moment : ℕ) : Type 0 where
  pub long : length line ≡ 24
  pub text : List ℕ
  pub says : IsMomentText moment text
  pub whole : line ≡ codes "at " ++ text ++ 10 ∷ []

-- The input begins with the line of this moment, followed by `after`.
pub record HasLine (input : List ℕ) (moment : ℕ) (after : List ℕ) : Type 0 where
  pub line : List ℕ
  pub is : IsLine line moment
  pub whole : input ≡ line ++ after

-- A block: a moment and a request.
pub record Block : Type 0 where
  pub moment : ℕ
  pub request : RequestView

-- The input begins with this block, followed by `rest`.
abbrev pub IsBlock : List ℕ → Block → List ℕ → Type 0
IsBlock input b rest = (after : List ℕ) × HasLine input b.moment after × IsRequest after b.request rest

-- The input consists of these blocks, followed by `rest`.
abbrev pub AreBlocks : List ℕ → List Block → List ℕ → Type 0
AreBlocks input [] rest = input ≡ rest
AreBlocks input (b ∷ bs) rest = (after : List ℕ) × IsBlock input b after × AreBlocks after bs rest

-- The input isn't empty, and doesn't begin with a line.
pub record HasNoLine (input : List ℕ) : Type 0 where
  pub some : input ≢ []
  pub none : (moment : ℕ) (after : List ℕ) → ¬ (HasLine input moment after)

-- The input begins with a line, and the bytes after it are refused as a request. A reader that fails refuses nothing.
pub record IsLost (input : List ℕ) (why : ReadFault) : Type 0 where
  pub moment : ℕ
  pub after : List ℕ
  pub line : HasLine input moment after
  pub refused : IsRefused after why
  pub was_read : why ≢ fault.Read

-- The bytes that were read, up to those that the reader has left, don't begin with a whole block.
pub record IsCutBlock (input : List ℕ) (now : Option (List ℕ)) : Type 0 where
  pub part : List ℕ
  pub rest : List ℕ
  pub now_is : now ≡ Some rest
  pub parts : input ≡ part ++ rest
  pub none : (b : Block) (after : List ℕ) → ¬ (IsBlock part b after)

-- A line was read, or the input is at its end.
abbrev pub LineRead : List ℕ → Option (List ℕ) → Option ℕ → Type 0
LineRead input now (Some moment) = (after : List ℕ) × (now ≡ Some after) × HasLine input moment after
LineRead input now None = input ≡ []
