-- The bytes that reads take from those that a reader has left, if these are known.
use Rattle.std.specs.Prelude.{◌≡◌, ◌≢◌, ℕ, ◌<◌, ◌≤◌, ◌⊎◌, true, List, [], ◌∷◌, ◌++◌, length, drop, All, Option, Some, None, ⊤}
use Rattle.std.specs.Io.KnownBytes.{Consumes}
use Rattle.httparse.specs.Grammar.{RequestHead, HasNoRequest, NeverHasRequest}
use Rattle.office_wire.specs.Head.{HeadView, StandsHead, first_line_ends, view_of}
use Rattle.office_wire.specs.declared.fault.ReadFault.{ReadFault}
use Rattle.office_wire.specs.declared.fault.ReadFault.TheVariants as fault

-- More bytes were read, up to 8,192 in all, and only the last of them may be a line feed.
pub record ReadsOn (old new : Option (List ℕ)) (before after : List ℕ) : Type 0 where
  pub front : List ℕ
  pub last : ℕ
  pub appended : after ≡ (before ++ front) ++ last ∷ []
  pub quiet : All (λ b. b ≢ 10) front
  pub taken : Consumes old new (front ++ last ∷ [])
  pub short : length after ≤ 8192

-- The known bytes are at their end.
abbrev pub IsOver : Option (List ℕ) → Option (List ℕ) → Type 0
IsOver None new = ⊤
IsOver (Some old) new = (old ≡ []) × (new ≡ Some [])

-- Fewer than `len` bytes were read.
abbrev pub GivesPart : Option (List ℕ) → Option (List ℕ) → ℕ → Type 0
GivesPart old new len = (part : List ℕ) × (length part < len) × Consumes old new part

-- This head was read, and the bytes after it are left.
pub record IsHeadRead (input : List ℕ) (now : Option (List ℕ)) (view : HeadView) : Type 0 where
  pub head : RequestHead
  pub rest : List ℕ
  pub now_is : now ≡ Some rest
  pub stands : StandsHead input head rest
  pub view_is : view ≡ view_of head

-- The bytes that were read don't begin with a head.
pub record IsCutHead (input : List ℕ) (now : Option (List ℕ)) : Type 0 where
  pub part : List ℕ
  pub rest : List ℕ
  pub now_is : now ≡ Some rest
  pub parts : input ≡ part ++ rest
  pub none : HasNoRequest part

-- At most 8,192 bytes were read, whose first line has ended, and which the grammar rejects whatever follows them.
pub record IsPastBad (input : List ℕ) (now : Option (List ℕ)) : Type 0 where
  pub part : List ℕ
  pub rest : List ℕ
  pub now_is : now ≡ Some rest
  pub parts : input ≡ part ++ rest
  pub short : length part ≤ 8192
  pub ended : first_line_ends part ≡ true
  pub never : NeverHasRequest part

-- Some first part of the input was read.
pub record IsFrontRead (input : List ℕ) (now : Option (List ℕ)) : Type 0 where
  pub part : List ℕ
  pub rest : List ℕ
  pub now_is : now ≡ Some rest
  pub parts : input ≡ part ++ rest

-- The place of the reader after a refused head. `BadHead`: at the end of an input of fewer than 8,192 bytes, or after a part that the grammar rejects.
-- `TooLong`: after 8,192 bytes. `Unavailable`: after some part of the input. `Read`: not known.
abbrev pub LeavesHead : List ℕ → Option (List ℕ) → ReadFault → Type 0
LeavesHead input now fault.BadHead = ((now ≡ Some []) × (length input < 8192)) ⊎ IsPastBad input now
LeavesHead input now fault.TooLong = now ≡ Some (drop 8192 input)
LeavesHead input now fault.Coding = ⊥
LeavesHead input now fault.Unavailable = IsFrontRead input now
LeavesHead input now fault.Read = ⊤

-- A body of `len` bytes was read, or the input ends before.
abbrev pub BodyRead : List ℕ → Option (List ℕ) → ℕ → Option (List ℕ) → Type 0
BodyRead input now len (Some body) = (rest : List ℕ) × (now ≡ Some rest) × (length body ≡ len) × (input ≡ body ++ rest)
BodyRead input now len None = (length input < len) × (now ≡ Some [])

-- Fewer than `len` bytes of this input were read.
pub record IsCutShort (input : List ℕ) (now : Option (List ℕ)) (len : ℕ) : Type 0 where
  pub part : List ℕ
  pub rest : List ℕ
  pub now_is : now ≡ Some rest
  pub parts : input ≡ part ++ rest
  pub few : length part < len
