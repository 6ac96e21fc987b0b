-- The steps and the bytes of a run over blocks, for any program: an office of any type, with a response to each block and a state after it.
use Rattle.std.specs.Prelude.{◌≡◌, ◌≢◌, ⊤, ℕ, ◌≤◌, ◌+◌, ◌⊎◌, Bool, true, List, [], ◌∷◌, ◌++◌, length, map, Option, Result, Ok, Err, IfSome}
use Rattle.std.specs.Io.KnownBytes.{Appends}
use Rattle.office_wire.specs.Blocks.{Block, AreBlocks, HasNoLine, IsLost, IsCutBlock}
use Rattle.office_wire.specs.AnyReader.{IsWellFormed}
use Rattle.office_wire.specs.Counting.{ReaderView}
use Rattle.office_wire.specs.Request.{IsRequestRead, IsRefused, IsCutRequest}
use Rattle.office_wire.specs.Sending.{IsPrefix}
use Rattle.office_wire.specs.declared.fault.ReadFault.{ReadFault}
use Rattle.office_wire.specs.declared.fault.ReadFault.TheVariants as fault
use Rattle.office_wire.specs.declared.fault.RunFault.{RunFault}
use Rattle.office_wire.specs.declared.fault.RunFault.TheVariants as ends

-- The answers of a program: the response to a block in an office, the office after it, and the response to bytes that can't be read. The flag says that the
-- block is answered `Unavailable`, and `may_be_busy` whether it may be.
pub record Answers (S : Type 0) : Type 0 where
  pub reply : Bool → S → Block → List ℕ
  pub after : Bool → S → Block → S
  pub may_be_busy : S → Block → Bool
  pub refusal : ReadFault → List ℕ

-- A block that was answered, and whether it was answered `Unavailable`.
pub record Step : Type 0 where
  pub busy : Bool
  pub block : Block

-- The blocks of the steps.
abbrev pub blocks_of : List Step → List Block
blocks_of steps = map (λ x. x.block) steps

-- The responses to the steps, in their order, from this office on.
abbrev pub written : {S : Type 0} → Answers S → S → List Step → List ℕ
written A s [] = []
written A s (x ∷ xs) = A.reply x.busy s x.block ++ written A (A.after x.busy s x.block) xs

-- The office after the steps.
abbrev pub office_left : {S : Type 0} → Answers S → S → List Step → S
office_left A s [] = s
office_left A s (x ∷ xs) = office_left A (A.after x.busy s x.block) xs

-- Each step has a request of the grammar, and it was answered `Unavailable` only if it may be.
abbrev pub AreSteps : {S : Type 0} → Answers S → S → List Step → Type 0
AreSteps A s [] = ⊤
AreSteps A s (x ∷ steps) = IsWellFormed x.block.request × (x.busy ≡ true → A.may_be_busy s x.block ≡ true) × AreSteps A (A.after x.busy s x.block) steps

-- The responses to all steps but the last were sent, followed by the first part of the last one's.
pub record CutsReply {S : Type 0} (A : Answers S) (s : S) (steps : List Step) (told : List ℕ) : Type 0 where
  pub earlier : List Step
  pub last : Step
  pub are : steps ≡ earlier ++ last ∷ []
  pub part : List ℕ
  pub front : IsPrefix part (A.reply last.busy (office_left A s earlier) last.block)
  pub told_is : told ≡ written A s earlier ++ part

-- All responses were sent, followed by the first part of a refusal.
pub record CutsAnyRefusal {S : Type 0} (A : Answers S) (s : S) (steps : List Step) (told : List ℕ) : Type 0 where
  pub why : ReadFault
  pub was_read : why ≢ fault.Read
  pub part : List ℕ
  pub front : IsPrefix part (A.refusal why)
  pub told_is : told ≡ written A s steps ++ part

-- The bytes that were sent by the end of a run over these steps. `Ok`, `BadBlock` and `Read`: all responses; with `Ok`, the result is the number of steps.
-- `LostPlace`: all responses and a refusal.
-- `Write`: the last response or a refusal was sent in part, or all responses were sent and couldn't be flushed.
abbrev pub HasTold : {S : Type 0} → Answers S → Result ℕ RunFault → S → List Step → List ℕ → Type 0
HasTold A (Ok n) s steps told = (n ≡ length steps) × (told ≡ written A s steps)
HasTold A (Err ends.BadBlock) s steps told = told ≡ written A s steps
HasTold A (Err ends.LostPlace) s steps told = (why : ReadFault) × (why ≢ fault.Read) × (told ≡ written A s steps ++ A.refusal why)
HasTold A (Err ends.Read) s steps told = told ≡ written A s steps
HasTold A (Err ends.Write) s steps told = CutsReply A s steps told ⊎ CutsAnyRefusal A s steps told ⊎ (told ≡ written A s steps)

-- All responses were sent, followed by the first part of the refusal of the bytes after the blocks.
pub record CutsRefusal {S : Type 0} (A : Answers S) (s : S) (steps : List Step) (rest told : List ℕ) : Type 0 where
  pub why : ReadFault
  pub lost : IsLost rest why
  pub part : List ℕ
  pub front : IsPrefix part (A.refusal why)
  pub told_is : told ≡ written A s steps ++ part

-- The end of a run over these steps. `rest` follows their blocks, `now` has the bytes that the reader has left, and `told` has all bytes that were sent.
-- `Ok`: the input is at its end, all responses were sent, and the result is the number of steps. `BadBlock`: the next bytes aren't a line.
-- `LostPlace`: the bytes after a line are refused, and the refusal was sent last. `Read`: the bytes that were read after the blocks aren't a whole block.
-- `Write`: the last response or a refusal was sent in part, or all responses were sent and couldn't be flushed.
abbrev pub Ends : {S : Type 0} → Answers S → Result ℕ RunFault → S → List Step → List ℕ → Option (List ℕ) → List ℕ → Type 0
Ends A (Ok n) s steps rest now told = (rest ≡ []) × (n ≡ length steps) × (told ≡ written A s steps)
Ends A (Err ends.BadBlock) s steps rest now told = HasNoLine rest × (told ≡ written A s steps)
Ends A (Err ends.LostPlace) s steps rest now told = (why : ReadFault) × IsLost rest why × (told ≡ written A s steps ++ A.refusal why)
Ends A (Err ends.Read) s steps rest now told = IsCutBlock rest now × (told ≡ written A s steps)
Ends A (Err ends.Write) s steps rest now told = CutsReply A s steps told ⊎ CutsRefusal A s steps rest told ⊎ (told ≡ written A s steps)

-- The steps are those of the input: their blocks are at its beginning, and the run ended as the bytes after them say.
abbrev pub ReadsBlocks : {S : Type 0} → Answers S → Result ℕ RunFault → List ℕ → Option (List ℕ) → S → List Step → List ℕ → Type 0
ReadsBlocks A result input now s steps told = (rest : List ℕ) × AreBlocks input (blocks_of steps) rest × Ends A result s steps rest now told

-- A run from office `s` went through these steps. Each took at least one read of those that the reader had left. The bytes `told` were appended to the writer's
-- contents: the responses, and how the run ended. If the bytes of the reader are known, the steps are those of these bytes.
pub record Ran {S : Type 0} (A : Answers S) (result : Result ℕ RunFault) (came rest : ReaderView) (s : S) (steps : List Step) (before after : Option (List ℕ)) : Type 0 where
  pub steps_are : AreSteps A s steps
  pub few : length steps + rest.left ≤ came.left
  pub told : List ℕ
  pub sent : Appends before after told
  pub told_so : HasTold A result s steps told
  pub known : IfSome came.remaining (λ input. ReadsBlocks A result input rest.remaining s steps told)

-- There is no step, or one at this moment. This is all that serving one request may do to an office.
abbrev pub IsOneAtMost : ℕ → List Step → Type 0
IsOneAtMost moment [] = ⊤
IsOneAtMost moment (x ∷ []) = x.block.moment ≡ moment
IsOneAtMost moment (x ∷ y ∷ more) = ⊥

-- The whole response while one request is served. It is the response to the step. If there is no step, it is the refusal of bytes that aren't a request. If the
-- bytes that came are known, the step is that of the request at their beginning, or they are rightly refused.
abbrev pub IsResponse : {S : Type 0} → Answers S → Option (List ℕ) → Option (List ℕ) → S → List Step → List ℕ → Type 0
IsResponse A came now s [] text = (why : ReadFault) × (why ≢ fault.Read) × (text ≡ A.refusal why) × IfSome came (λ input. IsRefused input why)
IsResponse A came now s (x ∷ more) text = (text ≡ A.reply x.busy s x.block) × IfSome came (λ input. IsRequestRead input now x.block.request)

-- How one request is served. `Ok`: the response was sent. `Write`: the first part of it was sent. `Read`: nothing was sent, and there is no step.
abbrev pub Serves : {S : Type 0} → Answers S → Result ⊤ RunFault → Option (List ℕ) → Option (List ℕ) → S → List Step → List ℕ → Type 0
Serves A (Ok done) came now s steps told = IsResponse A came now s steps told
Serves A (Err ends.Write) came now s steps told = (text : List ℕ) × IsResponse A came now s steps text × IsPrefix told text
Serves A (Err ends.Read) came now s steps told = (steps ≡ []) × (told ≡ []) × IfSome came (λ input. IsCutRequest input now)
Serves A (Err ends.BadBlock) came now s steps told = ⊥
Serves A (Err ends.LostPlace) came now s steps told = ⊥

-- One request was served in office `s`, by one step at this moment or none. The bytes that a reader had and has left are `came` and `now`, and those that were
-- sent are `told`.
pub record Served {S : Type 0} (A : Answers S) (result : Result ⊤ RunFault) (came now : Option (List ℕ)) (moment : ℕ) (s : S) (steps : List Step) (before after : Option (List ℕ)) : Type 0 where
  pub one : IsOneAtMost moment steps
  pub steps_are : AreSteps A s steps
  pub told : List ℕ
  pub sent : Appends before after told
  pub served : Serves A result came now s steps told
