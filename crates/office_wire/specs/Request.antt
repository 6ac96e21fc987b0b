-- The request at the beginning of an input, or the reason why there is none.
use Rattle.std.specs.Prelude.{◌≡◌, ℕ, ◌<◌, ◌⊎◌, Bool, true, false, IsTrue, List, [], length, drop, ◌++◌, Option, Some, Ok, Err, ⊤}
use Rattle.httparse.specs.Grammar.{RequestHead}
use Rattle.office_wire.specs.Head.{StandsHead, HasNoHead, IsLongHead, IsBadHead, HeadView, view_of}
use Rattle.office_wire.specs.Fields.{framing_of}
use Rattle.office_wire.specs.Reading.{IsPastBad, IsFrontRead}
use Rattle.office_wire.specs.declared.fault.ReadFault.{ReadFault}
use Rattle.office_wire.specs.declared.fault.ReadFault.TheVariants as fault

-- The parts of a request.
pub record RequestView : Type 0 where
  pub head : HeadView
  pub body : List ℕ

-- The input begins with this request, followed by `rest`.
pub record IsRequest (input : List ℕ) (r : RequestView) (rest : List ℕ) : Type 0 where
  pub head : RequestHead
  pub after : List ℕ
  pub stands : StandsHead input head after
  pub view : r.head ≡ view_of head
  pub framed : framing_of r.head ≡ Ok (length r.body)
  pub body : after ≡ r.body ++ rest

-- The input doesn't begin with a request.
abbrev pub HasNoWhole : List ℕ → Type 0
HasNoWhole input = (r : RequestView) (rest : List ℕ) → ¬ (IsRequest input r rest)

-- The input ends inside the body.
pub record IsCutBody (input : List ℕ) : Type 0 where
  pub head : RequestHead
  pub after : List ℕ
  pub stands : StandsHead input head after
  pub len : ℕ
  pub framed : framing_of (view_of head) ≡ Ok len
  pub short : length after < len

-- The input begins with a head whose fields are refused with this fault.
pub record IsMisframed (input : List ℕ) (why : ReadFault) : Type 0 where
  pub head : RequestHead
  pub after : List ℕ
  pub stands : StandsHead input head after
  pub framed : framing_of (view_of head) ≡ Err why

-- The input is refused with this fault. Too little memory and a failing reader are possible with any input.
abbrev pub IsRefused : List ℕ → ReadFault → Type 0
IsRefused input fault.BadHead = IsBadHead input ⊎ IsMisframed input fault.BadHead ⊎ IsCutBody input
IsRefused input fault.TooLong = IsLongHead input ⊎ IsMisframed input fault.TooLong
IsRefused input fault.Coding = IsMisframed input fault.Coding
IsRefused input fault.Unavailable = ⊤
IsRefused input fault.Read = ⊤

-- The input begins with a head whose fields are refused with this fault, and the bytes after it are left.
pub record IsPastHead (input : List ℕ) (now : Option (List ℕ)) (why : ReadFault) : Type 0 where
  pub misframed : IsMisframed input why
  pub now_is : now ≡ Some misframed.after

-- All of the input was read. It ends inside a body, or it has fewer than 8,192 bytes and no head.
pub record IsPastEnd (input : List ℕ) (now : Option (List ℕ)) : Type 0 where
  pub now_is : now ≡ Some []
  pub ended : IsCutBody input ⊎ (HasNoHead input × (length input < 8192))

-- The place of the reader after a refusal. If a whole head was read, it is after the head. If not, it is after 8,192 bytes, after a part that the grammar
-- rejects, or at an end that came too early. After `Unavailable` it is after some part of the input, and after `Read` it isn't known.
abbrev pub StandsAfter : List ℕ → Option (List ℕ) → ReadFault → Type 0
StandsAfter input now fault.BadHead = IsPastHead input now fault.BadHead ⊎ IsPastBad input now ⊎ IsPastEnd input now
StandsAfter input now fault.TooLong = IsPastHead input now fault.TooLong ⊎ (IsLongHead input × (now ≡ Some (drop 8192 input)))
StandsAfter input now fault.Coding = IsPastHead input now fault.Coding
StandsAfter input now fault.Unavailable = IsFrontRead input now
StandsAfter input now fault.Read = ⊤

-- This request was read, and the bytes after it are left.
pub record IsRequestRead (input : List ℕ) (now : Option (List ℕ)) (r : RequestView) : Type 0 where
  pub rest : List ℕ
  pub now_is : now ≡ Some rest
  pub whole : IsRequest input r rest

-- The bytes that were read, up to those that the reader has left, don't begin with a whole request.
pub record IsCutRequest (input : List ℕ) (now : Option (List ℕ)) : Type 0 where
  pub part : List ℕ
  pub rest : List ℕ
  pub now_is : now ≡ Some rest
  pub parts : input ≡ part ++ rest
  pub none : HasNoWhole part

-- The fault depends only on the input.
abbrev pub is_shown : ReadFault → Bool
is_shown fault.BadHead = true
is_shown fault.TooLong = true
is_shown fault.Coding = true
is_shown fault.Unavailable = false
is_shown fault.Read = false

-- No input begins with two different requests, with a request and a refusal, or with two refusals.
pub record HasOneMeaning (input : List ℕ) : Type 0 where
  pub one_request : (r s : RequestView) (rest more : List ℕ) → IsRequest input r rest → IsRequest input s more → (r ≡ s) × (rest ≡ more)
  pub no_refusal : (r : RequestView) (rest : List ℕ) (why : ReadFault) → IsTrue (is_shown why) → IsRequest input r rest → ¬ (IsRefused input why)
  pub one_refusal : (why other : ReadFault) → IsTrue (is_shown why) → IsTrue (is_shown other) → IsRefused input why → IsRefused input other → why ≡ other
