-- A program that answers the blocks of a run: its office, if it is known, and its responses.
use Rattle.std.specs.Prelude.{◌≡◌, ℕ, Bool, true, List, Option, Some, None}
use Rattle.office_wire.specs.Blocks.{Block}
use Rattle.office_wire.specs.Runs.{Answers}

-- The meaning of a program: the type of its office, whether its store has been honest so far, the office that it holds, and its responses.
pub record Meaning (D : Type 0) : Type 1 where
  pub Office : Type 0
  pub honest : D → Type 0
  pub holds : D → Office → Type 0
  pub answers : Answers Office

-- A block was answered with this text, possibly with `Unavailable`, if it may be.
abbrev pub Responds : {D : Type 0} → Meaning D → D → D → Block → List ℕ → Type 0
Responds M old new b text =
    (s : M.Office) → M.holds old s
    → (busy : Bool) × (busy ≡ true → M.answers.may_be_busy s b ≡ true) × (text ≡ M.answers.reply busy s b) × M.holds new (M.answers.after busy s b)

-- The bytes of a response: those that were built, else those of a short text, else the constant ones.
abbrev pub answer_text : Option (List ℕ) → Option (List ℕ) → List ℕ → List ℕ
answer_text None None constant = constant
answer_text None (Some short) constant = short
answer_text (Some built) short constant = built
