-- Two runs whose requests differ only in sealed bytes get responses that are alike.
use Rattle.std.specs.Prelude.{◌≡◌, ⊤, ℕ, Bool, false, not, ◌&&◌, List, [], ◌∷◌, is_some}
use Rattle.office_commands.specs.Callers.{is_by}
use Rattle.office_commands.specs.declared.command.Caller.{Caller}
use Rattle.office_base.specs.Tables.{Tables}
use Rattle.office_machine.specs.Machine.{Given, Reaches, refusal_of}
use Rattle.office_machine.specs.Replies as machine
use Rattle.office_machine.specs.Seals.{DifferingAreGone, KnowAlike, opens_it, without_digest}
use Rattle.office_machine.specs.Worlds.{SameBut, ChosenTender}
use Rattle.office_publications.specs.Publishing.{publishing}
use Rattle.office_plans.specs.Asking.{given}
use Rattle.office_wire.specs.Runs.{Step}
use Rattle.office_http.specs.Answering.{Held, meant_in, office_answers, told_as}
use Rattle.office_http.specs.Joined.{accepted_steps}
use Rattle.office_http.specs.Meaning.{Meant, Refuses, Gives, Sees}
use Rattle.office_http.specs.Response.{response_of}

-- Two requests mean the same, except for bytes that one tenderer seals for one lot. The envelopes are those of the first office.
abbrev pub MeansSame : ChosenTender → Tables → Meant → Meant → Type 0
MeansSame th s (Gives caller command) (Gives caller' command') = (caller' ≡ caller) × SameBut th s caller command command'
MeansSame th s (Gives caller command) m' = ⊥
MeansSame th s m m' = m' ≡ m

-- Two blocks have the same moment, and mean the same to the offices of their runs except for such bytes. Either both are answered with `Unavailable`, or
-- neither.
pub record SameStep (th : ChosenTender) (h h' : Held) (x y : Step) : Type 0 where
  pub busy : y.busy ≡ x.busy
  pub moment : y.block.moment ≡ x.block.moment
  pub meaning : MeansSame th h.tables (meant_in h x.block) (meant_in h' y.block)

-- The runs agree in this way block by block.
abbrev pub SameSteps : ChosenTender → Held → Held → List Step → List Step → Type 0
SameSteps th h h' [] [] = ⊤
SameSteps th h h' (x ∷ steps) (y ∷ steps') =
    SameStep th h h' x y × SameSteps th (office_answers.after x.busy h x.block) (office_answers.after y.busy h' y.block) steps steps'
SameSteps th h h' steps steps' = ⊥

-- Two responses are those to replies that differ only in a digest.
pub record TellButDigest (text text' : List ℕ) : Type 0 where
  pub first : machine.Reply
  pub second : machine.Reply
  pub tells : text ≡ response_of (told_as first)
  pub tells' : text' ≡ response_of (told_as second)
  pub same : without_digest second ≡ without_digest first

-- Every other caller gets the same bytes. This tenderer's responses differ only in a digest.
pub record AlikeTo (th : ChosenTender) (caller : Caller) (text text' : List ℕ) : Type 0 where
  pub others : is_by caller th.who ≡ false → text' ≡ text
  pub but_digest : TellButDigest text text'

-- The two responses to a block are alike. If the block is refused before it has a meaning, they are equal.
abbrev pub AreAlike : ChosenTender → Meant → List ℕ → List ℕ → Type 0
AreAlike th (Refuses why method) text text' = text' ≡ text
AreAlike th (Gives caller command) text text' = AlikeTo th caller text text'
AreAlike th (Sees caller query) text text' = AlikeTo th caller text text'

-- The responses are alike one by one, up to and including the one at which the test `stops` holds. At each of them the two offices know the same tenderers, and
-- therefore the same callers.
abbrev pub AnsweredAlikeUntil : ChosenTender → (Held → Step → Bool) → Held → Held → List Step → List Step → Type 0
AnsweredAlikeUntil th stops h h' [] [] = KnowAlike h.tables h'.tables
AnsweredAlikeUntil th stops h h' (x ∷ steps) (y ∷ steps') =
    KnowAlike h.tables h'.tables
    × AreAlike th (meant_in h x.block) (office_answers.reply x.busy h x.block) (office_answers.reply y.busy h' y.block)
    × (stops h x ≡ false
    → AnsweredAlikeUntil th stops (office_answers.after x.busy h x.block) (office_answers.after y.busy h' y.block) steps steps')
AnsweredAlikeUntil th stops h h' steps steps' = ⊥

-- This step opens the notice of the lot.
abbrev pub meant_opens : ChosenTender → Tables → ℕ → Meant → Bool
meant_opens th s moment (Refuses why method) = false
meant_opens th s moment (Gives caller command) = opens_it th command && not (is_some (refusal_of (given s moment caller command)))
meant_opens th s moment (Sees caller query) = false

abbrev pub opens_lot : ChosenTender → Held → Step → Bool
opens_lot th h x = not x.busy && meant_opens th h.tables x.block.moment (meant_in h x.block)

-- Two runs from one office, whose requests differ only in such bytes, get responses that are alike up to the opening of the lot's notice.
abbrev pub AnsweredSealsAreKept : Type 0
AnsweredSealsAreKept = (th : ChosenTender) (xs : List Given) (h : Held) → Reaches (publishing h.settings.publisher) xs h.tables
    → (steps steps' : List Step) → SameSteps th h h steps steps' → AnsweredAlikeUntil th (opens_lot th) h h steps steps'

-- If each receipt whose bytes differ is withdrawn or returned, their responses are alike to the end.
abbrev pub AnsweredRunsAreAlike : Type 0
AnsweredRunsAreAlike = (th : ChosenTender) (xs : List Given) (h : Held) → Reaches (publishing h.settings.publisher) xs h.tables
    → (steps steps' : List Step) → SameSteps th h h steps steps' → DifferingAreGone (accepted_steps h steps xs) (accepted_steps h steps' xs)
    → AnsweredAlikeUntil th (λ _ _. false) h h steps steps'

-- The meaning of a request depends only on the settings and on the tenderers that the office knows.
abbrev pub MeaningsReadTenderers : Type 0
MeaningsReadTenderers = (h h' : Held) → h'.settings ≡ h.settings → KnowAlike h.tables h'.tables
    → (x : Step) → meant_in h' x.block ≡ meant_in h x.block
