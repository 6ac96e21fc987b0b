-- Two worlds: offices and commands that differ only in the bytes that one tenderer seals for one lot.
use Rattle.std.specs.Prelude.{◌≡◌, ℕ, ◌+◌, Bool, true, false, ◌&&◌, List, [], ◌∷◌, Option, Some, None, length}
use Rattle.office_values.specs.Ids.{same_id}
use Rattle.office_base.specs.Rows.{holds_of}
use Rattle.office_commands.specs.declared.command.Caller.{Caller}
use Rattle.office_commands.specs.declared.command.Caller.TheVariants.{Tenderer}
use Rattle.office_commands.specs.declared.tender.NamedSecurity.{NamedSecurity}
use Rattle.office_commands.specs.declared.commands.Command.{Command}
use Rattle.office_commands.specs.declared.commands.Command.TheVariants.{Present, Modify, Open}
use Rattle.office_base.specs.declared.records.EnvelopeRow.{EnvelopeRow}
use Rattle.office_base.specs.Tables.{Tables, IsSorted, envelope_at, seal_at, after_puts}
use Rattle.tender_core.specs.Rules.Open.{is_sealed_envelope}
use Rattle.office_machine.specs.Readings.{Readings}
use Rattle.office_machine.specs.Machine.{Given, refusal_of, effect}

-- The chosen tenderer and the chosen lot.
pub record ChosenTender : Type 0 where
  pub who : List ℕ
  pub notice : List ℕ
  pub lot : List ℕ

-- The envelope is for the chosen lot.
abbrev pub is_for_chosen_lot : ChosenTender → EnvelopeRow → Bool
is_for_chosen_lot th e = same_id e.notice th.notice && same_id e.lot th.lot

-- The envelope is of the chosen tenderer, for the chosen lot.
abbrev pub is_theirs : ChosenTender → EnvelopeRow → Bool
is_theirs th e = same_id e.tenderer th.who && is_for_chosen_lot th e

-- The two envelopes differ at most in their digests, and only if they are of the chosen tenderer for the chosen lot.
pub record AlikeRows (th : ChosenTender) (e e' : EnvelopeRow) : Type 0 where
  pub but_digest : e' ≡ record e { digest = e'.digest }
  pub digest : is_theirs th e ≡ false → e'.digest ≡ e.digest

-- The lists are equally long, and `R` is true of each pair of their elements.
abbrev pub Pairs : {X Y : Type 0} → (X → Y → Type 0) → List X → List Y → Type 0
Pairs R [] [] = Unit {0}
Pairs R (x ∷ xs) (y ∷ ys) = R x y × Pairs R xs ys
Pairs R xs ys = ⊥

-- The two offices differ at most in the digests of such envelopes and in their seals.
pub record AlikeOffices (th : ChosenTender) (s s' : Tables) : Type 0 where
  pub but_sealed : s' ≡ record s { envelopes = s'.envelopes; seals = s'.seals }
  pub envelopes : Pairs (AlikeRows th) s.envelopes s'.envelopes
  pub seals : (n : ℕ) → holds_of (is_theirs th) (envelope_at n s) ≡ false → seal_at n s ≡ seal_at n s'

-- The two commands of a caller are equal, or differ only in bytes of equal length. The chosen tenderer seals these for the chosen lot, in a new tender or in a
-- replacement.
pub data SameBut (th : ChosenTender) (s : Tables) (caller : Caller) (command command' : Command) : Type 0 where
  Same : command ≡ command' → SameBut th s caller command command'
  Presented : (security : Option NamedSecurity) (bytes bytes' : List ℕ) → length bytes ≡ length bytes' → Tenderer th.who ≡ caller
      → Present th.notice th.lot security bytes ≡ command → Present th.notice th.lot security bytes' ≡ command' → SameBut th s caller command command'
  Modified : (receipt : ℕ) (bytes bytes' : List ℕ) → length bytes ≡ length bytes' → Tenderer th.who ≡ caller → holds_of (is_for_chosen_lot th) (envelope_at receipt s) ≡ true
      → Modify receipt bytes ≡ command → Modify receipt bytes' ≡ command' → SameBut th s caller command command'

-- No envelope and no seal has the number of the next receipt.
pub record IsNext (s : Tables) : Type 0 where
  pub envelope : envelope_at (s.clock.receipts + 1) s ≡ None
  pub seal : seal_at (s.clock.receipts + 1) s ≡ None

-- The sealed tenders that a command opens have equal seals in both offices.
abbrev pub OpensAlike : Command → Tables → Tables → Type 0
OpensAlike (Open notice) s s' = (r : ℕ) (e : EnvelopeRow) → envelope_at r s ≡ Some e → same_id e.notice notice ≡ true → is_sealed_envelope e ≡ true → seal_at r s ≡ seal_at r s'
OpensAlike command s s' = Unit {0}

-- The commands have the same refusal. If they have none, and if an opening finds equal seals, the offices after them are alike.
pub record AcceptedAlike (th : ChosenTender) (readings : Readings) (x x' : Given) : Type 0 where
  pub refused : refusal_of x' ≡ refusal_of x
  pub alike : refusal_of x ≡ None → OpensAlike x.command x.before x'.before → AlikeOffices th (after_puts (effect readings x) x.before) (after_puts (effect readings x') x'.before)

-- The law: two such commands, in offices that are alike, have the same refusal and leave offices that are alike, if an opening finds equal seals.
abbrev pub StepsStayAlike : Type 0
StepsStayAlike = (th : ChosenTender) (readings : Readings) (s s' : Tables) (moment : ℕ) (caller : Caller) (command command' : Command) → IsSorted s → IsSorted s' → IsNext s → IsNext s' → AlikeOffices th s s'
    → SameBut th s caller command command'
    → AcceptedAlike th readings (record { before = s; moment = moment; caller = caller; command = command }) (record { before = s'; moment = moment; caller = caller; command = command' })
