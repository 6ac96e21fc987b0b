-- Two worlds remain alike.
use Rattle.office_machine.proofs.Names.{◌≡◌, ℕ, Bool, true, false, not, cond, List, [], ◌∷◌, filter, Option, Some, None, is_some, refl, sym, ◌∙◌, ap, AllByRecursion, nat_cmp, same_id, holds_of, is_sealed_envelope, Caller, Forbidden, first_of, Command, may_give, Given, time_of, effect, Readings, EnvelopeRow, SealRow, Tables, IsSorted, envelope_key, envelope_at, seal_at, after_puts, ChosenTender, is_theirs, AlikeRows, Pairs, AlikeOffices, OpensAlike, AcceptedAlike, each_found, of_found, found_key}
use Rattle.office_commands.specs.declared.commands.Command.TheVariants as commands
use Rattle.office_machine.proofs.Rows.Keyed.{all_found}
use Rattle.office_machine.proofs.Rows.Keyed as keyed
use Rattle.office_machine.proofs.Parents.ParentsPut.{grows-puts}
use Rattle.office_machine.proofs.Passed.{witness}
use Rattle.office_machine.proofs.Worlds.WorldsPut.{Alike, AlikeIn, pair_puts}
use Rattle.office_machine.proofs.Worlds.WorldsStep.{tests_same, GivesNoReceipt}
use Rattle.office_machine.proofs.Commands.{lawful}

pub with_own : (th : ChosenTender) (s : Tables) (es es' : List EnvelopeRow) → AllByRecursion (λ e. envelope_at e.receipt s ≡ Some e) es → Pairs (AlikeRows th) es es'
    → Pairs (Alike th (λ n. holds_of (is_theirs th) (envelope_at n s))) es es'
with_own th s [] [] found all = tt
with_own th s [] (e' ∷ es') found all = absurd all
with_own th s (e ∷ es) [] found all = absurd all
with_own th s (e ∷ es) (e' ∷ es') found all = (record { rows = all.0; own = sym (ap (holds_of (is_theirs th)) found.0) }, with_own th s es es' found.1 all.1)

rows_of : (th : ChosenTender) (W : ℕ → Bool) (es es' : List EnvelopeRow) → Pairs (Alike th W) es es' → Pairs (AlikeRows th) es es'
rows_of th W [] [] all = tt
rows_of th W [] (e' ∷ es') all = absurd all
rows_of th W (e ∷ es) [] all = absurd all
rows_of th W (e ∷ es) (e' ∷ es') all = (all.0.rows, rows_of th W es es' all.1)

own_of : (th : ChosenTender) (W : ℕ → Bool) (es es' : List EnvelopeRow) → Pairs (Alike th W) es es' → AllByRecursion (λ e. is_theirs th e ≡ W e.receipt) es
own_of th W [] [] all = tt
own_of th W [] (e' ∷ es') all = absurd all
own_of th W (e ∷ es) [] all = absurd all
own_of th W (e ∷ es) (e' ∷ es') all = (all.0.own, own_of th W es es' all.1)

-- two worlds that are alike in the proof's sense are alike as offices, if each chosen tender still exists
pub offices_of : (th : ChosenTender) (W : ℕ → Bool) (t t' : Tables) → ((n : ℕ) → W n ≡ true → is_some (envelope_at n t) ≡ true) → AlikeIn th W t t' → AlikeOffices th t t'
offices_of th W t t' there a = record {
  but_sealed = a.but_sealed;
  envelopes = rows_of th W t.envelopes t'.envelopes a.envelopes;
  seals = λ n out. a.seals n (by n (W n) refl out);
}
  where
    by : (n : ℕ) (b : Bool) → W n ≡ b → holds_of (is_theirs th) (envelope_at n t) ≡ false → b ≡ false
    by n false e out = refl
    by n true e out =
        let found = witness (envelope_at n t) (there n e) in
        let own : is_theirs th found.0 ≡ W found.0.receipt = of_found nat_cmp envelope_key (λ e. is_theirs th e ≡ W e.receipt) t.envelopes n found.0 (own_of th W t.envelopes t'.envelopes a.envelopes) found.1 in
        let at : found.0.receipt ≡ n = found_key keyed.envelopes t.envelopes n found.0 found.1 in
        sym e ∙ (ap W (sym at) ∙ (sym own ∙ (sym (ap (holds_of (is_theirs th)) found.1) ∙ out)))

-- a receipt of the chosen tenderer for the chosen lot has an envelope
pub is_there : (th : ChosenTender) (o : Option EnvelopeRow) → holds_of (is_theirs th) o ≡ true → is_some o ≡ true
is_there th None e = cc
is_there th (Some x) e = refl

-- the command gives out no receipt
abbrev pub GivesNone : Command → Type 0
GivesNone (commands.Present notice lot security bytes) = ⊥
GivesNone (commands.Modify receipt bytes) = ⊥
GivesNone command = Unit {0}

-- if a property follows from passing, the rows that pass have it
all_passing : (P : EnvelopeRow → Type 0) (p : EnvelopeRow → Bool) (es : List EnvelopeRow) → AllByRecursion (λ e. p e ≡ true → P e) es → AllByRecursion P (filter p es)
all_passing P p [] h = tt
all_passing P p (e ∷ es) h = by (p e) refl (all_passing P p es h.1)
  where
    by : (b : Bool) → p e ≡ b → AllByRecursion P (filter p es) → AllByRecursion P (cond b (e ∷ filter p es) (filter p es))
    by true is rest = (h.0 is, rest)
    by false is rest = rest

quiet_too : (th : ChosenTender) (W : ℕ → Bool) (s : Tables) (es' : List EnvelopeRow) (ss' : List SealRow) (all : Pairs (Alike th W) s.envelopes es') (seals : (n : ℕ) → W n ≡ false → seal_at n s ≡ Rattle.office_base.specs.Tables.find_seal ss' n) (order : IsSorted s)
    (command : Command) → GivesNone command → OpensAlike command s (record s { envelopes = es'; seals = ss' }) → GivesNoReceipt th W s es' ss' all seals command
quiet_too th W s es' ss' all seals order (commands.Present notice lot security bytes) q opens = absurd q
quiet_too th W s es' ss' all seals order (commands.Modify receipt bytes) q opens = absurd q
quiet_too th W s es' ss' all seals order (commands.Open notice) q opens =
    all_passing (λ e. seal_at e.receipt s ≡ Rattle.office_base.specs.Tables.find_seal ss' e.receipt) is_sealed_envelope (filter (λ (e : EnvelopeRow). same_id e.notice notice) s.envelopes)
    (all_passing (λ e. is_sealed_envelope e ≡ true → seal_at e.receipt s ≡ Rattle.office_base.specs.Tables.find_seal ss' e.receipt) (λ (e : EnvelopeRow). same_id e.notice notice) s.envelopes
    (all_found keyed.envelopes (λ e. same_id e.notice notice ≡ true → is_sealed_envelope e ≡ true → seal_at e.receipt s ≡ Rattle.office_base.specs.Tables.find_seal ss' e.receipt) s.envelopes order.envelopes
    (λ e found of sealed. opens e.receipt e found of sealed)))
quiet_too th W s es' ss' all seals order _ q opens = tt

module _ (th : ChosenTender) (readings : Readings) (s : Tables) (es' : List EnvelopeRow) (ss' : List SealRow) (moment : ℕ) (caller : Caller) (command : Command) (order : IsSorted s) where
  abbrev W : ℕ → Bool
  W n = holds_of (is_theirs th) (envelope_at n s)

  abbrev other : Tables
  other = record s { envelopes = es'; seals = ss' }

  abbrev x : Given
  x = record { before = s; moment = moment; caller = caller; command = command }

  abbrev x' : Given
  x' = record { before = other; moment = moment; caller = caller; command = command }

  pub quiet_step : IsSorted other → Pairs (AlikeRows th) s.envelopes es' → ((n : ℕ) → W n ≡ false → seal_at n s ≡ seal_at n other) → GivesNone command → AcceptedAlike th readings x x'
  quiet_step order' rows seals quiet =
      let all : Pairs (Alike th W) s.envelopes es' = with_own th s s.envelopes es' (each_found keyed.envelopes s.envelopes order.envelopes) rows in
      record {
        refused = ap (λ tests. first_of ((not (may_give caller command), Forbidden) ∷ tests)) (tests_same th W s es' ss' all seals (time_of x) caller command);
        alike = λ _ opens. offices_of th W (after_puts (effect readings x) s) (after_puts (effect readings x') other)
            (λ n e. (grows-puts (effect readings x) s).envelopes n (is_there th (envelope_at n s) e))
            (pair_puts th W (effect readings x) (effect readings x') s other ((lawful command).alike th W s es' ss' all seals readings (time_of x) caller (quiet_too th W s es' ss' all seals order command quiet opens))
            (record { but_sealed = refl; envelopes = all; seals = seals }) order order');
      }
