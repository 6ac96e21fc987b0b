-- The rule of an examination: an opened tender is found responsive or not (Model Law, article 43).
use Rattle.std.specs.Prelude.{ℕ, ◌+◌, Bool, not, cond, ◌&&◌, ◌||◌, List, [], ◌∷◌, Option, Some, None, is_some, nat_lt}
use Rattle.office_base.specs.Readings.{is_priced}
use Rattle.office_values.specs.declared.refusal.Thing.TheVariants as things
use Rattle.office_values.specs.declared.refusal.Refusal.{Refusal}
use Rattle.office_values.specs.declared.refusal.Refusal.TheVariants.{BadBody, NoSuch, NotOpened, AlreadyDecided}
use Rattle.office_values.specs.declared.refusal.BadPart.TheVariants.{Field}
use Rattle.office_values.specs.declared.refusal.Field.TheVariants.{Quality}
use Rattle.office_base.specs.Rows.{holds_of}
use Rattle.office_base.specs.Transitions.{clock_put, puts_if}
use Rattle.office_base.specs.States.{is_read, is_undecided}
use Rattle.office_base.specs.declared.records.NoticeRow.{NoticeRow}
use Rattle.office_base.specs.declared.records.LotRow.{LotRow}
use Rattle.office_base.specs.declared.records.EnvelopeRow.{EnvelopeRow}
use Rattle.office_base.specs.declared.puts.Put.TheVariants as puts
use Rattle.office_base.specs.declared.puts.Put.{Put}
use Rattle.office_base.specs.Tables.{Tables, envelope_at}
use Rattle.office_base.specs.Parents.{notice_of_envelope, lot_of_envelope}
use Rattle.award_core.specs.declared.examine.ExamineRows.{ExamineRows}

-- whether points decide, so that quality counts
abbrev pub has_points : NoticeRow → Bool
has_points n = nat_lt 0 n.weight

-- whether the price and this quality together could give more than a hundred points
abbrev pub is_too_much : NoticeRow → ℕ → Bool
is_too_much n quality = nat_lt 100 (n.weight + quality)

-- Whether the points for quality are wrong. They are required exactly if points decide and the tender is responsive. With those for the price they are at most
-- a hundred.
abbrev pub is_bad_quality : Bool → Option ℕ → NoticeRow → Bool
is_bad_quality responsive quality n =
    cond (has_points n && responsive) (not (is_some quality) || holds_of (is_too_much n) quality) (is_some quality)

-- whether a tender wasn't opened
abbrev pub isnt_read : EnvelopeRow → Bool
isnt_read e = not (is_read e.state)

-- whether a tender has no price, was examined before, or can't win any more
abbrev pub cant_be_examined : EnvelopeRow → Bool
cant_be_examined e = not (is_priced e.reading) || is_some e.responsive || e.failed

-- the new points for quality if some are given, and otherwise the present ones
abbrev pub quality_after : Option ℕ → Option ℕ → Option ℕ
quality_after None held = held
quality_after (Some quality) held = Some quality

-- the tender with the result of its examination
abbrev pub examined : Bool → Option ℕ → EnvelopeRow → EnvelopeRow
examined responsive quality e = record e { responsive = Some responsive; quality = quality_after quality e.quality }

-- the rows that an examination reads
abbrev pub examine_rows : Tables → ℕ → ExamineRows
examine_rows s receipt = record {
  envelope = envelope_at receipt s;
  notice = notice_of_envelope (envelope_at receipt s) s;
  lot = lot_of_envelope (envelope_at receipt s) s;
  clock = s.clock;
}

-- whether the tender exists, but its notice or its lot is missing
abbrev pub examine_lacks : ExamineRows → Bool
examine_lacks rows = is_some rows.envelope && (not (is_some rows.notice) || not (is_some rows.lot))

-- the conditions of its refusals, in order
abbrev pub examine_tests : ExamineRows → Bool → Option ℕ → List (Bool × Refusal)
examine_tests rows responsive quality =
    (is_some rows.envelope && holds_of (is_bad_quality responsive quality) rows.notice, (BadBody (Field Quality)))
    ∷ (not (is_some rows.envelope), NoSuch things.Tender)
    ∷ (holds_of isnt_read rows.envelope, NotOpened)
    ∷ (holds_of cant_be_examined rows.envelope || holds_of (λ (l : LotRow). not (is_undecided l.state)) rows.lot, AlreadyDecided)
    ∷ []

-- its changes: the tender and the clock
abbrev pub examine_puts : ExamineRows → ℕ → Bool → Option ℕ → List Put
examine_puts rows t responsive quality =
    puts_if (λ (e : EnvelopeRow). puts.Envelope (examined responsive quality e) ∷ clock_put rows.clock t ∷ []) rows.envelope
