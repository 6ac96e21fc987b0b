-- A statement that changes rows turns one database into another.
use Rattle.office_tables.proofs.Names.{◌≡◌, ℕ, List, [], None, Option, Ok, true, false, Bool, ◌||◌, sym, ap, subst, subst₂, ◌∙◌, append-nil, true≢false, is_some, Row, Command, InsertOr, Delete, Returning, Tally, Does, is_query, understood, ExecutesIn, Runs, RunsCommand, is_pragma, mode_of, shows_rows, text_of, IsPlain, command_of}
use Rattle.sqlite_resolve.specs.declared.compiled.Compiled.{Compiled}
use Rattle.sqlite.specs.State.{State}
use Rattle.office_tables.proofs.Meanings.{StatementMeans}

-- the commands that change rows: they return none, and end no transaction
abbrev pub is_change : Command → Bool
is_change (InsertOr at way from clauses) = true
is_change (Delete at q) = true
is_change _ = false

abbrev pub shows : Command → Bool
shows k = is_query k || (is_pragma k || false)

pub quiet : (command : Command) → shows command ≡ false → (c : Compiled) → c.command ≡ command → c.returning ≡ None → shows_rows false c ≡ false
quiet command silent c k none = subst₂ (λ k r. (is_query k || (is_pragma k || is_some r)) ≡ false) (sym k) (sym none) silent

wrote : (old new : State) (returning : Option Returning) (k : Command) (text : List ℕ) (params : Row) (count : ℕ) → is_change k ≡ true → Runs old new returning k text params count
    → (tally : Tally) × Does old.step_limit (mode_of old) params old.now text returning k (Ok (tally, new.now))
wrote old new returning (InsertOr at way from clauses) text params count change h = (h.tally, h.changed)
wrote old new returning (Delete at q) text params count change h = (h.tally, h.changed)
wrote old new returning k text params count change h = absurd (true≢false (sym change))

-- the statement that ran turned the old database into the new one
pub made_of : (text : List ℕ) (params : Row) (old new : State) (command : Command) → StatementMeans old.now.schema text command → is_change command ≡ true → shows command ≡ false
    → (count : ℕ) → ExecutesIn false text params old new (Ok count)
    → (c : Compiled) × (understood old.now.schema text ≡ Ok c) × (tally : Tally) × Does old.step_limit (mode_of old) params old.now (text_of text c) c.returning c.command (Ok (tally, new.now))
unfolding ExecutesIn
made_of text params old new command means change silent count (c, it, h) =
    let bare : (c.returning ≡ None) × (c.formats ≡ []) = subst IsPlain it.is means.plain in
    let k : c.command ≡ command = sym (ap command_of it.is) ∙ means.is in
    let ran : RunsCommand old new text c params (Ok count) = rw (bare.1, append-nil params) at (rw (quiet command silent c k bare.0) at h) in
    let done = wrote old new c.returning c.command (text_of text c) params count (subst (λ j. is_change j ≡ true) (sym k) change) ran in
    (c, it.is, done.0, done.1)
