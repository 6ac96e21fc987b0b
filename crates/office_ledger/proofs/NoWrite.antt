-- A statement without RETURNING in its text has none in its compiled form, in any schema.
use Rattle.office_ledger.proofs.Names.{◌≡◌, ◌+◌, Ok, Err, None, inl, inr, cond, ℕ, List, sym, ap, ◌∙◌, cases_Bool, Schema, Command, Parsed, CompileError, Compiled, Checked, and_then, Name, first, compiled, planned, meaning, timed, returning, small, with_command, understood, listing_schema, misses_table, if_select, is_select, parsed_in, JoinIsNoWrite, list_joined}
use Rattle.sqlite_resolve.specs.Compile as compile
use Rattle.office_ledger.proofs.Joining.{joined_written, returns_none}

no_answer : {x : CompileError} {c : Compiled} → ◌≡◌ {A = Checked Compiled} (Err x) (Ok c) → ⊥
no_answer e = cc

-- a text is compiled in the schema, or in that of the catalog
by_either : (a b : Checked Compiled) → ((c : Compiled) → a ≡ Ok c → c.returning ≡ None) → ((c : Compiled) → b ≡ Ok c → c.returning ≡ None)
    → (c : Compiled) → cond (misses_table a) (if_select b) a ≡ Ok c → c.returning ≡ None
by_either (Ok d) b ha hb c e = ha c e
by_either (Err x) b ha hb c e = elim (cases_Bool (misses_table (Err x))) [
  | inl missed ↦ listed b hb (rw missed at e)
  | inr other ↦ absurd (no_answer (rw other at e))
]
  where
    listed : (b : Checked Compiled) → ((c : Compiled) → b ≡ Ok c → c.returning ≡ None) → if_select b ≡ Ok c → c.returning ≡ None
    listed (Ok d) hb e = elim (cases_Bool (is_select d.command)) [ inl selects ↦ hb c (rw selects at e) | inr other ↦ absurd (no_answer (rw other at e)) ]
    listed (Err y) hb e = absurd (no_answer e)

module _ (text : List ℕ) (p : Parsed) (is : first text ≡ Ok p) (untold : (schema : Schema) (base : ℕ) → returning schema base p.statement ≡ Ok None) where
  abbrev formats : Schema → List Name
  formats schema = timed schema p.formats p.statement

  abbrev means : Schema → Checked Command
  means schema = compile.command schema p.formats (small p.names + small (formats schema)) p.statement

  plans : (schema : Schema) → planned schema p ≡ and_then (and_then (means schema) (λ c. Ok (c, None))) (λ found. Ok (formats schema, found))
  unfolding planned meaning
  plans schema = rw (untold schema (small p.names + small (formats schema)))

  compiles : (schema : Schema) → compiled schema text ≡ and_then (and_then (and_then (means schema) (λ c. Ok (c, None))) (λ found. Ok (formats schema, found))) (λ plan. Ok (with_command p plan))
  unfolding compiled
  compiles schema = rw (is, plans schema)

  from_compiled : (schema : Schema) (c : Compiled) → compiled schema text ≡ Ok c → c.returning ≡ None
  from_compiled schema c h = by (means schema) (sym (compiles schema) ∙ h)
    where
      by : (r : Checked Command) → and_then (and_then (and_then r (λ c. Ok (c, None))) (λ found. Ok (formats schema, found))) (λ plan. Ok (with_command p plan)) ≡ Ok c → c.returning ≡ None
      by (Err e) k = absurd (cc)
      by (Ok d) k = let same : with_command p (formats schema, (d, None)) ≡ c = cc in ap (λ (m : Compiled). m.returning) (sym same)

  from_understood : (schema : Schema) (c : Compiled) → understood schema text ≡ Ok c → c.returning ≡ None
  unfolding understood
  from_understood schema c h = by_either (compiled schema text) (compiled listing_schema text) (from_compiled schema) (from_compiled listing_schema) c h

pub join_is_no_write : JoinIsNoWrite
join_is_no_write schema c h = from_understood list_joined (parsed_in (first list_joined)) joined_written.is returns_none schema c h
