-- The facts about a statement's text that a caller needs, and the parts that the grammar finds in it.
use Rattle.office_tables.proofs.Names.{◌≡◌, [], List, Ok, Err, Option, Result, ℕ, ap, subst, sym, length, true, false, nat_le, Schema, Command, Parsed, CompileError, Returning, first, planned, with_command, Checked, and_then, understood, reads_listing, IsPlain, command_of}
use Rattle.sqlite_ast.specs.declared.Statement.TheVariants as written
use Rattle.sqlite_resolve.specs.declared.compiled.Compiled.{Compiled}
use Rattle.sqlite_resolve.specs.Compile.{compiled}

-- the statement that was parsed
unfoldable pub parsed_in : Result Parsed CompileError → Parsed
parsed_in (Ok p) = p
parsed_in (Err e) = record { statement = written.Empty; names = []; formats = []; start = 0; end = 0; tail = 0 }

-- all facts about a statement that a caller needs
pub record StatementMeans (schema : Schema) (text : List ℕ) (command : Command) : Type 0 where
  pub is : command_of (understood schema text) ≡ command
  pub plain : IsPlain (understood schema text)
  pub unlisted : reads_listing schema text ≡ false

unlisted_by : (schema : Schema) (text : List ℕ) (c : Compiled) → compiled schema text ≡ Ok c → reads_listing schema text ≡ false
unlisted_by schema text c h = rw h

pub understands : (schema : Schema) (text : List ℕ) (c : Compiled) → compiled schema text ≡ Ok c → understood schema text ≡ Ok c
unfolding understood
understands schema text c h = rw h

pub means_by : (schema : Schema) (text : List ℕ) (c : Compiled) → IsPlain (Ok c) → compiled schema text ≡ Ok c → StatementMeans schema text c.command
means_by schema text c plain h =
    let u = understands schema text c h in record { is = ap command_of u; plain = subst IsPlain (sym u) plain; unlisted = unlisted_by schema text c h }

-- the text is one statement with this number of parameters
pub record IsOne (text : List ℕ) (n : ℕ) : Type 0 where
  pub whole : nat_le (length text) (parsed_in (first text)).tail ≡ true
  pub given : length (parsed_in (first text)).names ≡ n

from_plan : (p : Parsed) (plan : Checked (List (List ℕ) × (Command × Option Returning))) (c : Compiled) → and_then plan (λ x. Ok (with_command p x)) ≡ Ok c → (c.tail ≡ p.tail) × (c.names ≡ p.names)
from_plan p (Ok x) c h = let same : with_command p x ≡ c = cc in (ap (λ (d : Compiled). d.tail) (sym same), ap (λ (d : Compiled). d.names) (sym same))
from_plan p (Err e) c h = absurd cc

from_parsed : (schema : Schema) (r : Result Parsed CompileError) (c : Compiled) → and_then r (λ p. and_then (planned schema p) (λ plan. Ok (with_command p plan))) ≡ Ok c
    → (c.tail ≡ (parsed_in r).tail) × (c.names ≡ (parsed_in r).names)
unfolding parsed_in
from_parsed schema (Ok p) c h = from_plan p (planned schema p) c h
from_parsed schema (Err e) c h = absurd cc

-- a statement has the end and the parameters that the parser found
pub from_text : (schema : Schema) (text : List ℕ) (c : Compiled) → reads_listing schema text ≡ false → understood schema text ≡ Ok c → (c.tail ≡ (parsed_in (first text)).tail) × (c.names ≡ (parsed_in (first text)).names)
unfolding understood compiled
from_text schema text c unlisted h = from_parsed schema (first text) c (rw unlisted at h)
