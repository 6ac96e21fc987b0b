-- SELECT of columns of one table, by name: the texts of the office, and the queries that they mean.
use Rattle.office_tables.proofs.Names.{◌≡◌, ◌⊎◌, inl, inr, ◌∷◌, [], ◌+◌, ◌==◌, List, Ok, None, Some, Option, cond, pos, negsuc, refl, sym, ap, ◌∙◌, false, true, true≢false, Bool, ℕ, map, eqb-true, eq-eqb, Int, Binary, ascending, Term, lit, col, op2, Query, inner, end, Compare, Eq, Schema, Table, Column, Expr, place_has, Carried, max_budget, first, constant_or, accepts_program, IsIn, at_tree, lower}
use Rattle.std.proofs.Common.{find}
use Rattle.sqlite_schema.specs.declared.command.Command.TheVariants.{Select}
use Rattle.sqlite_ast.specs.declared.Statement.TheVariants as written
use Rattle.sqlite_rules.specs.Lists.{Has as Holds}
use Rattle.sqlite_resolve.specs.Lowering.{nothing}
use Rattle.office_tables.proofs.Meanings.{StatementMeans, means_by, parsed_in}
use Rattle.office_tables.proofs.Whole.{at_budget}
use Rattle.office_tables.proofs.Simple.{capped, names_of, outputs_of, spent, left_by, Has, AreFree, scope, query_is, simple_compiles}
use Rattle.sqlite_resolve.specs.declared.scope.Output.{Output}
use Rattle.sqlite_resolve.specs.Body as body

-- ---- the queries

-- the columns at these places equal the parameters, in order
abbrev pub tested : ℕ → List ℕ → List Term
tested n [] = []
tested n (place ∷ places) = op2 (Compare Eq Binary) (col 1 place) (col 0 n) ∷ tested (n + 1) places

-- columns of the rows that pass some tests, in the order of some columns, and perhaps only the first rows
abbrev pub capped_select : ℕ → List Term → List ℕ → List ℕ → Term → Query
capped_select tree filter shown order limit = record {
  from = inner tree end;
  filter = filter;
  group = None;
  project = map (col 1) shown;
  distinct = false;
  collations = [];
  order = map (λ place. (col 1 place, ascending Binary)) order;
  limit = limit;
  offset = lit (Int (pos 0));
}

abbrev pub select : ℕ → List ℕ → List ℕ → List ℕ → Query
select tree tests shown order = capped_select tree (tested 0 tests) shown order (lit (Int (negsuc 0)))

-- all columns, each with its place
abbrev pub placed : ℕ → List Column → List (ℕ × Column)
placed at [] = []
placed at (c ∷ cs) = (at, c) ∷ placed (at + 1) cs

abbrev pub columns_of : Table → List (ℕ × Column)
columns_of table = placed 0 table.columns

-- ---- the meaning of a text

-- the parts that the grammar finds in the text
pub record IsCapped (text name : List ℕ) (shown : List (List ℕ)) (test : Option Expr) (sorts : List (List ℕ)) (cap : Option Expr) : Type 0 where
  pub is : first text ≡ Ok (parsed_in (first text))
  pub statement : (parsed_in (first text)).statement ≡ written.Select (capped name shown test sorts cap)
  pub formats : (parsed_in (first text)).formats ≡ []

abbrev pub IsSelect : List ℕ → List ℕ → List (List ℕ) → Option Expr → List (List ℕ) → Type 0
IsSelect text name shown test sorts = IsCapped text name shown test sorts None

find_only : (n : ℕ) (x : Table) (xs : List Table) → Holds xs x → x.tree ≡ n → ((y : Table) → Holds xs y → y.tree ≡ n → y ≡ x) → find (λ t. t.tree == n) xs ≡ Some x
find_only n x [] there is alone = absurd there
find_only n x (y ∷ ys) there is alone = by (y.tree == n) refl there (λ more. find_only n x ys more is (λ z h. alone z (inr h)))
  where
    by : (b : Bool) → (y.tree == n) ≡ b → (x ≡ y) ⊎ Holds ys x → (Holds ys x → find (λ t. t.tree == n) ys ≡ Some x) → cond b (Some y) (find (λ t. t.tree == n) ys) ≡ Some x
    by true e h rest = ap Some (alone y (inl refl) (eqb-true y.tree n e))
    by false e (inl same) rest = absurd (true≢false (sym (eq-eqb y.tree n (ap (λ (t : Table). t.tree) (sym same) ∙ is)) ∙ e))
    by false e (inr more) rest = rest more

-- a tree finds its table
pub found_by_tree : (schema : Schema) (table : Table) (n : ℕ) → IsIn schema table n → find (λ t. t.tree == n) schema.tables ≡ Some (at_tree table n)
found_by_tree schema table n it = find_only n (at_tree table n) schema.tables (place_has schema.tables it.place (at_tree table n) it.found) refl it.alone

-- the budget that is left after the columns are read, and the collation of the last expression
abbrev pub left : List (ℕ × Column) → ℕ
left ps = spent max_budget ps

pub capped_selects_mean : (schema : Schema) (table : Table) (n : ℕ) (it : IsIn schema table n) (ps qs : List (ℕ × Column)) (text : List ℕ) → Has (at_tree table n) max_budget ps
    → (test : Option Expr) (filter : List Term) (b : ℕ) (l : Carried) (cap : Option Expr) (limit : Term) → IsCapped text table.name (names_of ps) test (names_of qs) cap
    → body.tests lower (scope schema it.place (at_tree table n) it.found table.name (outputs_of (at_tree table n) [] ps)) [] test (at_budget 2 (left ps) (left_by (at_tree table n) nothing ps)) ≡ Ok (filter, at_budget 2 b l)
    → Has (at_tree table n) b qs → AreFree (outputs_of (at_tree table n) [] ps) qs
    → accepts_program schema [] (query_is schema it.place (at_tree table n) it.found table.name it.named ps qs test filter b l cap limit) [] ≡ true
    → constant_or schema (lit (Int (negsuc 0))) cap ≡ Ok limit
    → StatementMeans schema text (Select (record { lets = []; body = query_is schema it.place (at_tree table n) it.found table.name it.named ps qs test filter b l cap limit }) (map (λ (o : Output). o.name) (outputs_of (at_tree table n) [] ps)))
capped_selects_mean schema table n it ps qs text has test filter b l cap limit read tests sorted free accepted counts =
    means_by schema text _ (refl, refl) (simple_compiles schema it.place (at_tree table n) it.found table.name it.named ps qs test filter b l cap limit text (parsed_in (first text)) read.is read.statement read.formats has tests sorted free accepted counts)

uncapped : (schema : Schema) → constant_or schema (lit (Int (negsuc 0))) None ≡ Ok (lit (Int (negsuc 0)))
unfolding constant_or
uncapped schema = refl

pub selects_mean : (schema : Schema) (table : Table) (n : ℕ) (it : IsIn schema table n) (ps qs : List (ℕ × Column)) (text : List ℕ) → Has (at_tree table n) max_budget ps
    → (test : Option Expr) (filter : List Term) (b : ℕ) (l : Carried) → IsSelect text table.name (names_of ps) test (names_of qs)
    → body.tests lower (scope schema it.place (at_tree table n) it.found table.name (outputs_of (at_tree table n) [] ps)) [] test (at_budget 2 (left ps) (left_by (at_tree table n) nothing ps)) ≡ Ok (filter, at_budget 2 b l)
    → Has (at_tree table n) b qs → AreFree (outputs_of (at_tree table n) [] ps) qs
    → accepts_program schema [] (query_is schema it.place (at_tree table n) it.found table.name it.named ps qs test filter b l None (lit (Int (negsuc 0)))) [] ≡ true
    → StatementMeans schema text (Select (record { lets = []; body = query_is schema it.place (at_tree table n) it.found table.name it.named ps qs test filter b l None (lit (Int (negsuc 0))) }) (map (λ (o : Output). o.name) (outputs_of (at_tree table n) [] ps)))
selects_mean schema table n it ps qs text has test filter b l read tests sorted free accepted =
    capped_selects_mean schema table n it ps qs text has test filter b l None (lit (Int (negsuc 0))) read tests sorted free accepted (uncapped schema)
