-- The table of a put. A put leaves the other tables as they are.
use Rattle.office_machine.proofs.Names.{◌≡◌, Bool, true, false, List, [], ◌∷◌, ◌++◌, map, Option, Some, None, refl, sym, ap, ◌∙◌, ◌||◌, AllByRecursion, list_any, Command, Put, put_if, Tables, after_put, after_puts}
use Rattle.office_commands.specs.declared.commands.Command.TheVariants as commands
use Rattle.office_base.specs.declared.puts.Put.TheVariants as puts
use Rattle.office_machine.proofs.Passed.{neither}

-- the tables of an office
pub data TableName : Type 0 where
  Lines : TableName
  Batches : TableName
  Tenderers : TableName
  Notices : TableName
  Lots : TableName
  Envelopes : TableName
  Seals : TableName
  Securities : TableName
  Awards : TableName
  Contracts : TableName
  Entries : TableName
  Releases : TableName
  Merges : TableName
  LateRules : TableName
  Performances : TableName
  Clock : TableName

abbrev pub table_of : Put → TableName
table_of (puts.Line r) = Lines
table_of (puts.Batch r) = Batches
table_of (puts.Tenderer r) = Tenderers
table_of (puts.Notice r) = Notices
table_of (puts.Lot r) = Lots
table_of (puts.Envelope r) = Envelopes
table_of (puts.Seal r) = Seals
table_of (puts.DropSeal n) = Seals
table_of (puts.Security r) = Securities
table_of (puts.Award r) = Awards
table_of (puts.Contract r) = Contracts
table_of (puts.Entry r) = Entries
table_of (puts.Release r) = Releases
table_of (puts.Compiled r) = Merges
table_of (puts.Late r) = LateRules
table_of (puts.Performance r) = Performances
table_of (puts.Clock r) = Clock

abbrev pub same_table : TableName → TableName → Bool
same_table Lines Lines = true
same_table Batches Batches = true
same_table Tenderers Tenderers = true
same_table Notices Notices = true
same_table Lots Lots = true
same_table Envelopes Envelopes = true
same_table Seals Seals = true
same_table Securities Securities = true
same_table Awards Awards = true
same_table Contracts Contracts = true
same_table Entries Entries = true
same_table Releases Releases = true
same_table Merges Merges = true
same_table LateRules LateRules = true
same_table Performances Performances = true
same_table Clock Clock = true
same_table _ _ = false

same_is : (a b : TableName) → same_table a b ≡ true → a ≡ b
same_is Lines Lines e = refl
same_is Batches Batches e = refl
same_is Tenderers Tenderers e = refl
same_is Notices Notices e = refl
same_is Lots Lots e = refl
same_is Envelopes Envelopes e = refl
same_is Seals Seals e = refl
same_is Securities Securities e = refl
same_is Awards Awards e = refl
same_is Contracts Contracts e = refl
same_is Entries Entries e = refl
same_is Releases Releases e = refl
same_is Merges Merges e = refl
same_is LateRules LateRules e = refl
same_is Performances Performances e = refl
same_is Clock Clock e = refl
same_is _ _ e = absurd (let no : false ≡ true = e in cc)

-- the table is one of the named ones
abbrev pub is_in : List TableName → TableName → Bool
is_in names name = list_any (same_table name) names

-- the tables of the rows that a command puts, but for the clock, which each command puts
abbrev pub touches : Command → List TableName
touches (commands.Import batch rows) = Lines ∷ Batches ∷ []
touches (commands.Register tenderer name address key) = Tenderers ∷ []
touches (commands.Publish notice content) = Notices ∷ Lines ∷ Lots ∷ LateRules ∷ []
touches (commands.AmendNotice notice deadline rationale) = Notices ∷ []
touches (commands.Cancel notice rationale) = Notices ∷ Lines ∷ Lots ∷ Awards ∷ Envelopes ∷ Seals ∷ Securities ∷ []
touches (commands.Open notice) = Notices ∷ Envelopes ∷ []
touches (commands.Present notice lot security bytes) = Envelopes ∷ Seals ∷ Securities ∷ []
touches (commands.Modify receipt bytes) = Envelopes ∷ Seals ∷ []
touches (commands.Withdraw receipt) = Envelopes ∷ Seals ∷ Securities ∷ []
touches (commands.Examine receipt responsive quality) = Envelopes ∷ []
touches (commands.Award notice lot) = Notices ∷ Awards ∷ Lots ∷ Lines ∷ Securities ∷ []
touches (commands.Fail award) = Notices ∷ Awards ∷ Lots ∷ Envelopes ∷ Securities ∷ []
touches (commands.Sign award named) = Notices ∷ Awards ∷ Lots ∷ Contracts ∷ Performances ∷ Securities ∷ []
touches (commands.AmendContract contract entry kind amount rationale) = Notices ∷ Entries ∷ Lines ∷ []
touches (commands.Pay contract entry amount) = Notices ∷ Entries ∷ []
touches (commands.End contract how) = Notices ∷ Contracts ∷ Lines ∷ Performances ∷ []

-- each put is of one of these tables
abbrev pub IsOn : (TableName → Bool) → Put → Type 0
IsOn test p = test (table_of p) ≡ true

abbrev pub AreOn : (TableName → Bool) → List Put → Type 0
AreOn test ps = AllByRecursion (IsOn test) ps

pub on-append : (test : TableName → Bool) (ps qs : List Put) → AreOn test ps → AreOn test qs → AreOn test (ps ++ qs)
on-append test [] qs a b = b
on-append test (p ∷ ps) qs a b = (a.0, on-append test ps qs a.1 b)

pub on-wider : (test more : TableName → Bool) → ((name : TableName) → test name ≡ true → more name ≡ true) → (ps : List Put) → AreOn test ps → AreOn more ps
on-wider test more all [] a = tt
on-wider test more all (p ∷ ps) a = (all (table_of p) a.0, on-wider test more all ps a.1)

pub on-map : {X : Type 0} (test : TableName → Bool) (make : X → Put) (xs : List X) → ((x : X) → IsOn test (make x)) → AreOn test (map make xs)
on-map test make [] h = tt
on-map test make (x ∷ xs) h = (h x, on-map test make xs h)

pub on-if : {X : Type 0} (test : TableName → Bool) (make : X → Put) (o : Option X) → ((x : X) → IsOn test (make x)) → AreOn test (put_if make o)
on-if test make None h = tt
on-if test make (Some x) h = (h x, tt)

-- a table that passes a test is none of those that fail it
apart_by : (test : TableName → Bool) (name r : TableName) (more : Bool) → test name ≡ true → test r ≡ false → more ≡ false → (b : Bool) → same_table name r ≡ b → (b || more) ≡ false
apart_by test name r more on off none true e = absurd (let both : true ≡ false = sym on ∙ ap test (same_is name r e) ∙ off in cc)
apart_by test name r more on off none false e = none

apart : (test : TableName → Bool) (names : List TableName) → list_any test names ≡ false → (name : TableName) → test name ≡ true → is_in names name ≡ false
apart test [] off name on = refl
apart test (r ∷ names) off name on =
    let each = neither (test r) (list_any test names) off in apart_by test name r (is_in names name) on each.0 (apart test names each.1 name on) (same_table name r) refl

-- the law holds of a put of any other table
abbrev pub Reads : List TableName → (Put → Type 0) → Type 0
Reads names P = (p : Put) → is_in names (table_of p) ≡ false → P p

-- puts of other tables than those that a law reads keep it
pub on-others : (P : Put → Type 0) (names : List TableName) → Reads names P → (test : TableName → Bool) → list_any test names ≡ false → (ps : List Put) → AreOn test ps → AllByRecursion P ps
on-others P names law test off [] on = tt
on-others P names law test off (p ∷ ps) on = (law p (apart test names off (table_of p) on.0), on-others P names law test off ps on.1)

-- the tables that fail the test are unchanged
pub record Leaves (test : TableName → Bool) (t u : Tables) : Type 0 where
  pub lines : test Lines ≡ false → u.lines ≡ t.lines
  pub notices : test Notices ≡ false → u.notices ≡ t.notices
  pub lots : test Lots ≡ false → u.lots ≡ t.lots
  pub awards : test Awards ≡ false → u.awards ≡ t.awards
  pub contracts : test Contracts ≡ false → u.contracts ≡ t.contracts
  pub entries : test Entries ≡ false → u.entries ≡ t.entries
  pub releases : test Releases ≡ false → u.releases ≡ t.releases
  pub compiled : test Merges ≡ false → u.compiled ≡ t.compiled
  pub late_rules : test LateRules ≡ false → u.late_rules ≡ t.late_rules
  pub performances : test Performances ≡ false → u.performances ≡ t.performances
  pub clock : test Clock ≡ false → u.clock ≡ t.clock

clash : {A : Type 0} {b : Bool} → b ≡ true → b ≡ false → A
clash is isnt = absurd (let both : true ≡ false = sym is ∙ isnt in cc)

one_leaves : (test : TableName → Bool) (p : Put) (t : Tables) → IsOn test p → Leaves test t (after_put p t)
one_leaves test (puts.Line r) t on = record { lines = λ off. clash on off; notices = λ _. refl; lots = λ _. refl; awards = λ _. refl; contracts = λ _. refl; entries = λ _. refl; releases = λ _. refl; compiled = λ _. refl; late_rules = λ _. refl; performances = λ _. refl; clock = λ _. refl }
one_leaves test (puts.Notice r) t on = record { lines = λ _. refl; notices = λ off. clash on off; lots = λ _. refl; awards = λ _. refl; contracts = λ _. refl; entries = λ _. refl; releases = λ _. refl; compiled = λ _. refl; late_rules = λ _. refl; performances = λ _. refl; clock = λ _. refl }
one_leaves test (puts.Lot r) t on = record { lines = λ _. refl; notices = λ _. refl; lots = λ off. clash on off; awards = λ _. refl; contracts = λ _. refl; entries = λ _. refl; releases = λ _. refl; compiled = λ _. refl; late_rules = λ _. refl; performances = λ _. refl; clock = λ _. refl }
one_leaves test (puts.Award r) t on = record { lines = λ _. refl; notices = λ _. refl; lots = λ _. refl; awards = λ off. clash on off; contracts = λ _. refl; entries = λ _. refl; releases = λ _. refl; compiled = λ _. refl; late_rules = λ _. refl; performances = λ _. refl; clock = λ _. refl }
one_leaves test (puts.Contract r) t on = record { lines = λ _. refl; notices = λ _. refl; lots = λ _. refl; awards = λ _. refl; contracts = λ off. clash on off; entries = λ _. refl; releases = λ _. refl; compiled = λ _. refl; late_rules = λ _. refl; performances = λ _. refl; clock = λ _. refl }
one_leaves test (puts.Entry r) t on = record { lines = λ _. refl; notices = λ _. refl; lots = λ _. refl; awards = λ _. refl; contracts = λ _. refl; entries = λ off. clash on off; releases = λ _. refl; compiled = λ _. refl; late_rules = λ _. refl; performances = λ _. refl; clock = λ _. refl }
one_leaves test (puts.Release r) t on = record { lines = λ _. refl; notices = λ _. refl; lots = λ _. refl; awards = λ _. refl; contracts = λ _. refl; entries = λ _. refl; releases = λ off. clash on off; compiled = λ _. refl; late_rules = λ _. refl; performances = λ _. refl; clock = λ _. refl }
one_leaves test (puts.Compiled r) t on = record { lines = λ _. refl; notices = λ _. refl; lots = λ _. refl; awards = λ _. refl; contracts = λ _. refl; entries = λ _. refl; releases = λ _. refl; compiled = λ off. clash on off; late_rules = λ _. refl; performances = λ _. refl; clock = λ _. refl }
one_leaves test (puts.Late r) t on = record { lines = λ _. refl; notices = λ _. refl; lots = λ _. refl; awards = λ _. refl; contracts = λ _. refl; entries = λ _. refl; releases = λ _. refl; compiled = λ _. refl; late_rules = λ off. clash on off; performances = λ _. refl; clock = λ _. refl }
one_leaves test (puts.Performance r) t on = record { lines = λ _. refl; notices = λ _. refl; lots = λ _. refl; awards = λ _. refl; contracts = λ _. refl; entries = λ _. refl; releases = λ _. refl; compiled = λ _. refl; late_rules = λ _. refl; performances = λ off. clash on off; clock = λ _. refl }
one_leaves test (puts.Clock r) t on = record { lines = λ _. refl; notices = λ _. refl; lots = λ _. refl; awards = λ _. refl; contracts = λ _. refl; entries = λ _. refl; releases = λ _. refl; compiled = λ _. refl; late_rules = λ _. refl; performances = λ _. refl; clock = λ off. clash on off }
one_leaves test _ t on = record { lines = λ _. refl; notices = λ _. refl; lots = λ _. refl; awards = λ _. refl; contracts = λ _. refl; entries = λ _. refl; releases = λ _. refl; compiled = λ _. refl; late_rules = λ _. refl; performances = λ _. refl; clock = λ _. refl }

pub leaves : (test : TableName → Bool) (ps : List Put) (t : Tables) → AreOn test ps → Leaves test t (after_puts ps t)
leaves test [] t a = record { lines = λ _. refl; notices = λ _. refl; lots = λ _. refl; awards = λ _. refl; contracts = λ _. refl; entries = λ _. refl; releases = λ _. refl; compiled = λ _. refl; late_rules = λ _. refl; performances = λ _. refl; clock = λ _. refl }
leaves test (p ∷ ps) t a =
    let one = one_leaves test p t a.0 in
    let more = leaves test ps (after_put p t) a.1 in
    record {
      lines = λ off. more.lines off ∙ one.lines off;
      notices = λ off. more.notices off ∙ one.notices off;
      lots = λ off. more.lots off ∙ one.lots off;
      awards = λ off. more.awards off ∙ one.awards off;
      contracts = λ off. more.contracts off ∙ one.contracts off;
      entries = λ off. more.entries off ∙ one.entries off;
      releases = λ off. more.releases off ∙ one.releases off;
      compiled = λ off. more.compiled off ∙ one.compiled off;
      late_rules = λ off. more.late_rules off ∙ one.late_rules off;
      performances = λ off. more.performances off ∙ one.performances off;
      clock = λ off. more.clock off ∙ one.clock off;
    }
