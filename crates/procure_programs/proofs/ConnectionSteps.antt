-- One connection, and the printed texts.
use Rattle.procure_programs.proofs.Names.{◌≡◌, ℕ, ◌==◌, Bool, true, List, [], Option, Some, None, Result, Ok, Err, if◌then◌else◌, refl, sym, ap, subst, ◌∙◌, ⊤, IfErr, IfSome, OnErr, OnOk, reader_buffer, reader_capacity, reader_inner, reader_remaining, Appends, prepend_known, BufReader, Query, Meaning, Tables, DeskOf, IsRefused, AppendsPart, WriterView, Served, RunFault, StandsAs, fault_text, office_answers, StepsAreKept, WentThrough, ProgramFault, Arguments, Store, Input, Output, Refused, IsOfPrinting, IsPrinted, IsOfOffice, IsSeenWhole, IsShown, AnswersConnection, EndsConnection}
use Rattle.office_values.specs.declared.settings.Settings.{Settings as OfficeSettings}
use Rattle.office_wire.specs.declared.fault.ReadFault.TheVariants as fault
use Rattle.office_wire.specs.declared.fault.RunFault.TheVariants as ends
use Rattle.office_http.specs.Answering.{Held}
use Rattle.procure_config.specs.declared.fault.ProgramFault.TheVariants.{Settings}
use Rattle.procure_programs.proofs.ServingSteps.{stops_none}

-- ---- a buffer over a reader

nothing_before : (known : Option (List ℕ)) → prepend_known [] known ≡ known
nothing_before None = refl
nothing_before (Some bytes) = refl

-- A new buffer has exactly the bytes of its reader.
pub buffers : {R A : Type 0} (remaining : R → Option (List ℕ)) (reader : R) (buffered : BufReader R A) → reader_inner buffered ≡ reader → reader_buffer buffered ≡ []
    → reader_capacity buffered ≡ 4096 → reader_remaining remaining buffered ≡ remaining reader
buffers remaining reader buffered inner empty capacity =
    ap (λ (n : ℕ). if n == 0 then None else prepend_known (reader_buffer buffered) (remaining (reader_inner buffered))) capacity
    ∙ ap (λ (bytes : List ℕ). prepend_known bytes (remaining (reader_inner buffered))) empty
    ∙ nothing_before (remaining (reader_inner buffered))
    ∙ ap remaining inner

-- ---- a connection for whose buffer there is no memory

pub ended_refused : (written : WriterView) (result : Result ⊤ RunFault) → OnOk result (written.is_flushed ≡ true) → OnErr result (written.has_failed ≡ true)
    → IfErr result (λ (why : RunFault). why ≡ ends.Write) → EndsConnection result None written
ended_refused written (Ok done) flushed failed is = record { flushed = flushed; cut = λ same. absurd (cc same); stopped = λ same. absurd (cc same) }
ended_refused written (Err why) flushed failed is = record { flushed = tt; cut = λ same. failed; stopped = λ same. absurd (cc (same, is)) }

-- Any bytes can be refused because memory is too small.
any_refused : (came : Option (List ℕ)) → IfSome came (λ input. IsRefused input fault.Unavailable)
any_refused None = tt
any_refused (Some input) = tt

module _ {S : Type 0} (M : Meaning S) (law : StepsAreKept) (moment : ℕ) (came before after : Option (List ℕ)) (office : DeskOf S) where
  -- No request was read, and the office stays as it is.
  stays : (h : Held) → StandsAs M office h → WentThrough M office office h []
  stays h stands = record { stands = stands; stops = stops_none M office.shelf h; kept = λ xs reached. law xs h reached [] }

  pub refused_connection : (result : Result ⊤ RunFault) → OnOk result (Appends before after (fault_text fault.Unavailable))
      → OnErr result (AppendsPart before after (fault_text fault.Unavailable)) → IfErr result (λ (why : RunFault). why ≡ ends.Write)
      → AnswersConnection M moment came before after office office result
  refused_connection (Ok done) whole part why = (
    None,
    λ honest h stands. (
      [],
      record {
        one = tt;
        steps_are = tt;
        told = fault_text fault.Unavailable;
        sent = whole;
        served = (fault.Unavailable, λ same. cc same, refl, any_refused came);
      },
      stays h stands,
    ),
  )
  refused_connection (Err why) whole part is = (
    None,
    λ honest h stands. (
      [],
      subst (λ (f : RunFault). Served office_answers (Err f) came None moment h [] before after) (sym is) (record {
        one = tt;
        steps_are = tt;
        told = part.part;
        sent = part.more;
        served = (fault_text fault.Unavailable, (fault.Unavailable, λ same. cc same, refl, any_refused came), part.front);
      }),
      stays h stands,
    ),
  )

-- ---- the printed text

pub of_printing : (failed : Bool) (result : Result (Unit {0}) ProgramFault) → IfErr result (λ (why : ProgramFault). why ≡ Output) → OnErr result (failed ≡ true)
    → IfErr result (IsOfPrinting failed)
of_printing failed (Ok done) is cause = tt
of_printing failed (Err why) is cause = subst (λ (f : ProgramFault). IsOfPrinting failed f) (sym is) cause

pub of_refusal : (failed : Bool) (why : ProgramFault) → IsOfOffice why → IsOfPrinting failed why
of_refusal failed (Refused why) is = tt
of_refusal failed (Arguments e) is = absurd is
of_refusal failed (Settings name) is = absurd is
of_refusal failed Store is = absurd is
of_refusal failed Input is = absurd is
of_refusal failed Output is = absurd is

module _ (settings : OfficeSettings) (query : Query) (s : Tables) (before after : Option (List ℕ)) where
  pub printed : (text : List ℕ) (result : Result (Unit {0}) ProgramFault) → IsSeenWhole settings query s text → OnOk result (Appends before after text)
      → OnErr result (AppendsPart before after text) → IfErr result (λ (why : ProgramFault). why ≡ Output) → IsPrinted settings query s before after result
  printed text (Ok done) seen whole part why = (text, seen, whole)
  printed text (Err why) seen whole part is =
      subst (λ (f : ProgramFault). IsPrinted settings query s before after (Err f)) (sym is) (text, seen, part)

  pub printed_nothing : (why : ProgramFault) → IsShown settings query s (Err why) → after ≡ before → IsPrinted settings query s before after (Err why)
  printed_nothing (Refused why) shown same = (shown, same)
  printed_nothing (Arguments e) shown same = absurd shown
  printed_nothing (Settings name) shown same = absurd shown
  printed_nothing Store shown same = absurd shown
  printed_nothing Input shown same = absurd shown
  printed_nothing Output shown same = absurd shown
