-- The answers of look-ups that a store remembers, and when they agree with its tables.
use Rattle.std.specs.Prelude.{◌≡◌, List, [], Option, Some}
use Rattle.std.specs.BTreeMap.{is_at}
use Rattle.std.specs.Map.{lookup}
use Rattle.std.specs.Ordering.{nat_cmp}
use Rattle.std.specs.declared.cmp.Ordering.{Ordering}
use Rattle.office_values.specs.Ids.{id_cmp}
use Rattle.office_base.specs.Rows.{row_at}
use Rattle.office_base.specs.Tables.{Tables, award_key, contract_key, line_key, lot_cmp, lot_key, notice_key, tenderer_key}
use Rattle.office_sums.specs.declared.found.Found.{Found}

-- no answer is remembered
abbrev pub no_answers : Found
no_answers = record { lines = []; tenderers = []; notices = []; lots = []; awards = []; contracts = [] }

-- the answer that is remembered for a key, if any
abbrev pub answer_at : {K X : Type 0} → (K → K → Ordering) → List (K × Option X) → K → Option (Option X)
answer_at R known key = lookup (is_at (R key)) known

-- for each key that is remembered, the table has the row of the answer, or none
pub record AreAnswers {K X : Type 0} (R : K → K → Ordering) (key_of : X → K) (rows : List X) (known : List (K × Option X)) : Type 0 where
  pub each : (key : K) (answer : Option X) → answer_at R known key ≡ Some answer → row_at R key_of rows key ≡ answer

-- the remembered answers are right for these tables
pub record KnowsRows (found : Found) (t : Tables) : Type 0 where
  pub lines : AreAnswers id_cmp line_key t.lines found.lines
  pub tenderers : AreAnswers id_cmp tenderer_key t.tenderers found.tenderers
  pub notices : AreAnswers id_cmp notice_key t.notices found.notices
  pub lots : AreAnswers lot_cmp lot_key t.lots found.lots
  pub awards : AreAnswers nat_cmp award_key t.awards found.awards
  pub contracts : AreAnswers nat_cmp contract_key t.contracts found.contracts
