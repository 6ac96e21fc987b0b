-- The best tender of a lot, as a relation, and the law that the search of the rule finds it.
use Rattle.std.specs.Prelude.{◌≡◌, ℕ, ◌≤◌, true, false, List, Option, Some, None, unwrap_or}
use Rattle.std.specs.List.{AllByRecursion, Contains}
use Rattle.std.specs.Ordering.{nat_cmp}
use Rattle.office_base.specs.declared.records.EnvelopeRow.{EnvelopeRow}
use Rattle.office_base.specs.Rows.{IsInOrder}
use Rattle.office_base.specs.Tables.{envelope_key}
use Rattle.award_core.specs.Rules.Award.{is_admissible, price_of, lowest_price, is_better, best_of}

-- the price by which price points are measured: the lowest of an admissible tender, or 0 if none is admissible
abbrev pub lowest_in : List EnvelopeRow → ℕ
lowest_in rows = unwrap_or (lowest_price rows) 0

-- a tender is one of the rows and admissible, and no admissible one is better
pub record IsBest (weight : ℕ) (rows : List EnvelopeRow) (e : EnvelopeRow) : Type 0 where
  pub among : Contains rows e
  pub admissible : is_admissible e ≡ true
  pub none_better : AllByRecursion (λ (f : EnvelopeRow). is_admissible f ≡ true → is_better weight (lowest_in rows) f e ≡ false) rows

-- a price is that of an admissible tender among the rows, and at most that of each admissible one
pub record IsLowest (rows : List EnvelopeRow) (price : ℕ) : Type 0 where
  pub of_one : (e : EnvelopeRow) × Contains rows e × (is_admissible e ≡ true) × (price_of e ≡ price)
  pub least : AllByRecursion (λ (f : EnvelopeRow). is_admissible f ≡ true → price ≤ price_of f) rows

-- no tender is admissible
abbrev pub NoneIsAdmissible : List EnvelopeRow → Type 0
NoneIsAdmissible rows = AllByRecursion (λ (f : EnvelopeRow). is_admissible f ≡ false) rows

-- the right result of a search for the best tender: a best one, or nothing if none is admissible
abbrev pub IsAnswer : ℕ → List EnvelopeRow → Option EnvelopeRow → Type 0
IsAnswer weight rows None = NoneIsAdmissible rows
IsAnswer weight rows (Some e) = IsBest weight rows e

-- the right result of a search for the lowest price: that price, or nothing if no tender is admissible
abbrev pub IsLowestAnswer : List EnvelopeRow → Option ℕ → Type 0
IsLowestAnswer rows None = NoneIsAdmissible rows
IsLowestAnswer rows (Some price) = IsLowest rows price

-- the receipt of a tender that a search has found
abbrev pub receipt_in : Option EnvelopeRow → Option ℕ
receipt_in None = None
receipt_in (Some e) = Some e.receipt

-- the right result of a search for the best receipt: that of a best tender, or nothing if none is admissible
abbrev pub IsBestReceipt : ℕ → List EnvelopeRow → Option ℕ → Type 0
IsBestReceipt weight rows None = NoneIsAdmissible rows
IsBestReceipt weight rows (Some receipt) = (e : EnvelopeRow) × IsBest weight rows e × (e.receipt ≡ receipt)

-- the searches of the rule have the right results, and of rows in the order of their receipts at most one is a best tender
pub record BestIsFound : Type 0 where
  pub found : (weight : ℕ) (rows : List EnvelopeRow) → IsAnswer weight rows (best_of weight rows)
  pub lowest : (rows : List EnvelopeRow) → IsLowestAnswer rows (lowest_price rows)
  pub only : (weight : ℕ) (rows : List EnvelopeRow) (e f : EnvelopeRow) → IsInOrder nat_cmp envelope_key rows → IsBest weight rows e → IsBest weight rows f → e ≡ f
