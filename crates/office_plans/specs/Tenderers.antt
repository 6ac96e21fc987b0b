-- The tenderers of some tenders. Each is looked up once, in the order of the tenders.
use Rattle.std.specs.Prelude.{ℕ, cond, List, [], ◌∷◌, is_some}
use Rattle.office_values.specs.Ids.{id_cmp}
use Rattle.office_base.specs.Tables.{Tables, find_tenderer, tenderer_at, tenderer_key}
use Rattle.office_base.specs.declared.records.TendererRow.{TendererRow}
use Rattle.tender_core.specs.declared.opening.OpenedTender.{OpenedTender}
use Rattle.office_plans.specs.LookedUp.{with_row}

-- The identifier of the tenderer of an opened tender.
abbrev pub tenderer_of : OpenedTender → List ℕ
tenderer_of tender = tender.envelope.tenderer

-- The rows after the tenderer of this identifier is looked up, unless it is already among them.
abbrev pub with_tenderer : Tables → List TendererRow → List ℕ → List TendererRow
with_tenderer s rows tenderer = cond (is_some (find_tenderer rows tenderer)) rows (with_row id_cmp tenderer_key rows (tenderer_at tenderer s))

-- The rows after the tenderers of all these identifiers are looked up.
abbrev pub with_tenderers : Tables → List TendererRow → List (List ℕ) → List TendererRow
with_tenderers s rows [] = rows
with_tenderers s rows (tenderer ∷ tenderers) = with_tenderers s (with_tenderer s rows tenderer) tenderers

-- The tenderers of the office that have one of these identifiers.
abbrev pub tenderers_named : Tables → List (List ℕ) → List TendererRow
tenderers_named s tenderers = with_tenderers s [] tenderers
