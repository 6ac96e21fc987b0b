-- A fact about the empty office that each accepted command keeps is true of every reached office.
use Rattle.office_machine.proofs.Names.{◌≡◌, List, [], ◌∷◌, None, sym, subst, id_cmp, IsInOrder, Tables, no_tables, compiled_key, CompiledRow, AreOfNotices, Means, Given, CanBeGiven, Reaches, refusal_of, next, with_merges}

-- the command is accepted in an office to which these commands lead
pub record IsAccepted (means : Means) (xs : List Given) (x : Given) : Type 0 where
  pub reached : Reaches means xs x.before
  pub given : CanBeGiven x
  pub allowed : refusal_of x ≡ None

module _ (means : Means) (P : List Given → Tables → Type 0) (start : P [] no_tables)
    (beside : (merges : List CompiledRow) → IsInOrder id_cmp compiled_key merges → (xs : List Given) (t : Tables) → AreOfNotices merges t → P xs t → P xs (with_merges merges t))
    (step : (xs : List Given) (x : Given) → IsAccepted means xs x → P xs x.before → P (x ∷ xs) (next means x)) where
  pub along : (xs : List Given) (t : Tables) → Reaches means xs t → P xs t
  along [] t reached = subst (P []) (sym reached) start
  along (x ∷ xs) t reached =
      subst (P (x ∷ xs)) (sym reached.is)
      (beside reached.merges reached.in_order (x ∷ xs) (next means x) reached.of_notices
      (step xs x (record { reached = reached.reached; given = reached.given; allowed = reached.allowed }) (along xs x.before reached.reached)))
