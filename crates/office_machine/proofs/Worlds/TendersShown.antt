-- In two worlds the evaluation is the same. A tenderer's own tenders differ at most in their digests, which nobody else sees.
use Rattle.office_machine.proofs.Names.{◌≡◌, ℕ, Bool, true, false, cond, ◌&&◌, ◌||◌, List, [], ◌∷◌, ◌++◌, map, filter, Option, Some, None, unwrap_or, refl, ◌∙◌, ap, flat_map, same_id, NotOpened, Caller, Tenderer, is_clerk, is_read, is_opened, NoticeRow, LotRow, EnvelopeRow, SealRow, AwardRow, Tables, of_tenderer, envelopes_of_lot, lowest_in, ChosenTender, is_theirs, is_for_chosen_lot, Pairs, OwnTendersSeen, EvaluationSeen, evaluated_tender, evaluated_tenders, awards_of_lot, has_outcome, lot_told, evaluated_lot, evaluation_told, own_tender, own_of_lot, own_tenders_told, bare_tender, without_digest, equal_ids}
use mathlib.Core.Path.{fun_ext}
use Rattle.office_machine.specs.Replies.{Refused}
use Rattle.office_machine.proofs.Worlds.WorldsPut.{Alike, IsBlind, blind, pairs-filter}
use Rattle.office_machine.proofs.Worlds.WorldsRows.{lot_pairs, pairs-lowest}

both_parts : (a b : Bool) → (a && b) ≡ true → (a ≡ true) × (b ≡ true)
both_parts true b e = (refl, e)
both_parts false b e = cc

pairs-append : {X Y : Type 0} (R : X → Y → Type 0) (xs zs : List X) (ys ws : List Y) → Pairs R xs ys → Pairs R zs ws → Pairs R (xs ++ zs) (ys ++ ws)
pairs-append R [] zs [] ws a b = b
pairs-append R [] zs (y ∷ ys) ws a b = absurd a
pairs-append R (x ∷ xs) zs [] ws a b = absurd a
pairs-append R (x ∷ xs) zs (y ∷ ys) ws a b = (a.0, pairs-append R xs zs ys ws a.1 b)

pairs-flat : {A X Y : Type 0} (R : X → Y → Type 0) (f : A → List X) (g : A → List Y) → ((a : A) → Pairs R (f a) (g a)) → (zs : List A) → Pairs R (flat_map f zs) (flat_map g zs)
pairs-flat R f g each [] = tt
pairs-flat R f g each (z ∷ zs) = pairs-append R (f z) (flat_map f zs) (g z) (flat_map g zs) (each z) (pairs-flat R f g each zs)

module _ (th : ChosenTender) (W : ℕ → Bool) where
  pub pairs-same : {A : Type 0} (f : EnvelopeRow → A) → IsBlind th W f → (es es' : List EnvelopeRow) → Pairs (Alike th W) es es' → map f es' ≡ map f es
  pairs-same f b [] [] all = refl
  pairs-same f b [] (e' ∷ es') all = absurd all
  pairs-same f b (e ∷ es) [] all = absurd all
  pairs-same f b (e ∷ es) (e' ∷ es') all = λ i. blind th W f b e e' all.0 i ∷ pairs-same f b es es' all.1 i

  -- the tender was opened
  abbrev read_one : EnvelopeRow → Bool
  read_one e = is_read e.state

  tenders_same : (weight : ℕ) (es es' : List EnvelopeRow) → Pairs (Alike th W) es es' → evaluated_tenders weight es' ≡ evaluated_tenders weight es
  tenders_same weight es es' all =
      ap (λ o. map (evaluated_tender weight (unwrap_or o 0)) (filter read_one es')) (pairs-lowest th W es es' all)
      ∙ pairs-same (evaluated_tender weight (lowest_in es)) (λ _ _. refl) (filter read_one es) (filter read_one es') (pairs-filter th W read_one (λ _ _. refl) es es' all)

  -- a tenderer's own tenders, from rows that are alike
  module _ (notice lot id : List ℕ) where
    abbrev own : EnvelopeRow → Bool
    own e = of_tenderer notice lot id e

    -- a tender of another tenderer isn't one of the chosen tenderer
    elses : same_id id th.who ≡ false → (e : EnvelopeRow) → own e ≡ true → is_theirs th e ≡ false
    elses out e mine =
        ap (λ k. same_id k th.who && is_for_chosen_lot th e) (equal_ids e.tenderer id (both_parts (same_id e.notice notice && same_id e.lot lot) (same_id e.tenderer id) mine).1)
        ∙ ap (λ b. b && is_for_chosen_lot th e) out

    elses_same : same_id id th.who ≡ false → (es es' : List EnvelopeRow) → Pairs (Alike th W) es es' → filter own es' ≡ filter own es
    elses_same out [] [] all = refl
    elses_same out [] (e' ∷ es') all = absurd all
    elses_same out (e ∷ es) [] all = absurd all
    elses_same out (e ∷ es) (e' ∷ es') all =
        ap (λ c. cond c (e' ∷ filter own es') (filter own es')) (blind th W own (λ _ _. refl) e e' all.0) ∙ by (own e) refl ∙ ap (λ rest. cond (own e) (e ∷ rest) rest) (elses_same out es es' all.1)
      where
        by : (b : Bool) → own e ≡ b → cond b (e' ∷ filter own es') (filter own es') ≡ cond b (e ∷ filter own es') (filter own es')
        by true mine = ap (λ (x : EnvelopeRow). x ∷ filter own es') (all.0.rows.but_digest ∙ ap (λ d. record e { digest = d }) (all.0.rows.digest (elses out e mine)))
        by false mine = refl

  own_bare : (es es' : List EnvelopeRow) → Pairs (Alike th W) es es' → map bare_tender (map own_tender es') ≡ map bare_tender (map own_tender es)
  own_bare [] [] all = refl
  own_bare [] (e' ∷ es') all = absurd all
  own_bare (e ∷ es) [] all = absurd all
  own_bare (e ∷ es) (e' ∷ es') all = λ i. blind th W (λ e. bare_tender (own_tender e)) (λ _ _. refl) e e' all.0 i ∷ own_bare es es' all.1 i

  module _ (s : Tables) (es' : List EnvelopeRow) (ss' : List SealRow) (all : Pairs (Alike th W) s.envelopes es') where
    abbrev other : Tables
    other = record s { envelopes = es'; seals = ss' }

    lot_same : (caller : Caller) (weight : ℕ) (awards : List AwardRow) (l : LotRow) → evaluated_lot caller weight awards other l ≡ evaluated_lot caller weight awards s l
    lot_same caller weight awards l =
        ap (λ tenders. cond (is_clerk caller || has_outcome awards l) (lot_told tenders (awards_of_lot l.lot awards) l) (lot_told [] [] l))
        (tenders_same weight (envelopes_of_lot l.notice l.lot s) (envelopes_of_lot l.notice l.lot other) (lot_pairs th W s es' all l.notice l.lot))

    -- the evaluation is the same
    pub evaluation_same : (caller : Caller) (o : Option NoticeRow) (lots : List LotRow) (awards : List AwardRow) → evaluation_told caller other o lots awards ≡ evaluation_told caller s o lots awards
    evaluation_same caller None lots awards = refl
    evaluation_same caller (Some n) lots awards =
        ap (λ told. cond (is_opened n.state) (EvaluationSeen n.notice (map told lots)) (Refused NotOpened)) (fun_ext (lot_same caller n.weight awards))

    -- the own tenders of any other tenderer are the same
    others_lot : (id : List ℕ) → same_id id th.who ≡ false → (l : LotRow) → own_of_lot (Tenderer id) other l ≡ own_of_lot (Tenderer id) s l
    others_lot id out l = elses_same l.notice l.lot id out s.envelopes es' all

    pub others_own : (id : List ℕ) → same_id id th.who ≡ false → (o : Option NoticeRow) (lots : List LotRow) → own_tenders_told (Tenderer id) other o lots ≡ own_tenders_told (Tenderer id) s o lots
    others_own id out None lots = refl
    others_own id out (Some n) lots = ap (λ own. OwnTendersSeen (map own_tender (flat_map own lots))) (fun_ext (others_lot id out))

    own_pairs : (caller : Caller) (l : LotRow) → Pairs (Alike th W) (own_of_lot caller s l) (own_of_lot caller other l)
    own_pairs caller l = pairs-filter th W (of_tenderer l.notice l.lot (Rattle.office_commands.specs.Callers.tenderer_of caller)) (λ _ _. refl) s.envelopes es' all

    pub own_but_digest : (caller : Caller) (o : Option NoticeRow) (lots : List LotRow) → without_digest (own_tenders_told caller other o lots) ≡ without_digest (own_tenders_told caller s o lots)
    own_but_digest caller None lots = refl
    own_but_digest caller (Some n) lots =
        ap OwnTendersSeen (own_bare (flat_map (own_of_lot caller s) lots) (flat_map (own_of_lot caller other) lots)
        (pairs-flat (Alike th W) (own_of_lot caller s) (own_of_lot caller other) (own_pairs caller) lots))
