-- In two worlds the tenders of a lot, of a notice and of a receipt are alike, and so is the best one.
use Rattle.office_machine.proofs.Names.{◌≡◌, ℕ, Bool, true, false, cond, List, [], ◌∷◌, Option, Some, None, unwrap_or, refl, sym, ◌∙◌, subst, ◌&&◌, same_id, find_envelope, Tables, envelope_at, envelopes_of_notice, envelopes_of_lot, EnvelopeRow, NoticeRow, AwardRow, envelope_of_award, weight_in, is_admissible, price_of, lesser, lowest_price, is_better, better, best_with, winner, ChosenTender, Pairs}
use Rattle.office_machine.proofs.Worlds.WorldsPut.{Alike, AlikeOptions, pairs-filter, blind, pairs-found}

module _ (th : ChosenTender) (W : ℕ → Bool) (s : Tables) (es' : List EnvelopeRow) (all : Pairs (Alike th W) s.envelopes es') where
  pub envelope_pair : (n : ℕ) → AlikeOptions th W (envelope_at n s) (find_envelope es' n)
  envelope_pair n = pairs-found th W s.envelopes es' n all

  pub lot_pairs : (notice lot : List ℕ) → Pairs (Alike th W) (envelopes_of_lot notice lot s) (envelopes_of_lot notice lot (record s { envelopes = es' }))
  lot_pairs notice lot = pairs-filter th W (λ (e : EnvelopeRow). same_id e.notice notice && same_id e.lot lot) (λ _ _. refl) s.envelopes es' all

  pub notice_pairs : (notice : List ℕ) → Pairs (Alike th W) (envelopes_of_notice notice s) (envelopes_of_notice notice (record s { envelopes = es' }))
  notice_pairs notice = pairs-filter th W (λ (e : EnvelopeRow). same_id e.notice notice) (λ _ _. refl) s.envelopes es' all

  -- the tender of an award
  pub awarded_pair : (o : Option AwardRow) → AlikeOptions th W (envelope_of_award o s) (envelope_of_award o (record s { envelopes = es' }))
  awarded_pair None = tt
  awarded_pair (Some a) = envelope_pair a.receipt

-- the best tenders of rows that are alike are alike
module _ (th : ChosenTender) (W : ℕ → Bool) where
  pub pairs-lowest : (es es' : List EnvelopeRow) → Pairs (Alike th W) es es' → lowest_price es' ≡ lowest_price es
  pairs-lowest [] [] all = refl
  pairs-lowest [] (e' ∷ es') all = absurd all
  pairs-lowest (e ∷ es) [] all = absurd all
  pairs-lowest (e ∷ es) (e' ∷ es') all =
      λ i. cond (blind th W is_admissible (λ _ _. refl) e e' all.0 i) (Some (lesser (blind th W price_of (λ _ _. refl) e e' all.0 i) (pairs-lowest es es' all.1 i))) (pairs-lowest es es' all.1 i)

  better_twice : (weight lowest : ℕ) (e e' f f' : EnvelopeRow) → Alike th W e e' → Alike th W f f' → is_better weight lowest f' e' ≡ is_better weight lowest f e
  better_twice weight lowest e e' f f' a b = blind th W (λ x. is_better weight lowest x e') (λ _ _. refl) f f' b ∙ blind th W (λ x. is_better weight lowest f x) (λ _ _. refl) e e' a

  better_cond : (e e' f f' : EnvelopeRow) (b : Bool) → Alike th W e e' → Alike th W f f' → Alike th W (cond b f e) (cond b f' e')
  better_cond e e' f f' true a b = b
  better_cond e e' f f' false a b = a

  better_alike : (weight lowest : ℕ) (e e' : EnvelopeRow) (o o' : Option EnvelopeRow) → Alike th W e e' → AlikeOptions th W o o' → Alike th W (better weight lowest e o) (better weight lowest e' o')
  better_alike weight lowest e e' None None a b = a
  better_alike weight lowest e e' None (Some f') a b = absurd b
  better_alike weight lowest e e' (Some f) None a b = absurd b
  better_alike weight lowest e e' (Some f) (Some f') a b =
      subst (λ c. Alike th W (cond (is_better weight lowest f e) f e) (cond c f' e')) (sym (better_twice weight lowest e e' f f' a b)) (better_cond e e' f f' (is_better weight lowest f e) a b)

  best_cond : (weight lowest : ℕ) (e e' : EnvelopeRow) (o o' : Option EnvelopeRow) (c : Bool) → Alike th W e e' → AlikeOptions th W o o' → AlikeOptions th W (cond c (Some (better weight lowest e o)) o) (cond c (Some (better weight lowest e' o')) o')
  best_cond weight lowest e e' o o' true a b = better_alike weight lowest e e' o o' a b
  best_cond weight lowest e e' o o' false a b = b

  pairs-best : (weight lowest : ℕ) (es es' : List EnvelopeRow) → Pairs (Alike th W) es es' → AlikeOptions th W (best_with weight lowest es) (best_with weight lowest es')
  pairs-best weight lowest [] [] all = tt
  pairs-best weight lowest [] (e' ∷ es') all = absurd all
  pairs-best weight lowest (e ∷ es) [] all = absurd all
  pairs-best weight lowest (e ∷ es) (e' ∷ es') all =
      subst (λ c. AlikeOptions th W (cond (is_admissible e) (Some (better weight lowest e (best_with weight lowest es))) (best_with weight lowest es)) (cond c (Some (better weight lowest e' (best_with weight lowest es'))) (best_with weight lowest es')))
      (sym (blind th W is_admissible (λ _ _. refl) e e' all.0))
      (best_cond weight lowest e e' (best_with weight lowest es) (best_with weight lowest es') (is_admissible e) all.0 (pairs-best weight lowest es es' all.1))

  pub pairs-winner : (notice : Option NoticeRow) (es es' : List EnvelopeRow) → Pairs (Alike th W) es es' → AlikeOptions th W (winner notice es) (winner notice es')
  pairs-winner notice es es' all =
      subst (λ l. AlikeOptions th W (winner notice es) (best_with (weight_in notice) (unwrap_or l 0) es')) (sym (pairs-lowest es es' all))
      (pairs-best (weight_in notice) (unwrap_or (lowest_price es) 0) es es' all)
