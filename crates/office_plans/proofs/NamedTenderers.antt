-- Tenderers that were looked up by their identifiers are the office's tenderers with these identifiers, in the order of the identifiers.
use Rattle.office_plans.proofs.Names.{◌≡◌, ℕ, Bool, true, false, cond, ◌||◌, ◌&&◌, List, [], ◌∷◌, map, filter, Option, Some, None, is_some, refl, sym, ap, ◌∙◌, subst, texts_ties, AllByRecursion, list_any, is_eq, Ordering, Less, Equal, Greater, id_cmp, same_id, by_order, row_at, row_put, StartsAbove, IsInOrder, Tables, envelopes_of_notice, find_tenderer, put_tenderer, tenderer_key, EnvelopeRow, TendererRow, found_key, start_of, tied, all_above, none_below, put_first, all_filter, tenderers, has_sealed, is_sealed_envelope, with_row, sealed_of_notice, tender_read, tenders_read, tenderer_of, tenderers_named, with_tenderers}

or_false : (b : Bool) → (b || false) ≡ b
or_false true = refl
or_false false = refl

or_assoc : (a b c : Bool) → ((a || b) || c) ≡ (a || (b || c))
or_assoc true b c = refl
or_assoc false b c = refl

either_way : {A : Type 0} (b : Bool) (x : A) → cond b x x ≡ x
either_way true x = refl
either_way false x = refl

agree : (p q : TendererRow → Bool) (rows : List TendererRow) → ((r : TendererRow) → p r ≡ q r) → filter p rows ≡ filter q rows
agree p q [] h = refl
agree p q (r ∷ rows) h = ap (λ b. cond b (r ∷ filter p rows) (filter p rows)) (h r) ∙ ap (λ rs. cond (q r) (r ∷ rs) rs) (agree p q rows h)

none_pass : (rows : List TendererRow) → filter (λ (r : TendererRow). false) rows ≡ []
none_pass [] = refl
none_pass (r ∷ rows) = none_pass rows

-- The tenderers that pass a test or have this identifier.
module _ (p : TendererRow → Bool) (n : List ℕ) where
  abbrev or_named : TendererRow → Bool
  or_named r = p r || same_id n r.tenderer

  abbrev AreAbove : List TendererRow → Type 0
  AreAbove rows = AllByRecursion (λ (r : TendererRow). id_cmp n r.tenderer ≡ Less) rows

  -- None of these tenderers has the identifier.
  unnamed : (rows : List TendererRow) → AreAbove rows → filter p rows ≡ filter or_named rows
  unnamed [] h = refl
  unnamed (r ∷ rows) h =
      let other : same_id n r.tenderer ≡ false = texts_ties n r.tenderer ∙ ap is_eq h.0 in
      ap (λ b. cond b (r ∷ filter p rows) (filter p rows)) (sym (ap (λ d. p r || d) other ∙ or_false (p r)))
      ∙ ap (λ rs. cond (or_named r) (r ∷ rs) rs) (unnamed rows h.1)

  -- The rows with the tenderer that was found, unless it is already among them.
  abbrev With : List TendererRow → Option TendererRow → List TendererRow
  With rows found = cond (is_some (find_tenderer rows n)) rows (with_row id_cmp tenderer_key rows found)

  -- One more row.
  module _ (y : TendererRow) (ys : List TendererRow) (order : IsInOrder id_cmp tenderer_key (y ∷ ys)) where
    here : id_cmp n y.tenderer ≡ Equal → n ≡ y.tenderer
    here c = tenderers.exact n y.tenderer c

    below : id_cmp n y.tenderer ≡ Less → AreAbove ys
    below c = (all_above tenderers.total tenderer_key n (y ∷ ys) c order).1

    level : id_cmp n y.tenderer ≡ Equal → AreAbove ys
    level c = all_above tenderers.total tenderer_key n ys (tied tenderers.total tenderer_key n y.tenderer ys c order.0) order.1

    onto : id_cmp n y.tenderer ≡ Greater → (found : Option TendererRow) → find_tenderer ys n ≡ found → (a : Bool)
        → cond a (y ∷ filter p ys) (with_row id_cmp tenderer_key (y ∷ filter p ys) found) ≡ y ∷ cond a (filter p ys) (with_row id_cmp tenderer_key (filter p ys) found)
    unfolding row_put
    onto c found h true = refl
    onto c None h false = refl
    onto c (Some x) h false =
        ap (λ o. by_order o (x ∷ y ∷ filter p ys) (x ∷ filter p ys) (y ∷ put_tenderer (filter p ys) x))
        (ap (λ k. id_cmp k y.tenderer) (found_key tenderers ys n x h) ∙ c)

    grown : With (filter p ys) (find_tenderer ys n) ≡ filter or_named ys → (b : Bool) (c : Ordering) → id_cmp n y.tenderer ≡ c
        → With (cond b (y ∷ filter p ys) (filter p ys)) (by_order c None (Some y) (find_tenderer ys n))
        ≡ cond (b || is_eq c) (y ∷ filter or_named ys) (filter or_named ys)
    unfolding row_at
    grown ih true Less c = either_way (is_some (find_tenderer (y ∷ filter p ys) n)) (y ∷ filter p ys) ∙ ap (λ rs. y ∷ rs) (unnamed ys (below c))
    grown ih true Equal c =
        ap (λ o. cond (is_some (by_order o None (Some y) (find_tenderer (filter p ys) n))) (y ∷ filter p ys) (put_tenderer (y ∷ filter p ys) y)) c
        ∙ ap (λ rs. y ∷ rs) (unnamed ys (level c))
    grown ih true Greater c =
        ap (λ o. cond (is_some (by_order o None (Some y) (find_tenderer (filter p ys) n))) (y ∷ filter p ys)
        (with_row id_cmp tenderer_key (y ∷ filter p ys) (find_tenderer ys n))) c
        ∙ onto c (find_tenderer ys n) refl (is_some (find_tenderer (filter p ys) n)) ∙ ap (λ rs. y ∷ rs) ih
    grown ih false Less c = either_way (is_some (find_tenderer (filter p ys) n)) (filter p ys) ∙ unnamed ys (below c)
    grown ih false Equal c =
        let first : StartsAbove id_cmp tenderer_key n (filter p ys) = start_of id_cmp tenderer_key n (filter p ys) (all_filter (λ (r : TendererRow). id_cmp n r.tenderer ≡ Less) p ys (level c)) in
        ap (λ o. cond (is_some o) (filter p ys) (put_tenderer (filter p ys) y)) (none_below id_cmp tenderer_key n (filter p ys) first)
        ∙ put_first id_cmp tenderer_key y (filter p ys) (subst (λ k. StartsAbove id_cmp tenderer_key k (filter p ys)) (here c) first)
        ∙ ap (λ rs. y ∷ rs) (unnamed ys (level c))
    grown ih false Greater c = ih

  with_one : (rows : List TendererRow) → IsInOrder id_cmp tenderer_key rows → With (filter p rows) (find_tenderer rows n) ≡ filter or_named rows
  unfolding row_at
  with_one [] order = refl
  with_one (y ∷ ys) order =
      grown y ys order (with_one ys order.1) (p y) (id_cmp n y.tenderer) refl
      ∙ ap (λ d. cond (p y || d) (y ∷ filter or_named ys) (filter or_named ys)) (sym (texts_ties n y.tenderer))

-- The identifier of the tenderer of a stored tender.
abbrev holder : EnvelopeRow → List ℕ
holder e = e.tenderer

abbrev is_named : List (List ℕ) → TendererRow → Bool
is_named ns r = list_any (λ (n : List ℕ). same_id n r.tenderer) ns

module _ (s : Tables) (order : IsInOrder id_cmp tenderer_key s.tenderers) where
  with_each : (ns : List (List ℕ)) (p : TendererRow → Bool)
      → with_tenderers s (filter p s.tenderers) ns ≡ filter (λ r. p r || is_named ns r) s.tenderers
  with_each [] p = agree p (λ r. p r || false) s.tenderers (λ r. sym (or_false (p r)))
  with_each (n ∷ ns) p =
      ap (λ rows. with_tenderers s rows ns) (with_one p n s.tenderers order) ∙ with_each ns (λ r. p r || same_id n r.tenderer)
      ∙ agree (λ r. (p r || same_id n r.tenderer) || is_named ns r) (λ r. p r || is_named (n ∷ ns) r) s.tenderers
      (λ r. or_assoc (p r) (same_id n r.tenderer) (is_named ns r))

  are_named : (ns : List (List ℕ)) → tenderers_named s ns ≡ filter (is_named ns) s.tenderers
  are_named ns = ap (λ rows. with_tenderers s rows ns) (sym (none_pass s.tenderers)) ∙ with_each ns (λ r. false)

  sealed_is : (es : List EnvelopeRow) (r : TendererRow) → is_named (map holder (filter is_sealed_envelope es)) r ≡ has_sealed es r
  sealed_is [] r = refl
  sealed_is (e ∷ es) r =
      elim (is_sealed_envelope e) as (λ b. is_named (map holder (cond b (e ∷ filter is_sealed_envelope es) (filter is_sealed_envelope es))) r
      ≡ ((b && same_id e.tenderer r.tenderer) || has_sealed es r)) [
        | true ↦ ap (λ b. same_id e.tenderer r.tenderer || b) (sealed_is es r)
        | false ↦ sealed_is es r
      ]

  -- The tenderers of the sealed tenders are exactly the office's tenderers that have a sealed tender.
  pub sealed_named : (es : List EnvelopeRow) → tenderers_named s (map holder (filter is_sealed_envelope es)) ≡ filter (has_sealed es) s.tenderers
  sealed_named es = are_named (map holder (filter is_sealed_envelope es)) ∙ agree _ _ s.tenderers (sealed_is es)

each_holder : (s : Tables) (es : List EnvelopeRow) → map tenderer_of (map (tender_read s) es) ≡ map holder es
each_holder s [] = refl
each_holder s (e ∷ es) = ap (λ (ns : List (List ℕ)). e.tenderer ∷ ns) (each_holder s es)

-- The tenderers of the tenders that an opening reads are the office's tenderers that have a sealed tender of the notice.
pub opened_named : (s : Tables) → IsInOrder id_cmp tenderer_key s.tenderers → (notice : List ℕ)
    → tenderers_named s (map tenderer_of (tenders_read notice s)) ≡ filter (has_sealed (envelopes_of_notice notice s)) s.tenderers
opened_named s order notice = ap (tenderers_named s) (each_holder s (sealed_of_notice notice s)) ∙ sealed_named s order (envelopes_of_notice notice s)
