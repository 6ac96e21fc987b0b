-- Events and packages depend on no digest of an envelope and on no seal.
use Rattle.office_publications.proofs.Names.{◌≡◌, ℕ, ◌+◌, Bool, true, false, cond, ◌&&◌, ◌||◌, List, [], ◌∷◌, map, filter, Option, Some, None, unwrap_or, option_map, option_and_then, list_any, refl, sym, ◌∙◌, ap, compact_text, same_id, Publisher, Command, Open, Award, EnvelopeRow, NoticeRow, SealRow, TendererRow, Tables, notice_at, envelopes_of_lot, is_sealed_envelope, is_admissible, price_of, lesser, lowest_price, is_better, better, best_with, weight_in, winner, release_of_event, tenderer_shown, Event, Given, time_of, published_for, releases_in, ButDigest, Pairs, award_event, event_of, open_event, ReleasesTellNoSeals, PackagesTellNoSeals}
use Rattle.office_commands.specs.declared.queries.Query.TheVariants as queries
use Rattle.ocds_release.specs.declared.event.Event.TheVariants as events

-- an envelope without its digest
abbrev bare : EnvelopeRow → EnvelopeRow
bare e = record e { digest = [] }

same_bare : (es es' : List EnvelopeRow) → Pairs ButDigest es es' → map bare es' ≡ map bare es
same_bare [] [] all = refl
same_bare [] (e' ∷ es') all = absurd all
same_bare (e ∷ es) [] all = absurd all
same_bare (e ∷ es) (e' ∷ es') all = λ i. bare (all.0 i) ∷ same_bare es es' all.1 i

-- a result that bare envelopes don't change is the same for envelopes with other digests
by_bare : {A : Type 0} (f : List EnvelopeRow → A) → ((es : List EnvelopeRow) → f (map bare es) ≡ f es)
    → (es es' : List EnvelopeRow) → Pairs ButDigest es es' → f es' ≡ f es
by_bare f blind es es' all = sym (blind es') ∙ (ap f (same_bare es es' all) ∙ blind es)

-- a test that reads no digest passes the same bare envelopes
kept_bare : (b : Bool) (e : EnvelopeRow) (es : List EnvelopeRow) → cond b (bare e ∷ map bare es) (map bare es) ≡ map bare (cond b (e ∷ es) es)
kept_bare true e es = refl
kept_bare false e es = refl

filter_bare : (p : EnvelopeRow → Bool) → ((e : EnvelopeRow) → p (bare e) ≡ p e) → (es : List EnvelopeRow) → filter p (map bare es) ≡ map bare (filter p es)
filter_bare p blind [] = refl
filter_bare p blind (e ∷ es) = (λ i. cond (blind e i) (bare e ∷ filter_bare p blind es i) (filter_bare p blind es i)) ∙ kept_bare (p e) e (filter p es)

any_bare : (p : EnvelopeRow → Bool) → ((e : EnvelopeRow) → p (bare e) ≡ p e) → (es : List EnvelopeRow) → list_any p (map bare es) ≡ list_any p es
any_bare p blind [] = refl
any_bare p blind (e ∷ es) = λ i. blind e i || any_bare p blind es i

-- the winner among bare envelopes is the winner, bare
lowest_bare : (es : List EnvelopeRow) → lowest_price (map bare es) ≡ lowest_price es
lowest_bare [] = refl
lowest_bare (e ∷ es) = ap (λ l. cond (is_admissible e) (Some (lesser (price_of e) l)) l) (lowest_bare es)

chosen_bare : (b : Bool) (e f : EnvelopeRow) → cond b (bare f) (bare e) ≡ bare (cond b f e)
chosen_bare true e f = refl
chosen_bare false e f = refl

better_bare : (weight lowest : ℕ) (e : EnvelopeRow) (o : Option EnvelopeRow)
    → better weight lowest (bare e) (option_map bare o) ≡ bare (better weight lowest e o)
better_bare weight lowest e None = refl
better_bare weight lowest e (Some f) = chosen_bare (is_better weight lowest f e) e f

first_bare : (weight lowest : ℕ) (b : Bool) (e : EnvelopeRow) (o : Option EnvelopeRow)
    → cond b (Some (better weight lowest (bare e) (option_map bare o))) (option_map bare o) ≡ option_map bare (cond b (Some (better weight lowest e o)) o)
first_bare weight lowest true e o = ap Some (better_bare weight lowest e o)
first_bare weight lowest false e o = refl

best_bare : (weight lowest : ℕ) (es : List EnvelopeRow) → best_with weight lowest (map bare es) ≡ option_map bare (best_with weight lowest es)
best_bare weight lowest [] = refl
best_bare weight lowest (e ∷ es) =
    ap (λ o. cond (is_admissible e) (Some (better weight lowest (bare e) o)) o) (best_bare weight lowest es)
    ∙ first_bare weight lowest (is_admissible e) e (best_with weight lowest es)

winner_bare : (n : Option NoticeRow) (es : List EnvelopeRow) → winner n (map bare es) ≡ option_map bare (winner n es)
winner_bare n es =
    ap (λ l. best_with (weight_in n) (unwrap_or l 0) (map bare es)) (lowest_bare es) ∙ best_bare (weight_in n) (unwrap_or (lowest_price es) 0) es

-- the event of an opening, by all envelopes
abbrev opened_by : List ℕ → List TendererRow → List EnvelopeRow → Event
opened_by notice tenderers es = open_event notice (filter (λ (e : EnvelopeRow). same_id e.notice notice) es) tenderers

opened_bare : (notice : List ℕ) (tenderers : List TendererRow) (es : List EnvelopeRow) → open_event notice (map bare es) tenderers ≡ open_event notice es tenderers
opened_bare notice tenderers es = λ i. events.Open (record {
  notice = notice;
  tenderers = map tenderer_shown
      (filter (λ (r : TendererRow). any_bare (λ (e : EnvelopeRow). is_sealed_envelope e && same_id e.tenderer r.tenderer) (λ _. refl) es i) tenderers);
})

opened_blind : (notice : List ℕ) (tenderers : List TendererRow) (es : List EnvelopeRow)
    → opened_by notice tenderers (map bare es) ≡ opened_by notice tenderers es
opened_blind notice tenderers es =
    ap (λ fs. open_event notice fs tenderers) (filter_bare (λ (e : EnvelopeRow). same_id e.notice notice) (λ _. refl) es)
    ∙ opened_bare notice tenderers (filter (λ (e : EnvelopeRow). same_id e.notice notice) es)

-- the event of an award, by all envelopes
abbrev awarded_by : Tables → List ℕ → List ℕ → Option NoticeRow → List EnvelopeRow → Event
awarded_by s notice lot n es = award_event s notice lot (winner n (filter (λ (e : EnvelopeRow). same_id e.notice notice && same_id e.lot lot) es))

awarded_bare : (s : Tables) (notice lot : List ℕ) (o : Option EnvelopeRow) → award_event s notice lot (option_map bare o) ≡ award_event s notice lot o
awarded_bare s notice lot None = refl
awarded_bare s notice lot (Some e) = refl

awarded_blind : (s : Tables) (notice lot : List ℕ) (n : Option NoticeRow) (es : List EnvelopeRow)
    → awarded_by s notice lot n (map bare es) ≡ awarded_by s notice lot n es
awarded_blind s notice lot n es =
    let in_lot : EnvelopeRow → Bool = λ (e : EnvelopeRow). same_id e.notice notice && same_id e.lot lot in
    ap (λ fs. award_event s notice lot (winner n fs)) (filter_bare in_lot (λ _. refl) es)
    ∙ (ap (award_event s notice lot) (winner_bare n (filter in_lot es)) ∙ awarded_bare s notice lot (winner n (filter in_lot es)))

-- a command in an office with other digests and seals
module _ (s : Tables) (es' : List EnvelopeRow) (ss' : List SealRow) (all : Pairs ButDigest s.envelopes es') where
  abbrev other : Tables
  other = record s { envelopes = es'; seals = ss' }

  awarded_other : (notice lot : List ℕ) (o : Option EnvelopeRow) → award_event other notice lot o ≡ award_event s notice lot o
  awarded_other notice lot None = refl
  awarded_other notice lot (Some e) = refl

  same_event : (command : Command) → event_of other command ≡ event_of s command
  same_event (Open notice) = ap Some (by_bare (opened_by notice s.tenderers) (opened_blind notice s.tenderers) s.envelopes es' all)
  same_event (Award notice lot) =
      ap Some
      (awarded_other notice lot (winner (notice_at notice s) (envelopes_of_lot notice lot other))
      ∙ by_bare (awarded_by s notice lot (notice_at notice s)) (awarded_blind s notice lot (notice_at notice s)) s.envelopes es' all)
  same_event _ = refl

-- the text of an event, under the next number of the notice that it is published for
abbrev text_in : Publisher → Given → Option (List ℕ) → Event → List ℕ
text_in publisher x notice e = compact_text (release_of_event publisher (releases_in (option_and_then (λ n. notice_at n x.before) notice) + 1) (time_of x) e)

pub releases_tell_no_seals : ReleasesTellNoSeals
releases_tell_no_seals publisher x es' ss' all opens =
    ap (option_map (text_in publisher x (published_for x.before x.command))) (same_event x.before es' ss' all x.command)

pub packages_tell_no_seals : PackagesTellNoSeals
packages_tell_no_seals publisher (queries.Releases notice) s es' ss' all = refl
packages_tell_no_seals publisher (queries.Record notice) s es' ss' all = refl
packages_tell_no_seals publisher _ s es' ss' all = refl
