-- The changes of an accepted command, by the release that it publishes.
use Rattle.office_publications.proofs.Names.{◌≡◌, ℕ, List, [], ◌∷◌, ◌++◌, Option, Some, None, option_map, option_and_then, refl, sym, ◌∙◌, ap, append-nil, append_assoc, Publisher, Put, ReleaseRow, Tables, after_puts, Given, Means, effect, publication, publication_puts, puts_of, release_row, next, with_merges, office_readings, published_for, after-append, Event, event_of, kept_puts, next_with_merges, merge_puts, merged_row, NoEventPublishesNothing, EventsAreReleased, NoEventPutsItsEffect, EventsPutReleases, MergesStandBeside, publishing, text_by}
use Rattle.office_base.specs.declared.puts.Put.TheVariants as puts

module _ (publisher : Publisher) (x : Given) where
  abbrev means : Means
  means = publishing publisher

  -- the changes of the command if it publishes this release
  abbrev puts_with : Option ReleaseRow → List Put
  puts_with p = (effect office_readings x ++ publication_puts p) ++ merge_puts x.before p

  none_put : publication means x ≡ None → kept_puts publisher x ≡ effect office_readings x
  none_put e = ap puts_with e ∙ append-nil (effect office_readings x ++ []) ∙ append-nil (effect office_readings x)

  one_put : (r : ReleaseRow) → publication means x ≡ Some r
      → kept_puts publisher x ≡ effect office_readings x ++ (puts.Release r ∷ puts.Compiled (merged_row x.before r) ∷ [])
  one_put r e = ap puts_with e ∙ append_assoc (effect office_readings x) (puts.Release r ∷ []) (puts.Compiled (merged_row x.before r) ∷ [])

  -- the release of an event of a notice
  abbrev published_as : Option (List ℕ) → Option Event → Option ReleaseRow
  published_as notice event = option_and_then (λ n. option_map (release_row x n) (option_map (text_by publisher x) event)) notice

  no_event : (notice : Option (List ℕ)) → published_as notice None ≡ None
  no_event None = refl
  no_event (Some n) = refl

  pub unpublished : event_of x.before x.command ≡ None → publication means x ≡ None
  unpublished e = ap (published_as (published_for x.before x.command)) e ∙ no_event (published_for x.before x.command)

  pub published : (e : Event) (notice : List ℕ) → event_of x.before x.command ≡ Some e → published_for x.before x.command ≡ Some notice
      → publication means x ≡ Some (release_row x notice (text_by publisher x e))
  published e notice is of = ap (λ n. published_as n (event_of x.before x.command)) of ∙ ap (published_as (Some notice)) is

  merge_beside : (p : Option ReleaseRow) (u : Tables) → after_puts (merge_puts x.before p) u ≡ with_merges (after_puts (merge_puts x.before p) u).compiled u
  merge_beside None u = refl
  merge_beside (Some r) u = refl

  pub beside : next_with_merges publisher x ≡ with_merges (next_with_merges publisher x).compiled (next means x)
  beside =
      let apart = after-append (puts_of means x) (merge_puts x.before (publication means x)) x.before in
      apart ∙ merge_beside (publication means x) (next means x) ∙ ap (λ (u : Tables). with_merges u.compiled (next means x)) (sym apart)

pub no_event_publishes_nothing : NoEventPublishesNothing
no_event_publishes_nothing publisher x = unpublished publisher x

pub events_are_released : EventsAreReleased
events_are_released publisher x = published publisher x

pub no_event_puts_its_effect : NoEventPutsItsEffect
no_event_puts_its_effect publisher x e = none_put publisher x (unpublished publisher x e)

pub events_put_releases : EventsPutReleases
events_put_releases publisher x e notice is of = one_put publisher x (release_row x notice (text_by publisher x e)) (published publisher x e notice is of)

pub merges_stand_beside : MergesStandBeside
merges_stand_beside publisher x = beside publisher x
