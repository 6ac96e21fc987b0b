-- A release that has its notice's next number and the command's moment is the release that the command publishes.
use Rattle.office_plans.proofs.Names.{◌≡◌, ℕ, ◌+◌, List, Option, Some, option_and_then, ◌∙◌, ap, ap₂, sym, Data, compact_text, release_of_event, Event, notice_at, ReleaseRow, Given, publication, time_of, published_for, releases_in, event_of, EventsAreReleased, publishing, Publisher}

module _ (released : EventsAreReleased) (publisher : Publisher) (x : Given) (event : Event) (notice : List ℕ) where
  abbrev row : ℕ → ℕ → Data → ReleaseRow
  row seq t release = record { notice = notice; seq = seq; moment = t; text = compact_text release }

  -- The row of the release, if the command publishes for this notice.
  abbrev under : Option (List ℕ) → ReleaseRow
  under o =
      row (releases_in (notice_at notice x.before) + 1) (time_of x)
      (release_of_event publisher (releases_in (option_and_then (λ n. notice_at n x.before) o) + 1) (time_of x) event)

  pub is_published : event_of x.before x.command ≡ Some event → published_for x.before x.command ≡ Some notice
      → (seq t : ℕ) (release : Data) → seq ≡ releases_in (notice_at notice x.before) + 1 → t ≡ time_of x → release ≡ release_of_event publisher seq t event
      → publication (publishing publisher) x ≡ Some (row seq t release)
  is_published is for_notice seq t release numbered timed made =
      released publisher x event notice is for_notice ∙ ap (λ o. Some (under o)) for_notice
      ∙ sym (ap₂ (λ n m. Some (row n m (release_of_event publisher n m event))) numbered timed)
      ∙ sym (ap (λ d. Some (row seq t d)) made)
