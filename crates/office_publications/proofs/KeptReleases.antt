-- Releases and merges are right after an accepted command if they were right before it.
use Rattle.office_publications.proofs.Names.{◌≡◌, ℕ, Bool, true, false, cond, List, [], ◌∷◌, ◌++◌, map, filter, Option, Some, None, IsSome, option_to_list, All, refl, sym, ◌∙◌, ap, subst, inl, inr, append-nil, All-append, All-nil, All-cons, KeepsMerge, same_id, Publisher, row_at, Tables, ChangesKeepOrder, after_puts, find_compiled, notice_at, put_compiled, release_at, releases_of_notice, CompiledRow, ReleaseRow, TablesAreInOrder, AreOfNotices, Given, Means, effect, next, publication, publication_puts, puts_of, office_readings, HaveParents, ParentsAreThere, ReleasesArePublished, published_of, StepsReach, after-append, next_is, parents_there, found, found_put, KeepsReleases, PublicationReadsBack, kept_puts, next_with_merges, merge_puts, merged_row, KeptStepsReach, ReleasesStayKept, NothingIsKeptAtFirst, AreMerged, CanBeMerged, body_in, publishing}
use Rattle.office_machine.proofs.Rows.Keyed as keyed
use Rattle.office_publications.proofs.KeptPuts.{merges_stand_beside}
use Rattle.office_publications.proofs.MergesKept.{merges_stay}

-- the merges after a release is published, if one is
abbrev with_merge : Tables → Option ReleaseRow → List CompiledRow → List CompiledRow
with_merge s None rows = rows
with_merge s (Some r) rows = put_compiled rows (merged_row s r)

put_beside : (s : Tables) (p : Option ReleaseRow) (u : Tables) → (after_puts (merge_puts s p) u).compiled ≡ with_merge s p u.compiled
put_beside s None u = refl
put_beside s (Some r) u = refl

-- the merges beside the office after a command are of its notices
module _ (publisher : Publisher) (x : Given) (have : HaveParents (next (publishing publisher) x) (next (publishing publisher) x)) where
  abbrev after : Tables
  after = next (publishing publisher) x

  published_there : (r : ReleaseRow) → publication (publishing publisher) x ≡ Some r → IsSome (notice_at r.notice after)
  published_there r one =
      let done : Tables = after_puts (effect office_readings x) x.before in
      let last : after ≡ after_puts (publication_puts (Some r)) done =
      after-append (effect office_readings x) (publication_puts (publication (publishing publisher) x)) x.before ∙ ap (λ p. after_puts (publication_puts p) done) one in
      (have.releases (r.notice, r.seq) r (ap (release_at (r.notice, r.seq)) last ∙ found_put keyed.releases done.releases r)).notice

  merges_of : (p : Option ReleaseRow) → publication (publishing publisher) x ≡ p → AreOfNotices (with_merge x.before p after.compiled) after
  merges_of None none key c is = (have.merges key c is).notice
  merges_of (Some r) one key c is =
      elim (found keyed.compiled after.compiled (merged_row x.before r) key c is) as (λ _. IsSome (notice_at c.notice after)) [
        | inl p ↦ subst (λ (c : CompiledRow). IsSome (notice_at c.notice after)) (sym p.1) (published_there r one)
        | inr p ↦ (have.merges key c p.1).notice
      ]

  of_notices : AreOfNotices (next_with_merges publisher x).compiled after
  of_notices =
      subst (λ merges. AreOfNotices merges after)
      (sym (ap (λ (u : Tables). u.compiled) (after-append (puts_of (publishing publisher) x) (merge_puts x.before (publication (publishing publisher) x)) x.before)
      ∙ put_beside x.before (publication (publishing publisher) x) after))
      (merges_of (publication (publishing publisher) x) refl)

pub reaches : ChangesKeepOrder → TablesAreInOrder → ParentsAreThere → StepsReach → KeptStepsReach
reaches keep sorted parents steps publisher xs x reached given allowed = record {
  reached = reached;
  given = given;
  allowed = allowed;
  merges = (next_with_merges publisher x).compiled;
  in_order = (keep (kept_puts publisher x) x.before (sorted (publishing publisher) xs x.before reached)).compiled;
  of_notices = of_notices publisher x (parents (publishing publisher) (x ∷ xs) (next (publishing publisher) x) (steps (publishing publisher) xs x reached given allowed));
  is = merges_stand_beside publisher x;
}

-- if the specification's own changes put no merge
module _ (publisher : Publisher) (x : Given) (no_merge : (next (publishing publisher) x).compiled ≡ x.before.compiled) where
  abbrev means : Means
  means = publishing publisher

  abbrev kept : Tables
  kept = next_with_merges publisher x

  merges_are : kept.compiled ≡ with_merge x.before (publication means x) x.before.compiled
  merges_are =
      ap (λ (u : Tables). u.compiled) (after-append (puts_of means x) (merge_puts x.before (publication means x)) x.before)
      ∙ put_beside x.before (publication means x) (next means x)
      ∙ ap (with_merge x.before (publication means x)) no_merge

  module _ (keeps : KeepsReleases x.before)
      (releases : (n : List ℕ) → releases_of_notice n kept ≡ releases_of_notice n x.before ++ published_of means x n) where
    quiet : publication means x ≡ None → KeepsReleases kept
    quiet none = record { releases = λ n. subst (All CanBeMerged) (sym (same n)) (keeps.releases n); merged = merged }
      where
        same : (n : List ℕ) → releases_of_notice n kept ≡ releases_of_notice n x.before
        same n =
            releases n ∙ ap (λ p. releases_of_notice n x.before ++ filter (λ (r : ReleaseRow). same_id r.notice n) (option_to_list p)) none
            ∙ append-nil (releases_of_notice n x.before)

        merges : kept.compiled ≡ x.before.compiled
        merges = merges_are ∙ ap (λ p. with_merge x.before p x.before.compiled) none

        merged : AreMerged kept
        merged n c found =
            subst (λ rows. KeepsMerge c.text (map body_in rows)) (sym (same n)) (keeps.merged n c (ap (λ rows. find_compiled rows n) (sym merges) ∙ found))

    more : (r : ReleaseRow) → CanBeMerged r → (b : Bool) → All CanBeMerged (cond b (r ∷ []) [])
    more r can true = All-cons CanBeMerged r [] can (All-nil CanBeMerged)
    more r can false = All-nil CanBeMerged

    published : (r : ReleaseRow) → publication means x ≡ Some r → PublicationReadsBack publisher x → KeepsReleases kept
    published r one back = record {
      releases = λ n.
          subst (All CanBeMerged) (sym (now n))
          (All-append CanBeMerged (releases_of_notice n x.before) (filter (λ (r : ReleaseRow). same_id r.notice n) (r ∷ [])) (keeps.releases n)
          (more r (back r one).release (same_id r.notice n)));
      merged =
          merges_stay x.before kept r (merged_row x.before r)
          (record {
            releases = now;
            compiled = merges_are ∙ ap (λ p. with_merge x.before p x.before.compiled) one;
            merge = record { of_notice = refl; keeps = (back r one).merge };
          })
          keeps.merged;
    }
      where
        now : (n : List ℕ) → releases_of_notice n kept ≡ releases_of_notice n x.before ++ filter (λ (r : ReleaseRow). same_id r.notice n) (r ∷ [])
        now n = releases n ∙ ap (λ p. releases_of_notice n x.before ++ filter (λ (r : ReleaseRow). same_id r.notice n) (option_to_list p)) one

    kept_by : (p : Option ReleaseRow) → publication means x ≡ p → PublicationReadsBack publisher x → KeepsReleases kept
    kept_by None e back = quiet e
    kept_by (Some r) e back = published r e back

pub stays : KeptStepsReach → ReleasesArePublished → ReleasesStayKept
stays reach published publisher xs x reached given allowed back keeps =
    let releases : (n : List ℕ) → releases_of_notice n (next_with_merges publisher x) ≡ releases_of_notice n x.before ++ published_of (publishing publisher) x n = λ n.
    published (publishing publisher) (x ∷ xs) (next_with_merges publisher x) (reach publisher xs x reached given allowed) n
    ∙ ap (λ rows. rows ++ published_of (publishing publisher) x n) (sym (published (publishing publisher) xs x.before reached n)) in
    kept_by publisher x (next_is (publishing publisher) x (parents_there (publishing publisher) xs x.before reached) allowed).compiled keeps releases (publication (publishing publisher) x) refl back

pub starts : NothingIsKeptAtFirst
unfolding row_at
starts = record { releases = λ n. All-nil CanBeMerged; merged = λ n c found. let none = found in absurd cc }
