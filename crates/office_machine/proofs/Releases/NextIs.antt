-- The office after an accepted command: its notices, its clock, its releases and its merges.
use Rattle.office_machine.proofs.Names.{◌≡◌, List, Option, Some, None, refl, ◌∙◌, ap, NoticeRow, ClockRow, ReleaseRow, Tables, put_release, after_puts, Means, Given, refusal_of, time_of, effect, next, publication, publication_puts, HaveParents, published_for}
use Rattle.office_machine.proofs.Accounts.Aside.{after-append}
use Rattle.office_machine.proofs.Commands.{lawful}
use Rattle.office_machine.proofs.Commands.Footprint.{leaves, touches}
use Rattle.office_machine.proofs.Passed.{allowed_by}
use Rattle.office_machine.proofs.Commands.Tail.{CountsNext, is_touched, with_notice}

-- the releases with one more, if there is one
abbrev pub with_release : Option ReleaseRow → List ReleaseRow → List ReleaseRow
with_release None rows = rows
with_release (Some r) rows = put_release rows r

-- the put of a release changes only the releases
record Beside (p : Option ReleaseRow) (u v : Tables) : Type 0 where
  notices : v.notices ≡ u.notices
  clock : v.clock ≡ u.clock
  releases : v.releases ≡ with_release p u.releases
  compiled : v.compiled ≡ u.compiled

published : (p : Option ReleaseRow) (u : Tables) → Beside p u (after_puts (publication_puts p) u)
published None u = record { notices = refl; clock = refl; releases = refl; compiled = refl }
published (Some r) u = record { notices = refl; clock = refl; releases = refl; compiled = refl }

-- the office after an accepted command: its notices, clock, releases and merges
pub record NextIs (means : Means) (x : Given) : Type 0 where
  pub notice : Option NoticeRow
  pub clock : ClockRow
  pub moment : clock.moment ≡ time_of x
  pub counts : CountsNext x.before (published_for x.before x.command) notice
  pub notices : (next means x).notices ≡ with_notice notice x.before.notices
  pub clock_is : (next means x).clock ≡ clock
  pub releases : (next means x).releases ≡ with_release (publication means x) x.before.releases
  pub compiled : (next means x).compiled ≡ x.before.compiled

pub next_is : (means : Means) (x : Given) → HaveParents x.before x.before → refusal_of x ≡ None → NextIs means x
next_is means x have allowed =
    let h = (lawful x.command).tail means.readings x.before x.moment x.caller have (allowed_by x allowed) in
    let apart : next means x ≡ after_puts (publication_puts (publication means x)) (after_puts (effect means.readings x) x.before) =
    after-append (effect means.readings x) (publication_puts (publication means x)) x.before in
    let beside = published (publication means x) (after_puts (effect means.readings x) x.before) in
    record {
      notice = h.notice;
      clock = h.clock;
      moment = h.moment;
      counts = h.counts;
      notices = ap (λ (u : Tables). u.notices) apart ∙ beside.notices ∙ h.writes.notices x.before;
      clock_is = ap (λ (u : Tables). u.clock) apart ∙ beside.clock ∙ h.writes.clock_is x.before;
      releases = ap (λ (u : Tables). u.releases) apart ∙ beside.releases ∙ ap (with_release (publication means x)) ((leaves (is_touched (touches x.command)) (effect means.readings x) x.before h.touched).releases refl);
      compiled = ap (λ (u : Tables). u.compiled) apart ∙ beside.compiled ∙ (leaves (is_touched (touches x.command)) (effect means.readings x) x.before h.touched).compiled refl;
    }
