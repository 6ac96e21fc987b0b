-- A command puts its own rows, the clock and, if it publishes, its notice with one release more. It puts no release and no merge.
use Rattle.office_machine.proofs.Names.{[], ◌≡◌, ℕ, ◌+◌, ◌≤◌, ◌<◌, Bool, true, false, List, ◌∷◌, ◌++◌, map, filter, Option, Some, None, option_map, nat_le, refl, sym, ◌∙◌, ap, subst, arith, option_and_then, nat_tests, Command, Sign, End, ContractRow, with_next_release, has_all_releases, security_returned, is_held_security, securities_returned, settled_performance, put_if, notice_of_contract, contract_at, Tables, put_notice, put_performance, notice_at, award_at, performance_at, after_put, after_puts, release_limit, NoticeRow, SecurityRow, AwardRow, PerformanceRow, ClockRow, Put, ended_state, releases_in, found_key}
use Rattle.office_base.specs.declared.puts.Put.TheVariants as puts
use Rattle.award_core.specs.Rules.Sign.{performance_made}
use Rattle.office_machine.proofs.Parents.SpokenOf.{OfContract}
use Rattle.office_machine.proofs.Accounts.Aside.{after-append}
use Rattle.office_machine.proofs.Commands.Footprint.{TableName, Notices, Securities, Releases, Merges, Performances, Clock, IsOn, AreOn, on-append, on-wider, on-map, on-if, is_in, leaves}
use Rattle.office_machine.proofs.Rows.Keyed as keyed

-- the tables of a command's own rows: those that it names, except notices, releases, merges, performance securities and the clock
abbrev pub is_own : List TableName → TableName → Bool
is_own names Notices = false
is_own names Releases = false
is_own names Merges = false
is_own names Clock = false
is_own names Performances = false
is_own names name = is_in names name

-- the tables that a command names, and the clock
abbrev pub is_touched : List TableName → TableName → Bool
is_touched names Clock = true
is_touched names Releases = false
is_touched names Merges = false
is_touched names name = is_in names name

own_touched : (names : List TableName) (name : TableName) → is_own names name ≡ true → is_touched names name ≡ true
own_touched names Notices own = cc
own_touched names Clock own = refl
own_touched names Performances own = cc
own_touched names _ own = own

on_touched : (names : List TableName) (ps : List Put) → AreOn (is_own names) ps → AreOn (is_touched names) ps
on_touched names ps own = on-wider (is_own names) (is_touched names) (own_touched names) ps own

abbrev pub with_notice : Option NoticeRow → List NoticeRow → List NoticeRow
with_notice None rows = rows
with_notice (Some n) rows = put_notice rows n

abbrev pub with_performance : Option PerformanceRow → List PerformanceRow → List PerformanceRow
with_performance None rows = rows
with_performance (Some w) rows = put_performance rows w

-- these puts lead to these notices, this clock and these performance securities
pub record Writes (ps : List Put) (notice : Option NoticeRow) (clock : ClockRow) (bond : Option PerformanceRow) : Type 0 where
  pub notices : (u : Tables) → (after_puts ps u).notices ≡ with_notice notice u.notices
  pub clock_is : (u : Tables) → (after_puts ps u).clock ≡ clock
  pub performances : (u : Tables) → (after_puts ps u).performances ≡ with_performance bond u.performances

-- a notice that existed asks for the performance security that it asked for
abbrev pub AsksAsBefore : Option NoticeRow → NoticeRow → Type 0
AsksAsBefore None row = Unit {0}
AsksAsBefore (Some n) row = row.performance ≡ n.performance

-- a command that publishes puts its notice with one release more, within the limit, and with the earlier performance security; any other command puts no notice
abbrev pub CountsNext : Tables → Option (List ℕ) → Option NoticeRow → Type 0
CountsNext s None None = Unit {0}
CountsNext s (Some key) (Some row) = (row.notice ≡ key) × (row.releases ≡ releases_in (notice_at key s) + 1) × (row.releases ≤ release_limit) × AsksAsBefore (notice_at key s) row
CountsNext s key notice = ⊥

-- the performance security that a command puts
abbrev pub bond_for : Tables → Command → Option PerformanceRow
bond_for s (Sign award named) = option_and_then (λ (w : AwardRow). option_map (performance_made w) named) (award_at award s)
bond_for s (End contract how) = option_map (settled_performance (ended_state how)) (performance_at contract s)
bond_for s command = None

-- the puts are of the named tables, the counted notice if the command publishes, a performance security if there is one, and the clock
pub record HasTail (s : Tables) (t : ℕ) (names : List TableName) (key : Option (List ℕ)) (bond : Option PerformanceRow) (ps : List Put) : Type 0 where
  pub notice : Option NoticeRow
  pub clock : ClockRow
  pub writes : Writes ps notice clock bond
  pub moment : clock.moment ≡ t
  pub counts : CountsNext s key notice
  pub drawn : s.clock.awards ≤ clock.awards
  pub touched : AreOn (is_touched names) ps

pub moved : {s : Tables} {t : ℕ} {names : List TableName} {key key' : Option (List ℕ)} {bond : Option PerformanceRow} {ps ps' : List Put} → key' ≡ key → ps' ≡ ps → HasTail s t names key bond ps → HasTail s t names key' bond ps'
moved {s = s} {t = t} {names = names} {key = key} {key' = key'} {bond = bond} {ps = ps} {ps' = ps'} k p h = subst (λ k. HasTail s t names k bond ps') (sym k) (subst (λ p. HasTail s t names key bond p) (sym p) h)

pub bound : {s : Tables} {t : ℕ} {names : List TableName} {key : Option (List ℕ)} {bond bond' : Option PerformanceRow} {ps : List Put} → bond' ≡ bond → HasTail s t names key bond ps → HasTail s t names key bond' ps
bound {s = s} {t = t} {names = names} {key = key} {ps = ps} b h = subst (λ b. HasTail s t names key b ps) (sym b) h

-- own rows may be put first
pub front : {s : Tables} {t : ℕ} {names : List TableName} {key : Option (List ℕ)} {bond : Option PerformanceRow} {ps : List Put} (fs : List Put) → AreOn (is_own names) fs → HasTail s t names key bond ps → HasTail s t names key bond (fs ++ ps)
front {names = names} {bond = bond} {ps = ps} fs own h = record {
  notice = h.notice;
  clock = h.clock;
  writes = record {
    notices = λ u. ap (λ (v : Tables). v.notices) (after-append fs ps u) ∙ h.writes.notices (after_puts fs u) ∙ ap (with_notice h.notice) ((leaves (is_own names) fs u own).notices refl);
    clock_is = λ u. ap (λ (v : Tables). v.clock) (after-append fs ps u) ∙ h.writes.clock_is (after_puts fs u);
    performances = λ u. ap (λ (v : Tables). v.performances) (after-append fs ps u) ∙ h.writes.performances (after_puts fs u) ∙ ap (with_performance bond) ((leaves (is_own names) fs u own).performances refl);
  };
  moment = h.moment;
  counts = h.counts;
  drawn = h.drawn;
  touched = on-append (is_touched names) fs ps (on_touched names fs own) h.touched;
}

pub front_map : {s : Tables} {t : ℕ} {names : List TableName} {key : Option (List ℕ)} {bond : Option PerformanceRow} {ps : List Put} {X : Type 0} (make : X → Put) (xs : List X)
    → ((x : X) → IsOn (is_own names) (make x)) → HasTail s t names key bond ps → HasTail s t names key bond (map make xs ++ ps)
front_map {names = names} make xs own h = front (map make xs) (on-map (is_own names) make xs own) h

-- own rows may be put last
pub back : {s : Tables} {t : ℕ} {names : List TableName} {key : Option (List ℕ)} {bond : Option PerformanceRow} {ps : List Put} (rest : List Put) → AreOn (is_own names) rest → HasTail s t names key bond ps → HasTail s t names key bond (ps ++ rest)
back {names = names} {ps = ps} rest own h = record {
  notice = h.notice;
  clock = h.clock;
  writes = record {
    notices = λ u. ap (λ (v : Tables). v.notices) (after-append ps rest u) ∙ (leaves (is_own names) rest (after_puts ps u) own).notices refl ∙ h.writes.notices u;
    clock_is = λ u. ap (λ (v : Tables). v.clock) (after-append ps rest u) ∙ (leaves (is_own names) rest (after_puts ps u) own).clock refl ∙ h.writes.clock_is u;
    performances = λ u. ap (λ (v : Tables). v.performances) (after-append ps rest u) ∙ (leaves (is_own names) rest (after_puts ps u) own).performances refl ∙ h.writes.performances u;
  };
  moment = h.moment;
  counts = h.counts;
  drawn = h.drawn;
  touched = on-append (is_touched names) ps rest h.touched (on_touched names rest own);
}

-- a performance security may be put last
abbrev pub is_bond : TableName → Bool
is_bond Performances = true
is_bond name = false

pub bonded : {s : Tables} {t : ℕ} {names : List TableName} {key : Option (List ℕ)} {ps : List Put} {X : Type 0} (make : X → PerformanceRow) (o : Option X) → is_in names Performances ≡ true → HasTail s t names key None ps
    → HasTail s t names key (option_map make o) (ps ++ put_if (λ x. puts.Performance (make x)) o)
bonded {names = names} {ps = ps} {X = X} make o named h =
    let rest : List Put = put_if (λ x. puts.Performance (make x)) o in
    let on : AreOn is_bond rest = on-if is_bond (λ x. puts.Performance (make x)) o (λ _. refl) in
    record {
      notice = h.notice;
      clock = h.clock;
      writes = record {
        notices = λ u. ap (λ (v : Tables). v.notices) (after-append ps rest u) ∙ (leaves is_bond rest (after_puts ps u) on).notices refl ∙ h.writes.notices u;
        clock_is = λ u. ap (λ (v : Tables). v.clock) (after-append ps rest u) ∙ (leaves is_bond rest (after_puts ps u) on).clock refl ∙ h.writes.clock_is u;
        performances = λ u. ap (λ (v : Tables). v.performances) (after-append ps rest u) ∙ by o (after_puts ps u) ∙ ap (with_performance (option_map make o)) (h.writes.performances u);
      };
      moment = h.moment;
      counts = h.counts;
      drawn = h.drawn;
      touched = on-append (is_touched names) ps rest h.touched (on-if (is_touched names) (λ x. puts.Performance (make x)) o (λ _. named));
    }
  where
    by : (o : Option X) (u : Tables) → (after_puts (put_if (λ x. puts.Performance (make x)) o) u).performances ≡ with_performance (option_map make o) u.performances
    by None u = refl
    by (Some x) u = refl

-- the clock, followed by own rows
pub ending : (names : List TableName) (clock : ClockRow) (rest : List Put) → AreOn (is_own names) rest → Writes (puts.Clock clock ∷ rest) None clock None
ending names clock rest own = record {
  notices = λ u. (leaves (is_own names) rest (after_put (puts.Clock clock) u) own).notices refl;
  clock_is = λ u. (leaves (is_own names) rest (after_put (puts.Clock clock) u) own).clock refl;
  performances = λ u. (leaves (is_own names) rest (after_put (puts.Clock clock) u) own).performances refl;
}

pub quiet : {s : Tables} {t : ℕ} {names : List TableName} (clock : ClockRow) (rest : List Put) → AreOn (is_own names) rest → clock.moment ≡ t → s.clock.awards ≤ clock.awards → HasTail s t names None None (puts.Clock clock ∷ rest)
quiet {names = names} clock rest own moment drawn = record { notice = None; clock = clock; writes = ending names clock rest own; moment = moment; counts = tt; drawn = drawn; touched = (refl, on_touched names rest own) }

-- the counted notice, followed by the clock and own rows
pub counted : {s : Tables} {t : ℕ} {names : List TableName} (key : List ℕ) (row : NoticeRow) (clock : ClockRow) (rest : List Put) → row.notice ≡ key
    → row.releases ≡ releases_in (notice_at key s) + 1 → row.releases ≤ release_limit → AsksAsBefore (notice_at key s) row → is_in names Notices ≡ true → AreOn (is_own names) rest → clock.moment ≡ t → s.clock.awards ≤ clock.awards
    → HasTail s t names (Some key) None (puts.Notice row ∷ puts.Clock clock ∷ rest)
counted {names = names} key row clock rest at more few asked named own moment drawn =
    let tail = ending names clock rest own in
    record {
      notice = Some row;
      clock = clock;
      writes = record {
        notices = λ u. tail.notices (after_put (puts.Notice row) u);
        clock_is = λ u. tail.clock_is (after_put (puts.Notice row) u);
        performances = λ u. tail.performances (after_put (puts.Notice row) u);
      };
      moment = moment;
      counts = (at, more, few, asked);
      drawn = drawn;
      touched = (named, (refl, on_touched names rest own));
    }

-- a notice that existed is counted, followed by the clock and own rows
pub loud : {s : Tables} {t : ℕ} {names : List TableName} (key : List ℕ) (n row : NoticeRow) (clock : ClockRow) (rest : List Put) → notice_at key s ≡ Some n
    → has_all_releases (notice_at key s) ≡ false → row.notice ≡ n.notice → row.releases ≡ n.releases + 1 → row.performance ≡ n.performance → is_in names Notices ≡ true → AreOn (is_own names) rest → clock.moment ≡ t → s.clock.awards ≤ clock.awards
    → HasTail s t names (Some key) None (puts.Notice row ∷ puts.Clock clock ∷ rest)
loud {s = s} key n row clock rest is full same more asked named own moment drawn =
    let few : nat_le release_limit n.releases ≡ false = sym (ap has_all_releases is) ∙ full in
    let under : n.releases < release_limit = grind (arith, nat_tests) in
    let old = ap releases_in is in
    counted key row clock rest (same ∙ found_key keyed.notices s.notices key n is) (omega (arith, more, old)) (omega (arith, more, under)) (subst (λ o. AsksAsBefore o row) (sym is) asked) named own moment drawn

pub returned_own : (names : List TableName) → is_own names Securities ≡ true → (rows : List SecurityRow) → AreOn (is_own names) (securities_returned rows)
returned_own names own rows = on-map (is_own names) security_returned (filter is_held_security rows) (λ _. own)

-- a command on a contract that exists counts the contract's notice
pub on_contract : {s : Tables} {t : ℕ} {names : List TableName} (contract : ℕ) (of : OfContract s contract) → is_in names Notices ≡ true → has_all_releases (notice_of_contract (contract_at contract s) s) ≡ false
    → HasTail s t names (option_map (λ (c : ContractRow). c.notice) (contract_at contract s)) None (puts.Notice (with_next_release of.n) ∷ puts.Clock (record s.clock { moment = t }) ∷ [])
on_contract {s = s} contract of named full =
    moved (ap (option_map (λ (c : ContractRow). c.notice)) of.is) refl
    (loud of.c.notice of.n (with_next_release of.n) _ [] of.notice_is (ap has_all_releases (of.notice_is ∙ sym of.notice) ∙ full) refl refl refl named tt refl (omega arith))
