use Rattle.office_store.proofs.Names.{rules, arith, ◌≡◌, refl, sym, subst, inl, inr, [], true, false, IsTrue, nat_lt, state, SqlInputError, HasCleanDisk, IsLive, survives_then, edition_of, has_late, IsRefusal, this_version, get_version, Enters, version_in, is_other_version, takes_a_name, LeavesOffice}
use Rattle.office_store.proofs.Causes.{hindered, refused_so}
use Rattle.office_store.proofs.Founding.{sound_after, founded_after, leaves_before, refused_on, shown_is_left}
use Rattle.office_store.proofs.Migrating.{late_committed, leaves_readied_before, readied_after, readied_enters, readied_shows, never_other, shown_version}
use Rattle.office_store.proofs.found.enter.Goals as goal

pub returns-in-Ok-ready-clause-enters : goal.returns-in-Ok-ready-clause-enters
returns-in-Ok-ready-clause-enters g c clean =
    let held = c.args.conn.now in
    let old = state g.S.Store held in
    let mid = state g.S.Store c.ask_version.new.conn in
    let end = state g.S.Store c.ready.new.conn in
    let early : HasCleanDisk mid = omega (arith, clean, c.ready.ensures.survives.clean) in
    let known : is_other_version c.in-Ok.rows.items ≡ false = search rules in
    let edition = c.edition_of-edition.result in
    let is : edition_of (version_in c.in-Ok.rows.items) (has_late held.schema) ≡ edition = search rules in
    let readied = readied_after (nat_lt edition this_version) edition old mid end (c.ask_version.ensures.kept early) (c.in-Ok-ready.ensures.readied clean) in
    subst (λ o. Enters g.S.Store o held c.ready.new.conn) (sym c.origin_of.ensures.is)
    (readied_enters g.S.Store held c.ready.new.conn c.in-Ok.rows.items (c.in-Ok.ensures.asked early) known edition is (nat_lt edition this_version) refl readied)

pub returns-in-Ok-ready-clause-found : goal.returns-in-Ok-ready-clause-found
returns-in-Ok-ready-clause-found g c clean t shows =
    let held = c.args.conn.now in
    let old = state g.S.Store held in
    let mid = state g.S.Store c.ask_version.new.conn in
    let end = state g.S.Store c.ready.new.conn in
    let early : HasCleanDisk mid = omega (arith, clean, c.ready.ensures.survives.clean) in
    let settled : IsTrue old.is_open → old.now ≡ old.committed = search rules in
    let edition = c.edition_of-edition.result in
    let is : edition_of (version_in c.in-Ok.rows.items) (has_late held.schema) ≡ edition = search rules in
    let was_open = (c.in-Ok.ensures.asked early).was_open in
    let readied = readied_after (nat_lt edition this_version) edition old mid end (c.ask_version.ensures.kept early) (c.in-Ok-ready.ensures.readied clean) in
    readied_shows g.S.Store held c.in-Ok.rows.items (λ n clock so. c.in-Ok.ensures.one early n clock so) edition is (late_committed g.S.Store held settled was_open) end t shows was_open readied

pub returns-in-Ok-ready-clause-sound : goal.returns-in-Ok-ready-clause-sound
returns-in-Ok-ready-clause-sound g c clean =
    shown_is_left (state g.S.Store c.ready.new.conn) (c.in-Ok-ready.ensures.is_open clean) (λ open_now db leaves. g.met.S.Store.settled c.ready.new.conn.store db open_now leaves)

pub returns-in-Ok-ready-clause-survives : goal.returns-in-Ok-ready-clause-survives
returns-in-Ok-ready-clause-survives g c =
    let old = state g.S.Store c.args.conn.now in
    let mid = state g.S.Store c.ask_version.new.conn in
    let known : is_other_version c.in-Ok.rows.items ≡ false = search rules in
    let edition = c.edition_of-edition.result in
    let is : edition_of (version_in c.in-Ok.rows.items) (has_late c.args.conn.now.schema) ≡ edition = search rules in
    survives_then old mid (state g.S.Store c.ready.new.conn) _ _ (LeavesOffice g.S.Store c.args.conn.now) (λ _ db none. absurd none)
    (λ clean db leaves.
    let early : HasCleanDisk mid = omega (arith, clean, c.ready.ensures.survives.clean) in
    leaves_readied_before g.S.Store c.args.conn.now c.ask_version.new.conn c.in-Ok.rows.items edition db (c.in-Ok.ensures.asked early) known is (c.ask_version.ensures.kept early) leaves)
    c.ask_version.ensures.survives c.ready.ensures.survives

pub returns-in-Ok-clause-kept : goal.returns-in-Ok-clause-kept
returns-in-Ok-clause-kept g c clean =
    let mid = state g.S.Store c.ask_version.new.conn in
    let early : HasCleanDisk mid = omega (arith, clean, c.ready.ensures.survives.clean) in
    refused_on (state g.S.Store c.args.conn.now) mid (state g.S.Store c.ready.new.conn) (c.ask_version.ensures.kept early) (c.in-Err-ready.ensures.kept clean)

pub returns-in-Ok-clause-survives : goal.returns-in-Ok-clause-survives
returns-in-Ok-clause-survives g c =
    let old = state g.S.Store c.args.conn.now in
    let mid = state g.S.Store c.ask_version.new.conn in
    let known : is_other_version c.in-Ok.rows.items ≡ false = search rules in
    let edition = c.edition_of-edition.result in
    let is : edition_of (version_in c.in-Ok.rows.items) (has_late c.args.conn.now.schema) ≡ edition = search rules in
    survives_then old mid (state g.S.Store c.ready.new.conn) _ _ (LeavesOffice g.S.Store c.args.conn.now) (λ _ db none. absurd none)
    (λ clean db leaves.
    let early : HasCleanDisk mid = omega (arith, clean, c.ready.ensures.survives.clean) in
    leaves_readied_before g.S.Store c.args.conn.now c.ask_version.new.conn c.in-Ok.rows.items edition db (c.in-Ok.ensures.asked early) known is (c.ask_version.ensures.kept early) leaves)
    c.ask_version.ensures.survives c.ready.ensures.survives

pub returns-then-is_other_version-clause-none : goal.returns-then-is_other_version-clause-none
returns-then-is_other_version-clause-none g c clean why =
    let other : is_other_version c.in-Ok.rows.items ≡ true = search rules in
    inl (c.in-Ok.rows.items, c.in-Ok.ensures.asked clean, other)

pub returns-then-is_other_version-clause-known : goal.returns-then-is_other_version-clause-known
returns-then-is_other_version-clause-known g c clean t shows why =
    let other : is_other_version c.in-Ok.rows.items ≡ true = search rules in
    never_other g.S.Store c.args.conn.now c.in-Ok.rows.items (λ n clock is. c.in-Ok.ensures.one clean n clock is) t shows (c.in-Ok.ensures.asked clean).was_open other

pub returns-then-taken-clause-none : goal.returns-then-taken-clause-none
returns-then-taken-clause-none g c clean why =
    let taken : takes_a_name c.args.conn.now.schema ≡ true = search rules in
    let input : c.in-Err-SqlInputError.field-0 ≡ SqlInputError c.in-Err-SqlInputError.field-0-0 = search rules in
    inr ((c.in-Err-SqlInputError.field-0-0, subst (IsRefusal g.S.Store get_version [] c.args.conn.now) input (c.in-Err-SqlInputError.ensures.refused clean)), taken)

pub returns-then-taken-clause-known : goal.returns-then-taken-clause-known
returns-then-taken-clause-known g c clean t shows why =
    let input : c.in-Err-SqlInputError.field-0 ≡ SqlInputError c.in-Err-SqlInputError.field-0-0 = search rules in
    shown_version g.S.Store c.args.conn.now t shows (λ n clock is. c.in-Err-SqlInputError.ensures.taken clean n clock is c.in-Err-SqlInputError.field-0-0 input)

pub returns-in-Ok-found-clause-enters : goal.returns-in-Ok-found-clause-enters
returns-in-Ok-found-clause-enters g c clean =
    let old = state g.S.Store c.args.conn.now in
    let mid = state g.S.Store c.ask_version.new.conn in
    let end = state g.S.Store c.found.new.conn in
    let early : HasCleanDisk mid = omega (arith, c.found.ensures.survives.clean) in
    let kept = c.ask_version.ensures.kept early in
    let live : IsLive old = search rules in
    let none : takes_a_name c.args.conn.now.schema ≡ false = search rules in
    let input : c.in-Err-SqlInputError.field-0 ≡ SqlInputError c.in-Err-SqlInputError.field-0-0 = search rules in (
      (c.in-Err-SqlInputError.field-0-0, subst (IsRefusal g.S.Store get_version [] c.args.conn.now) input (c.in-Err-SqlInputError.ensures.refused early)),
      none,
      founded_after old mid end kept (c.in-Ok-found.ensures.founded clean (sound_after old mid kept live)),
    )

pub returns-in-Ok-found-clause-is_open : goal.returns-in-Ok-found-clause-is_open
returns-in-Ok-found-clause-is_open g c clean =
    let mid = state g.S.Store c.ask_version.new.conn in
    let early : HasCleanDisk mid = omega (arith, clean, c.found.ensures.survives.clean) in
    let live : IsLive (state g.S.Store c.args.conn.now) = search rules in
    (c.in-Ok-found.ensures.founded clean (sound_after (state g.S.Store c.args.conn.now) mid (c.ask_version.ensures.kept early) live)).is_open

pub returns-in-Ok-found-clause-sound : goal.returns-in-Ok-found-clause-sound
returns-in-Ok-found-clause-sound g c clean =
    let mid = state g.S.Store c.ask_version.new.conn in
    let early : HasCleanDisk mid = omega (arith, clean, c.found.ensures.survives.clean) in
    let live : IsLive (state g.S.Store c.args.conn.now) = search rules in
    shown_is_left (state g.S.Store c.found.new.conn) (c.in-Ok-found.ensures.founded clean (sound_after (state g.S.Store c.args.conn.now) mid (c.ask_version.ensures.kept early) live)).is_open
    (λ open_now db leaves. g.met.S.Store.settled c.found.new.conn.store db open_now leaves)

pub returns-in-Ok-found-clause-found : goal.returns-in-Ok-found-clause-found
returns-in-Ok-found-clause-found g c clean t shows =
    let early : HasCleanDisk (state g.S.Store c.ask_version.new.conn) = omega (arith, c.found.ensures.survives.clean) in
    let input : c.in-Err-SqlInputError.field-0 ≡ SqlInputError c.in-Err-SqlInputError.field-0-0 = search rules in
    absurd (shown_version g.S.Store c.args.conn.now t shows (λ n clock is. c.in-Err-SqlInputError.ensures.taken early n clock is c.in-Err-SqlInputError.field-0-0 input))

pub returns-in-Ok-found-clause-survives : goal.returns-in-Ok-found-clause-survives
returns-in-Ok-found-clause-survives g c =
    let old = state g.S.Store c.args.conn.now in
    let mid = state g.S.Store c.ask_version.new.conn in
    let end = state g.S.Store c.found.new.conn in
    let live : IsLive old = search rules in
    let none : takes_a_name c.args.conn.now.schema ≡ false = search rules in
    let input : c.in-Err-SqlInputError.field-0 ≡ SqlInputError c.in-Err-SqlInputError.field-0-0 = search rules in
    survives_then old mid end _ _ (LeavesOffice g.S.Store c.args.conn.now) (λ _ db none. absurd none)
    (λ clean db leaves.
    let early : HasCleanDisk mid = omega (arith, clean, c.found.ensures.survives.clean) in
    let kept = c.ask_version.ensures.kept early in
    leaves_before g.S.Store c.args.conn.now c.ask_version.new.conn db
    (c.in-Err-SqlInputError.field-0-0, subst (IsRefusal g.S.Store get_version [] c.args.conn.now) input (c.in-Err-SqlInputError.ensures.refused early)) none kept (sound_after old mid kept live) leaves)
    c.ask_version.ensures.survives c.found.ensures.survives

pub returns-in-Err-SqlInputError-clause-survives : goal.returns-in-Err-SqlInputError-clause-survives
returns-in-Err-SqlInputError-clause-survives g c =
    let old = state g.S.Store c.args.conn.now in
    let mid = state g.S.Store c.ask_version.new.conn in
    let end = state g.S.Store c.found.new.conn in
    let live : IsLive old = search rules in
    let none : takes_a_name c.args.conn.now.schema ≡ false = search rules in
    let input : c.in-Err-SqlInputError.field-0 ≡ SqlInputError c.in-Err-SqlInputError.field-0-0 = search rules in
    survives_then old mid end _ _ (LeavesOffice g.S.Store c.args.conn.now) (λ _ db none. absurd none)
    (λ clean db leaves.
    let early : HasCleanDisk mid = omega (arith, clean, c.found.ensures.survives.clean) in
    let kept = c.ask_version.ensures.kept early in
    leaves_before g.S.Store c.args.conn.now c.ask_version.new.conn db
    (c.in-Err-SqlInputError.field-0-0, subst (IsRefusal g.S.Store get_version [] c.args.conn.now) input (c.in-Err-SqlInputError.ensures.refused early)) none kept (sound_after old mid kept live) leaves)
    c.ask_version.ensures.survives c.found.ensures.survives

pub returns-in-Ok-clause-failed : goal.returns-in-Ok-clause-failed
returns-in-Ok-clause-failed g c clean =
    let held = c.args.conn.now in
    let mid = c.ask_version.new.conn in
    let early : HasCleanDisk (state g.S.Store mid) = omega (arith, clean, c.ready.ensures.survives.clean) in
    let known : is_other_version c.in-Ok.rows.items ≡ false = search rules in
    let edition = c.edition_of-edition.result in
    let is : edition_of (version_in c.in-Ok.rows.items) (has_late held.schema) ≡ edition = search rules in
    hindered g.S.Store held mid c.ready.new.conn c.in-Ok.rows.items edition c.in-Err-ready.fault (c.in-Ok.ensures.asked early) known is early (c.ask_version.ensures.kept early)
    c.ask_version.ensures.survives c.ask_version.ensures.ended c.ready.ensures.survives.counts (c.in-Err-ready.ensures.failed clean)

pub returns-in-Err-SqlInputError-clause-failed : goal.returns-in-Err-SqlInputError-clause-failed
returns-in-Err-SqlInputError-clause-failed g c clean store was alone =
    let mid = state g.S.Store c.ask_version.new.conn in
    let early : HasCleanDisk mid = omega (arith, clean, c.found.ensures.survives.clean) in
    let none : takes_a_name c.args.conn.now.schema ≡ false = search rules in
    let input : c.in-Err-SqlInputError.field-0 ≡ SqlInputError c.in-Err-SqlInputError.field-0-0 = search rules in
    inr (inr (inr ((c.in-Err-SqlInputError.field-0-0, subst (IsRefusal g.S.Store get_version [] c.args.conn.now) input (c.in-Err-SqlInputError.ensures.refused early)), none)))

pub returns-then-not-may_make-clause-failed : goal.returns-then-not-may_make-clause-failed
returns-then-not-may_make-clause-failed g c clean store was alone =
    let none : takes_a_name c.args.conn.now.schema ≡ false = search rules in
    let input : c.in-Err-SqlInputError.field-0 ≡ SqlInputError c.in-Err-SqlInputError.field-0-0 = search rules in
    inr (inr (inr ((c.in-Err-SqlInputError.field-0-0, subst (IsRefusal g.S.Store get_version [] c.args.conn.now) input (c.in-Err-SqlInputError.ensures.refused clean)), none)))

pub returns-clause-failed : goal.returns-clause-failed
returns-clause-failed g c clean =
    refused_so g.S.Store c.args.conn.now c.ask_version.new.conn c.in-Err.error c.open_fault-in-Err.result (c.in-Err.ensures.failed clean) c.open_fault-in-Err.ensures.is
