-- One new member is merged into the text of an object.
use Rattle.ocds_merge.proofs.Names.{◌≡◌, ℕ, List, [], ◌∷◌, ◌++◌, Bool, true, false, cond, Option, Some, None, refl, sym, ap, ◌∙◌, subst, append_assoc, unwrap_or, quoted, Data, null, boolean, number, string, array, object, Members, no_members, member, items_of, compact_text, members_text, comma_if, is_id_list, scan, IsPlain, step, step_members, step_items, id_list_of, TextIsKept, AreMembersKept, IsOrdered, AllAbove, EndsBefore, no_comma, StandAt, StartsFrom, StartsWith, SameText, Merged}
use Rattle.ocds_merge.specs.Inside.Scan.{between}
use Rattle.ocds_merge.specs.Inside.Splice.{Passed}
use Rattle.ocds_merge.proofs.SpliceLaw.{no_member_here, member_here, no_comma_members, after_member, above_from, with_member, turn_found, turn_absent}

-- ---- the next member

pub value_at : (name left : List ℕ) (ts : Members) (rest m whole value : List ℕ) → StandAt left ts rest → no_comma left ≡ whole → whole ≡ 34 ∷ (m ++ 34 ∷ 58 ∷ value) → IsPlain m
    → m ≡ name → StartsWith name value ts rest
value_at name left no_members rest m whole value h is form plain same = no_member_here rest _ (sym h.stands ∙ is ∙ form)
value_at name left (member k d others) rest m whole value h is form plain same =
    let r = member_here k m value rest d others plain (sym h.stands ∙ is ∙ form) in
    record { old = d; others = others; is = ap (λ (x : List ℕ). member x d others) (r.0 ∙ same); text = r.1 }

pub absent_at : (name left : List ℕ) (ts : Members) (rest m whole value : List ℕ) → StandAt left ts rest → no_comma left ≡ whole → whole ≡ 34 ∷ (m ++ 34 ∷ 58 ∷ value) → IsPlain m
    → StartsFrom name ts → (m ≡ name → ⊥) → AllAbove name ts
absent_at name left no_members rest m whole value h is form plain start other = tt
absent_at name left (member k d others) rest m whole value h is form plain start other =
    let r = member_here k m value rest d others plain (sym h.stands ∙ is ∙ form) in
    above_from name k d others h.order start (λ e. other (sym (e ∙ r.0)))

-- ---- a member's turn

array_some : (b : Bool) (x y : Data) → cond b (Some x) (Some y) ≡ Some (unwrap_or (cond b (Some x) (Some y)) null)
array_some true x y = refl
array_some false x y = refl

pub step_some : (t : Option Data) (v : Data) → (v ≡ null → ⊥) → step t v ≡ Some (unwrap_or (step t v) null)
step_some t null h = absurd (h refl)
step_some t (boolean b) h = refl
step_some t (number n) h = refl
step_some t (string s) h = refl
step_some t (array ds) h = array_some (is_id_list ds) (array (items_of (step_items (id_list_of t) ds))) (array ds)
step_some t (object ms) h = refl

pub others_above : (name value left : List ℕ) (ts : Members) (rest : List ℕ) (w : StartsWith name value ts rest) → StandAt left ts rest → AllAbove name w.others
others_above name value left ts rest w h = (subst IsOrdered w.is h.order).0

pub old_kept : (name value left : List ℕ) (ts : Members) (rest : List ℕ) (w : StartsWith name value ts rest) → StandAt left ts rest → TextIsKept w.old
old_kept name value left ts rest w h = (subst AreMembersKept w.is h.kept).0

-- the text after the old value of the name
pub past_old : (name value left : List ℕ) (ts : Members) (rest : List ℕ) (w : StartsWith name value ts rest) → StandAt left ts rest → (after : List ℕ) → after ≡ members_text true w.others ++ rest
    → StandAt after w.others rest
past_old name value left ts rest w h after goes = record {
  stands = ap no_comma goes ∙ no_comma_members true w.others rest;
  order = (subst IsOrdered w.is h.order).1;
  kept = (subst AreMembersKept w.is h.kept).1;
}

pub old_passed : (name value left : List ℕ) (ts : Members) (rest : List ℕ) (w : StartsWith name value ts rest) → StandAt left ts rest → scan 0 between value ≡ members_text true w.others ++ rest
old_passed name value left ts rest w h = after_member w.old w.others rest value (old_kept name value left ts rest w h) w.text

found_step : (name value left : List ℕ) (v : Data) (ts ms : Members) (rest : List ℕ) (w : StartsWith name value ts rest) → StandAt left ts rest → AllAbove name ms
    → step_members ts (member name v ms) ≡ with_member name (step (Some w.old) v) (step_members w.others ms)
found_step name value left v ts ms rest w h above =
    ap (λ (x : Members). step_members x (member name v ms)) w.is ∙ turn_found name w.old v w.others ms (others_above name value left ts rest w h) above

pub null_found : (name value left : List ℕ) (v : Data) (ts ms : Members) (rest old : List ℕ) (later : Bool) (w : StartsWith name value ts rest) → StandAt left ts rest → AllAbove name ms → v ≡ null
    → SameText old later (step_members ts (member name v ms)) old later (step_members w.others ms)
null_found name value left v ts ms rest old later w h above is =
    let e : step_members ts (member name v ms) ≡ step_members w.others ms =
    found_step name value left v ts ms rest w h above ∙ ap (λ (x : Data). with_member name (step (Some w.old) x) (step_members w.others ms)) is in
    ap (λ (x : Members). old ++ members_text later x) (sym e)

pub null_absent : (name : List ℕ) (v : Data) (ts ms : Members) (old : List ℕ) (later : Bool) → AllAbove name ts → AllAbove name ms → v ≡ null
    → SameText old later (step_members ts (member name v ms)) old later (step_members ts ms)
null_absent name v ts ms old later lacks above is =
    let e : step_members ts (member name v ms) ≡ step_members ts ms =
    turn_absent name v ts ms lacks above ∙ ap (λ (x : Data). with_member name (step None x) (step_members ts ms)) is in
    ap (λ (x : Members). old ++ members_text later x) (sym e)

grouped : (old comma q e y : List ℕ) → ((old ++ (comma ++ (q ++ 58 ∷ []))) ++ e) ++ y ≡ old ++ (comma ++ (q ++ 58 ∷ (e ++ y)))
grouped old comma q e y = simp append_assoc

written : (name : List ℕ) (x : Data) (after before : Members) (old named new : List ℕ) (later : Bool) → named ≡ old ++ (comma_if later ++ (quoted name ++ 58 ∷ [])) → new ≡ named ++ compact_text x
    → before ≡ member name x after → SameText old later before new true after
written name x after before old named new later a b is =
    ap (λ (s : List ℕ). s ++ members_text true after) (b ∙ ap (λ (s : List ℕ). s ++ compact_text x) a)
    ∙ grouped old (comma_if later) (quoted name) (compact_text x) (members_text true after)
    ∙ ap (λ (r : Members). old ++ members_text later r) (sym is)

pub some_found : (name value left : List ℕ) (v : Data) (ts ms : Members) (rest old named new : List ℕ) (later : Bool) (w : StartsWith name value ts rest) → StandAt left ts rest → AllAbove name ms
    → (v ≡ null → ⊥) → named ≡ old ++ (comma_if later ++ (quoted name ++ 58 ∷ [])) → new ≡ named ++ compact_text (unwrap_or (step (Some w.old) v) null)
    → SameText old later (step_members ts (member name v ms)) new true (step_members w.others ms)
some_found name value left v ts ms rest old named new later w h above some a b =
    written name (unwrap_or (step (Some w.old) v) null) (step_members w.others ms) _ old named new later a b
    (found_step name value left v ts ms rest w h above ∙ ap (λ (o : Option Data). with_member name o (step_members w.others ms)) (step_some (Some w.old) v some))

pub some_absent : (name : List ℕ) (v : Data) (ts ms : Members) (old named new : List ℕ) (later : Bool) → AllAbove name ts → AllAbove name ms
    → (v ≡ null → ⊥) → named ≡ old ++ (comma_if later ++ (quoted name ++ 58 ∷ [])) → new ≡ named ++ compact_text (unwrap_or (step None v) null)
    → SameText old later (step_members ts (member name v ms)) new true (step_members ts ms)
some_absent name v ts ms old named new later lacks above some a b =
    written name (unwrap_or (step None v) null) (step_members ts ms) _ old named new later a b
    (turn_absent name v ts ms lacks above ∙ ap (λ (o : Option Data). with_member name o (step_members ts ms)) (step_some None v some))

-- ---- the members, one after another

pub merged_none : (text : List ℕ) (ts ms : Members) (rest old new : List ℕ) → new ≡ old → TextIsKept (object ts) → text ≡ members_text false ts ++ rest → Merged ts ms rest old text new false ms
merged_none text ts ms rest old new e kept is = record {
  others = ts;
  stand = record { stands = ap no_comma is ∙ no_comma_members false ts rest; order = kept.0; kept = kept.1 };
  same = ap (λ (s : List ℕ). s ++ members_text false (step_members ts ms)) e;
}

pub merged_one : (name : List ℕ) (v : Data) (ts all ms : Members) (rest old left new : List ℕ) (more : Bool) (left' new' : List ℕ) (more' : Bool) (left'' new'' : List ℕ) (more'' : Bool)
    → (m : Merged ts all rest old left new more (member name v ms)) → AllAbove name ms
    → ((d : Data) (ps os : Members) (r : List ℕ) → StandAt left os r → AllAbove name ps → (done : Passed name d ps os r new more left' new' more') × StartsFrom name done.others)
    → ((ps os : Members) (r : List ℕ) → StandAt left' os r → StartsFrom name os → AllAbove name ps
    → (others : Members) × StandAt left'' others r × SameText new' more' (step_members os (member name v ps)) new'' more'' (step_members others ps))
    → Merged ts all rest old left'' new'' more'' ms
merged_one name v ts all ms rest old left new more left' new' more' left'' new'' more'' m above passes merges =
    let p = passes v ms m.others rest m.stand above in
    let r = merges ms p.0.others rest p.0.stand p.1 above in
    record { others = r.0; stand = r.1; same = r.2 ∙ p.0.same ∙ m.same }

pub merged_all : (ts ms : Members) (rest first old left new : List ℕ) (more : Bool) (left' new' : List ℕ) → Merged ts ms rest old left new more no_members → old ≡ first ++ 123 ∷ [] → EndsBefore rest
    → ((os : Members) (r : List ℕ) → StandAt left os r → EndsBefore r → (left' ≡ r) × (new' ≡ new ++ members_text more os))
    → (left' ≡ rest) × (new' ≡ first ++ 123 ∷ members_text false (step_members ts ms))
merged_all ts ms rest first old left new more left' new' m is ends copies =
    let r = copies m.others rest m.stand ends in
    (r.0, r.1 ∙ m.same ∙ ap (λ (s : List ℕ). s ++ members_text false (step_members ts ms)) is ∙ append_assoc first (123 ∷ []) (members_text false (step_members ts ms)))
