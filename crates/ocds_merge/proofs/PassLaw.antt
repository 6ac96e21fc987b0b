-- The value at the front of a text, decided by its first byte.
use Rattle.ocds_merge.proofs.Names.{◌≡◌, ◌==◌, ℕ, ◌+◌, ◌-◌, ◌≤◌, suc, List, [], ◌∷◌, ◌++◌, Bool, true, false, Greater, refl, sym, ap, ◌∙◌, subst, arith, length, append_assoc, length-append, IsTrue, escape, quoted, Data, string, array, object, Items, no_items, item, Members, no_members, member, depth, items_depth, members_depth, compact_text, items_text, members_text, comma_if, scan, IsPlain, AllStandForThemselves, TextIsKept, AllAbove, EndsBefore, no_comma, AllAfter, ItemsFrom, MembersFrom, NextMember, PassedItems, PassedMembers}
use Rattle.ocds_merge.specs.Inside.Scan.{between}
use Rattle.ocds_merge.specs.Inside.Readable.{Passed}
use Rattle.ocds_merge.proofs.MemberLemmas.{bytes_cmp}
use Rattle.ocds_merge.proofs.PlainLaw.{plain_escape, plain_of}
use Rattle.ocds_merge.proofs.SpliceLaw.{above_after, below_from_above, group_member, scan-value, scan-members, no_comma_members}

begun : (text after : List ℕ) (first byte : ℕ) → text ≡ first ∷ after → first ≡ byte → text ≡ byte ∷ after
begun text after first byte e is = e ∙ ap (λ (b : ℕ). b ∷ after) is

pub string_passed : (text after rest : List ℕ) (first : ℕ) (s : List ℕ) (deep : ℕ) → text ≡ first ∷ after → first ≡ 34 → after ≡ escape s ++ 34 ∷ rest → Passed text rest deep
string_passed text after rest first s deep e is f = record {
  value = string s;
  kept = tt;
  shallow = omega arith;
  is = begun text after first 34 e is ∙ ap (λ (t : List ℕ). 34 ∷ t) (f ∙ sym (append_assoc (escape s) (34 ∷ []) rest));
}

pub object_passed : (text after rest : List ℕ) (first deep : ℕ) → text ≡ first ∷ after → first ≡ 123 → (deep ≡ 0 → ⊥) → PassedMembers after rest (deep - 1) → Passed text rest deep
object_passed text after rest first deep e is some p = record {
  value = object p.members;
  kept = p.kept;
  shallow = nested (members_depth p.members) deep some p.shallow;
  is = begun text after first 123 e is ∙ ap (λ (t : List ℕ). 123 ∷ t) p.is;
}
  where
    nested : (n deep : ℕ) → (deep ≡ 0 → ⊥) → n ≤ deep - 1 → suc n ≤ deep
    nested n deep some h = omega arith

pub array_passed : (text after rest : List ℕ) (first deep : ℕ) → text ≡ first ∷ after → first ≡ 91 → (deep ≡ 0 → ⊥) → PassedItems after rest (deep - 1) → Passed text rest deep
array_passed text after rest first deep e is some p = record {
  value = array p.items;
  kept = p.kept;
  shallow = nested (items_depth p.items) deep some p.shallow;
  is = begun text after first 91 e is ∙ ap (λ (t : List ℕ). 91 ∷ t) p.is;
}
  where
    nested : (n deep : ℕ) → (deep ≡ 0 → ⊥) → n ≤ deep - 1 → suc n ≤ deep
    nested n deep some h = omega arith

-- an object is passed if its members are, which may nest one level less
pub object_inside : (text after rest : List ℕ) (deep inside : ℕ) → text ≡ 123 ∷ after → deep ≡ inside + 1 → PassedMembers after rest inside → Passed text rest deep
object_inside text after rest deep inside e more p =
    let less : inside ≡ deep - 1 = omega (arith, more) in
    object_passed text after rest 123 deep e refl (λ z. omega (arith, z, more)) (subst (λ (n : ℕ). PassedMembers after rest n) less p)

pub array_inside : (text after rest : List ℕ) (deep inside : ℕ) → text ≡ 91 ∷ after → deep ≡ inside + 1 → PassedItems after rest inside → Passed text rest deep
array_inside text after rest deep inside e more p =
    let less : inside ≡ deep - 1 = omega (arith, more) in
    array_passed text after rest 91 deep e refl (λ z. omega (arith, z, more)) (subst (λ (n : ℕ). PassedItems after rest n) less p)

pub word_passed : (d : Data) (text after rest : List ℕ) (first deep : ℕ) → TextIsKept d → depth d ≤ deep → text ≡ first ∷ after → first ∷ after ≡ compact_text d ++ rest → Passed text rest deep
word_passed d text after rest first deep w low e f = record { value = d; kept = w; shallow = low; is = e ∙ f }

regroup : (a b c r : List ℕ) → a ++ (b ++ (c ++ r)) ≡ (a ++ (b ++ c)) ++ r
regroup a b c r = simp append_assoc

pub item_before : (later : Bool) (d : Data) (ds : Items) (left one after rest : List ℕ) → left ≡ comma_if later ++ one → one ≡ compact_text d ++ after → after ≡ items_text true ds ++ rest
    → left ≡ items_text later (item d ds) ++ rest
item_before later d ds left one after rest a b e =
    a ∙ ap (λ (t : List ℕ). comma_if later ++ t) (b ∙ ap (λ (t : List ℕ). compact_text d ++ t) e) ∙ regroup (comma_if later) (compact_text d) (items_text true ds) rest

pub member_before : (later : Bool) (k : List ℕ) (d : Data) (ms : Members) (left one value after rest : List ℕ) → left ≡ comma_if later ++ one → one ≡ quoted k ++ 58 ∷ value → value ≡ compact_text d ++ after
    → after ≡ members_text true ms ++ rest → left ≡ members_text later (member k d ms) ++ rest
member_before later k d ms left one value after rest a b v e =
    a ∙ ap (λ (t : List ℕ). comma_if later ++ t) (b ∙ ap (λ (t : List ℕ). quoted k ++ 58 ∷ t) (v ∙ ap (λ (t : List ℕ). compact_text d ++ t) e))
    ∙ sym (group_member (comma_if later) (quoted k) (compact_text d) (members_text true ms) rest)

-- a name of bytes without escapes is written as it is
pub name_passed : (text inside after value name : List ℕ) → text ≡ 34 ∷ inside → inside ≡ name ++ 34 ∷ after → AllStandForThemselves name → after ≡ 58 ∷ value → text ≡ quoted name ++ 58 ∷ value
name_passed text inside after value name e f plain h =
    e ∙ ap (λ (t : List ℕ). 34 ∷ t)
    (f ∙ ap (λ (t : List ℕ). name ++ 34 ∷ t) h
    ∙ ap (λ (t : List ℕ). t ++ 34 ∷ 58 ∷ value) (sym (plain_escape name plain))
    ∙ sym (append_assoc (escape name) (34 ∷ []) (58 ∷ value)))

pub plain_passed : (text inside after value name : List ℕ) → text ≡ 34 ∷ inside → inside ≡ name ++ 34 ∷ after → AllStandForThemselves name → after ≡ 58 ∷ value
    → (text ≡ 34 ∷ (name ++ 34 ∷ 58 ∷ value)) × IsPlain name
plain_passed text inside after value name e f plain h = (e ∙ ap (λ (t : List ℕ). 34 ∷ t) (f ∙ ap (λ (t : List ℕ). name ++ 34 ∷ t) h), plain_of name plain)

-- a member whose name comes after the last one, with the members after it
pub in_turn : (later : Bool) (last k : List ℕ) (d : Data) (ms : Members) → (IsTrue later → bytes_cmp k last ≡ Greater) → AllAbove k ms → AllAfter later last (member k d ms)
in_turn false last k d ms h above = tt
in_turn true last k d ms h above =
    let more = h refl in
    let less = below_from_above k last more in
    (less, more, above_after last k ms less above)

pub none_after : (later : Bool) (last : List ℕ) → AllAfter later last no_members
none_after false last = tt
none_after true last = tt

-- no more items or members, but the closing bracket
pub items_over : (text rest : List ℕ) (later : Bool) (deep : ℕ) → text ≡ 93 ∷ rest → ItemsFrom text later rest deep
items_over text rest later deep is = record { items = no_items; kept = tt; shallow = omega arith; is = is }

pub members_over : (text last rest : List ℕ) (later : Bool) (deep : ℕ) → text ≡ 125 ∷ rest → MembersFrom text later last rest deep
members_over text last rest later deep is = record { members = no_members; after = none_after later last; kept = (tt, tt); shallow = omega arith; is = is }

-- one more item, or one more member, at the front
pub item_read : (text one after : List ℕ) (later : Bool) (deep : ℕ) → text ≡ comma_if later ++ one → Passed one after deep → (rest : List ℕ) → ItemsFrom after true rest deep → ItemsFrom text later rest deep
item_read text one after later deep comma v rest m = record {
  items = item v.value m.items;
  kept = (v.kept, m.kept);
  shallow = deeper v.value m.items deep v.shallow m.shallow;
  is = item_before later v.value m.items text one after rest comma v.is m.is;
}
  where
    deeper : (d : Data) (ds : Items) (deep : ℕ) → depth d ≤ deep → items_depth ds ≤ deep → items_depth (item d ds) ≤ deep
    deeper d ds deep low lower = omega arith

pub member_read : (text : List ℕ) (later : Bool) (last name value after : List ℕ) (deep : ℕ) → NextMember text later last name value → Passed value after deep
    → (rest : List ℕ) → MembersFrom after true name rest deep → MembersFrom text later last rest deep
member_read text later last name value after deep n v rest m = record {
  members = member name v.value m.members;
  after = in_turn later last name v.value m.members n.turn m.after;
  kept = ((m.after, m.kept.0), (v.kept, m.kept.1));
  shallow = deeper name v.value m.members deep v.shallow m.shallow;
  is = member_before later name v.value m.members text n.whole value after rest n.comma n.form v.is m.is;
}
  where
    deeper : (k : List ℕ) (d : Data) (ms : Members) (deep : ℕ) → depth d ≤ deep → members_depth ms ≤ deep → members_depth (member k d ms) ≤ deep
    deeper k d ms deep low lower = omega arith

-- the text after a comma that must be there
pub no_comma_at : (later : Bool) (text whole s : List ℕ) (c : ℕ) → text ≡ comma_if later ++ whole → whole ≡ c ∷ s → (c == 44) ≡ false → no_comma text ≡ whole
no_comma_at true text whole s c is form other = ap no_comma is
no_comma_at false text whole s c is form other = ap no_comma (is ∙ form) ∙ led c s other ∙ sym form
  where
    led : (c : ℕ) (s : List ℕ) → (c == 44) ≡ false → no_comma (c ∷ s) ≡ c ∷ s
    led c s other = rw other refl

-- ---- the end of a value that was passed

pub passed_scans : (text rest : List ℕ) (deep : ℕ) → Passed text rest deep → EndsBefore rest → rest ≡ scan 0 between text
passed_scans text rest deep p ends = sym (ap (scan 0 between) p.is ∙ scan-value 0 p.value rest p.kept ∙ ends)

pub passed_shorter : (text rest : List ℕ) (deep : ℕ) → Passed text rest deep → length rest ≤ length text
passed_shorter text rest deep p =
    let e : length text ≡ length (compact_text p.value) + length rest = ap length p.is ∙ length-append (compact_text p.value) rest in
    omega (arith, e)

pub members_scan : (text last rest : List ℕ) (later : Bool) (deep : ℕ) → MembersFrom text later last rest deep → EndsBefore rest → rest ≡ scan 1 between (no_comma text)
members_scan text last rest later deep m ends =
    sym (ap (λ (t : List ℕ). scan 1 between (no_comma t)) m.is ∙ ap (scan 1 between) (no_comma_members later m.members rest) ∙ scan-members 0 false m.members rest m.kept.1 ∙ ends)

-- the members of an object from its start, where there is no last name
pub members_begun : (inside text last rest : List ℕ) (later : Bool) (deep : ℕ) → text ≡ inside → later ≡ false → MembersFrom text later last rest deep → PassedMembers inside rest deep
members_begun inside text last rest later deep is none m = record {
  members = m.members;
  after = tt;
  kept = m.kept;
  shallow = m.shallow;
  is = sym is ∙ m.is ∙ ap (λ (b : Bool). members_text b m.members ++ rest) none;
}
