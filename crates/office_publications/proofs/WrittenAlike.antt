-- Releases with equal texts have equal dates, and both are objects if one is.
use Rattle.office_publications.proofs.Names.{◌≡◌, ℕ, List, [], codes, false, Option, Some, None, option_map, option_and_then, unwrap_or, refl, sym, ap, ◌∙◌, subst, nat_cmp, match_ordering, slice_cmp, Ordering, Less, Equal, Greater, Data, null, boolean, number, string, array, object, Members, no_members, member, get_member, as_str, compact_text, has_float, outline, members_outline, date_of}
use Rattle.json.specs.Json as json
use Rattle.office_publications.proofs.TextsApart.{same_outline}

abbrev text_in : json.Json → Option (List ℕ)
text_in json.null = None
text_in (json.boolean b) = None
text_in (json.number s) = None
text_in (json.string s) = Some s
text_in (json.array js) = None
text_in (json.object ms) = None

abbrev member_in : List ℕ → json.Members → Option json.Json
member_in k json.no_members = None
member_in k (json.member l j ms) = match_ordering (slice_cmp nat_cmp k l) (member_in k ms) (Some j) (member_in k ms)

abbrev date_in : json.Json → List ℕ
date_in json.null = []
date_in (json.boolean b) = []
date_in (json.number s) = []
date_in (json.string s) = []
date_in (json.array js) = []
date_in (json.object ms) = unwrap_or (option_and_then text_in (member_in (codes "date") ms)) []

same_text : (d : Data) → as_str d ≡ text_in (outline d)
same_text null = refl
same_text (boolean b) = refl
same_text (number n) = refl
same_text (string s) = refl
same_text (array ds) = refl
same_text (object ms) = refl

same_texts : (o : Option Data) → option_and_then as_str o ≡ option_and_then text_in (option_map outline o)
same_texts None = refl
same_texts (Some d) = same_text d

chosen : (o : Ordering) (a b c : Option Data) → option_map outline (match_ordering o a b c) ≡ match_ordering o (option_map outline a) (option_map outline b) (option_map outline c)
chosen Less a b c = refl
chosen Equal a b c = refl
chosen Greater a b c = refl

same_member : (k : List ℕ) (ms : Members) → option_map outline (get_member k ms) ≡ member_in k (members_outline ms)
same_member k no_members = refl
same_member k (member l d ms) =
    chosen (slice_cmp nat_cmp k l) (get_member k ms) (Some d) (get_member k ms)
    ∙ ap (λ (o : Option json.Json). match_ordering (slice_cmp nat_cmp k l) o (Some (outline d)) o) (same_member k ms)

-- the date is in the outline
date_there : (d : Data) → date_of d ≡ date_in (outline d)
date_there null = refl
date_there (boolean b) = refl
date_there (number n) = refl
date_there (string s) = refl
date_there (array ds) = refl
date_there (object ms) =
    ap (λ (o : Option (List ℕ)). unwrap_or o []) (same_texts (get_member (codes "date") ms) ∙ ap (option_and_then text_in) (same_member (codes "date") ms))

pub same_date : (d e : Data) → has_float d ≡ false → has_float e ≡ false → compact_text d ≡ compact_text e → date_of d ≡ date_of e
same_date d e hd he same = date_there d ∙ ap date_in (same_outline d e hd he same) ∙ sym (date_there e)

abbrev pub IsObject : Data → Type 0
IsObject null = ⊥
IsObject (boolean b) = ⊥
IsObject (number n) = ⊥
IsObject (string s) = ⊥
IsObject (array ds) = ⊥
IsObject (object ms) = Unit {0}

abbrev IsObjectOutline : json.Json → Type 0
IsObjectOutline json.null = ⊥
IsObjectOutline (json.boolean b) = ⊥
IsObjectOutline (json.number s) = ⊥
IsObjectOutline (json.string s) = ⊥
IsObjectOutline (json.array js) = ⊥
IsObjectOutline (json.object ms) = Unit {0}

object_there : (d : Data) → IsObjectOutline (outline d) → IsObject d
object_there null h = h
object_there (boolean b) h = h
object_there (number n) h = h
object_there (string s) h = h
object_there (array ds) h = h
object_there (object ms) h = h

outline_there : (d : Data) → IsObject d → IsObjectOutline (outline d)
outline_there null h = h
outline_there (boolean b) h = h
outline_there (number n) h = h
outline_there (string s) h = h
outline_there (array ds) h = h
outline_there (object ms) h = h

pub object_too : (d e : Data) → has_float d ≡ false → has_float e ≡ false → compact_text d ≡ compact_text e → IsObject e → IsObject d
object_too d e hd he same h = object_there d (subst IsObjectOutline (sym (same_outline d e hd he same)) (outline_there e h))
