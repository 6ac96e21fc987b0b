-- Reading a text as a value, by its parts.
use Rattle.ocds_merge.proofs.Names.{◌≡◌, ℕ, List, [], ◌∷◌, Option, Some, None, refl, sym, ap, ◌∙◌, length, option_map, option_and_then, Token, tokens, lex, punctuate, fresh, Data, object, Items, item, Members, no_members, put, read, max_depth, of_json, of_items, of_members, serde_json_on_literals}
use Rattle.json.specs.Lex.{between}
use Rattle.json.specs.Json as json

pub item_converts : (j : json.Json) (js : json.Items) (d : Data) (ds : Items) → of_json j ≡ Some d → of_items js ≡ Some ds → of_items (json.item j js) ≡ Some (item d ds)
item_converts j js d ds e f = rw e (ap (λ (o : Option Items). option_map (item d) o) f)

pub member_converts : (k : List ℕ) (j : json.Json) (ms : json.Members) (d : Data) (found all : Members) → of_json j ≡ Some d → of_members ms (put k d found) ≡ Some all
    → of_members (json.member k j ms) found ≡ Some all
member_converts k j ms d found all e f = rw e f

whole : Option (json.Json × List Token) → Option Data
whole o = option_and_then of_json (option_and_then (λ p. json.if_last p.0 p.1) o)

pub whole_read : (text : List ℕ) (j : json.Json) (d : Data) → json.value max_depth (tokens text) ≡ Some (j, []) → of_json j ≡ Some d → read text ≡ Some d
unfolding whole
whole_read text j d e is = ap whole e ∙ is

-- ---- texts that begin with an opening bracket

converted : (o : Option Members) (d : Data) → option_map object o ≡ Some d → (ms : Members) × (d ≡ object ms)
converted None d is = absurd cc
converted (Some ms) d is = let same : object ms ≡ d = cc in (ms, sym same)

object_whole : (found : Option (json.Members × List Token)) (d : Data) → whole (json.parse_map json.object found) ≡ Some d → (ms : Members) × (d ≡ object ms)
unfolding whole
object_whole None d is = absurd cc
object_whole (Some (ms, [])) d is = converted (of_members ms no_members) d is
object_whole (Some (ms, t ∷ ts)) d is = absurd cc

-- the members after the bracket, as they are parsed
members_after : List ℕ → Option (json.Members × List Token)
members_after rest = let ts = punctuate fresh (lex between rest) in json.members (json.value 126) (length ts) ts

object_begun : (rest : List ℕ) → read (123 ∷ rest) ≡ whole (json.parse_map json.object (members_after rest))
unfolding serde_json_on_literals whole members_after
object_begun rest = refl

pub object_read : (text rest : List ℕ) (d : Data) → text ≡ 123 ∷ rest → read text ≡ Some d → (ms : Members) × (d ≡ object ms)
object_read text rest d is reads = object_whole (members_after rest) d (sym (object_begun rest) ∙ ap read (sym is) ∙ reads)
