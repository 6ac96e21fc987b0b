-- Tables are made one after another.
use Rattle.office_tables.proofs.Names.{◌≡◌, ℕ, Ok, List, [], ◌∷◌, ◌++◌, map, append_assoc, append-nil, refl, sym, subst, ◌∙◌, false, Index, IsDatabase, ExecutesInside, first_clock, clock_values, upsert_office, OfficeTable, table_of, create_of, all_tables, Refused, IsCreate, IsIndexing, AreMade, Makes, Indexes, Founds, onto}
use Rattle.sqlite.specs.State.{State}
use Rattle.office_tables.specs.Steps.{Goes}
use Rattle.office_tables.proofs.Held.{goes_on}
use Rattle.office_tables.proofs.Childless.{all-append}
use Rattle.office_tables.proofs.Makes.{makes_table, makes_index, table_others, index_others, others_then, stays_then, added_then, all_so}
use Rattle.office_tables.proofs.Each.{each, found}
use Rattle.office_tables.proofs.Founds.{founds, first_others}

pub goes_then : (a b c : State) → Goes a b → Goes b c → Goes a c
goes_then a b c p q = record { mode = q.mode; was_open = p.was_open; is_open = q.is_open; committed = q.committed ∙ p.committed }

pub goes_refused : (a b c : State) → Goes a b → Refused b c → Refused a c
goes_refused a b c p q = record { was_open = λ o. p.was_open; committed = λ o. q.committed o ∙ p.committed }

pub made_one : (old new : State) (text : List ℕ) (k : OfficeTable) (count : ℕ) → IsCreate text (table_of k) → ExecutesInside 0 text [] old new (Ok count) → Makes old new (k ∷ [])
made_one old new text k count it h = let kept = table_others old new text k count it h.0 in record { goes = goes_on old new h.1; others = kept.0; fresh = kept.1; stays = kept.2; added = kept.3; made = λ done was. makes_table old new text k done count it was h.0 }

pub makes_then : (a b c : State) (ks js : List OfficeTable) → Makes a b ks → Makes b c js → Makes a c (js ++ ks)
makes_then a b c ks js p q = record {
  goes = goes_then a b c p.goes q.goes;
  others = others_then a.now b.now c.now p.others q.others;
  stays = stays_then a.now b.now c.now p.stays q.stays;
  added = added_then a.now.schema b.now.schema c.now.schema p.added q.added;
  fresh = all-append _ js ks (all_so _ _ js (λ k new t there. new t (p.others t there).0) q.fresh) p.fresh;
  made = λ done was. subst (λ l. AreMade l c.now) (sym (append_assoc js ks done)) (q.made (ks ++ done) (p.made done was));
}

-- some of these tables were made, and the texts of the others are left
abbrev pub MadeOf : State → State → List OfficeTable → List (List ℕ) → Type 0
MadeOf old now all left = (done : List OfficeTable) × (rest : List OfficeTable) × (onto done rest ≡ all) × (map create_of rest ≡ left) × Makes old now done

pub makes_first : (a b : State) (ks : List OfficeTable) (text : List ℕ) (left : List (List ℕ)) → map create_of ks ≡ text ∷ left → ((k : OfficeTable) → IsCreate text (table_of k) → Makes a b (k ∷ [])) → MadeOf a b (onto [] ks) left
makes_first a b [] text left texts one = absurd (cc)
makes_first a b (k ∷ ks) text left texts one =
    let here : create_of k ≡ text = cc in
    let more : map create_of ks ≡ left = cc in
    (k ∷ [], ks, refl, more, one k (subst (λ t. IsCreate t (table_of k)) here (each k).created))

pub makes_more : (a b c : State) (all : List OfficeTable) (text : List ℕ) (left : List (List ℕ)) → ((k : OfficeTable) → IsCreate text (table_of k) → Makes b c (k ∷ [])) → MadeOf a b all (text ∷ left) → MadeOf a c all left
makes_more a b c all text left one (done, [], is, texts, made) = absurd (cc)
makes_more a b c all text left one (done, k ∷ rest, is, texts, made) =
    let here : create_of k ≡ text = cc in
    let more : map create_of rest ≡ left = cc in
    (k ∷ done, rest, is, more, makes_then a b c done (k ∷ []) made (one k (subst (λ t. IsCreate t (table_of k)) here (each k).created)))

pub all_made : (a b : State) (all : List OfficeTable) → MadeOf a b all [] → Makes a b all
all_made a b all (done, [], is, texts, made) = subst (Makes a b) is made
all_made a b all (done, k ∷ rest, is, texts, made) = absurd (cc)

pub indexed_one : (old new : State) (text : List ℕ) (k : OfficeTable) (index : Index) (count : ℕ) → IsIndexing text (table_of k) index → index.is_unique ≡ false → ExecutesInside 0 text [] old new (Ok count) → Indexes old new
indexed_one old new text k index count it plain h = record {
  goes = goes_on old new h.1;
  others = λ was. index_others old new text k index count it (found k was.each) h.0;
  made = λ was. makes_index old new text k index all_tables count it plain was (found k was.each) h.0;
}

pub indexes_then : (a b c : State) → Indexes a b → Indexes b c → Indexes a c
indexes_then a b c p q = record { goes = goes_then a b c p.goes q.goes; others = λ was. others_then a.now b.now c.now (p.others was) (q.others (p.made was)); made = λ was. q.made (p.made was) }

-- in a sound database that has none of the tables, making them founds an office
pub founded : (a b c d : State) (count : ℕ) → Makes a b all_tables → Indexes b c → ExecutesInside 0 upsert_office (clock_values first_clock) c d (Ok count) → Founds a d
founded a b c d count p q h =
    let all : IsDatabase a.now → AreMade all_tables b.now = λ sound. subst (λ l. AreMade l b.now) (append-nil all_tables) (p.made [] (record { sound = sound; each = tt })) in
    record {
      goes = goes_then a c d (goes_then a b c p.goes q.goes) (goes_on c d h.1);
      tables = λ sound. founds c d first_clock count (q.made (all sound)) h.0;
      others = λ sound. first_others a.now c d first_clock count (others_then a.now b.now c.now p.others (q.others (all sound))) p.fresh (q.made (all sound)) h.0;
    }
