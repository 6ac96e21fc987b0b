-- The effect of one read on the records that a reader hasn't read yet.
use Rattle.tender_papers.proofs.Names.{◌≡◌, ℕ, ◌+◌, List, [], ◌∷◌, length, Some, refl, sym, ap, ◌∙◌, Bor, true, false, inl, Bool, IsTrue, MatchBool, ErrorKind, ExplainsRead, Reached, ReadRecord, default_config, is_flexible, reader_state, records_from, source_of, took_first, Reader, rows-end, rows-more, IsOfSource, IsReading, records_left}
use Rattle.csv.specs.declared.error.ErrorKind.TheVariants as kind
use Rattle.tender_papers.proofs.RecordSteps.{record_shortens, records_more, records_end}

-- the unread records follow from the unread bytes
pub left_is : (reader : Reader (Bor (List ℕ))) (bytes : List ℕ) → source_of (λ s. Some s.now) reader ≡ Some bytes → records_left reader ≡ records_from default_config (length bytes + 1) (reader_state reader) bytes
unfolding records_left
left_is reader bytes e = rw e refl

-- a read took the record with these fields, and the reader is between records again
record StepsTo (old new : Reader (Bor (List ℕ))) (fields : List (List ℕ)) : Type 0 where
  reading : IsReading new
  read : records_left old ≡ fields ∷ records_left new

reads_one : (old new : Reader (Bor (List ℕ))) (fields : List (List ℕ)) → IsReading old → took_first new ≡ true → is_flexible new ≡ is_flexible old → ReadRecord (λ s. Some s.now) old new true fields → StepsTo old new fields
unfolding Reached
reads_one old new fields h first flexible r =
    let m = rows-more (λ (s : Bor (List ℕ)). Some s.now) old new fields default_config old.state h.unread h.unread [] h.config h.source (refl, refl) r in
    let (bytes, source, step) = m in
    let (p, read, same, ends) = step in
    let (state, rest) = ends in
    let t = record_shortens old.state h.unread p h.between read in
    record {
      reading = record {
        trim = r.3 ∙ h.trim;
        flexible = flexible ∙ h.flexible;
        config = r.2 ∙ h.config;
        ready = inl first;
        between = rw state at t.between;
        unread = bytes;
        source = source;
      };
      read =
          left_is old h.unread h.source ∙ (records_more old.state h.unread p h.between read
          ∙ (ap (λ f. f ∷ records_from default_config (length p.2 + 1) p.1 p.2) (sym same)
          ∙ (rw (state, rest) (ap (λ rs. fields ∷ rs) (sym (left_is new bytes source))))));
    }

reads_none : (old new : Reader (Bor (List ℕ))) (fields : List (List ℕ)) → IsReading old → ReadRecord (λ s. Some s.now) old new false fields → records_left old ≡ []
reads_none old new fields h r =
    left_is old h.unread h.source ∙ records_end (length h.unread) old.state h.unread (rows-end (λ (s : Bor (List ℕ)). Some s.now) old new fields default_config h.unread h.config h.source r)

-- a read takes the next record, or says correctly that there is none
pub reads_next : (found : Bool) (old new : Reader (Bor (List ℕ))) (fields : List (List ℕ)) → IsReading old → took_first new ≡ true → is_flexible new ≡ is_flexible old → ReadRecord (λ s. Some s.now) old new found fields
    → (IsTrue found → IsReading new) × MatchBool found (records_left old ≡ fields ∷ records_left new) (records_left old ≡ [])
reads_next true old new fields h first flexible r = let steps = reads_one old new fields h first flexible r in (λ _. steps.reading, steps.read)
reads_next false old new fields h first flexible r = (λ e. cc e, reads_none old new fields h r)

-- a reader that accepts records of any number of fields fails only because of memory or its source
pub only_source : (old new : Reader (Bor (List ℕ))) (k : ErrorKind) → is_flexible old ≡ true → ExplainsRead (λ s. Some s.now) old new false k → IsOfSource k
only_source old new (kind.Io e) flexible why = tt
only_source old new kind.OutOfMemory flexible why = tt
only_source old new (kind.UnequalLengths pos expected len) flexible why = let not : old.flexible ≡ false = why.0 in cc (sym not ∙ flexible)
only_source old new (kind.Utf8 pos err) flexible why = let text : false ≡ true = why.0 in cc text
only_source old new (kind.Serialize text) flexible why = why
only_source old new (kind.Deserialize pos err) flexible why = why
