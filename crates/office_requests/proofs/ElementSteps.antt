-- The elements of an array, one more at a time.
use Rattle.office_requests.proofs.Names.{◌≡◌, ℕ, ◌+◌, ◌≤◌, ◌<◌, List, [], ◌∷◌, ◌++◌, length, drop, Result, Ok, Err, refl, sym, ap, ◌∙◌, append_assoc, add-one, get_or, suc, drop-cons, drop_all, append-nil, Data, item, items_view, view, Value, Refusal, ◌>>=◌, each_of}

-- the read elements, followed by those that are still to be read
abbrev pub with_done : {A : Type 0} → List A → Result (List A) Refusal → Result (List A) Refusal
with_done done more = more >>= λ xs. Ok (done ++ xs)

-- the value at a place, and the values after it
from_here : (values : List Value) (i : ℕ) (value : Value) → i < length values → value ≡ get_or values i value
    → items_view (drop i values) ≡ item (view value) (items_view (drop (i + 1) values))
from_here values i value h at =
    let e : drop i values ≡ value ∷ drop (i + 1) values = rw add-one (drop-cons values i value h ∙ ap (λ x. x ∷ drop (suc i) values) (sym at)) in
    rw e refl

-- after this many values were read, these elements followed by the rest give the whole result
abbrev pub IsSoFar : {A : Type 0} → (Data → Result A Refusal) → List Value → ℕ → List A → Type 0
IsSoFar read values i things = with_done things (each_of read (items_view (drop i values))) ≡ each_of read (items_view values)

module _ {A : Type 0} (read : Data → Result A Refusal) (values : List Value) (done : List A) (i : ℕ) where
  -- the next value is read
  pub one_more : (value : Value) (x : A) → i < length values → value ≡ get_or values i value → read (view value) ≡ Ok x → IsSoFar read values i done
      → IsSoFar read values (i + 1) (done ++ x ∷ [])
  unfolding each_of
  one_more value x h at is so_far =
      append (each_of read (items_view (drop (i + 1) values))) ∙ (rw (from_here values i value h at, is) at so_far)
    where
      append : (more : Result (List A) Refusal) → with_done (done ++ x ∷ []) more ≡ with_done done (more >>= λ xs. Ok (x ∷ xs))
      append (Err why) = refl
      append (Ok xs) = ap Ok (append_assoc done (x ∷ []) xs)

  -- the next value is refused
  pub no_more : (value : Value) (why : Refusal) → i < length values → value ≡ get_or values i value → read (view value) ≡ Err why → IsSoFar read values i done
      → each_of read (items_view values) ≡ Err why
  unfolding each_of
  no_more value why h at is so_far = sym (rw (from_here values i value h at, is) at so_far)

  -- no value is left
  pub all_done : length values ≤ i → IsSoFar read values i done → each_of read (items_view values) ≡ Ok done
  unfolding each_of
  all_done past so_far = sym (rw (drop_all i values past) at so_far) ∙ ap Ok (append-nil done)
