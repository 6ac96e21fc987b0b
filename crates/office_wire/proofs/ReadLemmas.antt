-- Reading more bytes of a head.
use Rattle.office_wire.proofs.Names.{◌≡◌, ◌≢◌, ℕ, ◌-◌, ◌<◌, ◌≤◌, List, [], ◌∷◌, ◌++◌, All, length, take, Option, Some, None, OnSome, refl, sym, ap, subst, arith, ◌∙◌, append_assoc, length-append, take_at, nil_from_length, Keeps, Consumes, IsAtEnd, TakesPart, ReadsOn, IsOver}
use Rattle.office_wire.proofs.RequestLemmas.{consumed}

-- a list is empty, or has a last element
pub last_of : (xs : List ℕ) → 0 < length xs → (ys : List ℕ) × (y : ℕ) × (xs ≡ ys ++ y ∷ [])
last_of [] some = absurd (none some)
  where
    none : 0 < 0 → ⊥
    none h = omega arith
last_of (x ∷ []) some = ([], x, refl)
last_of (x ∷ y ∷ more) some = let (ys, z, e) = last_of (y ∷ more) (omega arith) in (x ∷ ys, z, ap (λ t. x ∷ t) e)

-- a part that isn't empty is more of the head
pub reads_on : (old new : Option (List ℕ)) (before after : List ℕ) (most n : ℕ) → TakesPart old new before after most n → n ≢ 0 → most ≡ 8192 - length before → length before < 8192 → ReadsOn old new before after
reads_on old new before after most n x some is short =
    let len : length x.part ≡ n = x.long in
    let room : n ≤ most = x.within in
    let (front, last, e) = last_of x.part (omega (arith, len, some)) in
    let a = length-append front (last ∷ []) in
    let b : length x.part ≡ length (front ++ last ∷ []) = ap length e in
    let c = length-append before x.part in
    let d : length after ≡ length (before ++ x.part) = ap length x.appended in
    let cut : take (length x.part - 1) x.part ≡ front = ap (take (length x.part - 1)) e ∙ take_at front (last ∷ []) (length x.part - 1) (omega (arith, a, b)) in
    record {
      front = front;
      last = last;
      appended = x.appended ∙ (ap (λ (t : List ℕ). before ++ t) e ∙ sym (append_assoc before front (last ∷ [])));
      quiet = subst (All (λ b. b ≢ 10)) cut x.line;
      taken = subst (Consumes old new) e x.taken;
      short = omega (arith, len, room, is, short, c, d);
    }

-- an empty part means that the input is at its end
pub is_over : (old new : Option (List ℕ)) (before after : List ℕ) (most n : ℕ) → TakesPart old new before after most n → n ≡ 0 → 0 < most → IsOver old new
is_over old new before after most n x none room = by old new x.part (nil_from_length x.part (x.long ∙ none)) x.taken (x.ended none room)
  where
    by : (a b : Option (List ℕ)) (part : List ℕ) → part ≡ [] → Consumes a b part → OnSome a (IsAtEnd b) → IsOver a b
    by None b part e took end = tt
    by (Some xs) None part e took end = absurd took
    by (Some xs) (Some ys) part e took end = (took ∙ (ap (λ (t : List ℕ). t ++ ys) e ∙ end), ap (λ t. Some t) end)

-- the rest of an input that is at its end is empty
pub over : (old new : Option (List ℕ)) (rest : List ℕ) → old ≡ Some rest → IsOver old new → (rest ≡ []) × (new ≡ Some [])
over None new rest e x = cc e
over (Some xs) new rest e x = let same : xs ≡ rest = cc e in (sym same ∙ x.0, x.1)

pub kept_some : (old new : Option (List ℕ)) (rest : List ℕ) → old ≡ Some rest → Keeps old new → new ≡ Some rest
kept_some None new rest e g = cc e
kept_some (Some xs) None rest e g = absurd g
kept_some (Some xs) (Some ys) rest e g = ap (λ t. Some t) g ∙ e

-- the next bytes of the input were read
pub read_more : (old new : Option (List ℕ)) (input before after rest : List ℕ) → old ≡ Some rest → input ≡ before ++ rest → ReadsOn old new before after → (more : List ℕ) × (new ≡ Some more) × (input ≡ after ++ more)
read_more old new input before after rest at parts x =
    let (more, now, is) = consumed old new (x.front ++ x.last ∷ []) rest x.taken at in
    let joined : before ++ (x.front ++ x.last ∷ []) ≡ after = sym (append_assoc before x.front (x.last ∷ [])) ∙ sym x.appended in
    (more, now, parts ∙ (ap (λ (t : List ℕ). before ++ t) is ∙ (sym (append_assoc before (x.front ++ x.last ∷ []) more) ∙ ap (λ (t : List ℕ). t ++ more) joined)))
