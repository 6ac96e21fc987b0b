use Rattle.office_wire.proofs.Names.{◌≡◌, ℕ, ◌<◌, ◌⊎◌, inl, inr, List, [], ◌++◌, length, take, drop, Option, Some, None, Result, Ok, Err, refl, sym, ap, subst, arith, ◌∙◌, length-append, IsTrue, take_at, drop_at, Consumes, IsAtEnd, RequestHead, print_request, HasNoRequest, request_unique, HeadView, StandsHead, HasNoHead, view_of, IsBadHead, IsLongHead, framing_of, RequestView, IsRequest, HasNoWhole, IsCutBody, IsMisframed, IsRefused, is_shown, HasOneMeaning, IsPastHead, StandsAfter, IsFrontRead, LeavesHead, ReadFault}
use Rattle.office_wire.specs.declared.fault.ReadFault.TheVariants as fault
use Rattle.office_wire.proofs.HeadLemmas as heads

-- ---- known bytes

-- the bytes that were consumed were at the beginning
pub consumed : (old new : Option (List ℕ)) (part input : List ℕ) → Consumes old new part → old ≡ Some input → (rest : List ℕ) × (new ≡ Some rest) × (input ≡ part ++ rest)
consumed None new part input c e = cc e
consumed (Some xs) None part input c e = absurd c
consumed (Some xs) (Some ys) part input c e = let same : xs ≡ input = cc e in (ys, refl, sym same ∙ c)

pub ended : (new : Option (List ℕ)) (rest : List ℕ) → IsAtEnd new → new ≡ Some rest → rest ≡ []
ended None rest at e = cc e
ended (Some xs) rest at e = let same : xs ≡ rest = cc e in sym same ∙ at

-- ---- a head at the beginning, and the length of its body

record Says (input : List ℕ) (r : Result ℕ ReadFault) : Type 0 where
  pub head : RequestHead
  pub after : List ℕ
  pub stands : StandsHead input head after
  pub framed : framing_of (view_of head) ≡ r

says_same : (input : List ℕ) (a b : Result ℕ ReadFault) → (x : Says input a) → (y : Says input b) → (x.after ≡ y.after) × (a ≡ b)
says_same input a b x y =
    let same = request_unique input x.head y.head x.after y.after x.stands.reads y.stands.reads in
    (same.1, sym x.framed ∙ (ap (λ h. framing_of (view_of h)) same.0 ∙ y.framed))

abbrev of_request : (input : List ℕ) (r : RequestView) (rest : List ℕ) → IsRequest input r rest → Says input (Ok (length r.body))
of_request input r rest x = record { head = x.head; after = x.after; stands = x.stands; framed = ap framing_of (sym x.view) ∙ x.framed }

of_misframed : (input : List ℕ) (why : ReadFault) → IsMisframed input why → Says input (Err why)
of_misframed input why x = record { head = x.head; after = x.after; stands = x.stands; framed = x.framed }

abbrev of_cut : (input : List ℕ) → (x : IsCutBody input) → Says input (Ok x.len)
of_cut input x = record { head = x.head; after = x.after; stands = x.stands; framed = x.framed }

no_head_said : (input : List ℕ) (a : Result ℕ ReadFault) → HasNoHead input → Says input a → ⊥
no_head_said input a none x = none x.head x.after x.stands

ok_same : (m n : ℕ) → ◌≡◌ {A = Result ℕ ReadFault} (Ok m) (Ok n) → m ≡ n
ok_same m n e = cc e

err_same : (a b : ReadFault) → ◌≡◌ {A = Result ℕ ReadFault} (Err a) (Err b) → a ≡ b
err_same a b e = cc e

ok_or_err : (n : ℕ) (a : ReadFault) → ◌≡◌ {A = Result ℕ ReadFault} (Ok n) (Err a) → ⊥
ok_or_err n a e = cc e

-- ---- reading that stopped

pub no_whole_head : (part : List ℕ) → HasNoRequest part → HasNoWhole part
no_whole_head part none r rest x = none x.head x.after x.stands.reads

-- a head, followed by fewer bytes than its body has
pub no_whole_body : (input : List ℕ) (h : RequestHead) (after part : List ℕ) (n : ℕ) → StandsHead input h after → framing_of (view_of h) ≡ Ok n → length part < n → HasNoWhole (print_request h ++ part)
no_whole_body input h after part n stands framed few r rest x =
    let mine : Says (print_request h ++ part) (Ok n) = record { head = h; after = part; stands = record { reads = (stands.reads.0, refl); short = stands.short }; framed = framed } in
    let same = says_same (print_request h ++ part) (Ok n) (Ok (length r.body)) mine (of_request (print_request h ++ part) r rest x) in
    let len : n ≡ length r.body = ok_same n (length r.body) same.1 in
    let all : length part ≡ length (r.body ++ rest) = ap length (same.0 ∙ x.body) in
    let a = length-append r.body rest in
    omega arith

-- ---- the reasons why read_request refuses

pub head_refused : (input : List ℕ) (e : ReadFault) → (e ≡ fault.BadHead → IsBadHead input) → (e ≡ fault.TooLong → IsLongHead input) → (e ≡ fault.Coding → ⊥) → IsRefused input e
head_refused input fault.BadHead bad long other = inl (bad refl)
head_refused input fault.TooLong bad long other = inl (long refl)
head_refused input fault.Coding bad long other = absurd (other refl)
head_refused input fault.Unavailable bad long other = tt
head_refused input fault.Read bad long other = tt

pub misframed_refused : (input : List ℕ) (e : ReadFault) → IsMisframed input e → IsRefused input e
misframed_refused input fault.BadHead x = inr (inl x)
misframed_refused input fault.TooLong x = inr x
misframed_refused input fault.Coding x = x
misframed_refused input fault.Unavailable x = tt
misframed_refused input fault.Read x = tt

-- ---- the place of the reader after a refusal

pub past_head_stands : (input : List ℕ) (now : Option (List ℕ)) (e : ReadFault) → IsPastHead input now e → StandsAfter input now e
past_head_stands input now fault.BadHead x = inl x
past_head_stands input now fault.TooLong x = inl x
past_head_stands input now fault.Coding x = x
past_head_stands input now fault.Unavailable x = record { part = print_request x.misframed.head; rest = x.misframed.after; now_is = x.now_is; parts = x.misframed.stands.reads.1 }
past_head_stands input now fault.Read x = tt

pub head_stands : (input : List ℕ) (now : Option (List ℕ)) (e : ReadFault) → (e ≡ fault.BadHead → IsBadHead input) → (e ≡ fault.TooLong → IsLongHead input) → LeavesHead input now e → StandsAfter input now e
head_stands input now fault.BadHead bad long (inl x) = inr (inr (record { now_is = x.0; ended = inr ((bad refl).none, x.1) }))
head_stands input now fault.BadHead bad long (inr x) = inr (inl x)
head_stands input now fault.TooLong bad long x = inr (long refl, x)
head_stands input now fault.Coding bad long x = absurd x
head_stands input now fault.Unavailable bad long x = x
head_stands input now fault.Read bad long x = tt

pub body_stands : (input : List ℕ) (now : Option (List ℕ)) (e : ReadFault) → (e ≡ fault.Unavailable) ⊎ (e ≡ fault.Read) → (e ≡ fault.Unavailable → IsFrontRead input now) → StandsAfter input now e
body_stands input now e (inl is) front = subst (StandsAfter input now) (sym is) (front is)
body_stands input now e (inr is) front = subst (StandsAfter input now) (sym is) tt

-- ---- an input has one meaning

same_parts : (h k : HeadView) (b c : List ℕ) → h ≡ k → b ≡ c → ◌≡◌ {A = RequestView} (record { head = h; body = b }) (record { head = k; body = c })
same_parts h k b c e f = cc (e, f)

one_request : (input : List ℕ) (r s : RequestView) (rest more : List ℕ) → IsRequest input r rest → IsRequest input s more → (r ≡ s) × (rest ≡ more)
one_request input r s rest more x y =
    let heads_same = request_unique input x.head y.head x.after y.after x.stands.reads y.stands.reads in
    let view : r.head ≡ s.head = x.view ∙ (ap view_of heads_same.0 ∙ sym y.view) in
    let said = says_same input (Ok (length r.body)) (Ok (length s.body)) (of_request input r rest x) (of_request input s more y) in
    let len : length r.body ≡ length s.body = ok_same _ _ said.1 in
    let all : r.body ++ rest ≡ s.body ++ more = sym x.body ∙ (heads_same.1 ∙ y.body) in
    let body : r.body ≡ s.body = sym (take_at r.body rest (length r.body) refl) ∙ (ap (take (length r.body)) all ∙ take_at s.body more (length r.body) (sym len)) in
    let end : rest ≡ more = sym (drop_at r.body rest (length r.body) refl) ∙ (ap (drop (length r.body)) all ∙ drop_at s.body more (length r.body) (sym len)) in
    (same_parts r.head s.head r.body s.body view body, end)

not_cut : (input : List ℕ) (r : RequestView) (rest : List ℕ) → IsRequest input r rest → IsCutBody input → ⊥
not_cut input r rest x y =
    let same = says_same input (Ok (length r.body)) (Ok y.len) (of_request input r rest x) (of_cut input y) in
    let len : length r.body ≡ y.len = ok_same _ _ same.1 in
    let all : length (r.body ++ rest) ≡ length y.after = ap length (sym x.body ∙ same.0) in
    let a = length-append r.body rest in
    let short : length y.after < y.len = y.short in
    omega arith

not_misframed : (input : List ℕ) (r : RequestView) (rest : List ℕ) (why : ReadFault) → IsRequest input r rest → IsMisframed input why → ⊥
not_misframed input r rest why x y = ok_or_err _ why (says_same input _ _ (of_request input r rest x) (of_misframed input why y)).1

no_refusal : (input : List ℕ) (r : RequestView) (rest : List ℕ) (why : ReadFault) → IsTrue (is_shown why) → IsRequest input r rest → IsRefused input why → ⊥
no_refusal input r rest fault.BadHead shown x (inl bad) = bad.none x.head x.after x.stands
no_refusal input r rest fault.BadHead shown x (inr (inl y)) = not_misframed input r rest fault.BadHead x y
no_refusal input r rest fault.BadHead shown x (inr (inr y)) = not_cut input r rest x y
no_refusal input r rest fault.TooLong shown x (inl long) = long.none x.head x.after x.stands
no_refusal input r rest fault.TooLong shown x (inr y) = not_misframed input r rest fault.TooLong x y
no_refusal input r rest fault.Coding shown x y = not_misframed input r rest fault.Coding x y
no_refusal input r rest fault.Unavailable shown x y = cc shown
no_refusal input r rest fault.Read shown x y = cc shown

-- the fault that the fields of a head or a body that is cut short lead to
fault_of : Result ℕ ReadFault → ReadFault
fault_of (Ok n) = fault.BadHead
fault_of (Err why) = why

-- a refusal has one of three reasons: a bad head, a head that is too long, or a head whose fields or body are refused
Reason : List ℕ → ReadFault → Type 0
Reason input why = (IsBadHead input × (why ≡ fault.BadHead)) ⊎ ((IsLongHead input × (why ≡ fault.TooLong)) ⊎ ((r : Result ℕ ReadFault) × Says input r × (why ≡ fault_of r)))

reason : (input : List ℕ) (why : ReadFault) → IsTrue (is_shown why) → IsRefused input why → Reason input why
unfolding Reason fault_of
reason input fault.BadHead shown (inl bad) = inl (bad, refl)
reason input fault.BadHead shown (inr (inl x)) = inr (inr (Err fault.BadHead, of_misframed input fault.BadHead x, refl))
reason input fault.BadHead shown (inr (inr x)) = inr (inr (Ok x.len, of_cut input x, refl))
reason input fault.TooLong shown (inl long) = inr (inl (long, refl))
reason input fault.TooLong shown (inr x) = inr (inr (Err fault.TooLong, of_misframed input fault.TooLong x, refl))
reason input fault.Coding shown x = inr (inr (Err fault.Coding, of_misframed input fault.Coding x, refl))
reason input fault.Unavailable shown x = cc shown
reason input fault.Read shown x = cc shown

one_reason : (input : List ℕ) (why other : ReadFault) → Reason input why → Reason input other → why ≡ other
unfolding Reason
one_reason input why other (inl x) (inl y) = x.1 ∙ sym y.1
one_reason input why other (inl x) (inr (inl y)) = absurd (heads.one_refusal input y.0 x.0)
one_reason input why other (inl x) (inr (inr y)) = absurd (no_head_said input y.0 x.0.none y.1)
one_reason input why other (inr (inl x)) (inl y) = absurd (heads.one_refusal input x.0 y.0)
one_reason input why other (inr (inl x)) (inr (inl y)) = x.1 ∙ sym y.1
one_reason input why other (inr (inl x)) (inr (inr y)) = absurd (no_head_said input y.0 x.0.none y.1)
one_reason input why other (inr (inr x)) (inl y) = absurd (no_head_said input x.0 y.0.none x.1)
one_reason input why other (inr (inr x)) (inr (inl y)) = absurd (no_head_said input x.0 y.0.none x.1)
one_reason input why other (inr (inr x)) (inr (inr y)) = x.2 ∙ (ap fault_of (says_same input x.0 y.0 x.1 y.1).1 ∙ sym y.2)

pub one_meaning : (input : List ℕ) → HasOneMeaning input
one_meaning input = record {
  one_request = λ r s rest more x y. one_request input r s rest more x y;
  no_refusal = λ r rest why shown x y. no_refusal input r rest why shown x y;
  one_refusal = λ why other shown too x y. one_reason input why other (reason input why shown x) (reason input other too y);
}
