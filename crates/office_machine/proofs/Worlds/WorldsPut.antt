-- Two worlds remain alike under puts that are alike.
use Rattle.office_machine.proofs.Names.{◌≡◌, ℕ, Bool, true, false, cond, ◌||◌, List, [], ◌∷◌, ◌++◌, map, filter, Option, Some, None, refl, sym, ◌∙◌, ap, subst, list_any, AllByRecursion, nat_cmp, eq_by_cmp, Ordering, Less, Equal, Greater, by_order, row_at, row_put, IsInOrder, EnvelopeRow, SealRow, Tables, IsSorted, seal_key, find_envelope, find_seal, put_envelope, put_seal, drop_seal, seal_at, after_put, after_puts, Put, put_if, ChosenTender, is_theirs, AlikeRows, Pairs, row_at-row_drop, sorted-put, row_at-row_put}
use Rattle.office_base.specs.declared.puts.Put.TheVariants as puts
use Rattle.office_machine.proofs.Rows.Keyed as keyed

-- two rows are alike, and `W` says which are of the chosen tenderer for the chosen lot
pub record Alike (th : ChosenTender) (W : ℕ → Bool) (e e' : EnvelopeRow) : Type 0 where
  pub rows : AlikeRows th e e'
  pub own : is_theirs th e ≡ W e.receipt

pub record AlikeIn (th : ChosenTender) (W : ℕ → Bool) (s s' : Tables) : Type 0 where
  pub but_sealed : s' ≡ record s { envelopes = s'.envelopes; seals = s'.seals }
  pub envelopes : Pairs (Alike th W) s.envelopes s'.envelopes
  pub seals : (n : ℕ) → W n ≡ false → seal_at n s ≡ seal_at n s'

-- the put is neither of an envelope nor of a seal's bytes
abbrev pub IsPlain : Put → Type 0
IsPlain (puts.Envelope e) = ⊥
IsPlain (puts.Seal r) = ⊥
IsPlain p = Unit {0}

module _ (th : ChosenTender) (W : ℕ → Bool) where
  pub receipt_is : (e e' : EnvelopeRow) → Alike th W e e' → e'.receipt ≡ e.receipt
  receipt_is e e' a = ap (λ (e : EnvelopeRow). e.receipt) a.rows.but_digest

  put_by : (e e' r r' : EnvelopeRow) (es es' : List EnvelopeRow) (o : Ordering) → Alike th W e e' → Pairs (Alike th W) es es' → Alike th W r r' → Pairs (Alike th W) (put_envelope es r) (put_envelope es' r')
      → Pairs (Alike th W) (by_order o (r ∷ e ∷ es) (r ∷ es) (e ∷ put_envelope es r)) (by_order o (r' ∷ e' ∷ es') (r' ∷ es') (e' ∷ put_envelope es' r'))
  put_by e e' r r' es es' Less a all b more = (b, (a, all))
  put_by e e' r r' es es' Equal a all b more = (b, all)
  put_by e e' r r' es es' Greater a all b more = (a, more)

  pub pairs-put : (es es' : List EnvelopeRow) (r r' : EnvelopeRow) → Pairs (Alike th W) es es' → Alike th W r r' → Pairs (Alike th W) (put_envelope es r) (put_envelope es' r')
  unfolding row_put
  pairs-put [] [] r r' all b = (b, tt)
  pairs-put [] (e' ∷ es') r r' all b = absurd all
  pairs-put (e ∷ es) [] r r' all b = absurd all
  pairs-put (e ∷ es) (e' ∷ es') r r' all b =
      subst (λ o. Pairs (Alike th W) (by_order (nat_cmp r.receipt e.receipt) (r ∷ e ∷ es) (r ∷ es) (e ∷ put_envelope es r)) (by_order o (r' ∷ e' ∷ es') (r' ∷ es') (e' ∷ put_envelope es' r')))
      (λ i. nat_cmp (sym (receipt_is r r' b) i) (sym (receipt_is e e' all.0) i))
      (put_by e e' r r' es es' (nat_cmp r.receipt e.receipt) all.0 all.1 b (pairs-put es es' r r' all.1 b))

  -- the found rows are alike
  abbrev pub AlikeOptions : Option EnvelopeRow → Option EnvelopeRow → Type 0
  AlikeOptions None None = Unit {0}
  AlikeOptions (Some e) (Some e') = Alike th W e e'
  AlikeOptions o o' = ⊥

  found_by : (e e' : EnvelopeRow) (o o' : Option EnvelopeRow) (c : Ordering) → Alike th W e e' → AlikeOptions o o' → AlikeOptions (by_order c None (Some e) o) (by_order c None (Some e') o')
  found_by e e' o o' Less a b = tt
  found_by e e' o o' Equal a b = a
  found_by e e' o o' Greater a b = b

  pub pairs-found : (es es' : List EnvelopeRow) (n : ℕ) → Pairs (Alike th W) es es' → AlikeOptions (find_envelope es n) (find_envelope es' n)
  unfolding row_at
  pairs-found [] [] n all = tt
  pairs-found [] (e' ∷ es') n all = absurd all
  pairs-found (e ∷ es) [] n all = absurd all
  pairs-found (e ∷ es) (e' ∷ es') n all =
      subst (λ k. AlikeOptions (by_order (nat_cmp n e.receipt) None (Some e) (find_envelope es n)) (by_order (nat_cmp n k) None (Some e') (find_envelope es' n)))
      (sym (receipt_is e e' all.0))
      (found_by e e' (find_envelope es n) (find_envelope es' n) (nat_cmp n e.receipt) all.0 (pairs-found es es' n all.1))

  -- the function reads no digest
  abbrev pub IsBlind : {A : Type 0} → (EnvelopeRow → A) → Type 0
  IsBlind f = (e : EnvelopeRow) (d : List ℕ) → f (record e { digest = d }) ≡ f e

  pub blind : {A : Type 0} (f : EnvelopeRow → A) → IsBlind f → (e e' : EnvelopeRow) → Alike th W e e' → f e' ≡ f e
  blind f b e e' a = ap f a.rows.but_digest ∙ b e e'.digest

  pub blind-option : {A : Type 0} (f : Option EnvelopeRow → A) → ((e : EnvelopeRow) (d : List ℕ) → f (Some (record e { digest = d })) ≡ f (Some e)) → (o o' : Option EnvelopeRow) → AlikeOptions o o' → f o' ≡ f o
  blind-option f b None None a = refl
  blind-option f b None (Some e') a = absurd a
  blind-option f b (Some e) None a = absurd a
  blind-option f b (Some e) (Some e') a = blind (λ e. f (Some e)) b e e' a

  filter_by : (p : Bool) (e e' : EnvelopeRow) (es es' : List EnvelopeRow) → Alike th W e e' → Pairs (Alike th W) es es' → Pairs (Alike th W) (cond p (e ∷ es) es) (cond p (e' ∷ es') es')
  filter_by true e e' es es' a all = (a, all)
  filter_by false e e' es es' a all = all

  pub pairs-filter : (p : EnvelopeRow → Bool) → IsBlind p → (es es' : List EnvelopeRow) → Pairs (Alike th W) es es' → Pairs (Alike th W) (filter p es) (filter p es')
  pairs-filter p b [] [] all = tt
  pairs-filter p b [] (e' ∷ es') all = absurd all
  pairs-filter p b (e ∷ es) [] all = absurd all
  pairs-filter p b (e ∷ es) (e' ∷ es') all =
      subst (λ c. Pairs (Alike th W) (cond (p e) (e ∷ filter p es) (filter p es)) (cond c (e' ∷ filter p es') (filter p es'))) (sym (blind p b e e' all.0))
      (filter_by (p e) e e' (filter p es) (filter p es') all.0 (pairs-filter p b es es' all.1))

  pub pairs-any : (p : EnvelopeRow → Bool) → IsBlind p → (es es' : List EnvelopeRow) → Pairs (Alike th W) es es' → list_any p es' ≡ list_any p es
  pairs-any p b [] [] all = refl
  pairs-any p b [] (e' ∷ es') all = absurd all
  pairs-any p b (e ∷ es) [] all = absurd all
  pairs-any p b (e ∷ es) (e' ∷ es') all = λ i. blind p b e e' all.0 i || pairs-any p b es es' all.1 i

  seal_put : (ss ss' : List SealRow) (r r' : SealRow) (n : ℕ) → r.receipt ≡ r'.receipt → (W r.receipt ≡ false → r ≡ r') → W n ≡ false → find_seal ss n ≡ find_seal ss' n → find_seal (put_seal ss r) n ≡ find_seal (put_seal ss' r') n
  seal_put ss ss' r r' n same rows out old =
      row_at-row_put keyed.seals.total seal_key ss r n ∙ by (eq_by_cmp nat_cmp n r.receipt) refl ∙ sym (row_at-row_put keyed.seals.total seal_key ss' r' n)
    where
      by : (b : Bool) → eq_by_cmp nat_cmp n r.receipt ≡ b → cond b (Some r) (find_seal ss n) ≡ cond (eq_by_cmp nat_cmp n r'.receipt) (Some r') (find_seal ss' n)
      by true e =
          let at : n ≡ r.receipt = Rattle.office_base.proofs.ExactKeys.equal_keys keyed.seals.exact n r.receipt e in
          let own : r ≡ r' = rows (ap W (sym at) ∙ out) in
          ap Some own ∙ ap (λ b. cond b (Some r') (find_seal ss' n)) (sym (ap (eq_by_cmp nat_cmp n) (sym same) ∙ e))
      by false e = old ∙ ap (λ b. cond b (Some r') (find_seal ss' n)) (sym (ap (eq_by_cmp nat_cmp n) (sym same) ∙ e))

  seal_drop : (ss ss' : List SealRow) (k n : ℕ) → IsInOrder nat_cmp seal_key ss → IsInOrder nat_cmp seal_key ss' → find_seal ss n ≡ find_seal ss' n → find_seal (drop_seal ss k) n ≡ find_seal (drop_seal ss' k) n
  seal_drop ss ss' k n o o' old = row_at-row_drop keyed.seals ss k n o ∙ (ap (cond (eq_by_cmp nat_cmp n k) None) old ∙ sym (row_at-row_drop keyed.seals ss' k n o'))

  -- a put that is the same in both worlds leaves them alike
  same_put : (p : Put) (s s' : Tables) → AlikeIn th W s s' → IsPlain p → IsSorted s → IsSorted s' → AlikeIn th W (after_put p s) (after_put p s')
  same_put (puts.DropSeal k) s s' a plain o o' = record { but_sealed = ap (λ (t : Tables). record t { envelopes = s'.envelopes; seals = drop_seal s'.seals k }) a.but_sealed; envelopes = a.envelopes; seals = λ n out. seal_drop s.seals s'.seals k n o.seals o'.seals (a.seals n out) }
  same_put (puts.Envelope e) s s' a plain o o' = absurd plain
  same_put (puts.Seal r) s s' a plain o o' = absurd plain
  same_put p s s' a plain o o' = record { but_sealed = ap (after_put p) a.but_sealed; envelopes = a.envelopes; seals = a.seals }

  envelope_put : (e e' : EnvelopeRow) (s s' : Tables) → AlikeIn th W s s' → Alike th W e e' → AlikeIn th W (after_put (puts.Envelope e) s) (after_put (puts.Envelope e') s')
  envelope_put e e' s s' a b = record { but_sealed = ap (λ (t : Tables). record t { envelopes = put_envelope s'.envelopes e'; seals = s'.seals }) a.but_sealed; envelopes = pairs-put s.envelopes s'.envelopes e e' a.envelopes b; seals = a.seals }

  seal_both : (r r' : SealRow) (s s' : Tables) → AlikeIn th W s s' → r.receipt ≡ r'.receipt → (W r.receipt ≡ false → r ≡ r') → AlikeIn th W (after_put (puts.Seal r) s) (after_put (puts.Seal r') s')
  seal_both r r' s s' a same rows = record { but_sealed = ap (λ (t : Tables). record t { envelopes = s'.envelopes; seals = put_seal s'.seals r' }) a.but_sealed; envelopes = a.envelopes; seals = λ n out. seal_put s.seals s'.seals r r' n same rows out (a.seals n out) }

  -- puts of two worlds that are alike
  pub data PutPair (p p' : Put) : Type 0 where
    Plain : IsPlain p → p ≡ p' → PutPair p p'
    TwoEnvelopes : (e e' : EnvelopeRow) → puts.Envelope e ≡ p → puts.Envelope e' ≡ p' → Alike th W e e' → PutPair p p'
    TwoSeals : (r r' : SealRow) → puts.Seal r ≡ p → puts.Seal r' ≡ p' → r.receipt ≡ r'.receipt → (W r.receipt ≡ false → r ≡ r') → PutPair p p'

  pair_put : (p p' : Put) (s s' : Tables) → PutPair p p' → AlikeIn th W s s' → IsSorted s → IsSorted s' → AlikeIn th W (after_put p s) (after_put p' s')
  pair_put p p' s s' (Plain plain same) a o o' = subst (λ q. AlikeIn th W (after_put p s) (after_put q s')) same (same_put p s s' a plain o o')
  pair_put p p' s s' (TwoEnvelopes e e' is is' b) a o o' = subst (λ q. AlikeIn th W (after_put q s) (after_put p' s')) is (subst (λ q. AlikeIn th W (after_put (puts.Envelope e) s) (after_put q s')) is' (envelope_put e e' s s' a b))
  pair_put p p' s s' (TwoSeals r r' is is' same rows) a o o' = subst (λ q. AlikeIn th W (after_put q s) (after_put p' s')) is (subst (λ q. AlikeIn th W (after_put (puts.Seal r) s) (after_put q s')) is' (seal_both r r' s s' a same rows))

  pub pair_puts : (ps ps' : List Put) (s s' : Tables) → Pairs PutPair ps ps' → AlikeIn th W s s' → IsSorted s → IsSorted s' → AlikeIn th W (after_puts ps s) (after_puts ps' s')
  pair_puts [] [] s s' all a o o' = a
  pair_puts [] (p' ∷ ps') s s' all a o o' = absurd all
  pair_puts (p ∷ ps) [] s s' all a o o' = absurd all
  pair_puts (p ∷ ps) (p' ∷ ps') s s' all a o o' = pair_puts ps ps' (after_put p s) (after_put p' s') all.1 (pair_put p p' s s' all.0 a o o') (sorted-put p s o) (sorted-put p' s' o')

  pub plain_pairs : (ps : List Put) → AllByRecursion IsPlain ps → Pairs PutPair ps ps
  plain_pairs [] h = tt
  plain_pairs (p ∷ ps) h = (Plain h.0 refl, plain_pairs ps h.1)

  pub pairs-append : (ps ps' qs qs' : List Put) → Pairs PutPair ps ps' → Pairs PutPair qs qs' → Pairs PutPair (ps ++ qs) (ps' ++ qs')
  pairs-append [] [] qs qs' a b = b
  pairs-append [] (p' ∷ ps') qs qs' a b = absurd a
  pairs-append (p ∷ ps) [] qs qs' a b = absurd a
  pairs-append (p ∷ ps) (p' ∷ ps') qs qs' a b = (a.0, pairs-append ps ps' qs qs' a.1 b)

  pub pairs-map : {X Y : Type 0} (R : X → Y → Type 0) (f : X → Put) (g : Y → Put) (xs : List X) (ys : List Y) → Pairs R xs ys → ((x : X) (y : Y) → R x y → PutPair (f x) (g y)) → Pairs PutPair (map f xs) (map g ys)
  pairs-map R f g [] [] a h = tt
  pairs-map R f g [] (y ∷ ys) a h = absurd a
  pairs-map R f g (x ∷ xs) [] a h = absurd a
  pairs-map R f g (x ∷ xs) (y ∷ ys) a h = (h x y a.0, pairs-map R f g xs ys a.1 h)

  -- a change that keeps the digest, the owner and the receipt leaves rows alike
  pub alike-set : (g : EnvelopeRow → EnvelopeRow) → ((e : EnvelopeRow) (d : List ℕ) → g (record e { digest = d }) ≡ record (g e) { digest = d }) → ((e : EnvelopeRow) → (g e).digest ≡ e.digest)
      → ((e : EnvelopeRow) → is_theirs th (g e) ≡ is_theirs th e) → ((e : EnvelopeRow) → (g e).receipt ≡ e.receipt) → (e e' : EnvelopeRow) → Alike th W e e' → Alike th W (g e) (g e')
  alike-set g sets keeps own key e e' a = record {
    rows = record {
      but_digest = ap g a.rows.but_digest ∙ (sets e e'.digest ∙ ap (λ d. record (g e) { digest = d }) (sym (keeps e')));
      digest = λ out. keeps e' ∙ (a.rows.digest (sym (own e) ∙ out) ∙ sym (keeps e));
    };
    own = own e ∙ (a.own ∙ ap W (sym (key e)));
  }

-- such puts of rows are the same in both worlds
pub plain-map : {X : Type 0} (make : X → Put) (xs : List X) → ((x : X) → IsPlain (make x)) → AllByRecursion IsPlain (map make xs)
plain-map make [] h = tt
plain-map make (x ∷ xs) h = (h x, plain-map make xs h)

pub plain-append : (ps qs : List Put) → AllByRecursion IsPlain ps → AllByRecursion IsPlain qs → AllByRecursion IsPlain (ps ++ qs)
plain-append [] qs a b = b
plain-append (p ∷ ps) qs a b = (a.0, plain-append ps qs a.1 b)

pub plain-if : {X : Type 0} (make : X → Put) (o : Option X) → ((x : X) → IsPlain (make x)) → AllByRecursion IsPlain (put_if make o)
plain-if make None h = tt
plain-if make (Some x) h = (h x, tt)
