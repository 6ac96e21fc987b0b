-- Rows agree with the fates, and still do after a command.
use Rattle.office_machine.proofs.Names.{◌≡◌, ℕ, ◌+◌, ◌≤◌, ◌<◌, ◌⊎◌, Bool, true, false, cond, List, Option, Some, None, option_map, refl, sym, ap, ◌∙◌, subst, inl, inr, arith, nat_cmp, eq_by_cmp, is_eq, nat_cmp_total, tied_itself, NamedSecurity, Reception, is_kept, EnvelopeIs, SecurityIs, EnvelopeRow, SealRow, EnvelopeState, SecurityRow, SecurityState}
use Rattle.office_machine.proofs.FateLaws.Views.{before}
use Rattle.office_machine.proofs.FateLaws.Added.{added, added_is}

pub same_itself : (n : ℕ) → eq_by_cmp nat_cmp n n ≡ true
same_itself n = ap is_eq (tied_itself nat_cmp_total n)

module _ (digest_of : List ℕ → List ℕ) where
  pub record EnvelopeStands (r : ℕ) (x : Option Reception) (fate : Option EnvelopeState) (e : EnvelopeRow) (seal : Option SealRow) : Type 0 where
    pub came : Reception
    pub came_is : x ≡ Some came
    pub stands : EnvelopeIs digest_of r came fate e seal

  pub record NoneStands (x : Option Reception) (fate : Option EnvelopeState) (seal : Option SealRow) : Type 0 where
    pub no_reception : x ≡ None
    pub no_fate : fate ≡ None
    pub no_seal : seal ≡ None

  pub record EnvelopesMatch (came : ℕ → Option Reception) (fate : ℕ → Option EnvelopeState) (K : ℕ → Option SealRow) (n : ℕ) (E : ℕ → Option EnvelopeRow) : Type 0 where
    pub received : (r : ℕ) (e : EnvelopeRow) → E r ≡ Some e → EnvelopeStands r (came r) (fate r) e (K r)
    pub others : (r : ℕ) → E r ≡ None → NoneStands (came r) (fate r) (K r)
    pub given : (r : ℕ) (e : EnvelopeRow) → E r ≡ Some e → (1 ≤ r) × (r ≤ n)
    pub all : (r : ℕ) → E r ≡ None → (n < r) ⊎ (r ≡ 0)

  pub record EnvelopeKeeps (f : ℕ → EnvelopeRow → EnvelopeRow) : Type 0 where
    pub notice : (r : ℕ) (e : EnvelopeRow) → (f r e).notice ≡ e.notice
    pub lot : (r : ℕ) (e : EnvelopeRow) → (f r e).lot ≡ e.lot
    pub tenderer : (r : ℕ) (e : EnvelopeRow) → (f r e).tenderer ≡ e.tenderer
    pub security : (r : ℕ) (e : EnvelopeRow) → (f r e).security ≡ e.security
    pub moment : (r : ℕ) (e : EnvelopeRow) → (f r e).moment ≡ e.moment
    pub len : (r : ℕ) (e : EnvelopeRow) → (f r e).length ≡ e.length
    pub digest : (r : ℕ) (e : EnvelopeRow) → (f r e).digest ≡ e.digest

  is_none-map : {X : Type 0} (f : X → X) (o : Option X) → option_map f o ≡ None → o ≡ None
  is_none-map f None h = refl
  is_none-map f (Some x) h = let no : Some (f x) ≡ None = h in cc

  -- the state of an old row and its seal agree with its fate after a command
  pub record GoesOn (r : ℕ) (x : Reception) (fate fate' : Option EnvelopeState) (seal seal' : Option SealRow) (e d : EnvelopeRow) : Type 0 where
    pub fate_is : fate' ≡ Some d.state
    pub seal_is : seal' ≡ cond (is_kept d.state) (Some (record { receipt = r; bytes = x.bytes })) None

  module _ (came came' : ℕ → Option Reception) (fate fate' : ℕ → Option EnvelopeState) (K K' : ℕ → Option SealRow) (n : ℕ)
      (E : ℕ → Option EnvelopeRow)
      (m : EnvelopesMatch came fate K n E) (f : ℕ → EnvelopeRow → EnvelopeRow) (keeps : EnvelopeKeeps f) where
    goes : (r : ℕ) (e : EnvelopeRow) → came' r ≡ came r → EnvelopeStands r (came r) (fate r) e (K r)
        → ((x : Reception) → came r ≡ Some x → EnvelopeIs digest_of r x (fate r) e (K r) → GoesOn r x (fate r) (fate' r) (K r) (K' r) e (f r e))
        → EnvelopeStands r (came' r) (fate' r) (f r e) (K' r)
    goes r e same was on =
        let is = was.stands in
        let now = on was.came was.came_is is in
        record {
          came = was.came;
          came_is = same ∙ was.came_is;
          stands = record {
            of_notice = keeps.notice r e ∙ is.of_notice;
            of_lot = keeps.lot r e ∙ is.of_lot;
            of_tenderer = keeps.tenderer r e ∙ is.of_tenderer;
            security_is = keeps.security r e ∙ is.security_is;
            moment_is = keeps.moment r e ∙ is.moment_is;
            length_is = keeps.len r e ∙ is.length_is;
            digest_is = keeps.digest r e ∙ is.digest_is;
            fate_is = now.fate_is;
            seal_is = now.seal_is;
          };
        }

    -- a command that takes in no tender
    module _ (same : (r : ℕ) → came' r ≡ came r)
        (on : (r : ℕ) (e : EnvelopeRow) → E r ≡ Some e → (x : Reception) → came r ≡ Some x → EnvelopeIs digest_of r x (fate r) e (K r) → GoesOn r x (fate r) (fate' r) (K r) (K' r) e (f r e))
        (none : (r : ℕ) → E r ≡ None → NoneStands (came r) (fate r) (K r) → NoneStands (came' r) (fate' r) (K' r)) where
      pub envelopes_changed : EnvelopesMatch came' fate' K' n (λ r. option_map (f r) (E r))
      envelopes_changed = record {
        received = λ r e h.
            let b = before (f r) (E r) e h in
            subst (λ e. EnvelopeStands r (came' r) (fate' r) e (K' r)) b.is (goes r b.old (same r) (m.received r b.old b.was) (on r b.old b.was));
        others = λ r h. let none_was = is_none-map (f r) (E r) h in none r none_was (m.others r none_was);
        given = λ r e h. let b = before (f r) (E r) e h in m.given r b.old b.was;
        all = λ r h. m.all r (is_none-map (f r) (E r) h);
      }

    -- a command that takes a tender in
    module _ (x : EnvelopeRow) (same : (r : ℕ) → eq_by_cmp nat_cmp r (n + 1) ≡ false → came' r ≡ came r)
        (on : (r : ℕ) (e : EnvelopeRow) → eq_by_cmp nat_cmp r (n + 1) ≡ false → E r ≡ Some e → (y : Reception) → came r ≡ Some y → EnvelopeIs digest_of r y (fate r) e (K r)
        → GoesOn r y (fate r) (fate' r) (K r) (K' r) e (f r e))
        (none : (r : ℕ) → eq_by_cmp nat_cmp r (n + 1) ≡ false → E r ≡ None → NoneStands (came r) (fate r) (K r) → NoneStands (came' r) (fate' r) (K' r))
        (new : EnvelopeStands (n + 1) (came' (n + 1)) (fate' (n + 1)) x (K' (n + 1))) where
      abbrev E' : ℕ → Option EnvelopeRow
      E' r = option_map (f r) (E r)

      none_by : (r : ℕ) (b : Bool) → eq_by_cmp nat_cmp r (n + 1) ≡ b → cond b (Some x) (E' r) ≡ None
          → (eq_by_cmp nat_cmp r (n + 1) ≡ false) × (E r ≡ None)
      none_by r true e h = cc
      none_by r false e h = (e, is_none-map (f r) (E r) h)

      above : (r : ℕ) → eq_by_cmp nat_cmp r (n + 1) ≡ false → (n < r) ⊎ (r ≡ 0) → (n + 1 < r) ⊎ (r ≡ 0)
      above r e (inr zero) = inr zero
      above r e (inl more) = inl (further (r_is r))
        where
          r_is : (q : ℕ) → (q ≡ n + 1 → ⊥) ⊎ (q ≡ n + 1)
          r_is q = grind arith

          further : (r ≡ n + 1 → ⊥) ⊎ (r ≡ n + 1) → n + 1 < r
          further (inl other) = grind (arith, other, more)
          further (inr is) = let no : eq_by_cmp nat_cmp r (n + 1) ≡ true = ap (λ r. eq_by_cmp nat_cmp r (n + 1)) is ∙ same_itself (n + 1) in cc

      pub envelopes_received : EnvelopesMatch came' fate' K' (n + 1) (added (n + 1) x E')
      envelopes_received = record {
        received = λ r e h.
            elim (added_is r (n + 1) x e E' h) as (λ _. EnvelopeStands r (came' r) (fate' r) e (K' r)) [
              | inl it ↦ subst (λ e. EnvelopeStands r (came' r) (fate' r) e (K' r)) it.1 (subst (λ r. EnvelopeStands r (came' r) (fate' r) x (K' r)) (sym it.0) new)
              | inr old ↦
                  let b = before (f r) (E r) e old.1 in
                  subst (λ e. EnvelopeStands r (came' r) (fate' r) e (K' r)) b.is (goes r b.old (same r old.0) (m.received r b.old b.was) (on r b.old old.0 b.was))
            ];
        others = λ r h. let was = none_by r (eq_by_cmp nat_cmp r (n + 1)) refl h in none r was.0 was.1 (m.others r was.1);
        given = λ r e h.
            elim (added_is r (n + 1) x e E' h) as (λ _. (1 ≤ r) × (r ≤ n + 1)) [
              | inl it ↦ (omega (arith, it.0), omega (arith, it.0))
              | inr old ↦ let b = before (f r) (E r) e old.1 in let g = m.given r b.old b.was in (g.0, omega (arith, g.1))
            ];
        all = λ r h. let was = none_by r (eq_by_cmp nat_cmp r (n + 1)) refl h in above r was.0 (m.all r was.1);
      }

-- the security that was named with a receipt
abbrev pub named_in : Option Reception → Option NamedSecurity
named_in None = None
named_in (Some c) = c.named

pub record SecurityStands (s : ℕ) (came : Option Reception) (fate : Option SecurityState) (w : SecurityRow) : Type 0 where
  pub came_with : Reception
  pub came_is : came ≡ Some came_with
  pub named : NamedSecurity
  pub named_is : came_with.named ≡ Some named
  pub stands : SecurityIs s came_with named fate w

pub record NoSecurity (came : Option Reception) (fate : Option SecurityState) : Type 0 where
  pub none_named : named_in came ≡ None
  pub no_fate : fate ≡ None

pub record SecuritiesMatch (came : ℕ → Option Reception) (fate : ℕ → Option SecurityState) (S : ℕ → Option SecurityRow) : Type 0 where
  pub there : (s : ℕ) (w : SecurityRow) → S s ≡ Some w → SecurityStands s (came s) (fate s) w
  pub none : (s : ℕ) → S s ≡ None → NoSecurity (came s) (fate s)

pub record SecurityKeeps (g : ℕ → SecurityRow → SecurityRow) : Type 0 where
  pub number : (s : ℕ) (w : SecurityRow) → (g s w).security ≡ w.security
  pub notice : (s : ℕ) (w : SecurityRow) → (g s w).notice ≡ w.notice
  pub lot : (s : ℕ) (w : SecurityRow) → (g s w).lot ≡ w.lot
  pub tenderer : (s : ℕ) (w : SecurityRow) → (g s w).tenderer ≡ w.tenderer
  pub reference : (s : ℕ) (w : SecurityRow) → (g s w).reference ≡ w.reference
  pub amount : (s : ℕ) (w : SecurityRow) → (g s w).amount ≡ w.amount

none-map : {X : Type 0} (f : X → X) (o : Option X) → option_map f o ≡ None → o ≡ None
none-map f None h = refl
none-map f (Some x) h = let no : Some (f x) ≡ None = h in cc

module _ (came came' : ℕ → Option Reception) (fate fate' : ℕ → Option SecurityState) (S : ℕ → Option SecurityRow)
    (m : SecuritiesMatch came fate S) where
  module _ (g : ℕ → SecurityRow → SecurityRow) (keeps : SecurityKeeps g)
      (same : (s : ℕ) (w : SecurityRow) → S s ≡ Some w → came' s ≡ came s)
      (on : (s : ℕ) (w : SecurityRow) → S s ≡ Some w → (x : Reception) (named : NamedSecurity) → came s ≡ Some x → x.named ≡ Some named → SecurityIs s x named (fate s) w → fate' s ≡ Some (g s w).state)
      (none : (s : ℕ) → S s ≡ None → NoSecurity (came s) (fate s) → NoSecurity (came' s) (fate' s)) where
    security_goes : (s : ℕ) (w : SecurityRow) → S s ≡ Some w → SecurityStands s (came s) (fate s) w → SecurityStands s (came' s) (fate' s) (g s w)
    security_goes s w found was =
        let is = was.stands in
        record {
          came_with = was.came_with;
          came_is = same s w found ∙ was.came_is;
          named = was.named;
          named_is = was.named_is;
          stands = record {
            number_is = keeps.number s w ∙ is.number_is;
            of_notice = keeps.notice s w ∙ is.of_notice;
            of_lot = keeps.lot s w ∙ is.of_lot;
            of_tenderer = keeps.tenderer s w ∙ is.of_tenderer;
            reference_is = keeps.reference s w ∙ is.reference_is;
            amount_is = keeps.amount s w ∙ is.amount_is;
            fate_is = on s w found was.came_with was.named was.came_is was.named_is is;
          };
        }

    pub securities_changed : SecuritiesMatch came' fate' (λ s. option_map (g s) (S s))
    securities_changed = record {
      there = λ s w h.
          let b = before (g s) (S s) w h in subst (SecurityStands s (came' s) (fate' s)) b.is (security_goes s b.old b.was (m.there s b.old b.was));
      none = λ s h. let was = none-map (g s) (S s) h in none s was (m.none s was);
    }

  -- a security is named
  module _ (k : ℕ) (x : SecurityRow) (same : (s : ℕ) → eq_by_cmp nat_cmp s k ≡ false → came' s ≡ came s)
      (fate_same : (s : ℕ) (w : SecurityRow) → eq_by_cmp nat_cmp s k ≡ false → S s ≡ Some w → fate s ≡ Some w.state → fate' s ≡ Some w.state)
      (none_same : (s : ℕ) → eq_by_cmp nat_cmp s k ≡ false → S s ≡ None → NoSecurity (came s) (fate s) → NoSecurity (came' s) (fate' s))
      (new : SecurityStands k (came' k) (fate' k) x) where
    stays : (s : ℕ) (w : SecurityRow) → eq_by_cmp nat_cmp s k ≡ false → S s ≡ Some w → SecurityStands s (came s) (fate s) w
        → SecurityStands s (came' s) (fate' s) w
    stays s w other found was =
        let is = was.stands in
        record {
          came_with = was.came_with;
          came_is = same s other ∙ was.came_is;
          named = was.named;
          named_is = was.named_is;
          stands = record {
            number_is = is.number_is;
            of_notice = is.of_notice;
            of_lot = is.of_lot;
            of_tenderer = is.of_tenderer;
            reference_is = is.reference_is;
            amount_is = is.amount_is;
            fate_is = fate_same s w other found is.fate_is;
          };
        }

    absent_by : (s : ℕ) (b : Bool) → eq_by_cmp nat_cmp s k ≡ b → cond b (Some x) (S s) ≡ None → (eq_by_cmp nat_cmp s k ≡ false) × (S s ≡ None)
    absent_by s true e h = cc
    absent_by s false e h = (e, h)

    pub securities_added : SecuritiesMatch came' fate' (added k x S)
    securities_added = record {
      there = λ s w h.
          elim (added_is s k x w S h) as (λ _. SecurityStands s (came' s) (fate' s) w) [
            | inl it ↦ subst (SecurityStands s (came' s) (fate' s)) it.1 (subst (λ s. SecurityStands s (came' s) (fate' s) x) (sym it.0) new)
            | inr old ↦ stays s w old.0 old.1 (m.there s w old.1)
          ];
      none = λ s h. let was = absent_by s (eq_by_cmp nat_cmp s k) refl h in none_same s was.0 was.1 (m.none s was.1);
    }
