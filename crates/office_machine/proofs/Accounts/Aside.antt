-- Commands that move nothing, and puts that touch none of the books: lines, lots, awards, contracts and entries.
use Rattle.office_machine.proofs.Names.{◌≡◌, ℕ, ◌-◌, ◌≤◌, List, [], ◌∷◌, ◌++◌, map, filter, Option, Some, None, refl, sym, ◌∙◌, ap, subst, arith, AllByRecursion, SecurityRow, Tables, after_put, after_puts, Put, security_returned, is_held_security, securities_returned, put_if, ReleaseRow, Given, Means, publication_puts, effect, next, publication, moves, moves_by, reserved_for, brought, brought_by, taken, taken_by}
use Rattle.office_base.specs.declared.puts.Put.TheVariants as puts
use Rattle.office_machine.proofs.Accounts.Kept.{AccountsStand, PotsAre}
use Rattle.office_machine.proofs.Rows.Keyed as keyed

-- the put is of no book, and a clock has at least n numbers of awards
abbrev pub IsAside : ℕ → Put → Type 0
IsAside n (puts.Line r) = ⊥
IsAside n (puts.Lot r) = ⊥
IsAside n (puts.Award r) = ⊥
IsAside n (puts.Contract r) = ⊥
IsAside n (puts.Entry r) = ⊥
IsAside n (puts.Clock r) = n ≤ r.awards
IsAside n _ = Unit {0}

abbrev pub AreAside : ℕ → List Put → Type 0
AreAside n ps = AllByRecursion (IsAside n) ps

-- the books of the two offices are equal: lines, lots, awards, contracts and entries
pub record SameBooks (n : ℕ) (s s' : Tables) : Type 0 where
  pub lines : s.lines ≡ s'.lines
  pub lots : s.lots ≡ s'.lots
  pub awards : s.awards ≡ s'.awards
  pub contracts : s.contracts ≡ s'.contracts
  pub entries : s.entries ≡ s'.entries
  pub numbers : n ≤ s.clock.awards → n ≤ s'.clock.awards

one_aside : (n : ℕ) (p : Put) (s : Tables) → IsAside n p → SameBooks n s (after_put p s)
one_aside n (puts.Line r) s a = absurd a
one_aside n (puts.Notice r) s a = record { lines = refl; lots = refl; awards = refl; contracts = refl; entries = refl; numbers = λ h. h }
one_aside n (puts.Lot r) s a = absurd a
one_aside n (puts.Award r) s a = absurd a
one_aside n (puts.Contract r) s a = absurd a
one_aside n (puts.Entry r) s a = absurd a
one_aside n (puts.Clock r) s a = record { lines = refl; lots = refl; awards = refl; contracts = refl; entries = refl; numbers = λ h. a }
one_aside n _ s a = record { lines = refl; lots = refl; awards = refl; contracts = refl; entries = refl; numbers = λ h. h }

-- puts aside leave the books as they are
pub all_aside : (n : ℕ) (ps : List Put) (s : Tables) → AreAside n ps → SameBooks n s (after_puts ps s)
all_aside n [] s a = record { lines = refl; lots = refl; awards = refl; contracts = refl; entries = refl; numbers = λ h. h }
all_aside n (p ∷ ps) s a =
    let one = one_aside n p s a.0 in
    let more = all_aside n ps (after_put p s) a.1 in
    record {
      lines = one.lines ∙ more.lines;
      lots = one.lots ∙ more.lots;
      awards = one.awards ∙ more.awards;
      contracts = one.contracts ∙ more.contracts;
      entries = one.entries ∙ more.entries;
      numbers = λ h. more.numbers (one.numbers h);
    }

-- the accounts of an office are those of an office with the same books
pub kept_alike : (xs : List Given) (s s' : Tables) → SameBooks s.clock.awards s s' → AccountsStand xs s → AccountsStand xs s'
kept_alike xs s s' same kept = subst (AccountsStand xs) path mixed
  where
    mixed : AccountsStand xs (record s' { lines = s.lines; lots = s.lots; awards = s.awards; contracts = s.contracts; entries = s.entries })
    mixed = record {
      pots = λ q. let p = kept.pots q in record { appropriation_is = p.appropriation_is; free_is = p.free_is; reserved_is = p.reserved_is; gains_are = p.gains_are; losses_are = p.losses_are; paid_is = p.paid_is; none_spent = p.none_spent };
      lots = kept.lots;
      awards = λ a w h. let old = kept.awards a w h in record { drawn = let more = same.numbers (omega arith) in omega (arith, old.drawn, more); of_lot = old.of_lot };
      one_active = kept.one_active;
      contracts = λ c r h. let old = kept.contracts c r h in record { of_award = old.of_award; running = old.running; within = old.within; came_in = old.came_in; went_out = old.went_out };
      no_contract = λ c h. let old = kept.no_contract c h in record { came_in = old.came_in; went_out = old.went_out; raised = old.raised; lessened = old.lessened; paid_out = old.paid_out };
    }

    path : record s' { lines = s.lines; lots = s.lots; awards = s.awards; contracts = s.contracts; entries = s.entries } ≡ s'
    path = λ i. record s' { lines = same.lines i; lots = same.lots i; awards = same.awards i; contracts = same.contracts i; entries = same.entries i }

-- puts aside keep the accounts
pub kept_aside : (xs : List Given) (ps : List Put) (s : Tables) → AreAside s.clock.awards ps → AccountsStand xs s → AccountsStand xs (after_puts ps s)
kept_aside xs ps s a kept = kept_alike xs s (after_puts ps s) (all_aside s.clock.awards ps s a) kept

pub aside-append : (n : ℕ) (ps qs : List Put) → AreAside n ps → AreAside n qs → AreAside n (ps ++ qs)
aside-append n [] qs a b = b
aside-append n (p ∷ ps) qs a b = (a.0, aside-append n ps qs a.1 b)

pub aside-map : {X : Type 0} (n : ℕ) (make : X → Put) (xs : List X) → ((x : X) → IsAside n (make x)) → AreAside n (map make xs)
aside-map n make [] h = tt
aside-map n make (x ∷ xs) h = (h x, aside-map n make xs h)

pub aside-if : {X : Type 0} (n : ℕ) (make : X → Put) (o : Option X) → ((x : X) → IsAside n (make x)) → AreAside n (put_if make o)
aside-if n make None h = tt
aside-if n make (Some x) h = (h x, tt)

pub aside-securities : (n : ℕ) (rows : List SecurityRow) → AreAside n (securities_returned rows)
aside-securities n rows = aside-map n security_returned (filter is_held_security rows) (λ _. tt)

pub after-append : (ps qs : List Put) (s : Tables) → after_puts (ps ++ qs) s ≡ after_puts qs (after_puts ps s)
after-append [] qs s = refl
after-append (p ∷ ps) qs s = after-append ps qs (after_put p s)

-- the put of a release is aside
pub published_aside : (n : ℕ) (p : Option ReleaseRow) → AreAside n (publication_puts p)
published_aside n None = tt
published_aside n (Some p) = (tt, tt)

pub kept_published : (means : Means) (x : Given) (xs : List Given) → AccountsStand (x ∷ xs) (after_puts (effect means.readings x) x.before) → AccountsStand (x ∷ xs) (next means x)
kept_published means x xs kept =
    subst (AccountsStand (x ∷ xs)) (sym (after-append (effect means.readings x) (publication_puts (publication means x)) x.before))
    (kept_aside (x ∷ xs) (publication_puts (publication means x)) (after_puts (effect means.readings x) x.before) (published_aside _ (publication means x)) kept)

-- the command moves no money, and changes no amount that is held or owed
pub record IsIdle (x : Given) (xs : List Given) : Type 0 where
  pub moves_none : moves_by x xs ≡ []
  pub held : (lot : List ℕ × List ℕ) → reserved_for (x ∷ xs) lot ≡ reserved_for xs lot
  pub none_brought : (c : ℕ) → brought_by x.before x.command (reserved_for xs) c ≡ 0
  pub none_taken : (c : ℕ) → taken_by x.command (brought xs c - taken xs c) c ≡ 0

pub kept_idle : (x : Given) (xs : List Given) (s : Tables) → IsIdle x xs → AccountsStand xs s → AccountsStand (x ∷ xs) s
kept_idle x xs s idle kept = record {
  pots = λ q. subst (λ ms. PotsAre ms s q) (sym (ap (λ ms. ms ++ moves xs) idle.moves_none)) (kept.pots q);
  lots = λ k l h e. idle.held k ∙ kept.lots k l h e;
  awards = kept.awards;
  one_active = kept.one_active;
  contracts = λ c r h. let old = kept.contracts c r h in record { of_award = old.of_award; running = old.running; within = old.within; came_in = omega (arith, old.came_in, idle.none_brought c); went_out = omega (arith, old.went_out, idle.none_taken c) };
  no_contract = λ c h. let old = kept.no_contract c h in record { came_in = omega (arith, old.came_in, idle.none_brought c); went_out = omega (arith, old.went_out, idle.none_taken c); raised = old.raised; lessened = old.lessened; paid_out = old.paid_out };
}
