-- No money is lost between the balances of a line.
use Rattle.office_machine.proofs.Names.{◌≡◌, ℕ, ◌+◌, ◌-◌, ◌≤◌, Bool, true, false, cond, ◌&&◌, List, [], ◌∷◌, refl, arith, same_id, sum_over, ContractRow, Tables, IsSorted, plus, minus, outstanding, paid_under, is_on_line, Given, Move, Pot, Outside, Free, Reserved, Contracted, Paid, inflow, outflow, same_pot, moves, appropriation, free, IsBalanced}
use Rattle.office_machine.proofs.Accounts.Kept.{AccountsStand, reserved_over, over_contracts}
use Rattle.office_machine.proofs.Accounts.Joins.{reserved_is_over, contracted_is_over, paid_is_over}
use Rattle.office_machine.proofs.Rows.Keyed.{sum-found_le, sum-found_agree}
use Rattle.office_machine.proofs.Rows.Keyed as by

-- an amount is in exactly one place
in_one : (p : Pot) (b : Bool) (n : ℕ)
    → cond (same_pot p Outside && b) n 0 + cond (same_pot p Free && b) n 0 + cond (same_pot p Reserved && b) n 0 + cond (same_pot p Contracted && b) n 0 + cond (same_pot p Paid && b) n 0
    ≡ cond b n 0
in_one Outside b n = omega arith
in_one Free b n = omega arith
in_one Reserved b n = omega arith
in_one Contracted b n = omega arith
in_one Paid b n = omega arith

-- all that came into the places left another place
pub conserved : (ms : List Move) (q : List ℕ)
    → inflow ms q Outside + inflow ms q Free + inflow ms q Reserved + inflow ms q Contracted + inflow ms q Paid
    ≡ outflow ms q Outside + outflow ms q Free + outflow ms q Reserved + outflow ms q Contracted + outflow ms q Paid
conserved [] q = refl
conserved (m ∷ ms) q = omega (arith, conserved ms q, in_one m.to (same_id m.line q) m.amount, in_one m.from (same_id m.line q) m.amount)

at_most : (b : Bool) (m n : ℕ) → m ≤ n → cond b m 0 ≤ cond b n 0
at_most true m n h = h
at_most false m n h = omega arith

-- no more was taken from the contracts of a line than was brought into them
pub covered : (xs : List Given) (s : Tables) → AccountsStand xs s → IsSorted s → (q : List ℕ) → over_contracts (minus s.entries) s.lots s.contracts q ≤ over_contracts (plus s.entries) s.lots s.contracts q
covered xs s kept order q =
    sum-found_le by.contracts _ _ s.contracts order.contracts (λ r h. at_most (is_on_line s.lots q r) (minus s.entries r) (plus s.entries r) (kept.contracts r.contract r h).within)

joined : (b : Bool) (p m : ℕ) → m ≤ p → cond b (p - m) 0 + cond b m 0 ≡ cond b p 0
joined true p m h = omega (arith, h)
joined false p m h = refl

sum-both : {X : Type 0} (f g : X → ℕ) (xs : List X) → sum_over (λ x. f x + g x) xs ≡ sum_over f xs + sum_over g xs
sum-both f g [] = refl
sum-both f g (x ∷ xs) = omega (arith, sum-both f g xs)

-- the outstanding amount of the line's contracts is this difference
pub net : (xs : List Given) (s : Tables) → AccountsStand xs s → IsSorted s → (q : List ℕ)
    → over_contracts (outstanding s.entries) s.lots s.contracts q + over_contracts (minus s.entries) s.lots s.contracts q ≡ over_contracts (plus s.entries) s.lots s.contracts q
net xs s kept order q =
    let f : ContractRow → ℕ = λ c. cond (is_on_line s.lots q c) (outstanding s.entries c) 0 in
    let g : ContractRow → ℕ = λ c. cond (is_on_line s.lots q c) (minus s.entries c) 0 in
    let h : ContractRow → ℕ = λ c. cond (is_on_line s.lots q c) (plus s.entries c) 0 in
    omega (
      arith,
      sum-both f g s.contracts,
      sum-found_agree by.contracts (λ c. f c + g c) h s.contracts order.contracts
          (λ r found. joined (is_on_line s.lots q r) (plus s.entries r) (minus s.entries r) (kept.contracts r.contract r found).within),
    )

pub add_up : (xs : List Given) (s : Tables) → AccountsStand xs s → IsSorted s → (q : List ℕ)
    → appropriation q s ≡ free q s + reserved_over q s.lots + over_contracts (outstanding s.entries) s.lots s.contracts q + over_contracts (paid_under s.entries) s.lots s.contracts q
add_up xs s kept order q =
    let p = kept.pots q in
    omega (arith, conserved (moves xs) q, net xs s kept order q, p.free_is, p.reserved_is, p.gains_are, p.losses_are, p.paid_is, p.none_spent, p.appropriation_is)

-- each balance of a line follows from the moves
pub balanced : (xs : List Given) (s : Tables) → AccountsStand xs s → IsSorted s → (q : List ℕ) → IsBalanced q xs s
balanced xs s kept order q =
    let p = kept.pots q in
    record {
      appropriation_is = p.appropriation_is;
      free_is = p.free_is;
      reserved_is = omega (arith, p.reserved_is, reserved_is_over q s);
      contracted_is = omega (arith, p.gains_are, p.losses_are, net xs s kept order q, contracted_is_over q s);
      paid_is = omega (arith, p.paid_is, p.none_spent, paid_is_over q s);
      adds_up = omega (arith, add_up xs s kept order q, reserved_is_over q s, contracted_is_over q s, paid_is_over q s);
    }
