-- The keys of a parent's rows are those between the least and the greatest key that begin with the parent's.
use Rattle.office_memory.proofs.Names.{◌≡◌, ℕ, ◌<◌, ◌-◌, ◌^◌, Bool, true, false, not, ◌&&◌, List, refl, sym, ap, ◌∙◌, arith, IsTotalOrder, nat_cmp, ordering_then, is_eq, is_le, is_lt, is_gt, Ordering, Less, Equal, Greater, and-true, and_from, not_from_false, nat_tests, IsId, id_cmp, least, greatest, same_key}
use Rattle.office_memory.proofs.IdBounds.{is_le-least, is_lt-greatest, least-greatest}

-- a pair is between two pairs with equal first parts exactly if its first part equals theirs and its second part is between theirs
begins_alike : (c low high : Ordering) → is_le (ordering_then c low) && not (is_lt (ordering_then c high)) ≡ is_eq c && (is_le low && not (is_lt high))
begins_alike Less low high = refl
begins_alike Equal low high = refl
begins_alike Greater low high = refl

module _ {A B : Type 0} (R : A → A → Ordering) (S : B → B → Ordering) where
  -- if the second part of a pair is between two values, the pair is between those of `p` and these values exactly if its first part is `p`
  pub between_ends : (same : A → A → Bool) → IsTotalOrder R → ((x y : A) → same x y ≡ is_eq (R x y)) → (low high : B) (p a : A) (b : B) → is_le (S low b) ≡ true → is_lt (S high b) ≡ false
      → is_le (ordering_then (R p a) (S low b)) && not (is_lt (ordering_then (R p a) (S high b))) ≡ same a p
  between_ends same total ties low high p a b above below =
      begins_alike (R p a) (S low b) (S high b)
      ∙ ap (λ c. is_eq (R p a) && c) (and_from _ _ above (not_from_false _ below))
      ∙ and-true (is_eq (R p a))
      ∙ equal_both_ways
      ∙ sym (ties a p)
    where
      reversed : (c : Ordering) → is_eq (Rattle.std.specs.Ordering.ordering_reverse c) ≡ is_eq c
      reversed Less = refl
      reversed Equal = refl
      reversed Greater = refl

      equal_both_ways : is_eq (R p a) ≡ is_eq (R a p)
      equal_both_ways = ap is_eq (total.antisymm p a) ∙ reversed (R a p)

  pub ends_in_order : IsTotalOrder R → (low high : B) → is_gt (S low high) ≡ false → (p : A) → is_gt (ordering_then (R p p) (S low high)) ≡ false
  ends_in_order total low high up p = ap (λ c. is_gt (ordering_then c (S low high))) (same_key total p) ∙ up

module _ {A : Type 0} {R : A → A → Ordering} (total : IsTotalOrder R) where
  -- the case of pairs that end with an identifier
  pub between_ids : {same : A → A → Bool} → ((x y : A) → same x y ≡ is_eq (R x y)) → (p a : A) (b : List ℕ) → IsId b
      → is_le (ordering_then (R p a) (id_cmp least b)) && not (is_lt (ordering_then (R p a) (id_cmp greatest b))) ≡ same a p
  between_ids {same} ties p a b h = between_ends R id_cmp same total ties least greatest p a b (is_le-least b h) (is_lt-greatest b h)

  pub ids_in_order : (p : A) → is_gt (ordering_then (R p p) (id_cmp least greatest)) ≡ false
  ids_in_order p = ends_in_order R id_cmp total least greatest (ap is_gt least-greatest) p

  -- the case of pairs that end with a number of 64 bits
  pub between_numbers : {same : A → A → Bool} → ((x y : A) → same x y ≡ is_eq (R x y)) → (p a : A) (b : ℕ) → b < 2 ^ 64
      → is_le (ordering_then (R p a) (nat_cmp 0 b)) && not (is_lt (ordering_then (R p a) (nat_cmp (2 ^ 64 - 1) b))) ≡ same a p
  between_numbers {same} ties p a b h = between_ends R nat_cmp same total ties 0 (2 ^ 64 - 1) p a b (grind (arith, nat_tests)) (grind (arith, nat_tests))

  pub numbers_in_order : (p : A) → is_gt (ordering_then (R p p) (nat_cmp 0 (2 ^ 64 - 1))) ≡ false
  numbers_in_order p = ends_in_order R nat_cmp total 0 (2 ^ 64 - 1) refl p
