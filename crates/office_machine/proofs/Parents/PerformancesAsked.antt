-- After a command, an earlier contract still has the performance security that its notice asks for.
use Rattle.office_machine.proofs.Names.{◌≡◌, ℕ, ◌<◌, List, Option, Some, None, IsSome, sym, ap, ◌∙◌, subst, inl, inr, arith, Put, NoticeRow, ContractRow, PerformanceRow, Tables, find_notice, find_performance, notice_at, contract_at, performance_at, after_puts, HaveParents, HavePerformances}
use Rattle.office_machine.proofs.Commands.Footprint.{TableName}
use Rattle.office_machine.proofs.Commands.Tail.{AsksAsBefore, CountsNext, HasTail, with_notice, with_performance}
use Rattle.office_machine.proofs.Passed.{witness}
use Rattle.office_machine.proofs.Rows.Keyed.{found, still_there}
use Rattle.office_machine.proofs.Rows.Keyed as keyed

one_row : {X : Type 0} (o : Option X) (a b : X) → o ≡ Some a → o ≡ Some b → a ≡ b
one_row o a b e f = let same : Some a ≡ Some b = sym e ∙ f in cc

-- a notice that existed still asks for the same performance security
asked_by : (s : Tables) (key : Option (List ℕ)) (row : Option NoticeRow) → CountsNext s key row → (q : List ℕ) (n m : NoticeRow)
    → find_notice (with_notice row s.notices) q ≡ Some n → notice_at q s ≡ Some m → n.performance ≡ m.performance
asked_by s key None counts q n m at was = ap (λ (n : NoticeRow). n.performance) (one_row (notice_at q s) n m at was)
asked_by s None (Some row) counts q n m at was = absurd counts
asked_by s (Some k) (Some row) counts q n m at was =
    elim (found keyed.notices s.notices row q n at) as (λ _. n.performance ≡ m.performance) [
      | inl p ↦
          let here : notice_at k s ≡ Some m = ap (λ k. notice_at k s) (sym counts.0 ∙ sym p.0) ∙ was in
          let same : row.performance ≡ m.performance = subst (λ o. AsksAsBefore o row) here counts.3 in
          ap (λ (n : NoticeRow). n.performance) p.1 ∙ same
      | inr p ↦ ap (λ (n : NoticeRow). n.performance) (one_row (notice_at q s) n m p.1 was)
    ]

there_by : (bond : Option PerformanceRow) (rows : List PerformanceRow) (k : ℕ) → IsSome (find_performance rows k) → IsSome (find_performance (with_performance bond rows) k)
there_by None rows k there = there
there_by (Some w) rows k there = still_there keyed.performances rows w k there

module _ {s : Tables} {t : ℕ} {names : List TableName} {key : Option (List ℕ)} {bond : Option PerformanceRow} (ps : List Put) (tail : HasTail s t names key bond ps) where
  pub asks_as_before : (q : List ℕ) (n m : NoticeRow) → notice_at q (after_puts ps s) ≡ Some n → notice_at q s ≡ Some m → n.performance ≡ m.performance
  asks_as_before q n m at was = asked_by s key tail.notice tail.counts q n m (ap (λ rows. find_notice rows q) (sym (tail.writes.notices s)) ∙ at) was

  pub of_old : HaveParents s s → HavePerformances s → (k : ℕ) (c r : ContractRow) (n : NoticeRow) → contract_at k s ≡ Some r → r.notice ≡ c.notice
      → notice_at c.notice (after_puts ps s) ≡ Some n → 0 < n.performance → IsSome (performance_at k (after_puts ps s))
  of_old have asked k c r n is same at more =
      let m = witness (notice_at r.notice s) (have.contracts k r is).notice in
      let as_before = asks_as_before r.notice n m.0 (ap (λ q. notice_at q (after_puts ps s)) same ∙ at) m.1 in
      subst (λ rows. IsSome (find_performance rows k)) (sym (tail.writes.performances s))
      (there_by bond s.performances k (asked k r m.0 is m.1 (omega (arith, as_before, more))))
