use Rattle.office_plans.proofs.Names.{◌≡◌, ◌+◌, ◌∷◌, [], List, ℕ, length, drop, true, sym, ap, ◌∙◌, arith, drop_all, drop_more, numbers}
use Rattle.office_plans.proofs.OneByOne.{are_from, are_numbers, as_many, first_is, numbers_are}
use Rattle.office_plans.proofs.release_numbers.are_numbers_to.Goals as goal

pub returns-then-found-count-clause-other : goal.returns-then-found-count-clause-other
returns-then-found-count-clause-other c differs are =
    let many : length c.args.found.now ≡ c.args.count = ap length are ∙ as_many c.args.count 1 in
    absurd (c.if-found-count.true many)

pub returns-then-get-next-clause-other : goal.returns-then-get-next-clause-other
returns-then-get-next-clause-other c differs are =
    let found : List ℕ = c.args.found.now in
    let at = c.loop-number.number-index in
    let next = c.loop-number.next in
    let all : are_from next (drop at found) ≡ true = c.loop-number.invariant.1 ∙ ap (are_from 1) are ∙ numbers_are c.args.count 1 in
    let split = sym (ap (are_from next) (drop_more found at c.number-item.result c.loop-number-test.true)) ∙ all in
    absurd (c.if-get-next.true (c.get.ensures.value ∙ c.number-item.is ∙ first_is next _ _ split))

pub returns-clause-all : goal.returns-clause-all
returns-clause-all c same =
    let found : List ℕ = c.args.found.now in
    let at = c.loop-number.number-index in
    let none : drop at found ≡ [] = drop_all at found (omega (arith, c.loop-number-test.false)) in
    let all : are_from 1 found ≡ true = sym c.loop-number.invariant.1 ∙ ap (are_from c.loop-number.next) none in
    let many : length found ≡ c.args.count = omega (arith, c.if-found-count.false) in
    are_numbers 1 found all ∙ ap (numbers 1) many
