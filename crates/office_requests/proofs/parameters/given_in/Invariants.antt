use Rattle.office_requests.proofs.Names.{◌≡◌, pairs_left, given_from, given_in}
use Rattle.office_requests.proofs.parameters.given_in.Given as goal

abbrev pub invariant-pairs : goal.invariant-pairs
invariant-pairs g l =
    given_from g.T.FromText.of_text l.name l.given (pairs_left l.pair-iterator) ≡ given_in g.T.FromText.of_text l.name l.query
