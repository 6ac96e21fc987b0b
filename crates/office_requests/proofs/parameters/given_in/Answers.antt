use Rattle.office_requests.proofs.Names.{◌∙◌, IfOk-at_ok, given_in}
use Rattle.office_requests.proofs.ParameterSteps.{one_pair, no_pair}
use Rattle.office_requests.proofs.parameters.given_in.Goals as goal

pub pairs-preserved-in_ok-key : goal.pairs-preserved-in_ok-key
pairs-preserved-in_ok-key g c =
    let (name, value, left, texts) = c.in-Some.ensures.steps.0 in
    let texts = IfOk-at_ok _ c.in_ok-key.was texts in
    rw c.with_pair-given.ensures (
    one_pair g.T.FromText.of_text c.args.name.now c.pairs.given (given_in g.T.FromText.of_text c.args.name.now c.args.query.now) _ name value _ _ _ left
    (c.as_str.ensures.value ∙ texts.0.2) (c.as_str-in-pairs.ensures.value ∙ texts.1.2) c.pairs.invariant)

pub pairs-preserved : goal.pairs-preserved
pairs-preserved g c =
    let (name, value, left, texts) = c.in-Some.ensures.steps.0 in
    let texts = IfOk-at_ok _ c.in_ok-key.was texts in
    rw c.with_pair-given.ensures (
    one_pair g.T.FromText.of_text c.args.name.now c.pairs.given (given_in g.T.FromText.of_text c.args.name.now c.args.query.now) _ name value _ _ _ left
    (c.as_str.ensures.value ∙ texts.0.2) (c.as_str-in-pairs.ensures.value ∙ texts.1.2) c.pairs.invariant)

pub returns : goal.returns
returns g c = no_pair g.T.FromText.of_text c.args.name.now c.pairs.given _ _ c.in-None.ensures.steps.0 c.pairs.invariant
