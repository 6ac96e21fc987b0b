use Rattle.office_wire.proofs.RequestLemmas as lemmas
use Rattle.office_wire.proofs.request.one_meaning.Goals as goal

pub returns : goal.returns
returns c input = lemmas.one_meaning input
