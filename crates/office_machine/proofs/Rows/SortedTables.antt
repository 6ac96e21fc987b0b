-- The tables of a reached office are in the order of their keys.
use Rattle.office_machine.proofs.Names.{List, Tables, IsSorted, Means, Given, Reaches, puts_of, sorted-puts}
use Rattle.office_machine.proofs.Runs.{along}

pub sorted : (means : Means) (xs : List Given) (t : Tables) → Reaches means xs t → IsSorted t
sorted means = along means (λ xs t. IsSorted t) (record { lines = tt; batches = tt; tenderers = tt; notices = tt; lots = tt; envelopes = tt; seals = tt; securities = tt; awards = tt; contracts = tt; entries = tt; releases = tt; compiled = tt; late_rules = tt; performances = tt })
    (λ merges in_order xs t of_notices h. record { lines = h.lines; batches = h.batches; tenderers = h.tenderers; notices = h.notices; lots = h.lots; envelopes = h.envelopes; seals = h.seals; securities = h.securities; awards = h.awards; contracts = h.contracts; entries = h.entries; releases = h.releases; compiled = in_order; late_rules = h.late_rules; performances = h.performances })
    (λ xs x accepted h. sorted-puts (puts_of means x) x.before h)
