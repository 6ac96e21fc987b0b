-- Changes keep the rows of each table in the order of their keys.
use Rattle.office_base.proofs.Names.{List, [], ◌∷◌, nat_list_cmp_total, nat_cmp_total, Tables, IsSorted, after_put, after_puts, line_key, batch_key, tenderer_key, notice_key, lot_key, envelope_key, seal_key, security_key, award_key, contract_key, entry_key, release_key, compiled_key, late_key, performance_key, Put}
use Rattle.office_base.specs.declared.puts.Put.TheVariants as puts
use Rattle.office_base.proofs.Orders.{lots_total, entries_total, releases_total}
use Rattle.office_base.proofs.RowLaws.{in_order-put, in_order-drop}

pub sorted-put : (p : Put) (t : Tables) → IsSorted t → IsSorted (after_put p t)
sorted-put (puts.Line r) t h = record { lines = in_order-put nat_list_cmp_total line_key t.lines r h.lines; batches = h.batches; tenderers = h.tenderers; notices = h.notices; lots = h.lots; envelopes = h.envelopes; seals = h.seals; securities = h.securities; awards = h.awards; contracts = h.contracts; entries = h.entries; releases = h.releases; compiled = h.compiled; late_rules = h.late_rules; performances = h.performances }
sorted-put (puts.Batch r) t h = record { lines = h.lines; batches = in_order-put nat_list_cmp_total batch_key t.batches r h.batches; tenderers = h.tenderers; notices = h.notices; lots = h.lots; envelopes = h.envelopes; seals = h.seals; securities = h.securities; awards = h.awards; contracts = h.contracts; entries = h.entries; releases = h.releases; compiled = h.compiled; late_rules = h.late_rules; performances = h.performances }
sorted-put (puts.Tenderer r) t h = record { lines = h.lines; batches = h.batches; tenderers = in_order-put nat_list_cmp_total tenderer_key t.tenderers r h.tenderers; notices = h.notices; lots = h.lots; envelopes = h.envelopes; seals = h.seals; securities = h.securities; awards = h.awards; contracts = h.contracts; entries = h.entries; releases = h.releases; compiled = h.compiled; late_rules = h.late_rules; performances = h.performances }
sorted-put (puts.Notice r) t h = record { lines = h.lines; batches = h.batches; tenderers = h.tenderers; notices = in_order-put nat_list_cmp_total notice_key t.notices r h.notices; lots = h.lots; envelopes = h.envelopes; seals = h.seals; securities = h.securities; awards = h.awards; contracts = h.contracts; entries = h.entries; releases = h.releases; compiled = h.compiled; late_rules = h.late_rules; performances = h.performances }
sorted-put (puts.Lot r) t h = record { lines = h.lines; batches = h.batches; tenderers = h.tenderers; notices = h.notices; lots = in_order-put lots_total lot_key t.lots r h.lots; envelopes = h.envelopes; seals = h.seals; securities = h.securities; awards = h.awards; contracts = h.contracts; entries = h.entries; releases = h.releases; compiled = h.compiled; late_rules = h.late_rules; performances = h.performances }
sorted-put (puts.Envelope r) t h = record { lines = h.lines; batches = h.batches; tenderers = h.tenderers; notices = h.notices; lots = h.lots; envelopes = in_order-put nat_cmp_total envelope_key t.envelopes r h.envelopes; seals = h.seals; securities = h.securities; awards = h.awards; contracts = h.contracts; entries = h.entries; releases = h.releases; compiled = h.compiled; late_rules = h.late_rules; performances = h.performances }
sorted-put (puts.Seal r) t h = record { lines = h.lines; batches = h.batches; tenderers = h.tenderers; notices = h.notices; lots = h.lots; envelopes = h.envelopes; seals = in_order-put nat_cmp_total seal_key t.seals r h.seals; securities = h.securities; awards = h.awards; contracts = h.contracts; entries = h.entries; releases = h.releases; compiled = h.compiled; late_rules = h.late_rules; performances = h.performances }
sorted-put (puts.DropSeal n) t h = record { lines = h.lines; batches = h.batches; tenderers = h.tenderers; notices = h.notices; lots = h.lots; envelopes = h.envelopes; seals = in_order-drop nat_cmp_total seal_key t.seals n h.seals; securities = h.securities; awards = h.awards; contracts = h.contracts; entries = h.entries; releases = h.releases; compiled = h.compiled; late_rules = h.late_rules; performances = h.performances }
sorted-put (puts.Security r) t h = record { lines = h.lines; batches = h.batches; tenderers = h.tenderers; notices = h.notices; lots = h.lots; envelopes = h.envelopes; seals = h.seals; securities = in_order-put nat_cmp_total security_key t.securities r h.securities; awards = h.awards; contracts = h.contracts; entries = h.entries; releases = h.releases; compiled = h.compiled; late_rules = h.late_rules; performances = h.performances }
sorted-put (puts.Award r) t h = record { lines = h.lines; batches = h.batches; tenderers = h.tenderers; notices = h.notices; lots = h.lots; envelopes = h.envelopes; seals = h.seals; securities = h.securities; awards = in_order-put nat_cmp_total award_key t.awards r h.awards; contracts = h.contracts; entries = h.entries; releases = h.releases; compiled = h.compiled; late_rules = h.late_rules; performances = h.performances }
sorted-put (puts.Contract r) t h = record { lines = h.lines; batches = h.batches; tenderers = h.tenderers; notices = h.notices; lots = h.lots; envelopes = h.envelopes; seals = h.seals; securities = h.securities; awards = h.awards; contracts = in_order-put nat_cmp_total contract_key t.contracts r h.contracts; entries = h.entries; releases = h.releases; compiled = h.compiled; late_rules = h.late_rules; performances = h.performances }
sorted-put (puts.Entry r) t h = record { lines = h.lines; batches = h.batches; tenderers = h.tenderers; notices = h.notices; lots = h.lots; envelopes = h.envelopes; seals = h.seals; securities = h.securities; awards = h.awards; contracts = h.contracts; entries = in_order-put entries_total entry_key t.entries r h.entries; releases = h.releases; compiled = h.compiled; late_rules = h.late_rules; performances = h.performances }
sorted-put (puts.Release r) t h = record { lines = h.lines; batches = h.batches; tenderers = h.tenderers; notices = h.notices; lots = h.lots; envelopes = h.envelopes; seals = h.seals; securities = h.securities; awards = h.awards; contracts = h.contracts; entries = h.entries; releases = in_order-put releases_total release_key t.releases r h.releases; compiled = h.compiled; late_rules = h.late_rules; performances = h.performances }
sorted-put (puts.Compiled r) t h = record { lines = h.lines; batches = h.batches; tenderers = h.tenderers; notices = h.notices; lots = h.lots; envelopes = h.envelopes; seals = h.seals; securities = h.securities; awards = h.awards; contracts = h.contracts; entries = h.entries; releases = h.releases; compiled = in_order-put nat_list_cmp_total compiled_key t.compiled r h.compiled; late_rules = h.late_rules; performances = h.performances }
sorted-put (puts.Late r) t h = record { lines = h.lines; batches = h.batches; tenderers = h.tenderers; notices = h.notices; lots = h.lots; envelopes = h.envelopes; seals = h.seals; securities = h.securities; awards = h.awards; contracts = h.contracts; entries = h.entries; releases = h.releases; compiled = h.compiled; late_rules = in_order-put nat_list_cmp_total late_key t.late_rules r h.late_rules; performances = h.performances }
sorted-put (puts.Performance r) t h = record { lines = h.lines; batches = h.batches; tenderers = h.tenderers; notices = h.notices; lots = h.lots; envelopes = h.envelopes; seals = h.seals; securities = h.securities; awards = h.awards; contracts = h.contracts; entries = h.entries; releases = h.releases; compiled = h.compiled; late_rules = h.late_rules; performances = in_order-put nat_cmp_total performance_key t.performances r h.performances }
sorted-put (puts.Clock r) t h = record { lines = h.lines; batches = h.batches; tenderers = h.tenderers; notices = h.notices; lots = h.lots; envelopes = h.envelopes; seals = h.seals; securities = h.securities; awards = h.awards; contracts = h.contracts; entries = h.entries; releases = h.releases; compiled = h.compiled; late_rules = h.late_rules; performances = h.performances }

pub sorted-puts : (ps : List Put) (t : Tables) → IsSorted t → IsSorted (after_puts ps t)
sorted-puts [] t h = h
sorted-puts (p ∷ ps) t h = sorted-puts ps (after_put p t) (sorted-put p t h)
