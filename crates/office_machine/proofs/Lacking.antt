-- In a reached office, no row is missing that an accepted command needs.
use Rattle.office_machine.proofs.Names.{◌≡◌, ℕ, true, cond, List, Option, Some, None, IsSome, is_some, ◌∙◌, ap, Tables, envelope_at, seal_at, EnvelopeRow, EnvelopeState, SealRow, is_kept, NothingIsLacking, Given, Means, Reaches}
use Rattle.office_machine.proofs.Accounts.AccountsKept.{all_kept}
use Rattle.office_machine.proofs.Commands.{lawful}
use Rattle.office_machine.proofs.FateLaws.FatesHold.{FatesStand}
use Rattle.office_machine.proofs.FateLaws.FatesKept.{all_kept as fates_kept}
use Rattle.office_machine.proofs.FateLaws.NextReceipt.{no_envelope_yet, no_security_yet, nothing_yet}
use Rattle.office_machine.proofs.FateLaws.PerformancesKept.{performances_there}
use Rattle.office_machine.proofs.Parents.ParentsThere.{parents_there}
use Rattle.office_machine.proofs.Parents.Whole.{IsWhole}
use Rattle.office_machine.proofs.Passed.{allowed_by}
use Rattle.office_machine.proofs.Rows.SortedTables.{sorted}

-- A tender that is sealed or opened has its seal.
seal_kept : (st : EnvelopeState) (seal : SealRow) → is_kept st ≡ true → is_some (let o : Option SealRow = cond (is_kept st) (Some seal) None in o) ≡ true
seal_kept st seal is = ap (λ b. let o : Option SealRow = cond b (Some seal) None in is_some o) is

seals_there : (means : Means) (xs : List Given) (s : Tables) → FatesStand means.readings xs s → (n : ℕ) (e : EnvelopeRow) → envelope_at n s ≡ Some e → is_kept e.state ≡ true
    → IsSome (seal_at n s)
seals_there means xs s kept n e is sealed =
    let stands = (kept.tenders.received n e is).stands in
    ap is_some stands.seal_is ∙ seal_kept e.state _ sealed

whole : (means : Means) (xs : List Given) (s : Tables) → Reaches means xs s → IsWhole xs s
whole means xs s reached = record {
  parents = parents_there means xs s reached;
  performances = performances_there means xs s reached;
  accounts = all_kept means xs s reached;
  order = sorted means xs s reached;
  unused = no_envelope_yet means.readings xs s (fates_kept means xs s reached);
  no_seal = (nothing_yet means.readings xs s (fates_kept means xs s reached)).no_seal;
  no_security = no_security_yet means.readings xs s (fates_kept means xs s reached);
  seals = seals_there means xs s (fates_kept means xs s reached);
}

pub none_lacking : NothingIsLacking
none_lacking means xs x reached allowed = (lawful x.command).lacks xs x.before x.moment x.caller (whole means xs x.before reached) (allowed_by x allowed)
