-- Worked events of the notice N1 of the City Office, which has one lot with one item, and the texts of their releases. `src/examples.rt` states the texts.
use Rattle.std.specs.Prelude.{ℕ, List, [], ◌∷◌, codes, unwrap_or}
use Rattle.serde_json.specs.Data.{Data, null}
use Rattle.serde_json.specs.Read.{read}
use Rattle.serde_json.specs.Written.{compact_text}
use Rattle.office_values.specs.declared.settings.Publisher.{Publisher}
use Rattle.office_commands.specs.declared.lot.NewLot.{NewLot}
use Rattle.office_commands.specs.declared.notice.Criteria.TheVariants.{Price}
use Rattle.office_commands.specs.declared.contract.ChangeKind.TheVariants.{Raise}
use Rattle.ocds_release.specs.declared.tender_status.TenderStatus.TheVariants as statuses
use Rattle.ocds_release.specs.declared.event.Event.{Event}
use Rattle.ocds_release.specs.declared.event.Event.TheVariants.{Publish, Amend, Open, Award, NoAward, Fail, Cancel, Sign, AmendContract, Pay, End}
use Rattle.ocds_release.specs.Events.{release_of_event}
use Rattle.ocds_release.specs.Packages.{release_package, record_package}

-- the publisher of the examples
abbrev pub city : Publisher
city = record {
  prefix = codes "ocds-a1b2c3";
  currency = codes "EUR";
  language = codes "en";
  base = codes "http://127.0.0.1:8080";
  name = codes "City Office";
  extensions = [];
  buyer = record { id = codes "city"; name = codes "City Office" };
}

-- the text of an event's release
abbrev pub text_of : ℕ → ℕ → Event → List ℕ
text_of seq t e = compact_text (release_of_event city seq t e)

abbrev pub n1 : List ℕ
n1 = codes "N1"

abbrev pub l1 : List ℕ
l1 = codes "L1"

-- the lot of N1; its deadline is 2026-03-01T12:00:00Z
abbrev pub north : NewLot
north = record {
  id = l1;
  title = codes "North";
  line = codes "1000";
  estimate = 600;
  security = 50;
  items = record { id = codes "I1"; title = codes "Paving"; quantity = 3 } ∷ [];
}

abbrev pub road_repair : Event
road_repair = Publish (record { notice = n1; title = codes "Road repair"; deadline = 1772366400; criteria = Price; lots = north ∷ [] })

abbrev pub more_time : Event
more_time = Amend (record { notice = n1; before = 1772366400; after = 1772712000; rationale = codes "More time" })

abbrev pub two_tenderers : Event
two_tenderers = Open (record {
  notice = n1;
  tenderers = record { id = codes "T1"; name = codes "Alpha"; address = codes "High Street 1" }
      ∷ record { id = codes "T2"; name = codes "Beta"; address = codes "Low Street 2" } ∷ [];
})

-- an opening without tenders
abbrev pub no_tenderers : Event
no_tenderers = Open (record { notice = n1; tenderers = [] })

abbrev pub alpha_wins : Event
alpha_wins = Award (record { notice = n1; award = 1; lot = l1; winner = record { id = codes "T1"; name = codes "Alpha" }; price = 500 })

abbrev pub nobody_wins : Event
nobody_wins = NoAward (record { notice = n1; lot = l1; status = statuses.Unsuccessful })

abbrev pub alpha_fails : Event
alpha_fails = Fail (record { notice = n1; award = 1 })

-- a cancellation while the notice was receiving tenders
abbrev pub no_need : Event
no_need = Cancel (record { notice = n1; lots = l1 ∷ []; awards = []; rationale = codes "No need"; status = statuses.Cancelled })

-- a cancellation of two lots, one of which was awarded; a third lot has its contract
abbrev pub no_need_after_award : Event
no_need_after_award = Cancel (record {
  notice = n1;
  lots = l1 ∷ codes "L2" ∷ [];
  awards = 1 ∷ [];
  rationale = codes "No need";
  status = statuses.Complete;
})

abbrev pub alpha_signs : Event
alpha_signs = Sign (record { notice = n1; contract = 1; lot = l1; price = 500; status = statuses.Complete })

abbrev pub more_paving : Event
more_paving = AmendContract (record {
  notice = n1;
  contract = 1;
  entry = codes "A1";
  kind = Raise;
  amount = 50;
  value = 550;
  rationale = codes "More paving";
})

abbrev pub first_payment : Event
first_payment = Pay (record { notice = n1; contract = 1; entry = codes "P1"; amount = 300; payee = record { id = codes "T1"; name = codes "Alpha" } })

abbrev pub all_done : Event
all_done = End (record { notice = n1; contract = 1 })

-- the value of a JSON text
abbrev pub read_value : List ℕ → Data
read_value text = unwrap_or (read text) null

-- the City Office with an extension
abbrev pub city_with_lots : Publisher
city_with_lots = record city { extensions = codes "https://example.org/lots" ∷ [] }

-- the package of the first release alone
abbrev pub first_package : List ℕ
first_package = compact_text (release_package city n1 (release_of_event city 1 1769936400 road_repair ∷ []))

-- two releases; the packages read only their dates
abbrev pub earlier_release : Data
earlier_release = read_value (codes "{\"date\":\"2026-02-01T09:00:00Z\"}")

abbrev pub later_release : Data
later_release = read_value (codes "{\"date\":\"2026-02-10T09:00:00Z\",\"ocid\":\"ocds-a1b2c3-N1\"}")

abbrev pub small_release_package : List ℕ
small_release_package = compact_text (release_package city_with_lots n1 (earlier_release ∷ later_release ∷ []))

abbrev pub small_record_package : List ℕ
small_record_package = compact_text (record_package city_with_lots n1 (earlier_release ∷ later_release ∷ [])
    (read_value (codes "{\"ocid\":\"ocds-a1b2c3-N1\",\"tag\":[\"compiled\"]}")))
