-- Each command that publishes has a release.
use Rattle.office_publications.proofs.Names.{Option, Some, None, option_map, IsSome, refl, Command, Fail, Sign, AmendContract, Pay, End, Tables, award_at, contract_at, published_for, event_of, ReleasesAreMade, text_by}

same_there : {X Y Z : Type 0} (f : X → Y) (g : X → Z) (o : Option X) → IsSome (option_map f o) → IsSome (option_map g o)
same_there f g None h = h
same_there f g (Some x) h = refl

-- a command that publishes is an event
has_event : (s : Tables) (command : Command) → IsSome (published_for s command) → IsSome (event_of s command)
has_event s (Fail award) h = same_there _ _ (award_at award s) h
has_event s (Sign award named) h = same_there _ _ (award_at award s) h
has_event s (AmendContract contract entry kind amount rationale) h = same_there _ _ (contract_at contract s) h
has_event s (Pay contract entry amount) h = same_there _ _ (contract_at contract s) h
has_event s (End contract how) h = same_there _ _ (contract_at contract s) h
has_event s _ h = h

mapped : {X Y : Type 0} (f : X → Y) (o : Option X) → IsSome o → IsSome (option_map f o)
mapped f None h = h
mapped f (Some x) h = refl

pub releases_made : ReleasesAreMade
releases_made publisher x published = mapped (text_by publisher x) (event_of x.before x.command) (has_event x.before x.command published)
