-- Worked examples: a request for each route, and one for each kind of fault, with the commands, queries and refusals that they lead to.
use Rattle.std.specs.Prelude.{◌≡◌, ℕ, true, List, [], ◌∷◌, ◌++◌, codes, replicate, Option, Some, None, Result, Ok, Err}
use Rattle.office_values.specs.declared.refusal.BadPart.{BadPart}
use Rattle.office_values.specs.declared.refusal.BadPart.TheVariants as parts
use Rattle.office_values.specs.declared.refusal.Field.TheVariants as fields
use Rattle.office_values.specs.declared.refusal.Refusal.{Refusal}
use Rattle.office_values.specs.declared.refusal.Refusal.TheVariants.{NoRoute, WrongMethod, Forbidden, BadBody}
use Rattle.office_commands.specs.declared.command.Caller.{Caller}
use Rattle.office_commands.specs.declared.command.Caller.TheVariants.{Public, Clerk, Tenderer}
use Rattle.office_commands.specs.declared.commands.Command.{Command}
use Rattle.office_commands.specs.declared.commands.Command.TheVariants as commands
use Rattle.office_commands.specs.declared.contract.ChangeKind.TheVariants.{Cut}
use Rattle.office_commands.specs.declared.contract.How.TheVariants.{ForDefault}
use Rattle.office_commands.specs.declared.notice.Criteria.TheVariants.{Price}
use Rattle.office_commands.specs.declared.notice.LateWithdrawal.TheVariants.{Refused, Forfeits}
use Rattle.office_commands.specs.declared.notice.NewNotice.{NewNotice}
use Rattle.office_commands.specs.declared.queries.Query.{Query}
use Rattle.office_commands.specs.declared.queries.Query.TheVariants as queries
use Rattle.office_wire.specs.Request.{RequestView}
use Rattle.office_requests.specs.Asking.{asked_by_route}
use Rattle.office_requests.specs.Routing.{routed}
use Rattle.office_requests.specs.declared.asked.Asked.{Asked}
use Rattle.office_requests.specs.declared.asked.Asked.TheVariants.{Does, Looks}
use Rattle.office_requests.specs.declared.route.Allow.{Allow}
use Rattle.office_requests.specs.declared.route.Allow.TheVariants.{Get, Post}
use Rattle.office_requests.specs.declared.route.Route.{Route}

-- A request with this method, target and body.
abbrev pub request_with : List ℕ → List ℕ → List ℕ → RequestView
request_with method target body = record { head = record { method = method; target = target; fields = [] }; body = body }

-- The command or query that a caller asks for by a route, if the request has one.
abbrev pub by_route : Caller → RequestView → Result Route (Refusal × Option Allow) → Result Asked Refusal
by_route caller request (Ok route) = asked_by_route caller route request
by_route caller request (Err why) = Err why.0

-- The command or query that a caller asks for by a request.
abbrev pub meaning : Caller → RequestView → Result Asked Refusal
meaning caller request = by_route caller request (routed request.head.method request.head.target)

-- The clerk gives this command.
abbrev pub ClerkDoes : List ℕ → List ℕ → Command → Type 0
ClerkDoes target body command = meaning Clerk (request_with (codes "POST") target body) ≡ Ok (Does command)

-- A tenderer gives this command.
abbrev pub TendererDoes : List ℕ → List ℕ → Command → Type 0
TendererDoes target body command = meaning (Tenderer (codes "T1")) (request_with (codes "POST") target body) ≡ Ok (Does command)

-- A caller asks this query.
abbrev pub Sees : Caller → List ℕ → Query → Type 0
Sees caller target query = meaning caller (request_with (codes "GET") target []) ≡ Ok (Looks query)

-- A body from the clerk is refused, and the refusal names this part.
abbrev pub Refuses : List ℕ → List ℕ → BadPart → Type 0
Refuses target body part = meaning Clerk (request_with (codes "POST") target body) ≡ Err (BadBody part)

-- A tender is refused, and the refusal names this part of its query string or its body.
abbrev pub RefusesTender : List ℕ → List ℕ → BadPart → Type 0
RefusesTender target body part = meaning (Tenderer (codes "T1")) (request_with (codes "POST") target body) ≡ Err (BadBody part)

-- A query is refused, and the refusal names this part of its query string.
abbrev pub RefusesLook : Caller → List ℕ → BadPart → Type 0
RefusesLook caller target part = meaning caller (request_with (codes "GET") target []) ≡ Err (BadBody part)

-- No route has this path.
abbrev pub IsNoPath : List ℕ → Type 0
IsNoPath target = routed (codes "GET") target ≡ Err (NoRoute, None)

-- The body of a publication with these criteria and these lots.
abbrev pub publication_with : List ℕ → List ℕ → List ℕ
publication_with criteria lots =
    codes "{\"title\":\"Road repair\",\"deadline\":\"2026-03-01T12:00:00Z\",\"validity_days\":90,\"standstill_days\":10,"
    ++ criteria ++ codes ",\"lots\":[" ++ lots ++ codes "]}"

-- The price alone decides.
abbrev pub by_price : List ℕ
by_price = codes "\"criteria\":\"price\""

-- A lot with these items.
abbrev pub lot_with : List ℕ → List ℕ
lot_with items = codes "{\"id\":\"L1\",\"title\":\"North\",\"line\":\"1000\",\"estimate\":600,\"security\":50,\"items\":[" ++ items ++ codes "]}"

-- An item of a lot.
abbrev pub one_item : List ℕ
one_item = codes "{\"id\":\"I1\",\"title\":\"Paving\",\"quantity\":3}"

-- The content of a publication with one lot of one item, of which the price alone decides; 1772366400 is 2026-03-01T12:00:00Z.
abbrev pub published : NewNotice
published = record {
  title = codes "Road repair";
  deadline = 1772366400;
  validity = 90;
  standstill = 10;
  criteria = Price;
  late_withdrawal = Refused;
  performance = 0;
  lots = record {
    id = codes "L1";
    title = codes "North";
    line = codes "1000";
    estimate = 600;
    security = 50;
    items = record { id = codes "I1"; title = codes "Paving"; quantity = 3 } ∷ [];
  } ∷ [];
}

-- Each route is taken.
pub record RoutesAreTaken : Type 0 where
  pub imports : ClerkDoes (codes "/budget/B1") (codes "line,kind,amount,title\n") (commands.Import (codes "B1") [])
  pub registers : ClerkDoes (codes "/tenderers/T1")
      (codes "{\"name\":\"Ann\",\"address\":\"Road 1\",\"key\":\"00000000000000000000000000000000000000000000000000000000000000fF\"}")
      (commands.Register (codes "T1") (codes "Ann") (codes "Road 1") (replicate 31 0 ++ 255 ∷ []))
  pub publishes_with_late_withdrawals : ClerkDoes (codes "/notices/N1")
      (publication_with (codes "\"criteria\":\"price\",\"late_withdrawal\":\"forfeits\"") (lot_with one_item)) (commands.Publish (codes "N1") (record published { late_withdrawal = Forfeits }))
  pub publishes_with_performance : ClerkDoes (codes "/notices/N1")
      (publication_with (codes "\"criteria\":\"price\",\"performance\":70") (lot_with one_item)) (commands.Publish (codes "N1") (record published { performance = 70 }))
  pub publishes : ClerkDoes (codes "/notices/N1") (publication_with by_price (lot_with one_item)) (commands.Publish (codes "N1") published)
  pub amends : ClerkDoes (codes "/notices/N1/amend") (codes "{\"rationale\":\"late\",\"deadline\":\"1970-01-02T00:00:01Z\",\"more\":[1]}")
      (commands.AmendNotice (codes "N1") 86401 (codes "late"))
  pub cancels : ClerkDoes (codes "/notices/N1/cancel") (codes "{\"rationale\":\"none\"}") (commands.Cancel (codes "N1") (codes "none"))
  pub opens : ClerkDoes (codes "/notices/N1/open") [] (commands.Open (codes "N1"))
  pub presents : TendererDoes (codes "/notices/N1/lots/L1/tenders?x=1&security=G%31&amount=050&x=2") (codes "abc")
      (commands.Present (codes "N1") (codes "L1") (Some (record { reference = codes "G1"; amount = 50 })) (codes "abc"))
  pub presents_alone : TendererDoes (codes "/notices/N1/lots/L1/tenders") (codes "abc") (commands.Present (codes "N1") (codes "L1") None (codes "abc"))
  pub modifies : TendererDoes (codes "/tenders/17/modify") (codes "abc") (commands.Modify 17 (codes "abc"))
  pub withdraws : TendererDoes (codes "/tenders/17/withdraw") [] (commands.Withdraw 17)
  pub examines : ClerkDoes (codes "/tenders/17/examine") (codes "{\"responsive\":true}") (commands.Examine 17 true None)
  pub awards : ClerkDoes (codes "/notices/N1/lots/L1/award") [] (commands.Award (codes "N1") (codes "L1"))
  pub fails : ClerkDoes (codes "/awards/17/fail") [] (commands.Fail 17)
  pub signs : ClerkDoes (codes "/awards/17/sign") [] (commands.Sign 17 None)
  pub signs_with_nothing : ClerkDoes (codes "/awards/17/sign") (codes "{}") (commands.Sign 17 None)
  pub signs_with_a_security : ClerkDoes (codes "/awards/17/sign") (codes "{\"security\":\"P1\",\"amount\":70}") (commands.Sign 17 (Some (record { reference = codes "P1"; amount = 70 })))
  pub amends_contracts : ClerkDoes (codes "/contracts/17/amend") (codes "{\"id\":\"E1\",\"kind\":\"cut\",\"amount\":5,\"rationale\":\"less\"}")
      (commands.AmendContract 17 (codes "E1") Cut 5 (codes "less"))
  pub pays : ClerkDoes (codes "/contracts/17/pay") (codes "{\"id\":\"E1\",\"amount\":5}") (commands.Pay 17 (codes "E1") 5)
  pub ends : ClerkDoes (codes "/contracts/17/end") (codes "{\"how\":\"default\"}") (commands.End 17 ForDefault)
  pub sees_lines : Sees Public (codes "/lines/1000?x=/y") (queries.Line (codes "1000"))
  pub sees_the_ledger : Sees Public (codes "/ledger") queries.Ledger
  pub sees_minutes : Sees Public (codes "/notices/N1/minutes") (queries.Minutes (codes "N1"))
  pub sees_registers : Sees Clerk (codes "/notices/N1/register") (queries.Register (codes "N1"))
  pub sees_releases : Sees Public (codes "/notices/N1/releases") (queries.Releases (codes "N1"))
  pub sees_records : Sees Public (codes "/notices/N1/record") (queries.Record (codes "N1"))
  pub sees_tenders : Sees (Tenderer (codes "T1")) (codes "/tenders/9999999999") (queries.Tender 9999999999)
  pub sees_securities : Sees Clerk (codes "/securities/17") (queries.Security 17)
  pub sees_performance_securities : Sees Clerk (codes "/contracts/17/security") (queries.Performance 17)
  pub sees_notices : Sees Public (codes "/notices") (queries.Notices None)
  pub sees_notices_behind : Sees Public (codes "/notices?x=1&after=N1&x=2") (queries.Notices (Some (codes "N1")))
  pub sees_notices_decoded : Sees Public (codes "/notices?%61fter=N%31") (queries.Notices (Some (codes "N1")))
  pub sees_terms : Sees Public (codes "/notices/N1/terms?after=!") (queries.Terms (codes "N1"))
  pub sees_own_tenders : Sees (Tenderer (codes "T1")) (codes "/notices/N1/tenders") (queries.OwnTenders (codes "N1"))
  pub sees_evaluations : Sees Public (codes "/notices/N1/evaluation") (queries.Evaluation (codes "N1"))
  pub sees_securities_of_a_notice : Sees Clerk (codes "/notices/N1/securities") (queries.Securities (codes "N1"))
  pub sees_tenderers : Sees Clerk (codes "/tenderers") (queries.Tenderers None)
  pub sees_tenderers_behind : Sees Clerk (codes "/tenderers?after=T1") (queries.Tenderers (Some (codes "T1")))
  pub sees_contracts : Sees (Tenderer (codes "T1")) (codes "/contracts/17") (queries.Contract 17)

-- Any other path has no route. A wrong method is refused with the right one. A caller's right is checked before the body is read.
pub record PathsAreRefused : Type 0 where
  pub no_path : IsNoPath (codes "/tenders")
  pub no_notice : IsNoPath (codes "/notices/")
  pub slash_behind : IsNoPath (codes "/lines/1000/")
  pub no_records : IsNoPath (codes "/notices/N1/records")
  pub no_percent : IsNoPath (codes "/lines/a%20b")
  pub leading_zero : IsNoPath (codes "/tenders/01")
  pub zero_number : IsNoPath (codes "/tenders/0")
  pub eleven_digits : IsNoPath (codes "/tenders/10000000000")
  pub not_posted : routed (codes "HEAD") (codes "/awards/17/sign") ≡ Err (WrongMethod, Some Post)
  pub not_got : routed (codes "POST") (codes "/tenders/17") ≡ Err (WrongMethod, Some Get)
  pub no_list_posted : routed (codes "POST") (codes "/notices") ≡ Err (WrongMethod, Some Get)
  pub rights_first : meaning Public (request_with (codes "POST") (codes "/notices/N1") (codes "[]")) ≡ Err Forbidden
  pub rights_before_queries : meaning Public (request_with (codes "GET") (codes "/tenderers?after=!") []) ≡ Err Forbidden

-- The first field that is missing or wrong is named.
pub record BodiesAreRefused : Type 0 where
  pub bad_row : Refuses (codes "/budget/B1") (codes "line,kind,amount,title\n1000,add,0,Roads\n") (parts.Row 2)
  pub empty_body : Refuses (codes "/notices/N1") [] parts.Body
  pub no_object : Refuses (codes "/notices/N1") (codes "[]") parts.Body
  pub no_text : Refuses (codes "/notices/N1") (34 ∷ 255 ∷ 34 ∷ []) parts.Body
  pub no_title : Refuses (codes "/notices/N1") (codes "{\"validity_days\":0}") (parts.Field fields.Title)
  pub no_day : Refuses (codes "/notices/N1/amend") (codes "{\"deadline\":\"2026-02-30T12:00:00Z\"}") (parts.Field fields.Deadline)
  pub last_stays : Refuses (codes "/notices/N1/cancel") (codes "{\"rationale\":\"late\",\"rationale\":1}") (parts.Field fields.Rationale)
  pub short_key : Refuses (codes "/tenderers/T1") (codes "{\"name\":\"Ann\",\"address\":\"Road 1\",\"key\":\"00\"}") (parts.Field fields.Key)
  pub null_quality : Refuses (codes "/tenders/17/examine") (codes "{\"responsive\":true,\"quality\":null}") (parts.Field fields.Quality)
  pub too_much_quality : Refuses (codes "/tenders/17/examine") (codes "{\"responsive\":true,\"quality\":101}") (parts.Field fields.Quality)
  pub no_change : Refuses (codes "/contracts/17/amend") (codes "{\"id\":\"E1\",\"kind\":\"Cut\",\"amount\":5,\"rationale\":\"less\"}") (parts.Field fields.Kind)
  pub nothing_paid : Refuses (codes "/contracts/17/pay") (codes "{\"id\":\"E1\",\"amount\":0}") (parts.Field fields.Amount)
  pub with_a_point : Refuses (codes "/contracts/17/pay") (codes "{\"id\":\"E1\",\"amount\":5.0}") (parts.Field fields.Amount)
  pub no_amount_of_a_security : Refuses (codes "/awards/17/sign") (codes "{\"security\":\"P1\"}") (parts.Field fields.Amount)
  pub no_security_of_an_amount : Refuses (codes "/awards/17/sign") (codes "{\"amount\":70}") (parts.Field fields.Security)
  pub wrong_amount_alone : Refuses (codes "/awards/17/sign") (codes "{\"amount\":0}") (parts.Field fields.Security)
  pub null_security : Refuses (codes "/awards/17/sign") (codes "{\"security\":null}") (parts.Field fields.Security)
  pub one_space : Refuses (codes "/awards/17/sign") (codes " ") parts.Body
  pub no_ending : Refuses (codes "/contracts/17/end") (codes "{\"how\":null}") (parts.Field fields.How)

-- Only points have a weight, a rule on late withdrawals is one of two words, and any fault inside the lots is one of the field `lots`.
pub record PublicationsAreRefused : Type 0 where
  pub weight_missing : Refuses (codes "/notices/N1") (publication_with (codes "\"criteria\":\"points\"") []) (parts.Field fields.PriceWeight)
  pub weight_with_price : Refuses (codes "/notices/N1")
      (publication_with (codes "\"criteria\":\"price\",\"price_weight\":60") []) (parts.Field fields.PriceWeight)
  pub another_word : Refuses (codes "/notices/N1")
      (publication_with (codes "\"criteria\":\"price\",\"late_withdrawal\":\"returns\"") []) (parts.Field fields.LateWithdrawal)
  pub no_word : Refuses (codes "/notices/N1") (publication_with (codes "\"criteria\":\"price\",\"late_withdrawal\":null") []) (parts.Field fields.LateWithdrawal)
  pub performance_above : Refuses (codes "/notices/N1")
      (publication_with (codes "\"criteria\":\"price\",\"performance\":1000000000001") []) (parts.Field fields.Performance)
  pub no_lots : Refuses (codes "/notices/N1") (publication_with by_price []) (parts.Field fields.Lots)
  pub no_items : Refuses (codes "/notices/N1") (publication_with by_price (lot_with [])) (parts.Field fields.Lots)
  pub wrong_item : Refuses (codes "/notices/N1")
      (publication_with by_price (lot_with (codes "{\"id\":\"I1\",\"title\":\"Paving\",\"quantity\":0}"))) (parts.Field fields.Lots)
  pub same_items : Refuses (codes "/notices/N1")
      (publication_with by_price (lot_with (one_item ++ codes "," ++ one_item))) (parts.Field fields.Lots)
  pub same_lots : Refuses (codes "/notices/N1")
      (publication_with by_price (lot_with one_item ++ codes "," ++ lot_with one_item)) (parts.Field fields.Lots)

-- A security and its amount go together, each is given once, and both are read before the sealed bytes.
pub record TendersAreRefused : Type 0 where
  pub no_amount : RefusesTender (codes "/notices/N1/lots/L1/tenders?security=G1") (codes "abc") (parts.Field fields.Amount)
  pub no_security : RefusesTender (codes "/notices/N1/lots/L1/tenders?amount=50") (codes "abc") (parts.Field fields.Security)
  pub wrong_alone : RefusesTender (codes "/notices/N1/lots/L1/tenders?security=!") (codes "abc") (parts.Field fields.Security)
  pub two_securities : RefusesTender (codes "/notices/N1/lots/L1/tenders?security=G1&security=G1&amount=50") (codes "abc") (parts.Field fields.Security)
  pub two_amounts : RefusesTender (codes "/notices/N1/lots/L1/tenders?security=G1&amount=50&amount=50") [] (parts.Field fields.Amount)
  pub nothing_sealed : RefusesTender (codes "/notices/N1/lots/L1/tenders") [] parts.Body

-- A page begins after one identifier, or is the first page.
pub record LooksAreRefused : Type 0 where
  pub no_identifier : RefusesLook Public (codes "/notices?after=!") (parts.Field fields.After)
  pub nothing : RefusesLook Public (codes "/notices?after=") (parts.Field fields.After)
  pub no_value : RefusesLook Public (codes "/notices?after") (parts.Field fields.After)
  pub two : RefusesLook Public (codes "/notices?after=A&after=A") (parts.Field fields.After)
  pub no_tenderer : RefusesLook Clerk (codes "/tenderers?after=!") (parts.Field fields.After)
