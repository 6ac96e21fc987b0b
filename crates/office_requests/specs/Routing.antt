-- The route of a request, by its method and its path.
use Rattle.std.specs.Prelude.{ℕ, Bool, ◌==◌, ◌&&◌, not, nat_le, List, [], ◌∷◌, ◌++◌, map, length, slice_index, codes, Option, Some, None, option_map, option_and_then, Result, Ok, Err, if◌then◌else◌, nat_eq}
use Rattle.std.specs.Str.{is_utf8}
use Rattle.std.specs.Cmp.Lexicographic.{pointwise}
use Rattle.matchit.specs.Rows.{RowsOf}
use Rattle.matchit.specs.Order.{placed}
use Rattle.matchit.specs.Route.{Scan, parse_route}
use Rattle.matchit.specs.Router.{RouteOf, route_from}
use Rattle.matchit.specs.Seek.{first}
use Rattle.matchit.specs.declared.error.InsertError.{InsertError}
use Rattle.office_values.specs.Numbers.{number_of}
use Rattle.office_commands.specs.Table.{all_commands, all_queries, command_row, query_row}
use Rattle.office_commands.specs.declared.command.CommandKind.{CommandKind}
use Rattle.office_commands.specs.declared.command.QueryKind.{QueryKind}
use Rattle.office_commands.specs.declared.table.Shape.{Shape}
use Rattle.office_commands.specs.declared.table.Shape.TheVariants.{Plain, OneId, TwoIds, Number}
use Rattle.office_values.specs.declared.refusal.Refusal.{Refusal}
use Rattle.office_values.specs.declared.refusal.Refusal.TheVariants.{NoRoute, WrongMethod}
use Rattle.office_requests.specs.Forms.{identifier_of, number_between}
use Rattle.office_requests.specs.Paths.{path_of, segment}
use Rattle.office_requests.specs.declared.route.Allow.{Allow}
use Rattle.office_requests.specs.declared.route.Allow.TheVariants.{Get, Post}
use Rattle.office_requests.specs.declared.route.Endpoint.{Endpoint}
use Rattle.office_requests.specs.declared.route.Endpoint.TheVariants.{Commands, Queries}
use Rattle.office_requests.specs.declared.route.Place.{Place}
use Rattle.office_requests.specs.declared.route.Place.TheVariants.{Nowhere, Named, Within, Numbered}
use Rattle.office_requests.specs.declared.route.Route.{Route}

-- The route of a command: the pattern of its path, its kind, and the parameters of the pattern.
abbrev pub command_route : CommandKind → List ℕ × (Endpoint × Shape)
command_route kind = ((command_row kind).pattern, (Commands kind, (command_row kind).shape))

-- The route of a query: the pattern of its path, its kind, and the parameters of the pattern.
abbrev pub query_route : QueryKind → List ℕ × (Endpoint × Shape)
query_route kind = ((query_row kind).pattern, (Queries kind, (query_row kind).shape))

-- The routes of all commands, followed by those of all queries.
abbrev pub route_table : List (List ℕ × (Endpoint × Shape))
route_table = map command_route all_commands ++ map query_route all_queries

-- The rows of a router after one more pattern. A text that isn't a pattern adds nothing.
abbrev pub with_pattern : Result Scan InsertError → Endpoint × Shape → RowsOf (RouteOf (Endpoint × Shape)) → RowsOf (RouteOf (Endpoint × Shape))
with_pattern (Ok s) asked rows = placed (s.pattern, route_from s asked) rows
with_pattern (Err e) asked rows = rows

-- The rows of a router after these patterns are added, in their order.
abbrev pub inserted : List (List ℕ × (Endpoint × Shape)) → RowsOf (RouteOf (Endpoint × Shape)) → RowsOf (RouteOf (Endpoint × Shape))
inserted [] rows = rows
inserted (r ∷ rs) rows = inserted rs (with_pattern (parse_route r.0) r.1 rows)

-- The kind of command or query at a path, and the parameters of the pattern that the path matches.
abbrev pub asked_at : List ℕ → Option (Endpoint × Shape)
asked_at path = option_map (λ r. r.value) (first (inserted route_table []) path)

-- The identifier in a segment of a path.
abbrev pub id_in : ℕ → List ℕ → Option (List ℕ)
id_in number path = identifier_of (segment number path)

-- The text isn't empty and doesn't begin with 0.
abbrev pub is_unpadded : List ℕ → Bool
is_unpadded text = nat_le 1 (length text) && not (slice_index text 0 == 48)

-- The number in a segment of a path: 1 to 10 digits, the first of which isn't 0.
abbrev pub number_in_path : ℕ → List ℕ → Option ℕ
number_in_path number path =
    if is_unpadded (segment number path) then option_and_then (number_between 1 9999999999) (number_of (segment number path)) else None

-- The parameters of a path, by the shape of its pattern.
abbrev pub place_at : Shape → List ℕ → Option Place
place_at Plain path = Some Nowhere
place_at OneId path = option_map Named (id_in 2 path)
place_at TwoIds path = option_and_then (λ outer. option_map (Within outer) (id_in 4 path)) (id_in 2 path)
place_at Number path = option_map Numbered (number_in_path 2 path)

-- The kind of command or query with the parameters of its path.
abbrev pub route_with : List ℕ → Endpoint × Shape → Option Route
route_with path asked = option_map (λ place. record { endpoint = asked.0; place = place }) (place_at asked.1 path)

-- The route of a path. A path that isn't UTF-8 has none.
abbrev pub route_at : List ℕ → Option Route
route_at path = if is_utf8 path then option_and_then (route_with path) (asked_at path) else None

-- The method of a kind: `POST` for commands, `GET` for queries.
abbrev pub method_of : Endpoint → Allow
method_of (Commands kind) = Post
method_of (Queries kind) = Get

-- The name of a method in a request.
abbrev pub method_name : Allow → List ℕ
method_name Get = codes "GET"
method_name Post = codes "POST"

-- The route, if the method is that of the path. `WrongMethod` names the right method.
abbrev pub with_method : List ℕ → Option Route → Result Route (Refusal × Option Allow)
with_method method None = Err (NoRoute, None)
with_method method (Some route) =
    if pointwise nat_eq method (method_name (method_of route.endpoint)) then Ok route
    else Err (WrongMethod, Some (method_of route.endpoint))

-- The route of a method and a target, or the refusal.
abbrev pub routed : List ℕ → List ℕ → Result Route (Refusal × Option Allow)
routed method target = with_method method (route_at (path_of target))
