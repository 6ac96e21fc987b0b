-- Every caller is known: the public, the clerk, or a registered tenderer.
use Rattle.office_http.proofs.Names.{◌≡◌, ℕ, Bool, true, false, List, Option, Some, None, Result, Ok, Err, refl, sym, subst, IsSome, if◌then◌else◌, Refusal, BadKey, Settings, is_id, Caller, Clerk, Tenderer, Tables, find_tenderer, tenderer_at, TendererRow, IsRegistered, caller_of, clerk_with_key, fits_key, is_clerk_name, tenderer_with_key, tenderer_named, who}

-- The value that was read has the property, if it isn't a refusal.
unfoldable pub IsRead : {A : Type 0} → (A → Type 0) → Result A Refusal → Type 0
IsRead P (Ok value) = P value
IsRead P (Err why) = Unit {0}

value_read : {A : Type 0} (P : A → Type 0) (value : A) → P value → IsRead P (Ok value)
unfolding IsRead
value_read P value is = is

why_read : {A : Type 0} (P : A → Type 0) (why : Refusal) → IsRead P (Err why)
unfolding IsRead
why_read P why = tt

where_so : {A : Type 0} (P : A → Type 0) (so : Bool) (read : Result A Refusal) (why : Refusal) → IsRead P read → IsRead P (if so then read else Err why)
where_so P true read why is = is
where_so P false read why is = why_read P why

abbrev pub IsKnown : Tables → Caller → Type 0
IsKnown s caller = IsRegistered caller s.tenderers

row_known : (s : Tables) (name key : List ℕ) (row : Option TendererRow) → find_tenderer s.tenderers name ≡ row → IsRead (IsKnown s) (tenderer_with_key name key row)
row_known s name key None is = why_read (IsKnown s) BadKey
row_known s name key (Some row) is =
    where_so (IsKnown s) (fits_key row.key key) (Ok (Tenderer name)) BadKey
    (value_read (IsKnown s) (Tenderer name) (subst (λ (o : Option TendererRow). IsSome o) (sym is) refl))

named_known : (s : Tables) (name key : List ℕ) → IsRead (IsKnown s) (tenderer_named s name key)
named_known s name key = where_so (IsKnown s) (is_id name) (tenderer_with_key name key (tenderer_at name s)) BadKey
    (row_known s name key (find_tenderer s.tenderers name) refl)

clerk_known : (settings : Settings) (s : Tables) (key : List ℕ) → IsRead (IsKnown s) (clerk_with_key settings key)
clerk_known settings s key = where_so (IsKnown s) (fits_key settings.clerk_key key) (Ok Clerk) BadKey (value_read (IsKnown s) Clerk tt)

pair_known : (settings : Settings) (s : Tables) (name key : List ℕ) (clerk : Bool)
    → IsRead (IsKnown s) (if clerk then clerk_with_key settings key else tenderer_named s name key)
pair_known settings s name key true = clerk_known settings s key
pair_known settings s name key false = named_known s name key

caller_known : (settings : Settings) (s : Tables) (name key : Option (List ℕ)) → IsRead (IsKnown s) (caller_of settings s name key)
caller_known settings s None None = value_read (IsKnown s) _ tt
caller_known settings s None (Some key) = why_read (IsKnown s) BadKey
caller_known settings s (Some name) None = why_read (IsKnown s) BadKey
caller_known settings s (Some name) (Some key) = pair_known settings s name key (is_clerk_name name)

pub who_known : (settings : Settings) (s : Tables) (values : Result (Option (List ℕ) × Option (List ℕ)) Refusal) → IsRead (IsKnown s) (who settings s values)
who_known settings s (Err why) = why_read (IsKnown s) why
who_known settings s (Ok values) = caller_known settings s values.0 values.1
