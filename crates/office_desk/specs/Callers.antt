-- The caller of a request, by a name and a key.
use Rattle.std.specs.Prelude.{ℕ, Bool, true, not, ◌||◌, List, Option, Some, None, Result, Ok, Err, nat_eq, codes, if◌then◌else◌}
use Rattle.std.specs.Cmp.Lexicographic.{pointwise}
use Rattle.sha2.specs.Sha256.{sha256}
use Rattle.office_commands.specs.declared.command.Caller.{Caller}
use Rattle.office_commands.specs.declared.command.Caller.TheVariants.{Public, Clerk, Tenderer}
use Rattle.office_values.specs.declared.refusal.Refusal.{Refusal}
use Rattle.office_values.specs.declared.refusal.Refusal.TheVariants.{BadKey}
use Rattle.office_values.specs.Fields.{is_id}
use Rattle.office_values.specs.declared.settings.Settings.{Settings}
use Rattle.office_base.specs.Tables.{Tables, tenderer_at}
use Rattle.office_base.specs.declared.records.TendererRow.{TendererRow}

-- This digest is the key's SHA-256 (FIPS 180-4).
abbrev pub fits_key : List ℕ → List ℕ → Bool
fits_key digest key = pointwise nat_eq (sha256 key) digest

-- The name is `clerk`.
abbrev pub is_clerk_name : List ℕ → Bool
is_clerk_name name = pointwise nat_eq name (codes "clerk")

-- No tenderer needs to be looked up: the name or the key is absent, or the name is `clerk` or isn't an identifier.
abbrev pub names_no_tenderer : Option (List ℕ) → Option (List ℕ) → Bool
names_no_tenderer (Some name) (Some key) = is_clerk_name name || not (is_id name)
names_no_tenderer name key = true

-- The clerk, if the key fits the digest in the settings.
abbrev pub clerk_with_key : Settings → List ℕ → Result Caller Refusal
clerk_with_key settings key = if fits_key settings.clerk_key key then Ok Clerk else Err BadKey

-- A tenderer, if the key fits the digest with which the tenderer is registered.
abbrev pub tenderer_with_key : List ℕ → List ℕ → Option TendererRow → Result Caller Refusal
tenderer_with_key name key None = Err BadKey
tenderer_with_key name key (Some row) = if fits_key row.key key then Ok (Tenderer name) else Err BadKey

-- The tenderer of this name. A name that isn't an identifier is nobody's.
abbrev pub tenderer_named : Tables → List ℕ → List ℕ → Result Caller Refusal
tenderer_named s name key = if is_id name then tenderer_with_key name key (tenderer_at name s) else Err BadKey

-- The caller is the public without a name and a key, the clerk with the clerk's key, and a registered tenderer with that tenderer's key. Anything else is
-- `BadKey`.
abbrev pub caller_of : Settings → Tables → Option (List ℕ) → Option (List ℕ) → Result Caller Refusal
caller_of settings s None None = Ok Public
caller_of settings s (Some name) (Some key) = if is_clerk_name name then clerk_with_key settings key else tenderer_named s name key
caller_of settings s name key = Err BadKey
