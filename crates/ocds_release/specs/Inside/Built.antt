-- The members of an object that is being built.
use Rattle.std.specs.Prelude.{◌≡◌, List}
use Rattle.serde_json.specs.Data.{Members, object}
use Rattle.serde_json.specs.View.{members_view, view}
use Rattle.serde_json.specs.declared.value.Value.{Value}
use Rattle.ocds_release.specs.Objects.{Entry, with_entries}
use Rattle.ocds_release.specs.declared.object.Object.{Object}

abbrev pub members_in : Object → Members
members_in o = members_view o.members.entries

-- the value is this release with these entries added
abbrev pub Says : Object → List Entry → Value → Type 0
Says release entries v = view v ≡ object (with_entries entries (members_in release))
