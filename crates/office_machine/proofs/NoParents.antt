-- Over any tables, no accepted command that misses no row makes a missing parent of a row, or replaces a row of another owner.
pub mod Gentle
pub mod Kept
pub mod Named
pub mod New
use Rattle.office_machine.proofs.Names.{◌≡◌, Option, Some, None, refl, ReleaseRow, Tables, Given, Means, effect, publication, publication_puts, puts_of, NoOwnerIsReplaced, NoParentIsMade, is_lacking, refusal_of, IsSorted, false}
use Rattle.office_machine.proofs.Commands.{lawful}
use Rattle.office_machine.proofs.NoParents.Gentle.{AreGentle, gentle-append, orphans_stay, owners_stay, owners_there}
use Rattle.office_machine.proofs.Passed.{allowed_by}

-- A release is no parent, and replaces no row of another owner.
released_gently : (t : Tables) (o : Option ReleaseRow) → AreGentle t (publication_puts o)
released_gently t None = tt
released_gently t (Some r) = ((refl, tt), tt)

all_gently : (means : Means) (x : Given) → IsSorted x.before → refusal_of x ≡ None → is_lacking x ≡ false → AreGentle x.before (puts_of means x)
all_gently means x order allowed whole =
    gentle-append x.before (effect means.readings x) (publication_puts (publication means x))
    ((lawful x.command).gentle means.readings x.before x.moment x.caller order (allowed_by x allowed) whole)
    (released_gently x.before (publication means x))

pub no_parent_is_made : NoParentIsMade
no_parent_is_made means x order allowed whole parent named none = orphans_stay (puts_of means x) x.before x.before (all_gently means x order allowed whole) parent named none none

pub no_owner_is_replaced : NoOwnerIsReplaced
no_owner_is_replaced means x order allowed whole = owners_stay (puts_of means x) x.before x.before order (all_gently means x order allowed whole) (owners_there x.before)
