-- Worked examples of refusals: which of several is answered, and that nothing changes.
use Rattle.std.specs.Prelude.{◌++◌, ◌+◌, ◌-◌, ◌∷◌, ◌≡◌, List, None, Some, [], codes, true}
use Rattle.office_commands.specs.declared.command.Caller.TheVariants.{Clerk, Public, Tenderer}
use Rattle.office_commands.specs.declared.commands.Command.TheVariants.{Examine, Open, Present, Publish, Withdraw}
use Rattle.office_commands.specs.declared.notice.Criteria.TheVariants.{Price}
use Rattle.office_commands.specs.declared.queries.Query.TheVariants as queries
use Rattle.office_values.specs.declared.refusal.BadPart.TheVariants.{Field}
use Rattle.office_values.specs.declared.refusal.Field.TheVariants as fields
use Rattle.office_values.specs.declared.refusal.Refusal.TheVariants.{AlreadyPresented, BadBody, DeadlinePassed, Exists, Expired, Forbidden, NoSuch, NotOpenForTenders, NotYourTender, SecurityMissing, TooEarlyToOpen, Unavailable}
use Rattle.office_values.specs.declared.refusal.Thing.TheVariants as things
use Rattle.office_base.specs.declared.records.EnvelopeState.TheVariants as envelope
use Rattle.office_machine.specs.Replies.{Received, Refused}
use Rattle.office_machine.specs.Requests.{Request}
use Rattle.office_machine.specs.Worked.Office.{accepted, awards, by, by_clerk, cancels, deadline, examined, expiry, february, l1, l2, looks, lot, n1, n2, notice, office, opens, presents, refused, roads, setup, signs, t1, t2, tendered, replies}

-- The request, if memory is missing for it.
abbrev pub unavailable : Request → Request
unavailable a = record a { unavailable = true }

-- T1's tender.
abbrev pub bid : Request
bid = presents t1 february (codes "500")

-- Four requests, refused for the security, the caller, the receipt and the moment.
abbrev pub refusals : List Request
refusals =
    by t1 (deadline - 1) (Present n1 l1 None (codes "500"))
    ∷ by t1 deadline (Open n1)
    ∷ by t1 deadline (Withdraw 99)
    ∷ opens (deadline - 1)
    ∷ []

-- Queries of several callers, for rows that exist and for one that doesn't.
abbrev pub sights : List Request
sights = looks Public deadline (queries.Line roads) ∷ looks Clerk deadline (queries.Register n1) ∷ looks (Tenderer t1) deadline (queries.Tender 99) ∷ []

pub record RefusingWorked : Type 0 where
  -- A request that is answered `Unavailable` may be accepted when it is sent again.
  pub no_memory : replies setup (unavailable bid ∷ bid ∷ []) ≡ Refused Unavailable ∷ Received (codes "500") 1 (Some 1) envelope.Sealed february ∷ []
  -- A request that is answered `Unavailable` leaves the office as it was.
  pub nothing_is_kept : office (setup ++ unavailable bid ∷ []) ≡ office setup
  -- The four requests are refused.
  pub refusals_are : replies setup refusals
      ≡ Refused SecurityMissing ∷ Refused Forbidden ∷ Refused (NoSuch things.Tender) ∷ Refused TooEarlyToOpen ∷ []
  -- Refused requests leave the office as it was: not even its clock has moved.
  pub refusals_change_nothing : office (setup ++ refusals) ≡ office setup
  -- Queries leave the office as it was.
  pub sights_change_nothing : office (setup ++ sights) ≡ office setup
  -- Neither refused requests nor queries are among the accepted commands.
  pub accepted_are_none : accepted (setup ++ refusals ++ sights) ≡ accepted setup
  -- The moments of refused requests don't count for later requests.
  pub february_comes_still : replies setup (refusals ++ bid ∷ [])
      ≡ Refused SecurityMissing
      ∷ Refused Forbidden
      ∷ Refused (NoSuch things.Tender)
      ∷ Refused TooEarlyToOpen
      ∷ Received (codes "500") 1 (Some 1) envelope.Sealed february
      ∷ []
  -- The moment of an accepted command counts: after a late tender, no tender is in time.
  pub late_moment_counts : replies setup (presents t2 (deadline + 1) (codes "550") ∷ bid ∷ [])
      ≡ Received (codes "550") 1 (Some 1) envelope.Returned (deadline + 1)
      ∷ Received (codes "500") 2 (Some 2) envelope.Returned (deadline + 1)
      ∷ []
  -- Of several refusals, the first in their order is answered: a bad quality is reported before `NotOpened`.
  pub quality_comes_first : replies tendered (by_clerk february (Examine 1 true (Some 1)) ∷ []) ≡ Refused (BadBody (Field fields.Quality)) ∷ []
  -- A missing lot is reported before a cancelled notice.
  pub lot_is_missed_first : refused setup (cancels february ∷ by t1 february (Present n1 l2 None (codes "500")) ∷ []) ≡ None ∷ Some (NoSuch things.Lot) ∷ []
  -- An identifier that is taken is reported before the deadline.
  pub name_comes_before_deadline : replies setup (by_clerk deadline (Publish n1 (notice deadline Price (lot l1 999 ∷ []))) ∷ []) ≡ Refused Exists ∷ []
  -- The deadline is reported before missing funds.
  pub deadline_comes_before_funds : replies setup (by_clerk deadline (Publish n2 (notice deadline Price (lot l1 999 ∷ []))) ∷ [])
      ≡ Refused DeadlinePassed ∷ []
  -- Another tenderer's tender is reported before the deadline.
  pub owner_comes_before_deadline : replies tendered (by t2 deadline (Withdraw 1) ∷ []) ≡ Refused NotYourTender ∷ []
  -- The deadline is reported before the state of the tender.
  pub deadline_comes_before_state : replies (tendered ++ opens deadline ∷ []) (by t1 deadline (Withdraw 1) ∷ []) ≡ Refused DeadlinePassed ∷ []
  -- A cancelled notice is reported before a moment that is too early.
  pub cancelled_comes_before_early : refused tendered (cancels february ∷ opens february ∷ []) ≡ None ∷ Some NotOpenForTenders ∷ []
  -- The expiry of tenders is reported before the standstill.
  pub expiry_comes_before_standstill : refused examined (awards (expiry - 1) ∷ signs expiry 1 ∷ []) ≡ None ∷ Some Expired ∷ []
  -- An earlier tender for the lot is reported before a missing security.
  pub presented_comes_before_security : replies tendered (by t1 february (Present n1 l1 None (codes "400")) ∷ []) ≡ Refused AlreadyPresented ∷ []
