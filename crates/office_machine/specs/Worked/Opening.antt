-- Worked examples of opening: the moment, the readings of tenders, and the minutes.
use Rattle.std.specs.Prelude.{◌++◌, ◌+◌, ◌-◌, ◌∷◌, ◌≡◌, List, None, Option, Some, [], codes, map, ℕ}
use Rattle.office_commands.specs.declared.command.Caller.TheVariants.{Public}
use Rattle.office_commands.specs.declared.commands.Command.TheVariants.{Withdraw}
use Rattle.office_commands.specs.declared.queries.Query.TheVariants as queries
use Rattle.office_values.specs.declared.refusal.Refusal.TheVariants.{AlreadyOpened, NoSuch, NotOpenForTenders, TooEarlyToOpen}
use Rattle.office_values.specs.declared.refusal.Thing.TheVariants as things
use Rattle.office_base.specs.declared.reading.Reading.{Reading}
use Rattle.office_base.specs.declared.reading.Reading.TheVariants.{Nonconforming, Priced, Unreadable}
use Rattle.office_base.specs.declared.records.EnvelopeRow.{EnvelopeRow}
use Rattle.office_base.specs.declared.records.EnvelopeState.TheVariants as envelope
use Rattle.office_base.specs.declared.records.NoticeRow.{NoticeRow}
use Rattle.office_base.specs.declared.records.NoticeState.TheVariants as notice_in
use Rattle.office_base.specs.declared.records.ReleaseRow.{ReleaseRow}
use Rattle.office_machine.specs.Replies.{Minuted, Minutes, OpenedAll, Refused}
use Rattle.office_machine.specs.Requests.{Request}
use Rattle.office_machine.specs.Worked.Office.{by, cancels, deadline, february, l1, looks, money, n1, north, office, opens, presents, refused, road_repair, setup, states_of_tenders, t1, t2, t3, tendered, replies, two_notices}

-- The public asks for the minutes.
abbrev pub sees_minutes : Request
sees_minutes = looks Public deadline (queries.Minutes n1)

-- T1's tender is withdrawn, and T3's comes one second after the deadline. So only T2's can be opened.
abbrev pub one_of_three : List Request
one_of_three =
    setup
    ++ presents t1 february (codes "500")
    ∷ by t1 february (Withdraw 1)
    ∷ presents t2 february (codes "550")
    ∷ presents t3 (deadline + 1) (codes "400")
    ∷ []

-- The readings of three opened tenders with these texts, by T1, T2 and T3.
abbrev pub readings : List ℕ → List ℕ → List ℕ → List (Option Reading)
readings first second third =
    map (λ (e : EnvelopeRow). e.reading)
    (office (setup ++ presents t1 february first ∷ presents t2 february second ∷ presents t3 february third ∷ opens deadline ∷ [])).envelopes

-- The notice after its opening at a moment, with so many releases.
abbrev pub notice_opened : ℕ → ℕ → NoticeRow
notice_opened moment releases = record road_repair { state = notice_in.Opened; opened = Some moment; releases = releases }

-- A line of the minutes.
abbrev pub minuted : ℕ → List ℕ → List ℕ → Reading → Minuted
minuted receipt who name reading = record {
  receipt = receipt;
  lot = l1;
  tenderer = who;
  party = Some (record { tenderer = who; name = name; address = codes "High Street 1"; key = [] });
  reading = Some reading;
}

pub record OpeningWorked : Type 0 where
  -- Tenders aren't opened one second before the deadline.
  pub too_early : replies tendered (opens (deadline - 1) ∷ []) ≡ Refused TooEarlyToOpen ∷ []
  -- Tenders are opened at the deadline, and only once.
  pub at_deadline : replies tendered (opens deadline ∷ opens deadline ∷ []) ≡ OpenedAll n1 2 2 deadline ∷ Refused AlreadyOpened ∷ []
  -- A notice without tenders is opened too.
  pub without_tenders : replies setup (opens deadline ∷ []) ≡ OpenedAll n1 0 2 deadline ∷ []
  -- A notice that doesn't exist can't be opened.
  pub no_such_notice : replies money (opens deadline ∷ []) ≡ Refused (NoSuch things.Notice) ∷ []
  -- A cancelled notice can't be opened.
  pub not_once_cancelled : refused tendered (cancels february ∷ opens deadline ∷ []) ≡ None ∷ Some NotOpenForTenders ∷ []
  -- After the opening everyone sees the minutes: the tenderers, and how each tender was read.
  pub minutes_are_seen : replies (tendered ++ opens deadline ∷ []) (sees_minutes ∷ [])
      ≡ Minutes (notice_opened deadline 2) (north ∷ [])
      (minuted 1 t1 (codes "Alpha") (Priced 500 500 0) ∷ minuted 2 t2 (codes "Beta") (Priced 550 550 0) ∷ [])
      ∷ []
  -- A withdrawn tender and a late one aren't opened, and aren't in the minutes.
  pub one_is_opened : replies one_of_three (opens (deadline + 2) ∷ sees_minutes ∷ [])
      ≡ OpenedAll n1 1 2 (deadline + 2)
      ∷ Minutes (notice_opened (deadline + 2) 2) (north ∷ []) (minuted 2 t2 (codes "Beta") (Priced 550 550 0) ∷ [])
      ∷ []
  -- The withdrawn tender and the late one keep their states.
  pub others_stay : states_of_tenders (one_of_three ++ opens (deadline + 2) ∷ []) ≡ envelope.Withdrawn ∷ envelope.Opened ∷ envelope.Returned ∷ []
  -- The tenders of another notice remain sealed.
  pub other_notice_stays : states_of_tenders (two_notices ++ opens deadline ∷ []) ≡ envelope.Opened ∷ envelope.Opened ∷ envelope.Sealed ∷ []
  -- The bytes of an opened tender are kept.
  pub bytes_are_kept : (office (tendered ++ opens deadline ∷ [])).seals
      ≡ record { receipt = 1; bytes = codes "500" } ∷ record { receipt = 2; bytes = codes "550" } ∷ []
  -- A tender can be unreadable, be nonconforming, or state a price that is corrected.
  pub readings_are : readings (codes "abc") (codes "-") (codes "550/480") ≡ Some Unreadable ∷ Some Nonconforming ∷ Some (Priced 550 480 1) ∷ []
  -- The opening is published as the second release of the notice.
  pub release_is : map (λ (r : ReleaseRow). r.seq) (office (tendered ++ opens deadline ∷ [])).releases ≡ 1 ∷ 2 ∷ []
