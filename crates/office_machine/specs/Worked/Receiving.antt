-- Worked examples of receiving: sealed tenders come in time, late, twice, or for a lot that doesn't exist.
use Rattle.std.specs.Prelude.{◌++◌, ◌+◌, ◌∷◌, ◌≡◌, None, Some, [], codes, false, ℕ}
use Rattle.office_commands.specs.declared.commands.Command.TheVariants.{Present}
use Rattle.office_commands.specs.declared.notice.Criteria.TheVariants.{Price}
use Rattle.office_values.specs.declared.refusal.Refusal.TheVariants.{AlreadyPresented, LimitReached, NoSuch, NotOpenForTenders}
use Rattle.office_values.specs.declared.refusal.Thing.TheVariants as things
use Rattle.office_base.specs.Tables.{Tables}
use Rattle.office_base.specs.declared.records.EnvelopeState.TheVariants as envelope
use Rattle.office_base.specs.declared.records.SecurityState.TheVariants as security_in
use Rattle.office_machine.specs.Replies.{Received, Refused}
use Rattle.office_machine.specs.Requests.{Request}
use Rattle.office_machine.specs.Worked.Office.{by, cancels, deadline, february, l1, l2, lot, money, n1, n2, office, opens, presents, publish, published, refused, security, setup, states_of_securities, t1, t2, tenderers, replies, replies_in}

-- T1 submits a text that is no price.
abbrev pub abc : ℕ → Request
abc moment = presents t1 moment (codes "abc")

-- The setup, after so many receipts were given out.
abbrev pub numbered : ℕ → Tables
numbered receipts = record (office setup) { clock = record { moment = published; receipts = receipts; awards = 0 } }

pub record ReceivingWorked : Type 0 where
  -- A tender that nobody could read is sealed like any other, and its receipt has its digest.
  pub is_sealed : replies setup (abc february ∷ []) ≡ Received (codes "abc") 1 (Some 1) envelope.Sealed february ∷ []
  -- Its bytes are kept.
  pub bytes_are_kept : (office (setup ++ abc february ∷ [])).seals ≡ record { receipt = 1; bytes = codes "abc" } ∷ []
  -- A tenderer has at most one sealed tender for a lot. Another tenderer can have one too.
  pub one_each : replies setup (abc february ∷ abc february ∷ presents t2 february (codes "abc") ∷ [])
      ≡ Received (codes "abc") 1 (Some 1) envelope.Sealed february
      ∷ Refused AlreadyPresented
      ∷ Received (codes "abc") 2 (Some 2) envelope.Sealed february
      ∷ []
  -- A tenderer can have a sealed tender for each lot of a notice.
  pub one_for_each_lot : refused (money ++ tenderers ++ publish Price (lot l1 600 ∷ lot l2 400 ∷ []) ∷ [])
      (abc february ∷ by t1 february (Present n1 l2 security (codes "400")) ∷ by t1 february (Present n1 l2 security (codes "390")) ∷ [])
      ≡ None ∷ None ∷ Some AlreadyPresented ∷ []
  -- At the deadline, a tender is in time.
  pub at_deadline : replies setup (abc deadline ∷ []) ≡ Received (codes "abc") 1 (Some 1) envelope.Sealed deadline ∷ []
  -- One second later a tender is late: it gets a receipt, and is returned unopened.
  pub one_second_late : replies setup (abc (deadline + 1) ∷ []) ≡ Received (codes "abc") 1 (Some 1) envelope.Returned (deadline + 1) ∷ []
  -- The bytes of a late tender aren't kept.
  pub late_bytes_go_back : (office (setup ++ abc (deadline + 1) ∷ [])).seals ≡ []
  -- The security of a late tender is returned.
  pub late_security_goes_back : states_of_securities (setup ++ abc (deadline + 1) ∷ []) ≡ security_in.Returned ∷ []
  -- The row of a late tender.
  pub late_row_is : (office (setup ++ abc (deadline + 1) ∷ [])).envelopes
      ≡ record {
        receipt = 1;
        notice = n1;
        lot = l1;
        tenderer = t1;
        moment = deadline + 1;
        length = 3;
        digest = codes "abc";
        security = Some 1;
        state = envelope.Returned;
        reading = None;
        responsive = None;
        quality = None;
        failed = false;
      }
      ∷ []
  -- A tenderer who has a sealed tender can still submit a late one.
  pub late_and_sealed : replies setup (abc february ∷ abc (deadline + 1) ∷ [])
      ≡ Received (codes "abc") 1 (Some 1) envelope.Sealed february
      ∷ Received (codes "abc") 2 (Some 2) envelope.Returned (deadline + 1)
      ∷ []
  -- After the opening every tender is late, even at the second of the deadline.
  pub after_opening : replies (setup ++ opens deadline ∷ []) (abc deadline ∷ []) ≡ Received (codes "abc") 1 (Some 1) envelope.Returned deadline ∷ []
  -- A moment before that of the last command counts as that: 2026-02-01T08:00:00Z is an hour before the publication.
  pub moment_runs_back : replies setup (abc 1769932800 ∷ []) ≡ Received (codes "abc") 1 (Some 1) envelope.Sealed published ∷ []
  -- No tender comes in for a notice that doesn't exist.
  pub no_such_notice : replies setup (by t1 february (Present n2 l1 security (codes "abc")) ∷ []) ≡ Refused (NoSuch things.Notice) ∷ []
  -- No tender comes in for a lot that doesn't exist.
  pub no_such_lot : replies setup (by t1 february (Present n1 l2 security (codes "abc")) ∷ []) ≡ Refused (NoSuch things.Lot) ∷ []
  -- No tender comes in for a cancelled notice.
  pub not_once_cancelled : refused setup (cancels february ∷ abc february ∷ []) ≡ None ∷ Some NotOpenForTenders ∷ []
  -- At most 10^9 receipts are given out.
  pub last_receipt : replies_in (numbered 999999999) (abc february ∷ presents t2 february (codes "abc") ∷ [])
      ≡ Received (codes "abc") 1000000000 (Some 1000000000) envelope.Sealed february
      ∷ Refused LimitReached
      ∷ []
