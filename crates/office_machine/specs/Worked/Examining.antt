-- Worked examples of examining: an opened tender is found responsive or not, and gets a quality if points decide.
use Rattle.std.specs.Prelude.{◌++◌, ◌∷◌, ◌≡◌, Bool, List, None, Option, Some, [], codes, false, true, ℕ}
use Prim.Native.Nat.{suc-le-suc, zero-le}
use Rattle.office_commands.specs.declared.commands.Command.TheVariants.{Examine}
use Rattle.office_commands.specs.declared.notice.Criteria.TheVariants.{Points}
use Rattle.office_values.specs.declared.refusal.BadPart.TheVariants.{Field}
use Rattle.office_values.specs.declared.refusal.Field.TheVariants as fields
use Rattle.office_values.specs.declared.refusal.Refusal.TheVariants.{AlreadyDecided, BadBody, NoSuch, NotOpened}
use Rattle.office_values.specs.declared.refusal.Thing.TheVariants as things
use Rattle.office_machine.specs.Replies.{Examined, Refused, Reply}
use Rattle.office_machine.specs.Requests.{Request}
use Rattle.office_machine.specs.Worked.Office.{by_clerk, cancels, deadline, decided, february, opens, presents, refused, setup, setup_with, t1, t2, t3, tendered, replies}

-- A tender is examined, with a quality if one is given.
abbrev pub judges : ℕ → Bool → Option ℕ → Request
judges receipt responsive quality = by_clerk decided (Examine receipt responsive quality)

-- Three opened tenders: T1's is priced, T2's is unreadable, and T3's is nonconforming.
abbrev pub three_opened : List Request
three_opened =
    setup
    ++ presents t1 february (codes "500")
    ∷ presents t2 february (codes "abc")
    ∷ presents t3 february (codes "-")
    ∷ opens deadline
    ∷ []

-- Two tenders, for which the price has 60 of a hundred points.
abbrev pub by_points : List Request
by_points =
    setup_with 1000 (suc-le-suc zero-le) (Points 60) 600
    ++ presents t1 february (codes "500")
    ∷ presents t2 february (codes "750")
    ∷ opens deadline
    ∷ []

-- The refusal of a quality.
abbrev pub bad_quality : Reply
bad_quality = Refused (BadBody (Field fields.Quality))

pub record ExaminingWorked : Type 0 where
  -- A priced tender is examined once.
  pub is_examined : replies three_opened (judges 1 true None ∷ judges 1 false None ∷ []) ≡ Examined 1 true decided ∷ Refused AlreadyDecided ∷ []
  -- A tender may be found not responsive.
  pub found_wanting : replies three_opened (judges 1 false None ∷ []) ≡ Examined 1 false decided ∷ []
  -- A tender without a price isn't examined: its result is decided already.
  pub unreadable : replies three_opened (judges 2 true None ∷ judges 3 true None ∷ []) ≡ Refused AlreadyDecided ∷ Refused AlreadyDecided ∷ []
  -- No tender is examined before the opening.
  pub not_opened : replies tendered (judges 1 true None ∷ []) ≡ Refused NotOpened ∷ []
  -- A late tender isn't examined, because it isn't opened.
  pub late_is_not_opened : refused three_opened (presents t1 decided (codes "400") ∷ judges 4 true None ∷ []) ≡ None ∷ Some NotOpened ∷ []
  -- A tender that doesn't exist can't be examined.
  pub no_such_tender : replies three_opened (judges 99 true None ∷ []) ≡ Refused (NoSuch things.Tender) ∷ []
  -- If the price alone decides, no quality may be given, not even 0.
  pub no_quality_for_price : replies three_opened (judges 1 true (Some 0) ∷ []) ≡ bad_quality ∷ []
  -- If points decide, a quality is at most the points that the price leaves.
  pub quality_is_bounded : replies by_points (judges 1 true (Some 41) ∷ judges 1 true (Some 40) ∷ []) ≡ bad_quality ∷ Examined 1 true decided ∷ []
  -- If points decide, a responsive tender needs a quality, and a tender that isn't responsive may not have one.
  pub quality_is_wanted : replies by_points (judges 1 true None ∷ judges 1 false (Some 10) ∷ judges 1 false None ∷ [])
      ≡ bad_quality ∷ bad_quality ∷ Examined 1 false decided ∷ []
  -- After the lot is cancelled, no tender of it is examined.
  pub not_once_cancelled : refused three_opened (cancels decided ∷ judges 1 true None ∷ []) ≡ None ∷ Some AlreadyDecided ∷ []
