-- Each award goes to the tender that is best by the evaluation. The clerk sees this just before the award, and everyone sees it just after (Model Law, articles
-- 11 and 43).
use Rattle.std.specs.Prelude.{◌≡◌, ℕ, ◌+◌, Bool, true, false, ◌&&◌, ◌||◌, ◌⊎◌, List, [], ◌∷◌, Option, Some, None, unwrap_or, nat_lt, nat_eq}
use Rattle.std.specs.List.{AllByRecursion, Contains}
use Rattle.office_commands.specs.declared.command.Caller.{Caller}
use Rattle.office_commands.specs.declared.command.Caller.TheVariants.{Clerk}
use Rattle.office_commands.specs.declared.commands.Command.{Command}
use Rattle.office_commands.specs.declared.commands.Command.TheVariants.{Award}
use Rattle.office_base.specs.Readings.{price_in}
use Rattle.office_base.specs.Tables.{Tables, notice_at, award_at, lots_of_notice, awards_of_notice}
use Rattle.office_base.specs.declared.records.AwardRow.{AwardRow}
use Rattle.office_machine.specs.Evaluation.{evaluation_told}
use Rattle.office_machine.specs.Machine.{Means, Given, Reaches, next, refusal_of, time_of}
use Rattle.office_machine.specs.Replies.{Reply, Awarded, EvaluationSeen, EvaluatedTender, EvaluatedLot, Winning}
use Rattle.office_machine.specs.Requests.{reply_by}

-- The points that are shown for a tender; 0 if none are shown, as when the price alone decides.
abbrev pub points_shown : EvaluatedTender → ℕ
points_shown t = unwrap_or t.points 0

-- The first tender has the lower price or, at an equal price, the lower receipt.
abbrev pub is_shown_cheaper : EvaluatedTender → EvaluatedTender → Bool
is_shown_cheaper x y = nat_lt (price_in x.reading) (price_in y.reading) || (nat_eq (price_in x.reading) (price_in y.reading) && nat_lt x.receipt y.receipt)

-- The first tender has more points or, with as many points, it is cheaper.
abbrev pub is_shown_better : EvaluatedTender → EvaluatedTender → Bool
is_shown_better x y = nat_lt (points_shown y) (points_shown x) || (nat_eq (points_shown x) (points_shown y) && is_shown_cheaper x y)

-- An admissible tender with this receipt and this price is shown, and no admissible tender that is shown is better.
pub record IsShownBest (tenders : List EvaluatedTender) (receipt price : ℕ) : Type 0 where
  pub best : EvaluatedTender
  pub of_receipt : best.receipt ≡ receipt
  pub at_price : price_in best.reading ≡ price
  pub among : Contains tenders best
  pub admissible : best.admissible ≡ true
  pub none_better : AllByRecursion (λ (t : EvaluatedTender). t.admissible ≡ true → is_shown_better t best ≡ false) tenders

-- The winner is shown as the best tender. If nobody wins, no tender is shown as admissible.
abbrev pub IsShownWinner : Option Winning → List EvaluatedTender → Type 0
IsShownWinner None tenders = AllByRecursion (λ (t : EvaluatedTender). t.admissible ≡ false) tenders
IsShownWinner (Some w) tenders = IsShownBest tenders w.tender w.price

-- One of the shown lots is this lot, and its tenders have the property `Such`.
pub record LotIsShown (Such : List EvaluatedTender → Type 0) (lots : List EvaluatedLot) (lot : List ℕ) : Type 0 where
  pub shown : EvaluatedLot
  pub same : shown.lot ≡ lot
  pub among : Contains lots shown
  pub such : Such shown.tenders

-- The reply is an evaluation that shows this lot, and the lot's tenders have the property `Such`.
abbrev pub ShowsLot : (List EvaluatedTender → Type 0) → Reply → List ℕ → Type 0
ShowsLot Such (EvaluationSeen notice lots) lot = LotIsShown Such lots lot
ShowsLot Such reply lot = ⊥

-- The evaluation of a notice, as a caller sees it.
abbrev pub evaluation_shown : Caller → Tables → List ℕ → Reply
evaluation_shown caller s notice = evaluation_told caller s (notice_at notice s) (lots_of_notice notice s) (awards_of_notice notice s)

-- The winner of each accepted award.

-- The evaluation shows this winner to the clerk just before the award, and to every caller just after it.
pub record WinnerIsShown (means : Means) (x : Given) (notice lot : List ℕ) (winner : Option Winning) : Type 0 where
  pub before : ShowsLot (IsShownWinner winner) (evaluation_shown Clerk x.before notice) lot
  pub after : (caller : Caller) → ShowsLot (IsShownWinner winner) (evaluation_shown caller (next means x) notice) lot

-- The reply to an award names the winner that the evaluation shows. Nothing is said of other commands.
abbrev pub ReplyIsShown : Means → Given → Command → Reply → Type 0
ReplyIsShown means x (Award notice lot) (Awarded named winner release moment) = WinnerIsShown means x notice lot winner
ReplyIsShown means x (Award notice lot) reply = ⊥
ReplyIsShown means x command reply = Unit {0}

-- The law: the reply to an accepted award names the winner that the evaluation shows.
abbrev pub WinnersAreShown : Type 0
WinnersAreShown = (means : Means) (xs : List Given) (x : Given) → Reaches means xs x.before → refusal_of x ≡ None → ReplyIsShown means x x.command (reply_by None means x)

-- The command that made each award.

-- The command made this award: it has the next number, the command's moment and lot, and the receipt and price of the tender that the clerk saw as best. Its
-- state may have changed since.
pub record IsMade (x : Given) (notice lot : List ℕ) (a : AwardRow) : Type 0 where
  pub of_notice : a.notice ≡ notice
  pub of_lot : a.lot ≡ lot
  pub number : a.award ≡ x.before.clock.awards + 1
  pub moment : a.moment ≡ time_of x
  pub shown : ShowsLot (λ tenders. IsShownBest tenders a.receipt a.price) (evaluation_shown Clerk x.before notice) lot

-- The command is an award, and made this row.
abbrev pub MakesAward : Given → AwardRow → Command → Type 0
MakesAward x a (Award notice lot) = IsMade x notice lot a
MakesAward x a command = ⊥

-- One of these commands made the award.
abbrev pub WasMade : List Given → AwardRow → Type 0
WasMade [] a = ⊥
WasMade (x ∷ xs) a = MakesAward x a x.command ⊎ WasMade xs a

-- The law: each award of a reached office was made by one of the commands that led to it.
abbrev pub AwardsWereShown : Type 0
AwardsWereShown = (means : Means) (xs : List Given) (s : Tables) → Reaches means xs s → (number : ℕ) (a : AwardRow) → award_at number s ≡ Some a → WasMade xs a
