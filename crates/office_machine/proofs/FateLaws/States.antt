-- The states of lots and notices after rows are put in another form.
use Rattle.office_machine.proofs.Names.{◌≡◌, ℕ, Bool, true, false, cond, not, List, [], ◌∷◌, map, Option, Some, None, option_map, refl, ap, ◌∙◌, nat_list_cmp_total, texts_ties, eq_by_cmp, id_cmp, same_id, NoticeRow, LotRow, EnvelopeState, SecurityState, AwardState, LotState, NoticeState, is_sealed, is_held, is_active, is_undecided, is_opened, is_cancelled, lot_cmp, notice_key, lot_key, find_notice, put_notice, find_lot, put_lot, lots_total, ids_exact, lots_exact, found_key}
use Rattle.office_base.specs.declared.records.EnvelopeState.TheVariants as envelope
use Rattle.office_base.specs.declared.records.SecurityState.TheVariants as security
use Rattle.office_base.specs.declared.records.AwardState.TheVariants as award
use Rattle.office_base.specs.declared.records.LotState.TheVariants as lot
use Rattle.office_base.specs.declared.records.NoticeState.TheVariants as notice
use Rattle.office_machine.proofs.Rows.RowsChanged.{row_at-changed_put}
use Rattle.office_machine.proofs.FateLaws.Seen.{lot_state, notice_state}
use Rattle.office_machine.proofs.Rows.Keyed as keyed

pub map_same : {X : Type 0} (o : Option X) → o ≡ option_map (λ x. x) o
map_same None = refl
map_same (Some x) = refl

map_step : {X S : Type 0} (f : X → S) (g : X → X) (h : S → S) (keeps : (x : X) → f (g x) ≡ h (f x)) (b : Bool) (o : Option X)
    → option_map f (option_map (λ x. cond b (g x) x) o) ≡ option_map (λ s. cond b (h s) s) (option_map f o)
map_step f g h keeps b None = refl
map_step f g h keeps true (Some x) = ap Some (keeps x)
map_step f g h keeps false (Some x) = refl

-- the states of lots after the row of one is put in another form
pub lots_put : (rows : List LotRow) (k q : List ℕ × List ℕ) (l : LotRow) (g : LotRow → LotRow) (h : LotState → LotState)
    → ((l : LotRow) → (g l).state ≡ h l.state)
    → ((l : LotRow) → lot_key (g l) ≡ lot_key l) → find_lot rows k ≡ Some l
    → option_map lot_state (find_lot (put_lot rows (g l)) q) ≡ option_map (λ s. cond (eq_by_cmp lot_cmp q k) (h s) s) (option_map lot_state (find_lot rows q))
lots_put rows k q l g h state_is keeps found =
    ap (option_map lot_state) (row_at-changed_put lots_total lots_exact lot_key g rows k q l found (keeps l ∙ found_key keyed.lots rows k l found))
    ∙ map_step lot_state g h state_is (eq_by_cmp lot_cmp q k) (find_lot rows q)

pub notices_put : (rows : List NoticeRow) (k q : List ℕ) (n : NoticeRow) (g : NoticeRow → NoticeRow) (h : NoticeState → NoticeState)
    → ((n : NoticeRow) → (g n).state ≡ h n.state)
    → ((n : NoticeRow) → (g n).notice ≡ n.notice) → find_notice rows k ≡ Some n
    → option_map notice_state (find_notice (put_notice rows (g n)) q) ≡ option_map (λ s. cond (eq_by_cmp id_cmp q k) (h s) s) (option_map notice_state (find_notice rows q))
notices_put rows k q n g h state_is keeps found =
    ap (option_map notice_state) (row_at-changed_put nat_list_cmp_total ids_exact notice_key g rows k q n found (keeps n ∙ found_key keyed.notices rows k n found))
    ∙ map_step notice_state g h state_is (eq_by_cmp id_cmp q k) (find_notice rows q)

pub same_id_key : (a b : List ℕ) → same_id a b ≡ eq_by_cmp id_cmp a b
same_id_key a b = texts_ties a b

pub sealed_state : (s : EnvelopeState) → is_sealed s ≡ true → s ≡ envelope.Sealed
sealed_state envelope.Sealed h = refl
sealed_state envelope.Withdrawn h = cc
sealed_state envelope.Returned h = cc
sealed_state envelope.Opened h = cc

pub held_state : (s : SecurityState) → is_held s ≡ true → s ≡ security.Held
held_state security.Held h = refl
held_state security.Returned h = cc
held_state security.Forfeited h = cc

pub active_state : (s : AwardState) → not (is_active s) ≡ false → s ≡ award.Active
active_state award.Active h = refl
active_state award.Failed h = cc
active_state award.Cancelled h = cc
active_state award.Signed h = cc

pub undecided_state : (s : LotState) → not (is_undecided s) ≡ false → s ≡ lot.Undecided
undecided_state lot.Undecided h = refl
undecided_state lot.Awarded h = cc
undecided_state lot.Contracted h = cc
undecided_state lot.Unsuccessful h = cc
undecided_state lot.Cancelled h = cc

pub receiving_state : (s : NoticeState) → is_cancelled s ≡ false → is_opened s ≡ false → s ≡ notice.Receiving
receiving_state notice.Receiving a b = refl
receiving_state notice.Opened a b = cc
receiving_state notice.Cancelled a b = cc

pub opened_state : (s : NoticeState) → not (is_opened s) ≡ false → s ≡ notice.Opened
opened_state notice.Receiving h = cc
opened_state notice.Opened h = refl
opened_state notice.Cancelled h = cc

pub map_map : {X Y Z : Type 0} (f : Y → Z) (g : X → Y) (xs : List X) → map f (map g xs) ≡ map (λ x. f (g x)) xs
map_map f g [] = refl
map_map f g (x ∷ xs) = ap (λ ys. f (g x) ∷ ys) (map_map f g xs)
