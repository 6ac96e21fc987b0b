-- A command that closes a lot, so that its held securities are returned.
use Rattle.office_machine.proofs.Names.{◌≡◌, ℕ, Bool, true, false, cond, ◌&&◌, List, ◌∷◌, map, filter, Some, None, option_map, refl, sym, ap, ◌∙◌, nat_cmp_total, nat_cmp-IsAntisymmetric, nat_cmp, eq_by_cmp, same_id, NamedSecurity, SecurityRow, AwardRow, SecurityState, LotState, is_held, is_sealed, is_held_security, returned, IsSorted, Tables, lot_cmp, security_key, envelope_at, seal_at, security_at, securities_of_lot, find_security, Given, Readings, Reception, received_by, received_at, is_received_for, tender_decided, security_decided, fate_of_security, SecurityIs, equal_ids, same_itself, filter_filter}
use Rattle.office_base.specs.declared.records.EnvelopeState.TheVariants as envelope
use Rattle.office_base.specs.declared.records.SecurityState.TheVariants as security
use Rattle.office_base.specs.declared.records.AwardState.TheVariants as award
use Rattle.office_base.specs.declared.records.LotState.TheVariants as lot
use Rattle.office_base.specs.declared.records.NoticeState.TheVariants as notice
use Rattle.office_machine.proofs.Rows.Counting.{is_live}
use Rattle.office_machine.proofs.Rows.RowsChanged.{rows_put, changed, row_at-changed}
use Rattle.office_machine.proofs.FateLaws.Views.{Change, after_change}
use Rattle.office_machine.proofs.FateLaws.Steps.{cond_keeps, both_true}
use Rattle.office_machine.proofs.FateLaws.Decisions.{closing, fair_closing}
use Rattle.office_machine.proofs.FateLaws.Seen.{seen, alike}
use Rattle.office_machine.proofs.FateLaws.FatesHold.{FatesStand, HaveFates, still_sealed, all_keep}
use Rattle.office_machine.proofs.FateLaws.FatesChanged.{kept_by_change}
use Rattle.office_machine.proofs.FateLaws.States.{map_same}

-- the security is held, and is of the lot
abbrev pub is_held_of : List ℕ → List ℕ → SecurityRow → Bool
is_held_of n l w = (same_id w.notice n && same_id w.lot l) && is_held_security w

pub held_of_all : (n l : List ℕ) (w : SecurityRow) → w.state ≡ security.Held → w.notice ≡ n → w.lot ≡ l → is_held_of n l w ≡ true
held_of_all n l w held a b =
    ap (λ s. (same_id w.notice n && same_id w.lot l) && is_held s) held
    ∙ ap (λ q. (same_id q n && same_id w.lot l) && true) a ∙ ap (λ q. (same_id n n && same_id q l) && true) b
    ∙ ap (λ c. (c && same_id l l) && true) (same_itself n) ∙ ap (λ c. c && true) (same_itself l)

pub held_of_only : (n l : List ℕ) (w : SecurityRow) → is_held_of n l w ≡ true → (w.notice ≡ n) × (w.lot ≡ l)
held_of_only n l w h =
    let lots = both_true (same_id w.notice n) (same_id w.lot l) (both_true (same_id w.notice n && same_id w.lot l) (is_held_security w) h).0 in
    (equal_ids w.notice n lots.0, equal_ids w.lot l lots.1)

returned_by : (w : SecurityRow) (st : SecurityState) (b : Bool) → w.state ≡ st
    → (let v : SecurityRow = cond (b && is_held st) (returned w) w in v.state) ≡ cond (is_held st) (cond b security.Returned security.Held) st
returned_by w security.Held true e = refl
returned_by w security.Held false e = e
returned_by w security.Returned true e = e
returned_by w security.Returned false e = e
returned_by w security.Forfeited true e = e
returned_by w security.Forfeited false e = e

-- the held securities of the lot are put as returned
pub securities_go_back : (t : Tables) (n l : List ℕ) (s : ℕ) → IsSorted t
    → find_security (rows_put nat_cmp security_key t.securities (map returned (filter is_held_security (securities_of_lot n l t)))) s ≡ option_map (changed (is_held_of n l) returned) (security_at s t)
securities_go_back t n l s order =
    ap (λ rs. find_security (rows_put nat_cmp security_key t.securities (map returned rs)) s) (filter_filter is_held_security (λ (w : SecurityRow). same_id w.notice n && same_id w.lot l) t.securities)
    ∙ row_at-changed nat_cmp_total nat_cmp-IsAntisymmetric security_key returned (λ w. refl) (is_held_of n l) t.securities s order.securities

module _ (readings : Readings) (xs : List Given) (x : Given) (t u : Tables) (kept : FatesStand readings xs t) (n l : List ℕ) (closed : LotState)
    (is_closed : is_live (Some closed) ≡ false)
    (award_to : ℕ → AwardRow → AwardRow)
    (not_receiving : (seen t).lot_at (n, l) ≡ Some lot.Undecided → (seen t).notice_at n ≡ Some notice.Receiving → ⊥)
    (a_notice : (a : ℕ) (w : AwardRow) → (award_to a w).notice ≡ w.notice) (a_lot : (a : ℕ) (w : AwardRow) → (award_to a w).lot ≡ w.lot)
    (a_receipt : (a : ℕ) (w : AwardRow) → (award_to a w).receipt ≡ w.receipt)
    (active : (a : ℕ) (w : AwardRow) → (seen t).award_at a ≡ Some w → (award_to a w).state ≡ award.Active → w.state ≡ award.Active)
    (elsewhere : (a : ℕ) (w : AwardRow) → (seen t).award_at a ≡ Some w → (award_to a w).state ≡ award.Active → w.notice ≡ n → w.lot ≡ l → ⊥)
    (none : received_by x.command x (λ q. received_at xs q) ≡ None)
    (undecided : (r : ℕ) → tender_decided x.command x (received_at xs) r ≡ envelope.Sealed)
    (decided : (s : ℕ) → security_decided x.command x (received_at xs) s ≡ cond (is_received_for n l (received_at xs s)) security.Returned security.Held)
    (envelopes_are : (r : ℕ) → envelope_at r u ≡ envelope_at r t)
    (seals_are : (r : ℕ) → seal_at r u ≡ seal_at r t)
    (securities_are : (s : ℕ) → security_at s u ≡ option_map (changed (is_held_of n l) returned) (security_at s t))
    (awards_are : (a : ℕ) → (seen u).award_at a ≡ option_map (award_to a) ((seen t).award_at a))
    (lots_are : (k : List ℕ × List ℕ) → (seen u).lot_at k ≡ option_map (λ s. cond (eq_by_cmp lot_cmp k (n, l)) closed s) ((seen t).lot_at k))
    (notices_are : (q : List ℕ) → (seen u).notice_at q ≡ (seen t).notice_at q)
    (receipts_are : u.clock.receipts ≡ t.clock.receipts) where
  abbrev c : Change
  c =
      closing (seen t) kept.sound (n, l) closed is_closed award_to (is_held_of n l) (held_of_all n l) (held_of_only n l) not_receiving a_notice a_lot a_receipt active elsewhere

  security_goes : (s : ℕ) (w : SecurityRow) (a : Reception) (named : NamedSecurity) → security_at s t ≡ Some w → received_at xs s ≡ Some a
      → SecurityIs s a named (fate_of_security xs s) w
      → (c.security_to s w).state ≡ cond (is_held w.state) (security_decided x.command x (received_at xs) s) w.state
  security_goes s w a named at came_is is =
      returned_by w w.state (same_id w.notice n && same_id w.lot l) refl
      ∙ ap (λ b. cond (is_held w.state) (cond b security.Returned security.Held) w.state)
      (ap (λ q. same_id q n && same_id w.lot l) is.of_notice ∙ ap (λ q. same_id a.notice n && same_id q l) is.of_lot ∙ sym (ap (is_received_for n l) came_is))
      ∙ ap (λ d. cond (is_held w.state) d w.state) (sym (decided s))

  pub closing_kept : HaveFates readings (x ∷ xs) u
  closing_kept =
      kept_by_change readings xs x t u c kept
      (fair_closing (seen t) kept.sound (n, l) closed is_closed award_to (is_held_of n l) (held_of_all n l) (held_of_only n l) not_receiving a_notice a_lot a_receipt active elsewhere)
      (record {
        none = none;
        seen_is =
            alike (seen u) (after_change c (seen t)) (λ r. envelopes_are r ∙ map_same (envelope_at r t)) securities_are awards_are lots_are (λ q. notices_are q ∙ map_same ((seen t).notice_at q));
        receipts_are = receipts_are;
        e_keeps = all_keep readings.digest;
        s_keeps = record {
          number = λ s w. cond_keeps (λ (w : SecurityRow). w.security) (is_held_of n l w) (returned w) w refl;
          notice = λ s w. cond_keeps (λ (w : SecurityRow). w.notice) (is_held_of n l w) (returned w) w refl;
          lot = λ s w. cond_keeps (λ (w : SecurityRow). w.lot) (is_held_of n l w) (returned w) w refl;
          tenderer = λ s w. cond_keeps (λ (w : SecurityRow). w.tenderer) (is_held_of n l w) (returned w) w refl;
          reference = λ s w. cond_keeps (λ (w : SecurityRow). w.reference) (is_held_of n l w) (returned w) w refl;
          amount = λ s w. cond_keeps (λ (w : SecurityRow). w.amount) (is_held_of n l w) (returned w) w refl;
        };
        tender_goes = λ r e a at came_is is. still_sealed e.state ∙ ap (λ d. cond (is_sealed e.state) d e.state) (sym (undecided r));
        seal_goes = λ r e a at is. seals_are r ∙ is.seal_is;
        no_seal = λ r at none. seals_are r ∙ none;
        security_goes = security_goes;
      })
