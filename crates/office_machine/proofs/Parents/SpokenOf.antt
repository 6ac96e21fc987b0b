-- An award and a contract, with the rows that they refer to.
use Rattle.office_machine.proofs.Names.{◌≡◌, ℕ, true, Some, is_some, ◌∙◌, ap, LineRow, NoticeRow, LotRow, AwardRow, ContractRow, Tables, notice_at, lot_at, line_at, award_at, contract_at, notice_of_award, lot_of_award, notice_of_contract, lot_of_contract, line_of_lot, HaveParents}
use Rattle.office_machine.proofs.Passed.{witness}

-- an award, and the rows that it refers to
pub record OfAward (s : Tables) (award : ℕ) : Type 0 where
  pub w : AwardRow
  pub l : LotRow
  pub n : NoticeRow
  pub is : award_at award s ≡ Some w
  pub lot : lot_of_award (award_at award s) s ≡ Some l
  pub notice : notice_of_award (award_at award s) s ≡ Some n
  pub notice_is : notice_at w.notice s ≡ Some n

-- a contract, and the rows that it refers to
pub record OfContract (s : Tables) (contract : ℕ) : Type 0 where
  pub c : ContractRow
  pub n : NoticeRow
  pub w : LineRow
  pub is : contract_at contract s ≡ Some c
  pub notice : notice_of_contract (contract_at contract s) s ≡ Some n
  pub line : line_of_lot (lot_of_contract (contract_at contract s) s) s ≡ Some w
  pub notice_is : notice_at c.notice s ≡ Some n

module _ (s : Tables) (have : HaveParents s s) where
  pub of_award : (award : ℕ) → is_some (award_at award s) ≡ true → OfAward s award
  of_award award there =
      let w = witness (award_at award s) there in
      let h = have.awards award w.0 w.1 in
      let l = witness (lot_at (w.0.notice, w.0.lot) s) h.lot in
      let n = witness (notice_at w.0.notice s) h.notice in
      record { w = w.0; l = l.0; n = n.0; is = w.1; lot = ap (λ o. lot_of_award o s) w.1 ∙ l.1; notice = ap (λ o. notice_of_award o s) w.1 ∙ n.1; notice_is = n.1 }

  pub of_contract : (contract : ℕ) → is_some (contract_at contract s) ≡ true → OfContract s contract
  of_contract contract there =
      let c = witness (contract_at contract s) there in
      let h = have.contracts contract c.0 c.1 in
      let l = witness (lot_at (c.0.notice, c.0.lot) s) h.lot in
      let n = witness (notice_at c.0.notice s) h.notice in
      let w = witness (line_at l.0.line s) (have.lots (c.0.notice, c.0.lot) l.0 l.1).line in
      record {
        c = c.0;
        n = n.0;
        w = w.0;
        is = c.1;
        notice = ap (λ o. notice_of_contract o s) c.1 ∙ n.1;
        line = ap (λ o. line_of_lot o s) (ap (λ o. lot_of_contract o s) c.1 ∙ l.1) ∙ w.1;
        notice_is = n.1;
      }
