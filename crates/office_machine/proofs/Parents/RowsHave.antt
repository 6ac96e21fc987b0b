-- For the rows of an office, the rows that they refer to exist in any tables that have all rows of the office.
use Rattle.office_machine.proofs.Names.{◌≡◌, ℕ, List, filter, Option, Some, None, is_some, ◌∙◌, ap, IsSome, option_and_then, AllByRecursion, EnvelopeRow, IsSorted, Tables, security_at, contract_at, securities_of_lot, Returned, LotRow, SecurityRow, AwardRow, ContractRow, Put, security_returned, securities_returned, is_held_security, security_of_envelope, lot_of_award, HaveParents, LotHas, SecurityHas, found_key}
use Rattle.office_machine.proofs.Parents.ParentsPut.{Grows, Parents, AllParents, lot_still, security_still, parents-all, all-filter, all-table}
use Rattle.office_machine.proofs.Rows.Keyed as keyed

module _ (s u : Tables) (have : HaveParents s s) (g : Grows s u) where
  -- the security of a tender
  pub security_found : (o : Option EnvelopeRow) (r : SecurityRow) → security_of_envelope o s ≡ Some r → SecurityHas u r
  security_found None r is = cc
  security_found (Some e) r is = by e.security is
    where
      by : (o : Option ℕ) → option_and_then (λ n. security_at n s) o ≡ Some r → SecurityHas u r
      by None is = cc
      by (Some n) is = security_still s u g r (have.securities n r is)

  -- the lot of an award
  pub lot_of : (o : Option AwardRow) (l : LotRow) → lot_of_award o s ≡ Some l → LotHas u l
  lot_of None l is = cc
  lot_of (Some a) l is = lot_still s u g l (have.lots (a.notice, a.lot) l is)

  -- the contract of an entry
  pub entry_has : (contract : ℕ) (c : ContractRow) → contract_at contract s ≡ Some c → IsSome (contract_at c.contract u)
  entry_has contract c is = g.contracts c.contract (ap is_some (ap (λ k. contract_at k s) (found_key keyed.contracts s.contracts contract c is) ∙ is))

  pub returned : (r : SecurityRow) → SecurityHas u r → SecurityHas u (record r { state = Returned })
  returned r h = record { notice = h.notice; lot = h.lot; tenderer = h.tenderer }

  -- the securities that a command returns, if tables are in order
  module _ (order : IsSorted s) where
    pub securities_have : (make : SecurityRow → Put) → ((r : SecurityRow) → SecurityHas u r → Parents u (make r)) → AllByRecursion (λ r. Parents u (make r)) s.securities
    securities_have make h = all-table keyed.securities (λ r. Parents u (make r)) s.securities order.securities (λ k r is. h r (security_still s u g r (have.securities k r is)))

    pub lot_securities : (notice lot : List ℕ) → AllParents u (securities_returned (securities_of_lot notice lot s))
    lot_securities notice lot =
        parents-all u security_returned (filter is_held_security (securities_of_lot notice lot s))
        (all-filter _ is_held_security (securities_of_lot notice lot s) (all-filter _ _ s.securities (securities_have security_returned returned)))
