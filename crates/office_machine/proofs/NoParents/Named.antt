-- If each row that others name exists, each row has its parents, but for those that no key finds.
use Rattle.office_machine.proofs.Names.{Bool, true, false, ◌&&◌, ◌||◌, ◌≡◌, List, Some, is_some, filter, refl, sym, ◌∙◌, ap, nat_cmp_total, Ordering, same_id, row_at, same_number, of_notice, of_line, late_at, compiled_at, performance_at, AwardRow, ContractRow, EntryRow, EnvelopeRow, ReleaseRow, SecurityRow, same_itself, of_found, IsKeyed, found_key, own_key, NoKindIsForgotten, OfLine, OfNotice, OfLot, has_rows}
use Rattle.office_machine.specs.References.{OfContract}
use Rattle.office_machine.proofs.NoParents.New.{none_of}
use Rattle.office_machine.proofs.Rows.Keyed as keyed

or_left : (a b : Bool) → a ≡ true → (a || b) ≡ true
or_left true b e = refl
or_left false b e = cc

or_right : (a b : Bool) → b ≡ true → (a || b) ≡ true
or_right true b e = refl
or_right false b e = e

and_both : (a b : Bool) → a ≡ true → b ≡ true → (a && b) ≡ true
and_both a b e f = λ i. e i && f i

-- a row that is found and passes a test is among those that pass
found_named : {K X : Type 0} {R : K → K → Ordering} {key : X → K} (t : IsKeyed R key) (p : X → Bool) (xs : List X) (k : K) (x : X) → row_at R key xs k ≡ Some x → p x ≡ true → has_rows (filter p xs) ≡ true
found_named {R = R} {key = key} t p xs k x is own = by (has_rows (filter p xs)) refl
  where
    by : (b : Bool) → has_rows (filter p xs) ≡ b → has_rows (filter p xs) ≡ true
    by true e = e
    by false e = absurd (let no : true ≡ false = sym own ∙ of_found R key (λ x. p x ≡ false) xs k x (none_of p xs e) is in cc)

pub no_kind_is_forgotten : NoKindIsForgotten
no_kind_is_forgotten t all others = record {
  lots = λ k l is. record {
    notice = all (OfNotice l.notice) (or_left _ _ (or_left _ _ (or_left _ _ (or_left _ _ (or_left _ _ (or_left _ _ (or_left _ _ (found_named keyed.lots (of_notice l.notice) t.lots k l is (same_itself l.notice)))))))));
    line = all (OfLine l.line) (found_named keyed.lots (of_line l.line) t.lots k l is (same_itself l.line));
  };
  envelopes = λ k e is. record {
    notice = all (OfNotice e.notice) (or_left _ _ (or_left _ _ (or_left _ _ (or_left _ _ (or_left _ _ (or_left _ _ (or_right _ _ (found_named keyed.envelopes (λ (r : EnvelopeRow). same_id r.notice e.notice) t.envelopes k e is (same_itself e.notice)))))))));
    lot = all (OfLot e.notice e.lot) (or_left _ _ (or_left _ _ (or_left _ _ (found_named keyed.envelopes (λ (r : EnvelopeRow). same_id r.notice e.notice && same_id r.lot e.lot) t.envelopes k e is (and_both _ _ (same_itself e.notice) (same_itself e.lot))))));
    tenderer = (others.envelopes k e is).0;
    security = (others.envelopes k e is).1;
  };
  securities = λ k s is. record {
    notice = all (OfNotice s.notice) (or_left _ _ (or_left _ _ (or_left _ _ (or_left _ _ (or_right _ _ (found_named keyed.securities (λ (r : SecurityRow). same_id r.notice s.notice) t.securities k s is (same_itself s.notice)))))));
    lot = all (OfLot s.notice s.lot) (or_left _ _ (or_left _ _ (or_right _ _ (found_named keyed.securities (λ (r : SecurityRow). same_id r.notice s.notice && same_id r.lot s.lot) t.securities k s is (and_both _ _ (same_itself s.notice) (same_itself s.lot))))));
    tenderer = others.securities k s is;
  };
  awards = λ k a is. record {
    notice = all (OfNotice a.notice) (or_left _ _ (or_left _ _ (or_left _ _ (or_right _ _ (found_named keyed.awards (λ (r : AwardRow). same_id r.notice a.notice) t.awards k a is (same_itself a.notice))))));
    lot = all (OfLot a.notice a.lot) (or_left _ _ (or_right _ _ (found_named keyed.awards (λ (r : AwardRow). same_id r.notice a.notice && same_id r.lot a.lot) t.awards k a is (and_both _ _ (same_itself a.notice) (same_itself a.lot)))));
    envelope = others.awards k a is;
  };
  contracts = λ k c is. record {
    notice = all (OfNotice c.notice) (or_left _ _ (or_left _ _ (or_right _ _ (found_named keyed.contracts (λ (r : ContractRow). same_id r.notice c.notice) t.contracts k c is (same_itself c.notice)))));
    lot = all (OfLot c.notice c.lot) (or_right _ _ (found_named keyed.contracts (λ (r : ContractRow). same_id r.notice c.notice && same_id r.lot c.lot) t.contracts k c is (and_both _ _ (same_itself c.notice) (same_itself c.lot))));
    tenderer = others.contracts k c is;
  };
  entries = λ k e is. record {
    contract = all (OfContract e.contract) (or_left _ _ (found_named keyed.entries (λ (r : EntryRow). same_number r.contract e.contract) t.entries k e is (own_key nat_cmp_total e.contract)));
  };
  performances = λ k w is. record {
    contract = all (OfContract w.contract) (or_right _ _ (ap (λ k. is_some (performance_at k t)) (found_key keyed.performances t.performances k w is) ∙ ap is_some is));
  };
  releases = λ k r is. record { notice = all (OfNotice r.notice) (or_left _ _ (or_left _ _ (or_left _ _ (or_left _ _ (or_left _ _ (or_right _ _ (found_named keyed.releases (λ (q : ReleaseRow). same_id q.notice r.notice) t.releases k r is (same_itself r.notice)))))))) };
  merges = λ k r is. record { notice = all (OfNotice r.notice) (or_right _ _ (ap (λ k. is_some (compiled_at k t)) (found_key keyed.compiled t.compiled k r is) ∙ ap is_some is)) };
  late_rules = λ k r is. record { notice = all (OfNotice r.notice) (or_left _ _ (or_right _ _ (ap (λ k. is_some (late_at k t)) (found_key keyed.late_rules t.late_rules k r is) ∙ ap is_some is))) };
}
