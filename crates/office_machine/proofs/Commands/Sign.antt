-- The signing of a contract keeps the laws of the office.
pub mod Accounts
pub mod Fates
pub mod Gentle
use Rattle.office_machine.proofs.Names.{max, ℕ, Option, option_and_then, IsSome, [], ◌∷◌, refl, ◌≡◌, Bool, true, false, List, ◌++◌, map, filter, Some, None, is_some, option_map, sym, ◌∙◌, ap, arith, subst, not, ◌||◌, AllByRecursion, Sign, NamedSecurity, securities_of_lot, IsSorted, award_at, contract_at, Tables, envelope_at, tenderer_at, after_puts, securities_of_award, notice_of_award, lot_of_award, envelope_of_award, EnvelopeRow, with_next_release, has_all_releases, security_returned, put_if, securities_returned, is_held_security, clock_put, NoticeRow, LotRow, SecurityRow, AwardRow, ClockRow, Put, sign_tests, sign_rows, sign_puts, sign_parts, tenderer_in, performance_put, signed_award, contracted_lot, contract_row, sign_lacks, ChosenTender, Pairs, HaveParents}
use Rattle.office_base.specs.declared.puts.Put.TheVariants as puts
use Rattle.award_core.specs.Rules.Sign.{performance_made}
use Rattle.office_machine.proofs.Worlds.WorldsPut.{Alike, plain-map, plain-append, plain-if, IsPlain, PutPair, blind-option, plain_pairs}
use Rattle.office_machine.proofs.Parents.NoOrphans.{contract_is_new, price_is_reserved, winner_has_security}
use Rattle.office_machine.proofs.Parents.ParentsPut.{Grows, grows-puts, AllParents, envelope_still, award_still, parents-append, parents-if}
use Rattle.office_machine.proofs.Worlds.WorldsRows.{awarded_pair}
use Rattle.office_machine.proofs.Parents.RowsHave.{lot_securities, lot_of}
use Rattle.office_machine.proofs.Commands.Sign.Accounts.{sign_keeps}
use Rattle.office_machine.proofs.Commands.Footprint.{touches}
use Rattle.office_machine.proofs.Commands.Lawful.{Lawful, Moving}
use Rattle.office_machine.proofs.Passed.{none_holds, not_false}
use Rattle.office_machine.proofs.Parents.SpokenOf.{of_award}
use Rattle.office_machine.proofs.Commands.Tail.{moved, bound, bonded, front, loud, returned_own}
use Rattle.office_machine.proofs.Rows.Keyed.{found_put}
use Rattle.office_machine.proofs.Commands.Sign.Fates as sign_fates
use Rattle.office_machine.proofs.Rows.Keyed as keyed
use Rattle.office_machine.proofs.Commands.Sign.Gentle.{sign_gently}

-- the contract exists after its signing
contract_made : (s : Tables) (clock : ClockRow) (t : ℕ) (a : AwardRow) (n : NoticeRow) (l : LotRow) (o : Option EnvelopeRow) (rows : List SecurityRow) (rest : List Put) → IsSome (contract_at a.award (after_puts (sign_parts clock t a n l o rows ++ rest) s))
contract_made s clock t a n l o rows rest =
    (grows-puts (puts.Notice (with_next_release n) ∷ clock_put clock t ∷ securities_returned rows ++ rest) (after_puts (puts.Award (signed_award a) ∷ puts.Lot (contracted_lot l) ∷ puts.Contract (contract_row t a (tenderer_in o)) ∷ []) s)).contracts a.award
    (ap is_some (found_put keyed.contracts s.contracts (contract_row t a (tenderer_in o))))

module _ (s u : Tables) (have : HaveParents s s) (g : Grows s u) (order : IsSorted s) where
  signer : (a : AwardRow) (e : Option EnvelopeRow) → envelope_at a.receipt s ≡ e → IsSome e → IsSome (tenderer_at (tenderer_in e) u)
  signer a None is there = absurd (let no : false ≡ true = there in cc)
  signer a (Some e) is there = (envelope_still s u g e (have.envelopes a.receipt e is)).tenderer

  -- the rows that its rows refer to exist
  parents_of : (clock : ClockRow) (t award : ℕ) (named : Option NamedSecurity) (o : Option AwardRow) (n : Option NoticeRow) (l : Option LotRow) → award_at award s ≡ o → lot_of_award o s ≡ l
      → Grows (after_puts (sign_puts (record { award = o; notice = n; lot = l; envelope = envelope_of_award o s; securities = securities_of_award o s; clock = clock }) t named) s) u
      → AllParents u (sign_puts (record { award = o; notice = n; lot = l; envelope = envelope_of_award o s; securities = securities_of_award o s; clock = clock }) t named)
  parents_of clock t award named (Some a) (Some n) (Some l) is lot later =
      let had = have.awards award a is in
      let h = award_still s u g a had in
      let k = lot_of s u have g (Some a) l lot in (
        record { notice = h.notice; lot = h.lot; envelope = h.envelope },
        (
          record { notice = k.notice; line = k.line },
          (record { notice = h.notice; lot = h.lot; tenderer = signer a (envelope_at a.receipt s) refl had.envelope }, (tt, (tt, parents-append u (securities_returned (securities_of_lot a.notice a.lot s)) (put_if (performance_put a) named) (lot_securities s u have g order a.notice a.lot) (parents-if u (performance_put a) named (λ _ _. record { contract = later.contracts a.award (contract_made s clock t a n l (envelope_of_award (Some a) s) (securities_of_award (Some a) s) (put_if (performance_put a) named)) }))))),
        ),
      )
  parents_of clock t award named None n l is lot later = tt
  parents_of clock t award named (Some a) None l is lot later = tt
  parents_of clock t award named (Some a) (Some n) None is lot later = tt

-- in both worlds the puts are the same
plain : (clock : ClockRow) (t : ℕ) (w : Option AwardRow) (n : Option NoticeRow) (l : Option LotRow) (o : Option EnvelopeRow) (r : List SecurityRow) (named : Option NamedSecurity) → AllByRecursion IsPlain (sign_puts (record { award = w; notice = n; lot = l; envelope = o; securities = r; clock = clock }) t named)
plain clock t (Some w) (Some n) (Some l) o r named = (tt, (tt, (tt, (tt, (tt, plain-append (map security_returned (filter is_held_security r)) (put_if (performance_put w) named) (plain-map security_returned (filter is_held_security r) (λ _. tt)) (plain-if (performance_put w) named (λ _. tt)))))))
plain clock t None n l o r named = tt
plain clock t (Some w) None l o r named = tt
plain clock t (Some w) (Some n) None o r named = tt

-- the signing reads only the tenderer of the tender
same_signer : (clock : ClockRow) (t : ℕ) (w : Option AwardRow) (n : Option NoticeRow) (l : Option LotRow) (o o' : Option EnvelopeRow) (r : List SecurityRow) (named : Option NamedSecurity) → tenderer_in o' ≡ tenderer_in o → sign_puts (record { award = w; notice = n; lot = l; envelope = o'; securities = r; clock = clock }) t named ≡ sign_puts (record { award = w; notice = n; lot = l; envelope = o; securities = r; clock = clock }) t named
same_signer clock t (Some w) (Some n) (Some l) o o' r named e =
    ap (λ x. puts.Award (signed_award w) ∷ puts.Lot (contracted_lot l) ∷ puts.Contract (contract_row t w x) ∷ puts.Notice (with_next_release n) ∷ clock_put clock t ∷ securities_returned r ++ put_if (performance_put w) named) e
same_signer clock t None n l o o' r named e = refl
same_signer clock t (Some w) None l o o' r named e = refl
same_signer clock t (Some w) (Some n) None o o' r named e = refl

module _ (th : ChosenTender) (W : ℕ → Bool) (s : Tables) (es' : List EnvelopeRow) (all : Pairs (Alike th W) s.envelopes es') where
  alike : (t award : ℕ) (named : Option NamedSecurity) → Pairs (PutPair th W) (sign_puts (sign_rows s award) t named) (sign_puts (sign_rows (record s { envelopes = es' }) award) t named)
  alike t award named =
      let a = award_at award s in
      let o : Option EnvelopeRow = envelope_of_award a s in
      let o' : Option EnvelopeRow = envelope_of_award a (record s { envelopes = es' }) in
      subst (λ ps. Pairs (PutPair th W) (sign_puts (sign_rows s award) t named) ps)
      (sym (same_signer s.clock t a (notice_of_award a s) (lot_of_award a s) o o' (securities_of_award a s) named (blind-option th W tenderer_in (λ _ _. refl) o o' (awarded_pair th W s es' all a))))
      (plain_pairs th W (sign_puts (sign_rows s award) t named) (plain s.clock t a (notice_of_award a s) (lot_of_award a s) o (securities_of_award a s) named))

-- the award's notice, lot and tender exist
none_lacking : (s : Tables) → HaveParents s s → (award : ℕ) (o : Option AwardRow) → award_at award s ≡ o
    → sign_lacks (record { award = o; notice = notice_of_award o s; lot = lot_of_award o s; envelope = envelope_of_award o s; securities = []; clock = s.clock }) ≡ false
none_lacking s have award None is = refl
none_lacking s have award (Some a) is = let h = have.awards award a is in λ i. ap not h.notice i || ap not h.lot i || ap not h.envelope i

pub sign : (award : ℕ) (named : Option NamedSecurity) → Lawful (Sign award named)
sign award named = record {
  accounts = Moving (λ readings xs s moment caller kept order have own allowed. sign_keeps readings xs s moment caller award named kept order have allowed);
  fates = λ readings. sign_fates.sign_keeps readings award named;
  tail = λ readings s moment caller have allowed.
      let now : ℕ = max moment s.clock.moment in
      let tests = none_holds (sign_tests (sign_rows s award) now named) allowed in
      let of = of_award s have award (not_false _ tests.0) in
      let securities = securities_of_award (award_at award s) s in
      moved (ap (option_map (λ (a : AwardRow). a.notice)) of.is)
      (λ i. sign_puts (record { award = of.is i; notice = of.notice i; lot = of.lot i; envelope = (envelope_of_award (award_at award s) s); securities = securities; clock = s.clock }) now named)
      (bound (ap (option_and_then (λ (w : AwardRow). option_map (performance_made w) named)) of.is)
      (bonded (performance_made of.w) named refl
      (front (puts.Award _ ∷ puts.Lot _ ∷ puts.Contract _ ∷ []) (refl, (refl, (refl, tt)))
      (loud of.w.notice of.n (with_next_release of.n) _ _ of.notice_is (ap has_all_releases (of.notice_is ∙ sym of.notice) ∙ tests.1.1.1.1.1.1.1.0) refl refl refl refl (returned_own (touches (Sign award named)) refl securities) refl (omega arith)))));
  parents = λ readings s moment caller order have registered may allowed u grown later. parents_of s u have grown order s.clock _ award named (award_at award s) (notice_of_award (award_at award s) s) (lot_of_award (award_at award s) s) refl refl later;
  lacks = λ xs s moment caller whole allowed.
      let tests = none_holds (sign_tests (sign_rows s award) (max moment s.clock.moment) named) allowed in
      λ i. none_lacking s whole.parents award (award_at award s) refl i || contract_is_new xs s whole award tests.1.1.1.1.0 i
      || winner_has_security xs s whole (award_at award s) i
      || price_is_reserved xs s whole award (award_at award s) refl tests.1.1.1.1.0 i;
  alike = λ th W s es' ss' all seals readings t caller quiet. alike th W s es' all t award named;
  gentle = sign_gently award named;
}
