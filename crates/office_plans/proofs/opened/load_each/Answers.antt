use Rattle.office_plans.proofs.Names.{◌≡◌, List, not, ap, sym, subst, arith, list_any, lot_cmp, lot_key, LotRow, AreFrom, has_seal_and_lot, HasLotOf, tender_read, with_lot}
use Rattle.office_plans.proofs.LookedUp.{exact_lots, here, from_one, none_from}
use Rattle.office_plans.proofs.ReadTenders.{next_read, rest_whole}
use Rattle.office_plans.proofs.opened.load_each.Goals as goal

pub loop-envelope-init : goal.loop-envelope-init
loop-envelope-init g c =
    let made = c.in_ok-tenders.ensures.items in
    let given = c.into_iter-envelope-iterator.ensures.into_iter_gives in
    let all : c.into_iter-envelope-iterator.result.rest.items ≡ c.args.envelopes.items = c.into_iter-envelope-iterator.ensures.into_iter_gives.0 in (
      record { before = λ h. h; same = λ h t held. held; stop = λ h u left. left; sound = λ h was. was },
      λ honest s held. (
        subst (λ (rows : List LotRow). AreFrom lot_cmp lot_key s.lots rows) (sym c.new-lots.ensures) (none_from lot_cmp lot_key s.lots),
        grind (arith, made, given),
        ap (list_any (λ e. not (has_seal_and_lot s e))) all,
      ),
    )

pub loop-envelope-preserved : goal.loop-envelope-preserved
loop-envelope-preserved g c =
    let laws = c.rows_are_kept.ensures in
    let before = c.loop-envelope.invariant in
    let found = c.in_ok-load_lot.ensures in
    let step = c.in_ok-tender.ensures in
    let e = c.in-Some.envelope in
    let old : List LotRow = c.loop-envelope.lots in
    let follow = c.looks_follow.ensures in (
      follow _ _ _ (follow _ _ _ before.0 found.0) step.looks.0,
      λ honest s held.
          let second = step.looks.0.before honest in
          let first = found.0.before second in
          let at_start = before.0.same first s held in
          let so_far = before.1 first s held in
          let lots : c.load_lot.new.lots ≡ with_lot s old (e.notice, e.lot) = found.1 second s at_start in
          let has : HasLotOf s c.load_lot.new.lots e =
          subst (λ (rows : List LotRow). HasLotOf s rows e) (sym lots) (here laws exact_lots s.lots old (e.notice, e.lot) so_far.0) in (
            subst (λ (rows : List LotRow). AreFrom lot_cmp lot_key s.lots rows) (sym lots) (from_one laws exact_lots s.lots old (e.notice, e.lot) so_far.0),
            next_read (tender_read s) c.loop-envelope.tenders.items c.push.new.self.items c.in_ok-tender.tender e c.loop-envelope.envelope-iterator.rest.items
                c.next.new.self.rest.items _ c.in_ok-push.ensures.items (step.looks.1 honest s (found.0.same second s at_start) has) c.in-Some.ensures.steps.0 so_far.1,
            rest_whole (λ e. not (has_seal_and_lot s e)) e c.loop-envelope.envelope-iterator.rest.items c.next.new.self.rest.items _
                (ap not (step.whole.1 honest s (found.0.same second s at_start) has)) c.in-Some.ensures.steps.0 so_far.2,
          ),
    )
