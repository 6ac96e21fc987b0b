use Rattle.office_desk.proofs.Names.{◌≡◌, List, sym, subst, id_cmp, tenderer_key, TendererRow, AreFrom, IsAsIn, with_tenderer, exact_ids, from_one, here, none_from}
use Rattle.office_desk.proofs.OpenedTenders.{next_opened}
use Rattle.office_desk.proofs.queries.minutes.load_tenders.Goals as goal

pub loop-row-init : goal.loop-row-init
loop-row-init g c = (
  record { before = λ h. h; same = λ h t held. held; stop = λ h u left. left; sound = λ h was. was },
  λ honest s held. (
    subst (λ (rows : List TendererRow). AreFrom id_cmp tenderer_key s.tenderers rows) (sym c.new-firms.ensures) (none_from id_cmp tenderer_key s.tenderers),
    c.in_ok-tenders.ensures.items,
  ),
)

pub loop-row-preserved : goal.loop-row-preserved
loop-row-preserved g c =
    let laws = c.rows_are_kept.ensures in
    let before = c.loop-row.invariant in
    let found = c.in_ok-load_firm.ensures in
    let row = c.row-item.result in
    let old : List TendererRow = c.loop-row.firms in (
      c.looks_follow.ensures _ _ _ before.0 found.0,
      λ honest s held.
          let first = found.0.before honest in
          let so_far = before.1 first s held in
          let firms : c.load_firm.new.firms ≡ with_tenderer s old row.tenderer = found.1 honest s (before.0.same first s held) in
          let has : IsAsIn id_cmp tenderer_key s.tenderers c.load_firm.new.firms row.tenderer =
          subst (λ (rows : List TendererRow). IsAsIn id_cmp tenderer_key s.tenderers rows row.tenderer) (sym firms)
          (here laws exact_ids s.tenderers old row.tenderer so_far.0) in (
            subst (λ (rows : List TendererRow). AreFrom id_cmp tenderer_key s.tenderers rows) (sym firms) (from_one laws exact_ids s.tenderers old row.tenderer so_far.0),
            next_opened s.tenderers c.args.rows.now c.loop-row.row-index row c.loop-row.tenders.items c.push.new.self.items c.in_ok-tender_of.field-0
                c.loop-row-test.true c.row-item.is so_far.1 (c.in_ok-tender_of.ensures.tender s.tenderers has) c.in_ok-push.ensures.items,
          ),
    )
