use Rattle.office_changes.proofs.Names.{rules, arith, ◌≡◌, List, [], ◌∷◌, ◌++◌, ◌+◌, drop, take, map, ap, sym, subst, ◌∙◌, drop_more, map-append, take-append-drop, take_all, take_more, state, HasCleanDisk, survives_then, Put, FormerNotice, NoticeRow, OneFails, RunAll, Statement, notice_put, Puts, fails_early, fails_later, fails_unready, run_then}
use Rattle.office_base.specs.declared.puts.Put.TheVariants as puts
use Rattle.office_changes.proofs.Failing.{same_err}
use Rattle.office_changes.proofs.Steps.{puts_push, refused_then, on_err}
use Rattle.office_changes.proofs.migrate.put_notices.Goals as goal

abbrev put_of : FormerNotice → Put
put_of r = puts.Notice r.row

abbrev row_of : FormerNotice → NoticeRow
row_of r = r.row

pub notices-preserved : goal.notices-preserved
notices-preserved g c =
    let old = state g.S.Store c.args.tx.now.conn.now in
    let mid = state g.S.Store c.notices.tx.conn.now in
    let new = state g.S.Store c.put_notice.new.tx.conn.now in (
      search rules,
      survives_then old mid new (λ _. ⊥) (λ _. ⊥) (λ _. ⊥) (λ _ db none. none) (λ _ db none. none) c.notices.invariant.1 c.put_notice.ensures.survives,
      λ clean inside.
          let early : HasCleanDisk mid = omega (arith, c.put_notice.ensures.survives.clean) in
          let first = c.notices.invariant.2 early inside in
          let second = c.in_ok-put_notice.ensures.puts clean first.goes.mode in
          let both = puts_push old mid new _ _ c.notices.invariant.1.limit first second in
          let more : take (c.notices.notice-index + 1) c.args.notices.now ≡ take c.notices.notice-index c.args.notices.now ++ c.notice-item.result ∷ [] = search (rules, take_more) in
          let mapped = ap (map put_of) more ∙ map-append put_of (take c.notices.notice-index c.args.notices.now) (c.notice-item.result ∷ []) in
          rw mapped both,
      λ clean inside.
          let early : HasCleanDisk mid = omega (arith, c.put_notice.ensures.survives.clean) in
          let first = c.notices.invariant.2 early inside in
          let done = take c.notices.notice-index c.args.notices.now in
          let item = c.notice-item.result in
          let more : take (c.notices.notice-index + 1) c.args.notices.now ≡ done ++ item ∷ [] = search (rules, take_more) in
          let listed = ap (λ (l : List FormerNotice). map notice_put (map row_of l)) more ∙ ap (map notice_put) (map-append row_of done (item ∷ [])) ∙ map-append notice_put (map row_of done) (row_of item ∷ []) in
          subst (λ (l : List Statement). RunAll g.S.Store l c.args.tx.now.conn.now c.put_notice.new.tx.conn.now) (sym listed)
          (run_then g.S.Store (map notice_put (map row_of done)) (notice_put (row_of item) ∷ []) c.args.tx.now.conn.now c.notices.tx.conn.now c.put_notice.new.tx.conn.now
          (c.notices.invariant.3 early inside) (c.in_ok-put_notice.ensures.ran clean first.goes.mode)),
    )

pub returns-in_err-put_notice-clause-refused : goal.returns-in_err-put_notice-clause-refused
returns-in_err-put_notice-clause-refused g c clean inside =
    let old = state g.S.Store c.args.tx.now.conn.now in
    let mid = state g.S.Store c.notices.tx.conn.now in
    let new = state g.S.Store c.put_notice.new.tx.conn.now in
    let late : HasCleanDisk new = search rules in
    let early : HasCleanDisk mid = omega (arith, c.put_notice.ensures.survives.clean) in
    let first = c.notices.invariant.2 early inside in
    on_err _ _ (refused_then old mid new _ first (c.in_err-put_notice.ensures.refused late first.goes.mode))

pub returns-clause-puts : goal.returns-clause-puts
returns-clause-puts g c clean inside =
    let all : take c.notices.notice-index c.args.notices.now ≡ c.args.notices.now = take_all c.notices.notice-index c.args.notices.now (omega arith) in
    subst (λ l. Puts (state g.S.Store c.args.tx.now.conn.now) (state g.S.Store c.notices.tx.conn.now) (map put_of l)) all (c.notices.invariant.2 clean inside)

pub returns-in_err-begin-clause-fails : goal.returns-in_err-begin-clause-fails
returns-in_err-begin-clause-fails g c clean inside =
    same_err c.from_residual.result _ _ c.from_residual.ensures.1
    (fails_unready g.S.Store (map notice_put (map row_of c.args.notices.now)) c.args.tx.now.conn.now c.begin.new.tx.conn.now _ (c.in_err-begin.ensures.unready clean))

pub returns-in_err-put_notice-clause-fails : goal.returns-in_err-put_notice-clause-fails
returns-in_err-put_notice-clause-fails g c clean inside =
    let mid = state g.S.Store c.notices.tx.conn.now in
    let early : HasCleanDisk mid = omega (arith, clean, c.put_notice.ensures.survives.clean) in
    let mode = (c.notices.invariant.2 early inside).goes.mode in
    let i = c.notices.notice-index in
    let all = c.args.notices.now in
    let item = c.notice-item.result in
    let done = take i all in
    let rest = drop (i + 1) all in
    let next : drop i all ≡ item ∷ rest = drop_more all i item (omega arith) ∙ ap (λ (y : FormerNotice). y ∷ rest) (sym c.notice-item.is) in
    let whole : all ≡ done ++ item ∷ rest = sym (take-append-drop i all) ∙ ap (λ (l : List FormerNotice). done ++ l) next in
    let listed =
    ap (λ (l : List FormerNotice). map notice_put (map row_of l)) whole ∙ ap (map notice_put) (map-append row_of done (item ∷ rest)) ∙ map-append notice_put (map row_of done) (row_of item ∷ map row_of rest) in
    same_err c.from_residual-in_err-put_notice.result _ _ c.from_residual-in_err-put_notice.ensures.1
    (subst (λ (l : List Statement). OneFails g.S.Store l c.args.tx.now.conn.now c.put_notice.new.tx.conn.now c.in_err-put_notice.field-0.0) (sym listed)
    (fails_later g.S.Store (map notice_put (map row_of done)) (notice_put (row_of item) ∷ map notice_put (map row_of rest)) c.args.tx.now.conn.now c.notices.tx.conn.now c.put_notice.new.tx.conn.now _
    (c.notices.invariant.3 early inside) c.notices.invariant.1.counts
    (fails_early g.S.Store (notice_put (row_of item) ∷ []) (map notice_put (map row_of rest)) c.notices.tx.conn.now c.put_notice.new.tx.conn.now _ (c.in_err-put_notice.ensures.fails clean mode))))

pub returns-clause-ran : goal.returns-clause-ran
returns-clause-ran g c clean inside =
    subst (λ (l : List FormerNotice). RunAll g.S.Store (map notice_put (map row_of l)) c.args.tx.now.conn.now c.notices.tx.conn.now)
    (take_all c.notices.notice-index c.args.notices.now (omega arith)) (c.notices.invariant.3 clean inside)
