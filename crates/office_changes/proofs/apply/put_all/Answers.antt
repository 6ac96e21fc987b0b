use Rattle.office_changes.proofs.Names.{rules, arith, ◌≡◌, [], ◌∷◌, ◌++◌, ◌+◌, drop, length, append_assoc, ap, sym, subst, ◌∙◌, drop_more, nil_from_length, IfErr, state, HasCleanDisk, survives_then, IsExcused, StoreFails}
use Rattle.office_changes.proofs.Steps.{puts_push}
use Rattle.office_changes.proofs.Failing.{same_err, excused_with, fails_early, fails_later}
use Rattle.office_changes.proofs.apply.put_all.Goals as goal

pub returns-in_default-clause-failed : goal.returns-in_default-clause-failed
returns-in_default-clause-failed g c clean inside t was =
    let old = state g.S.Store c.args.tx.now.conn.now in
    let new = state g.S.Store c.begin.new.tx.conn.now in
    let empty : length c.args.puts.now ≡ 0 = search rules in
    let none = nil_from_length c.args.puts.now empty in
    subst (λ ps. IfErr c.begin.result (IsExcused (StoreFails old new old.now ps))) (sym none) (c.begin.ensures.failed clean inside t was)

pub returns-in_err-put_one-clause-failed : goal.returns-in_err-put_one-clause-failed
returns-in_err-put_one-clause-failed g c clean inside t was =
    let old = state g.S.Store c.args.tx.now.conn.now in
    let new = state g.S.Store c.put_one.new.tx.conn.now in
    let whole : c.in-Some.first.now ∷ c.in-Some.more.now ≡ c.args.puts.now = search rules in
    same_err c.from_residual.result _ _ c.from_residual.ensures.1
    (excused_with _ _ _ (c.in_err-put_one.ensures.failed clean inside t was) (λ cause.
    subst (StoreFails old new old.now) whole (fails_early old new old.now (c.in-Some.first.now ∷ []) c.in-Some.more.now cause)))

pub puts-init : goal.puts-init
puts-init g c =
    let whole : c.in-Some.first.now ∷ c.in-Some.more.now ≡ c.args.puts.now = search rules in
    (search rules, c.put_one.ensures.survives, (c.in-Some.first.now ∷ [], whole, λ clean. c.in_ok-put_one.ensures.puts clean c.requires.inside))

pub puts-preserved : goal.puts-preserved
puts-preserved g c =
    let old = state g.S.Store c.args.tx.now.conn.now in
    let mid = state g.S.Store c.puts.tx.conn.now in
    let new = state g.S.Store c.put_one-in-puts.new.tx.conn.now in
    let (done, left, made) = c.puts.invariant.2 in
    let item = c.put-item.result in
    let more = c.in-Some.more.now in
    let i = c.puts.put-index in
    let next = drop_more more i item (omega arith) ∙ ap (λ y. y ∷ drop (i + 1) more) (sym c.put-item.is) in (
      search rules,
      survives_then old mid new (λ _. ⊥) (λ _. ⊥) (λ _. ⊥) (λ _ db none. none) (λ _ db none. none) c.puts.invariant.1 c.put_one-in-puts.ensures.survives,
      (
        done ++ item ∷ [],
        append_assoc done (item ∷ []) (drop (i + 1) more) ∙ ap (λ l. done ++ l) (sym next) ∙ left,
        λ clean.
            let early : HasCleanDisk mid = omega (arith, c.put_one-in-puts.ensures.survives.clean) in
            let first = made early in
            puts_push old mid new done item c.puts.invariant.1.limit first (c.in_ok-put_one-2.ensures.puts clean first.goes.mode),
      ),
    )

pub returns-in_err-put_one-2-clause-failed : goal.returns-in_err-put_one-2-clause-failed
returns-in_err-put_one-2-clause-failed g c clean inside t was =
    let old = state g.S.Store c.args.tx.now.conn.now in
    let mid = state g.S.Store c.puts.tx.conn.now in
    let new = state g.S.Store c.put_one-in-puts.new.tx.conn.now in
    let early : HasCleanDisk mid = omega (arith, c.put_one-in-puts.ensures.survives.clean) in
    let (done, left, made) = c.puts.invariant.2 in
    let first = made early in
    let item = c.put-item.result in
    let more = c.in-Some.more.now in
    let i = c.puts.put-index in
    let next = drop_more more i item (omega arith) ∙ ap (λ y. y ∷ drop (i + 1) more) (sym c.put-item.is) in
    let rest = drop (i + 1) more in
    let whole = append_assoc done (item ∷ []) rest ∙ ap (λ l. done ++ l) (sym next) ∙ left in
    same_err c.from_residual-in_err-put_one-2.result _ _ c.from_residual-in_err-put_one-2.ensures.1
    (excused_with _ _ _ (c.in_err-put_one-2.ensures.failed clean first.goes.mode _ (first.tables t was)) (λ cause.
    subst (StoreFails old new old.now) whole
    (fails_early old new old.now (done ++ item ∷ []) rest (fails_later old mid new done (item ∷ []) t was first c.puts.invariant.1.counts c.puts.invariant.1.limit cause))))
