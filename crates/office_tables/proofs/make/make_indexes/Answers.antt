use Rattle.office_tables.proofs.Names.{rules, arith, ◌≡◌, [], ◌∷◌, ◌+◌, get_or, drop, map, subst, drop_more, state, HasCleanDisk, survives_then, AreIndexings}
use Rattle.office_tables.proofs.MakingSteps.{indexes_then, goes_refused}
use Rattle.office_tables.proofs.Stepping.{on_err}
use Rattle.office_tables.proofs.make.make_indexes.Goals as goal

pub texts-init : goal.texts-init
texts-init g c = (
  search rules,
  c.make_index.ensures.survives,
  λ clean inside texts. (c.in_ok-make_index.ensures.made clean inside texts.0.0 texts.0.1 texts.0.2 texts.0.3, texts.1),
)

pub texts-preserved : goal.texts-preserved
texts-preserved g c =
    let old = state g.S.Store c.args.tx.now.conn.now in
    let mid = state g.S.Store c.texts.tx.conn.now in
    let new = state g.S.Store c.make_index-in-texts.new.tx.conn.now in
    let more = c.args.more.now in
    let i = c.texts.text-index in
    let item = get_or more i (record { ref_ptr = (0, 0); now = [] }) in
    let next : drop i more ≡ item ∷ drop (i + 1) more = drop_more more i _ (omega arith) in (
      search rules,
      survives_then old mid new (λ _. ⊥) (λ _. ⊥) (λ _. ⊥) (λ _ db none. none) (λ _ db none. none) c.texts.invariant.1 c.make_index-in-texts.ensures.survives,
      λ clean inside texts.
          let early : HasCleanDisk mid = omega (arith, clean, c.make_index-in-texts.ensures.survives.clean) in
          let so_far = c.texts.invariant.2 early inside texts in
          let left : AreIndexings (item.now ∷ map (λ text. text.now) (drop (i + 1) more)) = subst (λ l. AreIndexings (map (λ text. text.now) l)) next so_far.1 in
          (indexes_then old mid new so_far.0 (c.in_ok-make_index-2.ensures.made clean so_far.0.goes.mode left.0.0 left.0.1 left.0.2 left.0.3), left.1),
    )

pub returns-in_err-make_index-2-clause-refused : goal.returns-in_err-make_index-2-clause-refused
returns-in_err-make_index-2-clause-refused g c clean inside texts =
    let old = state g.S.Store c.args.tx.now.conn.now in
    let mid = state g.S.Store c.texts.tx.conn.now in
    let new = state g.S.Store c.make_index-in-texts.new.tx.conn.now in
    let late : HasCleanDisk new = search rules in
    let early : HasCleanDisk mid = omega (arith, late, c.make_index-in-texts.ensures.survives.clean) in
    let so_far = (c.texts.invariant.2 early inside texts).0 in
    on_err _ _ (goes_refused old mid new so_far.goes (c.in_err-make_index-2.ensures.refused late so_far.goes.mode))

pub returns-clause-made : goal.returns-clause-made
returns-clause-made g c clean inside texts = (c.texts.invariant.2 clean inside texts).0
