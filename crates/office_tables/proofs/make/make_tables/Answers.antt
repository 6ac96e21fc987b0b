use Rattle.office_tables.proofs.Names.{rules, arith, ◌≡◌, [], ◌∷◌, ◌+◌, get_or, drop, map, subst, drop_more, drop_all, state, HasCleanDisk, survives_then, onto}
use Rattle.office_tables.proofs.MakingSteps.{MadeOf, makes_first, makes_more, all_made, goes_refused}
use Rattle.office_tables.proofs.Stepping.{on_err}
use Rattle.office_tables.proofs.make.make_tables.Goals as goal

pub texts-init : goal.texts-init
texts-init g c =
    let old = state g.S.Store c.args.tx.now.conn.now in
    let now = state g.S.Store c.make_table.new.tx.conn.now in (
      search rules,
      c.make_table.ensures.survives,
      λ clean inside ks texts. makes_first old now ks c.args.first.now (map (λ text. text.now) c.args.more.now) texts (λ k it. c.in_ok-make_table.ensures.made clean inside k it),
    )

pub texts-preserved : goal.texts-preserved
texts-preserved g c =
    let old = state g.S.Store c.args.tx.now.conn.now in
    let mid = state g.S.Store c.texts.tx.conn.now in
    let new = state g.S.Store c.make_table-in-texts.new.tx.conn.now in
    let more = c.args.more.now in
    let i = c.texts.text-index in
    let item = get_or more i (record { ref_ptr = (0, 0); now = [] }) in
    let next : drop i more ≡ item ∷ drop (i + 1) more = drop_more more i _ (omega arith) in (
      search rules,
      survives_then old mid new (λ _. ⊥) (λ _. ⊥) (λ _. ⊥) (λ _ db none. none) (λ _ db none. none) c.texts.invariant.1 c.make_table-in-texts.ensures.survives,
      λ clean inside ks texts.
          let early : HasCleanDisk mid = omega (arith, clean, c.make_table-in-texts.ensures.survives.clean) in
          let so_far = subst (λ l. MadeOf old mid (onto [] ks) (map (λ text. text.now) l)) next (c.texts.invariant.2 early inside ks texts) in
          makes_more old mid new (onto [] ks) item.now (map (λ text. text.now) (drop (i + 1) more)) (λ k it. c.in_ok-make_table-2.ensures.made clean so_far.4.goes.mode k it) so_far,
    )

pub returns-in_err-make_table-2-clause-refused : goal.returns-in_err-make_table-2-clause-refused
returns-in_err-make_table-2-clause-refused g c clean inside ks texts =
    let old = state g.S.Store c.args.tx.now.conn.now in
    let mid = state g.S.Store c.texts.tx.conn.now in
    let new = state g.S.Store c.make_table-in-texts.new.tx.conn.now in
    let late : HasCleanDisk new = search rules in
    let early : HasCleanDisk mid = omega (arith, late, c.make_table-in-texts.ensures.survives.clean) in
    let so_far = c.texts.invariant.2 early inside ks texts in
    on_err _ _ (goes_refused old mid new so_far.4.goes (c.in_err-make_table-2.ensures.refused late so_far.4.goes.mode))

pub returns-clause-made : goal.returns-clause-made
returns-clause-made g c clean inside ks texts =
    let old = state g.S.Store c.args.tx.now.conn.now in
    let now = state g.S.Store c.texts.tx.conn.now in
    let none = drop_all c.texts.text-index c.args.more.now (omega arith) in
    all_made old now (onto [] ks) (subst (λ l. MadeOf old now (onto [] ks) (map (λ text. text.now) l)) none (c.texts.invariant.2 clean inside ks texts))
