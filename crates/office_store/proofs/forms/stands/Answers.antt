use Rattle.office_store.proofs.Names.{rules, arith, ◌≡◌, ◌∙◌, ◌==◌, ℕ, List, ap, sym, Some, length, filter, slice_get, ◌&&◌, Option, eqb-true, eq-eqb, common_steps, gets, Index, Schema, Table, table_named, at_tree, StandsAlike}
use Rattle.office_store.proofs.forms.stands.Goals as goal

-- the table that the name finds has the tree of the table with this form
tree_is : (schema : Schema) (form item : Table) (place : ℕ) (it : StandsAlike schema form) → table_named schema form.name ≡ Some place → slice_get schema.tables place ≡ Some item → item.tree ≡ it.tree
tree_is schema form item place it named here =
    let same : place ≡ it.place = (let e : Some place ≡ Some it.place = sym named ∙ it.named in cc) in
    let found : item ≡ at_tree form it.tree = (let e : Some item ≡ Some (at_tree form it.tree) = sym here ∙ ap (slice_get schema.tables) same ∙ it.found in cc) in
    ap (λ (t : Table). t.tree) found

pub returns-clause-alike : goal.returns-clause-alike
returns-clause-alike c guarded =
    let item = c.index-tables-place.result in
    let there : slice_get c.args.schema.now.tables c.in-Some.place ≡ Some item = grind (arith, common_steps, gets) in
    let same : item ≡ at_tree c.args.form.now item.tree = search rules in
    record {
      place = c.in-Some.place;
      tree = item.tree;
      named = search rules;
      found = there ∙ ap Some same;
      alone = search rules;
      guarded = sym c.guards_at.ensures ∙ eqb-true c.guards_at.result c.index_count.result guarded ∙ c.index_count.ensures;
    }

pub returns-then-tables_at-ne1-clause-found : goal.returns-then-tables_at-ne1-clause-found
returns-then-tables_at-ne1-clause-found c plain it =
    let item = c.index-tables-place.result in
    let here : slice_get c.args.schema.now.tables c.in-Some.place ≡ Some item = grind (arith, common_steps, gets) in
    let named : table_named c.args.schema.now c.args.form.now.name ≡ Some c.in-Some.place = search rules in
    let tree = tree_is c.args.schema.now c.args.form.now item c.in-Some.place it named here in
    let one : c.tables_at.result ≡ 1 = c.tables_at.ensures ∙ ap (λ (n : ℕ). length (filter (λ (t : Table). t.tree == n) c.args.schema.now.tables)) tree ∙ it.alone in
    first_of (search rules, grind (arith, common_steps))

pub returns-clause-found : goal.returns-clause-found
returns-clause-found c plain it =
    let item = c.index-tables-place.result in
    let here : slice_get c.args.schema.now.tables c.in-Some.place ≡ Some item = grind (arith, common_steps, gets) in
    let named : table_named c.args.schema.now c.args.form.now.name ≡ Some c.in-Some.place = search rules in
    let tree = tree_is c.args.schema.now c.args.form.now item c.in-Some.place it named here in
    let same : c.guards_at.result ≡ c.index_count.result =
    c.guards_at.ensures ∙ ap (λ (n : ℕ). length (filter (λ (i : Index). i.is_unique && (i.table == n)) c.args.schema.now.indexes)) tree ∙ it.guarded ∙ sym c.index_count.ensures in
    eq-eqb c.guards_at.result c.index_count.result same
