use Rattle.office_tables.proofs.Names.{rules, ◌≡◌, ◌++◌, [], ◌∷◌, sym, subst, AllByRecursion, items_text, IsItem}
use Rattle.office_tables.proofs.Exactly.{exit}
use Rattle.office_tables.proofs.ItemLemmas.{all-push}
use Rattle.office_tables.proofs.ItemReading.{some_left, none_left, one_more, items_unwritten, items_fit, items_read, items_refused}
use Rattle.office_tables.proofs.items.read_items.Goals as goal

pub returns-in_err-item-clause-cause : goal.returns-in_err-item-clause-cause
returns-in_err-item-clause-cause c =
    let some = some_left c.items.rest.now c.is_empty.result c.is_empty.ensures c.items-test.true in
    exit _ c.from_residual.result _ _ c.from_residual.ensures.1 (items_unwritten c.items.found.items c.items.rest.now c.args.text.now c.items.invariant.1 c.items.invariant.0 some) c.in_err-item.ensures.cause

pub items-preserved : goal.items-preserved
items-preserved c =
    let found = c.items.found.items in
    let item = c.in_ok-item.item in
    let pushed : c.push.new.self.items ≡ found ++ (item ∷ []) = search rules in (
      one_more found item c.push.new.self.items c.in_ok-item.behind.now c.items.rest.now c.args.text.now pushed c.in_ok-item.ensures.exact c.items.invariant.0,
      subst (AllByRecursion IsItem) (sym pushed) (all-push IsItem found item c.items.invariant.1 c.in_ok-item.ensures.right),
    )

pub returns-clause-read : goal.returns-clause-read
returns-clause-read c =
    let whole = none_left (items_text c.items.found.items) c.items.rest.now c.args.text.now c.is_empty.result c.is_empty.ensures c.items-test.false c.items.invariant.0 in
    items_read c.items.found.items c.args.text.now c.items.invariant.1 whole c.read.result c.ok_or.result c.read.ensures.found c.ok_or.ensures.value

pub returns-clause-fits : goal.returns-clause-fits
returns-clause-fits c =
    let whole = none_left (items_text c.items.found.items) c.items.rest.now c.args.text.now c.is_empty.result c.is_empty.ensures c.items-test.false c.items.invariant.0 in
    items_fit c.items.found.items c.args.text.now c.items.invariant.1 whole c.read.result c.ok_or.result c.read.ensures.found c.read.ensures.some c.read.ensures.differ c.ok_or.ensures.value

pub returns-clause-cause : goal.returns-clause-cause
returns-clause-cause c =
    let whole = none_left (items_text c.items.found.items) c.items.rest.now c.args.text.now c.is_empty.result c.is_empty.ensures c.items-test.false c.items.invariant.0 in
    items_refused c.items.found.items c.args.text.now c.items.invariant.1 whole c.read.result c.ok_or.result c.read.ensures.none c.ok_or.ensures.value
