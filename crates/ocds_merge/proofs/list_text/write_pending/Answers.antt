use Rattle.ocds_merge.proofs.Names.{◌<◌, ◌≤◌, ◌+◌, ◌∙◌, ◌++◌, ◌∷◌, List, false, sym, ap, map, drop, get_or, length, arith, drop_more, drop_all, Items, view, items_of, items_text, Value, alone, pending}
use Rattle.ocds_merge.proofs.PendingLaw.{pending_turn, item_kept}
use Rattle.ocds_merge.proofs.list_text.write_pending.Goals as goal

pub loop-place-preserved : goal.loop-place-preserved
loop-place-preserved c kept =
    let xs = c.args.items.now in
    let done = c.args.done.now in
    let i = c.loop-place.place in
    let x = c.index-items-place.result in
    let low : i < length xs = omega arith in
    let low_done : i < length done = omega arith in
    let turn = pending_turn xs done i x (get_or done i false)
    (drop_more xs i x low ∙ ap (λ (y : Value). y ∷ drop (i + 1) xs) (sym c.index-items-place.is)) (drop_more done i false low_done) in
    c.in_ok-later.ensures (item_kept xs i x low c.index-items-place.is kept) _
    ∙ ap (λ (r : Items). c.loop-place.out.items ++ items_text c.loop-place.later r) (sym turn) ∙ c.loop-place.invariant kept

pub returns : goal.returns
returns c kept =
    let xs = c.args.items.now in
    let i = c.loop-place.place in
    let all : length xs ≤ i = omega arith in
    c.in_ok-write_byte.ensures
    ∙ ap (λ (r : List Value). c.loop-place.out.items ++ items_text c.loop-place.later (items_of (map alone (pending (map view r) (drop i c.args.done.now))))) (sym (drop_all i xs all))
    ∙ c.loop-place.invariant kept
