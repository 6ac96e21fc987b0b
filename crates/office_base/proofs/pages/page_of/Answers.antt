use Rattle.office_base.proofs.Names.{sym, arith, length-take-le, take_all, page_limit}
use Rattle.office_base.proofs.pages.page_of.Goals as goal

-- `take` with a literal number computes element by element, so no lemma matches the goal, and this answer proves it
pub slice_bounds-result-end : goal.slice_bounds-result-end
slice_bounds-result-end g c = sym (length-take-le page_limit c.args.rows.now (omega arith))

pub returns-else-rows-gt-PAGE_ROWS : goal.returns-else-rows-gt-PAGE_ROWS
returns-else-rows-gt-PAGE_ROWS g c = sym (take_all page_limit c.args.rows.now (omega arith))
