-- Publications and cancellations with two lists of lines that agree on the lines of their lots.
use Rattle.tender_core.proofs.Names.{◌≡◌, ℕ, ◌+◌, ◌-◌, not, ◌&&◌, ◌||◌, nat_lt, List, [], ◌∷◌, map, filter, is_some, Option, list_any, refl, ap, ◌∙◌, NewLot, NewNotice, free_in, LineRow, LotRow, Put, wanted, is_on_no_line, is_short, publish_tests, publish_puts, no_line, is_open_lot, cancel_lacks, cancel_puts, AgreeOnNewLots, AgreeOnLots, PublishesAgree, CancelsAgree, publish_on, cancel_on, CancelRows, PublishRows}
use Rattle.office_base.specs.declared.puts.Put.TheVariants as puts
use Rattle.tender_core.specs.Rules.Publish as published
use Rattle.tender_core.specs.Rules.Cancel as cancelled

no_line-agree : (m n : List LineRow) (lots : List NewLot) → AgreeOnNewLots m n lots → list_any (is_on_no_line m) lots ≡ list_any (is_on_no_line n) lots
no_line-agree m n [] h = refl
no_line-agree m n (lot ∷ lots) h =
    ap (λ o. not (is_some o) || list_any (is_on_no_line m) lots) h.0 ∙ ap (λ b. is_on_no_line n lot || b) (no_line-agree m n lots h.1)

short-agree : (m n : List LineRow) (all lots : List NewLot) → AgreeOnNewLots m n lots → list_any (is_short m all) lots ≡ list_any (is_short n all) lots
short-agree m n all [] h = refl
short-agree m n all (lot ∷ lots) h =
    ap (λ o. nat_lt (free_in o) (wanted lot.line all) || list_any (is_short m all) lots) h.0
    ∙ ap (λ b. is_short n all lot || b) (short-agree m n all lots h.1)

abbrev published_line : List NewLot → NewLot → Option LineRow → Put
published_line all lot o =
    puts.Line (record (Rattle.std.specs.Prelude.unwrap_or o (no_line lot.line)) { line = lot.line; free = free_in o - wanted lot.line all })

published-agree : (m n : List LineRow) (all lots : List NewLot) → AgreeOnNewLots m n lots → map (published.reserving_line_put m all) lots ≡ map (published.reserving_line_put n all) lots
published-agree m n all [] h = refl
published-agree m n all (lot ∷ lots) h =
    ap (λ o. published_line all lot o ∷ map (published.reserving_line_put m all) lots) h.0
    ∙ ap (λ ps. published.reserving_line_put n all lot ∷ ps) (published-agree m n all lots h.1)

publish_tests-agree : (m n : List LineRow) (rows : PublishRows) (t : ℕ) (content : NewNotice) → AgreeOnNewLots m n content.lots
    → publish_tests (publish_on m rows) t content ≡ publish_tests (publish_on n rows) t content
publish_tests-agree m n rows t content h = rw (no_line-agree m n content.lots h, short-agree m n content.lots content.lots h) refl

publish_puts-agree : (m n : List LineRow) (rows : PublishRows) (t : ℕ) (notice : List ℕ) (content : NewNotice) → AgreeOnNewLots m n content.lots
    → publish_puts (publish_on m rows) t notice content ≡ publish_puts (publish_on n rows) t notice content
publish_puts-agree m n rows t notice content h = rw (published-agree m n content.lots content.lots h) refl

pub publishes_agree : PublishesAgree
publishes_agree = record { tests = publish_tests-agree; puts = publish_puts-agree }

abbrev cancelled_line : List LotRow → LotRow → Option LineRow → Put
cancelled_line all l o =
    puts.Line (record (Rattle.std.specs.Prelude.unwrap_or o (no_line l.line)) { line = l.line; free = free_in o + cancelled.freed l.line all })

cancelled-agree : (m n : List LineRow) (all lots : List LotRow) → AgreeOnLots m n lots → map (cancelled.freed_line_put m all) lots ≡ map (cancelled.freed_line_put n all) lots
cancelled-agree m n all [] h = refl
cancelled-agree m n all (l ∷ lots) h =
    ap (λ o. cancelled_line all l o ∷ map (cancelled.freed_line_put m all) lots) h.0
    ∙ ap (λ ps. cancelled.freed_line_put n all l ∷ ps) (cancelled-agree m n all lots h.1)

cancel_puts-agree : (m n : List LineRow) (rows : CancelRows) (t : ℕ) → AgreeOnLots m n (filter is_open_lot rows.lots)
    → cancel_puts (cancel_on m rows) t ≡ cancel_puts (cancel_on n rows) t
cancel_puts-agree m n rows t h = rw (cancelled-agree m n (filter is_open_lot rows.lots) (filter is_open_lot rows.lots) h) refl

lacking-agree : (m n : List LineRow) (lots : List LotRow) → AgreeOnLots m n lots → list_any (cancelled.lacks_line m) lots ≡ list_any (cancelled.lacks_line n) lots
lacking-agree m n [] h = refl
lacking-agree m n (l ∷ lots) h =
    ap (λ o. not (is_some o) || list_any (cancelled.lacks_line m) lots) h.0 ∙ ap (λ b. cancelled.lacks_line n l || b) (lacking-agree m n lots h.1)

cancel_lacks-agree : (m n : List LineRow) (rows : CancelRows) → AgreeOnLots m n (filter is_open_lot rows.lots)
    → cancel_lacks (cancel_on m rows) ≡ cancel_lacks (cancel_on n rows)
cancel_lacks-agree m n rows h = ap (λ b. is_some rows.notice && b) (lacking-agree m n (filter is_open_lot rows.lots) h)

pub cancels_agree : CancelsAgree
cancels_agree = record { lacks = cancel_lacks-agree; puts = cancel_puts-agree }
