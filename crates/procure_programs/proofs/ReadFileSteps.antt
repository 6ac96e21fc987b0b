-- The text that is printed of a file.
use Rattle.procure_programs.proofs.Names.{◌≡◌, ◌⊎◌, inl, inr, List, ℕ, true, Result, Ok, Err, refl, sym, ap, subst, Refusal, Unavailable, Item, AppendsPart, WriterView, no_memory, ProgramFault, Output, Refused, PrintsShown, PrintsTender, Shown, tender_shown}

-- The output failed.
pub cut_off : (shown : Shown) (old new : WriterView) (why : ProgramFault) → why ≡ Output → AppendsPart old.contents new.contents shown.0 → new.has_failed ≡ true
    → PrintsShown shown old new (Err why)
cut_off shown old new why is part failed = subst (λ (f : ProgramFault). PrintsShown shown old new (Err f)) (sym is) (part, failed)

-- Memory was too small, so nothing was printed.
pub wanting : (shown : Shown) (old : WriterView) (why : ProgramFault) → why ≡ no_memory → PrintsShown shown old old (Err why)
wanting shown old why is = subst (λ (f : ProgramFault). PrintsShown shown old old (Err f)) (sym is) (refl, refl)

-- The text that was made is the one that is defined.
pub shown_as : (made shown : Shown) (old new : WriterView) (result : Result (Unit {0}) ProgramFault) → made ≡ shown → PrintsShown made old new result
    → PrintsShown shown old new result
shown_as made shown old new result is printed = subst (λ (s : Shown). PrintsShown s old new result) is printed

-- The items were read, and the tender was printed for them.
pub for_items : (read : Result (List Item) Refusal) (items : List Item) (file : List ℕ) (old new : WriterView) (result : Result (Unit {0}) ProgramFault)
    → read ≡ Ok items → PrintsShown (tender_shown items file) old new result → PrintsTender read file old new result
for_items read items file old new result is printed = subst (λ (r : Result (List Item) Refusal). PrintsTender r file old new result) (sym is) printed

-- The items were refused, or memory was too small to read them.
pub no_items : (read : Result (List Item) Refusal) (why : Refusal) (file : List ℕ) (old : WriterView) → (why ≡ Unavailable) ⊎ (read ≡ Err why)
    → PrintsTender read file old old (Err (Refused why))
no_items (Ok items) why file old (inl memory) = (memory, refl)
no_items (Ok items) why file old (inr is) = cc
no_items (Err told) why file old (inl memory) = (refl, inr (ap (λ r. Err (Refused r)) memory))
no_items (Err told) why file old (inr is) = let same : told ≡ why = cc in (refl, inl (ap (λ r. Err (Refused r)) (sym same)))
