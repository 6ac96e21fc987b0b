-- Taking changes back, with a list of them from the first to the last.
use Rattle.office_memory.proofs.Names.{◌≡◌, List, [], ◌∷◌, ◌++◌, refl, sym, ap, ◌∙◌, subst, Tables, after_put, after_puts, after_undo, after_undos, CanUndo, CanUndoAll, Undo, Put}

-- the last change of the list is taken back first
pub after_undos-push : (us : List Undo) (u : Undo) (t : Tables) → after_undos (us ++ u ∷ []) t ≡ after_undos us (after_undo u t)
after_undos-push [] u t = refl
after_undos-push (v ∷ us) u t = ap (after_undo v) (after_undos-push us u t)

pub can_undo-push : (us : List Undo) (u : Undo) (t : Tables) → CanUndo u t → CanUndoAll us (after_undo u t) → CanUndoAll (us ++ u ∷ []) t
can_undo-push [] u t one all = (tt, one)
can_undo-push (v ∷ us) u t one all =
    let family : Tables → Type 0 = λ s. CanUndo v s in
    (can_undo-push us u t one all.0, subst family (sym (after_undos-push us u t)) all.1)

pub can_undo-last : (us : List Undo) (u : Undo) (t : Tables) → CanUndoAll (us ++ u ∷ []) t → CanUndo u t
can_undo-last [] u t all = all.1
can_undo-last (v ∷ us) u t all = can_undo-last us u t all.0

pub can_undo-front : (us : List Undo) (u : Undo) (t : Tables) → CanUndoAll (us ++ u ∷ []) t → CanUndoAll us (after_undo u t)
can_undo-front [] u t all = tt
can_undo-front (v ∷ us) u t all =
    let family : Tables → Type 0 = λ s. CanUndo v s in
    (can_undo-front us u t all.0, subst family (after_undos-push us u t) all.1)

-- appending a change to the list makes one more change at the end
pub after_puts-push : (ps : List Put) (p : Put) (t : Tables) → after_puts (ps ++ p ∷ []) t ≡ after_put p (after_puts ps t)
after_puts-push [] p t = refl
after_puts-push (q ∷ ps) p t = after_puts-push ps p (after_put q t)

-- after one change was taken back, the others lead back to the start
pub taken_back_one : (us rest : List Undo) (u : Undo) (t s start : Tables) → us ≡ rest ++ u ∷ [] → s ≡ after_undo u t
    → CanUndoAll us t × (after_undos us t ≡ start) → CanUndoAll rest s × (after_undos rest s ≡ start)
taken_back_one us rest u t s start all one h =
    let can : CanUndoAll (rest ++ u ∷ []) t = subst (λ (vs : List Undo). CanUndoAll vs t) all h.0 in
    let front : Tables → Type 0 = λ r. CanUndoAll rest r in (
      subst front (sym one) (can_undo-front rest u t can),
      ap (after_undos rest) one ∙ sym (after_undos-push rest u t) ∙ ap (λ vs. after_undos vs t) (sym all) ∙ h.1,
    )

-- after one more change was made, all lead back to the start
pub made_one : (us : List Undo) (u : Undo) (t s start : Tables) → after_undo u s ≡ t → CanUndo u s
    → CanUndoAll us t × (after_undos us t ≡ start) → CanUndoAll (us ++ u ∷ []) s × (after_undos (us ++ u ∷ []) s ≡ start)
made_one us u t s start back can h =
    let family : Tables → Type 0 = λ r. CanUndoAll us r in
    (can_undo-push us u s can (subst family (sym back) h.0), after_undos-push us u s ∙ ap (after_undos us) back ∙ h.1)
