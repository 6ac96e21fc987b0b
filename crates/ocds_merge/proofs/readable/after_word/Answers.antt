use Rattle.ocds_merge.proofs.Names.{◌≡◌, ◌∙◌, ◌++◌, ℕ, List, sym, ap, length, take, drop, take-append-drop, bytes_eq-Decides}
use Rattle.ocds_merge.proofs.readable.after_word.Goals as goal

pub returns : goal.returns
returns c =
    let w = c.as_bytes.result.now in
    let s = c.args.text.now in
    let h = c.in_ok-rest.ensures.cases in
    let front : take (length w) s ≡ w = (bytes_eq-Decides (take (length w) s) w).0 h.0 in
    sym (take-append-drop (length w) s) ∙ ap (λ (t : List ℕ). t ++ drop (length w) s) (front ∙ c.as_bytes.ensures.value) ∙ ap (λ (t : List ℕ). c.args.word.now ++ t) (sym h.1)
