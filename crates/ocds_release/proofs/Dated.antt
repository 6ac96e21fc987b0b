-- The member of a name stays as it is while members of other names are put.
use Rattle.ocds_release.proofs.Names.{◌≡◌, ℕ, List, [], ◌∷◌, Bool, true, false, ◌||◌, refl, sym, ◌∙◌, true≢false, cond, bytes_eq, bytes_eq-Decides, Data, Members, put, get_member, get_member-put_other, Entry, is_empty_list, with_entries}
use Rattle.ocds_release.proofs.Flat.{not_first, not_second}

-- whether one of these entries has this name
abbrev pub has_name : List ℕ → List Entry → Bool
has_name k [] = false
has_name k (e ∷ es) = bytes_eq k e.0 || has_name k es

apart : (q k : List ℕ) → bytes_eq q k ≡ false → q ≡ k → ⊥
apart q k e same = true≢false (sym ((bytes_eq-Decides q k).1 same) ∙ e)

chosen_stays : (b : Bool) (q k : List ℕ) (d : Data) (ms : Members) → bytes_eq q k ≡ false → get_member q (cond b ms (put k d ms)) ≡ get_member q ms
chosen_stays true q k d ms other = refl
chosen_stays false q k d ms other = get_member-put_other q k d ms (apart q k other)

pub stays : (q : List ℕ) (es : List Entry) (ms : Members) → has_name q es ≡ false → get_member q (with_entries es ms) ≡ get_member q ms
stays q [] ms others = refl
stays q (e ∷ es) ms others =
    stays q es _ (not_second (bytes_eq q e.0) (has_name q es) others)
    ∙ chosen_stays (is_empty_list e.1) q e.0 e.1 ms (not_first (bytes_eq q e.0) (has_name q es) others)
