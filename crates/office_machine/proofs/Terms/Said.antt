-- Puts keep the terms and entries that accepted commands gave.
use Rattle.office_machine.proofs.Names.{◌≡◌, ℕ, Bool, true, false, cond, ◌||◌, List, [], ◌∷◌, ◌++◌, Option, Some, None, option_map, refl, sym, ap, ◌∙◌, subst, list_any, AllByRecursion, eq_by_cmp, Ordering, id_cmp, row_at, row_put, Tables, entry_cmp, lot_cmp, entry_at, lot_at, notice_at, tenderer_at, after_put, after_puts, put_if, Put, EntryRow, NoticeRow, TendererRow, entries_exact, equal_keys, ids_exact, lots_exact, row_at-row_put, IsKeyed, LotTerms, lot_terms}
use Rattle.office_base.specs.declared.puts.Put.TheVariants as puts
use Rattle.office_machine.proofs.Passed.{neither}
use Rattle.office_machine.proofs.Rows.Keyed as keyed

-- a notice's row without its count of releases
abbrev pub uncounted : NoticeRow → NoticeRow
uncounted n = record n { releases = 0 }

-- what is said of each notice, lot, entry and tenderer
pub record Said : Type 0 where
  pub notice : List ℕ → Option NoticeRow
  pub lot : List ℕ × List ℕ → Option LotTerms
  pub entry : ℕ × List ℕ → Option EntryRow
  pub tenderer : List ℕ → Option TendererRow

-- an office has what is said, and nothing else
pub record Has (w : Said) (t : Tables) : Type 0 where
  pub notices : (q : List ℕ) → option_map uncounted (notice_at q t) ≡ w.notice q
  pub lots : (q : List ℕ × List ℕ) → option_map lot_terms (lot_at q t) ≡ w.lot q
  pub entries : (q : ℕ × List ℕ) → entry_at q t ≡ w.entry q
  pub tenderers : (q : List ℕ) → tenderer_at q t ≡ w.tenderer q

-- a row that is put is as it is said
abbrev pub Says : Said → Put → Type 0
Says w (puts.Notice r) = Some (uncounted r) ≡ w.notice r.notice
Says w (puts.Lot r) = Some (lot_terms r) ≡ w.lot (r.notice, r.lot)
Says w (puts.Entry r) = Some r ≡ w.entry (r.contract, r.entry)
Says w (puts.Tenderer r) = Some r ≡ w.tenderer r.tenderer
Says w _ = Unit {0}

-- the put is of this row
abbrev pub puts_notice : List ℕ → Put → Bool
puts_notice q (puts.Notice r) = eq_by_cmp id_cmp q r.notice
puts_notice q _ = false

abbrev pub puts_lot : List ℕ × List ℕ → Put → Bool
puts_lot q (puts.Lot r) = eq_by_cmp lot_cmp q (r.notice, r.lot)
puts_lot q _ = false

abbrev pub puts_entry : ℕ × List ℕ → Put → Bool
puts_entry q (puts.Entry r) = eq_by_cmp entry_cmp q (r.contract, r.entry)
puts_entry q _ = false

abbrev pub puts_tenderer : List ℕ → Put → Bool
puts_tenderer q (puts.Tenderer r) = eq_by_cmp id_cmp q r.tenderer
puts_tenderer q _ = false

-- after puts the rows are as the commands gave them; they differ from those before only at keys of the puts
pub record Tells (w v : Said) (ps : List Put) : Type 0 where
  pub says : AllByRecursion (Says v) ps
  pub notices : (q : List ℕ) → list_any (puts_notice q) ps ≡ false → w.notice q ≡ v.notice q
  pub lots : (q : List ℕ × List ℕ) → list_any (puts_lot q) ps ≡ false → w.lot q ≡ v.lot q
  pub entries : (q : ℕ × List ℕ) → list_any (puts_entry q) ps ≡ false → w.entry q ≡ v.entry q
  pub tenderers : (q : List ℕ) → list_any (puts_tenderer q) ps ≡ false → w.tenderer q ≡ v.tenderer q

-- a property of the row that a put leaves at a key, or of the earlier row if no put has that key
module _ {K X : Type 0} {R : K → K → Ordering} {key : X → K} (k : IsKeyed R key) where
  by_key : (P : Option X → Type 0) (r : X) (found : Option X) (b more : Bool) → (b ≡ true → P (Some r)) → ((b || more) ≡ false → P found) → more ≡ false
      → P (cond b (Some r) found)
  by_key P r found true more here there none = here refl
  by_key P r found false more here there none = there none

  put_at : (P : Option X → Type 0) (q : K) (r : X) (xs : List X) (more : Bool) → (eq_by_cmp R q (key r) ≡ true → P (Some r))
      → ((eq_by_cmp R q (key r) || more) ≡ false → P (row_at R key xs q)) → more ≡ false → P (row_at R key (row_put R key xs r) q)
  put_at P q r xs more here there none =
      subst P (sym (row_at-row_put k.total key xs r q)) (by_key P r (row_at R key xs q) (eq_by_cmp R q (key r)) more here there none)

module _ (v : Said) where
  abbrev NoticeIs : List ℕ → Tables → Type 0
  NoticeIs q t = option_map uncounted (notice_at q t) ≡ v.notice q

  notice_put : (q : List ℕ) (p : Put) (t : Tables) (more : Bool) → Says v p → ((puts_notice q p || more) ≡ false → NoticeIs q t) → more ≡ false → NoticeIs q (after_put p t)
  notice_put q (puts.Notice r) t more says there none =
      put_at keyed.notices (λ o. option_map uncounted o ≡ v.notice q) q r t.notices more (λ e. says ∙ ap v.notice (sym (equal_keys ids_exact q r.notice e))) there none
  notice_put q _ t more says there none = there none

  notice_puts : (q : List ℕ) (ps : List Put) (t : Tables) → AllByRecursion (Says v) ps → (list_any (puts_notice q) ps ≡ false → NoticeIs q t) → NoticeIs q (after_puts ps t)
  notice_puts q [] t says there = there refl
  notice_puts q (p ∷ ps) t says there = notice_puts q ps (after_put p t) says.1 (notice_put q p t (list_any (puts_notice q) ps) says.0 there)

  abbrev LotIs : List ℕ × List ℕ → Tables → Type 0
  LotIs q t = option_map lot_terms (lot_at q t) ≡ v.lot q

  lot_put : (q : List ℕ × List ℕ) (p : Put) (t : Tables) (more : Bool) → Says v p → ((puts_lot q p || more) ≡ false → LotIs q t) → more ≡ false → LotIs q (after_put p t)
  lot_put q (puts.Lot r) t more says there none =
      put_at keyed.lots (λ o. option_map lot_terms o ≡ v.lot q) q r t.lots more (λ e. says ∙ ap v.lot (sym (equal_keys lots_exact q (r.notice, r.lot) e))) there none
  lot_put q _ t more says there none = there none

  lot_puts : (q : List ℕ × List ℕ) (ps : List Put) (t : Tables) → AllByRecursion (Says v) ps → (list_any (puts_lot q) ps ≡ false → LotIs q t) → LotIs q (after_puts ps t)
  lot_puts q [] t says there = there refl
  lot_puts q (p ∷ ps) t says there = lot_puts q ps (after_put p t) says.1 (lot_put q p t (list_any (puts_lot q) ps) says.0 there)

  abbrev EntryIs : ℕ × List ℕ → Tables → Type 0
  EntryIs q t = entry_at q t ≡ v.entry q

  entry_put : (q : ℕ × List ℕ) (p : Put) (t : Tables) (more : Bool) → Says v p → ((puts_entry q p || more) ≡ false → EntryIs q t) → more ≡ false → EntryIs q (after_put p t)
  entry_put q (puts.Entry r) t more says there none =
      put_at keyed.entries (λ o. o ≡ v.entry q) q r t.entries more (λ e. says ∙ ap v.entry (sym (equal_keys entries_exact q (r.contract, r.entry) e))) there none
  entry_put q _ t more says there none = there none

  entry_puts : (q : ℕ × List ℕ) (ps : List Put) (t : Tables) → AllByRecursion (Says v) ps → (list_any (puts_entry q) ps ≡ false → EntryIs q t) → EntryIs q (after_puts ps t)
  entry_puts q [] t says there = there refl
  entry_puts q (p ∷ ps) t says there = entry_puts q ps (after_put p t) says.1 (entry_put q p t (list_any (puts_entry q) ps) says.0 there)

  abbrev TendererIs : List ℕ → Tables → Type 0
  TendererIs q t = tenderer_at q t ≡ v.tenderer q

  tenderer_put : (q : List ℕ) (p : Put) (t : Tables) (more : Bool) → Says v p → ((puts_tenderer q p || more) ≡ false → TendererIs q t) → more ≡ false → TendererIs q (after_put p t)
  tenderer_put q (puts.Tenderer r) t more says there none =
      put_at keyed.tenderers (λ o. o ≡ v.tenderer q) q r t.tenderers more (λ e. says ∙ ap v.tenderer (sym (equal_keys ids_exact q r.tenderer e))) there none
  tenderer_put q _ t more says there none = there none

  tenderer_puts : (q : List ℕ) (ps : List Put) (t : Tables) → AllByRecursion (Says v) ps → (list_any (puts_tenderer q) ps ≡ false → TendererIs q t) → TendererIs q (after_puts ps t)
  tenderer_puts q [] t says there = there refl
  tenderer_puts q (p ∷ ps) t says there = tenderer_puts q ps (after_put p t) says.1 (tenderer_put q p t (list_any (puts_tenderer q) ps) says.0 there)

-- the office after them has what is said
pub told_after : (w v : Said) (ps : List Put) (t : Tables) → Has w t → Tells w v ps → Has v (after_puts ps t)
told_after w v ps t has tells = record {
  notices = λ q. notice_puts v q ps t tells.says (λ none. has.notices q ∙ tells.notices q none);
  lots = λ q. lot_puts v q ps t tells.says (λ none. has.lots q ∙ tells.lots q none);
  entries = λ q. entry_puts v q ps t tells.says (λ none. has.entries q ∙ tells.entries q none);
  tenderers = λ q. tenderer_puts v q ps t tells.says (λ none. has.tenderers q ∙ tells.tenderers q none);
}

-- none of two lists
pub none_of : {X : Type 0} (p : X → Bool) (xs ys : List X) → list_any p (xs ++ ys) ≡ false → (list_any p xs ≡ false) × (list_any p ys ≡ false)
none_of p [] ys none = (refl, none)
none_of p (x ∷ xs) ys none = let each = neither (p x) (list_any p (xs ++ ys)) none in let more = none_of p xs ys each.1 in (ap (λ b. b || list_any p xs) each.0 ∙ more.0, more.1)

-- a put for a row that exists
pub all_if : {X : Type 0} (P : Put → Type 0) (make : X → Put) (o : Option X) → ((x : X) → P (make x)) → AllByRecursion P (put_if make o)
all_if P make None h = tt
all_if P make (Some x) h = (h x, tt)
