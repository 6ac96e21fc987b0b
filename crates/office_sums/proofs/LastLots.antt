-- The lot under a key after some changes, and the tables that changes leave.
use Rattle.office_sums.proofs.Names.{◌≡◌, ℕ, ◌+◌, ◌<◌, Bool, true, false, cond, ◌&&◌, List, [], ◌∷◌, ◌++◌, length, take, Option, Some, None, option_map, get_or, take_more, refl, sym, ap, ◌∙◌, list_all, eq_by_cmp, is_eq, ordering_then, Ordering, Less, Equal, Greater, id_cmp, same_id, Tables, lot_cmp, lot_key, lot_at, after_put, after_puts, Put, LotRow, same_id_is, lots_total, row_at-row_put, leaves_contracts, lot_put, either_row, last_lot, reservation_of}
use Rattle.office_base.specs.declared.puts.Put.TheVariants as puts

pub either_assoc : {X : Type 0} (a b c : Option X) → either_row (either_row a b) c ≡ either_row a (either_row b c)
either_assoc None b c = refl
either_assoc (Some x) b c = refl

pub either_none : {X : Type 0} (a : Option X) → either_row a None ≡ a
either_none None = refl
either_none (Some x) = refl

cond_either : {X : Type 0} (b : Bool) (x : X) (o : Option X) → cond b (Some x) o ≡ either_row (cond b (Some x) None) o
cond_either true x o = refl
cond_either false x o = refl

lot-put : (key : List ℕ × List ℕ) (p : Put) (t : Tables) → lot_at key (after_put p t) ≡ either_row (lot_put key p) (lot_at key t)
lot-put key (puts.Lot r) t = row_at-row_put lots_total lot_key t.lots r key ∙ cond_either (eq_by_cmp lot_cmp key (lot_key r)) r (lot_at key t)
lot-put key _ t = refl

-- the lot that the changes put last, or else the one before them
pub lot-after : (key : List ℕ × List ℕ) (ps : List Put) (t : Tables) → lot_at key (after_puts ps t) ≡ either_row (last_lot key ps) (lot_at key t)
lot-after key [] t = refl
lot-after key (p ∷ ps) t =
    lot-after key ps (after_put p t) ∙ ap (either_row (last_lot key ps)) (lot-put key p t) ∙ sym (either_assoc (last_lot key ps) (lot_put key p) (lot_at key t))

pub last_found : (key : List ℕ × List ℕ) (ps : List Put) (t : Tables) (row : LotRow) → last_lot key ps ≡ Some row → option_map reservation_of (lot_at key (after_puts ps t)) ≡ Some (reservation_of row)
last_found key ps t row found = ap (option_map reservation_of) (lot-after key ps t ∙ ap (λ o. either_row o (lot_at key t)) found)

pub none_put : (key : List ℕ × List ℕ) (ps : List Put) (t : Tables) → last_lot key ps ≡ None → lot_at key (after_puts ps t) ≡ lot_at key t
none_put key ps t none = lot-after key ps t ∙ ap (λ o. either_row o (lot_at key t)) none

and_first : (a b : Bool) → (a && b) ≡ true → a ≡ true
and_first true b h = refl
and_first false b h = absurd (let i : false ≡ true = h in cc)

and_second : (a b : Bool) → (a && b) ≡ true → b ≡ true
and_second true b h = h
and_second false b h = absurd (let i : false ≡ true = h in cc)

contracts-put : (p : Put) (t : Tables) → leaves_contracts p ≡ true → (after_put p t).contracts ≡ t.contracts
contracts-put (puts.Contract _) t h = absurd (let i : false ≡ true = h in cc)
contracts-put (puts.Entry _) t h = refl
contracts-put _ t h = refl

entries-put : (p : Put) (t : Tables) → leaves_contracts p ≡ true → (after_put p t).entries ≡ t.entries
entries-put (puts.Contract _) t h = refl
entries-put (puts.Entry _) t h = absurd (let i : false ≡ true = h in cc)
entries-put _ t h = refl

-- changes that put no contract and no entry leave both tables
pub contracts_left : (ps : List Put) (t : Tables) → list_all leaves_contracts ps ≡ true → (after_puts ps t).contracts ≡ t.contracts
contracts_left [] t h = refl
contracts_left (p ∷ ps) t h =
    contracts_left ps (after_put p t) (and_second (leaves_contracts p) (list_all leaves_contracts ps) h)
    ∙ contracts-put p t (and_first (leaves_contracts p) (list_all leaves_contracts ps) h)

pub entries_left : (ps : List Put) (t : Tables) → list_all leaves_contracts ps ≡ true → (after_puts ps t).entries ≡ t.entries
entries_left [] t h = refl
entries_left (p ∷ ps) t h =
    entries_left ps (after_put p t) (and_second (leaves_contracts p) (list_all leaves_contracts ps) h)
    ∙ entries-put p t (and_first (leaves_contracts p) (list_all leaves_contracts ps) h)

-- whether a row is that of this lot, by its two parts
ties_then : (a b : Ordering) → is_eq (ordering_then a b) ≡ (is_eq a && is_eq b)
ties_then Less b = refl
ties_then Equal b = refl
ties_then Greater b = refl

pub lot_tie : (row : LotRow) (notice lot : List ℕ) → eq_by_cmp lot_cmp (notice, lot) (lot_key row) ≡ (same_id row.notice notice && same_id row.lot lot)
lot_tie row notice lot =
    ties_then (id_cmp notice row.notice) (id_cmp lot row.lot)
    ∙ ap (λ b. b && eq_by_cmp id_cmp lot row.lot) (sym (same_id_is row.notice notice))
    ∙ ap (λ b. same_id row.notice notice && b) (sym (same_id_is row.lot lot))

-- one change more
after_puts-push : (t : Tables) (done : List Put) (p : Put) → after_puts (done ++ p ∷ []) t ≡ after_put p (after_puts done t)
after_puts-push t [] p = refl
after_puts-push t (q ∷ done) p = after_puts-push (after_put q t) done p

pub after_more : (t : Tables) (ps : List Put) (i : ℕ) (p d : Put) → p ≡ get_or ps i d → i < length ps → after_puts (take (i + 1) ps) t ≡ after_put p (after_puts (take i ps) t)
after_more t ps i p d is lt =
    ap (λ qs. after_puts qs t) (take_more ps i d lt) ∙ after_puts-push t (take i ps) (get_or ps i d) ∙ ap (λ q. after_put q (after_puts (take i ps) t)) (sym is)
