-- Files at a path, right after they were opened.
use Rattle.office_store.proofs.Names.{◌≡◌, Bool, cond, List, [], ◌∷◌, ℕ, inl, inr, ap, subst, ◌∙◌, Event, replay, settled, Image}
use Rattle.sqlite_disk.specs.History.{MayLeave}

abbrev pub image : List ℕ → List ℕ → Image
image log db = record { log = log; db = db }

-- the bytes of a file after these calls
abbrev pub seen : List ℕ → List ℕ → Bool → List Event → List ℕ
seen log db is_log history = (replay (cond is_log log db) history).seen

-- the bytes that a stop may leave of the file after these calls
abbrev pub MayBe : Bool → List ℕ → List ℕ → Bool → List Event → List ℕ → Type 0
MayBe mixes log db is_log history bytes =
    let m = replay (cond is_log log db) history in
    MayLeave mixes m.seen m.synced m.steps bytes

-- a file that was only opened keeps its bytes after a stop
pub unchanged : (mixes : Bool) (log db : List ℕ) (is_log which : Bool) (history : List Event) (key : ℕ) → is_log ≡ which → history ≡ settled key ∷ [] → (bytes : List ℕ)
    → MayBe mixes log db is_log history bytes → bytes ≡ cond which log db
unchanged mixes log db is_log which history key is opened bytes may =
    elim (subst (λ h. MayBe mixes log db is_log h bytes) opened may) [ inl same ↦ same | inr same ↦ same ] ∙ ap (λ b. cond b log db) is
