-- Why a log isn't taken.
use Rattle.office_store.proofs.Names.{◌≡◌, ◌∙◌, ◌⊎◌, inl, inr, ℕ, ◌+◌, ◌≤◌, List, [], ◌∷◌, length, Bool, true, false, Option, Some, None, IsTrue, true≢false, refl, sym, subst, ap, arith, ◌&&◌, MoreFaults, be32, IsPageSize, Names, bytes_of, size_in_file, IsIgnored, PageSize, NamesSize, NamesNoSize, OpenFault}
use Rattle.sqlite_wal.specs.Outcome.{HasCause}
use Rattle.sqlite_wal.specs.declared.error.Error.{Error}
use Rattle.sqlite_wal.specs.declared.error.Error.TheVariants as wal
use Rattle.office_store.specs.declared.found.OpenFault.TheVariants as fault

-- one file's further fault is one of both files
pub more_beside : (old new other : ℕ) → MoreFaults old new → MoreFaults (old + other) (new + other)
more_beside old new other more = omega (arith, more)

pub more_later : (old mid new : ℕ) → old ≤ mid → MoreFaults mid new → MoreFaults old new
more_later old mid new up more = omega (arith, up, more)

pub log_clean : (log db : Bool) → IsTrue (log && db) → IsTrue log
log_clean true db both = refl
log_clean false db both = both

pub names_none : (log db seen : List ℕ) (found : Option PageSize) → found ≡ None → seen ≡ db → (¬ IsIgnored log → Names found (be32 log 8))
    → (IsIgnored log → Names found (size_in_file seen)) → NamesNoSize (record { log = log; db = db })
names_none log db seen None is same by_log by_file = (
  λ read size. true≢false (sym ((by_log read).0.1 size)),
  λ ignored size. true≢false (sym ((by_file ignored).0.1 (subst (λ b. IsPageSize (size_in_file b)) (sym same) size))),
)
names_none log db seen (Some other) is same by_log by_file = absurd cc

pub names_some : (log db seen : List ℕ) (found : Option PageSize) (size : PageSize) → found ≡ Some size → seen ≡ db → (¬ IsIgnored log → Names found (be32 log 8))
    → (IsIgnored log → Names found (size_in_file seen)) → NamesSize (record { log = log; db = db }) (bytes_of size)
names_some log db seen None size is same by_log by_file = absurd cc
names_some log db seen (Some other) size is same by_log by_file =
    let it : other ≡ size = cc in
    (λ read. ap bytes_of (sym it) ∙ (by_log read).1, λ ignored. ap bytes_of (sym it) ∙ (by_file ignored).1 ∙ ap size_in_file same)

-- an error other than too little memory is a fault of the disk, or refuses the log
pub refused_log : (old new : ℕ) (Refuses : Error → Type 0) (error : Error) (why : OpenFault) → (error ≡ wal.OutOfMemory → why ≡ fault.NoMemory) → HasCause old new Refuses error
    → why ≡ fault.Store → MoreFaults old new ⊎ ((e : Error) × Refuses e)
refused_log old new Refuses (wal.Io e) why memory cause store = inl cause
refused_log old new Refuses wal.OutOfMemory why memory cause store = let other : why ≡ fault.NoMemory = memory refl in absurd cc
refused_log old new Refuses wal.Closed why memory cause store = inr (wal.Closed, cause)
refused_log old new Refuses wal.NoSuchPage why memory cause store = inr (wal.NoSuchPage, cause)
refused_log old new Refuses wal.Full why memory cause store = inr (wal.Full, cause)
refused_log old new Refuses wal.Corrupt why memory cause store = inr (wal.Corrupt, cause)
refused_log old new Refuses wal.Exists why memory cause store = inr (wal.Exists, cause)

pub none_left : (xs : List ℕ) → length xs ≡ 0 → xs ≡ []
none_left [] none = refl
none_left (x ∷ xs) some = absurd (omega (arith, some))
