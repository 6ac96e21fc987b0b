-- A change after look-ups.
use Rattle.office_sums.proofs.Names.{◌≡◌, ◌⊎◌, List, inl, inr, IsFaultOf, Meaning, Keeps, Tables, Put, ShelfFault, NoMemory, Store, FailsAfterLooks}

module _ {S : Type 0} (M : Meaning S) (old middle new : S) (keeps : Keeps M old middle) where
  pub fails_after : (puts : List Put) (fault : ShelfFault) → IsFaultOf (M.has_failed middle new puts) fault → IsFaultOf (FailsAfterLooks M old new puts) fault
  fails_after puts NoMemory h = tt
  fails_after puts Store h = record { middle = middle; looks = keeps; failed = h }

  -- a stop leaves what it could leave before the look-ups, or the changed tables
  pub leaves_after : (Sums Numbers Entries Rows : Tables → Type 0) (change : Tables → Tables) (u : Tables) → M.honest middle → M.may_leave middle u ⊎ ((t : Tables) → M.holds middle t → u ≡ change t)
      → M.may_leave old u ⊎ ((t : Tables) → M.holds old t × Sums t × Numbers t × Entries t × Rows t → u ≡ change t)
  leaves_after Sums Numbers Entries Rows change u honest (inl left) = inl (keeps.stop honest u left)
  leaves_after Sums Numbers Entries Rows change u honest (inr is) = inr (λ t held. is t (keeps.same honest t held.0))

-- nothing happened
pub keeps_same : {S : Type 0} (M : Meaning S) (s : S) → Keeps M s s
keeps_same M s = record { before = λ h. h; same = λ h t held. held; stop = λ h u left. left; sound = λ h was. was }
