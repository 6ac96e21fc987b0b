-- The numbers of releases that a store remembers, and when they agree with its tables.
use Rattle.std.specs.Prelude.{◌≡◌, ℕ, zero, suc, false, List, [], ◌∷◌, ◌++◌, Option, Some}
use Rattle.std.specs.BTreeMap.{is_at}
use Rattle.std.specs.Map.{lookup}
use Rattle.office_values.specs.Ids.{id_cmp, same_id}
use Rattle.office_base.specs.Tables.{Tables, IsSorted, release_numbers, after_put, after_puts}
use Rattle.office_base.specs.declared.puts.Put.{Put}

-- the numbers from 1 to this one
abbrev pub numbers_to : ℕ → List ℕ
numbers_to zero = []
numbers_to (suc n) = numbers_to n ++ suc n ∷ []

-- the number of releases that is remembered of a notice, if any
abbrev pub count_at : List (List ℕ × ℕ) → List ℕ → Option ℕ
count_at known notice = lookup (is_at (id_cmp notice)) known

-- the releases of each notice that is remembered have the numbers from 1 to this one, and no others
pub record CountsReleases (known : List (List ℕ × ℕ)) (t : Tables) : Type 0 where
  pub each : (notice : List ℕ) (count : ℕ) → count_at known notice ≡ Some count → release_numbers notice t ≡ numbers_to count

-- the notices that are still remembered aren't this notice, and have the numbers that they had
pub record ForgetsNotice (notice : List ℕ) (old new : List (List ℕ × ℕ)) : Type 0 where
  pub each : (other : List ℕ) (count : ℕ) → count_at new other ≡ Some count → (count_at old other ≡ Some count) × (same_id notice other ≡ false)

-- numbers that were right before these changes are followed by numbers that are right after them
pub record CountsOn (old new : List (List ℕ × ℕ)) (ps : List Put) (t : Tables) : Type 0 where
  pub right : IsSorted t → CountsReleases old t → CountsReleases new (after_puts ps t)

-- the same of one change
pub record CountsOneOn (old new : List (List ℕ × ℕ)) (p : Put) (t : Tables) : Type 0 where
  pub right : IsSorted t → CountsReleases old t → CountsReleases new (after_put p t)
