-- A line that is none of the lines of two lists.
use Rattle.office_sums.proofs.Names.{ℕ, List, [], ◌∷◌, ◌++◌, IsNoneOf}

pub none_of_first : (line : List ℕ) (xs ys : List (List ℕ)) → IsNoneOf line (xs ++ ys) → IsNoneOf line xs
none_of_first line [] ys h = tt
none_of_first line (x ∷ xs) ys h = (h.0, none_of_first line xs ys h.1)

pub none_of_second : (line : List ℕ) (xs ys : List (List ℕ)) → IsNoneOf line (xs ++ ys) → IsNoneOf line ys
none_of_second line [] ys h = h
none_of_second line (x ∷ xs) ys h = none_of_second line xs ys h.1

pub none_of_both : (line : List ℕ) (xs ys : List (List ℕ)) → IsNoneOf line xs → IsNoneOf line ys → IsNoneOf line (xs ++ ys)
none_of_both line [] ys a b = b
none_of_both line (x ∷ xs) ys a b = (a.0, none_of_both line xs ys a.1 b)
