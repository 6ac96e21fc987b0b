-- The texts of releases that are put together from several words.
use Rattle.std.specs.Prelude.{ℕ, ◌/◌, ◌%◌, List, [], ◌∷◌, ◌++◌, codes, decimal}
use Rattle.std.specs.List.{concat}
use Rattle.office_values.specs.Moments.{moment_text}

-- the last four decimal digits, with zeros in front
abbrev pub four_digits : ℕ → List ℕ
four_digits n = decimal (n / 1000 % 10) ++ decimal (n / 100 % 10) ++ decimal (n / 10 % 10) ++ decimal (n % 10)

-- the ocid of a notice's contracting process (OCDS 1.1, identifiers): the publisher's prefix, a dash, the notice
abbrev pub ocid_text : List ℕ → List ℕ → List ℕ
ocid_text prefix notice = concat (prefix ∷ codes "-" ∷ notice ∷ [])

-- a release's id: the ocid, a dash, and the number of the release in four digits
abbrev pub release_id : List ℕ → List ℕ → ℕ → List ℕ
release_id prefix notice seq = concat (prefix ∷ codes "-" ∷ notice ∷ codes "-" ∷ four_digits seq ∷ [])

-- the identifiers of the buyer and of tenderers in the list of parties
abbrev pub buyer_id : List ℕ → List ℕ
buyer_id id = concat (codes "B-" ∷ id ∷ [])

abbrev pub tenderer_id : List ℕ → List ℕ
tenderer_id id = concat (codes "T-" ∷ id ∷ [])

-- an item's identifier in the list of the items of all lots
abbrev pub item_id_text : List ℕ → List ℕ → List ℕ
item_id_text lot id = concat (lot ∷ codes "/" ∷ id ∷ [])

-- the description of an amendment
abbrev pub moved_text : ℕ → ℕ → List ℕ
moved_text before after = concat (codes "Deadline moved from " ∷ moment_text before ∷ codes " to " ∷ moment_text after ∷ [])

abbrev pub raised_text : ℕ → List ℕ
raised_text amount = concat (codes "Raised by " ∷ decimal amount ∷ [])

abbrev pub cut_text : ℕ → List ℕ
cut_text amount = concat (codes "Cut by " ∷ decimal amount ∷ [])

-- the address at which a package of a notice is published: the office's address, and the path of the route
abbrev pub address : List ℕ → List ℕ → List ℕ → List ℕ
address base notice route = concat (base ∷ codes "/notices/" ∷ notice ∷ route ∷ [])
