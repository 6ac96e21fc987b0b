-- The limits of an office: how many of each thing it takes, and the length of a day.
use Rattle.std.specs.Prelude.{ℕ, ◌^◌, ◌*◌}

-- the greatest number of receipts of an office
abbrev pub receipt_limit : ℕ
receipt_limit = 10 ^ 9

-- the greatest number of amendments of a notice
abbrev pub amendment_limit : ℕ
amendment_limit = 50

-- the greatest number of releases of a notice
abbrev pub release_limit : ℕ
release_limit = 9999

-- the greatest number of entries of a contract
abbrev pub entry_limit : ℕ
entry_limit = 200

-- the greatest number of rows on a page
abbrev pub page_limit : ℕ
page_limit = 100

-- the seconds of so many days
abbrev pub days : ℕ → ℕ
days n = 86400 * n
