-- An empty SQLite database in one page of 1,024 bytes, by the fields of its header (SQLite file format, sections 1.3 and 1.6).
use Rattle.std.specs.Prelude.{ℕ, ◌/◌, ◌%◌, List, [], ◌∷◌, ◌++◌, codes, replicate}

-- A number in two bytes, the high one first.
abbrev pub two_bytes : ℕ → List ℕ
two_bytes n = n / 256 ∷ n % 256 ∷ []

-- A number below 2 ^ 24 in four bytes, the high one first.
abbrev pub four_bytes : ℕ → List ℕ
four_bytes n = 0 ∷ n / 65536 ∷ two_bytes (n % 65536)

-- The first bytes of every database file.
abbrev pub magic : List ℕ
magic = codes "SQLite format 3" ++ 0 ∷ []

-- The size of a page: 1,024 bytes.
abbrev pub page_size : List ℕ
page_size = two_bytes 1024

-- Changes go to a log beside the file: 2 for programs that write it, and 2 for programs that read it.
abbrev pub write_version : List ℕ
write_version = 2 ∷ []

abbrev pub read_version : List ℕ
read_version = 2 ∷ []

-- No byte of a page is reserved for another use.
abbrev pub reserved_bytes : List ℕ
reserved_bytes = 0 ∷ []

-- The parts of a page that a row may take, in 255ths. The format fixes these three numbers.
abbrev pub payload_fractions : List ℕ
payload_fractions = 64 ∷ 32 ∷ 32 ∷ []

-- The file was never changed.
abbrev pub change_counter : List ℕ
change_counter = four_bytes 0

-- The file has one page.
abbrev pub page_count : List ℕ
page_count = four_bytes 1

-- No page is free: there is no first free page, and the count of free pages is 0.
abbrev pub first_free_page : List ℕ
first_free_page = four_bytes 0

abbrev pub free_page_count : List ℕ
free_page_count = four_bytes 0

-- The list of tables is in its first version.
abbrev pub schema_cookie : List ℕ
schema_cookie = four_bytes 1

-- Tables are stored in format 4, which every SQLite since 2005 reads.
abbrev pub schema_format : List ℕ
schema_format = four_bytes 4

-- The file suggests no size for a cache.
abbrev pub cache_size : List ℕ
cache_size = four_bytes 0

-- The database doesn't move its pages (no auto-vacuum).
abbrev pub largest_root_page : List ℕ
largest_root_page = four_bytes 0

-- Texts are in UTF-8.
abbrev pub text_encoding : List ℕ
text_encoding = four_bytes 1

-- The program that uses the file states no version.
abbrev pub user_version : List ℕ
user_version = four_bytes 0

abbrev pub incremental_vacuum : List ℕ
incremental_vacuum = four_bytes 0

-- The file doesn't say to which program it belongs.
abbrev pub application_id : List ℕ
application_id = four_bytes 0

-- The bytes that the format reserves for later.
abbrev pub for_expansion : List ℕ
for_expansion = replicate 20 0

-- The change counter at which the page count was written.
abbrev pub counted_at : List ℕ
counted_at = four_bytes 0

-- The release of SQLite whose rules the file follows: 3.45.0.
abbrev pub sqlite_release : List ℕ
sqlite_release = four_bytes 3045000

-- The header, of 100 bytes.
abbrev pub header : List ℕ
header =
    magic ++ page_size ++ write_version ++ read_version ++ reserved_bytes ++ payload_fractions ++ change_counter ++ page_count ++ first_free_page
    ++ free_page_count ++ schema_cookie ++ schema_format ++ cache_size ++ largest_root_page ++ text_encoding ++ user_version ++ incremental_vacuum
    ++ application_id ++ for_expansion ++ counted_at ++ sqlite_release

-- The head of a page that is a leaf of a table: its kind 13, no free block, no row, row bytes from the page's end on, and no fragment. The list of its rows
-- would begin after these eight bytes.
abbrev pub empty_leaf : List ℕ
empty_leaf = (13 ∷ []) ++ two_bytes 0 ++ two_bytes 0 ++ two_bytes 1024 ++ (0 ∷ [])

-- The one page: the header, then the empty list of tables.
abbrev pub empty_database : List ℕ
empty_database = header ++ empty_leaf ++ replicate 916 0
