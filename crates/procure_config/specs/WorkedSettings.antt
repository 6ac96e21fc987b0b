-- The settings of a city's office, as an example.
use Rattle.std.specs.Prelude.{codes, ℕ, List, [], ◌∷◌, ◌++◌}
use Rattle.office_values.specs.declared.settings.Settings.{Settings}

-- The settings as a text in TOML, whose lines end in LF.
abbrev pub city_text : List ℕ
city_text = codes "prefix = 'ocds-a1b2c3'" ++ 10 ∷ codes "currency = 'EUR'" ++ 10 ∷ codes "language = 'en'" ++ 10 ∷ codes "base = 'http://127.0.0.1:8080'"
    ++ 10 ∷ codes "publisher = 'City Office'" ++ 10 ∷ codes "extensions = ['lots']"
    ++ 10 ∷ codes "clerk_key = '000102030405060708090a0b0c0d0e0f101112131415161718191a1b1c1d1e1F'"
    ++ 10 ∷ codes "[buyer]" ++ 10 ∷ codes "id = 'city'" ++ 10 ∷ codes "name = 'City Office'"

-- The settings that the program reads from it.
abbrev pub city_settings : Settings
city_settings = record {
  publisher = record {
    prefix = codes "ocds-a1b2c3";
    currency = codes "EUR";
    language = codes "en";
    base = codes "http://127.0.0.1:8080";
    name = codes "City Office";
    extensions = codes "lots" ∷ [];
    buyer = record { id = codes "city"; name = codes "City Office" };
  };
  clerk_key = 0 ∷ 1 ∷ 2 ∷ 3 ∷ 4 ∷ 5 ∷ 6 ∷ 7 ∷ 8 ∷ 9 ∷ 10 ∷ 11 ∷ 12 ∷ 13 ∷ 14 ∷ 15 ∷ 16 ∷ 17 ∷ 18 ∷ 19 ∷ 20 ∷ 21 ∷ 22 ∷ 23 ∷ 24 ∷ 25 ∷ 26 ∷ 27 ∷ 28 ∷ 29 ∷ 30 ∷ 31 ∷ [];
}
