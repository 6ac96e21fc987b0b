-- Each moment is read from its own text.
use Rattle.office_requests.proofs.Names.{◌≡◌, ℕ, zero, suc, ◌+◌, ◌-◌, ◌*◌, ◌/◌, ◌%◌, ◌≤◌, Bool, true, false, List, Option, Some, None, IfSome, IfNone, refl, sym, arith, ◌∙◌, pos, nat_lt, nat_le, ◌&&◌, nat_eq, if◌then◌else◌, pointwise, le-leb, leb-true, and_parts, nat_tests, bytes_eq-Decides, days_in_year, days_in_month, last_moment, year_after, month_after, year_of, civil_date, moment_text, IsMomentText, days_to_year, days_to_month, day_number, two_at, second_named, moment_if, moment_of, MomentsAreTheirTexts}

-- counting off years keeps the day
year_kept : (most y d : ℕ) → 1970 ≤ y → days_to_year ((year_after most y d).0 - 1970) + (year_after most y d).1 ≡ days_to_year (y - 1970) + d
unfolding year_after days_to_year
year_kept zero y d h = refl
year_kept (suc most) y d h = by (nat_lt d (days_in_year (pos y))) refl (year_kept most (y + 1) (d - days_in_year (pos y)) (omega arith))
  where
    one_more : (n : ℕ) → n ≡ y - 1970 → days_to_year (y + 1 - 1970) ≡ days_to_year (y - 1970) + days_in_year (pos y)
    one_more n is =
        let e : y + 1 - 1970 ≡ suc (y - 1970) = omega arith in
        let back : 1970 + (y - 1970) ≡ y = omega arith in
        rw e (rw back refl)

    by : (b : Bool) → nat_lt d (days_in_year (pos y)) ≡ b
        → days_to_year ((year_after most (y + 1) (d - days_in_year (pos y))).0 - 1970) + (year_after most (y + 1) (d - days_in_year (pos y))).1
        ≡ days_to_year (y + 1 - 1970) + (d - days_in_year (pos y))
        → days_to_year ((if b then (y, d) else year_after most (y + 1) (d - days_in_year (pos y))).0 - 1970)
        + (if b then (y, d) else year_after most (y + 1) (d - days_in_year (pos y))).1 ≡ days_to_year (y - 1970) + d
    by true e so_far = refl
    by false e so_far =
        let more = one_more (y - 1970) refl in
        let enough : days_in_year (pos y) ≤ d = grind (arith, nat_tests) in
        so_far ∙ omega (arith, more, enough)

-- counting off months keeps the day
month_kept : (most y m d : ℕ) → 1 ≤ m → days_to_month y ((month_after most y m d).0 - 1) + (month_after most y m d).1 ≡ days_to_month y (m - 1) + d
unfolding month_after days_to_month
month_kept zero y m d h = refl
month_kept (suc most) y m d h = by (nat_lt d (days_in_month (pos y) m)) refl (month_kept most y (m + 1) (d - days_in_month (pos y) m) (omega arith))
  where
    one_more : days_to_month y (m + 1 - 1) ≡ days_to_month y (m - 1) + days_in_month (pos y) m
    one_more =
        let e : m + 1 - 1 ≡ suc (m - 1) = omega arith in
        let back : suc (m - 1) ≡ m = omega arith in
        rw e (rw back refl)

    by : (b : Bool) → nat_lt d (days_in_month (pos y) m) ≡ b
        → days_to_month y ((month_after most y (m + 1) (d - days_in_month (pos y) m)).0 - 1) + (month_after most y (m + 1) (d - days_in_month (pos y) m)).1
        ≡ days_to_month y (m + 1 - 1) + (d - days_in_month (pos y) m)
        → days_to_month y ((if b then (m, d) else month_after most y (m + 1) (d - days_in_month (pos y) m)).0 - 1)
        + (if b then (m, d) else month_after most y (m + 1) (d - days_in_month (pos y) m)).1 ≡ days_to_month y (m - 1) + d
    by true e so_far = refl
    by false e so_far = let more = one_more in let enough : days_in_month (pos y) m ≤ d = grind (arith, nat_tests) in so_far ∙ omega (arith, more, enough)

first_day : days_to_year 0 ≡ 0
unfolding days_to_year
first_day = refl

first_month : (y : ℕ) → days_to_month y 0 ≡ 0
unfolding days_to_month
first_month y = refl

-- the date of a day has its number
day_kept : (day : ℕ) → day_number (civil_date day).year (civil_date day).month (civil_date day).day ≡ day
day_kept day =
    let years = year_kept day 1970 day (omega arith) in
    let months = month_kept 11 (year_of day).0 1 (year_of day).1 (omega arith) in
    omega (arith, years, months, first_day, first_month (year_of day).0)

-- the text of a moment names it
named_is : (second : ℕ) → second_named (moment_text second) ≡ second
unfolding second_named moment_text
named_is second =
    let date = civil_date (second / 86400) in
    let year : two_at (moment_text second) 0 * 100 + two_at (moment_text second) 2 ≡ date.year = omega arith in
    let month : two_at (moment_text second) 5 ≡ date.month = omega arith in
    let day : two_at (moment_text second) 8 ≡ date.day = omega arith in
    let hour : two_at (moment_text second) 11 ≡ second % 86400 / 3600 = omega arith in
    let minute : two_at (moment_text second) 14 ≡ second % 86400 % 3600 / 60 = omega arith in
    let rest : two_at (moment_text second) 17 ≡ second % 86400 % 60 = omega arith in
    rw (year, month, day, hour, minute, rest, day_kept (second / 86400)) (omega arith)

-- if the read moment has this text, and none is read only if no moment has it, the definition gives the read moment
pub moment_read : (text : List ℕ) (read : Option ℕ) → IfSome read (λ m. IsMomentText m text) → IfNone read ((second : ℕ)
    → ¬ (IsMomentText second text)) → read ≡ moment_of text
unfolding moment_of
moment_read text (Some m) found none =
    let near : second_named text ≡ m = rw found.written (named_is m) in
    let same : pointwise nat_eq (moment_text m) text ≡ true = (bytes_eq-Decides (moment_text m) text).1 (sym found.written) in
    rw (near, le-leb _ _ found.in_range, same) refl
moment_read text None found none = by (nat_le (second_named text) last_moment && pointwise nat_eq (moment_text (second_named text)) text) refl
  where
    by : (b : Bool) → (nat_le (second_named text) last_moment && pointwise nat_eq (moment_text (second_named text)) text) ≡ b
        → None ≡ moment_if (second_named text) text
    by false e = rw e refl
    by true e =
        let (small, same) = and_parts _ _ e in
        absurd (none (second_named text) (record { in_range = leb-true _ _ small; written = sym ((bytes_eq-Decides _ text).0 same) }))

some_same : {a b : ℕ} → Some a ≡ Some b → a ≡ b
some_same e = cc

-- a moment that is read from a text has this text
kept_moment : (named second : ℕ) (text : List ℕ) → moment_if named text ≡ Some second → IsMomentText second text
kept_moment named second text is = by (nat_le named last_moment && pointwise nat_eq (moment_text named) text) refl
  where
    by : (b : Bool) → (nat_le named last_moment && pointwise nat_eq (moment_text named) text) ≡ b → IsMomentText second text
    by false e = absurd (none_some (rw e at is))
      where
        none_some : None ≡ Some second → ⊥
        none_some never = cc
    by true e =
        let same : Some named ≡ Some second = rw e at is in
        let (small, written) = and_parts _ _ e in
        rw (sym (some_same same)) (record { in_range = leb-true _ _ small; written = sym ((bytes_eq-Decides _ text).0 written) })

-- each moment is read from its own text, and from no other
pub moments : MomentsAreTheirTexts
unfolding moment_of
moments = record {
  known = λ second text is. sym (moment_read text (Some second) is tt);
  only = λ second text is. kept_moment (second_named text) second text is;
}
