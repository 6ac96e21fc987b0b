-- The dates of the worked examples, and the number of days between them.
use Rattle.std.specs.Prelude.{◌+◌, ◌≡◌, codes}
use Rattle.office_values.specs.Moments.{moment_text}
use Rattle.office_base.specs.Limits.{days}
use Rattle.office_machine.specs.Worked.Office.{deadline, decided, expiry, february, january, next_day, published, second_end, standstill_end}

pub record DatesWorked : Type 0 where
  -- The moments as texts.
  pub january_is : moment_text january ≡ codes "2026-01-05T09:00:00Z"
  pub published_is : moment_text published ≡ codes "2026-02-01T09:00:00Z"
  pub february_is : moment_text february ≡ codes "2026-02-02T10:00:00Z"
  pub deadline_is : moment_text deadline ≡ codes "2026-03-01T12:00:00Z"
  pub decided_is : moment_text decided ≡ codes "2026-03-02T10:00:00Z"
  pub next_day_is : moment_text next_day ≡ codes "2026-03-02T12:00:00Z"
  pub standstill_end_is : moment_text standstill_end ≡ codes "2026-03-12T10:00:00Z"
  pub second_end_is : moment_text second_end ≡ codes "2026-03-22T10:00:00Z"
  pub expiry_is : moment_text expiry ≡ codes "2026-05-30T12:00:00Z"
  -- A standstill lasts ten days.
  pub standstill_is : decided + days 10 ≡ standstill_end
  -- A second standstill lasts ten days too.
  pub second_standstill_is : standstill_end + days 10 ≡ second_end
  -- Tenders are valid for ninety days.
  pub validity_is : deadline + days 90 ≡ expiry
