-- Puts of a notice and of the clock leave tables apart as they are.
use Rattle.office_tables.proofs.Names.{◌≡◌, ℕ, Option, Database, ClockRow, NoticeRow, notices, upsert_notices, notice_form, office, upsert_office, clock_form, IsIn, MakesOne, Notices, Office}
use Rattle.office_base.specs.declared.puts.Put.TheVariants as puts
use Rattle.office_tables.proofs.Childless.{SparesMarked}
use Rattle.office_tables.proofs.Writes.{put_apart}
use Rattle.office_tables.proofs.ByTable.Office.{clock_shape, clock_put}
use Rattle.office_tables.proofs.ByTable.Notices.{notice_shape, notice_put}
use Rattle.office_tables.proofs.Each.{bare}
use Rattle.office_tables.proofs.TableTools.{put_means}

pub notice_apart : (limit : Option ℕ) (x : NoticeRow) (first second : Database) (n : ℕ) → IsIn first.schema notices n → MakesOne limit (puts.Notice x) first second
    → (second.schema ≡ first.schema) × SparesMarked first.schema n first.trees second.trees
notice_apart limit x first second n at (c, is, tally, does) =
    put_apart Notices bare notice_form notice_shape notice_put.stored limit first second n at upsert_notices x (put_means notice_put first.schema n at) c is tally does

pub clock_apart : (limit : Option ℕ) (x : ClockRow) (first second : Database) (n : ℕ) → IsIn first.schema office n → MakesOne limit (puts.Clock x) first second
    → (second.schema ≡ first.schema) × SparesMarked first.schema n first.trees second.trees
clock_apart limit x first second n at (c, is, tally, does) =
    put_apart Office bare clock_form clock_shape clock_put.stored limit first second n at upsert_office x (put_means clock_put first.schema n at) c is tally does
