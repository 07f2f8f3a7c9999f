-- The line of a record by its head.
use Rattle.std.proofs.Common.{◌≡◌, refl}
use Rattle.kc_history.specs.Records.{head_in}
use Rattle.kc_history.specs.Text.{bare_record, reply_line}
use Rattle.kc_history.specs.declared.record.Mark.{Mark}
use Rattle.kc_history.specs.declared.record.Mark.TheVariants as mark
use Rattle.kc_history.specs.declared.record.Record.{Record}

pub head_line : (r : Record) → reply_line (bare_record (head_in r)) ≡ reply_line r
head_line r = by r.mark refl
  where
    by : (m : Mark) → r.mark ≡ m → reply_line (bare_record (head_in r)) ≡ reply_line r
    by (mark.Command n) e = rw e refl
    by mark.End e = rw e refl
