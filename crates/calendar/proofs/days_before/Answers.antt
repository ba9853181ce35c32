-- `calendar::days_before` meets its contract: the table's rule, at the entry that is read.
-- Assumes nothing.
use Rattle.calendar_rules.proofs.Months.{common_entry, leap-entry}
use Rattle.calendar.proofs.days_before.Goals as goal

pub returns-then-leap : goal.returns-then-leap
returns-then-leap c = rw c.if-leap.true (leap-entry c.args.month c.requires)

pub returns-else-leap : goal.returns-else-leap
returns-else-leap c = rw c.if-leap.false (common_entry c.args.month c.requires)
