-- `md_keys::find_in` meets its contract: no position before the one that the loop is at has the name.
-- Assumes nothing.
use Rattle.md_part_rules.specs.Keys.{is_named}
use Rattle.md_part_rules.proofs.Names.{NoneBelow}
use Rattle.md_keys.proofs.find_in.Given as goal

abbrev pub invariant-loop-position : goal.invariant-loop-position
invariant-loop-position l = NoneBelow (is_named l.file l.name) l.position
