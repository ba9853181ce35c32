-- `extent_steps::AcceptedFile::run_after` meets its contract: the run begins at the lowest free word, and ends where the next grid begins.
-- Assumes nothing.
use Prim.Native.Nat.{◌+◌, ◌/◌}
use lib.ListN.{length}
use Rattle.endian_rules.specs.Words.{word_at}
use Rattle.extent_rules.proofs.Slots.{run_found}
use Rattle.extent_steps.proofs.AcceptedFile.run_after.Goals as goal

pub overflow_sub-result : goal.overflow_sub-result
overflow_sub-result c =
    let s = c in
    let f = s.args.self.file.now in
    let e = s.args.e in
    (run_found (word_at s.args.self.order f) (length f / 4) (e.start + e.length) _ _ s.requires c.lowest_free-start.ensures c.next_grid-end.ensures).0

pub returns : goal.returns
returns c =
    let s = c in
    let f = s.args.self.file.now in
    let e = s.args.e in
    (run_found (word_at s.args.self.order f) (length f / 4) (e.start + e.length) _ _ s.requires c.lowest_free-start.ensures c.next_grid-end.ensures).1
