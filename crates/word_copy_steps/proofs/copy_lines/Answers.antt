-- `word_copy_steps::copy_lines` meets its contract: the lines are copied where the output has a place for each of their words.
-- Assumes nothing.
use mathlib.Core.Path.{◌≡◌}
use mathlib.Core.List.{List}
use Prim.Native.Nat.{◌*◌}
use lib.IntN.{ℤ}
use lib.ListN.{length}
use Rattle.copy_rules.specs.Runs.{lines_at}
use Rattle.copy_rules.proofs.Copies.{counted_over, counted_short}
use Rattle.copy_rules.proofs.Runs.{length-lines_at}
use Rattle.word_copy_steps.proofs.copy_lines.Goals as goal

-- what is copied
abbrev theLines_at_After_out_1 : goal.After-out-1 → List ℤ
theLines_at_After_out_1 s =
    let l = s.args.lines in
    lines_at s.args.order s.args.file.now l.at l.across l.along l.count l.words

-- what is copied
abbrev theLines_at_Then_out_total : goal.Then-out-total → List ℤ
theLines_at_Then_out_total s =
    let l = s.args.lines in
    lines_at s.args.order s.args.file.now l.at l.across l.along l.count l.words

-- as many words as the output must have places for
counted_at_After_out_1 : (s : goal.After-out-1) → length (theLines_at_After_out_1 s) ≡ s.args.lines.count * s.args.lines.words
counted_at_After_out_1 s =
    let l = s.args.lines in
    length-lines_at s.args.order s.args.file.now l.at l.across l.along l.count l.words

-- as many words as the output must have places for
counted_at_Then_out_total : (s : goal.Then-out-total) → length (theLines_at_Then_out_total s) ≡ s.args.lines.count * s.args.lines.words
counted_at_Then_out_total s =
    let l = s.args.lines in
    length-lines_at s.args.order s.args.file.now l.at l.across l.along l.count l.words

pub returns-then-out-total : goal.returns-then-out-total
returns-then-out-total c =
    let s = c in
    counted_short (theLines_at_Then_out_total s) s.args.out.now _ (counted_at_Then_out_total s) c.if-out-total.true

pub returns : goal.returns
returns c =
    let s = c in
    counted_over (theLines_at_After_out_1 s) s.args.out.now _ _ c.fill_lines.ensures (counted_at_After_out_1 s) c.if-out-total.false
