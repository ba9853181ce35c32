-- `word_copy_steps::fill_lines` meets its contract: after k turns the first places hold the first k lines.
-- Assumes nothing.
use Prim.Native.Nat.{◌+◌, ◌*◌}
use Rattle.endian_rules.specs.Words.{signed_at}
use Rattle.copy_rules.proofs.Runs.{LinesFilled}
use Rattle.word_copy_steps.proofs.fill_lines.Given as goal

abbrev pub invariant-loop-k : goal.invariant-loop-k
invariant-loop-k l = LinesFilled (λ j i. signed_at l.order l.file (l.lines.at + j * l.lines.across + i * l.lines.along)) l.words l.k l.initial.out l.out
