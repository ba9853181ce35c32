-- `endian_steps::write_number` meets its contract. The loop goes from the least significant digit up: after k turns the low k bytes of the
-- number stand at their place, and `left` is what is left of it.
-- Assumes nothing.
use native.Mathlib.Omega.{arith}
use Rattle.endian_rules.proofs.Places.{written_none, written_more, left_more}
use Rattle.endian_steps.proofs.write_number.Goals as goal

pub loop-k-init : goal.loop-k-init
loop-k-init c =
    let a = c.args in
    (written_none a.order a.width a.file.now a.at a.n, omega arith)

pub loop-k-preserved : goal.loop-k-preserved
loop-k-preserved c =
    let a = c.args in
    let l = c.loop-k in (
      rw (l.invariant.0, c.digit_position-i.ensures, l.invariant.1) (written_more a.order a.width a.file.now a.at a.n l.k c.loop-k-test.true),
      rw l.invariant.1 (left_more a.n l.k),
    )
