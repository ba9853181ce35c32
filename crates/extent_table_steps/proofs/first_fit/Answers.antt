-- `extent_table_steps::first_fit` meets its contract: as many places are searched as the smaller of the two numbers says.
-- Assumes nothing.
use Rattle.std.proofs.Common.{◌≡◌, ◌∙◌, ap, ◌<◌, ℕ, length, arith}
use Prim.Native.Nat.{min}
use native.Mathlib.Decide.{dec_lt}
use lib.ListN.{length-take}
use Rattle.extent_rules.specs.Rooms.{searched, lesser}
use Rattle.extent_rules.proofs.Fit.{lesser_count, lesser-size}
use Rattle.extent_table_steps.proofs.first_fit.Goals as goal

lesser-min : (count size : ℕ) → min count size ≡ lesser count size
lesser-min count size = step (dec_lt size count)
  where
    step : Dec (size < count) → min count size ≡ lesser count size
    step (yes l) = omega (arith, l, lesser-size count size l)
    step (no h) = omega (arith, h, lesser_count count size (omega (arith, h)))

pub returns : goal.returns
returns c =
    let table = c.args.table.now in
    let places : c.loop-extent.extent-index ≡ lesser c.args.count (length table) =
    omega (
      arith,
      c.loop-extent-test.false,
      c.loop-extent.auto.extent-index-end,
      length-take c.min.result table,
      c.min.ensures,
      lesser-min c.args.count (length table),
    ) in
    c.loop-extent.invariant ∙ ap (searched table c.args.need) places
