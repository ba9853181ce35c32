-- `endian_steps::write_number` meets its contract. The loop goes from the least significant digit up: after k turns the low k bytes of the
-- number stand at their place, and `left` is what is left of it.
-- Assumes nothing.
use mathlib.Core.Path.{◌≡◌}
use Prim.Native.Nat.{◌+◌, ◌/◌, ◌^◌}
use lib.Seq.{sets}
use Rattle.endian_rules.specs.Numbers.{encode}
use Rattle.endian_rules.proofs.Places.{low_start}
use Rattle.endian_steps.proofs.write_number.Given as goal

abbrev pub invariant-loop-k : goal.invariant-loop-k
invariant-loop-k l =
    (l.file ≡ sets l.initial.file (l.at + low_start l.order l.width l.k) (encode l.order l.k l.n)) × (l.left ≡ l.n / 256 ^ l.k)
