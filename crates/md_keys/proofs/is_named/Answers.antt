-- `md_keys::is_named` meets its contract: the four bytes of the key's name are compared with the name.
-- Assumes nothing.
use mathlib.Core.Path.{◌≡◌}
use Prim.Native.Nat.{◌+◌, ◌-◌, ◌*◌}
use native.Mathlib.Omega.{arith}
use Rattle.std.proofs.lemmas.Bool.Decides.{Decides-eqb}
use Rattle.std.proofs.lemmas.Slice.Eq.{slice_eq-Decides}
use Rattle.refusal_rules.proofs.Exactness.{iff_exactly, exactly_same, numbers_exactly}
use Rattle.md_keys.proofs.is_named.Goals as goal

pub returns : goal.returns
returns c =
    let at = 4 * (464 + (c.args.position - 1)) in
    let size : at + 4 - at ≡ 4 = omega arith in
    exactly_same (iff_exactly (slice_eq-Decides Decides-eqb _ _ _ (rw size at c.eq.ensures))) (numbers_exactly _ _)
