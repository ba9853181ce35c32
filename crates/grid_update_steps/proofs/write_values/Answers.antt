-- `grid_update_steps::write_values` meets its contract: after i turns the first i words are stored.
-- Assumes nothing.
use mathlib.Core.Path.{◌≡◌, ap, ◌∙◌}
use mir.Syntax.{w32}
use mir.Val.{of_z, to_z}
use Prim.Native.Nat.{◌+◌, ◌*◌}
use lib.IntN.{ℤ, pos}
use lib.ListN.{get_or}
use lib.Seq.{sets}
use Rattle.endian_rules.specs.Words.{encode_signed}
use Rattle.endian_rules.proofs.Signs.{same_word}
use Rattle.grid_update_rules.proofs.Bytes.{signed-behind}
use Rattle.grid_update_steps.proofs.write_values.Goals as goal

pub loop-i-preserved : goal.loop-i-preserved
loop-i-preserved c =
    let a = c.args in
    let i = c.loop-i in
    let v : ℤ = get_or a.values.now i.i (pos 0) in
    let same : to_z w32 (of_z w32 v) ≡ v = same_word v search in
    signed-behind a.order a.file.now a.at a.values.now i.i (pos 0) c.loop-i-test.true i.invariant
    (c.write_signed.ensures ∙ ap (λ (z : ℤ). sets i.file (a.at + 4 * i.i) (encode_signed a.order z)) same)
