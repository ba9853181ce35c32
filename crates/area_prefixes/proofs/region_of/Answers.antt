-- `area_prefixes::region_of` meets its contract: a region of a line is inside the file.
-- Assumes nothing.
use mathlib.Core.Path.{◌≡◌, sym, ap₂, ◌∙◌}
use mathlib.Core.List.{List}
use Prim.Native.Nat.{ℕ}
use native.Mathlib.Omega.{arith}
use lib.ListN.{take}
use Rattle.lists.specs.Segments.{total}
use Rattle.area_rules.proofs.Regions.{region_prefix}
use Rattle.area_rules.proofs.Samples.{line-inside}
use Rattle.area_rules.proofs.Places.{line_start_lem}
use Rattle.area_rules.specs.Blocks.{region_offset}
use Rattle.area_prefixes.proofs.Sums.{sum_total}
use Rattle.area_prefixes.proofs.region_of.Goals as goal

pub overflow_add-result : goal.overflow_add-result
overflow_add-result c =
    let l = c.args.l in
    let i = c.args.line in
    let offset : c.offset_of.result ≡ region_offset l c.args.region =
    c.offset_of.ensures
    ∙ (sum_total (take c.region_index-k.result c.region_lengths-lengths.result)
    ∙ ap₂ (λ k (ns : List ℕ). total (take k ns)) c.region_index-k.ensures.0 c.region_lengths-lengths.ensures) in
    let (line, found) = (line_start_lem l c.requires i _).0 (sym c.in_ok-start.ensures) in
    omega (
      arith,
      found,
      offset,
      region_prefix l c.requires c.args.region,
      line-inside l c.requires i line,
    )
