-- What the products of an AREA address are at most, where the fields of a layout are within bounds: all of them fit 64 bits.
-- Assumes nothing.
use Prim.Native.Nat.{ℕ, ◌+◌, ◌*◌, ◌≤◌, ◌<◌}
use native.Mathlib.Nat.{mul-le-mul}
use native.Mathlib.Omega.{arith}
use Rattle.area_rules.specs.Samples.{line_length_in}
use Rattle.area_rules.specs.declared.AreaLayout.{AreaLayout}
use Rattle.area_rules.specs.Bounds.{AreaBounds}

module _ {l : AreaLayout} (b : AreaBounds l) where
  -- the samples of an element of every band, and of a line
  pub elements_most : l.bands * l.elements ≤ 64 * 65535
  elements_most = mul-le-mul b.bands b.elements

  pub samples_most : l.bands * l.elements * l.width ≤ 16776960
  samples_most = mul-le-mul elements_most b.width

  -- the lines before line i
  pub lines_most : (i : ℕ) → i ≤ l.lines → l.prefix < 4294967296 → i * line_length_in l ≤ 65535 * 4311744255
  lines_most i h p = mul-le-mul {n₂ = 65535} {m₂ = 4311744255} (omega (arith, h, b.lines)) (omega (arith, p, samples_most))

  -- the samples before one in its line
  pub before_most : (e : ℕ) → e ≤ l.elements → e * l.bands ≤ 65535 * 64
  before_most e h = mul-le-mul {n₂ = 65535} {m₂ = 64} (omega (arith, h, b.elements)) b.bands

  pub bytes_most : (e s : ℕ) → e ≤ l.elements → s ≤ l.bands → (e * l.bands + s) * l.width ≤ 4194304 * 4
  bytes_most e s h k = mul-le-mul {n₂ = 4194304} {m₂ = 4} (omega (arith, before_most e h, k, b.bands)) b.width
