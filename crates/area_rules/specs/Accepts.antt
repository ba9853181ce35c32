-- When an AREA file is accepted, and what an accepted file gives.
-- Assumes nothing.
use Rattle.std.specs.Prelude.{◌≡◌, ◌⊎◌, List, ℕ, ◌%◌, ◌≤◌, ◌<◌, length}
use Rattle.endian_rules.specs.Words.{word_at, AtLeast}
use Rattle.endian_rules.specs.declared.Order.TheVariants.{Big, Little}
use Rattle.area_rules.specs.Rules.{directory_of, word_in, area_order, prefix_length_of, line_length_of, audit_end_of}

-- a sample may have n bytes: "W11 is 1, 2 or 4"
abbrev pub IsWidth : ℕ → Type 0
IsWidth n = (n ≡ 1) ⊎ ((n ≡ 2) ⊎ (n ≡ 4))

-- NAV, CAL or AUX may start at x, in a file of `told` bytes with DATA and AUDIT from `start` to `end`: there is no such block (0), or x is as the rule
-- asks; `Unequal` is that x is unequal to the earlier ones
abbrev pub BlockStartFits : ℕ → ℕ → ℕ → ℕ → Type 0 → Type 0
BlockStartFits told start end x Unequal = (x ≡ 0) ⊎ (AtLeast 256 x × ((x < told) × (((x < start) ⊎ (end ≤ x)) × Unequal)))

-- The rules of the words, one field a rule, of a file of `told` bytes. A word with an upper limit below 2 ^ 31, or with a rule, is the signed
-- word; W34, W35, W63 and W60 have no upper limit of their own, and are compared as signed words.
pub record AcceptsAreaWords (told : ℕ) (W : ℕ → ℕ) : Type 0 where
  pub w9 : (1 ≤ W 9) × (W 9 ≤ 65535)
  pub w10 : (1 ≤ W 10) × (W 10 ≤ 65535)
  pub w11 : IsWidth (W 11)
  pub w14 : (1 ≤ W 14) × (W 14 ≤ 64)
  pub w49 : (0 ≤ W 49) × (W 49 ≤ 65535)
  pub w50 : (0 ≤ W 50) × (W 50 ≤ 65535)
  pub w51 : (0 ≤ W 51) × (W 51 ≤ 65535)
  pub w61 : (0 ≤ W 61) × (W 61 ≤ 65535)
  pub w64 : (0 ≤ W 64) × (W 64 ≤ 65535)
  pub w15 : W 15 ≡ prefix_length_of W
  pub line : line_length_of W % 4 ≡ 0
  pub entries : (¬ (W 60 ≡ 0)) ⊎ (W 61 ≡ 0)
  pub w34 : AtLeast 256 (W 34) × (audit_end_of W ≤ told)
  pub w35 : BlockStartFits told (W 34) (audit_end_of W) (W 35) (Unit {0})
  pub w63 : BlockStartFits told (W 34) (audit_end_of W) (W 63) (¬ (W 63 ≡ W 35))
  pub w60 : BlockStartFits told (W 34) (audit_end_of W) (W 60) ((¬ (W 60 ≡ W 35)) × (¬ (W 60 ≡ W 63)))

-- A file of `told` bytes that begins with the bytes d is accepted: all rules hold.
pub record AcceptsArea (told : ℕ) (d : List ℕ) : Type 0 where
  pub long : 256 ≤ told
  pub directory : 256 ≤ length d
  pub w2 : (word_at Big d 1 ≡ 4) ⊎ (word_at Little d 1 ≡ 4)
  pub words : AcceptsAreaWords told (word_in (directory_of (area_order d) d))
