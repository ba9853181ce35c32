-- The lengths of a line prefix: rounding up to a multiple of four, and the padding that it leaves.
-- Assumes nothing.
use mathlib.Core.Path.{◌≡◌}
use mathlib.Core.Bool.{Bool, true, false}
use mathlib.Core.Logic.{◌↔◌}
use Prim.Native.Nat.{ℕ, ◌+◌, ◌%◌, ◌≤◌, ◌<◌}
use native.Mathlib.Omega.{arith}
use Rattle.lists.specs.Segments.{total}
use Rattle.area_rules.specs.Lines.{validity_length, given_regions, rounded_up, prefix_length, padding_length}

-- m is n rounded up to a multiple of four: the only multiple of four from n to n + 3
pub record IsRoundedUp (n m : ℕ) : Type 0 where
  pub four : m % 4 ≡ 0
  pub from : n ≤ m
  pub to : m < n + 4

-- `rounded_up` is exactly that
pub rounded_exactly : (n m : ℕ) → (m ≡ rounded_up n) ↔ IsRoundedUp n m
rounded_exactly n m =
    (λ e. record { four = omega (arith, e); from = omega (arith, e); to = omega (arith, e) }, λ r. omega (arith, r.four, r.from, r.to))

-- a multiple of four is itself rounded up
pub rounded_itself : (n : ℕ) → n % 4 ≡ 0 → n ≡ rounded_up n
rounded_itself n e = (rounded_exactly n n).1 (record { four = e; from = omega arith; to = omega arith })

-- a validity code has at most four bytes, and a multiple of four
pub code_most : (noCode : Bool) → validity_length noCode ≤ 4
code_most true = omega arith
code_most false = omega arith

pub code_four : (noCode : Bool) → validity_length noCode % 4 ≡ 0
code_four true = omega arith
code_four false = omega arith

module _ (noCode : Bool) (w49 w50 w51 : ℕ) where
  -- the padding has at most three bytes
  pub padding_most : padding_length noCode w49 w50 w51 ≤ 3
  padding_most = omega arith

  -- the regions that the directory gives and the padding are the prefix
  pub padding_rest : total (given_regions noCode w49 w50 w51) + padding_length noCode w49 w50 w51 ≡ prefix_length noCode w49 w50 w51
  padding_rest = omega arith
