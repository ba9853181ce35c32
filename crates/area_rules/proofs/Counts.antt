-- Laws of the rules of a directory's words: their order, and what the counts give where they pass.
-- Assumes nothing.
use mathlib.Core.Path.{◌≡◌, refl, sym, subst}
use mathlib.Core.Logic.{⊎_elim, ◌↔◌}
use mathlib.Core.List.{List, [], ◌∷◌}
use Prim.Native.Nat.{ℕ, ◌*◌, ◌≤◌}
use native.Mathlib.Nat.{mul-le-mul}
use native.Mathlib.Omega.{arith}
use lib.Dec.{eqb}
use borrow.Author.Tests.{eqb-true}
use Rattle.refusal_rules.specs.Rules.{first_fault, tabled, Hold, Pass}
use Rattle.refusal_rules.specs.Tests.{Exactly}
use Rattle.refusal_rules.proofs.Exactness.{eq_exactly, either_exactly, within_exactly}
use Rattle.refusal_rules.proofs.Tables.{pass_hold, also}
use Rattle.area_rules.specs.Rules.{is_width, area_count_rules, prefix_length_of, line_length_of, area_shape_rules, area_place_rules, area_described_rules, area_word_rules, area_rules}
use Rattle.area_rules.specs.Accepts.{IsWidth}
use Rattle.area_rules.proofs.Prefixes.{code_most}

-- ---- the order of the checks

-- Document 01's order, numbers and places: length; W2; counts W9, W10, W11, W14, W49, W50, W51, W61, W64; W15; line length (place 10); W61; W34; then
-- W35, W63, W60.
pub area_order_lem : (told : ℕ) (d : List ℕ) → tabled (area_rules told d)
    ≡ (1, 0) ∷ (1, 0) ∷ (2, 2)
    ∷ (3, 9) ∷ (3, 10) ∷ (3, 11) ∷ (3, 14) ∷ (3, 49) ∷ (3, 50) ∷ (3, 51) ∷ (3, 61) ∷ (3, 64)
    ∷ (4, 15) ∷ (4, 10) ∷ (4, 61)
    ∷ (5, 34) ∷ (5, 35) ∷ (5, 63) ∷ (5, 60) ∷ []
unfolding tabled area_rules area_word_rules area_described_rules area_count_rules area_shape_rules area_place_rules
area_order_lem told d = refl

-- ---- the counts

-- the test of W11 says exactly that it is 1, 2 or 4
pub width_exactly : (n : ℕ) → Exactly (is_width n) (IsWidth n)
width_exactly n = either_exactly (eq_exactly n 1) (either_exactly (eq_exactly n 2) (eq_exactly n 4))

-- what holds of 1, 2 and 4 holds of it
pub by_width : (P : ℕ → Type 0) (n : ℕ) → IsWidth n → P 1 → P 2 → P 4 → P n
by_width P n w p q r = ⊎_elim (λ e. subst P (sym e) p) (⊎_elim (λ e. subst P (sym e) q) (λ e. subst P (sym e) r)) w

-- it is from 1 to 4
pub width_bounds : (n : ℕ) → IsWidth n → (1 ≤ n) × (n ≤ 4)
width_bounds n w = by_width (λ (x : ℕ). (1 ≤ x) × (x ≤ 4)) n w (omega arith, omega arith) (omega arith, omega arith) (omega arith, omega arith)

-- What the counts give where they pass: both bounds of each. The products and sums of the later rules rest on this.
pub record AreaCounted (W : ℕ → ℕ) : Type 0 where
  pub w9 : (1 ≤ W 9) × (W 9 ≤ 65535)
  pub w10 : (1 ≤ W 10) × (W 10 ≤ 65535)
  pub w11 : IsWidth (W 11)
  pub w14 : (1 ≤ W 14) × (W 14 ≤ 64)
  pub w49 : (0 ≤ W 49) × (W 49 ≤ 65535)
  pub w50 : (0 ≤ W 50) × (W 50 ≤ 65535)
  pub w51 : (0 ≤ W 51) × (W 51 ≤ 65535)
  pub w61 : (0 ≤ W 61) × (W 61 ≤ 65535)
  pub w64 : (0 ≤ W 64) × (W 64 ≤ 65535)

-- their rules hold exactly where they are so
pub counts_exactly : (W : ℕ → ℕ) → Hold (area_count_rules W) ↔ AreaCounted W
unfolding area_count_rules
counts_exactly W = (
  λ h.
      record {
        w9 = (within_exactly 1 65535 (W 9)).sound h.0;
        w10 = (within_exactly 1 65535 (W 10)).sound h.1.0;
        w11 = (width_exactly (W 11)).sound h.1.1.0;
        w14 = (within_exactly 1 64 (W 14)).sound h.1.1.1.0;
        w49 = (within_exactly 0 65535 (W 49)).sound h.1.1.1.1.0;
        w50 = (within_exactly 0 65535 (W 50)).sound h.1.1.1.1.1.0;
        w51 = (within_exactly 0 65535 (W 51)).sound h.1.1.1.1.1.1.0;
        w61 = (within_exactly 0 65535 (W 61)).sound h.1.1.1.1.1.1.1.0;
        w64 = (within_exactly 0 65535 (W 64)).sound h.1.1.1.1.1.1.1.1.0;
      },
  λ k.
      also ((within_exactly 1 65535 (W 9)).complete k.w9)
      (also ((within_exactly 1 65535 (W 10)).complete k.w10)
      (also ((width_exactly (W 11)).complete k.w11)
      (also ((within_exactly 1 64 (W 14)).complete k.w14)
      (also ((within_exactly 0 65535 (W 49)).complete k.w49)
      (also ((within_exactly 0 65535 (W 50)).complete k.w50)
      (also ((within_exactly 0 65535 (W 51)).complete k.w51)
      (also ((within_exactly 0 65535 (W 61)).complete k.w61)
      (also ((within_exactly 0 65535 (W 64)).complete k.w64)
      tt)))))))),
)

-- where they pass
pub counted : (W : ℕ → ℕ) → first_fault (area_count_rules W) ≡ Pass → AreaCounted W
counted W e = (counts_exactly W).0 (pass_hold (area_count_rules W) e)

-- ---- the words that have a rule

-- where the counts pass and W15 is the prefix length, a line has at most 196,612 bytes of prefix and 16,776,960 of samples
pub line_most : (W : ℕ → ℕ) → first_fault (area_count_rules W) ≡ Pass → first_fault (area_shape_rules W) ≡ Pass → line_length_of W ≤ 16973572
unfolding area_shape_rules
line_most W e f =
    let k : AreaCounted W = counted W e in
    let prefix : W 15 ≡ prefix_length_of W = eqb-true (W 15) (prefix_length_of W) (pass_hold (area_shape_rules W) f).0 in
    let samples : W 14 * W 10 * W 11 ≤ 64 * 65535 * 4 = mul-le-mul (mul-le-mul k.w14.1 k.w10.1) (width_bounds (W 11) k.w11).1 in
    omega (arith, prefix, samples, code_most (eqb (W 36) 0), k.w49.1, k.w50.1, k.w51.1)
