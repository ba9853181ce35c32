-- The rules as the code comes to them: the counts first, and the others where the counts are within their bounds, so that no product which
-- the rules make passes 64 bits.
-- Assumes nothing.
use mathlib.Core.Path.{◌≡◌, refl}
use mathlib.Core.List.{[], ◌∷◌, ◌++◌}
use Prim.Native.Nat.{ℕ, ◌*◌, ◌≤◌}
use native.Mathlib.Nat.{mul-le-mul}
use lib.Dec.{leb}
use borrow.Author.Tests.{le-leb}
use Rattle.refusal_rules.specs.Rules.{rule, first, first_fault, tabled, Hold, Pass}
use Rattle.refusal_rules.proofs.Tables.{first_assoc, judge-holds, pass_hold, joined_faults, also}
use Rattle.refusal_rules.proofs.Exactness.{within_exactly}
use Rattle.md_rules.specs.Rules.{md_count_rules, md_sum_rules, md_fixed_rules, md_end_rules, md_rules}

-- Document 01's order, numbers and places: length; the counts; words 5, 9, 10, 27, 28, 29; words 31 to 34; word 30.
pub md-order : (len : ℕ) (w : ℕ → ℕ) → tabled (md_rules len w)
    ≡ (1, 0)
    ∷ (3, 3) ∷ (3, 4) ∷ (3, 5) ∷ (3, 6) ∷ (3, 7) ∷ (3, 8)
    ∷ (4, 5) ∷ (4, 9) ∷ (4, 10) ∷ (4, 27) ∷ (4, 28) ∷ (4, 29)
    ∷ (4, 31) ∷ (4, 32) ∷ (4, 33) ∷ (4, 34)
    ∷ (4, 30) ∷ (5, 30) ∷ []
unfolding tabled md_rules md_count_rules md_sum_rules md_fixed_rules md_end_rules
md-order len w = refl

-- both bounds of every count
pub record MdCounted (w : ℕ → ℕ) : Type 0 where
  pub rows : (1 ≤ w 3) × (w 3 ≤ 65535)
  pub columns : (1 ≤ w 4) × (w 4 ≤ 1600000)
  pub keys : (1 ≤ w 5) × (w 5 ≤ 400)
  pub row_keys : (0 ≤ w 6) × (w 6 ≤ 400)
  pub column_keys : (0 ≤ w 7) × (w 7 ≤ 400)
  pub data_keys : (1 ≤ w 8) × (w 8 ≤ 400)

-- what the rules of the counts say
pub hold_counted : (w : ℕ → ℕ) → Hold (md_count_rules w) → MdCounted w
unfolding md_count_rules
hold_counted w h =
    record {
      rows = (within_exactly 1 65535 (w 3)).sound h.0;
      columns = (within_exactly 1 1600000 (w 4)).sound h.1.0;
      keys = (within_exactly 1 400 (w 5)).sound h.1.1.0;
      row_keys = (within_exactly 0 400 (w 6)).sound h.1.1.1.0;
      column_keys = (within_exactly 0 400 (w 7)).sound h.1.1.1.1.0;
      data_keys = (within_exactly 1 400 (w 8)).sound h.1.1.1.1.1.0;
    }

-- and where they hold
pub counted_hold : (w : ℕ → ℕ) → MdCounted w → Hold (md_count_rules w)
unfolding md_count_rules
counted_hold w k =
    also ((within_exactly 1 65535 (w 3)).complete k.rows)
    (also ((within_exactly 1 1600000 (w 4)).complete k.columns)
    (also ((within_exactly 1 400 (w 5)).complete k.keys)
    (also ((within_exactly 0 400 (w 6)).complete k.row_keys)
    (also ((within_exactly 0 400 (w 7)).complete k.column_keys)
    (also ((within_exactly 1 400 (w 8)).complete k.data_keys)
    tt)))))

-- so it is where they pass
pub pass_counted : (w : ℕ → ℕ) → first_fault (md_count_rules w) ≡ Pass → MdCounted w
pass_counted w e = hold_counted w (pass_hold (md_count_rules w) e)

module _ {w : ℕ → ℕ} (k : MdCounted w) where
  -- the words of all row headers
  pub row-words : w 3 * w 6 ≤ 26214000
  row-words = mul-le-mul k.rows.1 k.row_keys.1

  -- the words of all column headers
  pub column-words : w 4 * w 7 ≤ 640000000
  column-words = mul-le-mul k.columns.1 k.column_keys.1

  -- the coordinates that have data
  pub data_records : w 3 * w 4 ≤ 104856000000
  data_records = mul-le-mul k.rows.1 k.columns.1

  -- the words of all data
  pub data_words : w 3 * w 4 * w 8 ≤ 41942400000000
  data_words = mul-le-mul data_records k.data_keys.1

-- what all rules say of a file that is long enough, in the order in which the code comes to it
pub long-file : (len : ℕ) (w : ℕ → ℕ) → 16384 ≤ len
    → first_fault (md_rules len w)
    ≡ first (first_fault (md_count_rules w)) (first (first (first_fault (md_sum_rules w)) (first_fault (md_fixed_rules w))) (first_fault (md_end_rules len w)))
unfolding md_rules first_fault first
long-file len w h =
    rw (
      judge-holds (rule (leb 16384 len) 1 0) (le-leb 16384 len h),
      joined_faults (md_count_rules w) (md_sum_rules w ++ (md_fixed_rules w ++ md_end_rules len w)),
      joined_faults (md_sum_rules w) (md_fixed_rules w ++ md_end_rules len w),
      joined_faults (md_fixed_rules w) (md_end_rules len w),
      first_assoc (first_fault (md_sum_rules w)) (first_fault (md_fixed_rules w)) (first_fault (md_end_rules len w)),
    )
