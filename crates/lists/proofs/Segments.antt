-- Segments that lie one behind another: no two share a place, each is inside the whole, and together they fill it.
-- Assumes nothing.
use mathlib.Core.Path.{◌≡◌, refl, ap, ◌∙◌}
use mathlib.Core.Logic.{inl, inr, ⊎_elim}
use mathlib.Core.List.{List, [], ◌∷◌}
use Prim.Native.Nat.{ℕ, zero, suc, ◌+◌, ◌-◌, ◌≤◌, ◌<◌}
use native.Mathlib.Nat.{le_of_suc-le-suc}
use native.Mathlib.Decide.{dec_lt}
use native.Mathlib.Omega.{arith}
use lib.ListN.{length}
use Rattle.lists.specs.Lists.{Apart}
use Rattle.lists.specs.Segments.{total, segment_length, segment_offset}
use Rattle.lists.proofs.Rows.{compared}

segment_suc : (ns : List ℕ) (k : ℕ) → segment_offset ns (suc k) ≡ segment_offset ns k + segment_length ns k
segment_suc [] zero = refl
segment_suc [] (suc k) = refl
segment_suc (n ∷ ns) zero = omega arith
segment_suc (n ∷ ns) (suc k) = omega (arith, segment_suc ns k)

-- the next segment starts where a segment ends
pub segment_next : (ns : List ℕ) (k : ℕ) → segment_offset ns (k + 1) ≡ segment_offset ns k + segment_length ns k
segment_next ns k = let next : k + 1 ≡ suc k = omega arith in ap (segment_offset ns) next ∙ segment_suc ns k

-- a later segment starts at the end of an earlier one, or behind it
pub segment_before : (ns : List ℕ) (j k : ℕ) → j < k → segment_offset ns j + segment_length ns j ≤ segment_offset ns k
segment_before [] zero zero h = elim h [ ]
segment_before [] (suc j) zero h = elim h [ ]
segment_before (n ∷ ns) zero zero h = elim h [ ]
segment_before (n ∷ ns) (suc j) zero h = elim h [ ]
segment_before [] zero (suc k) h = omega arith
segment_before [] (suc j) (suc k) h = omega arith
segment_before (n ∷ ns) zero (suc k) h = omega arith
segment_before (n ∷ ns) (suc j) (suc k) h = omega (arith, segment_before ns j k (le_of_suc-le-suc h))

-- a segment ends inside the whole
pub segment_inside : (ns : List ℕ) (k : ℕ) → segment_offset ns k + segment_length ns k ≤ total ns
segment_inside [] zero = omega arith
segment_inside [] (suc k) = omega arith
segment_inside (n ∷ ns) zero = omega arith
segment_inside (n ∷ ns) (suc k) = omega (arith, segment_inside ns k)

-- two segments share no place, wherever the first starts
pub segments_apart : (ns : List ℕ) (start j k : ℕ) → ¬ (j ≡ k)
    → Apart (start + segment_offset ns j) (segment_length ns j) (start + segment_offset ns k) (segment_length ns k)
segments_apart ns start j k other =
    ⊎_elim (λ same. absurd (other same))
    (⊎_elim (λ h. inl (omega (arith, segment_before ns j k h))) (λ h. inr (omega (arith, segment_before ns k j h)))) (compared j k)

-- place i, counted from the start of the first, is one of segment k
pub record InSegment (ns : List ℕ) (k i : ℕ) : Type 0 where
  pub from : segment_offset ns k ≤ i
  pub to : i < segment_offset ns k + segment_length ns k

-- every place of the whole is one of a segment
pub segments_fill : (ns : List ℕ) (i : ℕ) → i < total ns → (k : ℕ) × ((k < length ns) × InSegment ns k i)
segments_fill [] i h = let z : ⊥ = omega arith in absurd z
segments_fill (n ∷ ns) i h = step (dec_lt i n) (λ l. segments_fill ns (i - n) l)
  where
    step : Dec (i < n) → (i - n < total ns → (k : ℕ) × ((k < length ns) × InSegment ns k (i - n)))
        → (k : ℕ) × ((k < length (n ∷ ns)) × InSegment (n ∷ ns) k i)
    step (yes lt) rest = (0, (omega arith, record { from = omega arith; to = omega arith }))
    step (no ge) rest =
        let (k, (is, p)) = rest (omega arith) in
        (suc k, (omega (arith, is), record { from = omega (arith, p.from); to = omega (arith, p.to) }))
