-- Segments that lie one behind another without a gap, by the list of their lengths. They are counted from 0.
-- Assumes nothing.
use Rattle.std.specs.Prelude.{List, [], ◌∷◌, ℕ, ◌+◌, get_or, take}

-- the sum of a list of lengths
abbrev pub total : List ℕ → ℕ
total [] = 0
total (n ∷ lengths) = n + total lengths

-- the length of segment k; 0 where there is no such segment
abbrev pub segment_length : List ℕ → ℕ → ℕ
segment_length lengths k = get_or lengths k 0

-- how far segment k starts behind the start of the first: the sum of the lengths before its own
abbrev pub segment_offset : List ℕ → ℕ → ℕ
segment_offset lengths k = total (take k lengths)
