-- The free words of a GRID file, and the longest runs of them: document 02, request 5. w k stands for the raw word k, as in grid_rules, and `whole` for the
-- number of the file's whole words. All addresses and lengths are in words.
--
-- "Free stretch" is document 02's term: "longest runs of words from 12+n to the file's last whole word that no grid has".
-- Assumes nothing.
use Rattle.std.specs.Prelude.{◌≡◌, Bool, true, false, not, List, [], ◌∷◌, ℕ, zero, suc, ◌+◌, ◌-◌, ◌≤◌, ◌<◌, ltb, eqb}
use Rattle.lists.specs.Choices.{pick, both, either}
use Rattle.lists.specs.Lists.{lines_of}
use Rattle.lists.specs.Lowest.{lowest}
use Rattle.grid_rules.specs.Rules.{is_empty_slot, shares}
use Rattle.extent_rules.specs.declared.Extent.{Extent}

-- the extent of so many words from a start on
abbrev pub extent : ℕ → ℕ → Extent
extent start size = record { start = start; length = size }

-- the extent of no words
abbrev pub no_words : Extent
no_words = extent 0 0

-- the word behind an extent
abbrev pub extent_end : Extent → ℕ
extent_end e = e.start + e.length

-- the extent of the grid of slot k; no words where the slot is empty
unfoldable pub slot_extent : (ℕ → ℕ) → ℕ → Extent
slot_extent w k = pick (is_empty_slot w k) no_words (extent (w (11 + k)) (64 + w (w (11 + k))))

-- the end of the highest of the grids of the first k slots; `low` where there is none
unfoldable pub highest_end : (ℕ → ℕ) → ℕ → ℕ → ℕ
highest_end w low zero = low
highest_end w low (suc k) = pick (ltb (highest_end w low k) (extent_end (slot_extent w k))) (extent_end (slot_extent w k)) (highest_end w low k)

-- whether no grid has a word from `low` up to, but not with, `high`
unfoldable pub no_grid_has : (ℕ → ℕ) → ℕ → ℕ → Bool
no_grid_has w low high = not (shares w low high (w 10))

-- whether word p is free: no grid has it
abbrev pub is_free : (ℕ → ℕ) → ℕ → Bool
is_free w p = no_grid_has w p (p + 1)

-- 12 + n: the first word behind the directory and the next free word
abbrev pub first_word : (ℕ → ℕ) → ℕ
first_word w = 12 + w 10

-- the lowest free word from p on; `whole` where there is none
abbrev pub lowest_free : (ℕ → ℕ) → ℕ → ℕ → ℕ
lowest_free w whole p = lowest (is_free w) p (whole - p)

-- the lowest word from p on that a grid has; `whole` where there is none
abbrev pub lowest_taken : (ℕ → ℕ) → ℕ → ℕ → ℕ
lowest_taken w whole p = lowest (λ q. not (is_free w q)) p (whole - p)

-- whether a free stretch starts at word p: p is free, and the word before it is not, or p is 12 + n
unfoldable pub stretch_starts : (ℕ → ℕ) → ℕ → Bool
stretch_starts w p = both (is_free w p) (either (eqb p (first_word w)) (not (is_free w (p - 1))))

-- the words from p on, up to the lowest that a grid has or to the file's last whole word
unfoldable pub run_from : (ℕ → ℕ) → ℕ → ℕ → Extent
run_from w whole p = extent p (lowest_taken w whole p - p)

-- the free stretch that starts at word p, if one does
unfoldable pub stretch_at : (ℕ → ℕ) → ℕ → ℕ → List Extent
stretch_at w whole p = pick (stretch_starts w p) (run_from w whole p ∷ []) []

-- the free stretches of a file, in address order
unfoldable pub free_stretches : (ℕ → ℕ) → ℕ → List Extent
free_stretches w whole = lines_of (λ i. stretch_at w whole (first_word w + i)) (whole - first_word w)

-- e is a longest run of free words: it has a word, all its words are free and from 12 + n to the file's last whole word, and neither the word
-- before it nor the one behind it is such a word.
pub record LongestRun (w : ℕ → ℕ) (whole : ℕ) (e : Extent) : Type 0 where
  pub some : 1 ≤ e.length
  pub from : first_word w ≤ e.start
  pub to : extent_end e ≤ whole
  pub free : (p : ℕ) → e.start ≤ p → p < extent_end e → is_free w p ≡ true
  pub before : first_word w < e.start → is_free w (e.start - 1) ≡ false
  pub behind : extent_end e < whole → is_free w (extent_end e) ≡ false
