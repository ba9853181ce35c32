-- What the functions compute on their way: the grids slot by slot, and the free stretches one after another.
-- Assumes nothing.
use Rattle.std.specs.Prelude.{◌≡◌, List, ℕ, zero, suc, ◌+◌, ◌/◌, ◌≤◌, ◌<◌, leb, ltb, length}
use Rattle.lists.specs.Choices.{pick, both}
use Rattle.lists.specs.Lists.{list_of, over}
use Rattle.endian_rules.specs.Words.{word_at}
use Rattle.endian_rules.specs.declared.Order.{Order}
use Rattle.refusal_rules.specs.Rules.{first_fault, Pass}
use Rattle.grid_rules.specs.Rules.{grid_end, grid_file_rules}
use Rattle.grid_rules.specs.Accepts.{FullSlot}
use Rattle.extent_rules.specs.Stretches.{extent, no_words, extent_end, slot_extent, lowest_free, first_word, run_from, free_stretches}
use Rattle.extent_rules.specs.Rooms.{searched}
use Rattle.extent_rules.specs.declared.Extent.{Extent}
use Rattle.extent_rules.specs.declared.Survey.{Survey}

-- the file, as a GRID file in a byte order, is accepted
abbrev pub GridAccepted : Order → List ℕ → Type 0
GridAccepted o f = first_fault (grid_file_rules (length f) (word_at o f)) ≡ Pass

-- the directory of a file of `len` bytes is inside the file, and so is each grid: what reading its slots asks
pub record SlotsInside (len : ℕ) (w : ℕ → ℕ) : Type 0 where
  pub few : w 10 ≤ 1024
  pub room : 12 + w 10 ≤ len / 4
  pub inside : (k : ℕ) → k < w 10 → FullSlot w k → grid_end w (w (11 + k)) ≤ len / 4

-- the end of a grid of the first k slots that has word p; p where none has it
unfoldable pub past_grid : (ℕ → ℕ) → ℕ → ℕ → ℕ
past_grid w p zero = p
past_grid w p (suc k) = pick (both (leb (slot_extent w k).start p) (ltb p (extent_end (slot_extent w k)))) (extent_end (slot_extent w k)) (past_grid w p k)

-- the lowest start, from p on, of the grids of the first k slots; `whole` where there is none
unfoldable pub next_grid : (ℕ → ℕ) → ℕ → ℕ → ℕ → ℕ
next_grid w whole p zero = whole
next_grid w whole p (suc k) =
    pick (both (ltb 0 (slot_extent w k).length) (both (leb p (slot_extent w k).start) (ltb (slot_extent w k).start (next_grid w whole p k))))
    (slot_extent w k).start
    (next_grid w whole p k)

-- the first run of free words from word p on; no words, at `whole`, where there is none
unfoldable pub run_after : (ℕ → ℕ) → ℕ → ℕ → Extent
run_after w whole p = run_from w whole (lowest_free w whole p)

-- the words before 12 + n, of a file that has them
unfoldable pub directory_extent : Order → List ℕ → Extent
directory_extent o f = pick (leb 44 (length f)) (extent 0 (first_word (word_at o f))) no_words

-- run number i of a file, the runs one after another: the directory for 0, and then each time the first run behind the one before
unfoldable pub nth_run : Order → List ℕ → ℕ → Extent
nth_run o f zero = directory_extent o f
nth_run o f (suc i) = run_after (word_at o f) (length f / 4) (extent_end (nth_run o f i))

-- a table whose first places hold the first `count` runs behind the directory
abbrev pub runs_over : Order → List ℕ → ℕ → List Extent → List Extent
runs_over o f count t = over (list_of (λ i. nth_run o f (suc i)) count) t

-- what a search first fit for so many words finds in such a table, and the table
abbrev pub searched_over : Order → List ℕ → ℕ → ℕ → List Extent → Extent × List Extent
searched_over o f count need t = (searched (runs_over o f count t) need count, runs_over o f count t)

-- how many free stretches a file has, and the last of them; the directory where there is none
unfoldable pub survey : Order → List ℕ → Survey
survey o f =
    record {
      count = length (free_stretches (word_at o f) (length f / 4));
      last = nth_run o f (length (free_stretches (word_at o f) (length f / 4)));
    }
