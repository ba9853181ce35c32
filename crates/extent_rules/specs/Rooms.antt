-- Where so many words find room in a GRID file: document 02, request 5. "The lowest word address at or after 12+n where 64 + rows·columns words lie inside the
-- file and in no grid and end by 2,147,483,647."
-- Assumes nothing.
use Rattle.std.specs.Prelude.{Bool, List, ℕ, zero, suc, ◌+◌, ◌-◌, leb, ltb, get_or}
use Rattle.lists.specs.Choices.{pick, both}
use Rattle.lists.specs.Lowest.{lowest}
use Rattle.extent_rules.specs.Stretches.{no_words, first_word, no_grid_has}
use Rattle.extent_rules.specs.declared.Extent.{Extent}

-- the greatest word at which a grid may end: the next free word is a signed word
abbrev pub last_end : ℕ
last_end = 2147483647

-- whether so many words at address a lie inside the file and in no grid, and end by 2,147,483,647
unfoldable pub fits_at : (ℕ → ℕ) → ℕ → ℕ → ℕ → Bool
fits_at w whole need a = both (leb (a + need) whole) (both (leb (a + need) last_end) (no_grid_has w a (a + need)))

-- the lowest address from 12 + n on at which so many words have room; `whole` where there is none
unfoldable pub lowest_address : (ℕ → ℕ) → ℕ → ℕ → ℕ
lowest_address w whole need = lowest (fits_at w whole need) (first_word w) (whole - first_word w)

-- whether there is an address at which so many words have room
abbrev pub has_room : (ℕ → ℕ) → ℕ → ℕ → Bool
has_room w whole need = ltb (lowest_address w whole need) whole

-- ---- first fit

-- how many places a search of the first `count` places of a table looks at: so many, or all `size` of them where the table has fewer
unfoldable pub lesser : ℕ → ℕ → ℕ
lesser count size = pick (leb count size) count size

-- whether so many words fit into an extent, and end by 2,147,483,647
abbrev pub fits_in : ℕ → Extent → Bool
fits_in need e = both (leb need e.length) (leb (e.start + need) last_end)

-- one step of a search first fit: what was found so far, if something was, else e if so many words fit into it
unfoldable pub first_fitting : ℕ → Extent → Extent → Extent
first_fitting need found e = pick (ltb 0 found.length) found (pick (fits_in need e) e found)

-- the first of a table's first i extents into which so many words fit; no words where there is none
unfoldable pub searched : List Extent → ℕ → ℕ → Extent
searched t need zero = no_words
searched t need (suc i) = first_fitting need (searched t need i) (get_or t i no_words)
