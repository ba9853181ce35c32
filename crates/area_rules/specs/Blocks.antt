-- The blocks of an AREA file, and the regions of a line prefix: document 01, "AREA", and for the padding document 02, request 4. How far NAV, CAL and AUX
-- run is ruled in document 01: "The directory gives no lengths: each runs to the next greater start among the present NAV, CAL, AUX and DATA, or else to the
-- end of the file."
-- Assumes nothing.
use Rattle.std.specs.Prelude.{◌≡◌, Bool, true, not, ◌⊎◌, List, [], ◌∷◌, ◌++◌, ℕ, ◌+◌, ◌-◌, ◌≤◌, ◌<◌, ltb, eqb}
use Rattle.lists.specs.Choices.{pick, both}
use Rattle.lists.specs.Segments.{segment_length, segment_offset}
use Rattle.area_rules.specs.Lines.{given_regions}
use Rattle.area_rules.specs.Samples.{line_start, data_end_in, audit_end_in}
use Rattle.area_rules.specs.declared.AreaLayout.{AreaLayout}
use Rattle.area_rules.specs.declared.Block.{Block}
use Rattle.area_rules.specs.declared.Block.TheVariants.{Dir, Nav, Cal, Aux, Data, Audit}
use Rattle.area_rules.specs.declared.Region.{Region}
use Rattle.area_rules.specs.declared.Region.TheVariants.{Validity, Documentation, Calibration, BandList, Padding}

-- ---- blocks

-- the byte at which a block starts; 0 for a NAV, CAL or AUX that is absent
abbrev pub block_start : AreaLayout → Block → ℕ
block_start a Dir = 0
block_start a Nav = a.nav
block_start a Cal = a.cal
block_start a Aux = a.aux
block_start a Data = a.data_start
block_start a Audit = data_end_in a

-- whether a file of the layout has a block: "0 means none"; AUDIT is "absent if W64 is 0"
abbrev pub block_present : AreaLayout → Block → Bool
block_present a Dir = true
block_present a Nav = not (eqb a.nav 0)
block_present a Cal = not (eqb a.cal 0)
block_present a Aux = not (eqb a.aux 0)
block_present a Data = true
block_present a Audit = not (eqb a.cards 0)

-- the start s where it is greater than x and before n, else n: one step of the search for the next greater start
abbrev pub nearer_start : ℕ → ℕ → ℕ → ℕ
nearer_start x s n = pick (both (ltb x s) (ltb s n)) s n

-- the least of the starts that are greater than x, or else `end`
unfoldable pub next_start : ℕ → ℕ → List ℕ → ℕ
next_start x end [] = end
next_start x end (s ∷ starts) = nearer_start x s (next_start x end starts)

-- the starts of NAV, CAL, AUX and DATA; one that is absent, 0, is greater than no start
abbrev pub block_starts : AreaLayout → List ℕ
block_starts a = a.nav ∷ a.cal ∷ a.aux ∷ a.data_start ∷ []

-- a number is one of a list
abbrev pub Among : ℕ → List ℕ → Type 0
Among s [] = ⊥
Among s (x ∷ xs) = (s ≡ x) ⊎ Among s xs

-- the byte after a block
abbrev pub block_end : AreaLayout → Block → ℕ
block_end a Dir = 256
block_end a Nav = next_start a.nav a.length (block_starts a)
block_end a Cal = next_start a.cal a.length (block_starts a)
block_end a Aux = next_start a.aux a.length (block_starts a)
block_end a Data = data_end_in a
block_end a Audit = audit_end_in a

-- a block that starts at x runs to n, in document 01's words: "to the next greater start among the present NAV, CAL, AUX and DATA, or else to the end of the
-- file"
pub record BlockRunsTo (a : AreaLayout) (x n : ℕ) : Type 0 where
  pub greater : x < n
  pub start : Among n (block_starts a) ⊎ (n ≡ a.length)
  pub next : (s : ℕ) → Among s (block_starts a) → x < s → n ≤ s
  pub inside : n ≤ a.length

-- how many bytes a block has
abbrev pub block_length : AreaLayout → Block → ℕ
block_length a b = block_end a b - block_start a b

-- ---- regions of a line prefix

-- the lengths of the regions of a line prefix, in their order; the last is the padding: "behind the band list", and "handed back like a region" (document 02,
-- request 4)
abbrev pub region_lengths : AreaLayout → List ℕ
region_lengths a = given_regions a.no_validity_code a.documentation a.calibration a.band_list ++ a.padding ∷ []

-- the place of a region in the list of lengths, counted from 0
abbrev pub region_index : Region → ℕ
region_index Validity = 0
region_index Documentation = 1
region_index Calibration = 2
region_index BandList = 3
region_index Padding = 4

-- how many bytes a region of a line prefix has
abbrev pub region_length : AreaLayout → Region → ℕ
region_length a r = segment_length (region_lengths a) (region_index r)

-- how many bytes the regions before a region have
abbrev pub region_offset : AreaLayout → Region → ℕ
region_offset a r = segment_offset (region_lengths a) (region_index r)

-- the byte at which a region of the prefix of line l starts
abbrev pub region_start : AreaLayout → ℕ → Region → ℕ
region_start a l r = line_start a l + region_offset a r
