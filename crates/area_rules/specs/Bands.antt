-- The band map of an AREA file, and the slot of a band: document 01, "AREA". "Slot" is document 01's term: the place of a band within each element.
-- Assumes nothing.
use Rattle.std.specs.Prelude.{Bool, List, [], ◌∷◌, ℕ, zero, suc, ◌+◌, ◌-◌, ◌/◌, ◌%◌, ◌^◌, leb, ltb, eqb}
use Rattle.lists.specs.Choices.{pick, both}
use Rattle.refusal_rules.specs.Answers.{Answer, answered}
use Rattle.refusal_rules.specs.Rules.{Rule, rule, first_fault}
use Rattle.refusal_rules.specs.Tests.{within}
use Rattle.area_rules.specs.declared.AreaLayout.{AreaLayout}
use Rattle.area_rules.specs.declared.SlotOrBand.{SlotOrBand}
use Rattle.area_rules.specs.declared.SlotOrBand.TheVariants.{Slot, Band}

-- bit i of a word, 0 or 1, the least significant counted as 0
abbrev pub bit_of : ℕ → ℕ → ℕ
bit_of n i = n / 2 ^ i % 2

-- Bit i of the band map: "Band b lies at bit b-1 of W19 for 1 to 32, and at bit b-33 of W20 for 33 to 64". Band b has bit b - 1 of the whole map; W20 is given
-- as it counts.
unfoldable pub map_bit : ℕ → ℕ → ℕ → ℕ
map_bit w19 w20 i = pick (ltb i 32) (bit_of w19 i) (bit_of w20 (i - 32))

-- W20 as it counts in a band map of W14 bands: "W20 counting only if W14 is above 32". Where it does not count, no bit of it is set.
abbrev pub second_map : ℕ → ℕ → ℕ
second_map w14 w20 = pick (leb w14 32) 0 w20

-- how many of the bits of the band map below bit n are set
unfoldable pub set_below : ℕ → ℕ → ℕ → ℕ
set_below w19 w20 zero = 0
set_below w19 w20 (suc n) = set_below w19 w20 n + map_bit w19 w20 n

-- whether a band map is usable: "only if it has as many set bits as W14"
abbrev pub map_usable : ℕ → ℕ → ℕ → Bool
map_usable w19 w20 w14 = eqb (set_below w19 w20 64) w14

-- whether a band map has band b
abbrev pub has_band : ℕ → ℕ → ℕ → Bool
has_band w19 w20 b = both (within 1 64 b) (eqb (map_bit w19 w20 (b - 1)) 1)

-- the rules of a call that names band b: 4 at 19 where the band map is unusable, then 7 where it has no such band
unfoldable pub band_rules : ℕ → ℕ → ℕ → ℕ → List Rule
band_rules w19 w20 w14 b = rule (map_usable w19 (second_map w14 w20) w14) 4 19 ∷ rule (has_band w19 (second_map w14 w20) b) 7 0 ∷ []

-- the slot of band b: "the slot is the number of set bits below b's own"
unfoldable pub band_slot : ℕ → ℕ → ℕ → ℕ → Answer ℕ
band_slot w19 w20 w14 b = answered (first_fault (band_rules w19 w20 w14 b)) (set_below w19 (second_map w14 w20) (b - 1))

-- the slot that a caller means who names a slot or a band: a slot is one of the W14 slots of an element, and "a band stands for its slot"
abbrev pub slot_of : AreaLayout → SlotOrBand → Answer ℕ
slot_of a (Slot s) = answered (first_fault (rule (ltb s a.bands) 7 0 ∷ [])) s
slot_of a (Band b) = band_slot a.map a.map2 a.bands b
