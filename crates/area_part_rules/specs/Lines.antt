-- The slot of a band, and one slot of one line of an AREA file: document 01, "AREA" and "What comes back". Each call refuses 9, then 7 for the kind, then 4 at
-- 19 where a band is named and the band map is unusable, then the other 7s.
-- Assumes nothing.
use Rattle.std.specs.Prelude.{List, [], ◌∷◌, ℕ, ltb}
use Rattle.lists.specs.Lists.{list_of}
use Rattle.endian_rules.specs.Numbers.{number_at}
use Rattle.refusal_rules.specs.Answers.{Answer, answered, and_then}
use Rattle.refusal_rules.specs.Rules.{rule, first_fault}
use Rattle.area_rules.specs.Samples.{sample_address}
use Rattle.area_rules.specs.declared.AreaLayout.{AreaLayout}
use Rattle.layout_rules.specs.Found.{area_of}
use Rattle.layout_rules.specs.declared.Layout.{Layout}
use Rattle.area_rules.specs.Bands.{slot_of}
use Rattle.area_rules.specs.declared.SlotOrBand.{SlotOrBand}
use Rattle.area_rules.specs.declared.SlotOrBand.TheVariants.{Band}
use Rattle.copy_rules.specs.Runs.{copied}

-- the slot of band b of a file, or the refusal
abbrev pub band_slot_in : List ℕ → Layout → ℕ → Answer ℕ
band_slot_in f l b = and_then (area_of f l) (λ a. slot_of a (Band b))

-- the samples of slot s of line l, element by element: "One slot of one line copies into a lent buffer of 32-bit unsigned numbers, W10 of them."
unfoldable pub slot_line : List ℕ → AreaLayout → ℕ → ℕ → List ℕ
slot_line f a l s = list_of (λ e. number_at a.order a.width f (sample_address a l e s)) a.elements

-- the samples of a slot or band b of line l of an accepted file, or the refusal: first that of the slot or band, then 7 where there is no such line
unfoldable pub line_in : List ℕ → AreaLayout → ℕ → SlotOrBand → Answer (List ℕ)
line_in f a l b = and_then (slot_of a b) (λ s. answered (first_fault (rule (ltb l a.lines) 7 0 ∷ [])) (slot_line f a l s))

-- the samples of a slot or band b of line i of any file with a layout l, or the refusal
abbrev pub line_of : List ℕ → Layout → ℕ → SlotOrBand → Answer (List ℕ)
line_of f l i b = and_then (area_of f l) (λ a. line_in f a i b)

-- what copying a slot or band of a line into a lent output answers and leaves: after the refusals of the line, 10 where the output is too short
abbrev pub copy_line : List ℕ → Layout → ℕ → SlotOrBand → List ℕ → Answer ℕ × List ℕ
copy_line f l i b out = copied (line_of f l i b) out
