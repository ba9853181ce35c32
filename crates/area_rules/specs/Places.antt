-- Where the lines and samples of an AREA file lie, by a layout alone: the addresses of document 01, "AREA", and its refusals in the order of "What comes
-- back": where a band is named, 4 at 19; then 7. That the layout is the one of the file (9), and its kind (7), are judged before.
-- Assumes nothing.
use Rattle.std.specs.Prelude.{List, [], ◌∷◌, ℕ, ◌*◌, ltb}
use Rattle.refusal_rules.specs.Answers.{Answer, answered, mapped, and_then, place}
use Rattle.refusal_rules.specs.Rules.{Rule, rule, first_fault}
use Rattle.refusal_rules.specs.declared.Place.{Place}
use Rattle.area_rules.specs.Samples.{line_length_in, line_start, sample_address}
use Rattle.area_rules.specs.declared.AreaLayout.{AreaLayout}
use Rattle.area_rules.specs.Bands.{slot_of}
use Rattle.area_rules.specs.declared.SlotOrBand.{SlotOrBand}
use Rattle.area_rules.specs.Bounds.{area_bounded}

-- how many bytes a line has by a layout, or 7 where the layout is above the bounds of opening
unfoldable pub length_of_line : AreaLayout → Answer ℕ
length_of_line a = answered (first_fault (rule (area_bounded a) 7 0 ∷ [])) (line_length_in a)

-- how many bytes DATA has by a layout, which "has W9 lines"; refused as the length of a line is
unfoldable pub length_of_data : AreaLayout → Answer ℕ
length_of_data a = mapped (λ line. a.lines * line) (length_of_line a)

-- the rules of the start of line l: 7 where there is no such line
unfoldable pub line_rules : AreaLayout → ℕ → List Rule
line_rules a l = rule (area_bounded a) 7 0 ∷ rule (ltb l a.lines) 7 0 ∷ []

-- the byte at which line l begins, or the refusal
unfoldable pub line_start_of : AreaLayout → ℕ → Answer ℕ
line_start_of a l = answered (first_fault (line_rules a l)) (line_start a l)

-- the rules of a sample of line l and element e: 7 where there is no such line or element
unfoldable pub sample_rules : AreaLayout → ℕ → ℕ → List Rule
sample_rules a l e =
    rule (area_bounded a) 7 0
    ∷ rule (ltb l a.lines) 7 0
    ∷ rule (ltb e a.elements) 7 0
    ∷ []

-- the place of the sample of line l, element e and a slot or band b, W11 bytes, or the refusal: first that of the slot or band (4 at 19, 7), then 7 where there is
-- no such line or element
unfoldable pub sample_place : AreaLayout → ℕ → ℕ → SlotOrBand → Answer Place
sample_place a l e b = and_then (slot_of a b) (λ s. answered (first_fault (sample_rules a l e)) (place (sample_address a l e s) a.width))
