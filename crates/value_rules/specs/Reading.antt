-- The single read of a value: document 01, "What comes back". It refuses 9 exactly where the layout is stale; then 7 for its kind; then, where a band is
-- named, 4 at 19; then the other 7s.
-- Assumes nothing.
use Rattle.std.specs.Prelude.{List, ℕ, ℤ}
use Rattle.endian_rules.specs.Numbers.{number_at}
use Rattle.endian_rules.specs.Words.{signed_at}
use Rattle.refusal_rules.specs.Answers.{Answer, mapped}
use Rattle.refusal_rules.specs.declared.Place.{Place}
use Rattle.layout_rules.specs.Layouts.{layout_order}
use Rattle.layout_rules.specs.Found.{found}
use Rattle.layout_rules.specs.declared.Layout.{Layout}
use Rattle.area_rules.specs.declared.SlotOrBand.{SlotOrBand}
use Rattle.value_rules.specs.Places.{place_of}
use Rattle.value_rules.specs.declared.ValueName.{ValueName}
use Rattle.value_rules.specs.declared.ValueName.TheVariants.{Sample, Point, Field}

-- the place of a named value in a file, or the refusal: 9 where the layout is stale, then that of the place by the layout
abbrev pub place_in : List ℕ → Layout → ValueName → Answer Place
place_in f l x = found (λ m. place_of m x) f l

-- what the single read of a sample answers: the number at its place, "unsigned, W11 bytes in the file's order"
unfoldable pub read_sample : List ℕ → Layout → ℕ → ℕ → SlotOrBand → Answer ℕ
read_sample f l i e b = mapped (λ p. number_at (layout_order l) p.width f p.address) (place_in f l (Sample i e b))

-- the name is that of a value that is a signed word: a point or a field
abbrev pub IsWord : ValueName → Type 0
IsWord (Sample i e b) = ⊥
IsWord (Point r c) = Unit {0}
IsWord (Field r c k) = Unit {0}

-- what the single read of a value that is a signed word answers
unfoldable pub read_word : List ℕ → Layout → ValueName → Answer ℤ
read_word f l x = mapped (λ p. signed_at (layout_order l) f p.address) (place_in f l x)

-- what the single read of a point of a grid answers
abbrev pub read_point : List ℕ → Layout → ℕ → ℕ → Answer ℤ
read_point f l r c = read_word f l (Point r c)

-- what the single read of a field of an MD file answers
abbrev pub read_field : List ℕ → Layout → ℕ → ℕ → ℕ → Answer ℤ
read_field f l r c k = read_word f l (Field r c k)
