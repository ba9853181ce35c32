-- Opening an AREA file reads its length and its first 256 bytes, and nothing else.
-- Assumes nothing.
use mathlib.Core.Path.{◌≡◌, sym, ap, ap₂, ◌∙◌}
use mathlib.Core.List.{List}
use Prim.Native.Nat.{ℕ, ◌*◌, ◌<◌}
use native.Mathlib.Omega.{arith}
use native.Mathlib.Nat.{zero-add}
use lib.Dec.{leb}
use lib.ListN.{length, get_or, take, length-take}
use Rattle.lists.proofs.Parts.{part-same}
use Rattle.lists.proofs.Built.{list_of-same}
use Rattle.endian_rules.specs.Numbers.{number_at}
use Rattle.endian_rules.specs.Words.{word_at}
use Rattle.endian_rules.specs.declared.Order.{Order}
use Rattle.endian_rules.specs.declared.Order.TheVariants.{Big, Little}
use Rattle.endian_rules.proofs.Places.{number-part}
use Rattle.refusal_rules.proofs.Exactness.{le_exactly, exactly_same, iff_exactly}
use Rattle.area_rules.specs.Rules.{directory_of, area_order, area_rules}
use Rattle.area_rules.specs.Opening.{open_area_told, open_area}

-- a word of the directory is in the first 256 bytes
word_front : (o : Order) (d : List ℕ) (k : ℕ) → k < 64 → word_at o (take 256 d) k ≡ word_at o d k
unfolding word_at
word_front o d k h = number-part o 4 d 0 256 (4 * k) (omega arith) ∙ ap (number_at o 4 d) (zero-add (4 * k))

directory_front : (o : Order) (d : List ℕ) → directory_of o (take 256 d) ≡ directory_of o d
unfolding directory_of
directory_front o d = list_of-same (word_at o (take 256 d)) (word_at o d) 64 (λ k h. word_front o d k h)

length_front : (d : List ℕ) → leb 256 (length (take 256 d)) ≡ leb 256 (length d)
length_front d =
    exactly_same (le_exactly 256 (length (take 256 d)))
    (iff_exactly (
      λ e. omega (arith, length-take 256 d, (le_exactly 256 (length d)).sound e),
      λ h. (le_exactly 256 (length d)).complete (omega (arith, length-take 256 d, h)),
    ))

-- no byte after the first 256 is read
pub told_front : (told : ℕ) (d : List ℕ) → open_area_told told (take 256 d) ≡ open_area_told told d
unfolding open_area_told area_rules
told_front told d =
    rw (length_front d, word_front Big d 1 (omega arith), word_front Little d 1 (omega arith), directory_front (area_order d) d)

-- two files of the same length that agree on their first 256 bytes open alike
pub area_footprint : (f g : List ℕ) → length f ≡ length g → ((i : ℕ) → i < 256 → get_or f i 0 ≡ get_or g i 0) → open_area f ≡ open_area g
unfolding open_area
area_footprint f g e h =
    sym (told_front (length f) f)
    ∙ ap₂ open_area_told e (part-same 0 256 f g 0 e (λ i low lt. h i lt))
    ∙ told_front (length g) g
