-- Opening reads a file's length and its first 64 words, and nothing else: with every other word taken as 0 it computes the same.
-- Assumes nothing.
use mathlib.Core.Path.{◌≡◌, refl, ap, ◌∙◌}
use mathlib.Core.List.{List}
use Prim.Native.Nat.{ℕ, ◌*◌, ◌<◌}
use native.Mathlib.Omega.{arith}
use lib.Dec.{ltb}
use lib.ListN.{length, get_or}
use borrow.Author.Tests.{ltb-true}
use Rattle.lists.specs.Choices.{pick}
use Rattle.lists.proofs.Choices.{pick-same}
use Rattle.endian_rules.specs.Words.{word_at}
use Rattle.endian_rules.specs.declared.Order.{Order}
use Rattle.endian_rules.proofs.Places.{number-same}
use Rattle.md_rules.specs.Rules.{md_count_rules, md_sum_rules, md_fixed_rules, md_end_rules, md_rules}
use Rattle.md_rules.specs.Opening.{md_layout_of, open_md_words, open_md}

-- the first 64 words, and 0 for every other
abbrev front : (ℕ → ℕ) → ℕ → ℕ
front w k = pick (ltb k 64) (w k) 0

front_same : (w v : ℕ → ℕ) → ((k : ℕ) → k < 64 → w k ≡ v k) → (k : ℕ) → front w k ≡ front v k
front_same w v h k = pick-same (ltb k 64) (w k) (v k) 0 0 (λ t. h k (ltb-true k 64 t)) (λ t. refl)

-- words that agree below 64 open alike
pub words_footprint : (o : Order) (len : ℕ) (w v : ℕ → ℕ) → ((k : ℕ) → k < 64 → w k ≡ v k) → open_md_words o len w ≡ open_md_words o len v
unfolding open_md_words md_rules md_count_rules md_sum_rules md_fixed_rules md_end_rules md_layout_of
words_footprint o len w v h = λ i. open_md_words o len (λ k. front_same w v h k i)

-- two files of the same length that agree on their first 256 bytes open alike, in either order
pub md_footprint : (o : Order) (f g : List ℕ) → length f ≡ length g → ((i : ℕ) → i < 256 → get_or f i 0 ≡ get_or g i 0) → open_md o f ≡ open_md o g
unfolding open_md word_at
md_footprint o f g e h =
    ap (λ (n : ℕ). open_md_words o n (word_at o f)) e
    ∙ words_footprint o (length g) (word_at o f) (word_at o g) (λ k lt. number-same o 4 f g (4 * k) e (λ i low high. h i (omega arith)))
