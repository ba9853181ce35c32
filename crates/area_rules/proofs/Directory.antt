-- What opening answers where the length and W2 are as they must be, or are not.
-- Assumes nothing.
use mathlib.Core.Path.{◌≡◌}
use mathlib.Core.List.{List}
use Prim.Native.Nat.{ℕ, ◌≤◌, ◌<◌}
use lib.ListN.{length}
use borrow.Author.Tests.{le-leb, lt-leb, eq-eqb, ne_eqb}
use Rattle.endian_rules.specs.Words.{word_at}
use Rattle.endian_rules.specs.declared.Order.TheVariants.{Big, Little}
use Rattle.refusal_rules.specs.Rules.{judge, first, first_fault}
use Rattle.refusal_rules.specs.Answers.{refuses}
use Rattle.area_rules.specs.Rules.{directory_of, word_in, area_rules}
use Rattle.area_rules.specs.Opening.{open_area_words, open_area_told}

-- ---- opening, by how far the first checks come

module _ (told : ℕ) (d : List ℕ) where
  -- the file is too short
  pub short_file : told < 256 → open_area_told told d ≡ refuses 1 0
  unfolding open_area_told area_rules first_fault first judge
  short_file h = rw (lt-leb 256 told h)

  -- too few of its bytes are at hand
  pub short_directory : 256 ≤ told → length d < 256 → open_area_told told d ≡ refuses 1 0
  unfolding open_area_told area_rules first_fault first judge
  short_directory h k = rw (le-leb 256 told h, lt-leb 256 (length d) k)

  module _ (h : 256 ≤ told) (k : 256 ≤ length d) where
    -- word 2 reads 4 in big order
    pub opens_big : word_at Big d 1 ≡ 4 → open_area_told told d ≡ open_area_words Big told (word_in (directory_of Big d))
    unfolding open_area_told area_rules open_area_words first_fault first judge
    opens_big e = rw (le-leb 256 told h, le-leb 256 (length d) k, eq-eqb (word_at Big d 1) 4 e)

    -- in little order, but not in big order
    pub opens_little : ¬ (word_at Big d 1 ≡ 4) → word_at Little d 1 ≡ 4 → open_area_told told d ≡ open_area_words Little told (word_in (directory_of Little d))
    unfolding open_area_told area_rules open_area_words first_fault first judge
    opens_little n e = rw (le-leb 256 told h, le-leb 256 (length d) k, ne_eqb (word_at Big d 1) 4 n, eq-eqb (word_at Little d 1) 4 e)

    -- in neither
    pub opens_neither : ¬ (word_at Big d 1 ≡ 4) → ¬ (word_at Little d 1 ≡ 4) → open_area_told told d ≡ refuses 2 2
    unfolding open_area_told area_rules first_fault first judge
    opens_neither n m = rw (le-leb 256 told h, le-leb 256 (length d) k, ne_eqb (word_at Big d 1) 4 n, ne_eqb (word_at Little d 1) 4 m)
