-- The definitions, computed on a few bytes.
-- Assumes nothing.
use mathlib.Core.Path.{◌≡◌, refl}
use mathlib.Core.List.{List, [], ◌∷◌}
use Prim.Native.Nat.{ℕ}
use lib.IntN.{negsuc}
use lib.Seq.{sets}
use Rattle.endian_rules.specs.Numbers.{value, digits, decode, encode, number_at}
use Rattle.endian_rules.specs.Words.{signed_at, encode_signed}
use Rattle.endian_rules.specs.declared.Order.TheVariants.{Big, Little}

abbrev bytes : List ℕ
bytes = 0 ∷ 1 ∷ 2 ∷ 3 ∷ 4 ∷ 255 ∷ 255 ∷ 255 ∷ 254 ∷ []

big_word : number_at Big 4 bytes 1 ≡ 0x01020304
unfolding number_at decode value
big_word = refl

little_word : number_at Little 4 bytes 1 ≡ 0x04030201
unfolding number_at decode value
little_word = refl

big_half : number_at Big 2 bytes 3 ≡ 0x0304
unfolding number_at decode value
big_half = refl

minus_two : signed_at Big bytes 5 ≡ negsuc 1
unfolding number_at decode value
minus_two = refl

written : sets bytes 0 (encode Little 2 0x0a0b) ≡ 0x0b ∷ 0x0a ∷ 2 ∷ 3 ∷ 4 ∷ 255 ∷ 255 ∷ 255 ∷ 254 ∷ []
unfolding encode digits
written = refl

written_signed : sets bytes 1 (encode_signed Big (negsuc 0)) ≡ 0 ∷ 255 ∷ 255 ∷ 255 ∷ 255 ∷ 255 ∷ 255 ∷ 255 ∷ 254 ∷ []
unfolding encode digits
written_signed = refl
