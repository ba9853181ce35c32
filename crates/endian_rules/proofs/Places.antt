-- Laws of a number at a place of a file, and of a number that is written there, each over the order and the width. Reading 1, 2 and 4 bytes in either order
-- rests on `number-sum`.
-- Assumes nothing.
use mathlib.Core.Path.{◌≡◌, refl, sym, ap, subst, ◌∙◌}
use mathlib.Core.Logic.{inl, inr, ⊎_elim}
use mathlib.Core.List.{List, [], ◌∷◌, ◌++◌, reverse, reverse-append}
use Prim.Native.Nat.{ℕ, suc, ◌+◌, ◌-◌, ◌*◌, ◌/◌, ◌%◌, ◌^◌, ◌≤◌, ◌<◌}
use native.Mathlib.Nat.{add-zero, div-div-eq-div-mul, lt_of_lt_of_le, pow-le-pow_right, pow-suc}
use native.Mathlib.Numerals.{add-one}
use native.Mathlib.Omega.{arith}
use lib.Dec.{lit<}
use lib.ListN.{length, get_or, set, take, drop, length-take}
use lib.Seq.{sets, length-sets, drop-drop}
use Rattle.lists.specs.Lists.{Outside, Apart, part}
use Rattle.lists.proofs.Parts.{length-part, get_or-part, part_suc, part-part, part_left, part_right, part-same, part_agree}
use Rattle.lists.proofs.Stores.{Where, inside, outside, where_is, sets-outside, sets-inside, part_stored, part-apart, set-sets, sets-append, sets_comm, sets_last}
use Rattle.lists.proofs.Rows.{compared}
use Rattle.endian_rules.specs.Numbers.{value, digits, position, decode, encode, digits_at, with_byte, number_at, Bytes}
use Rattle.endian_rules.specs.Words.{word_at, order_number}
use Rattle.endian_rules.specs.declared.Order.{Order}
use Rattle.endian_rules.specs.declared.Order.TheVariants.{Big, Little}
use Rattle.endian_rules.proofs.Numbers.{sum_of_powers, value-sum, length-ordered, bytes_of_lem, length-digits, digits_more, length-encode, encode_bytes, decode-encode, decode-encode_low, decode_bound, decode_more}

-- ---- a number that is read

-- The number is the sum of its digits, each times its power of 256. The sum may have more digits than the number has bytes: those that are not there count 0.
-- The read of every width in either order rests on this.
pub number-sum : (o : Order) (w : ℕ) (f : List ℕ) (at n : ℕ) → w ≤ n → number_at o w f at ≡ sum_of_powers (λ k. get_or (digits_at o w f at) k 0) n
unfolding number_at decode
number-sum o w f at n h =
    value-sum (digits_at o w f at) n (omega (arith, length-ordered o (part at w f), length-take w (drop at f)))

four_bytes : (a b c d : ℕ) → decode Big (a ∷ b ∷ c ∷ d ∷ []) ≤ 65535 → decode Little (a ∷ b ∷ c ∷ d ∷ []) ≤ 65535
    → decode Big (a ∷ b ∷ c ∷ d ∷ []) ≡ 0
unfolding decode value
four_bytes a b c d big little =
    let first : a ≡ 0 = omega (arith, big) in
    let second : b ≡ 0 = omega (arith, big) in
    let third : c ≡ 0 = omega (arith, little) in
    let fourth : d ≡ 0 = omega (arith, little) in
    rw (first, second, third, fourth)

part_bytes : (at w : ℕ) (f : List ℕ) → Bytes f → Bytes (part at w f)
part_bytes at w f h =
    bytes_of_lem (part at w f) (λ i lt. rw (get_or-part at w f i 0 (omega (arith, length-take w (drop at f)))) (h (at + i)))

-- a number of w bytes is below 256 ^ w
pub number_bound : (o : Order) (w : ℕ) (f : List ℕ) (at : ℕ) → Bytes f → number_at o w f at < 256 ^ w
unfolding number_at
number_bound o w f at h =
    lt_of_lt_of_le (decode_bound o (part at w f) (part_bytes at w f h))
    (pow-le-pow_right {n = 256} (lit< tt) (omega (arith, length-take w (drop at f))))

-- a number of at most four bytes fits 32 bits
pub number-fits : (o : Order) (w : ℕ) (f : List ℕ) (at : ℕ) → Bytes f → w ≤ 4 → number_at o w f at < 2 ^ 32
number-fits o w f at h l = lt_of_lt_of_le (number_bound o w f at h) (pow-le-pow_right {n = 256} (lit< tt) l)

-- two files that agree on a number's bytes have the same number there, if they are equally long
pub number-same : (o : Order) (w : ℕ) (f g : List ℕ) (at : ℕ) → length f ≡ length g
    → ((i : ℕ) → at ≤ i → i < at + w → get_or f i 0 ≡ get_or g i 0) → number_at o w f at ≡ number_at o w g at
unfolding number_at
number-same o w f g at e h = ap (decode o) (part-same at w f g 0 e h)

-- or the number is inside both
pub number_agree : (o : Order) (w : ℕ) (f g : List ℕ) (at : ℕ) → at + w ≤ length f → at + w ≤ length g
    → ((i : ℕ) → at ≤ i → i < at + w → get_or f i 0 ≡ get_or g i 0) → number_at o w f at ≡ number_at o w g at
unfolding number_at
number_agree o w f g at p q h = ap (decode o) (part_agree at w f g 0 p q h)

-- one byte more
pub number_more : (o : Order) (w : ℕ) (f : List ℕ) (at : ℕ) → at + w < length f
    → number_at o (suc w) f at ≡ with_byte o w (number_at o w f at) (get_or f (at + w) 0)
unfolding number_at
number_more o w f at h =
    ap (decode o) (part_suc at w f 0 h)
    ∙ decode_more o (part at w f) (get_or f (at + w) 0)
    ∙ ap (λ (x : ℕ). with_byte o x (decode o (part at w f)) (get_or f (at + w) 0)) (length-part at w f (omega arith))

-- a number in a part of a file
pub number-part : (o : Order) (w : ℕ) (f : List ℕ) (a n at : ℕ) → at + w ≤ n → number_at o w (part a n f) at ≡ number_at o w f (a + at)
unfolding number_at
number-part o w f a n at h = ap (decode o) (part-part a n at w f h)

-- in the rest of a file
pub number-drop : (o : Order) (w : ℕ) (f : List ℕ) (a at : ℕ) → number_at o w (drop a f) at ≡ number_at o w f (a + at)
unfolding number_at
number-drop o w f a at = ap (λ (l : List ℕ). decode o (take w l)) (drop-drop at a f)

-- in the first of two files that are joined
pub number_left : (o : Order) (w : ℕ) (f g : List ℕ) (at : ℕ) → at + w ≤ length f → number_at o w (f ++ g) at ≡ number_at o w f at
unfolding number_at
number_left o w f g at h = ap (decode o) (part_left at w f g h)

-- in the second
pub number_right : (o : Order) (w : ℕ) (f g : List ℕ) (at : ℕ) → number_at o w (f ++ g) (length f + at) ≡ number_at o w g at
unfolding number_at
number_right o w f g at = ap (decode o) (part_right at w f g)

-- ---- the words of a file

-- the word k is the number of four bytes at byte 4·k
pub word_number : (o : Order) (f : List ℕ) (k : ℕ) → word_at o f k ≡ number_at o 4 f (4 * k)
unfolding word_at
word_number o f k = refl

-- it fits 32 bits
pub word_fits : (o : Order) (f : List ℕ) (k : ℕ) → Bytes f → word_at o f k < 2 ^ 32
unfolding word_at
word_fits o f k h = number_bound o 4 f (4 * k) h

-- two words that are not the same share no byte
pub words-apart : (k m : ℕ) → ¬ (k ≡ m) → Apart (4 * k) 4 (4 * m) 4
words-apart k m other =
    ⊎_elim (λ e. absurd (other e)) (⊎_elim (λ l. inl (omega arith)) (λ l. inr (omega arith))) (compared k m)

-- four bytes that stand for at most 65,535 in either order stand for 0
pub two_orders : (f : List ℕ) (at : ℕ) → at + 4 ≤ length f → number_at Big 4 f at ≤ 65535 → number_at Little 4 f at ≤ 65535 → number_at Big 4 f at ≡ 0
unfolding number_at
two_orders f at fits = step (part at 4 f) (length-part at 4 f fits)
  where
    step : (l : List ℕ) → length l ≡ 4 → decode Big l ≤ 65535 → decode Little l ≤ 65535 → decode Big l ≡ 0
    step (a ∷ b ∷ c ∷ d ∷ []) e big little = four_bytes a b c d big little
    step [] e big little = let z : ⊥ = omega arith in absurd z
    step (a ∷ []) e big little = let z : ⊥ = omega arith in absurd z
    step (a ∷ b ∷ []) e big little = let z : ⊥ = omega arith in absurd z
    step (a ∷ b ∷ c ∷ []) e big little = let z : ⊥ = omega arith in absurd z
    step (a ∷ b ∷ c ∷ d ∷ x ∷ l) e big little = let z : ⊥ = omega arith in absurd z

-- so no word of a file reads as the same small number, other than 0, in both
pub one_order : (f : List ℕ) (k m n : ℕ) → 4 * k + 4 ≤ length f → word_at Big f k ≡ m → word_at Little f k ≡ n → 1 ≤ m → m ≤ 65535 → n ≤ 65535 → ⊥
unfolding word_at
one_order f k m n fits big little low high most =
    omega (arith, two_orders f (4 * k) fits (rw big high) (rw little most))

-- two orders with one number are the same
pub order-same : (a b : Order) → order_number a ≡ order_number b → a ≡ b
order-same Big Big e = refl
order-same Big Little e = let z : ⊥ = omega arith in absurd z
order-same Little Big e = let z : ⊥ = omega arith in absurd z
order-same Little Little e = refl

-- ---- a number that is written

-- where the bytes of a number stand, the number is read
pub number_held : (o : Order) (w : ℕ) (f : List ℕ) (at n : ℕ) → part at w f ≡ encode o w n → n < 256 ^ w → number_at o w f at ≡ n
unfolding number_at
number_held o w f at n e h = ap (decode o) e ∙ decode-encode o w n h

written_part : (o : Order) (w : ℕ) (f : List ℕ) (at n : ℕ) → at + w ≤ length f → part at w (sets f at (encode o w n)) ≡ encode o w n
written_part o w f at n h =
    subst (λ (x : ℕ). part at x (sets f at (encode o w n)) ≡ encode o w n) (length-encode o w n)
    (part_stored (encode o w n) f at 0 (rw (length-encode o w n) h))

-- a number that fits is read back
pub read_back_lem : (o : Order) (w : ℕ) (f : List ℕ) (at n : ℕ) → at + w ≤ length f → n < 256 ^ w
    → number_at o w (sets f at (encode o w n)) at ≡ n
read_back_lem o w f at n h l = number_held o w (sets f at (encode o w n)) at n (written_part o w f at n h) l

-- of any number the low w bytes are read back
pub read_back_low : (o : Order) (w : ℕ) (f : List ℕ) (at n : ℕ) → at + w ≤ length f
    → number_at o w (sets f at (encode o w n)) at ≡ n % 256 ^ w
unfolding number_at
read_back_low o w f at n h = ap (decode o) (written_part o w f at n h) ∙ decode-encode_low o w n

-- a byte elsewhere is as it was
pub byte_frame : (o : Order) (w : ℕ) (f : List ℕ) (at n i : ℕ) → Outside i at w → get_or (sets f at (encode o w n)) i 0 ≡ get_or f i 0
byte_frame o w f at n i h = sets-outside (encode o w n) f at i 0 (rw (length-encode o w n) h)

-- a number elsewhere is as it was
pub number_frame : (o p : Order) (w v : ℕ) (f : List ℕ) (at n b : ℕ) → Apart b v at w
    → number_at p v (sets f at (encode o w n)) b ≡ number_at p v f b
unfolding number_at
number_frame o p w v f at n b h = ap (decode p) (part-apart (encode o w n) f at b v 0 (rw (length-encode o w n) h))

-- the file is as long as it was
pub write-length : (o : Order) (w : ℕ) (f : List ℕ) (at n : ℕ) → length (sets f at (encode o w n)) ≡ length f
write-length o w f at n = length-sets f at (encode o w n)

-- and its elements are bytes
pub write_bytes : (o : Order) (w : ℕ) (f : List ℕ) (at n : ℕ) → at + w ≤ length f → Bytes f → Bytes (sets f at (encode o w n))
write_bytes o w f at n fits h i = step (where_is i at w)
  where
    step : Where i at w → get_or (sets f at (encode o w n)) i 0 < 256
    step (inside k e lt) = rw (e, sets-inside (encode o w n) f at k 0 (rw (length-encode o w n) fits) (rw (length-encode o w n) lt)) (encode_bytes o w n k)
    step (outside g) = rw (byte_frame o w f at n i g) (h i)

-- two writes apart from each other, in either order
pub write_comm : (o p : Order) (w v : ℕ) (f : List ℕ) (at n b m : ℕ) → Apart at w b v
    → sets (sets f at (encode o w n)) b (encode p v m) ≡ sets (sets f b (encode p v m)) at (encode o w n)
write_comm o p w v f at n b m h = sets_comm (encode o w n) (encode p v m) f at b (rw (length-encode o w n, length-encode p v m) h)

-- of two writes at one place the last stands
pub write_last : (o p : Order) (w : ℕ) (f : List ℕ) (at n m : ℕ)
    → sets (sets f at (encode o w n)) at (encode p w m) ≡ sets f at (encode p w m)
write_last o p w f at n m = sets_last (encode o w n) (encode p w m) f at (length-encode o w n ∙ sym (length-encode p w m))

-- ---- a number that is written digit by digit, the least significant first

-- where the k low bytes of w stand
abbrev pub low_start : Order → ℕ → ℕ → ℕ
low_start Big w k = w - k
low_start Little w k = 0

-- before the first digit
pub written_none : (o : Order) (w : ℕ) (f : List ℕ) (at n : ℕ) → f ≡ sets f (at + low_start o w 0) (encode o 0 n)
unfolding encode digits
written_none Big w f at n = refl
written_none Little w f at n = refl

-- one digit more
pub written_more : (o : Order) (w : ℕ) (f : List ℕ) (at n k : ℕ) → k < w
    → set (sets f (at + low_start o w k) (encode o k n)) (at + position o w k) (n / 256 ^ k % 256) ≡ sets f (at + low_start o w (k + 1)) (encode o (k + 1) n)
unfolding encode
written_more Big w f at n k h =
    let above : at + (w - k) ≡ suc (at + (w - 1 - k)) = omega arith in
    let here : at + (w - (k + 1)) ≡ at + (w - 1 - k) = omega arith in
    rw (above, here, add-one k, digits_more k n, reverse-append (digits k n) (n / 256 ^ k % 256 ∷ []))
    (sym (set-sets (reverse (digits k n)) f (suc (at + (w - 1 - k))) (at + (w - 1 - k)) (n / 256 ^ k % 256) (inl (omega arith))))
written_more Little w f at n k h =
    rw (add-one k, add-zero at, digits_more k n, sets-append (digits k n) (n / 256 ^ k % 256 ∷ []) f at, length-digits k n)

-- after the last digit
pub written_all : (o : Order) (w : ℕ) (f : List ℕ) (at n : ℕ) → sets f (at + low_start o w w) (encode o w n) ≡ sets f at (encode o w n)
written_all Big w f at n = let e : at + (w - w) ≡ at = omega arith in rw e
written_all Little w f at n = rw add-zero

-- what is left of the number
pub left_more : (n k : ℕ) → n / 256 ^ k / 256 ≡ n / 256 ^ (k + 1)
left_more n k = div-div-eq-div-mul n (256 ^ k) 256 ∙ ap (λ (x : ℕ). n / x) (sym (pow-suc 256 k) ∙ ap (λ (x : ℕ). 256 ^ x) (sym (add-one k)))
