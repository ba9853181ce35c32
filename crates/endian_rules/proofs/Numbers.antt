-- Laws of numbers and their bytes, each over the order and the width.
-- Assumes nothing.
use mathlib.Core.Path.{◌≡◌, refl, sym, ap, ap₂, subst, ◌∙◌}
use mathlib.Core.List.{List, [], ◌∷◌, ◌++◌, reverse-append, reverse-reverse}
use Prim.Native.Nat.{ℕ, zero, suc, ◌+◌, ◌*◌, ◌/◌, ◌%◌, ◌^◌, ◌≤◌, ◌<◌}
use native.Mathlib.Nat.{mul_assoc, mul_comm, mul_left_comm, pow-suc, pow-succ', one-le-pow, div-one, div-div-eq-div-mul, mod-lt, mod-eq_of_lt}
use native.Mathlib.Omega.{arith}
use lib.Arith.{mod-mul}
use lib.Dec.{lit<}
use lib.ListN.{length, get_or, length-reverse, get_or-eq_default}
use native.Mathlib.Decide.{dec_lt}
use Rattle.lists.proofs.Reversed.{get_or-reverse}
use Rattle.endian_rules.specs.Numbers.{value, digits, ordered, position, decode, encode, with_byte, Bytes}
use Rattle.endian_rules.specs.declared.Order.{Order}
use Rattle.endian_rules.specs.declared.Order.TheVariants.{Big, Little}

-- ---- digits, the least significant first

-- digits behind digits
pub value-append : (l k : List ℕ) → value (l ++ k) ≡ value l + 256 ^ length l * value k
unfolding value
value-append [] k = omega arith
value-append (d ∷ l) k =
    omega (arith, value-append l k, ap (λ (x : ℕ). x * value k) (pow-succ' 256 (length l)) ∙ mul_assoc 256 (256 ^ length l) (value k))

-- the sum of w digits, the digit 0 the least significant, each times its power of 256; the most significant comes first
unfoldable pub sum_of_powers : (ℕ → ℕ) → ℕ → ℕ
sum_of_powers digit zero = 0
sum_of_powers digit (suc k) = digit k * 256 ^ k + sum_of_powers digit k

-- there is nothing to add where every digit is 0
sum_nothing : (digit : ℕ → ℕ) (n : ℕ) → ((k : ℕ) → digit k ≡ 0) → sum_of_powers digit n ≡ 0
unfolding sum_of_powers
sum_nothing digit zero h = refl
sum_nothing digit (suc n) h = rw (h n) (omega (arith, sum_nothing digit n h))

-- the least significant digit, and 256 times the sum of the others
sum-first : (digit : ℕ → ℕ) (n : ℕ) → sum_of_powers digit (suc n) ≡ digit 0 + 256 * sum_of_powers (λ k. digit (suc k)) n
unfolding sum_of_powers
sum-first digit zero = omega arith
sum-first digit (suc n) =
    omega (arith, sum-first digit n, ap (λ (x : ℕ). digit (suc n) * x) (pow-succ' 256 n), mul_left_comm (digit (suc n)) 256 (256 ^ n))

-- digits stand for that sum, of as many digits as there are or more: those that are not there count 0
pub value-sum : (ds : List ℕ) (n : ℕ) → length ds ≤ n → value ds ≡ sum_of_powers (λ k. get_or ds k 0) n
unfolding value
value-sum [] n h = sym (sum_nothing (λ k. get_or [] k 0) n (λ k. refl))
value-sum (d ∷ ds) zero h = let z : ⊥ = omega arith in absurd z
value-sum (d ∷ ds) (suc n) h = omega (arith, value-sum ds n (omega arith), sum-first (λ k. get_or (d ∷ ds) k 0) n)

-- w digits stand for a number below 256 ^ w
pub value_bound : (ds : List ℕ) → Bytes ds → value ds < 256 ^ length ds
unfolding value
value_bound [] h = lit< tt
value_bound (d ∷ ds) h = omega (arith, h 0, value_bound ds (λ i. h (suc i)), pow-succ' 256 (length ds))

-- a number has as many low digits as are asked for
pub length-digits : (w n : ℕ) → length (digits w n) ≡ w
unfolding digits
length-digits zero n = refl
length-digits (suc w) n = ap suc (length-digits w _)

-- each is a byte
pub digits_bytes : (w n : ℕ) → Bytes (digits w n)
unfolding digits
digits_bytes zero n i = lit< tt
digits_bytes (suc w) n zero = mod-lt n (lit< tt)
digits_bytes (suc w) n (suc i) = digits_bytes w _ i

-- one digit more
pub digits_more : (w n : ℕ) → digits (suc w) n ≡ digits w n ++ n / 256 ^ w % 256 ∷ []
unfolding digits
digits_more zero n = ap (λ (x : ℕ). x % 256 ∷ []) (sym (div-one n))
digits_more (suc w) n =
    ap (λ (l : List ℕ). n % 256 ∷ l)
    (digits_more w (n / 256)
    ∙ ap (λ (x : ℕ). digits w (n / 256) ++ x % 256 ∷ []) (div-div-eq-div-mul n 256 (256 ^ w) ∙ ap (λ (x : ℕ). n / x) (sym (pow-succ' 256 w))))

value-digits : (w n : ℕ) → value (digits w n) ≡ n % 256 ^ w
unfolding value digits
value-digits zero n = omega arith
value-digits (suc w) n =
    omega (arith, value-digits w (n / 256), ap (λ (x : ℕ). n % x) (pow-suc 256 w), mod-mul n {m = 256 ^ w} {c = 256} (one-le-pow w 256 (lit< tt)) (lit< tt))

digits-value : (ds : List ℕ) → Bytes ds → digits (length ds) (value ds) ≡ ds
unfolding value digits
digits-value [] h = refl
digits-value (d ∷ ds) h =
    let low : (d + 256 * value ds) % 256 ≡ d = omega (arith, h 0) in
    let high : (d + 256 * value ds) / 256 ≡ value ds = omega (arith, h 0) in
    ap₂ ◌∷◌ low (ap (digits (length ds)) high ∙ digits-value ds (λ i. h (suc i)))

-- ---- the order

-- the order keeps the length
pub length-ordered : (o : Order) (l : List ℕ) → length (ordered o l) ≡ length l
length-ordered Big l = length-reverse l
length-ordered Little l = refl

ordered_twice : (o : Order) (l : List ℕ) → ordered o (ordered o l) ≡ l
ordered_twice Big l = reverse-reverse l
ordered_twice Little l = refl

-- the digit k stands at its position
pub digit_at : (o : Order) (l : List ℕ) (k : ℕ) → k < length l → get_or (ordered o l) k 0 ≡ get_or l (position o (length l) k) 0
digit_at Big l k h = get_or-reverse l k 0 h
digit_at Little l k h = refl

-- which is inside the number
pub position-inside : (o : Order) (w k : ℕ) → k < w → position o w k < w
position-inside Big w k h = omega arith
position-inside Little w k h = h

-- past the last digit there is none, and it counts 0
pub no_digit : (o : Order) (l : List ℕ) (k : ℕ) → length l ≤ k → get_or (ordered o l) k 0 ≡ 0
no_digit o l k h = get_or-eq_default (ordered o l) 0 {n = k} (omega (arith, length-ordered o l))

-- a list is one of bytes where each of its elements is a byte
pub bytes_of_lem : (l : List ℕ) → ((i : ℕ) → i < length l → get_or l i 0 < 256) → Bytes l
bytes_of_lem l h i = step (dec_lt i (length l))
  where
    step : Dec (i < length l) → get_or l i 0 < 256
    step (yes lt) = h i lt
    step (no ge) = rw (get_or-eq_default l 0 {n = i} (omega arith)) (lit< tt)

-- the order keeps bytes
pub ordered_bytes : (o : Order) (l : List ℕ) → Bytes l → Bytes (ordered o l)
ordered_bytes o l h =
    bytes_of_lem (ordered o l) (λ i lt. rw (digit_at o l i (omega (arith, length-ordered o l))) (h (position o (length l) i)))

-- ---- numbers and their bytes

-- a number is written with as many bytes as are asked for
pub length-encode : (o : Order) (w n : ℕ) → length (encode o w n) ≡ w
unfolding encode
length-encode o w n = length-ordered o (digits w n) ∙ length-digits w n

-- each is a byte
pub encode_bytes : (o : Order) (w n : ℕ) → Bytes (encode o w n)
unfolding encode
encode_bytes o w n = ordered_bytes o (digits w n) (digits_bytes w n)

-- the low bytes of a number stand for what is left of it below 256 ^ w
pub decode-encode_low : (o : Order) (w n : ℕ) → decode o (encode o w n) ≡ n % 256 ^ w
unfolding decode encode
decode-encode_low o w n = ap value (ordered_twice o (digits w n)) ∙ value-digits w n

-- the bytes of a number that fits stand for it
pub decode-encode : (o : Order) (w n : ℕ) → n < 256 ^ w → decode o (encode o w n) ≡ n
decode-encode o w n h = decode-encode_low o w n ∙ mod-eq_of_lt h

-- no other bytes do
pub encode-decode : (o : Order) (bytes : List ℕ) → Bytes bytes → encode o (length bytes) (decode o bytes) ≡ bytes
unfolding decode encode
encode-decode o bytes h =
    ap (λ (w : ℕ). ordered o (digits w (value (ordered o bytes)))) (sym (length-ordered o bytes))
    ∙ ap (ordered o) (digits-value (ordered o bytes) (ordered_bytes o bytes h))
    ∙ ordered_twice o bytes

-- w bytes stand for a number below 256 ^ w
pub decode_bound : (o : Order) (bytes : List ℕ) → Bytes bytes → decode o bytes < 256 ^ length bytes
unfolding decode
decode_bound o bytes h =
    subst (λ (w : ℕ). value (ordered o bytes) < 256 ^ w) (length-ordered o bytes) (value_bound (ordered o bytes) (ordered_bytes o bytes h))

-- one byte more at the end of a number that arrives byte by byte
pub decode_more : (o : Order) (bytes : List ℕ) (b : ℕ) → decode o (bytes ++ b ∷ []) ≡ with_byte o (length bytes) (decode o bytes) b
unfolding decode value
decode_more Big bytes b = ap value (reverse-append bytes (b ∷ [])) ∙ omega arith
decode_more Little bytes b = value-append bytes (b ∷ []) ∙ omega (arith, mul_comm (256 ^ length bytes) b)
