-- Two's-complement words and their bits.
--
-- Rules on words are stated over the raw number, the 32 bits as an unsigned number. The laws `signed-..` say what such a rule means of the
-- signed word: bounds of which the upper one is below 2 ^ 31, and equality with a number below 2 ^ 31, mean the same raw and signed;
-- -1 is 2 ^ 32 - 1 raw; and a lower bound alone asks raw that the number is below 2 ^ 31 as well.
-- Assumes nothing.
use mathlib.Core.Path.{◌≡◌, refl, sym, ap, ap₂, subst, ◌∙◌}
use mathlib.Core.Bool.{Bool, true, false, false≢true}
use mathlib.Core.Logic.{◌↔◌}
use mathlib.Core.List.{List}
use Prim.Native.Nat.{ℕ, zero, suc, ◌+◌, ◌-◌, ◌^◌, ◌≤◌, ◌<◌, zero-le}
use native.Mathlib.Nat.{zero-add}
use native.Mathlib.Omega.{arith}
use lib.Dec.{T, leb, ltb, leb→le, le→leb}
use lib.IntN.{ℤ, pos, negsuc, ◌-ℤ◌, nat_abs}
use lib.ListN.{length}
use lib.Seq.{sets}
use lib.Signed.{non_neg, le_z, mag, ◌≤ℤ◌}
use mir.Syntax.{w32}
use mir.Val.{Fits, SFits, to_z, of_z}
use mir.Facts.{sfits_to_z, Fits-of_z, to_z_pos, to_z-of_z, of_z-to_z}
use borrow.Author.Tests.{leb-true, ltb-true, ltb-false, lt-ltb, le-ltb, le-leb}
use Rattle.lists.specs.Lists.{Apart}
use Rattle.lists.proofs.Choices.{both_true, true_both}
use Rattle.endian_rules.specs.Numbers.{decode, encode, number_at, Bytes}
use Rattle.endian_rules.specs.Words.{signed_at, encode_signed, at_least, AtLeast}
use Rattle.endian_rules.specs.declared.Order.{Order}
use Rattle.endian_rules.proofs.Numbers.{decode-encode, encode-decode, decode_bound}
use Rattle.endian_rules.proofs.Places.{number_bound, read_back_lem, number_frame}

-- ---- the two readings of 32 bits

-- below 2 ^ 31 the word is the number
pub signed_low : (n : ℕ) → n < 2 ^ 31 → to_z w32 n ≡ pos n
signed_low n h = to_z_pos w32 {n = n} h

-- from 2 ^ 31 on it is the number less 2 ^ 32
pub signed_high : (n : ℕ) → 2 ^ 31 ≤ n → to_z w32 n ≡ negsuc (4294967295 - n)
signed_high n h = rw (le-ltb n (2 ^ 31) h) (ap negsuc (omega arith))

word_cases : (P : ℤ → Type 0) (n : ℕ) → (n < 2 ^ 31 → P (pos n)) → (2 ^ 31 ≤ n → P (negsuc (4294967295 - n))) → P (to_z w32 n)
word_cases P n low high = step (ltb n (2 ^ 31)) refl
  where
    step : (b : Bool) → ltb n (2 ^ 31) ≡ b → P (to_z w32 n)
    step true e = rw (signed_low n (ltb-true n (2 ^ 31) e)) (low (ltb-true n (2 ^ 31) e))
    step false e = rw (signed_high n (ltb-false n (2 ^ 31) e)) (high (ltb-false n (2 ^ 31) e))

-- ---- rules on raw numbers, and what they mean of the signed word

-- no number that is not negative is at most a negative one
not_below : (a k : ℕ) → pos a ≤ℤ negsuc k → ⊥
not_below a k h = h.le

-- at least `low`
pub signed_at_least : (low n : ℕ) → (pos low ≤ℤ to_z w32 n) ↔ ((low ≤ n) × (n < 2 ^ 31))
signed_at_least low n =
    word_cases (λ z. (pos low ≤ℤ z) ↔ ((low ≤ n) × (n < 2 ^ 31))) n
    (λ small. (λ h. (leb→le low n h.le, small), λ h. record { le = le→leb low n h.0 }))
    (λ large. (λ h. absurd (not_below low (4294967295 - n) h), λ h. let z : ⊥ = omega arith in absurd z))

-- by its test
pub at_least_lem : (low n : ℕ) → (at_least low n ≡ true) ↔ AtLeast low n
unfolding at_least
at_least_lem low n = (
  λ e.
      let t : (leb low n ≡ true) × (ltb n 2147483648 ≡ true) = both_true (leb low n) (ltb n 2147483648) e in
      (signed_at_least low n).1 (leb-true low n t.0, ltb-true n 2147483648 t.1),
  λ h.
      let x : (low ≤ n) × (n < 2 ^ 31) = (signed_at_least low n).0 h in
      true_both (leb low n) (ltb n 2147483648) (le-leb low n x.0) (lt-ltb n 2147483648 x.1),
)

-- from `low` to `high`
pub signed-within : (low high n : ℕ) → high < 2 ^ 31 → ((pos low ≤ℤ to_z w32 n) × (to_z w32 n ≤ℤ pos high)) ↔ ((low ≤ n) × (n ≤ high))
signed-within low high n most =
    word_cases (λ z. ((pos low ≤ℤ z) × (z ≤ℤ pos high)) ↔ ((low ≤ n) × (n ≤ high))) n
    (λ small. (λ h. (leb→le low n h.0.le, leb→le n high h.1.le), λ h. (record { le = le→leb low n h.0 }, record { le = le→leb n high h.1 })))
    (λ large. (λ h. absurd (not_below low (4294967295 - n) h.0), λ h. let z : ⊥ = omega arith in absurd z))

-- equal to a number that is not negative
pub signed_equal : (m n : ℕ) → m < 2 ^ 31 → (to_z w32 n ≡ pos m) ↔ (n ≡ m)
signed_equal m n most =
    word_cases (λ z. (z ≡ pos m) ↔ (n ≡ m)) n
    (λ small. (λ e. cc, λ e. ap pos e))
    (λ large. (λ e. cc, λ e. let z : ⊥ = omega arith in absurd z))

-- equal to -1
pub signed_minus_one : (n : ℕ) → n < 2 ^ 32 → (to_z w32 n ≡ negsuc 0) ↔ (n ≡ 4294967295)
signed_minus_one n most =
    word_cases (λ z. (z ≡ negsuc 0) ↔ (n ≡ 4294967295)) n
    (λ small. (λ e. cc, λ e. let z : ⊥ = omega arith in absurd z))
    (λ large. (λ e. let k : 4294967295 - n ≡ 0 = cc in omega arith, λ e. ap negsuc (omega arith)))

-- ---- words that are written and read

-- where two numbers of four bytes are equal, so are the words: this carries every law of a number that is read to the word
pub signed-same : (o p : Order) (f g : List ℕ) (at b : ℕ) → number_at o 4 f at ≡ number_at p 4 g b → signed_at o f at ≡ signed_at p g b
signed-same o p f g at b e = ap (to_z w32) e

-- a word that is read is one of 32 bits
pub signed-fits : (o : Order) (f : List ℕ) (at : ℕ) → Bytes f → SFits w32 (signed_at o f at)
signed-fits o f at h = sfits_to_z (record { fits = number_bound o 4 f at h })

-- the bytes of a word stand for it, and no others do
pub signed-decode : (o : Order) (v : ℤ) → SFits w32 v → to_z w32 (decode o (encode_signed o v)) ≡ v
signed-decode o v s = ap (to_z w32) (decode-encode o 4 (of_z w32 v) (Fits-of_z s).fits) ∙ to_z-of_z s

pub signed-encode : (o : Order) (bytes : List ℕ) → Bytes bytes → length bytes ≡ 4 → encode_signed o (to_z w32 (decode o bytes)) ≡ bytes
signed-encode o bytes h e =
    let fits : decode o bytes < 256 ^ 4 = rw e at (decode_bound o bytes h) in
    ap₂ (encode o) (sym e) (of_z-to_z {w = w32} (record { fits = fits })) ∙ encode-decode o bytes h

-- a word that is written is read back
pub signed-back : (o : Order) (f : List ℕ) (at : ℕ) (v : ℤ) → at + 4 ≤ length f → SFits w32 v
    → signed_at o (sets f at (encode_signed o v)) at ≡ v
signed-back o f at v h s = ap (to_z w32) (read_back_lem o 4 f at (of_z w32 v) h (Fits-of_z s).fits) ∙ to_z-of_z s

-- a word elsewhere is as it was
pub signed_frame : (o p : Order) (w : ℕ) (f : List ℕ) (at n b : ℕ) → Apart b 4 at w
    → signed_at p (sets f at (encode o w n)) b ≡ signed_at p f b
signed_frame o p w f at n b h = signed-same p p (sets f at (encode o w n)) f b b (number_frame o p w 4 f at n b h)

-- a signed local is kept as its bits, and what is read of them is the number
pub same_word : (z : ℤ) → mag z < 2 ^ 31 → to_z w32 (of_z w32 z) ≡ z
same_word z h = to_z-of_z {w = w32} {z = z} (record { sfits = h })

-- ---- the code's sums

-- -1 - z, at both signs
minus_pos : (k : ℕ) → negsuc 0 -ℤ pos k ≡ negsuc k
minus_pos zero = refl
minus_pos (suc k) = ap (λ (x : ℕ). negsuc (suc x)) (zero-add k)

minus_neg : (k : ℕ) → negsuc 0 -ℤ negsuc k ≡ pos k
minus_neg k = rw (le-ltb (suc k) 1 (omega arith)) (ap pos (omega arith))

-- -1 less a number below 2 ^ 31 is a word
pub complement_fits : (n : ℕ) → n < 2 ^ 31 → SFits w32 (negsuc 0 -ℤ to_z w32 n)
complement_fits n l = subst (SFits w32) (sym (ap (λ (z : ℤ). negsuc 0 -ℤ z) (to_z_pos w32 l) ∙ minus_pos n)) (record { sfits = l })

-- the word of 2 ^ 31 or more
pub complement : (n : ℕ) → 2 ^ 31 ≤ n → n < 2 ^ 32 → negsuc 0 -ℤ to_z w32 (4294967295 - n) ≡ to_z w32 n
complement n h l =
    ap (λ (z : ℤ). negsuc 0 -ℤ z) (to_z_pos w32 {n = 4294967295 - n} (omega arith)) ∙ minus_pos (4294967295 - n) ∙ sym (signed_high n h)

-- ---- a word after a test of its sign, which code makes of the bits

-- the word is not negative: it is the number that it is cast to, which fits
pub record NotNegative (z y : ℤ) : Type 0 where
  pub number : z ≡ pos (nat_abs y)
  pub sign : T (non_neg y)
  pub fits : Fits w32 (nat_abs y)

pub not_negative : (z : ℤ) → SFits w32 z → le_z (pos 0) (to_z w32 (of_z w32 z)) ≡ true → NotNegative z (to_z w32 (of_z w32 z))
not_negative z s e =
    subst (NotNegative z) (sym (to_z-of_z s)) (step z s (subst (λ (y : ℤ). le_z (pos 0) y ≡ true) (to_z-of_z s) e))
  where
    step : (y : ℤ) → SFits w32 y → le_z (pos 0) y ≡ true → NotNegative y y
    step (pos n) s e = record { number = refl; sign = tt; fits = record { fits = omega (arith, s.sfits) } }
    step (negsuc n) s e = absurd (false≢true e)

-- the word is negative: -1 less the word is its magnitude, the complement of its bits
pub record Negative (z : ℤ) : Type 0 where
  pub number : z ≡ negsuc (mag z)
  pub complemented : negsuc 0 -ℤ z ≡ pos (mag z)
  pub small : mag z < 2 ^ 31
  pub bits : 4294967295 - mag z ≡ of_z w32 z

pub negative : (z : ℤ) → SFits w32 z → le_z (pos 0) (to_z w32 (of_z w32 z)) ≡ false → Negative z
negative z s e = step z s (subst (λ (y : ℤ). le_z (pos 0) y ≡ false) (to_z-of_z s) e)
  where
    step : (y : ℤ) → SFits w32 y → le_z (pos 0) y ≡ false → Negative y
    step (pos n) s e = absurd (false≢true (sym e ∙ le-leb 0 n zero-le))
    step (negsuc n) s e = record { number = refl; complemented = minus_neg n; small = s.sfits; bits = omega (arith, s.sfits) }
