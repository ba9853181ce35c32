-- Laws of a part of a list.
-- Assumes nothing.
use mathlib.Core.Path.{◌≡◌, sym, ap, ◌∙◌}
use mathlib.Core.List.{List, [], ◌∷◌, ◌++◌}
use Prim.Native.Nat.{ℕ, zero, suc, ◌+◌, ◌-◌, ◌≤◌, ◌<◌}
use native.Mathlib.Nat.{sub-zero, zero-sub, suc-sub-suc}
use native.Mathlib.Omega.{arith}
use lib.ListN.{length, get_or, take, drop, length-take, length-drop}
use lib.Seq.{length-take-le, take-suc, take-nil, take-take, take-append-le, drop-append-le, drop-append-add, drop-drop, get_or-take, get_or-drop, ext_get_or}
use Rattle.lists.specs.Lists.{part}

module _ {A : Type 0} where
  pub length-part : (a n : ℕ) (l : List A) → a + n ≤ length l → length (part a n l) ≡ n
  length-part a n l h = length-take-le n (drop a l) (omega (arith, length-drop a l))

  pub get_or-part : (a n : ℕ) (l : List A) (i : ℕ) (d : A) → i < n → get_or (part a n l) i d ≡ get_or l (a + i) d
  get_or-part a n l i d h = get_or-take n (drop a l) i d h ∙ get_or-drop a l i d

  -- one element more
  pub part_suc : (a n : ℕ) (l : List A) (d : A) → a + n < length l → part a (suc n) l ≡ part a n l ++ get_or l (a + n) d ∷ []
  part_suc a n l d h =
      take-suc (drop a l) n d (omega (arith, length-drop a l)) ∙ ap (λ (x : A). part a n l ++ x ∷ []) (get_or-drop a l n d)

  drop-take : (b n : ℕ) (l : List A) → drop b (take n l) ≡ take (n - b) (drop b l)
  drop-take zero n l = rw sub-zero
  drop-take (suc b) zero l = rw zero-sub
  drop-take (suc b) (suc n) [] = sym (take-nil (suc n - suc b))
  drop-take (suc b) (suc n) (x ∷ l) = rw suc-sub-suc (drop-take b n l)

  -- a part of a part
  pub part-part : (a n b m : ℕ) (l : List A) → b + m ≤ n → part b m (part a n l) ≡ part (a + b) m l
  part-part a n b m l h =
      ap (take m) (drop-take b n (drop a l)) ∙ take-take m (n - b) (drop b (drop a l)) (omega arith) ∙ ap (take m) (drop-drop b a l)

  -- a part of two lists that are joined: of the first, and of the second
  pub part_left : (a n : ℕ) (l k : List A) → a + n ≤ length l → part a n (l ++ k) ≡ part a n l
  part_left a n l k h =
      ap (take n) (drop-append-le a l k (omega arith)) ∙ take-append-le n (drop a l) k (omega (arith, length-drop a l))

  pub part_right : (a n : ℕ) (l k : List A) → part (length l + a) n (l ++ k) ≡ part a n k
  part_right a n l k = ap (take n) (drop-append-add l k a)

  -- two lists that agree at a part's places have the same part there, if the part is as long in both
  part_ext : (a n : ℕ) (l k : List A) (d : A) → length (part a n l) ≡ length (part a n k)
      → ((i : ℕ) → a ≤ i → i < a + n → get_or l i d ≡ get_or k i d) → part a n l ≡ part a n k
  part_ext a n l k d e h =
      ext_get_or d (part a n l) (part a n k) e
      (λ i lt.
      let low : i < n = omega (arith, length-take n (drop a l)) in
      get_or-part a n l i d low ∙ h (a + i) (omega arith) (omega arith) ∙ sym (get_or-part a n k i d low))

  -- so it is where the lists are equally long, and where the part is inside both
  pub part-same : (a n : ℕ) (l k : List A) (d : A) → length l ≡ length k → ((i : ℕ) → a ≤ i → i < a + n → get_or l i d ≡ get_or k i d)
      → part a n l ≡ part a n k
  part-same a n l k d e h =
      part_ext a n l k d (omega (arith, length-take n (drop a l), length-drop a l, length-take n (drop a k), length-drop a k)) h

  pub part_agree : (a n : ℕ) (l k : List A) (d : A) → a + n ≤ length l → a + n ≤ length k
      → ((i : ℕ) → a ≤ i → i < a + n → get_or l i d ≡ get_or k i d) → part a n l ≡ part a n k
  part_agree a n l k d p q h = part_ext a n l k d (length-part a n l p ∙ sym (length-part a n k q)) h
