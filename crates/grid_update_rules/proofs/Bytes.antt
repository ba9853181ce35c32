-- Runs of bytes and of words that are stored one behind another: the stores together are one store of them all.
-- Assumes nothing.
use mathlib.Core.Path.{◌≡◌, refl, sym, ap, ◌∙◌}
use mathlib.Core.List.{List, [], ◌∷◌, ◌++◌, map, map-append, append_assoc, append-nil}
use Prim.Native.Nat.{ℕ, ◌+◌, ◌*◌, ◌≤◌, ◌<◌}
use native.Mathlib.Numerals.{add-one}
use native.Mathlib.Omega.{arith}
use lib.IntN.{ℤ}
use lib.ListN.{length, get_or, set, take, drop, length-append, length-drop, length-map}
use lib.Seq.{sets, sets-eq, length-take-le, take-suc, take_all}
use borrow.Rule.Slice.PartMut.{put_mid}
use mir.Syntax.{w32}
use mir.Val.{of_z}
use Rattle.std.proofs.lemmas.Slice.{put_mid-paste}
use Rattle.lists.proofs.Stores.{sets-append}
use Rattle.endian_rules.specs.Numbers.{encode}
use Rattle.endian_rules.specs.Words.{encode_signed}
use Rattle.endian_rules.specs.Files.{bytes_of}
use Rattle.endian_rules.specs.declared.Order.{Order}
use Rattle.grid_update_rules.specs.Updates.{grid_bytes}
use Rattle.grid_update_rules.proofs.GridBytes.{length-bytes_of}

-- ---- a list l that became g by a run of stores, and h by another behind it

module _ {A : Type 0} (l : List A) (a : ℕ) {g h : List A} where
  -- a run b of n elements, and a run c behind it, are one run
  stored_behind : (b c : List A) (n : ℕ) → g ≡ sets l a b → h ≡ sets g (a + n) c → length b ≡ n → h ≡ sets l a (b ++ c)
  stored_behind b c n before e long =
      e
      ∙ ap (λ (k : List A). sets k (a + n) c) before
      ∙ ap (λ (m : ℕ). sets (sets l a b) (a + m) c) (sym long)
      ∙ sym (sets-append b c l a)

  -- the first i elements of a list, and element i
  pub element-behind : (b : List A) (i : ℕ) (d : A) → i < length b → g ≡ sets l a (take i b) → h ≡ set g (a + i) (get_or b i d) → h ≡ sets l a (take (i + 1) b)
  element-behind b i d here before e =
      stored_behind (take i b) (get_or b i d ∷ []) i before e (length-take-le i b (omega (arith, here)))
      ∙ ap (sets l a) (sym (take-suc b i d here) ∙ ap (λ (k : ℕ). take k b) (sym (add-one i)))

-- a part of a list that a list is copied into
pub put_part : {A : Type 0} (l part b : List A) (a k : ℕ) → part ≡ b → length b ≡ k → a + k ≤ length l → put_mid a k l part ≡ sets l a b
put_part {A = A} l part b a k same long room =
    put_mid-paste a k l part b (length b) same long refl
    ∙ ap (λ (c : List A). take a l ++ c ++ drop (a + length b) l) (take_all (length b) b (omega arith))
    ∙ sym (sets-eq b l a (omega (arith, long, room)))

-- ---- the bytes of words

-- the bytes of one word more
bytes_more : (o : Order) (ns : List ℕ) (m : ℕ) → bytes_of o ns ++ encode o 4 m ≡ bytes_of o (ns ++ m ∷ [])
unfolding bytes_of
bytes_more o [] m = sym (append-nil (encode o 4 m))
bytes_more o (n ∷ ns) m = append_assoc (encode o 4 n) (bytes_of o ns) (encode o 4 m) ∙ ap (λ (k : List ℕ). encode o 4 n ++ k) (bytes_more o ns m)

module _ (o : Order) (f : List ℕ) (at : ℕ) {g h : List ℕ} where
  -- words, and one word behind them
  word_behind : (ns : List ℕ) (m k : ℕ) → length ns ≡ k
      → g ≡ sets f at (bytes_of o ns) → h ≡ sets g (at + 4 * k) (encode o 4 m) → h ≡ sets f at (bytes_of o (ns ++ m ∷ []))
  word_behind ns m k long before e =
      stored_behind f at (bytes_of o ns) (encode o 4 m) (4 * k) before e (length-bytes_of o ns ∙ ap (λ (j : ℕ). 4 * j) long)
      ∙ ap (sets f at) (bytes_more o ns m)

  -- the first i signed words of a list, and word i
  pub signed-behind : (vs : List ℤ) (i : ℕ) (d : ℤ) → i < length vs
      → g ≡ sets f at (bytes_of o (map (of_z w32) (take i vs)))
      → h ≡ sets g (at + 4 * i) (encode_signed o (get_or vs i d))
      → h ≡ sets f at (bytes_of o (map (of_z w32) (take (i + 1) vs)))
  signed-behind vs i d here before e =
      word_behind (map (of_z w32) (take i vs)) (of_z w32 (get_or vs i d)) i (length-map (take i vs) (of_z w32) ∙ length-take-le i vs (omega (arith, here))) before e
      ∙ ap (λ (ns : List ℕ). sets f at (bytes_of o ns)) (sym (map-append (of_z w32) (take i vs) (get_or vs i d ∷ [])))
      ∙ ap (λ (us : List ℤ). sets f at (bytes_of o (map (of_z w32) us))) (sym (take-suc vs i d here) ∙ ap (λ (k : ℕ). take k vs) (sym (add-one i)))

-- ---- the bytes of a grid

-- the bytes of one word
bytes_one : (o : Order) (m : ℕ) → encode o 4 m ≡ bytes_of o (m ∷ [])
unfolding bytes_of
bytes_one o m = bytes_more o [] m

-- A file with the number of points, the rows, the columns, the rest of the header, and the values stored one behind another is the file with the grid's bytes.
pub grid_stored : (o : Order) (header : List ℕ) (rows columns : ℕ) (values : List ℤ) (f : List ℕ) (at : ℕ) {f1 f2 f3 f4 f5 : List ℕ} → length header ≡ 256
    → f1 ≡ sets f at (encode o 4 (rows * columns))
    → f2 ≡ sets f1 (at + 4) (encode o 4 rows)
    → f3 ≡ sets f2 (at + 8) (encode o 4 columns)
    → f4 ≡ sets f3 (at + 12) (drop 12 header)
    → f5 ≡ sets f4 (at + 256) (bytes_of o (map (of_z w32) values))
    → f5 ≡ sets f at (grid_bytes o header rows columns values)
unfolding grid_bytes
grid_stored o header rows columns values f at {f1} {f2} {f3} {f4} {f5} whole e1 e2 e3 e4 e5 =
    let p : ℕ = rows * columns in
    let front : List ℕ = bytes_of o (p ∷ rows ∷ columns ∷ []) in
    let s1 : f1 ≡ sets f at (bytes_of o (p ∷ [])) = e1 ∙ ap (sets f at) (bytes_one o p) in
    let s2 : f2 ≡ sets f at (bytes_of o (p ∷ rows ∷ [])) = word_behind o f at (p ∷ []) rows 1 refl s1 e2 in
    let s3 : f3 ≡ sets f at front = word_behind o f at (p ∷ rows ∷ []) columns 2 refl s2 e3 in
    let s4 : f4 ≡ sets f at (front ++ drop 12 header) = stored_behind f at front (drop 12 header) 12 s3 e4 (length-bytes_of o (p ∷ rows ∷ columns ∷ [])) in
    let head : length (front ++ drop 12 header) ≡ 256 =
    length-append front (drop 12 header) ∙ omega (arith, whole, length-bytes_of o (p ∷ rows ∷ columns ∷ []), length-drop 12 header) in
    stored_behind f at (front ++ drop 12 header) (bytes_of o (map (of_z w32) values)) 256 s4 e5 head
