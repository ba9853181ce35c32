-- The bytes of a grid that is added: how many they are, and what each of its words and of its header's other bytes is.
-- Assumes nothing.
use mathlib.Core.Path.{◌≡◌, refl, sym, ap, ◌∙◌}
use mathlib.Core.List.{List, [], ◌∷◌, ◌++◌, map}
use Prim.Native.Nat.{ℕ, zero, suc, ◌+◌, ◌-◌, ◌*◌, ◌^◌, ◌≤◌, ◌<◌}
use native.Mathlib.Omega.{arith}
use lib.IntN.{ℤ, pos}
use lib.ListN.{length, get_or, drop, length-append, length-drop, length-map, get_or-append, get_or-map}
use lib.Seq.{take_all, get_or-append-add, get_or-drop}
use mir.Syntax.{w32}
use mir.Val.{SFits, of_z}
use mir.Facts.{Fits-of_z}
use Rattle.endian_rules.specs.Numbers.{encode, number_at}
use Rattle.endian_rules.specs.Words.{word_at}
use Rattle.endian_rules.specs.Files.{bytes_of}
use Rattle.endian_rules.specs.declared.Order.{Order}
use Rattle.endian_rules.proofs.Numbers.{length-encode}
use Rattle.endian_rules.proofs.Places.{number-drop, number_left, number_right, number_held, word_number}
use Rattle.grid_update_rules.specs.Updates.{grid_words, grid_bytes}

-- ---- the bytes of raw words

-- there are four a word
pub length-bytes_of : (o : Order) (ns : List ℕ) → length (bytes_of o ns) ≡ 4 * length ns
unfolding bytes_of
length-bytes_of o [] = refl
length-bytes_of o (n ∷ ns) = length-append (encode o 4 n) (bytes_of o ns) ∙ omega (arith, length-encode o 4 n, length-bytes_of o ns)

-- a word among its own bytes
own_word : (o : Order) (n : ℕ) → n < 2 ^ 32 → number_at o 4 (encode o 4 n) 0 ≡ n
own_word o n h = number_held o 4 (encode o 4 n) 0 n (take_all 4 (encode o 4 n) (omega (arith, length-encode o 4 n))) h

-- each word that fits 32 bits is read back
pub word_bytes_of : (o : Order) (ns : List ℕ) (i : ℕ) → i < length ns → get_or ns i 0 < 2 ^ 32 → number_at o 4 (bytes_of o ns) (4 * i) ≡ get_or ns i 0
unfolding bytes_of
word_bytes_of o [] i l h = let z : ⊥ = omega arith in absurd z
word_bytes_of o (n ∷ ns) zero l h = number_left o 4 (encode o 4 n) (bytes_of o ns) 0 (omega (arith, length-encode o 4 n)) ∙ own_word o n h
word_bytes_of o (n ∷ ns) (suc i) l h =
    let at : 4 * suc i ≡ length (encode o 4 n) + 4 * i = omega (arith, length-encode o 4 n) in
    ap (number_at o 4 (encode o 4 n ++ bytes_of o ns)) at
    ∙ number_right o 4 (encode o 4 n) (bytes_of o ns) (4 * i)
    ∙ word_bytes_of o ns i (omega arith) h

-- ---- the bytes of a grid

module _ (o : Order) (header : List ℕ) (rows columns : ℕ) (values : List ℤ) (whole : length header ≡ 256) where
  -- words 1 to 3 of the header, the whole header, and the data
  abbrev front : List ℕ
  front = bytes_of o (rows * columns ∷ rows ∷ columns ∷ [])

  abbrev head_bytes : List ℕ
  head_bytes = front ++ drop 12 header

  abbrev data_bytes : List ℕ
  data_bytes = bytes_of o (map (of_z w32) values)

  front_length : length front ≡ 12
  front_length = length-bytes_of o (rows * columns ∷ rows ∷ columns ∷ [])

  head-length : length head_bytes ≡ 256
  head-length = length-append front (drop 12 header) ∙ omega (arith, whole, front_length, length-drop 12 header)

  -- there are four bytes for each word of the grid
  pub grid-length : length values ≡ rows * columns → length (grid_bytes o header rows columns values) ≡ 4 * grid_words rows columns
  unfolding grid_bytes
  grid-length all =
      length-append head_bytes data_bytes
      ∙ omega (arith, all, head-length, length-bytes_of o (map (of_z w32) values), length-map values (of_z w32))

  -- a number in the header
  head-number : (at : ℕ) → at + 4 ≤ 256 → number_at o 4 (grid_bytes o header rows columns values) at ≡ number_at o 4 head_bytes at
  unfolding grid_bytes
  head-number at h = number_left o 4 head_bytes data_bytes at (omega (arith, h, head-length))

  front_word : (j : ℕ) → j < 3 → get_or (rows * columns ∷ rows ∷ columns ∷ []) j 0 < 2 ^ 32
      → word_at o (grid_bytes o header rows columns values) j ≡ get_or (rows * columns ∷ rows ∷ columns ∷ []) j 0
  front_word j l h =
      word_number o (grid_bytes o header rows columns values) j
      ∙ head-number (4 * j) (omega arith)
      ∙ number_left o 4 front (drop 12 header) (4 * j) (omega (arith, l, front_length))
      ∙ word_bytes_of o (rows * columns ∷ rows ∷ columns ∷ []) j l h

  -- its word 0 is the number of points
  pub size_word : rows * columns < 2 ^ 32 → word_at o (grid_bytes o header rows columns values) 0 ≡ rows * columns
  size_word h = front_word 0 (omega arith) h

  -- word 1 is the number of rows
  pub rows_word : rows < 2 ^ 32 → word_at o (grid_bytes o header rows columns values) 1 ≡ rows
  rows_word h = front_word 1 (omega arith) h

  -- word 2 is the number of columns
  pub columns_word : columns < 2 ^ 32 → word_at o (grid_bytes o header rows columns values) 2 ≡ columns
  columns_word h = front_word 2 (omega arith) h

  -- words 3 to 63 are those of the given header
  pub other_word : (k : ℕ) → 3 ≤ k → k < 64 → word_at o (grid_bytes o header rows columns values) k ≡ word_at o header k
  other_word k from to =
      let at : 4 * k ≡ length front + (4 * k - 12) = omega (arith, from, front_length) in
      let back : 12 + (4 * k - 12) ≡ 4 * k = omega (arith, from) in
      word_number o (grid_bytes o header rows columns values) k
      ∙ head-number (4 * k) (omega arith)
      ∙ ap (number_at o 4 head_bytes) at
      ∙ number_right o 4 front (drop 12 header) (4 * k - 12)
      ∙ number-drop o 4 header 12 (4 * k - 12)
      ∙ ap (number_at o 4 header) back
      ∙ sym (word_number o header k)

  -- bytes 12 to 255 are those of the given header
  pub header_byte : (i : ℕ) → 12 ≤ i → i < 256 → get_or (grid_bytes o header rows columns values) i 0 ≡ get_or header i 0
  unfolding grid_bytes
  header_byte i from to =
      let at : i ≡ length front + (i - 12) = omega (arith, from, front_length) in
      let back : 12 + (i - 12) ≡ i = omega (arith, from) in
      get_or-append head_bytes data_bytes 0 i (omega (arith, to, head-length))
      ∙ ap (λ (x : ℕ). get_or head_bytes x 0) at
      ∙ get_or-append-add front (drop 12 header) (i - 12) 0
      ∙ get_or-drop 12 header (i - 12) 0
      ∙ ap (λ (x : ℕ). get_or header x 0) back

  -- word 64 + i is value number i, as the 32 bits that it is
  pub value_word : (i : ℕ) → i < length values → SFits w32 (get_or values i (pos 0))
      → word_at o (grid_bytes o header rows columns values) (64 + i) ≡ of_z w32 (get_or values i (pos 0))
  unfolding grid_bytes
  value_word i l fits =
      let at : 4 * (64 + i) ≡ length head_bytes + 4 * i = omega (arith, head-length) in
      let here : get_or (map (of_z w32) values) i 0 ≡ of_z w32 (get_or values i (pos 0)) = get_or-map (of_z w32) values i (pos 0) in
      word_number o (head_bytes ++ data_bytes) (64 + i)
      ∙ ap (number_at o 4 (head_bytes ++ data_bytes)) at
      ∙ number_right o 4 head_bytes data_bytes (4 * i)
      ∙ word_bytes_of o (map (of_z w32) values) i (omega (arith, l, length-map values (of_z w32))) (rw here (Fits-of_z fits).fits)
      ∙ here
