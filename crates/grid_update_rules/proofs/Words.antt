-- What a store at a word address leaves, over any file: of a word that is set to a raw number, and of bytes that are put at a word. Every law is over the order.
-- Assumes nothing.
use mathlib.Core.Path.{◌≡◌, sym, ap, ◌∙◌}
use mathlib.Core.Logic.{inl, inr, ⊎_elim}
use mathlib.Core.List.{List}
use Prim.Native.Nat.{ℕ, ◌+◌, ◌*◌, ◌^◌, ◌≤◌, ◌<◌}
use native.Mathlib.Omega.{arith}
use lib.ListN.{length, get_or}
use lib.Seq.{sets}
use Rattle.lists.specs.Lists.{Outside, Apart}
use Rattle.lists.proofs.Stores.{sets-outside, part_stored, part-apart}
use Rattle.endian_rules.specs.Numbers.{decode, number_at}
use Rattle.endian_rules.specs.Words.{word_at}
use Rattle.endian_rules.specs.declared.Order.{Order}
use Rattle.endian_rules.proofs.Places.{number-part, words-apart, read_back_lem, byte_frame, number_frame, write-length}
use Rattle.grid_update_rules.specs.Updates.{set_word}

module _ (o : Order) (f : List ℕ) (k n : ℕ) where
  -- the file is as long as it was
  pub set-length : length (set_word o f k n) ≡ length f
  unfolding set_word
  set-length = write-length o 4 f (4 * k) n

  -- the word that is set is read back, where it is inside the file and the number fits
  pub set_here : 4 * k + 4 ≤ length f → n < 2 ^ 32 → word_at o (set_word o f k n) k ≡ n
  unfolding set_word word_at
  set_here inside fits = read_back_lem o 4 f (4 * k) n inside fits

  -- every other word is as it was
  pub set_other : (j : ℕ) → ¬ (j ≡ k) → word_at o (set_word o f k n) j ≡ word_at o f j
  unfolding set_word word_at
  set_other j other = number_frame o o 4 4 f (4 * k) n (4 * j) (words-apart j k other)

  -- and so is every byte outside the word
  pub set_byte : (i : ℕ) → Outside i (4 * k) 4 → get_or (set_word o f k n) i 0 ≡ get_or f i 0
  unfolding set_word
  set_byte i out = byte_frame o 4 f (4 * k) n i out

-- m words of bytes, put at word a of a file
module _ (o : Order) (f bytes : List ℕ) (a m : ℕ) (size : length bytes ≡ 4 * m) where
  -- word a + i is word i of the bytes, where they lie inside the file
  pub put_here : 4 * (a + m) ≤ length f → (i : ℕ) → i < m → word_at o (sets f (4 * a) bytes) (a + i) ≡ word_at o bytes i
  unfolding word_at
  put_here inside i l =
      let at : 4 * (a + i) ≡ 4 * a + 4 * i = omega arith in
      ap (number_at o 4 (sets f (4 * a) bytes)) at
      ∙ sym (number-part o 4 (sets f (4 * a) bytes) (4 * a) (length bytes) (4 * i) (omega arith))
      ∙ ap (λ (l : List ℕ). number_at o 4 l (4 * i)) (part_stored bytes f (4 * a) 0 (omega arith))

  -- every other word is as it was
  pub put_other : (j : ℕ) → Outside j a m → word_at o (sets f (4 * a) bytes) j ≡ word_at o f j
  unfolding word_at number_at
  put_other j out =
      let apart : Apart (4 * j) 4 (4 * a) (length bytes) = ⊎_elim (λ l. inl (omega arith)) (λ l. inr (omega arith)) out in
      ap (decode o) (part-apart bytes f (4 * a) (4 * j) 4 0 apart)

  -- and so is every byte outside those words
  pub put_byte : (i : ℕ) → Outside i (4 * a) (4 * m) → get_or (sets f (4 * a) bytes) i 0 ≡ get_or f i 0
  put_byte i out = sets-outside bytes f (4 * a) i 0 (rw size out)
