-- Laws of a text that bytes are appended to.
-- Assumes nothing.
use mathlib.Core.Path.{◌≡◌, refl, sym, ap, ap₂, ◌∙◌}
use mathlib.Core.List.{List, [], ◌∷◌, ◌++◌, append-nil}
use Prim.Native.Nat.{ℕ, zero, suc, ◌+◌, ◌≤◌, ◌<◌}
use native.Mathlib.Numerals.{add-one}
use native.Mathlib.Omega.{arith}
use lib.ListN.{length, get_or, set, take, drop, length-append, length-set, length-replicate}
use lib.Seq.{drop-cons, drop-length, take-suc, take-suc-set, append_snoc}
use borrow.Author.Tests.{lt-ltb}
use Rattle.lists.specs.Lists.{list_of}
use Rattle.listing_rules.specs.Page.{block_line, block_lines}
use Rattle.listing_rules.specs.Steps.{empty_text, append_byte, append_bytes}
use Rattle.listing_rules.specs.declared.Entry.{Entry}
use Rattle.listing_rules.specs.declared.Text.{Text}

-- ---- bytes one after another

-- bytes behind other bytes
pub append_more : (t : Text) (l m : List ℕ) → append_bytes t (l ++ m) ≡ append_bytes (append_bytes t l) m
unfolding append_bytes
append_more t [] m = refl
append_more t (b ∷ l) m = append_more (append_byte t b) l m

-- a piece behind a text that has the pieces before it
append_piece : {s : Text} (t : Text) (a b : List ℕ) → s ≡ append_bytes t a → append_bytes s b ≡ append_bytes t (a ++ b)
append_piece t a b e = ap (λ x. append_bytes x b) e ∙ sym (append_more t a b)

-- three pieces, one after another
pub append_three : (t : Text) (a b c : List ℕ) → append_bytes (append_bytes (append_bytes t a) b) c ≡ append_bytes t (a ++ b ++ c)
append_three t a b c = append_piece t (a ++ b) c (append_piece t a b refl)

-- four
pub append_four : (t : Text) (a b c d : List ℕ) → append_bytes (append_bytes (append_bytes (append_bytes t a) b) c) d ≡ append_bytes t (a ++ b ++ c ++ d)
append_four t a b c d = append_piece t (a ++ b ++ c) d (append_three t a b c)

-- seven
pub append_seven : (t : Text) (a b c d e f g : List ℕ)
    → append_bytes (append_bytes (append_bytes (append_bytes (append_bytes (append_bytes (append_bytes t a) b) c) d) e) f) g
    ≡ append_bytes t (a ++ b ++ c ++ d ++ e ++ f ++ g)
append_seven t a b c d e f g =
    append_piece t (a ++ b ++ c ++ d ++ e ++ f) g
    (append_piece t (a ++ b ++ c ++ d ++ e) f (append_piece t (a ++ b ++ c ++ d) e (append_four t a b c d)))

-- the byte at an index and those behind it are those from the index on
pub append-next : (t : Text) (l : List ℕ) (i d : ℕ) → i < length l → append_bytes (append_byte t (get_or l i d)) (drop (i + 1) l) ≡ append_bytes t (drop i l)
unfolding append_bytes
append-next t l i d h = rw (add-one i, drop-cons l i d h)

-- behind the last byte there are none
pub append-none : (t : Text) (l : List ℕ) (i : ℕ) → i ≡ length l → t ≡ append_bytes t (drop i l)
unfolding append_bytes
append-none t l i e = rw (e, drop-length l)

-- the line of the block at an index and those of the blocks behind it are those from the index on
pub append_block : (t : Text) (l : List Entry) (i : ℕ) (d : Entry) → i < length l
    → append_bytes (append_bytes t (block_line (get_or l i d))) (block_lines (drop (i + 1) l)) ≡ append_bytes t (block_lines (drop i l))
unfolding block_lines
append_block t l i d h = rw (add-one i, drop-cons l i d h) (sym (append_more t (block_line (get_or l i d)) (block_lines (drop (suc i) l))))

-- behind the last block there are no lines
pub append_no_block : (t : Text) (l : List Entry) (i : ℕ) → i ≡ length l → t ≡ append_bytes t (block_lines (drop i l))
unfolding block_lines append_bytes
append_no_block t l i e = rw (e, drop-length l)

-- ---- what a text has

-- the bytes of a text are l
pub record TextIs (t : Text) (l : List ℕ) : Type 0 where
  pub count : t.count ≡ length l
  pub front : take (length l) t.bytes ≡ l
  pub room : length t.bytes ≡ 512

-- the empty text has none
empty_is : TextIs empty_text []
unfolding empty_text
empty_is = record { count = refl; front = refl; room = length-replicate {A = ℕ} 512 0 }

-- a byte more
byte_is : (t : Text) (l : List ℕ) (b : ℕ) → TextIs t l → length l < 512 → TextIs (append_byte t b) (l ++ b ∷ [])
unfolding append_byte
byte_is t l b x h =
    rw (lt-ltb t.count 512 (omega (arith, x.count)))
    (record {
      count = omega (arith, x.count, length-append l (b ∷ []));
      front =
          ap₂ (λ (n i : ℕ). take n (set t.bytes i b)) more x.count
          ∙ take-suc-set t.bytes (length l) b (omega (arith, x.room))
          ∙ ap (λ (m : List ℕ). m ++ b ∷ []) x.front;
      room = length-set t.bytes t.count b ∙ x.room;
    })
  where
    more : length (l ++ b ∷ []) ≡ suc (length l)
    more = omega (arith, length-append l (b ∷ []))

-- bytes more
bytes_are : (t : Text) (l m : List ℕ) → TextIs t l → length l + length m ≤ 512 → TextIs (append_bytes t m) (l ++ m)
unfolding append_bytes
bytes_are t l [] x h = rw (append-nil l) x
bytes_are t l (b ∷ m) x h =
    let more : length (l ++ b ∷ []) ≡ suc (length l) = omega (arith, length-append l (b ∷ [])) in
    rw (← append_snoc l b m)
    (bytes_are (append_byte t b) (l ++ b ∷ []) m (byte_is t l b x (omega (arith, h))) (omega (arith, h, more)))

-- the text that at most 512 bytes make
pub text_is : (l : List ℕ) → length l ≤ 512 → TextIs (append_bytes empty_text l) l
text_is l h = bytes_are empty_text [] l empty_is (omega arith)

-- the first n elements of a list, each by its index
list_of-take : (l : List ℕ) (n d : ℕ) → n ≤ length l → list_of (λ i. get_or l i d) n ≡ take n l
unfolding list_of
list_of-take l zero d h = refl
list_of-take l (suc n) d h = ap (λ (m : List ℕ). m ++ get_or l n d ∷ []) (list_of-take l n d (omega arith)) ∙ sym (take-suc l n d h)

-- the bytes of a text, each by its index
pub text_list_of : {t : Text} {l : List ℕ} → TextIs t l → length l ≤ 512 → list_of (λ i. get_or t.bytes i 0) t.count ≡ l
text_list_of {t} {l} x h =
    list_of-take t.bytes t.count 0 (omega (arith, x.count, x.room)) ∙ ap (λ (n : ℕ). take n t.bytes) x.count ∙ x.front
