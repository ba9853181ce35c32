-- Laws of the listing's text: which blocks it has, how long it is at the most, and how much of a file it depends on.
-- Assumes nothing.
use mathlib.Core.Path.{◌≡◌, refl, ap, ◌∙◌}
use mathlib.Core.Bool.{Bool, true, false}
use mathlib.Core.List.{List, [], ◌∷◌, ◌++◌, map}
use Prim.Native.Nat.{ℕ, ◌+◌, ◌*◌, ◌≤◌, ◌<◌}
use native.Mathlib.Omega.{arith}
use lib.Dec.{ltb}
use lib.ListN.{length, take, length-append, length-map}
use lib.Seq.{take_at, take_all, length-take-le}
use borrow.Author.Tests.{lt-ltb, le-ltb, ltb-true, ltb-false}
use Rattle.lists.specs.Lists.{keep, over}
use Rattle.lists.proofs.Choices.{pick_cases}
use Rattle.lists.proofs.Filled.{length-over}
use Rattle.lists.proofs.Kept.{keep-length}
use Rattle.endian_rules.specs.declared.Order.{Order}
use Rattle.endian_rules.specs.declared.Order.TheVariants.{Big, Little}
use Rattle.refusal_rules.specs.Answers.{Answer, gives, refuses}
use Rattle.copy_rules.specs.Runs.{copied}
use Rattle.copy_rules.proofs.Copies.{copied-over}
use Rattle.area_rules.specs.Blocks.{block_present}
use Rattle.area_rules.specs.Opening.{open_area}
use Rattle.area_rules.specs.declared.AreaLayout.{AreaLayout}
use Rattle.area_rules.specs.declared.Block.{Block}
use Rattle.area_rules.specs.declared.Block.TheVariants.{Dir, Nav, Cal, Aux, Data, Audit}
use Rattle.listing_rules.specs.Decimal.{decimal}
use Rattle.listing_rules.specs.Listing.{by_start, listed_blocks, listed, blocks_of, block_list, listing_of}
use Rattle.listing_rules.specs.Page.{labelled, order_line, layout_lines, block_name, block_line, block_lines, refusal_line, too_long_line, answer_text, listing_text}
use Rattle.listing_rules.specs.declared.BlockList.{BlockList}
use Rattle.listing_rules.specs.declared.Entry.{Entry}
use Rattle.listing_rules.proofs.Decimal.{decimal_most}
use Rattle.listing_rules.proofs.Entries.{length-by_start, length-entries}

-- ---- the blocks

sorted_most : (e : Block → Entry) (t : Block → Bool) (l : List Block) → length (by_start (map e (keep t l))) ≤ length l
sorted_most e t l = omega (arith, length-by_start (map e (keep t l)), length-map (keep t l) e, keep-length t l)

-- there are six at the most
blocks_most : (x : Answer AreaLayout) → length (blocks_of x) ≤ 6
unfolding listed
blocks_most (gives l) = sorted_most _ (block_present l) listed_blocks
blocks_most (refuses n p) = omega arith

-- as the code has them
six_entries : (l : List Entry) → length l ≤ 6 → ((block_list l).count ≤ 6) × (length (block_list l).entries ≡ 6)
unfolding block_list
six_entries l h = (h, length-entries l h)

first-entries : (l : List Entry) → take (block_list l).count (block_list l).entries ≡ l
unfolding block_list
first-entries l = take_at l _ (length l) refl

module _ (f : List ℕ) {x : Answer AreaLayout} {b : BlockList} (e : (x, b) ≡ listing_of f) where
  -- a listing has at most six blocks, in six places
  pub listing_six : (b.count ≤ 6) × (length b.entries ≡ 6)
  unfolding listing_of
  listing_six = rw (ap (λ y. y.1) e) (six_entries (blocks_of (open_area f)) (blocks_most (open_area f)))

  -- the text of a file that is short enough is that of what its listing says
  pub listing_said : length f ≤ 65536 → answer_text x (take b.count b.entries) ≡ listing_text f
  unfolding listing_of listing_text
  listing_said h =
      ap (λ y. answer_text y.0 (take y.1.count y.1.entries)) e
      ∙ ap (answer_text (open_area f)) (first-entries (blocks_of (open_area f)))
      ∙ rw (le-ltb 65536 (length f) h)

-- ---- how long the text is at the most

-- a piece of text has at most n bytes
record Most (l : List ℕ) (n : ℕ) : Type 0 where
  most : length l ≤ n

-- two pieces
both_most : {a b : List ℕ} (m n : ℕ) → Most a m → Most b n → Most (a ++ b) (m + n)
both_most {a} {b} m n h k = record { most = omega (arith, length-append a b, h.most, k.most) }

number_most : (w : List ℕ) (n : ℕ) → Most (labelled w n) (length w + 20)
unfolding labelled
number_most w n = record { most = omega (arith, length-append w (decimal n), decimal_most n) }

end_most : {b : ℕ} → Most (b ∷ []) 1
end_most = record { most = omega arith }

name_most : (b : Block) → Most (block_name b) 5
name_most Dir = record { most = omega arith }
name_most Nav = record { most = omega arith }
name_most Cal = record { most = omega arith }
name_most Aux = record { most = omega arith }
name_most Data = record { most = omega arith }
name_most Audit = record { most = omega arith }

order_most : (o : Order) → Most (order_line o) 12
order_most Big = record { most = omega arith }
order_most Little = record { most = omega arith }

block_most : (e : Entry) → Most (block_line e) 48
unfolding block_line
block_most e = both_most 47 1 (both_most 26 21 (both_most 5 21 (name_most e.block) (number_most _ _)) (number_most _ _)) end_most

lines_most : (l : List Entry) → length (block_lines l) ≤ length l * 48
unfolding block_lines
lines_most [] = omega arith
lines_most (e ∷ l) = omega (arith, length-append (block_line e) (block_lines l), (block_most e).most, lines_most l)

layout_most : (l : AreaLayout) → Most (layout_lines l) 151
unfolding layout_lines
layout_most l =
    both_most 150 1
    (both_most 122 28
    (both_most 95 27
    (both_most 68 27
    (both_most 38 30 (both_most 12 26 (order_most l.order) (number_most _ _)) (number_most _ _))
    (number_most _ _))
    (number_most _ _))
    (number_most _ _))
    end_most

refusal_most : (n p : ℕ) → Most (refusal_line n p) 53
unfolding refusal_line
refusal_most n p = both_most 52 1 (both_most 28 24 (number_most _ _) (number_most _ _)) end_most

answer_most : (x : Answer AreaLayout) (l : List Entry) → length l ≤ 6 → length (answer_text x l) ≤ 439
answer_most (gives a) l h = (both_most {b = block_lines l} 151 288 (layout_most a) (record { most = omega (arith, lines_most l, h) })).most
answer_most (refuses n p) l h = omega (arith, (refusal_most n p).most)

-- no listing has more than 439 bytes
pub listing_most : (f : List ℕ) → length (listing_text f) ≤ 439
unfolding listing_text
listing_most f =
    pick_cases (λ l. length l ≤ 439) (ltb 65536 (length f)) too_long_line (answer_text (open_area f) (blocks_of (open_area f)))
    (λ e. omega arith)
    (λ e. answer_most (open_area f) (blocks_of (open_area f)) (blocks_most (open_area f)))

-- so an output of 512 places is never too short: the answer is the length of the listing, and so many bytes stand in the output
pub listing_fits : (f out : List ℕ) {x : Answer ℕ} {after : List ℕ} → (x, after) ≡ copied (gives (listing_text f)) out → 512 ≤ length out
    → (x ≡ gives (length (listing_text f))) × (length (listing_text f) ≤ length after)
listing_fits f out {x} {after} e h =
    let fits : length (listing_text f) ≤ length out = omega (arith, listing_most f, h) in
    let whole = e ∙ copied-over (listing_text f) out fits in
    let long : length after ≡ length (over (listing_text f) out) = ap (λ y. length y.1) whole in
    (ap (λ y. y.0) whole, omega (arith, fits, long, length-over (listing_text f) out fits))

-- ---- how much of a file it depends on

-- a file of more than 65,536 bytes is too long
pub listing_too_long : (f : List ℕ) → 65536 < length f → listing_text f ≡ too_long_line
unfolding listing_text
listing_too_long f h = rw (lt-ltb 65536 (length f) h)

-- the listing of a file is that of its first 65,537 bytes, so a program that reads these lists the whole
pub listing_enough : (f : List ℕ) → listing_text (take 65537 f) ≡ listing_text f
listing_enough f = step (ltb 65536 (length f)) refl
  where
    step : (t : Bool) → ltb 65536 (length f) ≡ t → listing_text (take 65537 f) ≡ listing_text f
    step true e =
        let above : 65536 < length f = ltb-true 65536 (length f) e in
        rw (listing_too_long f above, listing_too_long (take 65537 f) (omega (arith, length-take-le 65537 f above)))
    step false e = ap listing_text (take_all 65537 f (omega (arith, ltb-false 65536 (length f) e)))
