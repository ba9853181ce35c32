-- The parts of a record: where each begins, how many fields it has, and what an output holds that is filled with them one after another.
-- Assumes nothing.
use mathlib.Core.Path.{◌≡◌, refl, sym, ap, ◌∙◌}
use mathlib.Core.List.{List, ◌++◌, append_assoc}
use Rattle.std.specs.Prelude.{Result, Ok, Err}
use Prim.Native.Nat.{ℕ, zero, suc, ◌+◌, ◌-◌, ◌*◌, ◌^◌, ◌≤◌, ◌<◌}
use native.Mathlib.Omega.{arith}
use lib.Dec.{eqb-suc-zero}
use lib.IntN.{ℤ}
use lib.ListN.{length, take, drop, length-append}
use lib.Seq.{take_at, drop_at, drop-drop}
use Rattle.lists.specs.Lists.{part, list_of, over}
use Rattle.lists.proofs.Built.{length-list_of}
use Rattle.lists.proofs.Filled.{length-over}
use Rattle.lists.proofs.Parts.{length-part}
use Rattle.endian_rules.specs.Words.{signed_at}
use Rattle.refusal_rules.specs.Rules.{Hold}
use Rattle.refusal_rules.specs.declared.Refusal.{Refusal}
use Rattle.refusal_rules.proofs.Answers.{gives-refuses, gives-same}
use Rattle.refusal_rules.proofs.Exactness.{within_exactly}
use Rattle.refusal_rules.proofs.Tables.{also}
use Rattle.md_rules.specs.Accepts.{MdOf}
use Rattle.md_rules.specs.Fields.{fields_of, field_word, IsField}
use Rattle.md_rules.specs.declared.MdLayout.{MdLayout}
use Rattle.md_rules.proofs.Fields.{field-inside}
use Rattle.md_rules.specs.Places.{part_word, part_start_of}
use Rattle.md_rules.proofs.Bounds.{md_bounds, md_bounded_lem}
use Rattle.md_rules.proofs.Places.{part_begins}
use Rattle.md_rules.proofs.Sizes.{part_most, field_in_part}
use Rattle.copy_rules.specs.Runs.{words_at}
use Rattle.md_part_rules.specs.Records.{part_fields, record_fields, IsRecord, record_rules}
use Rattle.refusal_rules.specs.Answers.{says}

-- ---- how many fields

-- a row header
pub row_fields : (m : MdLayout) (r : ℕ) → 1 ≤ r → fields_of m r 0 ≡ m.row_keys
unfolding fields_of
row_fields m zero h = let z : ⊥ = omega arith in absurd z
row_fields m (suc r) h = rw (eqb-suc-zero r)

-- a column header
pub column_fields : (m : MdLayout) (c : ℕ) → 1 ≤ c → fields_of m 0 c ≡ m.column_keys
unfolding fields_of
column_fields m zero h = let z : ⊥ = omega arith in absurd z
column_fields m (suc c) h = rw (eqb-suc-zero c)

-- data
pub data_fields : (m : MdLayout) (r c : ℕ) → 1 ≤ r → 1 ≤ c → fields_of m r c ≡ m.data_keys
unfolding fields_of
data_fields m zero c h k = let z : ⊥ = omega arith in absurd z
data_fields m (suc r) zero h k = let z : ⊥ = omega arith in absurd z
data_fields m (suc r) (suc c) h k = rw (eqb-suc-zero r, eqb-suc-zero c)

module _ (f : List ℕ) (m : MdLayout) where
  -- a list of fields has as many elements
  part-length : (r c : ℕ) → length (part_fields f m r c) ≡ fields_of m r c
  unfolding part_fields
  part-length r c = length-list_of (λ k. signed_at m.order f (4 * field_word m r c (k + 1))) (fields_of m r c)

  -- each part of a record
  module _ {r c : ℕ} (is : IsRecord m r c) where
    pub row-length : {l : List ℤ} → l ≡ part_fields f m r 0 → length l ≡ m.row_keys
    row-length e = ap length e ∙ part-length r 0 ∙ row_fields m r is.row_from

    pub column-length : {l : List ℤ} → l ≡ part_fields f m 0 c → length l ≡ m.column_keys
    column-length e = ap length e ∙ part-length 0 c ∙ column_fields m c is.column_from

    pub data_length : {l : List ℤ} → l ≡ part_fields f m r c → length l ≡ m.data_keys
    data_length e = ap length e ∙ part-length r c ∙ data_fields m r c is.row_from is.column_from

  -- ---- where they are

  -- the fields of a part are words, one behind the other
  pub part-words : (r c at n : ℕ) {l : List ℤ} → at ≡ part_word m r c → n ≡ fields_of m r c → l ≡ words_at m.order f (4 * at) 4 n → l ≡ part_fields f m r c
  unfolding part_fields
  part-words r c at n start count same =
      let byte : (i : ℕ) → 4 * at + i * 4 ≡ 4 * field_word m r c (i + 1) = λ i. omega (arith, start, field_in_part m r c (i + 1)) in
      same ∙ (λ t. list_of (λ i. signed_at m.order f (byte i t)) (count t))

  module _ (of : MdOf m.order f m) (r c : ℕ) (row : r ≤ m.rows) (column : c ≤ m.columns) where
    -- they are inside the file
    pub part-inside : (at n : ℕ) → at ≡ part_word m r c → n ≡ fields_of m r c → (i : ℕ) → i < n → 4 * at + i * 4 + 4 ≤ length f
    part-inside at n start count i lt =
        let is : IsField m r c (i + 1) = record { row = row; column = column; from = omega arith; to = omega (arith, count) } in
        omega (arith, start, field_in_part m r c (i + 1), field-inside of.fits is, of.size)

    -- the byte at which they begin is a number of 64 bits
    pub part-small : (at : ℕ) → at ≡ part_word m r c → m.column_start < 4294967296 → m.data_start < 4294967296 → 4 * at < 2 ^ 64
    part-small at start p q =
        omega (arith, start, part_most ((md_bounds m).sound (md_bounded_lem m of.fits)) r c row column p q)

    -- an answer that says where a part begins
    pub part_started : {x : Result ℕ Refusal} {at : ℕ} → says x ≡ part_start_of m r c → x ≡ Ok at → at ≡ part_word m r c
    part_started told value = gives-same (sym (ap says value) ∙ told ∙ part_begins m of.fits r c row column)

    -- is no refusal
    pub part_granted : {A : Type 0} {x : Result ℕ Refusal} {q : Refusal} → says x ≡ part_start_of m r c → x ≡ Err q → A
    part_granted told refused = gives-refuses (sym (part_begins m of.fits r c row column) ∙ sym told ∙ ap says refused)

-- ---- a record

-- where its rules hold, there is such a record
pub record_holds : (m : MdLayout) (r c : ℕ) → Hold (record_rules m r c) → IsRecord m r c
unfolding record_rules
record_holds m r c h =
    let (row_from, row_to) = (within_exactly 1 m.rows r).sound h.0 in
    let (column_from, column_to) = (within_exactly 1 m.columns c).sound h.1.0 in
    record { row_from = row_from; row_to = row_to; column_from = column_from; column_to = column_to }

-- and the other way round
pub holds_record : (m : MdLayout) (r c : ℕ) → IsRecord m r c → Hold (record_rules m r c)
unfolding record_rules
holds_record m r c is =
    also ((within_exactly 1 m.rows r).complete (is.row_from, is.row_to))
    (also ((within_exactly 1 m.columns c).complete (is.column_from, is.column_to)) tt)

-- ---- an output that is filled with three parts, of a, b and d elements

module _ {A : Type 0} where
  -- what is copied further, behind what was copied before
  over_more : (l k out : List A) (i n : ℕ) → length l ≡ i → length k ≡ n
      → take i (over l out) ++ (k ++ drop n (drop i (over l out))) ≡ over (l ++ k) out
  over_more l k out i n e h =
      let size : length (l ++ k) ≡ i + n = length-append l k ∙ omega arith in
      rw (size, e, take_at l (drop i out) i e, drop_at l (drop i out) i e, drop-drop n i out) (sym (append_assoc l k (drop (i + n) out)))

  -- the places of a part of an output into which something was copied
  over-part : (l out now : List A) (i j n : ℕ) → now ≡ over l out → length l ≡ i → j ≡ i + n → j ≤ length out → length (part i (j - i) now) ≡ n
  over-part l out now i j n e size end room =
      length-part i (j - i) now (omega (arith, ap length e ∙ length-over l out (omega arith))) ∙ omega arith

  -- the first part
  module _ (a b d : ℕ) (out p : List A) (room : a + b + d ≤ length out) (first : length p ≡ a) where
    -- it was copied
    first-over : p ++ drop a out ≡ over p out
    first-over = rw first

    -- the second has room behind it
    second_room : length (part a (a + b - a) (p ++ drop a out)) ≡ b
    second_room = over-part p out (p ++ drop a out) a (a + b) b first-over first refl (omega arith)

    -- the second
    module _ (q : List A) (second : length q ≡ b) where
      -- the output after it
      abbrev afterSecond : List A
      afterSecond = take a (p ++ drop a out) ++ (q ++ drop (a + b - a) (drop a (p ++ drop a out)))

      -- both were copied
      second-over : afterSecond ≡ over (p ++ q) out
      second-over =
          ap (λ (l : List A). take a l ++ (q ++ drop (a + b - a) (drop a l))) first-over ∙ over_more p q out a (a + b - a) first (omega arith)

      -- as many elements have both
      both-length : length (p ++ q) ≡ a + b
      both-length = length-append p q ∙ omega arith

      -- the third has room behind them
      third-room : length (part (a + b) (a + b + d - (a + b)) afterSecond) ≡ d
      third-room = over-part (p ++ q) out afterSecond (a + b) (a + b + d) d second-over both-length refl room

      -- with the third, all were copied
      third-over : (s : List A) → length s ≡ d
          → take (a + b) afterSecond ++ (s ++ drop (a + b + d - (a + b)) (drop (a + b) afterSecond)) ≡ over (p ++ (q ++ s)) out
      third-over s third =
          ap (λ (l : List A). take (a + b) l ++ (s ++ drop (a + b + d - (a + b)) (drop (a + b) l))) second-over
          ∙ over_more (p ++ q) s out (a + b) (a + b + d - (a + b)) both-length (omega arith)
          ∙ ap (λ (l : List A). over l out) (append_assoc p q s)

-- ---- an output that is filled with a record

-- a row header p was copied into the output
module _ (f : List ℕ) (m : MdLayout) {r c : ℕ} (is : IsRecord m r c) (out : List ℤ) (room : m.row_keys + m.column_keys + m.data_keys ≤ length out)
    {p : List ℤ} (row : p ≡ part_fields f m r 0) where
  -- a column header has room behind it
  pub column-room : length (part m.row_keys (m.row_keys + m.column_keys - m.row_keys) (p ++ drop m.row_keys out)) ≡ fields_of m 0 c
  column-room =
      second_room m.row_keys m.column_keys m.data_keys out p room (row-length f m is row) ∙ sym (column_fields m c is.column_from)

  -- a column header q was copied behind it
  module _ {q : List ℤ} (column : q ≡ part_fields f m 0 c) where
    -- the output after it
    abbrev headers : List ℤ
    headers =
        afterSecond m.row_keys m.column_keys m.data_keys out p room (row-length f m is row) q (column-length f m is column)

    -- data have room behind it
    pub data_room : length (part (m.row_keys + m.column_keys) (m.row_keys + m.column_keys + m.data_keys - (m.row_keys + m.column_keys)) headers) ≡ fields_of m r c
    data_room =
        third-room m.row_keys m.column_keys m.data_keys out p room (row-length f m is row) q (column-length f m is column)
        ∙ sym (data_fields m r c is.row_from is.column_from)

    -- with data behind it, the record was copied
    pub record_over : {s : List ℤ} → s ≡ part_fields f m r c
        → take (m.row_keys + m.column_keys) headers ++ (s ++ drop (m.row_keys + m.column_keys + m.data_keys - (m.row_keys + m.column_keys)) (drop (m.row_keys + m.column_keys) headers)) ≡ over (record_fields f m r c) out
    unfolding record_fields
    record_over {s} fields =
        third-over m.row_keys m.column_keys m.data_keys out p room (row-length f m is row) q (column-length f m is column) s (data_length f m is fields)
        ∙ (λ t. over (row t ++ (column t ++ fields t)) out)
