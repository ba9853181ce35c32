-- Each word that a copy of a record writes is what the single read of the same field answers.
-- Assumes nothing.
use mathlib.Core.Path.{◌≡◌, sym, ap, ◌∙◌}
use mathlib.Core.Logic.{◌↔◌}
use mathlib.Core.List.{List}
use Prim.Native.Nat.{ℕ, ◌+◌, ◌-◌, ◌*◌, ◌≤◌, ◌<◌}
use native.Mathlib.Decide.{dec_lt}
use native.Mathlib.Omega.{arith}
use lib.IntN.{ℤ, pos}
use lib.ListN.{length, get_or}
use lib.Seq.{ext_get_or}
use Rattle.endian_rules.specs.Words.{signed_at}
use Rattle.refusal_rules.specs.Answers.{Answer, gives}
use Rattle.refusal_rules.proofs.Answers.{gives-same, value_exactly}
use Rattle.md_rules.specs.Accepts.{MdFits}
use Rattle.md_rules.specs.Fields.{fields_of, field_word}
use Rattle.md_rules.specs.Opening.{open_md}
use Rattle.md_rules.specs.declared.MdLayout.{MdLayout}
use Rattle.md_rules.proofs.Facts.{md_of_lem}
use Rattle.layout_rules.specs.declared.Layout.{Layout}
use Rattle.layout_rules.specs.declared.Layout.TheVariants.{Md}
use Rattle.layout_rules.proofs.OneKind.{md_then}
use Rattle.md_part_rules.specs.Records.{record_fields, IsRecord, record_rules, record_in, record_of}
use Rattle.md_part_rules.proofs.Fills.{row_fields, column_fields, data_fields, record_holds, holds_record}
use Rattle.value_rules.specs.Reading.{read_field}
use Rattle.value_rules.proofs.Reading.{field_exactly}
use Rattle.md_part_rules.proofs.Records.{record_length, row_word_lem, column_word_lem, data_word_lem}

-- ---- the single reads

module _ (f : List ℕ) (l : Layout) (m : MdLayout) (layout : l ≡ Md m) (opens : open_md m.order f ≡ gives m) {r c : ℕ} (is : IsRecord m r c) where
  -- the single read of a field gives its word
  field-read : (s d k : ℕ) → s ≤ m.rows → d ≤ m.columns → 1 ≤ k → k ≤ fields_of m s d → {v : ℤ} → v ≡ signed_at m.order f (4 * field_word m s d k)
      → read_field f l s d k ≡ gives v
  field-read s d k row column from to {v} value =
      (field_exactly f l s d k v).1
      (record { md = m; layout = layout; opens = opens; is = record { row = row; column = column; from = from; to = to }; value = value })

  -- word k of a record, counted from 1, is field k of its row header
  pub record_row : (k : ℕ) → 1 ≤ k → k ≤ m.row_keys → read_field f l r 0 k ≡ gives (get_or (record_fields f m r c) (k - 1) (pos 0))
  record_row k from to =
      field-read r 0 k is.row_to (omega arith) from (omega (arith, row_fields m r is.row_from)) (row_word_lem f m is k from to)

  -- word a + k is field k of its column header
  pub record_column : (k : ℕ) → 1 ≤ k → k ≤ m.column_keys
      → read_field f l 0 c k ≡ gives (get_or (record_fields f m r c) (m.row_keys + (k - 1)) (pos 0))
  record_column k from to =
      field-read 0 c k (omega arith) is.column_to from (omega (arith, column_fields m c is.column_from)) (column_word_lem f m is k from to)

  -- word a + b + k is field k of its data
  pub record_data : (k : ℕ) → 1 ≤ k → k ≤ m.data_keys
      → read_field f l r c k ≡ gives (get_or (record_fields f m r c) (m.row_keys + m.column_keys + (k - 1)) (pos 0))
  record_data k from to =
      field-read r c k is.row_to is.column_to from (omega (arith, data_fields m r c is.row_from is.column_from)) (data_word_lem f m is k from to)

-- ---- a record of a file

-- the record of (r, c) of a file: the layout is an MD layout that opening the file gives, there is such a record, it has K words, and its words are what the
-- single reads of its row header, its column header and its data give, in this order
pub record RecordOf (f : List ℕ) (l : Layout) (r c : ℕ) (xs : List ℤ) : Type 0 where
  pub md : MdLayout
  pub layout : l ≡ Md md
  pub opens : open_md md.order f ≡ gives md
  pub is : IsRecord md r c
  pub size : length xs ≡ md.keys
  pub row-header : (k : ℕ) → 1 ≤ k → k ≤ md.row_keys → read_field f l r 0 k ≡ gives (get_or xs (k - 1) (pos 0))
  pub column-header : (k : ℕ) → 1 ≤ k → k ≤ md.column_keys → read_field f l 0 c k ≡ gives (get_or xs (md.row_keys + (k - 1)) (pos 0))
  pub fields : (k : ℕ) → 1 ≤ k → k ≤ md.data_keys
      → read_field f l r c k ≡ gives (get_or xs (md.row_keys + md.column_keys + (k - 1)) (pos 0))

-- two lists of which one answer gives the element have the same element
same-element : (x : Answer ℤ) (xs ys : List ℤ) {i j : ℕ} → i ≡ j → x ≡ gives (get_or xs j (pos 0)) → x ≡ gives (get_or ys j (pos 0))
    → get_or xs i (pos 0) ≡ get_or ys i (pos 0)
same-element x xs ys e p q =
    ap (λ (n : ℕ). get_or xs n (pos 0)) e ∙ gives-same (sym p ∙ q) ∙ ap (λ (n : ℕ). get_or ys n (pos 0)) (sym e)

module _ (f : List ℕ) (l : Layout) (r c : ℕ) where
  -- no other list has these words
  only_record : (xs : List ℤ) (p : RecordOf f l r c xs) → xs ≡ record_fields f p.md r c
  only_record xs p =
      ext_get_or (pos 0) xs ys (p.size ∙ sym (record_length f m fits p.is))
      (λ i lt. word i lt (dec_lt i m.row_keys) (dec_lt i (m.row_keys + m.column_keys)))
    where
      m : MdLayout
      m = p.md

      ys : List ℤ
      ys = record_fields f p.md r c

      fits : MdFits p.md
      fits = (md_of_lem p.md.order f p.md p.opens).fits

      word : (i : ℕ) → i < length xs → Dec (i < p.md.row_keys) → Dec (i < p.md.row_keys + p.md.column_keys) → get_or xs i (pos 0) ≡ get_or ys i (pos 0)
      word i lt (yes h) d =
          let k : ℕ = i + 1 in
          same-element (read_field f l r 0 k) xs ys (omega arith) (p.row-header k (omega arith) (omega arith))
          (record_row f l m p.layout p.opens p.is k (omega arith) (omega arith))
      word i lt (no g) (yes h) =
          let k : ℕ = i - m.row_keys + 1 in
          same-element (read_field f l 0 c k) xs ys (omega arith) (p.column-header k (omega arith) (omega arith))
          (record_column f l m p.layout p.opens p.is k (omega arith) (omega arith))
      word i lt (no g) (no h) =
          let k : ℕ = i - (m.row_keys + m.column_keys) + 1 in
          let to : k ≤ m.data_keys = omega (arith, p.size, fits.sum) in
          same-element (read_field f l r c k) xs ys (omega arith) (p.fields k (omega arith) to)
          (record_data f l m p.layout p.opens p.is k (omega arith) to)

  -- a file has a record, and gives it, exactly where its words are these
  pub record_exactly : (xs : List ℤ) → (record_of f l r c ≡ gives xs) ↔ RecordOf f l r c xs
  unfolding record_in
  record_exactly xs = (
    λ e.
        let (m, (layout, opens), value) = (md_then f l (λ m. record_in f m r c) xs).0 e in
        let (hold, same) = (value_exactly (record_rules m r c) (record_fields f m r c) xs).0 value in
        let is : IsRecord m r c = record_holds m r c hold in
        record {
          md = m;
          layout = layout;
          opens = opens;
          is = is;
          size = ap length same ∙ record_length f m (md_of_lem m.order f m opens).fits is;
          row-header = λ k from to. record_row f l m layout opens is k from to ∙ along same (k - 1);
          column-header = λ k from to. record_column f l m layout opens is k from to ∙ along same (m.row_keys + (k - 1));
          fields = λ k from to. record_data f l m layout opens is k from to ∙ along same (m.row_keys + m.column_keys + (k - 1));
        },
    λ p.
        let m : MdLayout = p.md in
        (md_then f l (λ m. record_in f m r c) xs).1 (
          m,
          (p.layout, p.opens),
          (value_exactly (record_rules m r c) (record_fields f m r c) xs).1 (holds_record m r c p.is, only_record xs p),
        ),
  )
    where
      along : {xs ys : List ℤ} → xs ≡ ys → (i : ℕ) → gives (get_or ys i (pos 0)) ≡ gives (get_or xs i (pos 0))
      along e i = ap (λ (zs : List ℤ). gives (get_or zs i (pos 0))) (sym e)
