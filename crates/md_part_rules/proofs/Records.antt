-- What is promised of a record that is copied: it has K words, those of its row header, its column header and its data.
-- Assumes nothing.
use mathlib.Core.Path.{◌≡◌, refl, sym, ap, ◌∙◌}
use mathlib.Core.Logic.{◌↔◌}
use mathlib.Core.List.{List, ◌++◌}
use Prim.Native.Nat.{ℕ, ◌+◌, ◌-◌, ◌*◌, ◌≤◌, ◌<◌}
use native.Mathlib.Omega.{arith}
use lib.IntN.{ℤ, pos}
use lib.ListN.{length, get_or, length-append, get_or-append}
use lib.Seq.{get_or-append-add}
use Rattle.lists.proofs.Built.{get_or-list_of}
use Rattle.endian_rules.specs.Words.{signed_at}
use Rattle.refusal_rules.specs.Answers.{gives, refuses}
use Rattle.refusal_rules.proofs.Answers.{then_gives, then_never, value_exactly, never_refused, above_seven, nine}
use Rattle.md_rules.specs.Accepts.{MdFits}
use Rattle.md_rules.specs.Fields.{fields_of, field_word}
use Rattle.md_rules.specs.declared.MdLayout.{MdLayout}
use Rattle.layout_rules.specs.Found.{md_of}
use Rattle.layout_rules.specs.Layouts.{Fresh}
use Rattle.layout_rules.specs.declared.Layout.{Layout}
use Rattle.layout_rules.proofs.OneKind.{md_known, md_nine, md_ten}
use Rattle.copy_rules.proofs.Copies.{copied_nine, copied_ten}
use Rattle.md_part_rules.specs.Records.{part_fields, record_fields, IsRecord, record_rules, record_in, record_of, copy_record}
use Rattle.md_part_rules.proofs.Fills.{row_fields, column_fields, data_fields, record_holds, holds_record, row-length, column-length, data_length}

-- a record has K words
pub record_length : (f : List ℕ) (m : MdLayout) → MdFits m → {r c : ℕ} → IsRecord m r c → length (record_fields f m r c) ≡ m.keys
unfolding record_fields
record_length f m fits {r} {c} is =
    length-append (part_fields f m r 0) (part_fields f m 0 c ++ part_fields f m r c)
    ∙ omega (
      arith,
      length-append (part_fields f m 0 c) (part_fields f m r c),
      row-length f m is {l = part_fields f m r 0} refl,
      column-length f m is {l = part_fields f m 0 c} refl,
      data_length f m is {l = part_fields f m r c} refl,
      fits.sum,
    )

-- ---- the words of a record

-- field k of a part is its word k, counted from 1
part_word_lem : (f : List ℕ) (m : MdLayout) (r c k : ℕ) → 1 ≤ k → k ≤ fields_of m r c
    → get_or (part_fields f m r c) (k - 1) (pos 0) ≡ signed_at m.order f (4 * field_word m r c k)
unfolding part_fields
part_word_lem f m r c k from to =
    let place : k - 1 + 1 ≡ k = omega arith in
    get_or-list_of (λ i. signed_at m.order f (4 * field_word m r c (i + 1))) (fields_of m r c) (k - 1) (pos 0) (omega arith)
    ∙ ap (λ (i : ℕ). signed_at m.order f (4 * field_word m r c i)) place

module _ (f : List ℕ) (m : MdLayout) {r c : ℕ} (is : IsRecord m r c) (k : ℕ) (from : 1 ≤ k) where
  -- the words of the row header
  pub row_word_lem : k ≤ m.row_keys → get_or (record_fields f m r c) (k - 1) (pos 0) ≡ signed_at m.order f (4 * field_word m r 0 k)
  unfolding record_fields
  row_word_lem to =
      let size = row-length f m is {l = part_fields f m r 0} refl in
      get_or-append (part_fields f m r 0) (part_fields f m 0 c ++ part_fields f m r c) (pos 0) (k - 1) (omega (arith, size))
      ∙ part_word_lem f m r 0 k from (omega (arith, row_fields m r is.row_from))

  -- what stands behind the row header
  behind-row : (i : ℕ) → get_or (record_fields f m r c) (m.row_keys + i) (pos 0) ≡ get_or (part_fields f m 0 c ++ part_fields f m r c) i (pos 0)
  unfolding record_fields
  behind-row i =
      ap (λ (n : ℕ). get_or (record_fields f m r c) (n + i) (pos 0)) (sym (row-length f m is {l = part_fields f m r 0} refl))
      ∙ get_or-append-add (part_fields f m r 0) (part_fields f m 0 c ++ part_fields f m r c) i (pos 0)

  -- of the column header
  pub column_word_lem : k ≤ m.column_keys → get_or (record_fields f m r c) (m.row_keys + (k - 1)) (pos 0) ≡ signed_at m.order f (4 * field_word m 0 c k)
  column_word_lem to =
      let size = column-length f m is {l = part_fields f m 0 c} refl in
      behind-row (k - 1)
      ∙ get_or-append (part_fields f m 0 c) (part_fields f m r c) (pos 0) (k - 1) (omega (arith, size))
      ∙ part_word_lem f m 0 c k from (omega (arith, column_fields m c is.column_from))

  -- of the data
  pub data_word_lem : k ≤ m.data_keys
      → get_or (record_fields f m r c) (m.row_keys + m.column_keys + (k - 1)) (pos 0) ≡ signed_at m.order f (4 * field_word m r c k)
  data_word_lem to =
      let at : m.row_keys + m.column_keys + (k - 1) ≡ m.row_keys + (length (part_fields f m 0 c) + (k - 1)) =
      omega (arith, column-length f m is {l = part_fields f m 0 c} refl) in
      ap (λ (i : ℕ). get_or (record_fields f m r c) i (pos 0)) at
      ∙ behind-row (length (part_fields f m 0 c) + (k - 1))
      ∙ get_or-append-add (part_fields f m 0 c) (part_fields f m r c) (k - 1) (pos 0)
      ∙ part_word_lem f m r c k from (omega (arith, data_fields m r c is.row_from is.column_from))

-- key k of the row header is the same word in the records of every column
pub row-key-same : (f : List ℕ) (m : MdLayout) {r c d : ℕ} → IsRecord m r c → IsRecord m r d → (k : ℕ) → 1 ≤ k → k ≤ m.row_keys
    → get_or (record_fields f m r c) (k - 1) (pos 0) ≡ get_or (record_fields f m r d) (k - 1) (pos 0)
row-key-same f m here there k from to = row_word_lem f m here k from to ∙ sym (row_word_lem f m there k from to)

-- and key k of the column header in those of every row
pub column-key-same : (f : List ℕ) (m : MdLayout) {r s c : ℕ} → IsRecord m r c → IsRecord m s c → (k : ℕ) → 1 ≤ k → k ≤ m.column_keys
    → get_or (record_fields f m r c) (m.row_keys + (k - 1)) (pos 0) ≡ get_or (record_fields f m s c) (m.row_keys + (k - 1)) (pos 0)
column-key-same f m here there k from to = column_word_lem f m here k from to ∙ sym (column_word_lem f m there k from to)

-- ---- a refused copy

-- the record of an accepted file is refused with no number above 7
record_never : (f : List ℕ) (m : MdLayout) (r c n : ℕ) → 7 < n → ¬ (record_in f m r c ≡ refuses n 0)
unfolding record_in record_rules
record_never f m r c n h = never_refused (record_rules m r c) (record_fields f m r c) n 0 (above_seven h, (above_seven h, tt))

module _ (f : List ℕ) (l : Layout) (r c : ℕ) (out : List ℤ) where
  -- a copy of a record is refused with 9 exactly where the layout is stale
  pub record_stale : ((copy_record f l r c out).0 ≡ refuses 9 0) ↔ (¬ Fresh f l)
  record_stale = copied_nine (record_of f l r c) out (md_nine f l (λ m. record_in f m r c) (λ m. record_never f m r c 9 nine))

  -- it is refused with 10 exactly where there is such a record, and the output has fewer places than the record has keys
  pub record_short : ((copy_record f l r c out).0 ≡ refuses 10 0) ↔ ((m : MdLayout) × (md_of f l ≡ gives m) × (IsRecord m r c × (length out < m.keys)))
  unfolding record_in
  record_short =
      let never = then_never (λ m. record_in f m r c) (md_of f l) 10 0 (md_ten f l) (λ m. record_never f m r c 10 (omega arith)) in
      let y = copied_ten (record_of f l r c) out never in (
        λ e.
            let (xs, given, short) = y.0 e in
            let (m, found, value) = (then_gives (λ m. record_in f m r c) (md_of f l) xs).0 given in
            let (hold, same) = (value_exactly (record_rules m r c) (record_fields f m r c) xs).0 value in
            let is : IsRecord m r c = record_holds m r c hold in
            (m, found, (is, omega (arith, short, ap length same, record_length f m (md_known f l m found).fits is))),
        λ p.
            let (m, found, (is, short)) = p in
            y.1 (
              record_fields f m r c,
              (then_gives (λ m. record_in f m r c) (md_of f l) (record_fields f m r c)).1
                  (m, found, (value_exactly (record_rules m r c) (record_fields f m r c) (record_fields f m r c)).1 (holds_record m r c is, refl)),
              omega (arith, short, record_length f m (md_known f l m found).fits is),
            ),
      )
