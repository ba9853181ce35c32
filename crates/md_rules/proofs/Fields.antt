-- Where the fields of an MD file lie, and that a word is the word of one field only. Each part of the file but the user record is so many lines
-- of so many words each; the line and the position in it are a quotient and a remainder. From the word a field's name can be computed, so no
-- two fields have one word.
-- Assumes nothing.
use mathlib.Core.Path.{◌≡◌, refl, sym, ap, ◌∙◌}
use mathlib.Core.Logic.{◌⊎◌, inl, inr, ⊎_elim}
use Prim.Native.Nat.{ℕ, zero, suc, ◌+◌, ◌-◌, ◌*◌, ◌/◌, ◌%◌, ◌≤◌, ◌<◌}
use native.Mathlib.Omega.{arith}
use lib.Arith.{digits_div, digits_mod}
use lib.Dec.{ltb, eqb-suc-zero}
use borrow.Author.Tests.{lt-ltb, le-ltb}
use Rattle.lists.specs.Choices.{pick}
use Rattle.lists.specs.Lists.{Apart}
use Rattle.lists.proofs.Rows.{row-before}
use Rattle.endian_rules.proofs.Places.{words-apart}
use Rattle.md_rules.specs.Accepts.{MdFits}
use Rattle.md_rules.specs.Fields.{user_word, row_word, column_word, data_word, fields_of, field_word, IsField}
use Rattle.md_rules.specs.declared.MdLayout.{MdLayout}

-- ---- n lines of d words each, the first at `start`

-- a word of the lines: where it is, its line and its position in it, both counted from 0
record InLines (start d stop x line position : ℕ) : Type 0 where
  low : start ≤ x
  high : x < stop
  line_is : (x - start) / d ≡ line
  position_is : (x - start) % d ≡ position

in_lines : (start n d stop i j : ℕ) → stop ≡ start + n * d → i < n → j < d → InLines start d stop (start + i * d + j) i j
in_lines start n d stop i j e h k =
    let along : start + i * d + j - start ≡ i * d + j = omega arith in
    record {
      low = omega arith;
      high = omega (arith, row-before d i n h);
      line_is = ap (λ (x : ℕ). x / d) along ∙ digits_div i k;
      position_is = ap (λ (x : ℕ). x % d) along ∙ digits_mod i k;
    }

-- ---- the field that a word is

-- the row, the column and the position
unfoldable name_at : MdLayout → ℕ → ℕ × (ℕ × ℕ)
name_at l x =
    pick (ltb x 464) (0, (0, x - 64 + 1))
    (pick (ltb x l.column_start) ((x - 4096) / l.row_keys + 1, (0, (x - 4096) % l.row_keys + 1))
    (pick (ltb x l.data_start) (0, ((x - l.column_start) / l.column_keys + 1, (x - l.column_start) % l.column_keys + 1)) (
      (x - l.data_start) / l.data_keys / l.columns + 1,
      ((x - l.data_start) / l.data_keys % l.columns + 1, (x - l.data_start) % l.data_keys + 1),
    )))

-- a field's word is one of the user record's, or past the header
abbrev pub FieldPlaces : ℕ → Type 0
FieldPlaces x = ((64 ≤ x) × (x < 464)) ⊎ (4096 ≤ x)

-- x is the word of field f of (r, c): where it lies, and the field's name, computed from the word
record Found (l : MdLayout) (r c f x : ℕ) : Type 0 where
  places : FieldPlaces x
  inside : 4 * x + 4 ≤ l.length
  small : x < 2147483648
  name : name_at l x ≡ (r, (c, f))

-- names of fields that agree in each part are the same
named : {r s c d f g : ℕ} → r ≡ s → c ≡ d → f ≡ g → ◌≡◌ {A = ℕ × (ℕ × ℕ)} (r, (c, f)) (s, (d, g))
named p q e = λ i. (p i, (q i, e i))

-- rows, columns and positions are counted from 1, lines from 0
from_one : (n : ℕ) → 1 ≤ n → n - 1 + 1 ≡ n
from_one n h = omega arith

-- ---- part by part

module _ (l : MdLayout) (k : MdFits l) where
  -- past the header and before the end of the data
  past_header : (r c f x : ℕ) → 4096 ≤ x → x < l.data_start + l.rows * l.columns * l.data_keys → name_at l x ≡ (r, (c, f)) → Found l r c f x
  past_header r c f x low high e =
      record { places = inr low; inside = omega (arith, k.room); small = omega (arith, k.small); name = e }

  -- the user record
  user_found : (f : ℕ) → 1 ≤ f → f ≤ 400 → Found l 0 0 f (user_word f)
  unfolding name_at
  user_found f low high =
      let whole : 4096 ≤ l.data_start = omega (arith, k.column_start, k.data_start) in
      let first : user_word f < 464 = omega arith in
      record {
        places = inl (omega arith, first);
        inside = omega (arith, k.room);
        small = omega arith;
        name = rw (lt-ltb (user_word f) 464 first) (named refl refl (omega arith));
      }

  -- row headers
  row-found : (r f : ℕ) → 1 ≤ r → r ≤ l.rows → 1 ≤ f → f ≤ l.row_keys → Found l r 0 f (row_word l r f)
  unfolding name_at
  row-found r f low high from to =
      let at : InLines 4096 l.row_keys l.column_start (row_word l r f) (r - 1) (f - 1) =
      in_lines 4096 l.rows l.row_keys l.column_start (r - 1) (f - 1) k.column_start (omega arith) (omega arith) in
      past_header r 0 f (row_word l r f) at.low (omega (arith, at.high, k.data_start))
      (rw (le-ltb (row_word l r f) 464 (omega (arith, at.low)), lt-ltb (row_word l r f) l.column_start at.high, at.line_is, at.position_is)
      (named (from_one r low) refl (from_one f from)))

  -- column headers
  column-found : (c f : ℕ) → 1 ≤ c → c ≤ l.columns → 1 ≤ f → f ≤ l.column_keys → Found l 0 c f (column_word l c f)
  unfolding name_at
  column-found c f low high from to =
      let at : InLines l.column_start l.column_keys l.data_start (column_word l c f) (c - 1) (f - 1) =
      in_lines l.column_start l.columns l.column_keys l.data_start (c - 1) (f - 1) k.data_start (omega arith) (omega arith) in
      let past : 4096 ≤ column_word l c f = omega (arith, at.low, k.column_start) in
      past_header 0 c f (column_word l c f) past (omega (arith, at.high))
      (rw (
        le-ltb (column_word l c f) 464 (omega (arith, past)),
        le-ltb (column_word l c f) l.column_start at.low,
        lt-ltb (column_word l c f) l.data_start at.high,
        at.line_is,
        at.position_is,
      )
      (named refl (from_one c low) (from_one f from)))

  -- data
  data_found : (r c f : ℕ) → 1 ≤ r → r ≤ l.rows → 1 ≤ c → c ≤ l.columns → 1 ≤ f → f ≤ l.data_keys → Found l r c f (data_word l r c f)
  unfolding name_at
  data_found r c f low high left right from to =
      let end : ℕ = l.data_start + l.rows * l.columns * l.data_keys in
      let place : ℕ = (r - 1) * l.columns + (c - 1) in
      let last : place < l.rows * l.columns =
      omega (arith, row-before l.columns (r - 1) l.rows (omega arith)) in
      let at : InLines l.data_start l.data_keys end (data_word l r c f) place (f - 1) =
      in_lines l.data_start (l.rows * l.columns) l.data_keys end place (f - 1) refl last (omega arith) in
      let past : 4096 ≤ data_word l r c f = omega (arith, at.low, k.column_start, k.data_start) in
      past_header r c f (data_word l r c f) past at.high
      (rw (
        le-ltb (data_word l r c f) 464 (omega (arith, past)),
        le-ltb (data_word l r c f) l.column_start (omega (arith, at.low, k.data_start)),
        le-ltb (data_word l r c f) l.data_start at.low,
        at.line_is,
        at.position_is,
        digits_div (r - 1) {m = l.columns} {r = c - 1} (omega arith),
        digits_mod (r - 1) {m = l.columns} {r = c - 1} (omega arith),
      )
      (named (from_one r low) (from_one c left) (from_one f from)))

  -- any field
  field-found : (r c f : ℕ) → IsField l r c f → Found l r c f (field_word l r c f)
  unfolding field_word fields_of
  field-found zero zero f is = user_found f is.from is.to
  field-found (suc r) zero f is =
      rw (eqb-suc-zero r) (row-found (suc r) f (omega arith) is.row is.from (rw (eqb-suc-zero r) at is.to))
  field-found zero (suc c) f is =
      rw (eqb-suc-zero c) (column-found (suc c) f (omega arith) is.column is.from (rw (eqb-suc-zero c) at is.to))
  field-found (suc r) (suc c) f is =
      rw (eqb-suc-zero r, eqb-suc-zero c)
      (data_found (suc r) (suc c) f (omega arith) is.row (omega arith) is.column is.from (rw (eqb-suc-zero r, eqb-suc-zero c) at is.to))

-- ---- what is promised of fields

module _ {l : MdLayout} (k : MdFits l) where
  -- a field's word is one of the user record's, or past the header
  pub field_places : {r c f : ℕ} → IsField l r c f → FieldPlaces (field_word l r c f)
  field_places {r} {c} {f} is = (field-found l k r c f is).places

  -- it is none of the words that opening reads
  pub field_high : {r c f : ℕ} → IsField l r c f → 64 ≤ field_word l r c f
  field_high is = ⊎_elim (λ user. user.0) (λ past. omega (arith, past)) (field_places is)

  -- its bytes are inside the file
  pub field-inside : {r c f : ℕ} → IsField l r c f → 4 * field_word l r c f + 4 ≤ l.length
  field-inside {r} {c} {f} is = (field-found l k r c f is).inside

  -- its number is that of a word that is not negative
  pub field-small : {r c f : ℕ} → IsField l r c f → field_word l r c f < 2147483648
  field-small {r} {c} {f} is = (field-found l k r c f is).small

  module _ {r c f s d g : ℕ} (x : IsField l r c f) (y : IsField l s d g) where
    -- fields with one word are the same field
    pub field_only : field_word l r c f ≡ field_word l s d g → (r ≡ s) × ((c ≡ d) × (f ≡ g))
    field_only e =
        let same : ◌≡◌ {A = ℕ × (ℕ × ℕ)} (r, (c, f)) (s, (d, g)) =
        sym (field-found l k r c f x).name ∙ ap (name_at l) e ∙ (field-found l k s d g y).name in
        (ap (λ t. t.0) same, (ap (λ t. t.1.0) same, ap (λ t. t.1.1) same))

    -- so fields of different columns are different words
    pub columns-apart : ¬ (c ≡ d) → ¬ (field_word l r c f ≡ field_word l s d g)
    columns-apart other e = other (field_only e).1.0

    -- and different fields share no byte
    pub fields_apart : ¬ ((r ≡ s) × ((c ≡ d) × (f ≡ g))) → Apart (4 * field_word l r c f) 4 (4 * field_word l s d g) 4
    fields_apart other = words-apart (field_word l r c f) (field_word l s d g) (λ e. other (field_only e))
