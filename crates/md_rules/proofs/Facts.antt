-- What is known of the layout of a file that opens. Every fact is a rule, or follows from rules by arithmetic.
-- Assumes nothing.
use mathlib.Core.Path.{◌≡◌, refl, sym, ap, subst}
use mathlib.Core.List.{List}
use Prim.Native.Nat.{ℕ, ◌^◌, ◌≤◌, ◌<◌}
use native.Mathlib.Omega.{arith}
use lib.ListN.{length}
use Rattle.endian_rules.specs.Words.{word_at}
use Rattle.endian_rules.specs.declared.Order.{Order}
use Rattle.endian_rules.specs.declared.Order.TheVariants.{Big, Little}
use Rattle.endian_rules.proofs.Places.{one_order}
use Rattle.endian_rules.proofs.Signs.{signed_at_least}
use Rattle.refusal_rules.specs.Answers.{gives}
use Rattle.md_rules.specs.Rules.{md_data_end}
use Rattle.md_rules.specs.Opening.{md_layout_of, open_md}
use Rattle.md_rules.specs.Accepts.{AcceptsMd, MdFits, MdOf}
use Rattle.md_rules.specs.declared.MdLayout.{MdLayout}
use Rattle.md_rules.proofs.Acceptance.{md_exactly}

-- the layout of an acceptable file
pub accepts_fits : (o : Order) (len : ℕ) (w : ℕ → ℕ) → AcceptsMd len w → MdFits (md_layout_of o len w)
unfolding md_layout_of
accepts_fits o len w a =
    let end : (md_data_end w ≤ w 30) × (w 30 < 2 ^ 31) = (signed_at_least (md_data_end w) (w 30)).0 a.word_30 in
    record {
      rows_from = a.rows.0;
      rows_to = a.rows.1;
      columns_from = a.columns.0;
      columns_to = a.columns.1;
      keys_from = a.keys.0;
      keys_to = a.keys.1;
      row_keys_to = a.row_keys.1;
      column_keys_to = a.column_keys.1;
      data_keys_from = a.data_keys.0;
      data_keys_to = a.data_keys.1;
      sum = a.sum;
      column_start = a.word_28;
      data_start = a.word_29;
      room = omega (arith, end.0, a.inside);
      small = omega (arith, end.0, end.1);
    }

-- a file that opens gives a layout of its own order and length, which fits it
pub md_of_lem : (o : Order) (f : List ℕ) (l : MdLayout) → open_md o f ≡ gives l → MdOf o f l
unfolding md_layout_of
md_of_lem o f l e =
    let x : AcceptsMd (length f) (word_at o f) × (l ≡ md_layout_of o (length f) (word_at o f)) = (md_exactly o f l).0 e in
    record {
      order = ap (λ (m : MdLayout). m.order) x.1;
      size = ap (λ (m : MdLayout). m.length) x.1;
      fits = subst MdFits (sym x.1) (accepts_fits o (length f) (word_at o f) x.0);
    }

-- no file opens in both byte orders: its number of rows would be a small number in both
pub md_one_order : (f : List ℕ) (l m : MdLayout) → open_md Big f ≡ gives l → open_md Little f ≡ gives m → ⊥
md_one_order f l m big little =
    let x : AcceptsMd (length f) (word_at Big f) = ((md_exactly Big f l).0 big).0 in
    let y : AcceptsMd (length f) (word_at Little f) = ((md_exactly Little f m).0 little).0 in
    one_order f 3 (word_at Big f 3) (word_at Little f 3) (omega (arith, x.long)) refl refl x.rows.0 x.rows.1 y.rows.1
