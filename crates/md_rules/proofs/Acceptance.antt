-- A file is opened exactly where document 01's rules hold of it, one line a rule and direction, and what opening answers, or what a
-- comparison of layouts says, leaves nothing open.
-- Assumes nothing.
use mathlib.Core.Path.{◌≡◌, ap}
use mathlib.Core.Logic.{◌↔◌}
use mathlib.Core.List.{List, ◌++◌}
use Prim.Native.Nat.{ℕ, ◌+◌, ◌*◌, ◌/◌}
use lib.ListN.{length, get_or}
use borrow.Author.Tests.{leb-true, le-leb, eqb-true, eq-eqb}
use Rattle.endian_rules.specs.Words.{word_at}
use Rattle.endian_rules.specs.declared.Order.{Order}
use Rattle.endian_rules.proofs.Places.{order-same}
use Rattle.endian_rules.proofs.Signs.{at_least_lem}
use Rattle.refusal_rules.specs.Rules.{Rule, Hold, FirstFailing, Refused}
use Rattle.refusal_rules.specs.Answers.{gives, refuses}
use Rattle.refusal_rules.specs.Tests.{Exactly}
use Rattle.refusal_rules.proofs.Tables.{hold-append, also}
use Rattle.refusal_rules.proofs.Answers.{value_exactly, refusal_exactly}
use Rattle.refusal_rules.proofs.Exactness.{by_numbers}
use Rattle.md_rules.specs.Rules.{md_count_rules, md_sum_rules, md_fixed_rules, md_data_end, md_end_rules, md_rules}
use Rattle.md_rules.specs.Opening.{md_layout_of, open_md_words, open_md, md_numbers, same_md}
use Rattle.md_rules.specs.Accepts.{AcceptsMd}
use Rattle.md_rules.specs.declared.MdLayout.{MdLayout}
use Rattle.md_rules.proofs.Verdicts.{MdCounted, hold_counted, counted_hold}

-- ---- answers

-- layouts with the same numbers are the same
numbers_settle : (a b : MdLayout) → md_numbers a ≡ md_numbers b → a ≡ b
numbers_settle a b e = λ i.
    record {
      order = order-same a.order b.order (ap (λ (l : List ℕ). get_or l 0 0) e) i;
      length = get_or (e i) 1 0;
      rows = get_or (e i) 2 0;
      columns = get_or (e i) 3 0;
      keys = get_or (e i) 4 0;
      row_keys = get_or (e i) 5 0;
      column_keys = get_or (e i) 6 0;
      data_keys = get_or (e i) 7 0;
      column_start = get_or (e i) 8 0;
      data_start = get_or (e i) 9 0;
    }

-- a comparison of layouts says exactly whether they are equal
pub same_md_exactly : (a b : MdLayout) → Exactly (same_md a b) (a ≡ b)
unfolding same_md
same_md_exactly = by_numbers md_numbers numbers_settle

-- ---- the rules

-- the rules of four tables that are joined
four : (a b c d : List Rule) → Hold (a ++ (b ++ (c ++ d))) ↔ (Hold a × (Hold b × (Hold c × Hold d)))
four a b c d =
    let x = hold-append a (b ++ (c ++ d)) in
    let y = hold-append b (c ++ d) in
    let z = hold-append c d in (
      λ h. ((x.0 h).0, ((y.0 (x.0 h).1).0, z.0 (y.0 (x.0 h).1).1)),
      λ h. x.1 (h.0, y.1 (h.1.0, z.1 h.1.1)),
    )

module _ (len : ℕ) (w : ℕ → ℕ) where
  hold_accepts : Hold (md_rules len w) → AcceptsMd len w
  unfolding md_rules md_sum_rules md_fixed_rules md_end_rules
  hold_accepts h =
      let groups = (four (md_count_rules w) (md_sum_rules w) (md_fixed_rules w) (md_end_rules len w)).0 h.1 in
      let counts : MdCounted w = hold_counted w groups.0 in
      let sums : Hold (md_sum_rules w) = groups.1.0 in
      let fixed : Hold (md_fixed_rules w) = groups.1.1.0 in
      let end : Hold (md_end_rules len w) = groups.1.1.1 in
      record {
        long = leb-true 16384 len h.0;
        rows = counts.rows;
        columns = counts.columns;
        keys = counts.keys;
        row_keys = counts.row_keys;
        column_keys = counts.column_keys;
        data_keys = counts.data_keys;
        sum = eqb-true (w 5) (w 6 + w 7 + w 8) sums.0;
        word_9 = eqb-true (w 9) (w 6 + 1) sums.1.0;
        word_10 = eqb-true (w 10) (w 6 + w 7 + 1) sums.1.1.0;
        word_27 = eqb-true (w 27) 4096 sums.1.1.1.0;
        word_28 = eqb-true (w 28) (4096 + w 3 * w 6) sums.1.1.1.1.0;
        word_29 = eqb-true (w 29) (w 28 + w 4 * w 7) sums.1.1.1.1.1.0;
        word_31 = eqb-true (w 31) 64 fixed.0;
        word_32 = eqb-true (w 32) 464 fixed.1.0;
        word_33 = eqb-true (w 33) 864 fixed.1.1.0;
        word_34 = eqb-true (w 34) 1264 fixed.1.1.1.0;
        word_30 = (at_least_lem (md_data_end w) (w 30)).0 end.0;
        inside = leb-true (w 30) (len / 4) end.1.0;
      }

  accepts_sums : AcceptsMd len w → Hold (md_sum_rules w)
  unfolding md_sum_rules
  accepts_sums a =
      also (eq-eqb (w 5) (w 6 + w 7 + w 8) a.sum)
      (also (eq-eqb (w 9) (w 6 + 1) a.word_9)
      (also (eq-eqb (w 10) (w 6 + w 7 + 1) a.word_10)
      (also (eq-eqb (w 27) 4096 a.word_27)
      (also (eq-eqb (w 28) (4096 + w 3 * w 6) a.word_28)
      (also (eq-eqb (w 29) (w 28 + w 4 * w 7) a.word_29)
      tt)))))

  accepts_fixed : AcceptsMd len w → Hold (md_fixed_rules w)
  unfolding md_fixed_rules
  accepts_fixed a =
      also (eq-eqb (w 31) 64 a.word_31)
      (also (eq-eqb (w 32) 464 a.word_32)
      (also (eq-eqb (w 33) 864 a.word_33)
      (also (eq-eqb (w 34) 1264 a.word_34)
      tt)))

  accepts_end : AcceptsMd len w → Hold (md_end_rules len w)
  unfolding md_end_rules
  accepts_end a = ((at_least_lem (md_data_end w) (w 30)).1 a.word_30, (le-leb (w 30) (len / 4) a.inside, tt))

  accepts_hold : AcceptsMd len w → Hold (md_rules len w)
  unfolding md_rules
  accepts_hold a =
      let counts : MdCounted w =
      record {
        rows = a.rows;
        columns = a.columns;
        keys = a.keys;
        row_keys = a.row_keys;
        column_keys = a.column_keys;
        data_keys = a.data_keys;
      } in (
        le-leb 16384 len a.long,
        (four (md_count_rules w) (md_sum_rules w) (md_fixed_rules w) (md_end_rules len w)).1
            (counted_hold w counts, (accepts_sums a, (accepts_fixed a, accepts_end a))),
      )

  -- every rule holds exactly where the file is acceptable
  pub md_rules_exactly : Hold (md_rules len w) ↔ AcceptsMd len w
  md_rules_exactly = (hold_accepts, accepts_hold)

-- ---- opening

-- a file is opened exactly where it is acceptable, and then with the layout that its words give
pub md_exactly : (o : Order) (f : List ℕ) (l : MdLayout)
    → (open_md o f ≡ gives l) ↔ (AcceptsMd (length f) (word_at o f) × (l ≡ md_layout_of o (length f) (word_at o f)))
unfolding open_md open_md_words
md_exactly o f l =
    let x = value_exactly (md_rules (length f) (word_at o f)) (md_layout_of o (length f) (word_at o f)) l in
    let y : Hold (md_rules (length f) (word_at o f)) ↔ AcceptsMd (length f) (word_at o f) = md_rules_exactly (length f) (word_at o f) in
    (λ e. (y.0 (x.0 e).0, (x.0 e).1), λ a. x.1 (y.1 a.0, a.1))

-- and it is refused exactly where a rule fails, and then with the number and the place of the first that does
pub md_refused : (o : Order) (f : List ℕ) (r : Refused)
    → (open_md o f ≡ refuses r.number r.place) ↔ FirstFailing (md_rules (length f) (word_at o f)) r
unfolding open_md open_md_words
md_refused o f r = refusal_exactly (md_rules (length f) (word_at o f)) (md_layout_of o (length f) (word_at o f)) r
