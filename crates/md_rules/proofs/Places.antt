-- Where the parts and fields of an accepted MD file lie: at the paper's addresses. A layout that opening gives is within bounds, so the test of bounds never
-- refuses it. Refusal 9 is left to layouts that are stale.
-- Assumes nothing.
use mathlib.Core.Path.{◌≡◌, refl}
use mathlib.Core.Bool.{false}
use mathlib.Core.Logic.{◌↔◌}
use Prim.Native.Nat.{ℕ, ◌≤◌, ◌<◌}
use Rattle.refusal_rules.specs.Answers.{gives, refuses, word_place}
use Rattle.refusal_rules.specs.Rules.{first_fault, first, judge}
use Rattle.refusal_rules.specs.declared.Place.{Place}
use Rattle.refusal_rules.proofs.Answers.{value_exactly, never_refused, above_seven}
use Rattle.md_rules.specs.Accepts.{MdFits}
use Rattle.md_rules.specs.Fields.{field_word, IsField}
use Rattle.md_rules.specs.Bounds.{md_bounded}
use Rattle.md_rules.specs.declared.MdLayout.{MdLayout}
use Rattle.md_rules.specs.Places.{part_rules, part_word, part_start_of, field_rules, field_place}
use Rattle.md_rules.proofs.Bounds.{md_bounds, md_bounded_lem}
use Rattle.md_rules.proofs.Tables.{parts_hold, fields_hold}

module _ (l : MdLayout) (fits : MdFits l) where
  -- a part of an accepted file begins where its first field would be
  pub part_begins : (r c : ℕ) → r ≤ l.rows → c ≤ l.columns → part_start_of l r c ≡ gives (part_word l r c)
  unfolding part_start_of
  part_begins r c h k =
      (value_exactly (part_rules l r c) (part_word l r c) (part_word l r c)).1
      ((parts_hold l r c).1 ((md_bounds l).sound (md_bounded_lem l fits), (h, k)), refl)

  -- a field has a place exactly where there is such a field, and then at its word
  pub field_place_lem : (r c f : ℕ) (p : Place) → (field_place l r c f ≡ gives p) ↔ (IsField l r c f × (p ≡ word_place (field_word l r c f)))
  unfolding field_place
  field_place_lem r c f p =
      let x = value_exactly (field_rules l r c f) (word_place (field_word l r c f)) p in
      let y = fields_hold l r c f in (
        λ e. ((y.0 (x.0 e).0).1, (x.0 e).1),
        λ h. x.1 (y.1 ((md_bounds l).sound (md_bounded_lem l fits), h.0), h.1),
      )

-- the place of a field, by a layout alone, is never refused with a number above 7, at any place
pub field_never : (n p : ℕ) → 7 < n → (l : MdLayout) (r c f : ℕ) → ¬ (field_place l r c f ≡ refuses n p)
unfolding field_place field_rules part_rules
field_never n p h l r c f =
    never_refused (field_rules l r c f) _ n p (above_seven h, (above_seven h, (above_seven h, (above_seven h, tt))))

-- A layout with rows, columns, or keys of row headers, column headers or data above what opening accepts, which only a caller can have made up, has no part and no
-- field: 7. Words 28 and 29, the other fields that addresses are computed from, are not tested: whatever they are, no sum of them fails.
module _ (l : MdLayout) (above : md_bounded l ≡ false) where
  pub part_unbounded : (r c : ℕ) → part_start_of l r c ≡ refuses 7 0
  unfolding part_start_of part_rules first_fault first judge
  part_unbounded r c = rw above

  pub field_unbounded : (r c f : ℕ) → field_place l r c f ≡ refuses 7 0
  unfolding field_place field_rules part_rules first_fault first judge
  field_unbounded r c f = rw above
