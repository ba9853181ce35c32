-- Where the lines and samples of an accepted AREA file lie: at the paper's addresses. A layout that opening gives is within bounds, so the test of bounds never
-- refuses it. Refusal 9 is left to layouts that are stale.
-- Assumes nothing.
use mathlib.Core.Path.{◌≡◌, refl, ap}
use mathlib.Core.Bool.{false}
use mathlib.Core.Logic.{◌↔◌}
use mathlib.Core.List.{[], ◌∷◌}
use Prim.Native.Nat.{ℕ, ◌*◌, ◌<◌}
use Rattle.refusal_rules.specs.Answers.{gives, refuses, mapped, and_then, place}
use Rattle.refusal_rules.specs.Rules.{rule, first_fault, first, judge}
use Rattle.refusal_rules.specs.declared.Place.{Place}
use Rattle.refusal_rules.proofs.Answers.{then_gives, then_never, value_exactly, never_refused, above_seven}
use Rattle.area_rules.specs.Samples.{line_length_in, line_start, sample_address, IsSample, AreaFits}
use Rattle.area_rules.specs.declared.AreaLayout.{AreaLayout}
use Rattle.area_rules.specs.Bands.{slot_of}
use Rattle.area_rules.specs.Bounds.{area_bounded, AreaBounds}
use Rattle.area_rules.specs.declared.SlotOrBand.{SlotOrBand}
use Rattle.area_rules.proofs.Bands.{named_slot-inside, slot_never}
use Rattle.area_rules.specs.Places.{length_of_line, length_of_data, line_rules, line_start_of, sample_rules, sample_place}
use Rattle.area_rules.proofs.Bounds.{area_bounds, area_bounded_lem}
use Rattle.area_rules.proofs.Tables.{lines-hold, samples_hold}

-- the length of a line is answered exactly where the layout is within bounds, and then it is W15 + W14·W10·W11
pub line_length_exactly : (l : AreaLayout) (n : ℕ) → (length_of_line l ≡ gives n) ↔ (AreaBounds l × (n ≡ line_length_in l))
unfolding length_of_line
line_length_exactly l n =
    let x = value_exactly (rule (area_bounded l) 7 0 ∷ []) (line_length_in l) n in
    let y = area_bounds l in
    (λ e. (y.sound (x.0 e).0.0, (x.0 e).1), λ h. x.1 ((y.complete h.0, tt), h.1))

module _ (l : AreaLayout) (fits : AreaFits l) where
  -- a line of an accepted file has its length
  pub line_length_lem : length_of_line l ≡ gives (line_length_in l)
  line_length_lem = (line_length_exactly l (line_length_in l)).1 ((area_bounds l).sound (area_bounded_lem l fits), refl)

  -- DATA of an accepted file has the bytes of its lines
  pub data_length : length_of_data l ≡ gives (l.lines * line_length_in l)
  unfolding length_of_data
  data_length = ap (mapped (λ line. l.lines * line)) line_length_lem

  -- the start of a line is answered exactly where there is such a line, and then it is W34 + l·(line length)
  pub line_start_lem : (i s : ℕ) → (line_start_of l i ≡ gives s) ↔ ((i < l.lines) × (s ≡ line_start l i))
  unfolding line_start_of
  line_start_lem i s =
      let x = value_exactly (line_rules l i) (line_start l i) s in
      let y = lines-hold l i in (
        λ e. ((y.0 (x.0 e).0).1, (x.0 e).1),
        λ h. x.1 (y.1 ((area_bounds l).sound (area_bounded_lem l fits), h.0), h.1),
      )

  -- a sample has a place exactly where its slot or band means a slot and there is such a sample, and then at W34 + l·(line length) + W15 + (e·W14 + s)·W11
  pub sample_place_lem : (i e : ℕ) (c : SlotOrBand) (p : Place)
      → (sample_place l i e c ≡ gives p) ↔ ((s : ℕ) × (slot_of l c ≡ gives s) × (IsSample l i e s × (p ≡ place (sample_address l i e s) l.width)))
  unfolding sample_place
  sample_place_lem i e c p = (
    λ q.
        let (s, slot, given) = (then_gives _ (slot_of l c) p).0 q in
        let (hold, same) = (value_exactly (sample_rules l i e) (place (sample_address l i e s) l.width) p).0 given in
        let (bounds, (line, element)) = (samples_hold l i e).0 hold in
        (s, slot, (record { line = line; element = element; slot = named_slot-inside l c s slot }, same)),
    λ x.
        let (s, slot, (is, same)) = x in
        (then_gives _ (slot_of l c) p).1 (
          s,
          slot,
          (value_exactly (sample_rules l i e) (place (sample_address l i e s) l.width) p).1
              ((samples_hold l i e).1 ((area_bounds l).sound (area_bounded_lem l fits), (is.line, is.element)), same),
        ),
  )

-- the place of a sample, by a layout alone, is never refused with a number above 7, at any place
pub sample_never : (n p : ℕ) → 7 < n → (l : AreaLayout) (i e : ℕ) (c : SlotOrBand) → ¬ (sample_place l i e c ≡ refuses n p)
unfolding sample_place sample_rules
sample_never n p h l i e c =
    then_never _ (slot_of l c) n p (slot_never n p h l c)
    (λ s. never_refused (sample_rules l i e) _ n p (above_seven h, (above_seven h, (above_seven h, tt))))

-- A layout with lines, elements, bytes of a sample or bands above what opening accepts, which only a caller can have made up, has no line and no sample: 7, after
-- the refusal of the slot or band. The other fields that addresses are computed from, the prefix and W34, are not tested: whatever they are, no sum of them fails.
module _ (l : AreaLayout) (above : area_bounded l ≡ false) where
  pub length_unbounded : (length_of_line l ≡ refuses 7 0) × (length_of_data l ≡ refuses 7 0)
  unfolding length_of_line length_of_data first_fault first judge
  length_unbounded = (rw above, rw above)

  pub line_unbounded : (i : ℕ) → line_start_of l i ≡ refuses 7 0
  unfolding line_start_of line_rules first_fault first judge
  line_unbounded i = rw above

  pub sample_unbounded : (i e : ℕ) (c : SlotOrBand) → sample_place l i e c ≡ and_then (slot_of l c) (λ s. refuses 7 0)
  unfolding sample_place sample_rules first_fault first judge
  sample_unbounded i e c = rw above
