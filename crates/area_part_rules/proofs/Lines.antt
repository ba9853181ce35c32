-- One slot or band of one line. Its samples are equally far apart, so they are a run that begins at the place of element 0; the refusals of that place are those of
-- the line.
-- Assumes nothing.
use mathlib.Core.Path.{◌≡◌, refl, sym, ap, subst, ◌∙◌}
use mathlib.Core.Logic.{◌↔◌}
use mathlib.Core.List.{List, [], ◌∷◌}
use Prim.Native.Nat.{ℕ, ◌+◌, ◌-◌, ◌*◌, ◌≤◌, ◌<◌}
use native.Mathlib.Nat.{mul_assoc, add-mul}
use native.Mathlib.Omega.{arith}
use lib.Dec.{ltb}
use lib.ListN.{length}
use borrow.Author.Tests.{ltb-true, lt-ltb}
use Rattle.lists.specs.Lists.{list_of}
use Rattle.lists.proofs.Built.{length-list_of}
use Rattle.endian_rules.specs.Numbers.{number_at}
use Rattle.refusal_rules.specs.Answers.{Answer, gives, refuses, answered, mapped, and_then, place}
use Rattle.refusal_rules.specs.Rules.{rule, judge, first, first_fault, Verdict, Pass, Fault}
use Rattle.refusal_rules.specs.declared.Place.{Place}
use Rattle.refusal_rules.proofs.Answers.{then_gives, then_never, value_exactly, never_refused, nine}
use Rattle.refusal_rules.proofs.Tables.{also}
use Rattle.area_rules.specs.Opening.{open_area}
use Rattle.area_rules.specs.Samples.{sample_address, AreaFits, AreaOf}
use Rattle.area_rules.specs.declared.AreaLayout.{AreaLayout}
use Rattle.area_rules.proofs.Samples.{width-to, sample-inside}
use Rattle.area_rules.specs.Places.{sample_rules, sample_place}
use Rattle.area_rules.proofs.Bounds.{area_bounded_lem}
use Rattle.area_rules.proofs.Places.{sample_place_lem}
use Rattle.layout_rules.specs.Found.{area_of}
use Rattle.layout_rules.specs.Layouts.{Fresh}
use Rattle.layout_rules.specs.declared.Layout.{Layout}
use Rattle.layout_rules.specs.declared.Layout.TheVariants.{Area}
use Rattle.layout_rules.proofs.OneKind.{area_then, area_nine, area_ten}
use Rattle.area_rules.specs.Bands.{second_map, set_below, slot_of}
use Rattle.area_rules.specs.declared.SlotOrBand.{SlotOrBand}
use Rattle.area_rules.specs.declared.SlotOrBand.TheVariants.{Band}
use Rattle.area_rules.proofs.Bands.{HasBand, band_slot_exactly, slot_never}
use Rattle.copy_rules.specs.Runs.{numbers_at}
use Rattle.copy_rules.proofs.Copies.{copied_nine, copied_ten}
use Rattle.area_part_rules.specs.Lines.{band_slot_in, slot_line, line_in, line_of, copy_line}

-- the samples of a slot are so many bytes apart
pub sample_along : (l : AreaLayout) (i e s : ℕ) → sample_address l i 0 s + e * (l.bands * l.width) ≡ sample_address l i e s
sample_along l i e s = omega (arith, mul_assoc e l.bands l.width, add-mul (e * l.bands) s l.width)

-- the run of numbers that a line is, from the place of element 0 on
abbrev pub line_from : List ℕ → AreaLayout → Place → List ℕ
line_from f l p = numbers_at l.order p.width f p.address (l.bands * l.width) l.elements

-- it is the line
line_run : (f : List ℕ) (l : AreaLayout) (i s : ℕ) → line_from f l (place (sample_address l i 0 s) l.width) ≡ slot_line f l i s
unfolding slot_line
line_run f l i s = λ t. list_of (λ e. number_at l.order l.width f (sample_along l i e s t)) l.elements

-- the answer of a table with another value made of its value
answered_made : {Value Other : Type 0} (h : Value → Other) (v : Verdict) (x : Value) → mapped h (answered v x) ≡ answered v (h x)
answered_made h Pass x = refl
answered_made h (Fault r) x = refl

-- an element 0 and bounds are no further rules for a line of an accepted file
same_rules : (l : AreaLayout) → AreaFits l → (i : ℕ) → first_fault (sample_rules l i 0) ≡ first_fault (rule (ltb i l.lines) 7 0 ∷ [])
unfolding sample_rules first_fault first judge
same_rules l fits i = rw (area_bounded_lem l fits, lt-ltb 0 l.elements fits.elements_from)

-- a line is what is read from the place of its element 0 on, with the refusals of that place
pub line-from : (f : List ℕ) (l : AreaLayout) → AreaFits l → (i : ℕ) (c : SlotOrBand) → mapped (line_from f l) (sample_place l i 0 c) ≡ line_in f l i c
unfolding sample_place line_in
line-from f l fits i c = step (slot_of l c)
  where
    rules : first_fault (sample_rules l i 0) ≡ first_fault (rule (ltb i l.lines) 7 0 ∷ [])
    rules = same_rules l fits i

    step : (x : Answer ℕ)
        → mapped (line_from f l) (and_then x (λ s. answered (first_fault (sample_rules l i 0)) (place (sample_address l i 0 s) l.width)))
        ≡ and_then x (λ s. answered (first_fault (rule (ltb i l.lines) 7 0 ∷ [])) (slot_line f l i s))
    step (refuses n p) = refl
    step (gives s) =
        answered_made (line_from f l) (first_fault (sample_rules l i 0)) (place (sample_address l i 0 s) l.width)
        ∙ (λ t. answered (rules t) (line_run f l i s t))

-- the run is inside the file
pub line_samples_inside : (f : List ℕ) (l : AreaLayout) → AreaOf f l → (i : ℕ) (c : SlotOrBand) (p : Place) → sample_place l i 0 c ≡ gives p
    → (p.width ≤ 4) × ((e : ℕ) → e < l.elements → p.address + e * (l.bands * l.width) + p.width ≤ length f)
line_samples_inside f l of i c p given =
    let (s, slot, (is, same)) = (sample_place_lem l of.fits i 0 c p).0 given in
    subst (λ (q : Place). (q.width ≤ 4) × ((e : ℕ) → e < l.elements → q.address + e * (l.bands * l.width) + q.width ≤ length f)) (sym same)
    (width-to l of.fits, λ e lt. omega (arith, of.size, sample_along l i e s, sample-inside l of.fits i e s (record { line = is.line; element = lt; slot = is.slot })))

-- ---- a line of a file

-- a line of a file: the layout is an AREA layout that opening the file gives, the slot or band means a slot, there is such a line, and the samples are those of
-- the slot
pub record LineOf (f : List ℕ) (l : Layout) (i : ℕ) (c : SlotOrBand) (xs : List ℕ) : Type 0 where
  pub area : AreaLayout
  pub slot : ℕ
  pub found : area_of f l ≡ gives area
  pub means : slot_of area c ≡ gives slot
  pub line : i < area.lines
  pub samples : xs ≡ slot_line f area i slot

-- a copy has samples to copy exactly where there is such a line, and then these
pub line_exactly : (f : List ℕ) (l : Layout) (i : ℕ) (c : SlotOrBand) (xs : List ℕ) → (line_of f l i c ≡ gives xs) ↔ LineOf f l i c xs
unfolding line_in
line_exactly f l i c xs = (
  λ e.
      let (a, found, given) = (then_gives (λ a. line_in f a i c) (area_of f l) xs).0 e in
      let (s, means, value) = (then_gives _ (slot_of a c) xs).0 given in
      let (hold, same) = (value_exactly (rule (ltb i a.lines) 7 0 ∷ []) (slot_line f a i s) xs).0 value in
      record { area = a; slot = s; found = found; means = means; line = ltb-true i a.lines hold.0; samples = same },
  λ x.
      (then_gives (λ a. line_in f a i c) (area_of f l) xs).1 (
        x.area,
        x.found,
        (then_gives _ (slot_of x.area c) xs).1 (
          x.slot,
          x.means,
          (value_exactly (rule (ltb i x.area.lines) 7 0 ∷ []) (slot_line f x.area i x.slot) xs).1
              (also (lt-ltb i x.area.lines x.line) tt, x.samples),
        ),
      ),
)

-- ---- the slot of a band of a file

-- s is the slot of band b of a file: the layout is an AREA layout that opening the file gives, its band map has as many set bits as there are bands, that of b among
-- them, and s is the number of those below it. The second word of the map counts only where there are more than 32 bands.
pub record IsBandSlot (f : List ℕ) (l : Layout) (b s : ℕ) : Type 0 where
  pub area : AreaLayout
  pub layout : l ≡ Area area
  pub opens : open_area f ≡ gives area
  pub usable : set_below area.map (second_map area.bands area.map2) 64 ≡ area.bands
  pub has : HasBand area.map (second_map area.bands area.map2) b
  pub same : s ≡ set_below area.map (second_map area.bands area.map2) (b - 1)

-- a slot is given exactly where it is that
pub band_slot_in_exactly : (f : List ℕ) (l : Layout) (b s : ℕ) → (band_slot_in f l b ≡ gives s) ↔ IsBandSlot f l b s
band_slot_in_exactly f l b s =
    let y = area_then f l (λ a. slot_of a (Band b)) s in (
      λ e.
          let (a, (layout, opens), given) = y.0 e in
          let (usable, (has, same)) = (band_slot_exactly a.map a.map2 a.bands b s).0 given in
          record { area = a; layout = layout; opens = opens; usable = usable; has = has; same = same },
      λ x.
          let a : AreaLayout = x.area in
          y.1 (a, (x.layout, x.opens), (band_slot_exactly a.map a.map2 a.bands b s).1 (x.usable, (x.has, x.same))),
    )

-- ---- stale layouts

-- the slot of a band is refused with 9 exactly where the layout is stale
pub slot-stale : (f : List ℕ) (l : Layout) (b : ℕ) → (band_slot_in f l b ≡ refuses 9 0) ↔ (¬ Fresh f l)
slot-stale f l b = area_nine f l (λ a. slot_of a (Band b)) (λ a. slot_never 9 0 nine a (Band b))

-- a line of an accepted file is refused with no number above 7
line_never : (f : List ℕ) (a : AreaLayout) (i : ℕ) (c : SlotOrBand) (n : ℕ) → 7 < n → ¬ (line_in f a i c ≡ refuses n 0)
unfolding line_in
line_never f a i c n h =
    then_never _ (slot_of a c) n 0 (slot_never n 0 h a c)
    (λ s. never_refused (rule (ltb i a.lines) 7 0 ∷ []) (slot_line f a i s) n 0 (λ e. omega (arith, e, h), tt))

module _ (f : List ℕ) (l : Layout) (i : ℕ) (c : SlotOrBand) (out : List ℕ) where
  -- a copy of a line is refused with 9 exactly where the layout is stale
  pub line-stale : ((copy_line f l i c out).0 ≡ refuses 9 0) ↔ (¬ Fresh f l)
  line-stale = copied_nine (line_of f l i c) out (area_nine f l (λ a. line_in f a i c) (λ a. line_never f a i c 9 nine))

  -- it is refused with 10 exactly where there is such a line, and the output has fewer places than the line has elements
  pub line_short : ((copy_line f l i c out).0 ≡ refuses 10 0) ↔ ((xs : List ℕ) × (x : LineOf f l i c xs) × (length out < x.area.elements))
  unfolding slot_line
  line_short =
      let never = then_never (λ a. line_in f a i c) (area_of f l) 10 0 (area_ten f l) (λ a. line_never f a i c 10 (omega arith)) in
      let y = copied_ten (line_of f l i c) out never in (
        λ e.
            let (xs, given, short) = y.0 e in
            let x : LineOf f l i c xs = (line_exactly f l i c xs).0 given in
            (xs, x, omega (arith, short, size xs x)),
        λ p. let (xs, x, short) = p in y.1 (xs, (line_exactly f l i c xs).1 x, omega (arith, short, size xs x)),
      )
    where
      size : (xs : List ℕ) (x : LineOf f l i c xs) → length xs ≡ x.area.elements
      size xs x = ap length x.samples ∙ length-list_of _ x.area.elements
