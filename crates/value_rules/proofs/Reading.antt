-- What the single reads answer. A read gives the number at the paper's address exactly where the layout is fresh and there is such a value.
-- Assumes nothing.
use mathlib.Core.Path.{◌≡◌, refl, sym, ap, ap₂, subst, ◌∙◌}
use mathlib.Core.Logic.{◌↔◌}
use mathlib.Core.List.{List}
use Prim.Native.Nat.{ℕ, ◌+◌, ◌*◌, ◌≤◌}
use native.Mathlib.Omega.{arith}
use lib.IntN.{ℤ}
use lib.ListN.{length}
use Rattle.endian_rules.specs.Numbers.{number_at}
use Rattle.endian_rules.specs.Words.{signed_at}
use Rattle.refusal_rules.specs.Answers.{gives, refuses, mapped, place, word_place}
use Rattle.refusal_rules.specs.declared.Place.{Place}
use Rattle.refusal_rules.proofs.Answers.{gives-refuses, mapped_made, mapped-refuses, nine}
use Rattle.area_rules.specs.Opening.{open_area}
use Rattle.area_rules.specs.Samples.{sample_address, IsSample}
use Rattle.area_rules.specs.declared.AreaLayout.{AreaLayout}
use Rattle.grid_rules.specs.Points.{point_word, IsPoint}
use Rattle.grid_rules.specs.Opening.{open_grid}
use Rattle.grid_rules.specs.declared.GridLayout.{GridLayout}
use Rattle.md_rules.specs.Fields.{field_word, IsField}
use Rattle.md_rules.specs.Opening.{open_md}
use Rattle.md_rules.specs.declared.MdLayout.{MdLayout}
use Rattle.layout_rules.specs.Layouts.{layout_order, Fresh}
use Rattle.layout_rules.specs.declared.Layout.{Layout}
use Rattle.layout_rules.specs.declared.Layout.TheVariants.{Area, Grid, Md}
use Rattle.layout_rules.proofs.Freshness.{found_fresh, found_only, stale_exactly}
use Rattle.layout_rules.proofs.OneKind.{fresh_area, fresh_grid, fresh_md}
use Rattle.area_rules.specs.Bands.{slot_of}
use Rattle.area_rules.specs.declared.SlotOrBand.{SlotOrBand}
use Rattle.value_rules.specs.Places.{place_of}
use Rattle.value_rules.specs.declared.ValueName.{ValueName}
use Rattle.value_rules.specs.declared.ValueName.TheVariants.{Sample, Point, Field}
use Rattle.value_rules.proofs.Places.{Located, sample_at, point_at_lem, field_at, located, has_place, place-inside, place-width}
use Rattle.value_rules.proofs.Refusals.{place_never}
use Rattle.value_rules.specs.Reading.{place_in, read_sample, IsWord, read_word, read_point, read_field}

-- a signed word has four bytes
pub word_width : {f : List ℕ} {l : Layout} {x : ValueName} {p : Place} → Located f l x p → IsWord x → p.width ≡ 4
word_width (sample_at opens slot has same) is = absurd is
word_width (point_at_lem opens has same) is = ap (λ (p : Place). p.width) same
word_width (field_at opens has same) is = ap (λ (p : Place). p.width) same

module _ (f : List ℕ) (l : Layout) (x : ValueName) (p : Place) where
  -- a named value has a place in a file exactly where the layout is fresh and there is such a value
  pub place_exactly : (place_in f l x ≡ gives p) ↔ (Fresh f l × Located f l x p)
  place_exactly = (
    λ e.
        let (fresh, given) = (found_only (λ m. place_of m x) f l (gives p) (λ h. gives-refuses h)).0 e in
        (fresh, located f l x p fresh given),
    λ h. found_fresh (λ m. place_of m x) f l h.0 ∙ has_place h.1,
  )

  -- its bytes are inside the file, and there are one to four
  pub place_room : place_in f l x ≡ gives p → ((1 ≤ p.width) × (p.width ≤ 4)) × (p.address + p.width ≤ length f)
  place_room e = let at = (place_exactly.0 e).1 in (place-width at, place-inside at)

  pub read_inside : place_in f l x ≡ gives p → (p.width ≤ 4) × (p.address + p.width ≤ length f)
  read_inside e = let room = place_room e in (room.0.1, room.1)

  -- a signed word has four
  pub word_inside : IsWord x → place_in f l x ≡ gives p → p.address + 4 ≤ length f
  word_inside is e = let at = (place_exactly.0 e).1 in omega (arith, place-inside at, word_width at is)

-- it is refused with 9 exactly where the layout is stale
pub place-stale : (f : List ℕ) (l : Layout) (x : ValueName) → (place_in f l x ≡ refuses 9 0) ↔ (¬ Fresh f l)
place-stale f l x = stale_exactly (λ m. place_of m x) f l (place_never 9 0 nine l x)

-- a read by any reading of a place gives a value exactly where the named value has a place, and then what is read there
made_exactly : {Value : Type 0} (read : Place → Value) (f : List ℕ) (l : Layout) (x : ValueName) (v : Value)
    → (mapped read (place_in f l x) ≡ gives v) ↔ ((p : Place) × (Fresh f l × Located f l x p) × (v ≡ read p))
made_exactly read f l x v = (
  λ e. let (p, given, value) = (mapped_made read (place_in f l x) v).0 e in (p, (place_exactly f l x p).0 given, value),
  λ h. (mapped_made read (place_in f l x) v).1 (h.0, (place_exactly f l x h.0).1 h.1, h.2),
)

-- and is refused with 9 exactly where the layout is stale
made_stale : {Value : Type 0} (read : Place → Value) (f : List ℕ) (l : Layout) (x : ValueName)
    → (mapped read (place_in f l x) ≡ refuses 9 0) ↔ (¬ Fresh f l)
made_stale read f l x =
    let y = mapped-refuses read (place_in f l x) 9 0 in
    (λ e. (place-stale f l x).0 (y.0 e), λ h. y.1 ((place-stale f l x).1 h))

-- ---- samples

-- a sample of a file: the layout is an AREA layout that opening the file gives, the slot or band means a slot, there is such a sample, and n is the number
-- at its address
pub record SampleOf (f : List ℕ) (l : Layout) (i e : ℕ) (c : SlotOrBand) (n : ℕ) : Type 0 where
  pub area : AreaLayout
  pub slot : ℕ
  pub layout : l ≡ Area area
  pub opens : open_area f ≡ gives area
  pub means : slot_of area c ≡ gives slot
  pub is : IsSample area i e slot
  pub value : n ≡ number_at area.order area.width f (sample_address area i e slot)

-- a read gives a number exactly where it is that of the sample
pub sample_exactly : (f : List ℕ) (l : Layout) (i e : ℕ) (c : SlotOrBand) (n : ℕ) → (read_sample f l i e c ≡ gives n) ↔ SampleOf f l i e c n
unfolding read_sample
sample_exactly f l i e c n = (λ q. let (p, at, value) = exactly.0 q in to l p refl at.1 value, from)
  where
    exactly : (mapped (λ p. number_at (layout_order l) p.width f p.address) (place_in f l (Sample i e c)) ≡ gives n)
        ↔ ((p : Place) × (Fresh f l × Located f l (Sample i e c) p) × (n ≡ number_at (layout_order l) p.width f p.address))
    exactly = made_exactly (λ p. number_at (layout_order l) p.width f p.address) f l (Sample i e c) n

    to : (m : Layout) (p : Place) → l ≡ m → Located f m (Sample i e c) p → n ≡ number_at (layout_order l) p.width f p.address → SampleOf f l i e c n
    to (Grid _) p same x4 value = elim x4 [ ]
    to (Md _) p same x5 value = elim x5 [ ]
    to (Area a) p same (sample_at {s = s} opens slot is at) value =
        record {
          area = a;
          slot = s;
          layout = same;
          opens = opens;
          means = slot;
          is = is;
          value = value ∙ ap₂ (λ (m : Layout) (q : Place). number_at (layout_order m) q.width f q.address) same at;
        }

    from : SampleOf f l i e c n → mapped (λ p. number_at (layout_order l) p.width f p.address) (place_in f l (Sample i e c)) ≡ gives n
    from x =
        let p : Place = place (sample_address x.area i e x.slot) x.area.width in
        let at : Fresh f l × Located f l (Sample i e c) p =
        subst (λ (m : Layout). Fresh f m × Located f m (Sample i e c) p) (sym x.layout)
        ((fresh_area f x.area).1 x.opens, sample_at x.opens x.means x.is refl) in
        exactly.1 (p, at, x.value ∙ ap (λ (m : Layout). number_at (layout_order m) p.width f p.address) (sym x.layout))

-- it is refused with 9 exactly where the layout is stale
pub sample-stale : (f : List ℕ) (l : Layout) (i e : ℕ) (c : SlotOrBand) → (read_sample f l i e c ≡ refuses 9 0) ↔ (¬ Fresh f l)
unfolding read_sample
sample-stale f l i e c = made_stale _ f l (Sample i e c)

-- ---- points and fields

-- a read of a signed word is refused with 9 exactly where the layout is stale
pub word_stale : (f : List ℕ) (l : Layout) (x : ValueName) → (read_word f l x ≡ refuses 9 0) ↔ (¬ Fresh f l)
unfolding read_word
word_stale f l x = made_stale _ f l x

module _ (f : List ℕ) (l : Layout) where
  -- a read of a signed word gives a value exactly where the named value has a place, and then the word there
  word_exactly : (x : ValueName) (v : ℤ) → (read_word f l x ≡ gives v) ↔ ((p : Place) × (Fresh f l × Located f l x p) × (v ≡ signed_at (layout_order l) f p.address))
  unfolding read_word
  word_exactly x v = made_exactly (λ p. signed_at (layout_order l) f p.address) f l x v

  -- the word at the address of a layout's place
  word_at_lem : (k : ℕ) {m : Layout} {p : Place} {v : ℤ} → l ≡ m → p ≡ word_place k → v ≡ signed_at (layout_order l) f p.address
      → v ≡ signed_at (layout_order m) f (4 * k)
  word_at_lem k same at value = value ∙ ap₂ (λ (n : Layout) (q : Place). signed_at (layout_order n) f q.address) same at

  -- a point of a file: the layout is a GRID layout that opening the file gives, there is such a point, and v is the signed word at its address
  pub record PointOf (r c : ℕ) (v : ℤ) : Type 0 where
    pub grid : GridLayout
    pub layout : l ≡ Grid grid
    pub opens : open_grid grid.order f grid.number ≡ gives grid
    pub is : IsPoint grid r c
    pub value : v ≡ signed_at grid.order f (4 * point_word grid r c)

  -- a read gives a word exactly where it is that of the point
  pub point_exactly : (r c : ℕ) (v : ℤ) → (read_point f l r c ≡ gives v) ↔ PointOf r c v
  point_exactly r c v = (λ q. let (p, at, value) = (word_exactly (Point r c) v).0 q in to l p refl at.1 value, from)
    where
      to : (m : Layout) (p : Place) → l ≡ m → Located f m (Point r c) p → v ≡ signed_at (layout_order l) f p.address → PointOf r c v
      to (Area _) p same x4 value = elim x4 [ ]
      to (Md _) p same x5 value = elim x5 [ ]
      to (Grid g) p same (point_at_lem opens is at) value =
          record { grid = g; layout = same; opens = opens; is = is; value = word_at_lem (point_word g r c) same at value }

      from : PointOf r c v → read_point f l r c ≡ gives v
      from x =
          let p : Place = word_place (point_word x.grid r c) in
          let at : Fresh f l × Located f l (Point r c) p =
          subst (λ (m : Layout). Fresh f m × Located f m (Point r c) p) (sym x.layout) ((fresh_grid f x.grid).1 x.opens, point_at_lem x.opens x.is refl) in
          (word_exactly (Point r c) v).1 (p, at, x.value ∙ ap (λ (m : Layout). signed_at (layout_order m) f p.address) (sym x.layout))

  -- where it gives one, the point has a place
  pub point_located : (r c : ℕ) (v : ℤ) → read_point f l r c ≡ gives v → (p : Place) × Fresh f l × Located f l (Point r c) p
  point_located r c v e = let (p, at, value) = (word_exactly (Point r c) v).0 e in (p, at.0, at.1)

  -- a field of a file: the layout is an MD layout that opening the file gives, there is such a field, and v is the signed word at its address
  pub record FieldOf (r c k : ℕ) (v : ℤ) : Type 0 where
    pub md : MdLayout
    pub layout : l ≡ Md md
    pub opens : open_md md.order f ≡ gives md
    pub is : IsField md r c k
    pub value : v ≡ signed_at md.order f (4 * field_word md r c k)

  -- a read gives a word exactly where it is that of the field
  pub field_exactly : (r c k : ℕ) (v : ℤ) → (read_field f l r c k ≡ gives v) ↔ FieldOf r c k v
  field_exactly r c k v = (λ q. let (p, at, value) = (word_exactly (Field r c k) v).0 q in to l p refl at.1 value, from)
    where
      to : (m : Layout) (p : Place) → l ≡ m → Located f m (Field r c k) p → v ≡ signed_at (layout_order l) f p.address → FieldOf r c k v
      to (Area _) p same x4 value = elim x4 [ ]
      to (Grid _) p same x5 value = elim x5 [ ]
      to (Md g) p same (field_at opens is at) value =
          record { md = g; layout = same; opens = opens; is = is; value = word_at_lem (field_word g r c k) same at value }

      from : FieldOf r c k v → read_field f l r c k ≡ gives v
      from x =
          let p : Place = word_place (field_word x.md r c k) in
          let at : Fresh f l × Located f l (Field r c k) p =
          subst (λ (m : Layout). Fresh f m × Located f m (Field r c k) p) (sym x.layout) ((fresh_md f x.md).1 x.opens, field_at x.opens x.is refl) in
          (word_exactly (Field r c k) v).1 (p, at, x.value ∙ ap (λ (m : Layout). signed_at (layout_order m) f p.address) (sym x.layout))
