-- Where the values of an accepted file lie: at the paper's addresses, inside the file, equally wide and at multiples of the width from one base, and at
-- one place no two of them.
-- Assumes nothing.
use mathlib.Core.Path.{◌≡◌, sym, ap, subst, ◌∙◌}
use mathlib.Core.List.{List}
use Prim.Native.Nat.{ℕ, ◌+◌, ◌*◌, ◌≤◌}
use native.Mathlib.Nat.{mul_comm}
use native.Mathlib.Omega.{arith}
use lib.ListN.{length}
use Rattle.lists.specs.Lists.{Apart}
use Rattle.lists.proofs.Rows.{multiples_apart}
use Rattle.refusal_rules.specs.Answers.{gives, place, word_place}
use Rattle.refusal_rules.specs.declared.Place.{Place}
use Rattle.refusal_rules.proofs.Answers.{gives-refuses}
use Rattle.area_rules.specs.Opening.{open_area}
use Rattle.area_rules.specs.Samples.{sample_address, IsSample, AreaOf}
use Rattle.area_rules.specs.declared.AreaLayout.{AreaLayout}
use Rattle.area_rules.proofs.Facts.{area_of_lem}
use Rattle.area_rules.proofs.Samples.{width-from, width-to, sample-inside, sample_lattice, sample_only}
use Rattle.area_rules.proofs.Places.{sample_place_lem}
use Rattle.grid_rules.specs.Points.{point_word, IsPoint, GridOf}
use Rattle.grid_rules.proofs.Facts.{grid_of_lem}
use Rattle.grid_rules.proofs.Points.{point-inside, point_only}
use Rattle.grid_rules.specs.Opening.{open_grid}
use Rattle.grid_rules.specs.declared.GridLayout.{GridLayout}
use Rattle.grid_rules.proofs.Places.{point_place_lem}
use Rattle.md_rules.specs.Accepts.{MdOf}
use Rattle.md_rules.specs.Fields.{field_word, IsField}
use Rattle.md_rules.specs.Opening.{open_md}
use Rattle.md_rules.specs.declared.MdLayout.{MdLayout}
use Rattle.md_rules.proofs.Facts.{md_of_lem}
use Rattle.md_rules.proofs.Fields.{field-inside, field_only}
use Rattle.md_rules.proofs.Places.{field_place_lem}
use Rattle.layout_rules.specs.Layouts.{Fresh}
use Rattle.layout_rules.specs.declared.Layout.{Layout}
use Rattle.layout_rules.specs.declared.Layout.TheVariants.{Area, Grid, Md}
use Rattle.layout_rules.proofs.OneKind.{fresh_area, fresh_grid, fresh_md}
use Rattle.area_rules.specs.Bands.{slot_of}
use Rattle.area_rules.specs.declared.SlotOrBand.{SlotOrBand}
use Rattle.value_rules.specs.Places.{place_of}
use Rattle.value_rules.specs.declared.ValueName.{ValueName}
use Rattle.value_rules.specs.declared.ValueName.TheVariants.{Sample, Point, Field}

-- ---- a value that has a place by a fresh layout

-- What is known of it: the layout is the one that opening the file gives, there is such a value, and its place is at the paper's address.
pub data Located (f : List ℕ) : Layout → ValueName → Place → Type 0 where
  sample_at : {l : AreaLayout} {i e s : ℕ} {c : SlotOrBand} {p : Place} → open_area f ≡ gives l → slot_of l c ≡ gives s → IsSample l i e s
      → p ≡ place (sample_address l i e s) l.width → Located f (Area l) (Sample i e c) p
  point_at_lem : {l : GridLayout} {r c : ℕ} {p : Place} → open_grid l.order f l.number ≡ gives l → IsPoint l r c
      → p ≡ word_place (point_word l r c) → Located f (Grid l) (Point r c) p
  field_at : {l : MdLayout} {r c k : ℕ} {p : Place} → open_md l.order f ≡ gives l → IsField l r c k
      → p ≡ word_place (field_word l r c k) → Located f (Md l) (Field r c k) p

-- a name has a place by a fresh layout exactly where there is such a value
pub located : (f : List ℕ) (l : Layout) (x : ValueName) (p : Place) → Fresh f l → place_of l x ≡ gives p → Located f l x p
unfolding place_of
located f (Area l) (Sample i e c) p fresh given =
    let opens = (fresh_area f l).0 fresh in
    let (s, slot, (is, same)) = (sample_place_lem l (area_of_lem f l opens).fits i e c p).0 given in
    sample_at opens slot is same
located f (Area l) (Point r c) p fresh given = gives-refuses (sym given)
located f (Area l) (Field r c k) p fresh given = gives-refuses (sym given)
located f (Grid l) (Sample i e c) p fresh given = gives-refuses (sym given)
located f (Grid l) (Point r c) p fresh given =
    let opens = (fresh_grid f l).0 fresh in
    let (is, same) = (point_place_lem l (grid_of_lem l.order f l.number l opens).fits r c p).0 given in
    point_at_lem opens is same
located f (Grid l) (Field r c k) p fresh given = gives-refuses (sym given)
located f (Md l) (Sample i e c) p fresh given = gives-refuses (sym given)
located f (Md l) (Point r c) p fresh given = gives-refuses (sym given)
located f (Md l) (Field r c k) p fresh given =
    let opens = (fresh_md f l).0 fresh in
    let (is, same) = (field_place_lem l (md_of_lem l.order f l opens).fits r c k p).0 given in
    field_at opens is same

-- and the other way round
pub has_place : {f : List ℕ} {l : Layout} {x : ValueName} {p : Place} → Located f l x p → place_of l x ≡ gives p
unfolding place_of
has_place {f} (sample_at {l} {i} {e} {s} {c} {p} opens slot is same) = (sample_place_lem l (area_of_lem f l opens).fits i e c p).1 (s, slot, (is, same))
has_place {f} (point_at_lem {l} {r} {c} {p} opens is same) = (point_place_lem l (grid_of_lem l.order f l.number l opens).fits r c p).1 (is, same)
has_place {f} (field_at {l} {r} {c} {k} {p} opens is same) = (field_place_lem l (md_of_lem l.order f l opens).fits r c k p).1 (is, same)

-- ---- inside the file

-- what holds of a place's address and width
along : (P : ℕ → ℕ → Type 0) {p : Place} {a w : ℕ} → p ≡ place a w → P a w → P p.address p.width
along P e h = subst (λ (q : Place). P q.address q.width) (sym e) h

-- a place is inside the file
pub place-inside : {f : List ℕ} {l : Layout} {x : ValueName} {p : Place} → Located f l x p → p.address + p.width ≤ length f
place-inside {f} (sample_at {l} {i} {e} {s} {c} {p} opens slot is same) =
    let of : AreaOf f l = area_of_lem f l opens in
    along (λ a w. a + w ≤ length f) same (omega (arith, sample-inside l of.fits i e s is, of.size))
place-inside {f} (point_at_lem {l} {r} {c} opens is same) =
    let of : GridOf l.order f l.number l = grid_of_lem l.order f l.number l opens in
    along (λ a w. a + w ≤ length f) same (omega (arith, point-inside l of.fits r c is, of.size))
place-inside {f} (field_at {l} {r} {c} {k} opens is same) =
    let of : MdOf l.order f l = md_of_lem l.order f l opens in
    along (λ a w. a + w ≤ length f) same (omega (arith, field-inside of.fits is, of.size))

-- it has 1 to 4 bytes
pub place-width : {f : List ℕ} {l : Layout} {x : ValueName} {p : Place} → Located f l x p → (1 ≤ p.width) × (p.width ≤ 4)
place-width {f} (sample_at {l} opens slot is same) =
    let fits = (area_of_lem f l opens).fits in
    along (λ a w. (1 ≤ w) × (w ≤ 4)) same (width-from l fits, width-to l fits)
place-width (point_at_lem opens is same) = along (λ a w. (1 ≤ w) × (w ≤ 4)) same (omega arith, omega arith)
place-width (field_at opens is same) = along (λ a w. (1 ≤ w) × (w ≤ 4)) same (omega arith, omega arith)

-- ---- on one lattice

-- the byte from which the places of a layout are counted, and how wide each is
abbrev pub base : Layout → ℕ
base (Area l) = l.data_start
base (Grid l) = 0
base (Md l) = 0

abbrev pub wide : Layout → ℕ
wide (Area l) = l.width
wide (Grid l) = 4
wide (Md l) = 4

-- a place is so many widths behind the base
pub place_lattice : {f : List ℕ} {l : Layout} {x : ValueName} {p : Place} → Located f l x p
    → (j : ℕ) × (p.address ≡ base l + j * wide l) × (p.width ≡ wide l)
place_lattice {f} (sample_at {l} {i} {e} {s} opens slot is same) =
    let (j, at) = sample_lattice l (area_of_lem f l opens).fits i e s is in
    (j, ap (λ (p : Place). p.address) same ∙ at, ap (λ (p : Place). p.width) same)
place_lattice (point_at_lem {l} {r} {c} opens is same) =
    (point_word l r c, ap (λ (p : Place). p.address) same ∙ omega (arith, mul_comm 4 (point_word l r c)), ap (λ (p : Place). p.width) same)
place_lattice (field_at {l} {r} {c} {k} opens is same) =
    (field_word l r c k, ap (λ (p : Place). p.address) same ∙ omega (arith, mul_comm 4 (field_word l r c k)), ap (λ (p : Place). p.width) same)

-- bytes at different multiples of a width
lattice_apart : (b w i j x v y u : ℕ) → x ≡ b + i * w → v ≡ w → y ≡ b + j * w → u ≡ w → ¬ (x ≡ y) → Apart x v y u
lattice_apart b w i j x v y u at wx at' wy other =
    rw (wx, wy, at, at') (multiples_apart b w i j (λ same. other (at ∙ ap (λ (k : ℕ). b + k * w) same ∙ sym at')))

-- two places of one layout share no byte, unless they are at one address
pub places_apart : {f : List ℕ} {l : Layout} {x y : ValueName} {p q : Place} → Located f l x p → Located f l y q → ¬ (p.address ≡ q.address)
    → Apart p.address p.width q.address q.width
places_apart {l = l} {p = p} {q = q} a b other =
    let (i, at, w) = place_lattice a in
    let (j, at', w') = place_lattice b in
    lattice_apart (base l) (wide l) i j p.address p.width q.address q.width at w at' w' other

-- ---- one address, one name

-- samples at one address have one line, one element, and slots or bands that mean one slot
pub samples_named : {f : List ℕ} {l : AreaLayout} {i e j d : ℕ} {c k : SlotOrBand} {p q : Place} → Located f (Area l) (Sample i e c) p
    → Located f (Area l) (Sample j d k) q → p.address ≡ q.address → (i ≡ j) × ((e ≡ d) × (slot_of l c ≡ slot_of l k))
samples_named {f} (sample_at {l} {i} {e} {s} opens slot is same) (sample_at {i = j} {e = d} {s = t} opens' slot' is' same') at =
    let address : sample_address l i e s ≡ sample_address l j d t = sym (ap (λ (p : Place). p.address) same) ∙ at ∙ ap (λ (p : Place). p.address) same' in
    let (line, (element, same-slot)) = sample_only l (area_of_lem f l opens).fits i e s j d t is is' address in
    (line, (element, slot ∙ ap gives same-slot ∙ sym slot'))

-- points at one address have one row and one column
pub points_named : {f : List ℕ} {l : GridLayout} {r c s d : ℕ} {p q : Place} → Located f (Grid l) (Point r c) p → Located f (Grid l) (Point s d) q
    → p.address ≡ q.address → (r ≡ s) × (c ≡ d)
points_named (point_at_lem {l} {r} {c} opens is same) (point_at_lem {r = s} {c = d} opens' is' same') at =
    let address : 4 * point_word l r c ≡ 4 * point_word l s d = sym (ap (λ (p : Place). p.address) same) ∙ at ∙ ap (λ (p : Place). p.address) same' in
    point_only l r c s d is is' (omega (arith, address))

-- fields at one address have one row, one column and one position
pub fields_named : {f : List ℕ} {l : MdLayout} {r c k s d j : ℕ} {p q : Place} → Located f (Md l) (Field r c k) p → Located f (Md l) (Field s d j) q
    → p.address ≡ q.address → (r ≡ s) × ((c ≡ d) × (k ≡ j))
fields_named {f} (field_at {l} {r} {c} {k} opens is same) (field_at {r = s} {c = d} {k = j} opens' is' same') at =
    let address : 4 * field_word l r c k ≡ 4 * field_word l s d j = sym (ap (λ (p : Place). p.address) same) ∙ at ∙ ap (λ (p : Place). p.address) same' in
    field_only (md_of_lem l.order f l opens).fits is is' (omega (arith, address))
