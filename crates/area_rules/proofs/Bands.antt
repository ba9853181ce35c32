-- Laws of the band map. A bit is 0 or 1, so the bits below a bit that is set are fewer than all that are set: the slots of the bands of a usable map are
-- slots of an element, and no two bands have one slot.
-- Assumes nothing.
use mathlib.Core.Path.{◌≡◌, refl}
use mathlib.Core.Logic.{◌↔◌, ⊎_elim}
use mathlib.Core.List.{[], ◌∷◌}
use Prim.Native.Nat.{ℕ, zero, suc, ◌+◌, ◌-◌, ◌/◌, ◌^◌, ◌≤◌, ◌<◌}
use native.Mathlib.Nat.{mod-lt, eq-or-lt_of_le, le_of_suc-le-suc}
use native.Mathlib.Omega.{arith}
use lib.Dec.{ltb, lit<}
use borrow.Author.Tests.{ltb-true, lt-ltb, le-leb, eqb-true, eq-eqb}
use Rattle.lists.proofs.Choices.{pick_cases}
use Rattle.lists.proofs.Rows.{compared}
use Rattle.refusal_rules.specs.Answers.{gives, refuses}
use Rattle.refusal_rules.specs.Rules.{rule, tabled, first_fault, first, judge}
use Rattle.refusal_rules.specs.Tests.{Exactly}
use Rattle.refusal_rules.proofs.Answers.{value_exactly, never_refused}
use Rattle.refusal_rules.proofs.Exactness.{both_exactly, within_exactly, eq_exactly}
use Rattle.area_rules.specs.declared.AreaLayout.{AreaLayout}
use Rattle.area_rules.specs.Bands.{bit_of, second_map, map_bit, set_below, has_band, band_rules, band_slot, slot_of}
use Rattle.area_rules.specs.declared.SlotOrBand.{SlotOrBand}
use Rattle.area_rules.specs.declared.SlotOrBand.TheVariants.{Slot, Band}

module _ (w19 w20 : ℕ) where
  -- a bit is 0 or 1
  pub bit_most : (i : ℕ) → map_bit w19 w20 i ≤ 1
  unfolding map_bit
  bit_most i =
      pick_cases (λ (x : ℕ). x ≤ 1) (ltb i 32) (bit_of w19 i) (bit_of w20 (i - 32))
      (λ e. le_of_suc-le-suc (mod-lt (w19 / 2 ^ i) (lit< tt)))
      (λ e. le_of_suc-le-suc (mod-lt (w20 / 2 ^ (i - 32)) (lit< tt)))

  -- no more bits are set than there are
  pub below_most : (n : ℕ) → set_below w19 w20 n ≤ n
  unfolding set_below
  below_most zero = omega arith
  below_most (suc n) = omega (arith, below_most n, bit_most n)

  -- a bit that is set counts below every later one
  pub below_set : (n m : ℕ) → map_bit w19 w20 n ≡ 1 → n < m → set_below w19 w20 n < set_below w19 w20 m
  unfolding set_below
  below_set n zero e h = let z : ⊥ = omega arith in absurd z
  below_set n (suc m) e h = ⊎_elim (λ same. rw same (rw same at here)) (λ lt. omega (arith, below_set n m e lt)) (eq-or-lt_of_le (le_of_suc-le-suc h))
    where
      here : set_below w19 w20 n < set_below w19 w20 n + map_bit w19 w20 n
      here = omega (arith, e)

-- 4 at 19 for the map comes before 7 for the band
pub band_order : (w19 w20 w14 b : ℕ) → tabled (band_rules w19 w20 w14 b) ≡ (4, 19) ∷ (7, 0) ∷ []
unfolding tabled band_rules
band_order w19 w20 w14 b = refl

-- the map has band b
pub record HasBand (w19 w20 b : ℕ) : Type 0 where
  pub from : 1 ≤ b
  pub to : b ≤ 64
  pub set : map_bit w19 w20 (b - 1) ≡ 1

-- the test says exactly that it has
pub band_exactly : (w19 w20 b : ℕ) → Exactly (has_band w19 w20 b) (HasBand w19 w20 b)
band_exactly w19 w20 b =
    let x = both_exactly (within_exactly 1 64 b) (eq_exactly (map_bit w19 w20 (b - 1)) 1) in
    record {
      sound = λ e. let (bounds, set) = x.sound e in record { from = bounds.0; to = bounds.1; set = set };
      complete = λ h. x.complete ((h.from, h.to), h.set);
    }

-- a slot is answered exactly where the map is usable and has the band, and it is then the number of set bits below the band's own
pub band_slot_exactly : (w19 w20 w14 b s : ℕ)
    → (band_slot w19 w20 w14 b ≡ gives s)
    ↔ let map2 = second_map w14 w20 in ((set_below w19 map2 64 ≡ w14) × (HasBand w19 map2 b × (s ≡ set_below w19 map2 (b - 1))))
unfolding band_slot band_rules
band_slot_exactly w19 w20 w14 b s =
    let map2 : ℕ = second_map w14 w20 in
    let x = value_exactly (band_rules w19 w20 w14 b) (set_below w19 map2 (b - 1)) s in
    let y = band_exactly w19 map2 b in (
      λ e. let (hold, same) = x.0 e in (eqb-true (set_below w19 map2 64) w14 hold.0, (y.sound hold.1.0, same)),
      λ h. x.1 ((eq-eqb (set_below w19 map2 64) w14 h.0, (y.complete h.1.0, tt)), h.1.1),
    )

-- where there are at most 32 bands, W20 has no part in the answer
pub second_map_unread : (w19 w20 w14 b : ℕ) → w14 ≤ 32 → band_slot w19 w20 w14 b ≡ band_slot w19 0 w14 b
unfolding band_slot band_rules
second_map_unread w19 w20 w14 b h = rw (le-leb w14 32 h)

-- two bands, with a bit set in each of W19 and W20: of W19 and W20 together two bits are set, but W20 does not count, and the map is unusable
pub two_bands_one_bit : band_slot 1 1 2 33 ≡ refuses 4 19
unfolding band_slot band_rules set_below map_bit first_fault first judge
two_bands_one_bit = refl

-- the slot of a band is one of the slots of an element
pub band_inside : (w19 w20 w14 b s : ℕ) → band_slot w19 w20 w14 b ≡ gives s → s < w14
band_inside w19 w20 w14 b s e =
    let (all, (has, same)) = (band_slot_exactly w19 w20 w14 b s).0 e in
    omega (arith, all, same, below_set w19 (second_map w14 w20) (b - 1) 64 has.set (omega (arith, has.from, has.to)))

-- no two bands have one slot
pub band_only : (w19 w20 w14 b c s : ℕ) → band_slot w19 w20 w14 b ≡ gives s → band_slot w19 w20 w14 c ≡ gives s → b ≡ c
band_only w19 w20 w14 b c s e f =
    let (all, (has, same)) = (band_slot_exactly w19 w20 w14 b s).0 e in
    let (all', (has', same')) = (band_slot_exactly w19 w20 w14 c s).0 f in
    ⊎_elim (λ q. omega (arith, q, has.from, has'.from))
    (⊎_elim
    (λ lt. let z : ⊥ = omega (arith, same, same', below_set w19 (second_map w14 w20) (b - 1) (c - 1) has.set lt) in absurd z)
    (λ lt. let z : ⊥ = omega (arith, same, same', below_set w19 (second_map w14 w20) (c - 1) (b - 1) has'.set lt) in absurd z))
    (compared (b - 1) (c - 1))

-- a slot is answered exactly where the element has it
pub slot_itself : (l : AreaLayout) (s t : ℕ) → (slot_of l (Slot s) ≡ gives t) ↔ ((s < l.bands) × (t ≡ s))
slot_itself l s t =
    let x = value_exactly (rule (ltb s l.bands) 7 0 ∷ []) s t in
    (λ e. let (hold, same) = x.0 e in (ltb-true s l.bands hold.0, same), λ h. x.1 ((lt-ltb s l.bands h.0, tt), h.1))

-- what a slot or band means is one of the slots of an element
pub named_slot-inside : (l : AreaLayout) (c : SlotOrBand) (s : ℕ) → slot_of l c ≡ gives s → s < l.bands
named_slot-inside l (Slot t) s e = omega (arith, ((slot_itself l t s).0 e).0, ((slot_itself l t s).0 e).1)
named_slot-inside l (Band b) s e = band_inside l.map l.map2 l.bands b s e

-- no number above 7 is given, at any place: 8 is left to stores, and 9 to layouts that are stale
pub slot_never : (n p : ℕ) → 7 < n → (l : AreaLayout) (c : SlotOrBand) → ¬ (slot_of l c ≡ refuses n p)
unfolding band_slot band_rules
slot_never n p h l (Slot s) = never_refused (rule (ltb s l.bands) 7 0 ∷ []) s n p (λ e. omega (arith, e, h), tt)
slot_never n p h l (Band b) = never_refused (band_rules l.map l.map2 l.bands b) _ n p (λ e. omega (arith, e, h), (λ e. omega (arith, e, h), tt))
