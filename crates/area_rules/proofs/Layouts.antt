-- Layouts and openings that are the same: what an opening says settles it, and layouts are compared field by field.
-- Assumes nothing.
use mathlib.Core.Path.{◌≡◌, refl, ap}
use mathlib.Core.Bool.{Bool, true, false}
use mathlib.Core.List.{List}
use Prim.Native.Nat.{ℕ}
use native.Mathlib.Omega.{arith}
use lib.ListN.{get_or}
use Rattle.endian_rules.proofs.Places.{order-same}
use Rattle.refusal_rules.specs.Tests.{Exactly}
use Rattle.refusal_rules.proofs.Exactness.{by_numbers}
use Rattle.area_rules.specs.Opening.{flag_number, area_numbers, same_area}
use Rattle.area_rules.specs.declared.AreaLayout.{AreaLayout}

-- two tests with one number are the same
flag_same : (a b : Bool) → flag_number a ≡ flag_number b → a ≡ b
flag_same true true e = refl
flag_same true false e = let z : ⊥ = omega arith in absurd z
flag_same false true e = let z : ⊥ = omega arith in absurd z
flag_same false false e = refl

-- layouts with the same numbers are the same
numbers_settle : (a b : AreaLayout) → area_numbers a ≡ area_numbers b → a ≡ b
numbers_settle a b e = λ i.
    record {
      order = order-same a.order b.order (ap (λ (l : List ℕ). get_or l 0 0) e) i;
      length = get_or (e i) 1 0;
      lines = get_or (e i) 2 0;
      elements = get_or (e i) 3 0;
      width = get_or (e i) 4 0;
      bands = get_or (e i) 5 0;
      prefix = get_or (e i) 6 0;
      no_validity_code = flag_same a.no_validity_code b.no_validity_code (ap (λ (l : List ℕ). get_or l 7 0) e) i;
      documentation = get_or (e i) 8 0;
      calibration = get_or (e i) 9 0;
      band_list = get_or (e i) 10 0;
      padding = get_or (e i) 11 0;
      map = get_or (e i) 12 0;
      map2 = get_or (e i) 13 0;
      data_start = get_or (e i) 14 0;
      nav = get_or (e i) 15 0;
      aux = get_or (e i) 16 0;
      cal = get_or (e i) 17 0;
      cards = get_or (e i) 18 0;
    }

-- the comparison says exactly whether two layouts are the same
pub same_area_exactly : (a b : AreaLayout) → Exactly (same_area a b) (a ≡ b)
unfolding same_area
same_area_exactly = by_numbers area_numbers numbers_settle
