-- What comes of a number that is put at a place, and of a store, which is planned by the place that the single read names.
-- Assumes nothing.
use mathlib.Core.Path.{◌≡◌, refl, sym, ap, subst, ◌∙◌}
use mathlib.Core.Bool.{Bool, true, false}
use mathlib.Core.List.{List}
use Prim.Native.Nat.{ℕ, ◌^◌, ◌≤◌, ◌<◌}
use native.Mathlib.Omega.{arith}
use lib.Dec.{ltb}
use borrow.Author.Tests.{ltb-true, ltb-false}
use Rattle.lists.specs.Choices.{pick}
use Rattle.endian_rules.specs.Numbers.{encode}
use Rattle.endian_rules.specs.declared.Order.{Order}
use Rattle.refusal_rules.specs.Answers.{Answer, gives, refuses}
use Rattle.refusal_rules.specs.declared.Place.{Place}
use Rattle.refusal_rules.proofs.Answers.{gives-refuses, gives-same}
use Rattle.store_theory.specs.Plans.{Plan, write, refuse, answer}
use Rattle.store_theory.specs.Formats.{plan}
use Rattle.layout_rules.specs.Layouts.{reopened, gives_that, is_fresh, layout_order}
use Rattle.layout_rules.specs.Found.{found}
use Rattle.layout_rules.specs.declared.Layout.{Layout}
use Rattle.value_rules.specs.Places.{place_of}
use Rattle.value_rules.specs.Reading.{place_in}
use Rattle.store_rules.specs.Stores.{Store, Request, value_name_of, request_number, bits_of, Done, put_at, put_in, when_fresh, plan_of}

module _ (o : Order) (n : ℕ) (x : Answer Place) where
  -- what comes of it: there is no place, or the number does not fit its bytes, or they are written
  pub data Comes : Plan Done → Type 0 where
    none : (k q : ℕ) → x ≡ refuses k q → Comes (refuse (refuses k q))
    large : (p : Place) → x ≡ gives p → 256 ^ p.width ≤ n → Comes (refuse (refuses 8 0))
    there : (p : Place) → x ≡ gives p → n < 256 ^ p.width → Comes (write (gives tt) p.address (encode o p.width n))

  pub comes : Comes (put_in o n x)
  unfolding put_at
  comes = step x refl
    where
      fits : (p : Place) → x ≡ gives p → (t : Bool) → ltb n (256 ^ p.width) ≡ t
          → Comes (pick {A = Plan Done} t (write (gives tt) p.address (encode o p.width n)) (refuse (refuses 8 0)))
      fits p e true h = there p e (ltb-true n (256 ^ p.width) h)
      fits p e false h = large p e (ltb-false n (256 ^ p.width) h)

      step : (y : Answer Place) → x ≡ y → Comes (put_in o n y)
      step (gives p) e = fits p e (ltb n (256 ^ p.width)) refl
      step (refuses k q) e = none k q e

  -- where it fits the place, it is put there
  pub put_there : (p : Place) → x ≡ gives p → n < 256 ^ p.width → answer (put_in o n x) ≡ gives tt
  put_there p e h = step (put_in o n x) comes
    where
      step : (y : Plan Done) → Comes y → answer y ≡ gives tt
      step _ (none k q w) = gives-refuses (sym e ∙ w)
      step _ (large r w m) = let same : 256 ^ p.width ≡ 256 ^ r.width = ap (λ (u : Place). 256 ^ u.width) (gives-same (sym e ∙ w)) in absurd (omega (arith, h, m, same))
      step _ (there r w m) = refl

  -- where it does not, it is refused with 8
  pub put_large : (p : Place) → x ≡ gives p → 256 ^ p.width ≤ n → answer (put_in o n x) ≡ refuses 8 0
  put_large p e h = step (put_in o n x) comes
    where
      step : (y : Plan Done) → Comes y → answer y ≡ refuses 8 0
      step _ (none k q w) = gives-refuses (sym e ∙ w)
      step _ (large r w m) = refl
      step _ (there r w m) = let same : 256 ^ p.width ≡ 256 ^ r.width = ap (λ (u : Place). 256 ^ u.width) (gives-same (sym e ∙ w)) in absurd (omega (arith, h, m, same))

-- ---- a store

module _ (f : List ℕ) (l : Layout) (q : Request) where
  abbrev self : Store
  self = record { layout = l; request = q }

  abbrev bits : ℕ
  bits = bits_of (request_number q)

  -- the place that the single read names
  abbrev named : Answer Place
  named = place_in f l (value_name_of q)

  -- it is planned by that place
  pub plan_by_place : plan_of f self ≡ put_in (layout_order l) bits named
  unfolding plan when_fresh found is_fresh
  plan_by_place = step (gives_that l (reopened f l)) (place_of l (value_name_of q))
    where
      step : (t : Bool) (x : Answer Place)
          → pick {A = Plan Done} t (put_in (layout_order l) bits x) (refuse (refuses 9 0)) ≡ put_in (layout_order l) bits (pick t x (refuses 9 0))
      step true x = refl
      step false x = refl

  -- what comes of a store, as facts
  pub coming : Comes (layout_order l) bits named (plan_of f self)
  coming = subst (Comes (layout_order l) bits named) (sym plan_by_place) (comes (layout_order l) bits named)
