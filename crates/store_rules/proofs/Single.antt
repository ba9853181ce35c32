-- A single store. It goes to the place that the single read names, and is refused as the read is, but for 8, a number above the bytes of its place.
-- Assumes nothing.
use mathlib.Core.Path.{◌≡◌, refl, sym, ap, subst, ◌∙◌}
use mathlib.Core.Logic.{◌↔◌}
use mathlib.Core.List.Memᴰ
use mathlib.Core.List.Permᴰ
use mathlib.Core.List.{List, [], ◌∷◌}
use Prim.Native.Nat.{ℕ, ◌^◌, ◌≤◌, ◌<◌}
use native.Mathlib.Omega.{arith}
use lib.Seq.{sets}
use mir.Facts.{Fits-of_z}
use Rattle.endian_rules.specs.Numbers.{encode}
use Rattle.refusal_rules.specs.Answers.{Answer, gives, refuses}
use Rattle.refusal_rules.specs.declared.Place.{Place}
use Rattle.refusal_rules.proofs.Answers.{gives-refuses, gives-same, refuses_alike}
use Rattle.store_theory.specs.Plans.{Plan, answer, after, outcome, SucceedsAt}
use Rattle.store_theory.specs.Series.{leaves}
use Rattle.store_theory.specs.Stores.{All}
use Rattle.store_theory.specs.Formats.{system}
use Rattle.layout_rules.specs.Layouts.{kind_of, layout_order, Fresh}
use Rattle.layout_rules.specs.declared.Layout.{Layout}
use Rattle.layout_rules.proofs.Freshness.{found_only}
use Rattle.value_rules.specs.Places.{place_of}
use Rattle.value_rules.proofs.Places.{Located}
use Rattle.value_rules.proofs.Refusals.{place_never}
use Rattle.value_rules.specs.Reading.{place_in, IsWord}
use Rattle.value_rules.proofs.Reading.{word_width, place_exactly, place-stale}
use Rattle.store_rules.specs.Stores.{Store, Request, sample, point, field, value_name_of, request_number, bits_of, InType, Done, put_in, plan_of, stores_in, read_back, store_format}
use Rattle.store_rules.proofs.Puts.{Comes, none, large, there, put_there, put_large, plan_by_place, coming}
use Rattle.store_rules.proofs.Stores.{order_does_not_matter}

-- ---- a store

module _ (f : List ℕ) (l : Layout) (q : Request) where
  abbrev self : Store
  self = record { layout = l; request = q }

  abbrev bits : ℕ
  bits = bits_of (request_number q)

  -- the place that the single read names
  abbrev named : Answer Place
  named = place_in f l (value_name_of q)

  -- its outcome goes by that place
  pub store_by_place : stores_in f self ≡ outcome f (put_in (layout_order l) bits named)
  store_by_place = ap (outcome f) (plan_by_place f l q)

  -- It succeeds exactly where the layout is fresh, there is such a value, and the number fits its bytes.
  pub done_exactly : ((stores_in f self).0 ≡ gives tt) ↔ ((p : Place) × (Fresh f l × Located f l (value_name_of q) p) × (bits < 256 ^ p.width))
  unfolding outcome
  done_exactly = (
    step (plan_of f self) (coming f l q),
    λ h. ap answer (plan_by_place f l q) ∙ put_there (layout_order l) bits named h.0 ((place_exactly f l (value_name_of q) h.0).1 h.1) h.2,
  )
    where
      step : (y : Plan Done) → Comes (layout_order l) bits named y → answer y ≡ gives tt
          → (p : Place) × (Fresh f l × Located f l (value_name_of q) p) × (bits < 256 ^ p.width)
      step _ (none k p w) e = gives-refuses (sym e)
      step _ (large p w h) e = gives-refuses (sym e)
      step _ (there p w h) e = (p, (place_exactly f l (value_name_of q) p).0 w, h)

  -- Where it succeeds at an address, that is the paper's address of its value.
  pub done_at : (a : ℕ) → SucceedsAt a (plan_of f self) → (p : Place) × (Fresh f l × Located f l (value_name_of q) p) × (p.address ≡ a)
  done_at a = step (plan_of f self) (coming f l q)
    where
      step : (y : Plan Done) → Comes (layout_order l) bits named y → SucceedsAt a y → (p : Place) × (Fresh f l × Located f l (value_name_of q) p) × (p.address ≡ a)
      step _ (none k p w) h = absurd h
      step _ (large p w m) h = absurd h
      step _ (there p w m) h = (p, (place_exactly f l (value_name_of q) p).0 w, h)

  -- It is refused with 8 exactly where the layout is fresh and there is such a value, but the number does not fit its bytes.
  pub large_exactly : ((stores_in f self).0 ≡ refuses 8 0) ↔ ((p : Place) × (Fresh f l × Located f l (value_name_of q) p) × (256 ^ p.width ≤ bits))
  unfolding outcome
  large_exactly = (
    step (plan_of f self) (coming f l q),
    λ h. ap answer (plan_by_place f l q) ∙ put_large (layout_order l) bits named h.0 ((place_exactly f l (value_name_of q) h.0).1 h.1) h.2,
  )
    where
      eight-not-nine : ¬ (◌≡◌ {A = Answer Place} (refuses 8 0) (refuses 9 0))
      eight-not-nine e = let same : ◌≡◌ {A = ℕ} 8 9 = cc in omega (arith, same)

      never : ¬ (named ≡ refuses 8 0)
      never e = place_never 8 0 (omega arith) l (value_name_of q) ((found_only (λ m. place_of m (value_name_of q)) f l (refuses 8 0) eight-not-nine).0 e).1

      step : (y : Plan Done) → Comes (layout_order l) bits named y → answer y ≡ refuses 8 0
          → (p : Place) × (Fresh f l × Located f l (value_name_of q) p) × (256 ^ p.width ≤ bits)
      step _ (none k p w) e = absurd (never (w ∙ refuses_alike e))
      step _ (large p w h) e = (p, (place_exactly f l (value_name_of q) p).0 w, h)
      step _ (there p w h) e = gives-refuses e

  -- It is refused with any other number exactly where the place is, which is where the single read is.
  pub refused_exactly : (n p : ℕ) → ¬ (n ≡ 8) → ((stores_in f self).0 ≡ refuses n p) ↔ (named ≡ refuses n p)
  unfolding outcome
  refused_exactly n p other = (step (plan_of f self) (coming f l q), λ e. ap answer (plan_by_place f l q) ∙ ap (λ (x : Answer Place). answer (put_in (layout_order l) bits x)) e)
    where
      step : (y : Plan Done) → Comes (layout_order l) bits named y → answer y ≡ refuses n p → named ≡ refuses n p
      step _ (none k u w) e = w ∙ refuses_alike e
      step _ (large r w h) e = let same : 8 ≡ n = cc in absurd (other (sym same))
      step _ (there r w h) e = gives-refuses e

  -- With 9 it is refused exactly where the layout is stale.
  pub store_stale : ((stores_in f self).0 ≡ refuses 9 0) ↔ (¬ Fresh f l)
  store_stale =
      let x = refused_exactly 9 0 (λ e. omega (arith, e)) in
      let y = place-stale f l (value_name_of q) in
      (λ e. y.0 (x.0 e), λ h. x.1 (y.1 h))

  -- A refusal leaves the file as it was.
  pub refused_unchanged : (n p : ℕ) → (stores_in f self).0 ≡ refuses n p → (stores_in f self).1 ≡ f
  unfolding outcome
  refused_unchanged n p = step (plan_of f self) (coming f l q)
    where
      step : (y : Plan Done) → Comes (layout_order l) bits named y → answer y ≡ refuses n p → after f y ≡ f
      step _ (none k u w) e = refl
      step _ (large r w h) e = refl
      step _ (there r w h) e = gives-refuses e

  -- A store that succeeds puts its number's bytes, in the file's order, at the place that the single read names, and changes no other byte.
  pub done_written : (p : Place) → named ≡ gives p → (stores_in f self).0 ≡ gives tt
      → (stores_in f self).1 ≡ sets f p.address (encode (layout_order l) p.width bits)
  unfolding outcome
  done_written p at = step (plan_of f self) (coming f l q)
    where
      step : (y : Plan Done) → Comes (layout_order l) bits named y → answer y ≡ gives tt
          → after f y ≡ sets f p.address (encode (layout_order l) p.width bits)
      step _ (none k u w) e = gives-refuses (sym e)
      step _ (large r w h) e = gives-refuses (sym e)
      step _ (there r w h) e = ap (λ (u : Place). sets f u.address (encode (layout_order l) u.width bits)) (gives-same (sym w ∙ at))

  -- The single read of the same value with the same layout then gives the number: demand 3 of a list of one store.
  pub reads_back : InType (request_number q) → (stores_in f self).0 ≡ gives tt → read_back (stores_in f self).1 l q ≡ gives (request_number q)
  unfolding outcome leaves
  reads_back typed e =
      let d = (order_does_not_matter.claim (kind_of l) (layout_order l) f (self ∷ []) fit ((λ t m. absurd (Memᴰ.not-nil m)), tt)).free in
      let (a, at) = (order_does_not_matter.succeeds f self).1 e in
      ap (λ (g : List ℕ). read_back g l q) (d.same (self ∷ []) (Permᴰ.refl (self ∷ []))) ∙ d.stored self (Memᴰ.head refl) a at
    where
      fit : All (system store_format (record { kind = kind_of l; order = layout_order l })).Fit (self ∷ [])
      fit s (Memᴰ.head same) = subst (system store_format (record { kind = kind_of l; order = layout_order l })).Fit (sym same) (refl, typed)
      fit s (Memᴰ.tail m) = absurd (Memᴰ.not-nil m)

-- ---- stores of signed words

-- the bits of a signed word fit four bytes
word_number-fits : (f : List ℕ) (l : Layout) (q : Request) (p : Place) → Located f l (value_name_of q) p → IsWord (value_name_of q) → InType (request_number q)
    → bits_of (request_number q) < 256 ^ p.width
word_number-fits f l (sample i e c n) p at is typed = absurd is
word_number-fits f l (point r c v) p at is typed = rw (word_width at is) (Fits-of_z typed).fits
word_number-fits f l (field r c k v) p at is typed = rw (word_width at is) (Fits-of_z typed).fits

-- The store of a point or a field succeeds exactly where there is such a value: it is never refused with 8.
pub word_done : (f : List ℕ) (l : Layout) (q : Request) → IsWord (value_name_of q) → InType (request_number q)
    → ((stores_in f (record { layout = l; request = q })).0 ≡ gives tt) ↔ ((p : Place) × Fresh f l × Located f l (value_name_of q) p)
word_done f l q is typed =
    let x = done_exactly f l q in
    (λ e. let (p, at, fits) = x.0 e in (p, at.0, at.1), λ h. x.1 (h.0, (h.1, h.2), word_number-fits f l q h.0 h.2 is typed))
