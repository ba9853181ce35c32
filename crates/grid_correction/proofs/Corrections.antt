-- What the corrections of the example give: a corrected point reads back its value, and two corrections of different points may be made in either order.
-- Assumes nothing.
use mathlib.Core.Path.{◌≡◌, refl, sym, ap, ap₂, subst, ◌∙◌}
use mathlib.Core.List.Memᴰ
use mathlib.Core.List.Permᴰ
use mathlib.Core.List.{List, [], ◌∷◌}
use Prim.Native.Nat.{ℕ}
use lib.IntN.{ℤ}
use lib.ListN.{get_or}
use mir.Syntax.{w32}
use mir.Val.{of_z, SFits}
use Rattle.endian_rules.specs.declared.Order.{Order}
use Rattle.refusal_rules.specs.Answers.{Answer, gives, refuses, mapped}
use Rattle.refusal_rules.proofs.Answers.{gives-refuses, mapped-gives, mapped-refuses}
use Rattle.refusal_rules.specs.declared.Place.{Place}
use Rattle.store_theory.specs.Plans.{outcome, SucceedsAt}
use Rattle.store_theory.specs.Stores.{All}
use Rattle.store_theory.specs.Formats.{system}
use Rattle.grid_rules.specs.Opening.{open_grid}
use Rattle.grid_rules.specs.declared.GridLayout.{GridLayout}
use Rattle.layout_rules.specs.Layouts.{kind_of, layout_order}
use Rattle.layout_rules.specs.declared.Layout.{Layout}
use Rattle.layout_rules.specs.declared.Layout.TheVariants.{Area, Grid, Md}
use Rattle.value_rules.specs.declared.ValueName.TheVariants.{Point}
use Rattle.value_rules.proofs.Places.{Located, point_at_lem, points_named}
use Rattle.value_rules.specs.Reading.{place_in, read_word, read_point}
use Rattle.value_rules.proofs.Reading.{point_located}
use Rattle.store_rules.specs.Stores.{Store, Done, signed, point, put_in, plan_of, stores_in, store_point, store_format}
use Rattle.store_rules.proofs.Stores.{order_does_not_matter}
use Rattle.store_rules.proofs.Single.{store_by_place, reads_back, done_at, word_done}
use Rattle.grid_correction.specs.Corrections.{corrected_by, correct_point, store_of, two_say, correct_two}
use Rattle.refusal_rules.proofs.Answers.{says_settles}
use Rattle.grid_correction.specs.declared.Correction.{Correction}
use Rattle.grid_correction.specs.declared.TwoAnswers.{TwoAnswers}

-- what two answers say settles them
pub two_settled : (x y : TwoAnswers) → two_say x ≡ two_say y → x ≡ y
two_settled x y e =
    λ i.
    record {
      first = says_settles x.first y.first (ap (λ (l : List Done). get_or l 0 (gives tt)) e) i;
      second = says_settles x.second y.second (ap (λ (l : List Done). get_or l 1 (gives tt)) e) i;
    }

-- a store of a point that can be read succeeds
pub stored : (f : List ℕ) (l : Layout) (r c : ℕ) (v old : ℤ) → SFits w32 v → read_point f l r c ≡ gives old → (store_point f l r c v).0 ≡ gives tt
stored f l r c v old typed e = (word_done f l (point r c v) tt typed).1 (point_located f l r c old e)

-- a store of a point that is refused when it is read leaves the file as it was
pub unread : (f : List ℕ) (l : Layout) (r c : ℕ) (v : ℤ) (n p : ℕ) → read_point f l r c ≡ refuses n p → (store_point f l r c v).1 ≡ f
unfolding read_word outcome
unread f l r c v n p e =
    let at : place_in f l (Point r c) ≡ refuses n p = (mapped-refuses _ (place_in f l (Point r c)) n p).0 e in
    ap (λ (d : Done × List ℕ). d.1) (store_by_place f l (point r c v))
    ∙ ap (λ (x : Answer Place). (outcome f (put_in (layout_order l) (of_z w32 v) x)).1) at

-- so does a correction of it
pub unread_told : (f : List ℕ) (o : Order) (g r c : ℕ) (v : ℤ) (l : Layout) (n p : ℕ) → gives l ≡ mapped Grid (open_grid o f g)
    → refuses n p ≡ read_point f l r c → (refuses n p, f) ≡ correct_point f o g r c v
unread_told f o g r c v l n p opens e =
    ap₂ (λ (x : Answer ℤ) (h : List ℕ). (x, h)) e (sym (unread f l r c v n p (sym e))) ∙ ap (λ (x : Answer Layout). corrected_by f x r c v) opens

-- a store of a point that can be read is not refused
pub stored_told : (f : List ℕ) (l : Layout) (r c : ℕ) (v old : ℤ) (n p : ℕ) (h : List ℕ) → SFits w32 v → gives old ≡ read_point f l r c
    → ¬ ((refuses n p, h) ≡ store_point f l r c v)
stored_told f l r c v old n p h typed e same =
    gives-refuses (sym (stored f l r c v old typed (sym e)) ∙ sym (ap (λ (d : Done × List ℕ). d.0) same))

-- a point that can be read reads the value after a store
stored_reads : (f : List ℕ) (l : Layout) (r c : ℕ) (v old : ℤ) → SFits w32 v → read_point f l r c ≡ gives old
    → read_point (store_point f l r c v).1 l r c ≡ gives v
stored_reads f l r c v old typed e =
    (mapped-gives signed (λ x y same. cc) (read_point (store_point f l r c v).1 l r c) v).0
    (reads_back f l (point r c v) typed (stored f l r c v old typed e))

-- A point whose correction is answered its old value reads the new one, by the layout with which the file was opened.
pub corrected_reads : (f : List ℕ) (o : Order) (g r c : ℕ) (v old : ℤ) (l : GridLayout) → SFits w32 v → open_grid o f g ≡ gives l
    → (correct_point f o g r c v).0 ≡ gives old → read_point (correct_point f o g r c v).1 (Grid l) r c ≡ gives v
corrected_reads f o g r c v old l typed opens e =
    let by : correct_point f o g r c v ≡ corrected_by f (gives (Grid l)) r c v = ap (λ x. corrected_by f (mapped Grid x) r c v) opens in
    ap (λ x. read_point x.1 (Grid l) r c) by ∙ stored_reads f (Grid l) r c v old typed (ap (λ x. x.0) (sym by) ∙ e)

-- two points at one address are one point
one_point : (f : List ℕ) (l : Layout) (x y : Correction) (a : ℕ) → SucceedsAt a (plan_of f (store_of l x)) → SucceedsAt a (plan_of f (store_of l y))
    → (x.row ≡ y.row) × (x.column ≡ y.column)
one_point f l x y a p q =
    let (u, (fresh, at), here) = done_at f l (point x.row x.column x.value) a p in
    let (w, (fresh', at'), there) = done_at f l (point y.row y.column y.value) a q in
    step l u w at at' (here ∙ sym there)
  where
    step : (m : Layout) (u w : Place) → Located f m (Point x.row x.column) u → Located f m (Point y.row y.column) w → u.address ≡ w.address
        → (x.row ≡ y.row) × (x.column ≡ y.column)
    step (Area _) u w at at' same = elim at [ ]
    step (Md _) u w at at' same = elim at [ ]
    step (Grid m) u w (point_at_lem opens is at) at' same = points_named (point_at_lem opens is at) at' same

-- Two corrections in one order and in the other: they leave the same bytes, and each is answered what it would be answered alone.
pub record EitherOrder (f : List ℕ) (l : Layout) (x y : Correction) : Type 0 where
  pub bytes : (correct_two f l x y).1 ≡ (correct_two f l y x).1
  pub answers : (correct_two f l x y).0 ≡ (stores_in f (store_of l x)).0 ∷ (stores_in f (store_of l y)).0 ∷ []
  pub answers' : (correct_two f l y x).0 ≡ (stores_in f (store_of l y)).0 ∷ (stores_in f (store_of l x)).0 ∷ []

-- So it is with corrections of different points, by any layout, fresh or stale: promise 3 of a list of two stores.
pub either-order : (f : List ℕ) (l : Layout) (x y : Correction) → SFits w32 x.value → SFits w32 y.value
    → ¬ ((x.row ≡ y.row) × (x.column ≡ y.column)) → EitherOrder f l x y
unfolding outcome
either-order f l x y typed typed' other =
    let free = (order_does_not_matter.claim (kind_of l) (layout_order l) f two fit (apart, ((λ t m. absurd (Memᴰ.not-nil m)), tt))).free in
    let swapped = Permᴰ.swap refl refl in
    record {
      bytes = free.same two (Permᴰ.refl two) ∙ sym (free.same (store_of l y ∷ store_of l x ∷ []) swapped);
      answers = free.answered two (Permᴰ.refl two);
      answers' = free.answered (store_of l y ∷ store_of l x ∷ []) swapped;
    }
  where
    two : List Store
    two = store_of l x ∷ store_of l y ∷ []

    Fit : Store → Type 0
    Fit s = (system store_format (record { kind = kind_of l; order = layout_order l })).Fit s

    fit : All Fit two
    fit s (Memᴰ.head same) = subst Fit (sym same) (refl, typed)
    fit s (Memᴰ.tail (Memᴰ.head same)) = subst Fit (sym same) (refl, typed')
    fit s (Memᴰ.tail (Memᴰ.tail m)) = absurd (Memᴰ.not-nil m)

    apart : All (λ t. (a : ℕ) → SucceedsAt a (plan_of f (store_of l x)) → SucceedsAt a (plan_of f t) → ⊥) (store_of l y ∷ [])
    apart s (Memᴰ.head same) a p q = other (one_point f l x y a p (subst (λ (t : Store). SucceedsAt a (plan_of f t)) same q))
    apart s (Memᴰ.tail m) a p q = absurd (Memᴰ.not-nil m)
