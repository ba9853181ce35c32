-- A file that is accepted in one byte order is refused in the other. So of two accepted files one keeps the grids of the other, if it does so in their own order.
-- Assumes nothing.
use mathlib.Core.Path.{◌≡◌, refl, sym, subst, ◌∙◌}
use mathlib.Core.Bool.{false}
use mathlib.Core.List.{List}
use Prim.Native.Nat.{ℕ, ◌≤◌}
use native.Mathlib.Decide.{ℕ_discrete}
use native.Mathlib.Omega.{arith}
use lib.ListN.{length}
use borrow.Author.Tests.{le-leb}
use Rattle.endian_rules.specs.Words.{word_at, order_number}
use Rattle.endian_rules.specs.declared.Order.{Order}
use Rattle.endian_rules.specs.declared.Order.TheVariants.{Big, Little}
use Rattle.endian_rules.proofs.Places.{one_order, order-same}
use Rattle.refusal_rules.specs.Rules.{judge, first, first_fault, Fault}
use Rattle.refusal_rules.specs.Answers.{refuses}
use Rattle.refusal_rules.specs.Tests.{within}
use Rattle.refusal_rules.proofs.Answers.{gives-refuses}
use Rattle.refusal_rules.proofs.Exactness.{within_exactly}
use Rattle.grid_rules.specs.Rules.{grid_head_rules}
use Rattle.grid_rules.specs.Accepts.{AcceptsGridHead}
use Rattle.grid_rules.specs.Opening.{open_grid}
use Rattle.grid_rules.specs.declared.GridLayout.{GridLayout}
use Rattle.grid_rules.proofs.Acceptance.{file-split, open_split}
use Rattle.extent_rules.specs.Steps.{GridAccepted}
use Rattle.extent_rules.proofs.Free.{accepted_file, fails}
use Rattle.grid_update_laws.specs.Kept.{IsOf}
use Rattle.grid_update_laws.proofs.Kept.{Keeps}

-- no file has a number of grids in both orders
one_count : (p o : Order) (f : List ℕ) → ¬ (order_number p ≡ order_number o) → 44 ≤ length f → (1 ≤ word_at o f 10) × (word_at o f 10 ≤ 1024)
    → ¬ ((1 ≤ word_at p f 10) × (word_at p f 10 ≤ 1024))
one_count Big Big f other long x y = other refl
one_count Big Little f other long x y =
    one_order f 10 (word_at Big f 10) (word_at Little f 10) (omega arith) refl refl y.0 (omega (arith, y.1)) (omega (arith, x.1))
one_count Little Big f other long x y =
    one_order f 10 (word_at Big f 10) (word_at Little f 10) (omega arith) refl refl x.0 (omega (arith, x.1)) (omega (arith, y.1))
one_count Little Little f other long x y = other refl

-- so a file that is accepted in one order is refused with 3 at word 10 in the other
pub other_refused : (p o : Order) (f : List ℕ) → ¬ (order_number p ≡ order_number o) → GridAccepted o f → (number : ℕ) → open_grid p f number ≡ refuses 3 10
unfolding open_grid grid_head_rules first_fault judge first
other_refused p o f other accepted number =
    let head : AcceptsGridHead (length f) (word_at o f) = (accepted_file o f accepted).head in
    let out : within 1 1024 (word_at p f 10) ≡ false =
    fails (within_exactly 1 1024 (word_at p f 10)) (one_count p o f other head.long head.grids) in
    open_split p (length f) (word_at p f) number (Fault (record { number = 3; place = 10 }))
    (file-split (length f) (word_at p f) (Fault (record { number = 3; place = 10 })) (rw (le-leb 44 (length f) head.long, out)))

-- Two accepted files of one length, of which one keeps, in their order, every grid of the other but that of a number: it keeps it for every layout that is not of
-- that number and order.
pub keeps_others : (o : Order) (f g : List ℕ) (number : ℕ) → length g ≡ length f → GridAccepted o f → GridAccepted o g
    → ((m : ℕ) → ¬ (m ≡ number) → Keeps o m f g) → (l : GridLayout) → ¬ IsOf o number l → Keeps l.order l.number f g
keeps_others o f g number long ef eg keeps l not-of = step (ℕ_discrete (order_number l.order) (order_number o))
  where
    step : Dec (order_number l.order ≡ order_number o) → Keeps l.order l.number f g
    step (yes e) =
        let order : l.order ≡ o = order-same l.order o e in
        subst (λ (p : Order). Keeps p l.number f g) (sym order) (keeps l.number (λ same. not-of (order, same)))
    step (no other) =
        let was = other_refused l.order o f other ef l.number in
        record {
          long = long;
          opens = other_refused l.order o g other eg l.number ∙ sym was;
          bytes = λ m e. gives-refuses (sym e ∙ was);
        }
