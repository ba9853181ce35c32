-- `extent_steps::AcceptedFile::has_room` meets its contract: the loop is at a run of some number, each run before it has words, and the words to be placed fit into none of
-- those.
-- Assumes nothing.
use mathlib.Core.Path.{◌≡◌, sym, ap, subst, ◌∙◌}
use mathlib.Core.Bool.{true, false}
use mathlib.Core.List.{List}
use Prim.Native.Nat.{ℕ, suc, ◌/◌, ◌≤◌, ◌<◌}
use native.Mathlib.Omega.{arith}
use lib.ListN.{length}
use Rattle.lists.proofs.Built.{length-list_of}
use Rattle.endian_rules.specs.Words.{word_at}
use Rattle.endian_rules.specs.declared.Order.{Order}
use Rattle.grid_rules.proofs.Slots.{below_more}
use Rattle.extent_rules.specs.Stretches.{extent_end}
use Rattle.extent_rules.specs.Rooms.{has_room, fits_in}
use Rattle.extent_rules.specs.Steps.{GridAccepted, nth_run}
use Rattle.extent_rules.specs.declared.Extent.{Extent}
use Rattle.extent_rules.proofs.Runs.{run_inside, run_next, run_begin, run_more, all_some, runs_are}
use Rattle.extent_rules.proofs.Fit.{fits-room, fits-none}
use Rattle.extent_steps.proofs.AcceptedFile.has_room.Invariants.{At}
use Rattle.extent_steps.proofs.AcceptedFile.has_room.Goals as goal

-- where that run has no words, there is no room
room-none : (o : Order) (f : List ℕ) → GridAccepted o f → (need : ℕ) → 1 ≤ need → (e : Extent) (i : ℕ) → At o f need e i → ¬ (0 < e.length)
    → has_room (word_at o f) (length f / 4) need ≡ false
room-none o f a need l e i x empty =
    let listed = runs_are o f a i (omega (arith, empty, ap (λ (y : Extent). y.length) x.at)) x.some in
    fits-none o f a need l (λ j m. x.none j (omega (arith, m, ap length listed ∙ length-list_of (λ k. nth_run o f (suc k)) i)))

pub run_after-e-requires : goal.run_after-e-requires
run_after-e-requires c =
    let s = c in
    let f = s.args.self.file.now in
    let o = s.args.self.order in
    omega (arith, run_inside o f s.args.self.accepted 0, ap extent_end (c.directory_extent-start.ensures ∙ run_begin o f))

pub loop-e-init : goal.loop-e-init
loop-e-init c =
    let s = c in
    let f = s.args.self.file.now in
    let o = s.args.self.order in (
      0,
      record {
        at = c.run_after-e.ensures ∙ run_more o f 0 _ (c.directory_extent-start.ensures ∙ run_begin o f);
        some = λ j l. let z : ⊥ = omega (arith, l) in absurd z;
        none = λ j l. let z : ⊥ = omega (arith, l) in absurd z;
      },
    )

pub returns-then-fits_extent : goal.returns-then-fits_extent
returns-then-fits_extent c =
    let s = c in
    let f = s.args.self.file.now in
    let o = s.args.self.order in
    let i = c.loop-e in
    let fit = subst (λ (x : Extent). fits_in s.args.need x ≡ true) i.invariant.1.at (sym c.fits_extent.ensures ∙ c.if-fits_extent.true) in
    sym (fits-room o f s.args.self.accepted s.args.need s.requires i.invariant.0 fit i.invariant.1.none)

pub run_after-e-requires-in-loop-e : goal.run_after-e-requires-in-loop-e
run_after-e-requires-in-loop-e c =
    let s = c in
    let f = s.args.self.file.now in
    let o = s.args.self.order in
    let i = c.loop-e in
    omega (arith, run_inside o f s.args.self.accepted (suc i.invariant.0), ap extent_end i.invariant.1.at)

pub loop-e-smaller : goal.loop-e-smaller
loop-e-smaller c =
    let s = c in
    let f = s.args.self.file.now in
    let o = s.args.self.order in
    let i = c.loop-e in
    let next = c.run_after-e-in-loop-e.ensures ∙ run_more o f (suc i.invariant.0) _ i.invariant.1.at in
    omega (
      arith,
      c.loop-e-test.true,
      ap extent_end i.invariant.1.at,
      ap (λ (x : Extent). x.start) next,
      (run_next o f s.args.self.accepted (suc i.invariant.0)).from,
      run_inside o f s.args.self.accepted (suc (suc i.invariant.0)),
    )

pub loop-e-preserved : goal.loop-e-preserved
loop-e-preserved c =
    let s = c in
    let f = s.args.self.file.now in
    let o = s.args.self.order in
    let i = c.loop-e in
    let some : 0 < (nth_run o f (suc i.invariant.0)).length = subst (λ (x : Extent). 0 < x.length) i.invariant.1.at c.loop-e-test.true in
    let none = subst (λ (x : Extent). fits_in s.args.need x ≡ false) i.invariant.1.at (sym c.fits_extent.ensures ∙ c.if-fits_extent.false) in (
      suc i.invariant.0,
      record {
        at = c.run_after-e-in-loop-e.ensures ∙ run_more o f (suc i.invariant.0) _ i.invariant.1.at;
        some = all_some o f i.invariant.0 i.invariant.1.some some;
        none = below_more {P = λ j. fits_in s.args.need (nth_run o f (suc j)) ≡ false} i.invariant.0 i.invariant.1.none none;
      },
    )

pub returns : goal.returns
returns c =
    let s = c in
    let f = s.args.self.file.now in
    let o = s.args.self.order in
    let i = c.loop-e in
    sym (room-none o f s.args.self.accepted s.args.need s.requires i.e i.invariant.0 i.invariant.1 (λ h. omega (arith, h, c.loop-e-test.false)))
