-- `extent_steps::AcceptedFile::survey_free` meets its contract: after so many turns the loop is at the run of that number, and each run before it has words.
-- Assumes nothing.
use mathlib.Core.Path.{◌≡◌, ap, subst, ◌∙◌}
use mathlib.Core.List.{List}
use Prim.Native.Nat.{ℕ, suc, ◌/◌, ◌<◌}
use native.Mathlib.Numerals.{add-one}
use native.Mathlib.Omega.{arith}
use lib.ListN.{length}
use Rattle.lists.proofs.Built.{length-list_of}
use Rattle.endian_rules.specs.Words.{word_at}
use Rattle.endian_rules.specs.declared.Order.{Order}
use Rattle.extent_rules.specs.Stretches.{extent_end, free_stretches}
use Rattle.extent_rules.specs.Steps.{GridAccepted, nth_run, survey}
use Rattle.extent_rules.specs.declared.Extent.{Extent}
use Rattle.extent_rules.proofs.Runs.{run_inside, run_on, run_begin, run_more, all_some, runs_far, runs_are}
use Rattle.extent_steps.proofs.AcceptedFile.survey_free.Goals as goal

-- the survey, where the next run has no words and each before it has
surveyed : (o : Order) (f : List ℕ) → GridAccepted o f → (count : ℕ) (last e : Extent) → last ≡ nth_run o f count → e ≡ nth_run o f (suc count)
    → ((i : ℕ) → i < count → 0 < (nth_run o f (suc i)).length) → ¬ (0 < e.length) → record { count = count; last = last } ≡ survey o f
unfolding survey
surveyed o f a count last e at next some none =
    let listed = runs_are o f a count (omega (arith, none, ap (λ (x : Extent). x.length) next)) some in
    let many : length (free_stretches (word_at o f) (length f / 4)) ≡ count = ap length listed ∙ length-list_of (λ i. nth_run o f (suc i)) count in
    rw (many, at)

pub run_after-e-requires : goal.run_after-e-requires
run_after-e-requires c =
    let s = c in
    let f = s.args.self.file.now in
    omega (arith, run_inside s.args.self.order f s.args.self.accepted 0, ap extent_end (c.directory_extent-last.ensures ∙ run_begin s.args.self.order f))

pub loop-e-init : goal.loop-e-init
loop-e-init c =
    let s = c in
    let f = s.args.self.file.now in
    let first = c.directory_extent-last.ensures ∙ run_begin s.args.self.order f in
    (first, (c.run_after-e.ensures ∙ run_more s.args.self.order f 0 _ first, λ i l. let z : ⊥ = omega (arith, l) in absurd z))

pub run_after-e-requires-in-loop-e : goal.run_after-e-requires-in-loop-e
run_after-e-requires-in-loop-e c =
    let s = c in
    let f = s.args.self.file.now in
    let i = c.loop-e in
    omega (arith, run_inside s.args.self.order f s.args.self.accepted (suc i.count), ap extent_end i.invariant.1.0)

pub overflow_add-count : goal.overflow_add-count
overflow_add-count c =
    let s = c in
    let f = s.args.self.file.now in
    let i = c.loop-e in
    let o = s.args.self.order in
    omega (arith, runs_far o f s.args.self.accepted i.count i.invariant.1.1, run_inside o f s.args.self.accepted i.count)

pub loop-e-smaller : goal.loop-e-smaller
loop-e-smaller c =
    let s = c in
    let f = s.args.self.file.now in
    let i = c.loop-e in
    let o = s.args.self.order in
    let at : extent_end i.last ≡ extent_end (nth_run o f i.count) = ap extent_end i.invariant.0 in
    let next : extent_end i.e ≡ extent_end (nth_run o f (suc i.count)) = ap extent_end i.invariant.1.0 in
    let some : 0 < (nth_run o f (suc i.count)).length = subst (λ (x : Extent). 0 < x.length) i.invariant.1.0 c.loop-e-test.true in
    omega (arith, at, next, run_on o f s.args.self.accepted i.count some, run_inside o f s.args.self.accepted (suc i.count))

pub loop-e-preserved : goal.loop-e-preserved
loop-e-preserved c =
    let s = c in
    let f = s.args.self.file.now in
    let i = c.loop-e in
    let o = s.args.self.order in
    let some : 0 < (nth_run o f (suc i.count)).length = subst (λ (x : Extent). 0 < x.length) i.invariant.1.0 c.loop-e-test.true in
    rw (add-one i.count) (i.invariant.1.0, (c.run_after-e-in-loop-e.ensures ∙ run_more o f (suc i.count) _ i.invariant.1.0, all_some o f i.count i.invariant.1.1 some))

pub returns : goal.returns
returns c =
    let s = c in
    let f = s.args.self.file.now in
    let i = c.loop-e in
    surveyed s.args.self.order f s.args.self.accepted i.count i.last i.e i.invariant.0 i.invariant.1.0 i.invariant.1.1 (λ h. omega (arith, h, c.loop-e-test.false))
