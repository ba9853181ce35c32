-- `extent_table_steps::fill` meets its contract: a turn goes on to the next run, and stores it behind those before.
-- Assumes nothing.
use Rattle.std.proofs.Common.{◌≡◌, ◌∙◌, sym, ap, subst, ℕ, suc, ◌≤◌, ◌/◌, List, ◌++◌, length, take, drop, arith, add-one}
use lib.ListN.{length-take}
use Rattle.lists.specs.Lists.{list_of}
use Rattle.lists.proofs.Built.{length-list_of}
use Rattle.lists.proofs.Filled.{over_all, over-list_of, filled_more}
use Rattle.endian_rules.specs.Words.{word_at}
use Rattle.extent_rules.specs.Stretches.{extent_end, no_words}
use Rattle.extent_rules.specs.Steps.{GridAccepted, nth_run, run_after}
use Rattle.extent_rules.specs.declared.Extent.{Extent}
use Rattle.extent_rules.proofs.Runs.{run_inside}
use Rattle.extent_table_steps.proofs.fill.Goals as goal

pub run_after-e-requires : goal.run_after-e-requires
run_after-e-requires c =
    let a = c.args in
    let accepted : GridAccepted a.order a.file.now = c.requires.1 (omega (arith, c.loop-place-test.true, length-take a.count a.table.now)) in
    subst (λ (e : Extent). extent_end e ≤ length a.file.now / 4) (sym c.loop-place.invariant.0)
    (run_inside a.order a.file.now accepted c.loop-place.place-index)

pub loop-place-preserved : goal.loop-place-preserved
unfolding nth_run
loop-place-preserved c =
    let a = c.args in
    let l = c.loop-place in
    let next : c.run_after-e.result ≡ nth_run a.order a.file.now (suc l.place-index) =
    c.run_after-e.ensures ∙ ap (λ (e : Extent). run_after (word_at a.order a.file.now) (length a.file.now / 4) (extent_end e)) l.invariant.0 in (
      rw (add-one l.place-index) next,
      rw (l.invariant.1, next)
          (filled_more (λ k. nth_run a.order a.file.now (suc k)) l.place-index (take a.count a.table.now) no_words c.loop-place-test.true),
    )

pub returns : goal.returns
returns c =
    let a = c.args in
    let l = c.loop-place in
    let room = length-take a.count a.table.now in
    let all : l.place-index ≡ a.count = omega (arith, c.loop-place-test.false, l.auto.place-index-end, room, c.requires.0) in
    let runs : ℕ → Extent = λ k. nth_run a.order a.file.now (suc k) in
    let filled : l.place-items ≡ list_of runs a.count =
    l.invariant.1
    ∙ sym (over-list_of runs l.place-index (take a.count a.table.now))
    ∙ over_all (list_of runs l.place-index) (take a.count a.table.now) (length-list_of runs l.place-index ∙ omega (arith, all, room, c.requires.0))
    ∙ ap (list_of runs) all in
    ap (λ (es : List Extent). es ++ drop a.count a.table.now) filled ∙ sym (over-list_of runs a.count a.table.now)
