-- `copy_steps::fill_by_fours` meets its contract: after so many turns four times as many places hold what is read. The rest is filled one by one.
-- Assumes nothing.
use mathlib.Core.Path.{◌≡◌, sym, subst}
use Prim.Native.Nat.{ℕ, ◌+◌, ◌-◌, ◌*◌, ◌/◌, ◌^◌, ◌<◌}
use native.Mathlib.Omega.{arith}
use lib.ListN.{length, take, drop, length-take}
use borrow.Rule.Slice.PartMut.{put_mid}
use Rattle.lists.proofs.Parts.{length-part}
use Rattle.copy_rules.proofs.Runs.{Filled, none_filled, all_filled, further_holds, up_to_filled, four_filled, byte_behind}
use Rattle.copy_steps.specs.Fills.{Readable, Reads}
use Rattle.copy_steps.proofs.fill_by_fours.Goals as goal

pub loop-turn-init : goal.loop-turn-init
loop-turn-init g c = λ value reads. none_filled _ _ _ _

pub fill_four-requires : goal.fill_four-requires
fill_four-requires g c = (
  omega (arith, length-part (4 * c.loop-turn.turn) 4 c.loop-turn.out (omega arith)),
  further_holds (Readable (goal.F-pre g c.args.read)) c.args.at c.args.step (length c.args.out.now) (4 * c.loop-turn.turn) 4 c.requires (omega arith),
)

pub loop-turn-preserved : goal.loop-turn-preserved
loop-turn-preserved g c =
    λ value reads.
    let start = 4 * c.loop-turn.turn in
    let next : start + 4 ≡ 4 * (c.loop-turn.turn + 1) = omega arith in
    subst (λ (k : ℕ). Filled value c.args.at c.args.step k c.args.out.now (put_mid start (start + 4 - start) c.loop-turn.out c.fill_four.new.out)) next
    (four_filled (c.loop-turn.invariant value reads) 0 (2 ^ 63 - 1) (λ j lt. omega (arith, (c.requires j lt).0)) (omega arith) (omega arith)
    (c.fill_four.ensures value
    (further_holds (Reads (goal.F-post g c.args.read) value) c.args.at c.args.step (length c.args.out.now) start 4 reads (omega arith)))).0

pub overflow_add-at-2 : goal.overflow_add-at-2
overflow_add-at-2 g c =
    let h : c.args.at + 4 * (length c.args.out.now / 4) * c.args.step < 2 ^ 64 =
    byte_behind c.args.at c.args.step (length c.args.out.now) (length c.args.out.now / 4) (omega arith) (λ i lt. (c.requires i lt).0) (omega arith) in
    omega (arith, h)

pub overflow_mul-done-2 : goal.overflow_mul-done-2
overflow_mul-done-2 g c =
    let h : c.args.at + 4 * (length c.args.out.now / 4) * c.args.step < 2 ^ 64 =
    byte_behind c.args.at c.args.step (length c.args.out.now) (length c.args.out.now / 4) (omega arith) (λ i lt. (c.requires i lt).0) (omega arith) in
    omega (arith, h)

pub fill_singly-requires : goal.fill_singly-requires
fill_singly-requires g c =
    let done = 4 * (length c.args.out.now / 4) in
    further_holds (Readable (goal.F-pre g c.args.read)) c.args.at c.args.step (length c.args.out.now) done _ c.requires
    (omega (arith, length-take (length c.loop-turn.out - done) (drop done c.loop-turn.out)))

pub returns : goal.returns
returns g c =
    λ value reads.
    let done = 4 * (length c.args.out.now / 4) in
    let n : length (take (length c.loop-turn.out - done) (drop done c.loop-turn.out)) ≡ length c.loop-turn.out - done =
    length-part done (length c.loop-turn.out - done) c.loop-turn.out (omega arith) in
    all_filled
    (up_to_filled (c.loop-turn.invariant value reads) done _ _ (length c.args.out.now) (omega arith) (sym n) (omega (arith, n)) (omega arith)
    (c.fill_singly.ensures value
    (further_holds (Reads (goal.F-post g c.args.read) value) c.args.at c.args.step (length c.args.out.now) done _ reads (omega (arith, n)))))
    (omega arith)
