-- `extent_steps::AcceptedFile::lowest_free` meets its contract: the words from p up to the one that the loop is at are not free, and each turn goes on behind the grid that
-- has that word.
-- Assumes nothing.
use mathlib.Core.Path.{◌≡◌, sym}
use mathlib.Core.Bool.{true}
use Prim.Native.Nat.{ℕ, ◌-◌, ◌/◌, ◌≤◌, ◌<◌}
use native.Mathlib.Decide.{dec_lt}
use native.Mathlib.Omega.{arith}
use lib.ListN.{length}
use Rattle.lists.proofs.Lowest.{lowest_exactly}
use Rattle.endian_rules.specs.Words.{word_at}
use Rattle.extent_rules.specs.Stretches.{is_free}
use Rattle.extent_rules.specs.Steps.{past_grid}
use Rattle.extent_rules.proofs.Slots.{accepted_slots, PastIs, past_is}
use Rattle.extent_steps.proofs.AcceptedFile.lowest_free.Goals as goal

-- what holds of the words from a up to b and of those from b up to d holds of those from a up to d
taken_more : {P : ℕ → Type 0} {a b d : ℕ} → ((q : ℕ) → a ≤ q → q < b → P q) → ((q : ℕ) → b ≤ q → q < d → P q) → (q : ℕ) → a ≤ q → q < d → P q
taken_more {P} {a} {b} {d} before behind q l m = step (dec_lt q b)
  where
    step : Dec (q < b) → P q
    step (yes lt) = before q l lt
    step (no ge) = behind q (omega arith) m

pub loop-at-smaller : goal.loop-at-smaller
loop-at-smaller c =
    let s = c in
    let w = word_at s.args.self.order s.args.self.file.now in
    let i = c.loop-at in
    let x : PastIs w (length s.args.self.file.now) i.at (past_grid w i.at (w 10)) =
    past_is w (length s.args.self.file.now) i.at (accepted_slots s.args.self.order s.args.self.file.now s.args.self.accepted) in
    omega (arith, c.loop-at-test.true, i.invariant.1.1.0, x.inside i.invariant.1.0)

pub loop-at-preserved : goal.loop-at-preserved
loop-at-preserved c =
    let s = c in
    let w = word_at s.args.self.order s.args.self.file.now in
    let i = c.loop-at in
    let x : PastIs w (length s.args.self.file.now) i.at (past_grid w i.at (w 10)) =
    past_is w (length s.args.self.file.now) i.at (accepted_slots s.args.self.order s.args.self.file.now s.args.self.accepted) in
    let past : i.past ≡ past_grid w i.at (w 10) = i.invariant.1.1.0 in (
      omega (arith, i.invariant.0, c.loop-at-test.true),
      (
        omega (arith, past, x.inside i.invariant.1.0),
        (
          c.past_grid-past-in-loop-at.ensures,
          λ q l m. taken_more i.invariant.1.1.1 (λ r from to. x.taken r from (omega (arith, past, to))) q l m,
        ),
      ),
    )

pub returns : goal.returns
returns c =
    let s = c in
    let w = word_at s.args.self.order s.args.self.file.now in
    let i = c.loop-at in
    let x : PastIs w (length s.args.self.file.now) i.at (past_grid w i.at (w 10)) =
    past_is w (length s.args.self.file.now) i.at (accepted_slots s.args.self.order s.args.self.file.now s.args.self.accepted) in
    let free : is_free w i.at ≡ true = x.free (omega (arith, c.loop-at-test.false, i.invariant.1.1.0)) in
    sym ((lowest_exactly (is_free w) s.args.p (length s.args.self.file.now / 4 - s.args.p) i.at).1 (
    record { from = i.invariant.0; to = omega (arith, i.invariant.1.0); none = i.invariant.1.1.1; holds = λ l. free }
    ))
