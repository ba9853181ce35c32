-- `grid_update_steps::lowest_empty` meets its contract: the directory is inside the file, and the slots before the one that the loop is at are not empty.
-- Assumes nothing.
use mathlib.Core.Path.{◌≡◌, sym, ◌∙◌}
use mathlib.Core.Bool.{true, false}
use Prim.Native.Nat.{ℕ, ◌+◌, ◌≤◌, ◌<◌}
use native.Mathlib.Omega.{arith}
use borrow.Author.Tests.{eq-eqb}
use Rattle.lists.proofs.Lowest.{lowest_exactly}
use Rattle.extent_rules.proofs.Slots.{accepted_slots}
use Rattle.endian_rules.specs.Words.{word_at}
use Rattle.grid_rules.specs.Rules.{empty_slot, is_empty_slot}
use Rattle.grid_update_rules.specs.Updates.{lowest_empty}
use Rattle.grid_update_steps.proofs.lowest_empty.Goals as goal

-- a slot such that none before it is empty, and that is empty itself or behind the last, is the lowest
found : (w : ℕ → ℕ) (k : ℕ) → k ≤ w 10 → ((q : ℕ) → q < k → is_empty_slot w q ≡ false) → (k < w 10 → is_empty_slot w k ≡ true) → k ≡ lowest_empty w
unfolding lowest_empty
found w k most before here =
    sym ((lowest_exactly (is_empty_slot w) 0 (w 10) k).1 (
    record { from = omega arith; to = omega (arith, most); none = λ q l m. before q m; holds = λ l. here (omega (arith, l)) }
    ))

pub read_word-n-requires : goal.read_word-n-requires
read_word-n-requires c = omega (arith, (accepted_slots c.args.accepted.order c.args.accepted.file.now c.args.accepted.accepted).room)

pub read_word-requires : goal.read_word-requires
read_word-requires c = omega (arith, c.loop-k-test.true, c.read_word-n.ensures, (accepted_slots c.args.accepted.order c.args.accepted.file.now c.args.accepted.accepted).room)

pub returns-then-read_word : goal.returns-then-read_word
returns-then-read_word c =
    let w : ℕ → ℕ = word_at c.args.accepted.order c.args.accepted.file.now in
    let here : is_empty_slot w c.loop-k.k ≡ true = eq-eqb (w (11 + c.loop-k.k)) empty_slot (sym c.read_word.ensures ∙ c.if-read_word.true) in
    found w c.loop-k.k (omega (arith, c.loop-k-test.true, c.read_word-n.ensures)) c.loop-k.invariant (λ l. here)

pub returns : goal.returns
returns c =
    let w : ℕ → ℕ = word_at c.args.accepted.order c.args.accepted.file.now in
    c.read_word-n.ensures ∙ found w (w 10) (omega arith) (λ q l. c.loop-k.invariant q (omega (arith, l, c.loop-k-test.false, c.read_word-n.ensures))) (λ l. let z : ⊥ = omega (arith, l) in absurd z)
