-- `extent_steps::AcceptedFile::has_room` meets its contract: the loop is at a run of some number, each run before it has words, and the words to be placed fit into none of
-- those.
-- Assumes nothing.
use mathlib.Core.Path.{◌≡◌}
use mathlib.Core.Bool.{false}
use mathlib.Core.List.{List}
use Prim.Native.Nat.{ℕ, suc, ◌-◌, ◌/◌, ◌<◌}
use lib.ListN.{length}
use Rattle.endian_rules.specs.declared.Order.{Order}
use Rattle.extent_rules.specs.Rooms.{fits_in}
use Rattle.extent_rules.specs.Steps.{nth_run}
use Rattle.extent_rules.specs.declared.Extent.{Extent}
use Rattle.extent_steps.proofs.AcceptedFile.has_room.Given as goal

-- what is known where the loop is at an extent: it is run i + 1
pub record At (o : Order) (f : List ℕ) (need : ℕ) (e : Extent) (i : ℕ) : Type 0 where
  pub at : e ≡ nth_run o f (suc i)
  pub some : (j : ℕ) → j < i → 0 < (nth_run o f (suc j)).length
  pub none : (j : ℕ) → j < i → fits_in need (nth_run o f (suc j)) ≡ false

abbrev pub invariant-loop-e : goal.invariant-loop-e
invariant-loop-e l = (i : ℕ) × At l.self.order l.self.file.now l.need l.e i

abbrev pub decreases-loop-e : goal.decreases-loop-e
decreases-loop-e l = length l.self.file.now / 4 - l.e.start
