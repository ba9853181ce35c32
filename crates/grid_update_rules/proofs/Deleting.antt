-- Deleting a grid, store by store: what each of them may rest on, and what is answered in the end.
-- Assumes nothing.
use mathlib.Core.Path.{◌≡◌, sym, ap, ◌∙◌}
use mathlib.Core.List.{List}
use Prim.Native.Nat.{ℕ, ◌+◌, ◌*◌, ◌≤◌, ◌<◌}
use native.Mathlib.Omega.{arith}
use lib.ListN.{length}
use lib.Seq.{sets}
use Rattle.std.specs.Prelude.{Ok}
use Rattle.endian_rules.specs.Numbers.{encode}
use Rattle.endian_rules.specs.Words.{word_at}
use Rattle.endian_rules.specs.declared.Order.{Order}
use Rattle.refusal_rules.specs.Rules.{first_fault, Pass}
use Rattle.grid_rules.specs.Rules.{empty_slot, grid_file_rules}
use Rattle.extent_rules.specs.Stretches.{highest_end, first_word}
use Rattle.extent_rules.specs.Steps.{GridAccepted, SlotsInside, survey}
use Rattle.extent_rules.specs.declared.Survey.{Survey}
use Rattle.extent_rules.proofs.Slots.{accepted_slots}
use Rattle.grid_update_rules.specs.Updates.{set_word, next_free_set, delete_rules, without_grid}
use Rattle.grid_update_rules.specs.Steps.{stretch_says, delete_step}
use Rattle.grid_update_rules.proofs.Deleted.{Deletes, delete_passes, deleted_slots, deleted-small, deleted_accepted}
use Rattle.grid_update_rules.proofs.Verdicts.{step_pass}

-- a file whose checks have passed has its word 11, the number of its slots
pub count_inside : (o : Order) (f : List ℕ) → Pass ≡ first_fault (grid_file_rules (length f) (word_at o f)) → 44 ≤ length f
count_inside o f pass = omega (arith, (accepted_slots o f (sym pass)).room)

-- The slot of a file f is emptied, which makes g of it, and then the next free word is set, which makes h.
module _ (o : Order) (f : List ℕ) (number size : ℕ) (pass : Pass ≡ first_fault (delete_rules o f number size)) where
  -- the slot is inside the file
  pub slot_there : 4 * (10 + number) + 4 ≤ length f
  slot_there =
      let d : Deletes o f number size = (delete_passes o f number size).0 (sym pass) in
      omega (arith, (accepted_slots o f d.accepted).room, d.to)

  module _ (g : List ℕ) (emptied : g ≡ sets f (4 * (10 + number)) (encode o 4 empty_slot)) where
    is_set : g ≡ set_word o f (10 + number) empty_slot
    unfolding set_word
    is_set = emptied

    -- the slots can be read, and the end of the highest grid is a signed word
    pub emptied_next : SlotsInside (length g) (word_at o g) × (highest_end (word_at o g) (first_word (word_at o g)) (word_at o g 10) < 2147483648)
    emptied_next = rw is_set (deleted_slots o f number size (sym pass), deleted-small o f number size (sym pass))

    module _ (h : List ℕ) (next : h ≡ next_free_set o g) where
      left : h ≡ without_grid o f number
      unfolding without_grid
      left = next ∙ ap (next_free_set o) is_set

      -- the file that is left is accepted
      pub emptied_survey : GridAccepted o h
      emptied_survey = rw left (deleted_accepted o f number size (sym pass))

      -- and what is answered is what deleting says
      pub deleted_says : (s : Survey) → s ≡ survey o h → (stretch_says (Ok s.count), h) ≡ delete_step o f number size
      unfolding delete_step
      deleted_says s surveyed = step_pass (first_fault (delete_rules o f number size)) (λ count. count) o f _ (sym pass) h left s surveyed
