-- The plan of an addition: what it is by the verdict of its rules, and what carrying it out leaves.
-- Assumes nothing.
use mathlib.Core.Path.{◌≡◌, refl, sym, ap, ◌∙◌}
use mathlib.Core.List.{List}
use Prim.Native.Nat.{ℕ, ◌+◌, ◌-◌, ◌*◌, ◌/◌, ◌≤◌, ◌<◌}
use native.Mathlib.Omega.{arith}
use lib.IntN.{ℤ}
use lib.ListN.{length}
use lib.Seq.{sets, length-sets}
use mir.Syntax.{w32}
use mir.Val.{Fits}
use borrow.Author.Tests.{lt-ltb}
use Rattle.std.specs.Prelude.{Ok, Err}
use Rattle.endian_rules.specs.Numbers.{encode}
use Rattle.endian_rules.specs.Words.{word_at}
use Rattle.endian_rules.specs.declared.Order.{Order}
use Rattle.refusal_rules.specs.Rules.{first_fault, Refused, Verdict, Pass, Fault, numbered}
use Rattle.refusal_rules.specs.Answers.{gives, says}
use Rattle.refusal_rules.specs.declared.Refusal.{Refusal}
use Rattle.refusal_rules.proofs.Answers.{gives-same, gives-refuses, refuses-same}
use Rattle.extent_rules.specs.Stretches.{first_word, highest_end}
use Rattle.extent_rules.specs.Rooms.{first_fitting}
use Rattle.extent_rules.specs.Steps.{GridAccepted, SlotsInside, survey}
use Rattle.extent_rules.specs.declared.Extent.{Extent}
use Rattle.extent_rules.specs.declared.Survey.{Survey}
use Rattle.extent_rules.proofs.Slots.{accepted_slots}
use Rattle.extent_rules.proofs.Fit.{room-some}
use Rattle.grid_update_rules.specs.Updates.{set_word, next_free_set, stretches_of, grid_words, lowest_empty, address_for, add_rules, grid_bytes, grid_put, with_grid, added}
use Rattle.grid_update_rules.specs.Steps.{addition_says, refused_plan, plan_of, planned, add_plan, add_step, ReadyPlan}
use Rattle.grid_update_rules.specs.declared.Added.{Added}
use Rattle.grid_update_rules.specs.declared.AddPlan.{AddPlan}
use Rattle.grid_update_rules.proofs.Addition.{new_slot, new_address, new_bytes, grid_in, AddPasses, add_passes, add_place, added-slots, added-small, added_accepted}
use Rattle.grid_update_rules.proofs.Verdicts.{step_pass}

module _ (o : Order) (f : List ℕ) (headers rows columns values size : ℕ) where
  -- where the rules refuse
  pub plan_fault : (r : Refused) → first_fault (add_rules o f headers rows columns values size) ≡ Fault r → refused_plan r ≡ add_plan o f headers rows columns values size
  unfolding add_plan
  plan_fault r e = rw e

  -- and where they pass, by the slot and the survey of the file
  pub plan_pass : first_fault (add_rules o f headers rows columns values size) ≡ Pass
      → (slot : ℕ) → slot ≡ lowest_empty (word_at o f) → (s : Survey) → s ≡ survey o f
      → gives (record { number = slot + 1; need = 64 + rows * columns; count = s.count - 1; last = s.last }) ≡ add_plan o f headers rows columns values size
  unfolding add_plan survey
  plan_pass e slot k s surveyed = rw (e, k, surveyed)

  -- what is given as a plan is the plan, and the rules pass
  pub plan_is : (p : AddPlan) → gives p ≡ add_plan o f headers rows columns values size
      → (first_fault (add_rules o f headers rows columns values size) ≡ Pass) × (p ≡ plan_of o f rows columns)
  unfolding add_plan
  plan_is p = step (first_fault (add_rules o f headers rows columns values size))
    where
      step : (v : Verdict) → gives p ≡ planned v o f rows columns → (v ≡ Pass) × (p ≡ plan_of o f rows columns)
      step Pass e = (refl, gives-same e)
      step (Fault r) e = gives-refuses e

  -- what is refused as a plan is the fault of the rules
  pub plan_refuses : (r : Refused) → refused_plan r ≡ add_plan o f headers rows columns values size → first_fault (add_rules o f headers rows columns values size) ≡ Fault r
  unfolding add_plan
  plan_refuses r = step (first_fault (add_rules o f headers rows columns values size))
    where
      step : (v : Verdict) → refused_plan r ≡ planned v o f rows columns → v ≡ Fault r
      step Pass e = gives-refuses (sym e)
      step (Fault s) e = ap Fault (refuses-same (sym e))

  -- where they pass there is a free stretch
  pub pass_some : first_fault (add_rules o f headers rows columns values size) ≡ Pass → 1 ≤ length (stretches_of o f)
  pass_some e =
      let p : AddPasses o f headers rows columns values size = (add_passes o f headers rows columns values size).0 e in
      room-some o f p.asked.accepted (grid_words rows columns) (omega arith) (lt-ltb (address_for o f (grid_words rows columns)) (length f / 4) p.room)

  -- the file is accepted
  pub plan_accepted : first_fault (add_rules o f headers rows columns values size) ≡ Pass → GridAccepted o f
  plan_accepted e = ((add_passes o f headers rows columns values size).0 e).asked.accepted

  -- and the slot is one of at most 1,024
  pub slot_small : first_fault (add_rules o f headers rows columns values size) ≡ Pass → lowest_empty (word_at o f) < 1024
  slot_small e =
      let p : AddPasses o f headers rows columns values size = (add_passes o f headers rows columns values size).0 e in
      omega (arith, p.slot, (accepted_slots o f p.asked.accepted).few)

-- a word that is written is a word that is set
pub set_as : (o : Order) (f g : List ℕ) (k l a b : ℕ) → f ≡ g → k ≡ l → a ≡ b → sets f (4 * k) (encode o 4 a) ≡ set_word o g l b
unfolding set_word
set_as o f g k l a b p q r = rw (p, q, r)

-- what is answered
-- a plan that is refused leaves the file, and its refusal is what adding says
pub refused_step : (o : Order) (f header : List ℕ) (rows columns : ℕ) (values : List ℤ) (size : ℕ) (r : Refusal)
    → says (Err r) ≡ add_plan o f (length header) rows columns (length values) size → (addition_says (Err r), f) ≡ add_step o f header rows columns values size
unfolding add_step
refused_step o f header rows columns values size r e = rw (plan_refuses o f (length header) rows columns (length values) size (numbered r) e) refl

pub added_is : (o : Order) (f : List ℕ) (rows columns count number address : ℕ) → number ≡ lowest_empty (word_at o f) + 1
    → address ≡ address_for o f (grid_words rows columns) → record { number = number; address = address; stretches = count } ≡ added o f rows columns count
added_is o f rows columns count number address p q = rw (p, q)

-- Carrying out the plan of an addition: the grid's bytes are written where the room for them begins, which makes g of a file f; its slot is set, which makes h,
-- and then the next free word, which makes k.
module _ (o : Order) (f header : List ℕ) (rows columns : ℕ) (values : List ℤ) (size : ℕ) (plan : AddPlan) (found : Extent)
    (ready : ReadyPlan o f header rows columns values size plan found) (room : Extent) (e : room ≡ first_fitting plan.need found plan.last) where
  -- the rules have passed
  passed : first_fault (add_rules o f (length header) rows columns (length values) size) ≡ Pass
  passed = (plan_is o f (length header) rows columns (length values) size plan ready.planned).0

  passes : AddPasses o f (length header) rows columns (length values) size
  passes = (add_passes o f (length header) rows columns (length values) size).0 passed

  -- the number is that of the slot
  number_is : plan.number ≡ new_slot o f header rows columns values + 1
  number_is = ap (λ (p : AddPlan). p.number) (plan_is o f (length header) rows columns (length values) size plan ready.planned).1

  -- and the grid begins at the lowest address
  placed : room.start ≡ new_address o f header rows columns values
  placed = ap (λ (x : Extent). x.start) e ∙ ready.address

  -- where it has room
  pub may_write : (length header ≡ 256) × ((length values ≡ rows * columns) × ((rows * columns < 2147483648) × (4 * (room.start + 64 + rows * columns) ≤ length f)))
  may_write =
      let x = add_place o f header rows columns values size passed in
      (passes.asked.whole-header, (passes.asked.all_values, (omega (arith, x.by_last), omega (arith, x.inside, placed))))

  -- the address is a number of 32 bits
  pub address_small : Fits w32 room.start
  address_small = record { fits = omega (arith, (add_place o f header rows columns values size passed).by_last, placed) }

  module _ (g : List ℕ) (written : g ≡ sets f (4 * room.start) (grid_bytes o header rows columns values)) where
    -- the slot is inside the file
    pub slot_inside : 4 * (10 + plan.number) + 4 ≤ length g
    slot_inside =
        omega (
          arith,
          ap length written ∙ length-sets f (4 * room.start) (grid_bytes o header rows columns values),
          passes.slot,
          number_is,
          (accepted_slots o f passes.asked.accepted).room,
        )

    module _ (h : List ℕ) (set : h ≡ sets g (4 * (10 + plan.number)) (encode o 4 room.start)) where
      -- the file with the grid in it
      put : h ≡ grid_in o f header rows columns values
      put = set ∙ set_as o g _ (10 + plan.number) (11 + new_slot o f header rows columns values) room.start _
          (written ∙ ap (λ (k : ℕ). sets f (4 * k) (new_bytes o f header rows columns values)) placed) (omega (arith, number_is)) placed

      -- has slots that can be read, and the end of its highest grid is a signed word
      pub may_set_next : SlotsInside (length h) (word_at o h) × (highest_end (word_at o h) (first_word (word_at o h)) (word_at o h 10) < 2147483648)
      may_set_next = rw put (added-slots o f header rows columns values size passed, omega (arith, added-small o f header rows columns values size passed))

      module _ (k : List ℕ) (next : k ≡ next_free_set o h) where
        -- the file that is left
        left : k ≡ with_grid o f header rows columns values
        unfolding with_grid grid_put
        left = next ∙ ap (next_free_set o) put

        -- is accepted
        pub may_survey : GridAccepted o k
        may_survey = rw left (added_accepted o f header rows columns values size passed)

        -- and what is answered is what adding says
        pub carried_out : (s : Survey) → s ≡ survey o k
            → (addition_says (Ok (record { number = plan.number; address = room.start; stretches = s.count })), k) ≡ add_step o f header rows columns values size
        unfolding add_step
        carried_out s surveyed =
            ap (λ (x : Added). ((gives x, s.count), k)) (added_is o f rows columns s.count plan.number room.start number_is placed)
            ∙ step_pass (first_fault (add_rules o f (length header) rows columns (length values) size)) (added o f rows columns) o f _ passed k left s surveyed
