-- When telling the free stretches, deleting and adding refuse: the order of the rules, "13 exactly if there's no empty slot, 14 exactly if no such address exists", and that a grid that was
-- deleted leaves room for one of its rows and columns.
-- Assumes nothing.
use mathlib.Core.Path.{◌≡◌, refl, sym, ap, subst, ◌∙◌}
use mathlib.Core.Bool.{Bool, true, false, false≢true}
use mathlib.Core.Logic.{inl, inr, ⊎_elim, ◌↔◌}
use mathlib.Core.List.{List, [], ◌∷◌, ◌++◌}
use Prim.Native.Nat.{ℕ, zero, suc, ◌+◌, ◌-◌, ◌*◌, ◌/◌, ◌≤◌, ◌<◌}
use native.Mathlib.Omega.{arith}
use lib.Dec.{leb, ltb}
use lib.IntN.{ℤ}
use lib.ListN.{length}
use borrow.Author.Tests.{le-leb, lt-leb, leb-false, lt-ltb, ltb-true, ltb-false, eqb-false, eq-eqb}
use Rattle.lists.proofs.Choices.{pick_cases}
use Rattle.lists.proofs.Lowest.{lowest_is}
use Rattle.endian_rules.specs.Words.{word_at}
use Rattle.endian_rules.specs.declared.Order.{Order}
use Rattle.refusal_rules.specs.Rules.{Rule, rule, judge, first, first_fault, tabled, Every, Refused, Verdict, Pass, Fault}
use Rattle.refusal_rules.specs.Answers.{gives, refuses, answered}
use Rattle.refusal_rules.proofs.Answers.{gives-same, gives-refuses, refuses-same, never_refused}
use Rattle.refusal_rules.proofs.Exactness.{le_exactly, within_exactly}
use Rattle.refusal_rules.proofs.Tables.{fault_pass, pass_hold, hold_pass, joined, pass_joined, joined_pass, every_both}
use Rattle.grid_rules.specs.Rules.{next_free, empty_slot, is_empty_slot, grid_end, grid_head_rules, header_rules, size_rules, own_rules, overlap_rule, slot_rules, slots_rules, grid_file_rules, wanted_rules}
use Rattle.grid_rules.specs.Accepts.{FullSlot, AcceptsGridFile}
use Rattle.grid_rules.proofs.Slots.{number-slot, Misses}
use Rattle.grid_rules.proofs.Acceptance.{GridAt, file_passes, slot-grid, number-grid, slots-apart}
use Rattle.extent_rules.specs.Rooms.{has_room}
use Rattle.extent_rules.specs.declared.Extent.{Extent}
use Rattle.extent_rules.specs.Steps.{GridAccepted}
use Rattle.extent_rules.proofs.Free.{accepted_file, fails, own_exactly}
use Rattle.extent_rules.proofs.Fit.{Fits, lowest_address_lem, room_exactly}
use Rattle.grid_update_rules.specs.Updates.{stretches_of, table_rule, changed, stretch_rules, tell_stretches, delete_rules, without_grid, delete_grid, grid_words, lowest_empty, address_for, add_own, add_rules, with_grid, added, add_grid}
use Rattle.grid_update_rules.specs.declared.Added.{Added}
use Rattle.grid_update_rules.proofs.Deleted.{Deletes, delete_passes, deleted_length, deleted_accepted, deleted_words, deleted_count, deleted_slot, deleted_behind}
use Rattle.grid_update_rules.proofs.Addition.{AddAsked, AddPasses, add_passes, slot_empty}

-- ---- the order of the rules

-- tables that are joined
tabled-append : (rs ss : List Rule) → tabled (rs ++ ss) ≡ tabled rs ++ tabled ss
unfolding tabled
tabled-append [] ss = refl
tabled-append (r ∷ rs) ss = ap (λ (l : List (ℕ × ℕ)). (r.number, r.place) ∷ l) (tabled-append rs ss)

-- Document 02's order, numbers and places, of telling the free stretches: the file's rules; the table.
pub tell_order : (o : Order) (f : List ℕ) (size : ℕ)
    → tabled (stretch_rules o f size) ≡ tabled (grid_file_rules (length f) (word_at o f)) ++ (10, 0) ∷ []
unfolding stretch_rules tabled
tell_order o f size = tabled-append (grid_file_rules (length f) (word_at o f)) _

-- Of deleting: the file's rules; the table; the number; an empty slot.
pub delete_order : (o : Order) (f : List ℕ) (number size : ℕ)
    → tabled (delete_rules o f number size) ≡ tabled (grid_file_rules (length f) (word_at o f)) ++ (10, 0) ∷ (7, 0) ∷ (6, 0) ∷ []
unfolding delete_rules wanted_rules tabled
delete_order o f number size = tabled-append (grid_file_rules (length f) (word_at o f)) _

-- Of adding: the file's rules; the table; rows; columns; values; header; an empty slot; room.
pub add_order : (o : Order) (f : List ℕ) (headers rows columns values size : ℕ)
    → tabled (add_rules o f headers rows columns values size)
    ≡ tabled (grid_file_rules (length f) (word_at o f)) ++ (10, 0) ∷ (3, 0) ∷ (3, 0) ∷ (12, 0) ∷ (12, 0) ∷ (13, 0) ∷ (14, 0) ∷ []
unfolding add_rules tabled
add_order o f headers rows columns values size = tabled-append (grid_file_rules (length f) (word_at o f)) _

-- ---- the lowest empty slot

-- no lower slot is empty
slot_lower : (w : ℕ → ℕ) (j : ℕ) → j < lowest_empty w → FullSlot w j
unfolding lowest_empty
slot_lower w j l = eqb-false (w (11 + j)) empty_slot ((lowest_is (is_empty_slot w) 0 (w 10)).none j (omega arith) l)

-- there is none exactly where every slot has a grid
pub no_slot_exactly : (w : ℕ → ℕ) → (ltb (lowest_empty w) (w 10) ≡ false) ↔ ((j : ℕ) → j < w 10 → FullSlot w j)
no_slot_exactly w = (
  λ e j l. slot_lower w j (omega (arith, ltb-false (lowest_empty w) (w 10) e, l)),
  λ h. fails (own_exactly (ltb (lowest_empty w) (w 10))) (λ e. let l = ltb-true (lowest_empty w) (w 10) e in h (lowest_empty w) l (slot_empty w l)),
)

-- where some slot is empty, there is one: it is empty, and no lower slot is
pub slot-lowest : (w : ℕ → ℕ) (j : ℕ) → j < w 10 → w (11 + j) ≡ empty_slot
    → (lowest_empty w < w 10) × ((w (11 + lowest_empty w) ≡ empty_slot) × ((i : ℕ) → i < lowest_empty w → FullSlot w i))
slot-lowest w j l e =
    let some : lowest_empty w < w 10 = found (ltb (lowest_empty w) (w 10)) refl in
    (some, (slot_empty w some, slot_lower w))
  where
    found : (t : Bool) → ltb (lowest_empty w) (w 10) ≡ t → lowest_empty w < w 10
    found true q = ltb-true (lowest_empty w) (w 10) q
    found false q = absurd ((no_slot_exactly w).0 q j l e)

-- ---- what a call refuses

-- what a call refuses is the fault of its rules
changed_fault : {Value : Type 0} (v : Verdict) (value : ℕ → Value) (o : Order) (f g : List ℕ) (t : List Extent) (r : Refused)
    → ((changed v value o f g t).0 ≡ refuses r.number r.place) ↔ (v ≡ Fault r)
changed_fault Pass value o f g t r = (λ e. gives-refuses e, λ e. fault_pass r (sym e))
changed_fault (Fault s) value o f g t r = (λ e. ap Fault (refuses-same e), λ e. ap (λ (v : Verdict). (changed v value o f g t).0) e)

-- a refusal at place 0
abbrev refusal : ℕ → Refused
refusal number = record { number = number; place = 0 }

-- ---- a table that is too short

-- a rule that gives another number than 10
abbrev NotTen : Rule → Type 0
NotTen r = ¬ (r.number ≡ 10)

-- the file's rules give other numbers
slots_not_ten : (w : ℕ → ℕ) (n next k : ℕ) → Every NotTen (slots_rules w n next k)
unfolding slots_rules slot_rules own_rules header_rules size_rules overlap_rule
slots_not_ten w n next zero = tt
slots_not_ten w n next (suc k) =
    every_both NotTen (slots_rules w n next k) (slot_rules w n next k) (slots_not_ten w n next k)
    (pick_cases (Every NotTen) (is_empty_slot w k) [] (own_rules w n next k ++ overlap_rule w k ∷ []) (λ e. tt)
    (λ e. (five, (five, (three, (three, (four, (four, (five, (five, tt))))))))))
  where
    three : ¬ (◌≡◌ {A = ℕ} 3 10)
    three e = omega (arith, e)

    four : ¬ (◌≡◌ {A = ℕ} 4 10)
    four e = omega (arith, e)

    five : ¬ (◌≡◌ {A = ℕ} 5 10)
    five e = omega (arith, e)

file_not_ten : (len : ℕ) (w : ℕ → ℕ) → Every NotTen (grid_file_rules len w)
unfolding grid_file_rules grid_head_rules
file_not_ten len w =
    every_both NotTen (grid_head_rules len w) (slots_rules w (w 10) (next_free w) (w 10))
    (λ e. omega (arith, e), (λ e. omega (arith, e), (λ e. omega (arith, e), (λ e. omega (arith, e), (λ e. omega (arith, e), tt)))))
    (slots_not_ten w (w 10) (next_free w) (w 10))

-- a table of rules none of which gives 10
other_number : (rs : List Rule) → Every NotTen rs → ¬ (first_fault rs ≡ Fault (refusal 10))
other_number rs other e = never_refused rs 0 10 0 other (ap (λ (v : Verdict). answered {Value = ℕ} v 0) e)

-- the rules behind the first
abbrev behind_first : List Rule → List Rule
behind_first [] = []
behind_first (r ∷ rs) = rs

-- where the rules behind that of the table give other numbers, 10 is given exactly where the file is accepted and the table has fewer than n + 1 pairs
table_exactly : (o : Order) (f : List ℕ) (size : ℕ) (rest : List Rule) → Every NotTen rest
    → (first_fault (grid_file_rules (length f) (word_at o f) ++ table_rule (word_at o f) size ∷ rest) ≡ Fault (refusal 10)) ↔ (GridAccepted o f × (size < word_at o f 10 + 1))
unfolding first_fault judge first
table_exactly o f size rest other = (λ e. step (first_fault file) refl (leb (word_at o f 10 + 1) size) refl (sym (joined file own (first_fault file) refl) ∙ e), back)
  where
    file : List Rule
    file = grid_file_rules (length f) (word_at o f)

    own : List Rule
    own = table_rule (word_at o f) size ∷ rest

    step : (v : Verdict) → first_fault file ≡ v → (t : Bool) → leb (word_at o f 10 + 1) size ≡ t → first v (first (judge (rule t 10 0)) (first_fault rest)) ≡ Fault (refusal 10)
        → GridAccepted o f × (size < word_at o f 10 + 1)
    step (Fault r) is t long e = absurd (other_number file (file_not_ten (length f) (word_at o f)) (is ∙ e))
    step Pass is true long e = absurd (other_number rest other e)
    step Pass is false long e = (is, leb-false (word_at o f 10 + 1) size long)

    back : GridAccepted o f × (size < word_at o f 10 + 1) → first_fault (file ++ own) ≡ Fault (refusal 10)
    back h = sym (pass_joined file own h.0) ∙ rw (lt-leb (word_at o f 10 + 1) size h.1)

-- "10 for a table of fewer than n+1 pairs", of telling the free stretches
pub tell_refuses_10 : (o : Order) (f : List ℕ) (t : List Extent)
    → ((tell_stretches o f t).0 ≡ refuses 10 0) ↔ (GridAccepted o f × (length t < word_at o f 10 + 1))
unfolding tell_stretches stretch_rules
tell_refuses_10 o f t =
    let x = changed_fault (first_fault (stretch_rules o f (length t))) (λ count. count) o f f t (refusal 10) in
    let y = table_exactly o f (length t) [] tt in
    (λ e. y.0 (x.0 e), λ h. x.1 (y.1 h))

-- its rules pass exactly where the file is accepted and the table has n + 1 pairs
pub tell_passes : (o : Order) (f : List ℕ) (size : ℕ) → (first_fault (stretch_rules o f size) ≡ Pass) ↔ (GridAccepted o f × (word_at o f 10 + 1 ≤ size))
unfolding stretch_rules
tell_passes o f size =
    let file : List Rule = grid_file_rules (length f) (word_at o f) in
    let rest : List Rule = table_rule (word_at o f) size ∷ [] in
    let table = le_exactly (word_at o f 10 + 1) size in (
      λ e. let p = joined_pass file rest e in (p.0, table.sound (pass_hold rest p.1).0),
      λ h. sym (pass_joined file rest h.0) ∙ hold_pass rest (table.complete h.1, tt),
    )

-- of deleting
pub delete_refuses_10 : (o : Order) (f : List ℕ) (number : ℕ) (t : List Extent)
    → ((delete_grid o f number t).0 ≡ refuses 10 0) ↔ (GridAccepted o f × (length t < word_at o f 10 + 1))
unfolding delete_grid delete_rules wanted_rules
delete_refuses_10 o f number t =
    let x = changed_fault (first_fault (delete_rules o f number (length t))) (λ count. count) o f (without_grid o f number) t (refusal 10) in
    let y = table_exactly o f (length t) (wanted_rules (word_at o f) number) (λ e. omega (arith, e), (λ e. omega (arith, e), tt)) in
    (λ e. y.0 (x.0 e), λ h. x.1 (y.1 h))

-- of adding
pub add_refuses_10 : (o : Order) (f header : List ℕ) (rows columns : ℕ) (values : List ℤ) (t : List Extent)
    → ((add_grid o f header rows columns values t).0 ≡ refuses 10 0) ↔ (GridAccepted o f × (length t < word_at o f 10 + 1))
unfolding add_grid add_rules
add_refuses_10 o f header rows columns values t =
    let x =
    changed_fault (first_fault (add_rules o f (length header) rows columns (length values) (length t))) (added o f rows columns) o f
    (with_grid o f header rows columns values) t (refusal 10) in
    let y =
    table_exactly o f (length t) (behind_first (add_own o f (length header) rows columns (length values) (length t)))
    (λ e. omega (arith, e), (λ e. omega (arith, e), (λ e. omega (arith, e), (λ e. omega (arith, e), (λ e. omega (arith, e), (λ e. omega (arith, e), tt)))))) in
    (λ e. y.0 (x.0 e), λ h. x.1 (y.1 h))

-- so a table of 1,025 pairs is long enough for every file
pub long_table : (o : Order) (f : List ℕ) (size : ℕ) → 1025 ≤ size → ¬ (GridAccepted o f × (size < word_at o f 10 + 1))
long_table o f size l h = omega (arith, l, h.1, (accepted_file o f h.0).head.grids.1)

-- ---- no empty slot, and no room

-- the rules of the slot and the room, of their tests
abbrev last_rules : Bool → Bool → List Rule
last_rules slot room = rule slot 13 0 ∷ rule room 14 0 ∷ []

-- the number of a fault
abbrev fault_number : Verdict → ℕ
fault_number Pass = 0
fault_number (Fault r) = r.number

-- the first of them fails exactly where 13 is given
thirteen : (slot room : Bool) → (first_fault (last_rules slot room) ≡ Fault (refusal 13)) ↔ (slot ≡ false)
unfolding first_fault judge first
thirteen true true = (λ e. fault_pass (refusal 13) (sym e), λ e. absurd (false≢true (sym e)))
thirteen true false = (λ e. let z : ◌≡◌ {A = ℕ} 14 13 = ap fault_number e in let y : ⊥ = omega (arith, z) in absurd y, λ e. absurd (false≢true (sym e)))
thirteen false room = (λ e. refl, λ e. refl)

-- where it holds, the second fails exactly where 14 is given
fourteen : (slot room : Bool) → slot ≡ true → (first_fault (last_rules slot room) ≡ Fault (refusal 14)) ↔ (room ≡ false)
unfolding first_fault judge first
fourteen true true h = (λ e. fault_pass (refusal 14) (sym e), λ e. absurd (false≢true (sym e)))
fourteen true false h = (λ e. refl, λ e. refl)
fourteen false room h = absurd (false≢true h)

-- where the rules before them hold, they decide
add_decided : (o : Order) (f : List ℕ) (headers rows columns values size : ℕ) → AddAsked o f headers rows columns values size
    → first_fault (add_rules o f headers rows columns values size)
    ≡ first_fault (last_rules (ltb (lowest_empty (word_at o f)) (word_at o f 10)) (has_room (word_at o f) (length f / 4) (grid_words rows columns)))
unfolding add_rules first_fault judge first
add_decided o f headers rows columns values size a =
    sym (pass_joined (grid_file_rules (length f) (word_at o f)) (add_own o f headers rows columns values size) a.accepted)
    ∙ rw (
      le-leb (word_at o f 10 + 1) size a.table,
      (within_exactly 1 65535 rows).complete a.some-rows,
      (within_exactly 1 65535 columns).complete a.some-columns,
      eq-eqb values (rows * columns) a.all_values,
      eq-eqb headers 256 a.whole-header,
    )

module _ (o : Order) (f header : List ℕ) (rows columns : ℕ) (values : List ℤ) (t : List Extent)
    (asked : AddAsked o f (length header) rows columns (length values) (length t)) where
  add_refused : (r : Refused) → ((add_grid o f header rows columns values t).0 ≡ refuses r.number r.place)
      ↔ (first_fault (last_rules (ltb (lowest_empty (word_at o f)) (word_at o f 10)) (has_room (word_at o f) (length f / 4) (grid_words rows columns))) ≡ Fault r)
  unfolding add_grid
  add_refused r =
      let v : Verdict = first_fault (add_rules o f (length header) rows columns (length values) (length t)) in
      let x = changed_fault v (added o f rows columns) o f (with_grid o f header rows columns values) t r in
      let e = add_decided o f (length header) rows columns (length values) (length t) asked in
      (λ q. sym e ∙ x.0 q, λ q. x.1 (e ∙ q))

  -- "13 exactly if there's no empty slot", where the rules before it hold
  pub refuses_13 : ((add_grid o f header rows columns values t).0 ≡ refuses 13 0) ↔ ((j : ℕ) → j < word_at o f 10 → FullSlot (word_at o f) j)
  refuses_13 =
      let w : ℕ → ℕ = word_at o f in
      let x = thirteen (ltb (lowest_empty w) (w 10)) (has_room w (length f / 4) (grid_words rows columns)) in
      (λ e. (no_slot_exactly w).0 (x.0 ((add_refused (refusal 13)).0 e)), λ h. (add_refused (refusal 13)).1 (x.1 ((no_slot_exactly w).1 h)))

  -- "14 exactly if no such address exists", where there is an empty slot besides: none from 12 + n on at which the grid's words lie inside the file and in no
  -- grid, and end by 2,147,483,647
  pub refuses_14 : (j : ℕ) → j < word_at o f 10 → word_at o f (11 + j) ≡ empty_slot
      → ((add_grid o f header rows columns values t).0 ≡ refuses 14 0) ↔ ((a : ℕ) → ¬ Fits (word_at o f) (length f / 4) (grid_words rows columns) a)
  refuses_14 j l empty =
      let w : ℕ → ℕ = word_at o f in
      let some : ltb (lowest_empty w) (w 10) ≡ true = lt-ltb (lowest_empty w) (w 10) (slot-lowest w j l empty).0 in
      let x = fourteen (ltb (lowest_empty w) (w 10)) (has_room w (length f / 4) (grid_words rows columns)) some in
      let room = room_exactly w (length f / 4) (grid_words rows columns) (omega arith) in (
        λ e a fits. false≢true (sym (x.0 ((add_refused (refusal 14)).0 e)) ∙ room.1 (a, fits)),
        λ h.
            (add_refused (refusal 14)).1
            (x.1 (fails (own_exactly (has_room w (length f / 4) (grid_words rows columns))) (λ e. let y = room.0 e in h y.0 y.1))),
      )

-- ---- what adding answers

-- what a call gives is the value of the number of free stretches, and its rules have passed
changed-gives : {Value : Type 0} (v : Verdict) (value : ℕ → Value) (o : Order) (f g : List ℕ) (t : List Extent) (x : Value)
    → (changed v value o f g t).0 ≡ gives x → (v ≡ Pass) × (value (length (stretches_of o g)) ≡ x)
changed-gives Pass value o f g t x e = (refl, gives-same e)
changed-gives (Fault r) value o f g t x e = gives-refuses (sym e)

module _ (o : Order) (f header : List ℕ) (rows columns : ℕ) (values : List ℤ) (t : List Extent) (a : Added)
    (is : (add_grid o f header rows columns values t).0 ≡ gives a) where
  answer : (first_fault (add_rules o f (length header) rows columns (length values) (length t)) ≡ Pass)
      × (added o f rows columns (length (stretches_of o (with_grid o f header rows columns values))) ≡ a)
  unfolding add_grid
  answer =
      changed-gives (first_fault (add_rules o f (length header) rows columns (length values) (length t))) (added o f rows columns) o f
      (with_grid o f header rows columns values) t a is

  passes : AddPasses o f (length header) rows columns (length values) (length t)
  passes = (add_passes o f (length header) rows columns (length values) (length t)).0 answer.0

  -- "the lowest-numbered empty slot": the slot of the number that is answered is empty, and every lower one has a grid
  pub adds_lowest-slot : (word_at o f (10 + a.number) ≡ empty_slot) × ((i : ℕ) → i + 1 < a.number → FullSlot (word_at o f) i)
  adds_lowest-slot =
      let number : a.number ≡ lowest_empty (word_at o f) + 1 = sym (ap (λ (x : Added). x.number) answer.1) in
      let same : 10 + a.number ≡ 11 + lowest_empty (word_at o f) = omega (arith, number) in
      (ap (word_at o f) same ∙ slot_empty (word_at o f) passes.slot, λ i l. slot_lower (word_at o f) i (omega (arith, l, number)))

  -- "the lowest word address": at the address that is answered the grid's words fit, and at no lower one
  pub adds_lowest_address : Fits (word_at o f) (length f / 4) (grid_words rows columns) a.address
      × ((q : ℕ) → q < a.address → ¬ Fits (word_at o f) (length f / 4) (grid_words rows columns) q)
  adds_lowest_address =
      subst (λ (x : ℕ). Fits (word_at o f) (length f / 4) (grid_words rows columns) x × ((q : ℕ) → q < x → ¬ Fits (word_at o f) (length f / 4) (grid_words rows columns) q))
      (ap (λ (x : Added). x.address) answer.1)
      (lowest_address_lem (word_at o f) (length f / 4) (grid_words rows columns) (lt-ltb (address_for o f (grid_words rows columns)) (length f / 4) passes.room))

-- ---- room for a grid where one was deleted

module _ (o : Order) (f : List ℕ) (number size : ℕ) (pass : first_fault (delete_rules o f number size) ≡ Pass) where
  d : Deletes o f number size
  d = (delete_passes o f number size).0 pass

  file : AcceptsGridFile (length f) (word_at o f)
  file = (file_passes (length f) (word_at o f)).0 d.accepted

  grid : GridAt (length f) (word_at o f) (word_at o f (10 + number))
  grid = number-grid (length f) (word_at o f) file number d.from d.to d.full

  -- its slot, counted from 0
  slot_is : word_at o f (11 + (number - 1)) ≡ word_at o f (10 + number)
  slot_is = ap (word_at o f) (number-slot number d.from)

  -- no grid that is left has a word of the deleted one
  others-apart : (j : ℕ) → j < word_at o f 10
      → Misses (word_at o (without_grid o f number)) (word_at o f (10 + number)) (grid_end (word_at o f) (word_at o f (10 + number))) j
  others-apart j l full =
      let v : ℕ → ℕ = word_at o (without_grid o f number) in
      let other : ¬ (11 + j ≡ 10 + number) = λ e. full (ap v e ∙ deleted_slot o f number size pass) in
      let offset : v (11 + j) ≡ word_at o f (11 + j) = deleted_words o f number size pass (11 + j) other (λ e. omega (arith, e, l)) in
      let was : FullSlot (word_at o f) j = λ e. full (offset ∙ e) in
      let first : v (v (11 + j)) ≡ word_at o f (word_at o f (11 + j)) =
      ap v offset ∙ deleted_behind o f number size pass (word_at o f (11 + j)) (slot-grid (length f) (word_at o f) file j l was).after-directory in
      ⊎_elim (λ x. inl (omega (arith, x, offset, first, slot_is))) (λ x. inr (omega (arith, x, offset, ap (grid_end (word_at o f)) slot_is)))
      (slots-apart (length f) (word_at o f) file j (number - 1) l (omega (arith, d.from, d.to)) (λ e. other (omega (arith, e, d.from))) was
      (λ e. d.full (sym slot_is ∙ e)))

  module _ (rows columns : ℕ) (same_rows : rows ≡ word_at o f (word_at o f (10 + number) + 1)) (same-columns : columns ≡ word_at o f (word_at o f (10 + number) + 2)) where
    size_is : word_at o f (word_at o f (10 + number)) ≡ rows * columns
    size_is = rw (same_rows, same-columns) grid.size

    -- a grid of the deleted one's rows and columns has room at its place
    pub deleted_room : Fits (word_at o (without_grid o f number)) (length (without_grid o f number) / 4) (grid_words rows columns) (word_at o f (10 + number))
    deleted_room =
        let end : grid_end (word_at o f) (word_at o f (10 + number)) ≡ word_at o f (10 + number) + grid_words rows columns = omega (arith, size_is) in
        record {
          from = omega (arith, grid.after-directory, deleted_count o f number size pass);
          inside = rw (deleted_length o f number) (omega (arith, grid.inside, end));
          by_last = omega (arith, grid.small, end);
          apart =
              λ j l.
              subst (λ (x : ℕ). Misses (word_at o (without_grid o f number)) (word_at o f (10 + number)) x j) end
              (others-apart j (rw (deleted_count o f number size pass) at l));
        }

    -- so one can be added: neither 13 nor 14 comes
    pub room_again : (headers values pairs : ℕ) → headers ≡ 256 → values ≡ rows * columns → word_at o f 10 + 1 ≤ pairs
        → first_fault (add_rules o (without_grid o f number) headers rows columns values pairs) ≡ Pass
    room_again headers values pairs whole all few =
        let g : List ℕ = without_grid o f number in
        let need : ℕ = grid_words rows columns in
        let slot : word_at o g (11 + (number - 1)) ≡ empty_slot =
        ap (word_at o g) (number-slot number d.from) ∙ deleted_slot o f number size pass in
        (add_passes o g headers rows columns values pairs).1
        (record {
          asked =
              record {
                accepted = deleted_accepted o f number size pass;
                table = rw (deleted_count o f number size pass) few;
                some-rows = rw same_rows grid.rows;
                some-columns = rw same-columns grid.columns;
                all_values = all;
                whole-header = whole;
              };
          slot = (slot-lowest (word_at o g) (number - 1) (omega (arith, d.from, d.to, deleted_count o f number size pass)) slot).0;
          room =
              ltb-true (address_for o g need) (length g / 4)
              ((room_exactly (word_at o g) (length g / 4) need (omega arith)).1 (word_at o f (10 + number), deleted_room));
        })

    -- and the answer is the added grid
    pub adds_again : (header : List ℕ) (values : List ℤ) (t : List Extent) → length header ≡ 256 → length values ≡ rows * columns → word_at o f 10 + 1 ≤ length t
        → (add_grid o (without_grid o f number) header rows columns values t).0
        ≡ gives (added o (without_grid o f number) rows columns (length (stretches_of o (with_grid o (without_grid o f number) header rows columns values))))
    unfolding add_grid
    adds_again header values t whole all few =
        let g : List ℕ = without_grid o f number in
        ap (λ (v : Verdict). (changed v (added o g rows columns) o g (with_grid o g header rows columns values) t).0)
        (room_again (length header) (length values) (length t) whole all few)
