-- What the functions under the calls leave to the calls: the places of the table that are to be filled are there, the file from which they are filled is
-- accepted, what is found in the table makes the plan of an addition ready, and once all is filled, answer, file and table are what the definition of the
-- call gives. After a call that succeeds, telling the free stretches gives the number that it answered, and the table that it left,
-- once and again.
-- Assumes nothing.
use mathlib.Core.Path.{◌≡◌, refl, sym, ap, subst, ◌∙◌}
use mathlib.Core.List.{List}
use Prim.Native.Nat.{ℕ, suc, ◌+◌, ◌-◌, ◌/◌, ◌≤◌, ◌<◌}
use native.Mathlib.Omega.{arith}
use borrow.Author.Tests.{lt-ltb}
use lib.IntN.{ℤ}
use lib.ListN.{length}
use Rattle.std.specs.Prelude.{Result, Ok, Err}
use Rattle.lists.specs.Lists.{list_of, over}
use Rattle.lists.proofs.Built.{length-list_of, get_or-list_of}
use Rattle.lists.proofs.Filled.{length-over, over_front, over_again}
use Rattle.endian_rules.specs.Words.{word_at}
use Rattle.endian_rules.specs.declared.Order.{Order}
use Rattle.refusal_rules.specs.Rules.{first_fault, Refused, Verdict, Pass, Fault}
use Rattle.refusal_rules.specs.Answers.{Answer, gives, refuses, says}
use Rattle.refusal_rules.specs.declared.Refusal.{Refusal}
use Rattle.refusal_rules.proofs.Answers.{gives-same, gives-refuses}
use Rattle.extent_rules.specs.Stretches.{no_words}
use Rattle.extent_rules.specs.Rooms.{first_fitting, searched}
use Rattle.extent_rules.specs.Steps.{GridAccepted, nth_run, runs_over}
use Rattle.extent_rules.specs.declared.Extent.{Extent}
use Rattle.extent_rules.proofs.Runs.{stretches_listed, stretches_few, stretches_more}
use Rattle.extent_rules.proofs.Fit.{searched-room}
use Rattle.grid_update_rules.specs.Updates.{stretches_of, answer_and_table, file_left, changed, stretch_rules, tell_stretches, delete_rules, without_grid, delete_grid, grid_words, address_for, add_rules, with_grid, added, add_grid}
use Rattle.grid_update_rules.proofs.Deleted.{delete_passes, deleted_accepted, deleted_count}
use Rattle.grid_update_rules.proofs.Addition.{AddAsked, AddPasses, add_passes, added-length, added_accepted, added_count, added_starts}
use Rattle.grid_update_rules.proofs.Exact.{tell_passes}
use Rattle.grid_update_rules.specs.Steps.{stretch_says, addition_says, counted_stretches, stepped, tell_step, delete_step, refused_plan, plan_of, planned, add_plan, plan_places, add_step, Ready}
use Rattle.grid_update_rules.proofs.Plans.{plan_is, plan_refuses}
use Rattle.grid_update_rules.specs.declared.Added.{Added}
use Rattle.grid_update_rules.specs.declared.AddPlan.{AddPlan}

-- the first `count` runs of free words of a file
abbrev runs : Order → List ℕ → ℕ → List Extent
runs o g count = list_of (λ i. nth_run o g (suc i)) count

-- filling no place leaves a table as it was
runs_none : (o : Order) (g : List ℕ) (t : List Extent) → runs_over o g 0 t ≡ t
unfolding list_of
runs_none o g t = refl

none_filled : (o : Order) (g : List ℕ) (count : ℕ) (t : List Extent) → count ≡ 0 → t ≡ runs_over o g count t
none_filled o g count t none = sym (runs_none o g t) ∙ ap (λ (n : ℕ). runs_over o g n t) (sym none)

-- what filling `count` places of a table of `size` pairs from a file asks
abbrev Fillable : Order → List ℕ → ℕ → ℕ → Type 0
Fillable o g size count = (count ≤ size) × (0 < count → GridAccepted o g)

-- filling none asks nothing
none_fillable : (o : Order) (g : List ℕ) (size : ℕ) → Fillable o g size 0
none_fillable o g size = (omega arith, λ some. let z : ⊥ = omega (arith, some) in absurd z)

-- a table of n + 1 pairs has room for the free stretches of a file
table_room : (o : Order) (g : List ℕ) (size : ℕ) → word_at o g 10 + 1 ≤ size → length (stretches_of o g) ≤ size
table_room o g size l = omega (arith, l, stretches_few (word_at o g) (length g / 4))

-- ---- each call

-- what is known of the file g into which a call changes f, with a table of `size` pairs
record Changed (o : Order) (f g : List ℕ) (size : ℕ) : Type 0 where
  accepted : GridAccepted o g
  table : word_at o g 10 + 1 ≤ size

-- What a call wants of what the function under it says and leaves, s: the places that are to be filled can be filled; once they are, answer, file and table
-- are what the definition of the call gives.
record Carried {Value : Type 0} (v : Verdict) (value : ℕ → Value) (o : Order) (f g : List ℕ) (size : ℕ) (s : (Answer Value × ℕ) × List ℕ) : Type 0 where
  may_fill : Fillable o s.1 size s.0.1
  done : (t : List Extent) → (s.0.0, (s.1, runs_over o s.1 s.0.1 t)) ≡ changed v value o f g t

-- what the function leaves by the verdict of the rules is that
carried : {Value : Type 0} (v : Verdict) (value : ℕ → Value) (o : Order) (f g : List ℕ) (size : ℕ) → (v ≡ Pass → Changed o f g size)
    → Carried v value o f g size (stepped v value o f g)
carried Pass value o f g size h =
    let c : Changed o f g size = h refl in
    record {
      may_fill = (table_room o g size c.table, λ some. c.accepted);
      done = λ t. ap (λ (l : List Extent). (gives (value (length (stretches_of o g))), (g, over l t))) (sym (stretches_listed o g c.accepted));
    }
carried (Fault r) value o f g size h =
    let left : List ℕ = file_left (Fault r) f g in
    record {
      may_fill = none_fillable o left size;
      done = λ t. ap (λ (u : List Extent). (refuses r.number r.place, (left, u))) (runs_none o left t);
    }

-- ---- telling the free stretches

-- the file, which stays as it was, where the rules pass
tell_changed : (o : Order) (f : List ℕ) (size : ℕ) → first_fault (stretch_rules o f size) ≡ Pass → Changed o f f size
tell_changed o f size ok = let x = (tell_passes o f size).0 ok in record { accepted = x.0; table = x.1 }

-- a file that is changed into itself is left as it was
file-same : (v : Verdict) (f : List ℕ) → file_left v f f ≡ f
file-same Pass f = refl
file-same (Fault r) f = refl

module _ (o : Order) (f : List ℕ) (t : List Extent) (d : Result ℕ Refusal) (e : stretch_says d ≡ tell_step o f (length t)) where
  -- what was said is what the call wants
  tells : Carried (first_fault (stretch_rules o f (length t))) (λ count. count) o f f (length t) (stretch_says d, f)
  unfolding tell_step
  tells =
      let v : Verdict = first_fault (stretch_rules o f (length t)) in
      subst (Carried v (λ count. count) o f f (length t))
      (ap (λ (g : List ℕ). (counted_stretches v (λ count. count) o f, g)) (file-same v f) ∙ ap (λ (s : Answer ℕ × ℕ). (s, f)) (sym e))
      (carried v (λ count. count) o f f (length t) (tell_changed o f (length t)))

  -- the places that are to be filled are in the table, and the file is accepted if there are any
  pub tell_may_fill : ((stretch_says d).1 ≤ length t) × (0 < (stretch_says d).1 → GridAccepted o f)
  tell_may_fill = tells.may_fill

  -- once they are filled, answer and table are those of the call
  pub tell_done : ((stretch_says d).0, runs_over o f (stretch_says d).1 t) ≡ tell_stretches o f t
  unfolding tell_stretches
  tell_done = ap (λ (x : Answer ℕ × (List ℕ × List Extent)). (x.0, x.1.1)) (tells.done t)

  -- where none is to be filled, the table as it was is that of the call
  pub tell_kept : (stretch_says d).1 ≡ 0 → ((stretch_says d).0, t) ≡ tell_stretches o f t
  tell_kept none = ap (λ (u : List Extent). ((stretch_says d).0, u)) (none_filled o f (stretch_says d).1 t none) ∙ tell_done

-- ---- deleting

-- what deleting leaves, where its rules pass
delete_changed : (o : Order) (f : List ℕ) (number size : ℕ) → first_fault (delete_rules o f number size) ≡ Pass → Changed o f (without_grid o f number) size
delete_changed o f number size ok =
    record {
      accepted = deleted_accepted o f number size ok;
      table = omega (arith, deleted_count o f number size ok, ((delete_passes o f number size).0 ok).table);
    }

module _ (o : Order) (f : List ℕ) (number : ℕ) (t : List Extent) (d : Result ℕ Refusal) (g : List ℕ) (e : (stretch_says d, g) ≡ delete_step o f number (length t)) where
  -- what was said and left is what the call wants
  deletes : Carried (first_fault (delete_rules o f number (length t))) (λ count. count) o f (without_grid o f number) (length t) (stretch_says d, g)
  unfolding delete_step
  deletes =
      let v : Verdict = first_fault (delete_rules o f number (length t)) in
      let h : List ℕ = without_grid o f number in
      subst (Carried v (λ count. count) o f h (length t)) (sym e) (carried v (λ count. count) o f h (length t) (delete_changed o f number (length t)))

  -- after deleting, the places that are to be filled are in the table, and the file is accepted if there are any
  pub delete_may_fill : ((stretch_says d).1 ≤ length t) × (0 < (stretch_says d).1 → GridAccepted o g)
  delete_may_fill = deletes.may_fill

  -- once they are filled, answer, file and table are those of the call
  pub delete_done : ((stretch_says d).0, (g, runs_over o g (stretch_says d).1 t)) ≡ delete_grid o f number t
  unfolding delete_grid
  delete_done = deletes.done t

  -- where none is to be filled, the table as it was is that of the call
  pub delete_kept : (stretch_says d).1 ≡ 0 → ((stretch_says d).0, (g, t)) ≡ delete_grid o f number t
  delete_kept none = ap (λ (u : List Extent). ((stretch_says d).0, (g, u))) (none_filled o g (stretch_says d).1 t none) ∙ delete_done

-- ---- adding: the plan

-- the places that a plan fills, by the verdict of the rules
planned_may_fill : (o : Order) (f : List ℕ) (rows columns size : ℕ) (v : Verdict)
    → (v ≡ Pass → GridAccepted o f × (length (stretches_of o f) ≤ size)) → Fillable o f size (plan_places (planned v o f rows columns))
planned_may_fill o f rows columns size Pass h = (omega (arith, (h refl).1), λ some. (h refl).0)
planned_may_fill o f rows columns size (Fault r) h = none_fillable o f size

-- the places that are to be filled before the search are in the table, and the file is accepted if there are any
pub plan_may_fill : (o : Order) (f : List ℕ) (headers rows columns values : ℕ) (t : List Extent) (p : Answer AddPlan)
    → p ≡ add_plan o f headers rows columns values (length t) → (plan_places p ≤ length t) × (0 < plan_places p → GridAccepted o f)
unfolding add_plan
plan_may_fill o f headers rows columns values t p e =
    subst (λ (q : Answer AddPlan). Fillable o f (length t) (plan_places q)) (sym e)
    (planned_may_fill o f rows columns (length t) (first_fault (add_rules o f headers rows columns values (length t))) (λ ok. asked (passes ok).asked))
  where
    passes : first_fault (add_rules o f headers rows columns values (length t)) ≡ Pass → AddPasses o f headers rows columns values (length t)
    passes = (add_passes o f headers rows columns values (length t)).0

    asked : AddAsked o f headers rows columns values (length t) → GridAccepted o f × (length (stretches_of o f) ≤ length t)
    asked a = (a.accepted, table_room o f (length t) a.table)

-- what a search of the table finds, filled as the plan says, or else the last stretch, begins at the lowest address
planned_finds : (o : Order) (f : List ℕ) (headers rows columns values : ℕ) (t : List Extent) → AddPasses o f headers rows columns values (length t)
    → let p = plan_of o f rows columns in
    (first_fitting p.need (searched (runs_over o f p.count t) p.need p.count) p.last).start ≡ address_for o f (grid_words rows columns)
planned_finds o f headers rows columns values t x =
    let n : ℕ = length (stretches_of o f) in
    searched-room o f x.asked.accepted (grid_words rows columns) (omega arith)
    (lt-ltb (address_for o f (grid_words rows columns)) (length f / 4) x.room)
    (runs_over o f (n - 1) t) n refl
    (λ i l.
    over_front (runs o f (n - 1)) t i no_words (rw (length-list_of (λ k. nth_run o f (suc k)) (n - 1)) l)
    ∙ get_or-list_of (λ k. nth_run o f (suc k)) (n - 1) i no_words l)

-- what was found in the table, filled as the plan says, makes the plan ready; one that is refused is ready whatever was found
pub plan_ready : (o : Order) (f header : List ℕ) (rows columns : ℕ) (values : List ℤ) (t : List Extent) (p : Result AddPlan Refusal) (e : Extent)
    → says p ≡ add_plan o f (length header) rows columns (length values) (length t)
    → ((q : AddPlan) → p ≡ Ok q → e ≡ searched (runs_over o f q.count t) q.need q.count)
    → Ready o f header rows columns values (length t) p e
plan_ready o f header rows columns values t p e is found =
    record {
      planned = is;
      address = λ q same.
          let given = subst (λ (x : Result AddPlan Refusal). says x ≡ add_plan o f (length header) rows columns (length values) (length t)) same is in
          let plan = plan_is o f (length header) rows columns (length values) (length t) q given in
          rw (found q same, plan.1)
          (planned_finds o f (length header) rows columns (length values) t
          ((add_passes o f (length header) rows columns (length values) (length t)).0 plan.0));
    }

-- ---- adding

module _ (o : Order) (f header : List ℕ) (rows columns : ℕ) (values : List ℤ) where
  -- what adding leaves, where its rules pass
  add_changed : (size : ℕ) → first_fault (add_rules o f (length header) rows columns (length values) size) ≡ Pass
      → Changed o f (with_grid o f header rows columns values) size
  add_changed size ok =
      let x : AddPasses o f (length header) rows columns (length values) size = (add_passes o f (length header) rows columns (length values) size).0 ok in
      record {
        accepted = added_accepted o f header rows columns values size ok;
        table = omega (arith, added_count o f header rows columns values size ok, x.asked.table);
      }

  -- at most one free stretch is gone
  add_fewer : (size : ℕ) → first_fault (add_rules o f (length header) rows columns (length values) size) ≡ Pass
      → length (stretches_of o f) ≤ length (stretches_of o (with_grid o f header rows columns values)) + 1
  add_fewer size ok =
      rw (added-length o f header rows columns values size ok)
      (stretches_more (word_at o f) (word_at o (with_grid o f header rows columns values)) (length f / 4) (address_for o f (grid_words rows columns))
      (sym (added_count o f header rows columns values size ok)) (added_starts o f header rows columns values size ok))

-- the last filling covers the first, where at most one free stretch is gone
changed_again : {Value : Type 0} (v : Verdict) (value : ℕ → Value) (o : Order) (f g : List ℕ) (rows columns : ℕ) (t : List Extent)
    → (v ≡ Pass → length (stretches_of o f) ≤ length (stretches_of o g) + 1)
    → changed v value o f g (runs_over o f (plan_places (planned v o f rows columns)) t) ≡ changed v value o f g t
changed_again Pass value o f g rows columns t h =
    ap (λ (u : List Extent). (gives (value (length (stretches_of o g))), (g, u)))
    (over_again (stretches_of o g) (runs o f (length (stretches_of o f) - 1)) t
    (omega (arith, h refl, length-list_of (λ i. nth_run o f (suc i)) (length (stretches_of o f) - 1))))
changed_again (Fault r) value o f g rows columns t h =
    ap (λ (u : List Extent). (refuses r.number r.place, (file_left (Fault r) f g, u))) (runs_none o f t)

module _ (o : Order) (f header : List ℕ) (rows columns : ℕ) (values : List ℤ) (t : List Extent) where
  -- a plan that is refused is the refusal of the call, which leaves file and table as they were
  pub add_refused : (r : Refused) → refused_plan r ≡ add_plan o f (length header) rows columns (length values) (length t)
      → (refuses r.number r.place, (f, t)) ≡ add_grid o f header rows columns values t
  unfolding add_grid
  add_refused r e = rw (plan_refuses o f (length header) rows columns (length values) (length t) r e)

  -- a plan that is given is carried out, and not refused
  pub add_allowed {ℓ} : {A : Type ℓ} (p : AddPlan) (r : Refusal) (g : List ℕ) → gives p ≡ add_plan o f (length header) rows columns (length values) (length t)
      → (addition_says (Err r), g) ≡ add_step o f header rows columns values (length t) → A
  unfolding add_step
  add_allowed p r g given e =
      let is = plan_is o f (length header) rows columns (length values) (length t) p given in
      gives-refuses (sym (ap (λ (x : (Answer Added × ℕ) × List ℕ). x.0.0) (rw is.0 at e)))

  module _ (a : Result Added Refusal) (g : List ℕ) (e : (addition_says a, g) ≡ add_step o f header rows columns values (length t)) where
    -- what was said and left is what the call wants
    adds : Carried (first_fault (add_rules o f (length header) rows columns (length values) (length t))) (added o f rows columns) o f
        (with_grid o f header rows columns values) (length t) (addition_says a, g)
    unfolding add_step
    adds =
        let v : Verdict = first_fault (add_rules o f (length header) rows columns (length values) (length t)) in
        let h : List ℕ = with_grid o f header rows columns values in
        subst (Carried v (added o f rows columns) o f h (length t)) (sym e)
        (carried v (added o f rows columns) o f h (length t) (add_changed o f header rows columns values (length t)))

    -- after adding, the places that are to be filled are in the table, and the file is accepted if there are any
    pub add_may_fill : ((addition_says a).1 ≤ length t) × (0 < (addition_says a).1 → GridAccepted o g)
    add_may_fill = adds.may_fill

  -- once they are filled, in the table that was filled for the search, answer, file and table are those of the call
  pub add_done : (p : Answer AddPlan) (a : Result Added Refusal) (g : List ℕ) → p ≡ add_plan o f (length header) rows columns (length values) (length t)
      → (addition_says a, g) ≡ add_step o f header rows columns values (length t)
      → ((addition_says a).0, (g, runs_over o g (addition_says a).1 (runs_over o f (plan_places p) t))) ≡ add_grid o f header rows columns values t
  unfolding add_grid add_plan
  add_done p a g is e =
      let v : Verdict = first_fault (add_rules o f (length header) rows columns (length values) (length t)) in
      let h : List ℕ = with_grid o f header rows columns values in
      (adds a g e).done (runs_over o f (plan_places p) t)
      ∙ ap (λ (q : Answer AddPlan). changed v (added o f rows columns) o f h (runs_over o f (plan_places q) t)) is
      ∙ changed_again v (added o f rows columns) o f h rows columns t (add_fewer o f header rows columns values (length t))

-- ---- after a call

-- A call that gives x, of which `stretches` tells the number of free stretches, has left a file and a table: telling the free stretches of that file gives that
-- number, and that table.
changed_tells : {Value : Type 0} (v : Verdict) (value : ℕ → Value) (stretches : Value → ℕ) → ((n : ℕ) → stretches (value n) ≡ n)
    → (o : Order) (f g : List ℕ) (t : List Extent) (x : Value) → (v ≡ Pass → Changed o f g (length t)) → (changed v value o f g t).0 ≡ gives x
    → tell_stretches o (changed v value o f g t).1.0 t ≡ (gives (stretches x), (changed v value o f g t).1.1)
unfolding tell_stretches
changed_tells Pass value stretches back o f g t x h e =
    let c : Changed o f g (length t) = h refl in
    ap (λ (v : Verdict). answer_and_table v (λ count. count) o g t) ((tell_passes o g (length t)).1 (c.accepted, c.table))
    ∙ ap (λ (n : ℕ). (gives n, over (stretches_of o g) t)) (sym (back (length (stretches_of o g))) ∙ ap stretches (gives-same e))
changed_tells (Fault r) value stretches back o f g t x h e = gives-refuses (sym e)

-- of deleting
pub delete_tells : (o : Order) (f : List ℕ) (number : ℕ) (t : List Extent) (count : ℕ) → (delete_grid o f number t).0 ≡ gives count
    → tell_stretches o (delete_grid o f number t).1.0 t ≡ (gives count, (delete_grid o f number t).1.1)
unfolding delete_grid
delete_tells o f number t count e =
    changed_tells (first_fault (delete_rules o f number (length t))) (λ n. n) (λ n. n) (λ n. refl) o f (without_grid o f number) t count
    (delete_changed o f number (length t)) e

-- of adding
pub add_tells : (o : Order) (f header : List ℕ) (rows columns : ℕ) (values : List ℤ) (t : List Extent) (a : Added)
    → (add_grid o f header rows columns values t).0 ≡ gives a
    → tell_stretches o (add_grid o f header rows columns values t).1.0 t ≡ (gives a.stretches, (add_grid o f header rows columns values t).1.1)
unfolding add_grid
add_tells o f header rows columns values t a e =
    changed_tells (first_fault (add_rules o f (length header) rows columns (length values) (length t))) (added o f rows columns) (λ (x : Added). x.stretches) (λ n. refl)
    o f (with_grid o f header rows columns values) t a (add_changed o f header rows columns values (length t)) e

-- telling the free stretches of a file once more, in the table that was left, gives the same again
pub tell_again : (o : Order) (f : List ℕ) (t : List Extent) → tell_stretches o f (tell_stretches o f t).1 ≡ tell_stretches o f t
unfolding tell_stretches
tell_again o f t = step (first_fault (stretch_rules o f (length t))) refl
  where
    left : Verdict → List Extent
    left v = (answer_and_table v (λ count. count) o f t).1

    step : (v : Verdict) → first_fault (stretch_rules o f (length t)) ≡ v
        → answer_and_table (first_fault (stretch_rules o f (length (left v)))) (λ count. count) o f (left v) ≡ answer_and_table v (λ count. count) o f t
    step Pass e =
        let l : List Extent = stretches_of o f in
        let room : length l ≤ length t = table_room o f (length t) ((tell_passes o f (length t)).0 e).1 in
        ap (λ (n : ℕ). answer_and_table (first_fault (stretch_rules o f n)) (λ count. count) o f (over l t)) (length-over l t room)
        ∙ ap (λ (v : Verdict). answer_and_table v (λ count. count) o f (over l t)) e
        ∙ ap (λ (u : List Extent). (gives (length l), u)) (over_again l l t (omega arith))
    step (Fault r) e = ap (λ (v : Verdict). answer_and_table v (λ count. count) o f t) e
