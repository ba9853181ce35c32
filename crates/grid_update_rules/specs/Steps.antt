-- What the functions under the calls do that work on the file alone: what is answered, how many places of the table are to be filled, and the file.
-- Assumes nothing.
use Rattle.std.specs.Prelude.{◌≡◌, List, ℕ, ◌+◌, ◌-◌, ℤ, length, Result, Ok, Err}
use Rattle.endian_rules.specs.Words.{word_at}
use Rattle.endian_rules.specs.declared.Order.{Order}
use Rattle.refusal_rules.specs.Rules.{first_fault, Refused, Verdict, Pass, Fault, numbered}
use Rattle.refusal_rules.specs.Answers.{Answer, gives, refuses, says}
use Rattle.refusal_rules.specs.declared.Refusal.{Refusal}
use Rattle.extent_rules.specs.Rooms.{first_fitting}
use Rattle.extent_rules.specs.Steps.{nth_run}
use Rattle.extent_rules.specs.declared.Extent.{Extent}
use Rattle.grid_update_rules.specs.Updates.{stretches_of, stretch_rules, delete_rules, without_grid, grid_words, lowest_empty, address_for, add_rules, with_grid, added, file_left}
use Rattle.grid_update_rules.specs.declared.Added.{Added}
use Rattle.grid_update_rules.specs.declared.AddPlan.{AddPlan}

-- what a step says whose value tells a number of free stretches: the answer, and how many places of the table are to be filled, which is none on a refusal
abbrev pub step_says : {Value : Type 0} → (Value → ℕ) → Result Value Refusal → Answer Value × ℕ
step_says stretches (Ok v) = (gives v, stretches v)
step_says stretches (Err r) = (refuses (numbered r).number (numbered r).place, 0)

-- what deleting in the file, or counting its free stretches, says: the answer, and how many places of the table are to be filled
abbrev pub stretch_says : Result ℕ Refusal → Answer ℕ × ℕ
stretch_says d = step_says (λ count. count) d

-- what an addition in the file says: the answer, and how many places of the table are to be filled
abbrev pub addition_says : Result Added Refusal → Answer Added × ℕ
addition_says a = step_says (λ (x : Added). x.stretches) a

-- what a step says of the free stretches of a file, by the verdict of its call's rules: the value, made of their number, and as many places; or the refusal, and no place
abbrev pub counted_stretches : {Value : Type 0} → Verdict → (ℕ → Value) → Order → List ℕ → Answer Value × ℕ
counted_stretches Pass value o f = (gives (value (length (stretches_of o f))), length (stretches_of o f))
counted_stretches (Fault r) value o f = (refuses r.number r.place, 0)

-- what a step that changes a file f into g says, of the free stretches of g, and the file that it leaves
abbrev pub stepped : {Value : Type 0} → Verdict → (ℕ → Value) → Order → List ℕ → List ℕ → (Answer Value × ℕ) × List ℕ
stepped v value o f g = (counted_stretches v value o g, file_left v f g)

-- what counting the free stretches says, with a table of `size` pairs
unfoldable pub tell_step : Order → List ℕ → ℕ → Answer ℕ × ℕ
tell_step o f size = counted_stretches (first_fault (stretch_rules o f size)) (λ count. count) o f

-- what deleting in the file says, with a table of `size` pairs, and the file that it leaves
unfoldable pub delete_step : Order → List ℕ → ℕ → ℕ → (Answer ℕ × ℕ) × List ℕ
delete_step o f number size = stepped (first_fault (delete_rules o f number size)) (λ count. count) o f (without_grid o f number)

-- the plan of an addition that is refused
abbrev pub refused_plan : Refused → Answer AddPlan
refused_plan r = refuses r.number r.place

-- the plan of an addition that its rules allow: the number of the slot, the words that the grid needs, how many free stretches there are before the last, and the last
abbrev pub plan_of : Order → List ℕ → ℕ → ℕ → AddPlan
plan_of o f rows columns =
    record { number = lowest_empty (word_at o f) + 1; need = grid_words rows columns; count = length (stretches_of o f) - 1; last = nth_run o f (length (stretches_of o f)) }

-- the plan of an addition by the verdict of its rules
abbrev pub planned : Verdict → Order → List ℕ → ℕ → ℕ → Answer AddPlan
planned Pass o f rows columns = gives (plan_of o f rows columns)
planned (Fault r) o f rows columns = refused_plan r

-- the plan of an addition, for so many header bytes and values, and a table of `size` pairs
unfoldable pub add_plan : Order → List ℕ → ℕ → ℕ → ℕ → ℕ → ℕ → Answer AddPlan
add_plan o f headers rows columns values size = planned (first_fault (add_rules o f headers rows columns values size)) o f rows columns

-- how many places of the table are to be filled before the search, by what is said of a plan: none where it is refused
abbrev pub plan_places : Answer AddPlan → ℕ
plan_places (gives p) = p.count
plan_places (refuses number place) = 0

-- what adding in the file says, with a table of `size` pairs, and the file that it leaves
unfoldable pub add_step : Order → List ℕ → List ℕ → ℕ → ℕ → List ℤ → ℕ → (Answer Added × ℕ) × List ℕ
add_step o f header rows columns values size =
    stepped (first_fault (add_rules o f (length header) rows columns (length values) size)) (added o f rows columns) o f (with_grid o f header rows columns values)

-- What carrying out a plan asks that its rules allow: that it is the plan, and that what was found among the free stretches before the last, or else the last,
-- begins at the lowest address at which the grid has room.
pub record ReadyPlan (o : Order) (f header : List ℕ) (rows columns : ℕ) (values : List ℤ) (size : ℕ) (plan : AddPlan) (found : Extent) : Type 0 where
  pub planned : gives plan ≡ add_plan o f (length header) rows columns (length values) size
  pub address : (first_fitting plan.need found plan.last).start ≡ address_for o f (grid_words rows columns)

-- What carrying out a plan asks, be it refused or not: that it is the plan, and that what was found begins at that address where the plan is not refused.
pub record Ready (o : Order) (f header : List ℕ) (rows columns : ℕ) (values : List ℤ) (size : ℕ) (plan : Result AddPlan Refusal) (found : Extent) : Type 0 where
  pub planned : says plan ≡ add_plan o f (length header) rows columns (length values) size
  pub address : (p : AddPlan) → plan ≡ Ok p → (first_fitting p.need found p.last).start ≡ address_for o f (grid_words rows columns)
