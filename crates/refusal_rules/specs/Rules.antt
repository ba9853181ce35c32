-- Tables of rules. A rule is a test, and the refusal that is given where the test fails, with its number and place as document 01's
-- table gives them. What a table says is the first rule that fails, in the table's order.
-- Assumes nothing.
use Rattle.std.specs.Prelude.{◌≡◌, Bool, true, false, List, [], ◌∷◌, ◌++◌, ℕ}
use Rattle.lists.specs.Choices.{pick}
use Rattle.refusal_rules.specs.declared.Refusal.{Refusal}
use Rattle.refusal_rules.specs.declared.Refusal.TheVariants.{ShortFile, NoByteOrder, CountOutOfBounds, RuleBroken, Misplaced, Absent, NoSuch, TooLarge, Stale, ShortOutput, NoDate, WrongLength, NoEmptySlot, NoRoom}

-- a refusal as document 01 writes it: a number and a place
pub record Refused : Type 0 where
  pub number : ℕ
  pub place : ℕ

-- a refusal, with number and place in the order in which a refusal is told
abbrev pub at : ℕ → ℕ → Refused
at number place = record { number = number; place = place }

-- document 01's table of refusals, with the rows 12 to 14 of document 02, request 5
abbrev pub numbered : Refusal → Refused
numbered ShortFile = at 1 0
numbered NoByteOrder = at 2 2
numbered (CountOutOfBounds word) = at 3 word
numbered (RuleBroken word) = at 4 word
numbered (Misplaced word) = at 5 word
numbered Absent = at 6 0
numbered NoSuch = at 7 0
numbered TooLarge = at 8 0
numbered Stale = at 9 0
numbered ShortOutput = at 10 0
numbered NoDate = at 11 0
numbered WrongLength = at 12 0
numbered NoEmptySlot = at 13 0
numbered NoRoom = at 14 0

-- what rules say: they all hold, or the first that does not gives this refusal
pub data Verdict : Type 0 where
  Pass : Verdict
  Fault : Refused → Verdict

-- a row of a table: the test that must hold, and the number and place of the refusal where it does not
pub record Rule : Type 0 where
  pub holds : Bool
  pub number : ℕ
  pub place : ℕ

-- a row of a table, with test, number and place in the order in which tables write them
abbrev pub rule : Bool → ℕ → ℕ → Rule
rule holds number place = record { holds = holds; number = number; place = place }

-- the refusal that a rule gives
abbrev pub refusal_of : Rule → Refused
refusal_of r = record { number = r.number; place = r.place }

-- what one rule says: a pass where its test holds, else its refusal
unfoldable pub judge : Rule → Verdict
judge r = pick r.holds Pass (Fault (refusal_of r))

-- the first fault of two verdicts, or a pass
unfoldable pub first : Verdict → Verdict → Verdict
first Pass v = v
first (Fault r) v = Fault r

-- what a table says: the first of its rules that fails
unfoldable pub first_fault : List Rule → Verdict
first_fault [] = Pass
first_fault (r ∷ rs) = first (judge r) (first_fault rs)

-- the numbers and places of a table, in its order
unfoldable pub tabled : List Rule → List (ℕ × ℕ)
tabled [] = []
tabled (r ∷ rs) = (r.number, r.place) ∷ tabled rs

-- the rules applied one after another to a verdict
unfoldable pub chained : Verdict → List Rule → Verdict
chained v [] = v
chained v (r ∷ rs) = chained (first v (judge r)) rs

-- every rule of a table has a property
abbrev pub Every : (Rule → Type 0) → List Rule → Type 0
Every P [] = Unit {0}
Every P (r ∷ rs) = P r × Every P rs

-- every rule of a table holds
abbrev pub Hold : List Rule → Type 0
Hold rs = Every (λ r. r.holds ≡ true) rs

-- every rule of a table gives the same refusal
abbrev pub Give : Refused → List Rule → Type 0
Give f rs = Every (λ r. refusal_of r ≡ f) rs

-- a table's first rule that fails, with the rules before it, which hold
pub record FirstFailing (table : List Rule) (refusal : Refused) : Type 0 where
  pub before : List Rule
  pub failing : Rule
  pub after : List Rule
  pub split : table ≡ before ++ failing ∷ after
  pub hold : Hold before
  pub fails : failing.holds ≡ false
  pub gives : refusal ≡ refusal_of failing
