-- What a call answers, as document 01 has it, "What comes back": a value, or a refusal, which "carries number and place, no value".
--
-- In code an answer is a `Result`, and a call's contract is that what its result says, in these terms, equals what the call's
-- definition gives.
-- Assumes nothing.
use Rattle.std.specs.Prelude.{ℕ, ◌*◌, Result, Ok, Err}
use Rattle.refusal_rules.specs.Rules.{Refused, Verdict, Pass, Fault, numbered}
use Rattle.refusal_rules.specs.declared.Place.{Place}
use Rattle.refusal_rules.specs.declared.Refusal.{Refusal}

-- a value, or the number and the place of a refusal
pub data Answer (Value : Type 0) : Type 0 where
  gives : Value → Answer Value
  refuses : ℕ → ℕ → Answer Value

-- the answer of a call whose rules come to a verdict: the value where they pass, else the refusal of the first that fails
abbrev pub answered : {Value : Type 0} → Verdict → Value → Answer Value
answered Pass v = gives v
answered (Fault r) v = refuses r.number r.place

-- an answer with another value made of its value; a refusal stays
abbrev pub mapped : {Value Other : Type 0} → (Value → Other) → Answer Value → Answer Other
mapped h (gives v) = gives (h v)
mapped h (refuses n p) = refuses n p

-- the answer of a call that goes on with the value of another call's answer; a refusal of that answer stays
abbrev pub and_then : {Value Other : Type 0} → Answer Value → (Value → Answer Other) → Answer Other
and_then (gives v) h = h v
and_then (refuses n p) h = refuses n p

-- what a call's result says: the value, or the number and the place of the refusal
abbrev pub says : {Value : Type 0} → Result Value Refusal → Answer Value
says (Ok v) = gives v
says (Err r) = refuses (numbered r).number (numbered r).place

-- the verdict that the result of a call is which applies rules
abbrev pub verdict_of : {Value : Type 0} → Result Value Refusal → Verdict
verdict_of (Ok v) = Pass
verdict_of (Err r) = Fault (numbered r)

-- the place of so many bytes at an address
abbrev pub place : ℕ → ℕ → Place
place address width = record { address = address; width = width }

-- the place of word k, counted from 0: its four bytes
abbrev pub word_place : ℕ → Place
word_place k = place (4 * k) 4
