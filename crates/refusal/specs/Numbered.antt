-- The verdict of rules of any number and place, which are no rows of document 01's table.
-- Assumes nothing.
use Rattle.std.specs.Prelude.{Result, Ok, Err}
use Rattle.refusal_rules.specs.Rules.{Verdict, Pass, Fault, at}
use Rattle.refusal.specs.declared.NumberedRefusal.{NumberedRefusal}

-- the verdict that the result of a call is which applies such rules
abbrev pub numbered_verdict : {Value : Type 0} → Result Value NumberedRefusal → Verdict
numbered_verdict (Ok v) = Pass
numbered_verdict (Err r) = Fault (at r.number r.place)
