-- Runs of numbers at equal distances in a file, and what a copy into a lent output does: document 01, "What comes back".
-- Assumes nothing.
use Rattle.std.specs.Prelude.{List, ℕ, ◌+◌, ◌*◌, leb, ℤ, length}
use Rattle.lists.specs.Choices.{pick}
use Rattle.lists.specs.Lists.{list_of, lines_of, over}
use Rattle.endian_rules.specs.Numbers.{number_at}
use Rattle.endian_rules.specs.Words.{signed_at}
use Rattle.endian_rules.specs.declared.Order.{Order}
use Rattle.refusal_rules.specs.Answers.{Answer, gives, refuses}

-- n unsigned numbers of w bytes each, the first at byte `at`, and each `step` bytes behind the one before
abbrev pub numbers_at : Order → ℕ → List ℕ → ℕ → ℕ → ℕ → List ℕ
numbers_at o w f at step n = list_of (λ i. number_at o w f (at + i * step)) n

-- n signed words, the first at byte `at`, and each `step` bytes behind the one before
abbrev pub words_at : Order → List ℕ → ℕ → ℕ → ℕ → List ℤ
words_at o f at step n = list_of (λ i. signed_at o f (at + i * step)) n

-- `count` lines of n signed words: line k begins at byte at + k·across, and its words are `along` bytes apart
abbrev pub lines_at : Order → List ℕ → ℕ → ℕ → ℕ → ℕ → ℕ → List ℤ
lines_at o f at across along count n = lines_of (λ k. words_at o f (at + k * across) along n) count

-- What a call that copies answers, and the lent output that it leaves. It refuses as what it would copy is refused, and then with 10 where the output is
-- too short; "A refusal .. writes nothing". Otherwise it answers how many places it wrote: "a successful copy writes the first places of the output and no
-- more".
abbrev pub copied : {Value : Type 0} → Answer (List Value) → List Value → Answer ℕ × List Value
copied (refuses n p) out = (refuses n p, out)
copied (gives l) out = pick (leb (length l) (length out)) (gives (length l), over l out) (refuses 10 0, out)
