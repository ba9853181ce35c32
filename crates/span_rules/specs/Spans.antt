-- Parts of a file that are handed back: document 01, "What comes back". "Blocks, prefix regions and grid headers are handed back as that part of the lent
-- file, empty when refused; a companion call gives start and length in bytes, or the refusal."
-- Assumes nothing.
use Rattle.std.specs.Prelude.{List, [], ℕ, ◌+◌, ◌≤◌, length}
use Rattle.std.specs.Borrow.{Bor}
use Rattle.lists.specs.Lists.{part}
use Rattle.refusal_rules.specs.Answers.{Answer, gives, refuses}
use Rattle.span_rules.specs.declared.Span.{Span}

-- the span of so many bytes from a start on
abbrev pub span : ℕ → ℕ → Span
span start size = record { start = start; length = size }

-- the bytes of the part that is handed back: those of the span that the companion call gives, none where it refuses
abbrev pub handed : List ℕ → Answer Span → List ℕ
handed f (gives s) = part s.start s.length f
handed f (refuses n p) = []

-- where the part that is handed back lies: at the byte of the lent file at which the span starts, and at its first byte where the companion call refuses. An address is
-- a block of memory and a byte in it.
abbrev pub handed_at : ℕ × ℕ → Answer Span → ℕ × ℕ
handed_at at (gives s) = (at.0, at.1 + s.start)
handed_at at (refuses n p) = at

-- what a reference to bytes settles: where they lie, and what they are
abbrev pub lent_bytes : Bor (List ℕ) → (ℕ × ℕ) × List ℕ
lent_bytes r = (r.ref_ptr, r.now)

-- "handed back as that part of the lent file, empty when refused": where the part lies, and its bytes
abbrev pub that_part : Bor (List ℕ) → Answer Span → (ℕ × ℕ) × List ℕ
that_part file a = (handed_at file.ref_ptr a, handed file.now a)

-- the span that an answer gives is inside the file; nothing is said of a refusal
abbrev pub Inside : List ℕ → Answer Span → Type 0
Inside f (gives s) = s.start + s.length ≤ length f
Inside f (refuses n p) = Unit {0}
