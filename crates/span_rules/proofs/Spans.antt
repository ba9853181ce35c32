-- What is handed back: as many bytes as the span says, each the file's and where that lies, and none where the answer is a refusal.
-- Assumes nothing.
use mathlib.Core.Path.{◌≡◌, refl}
use mathlib.Core.List.{List, []}
use Prim.Native.Nat.{ℕ, ◌+◌, ◌<◌}
use native.Mathlib.Omega.{arith}
use lib.ListN.{length, get_or}
use Rattle.lists.proofs.Parts.{length-part, get_or-part}
use Rattle.refusal_rules.specs.Answers.{gives, refuses}
use Rattle.span_rules.specs.Spans.{handed, handed_at, Inside}
use Rattle.span_rules.specs.declared.Span.{Span}

-- as many bytes are handed back as the span says
pub handed-length : (f : List ℕ) (s : Span) → Inside f (gives s) → length (handed f (gives s)) ≡ s.length
handed-length f s inside = length-part s.start s.length f inside

-- byte i of what is handed back is byte start + i of the file
pub handed_byte : (f : List ℕ) (s : Span) (i : ℕ) → i < s.length → get_or (handed f (gives s)) i 0 ≡ get_or f (s.start + i) 0
handed_byte f s i h = get_or-part s.start s.length f i 0 h

-- they lie where these bytes of the file lie: byte i is so many bytes behind the address of the lent file
pub handed_there : (at : ℕ × ℕ) (s : Span) (i : ℕ) → ((handed_at at (gives s)).0 ≡ at.0) × ((handed_at at (gives s)).1 + i ≡ at.1 + (s.start + i))
handed_there at s i = (refl, omega arith)

-- nothing is handed back where the answer is a refusal
pub handed_refused : (f : List ℕ) (n p : ℕ) → handed f (refuses n p) ≡ []
handed_refused f n p = refl
