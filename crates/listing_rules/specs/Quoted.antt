-- Texts in quotes, as bytes.
-- Assumes nothing.
use Rattle.std.specs.Prelude.{List, [] as nil, ◌∷◌ as cons, ℕ}
use Prim.Native.Char.{code}
use Prim.Native.String.{String, [], ◌∷◌}

-- the bytes of a text in ASCII: the code of each character
abbrev pub quoted : String → List ℕ
quoted [] = nil
quoted (c ∷ s) = cons (code c) (quoted s)
