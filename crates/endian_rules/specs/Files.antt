-- Files that are written down word by word, as document 01 gives its worked files: "what isn't given is 0".
-- Assumes nothing.
use Rattle.std.specs.Prelude.{List, [], ◌∷◌, ◌++◌, ℕ, set, replicate}
use Rattle.endian_rules.specs.Numbers.{encode}
use Rattle.endian_rules.specs.declared.Order.{Order}

-- n words, of which some are given, each by its place, counted from 0, and its raw number; the others are 0
unfoldable pub given : ℕ → List (ℕ × ℕ) → List ℕ
given n [] = replicate n 0
given n (w ∷ ws) = set (given n ws) w.0 w.1

-- the bytes of raw words, one after another
unfoldable pub bytes_of : Order → List ℕ → List ℕ
bytes_of o [] = []
bytes_of o (n ∷ ns) = encode o 4 n ++ bytes_of o ns
