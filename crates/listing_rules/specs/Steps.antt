-- What the functions compute on their way to the listing: a text that bytes are appended to, in room for 512. No promise rests on it.
-- Assumes nothing.
use Rattle.std.specs.Prelude.{List, [], ◌∷◌, ℕ, ◌+◌, ltb, set, replicate}
use Rattle.lists.specs.Choices.{pick}
use Rattle.listing_rules.specs.declared.Text.{Text}

-- the text of no bytes
unfoldable pub empty_text : Text
empty_text = record { count = 0; bytes = replicate 512 0 }

-- a text with a byte behind it, which is left out where there is no room
unfoldable pub append_byte : Text → ℕ → Text
append_byte t b = pick (ltb t.count 512) (record { count = t.count + 1; bytes = set t.bytes t.count b }) t

-- a text with bytes behind it, one after another
unfoldable pub append_bytes : Text → List ℕ → Text
append_bytes t [] = t
append_bytes t (b ∷ l) = append_bytes (append_byte t b) l
