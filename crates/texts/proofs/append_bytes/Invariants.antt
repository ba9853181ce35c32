-- `texts::append_bytes`: the text with the bytes from an index on is the text with all of them.
use Rattle.std.proofs.Common.{◌≡◌, drop}
use Rattle.listing_rules.specs.Steps.{append_bytes}
use Rattle.texts.proofs.append_bytes.Given as goal

abbrev pub invariant-loop-byte : goal.invariant-loop-byte
invariant-loop-byte l = append_bytes l.t (drop l.byte-index l.more) ≡ append_bytes l.fn.text l.more
