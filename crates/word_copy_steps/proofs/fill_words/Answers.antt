-- `word_copy_steps::fill_words` meets its contract: what is read at a byte is the signed word there, in the order that the arm says.
-- Assumes nothing.
use Rattle.std.proofs.Common.{rules}
use Rattle.endian_rules.specs.Words.{signed_at}
use Rattle.endian_rules.specs.declared.Order.TheVariants.{Big, Little}
use Rattle.word_copy_steps.proofs.fill_words.Goals as goal

pub returns-in-Big : goal.returns-in-Big
returns-in-Big c = rw c.in-Big.is (c.fill_by_fours.ensures (signed_at Big c.args.file.now) (λ i lt v e. search rules))

pub returns-in-Little : goal.returns-in-Little
returns-in-Little c = rw c.in-Little.is (c.fill_singly.ensures (signed_at Little c.args.file.now) (λ i lt v e. search rules))
