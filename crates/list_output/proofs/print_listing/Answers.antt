-- `list_output::print_listing` meets its contract: the listing fits 512 places, so it is never refused.
-- Assumes nothing.
use Rattle.std.proofs.Common.{sym, replicate, arith}
use Rattle.refusal_rules.proofs.Answers.{gives-refuses}
use Rattle.listing_rules.proofs.Page.{listing_fits}
use Rattle.list_output.proofs.print_listing.Goals as goal

pub returns-in-Err : goal.returns-in-Err
returns-in-Err g c = gives-refuses (sym (listing_fits c.args.file.now (replicate 512 0) c.in-Err.ensures (omega arith)).0)
