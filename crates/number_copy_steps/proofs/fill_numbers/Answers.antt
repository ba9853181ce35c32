-- `number_copy_steps::fill_numbers` meets its contract: what is read at a byte is the number there, of the width and in the order that the arm says.
-- Assumes nothing.
use Rattle.std.proofs.Common.{rules}
use Rattle.endian_rules.specs.Numbers.{number_at}
use Rattle.endian_rules.specs.declared.Order.TheVariants.{Big, Little}
use Rattle.number_copy_steps.proofs.fill_numbers.Goals as goal

pub returns-in-1 : goal.returns-in-1
returns-in-1 c = rw c.in-1.is (c.fill_singly.ensures (number_at c.args.order 1 c.args.file.now) (λ i lt v e. search rules))

pub returns-in-Big : goal.returns-in-Big
returns-in-Big c = rw (c.in-2.is, c.in-Big.is) (c.fill_by_fours.ensures (number_at Big 2 c.args.file.now) (λ i lt v e. search rules))

pub returns-in-Little : goal.returns-in-Little
returns-in-Little c = rw (c.in-2.is, c.in-Little.is) (c.fill_singly-in-Little.ensures (number_at Little 2 c.args.file.now) (λ i lt v e. search rules))

pub returns-in-Big-order : goal.returns-in-Big-order
returns-in-Big-order c = rw (c.in-4.is, c.in-Big-order.is) (c.fill_by_fours-in-Big-order.ensures (number_at Big 4 c.args.file.now) (λ i lt v e. search rules))

pub returns-in-Little-order : goal.returns-in-Little-order
returns-in-Little-order c = rw (c.in-4.is, c.in-Little-order.is) (c.fill_singly-in-Little-order.ensures (number_at Little 4 c.args.file.now) (λ i lt v e. search rules))

pub returns-in_default : goal.returns-in_default
returns-in_default c = c.fill_singly-in_default.ensures (number_at c.args.order c.args.width c.args.file.now) (λ i lt v e. search rules)
