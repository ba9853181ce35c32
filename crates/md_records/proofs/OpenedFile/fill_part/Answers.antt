-- `md_records::OpenedFile::fill_part` meets its contract: its fields are words, one behind the other, from the start of the part on, and an accepted file has the part.
-- Assumes nothing.
use native.Mathlib.Omega.{arith}
use Rattle.md_part_rules.proofs.Fills.{part-words, part-inside, part-small, part_started, part_granted}
use Rattle.md_records.proofs.OpenedFile.fill_part.Goals as goal

pub overflow_mul-word : goal.overflow_mul-word
overflow_mul-word c =
    let of = c.args.self.now.opened in
    let (row, (column, _)) = c.requires in
    let start = part_started _ _ of _ _ row column c.part_start.ensures c.in-Ok.is in
    record { fits = part-small _ _ of _ _ row column _ start (omega (arith, c.well_formed.1.0)) (omega (arith, c.well_formed.1.0)) }

pub fill_words-requires : goal.fill_words-requires
fill_words-requires c =
    let of = c.args.self.now.opened in
    let (row, (column, fields)) = c.requires in
    part-inside _ _ of _ _ row column _ _ (part_started _ _ of _ _ row column c.part_start.ensures c.in-Ok.is) fields

pub returns-in-Ok : goal.returns-in-Ok
returns-in-Ok c =
    let of = c.args.self.now.opened in
    let (row, (column, fields)) = c.requires in
    part-words _ _ _ _ _ _ (part_started _ _ of _ _ row column c.part_start.ensures c.in-Ok.is) fields c.fill_words.ensures

pub returns-in_default : goal.returns-in_default
returns-in_default c =
    let of = c.args.self.now.opened in
    let (row, (column, _)) = c.requires in
    part_granted _ _ of _ _ row column c.part_start.ensures c.in_default.is
