-- `md_records::OpenedFile::fill_record` meets its contract: row header, column header and data stand one behind the other in the output.
-- Assumes nothing.
use mathlib.Core.Path.{sym, ◌∙◌}
use native.Mathlib.Omega.{arith}
use lib.Seq.{length-take-le}
use Rattle.md_part_rules.proofs.Fills.{row_fields, column-room, data_room, record_over}
use Rattle.md_records.proofs.OpenedFile.fill_record.Goals as goal

pub fill_part-requires : goal.fill_part-requires
fill_part-requires c =
    let s = c in
    let is = s.requires.0 in
    (is.row_to, (omega arith, length-take-le _ _ (omega (arith, s.args.self.now.opened.fits.sum, s.requires.1)) ∙ sym (row_fields _ _ is.row_from)))

pub fill_part-requires-2 : goal.fill_part-requires-2
fill_part-requires-2 c =
    let s = c in
    let is = s.requires.0 in
    let places = column-room s.args.self.now.file.now s.args.self.now.layout is s.args.out.now (omega (arith, s.args.self.now.opened.fits.sum, s.requires.1)) c.fill_part.ensures in
    (omega arith, (is.column_to, places))

pub fill_part-requires-3 : goal.fill_part-requires-3
fill_part-requires-3 c =
    let s = c in
    let is = s.requires.0 in
    let row = c.fill_part.ensures in
    let places = data_room s.args.self.now.file.now s.args.self.now.layout is s.args.out.now (omega (arith, s.args.self.now.opened.fits.sum, s.requires.1)) row c.fill_part-2.ensures in
    (is.row_to, (is.column_to, places))

pub returns : goal.returns
returns c =
    let s = c in
    let row = c.fill_part.ensures in
    let column = c.fill_part-2.ensures in
    record_over s.args.self.now.file.now s.args.self.now.layout s.requires.0 s.args.out.now (omega (arith, s.args.self.now.opened.fits.sum, s.requires.1)) row column c.fill_part-3.ensures
