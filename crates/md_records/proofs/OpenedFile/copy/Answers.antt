-- `md_records::OpenedFile::copy` meets its contract: a record has as many words as there are keys, so the output is long enough or it is refused.
-- Assumes nothing.
use mathlib.Core.Path.{◌≡◌, sym, ap, ◌∙◌}
use Prim.Native.Nat.{ℕ}
use Rattle.std.specs.Prelude.{Result, Ok}
use Rattle.refusal_rules.specs.Rules.{first_fault}
use Rattle.refusal_rules.specs.Answers.{verdict_of}
use Rattle.refusal_rules.specs.declared.Refusal.{Refusal}
use Rattle.refusal_rules.proofs.Tables.{pass_hold}
use Rattle.copy_rules.proofs.Copies.{counted_over, counted_short}
use Rattle.md_rules.specs.declared.MdLayout.{MdLayout}
use Rattle.md_part_rules.specs.Records.{record_rules, record_fields, IsRecord, record_in}
use Rattle.md_part_rules.proofs.Fills.{record_holds}
use Rattle.md_part_rules.proofs.Records.{record_length}
use Rattle.md_records.proofs.OpenedFile.copy.Goals as goal

-- where the rules passed, there is such a record
passed_record : {A : Type 0} {v : A} {x : Result A Refusal} (l : MdLayout) (r c : ℕ) → verdict_of x ≡ first_fault (record_rules l r c) → x ≡ Ok v → IsRecord l r c
passed_record l r c verdict ok = record_holds l r c (pass_hold _ (sym verdict ∙ ap verdict_of ok))

pub returns-then-out-keys : goal.returns-then-out-keys
unfolding record_in
returns-then-out-keys c =
    let a = c.args in
    let is = passed_record a.self.now.layout a.row a.column c.record_verdict.ensures c.in_ok-record_verdict.was in
    rw (sym c.record_verdict.ensures ∙ ap verdict_of c.in_ok-record_verdict.was)
    (counted_short (record_fields a.self.now.file.now a.self.now.layout a.row a.column) a.out.now _ (record_length _ _ c.args.self.now.opened.fits is) c.if-out-keys.true)

pub fill_record-requires : goal.fill_record-requires
fill_record-requires c =
    let a = c.args in
    (passed_record a.self.now.layout a.row a.column c.record_verdict.ensures c.in_ok-record_verdict.was, c.if-out-keys.false)

pub returns : goal.returns
unfolding record_in
returns c =
    let a = c.args in
    let is = passed_record a.self.now.layout a.row a.column c.record_verdict.ensures c.in_ok-record_verdict.was in
    rw (sym c.record_verdict.ensures ∙ ap verdict_of c.in_ok-record_verdict.was)
    (counted_over (record_fields a.self.now.file.now a.self.now.layout a.row a.column) a.out.now _ _ c.fill_record.ensures (record_length _ _ c.args.self.now.opened.fits is) c.if-out-keys.false)
