-- `area_lines::copy_line_in` meets its contract: the line is a run from the place of its element 0 on.
-- Assumes nothing.
use mathlib.Core.Path.{◌≡◌, sym, ap, ◌∙◌}
use mathlib.Core.List.{List}
use Prim.Native.Nat.{ℕ}
use Rattle.std.proofs.lemmas.Result.{err_from_is_err_and}
use Rattle.refusal_rules.specs.Answers.{Answer, mapped}
use Rattle.refusal_rules.specs.declared.Place.{Place}
use Rattle.copy_rules.specs.Runs.{copied}
use Rattle.area_rules.specs.Places.{sample_place}
use Rattle.area_rules.specs.Samples.{AreaFits}
use Rattle.area_rules.specs.declared.AreaLayout.{AreaLayout}
use Rattle.area_rules.specs.declared.SlotOrBand.{SlotOrBand}
use Rattle.area_part_rules.specs.Lines.{line_in}
use Rattle.area_part_rules.proofs.Lines.{line_from, line-from, line_samples_inside}
use Rattle.area_lines.proofs.copy_line_in.Goals as goal

pub copy_numbers-requires : goal.copy_numbers-requires
copy_numbers-requires c = line_samples_inside c.args.file.now c.args.l c.requires _ _ _ (sym c.in_ok-place.ensures)

-- what is copied where the place of element 0 has an answer
run : (f : List ℕ) (l : AreaLayout) → AreaFits l → (i : ℕ) (which : SlotOrBand) (out : List ℕ) (x : Answer Place) → x ≡ sample_place l i 0 which
    → copied (mapped (line_from f l) x) out ≡ copied (line_in f l i which) out
run f l fits i which out x e = ap (λ x. copied x out) (ap (mapped (line_from f l)) e ∙ line-from f l fits i which)

pub returns-in_err-place : goal.returns-in_err-place
returns-in_err-place c =
    let p = err_from_is_err_and c.from_residual.result c.from_residual.ensures.1 in
    rw (p.1, p.2) (run _ _ c.requires.fits _ _ _ _ c.in_err-place.ensures)

pub returns : goal.returns
returns c = c.copy_numbers.ensures ∙ run _ _ c.requires.fits _ _ _ _ c.in_ok-place.ensures
