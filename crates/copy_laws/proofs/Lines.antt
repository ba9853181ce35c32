-- Each sample that a line copy writes is what the single read of the same sample answers.
-- Assumes nothing.
use mathlib.Core.Path.{◌≡◌, ap, ◌∙◌}
use mathlib.Core.List.{List}
use Prim.Native.Nat.{ℕ, ◌<◌}
use lib.ListN.{length, get_or}
use Rattle.lists.proofs.Built.{length-list_of, get_or-list_of}
use Rattle.endian_rules.specs.Numbers.{number_at}
use Rattle.refusal_rules.specs.Answers.{gives}
use Rattle.area_rules.specs.Samples.{sample_address}
use Rattle.area_rules.specs.declared.AreaLayout.{AreaLayout}
use Rattle.layout_rules.specs.declared.Layout.{Layout}
use Rattle.layout_rules.proofs.OneKind.{area-found}
use Rattle.area_rules.specs.declared.SlotOrBand.{SlotOrBand}
use Rattle.area_rules.proofs.Bands.{named_slot-inside}
use Rattle.area_part_rules.specs.Lines.{slot_line}
use Rattle.value_rules.specs.Reading.{read_sample}
use Rattle.value_rules.proofs.Reading.{sample_exactly}
use Rattle.area_part_rules.proofs.Lines.{LineOf}

-- a line of a file has W10 samples, and each is what the single read of the same sample gives
pub line_reads : (f : List ℕ) (l : Layout) (i : ℕ) (c : SlotOrBand) (xs : List ℕ) → (x : LineOf f l i c xs)
    → (length xs ≡ x.area.elements) × ((e : ℕ) → e < x.area.elements → read_sample f l i e c ≡ gives (get_or xs e 0))
unfolding slot_line
line_reads f l i c xs x =
    let a : AreaLayout = x.area in
    let (layout, opens) = (area-found f l a).0 x.found in
    let sample : ℕ → ℕ = λ e. number_at a.order a.width f (sample_address a i e x.slot) in (
      ap length x.samples ∙ length-list_of sample a.elements,
      λ e lt.
          (sample_exactly f l i e c (get_or xs e 0)).1
          (record {
            area = a;
            slot = x.slot;
            layout = layout;
            opens = opens;
            means = x.means;
            is = record { line = x.line; element = lt; slot = named_slot-inside a c x.slot x.means };
            value = ap (λ (l : List ℕ). get_or l e 0) x.samples ∙ get_or-list_of sample a.elements e 0 lt;
          }),
    )
