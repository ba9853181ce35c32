-- The regions of a line prefix of an accepted AREA file, the padding among them. They lie one behind another: no two share a byte, each is inside the prefix of
-- its line, together they fill it, and no sample has a byte of one.
-- Assumes nothing.
use mathlib.Core.Path.{◌≡◌, refl, sym, ap, subst, ◌∙◌}
use mathlib.Core.Logic.{◌↔◌, inl, inr, ⊎_elim}
use Prim.Native.Nat.{ℕ, zero, suc, ◌+◌, ◌-◌, ◌≤◌, ◌<◌}
use native.Mathlib.Omega.{arith}
use Rattle.lists.specs.Lists.{Apart}
use Rattle.lists.specs.Segments.{total}
use Rattle.lists.proofs.Segments.{InSegment, segment_inside, segments_apart, segments_fill}
use Rattle.area_rules.specs.Samples.{line_start, sample_address, IsSample, AreaFits}
use Rattle.area_rules.specs.Blocks.{region_lengths, region_index, region_length, region_offset, region_start}
use Rattle.area_rules.specs.declared.AreaLayout.{AreaLayout}
use Rattle.area_rules.specs.declared.Region.{Region}
use Rattle.area_rules.specs.declared.Region.TheVariants.{Validity, Documentation, Calibration, BandList, Padding}
use Rattle.area_rules.proofs.Prefixes.{padding_most, padding_rest}
use Rattle.area_rules.proofs.Samples.{line-inside, sample-prefix}

-- ---- which region is at which place of the list of lengths

-- the region at a place of the list
abbrev region_at : ℕ → Region
region_at zero = Validity
region_at (suc zero) = Documentation
region_at (suc (suc zero)) = Calibration
region_at (suc (suc (suc zero))) = BandList
region_at (suc (suc (suc (suc k)))) = Padding

-- the region at the place of a region is that one
at_index : (r : Region) → region_at (region_index r) ≡ r
at_index Validity = refl
at_index Documentation = refl
at_index Calibration = refl
at_index BandList = refl
at_index Padding = refl

-- every place of the list is that of the region there
index_at : (k : ℕ) → k < 5 → region_index (region_at k) ≡ k
index_at zero h = refl
index_at (suc zero) h = refl
index_at (suc (suc zero)) h = refl
index_at (suc (suc (suc zero))) h = refl
index_at (suc (suc (suc (suc k)))) h = omega arith

-- two regions at one place are the same
index_only : (r s : Region) → region_index r ≡ region_index s → r ≡ s
index_only r s e = sym (at_index r) ∙ ap region_at e ∙ at_index s

-- ---- regions of a line prefix

-- two regions of a prefix share no byte
pub regions_apart : (l : AreaLayout) (i : ℕ) (r s : Region) → ¬ (r ≡ s)
    → Apart (region_start l i r) (region_length l r) (region_start l i s) (region_length l s)
regions_apart l i r s other = segments_apart (region_lengths l) (line_start l i) (region_index r) (region_index s) (λ e. other (index_only r s e))

-- byte x of a file is one of region r of the prefix of line i
pub record InRegion (l : AreaLayout) (i : ℕ) (r : Region) (x : ℕ) : Type 0 where
  pub from : region_start l i r ≤ x
  pub to : x < region_start l i r + region_length l r

-- a byte in the segment at the place of a region is one of that region
segment_region : (l : AreaLayout) (i : ℕ) (r : Region) (x : ℕ) → line_start l i ≤ x → InSegment (region_lengths l) (region_index r) (x - line_start l i) → InRegion l i r x
segment_region l i r x h p = record { from = omega (arith, p.from); to = omega (arith, p.to, h) }

module _ (l : AreaLayout) (fits : AreaFits l) where
  -- the padding has at most three bytes
  pub padding_below_four : l.padding < 4
  padding_below_four = omega (arith, fits.padding, padding_most l.no_validity_code l.documentation l.calibration l.band_list)

  -- the lengths of all regions add up to the prefix
  pub regions_total : total (region_lengths l) ≡ l.prefix
  regions_total =
      omega (arith, fits.prefix, fits.padding, padding_rest l.no_validity_code l.documentation l.calibration l.band_list)

  -- a region is inside the prefix
  pub region_prefix : (r : Region) → region_offset l r + region_length l r ≤ l.prefix
  region_prefix r = omega (arith, segment_inside (region_lengths l) (region_index r), regions_total)

  -- a region of a line is inside DATA, and so inside the file
  pub region_inside : (i : ℕ) → i < l.lines → (r : Region) → region_start l i r + region_length l r ≤ l.length
  region_inside i h r = omega (arith, region_prefix r, line-inside l fits i h, fits.room)

  -- the regions fill the prefix: its bytes are those of the regions
  pub regions_fill : (i x : ℕ) → ((r : Region) × InRegion l i r x) ↔ ((line_start l i ≤ x) × (x < line_start l i + l.prefix))
  regions_fill i x = (
    λ p. let (r, at) = p in (omega (arith, at.from), omega (arith, at.to, region_prefix r)),
    λ p.
        let (k, (is, at)) = segments_fill (region_lengths l) (x - line_start l i) (omega (arith, p.0, p.1, regions_total)) in
        (region_at k, segment_region l i (region_at k) x p.0 (subst (λ j. InSegment (region_lengths l) j (x - line_start l i)) (sym (index_at k is)) at)),
  )

  -- the padding starts where the band list ends, and ends where the first sample starts
  pub padding_there : (i : ℕ)
      → (region_start l i Padding ≡ region_start l i BandList + region_length l BandList) × (region_start l i Padding + region_length l Padding ≡ sample_address l i 0 0)
  padding_there i = (omega arith, omega (arith, regions_total))

  -- no sample has a byte of a region of any line
  pub sample_region : (i e s : ℕ) → IsSample l i e s → (k : ℕ) (r : Region)
      → Apart (sample_address l i e s) l.width (region_start l k r) (region_length l r)
  sample_region i e s is k r =
      ⊎_elim (λ h. inl (omega (arith, h))) (λ h. inr (omega (arith, h, region_prefix r))) (sample-prefix l fits i e s is k)
