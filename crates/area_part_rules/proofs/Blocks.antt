-- The spans of blocks. One that is given is inside the file, and has bytes; it is given exactly where the block is present.
-- Assumes nothing.
use mathlib.Core.Path.{◌≡◌, refl, sym, subst}
use mathlib.Core.Bool.{true}
use mathlib.Core.Logic.{◌↔◌}
use mathlib.Core.List.{List, [], ◌∷◌}
use Prim.Native.Nat.{ℕ, ◌+◌, ◌≤◌}
use native.Mathlib.Omega.{arith}
use lib.ListN.{length}
use Rattle.refusal_rules.specs.Answers.{Answer, gives, refuses, and_then}
use Rattle.refusal_rules.specs.Rules.{tabled}
use Rattle.refusal_rules.proofs.Answers.{then_gives, value_exactly, never_refused}
use Rattle.refusal_rules.proofs.Tables.{also}
use Rattle.area_rules.specs.Samples.{AreaFits, AreaOf}
use Rattle.area_rules.specs.Blocks.{block_present, block_start, block_length}
use Rattle.area_rules.specs.declared.AreaLayout.{AreaLayout}
use Rattle.area_rules.specs.declared.Block.{Block}
use Rattle.area_rules.proofs.Blocks.{block_inside}
use Rattle.area_rules.specs.Opening.{open_area}
use Rattle.layout_rules.specs.Found.{area_of}
use Rattle.layout_rules.specs.Layouts.{Fresh}
use Rattle.layout_rules.specs.declared.Layout.{Layout}
use Rattle.layout_rules.specs.declared.Layout.TheVariants.{Area}
use Rattle.layout_rules.proofs.OneKind.{area_then, area_known, area_nine}
use Rattle.span_rules.specs.Spans.{span, Inside}
use Rattle.span_rules.specs.declared.Span.{Span}
use Rattle.area_part_rules.specs.Blocks.{block_rules, block_of, block_span}

-- ---- blocks

-- an absent block is refused with 6
pub block_order : (l : AreaLayout) (b : Block) → tabled (block_rules l b) ≡ (6, 0) ∷ []
unfolding tabled block_rules
block_order l b = refl

module _ (l : AreaLayout) (b : Block) where
  -- by a layout alone a block has a span exactly where it is present, and then its own
  block_here : (s : Span) → (block_of l b ≡ gives s) ↔ ((block_present l b ≡ true) × (s ≡ span (block_start l b) (block_length l b)))
  unfolding block_of block_rules
  block_here s =
      let x = value_exactly (block_rules l b) (span (block_start l b) (block_length l b)) s in
      (λ e. ((x.0 e).0.0, (x.0 e).1), λ h. x.1 (also h.0 tt, h.1))

  -- it has bytes, and is inside the file
  pub block_bounds : AreaFits l → (s : Span) → block_of l b ≡ gives s → (1 ≤ s.length) × (s.start + s.length ≤ l.length)
  block_bounds fits s e =
      let (here, same) = (block_here s).0 e in
      let (some, inside) = block_inside l fits b here in
      subst (λ (x : Span). (1 ≤ x.length) × (x.start + x.length ≤ l.length)) (sym same) (omega arith, omega arith)

-- ---- the blocks of a file

-- the span is that of a block of a file: the layout is an AREA layout that opening the file gives, the block is present, and the span is from its start on as long as
-- it is
pub record IsBlockSpan (f : List ℕ) (l : Layout) (b : Block) (s : Span) : Type 0 where
  pub area : AreaLayout
  pub layout : l ≡ Area area
  pub opens : open_area f ≡ gives area
  pub present : block_present area b ≡ true
  pub same : s ≡ span (block_start area b) (block_length area b)

-- a span of a block is given exactly where it is that
pub block_exactly : (f : List ℕ) (l : Layout) (b : Block) (s : Span) → (block_span f l b ≡ gives s) ↔ IsBlockSpan f l b s
block_exactly f l b s =
    let y = area_then f l (λ a. block_of a b) s in (
      λ e.
          let (a, (layout, opens), given) = y.0 e in
          let (here, same) = (block_here a b s).0 given in
          record { area = a; layout = layout; opens = opens; present = here; same = same },
      λ x. y.1 (x.area, (x.layout, x.opens), (block_here x.area b s).1 (x.present, x.same)),
    )

-- a span that is given is inside, where every one that may be given is
inside-given : (f : List ℕ) (x : Answer Span) → ((s : Span) → x ≡ gives s → s.start + s.length ≤ length f) → Inside f x
inside-given f (gives s) h = h s refl
inside-given f (refuses n p) h = tt

-- so are those that an accepted AREA file gives
pub found-inside : (f : List ℕ) (l : Layout) (own : AreaLayout → Answer Span)
    → ((a : AreaLayout) → AreaFits a → (s : Span) → own a ≡ gives s → s.start + s.length ≤ a.length) → Inside f (and_then (area_of f l) own)
found-inside f l own h =
    inside-given f (and_then (area_of f l) own)
    (λ s e.
    let (a, found, given) = (then_gives own (area_of f l) s).0 e in
    let of : AreaOf f a = area_known f l a found in
    omega (arith, h a of.fits s given, of.size))

-- a block that is handed back is inside the file
pub block_in_file : (f : List ℕ) (l : Layout) (b : Block) → Inside f (block_span f l b)
block_in_file f l b = found-inside f l (λ a. block_of a b) (λ a fits s e. (block_bounds a b fits s e).1)

-- ---- stale layouts

-- a block is refused with 9 exactly where the layout is stale
pub block_stale : (f : List ℕ) (l : Layout) (b : Block) → (block_span f l b ≡ refuses 9 0) ↔ (¬ Fresh f l)
unfolding block_of block_rules
block_stale f l b = area_nine f l (λ a. block_of a b) (λ a. never_refused (block_rules a b) _ 9 0 (λ e. omega (arith, e), tt))
