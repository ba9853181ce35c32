-- What is known of the layout of an accepted AREA file. Everything above rests on this, and not on the table of rules.
-- Assumes nothing.
use mathlib.Core.Path.{◌≡◌, refl, sym, subst, ap}
use mathlib.Core.Bool.{Bool, true, false}
use mathlib.Core.Logic.{◌⊎◌, ⊎_elim}
use mathlib.Core.List.{List}
use Prim.Native.Nat.{ℕ, ◌≤◌, ◌<◌}
use native.Mathlib.Omega.{arith}
use lib.ListN.{length}
use borrow.Author.Tests.{le-leb, eqb-true, eqb-false}
use Rattle.lists.specs.Choices.{pick}
use Rattle.endian_rules.specs.Words.{word_at}
use Rattle.endian_rules.specs.declared.Order.{Order}
use Rattle.endian_rules.specs.declared.Order.TheVariants.{Big, Little}
use Rattle.endian_rules.proofs.Places.{one_order}
use Rattle.endian_rules.proofs.Signs.{signed_at_least}
use Rattle.refusal_rules.specs.Answers.{gives}
use Rattle.area_rules.specs.Rules.{directory_of, word_in, reads_four, area_order, audit_end_of}
use Rattle.area_rules.specs.Opening.{area_layout_of, open_area_told, open_area}
use Rattle.area_rules.specs.Accepts.{BlockStartFits, AcceptsAreaWords}
use Rattle.area_rules.specs.Samples.{IsBlockStart, AreaFits, AreaOf}
use Rattle.area_rules.specs.declared.AreaLayout.{AreaLayout}
use Rattle.area_rules.proofs.Acceptance.{told_exactly, area_exactly}

-- a block that is not absent starts where its rule asks
module _ (told start end x : ℕ) {Unequal : Type 0} (h : BlockStartFits told start end x Unequal) (there : ¬ (x ≡ 0)) where
  start_at : (256 ≤ x) × ((x < 2147483648) × ((x < told) × ((x < start) ⊎ (end ≤ x))))
  start_at =
      ⊎_elim (λ e. absurd (there e)) (λ p. let s = (signed_at_least 256 x).0 p.0 in (s.0, (s.1, (p.1.0, p.1.1.0)))) h

  start_unequal : Unequal
  start_unequal = ⊎_elim (λ e. absurd (there e)) (λ p. p.1.1.1) h

-- the layout of words that are accepted
pub words_fit : (told : ℕ) (o : Order) (W : ℕ → ℕ) → AcceptsAreaWords told W → AreaFits (area_layout_of o told W)
unfolding area_layout_of
words_fit told o W a =
    let data_start = (signed_at_least 256 (W 34)).0 a.w34.0 in
    record {
      lines_from = a.w9.0;
      lines_to = a.w9.1;
      elements_from = a.w10.0;
      elements_to = a.w10.1;
      width = a.w11;
      bands_from = a.w14.0;
      bands_to = a.w14.1;
      documentation_to = a.w49.1;
      calibration_to = a.w50.1;
      band_list_to = a.w51.1;
      cards_to = a.w64.1;
      prefix = a.w15;
      padding = refl;
      line_four = a.line;
      second_map = λ h. ap (λ t. pick t 0 (W 20)) (le-leb (W 14) 32 h);
      data_start_from = data_start.0;
      data_start_signed = data_start.1;
      room = a.w34.1;
      nav = λ there. starts (W 35) (start_at told (W 34) (audit_end_of W) (W 35) a.w35 there);
      cal = λ there. starts (W 63) (start_at told (W 34) (audit_end_of W) (W 63) a.w63 there);
      aux = λ there. starts (W 60) (start_at told (W 34) (audit_end_of W) (W 60) a.w60 there);
      cal_nav = λ there. start_unequal told (W 34) (audit_end_of W) (W 63) a.w63 there;
      aux_nav = λ there. (start_unequal told (W 34) (audit_end_of W) (W 60) a.w60 there).0;
      aux_cal = λ there. (start_unequal told (W 34) (audit_end_of W) (W 60) a.w60 there).1;
    }
  where
    starts : (x : ℕ) → (256 ≤ x) × ((x < 2147483648) × ((x < told) × ((x < W 34) ⊎ (audit_end_of W ≤ x)))) → IsBlockStart (area_layout_of o told W) x
    starts x p = record { from = p.0; signed = p.1.0; to = p.1.1.0; outside = p.1.1.1 }

-- a layout that opening a file of `told` bytes gives
pub told_of : (told : ℕ) (d : List ℕ) (l : AreaLayout) → open_area_told told d ≡ gives l → AreaFits l × ((l.order ≡ area_order d) × (l.length ≡ told))
unfolding area_layout_of
told_of told d l e =
    let x = (told_exactly told d l).0 e in
    let W : ℕ → ℕ = word_in (directory_of (area_order d) d) in (
      subst AreaFits (sym x.1) (words_fit told (area_order d) W x.0.words),
      (ap (λ (m : AreaLayout). m.order) x.1, ap (λ (m : AreaLayout). m.length) x.1),
    )

-- the layout of a file that is opened
pub area_of_lem : (f : List ℕ) (l : AreaLayout) → open_area f ≡ gives l → AreaOf f l
unfolding open_area
area_of_lem f l e = let x = told_of (length f) f l e in record { order = x.1.0; size = x.1.1; fits = x.0 }

-- word 2 reads 4 in one order only
pub one_order-reads_four : (d : List ℕ) → 256 ≤ length d → word_at Big d 1 ≡ 4 → word_at Little d 1 ≡ 4 → ⊥
one_order-reads_four d h big little = one_order d 1 4 4 (omega arith) big little (omega arith) (omega arith) (omega arith)

-- and that is the order of the layout
pub area-reads_four : (f : List ℕ) (l : AreaLayout) → open_area f ≡ gives l → word_at l.order f 1 ≡ 4
area-reads_four f l e =
    rw (area_of_lem f l e).order (step (reads_four Big f) refl ((area_exactly f l).0 e).0.w2)
  where
    step : (t : Bool) → reads_four Big f ≡ t → (word_at Big f 1 ≡ 4) ⊎ (word_at Little f 1 ≡ 4) → word_at (area_order f) f 1 ≡ 4
    step true r w = rw r (eqb-true (word_at Big f 1) 4 r)
    step false r w = rw r (⊎_elim (λ h. absurd (eqb-false (word_at Big f 1) 4 r h)) (λ h. h) w)
