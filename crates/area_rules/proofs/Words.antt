-- The rules of an AREA file hold exactly where the file is accepted, one line a rule and direction.
-- Assumes nothing.
use mathlib.Core.Path.{◌≡◌}
use mathlib.Core.Bool.{Bool, true, not}
use mathlib.Core.Logic.{◌⊎◌, ◌↔◌}
use mathlib.Core.List.{List}
use Prim.Native.Nat.{ℕ, ◌%◌, ◌≤◌}
use lib.Dec.{leb, eqb}
use lib.ListN.{length}
use Rattle.endian_rules.specs.Words.{word_at, at_least, AtLeast}
use Rattle.endian_rules.specs.declared.Order.TheVariants.{Big, Little}
use Rattle.endian_rules.proofs.Signs.{at_least_lem}
use Rattle.lists.specs.Choices.{both, either}
use Rattle.refusal_rules.specs.Rules.{Hold}
use Rattle.refusal_rules.specs.Tests.{Exactly}
use Rattle.refusal_rules.proofs.Tables.{hold-append, also}
use Rattle.refusal_rules.proofs.Exactness.{le_exactly, lt_exactly, eq_exactly, not_exactly, iff_exactly, true_exactly, both_exactly, either_exactly}
use Rattle.area_rules.specs.Rules.{directory_of, word_in, reads_four, area_order, multiple_of_four, prefix_length_of, line_length_of, audit_end_of, block_start_fits, area_count_rules, area_shape_rules, area_place_rules, area_described_rules, area_word_rules, area_rules}
use Rattle.area_rules.specs.Accepts.{BlockStartFits, AcceptsAreaWords, AcceptsArea}
use Rattle.area_rules.proofs.Counts.{AreaCounted, counts_exactly}

-- ---- what each test says

multiple_exactly : (n : ℕ) → Exactly (multiple_of_four n) (n % 4 ≡ 0)
multiple_exactly n = eq_exactly (n % 4) 0

unequal_exactly : (a b : ℕ) → Exactly (not (eqb a b)) (¬ (a ≡ b))
unequal_exactly a b = not_exactly (eq_exactly a b)

at_least_exactly : (low n : ℕ) → Exactly (at_least low n) (AtLeast low n)
at_least_exactly low n = iff_exactly (at_least_lem low n)

start_exactly : (told : ℕ) (W : ℕ → ℕ) (x : ℕ) {unequal : Bool} {Unequal : Type 0} → Exactly unequal Unequal
    → Exactly (block_start_fits told W x unequal) (BlockStartFits told (W 34) (audit_end_of W) x Unequal)
start_exactly told W x u =
    either_exactly (eq_exactly x 0)
    (both_exactly (at_least_exactly 256 x)
    (both_exactly (lt_exactly x told) (both_exactly (either_exactly (lt_exactly x (W 34)) (le_exactly (audit_end_of W) x)) u)))

-- ---- the table

module _ (told : ℕ) (W : ℕ → ℕ) where
  data_exactly : Exactly (both (at_least 256 (W 34)) (leb (audit_end_of W) told)) (AtLeast 256 (W 34) × (audit_end_of W ≤ told))
  data_exactly = both_exactly (at_least_exactly 256 (W 34)) (le_exactly (audit_end_of W) told)

  entries_exactly : Exactly (either (not (eqb (W 60) 0)) (eqb (W 61) 0)) ((¬ (W 60 ≡ 0)) ⊎ (W 61 ≡ 0))
  entries_exactly = either_exactly (unequal_exactly (W 60) 0) (eq_exactly (W 61) 0)

  nav_exactly : Exactly (block_start_fits told W (W 35) true) (BlockStartFits told (W 34) (audit_end_of W) (W 35) (Unit {0}))
  nav_exactly = start_exactly told W (W 35) (true_exactly tt)

  cal_exactly : Exactly (block_start_fits told W (W 63) (not (eqb (W 63) (W 35)))) (BlockStartFits told (W 34) (audit_end_of W) (W 63) (¬ (W 63 ≡ W 35)))
  cal_exactly = start_exactly told W (W 63) (unequal_exactly (W 63) (W 35))

  aux_exactly : Exactly (block_start_fits told W (W 60) (both (not (eqb (W 60) (W 35))) (not (eqb (W 60) (W 63)))))
      (BlockStartFits told (W 34) (audit_end_of W) (W 60) ((¬ (W 60 ≡ W 35)) × (¬ (W 60 ≡ W 63))))
  aux_exactly = start_exactly told W (W 60) (both_exactly (unequal_exactly (W 60) (W 35)) (unequal_exactly (W 60) (W 63)))

  hold_shapes_places : AreaCounted W → Hold (area_shape_rules W) → Hold (area_place_rules told W) → AcceptsAreaWords told W
  unfolding area_shape_rules area_place_rules
  hold_shapes_places k shape place =
      record {
        w9 = k.w9;
        w10 = k.w10;
        w11 = k.w11;
        w14 = k.w14;
        w49 = k.w49;
        w50 = k.w50;
        w51 = k.w51;
        w61 = k.w61;
        w64 = k.w64;
        w15 = (eq_exactly (W 15) (prefix_length_of W)).sound shape.0;
        line = (multiple_exactly (line_length_of W)).sound shape.1.0;
        entries = entries_exactly.sound shape.1.1.0;
        w34 = data_exactly.sound place.0;
        w35 = nav_exactly.sound place.1.0;
        w63 = cal_exactly.sound place.1.1.0;
        w60 = aux_exactly.sound place.1.1.1.0;
      }

  accepts_counts : AcceptsAreaWords told W → Hold (area_count_rules W)
  accepts_counts a =
      (counts_exactly W).1
      (record { w9 = a.w9; w10 = a.w10; w11 = a.w11; w14 = a.w14; w49 = a.w49; w50 = a.w50; w51 = a.w51; w61 = a.w61; w64 = a.w64 })

  accepts_shapes : AcceptsAreaWords told W → Hold (area_shape_rules W)
  unfolding area_shape_rules
  accepts_shapes a =
      also ((eq_exactly (W 15) (prefix_length_of W)).complete a.w15)
      (also ((multiple_exactly (line_length_of W)).complete a.line)
      (also (entries_exactly.complete a.entries)
      tt))

  accepts_places : AcceptsAreaWords told W → Hold (area_place_rules told W)
  unfolding area_place_rules
  accepts_places a =
      also (data_exactly.complete a.w34)
      (also (nav_exactly.complete a.w35)
      (also (cal_exactly.complete a.w63)
      (also (aux_exactly.complete a.w60)
      tt)))

  -- the rules of the words hold exactly where the words are accepted
  pub words_exactly : Hold (area_word_rules told W) ↔ AcceptsAreaWords told W
  unfolding area_word_rules area_described_rules
  words_exactly =
      let all = hold-append (area_described_rules W) (area_place_rules told W) in
      let described = hold-append (area_count_rules W) (area_shape_rules W) in (
        λ h.
            let d = described.0 (all.0 h).0 in
            hold_shapes_places ((counts_exactly W).0 d.0) d.1 (all.0 h).1,
        λ a. all.1 (described.1 (accepts_counts a, accepts_shapes a), accepts_places a),
      )

-- ---- the whole table

two_exactly : (d : List ℕ) → Exactly (either (reads_four Big d) (reads_four Little d)) ((word_at Big d 1 ≡ 4) ⊎ (word_at Little d 1 ≡ 4))
two_exactly d = either_exactly (eq_exactly (word_at Big d 1) 4) (eq_exactly (word_at Little d 1) 4)

-- all rules hold exactly where they are accepted
pub area_rules_exactly : (told : ℕ) (d : List ℕ) → Hold (area_rules told d) ↔ AcceptsArea told d
unfolding area_rules
area_rules_exactly told d =
    let x = words_exactly told (word_in (directory_of (area_order d) d)) in (
      λ h.
          record {
            long = (le_exactly 256 told).sound h.0;
            directory = (le_exactly 256 (length d)).sound h.1.0;
            w2 = (two_exactly d).sound h.1.1.0;
            words = x.0 h.1.1.1;
          },
      λ a. (
        (le_exactly 256 told).complete a.long,
        ((le_exactly 256 (length d)).complete a.directory, ((two_exactly d).complete a.w2, x.1 a.words)),
      ),
    )
