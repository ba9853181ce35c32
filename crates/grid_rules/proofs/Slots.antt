-- Laws of the checks before the slots and of the slots, over any words. The loops over slots rest on these: a table of slots is the table of one
-- slot less, and then of the last slot.
-- Assumes nothing.
use mathlib.Core.Path.{◌≡◌, refl, sym, ap, subst, ◌∙◌}
use mathlib.Core.Bool.{Bool, true, false, not, false≢true}
use mathlib.Core.Logic.{◌⊎◌, inl, inr, ⊎_elim, ◌↔◌}
use mathlib.Core.List.{[], ◌∷◌, ◌++◌}
use Prim.Native.Nat.{ℕ, zero, suc, ◌+◌, ◌-◌, ◌*◌, ◌/◌, ◌^◌, ◌≤◌, ◌<◌}
use native.Mathlib.Nat.{eq-or-lt_of_le, le_of_suc-le-suc}
use native.Mathlib.Decide.{dec_lt, le_ind}
use native.Mathlib.Omega.{arith}
use borrow.Author.Tests.{leb-true, le-leb, ltb-true, lt-ltb, eqb-true, eq-eqb, eqb-false, ne_eqb}
use Rattle.endian_rules.proofs.Signs.{at_least_lem, signed_at_least}
use Rattle.lists.specs.Choices.{either}
use Rattle.lists.proofs.Choices.{true_either}
use Rattle.refusal_rules.specs.Rules.{judge, first, first_fault, tabled, Hold, Refused, Verdict, Pass, Fault}
use Rattle.refusal_rules.specs.Tests.{Exactly}
use Rattle.refusal_rules.proofs.Exactness.{lt_exactly, eq_exactly, not_exactly, true_exactly, both_exactly, within_exactly}
use Rattle.refusal_rules.proofs.Tables.{first_pass, both_pass, pass_both, pass_hold, hold_pass, joined_faults, joined, also}
use Rattle.grid_rules.specs.Rules.{next_free, empty_slot, is_empty_slot, grid_end, grid_head_rules, meets, shares, header_rules, size_rules, own_rules, overlap_rule, slot_rules, slots_rules, wanted_rules}
use Rattle.grid_rules.specs.Accepts.{FullSlot, AcceptsGridHead, GridRoom, AcceptsGridSlot}

-- what holds of every number below m and of m holds of every number below m + 1
pub below_more : {P : ℕ → Type 0} (m : ℕ) → ((k : ℕ) → k < m → P k) → P m → (k : ℕ) → k < suc m → P k
below_more {P} m before here k l = ⊎_elim (λ e. subst P (sym e) here) (λ lt. before k lt) (eq-or-lt_of_le (le_of_suc-le-suc l))

-- the slot of a grid's number, which is counted from 1
pub number-slot : (number : ℕ) → 1 ≤ number → 11 + (number - 1) ≡ 10 + number
number-slot number l = omega arith

-- ---- the order of the checks

-- Document 01's order, numbers and places, of the checks before the slots: length; n; room; the next free word.
pub head-order : (len : ℕ) (w : ℕ → ℕ) → tabled (grid_head_rules len w) ≡ (1, 0) ∷ (3, 10) ∷ (5, 10) ∷ (5, 11 + w 10) ∷ (5, 11 + w 10) ∷ []
unfolding tabled grid_head_rules
head-order len w = refl

-- Of a grid: offset; rows; columns; size; end; overlap. Slot k is that of grid k + 1, and 11 + k is 10 + its number.
pub grid-order : (w : ℕ → ℕ) (n next k : ℕ) → tabled (own_rules w n next k ++ overlap_rule w k ∷ [])
    ≡ (5, 11 + k) ∷ (5, 11 + k)
    ∷ (3, w (11 + k) + 1) ∷ (3, w (11 + k) + 2) ∷ (4, w (11 + k)) ∷ (4, w (11 + k))
    ∷ (5, 11 + k) ∷ (5, 11 + k) ∷ []
unfolding tabled own_rules header_rules size_rules overlap_rule
grid-order w n next k = refl

-- Last, the wanted number, then an empty slot.
pub wanted-order : (w : ℕ → ℕ) (number : ℕ) → tabled (wanted_rules w number) ≡ (7, 0) ∷ (6, 0) ∷ []
unfolding tabled wanted_rules
wanted-order w number = refl

-- ---- the checks before the slots

-- they hold exactly where the head of the file is accepted
pub head_exactly : (len : ℕ) (w : ℕ → ℕ) → Hold (grid_head_rules len w) ↔ AcceptsGridHead len w
unfolding grid_head_rules
head_exactly len w = (
  λ h.
      record {
        long = leb-true 44 len h.0;
        grids = (within_exactly 1 1024 (w 10)).sound h.1.0;
        room = leb-true (12 + w 10) (len / 4) h.1.1.0;
        next_from = (at_least_lem (12 + w 10) (next_free w)).0 h.1.1.1.0;
        next_to = leb-true (next_free w) (len / 4) h.1.1.1.1.0;
      },
  λ a.
      also (le-leb 44 len a.long)
      (also ((within_exactly 1 1024 (w 10)).complete a.grids)
      (also (le-leb (12 + w 10) (len / 4) a.room)
      (also ((at_least_lem (12 + w 10) (next_free w)).1 a.next_from)
      (also (le-leb (next_free w) (len / 4) a.next_to)
      tt)))),
)

-- what an accepted head gives
pub accepted_room : (len : ℕ) (w : ℕ → ℕ) → AcceptsGridHead len w → GridRoom len (w 10) (next_free w)
accepted_room len w a =
    let next : (12 + w 10 ≤ next_free w) × (next_free w < 2 ^ 31) = (signed_at_least (12 + w 10) (next_free w)).0 a.next_from in
    record {
      some = a.grids.0;
      few = a.grids.1;
      after = next.0;
      whole = omega (arith, a.next_to);
      small = next.1;
    }

-- where the checks pass
pub head-room : (len : ℕ) (w : ℕ → ℕ) → first_fault (grid_head_rules len w) ≡ Pass → GridRoom len (w 10) (next_free w)
head-room len w e = accepted_room len w ((head_exactly len w).0 (pass_hold (grid_head_rules len w) e))

-- ---- words that two grids share

-- slot j has no word from `low` up to `high`: it is empty, or its grid ends before or begins after
abbrev pub Misses : (ℕ → ℕ) → ℕ → ℕ → ℕ → Type 0
Misses w low high j = FullSlot w j → (grid_end w (w (11 + j)) ≤ low) ⊎ (high ≤ w (11 + j))

-- two tests that both fail
neither_exactly : (a b : Bool) {P Q : Type 0} → Exactly (not a) P → Exactly (not b) Q → Exactly (not (either a b)) (P × Q)
neither_exactly true b x y = record { sound = λ e. absurd (false≢true e); complete = λ h. x.complete h.0 }
neither_exactly false b x y = record { sound = λ e. (x.sound refl, y.sound e); complete = λ h. y.complete h.1 }

-- one of two comparisons fails
one_fails : (a b c d : ℕ) → ¬ ((a < b) × (c < d)) → (b ≤ a) ⊎ (d ≤ c)
one_fails a b c d h = step (dec_lt a b)
  where
    not_below : ¬ (c < d) → d ≤ c
    not_below ge = omega arith

    step : Dec (a < b) → (b ≤ a) ⊎ (d ≤ c)
    step (yes lt) = inr (not_below (λ x. h (lt, x)))
    step (no ge) = inl (omega arith)

module _ (w : ℕ → ℕ) (low high : ℕ) where
  -- what the test of one slot says
  pub meets_exactly : (j : ℕ) → Exactly (meets w low high j) (FullSlot w j × ((low < grid_end w (w (11 + j))) × (w (11 + j) < high)))
  unfolding meets
  meets_exactly j =
      both_exactly (not_exactly (eq_exactly (w (11 + j)) empty_slot))
      (both_exactly (lt_exactly low (grid_end w (w (11 + j)))) (lt_exactly (w (11 + j)) high))

  -- and where it fails
  pub misses_exactly : (j : ℕ) → Exactly (not (meets w low high j)) (Misses w low high j)
  misses_exactly j =
      let x = not_exactly (meets_exactly j) in
      record {
        sound = λ e full. one_fails low (grid_end w (w (11 + j))) (w (11 + j)) high (λ h. x.sound e (full, h));
        complete = λ m. x.complete (λ h. ⊎_elim (λ p. omega (arith, p, h.1.0)) (λ p. omega (arith, p, h.1.1)) (m h.0));
      }

  -- none of the first k slots has such a word
  pub unshared_exactly : (k : ℕ) → Exactly (not (shares w low high k)) ((j : ℕ) → j < k → Misses w low high j)
  unfolding shares
  unshared_exactly zero = true_exactly (λ j l. let z : ⊥ = omega arith in absurd z)
  unshared_exactly (suc k) =
      let x = neither_exactly (shares w low high k) (meets w low high k) (unshared_exactly k) (misses_exactly k) in
      record {
        sound = λ e. below_more k (x.sound e).0 (x.sound e).1;
        complete = λ h. x.complete (λ j l. h j (omega arith), h k (omega arith));
      }

  -- a slot that has one still does among more slots
  pub shares_stays : (k m : ℕ) → k ≤ m → shares w low high k ≡ true → shares w low high m ≡ true
  unfolding shares
  shares_stays k m l e = le_ind (λ (i : ℕ). shares w low high i ≡ true) e (λ i h p. rw p) m l

  -- so that one slot is enough
  pub shares_at : (j k : ℕ) → j < k → meets w low high j ≡ true → shares w low high k ≡ true
  unfolding shares
  shares_at j k l e = shares_stays (suc j) k l (true_either (shares w low high j) (meets w low high j) (inr e))

-- ---- the checks of slots

module _ (w : ℕ → ℕ) (n next : ℕ) where
  -- one slot more
  pub slots_more : (k : ℕ) → first_fault (slots_rules w n next (suc k)) ≡ first (first_fault (slots_rules w n next k)) (first_fault (slot_rules w n next k))
  unfolding slots_rules
  slots_more k = joined_faults (slots_rules w n next k) (slot_rules w n next k)

  -- slots pass together exactly where they pass one by one
  pub each_passes : (m : ℕ) → (first_fault (slots_rules w n next m) ≡ Pass) ↔ ((k : ℕ) → k < m → first_fault (slot_rules w n next k) ≡ Pass)
  unfolding slots_rules first_fault
  each_passes zero = (λ e k l. let z : ⊥ = omega arith in absurd z, λ h. refl)
  each_passes (suc m) = (
    λ e.
        let p = both_pass (first_fault (slots_rules w n next m)) (first_fault (slot_rules w n next m)) (sym (slots_more m) ∙ e) in
        below_more m ((each_passes m).0 p.0) p.1,
    λ h.
        let before : first_fault (slots_rules w n next m) ≡ Pass = (each_passes m).1 (λ k l. h k (omega arith)) in
        slots_more m ∙ pass_both (first_fault (slots_rules w n next m)) (first_fault (slot_rules w n next m)) before (h m (omega arith)),
  )

  -- a fault stays when slots are added
  pub fault_stays : (k m : ℕ) (r : Refused) → k ≤ m → first_fault (slots_rules w n next k) ≡ Fault r → first_fault (slots_rules w n next m) ≡ Fault r
  unfolding first
  fault_stays k m r l e = le_ind (λ (i : ℕ). first_fault (slots_rules w n next i) ≡ Fault r) e (λ i h p. slots_more i ∙ rw p) m l

  -- so that the fault of the first slot that has one is the fault of them all
  pub fault_at : (k m : ℕ) (r : Refused) → k < m → first_fault (slots_rules w n next k) ≡ Pass → first_fault (slot_rules w n next k) ≡ Fault r
      → first_fault (slots_rules w n next m) ≡ Fault r
  unfolding first
  fault_at k m r l before here = fault_stays (suc k) m r l (slots_more k ∙ rw (before, here))

  -- an empty slot has no checks
  pub empty_slot_lem : (k : ℕ) → w (11 + k) ≡ empty_slot → slot_rules w n next k ≡ []
  unfolding slot_rules
  empty_slot_lem k e = rw (eq-eqb (w (11 + k)) empty_slot e)

  -- a slot with a grid has those of the grid, and the one of overlap
  pub full-slot : (k : ℕ) → FullSlot w k → slot_rules w n next k ≡ own_rules w n next k ++ overlap_rule w k ∷ []
  unfolding slot_rules
  full-slot k h = rw (ne_eqb (w (11 + k)) empty_slot h)

  -- what they say, where its own checks come to a verdict
  pub full_verdict : (k : ℕ) → FullSlot w k → (v : Verdict) → first_fault (own_rules w n next k) ≡ v
      → first_fault (slot_rules w n next k) ≡ first v (judge (overlap_rule w k))
  unfolding first_fault
  full_verdict k full v e =
      ap first_fault (full-slot k full)
      ∙ joined (own_rules w n next k) (overlap_rule w k ∷ []) v e
      ∙ ap (first v) (first_pass (judge (overlap_rule w k)))

  -- where the checks of a header's place pass, its 64 words end by the next free word
  pub header-end : (k : ℕ) → first_fault (header_rules w n next k) ≡ Pass → w (11 + k) + 64 ≤ next
  unfolding header_rules
  header-end k e = leb-true (w (11 + k) + 64) next (pass_hold (header_rules w n next k) e).1.0

  -- where a grid's own checks pass, it ends by the next free word
  pub own_end : (k : ℕ) → first_fault (own_rules w n next k) ≡ Pass → grid_end w (w (11 + k)) ≤ next
  unfolding own_rules header_rules size_rules
  own_end k e = leb-true (grid_end w (w (11 + k))) next (pass_hold (own_rules w n next k) e).1.1.1.1.1.1.0

  -- the checks of a slot with a grid hold exactly where the grid is accepted
  full_exactly : (k : ℕ) → Hold (own_rules w n next k ++ overlap_rule w k ∷ []) ↔ AcceptsGridSlot w n next k
  unfolding own_rules header_rules size_rules overlap_rule
  full_exactly k = (
    λ h.
        record {
          offset = (at_least_lem (12 + n) (w (11 + k))).0 h.0;
          header = leb-true (w (11 + k) + 64) next h.1.0;
          rows = (within_exactly 1 65535 (w (w (11 + k) + 1))).sound h.1.1.0;
          columns = (within_exactly 1 65535 (w (w (11 + k) + 2))).sound h.1.1.1.0;
          signed = ltb-true (w (w (11 + k))) 2147483648 h.1.1.1.1.0;
          size = eqb-true (w (w (11 + k))) (w (w (11 + k) + 1) * w (w (11 + k) + 2)) h.1.1.1.1.1.0;
          end = leb-true (grid_end w (w (11 + k))) next h.1.1.1.1.1.1.0;
          apart = (unshared_exactly w (w (11 + k)) (grid_end w (w (11 + k))) k).sound h.1.1.1.1.1.1.1.0;
        },
    λ a.
        also ((at_least_lem (12 + n) (w (11 + k))).1 a.offset)
        (also (le-leb (w (11 + k) + 64) next a.header)
        (also ((within_exactly 1 65535 (w (w (11 + k) + 1))).complete a.rows)
        (also ((within_exactly 1 65535 (w (w (11 + k) + 2))).complete a.columns)
        (also (lt-ltb (w (w (11 + k))) 2147483648 a.signed)
        (also (eq-eqb (w (w (11 + k))) (w (w (11 + k) + 1) * w (w (11 + k) + 2)) a.size)
        (also (le-leb (grid_end w (w (11 + k))) next a.end)
        (also ((unshared_exactly w (w (11 + k)) (grid_end w (w (11 + k))) k).complete a.apart)
        tt))))))),
  )

  -- the checks of a slot hold exactly where its grid, if it has one, is accepted
  pub slot_exactly : (k : ℕ) → (first_fault (slot_rules w n next k) ≡ Pass) ↔ (FullSlot w k → AcceptsGridSlot w n next k)
  slot_exactly k = (
    λ e full. (full_exactly k).0 (pass_hold (own_rules w n next k ++ overlap_rule w k ∷ []) (ap first_fault (sym (full-slot k full)) ∙ e)),
    λ h. step (is_empty_slot w k) refl h,
  )
    where
      step : (t : Bool) → is_empty_slot w k ≡ t → (FullSlot w k → AcceptsGridSlot w n next k) → first_fault (slot_rules w n next k) ≡ Pass
      step true e h = ap first_fault (empty_slot_lem k (eqb-true (w (11 + k)) empty_slot e)) ∙ hold_pass [] tt
      step false e h =
          let full : FullSlot w k = eqb-false (w (11 + k)) empty_slot e in
          ap first_fault (full-slot k full) ∙ hold_pass (own_rules w n next k ++ overlap_rule w k ∷ []) ((full_exactly k).1 (h full))

  -- those of the first m slots, where each grid is
  pub slots_exactly : (m : ℕ) → (first_fault (slots_rules w n next m) ≡ Pass) ↔ ((k : ℕ) → k < m → FullSlot w k → AcceptsGridSlot w n next k)
  slots_exactly m = (
    λ e k l. (slot_exactly k).0 ((each_passes m).0 e k l),
    λ h. (each_passes m).1 (λ k l. (slot_exactly k).1 (h k l)),
  )
