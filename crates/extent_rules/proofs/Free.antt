-- Laws of free words, of the words at which a free stretch starts, and of the run of free words from a word on, over any words of a file; and what an
-- accepted file gives of them.
-- Assumes nothing.
use mathlib.Core.Path.{◌≡◌, refl, sym, ap, ◌∙◌}
use mathlib.Core.Bool.{Bool, true, false, not, false≢true}
use mathlib.Core.Logic.{◌⊎◌, inl, inr, ⊎_elim}
use mathlib.Core.List.{List, [], ◌∷◌}
use Prim.Native.Nat.{ℕ, zero, suc, ◌+◌, ◌-◌, ◌/◌, ◌≤◌, ◌<◌}
use native.Mathlib.Decide.{dec_lt}
use native.Mathlib.Omega.{arith}
use borrow.Author.Tests.{not-true, not-false}
use lib.ListN.{length}
use Rattle.endian_rules.specs.Words.{word_at}
use Rattle.endian_rules.specs.declared.Order.{Order}
use Rattle.lists.specs.Lowest.{IsLowest}
use Rattle.lists.proofs.Choices.{either_true}
use Rattle.lists.proofs.Lowest.{lowest_is}
use Rattle.refusal_rules.specs.Tests.{Exactly}
use Rattle.refusal_rules.proofs.Exactness.{eq_exactly, not_exactly, both_exactly, either_exactly}
use Rattle.grid_rules.specs.Rules.{grid_end, meets, shares}
use Rattle.grid_rules.specs.Accepts.{FullSlot, AcceptsGridFile}
use Rattle.grid_rules.proofs.Slots.{Misses, meets_exactly, unshared_exactly}
use Rattle.grid_rules.proofs.Acceptance.{file_passes}
use Rattle.extent_rules.specs.Stretches.{extent, extent_end, no_grid_has, is_free, first_word, lowest_taken, stretch_starts, run_from, stretch_at}
use Rattle.extent_rules.specs.Steps.{GridAccepted}
use Rattle.extent_rules.specs.declared.Extent.{Extent}

-- what an accepted file gives
pub accepted_file : (o : Order) (f : List ℕ) → GridAccepted o f → AcceptsGridFile (length f) (word_at o f)
accepted_file o f a = (file_passes (length f) (word_at o f)).0 a

-- the words before 12 + n are inside it
pub directory-inside : (o : Order) (f : List ℕ) → GridAccepted o f → first_word (word_at o f) ≤ length f / 4
directory-inside o f a = (accepted_file o f a).head.room

-- ---- tests

-- a test that says exactly whether a statement holds, where it does not
pub fails : {t : Bool} {P : Type 0} → Exactly t P → ¬ P → t ≡ false
fails {t} x h = not-true t ((not_exactly x).complete h)

-- a test says exactly whether it is true, and the opposite test whether it is false
pub own_exactly : (t : Bool) → Exactly t (t ≡ true)
own_exactly t = record { sound = λ e. e; complete = λ e. e }

opposite_exactly : (t : Bool) → Exactly (not t) (t ≡ false)
opposite_exactly t = record { sound = not-true t; complete = λ e. ap not e }

-- ---- free words

-- slot k has a grid, and the grid has word p
pub record Has (w : ℕ → ℕ) (p k : ℕ) : Type 0 where
  pub slot : k < w 10
  pub full : FullSlot w k
  pub from : w (11 + k) ≤ p
  pub to : p < grid_end w (w (11 + k))

module _ (w : ℕ → ℕ) where
  -- no grid has a word from `low` up to `high` exactly where each slot misses them
  pub none_has_exactly : (low high : ℕ) → Exactly (no_grid_has w low high) ((k : ℕ) → k < w 10 → Misses w low high k)
  unfolding no_grid_has
  none_has_exactly low high = unshared_exactly w low high (w 10)

  -- where no grid has one of them, each is free
  pub free_word : (low high : ℕ) → no_grid_has w low high ≡ true → (p : ℕ) → low ≤ p → p < high → is_free w p ≡ true
  free_word low high e p from to =
      (none_has_exactly p (p + 1)).complete
      (λ k l full. ⊎_elim (λ x. inl (omega arith)) (λ x. inr (omega arith)) ((none_has_exactly low high).sound e k l full))

  -- and where there is one, and each is free, no grid has one of them
  pub words-free : (low high : ℕ) → low < high → ((p : ℕ) → low ≤ p → p < high → is_free w p ≡ true) → no_grid_has w low high ≡ true
  words-free low high some h =
      (none_has_exactly low high).complete
      (λ k l full. step (w (11 + k)) (grid_end w (w (11 + k))) (omega arith) (λ p from to. (none_has_exactly p (p + 1)).sound (h p from to) k l full))
    where
      step : (a b : ℕ) → a < b → ((p : ℕ) → low ≤ p → p < high → (b ≤ p) ⊎ (p + 1 ≤ a)) → (b ≤ low) ⊎ (high ≤ a)
      step a b grid g = cases (dec_lt low a) (dec_lt a high)
        where
          cases : Dec (low < a) → Dec (a < high) → (b ≤ low) ⊎ (high ≤ a)
          cases (yes l) (yes r) = ⊎_elim (λ x. inl (omega arith)) (λ x. inl (omega arith)) (g a (omega arith) r)
          cases (yes l) (no r) = inr (omega arith)
          cases (no l) r = ⊎_elim inl (λ x. inl (omega arith)) (g low (omega arith) some)

  -- one of the first k slots that has a word from `low` up to `high`
  shares-some : (low high k : ℕ) → shares w low high k ≡ true → (j : ℕ) × ((j < k) × (meets w low high j ≡ true))
  unfolding shares
  shares-some low high zero e = absurd (false≢true e)
  shares-some low high (suc k) e =
      ⊎_elim (λ x. let r = shares-some low high k x in (r.0, (omega (arith, r.1.0), r.1.1))) (λ x. (k, (omega arith, x)))
      (either_true (shares w low high k) (meets w low high k) e)

  -- a word that is not free is one of the grid of some slot
  pub taken_slot : (p : ℕ) → is_free w p ≡ false → (k : ℕ) × Has w p k
  unfolding no_grid_has
  taken_slot p e =
      let r = shares-some p (p + 1) (w 10) (not-false (shares w p (p + 1) (w 10)) e) in
      let m = (meets_exactly w p (p + 1) r.0).sound r.1.1 in
      (r.0, record { slot = r.1.0; full = m.0; from = omega (arith, m.1.1); to = m.1.0 })

  -- and a word of the grid of a slot is not free
  pub slot_taken : (p k : ℕ) → Has w p k → is_free w p ≡ false
  slot_taken p k h =
      fails (none_has_exactly p (p + 1))
      (λ none. ⊎_elim (λ x. omega (arith, x, h.to)) (λ x. omega (arith, x, h.from)) (none k h.slot h.full))

  -- ---- where a free stretch starts

  -- a free stretch starts at word p exactly where p is free, and is 12 + n or has a word before it that is not
  pub starts_exactly : (p : ℕ) → Exactly (stretch_starts w p) ((is_free w p ≡ true) × ((p ≡ first_word w) ⊎ (is_free w (p - 1) ≡ false)))
  unfolding stretch_starts
  starts_exactly p =
      both_exactly (own_exactly (is_free w p)) (either_exactly (eq_exactly p (first_word w)) (opposite_exactly (is_free w (p - 1))))

  -- none starts at a word that is not free
  pub taken_no_start : (p : ℕ) → is_free w p ≡ false → stretch_starts w p ≡ false
  taken_no_start p e = fails (starts_exactly p) (λ s. false≢true (sym e ∙ s.0))

  -- or behind a free word
  pub later_no_start : (p : ℕ) → first_word w < p → is_free w (p - 1) ≡ true → stretch_starts w p ≡ false
  later_no_start p l e = fails (starts_exactly p) (λ s. ⊎_elim (λ x. omega (arith, l, x)) (λ x. false≢true (sym x ∙ e)) s.1)

  module _ (whole : ℕ) where
    -- the free stretch that starts at a word at which one does
    pub stretch_one : (p : ℕ) → stretch_starts w p ≡ true → stretch_at w whole p ≡ run_from w whole p ∷ []
    unfolding stretch_at
    stretch_one p e = rw e

    -- and at another
    pub stretch_none : (p : ℕ) → stretch_starts w p ≡ false → stretch_at w whole p ≡ []
    unfolding stretch_at
    stretch_none p e = rw e

-- ---- the run of free words from a word on

-- that e is the words from s on, up to the lowest that a grid has or to the file's last whole word
pub record RunAt (w : ℕ → ℕ) (whole s : ℕ) (e : Extent) : Type 0 where
  pub start : e.start ≡ s
  pub to : extent_end e ≤ whole
  pub free : (q : ℕ) → e.start ≤ q → q < extent_end e → is_free w q ≡ true
  pub behind : extent_end e < whole → is_free w (extent_end e) ≡ false

-- what the run from a word on is
pub run_at : (w : ℕ → ℕ) (whole s : ℕ) → s ≤ whole → RunAt w whole s (run_from w whole s)
unfolding run_from
run_at w whole s l = step (lowest_taken w whole s) (lowest_is (λ q. not (is_free w q)) s (whole - s))
  where
    step : (t : ℕ) → IsLowest (λ q. not (is_free w q)) s (whole - s) t → RunAt w whole s (extent s (t - s))
    step t h =
        let e : s + (t - s) ≡ t = omega (arith, h.from) in
        record {
          start = refl;
          to = omega (arith, h.to);
          free = λ q from to. not-false (is_free w q) (h.none q from (omega (arith, e, to)));
          behind = λ lt. rw e (not-true (is_free w t) (h.holds (omega (arith, e, lt))));
        }

-- it has a word where its first word is inside the file and free
pub run_some : (w : ℕ → ℕ) (whole s : ℕ) (e : Extent) → RunAt w whole s e → s < whole → is_free w s ≡ true → 0 < e.length
run_some w whole s e r l free = step (dec_lt 0 e.length)
  where
    step : Dec (0 < e.length) → 0 < e.length
    step (yes h) = h
    step (no h) =
        let same : extent_end e ≡ s = omega (arith, r.start, h) in
        absurd (false≢true (sym (rw same at (r.behind (omega (arith, same, l)))) ∙ free))
