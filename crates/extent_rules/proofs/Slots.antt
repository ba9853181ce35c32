-- The grids of a file, slot by slot: what the functions compute that look at every slot.
-- Assumes nothing.
use mathlib.Core.Path.{◌≡◌, refl, sym, ap, subst, ◌∙◌}
use mathlib.Core.Bool.{Bool, true, false, not, false≢true}
use mathlib.Core.Logic.{◌⊎◌, inl, inr, ⊎_elim}
use mathlib.Core.List.{List}
use Prim.Native.Nat.{ℕ, zero, suc, ◌+◌, ◌-◌, ◌/◌, ◌≤◌, ◌<◌}
use native.Mathlib.Decide.{dec_lt}
use native.Mathlib.Numerals.{add-one}
use native.Mathlib.Omega.{arith}
use lib.Dec.{leb, ltb}
use lib.ListN.{length}
use borrow.Author.Tests.{leb-true, ltb-true, lt-ltb, le-ltb, le-leb, eqb-false, ne_eqb}
use Rattle.lists.specs.Choices.{pick, both}
use Rattle.lists.specs.Lowest.{IsLowest}
use Rattle.lists.proofs.Choices.{both_true, true_both}
use Rattle.lists.proofs.Lowest.{lowest_is, lowest_exactly}
use Rattle.endian_rules.specs.Words.{word_at}
use Rattle.endian_rules.specs.declared.Order.{Order}
use Rattle.grid_rules.specs.Rules.{empty_slot, is_empty_slot, grid_end, next_free}
use Rattle.grid_rules.specs.Accepts.{FullSlot, GridRoom, AcceptsGridSlot, AcceptsGridFile}
use Rattle.grid_rules.proofs.Slots.{below_more, accepted_room}
use Rattle.extent_rules.specs.Stretches.{extent, no_words, extent_end, slot_extent, highest_end, is_free, lowest_free, lowest_taken, run_from}
use Rattle.extent_rules.specs.Steps.{GridAccepted, SlotsInside, past_grid, next_grid, run_after}
use Rattle.extent_rules.specs.declared.Extent.{Extent}
use Rattle.extent_rules.proofs.Free.{accepted_file, Has, taken_slot, slot_taken}

-- ---- an accepted file

-- its grids are inside it
pub accepted_slots : (o : Order) (f : List ℕ) → GridAccepted o f → SlotsInside (length f) (word_at o f)
accepted_slots o f e =
    let w : ℕ → ℕ = word_at o f in
    let a : AcceptsGridFile (length f) w = accepted_file o f e in
    let r : GridRoom (length f) (w 10) (next_free w) = accepted_room (length f) w a.head in
    record {
      few = r.few;
      room = a.head.room;
      inside = λ k l full. let s : AcceptsGridSlot w (w 10) (next_free w) k = a.slots k l full in omega (arith, s.end, a.head.next_to);
    }

-- ---- the words of a slot's grid

module _ (w : ℕ → ℕ) where
  slot_empty : (k : ℕ) → is_empty_slot w k ≡ true → slot_extent w k ≡ no_words
  unfolding slot_extent
  slot_empty k e = rw e

  slot-full : (k : ℕ) → is_empty_slot w k ≡ false → slot_extent w k ≡ extent (w (11 + k)) (64 + w (w (11 + k)))
  unfolding slot_extent
  slot-full k e = rw e

  -- an end is that of no words, or of the grid of a full slot
  pub slot_cases : (k : ℕ) → (slot_extent w k ≡ no_words) ⊎ (FullSlot w k × (slot_extent w k ≡ extent (w (11 + k)) (64 + w (w (11 + k)))))
  slot_cases k = step (is_empty_slot w k) refl
    where
      step : (t : Bool) → is_empty_slot w k ≡ t → (slot_extent w k ≡ no_words) ⊎ (FullSlot w k × (slot_extent w k ≡ extent (w (11 + k)) (64 + w (w (11 + k)))))
      step true e = inl (slot_empty k e)
      step false e = inr (eqb-false (w (11 + k)) empty_slot e, slot-full k e)

  -- a grid is inside a file whose slots are
  pub slot-inside : (len k : ℕ) → SlotsInside len w → k < w 10 → extent_end (slot_extent w k) ≤ len / 4
  slot-inside len k s l =
      ⊎_elim (λ e. rw e (omega arith))
      (λ h. let i : grid_end w (w (11 + k)) ≤ len / 4 = s.inside k l h.0 in rw h.1 (omega (arith, i)))
      (slot_cases k)

  -- ---- the loops' steps, e being the words of slot k's grid
  module _ (k : ℕ) (e : Extent) (slot : e ≡ slot_extent w k) where
    -- the highest end becomes that of slot k's grid
    pub highest_taken : (low h : ℕ) → h ≡ highest_end w low k → h < extent_end e → extent_end e ≡ highest_end w low (k + 1)
    unfolding highest_end
    highest_taken low h so_far l = rw (add-one k, ← so_far, ← slot, lt-ltb h (extent_end e) l)

    -- or stays
    pub highest_left : (low h : ℕ) → h ≡ highest_end w low k → extent_end e ≤ h → h ≡ highest_end w low (k + 1)
    unfolding highest_end
    highest_left low h so_far l = rw (add-one k, ← so_far, ← slot, le-ltb h (extent_end e) l)

    -- the end behind word p becomes that of slot k's grid
    pub past_taken : (p : ℕ) → both (leb e.start p) (ltb p (extent_end e)) ≡ true → extent_end e ≡ past_grid w p (k + 1)
    unfolding past_grid
    past_taken p t = rw (add-one k, ← slot, t)

    -- or stays
    pub past_left : (p past : ℕ) → past ≡ past_grid w p k → both (leb e.start p) (ltb p (extent_end e)) ≡ false → past ≡ past_grid w p (k + 1)
    unfolding past_grid
    past_left p past so_far t = rw (add-one k, ← so_far, ← slot, t)

    -- the next start from word p on becomes that of slot k's grid
    pub next_taken : (whole p next : ℕ) → next ≡ next_grid w whole p k
        → both (ltb 0 e.length) (both (leb p e.start) (ltb e.start next)) ≡ true → e.start ≡ next_grid w whole p (k + 1)
    unfolding next_grid
    next_taken whole p next so_far t = rw (add-one k, ← so_far, ← slot, t)

    -- or stays
    pub next_left : (whole p next : ℕ) → next ≡ next_grid w whole p k
        → both (ltb 0 e.length) (both (leb p e.start) (ltb e.start next)) ≡ false → next ≡ next_grid w whole p (k + 1)
    unfolding next_grid
    next_left whole p next so_far t = rw (add-one k, ← so_far, ← slot, t)

  -- ---- free words

  -- word r is one of those of slot j's grid
  abbrev pub SlotHas : ℕ → ℕ → Type 0
  SlotHas j r = ((slot_extent w j).start ≤ r) × (r < extent_end (slot_extent w j))

  -- so that the slot is full, and r is from its offset up to its end
  has_full : (j r : ℕ) → j < w 10 → SlotHas j r → Has w r j
  has_full j r l h =
      ⊎_elim (λ e. let z : r < 0 = subst (λ (x : Extent). r < extent_end x) e h.1 in absurd (omega (arith, z)))
      (λ s.
      let end : r < w (11 + j) + (64 + w (w (11 + j))) = subst (λ (x : Extent). r < extent_end x) s.1 h.1 in
      record { slot = l; full = s.0; from = subst (λ (x : Extent). x.start ≤ r) s.1 h.0; to = omega (arith, end) })
      (slot_cases j)

  full_has : (j r : ℕ) → Has w r j → SlotHas j r
  full_has j r h = rw (slot-full j (ne_eqb (w (11 + j)) empty_slot h.full)) (h.from, omega (arith, h.to))

  -- a word that a grid has is not free
  pub has_taken : (j r : ℕ) → j < w 10 → SlotHas j r → is_free w r ≡ false
  has_taken j r l h = slot_taken w r j (has_full j r l h)

  -- a word that no grid has is free
  pub none-free : (r : ℕ) → ((j : ℕ) → j < w 10 → ¬ (SlotHas j r)) → is_free w r ≡ true
  none-free r h = step (is_free w r) refl
    where
      step : (t : Bool) → is_free w r ≡ t → t ≡ true
      step true e = refl
      step false e = let x = taken_slot w r e in absurd (h x.0 x.1.slot (full_has x.0 r x.1))

  -- ---- what the loops over all slots find

  -- r is the end of a grid of the first k slots that has word p; or p, and none has it
  abbrev pub Past : ℕ → ℕ → ℕ → Type 0
  Past p k r = ((r ≡ p) × ((j : ℕ) → j < k → ¬ (SlotHas j p))) ⊎ ((j : ℕ) × ((j < k) × (SlotHas j p × (r ≡ extent_end (slot_extent w j)))))

  past_cases : (p k : ℕ) → Past p k (past_grid w p k)
  unfolding past_grid
  past_cases p zero = inl (refl, λ j l h. let z : ⊥ = omega (arith, l) in z)
  past_cases p (suc k) = step (both (leb (slot_extent w k).start p) (ltb p (extent_end (slot_extent w k)))) refl (past_cases p k)
    where
      hasnt : both (leb (slot_extent w k).start p) (ltb p (extent_end (slot_extent w k))) ≡ false → ¬ (SlotHas k p)
      hasnt e h =
          false≢true
          (sym e ∙ true_both (leb (slot_extent w k).start p) (ltb p (extent_end (slot_extent w k))) (le-leb (slot_extent w k).start p h.0)
          (lt-ltb p (extent_end (slot_extent w k)) h.1))

      step : (t : Bool) → both (leb (slot_extent w k).start p) (ltb p (extent_end (slot_extent w k))) ≡ t → Past p k (past_grid w p k)
          → Past p (suc k) (pick t (extent_end (slot_extent w k)) (past_grid w p k))
      step true e so_far =
          let b = both_true (leb (slot_extent w k).start p) (ltb p (extent_end (slot_extent w k))) e in
          inr (k, (omega arith, ((leb-true (slot_extent w k).start p b.0, ltb-true p (extent_end (slot_extent w k)) b.1), refl)))
      step false e (inl h) = inl (h.0, below_more k h.1 (hasnt e))
      step false e (inr h) = inr (h.0, (omega (arith, h.1.0), h.1.1))

  -- Of word p of a file whose grids are inside it: the words from p up to the end that is found are not free, the end is inside the file, and p is free where
  -- the end is p itself.
  pub record PastIs (len p r : ℕ) : Type 0 where
    pub from : p ≤ r
    pub inside : p ≤ len / 4 → r ≤ len / 4
    pub taken : (q : ℕ) → p ≤ q → q < r → is_free w q ≡ false
    pub free : r ≤ p → is_free w p ≡ true

  pub past_is : (len p : ℕ) → SlotsInside len w → PastIs len p (past_grid w p (w 10))
  past_is len p s = step (past_cases p (w 10))
    where
      step : Past p (w 10) (past_grid w p (w 10)) → PastIs len p (past_grid w p (w 10))
      step (inl h) =
          record {
            from = omega (arith, h.0);
            inside = λ l. omega (arith, l, h.0);
            taken = λ q l m. let z : ⊥ = omega (arith, h.0, l, m) in absurd z;
            free = λ l. none-free p h.1;
          }
      step (inr h) =
          record {
            from = omega (arith, h.1.1.0.1, h.1.1.1);
            inside = λ l. omega (arith, slot-inside len h.0 s h.1.0, h.1.1.1);
            taken = λ q l m. has_taken h.0 q h.1.0 (omega (arith, h.1.1.0.0, l), omega (arith, h.1.1.1, m));
            free = λ l. let z : ⊥ = omega (arith, h.1.1.0.1, h.1.1.1, l) in absurd z;
          }

  -- r is the lowest start, from word p on, of the grids of the first k slots, or `whole`
  pub record NextIs (whole p k r : ℕ) : Type 0 where
    pub to : r ≤ whole
    pub from : p ≤ whole → p ≤ r
    pub start : (r ≡ whole) ⊎ ((j : ℕ) × ((j < k) × SlotHas j r))
    pub lowest : (j q : ℕ) → j < k → SlotHas j q → p ≤ (slot_extent w j).start → r ≤ (slot_extent w j).start

  next_is : (whole p k : ℕ) → NextIs whole p k (next_grid w whole p k)
  unfolding next_grid
  next_is whole p zero = record { to = omega arith; from = λ l. l; start = inl refl; lowest = λ j q l h m. let z : ⊥ = omega (arith, l) in absurd z }
  next_is whole p (suc k) = step (tests (next_grid w whole p k)) refl (next_is whole p k)
    where
      e : Extent
      e = slot_extent w k

      tests : ℕ → Bool
      tests next = both (ltb 0 e.length) (both (leb p e.start) (ltb e.start next))

      step : (t : Bool) → tests (next_grid w whole p k) ≡ t → NextIs whole p k (next_grid w whole p k)
          → NextIs whole p (suc k) (pick t e.start (next_grid w whole p k))
      step true eq so_far =
          let a = both_true (ltb 0 e.length) (both (leb p e.start) (ltb e.start (next_grid w whole p k))) eq in
          let b = both_true (leb p e.start) (ltb e.start (next_grid w whole p k)) a.1 in
          let some : 0 < e.length = ltb-true 0 e.length a.0 in
          let ahead : p ≤ e.start = leb-true p e.start b.0 in
          let nearer : e.start < next_grid w whole p k = ltb-true e.start (next_grid w whole p k) b.1 in
          record {
            to = omega (arith, nearer, so_far.to);
            from = λ l. ahead;
            start = inr (k, (omega arith, (omega arith, omega (arith, some))));
            lowest = λ j q l h m.
                below_more {P = λ i. (x : ℕ) → SlotHas i x → p ≤ (slot_extent w i).start → e.start ≤ (slot_extent w i).start} k
                (λ i il x ih im. let z : next_grid w whole p k ≤ (slot_extent w i).start = so_far.lowest i x il ih im in omega (arith, z, nearer))
                (λ x ih im. omega arith)
                j l q h m;
          }
      step false eq so_far =
          record {
            to = so_far.to;
            from = so_far.from;
            start = ⊎_elim inl (λ h. inr (h.0, (omega (arith, h.1.0), h.1.1))) so_far.start;
            lowest = λ j q l h m.
                below_more {P = λ i. (x : ℕ) → SlotHas i x → p ≤ (slot_extent w i).start → next_grid w whole p k ≤ (slot_extent w i).start} k
                (λ i il x ih im. so_far.lowest i x il ih im)
                (λ x ih im. here x ih im (dec_lt e.start (next_grid w whole p k)))
                j l q h m;
          }
        where
          here : (x : ℕ) → SlotHas k x → p ≤ e.start → Dec (e.start < next_grid w whole p k) → next_grid w whole p k ≤ e.start
          here x ih im (no ge) = omega arith
          here x ih im (yes lt) =
              let a : both (leb p e.start) (ltb e.start (next_grid w whole p k)) ≡ true =
              true_both (leb p e.start) (ltb e.start (next_grid w whole p k)) (le-leb p e.start im) (lt-ltb e.start (next_grid w whole p k) lt) in
              absurd
              (false≢true (sym eq ∙ true_both (ltb 0 e.length) (both (leb p e.start) (ltb e.start (next_grid w whole p k)))
              (lt-ltb 0 e.length (omega (arith, ih.0, ih.1))) a))

  -- from a free word on, or from the end of the file, the next start is the lowest word that a grid has
  pub next-lowest : (whole p : ℕ) → p ≤ whole → (p < whole → is_free w p ≡ true) → next_grid w whole p (w 10) ≡ lowest_taken w whole p
  next-lowest whole p l free =
      sym ((lowest_exactly (λ q. not (is_free w q)) p (whole - p) r).1 (
      record {
        from = x.from l;
        to = omega (arith, x.to, l);
        none = λ q m h. ap not (none-free q (λ j k has. unfree j q k has m h));
        holds = λ h. ap not (⊎_elim (λ e. let z : ⊥ = omega (arith, h, e, l) in absurd z) (λ s. has_taken s.0 r s.1.0 s.1.1) x.start);
      }
      ))
    where
      r : ℕ
      r = next_grid w whole p (w 10)

      x : NextIs whole p (w 10) r
      x = next_is whole p (w 10)

      -- a grid that has a word before the next start begins before p, and has p
      unfree : (j q : ℕ) → j < w 10 → SlotHas j q → p ≤ q → q < r → ⊥
      unfree j q k has m h = step (dec_lt (slot_extent w j).start p)
        where
          step : Dec ((slot_extent w j).start < p) → ⊥
          step (yes b) = false≢true (sym (has_taken j p k (omega (arith, b), omega (arith, has.1, m))) ∙ free (omega (arith, m, h, x.to)))
          step (no b) = let z : r ≤ (slot_extent w j).start = x.lowest j q k has (omega arith) in omega (arith, z, has.0, h)

  -- the first run of free words from word p on, by the lowest free word s and the next start q from there
  pub run_found : (whole p s q : ℕ) → p ≤ whole → s ≡ lowest_free w whole p → q ≡ next_grid w whole s (w 10)
      → (s ≤ q) × (extent s (q - s) ≡ run_after w whole p)
  unfolding run_after run_from
  run_found whole p s q l at next =
      let x : IsLowest (is_free w) p (whole - p) s = subst (IsLowest (is_free w) p (whole - p)) (sym at) (lowest_is (is_free w) p (whole - p)) in
      let low : s ≤ whole = omega (arith, x.to, l) in
      let taken : q ≡ lowest_taken w whole s = next ∙ next-lowest whole s low (λ h. x.holds (omega (arith, h, l))) in (
        omega (arith, taken, (lowest_is (λ r. not (is_free w r)) s (whole - s)).from),
        ap (λ (r : ℕ). extent s (r - s)) taken ∙ ap (λ (r : ℕ). extent r (lowest_taken w whole r - r)) at,
      )
