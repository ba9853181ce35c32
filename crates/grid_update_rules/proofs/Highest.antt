-- The next free word that either call leaves: "the end of the highest grid, or 12+n if there is none". What a file needs to be accepted once it has that word,
-- and that such a file is.
-- Assumes nothing.
use mathlib.Core.Path.{◌≡◌, refl, sym, ap, ap₂, subst, ◌∙◌}
use mathlib.Core.Bool.{Bool, true, false}
use mathlib.Core.Logic.{◌⊎◌, inl, inr, ⊎_elim, ◌↔◌}
use mathlib.Core.List.{List}
use Prim.Native.Nat.{ℕ, zero, suc, ◌+◌, ◌*◌, ◌/◌, ◌^◌, ◌≤◌, ◌<◌}
use native.Mathlib.Decide.{ℕ_discrete}
use native.Mathlib.Omega.{arith}
use lib.Dec.{ltb}
use lib.ListN.{length, get_or}
use borrow.Author.Tests.{ltb-true, ltb-false, eqb-true, eqb-false, eq-eqb, ne_eqb}
use Rattle.lists.specs.Choices.{pick}
use Rattle.lists.specs.Lists.{Outside}
use Rattle.endian_rules.specs.Words.{word_at}
use Rattle.endian_rules.specs.declared.Order.{Order}
use Rattle.endian_rules.proofs.Signs.{signed_at_least}
use Rattle.refusal_rules.specs.Rules.{Pass}
use Rattle.grid_rules.specs.Rules.{next_free, empty_slot, is_empty_slot, grid_end}
use Rattle.grid_rules.specs.Accepts.{FullSlot, AcceptsGridFile}
use Rattle.grid_rules.specs.Opening.{open_grid}
use Rattle.grid_rules.proofs.Acceptance.{GridAt, slot-grid, file_passes, open_split}
use Rattle.grid_rules.proofs.Footprint.{SameAt, SameSlot, wanted-same}
use Rattle.extent_rules.specs.Stretches.{extent_end, slot_extent, highest_end, first_word}
use Rattle.extent_rules.specs.Steps.{GridAccepted, SlotsInside}
use Rattle.grid_update_rules.specs.Updates.{next_free_set}
use Rattle.grid_update_rules.proofs.Words.{set-length, set_here, set_other, set_byte}

-- ---- the end of the highest grid

-- the extent of a slot with a grid ends where the grid ends
pub full-end : (w : ℕ → ℕ) (k : ℕ) → FullSlot w k → extent_end (slot_extent w k) ≡ grid_end w (w (11 + k))
unfolding slot_extent
full-end w k full = rw (ne_eqb (w (11 + k)) empty_slot full) (omega arith)

-- that of an empty slot at 0
pub empty_end : (w : ℕ → ℕ) (k : ℕ) → w (11 + k) ≡ empty_slot → extent_end (slot_extent w k) ≡ 0
unfolding slot_extent
empty_end w k e = rw (eq-eqb (w (11 + k)) empty_slot e)

-- the greater of two numbers, as it is picked
greater : (a b : ℕ) → (a ≤ pick (ltb a b) b a) × ((b ≤ pick (ltb a b) b a) × ((pick (ltb a b) b a ≡ a) ⊎ (pick (ltb a b) b a ≡ b)))
greater a b = step (ltb a b) refl
  where
    step : (t : Bool) → ltb a b ≡ t → (a ≤ pick t b a) × ((b ≤ pick t b a) × ((pick t b a ≡ a) ⊎ (pick t b a ≡ b)))
    step true e = (omega (arith, ltb-true a b e), (omega arith, inr refl))
    step false e = (omega arith, (omega (arith, ltb-false a b e), inl refl))

-- one slot more: of the ends a, of k slots, and b, of k + 1 slots
record OneMore (w : ℕ → ℕ) (k a b : ℕ) : Type 0 where
  before : a ≤ b
  here : FullSlot w k → grid_end w (w (11 + k)) ≤ b
  is : (b ≡ a) ⊎ (FullSlot w k × (b ≡ grid_end w (w (11 + k))))

-- a grid of the first k slots that ends at r
abbrev pub EndsAt : (ℕ → ℕ) → ℕ → ℕ → Type 0
EndsAt w k r = (j : ℕ) × ((j < k) × (FullSlot w j × (r ≡ grid_end w (w (11 + j)))))

-- That r is the end of the highest of the grids of the first k slots, or `low` where there is none.
pub data HighestIs (w : ℕ → ℕ) (low k r : ℕ) : Type 0 where
  none : ((j : ℕ) → j < k → ¬ FullSlot w j) → r ≡ low → HighestIs w low k r
  highest : EndsAt w k r → ((j : ℕ) → j < k → FullSlot w j → grid_end w (w (11 + j)) ≤ r) → HighestIs w low k r

module _ (w : ℕ → ℕ) (low : ℕ) where
  one_more : (k : ℕ) → OneMore w k (highest_end w low k) (highest_end w low (suc k))
  unfolding highest_end
  one_more k = step (is_empty_slot w k) refl (greater (highest_end w low k) (extent_end (slot_extent w k)))
    where
      step : (t : Bool) → is_empty_slot w k ≡ t
          → (highest_end w low k ≤ highest_end w low (suc k))
          × ((extent_end (slot_extent w k) ≤ highest_end w low (suc k))
          × ((highest_end w low (suc k) ≡ highest_end w low k) ⊎ (highest_end w low (suc k) ≡ extent_end (slot_extent w k))))
          → OneMore w k (highest_end w low k) (highest_end w low (suc k))
      step true e g =
          let empty : w (11 + k) ≡ empty_slot = eqb-true (w (11 + k)) empty_slot e in
          record {
            before = g.0;
            here = λ full. absurd (full empty);
            is = inl (⊎_elim (λ q. q) (λ q. omega (arith, q, g.0, empty_end w k empty)) g.1.1);
          }
      step false e g =
          let full : FullSlot w k = eqb-false (w (11 + k)) empty_slot e in
          record {
            before = g.0;
            here = λ full. subst (λ (x : ℕ). x ≤ highest_end w low (suc k)) (full-end w k full) g.1.0;
            is = ⊎_elim inl (λ q. inr (full, q ∙ full-end w k full)) g.1.1;
          }

  -- it is at least `low`
  pub highest_low : (k : ℕ) → low ≤ highest_end w low k
  unfolding highest_end
  highest_low zero = omega arith
  highest_low (suc k) = omega (arith, highest_low k, (one_more k).before)

  -- and at least the end of every grid
  pub highest_full : (k j : ℕ) → j < k → FullSlot w j → grid_end w (w (11 + j)) ≤ highest_end w low k
  highest_full zero j l full = let z : ⊥ = omega arith in absurd z
  highest_full (suc k) j l full = step (ℕ_discrete j k) (highest_full k j)
    where
      step : Dec (j ≡ k) → (j < k → FullSlot w j → grid_end w (w (11 + j)) ≤ highest_end w low k) → grid_end w (w (11 + j)) ≤ highest_end w low (suc k)
      step (yes e) rec = subst (λ (i : ℕ). FullSlot w i → grid_end w (w (11 + i)) ≤ highest_end w low (suc k)) (sym e) (one_more k).here full
      step (no other) rec = omega (arith, rec (omega arith) full, (one_more k).before)

  -- it is `low`, or a grid ends there
  pub highest_is : (k : ℕ) → (highest_end w low k ≡ low) ⊎ EndsAt w k (highest_end w low k)
  unfolding highest_end
  highest_is zero = inl refl
  highest_is (suc k) = step (highest_end w low (suc k)) (one_more k).is (highest_is k)
    where
      step : (r : ℕ) → (r ≡ highest_end w low k) ⊎ (FullSlot w k × (r ≡ grid_end w (w (11 + k)))) → (highest_end w low k ≡ low) ⊎ EndsAt w k (highest_end w low k)
          → (r ≡ low) ⊎ EndsAt w (suc k) r
      step r (inl e) (inl q) = inl (e ∙ q)
      step r (inl e) (inr x) = inr (x.0, (omega (arith, x.1.0), (x.1.1.0, e ∙ x.1.1.1)))
      step r (inr x) before = inr (k, (omega arith, x))

  -- so it is at most what `low` and the end of every grid are at most
  pub highest_most : (k most : ℕ) → low ≤ most → ((j : ℕ) → j < k → FullSlot w j → grid_end w (w (11 + j)) ≤ most) → highest_end w low k ≤ most
  highest_most k most from ends =
      ⊎_elim (λ e. omega (arith, e, from)) (λ x. omega (arith, ends x.0 x.1.0 x.1.1.0, x.1.1.1)) (highest_is k)

  -- where no grid ends before `low`, it is the end of the highest grid, or `low` where there is none, and nothing else is
  pub highest_exactly : (k : ℕ) → ((j : ℕ) → j < k → FullSlot w j → low < grid_end w (w (11 + j)))
      → (r : ℕ) → (highest_end w low k ≡ r) ↔ HighestIs w low k r
  highest_exactly k above r = (λ e. subst (HighestIs w low k) e (to (highest_is k)), from)
    where
      to : (highest_end w low k ≡ low) ⊎ EndsAt w k (highest_end w low k) → HighestIs w low k (highest_end w low k)
      to (inl e) = none (λ j l full. omega (arith, e, above j l full, highest_full k j l full)) e
      to (inr x) = highest x (λ j l full. highest_full k j l full)

      from : HighestIs w low k r → highest_end w low k ≡ r
      from (none empty e) = ⊎_elim (λ q. q ∙ sym e) (λ x. absurd (empty x.0 x.1.0 x.1.1.0)) (highest_is k)
      from (highest x ends) =
          let most : highest_end w low k ≤ r =
          highest_most k r (omega (arith, above x.0 x.1.0 x.1.1.0, x.1.1.1)) ends in
          omega (arith, most, highest_full k x.0 x.1.0 x.1.1.0, x.1.1.1)

-- it is made of the slots' words and of the first word of each grid: words that agree there give the same
pub highest_same : (w v : ℕ → ℕ) (low k : ℕ) → ((j : ℕ) → j < k → v (11 + j) ≡ w (11 + j)) → ((j : ℕ) → j < k → FullSlot w j → v (w (11 + j)) ≡ w (w (11 + j)))
    → highest_end v low k ≡ highest_end w low k
unfolding highest_end
highest_same w v low zero offsets sizes = refl
highest_same w v low (suc k) offsets sizes =
    ap₂ (λ (x e : ℕ). pick (ltb x e) e x) (highest_same w v low k (λ j l. offsets j (omega arith)) (λ j l. sizes j (omega arith)))
    (end (offsets k (omega arith)) (sizes k (omega arith)) (is_empty_slot w k) refl)
  where
    end : v (11 + k) ≡ w (11 + k) → (FullSlot w k → v (w (11 + k)) ≡ w (w (11 + k))) → (t : Bool) → is_empty_slot w k ≡ t → extent_end (slot_extent v k) ≡ extent_end (slot_extent w k)
    end offset size true e =
        let empty : w (11 + k) ≡ empty_slot = eqb-true (w (11 + k)) empty_slot e in
        empty_end v k (offset ∙ empty) ∙ sym (empty_end w k empty)
    end offset size false e =
        let full : FullSlot w k = eqb-false (w (11 + k)) empty_slot e in
        full-end v k (λ q. full (sym offset ∙ q)) ∙ ap (grid_end v) offset ∙ ap (λ (x : ℕ). w (11 + k) + 64 + x) (size full) ∙ sym (full-end w k full)

-- ---- a file that is accepted once it has its next free word

-- what acceptance asks of a file of `len` bytes, but for the next free word: the grids end inside the file, and by 2,147,483,647
pub record Laid (len : ℕ) (w : ℕ → ℕ) : Type 0 where
  pub long : 44 ≤ len
  pub grids : (1 ≤ w 10) × (w 10 ≤ 1024)
  pub room : 12 + w 10 ≤ len / 4
  pub grid : (k : ℕ) → k < w 10 → FullSlot w k → GridAt len w (w (11 + k))
  -- of a grid and an earlier one, one ends before the other begins
  pub apart : (k : ℕ) → k < w 10 → FullSlot w k → (j : ℕ) → j < k → FullSlot w j
      → (grid_end w (w (11 + j)) ≤ w (11 + k)) ⊎ (grid_end w (w (11 + k)) ≤ w (11 + j))

module _ (len : ℕ) (w : ℕ → ℕ) where
  -- an accepted file is such a file
  pub accepts_laid : AcceptsGridFile len w → Laid len w
  accepts_laid a =
      record {
        long = a.head.long;
        grids = a.head.grids;
        room = a.head.room;
        grid = slot-grid len w a;
        apart = λ k l full. (a.slots k l full).apart;
      }

  module _ (x : Laid len w) where
    -- its slots can be read
    pub laid_slots : SlotsInside len w
    laid_slots = record { few = x.grids.1; room = x.room; inside = λ k l full. omega (arith, (x.grid k l full).inside) }

    -- the end of its highest grid is inside the file, and a signed word that is not negative
    pub laid_highest : (highest_end w (first_word w) (w 10) ≤ len / 4) × (highest_end w (first_word w) (w 10) < 2 ^ 31)
    laid_highest =
        let small : highest_end w (first_word w) (w 10) ≤ 2147483647 =
        highest_most w (first_word w) (w 10) 2147483647 (omega (arith, x.grids.1)) (λ j l full. omega (arith, (x.grid j l full).small)) in (
          highest_most w (first_word w) (w 10) (len / 4) x.room (λ j l full. omega (arith, (x.grid j l full).inside)),
          omega (arith, small),
        )

    -- and is what document 02 says, and nothing else is
    pub laid_exactly : (r : ℕ) → (highest_end w (first_word w) (w 10) ≡ r) ↔ HighestIs w (first_word w) (w 10) r
    laid_exactly = highest_exactly w (first_word w) (w 10) (λ j l full. omega (arith, (x.grid j l full).after-directory))

    -- with it as its next free word the file is accepted
    pub laid_accepts : next_free w ≡ highest_end w (first_word w) (w 10) → AcceptsGridFile len w
    laid_accepts e =
        record {
          head =
              record {
                long = x.long;
                grids = x.grids;
                room = x.room;
                next_from =
                    (signed_at_least (12 + w 10) (next_free w)).1
                    (omega (arith, e, highest_low w (first_word w) (w 10)), omega (arith, e, laid_highest.1));
                next_to = omega (arith, e, laid_highest.0);
              };
          slots =
              λ k l full.
              let g : GridAt len w (w (11 + k)) = x.grid k l full in
              let end : grid_end w (w (11 + k)) ≤ next_free w = omega (arith, e, highest_full w (first_word w) (w 10) k l full) in
              record {
                offset = (signed_at_least (12 + w 10) (w (11 + k))).1 (g.after-directory, omega (arith, g.small));
                header = omega (arith, end);
                rows = g.rows;
                columns = g.columns;
                signed = omega (arith, g.small);
                size = g.size;
                end = end;
                apart = x.apart k l full;
              };
        }

-- ---- files that agree in what opening reads of a grid

-- a grid where the words are the same is the same grid
pub grid-same : (len : ℕ) (w v : ℕ → ℕ) (i : ℕ) → v 10 ≡ w 10 → SameAt w v i → ¬ (w i ≡ empty_slot) → GridAt len w (w i) → GridAt len v (v i)
grid-same len w v i count s full g =
    rw s.offset
    (record {
      after-directory = rw count g.after-directory;
      rows = rw (s.rows full) g.rows;
      columns = rw (s.columns full) g.columns;
      size = rw (s.size full, s.rows full, s.columns full) g.size;
      inside = rw (s.size full) g.inside;
      small = rw (s.size full) g.small;
    })

-- it ends where it ended
pub end-same : (w v : ℕ → ℕ) (i : ℕ) → SameAt w v i → ¬ (w i ≡ empty_slot) → grid_end v (v i) ≡ grid_end w (w i)
end-same w v i s full = rw (s.offset, s.size full)

-- The words v have no grid that the words w have not, and each as w has it.
pub record Fewer (w v : ℕ → ℕ) : Type 0 where
  pub count : v 10 ≡ w 10
  pub full : (k : ℕ) → k < w 10 → FullSlot v k → FullSlot w k
  pub same : (k : ℕ) → k < w 10 → FullSlot v k → SameSlot w v k

-- with fewer grids a file stays as acceptance asks
pub laid_fewer : (len : ℕ) (w v : ℕ → ℕ) → Fewer w v → Laid len w → Laid len v
laid_fewer len w v s x =
    record {
      long = x.long;
      grids = rw s.count x.grids;
      room = rw s.count x.room;
      grid =
          λ k l full.
          let lw : k < w 10 = rw s.count at l in
          grid-same len w v (11 + k) s.count (s.same k lw full) (s.full k lw full) (x.grid k lw (s.full k lw full));
      apart =
          λ k l full j lj fullj.
          let lw : k < w 10 = rw s.count at l in
          let ljw : j < w 10 = omega (arith, lj, lw) in
          let sk : SameSlot w v k = s.same k lw full in
          let sj : SameSlot w v j = s.same j ljw fullj in
          let fk : FullSlot w k = s.full k lw full in
          let fj : FullSlot w j = s.full j ljw fullj in
          rw (end-same w v (11 + k) sk fk, end-same w v (11 + j) sj fj, sk.offset, sj.offset) (x.apart k lw fk j lj fj);
    }

-- ---- the next free word, set

module _ (o : Order) (f : List ℕ) where
  -- the file is as long as it was
  pub next-length : length (next_free_set o f) ≡ length f
  unfolding next_free_set
  next-length = set-length o f _ _

  -- every other word is as it was
  pub next_other : (j : ℕ) → ¬ (j ≡ 11 + word_at o f 10) → word_at o (next_free_set o f) j ≡ word_at o f j
  unfolding next_free_set
  next_other = set_other o f _ _

  -- and so is every byte outside that word
  pub next_byte : (i : ℕ) → Outside i (4 * (11 + word_at o f 10)) 4 → get_or (next_free_set o f) i 0 ≡ get_or f i 0
  unfolding next_free_set
  next_byte = set_byte o f _ _

  -- n is as it was
  pub next_count : word_at o (next_free_set o f) 10 ≡ word_at o f 10
  next_count = next_other 10 (λ e. omega (arith, e))

  module _ (x : Laid (length f) (word_at o f)) where
    -- the word is the end of the highest grid
    pub next_here : word_at o (next_free_set o f) (11 + word_at o f 10) ≡ highest_end (word_at o f) (first_word (word_at o f)) (word_at o f 10)
    unfolding next_free_set
    next_here =
        set_here o f (11 + word_at o f 10) (highest_end (word_at o f) (first_word (word_at o f)) (word_at o f 10)) (omega (arith, x.room))
        (omega (arith, (laid_highest (length f) (word_at o f) x).1))

    -- each slot, and what opening reads of its grid, is as it was
    pub next-slot : (k : ℕ) → k < word_at o f 10 → SameSlot (word_at o f) (word_at o (next_free_set o f)) k
    next-slot k l =
        record {
          offset = next_other (11 + k) (λ e. omega (arith, e, l));
          size = λ full. next_other (word_at o f (11 + k)) (λ e. omega (arith, e, (x.grid k l full).after-directory));
          rows = λ full. next_other (word_at o f (11 + k) + 1) (λ e. omega (arith, e, (x.grid k l full).after-directory));
          columns = λ full. next_other (word_at o f (11 + k) + 2) (λ e. omega (arith, e, (x.grid k l full).after-directory));
        }

    -- the file is as acceptance asks still
    pub next_laid : Laid (length (next_free_set o f)) (word_at o (next_free_set o f))
    next_laid =
        rw next-length
        (laid_fewer (length f) (word_at o f) (word_at o (next_free_set o f))
        (record {
          count = next_count;
          full = λ k l full e. full ((next-slot k l).offset ∙ e);
          same = λ k l full. next-slot k l;
        })
        x)

    -- its highest grid ends where it ended
    next-same : highest_end (word_at o (next_free_set o f)) (first_word (word_at o (next_free_set o f))) (word_at o (next_free_set o f) 10)
        ≡ highest_end (word_at o f) (first_word (word_at o f)) (word_at o f 10)
    next-same =
        rw next_count
        (highest_same (word_at o f) (word_at o (next_free_set o f)) (first_word (word_at o f)) (word_at o f 10)
        (λ j l. (next-slot j l).offset) (λ j l full. (next-slot j l).size full))

    -- and that is its next free word
    pub next_word : next_free (word_at o (next_free_set o f))
        ≡ highest_end (word_at o (next_free_set o f)) (first_word (word_at o (next_free_set o f))) (word_at o (next_free_set o f) 10)
    next_word = ap (λ (n : ℕ). word_at o (next_free_set o f) (11 + n)) next_count ∙ next_here ∙ sym next-same

    -- so it is accepted
    pub laid_accepted : GridAccepted o (next_free_set o f)
    laid_accepted =
        (file_passes (length (next_free_set o f)) (word_at o (next_free_set o f))).1
        (laid_accepts (length (next_free_set o f)) (word_at o (next_free_set o f)) next_laid next_word)

    -- with the next free word that document 02 says: "the end of the highest grid, or 12+n if there is none"
    pub next_highest : HighestIs (word_at o (next_free_set o f)) (first_word (word_at o (next_free_set o f))) (word_at o (next_free_set o f) 10)
        (next_free (word_at o (next_free_set o f)))
    next_highest =
        (laid_exactly (length (next_free_set o f)) (word_at o (next_free_set o f)) next_laid (next_free (word_at o (next_free_set o f)))).0 (sym next_word)

-- an accepted file is as acceptance asks
pub accepted_laid : (o : Order) (f : List ℕ) → GridAccepted o f → Laid (length f) (word_at o f)
accepted_laid o f e = accepts_laid (length f) (word_at o f) ((file_passes (length f) (word_at o f)).0 e)

-- ---- opening

-- Of two accepted files of one length with one n, which agree in what opening reads of the grid of a number, that grid opens alike. So does a number that
-- neither file has.
pub open_alike : (o : Order) (f g : List ℕ) → length g ≡ length f → GridAccepted o f → GridAccepted o g → word_at o g 10 ≡ word_at o f 10
    → (number : ℕ) → (1 ≤ number → number ≤ word_at o f 10 → SameAt (word_at o f) (word_at o g) (10 + number))
    → open_grid o g number ≡ open_grid o f number
unfolding open_grid
open_alike o f g size ef eg count number same =
    open_split o (length g) (word_at o g) number Pass eg
    ∙ rw size (wanted-same (word_at o f) (word_at o g) o (length f) number count same)
    ∙ sym (open_split o (length f) (word_at o f) number Pass ef)
