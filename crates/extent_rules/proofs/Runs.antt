-- The runs of free words one after another, and that they are the free stretches: document 02, request 5. Run 0 is the directory, and run i + 1 is the
-- first run of free words behind run i.
-- Assumes nothing.
use mathlib.Core.Path.{◌≡◌, refl, sym, ap, ap₂, subst, ◌∙◌}
use mathlib.Core.Bool.{Bool, true, false, not, false≢true}
use mathlib.Core.Logic.{◌⊎◌, inl, inr, ⊎_elim}
use mathlib.Core.List.{List, [], ◌∷◌, ◌++◌, append-nil}
use Prim.Native.Nat.{ℕ, zero, suc, ◌+◌, ◌-◌, ◌/◌, ◌≤◌, ◌<◌}
use native.Mathlib.Nat.{add-suc, eq-or-lt_of_le, le_of_suc-le-suc}
use native.Mathlib.Decide.{dec_lt}
use native.Mathlib.Omega.{arith}
use borrow.Author.Tests.{le-leb}
use lib.Dec.{leb}
use lib.ListN.{length, length-append}
use Rattle.endian_rules.specs.Words.{word_at}
use Rattle.endian_rules.specs.declared.Order.{Order}
use Rattle.lists.specs.Choices.{pick, both}
use Rattle.lists.specs.Lists.{list_of, lines_of}
use Rattle.lists.specs.Lowest.{IsLowest}
use Rattle.lists.proofs.Built.{length-list_of}
use Rattle.lists.proofs.Lowest.{lowest_is}
use Rattle.lists.proofs.Rows.{compared}
use Rattle.refusal_rules.specs.Tests.{Exactly}
use Rattle.refusal_rules.proofs.Exactness.{le_exactly, eq_exactly, not_exactly, both_exactly}
use Rattle.grid_rules.specs.Rules.{empty_slot, is_empty_slot, grid_end}
use Rattle.grid_rules.specs.Accepts.{FullSlot}
use Rattle.grid_rules.proofs.Slots.{below_more}
use Rattle.extent_rules.specs.Stretches.{extent_end, is_free, first_word, lowest_free, stretch_starts, run_from, stretch_at, free_stretches}
use Rattle.extent_rules.specs.Steps.{GridAccepted, run_after, directory_extent, nth_run}
use Rattle.extent_rules.specs.declared.Extent.{Extent}
use Rattle.extent_rules.proofs.Free.{accepted_file, directory-inside, fails, Has, none_has_exactly, taken_slot, starts_exactly, taken_no_start, later_no_start}
use Rattle.extent_rules.proofs.Free.{stretch_one, stretch_none, RunAt, run_at, run_some}

-- ---- the first run of free words from a word on

-- that e is the first run of free words from word p on
pub record FirstRun (w : ℕ → ℕ) (whole p : ℕ) (e : Extent) : Type 0 where
  pub from : p ≤ e.start
  pub taken : (q : ℕ) → p ≤ q → q < e.start → is_free w q ≡ false
  pub same : run_from w whole e.start ≡ e
  pub at : RunAt w whole e.start e
  pub none : e.length ≡ 0 → e.start ≡ whole

module _ (w : ℕ → ℕ) (whole : ℕ) where
  -- the run after a word is
  pub first_run : (p : ℕ) → p ≤ whole → FirstRun w whole p (run_after w whole p)
  unfolding run_after
  first_run p l = step (lowest_free w whole p) (lowest_is (is_free w) p (whole - p))
    where
      step : (s : ℕ) → IsLowest (is_free w) p (whole - p) s → FirstRun w whole p (run_from w whole s)
      step s h = found (run_from w whole s) refl (run_at w whole s (omega (arith, h.to, l)))
        where
          found : (e : Extent) → run_from w whole s ≡ e → RunAt w whole s e → FirstRun w whole p e
          found e is r =
              record {
                from = omega (arith, h.from, r.start);
                taken = λ q from to. h.none q from (omega (arith, to, r.start));
                same = ap (run_from w whole) r.start ∙ is;
                at = record { start = refl; to = r.to; free = r.free; behind = r.behind };
                none = λ empty. ends empty (dec_lt s whole);
              }
            where
              ends : e.length ≡ 0 → Dec (s < whole) → e.start ≡ whole
              ends empty (yes lt) =
                  let some : 0 < e.length = run_some w whole s e r lt (h.holds (omega arith)) in
                  let z : ⊥ = omega arith in
                  absurd z
              ends empty (no ge) = omega (arith, ge, r.start, r.to)

  -- the word p is 12 + n, or is no free word of the file: where a run before it ends
  abbrev Edge : ℕ → Type 0
  Edge p = (p ≡ first_word w) ⊎ (p < whole → is_free w p ≡ false)

  module _ (p : ℕ) (e : Extent) (r : FirstRun w whole p e) where
    -- where the first run from an edge on has words, a free stretch starts at it
    run_starts : 0 < e.length → Edge p → stretch_starts w e.start ≡ true
    run_starts some edge = (starts_exactly w e.start).complete (first, before (eq-or-lt_of_le r.from))
      where
        first : is_free w e.start ≡ true
        first = r.at.free e.start (omega arith) (omega arith)

        before : (p ≡ e.start) ⊎ (p < e.start) → (e.start ≡ first_word w) ⊎ (is_free w (e.start - 1) ≡ false)
        before (inr lt) = inr (r.taken (e.start - 1) (omega arith) (omega arith))
        before (inl same) =
            ⊎_elim (λ x. inl (sym same ∙ x))
            (λ x. absurd (false≢true (sym (subst (λ (i : ℕ). is_free w i ≡ false) same (x (omega (arith, same, some, r.at.to)))) ∙ first)))
            edge

-- ---- lines that are empty

-- lines that are empty add nothing
lines_still : {A : Type 0} (g : ℕ → List A) (a b : ℕ) → a ≤ b → ((i : ℕ) → a ≤ i → i < b → g i ≡ []) → lines_of g b ≡ lines_of g a
unfolding lines_of
lines_still g a zero l h = let e : 0 ≡ a = omega arith in ap (lines_of g) e
lines_still g a (suc b) l h =
    ⊎_elim (λ e. ap (lines_of g) (sym e))
    (λ lt.
    ap (λ x. lines_of g b ++ x) (h b (omega arith) (omega arith))
    ∙ append-nil (lines_of g b)
    ∙ lines_still g a b (omega arith) (λ i from to. h i from (omega arith)))
    (eq-or-lt_of_le l)

-- ---- the free stretches below a word

module _ (w : ℕ → ℕ) (whole : ℕ) where
  -- those that start below word p
  abbrev stretches_to : ℕ → List Extent
  stretches_to p = lines_of (λ i. stretch_at w whole (first_word w + i)) (p - first_word w)

  -- words at which none starts add none
  to_still : (p q : ℕ) → first_word w ≤ p → p ≤ q → ((i : ℕ) → p ≤ i → i < q → stretch_starts w i ≡ false) → stretches_to q ≡ stretches_to p
  to_still p q from l h =
      lines_still (λ i. stretch_at w whole (first_word w + i)) (p - first_word w) (q - first_word w) (omega arith)
      (λ i low high. stretch_none w whole (first_word w + i) (h (first_word w + i) (omega arith) (omega arith)))

  -- a word at which one starts adds it
  to_more : (p : ℕ) → first_word w ≤ p → stretch_starts w p ≡ true → stretches_to (suc p) ≡ stretches_to p ++ run_from w whole p ∷ []
  unfolding lines_of
  to_more p from e =
      let n : suc p - first_word w ≡ suc (p - first_word w) = omega arith in
      let m : first_word w + (p - first_word w) ≡ p = omega arith in
      ap (lines_of (λ i. stretch_at w whole (first_word w + i))) n
      ∙ ap (λ (x : List Extent). stretches_to p ++ x) (ap (stretch_at w whole) m ∙ stretch_one w whole p e)

  module _ (p : ℕ) (e : Extent) (from : first_word w ≤ p) (r : FirstRun w whole p e) where
    -- the first run from an edge on, where it has words, is the next of them
    to_run : Edge w whole p → 0 < e.length → stretches_to (extent_end e) ≡ stretches_to p ++ e ∷ []
    to_run edge some =
        to_still (suc e.start) (extent_end e) (omega (arith, from, r.from)) (omega (arith, some))
        (λ i low high. later_no_start w i (omega (arith, from, low, r.from)) (r.at.free (i - 1) (omega arith) (omega arith)))
        ∙ to_more e.start (omega (arith, from, r.from)) (run_starts w whole p e r some edge)
        ∙ ap₂ (λ (x : List Extent) (y : Extent). x ++ y ∷ [])
        (to_still p e.start from r.from (λ i low high. taken_no_start w i (r.taken i low high))) r.same

    -- where it has none, there is none behind p
    to_last : e.length ≡ 0 → stretches_to whole ≡ stretches_to p
    to_last empty =
        let end : e.start ≡ whole = r.none empty in
        to_still p whole from (omega (arith, end, r.from)) (λ i low high. taken_no_start w i (r.taken i low (omega (arith, high, end))))

-- ---- the runs of an accepted file

-- the first is the directory
pub run_begin : (o : Order) (f : List ℕ) → directory_extent o f ≡ nth_run o f 0
unfolding nth_run
run_begin o f = refl

-- and the next is the first behind an extent that is the one before
pub run_more : (o : Order) (f : List ℕ) (i : ℕ) (e : Extent) → e ≡ nth_run o f i → run_after (word_at o f) (length f / 4) (extent_end e) ≡ nth_run o f (suc i)
unfolding nth_run
run_more o f i e at = ap (λ (x : Extent). run_after (word_at o f) (length f / 4) (extent_end x)) at

-- one run more that has words
pub all_some : (o : Order) (f : List ℕ) (m : ℕ) → ((i : ℕ) → i < m → 0 < (nth_run o f (suc i)).length) → 0 < (nth_run o f (suc m)).length
    → (i : ℕ) → i < suc m → 0 < (nth_run o f (suc i)).length
all_some o f m before here = below_more {P = λ i. 0 < (nth_run o f (suc i)).length} m before here

-- that the first m runs behind the directory have words, and the next has none
pub record RunsEnd (o : Order) (f : List ℕ) (m : ℕ) : Type 0 where
  pub some : (i : ℕ) → i < m → 0 < (nth_run o f (suc i)).length
  pub last : (nth_run o f (suc m)).length ≡ 0

module _ (o : Order) (f : List ℕ) (a : GridAccepted o f) where
  -- the directory ends at 12 + n
  pub run_first : extent_end (nth_run o f 0) ≡ first_word (word_at o f)
  unfolding nth_run directory_extent
  run_first = rw (le-leb 44 (length f) (accepted_file o f a).head.long) (omega arith)

  -- each run is inside the file
  pub run_inside : (i : ℕ) → extent_end (nth_run o f i) ≤ length f / 4
  unfolding nth_run
  run_inside zero = omega (arith, run_first, directory-inside o f a)
  run_inside (suc i) = (first_run (word_at o f) (length f / 4) (extent_end (nth_run o f i)) (run_inside i)).at.to

  -- each is the first behind the one before
  pub run_next : (i : ℕ) → FirstRun (word_at o f) (length f / 4) (extent_end (nth_run o f i)) (nth_run o f (suc i))
  unfolding nth_run
  run_next i = first_run (word_at o f) (length f / 4) (extent_end (nth_run o f i)) (run_inside i)

  -- and ends behind it, where it has words
  pub run_on : (i : ℕ) → 0 < (nth_run o f (suc i)).length → extent_end (nth_run o f i) < extent_end (nth_run o f (suc i))
  run_on i some = omega (arith, some, (run_next i).from)

  -- none ends before 12 + n
  pub run_after_lem : (i : ℕ) → first_word (word_at o f) ≤ extent_end (nth_run o f i)
  run_after_lem zero = omega (arith, run_first)
  run_after_lem (suc i) = omega (arith, run_after_lem i, (run_next i).from)

  -- each ends at an edge
  run_edge : (i : ℕ) → Edge (word_at o f) (length f / 4) (extent_end (nth_run o f i))
  run_edge zero = inl run_first
  run_edge (suc i) = inr (run_next i).at.behind

  -- the free stretches below the end of run m are the first m runs behind the directory, where each of those has words
  runs_to : (m : ℕ) → ((i : ℕ) → i < m → 0 < (nth_run o f (suc i)).length)
      → stretches_to (word_at o f) (length f / 4) (extent_end (nth_run o f m)) ≡ list_of (λ i. nth_run o f (suc i)) m
  unfolding lines_of list_of
  runs_to zero h =
      let e : extent_end (nth_run o f 0) - first_word (word_at o f) ≡ 0 = omega (arith, run_first) in
      ap (lines_of (λ i. stretch_at (word_at o f) (length f / 4) (first_word (word_at o f) + i))) e
  runs_to (suc m) h =
      to_run (word_at o f) (length f / 4) (extent_end (nth_run o f m)) (nth_run o f (suc m)) (run_after_lem m) (run_next m) (run_edge m) (h m (omega arith))
      ∙ ap (λ (x : List Extent). x ++ nth_run o f (suc m) ∷ []) (runs_to m (λ i l. h i (omega arith)))

  -- and all the free stretches are, where the next run has no words
  pub runs_are : (m : ℕ) → (nth_run o f (suc m)).length ≡ 0 → ((i : ℕ) → i < m → 0 < (nth_run o f (suc i)).length)
      → free_stretches (word_at o f) (length f / 4) ≡ list_of (λ i. nth_run o f (suc i)) m
  unfolding free_stretches
  runs_are m empty h =
      to_last (word_at o f) (length f / 4) (extent_end (nth_run o f m)) (nth_run o f (suc m)) (run_after_lem m) (run_next m) empty ∙ runs_to m h

  -- a free word from 12 + n on and before the end of run m is in one of the first m runs behind the directory
  pub run_has : (m q : ℕ) → first_word (word_at o f) ≤ q → q < extent_end (nth_run o f m) → is_free (word_at o f) q ≡ true
      → (j : ℕ) × ((j < m) × (((nth_run o f (suc j)).start ≤ q) × (q < extent_end (nth_run o f (suc j)))))
  run_has zero q from to free = let z : ⊥ = omega (arith, from, to, run_first) in absurd z
  run_has (suc m) q from to free = step (λ lt. run_has m q from lt free) (dec_lt q (extent_end (nth_run o f m))) (dec_lt q (nth_run o f (suc m)).start)
    where
      step : (q < extent_end (nth_run o f m) → (j : ℕ) × ((j < m) × (((nth_run o f (suc j)).start ≤ q) × (q < extent_end (nth_run o f (suc j))))))
          → Dec (q < extent_end (nth_run o f m)) → Dec (q < (nth_run o f (suc m)).start)
          → (j : ℕ) × ((j < suc m) × (((nth_run o f (suc j)).start ≤ q) × (q < extent_end (nth_run o f (suc j)))))
      step earlier (yes lt) d = let r = earlier lt in (r.0, (omega (arith, r.1.0), r.1.1))
      step earlier (no ge) (yes lt) = absurd (false≢true (sym ((run_next m).taken q (omega arith) lt) ∙ free))
      step earlier (no ge) (no here) = (m, (omega arith, (omega arith, to)))

  -- ---- how many runs have words

  -- the runs behind the directory have words up to the first that has none, or all of the first n of them do
  runs_end : (n : ℕ) → ((m : ℕ) × RunsEnd o f m) ⊎ ((i : ℕ) → i < n → 0 < (nth_run o f (suc i)).length)
  runs_end zero = inr (λ i l. let z : ⊥ = omega arith in absurd z)
  runs_end (suc n) = ⊎_elim inl (λ all. step all (dec_lt 0 (nth_run o f (suc n)).length)) (runs_end n)
    where
      step : ((i : ℕ) → i < n → 0 < (nth_run o f (suc i)).length) → Dec (0 < (nth_run o f (suc n)).length)
          → ((m : ℕ) × RunsEnd o f m) ⊎ ((i : ℕ) → i < suc n → 0 < (nth_run o f (suc i)).length)
      step all (yes h) =
          inr (all_some o f n all h)
      step all (no h) = inl (n, record { last = omega arith; some = all })

  -- so many runs that have words end at a word that is at least so high
  pub runs_far : (n : ℕ) → ((i : ℕ) → i < n → 0 < (nth_run o f (suc i)).length) → n ≤ extent_end (nth_run o f n)
  runs_far zero all = omega arith
  runs_far (suc n) all = omega (arith, runs_far n (λ i l. all i (omega arith)), run_on n (all n (omega arith)))

  -- there is a first that has none
  runs_stop : (m : ℕ) × RunsEnd o f m
  runs_stop =
      let n : ℕ = suc (length f / 4) in
      ⊎_elim (λ x. x) (λ all. let z : ⊥ = omega (arith, runs_far n all, run_inside n) in absurd z) (runs_end n)

  -- as many runs behind the directory have words as there are free stretches
  pub stretches_end : RunsEnd o f (length (free_stretches (word_at o f) (length f / 4)))
  stretches_end =
      let r = runs_stop in
      subst (RunsEnd o f)
      (sym (length-list_of (λ i. nth_run o f (suc i)) r.0) ∙ sym (ap length (runs_are r.0 r.1.last r.1.some)))
      r.1

  -- so that the free stretches are these runs
  pub stretches_listed : free_stretches (word_at o f) (length f / 4)
      ≡ list_of (λ i. nth_run o f (suc i)) (length (free_stretches (word_at o f) (length f / 4)))
  stretches_listed = runs_are (length (free_stretches (word_at o f) (length f / 4))) stretches_end.last stretches_end.some

  -- each of these runs has words
  pub stretch_some : (i : ℕ) → i < length (free_stretches (word_at o f) (length f / 4)) → 0 < (nth_run o f (suc i)).length
  stretch_some = stretches_end.some

  -- and the next has none
  pub stretch_last : (nth_run o f (suc (length (free_stretches (word_at o f) (length f / 4))))).length ≡ 0
  stretch_last = stretches_end.last

-- ---- how many free stretches there are

-- how many of the numbers below n a test holds of
unfoldable pub how_many : (ℕ → Bool) → ℕ → ℕ
how_many t zero = 0
how_many t (suc n) = how_many t n + pick (t n) 1 0

one_most : (b : Bool) → pick b 1 0 ≤ 1
one_most true = omega arith
one_most false = omega arith

-- no more than n
pub count_most : (t : ℕ → Bool) (n : ℕ) → how_many t n ≤ n
unfolding how_many
count_most t zero = omega arith
count_most t (suc n) = omega (arith, count_most t n, one_most (t n))

module _ (t u : ℕ → Bool) where
  -- one number more
  one_le : (n : ℕ) → (t n ≡ true → u n ≡ true) → pick (t n) 1 0 ≤ pick (u n) 1 0
  one_le n h = step (t n) (u n) h
    where
      step : (a b : Bool) → (a ≡ true → b ≡ true) → pick a 1 0 ≤ pick b 1 0
      step true true g = omega arith
      step true false g = absurd (false≢true (g refl))
      step false true g = omega arith
      step false false g = omega arith

  -- a test that holds wherever another does holds of no fewer
  pub count_le : (n : ℕ) → ((k : ℕ) → k < n → t k ≡ true → u k ≡ true) → how_many t n ≤ how_many u n
  unfolding how_many
  count_le zero h = omega arith
  count_le (suc n) h = omega (arith, count_le n (λ k l. h k (omega arith)), one_le n (h n (omega arith)))

  -- and of more where the other fails of one
  pub count_lt : (n : ℕ) → ((k : ℕ) → k < n → t k ≡ true → u k ≡ true) → (j : ℕ) → j < n → t j ≡ false → u j ≡ true → how_many t n < how_many u n
  unfolding how_many
  count_lt zero h j l e g = let z : ⊥ = omega arith in absurd z
  count_lt (suc n) h j l e g =
      ⊎_elim
      (λ same.
      rw (subst (λ (i : ℕ). t i ≡ false) same e, subst (λ (i : ℕ). u i ≡ true) same g)
      (omega (arith, count_le n (λ k l. h k (omega arith)))))
      (λ lt. omega (arith, count_lt n (λ k l. h k (omega arith)) j lt e g, one_le n (h n (omega arith))))
      (eq-or-lt_of_le (le_of_suc-le-suc l))

  -- one that holds wherever another does but of one number holds of at most one less
  pub count_but : (n a : ℕ) → ((k : ℕ) → k < n → ¬ (k ≡ a) → t k ≡ true → u k ≡ true) → how_many t n ≤ how_many u n + 1
  unfolding how_many
  count_but zero a h = omega arith
  count_but (suc n) a h =
      ⊎_elim
      (λ same.
      omega (arith, count_le n (λ k l. h k (omega arith) (λ e. omega (arith, same, e, l))), one_most (t n)))
      (λ other.
      omega (arith, count_but n a (λ k l. h k (omega arith)), one_le n (h n (omega arith) (λ e. ⊎_elim (λ x. omega (arith, x, e)) (λ x. omega (arith, x, e)) other))))
      (compared n a)

-- lines of one element where a test holds, and of none elsewhere
lines_counted : {A : Type 0} (g : ℕ → List A) (t : ℕ → Bool) → ((i : ℕ) → length (g i) ≡ pick (t i) 1 0) → (n : ℕ) → length (lines_of g n) ≡ how_many t n
unfolding lines_of how_many
lines_counted g t h zero = refl
lines_counted g t h (suc n) = length-append (lines_of g n) (g n) ∙ ap₂ ◌+◌ (lines_counted g t h n) (h n)

-- there are as many free stretches as words at which one starts
pub stretches_count : (w : ℕ → ℕ) (whole : ℕ) → length (free_stretches w whole) ≡ how_many (λ i. stretch_starts w (first_word w + i)) (whole - first_word w)
unfolding free_stretches
stretches_count w whole = lines (whole - first_word w)
  where
    one : (p : ℕ) → length (stretch_at w whole p) ≡ pick (stretch_starts w p) 1 0
    one p = step (stretch_starts w p) refl
      where
        step : (b : Bool) → stretch_starts w p ≡ b → length (stretch_at w whole p) ≡ pick b 1 0
        step true e = ap length (stretch_one w whole p e)
        step false e = ap length (stretch_none w whole p e)

    lines : (n : ℕ) → length (lines_of (λ i. stretch_at w whole (first_word w + i)) n) ≡ how_many (λ i. stretch_starts w (first_word w + i)) n
    lines = lines_counted (λ i. stretch_at w whole (first_word w + i)) (λ i. stretch_starts w (first_word w + i)) (λ i. one (first_word w + i))

-- where each stretch of one file's words but one starts a stretch of another's too, the other has at most one less
pub stretches_more : (w v : ℕ → ℕ) (whole a : ℕ) → w 10 ≡ v 10 → ((p : ℕ) → ¬ (p ≡ a) → stretch_starts w p ≡ true → stretch_starts v p ≡ true)
    → length (free_stretches w whole) ≤ length (free_stretches v whole) + 1
stretches_more w v whole a e h =
    rw (stretches_count w whole, stretches_count v whole, ← e)
    (count_but (λ i. stretch_starts w (first_word w + i)) (λ i. stretch_starts v (first_word w + i)) (whole - first_word w) (a - first_word w)
    (λ i l other. h (first_word w + i) (λ same. other (omega (arith, same)))))

module _ (w : ℕ → ℕ) where
  -- whether the grid of slot k ends at word q or before
  abbrev ends_by : ℕ → ℕ → Bool
  ends_by q k = both (not (is_empty_slot w k)) (leb (grid_end w (w (11 + k))) q)

  ends_exactly : (q k : ℕ) → Exactly (ends_by q k) (FullSlot w k × (grid_end w (w (11 + k)) ≤ q))
  ends_exactly q k = both_exactly (not_exactly (eq_exactly (w (11 + k)) empty_slot)) (le_exactly (grid_end w (w (11 + k))) q)

  -- those of no fewer slots end by a later word
  ends_later : (q k : ℕ) → k < w 10 → ends_by q k ≡ true → ends_by (suc q) k ≡ true
  ends_later q k l e =
      let x = (ends_exactly q k).sound e in
      (ends_exactly (suc q) k).complete (x.0, omega (arith, x.1))

  -- and of more, where a free stretch starts there behind a word that is not free
  ends_more : (q : ℕ) → first_word w ≤ q → stretch_starts w (suc q) ≡ true → how_many (ends_by q) (w 10) < how_many (ends_by (suc q)) (w 10)
  ends_more q l e =
      let s = (starts_exactly w (suc q)).sound e in
      let taken : is_free w q ≡ false = ⊎_elim (λ x. let z : ⊥ = omega (arith, x, l) in absurd z) (λ x. subst (λ (i : ℕ). is_free w i ≡ false) (same q) x) s.1 in
      found s.0 (taken_slot w q taken)
    where
      same : (i : ℕ) → suc i - 1 ≡ i
      same i = omega arith

      found : is_free w (suc q) ≡ true → (k : ℕ) × Has w q k → how_many (ends_by q) (w 10) < how_many (ends_by (suc q)) (w 10)
      found free r =
          let h : Has w q r.0 = r.1 in
          let end : grid_end w (w (11 + r.0)) ≤ suc q =
          ⊎_elim (λ x. x) (λ x. let z : ⊥ = omega (arith, x, h.from) in absurd z)
          ((none_has_exactly w (suc q) (suc q + 1)).sound free r.0 h.slot h.full) in
          count_lt (ends_by q) (ends_by (suc q)) (w 10) (ends_later q) r.0 h.slot
          (fails (ends_exactly q r.0) (λ x. omega (arith, x.1, h.to)))
          ((ends_exactly (suc q) r.0).complete (h.full, end))

  -- the words up to 12 + n + m at which a free stretch starts are at most one more than the grids that end by there
  starts_few : (m : ℕ) → how_many (λ i. stretch_starts w (first_word w + i)) (suc m) ≤ how_many (ends_by (first_word w + m)) (w 10) + 1
  unfolding how_many
  starts_few zero = omega (arith, one_most (stretch_starts w (first_word w + 0)))
  starts_few (suc m) = rw add-suc (step (stretch_starts w (suc (first_word w + m))) refl (starts_few m))
    where
      step : (b : Bool) → stretch_starts w (suc (first_word w + m)) ≡ b
          → how_many (λ i. stretch_starts w (first_word w + i)) (suc m) ≤ how_many (ends_by (first_word w + m)) (w 10) + 1
          → how_many (λ i. stretch_starts w (first_word w + i)) (suc m) + pick b 1 0 ≤ how_many (ends_by (suc (first_word w + m))) (w 10) + 1
      step true e before = omega (arith, before, ends_more (first_word w + m) (omega arith) e)
      step false e before =
          omega (arith, before, count_le (ends_by (first_word w + m)) (ends_by (suc (first_word w + m))) (w 10) (ends_later (first_word w + m)))

  -- there are at most n + 1 free stretches
  pub stretches_few : (whole : ℕ) → length (free_stretches w whole) ≤ w 10 + 1
  unfolding how_many
  stretches_few whole = rw (stretches_count w whole) (step (whole - first_word w))
    where
      step : (m : ℕ) → how_many (λ i. stretch_starts w (first_word w + i)) m ≤ w 10 + 1
      step zero = omega arith
      step (suc m) = omega (arith, starts_few m, count_most (ends_by (first_word w + m)) (w 10))
