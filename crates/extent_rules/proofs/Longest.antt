-- What the free stretches are: the longest runs of words from 12 + n to the file's last whole word that no grid has, in address order. Document 02,
-- request 5.
-- Assumes nothing.
use mathlib.Core.Path.{◌≡◌, refl, sym, ap, subst, ◌∙◌}
use mathlib.Core.Bool.{Bool, true, false, not, false≢true}
use mathlib.Core.Logic.{◌⊎◌, inl, inr, ⊎_elim}
use mathlib.Core.List.Memᴰ
use mathlib.Core.List.{List, Memᴰ}
use Prim.Native.Nat.{ℕ, zero, suc, ◌+◌, ◌-◌, ◌/◌, ◌≤◌, ◌<◌}
use native.Mathlib.Nat.{eq-or-lt_of_le, le_of_suc-le-suc}
use native.Mathlib.Omega.{arith}
use lib.ListN.{length, get_or}
use Rattle.endian_rules.specs.Words.{word_at}
use Rattle.endian_rules.specs.declared.Order.{Order}
use Rattle.lists.specs.Lists.{lines_of}
use Rattle.lists.proofs.Built.{get_or-list_of}
use Rattle.lists.proofs.Lowest.{lowest_exactly}
use Rattle.extent_rules.specs.Stretches.{extent, no_words, extent_end, is_free, first_word, lowest_taken, stretch_starts, run_from, stretch_at, free_stretches, LongestRun}
use Rattle.extent_rules.specs.Steps.{GridAccepted, nth_run}
use Rattle.extent_rules.specs.declared.Extent.{Extent}
use Rattle.extent_rules.proofs.Free.{starts_exactly, stretch_one, stretch_none, RunAt, run_at, run_some}
use Rattle.extent_rules.proofs.Runs.{run_next, stretches_listed, stretch_some}

-- ---- members of lines that are joined

module _ {A : Type 0} (g : ℕ → List A) {x : A} where
  -- a member of lines that are joined is one of some line
  in_line : (n : ℕ) → Memᴰ x (lines_of g n) → (i : ℕ) × ((i < n) × Memᴰ x (g i))
  unfolding lines_of
  in_line zero m = absurd (Memᴰ.not-nil m)
  in_line (suc n) m =
      ⊎_elim (λ h. let r = in_line n h in (r.0, (omega (arith, r.1.0), r.1.1))) (λ h. (n, (omega arith, h)))
      (Memᴰ.append_cases (lines_of g n) m)

  -- and a member of a line is one of them
  of_line : (n i : ℕ) → i < n → Memᴰ x (g i) → Memᴰ x (lines_of g n)
  unfolding lines_of
  of_line zero i l m = let z : ⊥ = omega arith in absurd z
  of_line (suc n) i l m =
      ⊎_elim (λ same. Memᴰ.append_right (lines_of g n) (subst (λ (k : ℕ). Memᴰ x (g k)) same m))
      (λ lt. Memᴰ.append_left (g n) (of_line n i lt m))
      (eq-or-lt_of_le (le_of_suc-le-suc l))

-- ---- the free stretches by their first words

-- that e is the run of free words from a word on at which a free stretch starts
record Started (w : ℕ → ℕ) (whole : ℕ) (e : Extent) : Type 0 where
  from : first_word w ≤ e.start
  to : e.start < whole
  at : RunAt w whole e.start e
  first : is_free w e.start ≡ true
  before : (e.start ≡ first_word w) ⊎ (is_free w (e.start - 1) ≡ false)

module _ (w : ℕ → ℕ) (whole : ℕ) where
  -- what the run from a word on is, where a free stretch starts there
  started : (p : ℕ) → first_word w ≤ p → p < whole → stretch_starts w p ≡ true → Started w whole (run_from w whole p)
  unfolding run_from
  started p from to e =
      let s = (starts_exactly w p).sound e in
      record { from = from; to = to; at = run_at w whole p (omega arith); first = s.0; before = s.1 }

  -- and it is a free stretch
  is_stretch : (p : ℕ) → first_word w ≤ p → p < whole → stretch_starts w p ≡ true → Memᴰ (run_from w whole p) (free_stretches w whole)
  unfolding free_stretches
  is_stretch p from to e =
      let same : first_word w + (p - first_word w) ≡ p = omega arith in
      of_line (λ i. stretch_at w whole (first_word w + i)) (whole - first_word w) (p - first_word w) (omega arith)
      (rw (same, stretch_one w whole p e) (Memᴰ.head refl))

  -- every free stretch is such a run
  stretch_started : (e : Extent) → Memᴰ e (free_stretches w whole) → Started w whole e
  unfolding free_stretches
  stretch_started e m =
      let r = in_line (λ i. stretch_at w whole (first_word w + i)) (whole - first_word w) m in
      step (first_word w + r.0) (omega arith) (omega (arith, r.1.0)) r.1.1
    where
      step : (p : ℕ) → first_word w ≤ p → p < whole → Memᴰ e (stretch_at w whole p) → Started w whole e
      step p from to h = cases (stretch_starts w p) refl
        where
          cases : (b : Bool) → stretch_starts w p ≡ b → Started w whole e
          cases true q =
              let same : e ≡ run_from w whole p = Memᴰ.eq_of_singleton (rw (stretch_one w whole p q) at h) in
              rw same (started p from to q)
          cases false q = absurd (Memᴰ.not-nil (rw (stretch_none w whole p q) at h))

  -- ---- the free stretches are the longest runs

  -- every free stretch is a longest run of free words
  pub stretch_longest : (e : Extent) → Memᴰ e (free_stretches w whole) → LongestRun w whole e
  stretch_longest e m =
      let s : Started w whole e = stretch_started e m in
      record {
        some = run_some w whole e.start e s.at s.to s.first;
        from = s.from;
        to = s.at.to;
        free = s.at.free;
        before = λ l. ⊎_elim (λ x. let z : ⊥ = omega (arith, l, x) in absurd z) (λ x. x) s.before;
        behind = s.at.behind;
      }

  -- a longest run is the run from its first word on
  longest_from : (e : Extent) → LongestRun w whole e → run_from w whole e.start ≡ e
  unfolding run_from
  longest_from e r = ap (extent e.start) size
    where
      end : lowest_taken w whole e.start ≡ extent_end e
      end =
          (lowest_exactly (λ q. not (is_free w q)) e.start (whole - e.start) (extent_end e)).1
          (record {
            from = omega arith;
            to = omega (arith, r.to);
            none = λ q low high. ap not (r.free q low high);
            holds = λ l. ap not (r.behind (omega (arith, l, r.to)));
          })

      size : lowest_taken w whole e.start - e.start ≡ e.length
      size = omega (arith, end)

  -- every longest run of free words is a free stretch
  pub longest_stretch : (e : Extent) → LongestRun w whole e → Memᴰ e (free_stretches w whole)
  longest_stretch e r =
      subst (λ (x : Extent). Memᴰ x (free_stretches w whole)) (longest_from e r)
      (is_stretch e.start r.from (omega (arith, r.some, r.to))
      ((starts_exactly w e.start).complete (r.free e.start (omega arith) (omega (arith, r.some)), before (eq-or-lt_of_le r.from))))
    where
      before : (first_word w ≡ e.start) ⊎ (first_word w < e.start) → (e.start ≡ first_word w) ⊎ (is_free w (e.start - 1) ≡ false)
      before (inl x) = inl (sym x)
      before (inr x) = inr (r.before x)

  -- e is a free stretch and has word p
  abbrev pub StretchWith : Extent → ℕ → Type 0
  StretchWith e p = Memᴰ e (free_stretches w whole) × ((e.start ≤ p) × (p < extent_end e))

  -- the free stretch that starts at a word has it
  start_covered : (p : ℕ) → first_word w ≤ p → p < whole → is_free w p ≡ true → (p ≡ first_word w) ⊎ (is_free w (p - 1) ≡ false) → (e : Extent) × StretchWith e p
  unfolding run_from
  start_covered p from to free before =
      let e : stretch_starts w p ≡ true = (starts_exactly w p).complete (free, before) in
      (run_from w whole p, (is_stretch p from to e, (omega arith, omega (arith, run_some w whole p (run_from w whole p) (run_at w whole p (omega arith)) to free))))

  covered : (i : ℕ) → first_word w + i < whole → is_free w (first_word w + i) ≡ true → (e : Extent) × StretchWith e (first_word w + i)
  covered zero to free = start_covered (first_word w + 0) (omega arith) to free (inl (omega arith))
  covered (suc i) to free = step (is_free w (first_word w + i)) refl (λ h. covered i (omega arith) h)
    where
      step : (b : Bool) → is_free w (first_word w + i) ≡ b → (is_free w (first_word w + i) ≡ true → (e : Extent) × StretchWith e (first_word w + i))
          → (e : Extent) × StretchWith e (first_word w + suc i)
      step false h before =
          let same : first_word w + suc i - 1 ≡ first_word w + i = omega arith in
          start_covered (first_word w + suc i) (omega arith) to free (inr (rw same h))
      step true h before = more (before h)
        where
          more : (e : Extent) × StretchWith e (first_word w + i) → (e : Extent) × StretchWith e (first_word w + suc i)
          more c = (c.0, (c.1.0, (omega (arith, c.1.1.0), beyond (eq-or-lt_of_le c.1.1.1))))
            where
              beyond : (suc (first_word w + i) ≡ extent_end c.0) ⊎ (suc (first_word w + i) < extent_end c.0) → first_word w + suc i < extent_end c.0
              beyond (inr lt) = omega arith
              beyond (inl end) =
                  let same : extent_end c.0 ≡ first_word w + suc i = omega (arith, end) in
                  absurd (false≢true (sym (rw same at ((stretch_longest c.0 c.1.0).behind (omega (arith, same, to)))) ∙ free))

  -- every free word from 12 + n to the file's last whole word is in a free stretch
  pub free_covered : (p : ℕ) → first_word w ≤ p → p < whole → is_free w p ≡ true → (e : Extent) × StretchWith e p
  free_covered p from to free =
      let same : first_word w + (p - first_word w) ≡ p = omega arith in
      subst (λ (q : ℕ). (e : Extent) × StretchWith e q) same (covered (p - first_word w) (omega arith) (rw same free))

-- ---- their order

module _ (o : Order) (f : List ℕ) (a : GridAccepted o f) where
  -- of two runs that have words, the earlier ends before the later starts, with a word between them
  runs_order : (i j : ℕ) → i < j → j < length (free_stretches (word_at o f) (length f / 4)) → extent_end (nth_run o f (suc i)) < (nth_run o f (suc j)).start
  runs_order i zero l h = let z : ⊥ = omega arith in absurd z
  runs_order i (suc j) l h =
      ⊎_elim (λ same. rw same next) (λ lt. omega (arith, next, runs_order i j lt (omega arith))) (eq-or-lt_of_le (le_of_suc-le-suc l))
    where
      some : 0 < (nth_run o f (suc (suc j))).length
      some = stretch_some o f a (suc j) h

      next : extent_end (nth_run o f (suc j)) < (nth_run o f (suc (suc j))).start
      next = step (eq-or-lt_of_le (run_next o f a (suc j)).from)
        where
          step : (extent_end (nth_run o f (suc j)) ≡ (nth_run o f (suc (suc j))).start) ⊎ (extent_end (nth_run o f (suc j)) < (nth_run o f (suc (suc j))).start)
              → extent_end (nth_run o f (suc j)) < (nth_run o f (suc (suc j))).start
          step (inr lt) = lt
          step (inl same) =
              absurd (false≢true
              (sym ((run_next o f a j).at.behind (omega (arith, same, some, (run_next o f a (suc j)).at.to)))
              ∙ (run_next o f a (suc j)).at.free (extent_end (nth_run o f (suc j))) (omega (arith, same)) (omega (arith, same, some))))

  -- element i of the free stretches
  pub stretch_at_lem : (i : ℕ) → i < length (free_stretches (word_at o f) (length f / 4))
      → get_or (free_stretches (word_at o f) (length f / 4)) i no_words ≡ nth_run o f (suc i)
  stretch_at_lem i l =
      ap (λ (x : List Extent). get_or x i no_words) (stretches_listed o f a)
      ∙ get_or-list_of (λ k. nth_run o f (suc k)) (length (free_stretches (word_at o f) (length f / 4))) i no_words l

  -- the free stretches are in address order, each two with a word between them
  pub in_address-order : (i j : ℕ) → i < j → j < length (free_stretches (word_at o f) (length f / 4))
      → extent_end (get_or (free_stretches (word_at o f) (length f / 4)) i no_words) < (get_or (free_stretches (word_at o f) (length f / 4)) j no_words).start
  in_address-order i j l h = rw (stretch_at_lem i (omega arith), stretch_at_lem j h) (runs_order i j l h)
