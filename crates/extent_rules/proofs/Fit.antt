-- Where so many words find room, and that the first of the runs into which they fit has the lowest address: document 02, request 5.
-- Assumes nothing.
use mathlib.Core.Path.{◌≡◌, refl, sym, ap, subst, ◌∙◌}
use mathlib.Core.Bool.{Bool, true, false, false≢true}
use mathlib.Core.Logic.{◌⊎◌, inl, inr, ⊎_elim, ◌↔◌}
use mathlib.Core.List.{List}
use Prim.Native.Nat.{ℕ, zero, suc, ◌+◌, ◌-◌, ◌/◌, ◌≤◌, ◌<◌}
use native.Mathlib.Nat.{eq-or-lt_of_le, le_of_suc-le-suc}
use native.Mathlib.Decide.{dec_lt}
use native.Mathlib.Omega.{arith}
use borrow.Author.Tests.{le-leb, lt-leb, lt-ltb, ltb-true}
use lib.Dec.{ltb}
use lib.ListN.{length, get_or}
use Rattle.endian_rules.specs.Words.{word_at}
use Rattle.endian_rules.specs.declared.Order.{Order}
use Rattle.lists.specs.Choices.{pick}
use Rattle.lists.specs.Lowest.{IsLowest}
use Rattle.lists.proofs.Lowest.{lowest_is, lowest_exactly}
use Rattle.refusal_rules.specs.Tests.{Exactly}
use Rattle.refusal_rules.proofs.Exactness.{le_exactly, both_exactly}
use Rattle.grid_rules.proofs.Slots.{Misses}
use Rattle.extent_rules.specs.Stretches.{no_words, extent_end, no_grid_has, is_free, first_word, free_stretches}
use Rattle.extent_rules.specs.Rooms.{last_end, fits_at, lowest_address, has_room, fits_in, lesser, first_fitting, searched}
use Rattle.extent_rules.specs.Steps.{GridAccepted, nth_run}
use Rattle.extent_rules.specs.declared.Extent.{Extent}
use Rattle.extent_rules.proofs.Free.{fails, own_exactly, none_has_exactly, free_word, words-free}
use Rattle.extent_rules.proofs.Runs.{RunsEnd, run_inside, run_next, run_after_lem, run_has, stretches_end}

-- ---- what the lowest address is

-- So many words at address a, from 12 + n on, lie inside the file and in no grid, and end by 2,147,483,647.
pub record Fits (w : ℕ → ℕ) (whole need a : ℕ) : Type 0 where
  pub from : first_word w ≤ a
  pub inside : a + need ≤ whole
  pub by_last : a + need ≤ last_end
  pub apart : (k : ℕ) → k < w 10 → Misses w a (a + need) k

module _ (w : ℕ → ℕ) (whole need : ℕ) where
  -- what the test of an address says
  pub fits_exactly : (a : ℕ) → Exactly (fits_at w whole need a) ((a + need ≤ whole) × ((a + need ≤ last_end) × (no_grid_has w a (a + need) ≡ true)))
  unfolding fits_at
  fits_exactly a =
      both_exactly (le_exactly (a + need) whole)
      (both_exactly (le_exactly (a + need) last_end) (own_exactly (no_grid_has w a (a + need))))

  -- an address from 12 + n on of which it is true is one where the words fit
  test_fits : (a : ℕ) → first_word w ≤ a → fits_at w whole need a ≡ true → Fits w whole need a
  test_fits a from e =
      let x = (fits_exactly a).sound e in
      record { from = from; inside = x.0; by_last = x.1.0; apart = (none_has_exactly w a (a + need)).sound x.1.1 }

  fits_test : (a : ℕ) → Fits w whole need a → fits_at w whole need a ≡ true
  fits_test a h = (fits_exactly a).complete (h.inside, (h.by_last, (none_has_exactly w a (a + need)).complete h.apart))

  -- what the lowest address is
  pub lowest-fits : IsLowest (fits_at w whole need) (first_word w) (whole - first_word w) (lowest_address w whole need)
  unfolding lowest_address
  lowest-fits = lowest_is (fits_at w whole need) (first_word w) (whole - first_word w)

  -- where there is room, the words fit at the lowest address, and at no address from 12 + n on before it
  pub lowest_address_lem : has_room w whole need ≡ true
      → Fits w whole need (lowest_address w whole need) × ((q : ℕ) → q < lowest_address w whole need → ¬ Fits w whole need q)
  lowest_address_lem e = step (lowest_address w whole need) lowest-fits (ltb-true (lowest_address w whole need) whole e)
    where
      step : (r : ℕ) → IsLowest (fits_at w whole need) (first_word w) (whole - first_word w) r → r < whole
          → Fits w whole need r × ((q : ℕ) → q < r → ¬ Fits w whole need q)
      step r h lt = (
        test_fits r h.from (h.holds (omega (arith, h.from, lt))),
        λ q l x. false≢true (sym (h.none q x.from l) ∙ fits_test q x),
      )

  -- there is room exactly where the words, at least one, fit somewhere
  pub room_exactly : 1 ≤ need → (has_room w whole need ≡ true) ↔ ((a : ℕ) × Fits w whole need a)
  room_exactly some = (λ e. (lowest_address w whole need, (lowest_address_lem e).0), λ x. step x.0 x.1 (lowest_address w whole need) lowest-fits)
    where
      step : (a : ℕ) → Fits w whole need a → (r : ℕ) → IsLowest (fits_at w whole need) (first_word w) (whole - first_word w) r → ltb r whole ≡ true
      step a x r h = cases (dec_lt r whole)
        where
          cases : Dec (r < whole) → ltb r whole ≡ true
          cases (yes lt) = lt-ltb r whole lt
          cases (no ge) = absurd (false≢true (sym (h.none a x.from (omega (arith, some, ge, x.inside))) ∙ fits_test a x))

  -- an address where they fit, and before which, from 12 + n on, they fit nowhere, is the lowest
  lowest_at : (a : ℕ) → first_word w ≤ a → a ≤ whole → fits_at w whole need a ≡ true
      → ((q : ℕ) → first_word w ≤ q → q < a → fits_at w whole need q ≡ true → ⊥) → lowest_address w whole need ≡ a
  unfolding lowest_address
  lowest_at a from to e h =
      (lowest_exactly (fits_at w whole need) (first_word w) (whole - first_word w) a).1
      (record { from = from; to = omega arith; none = λ q low high. fails (own_exactly (fits_at w whole need q)) (h q low high); holds = λ l. e })

-- ---- in the runs of an accepted file

fits_in_exactly : (need : ℕ) (e : Extent) → Exactly (fits_in need e) ((need ≤ e.length) × (e.start + need ≤ last_end))
fits_in_exactly need e = both_exactly (le_exactly need e.length) (le_exactly (e.start + need) last_end)

module _ (o : Order) (f : List ℕ) (a : GridAccepted o f) (need : ℕ) (some : 1 ≤ need) where
  -- so many words that fit at an address, before the end of run m, fit into one of the first m runs behind the directory that starts there or before
  fits_run : (m q : ℕ) → first_word (word_at o f) ≤ q → q < extent_end (nth_run o f m) → fits_at (word_at o f) (length f / 4) need q ≡ true
      → (j : ℕ) × ((j < m) × (((nth_run o f (suc j)).start ≤ q) × (fits_in need (nth_run o f (suc j)) ≡ true)))
  fits_run m q from to e =
      let x = (fits_exactly (word_at o f) (length f / 4) need q).sound e in
      found x.0 x.1.0 (free_word (word_at o f) q (q + need) x.1.1)
    where
      found : q + need ≤ length f / 4 → q + need ≤ last_end → ((p : ℕ) → q ≤ p → p < q + need → is_free (word_at o f) p ≡ true)
          → (j : ℕ) × ((j < m) × (((nth_run o f (suc j)).start ≤ q) × (fits_in need (nth_run o f (suc j)) ≡ true)))
      found inside last free = step (run_has o f a m q from to (free q (omega arith) (omega arith)))
        where
          step : (j : ℕ) × ((j < m) × (((nth_run o f (suc j)).start ≤ q) × (q < extent_end (nth_run o f (suc j)))))
              → (j : ℕ) × ((j < m) × (((nth_run o f (suc j)).start ≤ q) × (fits_in need (nth_run o f (suc j)) ≡ true)))
          step r = (
            r.0,
            (r.1.0, (r.1.1.0, (fits_in_exactly need (nth_run o f (suc r.0))).complete (ends (dec_lt (extent_end (nth_run o f (suc r.0))) (q + need))))),
          )
            where
              ends : Dec (extent_end (nth_run o f (suc r.0)) < q + need)
                  → (need ≤ (nth_run o f (suc r.0)).length) × ((nth_run o f (suc r.0)).start + need ≤ last_end)
              ends (yes lt) =
                  absurd (false≢true
                  (sym ((run_next o f a r.0).at.behind (omega arith)) ∙ free (extent_end (nth_run o f (suc r.0))) (omega (arith, r.1.1.1)) lt))
              ends (no ge) = (omega (arith, ge, r.1.1.0), omega (arith, last, r.1.1.0))

  -- a run behind the directory into which the words fit
  fits_here : (i : ℕ) → fits_in need (nth_run o f (suc i)) ≡ true → fits_at (word_at o f) (length f / 4) need (nth_run o f (suc i)).start ≡ true
  fits_here i fit =
      let x = (fits_in_exactly need (nth_run o f (suc i))).sound fit in
      (fits_exactly (word_at o f) (length f / 4) need (nth_run o f (suc i)).start).complete (
        omega (arith, x.0, run_inside o f a (suc i)),
        (
          x.1,
          words-free (word_at o f) (nth_run o f (suc i)).start ((nth_run o f (suc i)).start + need) (omega arith)
              (λ p from to. (run_next o f a i).at.free p from (omega (arith, to, x.0))),
        ),
      )

  -- the first of the runs behind the directory into which they fit starts at the lowest address, which is inside the file
  pub fits_in_run : (i : ℕ) → fits_in need (nth_run o f (suc i)) ≡ true → ((j : ℕ) → j < i → fits_in need (nth_run o f (suc j)) ≡ false)
      → (lowest_address (word_at o f) (length f / 4) need ≡ (nth_run o f (suc i)).start) × ((nth_run o f (suc i)).start < length f / 4)
  fits_in_run i fit first =
      let x = (fits_in_exactly need (nth_run o f (suc i))).sound fit in
      let inside : (nth_run o f (suc i)).start + need ≤ length f / 4 = omega (arith, x.0, run_inside o f a (suc i)) in (
        lowest_at (word_at o f) (length f / 4) need (nth_run o f (suc i)).start (omega (arith, run_after_lem o f a i, (run_next o f a i).from)) (omega arith)
            (fits_here i fit) (λ q from to e. before q to (fits_run (suc i) q from (omega (arith, to)) e)),
        omega (arith, inside),
      )
    where
      before : (q : ℕ) → q < (nth_run o f (suc i)).start
          → ((j : ℕ) × ((j < suc i) × (((nth_run o f (suc j)).start ≤ q) × (fits_in need (nth_run o f (suc j)) ≡ true)))) → ⊥
      before q to r =
          ⊎_elim (λ same. omega (arith, to, subst (λ (k : ℕ). (nth_run o f (suc k)).start ≤ q) same r.1.1.0))
          (λ lt. false≢true (sym (first r.0 lt) ∙ r.1.1.1))
          (eq-or-lt_of_le (le_of_suc-le-suc r.1.0))

  -- so that there is room
  pub fits-room : (i : ℕ) → fits_in need (nth_run o f (suc i)) ≡ true → ((j : ℕ) → j < i → fits_in need (nth_run o f (suc j)) ≡ false)
      → has_room (word_at o f) (length f / 4) need ≡ true
  fits-room i fit first =
      let x = fits_in_run i fit first in
      lt-ltb (lowest_address (word_at o f) (length f / 4) need) (length f / 4) (omega (arith, x.0, x.1))

  -- where they fit into no free stretch, there is none
  pub fits-none : ((i : ℕ) → i < length (free_stretches (word_at o f) (length f / 4)) → fits_in need (nth_run o f (suc i)) ≡ false)
      → has_room (word_at o f) (length f / 4) need ≡ false
  fits-none h =
      fails (own_exactly (has_room (word_at o f) (length f / 4) need))
      (λ e.
      none-fits (length (free_stretches (word_at o f) (length f / 4))) (stretches_end o f a) h
      (lowest_address (word_at o f) (length f / 4) need) (lowest_address_lem (word_at o f) (length f / 4) need e).0)
    where
      none-fits : (m : ℕ) → RunsEnd o f m → ((i : ℕ) → i < m → fits_in need (nth_run o f (suc i)) ≡ false)
          → (r : ℕ) → Fits (word_at o f) (length f / 4) need r → ⊥
      none-fits m e no_words r x =
          let end : (nth_run o f (suc m)).start ≡ length f / 4 = (run_next o f a m).none e.last in
          in-run
          (fits_run (suc m) r x.from (omega (arith, end, some, x.inside)) (fits_test (word_at o f) (length f / 4) need r x))
        where
          in-run : ((j : ℕ) × ((j < suc m) × (((nth_run o f (suc j)).start ≤ r) × (fits_in need (nth_run o f (suc j)) ≡ true)))) → ⊥
          in-run y =
              ⊎_elim
              (λ same.
              omega (arith, some, e.last, ((fits_in_exactly need (nth_run o f (suc m))).sound (subst (λ (k : ℕ). fits_in need (nth_run o f (suc k)) ≡ true) same y.1.1.1)).0))
              (λ lt. false≢true (sym (no_words y.0 lt) ∙ y.1.1.1))
              (eq-or-lt_of_le (le_of_suc-le-suc y.1.0))

  -- and where there is one, there is a free stretch
  pub room-some : has_room (word_at o f) (length f / 4) need ≡ true → 1 ≤ length (free_stretches (word_at o f) (length f / 4))
  room-some room = step (dec_lt 0 (length (free_stretches (word_at o f) (length f / 4))))
    where
      step : Dec (0 < length (free_stretches (word_at o f) (length f / 4))) → 1 ≤ length (free_stretches (word_at o f) (length f / 4))
      step (yes l) = omega (arith, l)
      step (no h) = absurd (false≢true (sym (fits-none (λ i l. let z : ⊥ = omega (arith, h, l) in absurd z)) ∙ room))

-- ---- the search

-- so many places are searched where the table has them
pub lesser_count : (count size : ℕ) → count ≤ size → lesser count size ≡ count
unfolding lesser
lesser_count count size l = rw (le-leb count size l)

-- and all of them where it has fewer
pub lesser-size : (count size : ℕ) → size < count → lesser count size ≡ size
unfolding lesser
lesser-size count size l = rw (lt-leb count size l)

-- so none past the table's end
pub lesser-within : (count size : ℕ) → lesser count size ≤ size
lesser-within count size = step (dec_lt size count)
  where
    step : Dec (size < count) → lesser count size ≤ size
    step (yes l) = omega (arith, lesser-size count size l)
    step (no h) = omega (arith, h, lesser_count count size (omega (arith, h)))

-- What a search of the extents r 0, r 1 and so on, i of them, has found: nothing, where the words fit into none of them, or else the first into which
-- they do.
abbrev pub Found : ℕ → (ℕ → Extent) → ℕ → Extent → Type 0
Found need r i e =
    ((e ≡ no_words) × ((j : ℕ) → j < i → fits_in need (r j) ≡ false))
    ⊎ ((j : ℕ) × ((e ≡ r j) × ((j < i) × ((fits_in need (r j) ≡ true) × ((k : ℕ) → k < j → fits_in need (r k) ≡ false)))))

module _ (need : ℕ) (some : 1 ≤ need) (r : ℕ → Extent) where
  -- one extent more
  found_more : (i : ℕ) (e : Extent) → Found need r i e → Found need r (suc i) (first_fitting need e (r i))
  unfolding first_fitting
  found_more i e (inl x) = rw x.0 (step (fits_in need (r i)) refl)
    where
      step : (t : Bool) → fits_in need (r i) ≡ t → Found need r (suc i) (pick t (r i) no_words)
      step true q = inr (i, (refl, (omega arith, (q, x.1))))
      step false q =
          inl (
            refl,
            λ j l. ⊎_elim (λ same. subst (λ (k : ℕ). fits_in need (r k) ≡ false) (sym same) q) (x.1 j) (eq-or-lt_of_le (le_of_suc-le-suc l)),
          )
  found_more i e (inr x) =
      let size : need ≤ (r x.0).length = ((fits_in_exactly need (r x.0)).sound x.1.1.1.0).0 in
      inr (x.0, (rw (x.1.0, lt-ltb 0 (r x.0).length (omega arith)), (omega (arith, x.1.1.0), x.1.1.1)))

  -- what a search of a table's first i extents finds, where they are these
  pub search_found : (t : List Extent) (i : ℕ) → ((k : ℕ) → k < i → get_or t k no_words ≡ r k) → Found need r i (searched t need i)
  unfolding searched
  search_found t zero h = inl (refl, λ j l. let z : ⊥ = omega arith in absurd z)
  search_found t (suc i) h =
      rw (h i (omega arith)) (found_more i (searched t need i) (search_found t i (λ k l. h k (omega arith))))

module _ (o : Order) (f : List ℕ) (a : GridAccepted o f) (need : ℕ) (some : 1 ≤ need) where
  -- Where there is room, a search of a table of all free stretches but the last, and then of the last, finds the extent at the lowest address.
  pub searched-room : has_room (word_at o f) (length f / 4) need ≡ true → (t : List Extent) (m : ℕ)
      → m ≡ length (free_stretches (word_at o f) (length f / 4)) → ((i : ℕ) → i < m - 1 → get_or t i no_words ≡ nth_run o f (suc i))
      → (first_fitting need (searched t need (m - 1)) (nth_run o f m)).start ≡ lowest_address (word_at o f) (length f / 4) need
  searched-room room t zero e h =
      absurd (false≢true (sym (fits-none o f a need some (λ i l. let z : ⊥ = omega (arith, e, l) in absurd z)) ∙ room))
  searched-room room t (suc n) e h =
      let same : suc n - 1 ≡ n = omega arith in
      rw same
      (step (first_fitting need (searched t need n) (nth_run o f (suc n)))
      (found_more need some (λ i. nth_run o f (suc i)) n (searched t need n) (search_found need some (λ i. nth_run o f (suc i)) t n (λ i l. h i (omega arith)))))
    where
      step : (x : Extent) → Found need (λ i. nth_run o f (suc i)) (suc n) x → x.start ≡ lowest_address (word_at o f) (length f / 4) need
      step x (inl y) = absurd (false≢true (sym (fits-none o f a need some (λ i l. y.1 i (omega (arith, e, l)))) ∙ room))
      step x (inr y) = ap (λ (z : Extent). z.start) y.1.0 ∙ sym (fits_in_run o f a need some y.0 y.1.1.1.0 y.1.1.1.1).0
