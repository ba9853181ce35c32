-- What a loop that fills a lent output leaves behind. After i turns the output's first places hold what the turns stored, and
-- the rest is as it was: `list_of f i ++ drop i out`, or for lines of n elements `lines_of g i ++ drop (i * n) out`.
-- Assumes nothing.
use mathlib.Core.Path.{◌≡◌, refl, sym, ap, ◌∙◌}
use mathlib.Core.List.{List, [], ◌∷◌, ◌++◌, append_assoc, append-nil}
use Prim.Native.Nat.{ℕ, suc, ◌+◌, ◌-◌, ◌*◌, ◌≤◌, ◌<◌}
use native.Mathlib.Nat.{suc-mul}
use native.Mathlib.Numerals.{add-one}
use native.Mathlib.Omega.{arith}
use lib.ListN.{length, get_or, set, take, drop, length-append, length-drop, get_or-append}
use lib.Seq.{drop-cons, drop-length, drop-drop, drop-append-add, set_at, take_at, drop_at, get_or-append-add, get_or-drop}
use Rattle.lists.specs.Lists.{list_of, lines_of, over}
use Rattle.lists.proofs.Built.{length-list_of, list_of-append, length-lines_of}

module _ {A : Type 0} where
  -- k elements in front of what stood behind the first k: the length is as it was
  front_length : (l out : List A) (k : ℕ) → length l ≡ k → k ≤ length out → length (l ++ drop k out) ≡ length out
  front_length l out k e h = length-append l (drop k out) ∙ omega (arith, length-drop k out)

  -- a copy leaves the output's length, its own elements in front, and what stood behind them
  pub length-over : (l out : List A) → length l ≤ length out → length (over l out) ≡ length out
  length-over l out h = front_length l out (length l) refl h

  pub over_front : (l out : List A) (i : ℕ) (d : A) → i < length l → get_or (over l out) i d ≡ get_or l i d
  over_front l out i d h = get_or-append l (drop (length l) out) d i h

  pub over_rest : (l out : List A) (i : ℕ) (d : A) → length l ≤ i → get_or (over l out) i d ≡ get_or out i d
  over_rest l out i d h =
      let e : i ≡ length l + (i - length l) = omega arith in
      ap (λ (k : ℕ). get_or (over l out) k d) e
      ∙ get_or-append-add l (drop (length l) out) (i - length l) d
      ∙ get_or-drop (length l) out (i - length l) d
      ∙ ap (λ (k : ℕ). get_or out k d) (sym e)

  pub over_all : (l out : List A) → length l ≡ length out → over l out ≡ l
  over_all l out e = rw (e, drop-length out) (append-nil l)

  -- a copy over a shorter one leaves nothing of it
  pub over_again : (l k out : List A) → length k ≤ length l → over l (over k out) ≡ over l out
  over_again l k out h =
      let e : length l ≡ length k + (length l - length k) = omega arith in
      ap (λ (x : List A). l ++ x)
      (ap (λ (n : ℕ). drop n (over k out)) e
      ∙ drop-append-add k (drop (length k) out) (length l - length k)
      ∙ drop-drop (length l - length k) (length k) out
      ∙ ap (λ (n : ℕ). drop n out) (sym e))

module _ {A : Type 0} (f : ℕ → A) where
  -- a copy of a list by its index is what a loop of that many turns leaves
  pub over-list_of : (n : ℕ) (out : List A) → over (list_of f n) out ≡ list_of f n ++ drop n out
  over-list_of n out = rw (length-list_of f n)

  pub filled_length : (i : ℕ) (out : List A) → i ≤ length out → length (list_of f i ++ drop i out) ≡ length out
  filled_length i out h = front_length (list_of f i) out i (length-list_of f i) h

  -- one turn more
  pub filled_more : (i : ℕ) (out : List A) (d : A) → i < length out
      → set (list_of f i ++ drop i out) i (f i) ≡ list_of f (i + 1) ++ drop (i + 1) out
  unfolding list_of
  filled_more i out d h =
      rw (add-one i, drop-cons out i d h)
      (set_at (list_of f i) (get_or out i d) (drop (suc i) out) (f i) i (length-list_of f i)
      ∙ sym (append_assoc (list_of f i) (f i ∷ []) (drop (suc i) out)))

  -- four turns more
  pub filled_four : (i : ℕ) (out : List A) (d : A) → i + 4 ≤ length out
      → set (set (set (set (list_of f i ++ drop i out) i (f i)) (i + 1) (f (i + 1))) (i + 2) (f (i + 2))) (i + 3) (f (i + 3)) ≡ list_of f (i + 4) ++ drop (i + 4) out
  filled_four i out d h =
      ap (λ (l : List A). set (set (set l (i + 1) (f (i + 1))) (i + 2) (f (i + 2))) (i + 3) (f (i + 3))) (filled_more i out d (omega arith))
      ∙ ap (λ (l : List A). set (set l (i + 2) (f (i + 2))) (i + 3) (f (i + 3))) (next 1 2 (omega arith) (omega arith))
      ∙ ap (λ (l : List A). set l (i + 3) (f (i + 3))) (next 2 3 (omega arith) (omega arith))
      ∙ next 3 4 (omega arith) (omega arith)
    where
      next : (a b : ℕ) → i + a + 1 ≡ i + b → i + a < length out
          → set (list_of f (i + a) ++ drop (i + a) out) (i + a) (f (i + a)) ≡ list_of f (i + b) ++ drop (i + b) out
      next a b e lt = filled_more (i + a) out d lt ∙ ap (λ (x : ℕ). list_of f x ++ drop x out) e

  -- what is filled up to i is filled over itself up to i: the invariant of a loop that goes on where another stopped
  pub filled_over : (i : ℕ) (out now : List A) → now ≡ list_of f i ++ drop i out → now ≡ list_of f i ++ drop i now
  filled_over i out now e =
      e ∙ ap (λ (l : List A). list_of f i ++ l) (sym (drop_at (list_of f i) (drop i out) i (length-list_of f i)) ∙ ap (drop i) (sym e))

  -- m turns more at once, stored into the middle
  pub filled_part : (i m k : ℕ) (out : List A) → k ≡ m
      → take i (list_of f i ++ drop i out) ++ (list_of (λ j. f (i + j)) m ++ drop k (drop i (list_of f i ++ drop i out))) ≡ list_of f (i + m) ++ drop (i + m) out
  filled_part i m k out e =
      let p : length (list_of f i) ≡ i = length-list_of f i in
      rw (e, take_at (list_of f i) (drop i out) i p, drop_at (list_of f i) (drop i out) i p, drop-drop m i out, ← list_of-append f i m)
      (sym (append_assoc (list_of f i) (list_of (λ j. f (i + j)) m) (drop (i + m) out)))

  -- after the last turn nothing is left of what the output held before
  pub filled_all : (i : ℕ) (out : List A) → i ≡ length out → list_of f i ++ drop i out ≡ list_of f (length out)
  filled_all i out e = rw (e, drop-length out) (append-nil (list_of f (length out)))

-- lines of n elements each
module _ {A : Type 0} (g : ℕ → List A) (n : ℕ) (all : (k : ℕ) → length (g k) ≡ n) where
  pub lines-length : (k : ℕ) (out : List A) → k * n ≤ length out → length (lines_of g k ++ drop (k * n) out) ≡ length out
  lines-length k out h = front_length (lines_of g k) out (k * n) (length-lines_of g n all k) h

  -- one line more, stored into the middle
  pub lines_more : (k m : ℕ) (out : List A) → m ≡ n
      → take (k * n) (lines_of g k ++ drop (k * n) out) ++ (g k ++ drop m (drop (k * n) (lines_of g k ++ drop (k * n) out))) ≡ lines_of g (k + 1) ++ drop ((k + 1) * n) out
  unfolding lines_of
  lines_more k m out e =
      let q : (k + 1) * n ≡ k * n + n = ap (λ (x : ℕ). x * n) (add-one k) ∙ suc-mul k n in
      let p : length (lines_of g k) ≡ k * n = length-lines_of g n all k in
      rw (e, q, add-one k, take_at (lines_of g k) (drop (k * n) out) (k * n) p, drop_at (lines_of g k) (drop (k * n) out) (k * n) p, drop-drop n (k * n) out)
      (sym (append_assoc (lines_of g k) (g k) (drop (k * n + n) out)))
