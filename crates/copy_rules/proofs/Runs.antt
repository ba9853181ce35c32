-- Laws of a copy of elements at equal distances, whatever is read at a place: what a turn leaves is the same for every width, order and type.
-- Assumes nothing.
use mathlib.Core.Path.{◌≡◌, refl, sym, ap, subst, ◌∙◌}
use mathlib.Core.List.{List, ◌++◌}
use Prim.Native.Nat.{ℕ, zero, suc, ◌+◌, ◌-◌, ◌*◌, ◌^◌, ◌≤◌, ◌<◌, zero-le}
use native.Mathlib.Nat.{add-mul, zero-mul}
use native.Mathlib.Omega.{arith}
use lib.ListN.{length, set, take, drop, length-take, length-drop}
use Rattle.lists.specs.Lists.{list_of, lines_of, over}
use Rattle.lists.proofs.Parts.{length-part}
use Rattle.lists.proofs.Built.{length-list_of, length-lines_of}
use Rattle.lists.proofs.Filled.{filled_length, filled_more, filled_four, filled_part, filled_all, lines-length, lines_more}
use Rattle.endian_rules.specs.declared.Order.{Order}
use Rattle.copy_rules.specs.Runs.{lines_at}

-- ---- an output that is filled from the front

-- the element i of those that begin at a byte and are `step` bytes apart, where g is what is read at a byte
abbrev pub element : {A : Type 0} → (ℕ → A) → ℕ → ℕ → ℕ → A
element g at step i = g (at + i * step)

-- of an output that was `out`, the first i places hold the first i elements, and the others are as they were
pub record Filled {A : Type 0} (g : ℕ → A) (at step i : ℕ) (out now : List A) : Type 0 where
  pub most : i ≤ length out
  pub long : length now ≡ length out
  pub same : now ≡ list_of (element g at step) i ++ drop i out

filled : {A : Type 0} {g : ℕ → A} {at step i : ℕ} {out now : List A} → i ≤ length out → now ≡ list_of (element g at step) i ++ drop i out
    → Filled g at step i out now
filled {g} {at} {step} {i} {out} h e = record { most = h; long = ap length e ∙ filled_length (element g at step) i out h; same = e }

-- before the first turn
pub none_filled : {A : Type 0} (g : ℕ → A) (at step : ℕ) (out : List A) → Filled g at step 0 out out
unfolding list_of
none_filled g at step out = filled zero-le refl

module _ {A : Type 0} {g : ℕ → A} {at step i : ℕ} {out now : List A} (x : Filled g at step i out now) where
  -- one element more
  pub one_filled : {v : A} → i < length out → v ≡ g (at + i * step) → Filled g at step (i + 1) out (set now i v)
  one_filled {v} h e = filled (omega (arith, h)) ((λ t. set (x.same t) i (e t)) ∙ filled_more (element g at step) i out v h)

  -- after the last turn
  pub all_filled : length out ≤ i → now ≡ list_of (element g at step) (length out)
  all_filled h = x.same ∙ filled_all (element g at step) i out (omega (arith, x.most))

-- ---- elements from one of them on

-- where element j stands, counted from element i on
further : (at step i j : ℕ) → at + i * step + j * step ≡ at + (i + j) * step
further at step i j = omega (arith, add-mul i j step)

-- what holds of each of n bytes at equal distances holds of m of them from byte i on
pub further_holds : (holds : ℕ → Type 0) (at step n i m : ℕ) → ((j : ℕ) → j < n → holds (at + j * step)) → i + m ≤ n
    → (j : ℕ) → j < m → holds (at + i * step + j * step)
further_holds holds at step n i m each h j lt = subst holds (sym (further at step i j)) (each (i + j) (omega (arith, h, lt)))

-- so it holds of the first, and of the second
pub holds_first : (holds : ℕ → Type 0) (at step : ℕ) → holds (at + 0 * step) → holds at
holds_first holds at step h = let e : at + 0 * step ≡ at = omega arith in subst holds e h

pub holds_second : (holds : ℕ → Type 0) (at step : ℕ) → holds (at + 1 * step) → holds (at + step)
holds_second holds at step h = let e : at + 1 * step ≡ at + step = omega arith in subst holds e h

-- where each of n bytes at equal distances has a number below 2 ^ 63, that of the byte behind 4·k of them is one of 64 bits, though no element may stand there
pub byte_behind : (at step n k : ℕ) → at < 2 ^ 64 → ((i : ℕ) → i < n → at + i * step < 2 ^ 63) → 4 * k ≤ n → at + 4 * k * step < 2 ^ 64
byte_behind at step n zero small each h = omega (arith, small)
byte_behind at step n (suc k) small each h =
    let last : at + (4 * k + 3) * step < 2 ^ 63 = each (4 * k + 3) (omega (arith, h)) in
    let second : at + 1 * step < 2 ^ 63 = each 1 (omega (arith, h)) in
    let e : 4 * suc k ≡ 4 * k + 3 + 1 = omega arith in
    rw e (omega (arith, last, second, add-mul (4 * k + 3) 1 step))

-- where n elements of w bytes each are inside a file of `size` bytes, so are those from element i on
pub inside_further : (at step w n size : ℕ) → ((i : ℕ) → i < n → at + i * step + w ≤ size)
    → (i j : ℕ) → i + j < n → at + i * step + j * step + w ≤ size
inside_further at step w n size inside i j lt = omega (arith, inside (i + j) lt, further at step i j)

-- four elements, stored one by one
pub four_stored : {A : Type 0} (g : ℕ → A) (at step : ℕ) (out : List A) {a b c d : A} → length out ≡ 4
    → a ≡ g at → b ≡ g (at + step) → c ≡ g (at + 2 * step) → d ≡ g (at + 3 * step)
    → set (set (set (set out 0 a) 1 b) 2 c) 3 d ≡ list_of (element g at step) 4
unfolding list_of
four_stored g at step out {a} n ea eb ec ed =
    let pa : at ≡ at + 0 * step = omega arith in
    let pb : at + step ≡ at + 1 * step = omega arith in
    (λ t. set (set (set (set out 0 ((ea ∙ ap g pa) t)) 1 ((eb ∙ ap g pb) t)) 2 (ec t)) 3 (ed t))
    ∙ filled_four (element g at step) 0 out a (omega arith)
    ∙ filled_all (element g at step) 4 out (sym n)
    ∙ ap (list_of (element g at step)) n

module _ {A : Type 0} {g : ℕ → A} {at step i : ℕ} {out now part : List A} (x : Filled g at step i out now) where
  -- m elements more, which a call stored into a part of k places
  part_filled : (m k : ℕ) → i + m ≤ length out → part ≡ list_of (element g (at + i * step) step) m → k ≡ m
      → Filled g at step (i + m) out (take i now ++ (part ++ drop k (drop i now)))
  part_filled m k h p q =
      let r : part ≡ list_of (λ j. element g at step (i + j)) m = p ∙ (λ t. list_of (λ j. g (further at step i j t)) m) in
      filled h ((λ t. take i (x.same t) ++ (r t ++ drop k (drop i (x.same t)))) ∙ filled_part (element g at step) i m k out q)

  -- m elements more, up to place `to`, which a call stored into the k places from place `from` on
  pub up_to_filled : (from k m to : ℕ) → from ≡ i → k ≡ m → from + m ≡ to → to ≤ length out → part ≡ list_of (element g (at + from * step) step) m
      → Filled g at step to out (take from now ++ (part ++ drop k (drop from now)))
  up_to_filled from k m to begin size e room p =
      let q : part ≡ list_of (element g (at + i * step) step) m = p ∙ ap (λ (f : ℕ). list_of (element g (at + f * step) step) m) begin in
      let s : i + m ≡ to = sym (ap (λ (f : ℕ). f + m) begin) ∙ e in
      let r : Filled g at step (i + m) out (take i now ++ (part ++ drop k (drop i now))) = part_filled m k (omega (arith, s, room)) q size in
      subst (λ (f : ℕ). Filled g at step to out (take f now ++ (part ++ drop k (drop f now)))) (sym begin)
      (subst (λ (j : ℕ). Filled g at step j out (take i now ++ (part ++ drop k (drop i now)))) s r)

  -- four elements more. The place behind them is a number of 64 bits, though no element may stand there.
  pub four_filled : (w size : ℕ) → ((j : ℕ) → j < length out → at + j * step + w ≤ size) → size < 2 ^ 63
      → i + 4 ≤ length out → part ≡ list_of (element g (at + i * step) step) 4
      → Filled g at step (i + 4) out (take i now ++ (part ++ drop (i + 4 - i) (drop i now))) × (at + (i + 4) * step < 2 ^ 64)
  four_filled w size inside small h p = (
    part_filled 4 (i + 4 - i) h p (omega arith),
    omega (arith, small, inside 1 (omega (arith, h)), inside (i + 3) (omega (arith, h)), add-mul i 4 step, add-mul i 3 step),
  )

  -- the elements that are left, which a call stored into the rest of the output
  pub rest_filled : part ≡ list_of (element g (at + i * step) step) (length (take (length now - i) (drop i now)))
      → take i now ++ (part ++ drop (length now - i) (drop i now)) ≡ list_of (element g at step) (length out)
  rest_filled p =
      let k = length now - i in
      let e : length (take k (drop i now)) ≡ k = length-part i k now (omega (arith, x.most, x.long)) in
      all_filled (part_filled k k (omega (arith, x.most, x.long)) (p ∙ ap (list_of (element g (at + i * step) step)) e) refl)
      (omega (arith, x.most, x.long))

-- the elements that are left are inside the file
pub rest_inside : {A : Type 0} {g : ℕ → A} {at step i : ℕ} {out now : List A} → Filled g at step i out now
    → (w size : ℕ) → ((j : ℕ) → j < length out → at + j * step + w ≤ size)
    → (j : ℕ) → j < length (take (length now - i) (drop i now)) → at + i * step + j * step + w ≤ size
rest_inside {at} {step} {i} {out} {now} x w size inside j lt =
    inside_further at step w (length out) size inside i j (omega (arith, length-take (length now - i) (drop i now), length-drop i now))

-- ---- lines of elements

-- of an output that was `out`, the first places hold the first k lines, in which line j has the elements e j 0, e j 1 and so on, n of them, and the others
-- are as they were
pub record LinesFilled {A : Type 0} (e : ℕ → ℕ → A) (n k : ℕ) (out now : List A) : Type 0 where
  pub most : k * n ≤ length out
  pub long : length now ≡ length out
  pub same : now ≡ lines_of (λ j. list_of (e j) n) k ++ drop (k * n) out

lines_filled : {A : Type 0} {e : ℕ → ℕ → A} {n k : ℕ} {out now : List A}
    → k * n ≤ length out → now ≡ lines_of (λ j. list_of (e j) n) k ++ drop (k * n) out → LinesFilled e n k out now
lines_filled {e} {n} {k} {out} h p =
    record { most = h; long = ap length p ∙ lines-length (λ j. list_of (e j) n) n (λ j. length-list_of (e j) n) k out h; same = p }

-- before the first line
pub no_line_filled : {A : Type 0} (e : ℕ → ℕ → A) (n : ℕ) (out : List A) → LinesFilled e n 0 out out
unfolding lines_of
no_line_filled e n out = lines_filled (omega arith) (rw (zero-mul n))

module _ {A : Type 0} {e : ℕ → ℕ → A} {n k : ℕ} {out now : List A} where
  -- the part that a line is stored into has a place for each of its elements
  pub line_length_lem : LinesFilled e n k out now → k * n + n ≤ length out → length (take (k * n + n - k * n) (drop (k * n) now)) ≡ n
  line_length_lem x h =
      let m : k * n + n - k * n ≡ n = omega arith in
      rw m (length-part (k * n) n now (omega (arith, x.long)))

  -- one line more, which a call stored into that part
  pub line_filled : {part : List A} → LinesFilled e n k out now → k * n + n ≤ length out
      → part ≡ list_of (e k) (length (take (k * n + n - k * n) (drop (k * n) now)))
      → LinesFilled e n (k + 1) out (take (k * n) now ++ (part ++ drop (k * n + n - k * n) (drop (k * n) now)))
  line_filled {part} x h p =
      let r : part ≡ list_of (e k) n = p ∙ ap (list_of (e k)) (line_length_lem x h) in
      lines_filled (omega (arith, add-mul k 1 n))
      ((λ t. take (k * n) (x.same t) ++ (r t ++ drop (k * n + n - k * n) (drop (k * n) (x.same t))))
      ∙ lines_more (λ j. list_of (e j) n) n (λ j. length-list_of (e j) n) k (k * n + n - k * n) out (omega arith))

  -- after the last line
  pub lines-over : {m : ℕ} → LinesFilled e n k out now → k ≡ m → now ≡ over (lines_of (λ j. list_of (e j) n) m) out
  lines-over {m} x p = rw (length-lines_of (λ j. list_of (e j) n) n (λ j. length-list_of (e j) n) m, ← p) x.same

-- so many words have the lines of a copy
pub length-lines_at : (o : Order) (f : List ℕ) (at across along count n : ℕ) → length (lines_at o f at across along count n) ≡ count * n
length-lines_at o f at across along count n = length-lines_of _ n (λ k. length-list_of _ n) count
