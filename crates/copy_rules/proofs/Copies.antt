-- Laws of a copy into a lent output: what it answers, and what it leaves at each place.
-- Assumes nothing.
use mathlib.Core.Path.{◌≡◌, refl, sym, ap, ◌∙◌}
use mathlib.Core.List.{List, ◌++◌}
use mathlib.Core.Logic.{◌↔◌}
use Prim.Native.Nat.{ℕ, ◌≤◌, ◌<◌}
use native.Mathlib.Decide.{dec_lt}
use native.Mathlib.Omega.{arith}
use lib.Dec.{leb}
use lib.ListN.{length, get_or, take, drop}
use lib.Seq.{length-take-le}
use borrow.Author.Tests.{le-leb, lt-leb, leb-true}
use Rattle.lists.specs.Lists.{list_of, over}
use Rattle.lists.proofs.Choices.{pick_cases}
use Rattle.lists.proofs.Built.{length-list_of}
use Rattle.lists.proofs.Filled.{length-over, over_front, over_rest, over-list_of}
use Rattle.refusal_rules.specs.Answers.{Answer, gives, refuses}
use Rattle.refusal_rules.proofs.Answers.{gives-refuses, gives-same, refuses_alike, mapped-refuses}
use Rattle.copy_rules.specs.Runs.{copied}

-- equal refusals have one number
same-number : {m q n p : ℕ} → ◌≡◌ {A = Answer ℕ} (refuses m q) (refuses n p) → m ≡ n
same-number e = cc

module _ {Value : Type 0} where
  -- an output that is long enough takes what is copied, and the answer is how many places were written
  pub copied-over : (l out : List Value) → length l ≤ length out → copied (gives l) out ≡ (gives (length l), over l out)
  copied-over l out h = rw (le-leb (length l) (length out) h)

  -- too short an output is refused with 10, and left as it was
  pub copied_short : (l out : List Value) → length out < length l → copied (gives l) out ≡ (refuses 10 0, out)
  copied_short l out h = rw (lt-leb (length l) (length out) h)

  -- so it is where the elements are counted otherwise, and `now` is the output after the copy
  pub counted_over : (l out now : List Value) (n : ℕ) → now ≡ over l out → length l ≡ n → n ≤ length out → (gives n, now) ≡ copied (gives l) out
  counted_over l out now n p e h = (λ t. (gives (sym e t), p t)) ∙ sym (copied-over l out (omega (arith, e, h)))

  pub counted_short : (l out : List Value) (n : ℕ) → length l ≡ n → length out < n → (refuses 10 0, out) ≡ copied (gives l) out
  counted_short l out n e h = sym (copied_short l out (omega (arith, e, h)))

  -- where f 0, f 1 and so on are copied, n of them, that is what a call leaves that fills the first n places with them
  pub listed-over : (f : ℕ → Value) (n : ℕ) (out part : List Value) → n ≤ length out → part ≡ list_of f (length (take n out))
      → (gives n, part ++ drop n out) ≡ copied (gives (list_of f n)) out
  listed-over f n out part h e =
      let same : part ≡ list_of f n = e ∙ ap (list_of f) (length-take-le n out h) in
      counted_over (list_of f n) out (part ++ drop n out) n
      (ap (λ (l : List Value). l ++ drop n out) same ∙ sym (over-list_of f n out))
      (length-list_of f n)
      h

  pub listed_short : (f : ℕ → Value) (n : ℕ) (out : List Value) → length out < n → (refuses 10 0, out) ≡ copied (gives (list_of f n)) out
  listed_short f n out h = counted_short (list_of f n) out n (length-list_of f n) h

  -- where a property holds of both, it holds of what the length of the output decides
  decided : (P : Answer ℕ × List Value → Type 0) (l out : List Value) → (length l ≤ length out → P (gives (length l), over l out)) → P (refuses 10 0, out)
      → P (copied (gives l) out)
  decided P l out long short =
      pick_cases P (leb (length l) (length out)) (gives (length l), over l out) (refuses 10 0, out)
      (λ e. long (leb-true (length l) (length out) e))
      (λ e. short)

  -- whatever is refused, the output is left as it was
  pub copied_refused : (x : Answer (List Value)) (out : List Value) (n p : ℕ) → (copied x out).0 ≡ refuses n p → (copied x out).1 ≡ out
  copied_refused (refuses m q) out n p e = refl
  copied_refused (gives l) out n p e = decided (λ r. r.0 ≡ refuses n p → r.1 ≡ out) l out (λ h f. gives-refuses f) (λ f. refl) e

  -- a refusal with another number than 10 is given exactly where what is copied is refused so
  pub copied-refuses : (x : Answer (List Value)) (out : List Value) (n p : ℕ) → ¬ (n ≡ 10) → ((copied x out).0 ≡ refuses n p) ↔ (x ≡ refuses n p)
  copied-refuses (refuses m q) out n p other = mapped-refuses length (refuses m q) n p
  copied-refuses (gives l) out n p other = (
    decided (λ r. r.0 ≡ refuses n p → gives l ≡ refuses n p) l out (λ h e. gives-refuses e) (λ e. absurd (other (sym (same-number e)))),
    λ e. gives-refuses e,
  )

  -- so where 9 says that a layout is stale, it says so of the copy
  pub copied_nine : {Stale : Type 0} (x : Answer (List Value)) (out : List Value) → ((x ≡ refuses 9 0) ↔ Stale) → ((copied x out).0 ≡ refuses 9 0) ↔ Stale
  copied_nine x out stale =
      let same = copied-refuses x out 9 0 (λ e. let z : ⊥ = omega arith in z) in
      (λ e. stale.0 (same.0 e), λ s. same.1 (stale.1 s))

  -- where what is copied is not itself refused with 10, a copy is refused with 10 exactly where there is something to copy and the output is too short for it
  pub copied_ten : (x : Answer (List Value)) (out : List Value) → ¬ (x ≡ refuses 10 0)
      → ((copied x out).0 ≡ refuses 10 0) ↔ ((l : List Value) × (x ≡ gives l) × (length out < length l))
  copied_ten (refuses m q) out other = (λ e. absurd (other (refuses_alike e)), λ p. gives-refuses (sym p.1))
  copied_ten (gives l) out other = (
    λ e. (l, refl, short (dec_lt (length out) (length l)) e),
    λ p. let same : l ≡ p.0 = gives-same p.1 in ap (λ (r : Answer ℕ × List Value). r.0) (copied_short l out (omega (arith, p.2, ap length same))),
  )
    where
      short : Dec (length out < length l) → (copied (gives l) out).0 ≡ refuses 10 0 → length out < length l
      short (yes h) e = h
      short (no long) e =
          let over : length l ≤ length out = omega (arith, long) in
          gives-refuses (sym (ap (λ (r : Answer ℕ × List Value). r.0) (copied-over l out over)) ∙ e)

  -- the first places hold what is copied
  pub copied_front : (l out : List Value) (i : ℕ) (d : Value) → length l ≤ length out → i < length l → get_or (copied (gives l) out).1 i d ≡ get_or l i d
  copied_front l out i d h lt = rw (copied-over l out h) (over_front l out i d lt)

  -- the other places are as they were
  pub copied_rest : (l out : List Value) (i : ℕ) (d : Value) → length l ≤ i → get_or (copied (gives l) out).1 i d ≡ get_or out i d
  copied_rest l out i d h = decided (λ r. get_or r.1 i d ≡ get_or out i d) l out (λ long. over_rest l out i d h) refl

  -- the length of the output stays
  pub copied-length : (x : Answer (List Value)) (out : List Value) → length (copied x out).1 ≡ length out
  copied-length (refuses n p) out = refl
  copied-length (gives l) out = decided (λ r. length r.1 ≡ length out) l out (length-over l out) refl
