-- The laws can be met: a small format, whose places are single bytes and whose layout is the file's length.
-- Assumes nothing.
use mathlib.Core.Path.{◌≡◌, refl, sym, ap, ◌∙◌}
use mathlib.Core.Bool.{Bool, true, false}
use mathlib.Core.List.{List, [], ◌∷◌}
use Prim.Native.Nat.{ℕ, ◌+◌, ◌<◌}
use native.Mathlib.Omega.{arith}
use lib.Dec.{ltb, eqb}
use lib.ListN.{length, get_or}
use lib.Seq.{length-sets}
use borrow.Author.Tests.{eqb-true, eq-eqb, ltb-true}
use Rattle.lists.specs.Choices.{pick}
use Rattle.lists.proofs.Parts.{get_or-part}
use Rattle.store_theory.specs.Plans.{Plan, write, refuse, outcome, Holds}
use Rattle.store_theory.specs.Series.{leaves, replies}
use Rattle.store_theory.specs.Stores.{file_after, answers}
use Rattle.store_theory.specs.Claims.{Demand3}
use Rattle.store_theory.specs.Formats.{Format, plan, system, Writes, FormatLaws}
use Rattle.store_theory.proofs.Plans.{refuse-write}
use Rattle.store_theory.proofs.Formats.{demand3}

-- a store of one byte: the layout, the index and the byte
record Put : Type 0 where
  size : ℕ
  index : ℕ
  byte : ℕ

abbrev put : ℕ → ℕ → ℕ → Put
put size index byte = record { size = size; index = index; byte = byte }

-- what a store is answered
data Answer : Type 0 where
  stored stale outside : Answer

-- an index outside the file is refused
abbrev put_byte : Put → Plan Answer
put_byte s = pick (ltb s.index s.size) (write stored s.index (s.byte ∷ [])) (refuse outside)

abbrev cells : Format Put (Unit {0}) ℕ Answer ℕ
cells =
    record {
      key = λ s. tt;
      grid = λ s. 0;
      Typed = λ s. Unit {0};
      open_as = λ f k g. length f;
      layout = λ s. s.size;
      same = λ s x. eqb x s.size;
      stale = stale;
      when_fresh = put_byte;
      read = λ f s. get_or f s.index 0;
      number = λ s. s.byte;
    }

-- what a store that succeeds writes, and where
record Is (s : Put) (a : ℕ) (b : List ℕ) : Type 0 where
  room : s.index < s.size
  address : a ≡ s.index
  bytes : b ≡ s.byte ∷ []

written : (s : Put) (r : Answer) (a : ℕ) (b : List ℕ) → put_byte s ≡ write r a b → Is s a b
written s r a b = step (ltb s.index s.size) refl
  where
    step : (t : Bool) → ltb s.index s.size ≡ t → pick t (write stored s.index (s.byte ∷ [])) (refuse outside) ≡ write r a b
        → Is s a b
    step true e q = record { room = ltb-true s.index s.size e; address = cc; bytes = cc }
    step false e q = refuse-write q

of : {f : List ℕ} {s : Put} {a : ℕ} {b : List ℕ} → Writes cells f s a b → Is s a b
of {s = s} {a = a} {b = b} w = written s w.told a b w.planned

held : (f : List ℕ) (s : Put) (a : ℕ) (b : List ℕ) → Is s a b → Holds f a b → get_or f s.index 0 ≡ s.byte
held f s a b i h =
    let here : s.index ≡ a + 0 = omega (arith, i.address) in
    ap (λ (x : ℕ). get_or f x 0) here
    ∙ sym (get_or-part a (length b) f 0 0 (omega (arith, ap length i.bytes)))
    ∙ ap (λ (l : List ℕ). get_or l 0 0) (h ∙ i.bytes)

laws : FormatLaws cells
laws =
    record {
      exact = λ s x. (eqb-true x s.size, eq-eqb x s.size);
      inside = λ w. let i = of w in omega (arith, ap length i.bytes, i.room, i.address, w.fresh);
      frame = λ {f} {s} {a} {b} w g. length-sets f a b;
      base = λ f k. 0;
      width = λ f k. 1;
      lattice = λ {f} {s} w. let i = of w in (s.index, omega (arith, i.address), ap length i.bytes);
      reads = λ {f} {s} {a} {b} w h. held f s a b (of w) h;
    }

order-free : Demand3 (system cells tt)
order-free = demand3 cells laws tt

-- three stores on a file of three bytes, computed: the second has a layout of another length
abbrev puts : List Put
puts = put 3 0 7 ∷ put 4 1 8 ∷ put 3 2 9 ∷ []

bytes_left : file_after (system cells tt) (1 ∷ 2 ∷ 3 ∷ []) puts ≡ 7 ∷ 2 ∷ 9 ∷ []
unfolding leaves outcome plan
bytes_left = refl

answers-given : answers (system cells tt) (1 ∷ 2 ∷ 3 ∷ []) puts ≡ stored ∷ stale ∷ stored ∷ []
unfolding replies outcome plan
answers-given = refl
