-- Demand 3 and request 13 hold of the stores of every file format that meets the laws. On the way every plan is the plan on the file as
-- it came, so that a list of stores is a run of fixed plans; at each byte only the stores at one address count; and stores at one
-- address stand in the same order. Demand 3 is the case where at most one store succeeds at each address.
-- Assumes nothing.
use mathlib.Core.Path.{◌≡◌, refl, sym, ap, ap₂, subst, ◌∙◌}
use mathlib.Core.Bool.{Bool, true, false}
use mathlib.Core.Logic.{◌⊎◌, inl, inr}
use mathlib.Core.List.Memᴰ
use mathlib.Core.List.Permᴰ
use mathlib.Core.List.{List, [], ◌∷◌, ◌++◌, map, Memᴰ}
use Prim.Native.Nat.{ℕ, ◌+◌, ◌≤◌, ◌<◌}
use native.Mathlib.Omega.{arith}
use lib.ListN.{length, get_or}
use lib.Seq.{ext_get_or}
use Rattle.lists.specs.Choices.{pick}
use Rattle.lists.specs.Lists.{part, keep}
use Rattle.lists.proofs.Parts.{length-part, get_or-part}
use Rattle.lists.proofs.Stores.{sets-inside}
use Rattle.store_theory.specs.Plans.{Plan, write, refuse, answer, after, outcome, SucceedsAt, succeeds_at, Covers, Holds}
use Rattle.store_theory.specs.Series.{leaves, replies}
use Rattle.store_theory.specs.Stores.{OrderOf, All, System, Laws, alone, stores, file_after, answers, stores_at, Distinct}
use Rattle.store_theory.specs.Claims.{Demand3, Demand3Runs, LastStands, Request13}
use Rattle.store_theory.proofs.Orders.{order_mem, order-keep, order_single, only_member}
use Rattle.store_theory.proofs.Plans.{PlanInside, length-after, address, succeeds_exactly}
use Rattle.store_theory.proofs.Series.{run_is, leaves-append}
use Rattle.store_theory.proofs.Runs.{carried, length_carried, carried_other, here, carried_here, mem_here, here_mem, none_here, find}

module _ {Store Answer Opened Value : Type 0} (S : System Store Answer Opened Value) (L : Laws S) where
  -- the laws, of plans that may be refusals
  inside_of : (f : List ℕ) (s : Store) → S.Fit s → PlanInside (length f) (S.plan f s)
  inside_of f s ok = step (S.plan f s) refl
    where
      step : (p : Plan Answer) → S.plan f s ≡ p → PlanInside (length f) p
      step (write r a b) e = L.inside (record { fit = ok; told = r; planned = e })
      step (refuse r) e = tt

  opens_of : (f : List ℕ) (s : Store) → S.Fit s → S.opening (after f (S.plan f s)) ≡ S.opening f
  opens_of f s ok = step (S.plan f s) refl
    where
      step : (p : Plan Answer) → S.plan f s ≡ p → S.opening (after f p) ≡ S.opening f
      step (write r a b) e = L.opens (record { fit = ok; told = r; planned = e })
      step (refuse r) e = refl

  meet_of : (f : List ℕ) (s t : Store) (i a : ℕ) → S.Fit s → S.Fit t → Covers i (S.plan f s) → SucceedsAt a (S.plan f s)
      → Covers i (S.plan f t) → SucceedsAt a (S.plan f t)
  meet_of f s t i a ok ok' = step (S.plan f s) (S.plan f t) refl refl
    where
      step : (p q : Plan Answer) → S.plan f s ≡ p → S.plan f t ≡ q → Covers i p → SucceedsAt a p → Covers i q → SucceedsAt a q
      step (write r b x) (write u c y) e e' k w k' =
          L.meet (record { fit = ok'; told = u; planned = e' }) (record { fit = ok; told = r; planned = e }) i k'.0 k'.1 k.0 k.1 ∙ w
      step (write r b x) (refuse u) e e' k w k' = k'
      step (refuse r) (write u c y) e e' k w k' = absurd k
      step (refuse r) (refuse u) e e' k w k' = k'

  -- stores into a file g that opens as f does: every plan is the plan on f
  record Planned (f g : List ℕ) (l : List Store) : Type 0 where
    bytes : file_after S g l ≡ carried (S.plan f) g l
    told : answers S g l ≡ map (alone S f) l
    opening : S.opening (file_after S g l) ≡ S.opening f

  planned : (f g : List ℕ) (l : List Store) → All S.Fit l → S.opening g ≡ S.opening f → length g ≡ length f → Planned f g l
  unfolding leaves replies outcome
  planned f g [] ok v n = record { bytes = refl; told = refl; opening = v }
  planned f g (s ∷ l) ok v n =
      let e : S.plan g s ≡ S.plan f s = L.by_opening g f s (ok s (Memᴰ.head refl)) v n in
      let r = planned f (after g (S.plan g s)) l (λ t m. ok t (Memᴰ.tail m)) (opens_of g s (ok s (Memᴰ.head refl)) ∙ v) (length-after g (S.plan g s) ∙ n) in
      record {
        bytes = r.bytes ∙ ap (λ p. carried (S.plan f) (after g p) l) e;
        told = ap₂ ◌∷◌ (ap answer e) r.told;
        opening = r.opening;
      }

  -- each store is answered as it would be alone on a file that opens alike
  pub answers-alone : (f g : List ℕ) (l : List Store) → All S.Fit l → S.opening g ≡ S.opening f → length g ≡ length f
      → answers S g l ≡ map (alone S f) l
  answers-alone f g l ok v n = (planned f g l ok v n).told

  -- opening answers as before
  pub opening-after : (f : List ℕ) (l : List Store) → All S.Fit l → S.opening (file_after S f l) ≡ S.opening f
  opening-after f l ok = (planned f f l ok refl refl).opening

  -- the file is as long as before
  pub length-after_all : (f : List ℕ) (l : List Store) → All S.Fit l → length (file_after S f l) ≡ length f
  length-after_all f l ok = ap length (planned f f l ok refl refl).bytes ∙ length_carried (S.plan f) f l

  -- a store that comes behind others does on the file that they leave what it would do alone on the file as it came: where one of the two succeeds, so does the other,
  -- and at the same address
  pub plan-after : (f : List ℕ) (before : List Store) (s : Store) → All S.Fit before → S.Fit s → S.plan (file_after S f before) s ≡ S.plan f s
  plan-after f before s ok fit = L.by_opening (file_after S f before) f s fit (opening-after f before ok) (length-after_all f before ok)

  -- stores at one address in the same order leave the same bytes
  same_bytes : (f : List ℕ) (l m : List Store) → All S.Fit l → All S.Fit m → OrderOf l m
      → ((a : ℕ) → stores_at S f a l ≡ stores_at S f a m) → carried (S.plan f) f l ≡ carried (S.plan f) f m
  unfolding stores_at
  same_bytes f l m ok ok' o e =
      ext_get_or 0 _ _ (length_carried (S.plan f) f l ∙ sym (length_carried (S.plan f) f m)) (λ i h. step i (find (S.plan f) i l))
    where
      at_address : (i a : ℕ) (s : Store) → S.Fit s → Covers i (S.plan f s) → SucceedsAt a (S.plan f s) → (k : List Store)
          → All S.Fit k → get_or (carried (S.plan f) f k) i 0 ≡ get_or (carried (S.plan f) f (here (S.plan f) a k)) i 0
      at_address i a s oks c w k okk =
          carried_here (S.plan f) (length f) i a f f k (λ t tk v. meet_of f s t i a oks (okk t tk) c w v) (λ t tk. inside_of f t (okk t tk)) refl refl refl

      step : (i : ℕ) → ((s : Store) × Memᴰ s l × Covers i (S.plan f s)) ⊎ All (λ s. ¬ Covers i (S.plan f s)) l
          → get_or (carried (S.plan f) f l) i 0 ≡ get_or (carried (S.plan f) f m) i 0
      step i (inl (s, sl, c)) =
          let w = address i (S.plan f s) c in
          at_address i w.0 s (ok s sl) c w.1 l ok
          ∙ ap (λ (x : List Store). get_or (carried (S.plan f) f x) i 0) (e w.0)
          ∙ sym (at_address i w.0 s (ok s sl) c w.1 m ok')
      step i (inr h) =
          carried_other (S.plan f) i f l h ∙ sym (carried_other (S.plan f) i f m (λ t tm. h t (order_mem (Permᴰ.symm o) tm)))

  -- the last store at an address is read back
  read_last : (f : List ℕ) (l : List Store) → All S.Fit l → (a : ℕ) (before : List Store) (s : Store)
      → stores_at S f a l ≡ before ++ s ∷ [] → S.read (file_after S f l) s ≡ S.number s
  unfolding stores_at leaves outcome
  read_last f l ok a before s e = step (S.plan f s) refl in-l.1
    where
      in-l : Memᴰ s l × SucceedsAt a (S.plan f s)
      in-l = here_mem (S.plan f) a s l (subst (λ (x : List Store). Memᴰ s x) (sym e) (Memᴰ.append_right before (Memᴰ.head refl)))

      p : Planned f f l
      p = planned f f l ok refl refl

      n : length (file_after S f l) ≡ length f
      n = length-after_all f l ok

      okₛ : S.Fit s
      okₛ = ok s in-l.0

      step : (q : Plan Answer) → S.plan f s ≡ q → SucceedsAt a q → S.read (file_after S f l) s ≡ S.number s
      step (refuse u) q w = absurd w
      step (write u c b) q w =
          L.reads (record { fit = okₛ; told = u; planned = L.by_opening (file_after S f l) f s okₛ p.opening n ∙ q }) holds
        where
          fits : c + length b ≤ length f
          fits = L.inside (record { fit = okₛ; told = u; planned = q })

          byte : (k : ℕ) → k < length b → get_or (file_after S f l) (c + k) 0 ≡ get_or b k 0
          byte k lt =
              ap (λ (x : List ℕ). get_or x (c + k) 0) p.bytes
              ∙ carried_here (S.plan f) (length f) (c + k) a f f l (λ t tl kt. meet_of f s t (c + k) a okₛ (ok t tl) (rw q (omega arith, omega arith)) in-l.1 kt) (λ t tl. inside_of f t (ok t tl)) refl refl refl
              ∙ ap (λ (x : List Store). get_or (carried (S.plan f) f x) (c + k) 0) e
              ∙ ap (λ (x : List ℕ). get_or x (c + k) 0) (leaves-append (λ (g : List ℕ) (t : Store). outcome g (S.plan f t)) f before (s ∷ []))
              ∙ ap (λ (r : Plan Answer). get_or (after (carried (S.plan f) f before) r) (c + k) 0) q
              ∙ sets-inside b (carried (S.plan f) f before) c k 0 (rw length_carried fits) lt

          long : length (part c (length b) (file_after S f l)) ≡ length b
          long = length-part c (length b) (file_after S f l) (rw n fits)

          holds : Holds (file_after S f l) c b
          holds =
              ext_get_or 0 _ b long
              (λ k lt. get_or-part c (length b) (file_after S f l) k 0 (omega (arith, long)) ∙ byte k (omega (arith, long)))

  -- request 13
  pub last_stands : Request13 S
  last_stands f l m ok o e =
      let ok' : All S.Fit m = λ t tm. ok t (order_mem (Permᴰ.symm o) tm) in
      let p = planned f f l ok refl refl in
      let p' = planned f f m ok' refl refl in
      record {
        same = p.bytes ∙ same_bytes f l m ok ok' o e ∙ sym p'.bytes;
        stored = read_last f l ok;
        answered = p.told;
        answered' = p'.told;
        others = λ i h. ap (λ (x : List ℕ). get_or x i 0) p.bytes ∙ carried_other (S.plan f) i f l h;
        size = length-after_all f l ok;
        opening = p.opening;
      }

  -- no two stores succeed at one address: at most one does at each
  one_each : (f : List ℕ) (l : List Store) → Distinct S f l → (a : ℕ) → length (stores_at S f a l) ≤ 1
  unfolding stores_at keep
  one_each f [] d a = omega arith
  one_each f (s ∷ l) (apart, d) a = step (succeeds_at a (S.plan f s)) refl (one_each f l d a)
    where
      step : (u : Bool) → succeeds_at a (S.plan f s) ≡ u → length (here (S.plan f) a l) ≤ 1
          → length (pick u (s ∷ here (S.plan f) a l) (here (S.plan f) a l)) ≤ 1
      step true u h =
          let w = (succeeds_exactly a (S.plan f s)).0 u in
          let e : here (S.plan f) a l ≡ [] = none_here (S.plan f) a l (λ t m v. apart t m a w v) in
          rw e (omega arith)
      step false u h = h

  -- demand 3
  pub order-free : Demand3 S
  unfolding stores_at
  order-free f l ok apart =
      let one : (a : ℕ) → length (here (S.plan f) a l) ≤ 1 = one_each f l apart in
      let w = last_stands f l l ok (Permᴰ.refl l) (λ a. refl) in
      let to : (o : List Store) → OrderOf l o → LastStands S f l o =
      λ o p. last_stands f l o ok p (λ a. order_single (order-keep (λ s. succeeds_at a (S.plan f s)) p) (one a)) in
      record {
        bytes = file_after S f l;
        same = λ o p. sym (to o p).same;
        answered = λ o p. (to o p).answered';
        stored = λ s sl a v. w.stored a [] s (only_member (mem_here (S.plan f) a sl v) (one a));
        others = w.others;
        size = w.size;
        opening = w.opening;
      }

  -- demand 3 of functions
  pub runs_free : Demand3Runs S
  runs_free f l ok apart =
      let d = order-free f l ok apart in
      record {
        free = d;
        answered = λ o rs h p r. (run_is (stores S) r).0 ∙ d.answered o p;
        left = λ o rs h p r. (run_is (stores S) r).1 ∙ d.same o p;
      }
