-- The locals of a function, all at once: laid out when it is entered, and freed when it returns. They stand in a walk's context in their order, two entries each,
-- so behind a front of k entries local j stands at k + 2 · j.
--     Addresses, env   an address for each local, and the environment of the locals with these addresses
--     Holding, cells   what a local holds, and the entries of the locals with what they hold.        cell     that of one local
--     Typed            each of the values that are passed is of its parameter's type
--     starts           a function is entered: its locals are laid out behind the front, the parameters hold what is passed, and the others nothing
--     frees_all        a function has returned: its locals, which stand behind the front, are freed
--     at               a local is read
--     big_lit          a constant, whose bound a proof shows
-- Assumes nothing.
use mathlib.Core.Path.{◌≡◌, refl}
use Prim.Native.Nat.{ℕ, zero}
use mathlib.Core.List.{List, [], ◌∷◌, ◌++◌}
use lib.Dec.{T}
use seplogic.Ra.Ura.{Ura}
use base.Fraction.{full_share}
use mir.Syntax.{Local, local, Fn, Width, int_big, copy, place}
use mir.Val.{Val, vint, Fits, has_ty, WT}
use base.Logic.{SProp, ent, sep, guard_i, via, comm∗, assoc∗, assoc', mono_l, mono_r}
use base.Fml.{Share, fat, froom, fdies}
use prog.Wp.{Heap, Env, Calls, Loops, WpFn, spot_of}
use types.Logic.{Logic}
use types.Kit.{Item, ‵, Goal, prop, runs, allocs, params', passes, frees, at_ret, Seq, ◌$◌, nth, ⋆, ++⊢, ⊢++}
use types.Run.{Opd, look, init, forget, stop, from, load, enter, alloc1, alloc0, params1, pass1, pass0, free1, free0}

-- what a local holds
pub data Holding : Type 0 where
  empty : Holding
  holds : Val → Holding

-- an address for each local
abbrev pub Addresses : List Local → Type 0
Addresses [] = Unit {0}
Addresses (local τ h ∷ ls) = ℕ × Addresses ls

-- the values are of the types of the first locals
abbrev pub Typed : List Local → List Val → Type 0
Typed ls [] = Unit {0}
Typed [] (v ∷ vs) = ⊥
Typed (local τ h ∷ ls) (v ∷ vs) = (T (has_ty τ v) × WT v) × Typed ls vs

-- the same of a function's parameters, which are the locals behind the result
abbrev pub Passed : List Local → List Val → Type 0
Passed [] vs = ⊥
Passed (local τ h ∷ ls) vs = Typed ls vs

-- values, each of which a local holds
abbrev pub holding : List Val → List Holding
holding [] = []
holding (v ∷ vs) = holds v ∷ holding vs

module _ {M : Type 1} (𝓤 : Ura M) (H : Heap 𝓤) where
  -- the environment of the locals with these addresses
  abbrev pub env : (ls : List Local) → Addresses ls → Env 𝓤 H
  env [] bs = []
  env (local τ h ∷ ls) bs = (τ, bs.0) ∷ env ls bs.1

  -- the entries of the locals; those past the end of the list hold nothing
  abbrev pub cells : Env 𝓤 H → List Holding → List (Item 𝓤)
  cells [] hs = []
  cells (e ∷ E) [] = ‵ (froom e.0 e.1 zero) ∷ ‵ (fdies e.0 e.1) ∷ cells E []
  cells (e ∷ E) (empty ∷ hs) = ‵ (froom e.0 e.1 zero) ∷ ‵ (fdies e.0 e.1) ∷ cells E hs
  cells (e ∷ E) (holds v ∷ hs) = ‵ (fat full_share e.0 e.1 zero v) ∷ ‵ (fdies e.0 e.1) ∷ cells E hs

  -- the entry of local j, which holds v
  abbrev pub cell : Env 𝓤 H → ℕ → Val → Item 𝓤
  cell E j v = ‵ (fat full_share (spot_of 𝓤 H E j).0 (spot_of 𝓤 H E j).1 zero v)

-- two lists of entries change places in front of others
swapped : {M : Type 1} {𝓤 : Ura M} (𝓛 : Logic 𝓤) (Δ Ξ Γ : List (Item 𝓤)) → ent 𝓤 (⋆ 𝓛 (Δ ++ (Ξ ++ Γ))) (⋆ 𝓛 (Ξ ++ (Δ ++ Γ)))
swapped {𝓤 = 𝓤} 𝓛 Δ Ξ Γ =
    let D : SProp 𝓤 = ⋆ 𝓛 Δ in
    let X : SProp 𝓤 = ⋆ 𝓛 Ξ in
    let G : SProp 𝓤 = ⋆ 𝓛 Γ in
    via 𝓤 (sep 𝓤 D (⋆ 𝓛 (Ξ ++ Γ))) (⊢++ 𝓛 Δ (Ξ ++ Γ))
    (via 𝓤 (sep 𝓤 D (sep 𝓤 X G)) (mono_r 𝓤 D (⊢++ 𝓛 Ξ Γ))
    (via 𝓤 (sep 𝓤 (sep 𝓤 D X) G) (assoc' 𝓤 D X G)
    (via 𝓤 (sep 𝓤 (sep 𝓤 X D) G) (mono_l 𝓤 G (comm∗ 𝓤 D X))
    (via 𝓤 (sep 𝓤 X (sep 𝓤 D G)) (assoc∗ 𝓤 X D G)
    (via 𝓤 (sep 𝓤 X (⋆ 𝓛 (Δ ++ Γ))) (mono_r 𝓤 X (++⊢ 𝓛 Δ Γ)) (++⊢ 𝓛 Ξ (Δ ++ Γ)))))))

module _ {M : Type 1} {𝓤 : Ura M} {K : Type 0} (𝓛 : Logic 𝓤) where
  open 𝓛 use {H}

  swaps : (Δ Ξ Γ : List (Item 𝓤)) {G : Goal 𝓤 H} → Seq K 𝓛 (Ξ ++ (Δ ++ Γ)) G → Seq K 𝓛 (Δ ++ (Ξ ++ Γ)) G
  swaps Δ Ξ Γ s = record { prf = via 𝓤 (⋆ 𝓛 (Ξ ++ (Δ ++ Γ))) (swapped 𝓛 Δ Ξ Γ) s.prf }

  behind : (Δ Ξ : List (Item 𝓤)) {G : Goal 𝓤 H} → Seq K 𝓛 (Ξ ++ Δ) G → Seq K 𝓛 (Δ ++ Ξ) G
  behind Δ Ξ s = record {
    prf = via 𝓤 (sep 𝓤 (⋆ 𝓛 Δ) (⋆ 𝓛 Ξ)) (⊢++ 𝓛 Δ Ξ)
        (via 𝓤 (sep 𝓤 (⋆ 𝓛 Ξ) (⋆ 𝓛 Δ)) (comm∗ 𝓤 (⋆ 𝓛 Δ) (⋆ 𝓛 Ξ)) (via 𝓤 (⋆ 𝓛 (Ξ ++ Δ)) (++⊢ 𝓛 Ξ Δ) s.prf));
  }

  lays : K → (ls : List Local) (Γ : List (Item 𝓤)) {Kt : Env 𝓤 H → Goal 𝓤 H}
      → ((bs : Addresses ls) → Seq K 𝓛 (cells 𝓤 H (env 𝓤 H ls bs) [] ++ Γ) (Kt (env 𝓤 H ls bs))) → Seq K 𝓛 Γ (allocs ls Kt)
  lays t [] Γ k = alloc0 t $ k tt
  lays t (local τ h ∷ ls) Γ k =
      alloc1 t (λ b. lays t ls (‵ (froom τ b zero) ∷ ‵ (fdies τ b) ∷ Γ) (λ bs.
      swaps (cells 𝓤 H (env 𝓤 H ls bs) []) (‵ (froom τ b zero) ∷ ‵ (fdies τ b) ∷ []) Γ (k (b, bs))))

  stores : K → (ls : List Local) (bs : Addresses ls) (vs : List Val) → Typed ls vs → (Γ : List (Item 𝓤)) {g : Goal 𝓤 H}
      → Seq K 𝓛 (cells 𝓤 H (env 𝓤 H ls bs) (holding vs) ++ Γ) g → Seq K 𝓛 (cells 𝓤 H (env 𝓤 H ls bs) [] ++ Γ) (passes (env 𝓤 H ls bs) vs g)
  stores t ls bs [] ts Γ s = pass0 t $ s
  stores t [] bs (v ∷ vs) ts Γ s = absurd ts
  stores t (local τ h ∷ ls) bs (v ∷ vs) ts Γ s =
      let first : List (Item 𝓤) = ‵ (fat full_share τ bs.0 zero v) ∷ ‵ (fdies τ bs.0) ∷ [] in
      pass1 t (init t 0 refl ts.0) $ swaps first (cells 𝓤 H (env 𝓤 H ls bs.1) []) Γ
      (stores t ls bs.1 vs ts.1 (first ++ Γ) (swaps (cells 𝓤 H (env 𝓤 H ls bs.1) (holding vs)) first Γ s))

  enters : K → (ls : List Local) (vs : List Val) → Passed ls vs → (Γ : List (Item 𝓤)) {g : Env 𝓤 H → Goal 𝓤 H}
      → ((bs : Addresses ls) → Seq K 𝓛 (cells 𝓤 H (env 𝓤 H ls bs) (empty ∷ holding vs) ++ Γ) (g (env 𝓤 H ls bs))) → Seq K 𝓛 Γ (allocs ls (λ E. params' E vs (g E)))
  enters t [] vs ts Γ k = absurd ts
  enters t (local τ h ∷ ls) vs ts Γ k = lays t (local τ h ∷ ls) Γ (λ bs.
      let first : List (Item 𝓤) = ‵ (froom τ bs.0 zero) ∷ ‵ (fdies τ bs.0) ∷ [] in
      params1 t $ swaps first (cells 𝓤 H (env 𝓤 H ls bs.1) []) Γ
      (stores t ls bs.1 vs ts (first ++ Γ) (swaps (cells 𝓤 H (env 𝓤 H ls bs.1) (holding vs)) first Γ (k bs))))

  -- what is there on entry is the front, Δ
  pub starts : K → (C : Calls 𝓤 H) (Λ : Loops 𝓤 H) (f : Fn) (vs : List Val) (Kf : Val → SProp 𝓤) → Passed f.locals vs → {Δ : List (Item 𝓤)}
      → ((bs : Addresses f.locals)
      → Seq K 𝓛 (Δ ++ cells 𝓤 H (env 𝓤 H f.locals bs) (empty ∷ holding vs)) (runs C Λ (env 𝓤 H f.locals bs) f.body (at_ret (env 𝓤 H f.locals bs) Kf)))
      → Seq K 𝓛 Δ (prop (WpFn 𝓤 H C Λ f vs Kf))
  starts t C Λ f vs Kf ts {Δ} k = enter t C Λ f vs Kf $ enters t f.locals vs ts Δ (λ bs. behind (cells 𝓤 H (env 𝓤 H f.locals bs) (empty ∷ holding vs)) Δ (k bs))

  each_freed : K → (E : Env 𝓤 H) (hs : List Holding) (Γ : List (Item 𝓤)) {g : Goal 𝓤 H} → Seq K 𝓛 Γ g → Seq K 𝓛 (cells 𝓤 H E hs ++ Γ) (frees E g)
  each_freed t [] hs Γ s = free0 t $ s
  each_freed t (e ∷ E) [] Γ s = free1 t $ each_freed t E [] Γ s
  each_freed t (e ∷ E) (empty ∷ hs) Γ s = free1 t $ each_freed t E hs Γ s
  each_freed t (e ∷ E) (holds v ∷ hs) Γ s = forget t 0 refl $ free1 t $ each_freed t E hs Γ s

  -- Δ is the front, and the locals hold hs
  pub frees_all : K → (Δ : List (Item 𝓤)) (E : Env 𝓤 H) (hs : List Holding) {g : Goal 𝓤 H} → Seq K 𝓛 Δ g → Seq K 𝓛 (Δ ++ cells 𝓤 H E hs) (frees E g)
  frees_all t Δ E hs s = behind Δ (cells 𝓤 H E hs) (each_freed t E hs Δ s)

module _ {M : Type 1} {𝓤 : Ura M} {𝓛 : Logic 𝓤} {K : Type 0} {Γ : List (Item 𝓤)} where
  open 𝓛 use {H}

  -- entry n is the local, which is read
  pub at : K → (n : ℕ) {E : Env 𝓤 H} {i : ℕ} {q : Share} {v : Val} → nth 𝓛 n Γ ≡ ‵ (fat q (spot_of 𝓤 H E i).0 (spot_of 𝓤 H E i).1 (spot_of 𝓤 H E i).2 v)
      → Opd K 𝓛 Γ E (copy (place i [])) v
  at t n e = load t (from t (stop t)) (look t n e)

  -- the constant n
  pub big_lit : K → {E : Env 𝓤 H} {w : Width} {n : ℕ} → Fits w n → Opd K 𝓛 Γ E (int_big w n) (vint w n)
  big_lit t {E} {w} {n} fits = record { go = λ Kt h. via 𝓤 (Kt (vint w n)) h (guard_i 𝓤 (Fits w n) (Kt (vint w n)) fits) }
