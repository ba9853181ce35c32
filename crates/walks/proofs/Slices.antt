-- Steps for a slice in a local, as MIR has it: a struct of the pointer and of how many elements there are.
--     member           field k of a struct in a local is read, where the local stands at n
--     lends_on         a slice is lent on, `&mut *s` or `&*s`: its pointer goes into one local, and a slice of this pointer and of as many elements into another. The
--                      slice stands at n, and the two locals at k and j
-- Assumes nothing.
use mathlib.Core.Path.{◌≡◌, sym, subst, ◌∙◌}
use mathlib.Core.Option.{some}
use mathlib.Core.List.{List, [], ◌∷◌}
use Prim.Native.Nat.{ℕ, zero, ◌+◌}
use seplogic.Ra.Ura.{Ura}
use base.Fraction.{full_share}
use lib.Dec.{T}
use mir.Fields.{get_v, set_v}
use mir.Syntax.{Sym, Ty, ty_struct, ty_int, w64, Tys, tcons, tnil, copy, place, field, deref, addr_of, aggregate, Body, seq, assign}
use mir.Val.{Val, Vals, vstruct, vptr, has_ty, WT}
use base.Fml.{Share, fat, froom}
use prog.Memory.{field_at, field_of}
use prog.Wp.{Heap, Env, Calls, Loops, spot_of}
use types.Logic.{Logic}
use types.Kit.{Item, ‵, Post, runs, nth, put, Step, step, ◌$◌}
use types.Part.{Part, agg, whole, sub, look_in}
use types.Run.{Opd, Reads, init, stop, hop, fld, from, load, addr, and_then, no_more, assigns}
use denote.Slice.{slice_ty, slice_val}
use Rattle.walks.proofs.Locals.{at}

-- the entry of local x, which holds v
abbrev Entry : {M : Type 1} (𝓤 : Ura M) (H : Heap 𝓤) → Env 𝓤 H → ℕ → Val → Item 𝓤
Entry 𝓤 H E x v = ‵ (fat full_share (spot_of 𝓤 H E x).0 (spot_of 𝓤 H E x).1 (spot_of 𝓤 H E x).2 v)

-- the same, of a local that holds nothing
abbrev Empty : {M : Type 1} (𝓤 : Ura M) (H : Heap 𝓤) → Env 𝓤 H → ℕ → Item 𝓤
Empty 𝓤 H E x = ‵ (froom (spot_of 𝓤 H E x).0 (spot_of 𝓤 H E x).1 (spot_of 𝓤 H E x).2)

-- v is of the type of local x
abbrev Takes : {M : Type 1} (𝓤 : Ura M) (H : Heap 𝓤) → Env 𝓤 H → ℕ → Val → Type 0
Takes 𝓤 H E x v = T (has_ty (spot_of 𝓤 H E x).0 v) × WT v

module _ {M : Type 1} {𝓤 : Ura M} {𝓛 : Logic 𝓤} {K : Type 0} {Γ : List (Item 𝓤)} where
  open 𝓛 use {H}

  -- field k of the struct at entry n is part of it
  reads_member : K → (n k : ℕ) {s : Share} {ν : Sym} {τs : Tys} {vs : Vals} {τ : Ty} {b o d : ℕ}
      → nth 𝓛 n Γ ≡ ‵ (fat s (ty_struct ν τs) b o (vstruct vs)) → field_at zero τs k ≡ some (τ, d) → Reads K 𝓛 Γ τ b (o + d) (get_v vs k)
  reads_member t n k {s} {ν} {τs} {vs} {τ} {b} {o} {d} e in_struct =
      look_in t n (subst (λ (z : Item 𝓤). Part K 𝓛 z s τ b (o + d) (get_v vs k) (λ u. ‵ (fat s (ty_struct ν τs) b o (vstruct (set_v vs k u))))) (sym e)
      (sub t k in_struct (whole t)))

  module _ {E : Env 𝓤 H} where
    -- field k of the struct at entry n is read
    pub member : K → (n k : ℕ) {i : ℕ} {s : Share} {ν : Sym} {τs : Tys} {vs : Vals} {τ : Ty} {d : ℕ}
        → nth 𝓛 n Γ ≡ ‵ (fat s (ty_struct ν τs) (spot_of 𝓤 H E i).1 (spot_of 𝓤 H E i).2 (vstruct vs)) → field_at zero τs k ≡ some (τ, d)
        → field_of (spot_of 𝓤 H E i).0 k ≡ some (τ, d)
        → Opd K 𝓛 Γ E (copy (place i (field k ∷ []))) (get_v vs k)
    member t n k e in_struct in_place = load t (from t (fld t in_place (stop t))) (reads_member t n k e in_struct)

module _ {M : Type 1} {𝓤 : Ura M} {𝓛 : Logic 𝓤} {K : Type 0} {Γ : List (Item 𝓤)} {E : Env 𝓤 𝓛.H} where
  open 𝓛 use {H}

  -- the slice at entry n is lent on
  pub lends_on : K → {C : Calls 𝓤 H} {Λ : Loops 𝓤 H} {q : Post 𝓤 H} {rest : Body} (n k j : ℕ) {i x y : ℕ} {s : Share} {τ ρ : Ty} {b o m c d : ℕ}
      → nth 𝓛 n Γ ≡ ‵ (fat s (slice_ty ρ) (spot_of 𝓤 H E i).1 (spot_of 𝓤 H E i).2 (slice_val (b, o) m))
      → field_at zero (tcons ρ (tcons (ty_int w64) tnil)) 0 ≡ some (ρ, c) → field_of (spot_of 𝓤 H E i).0 0 ≡ some (ρ, c)
      → field_at zero (tcons ρ (tcons (ty_int w64) tnil)) 1 ≡ some (ty_int w64, d) → field_of (spot_of 𝓤 H E i).0 1 ≡ some (ty_int w64, d)
      → nth 𝓛 k Γ ≡ Empty 𝓤 H E x → Takes 𝓤 H E x (vptr b o)
      → nth 𝓛 n (put 𝓛 k (Entry 𝓤 H E x (vptr b o)) Γ) ≡ nth 𝓛 n Γ → nth 𝓛 k (put 𝓛 k (Entry 𝓤 H E x (vptr b o)) Γ) ≡ Entry 𝓤 H E x (vptr b o)
      → nth 𝓛 j (put 𝓛 k (Entry 𝓤 H E x (vptr b o)) Γ) ≡ Empty 𝓤 H E y → Takes 𝓤 H E y (slice_val (b, o) m)
      → Step K 𝓛 (put 𝓛 j (Entry 𝓤 H E y (slice_val (b, o) m)) (put 𝓛 k (Entry 𝓤 H E x (vptr b o)) Γ)) (runs C Λ E rest q)
      Γ (runs C Λ E (seq (assign (place x []) (addr_of (place i (field 0 ∷ deref τ ∷ []))))
      (seq (assign (place y []) (aggregate (copy (place x []) ∷ copy (place i (field 1 ∷ [])) ∷ []))) rest)) q)
  lends_on t n k j e at-0 in-0 at_1 in-1 room typed kept pointed room' typed' = step (λ z.
      assigns t (addr t (from t (fld t in-0 (hop t (reads_member t n 0 e at-0) (stop t))))) (from t (stop t)) (init t k room typed) $
      assigns t (agg t (and_then t (at t k pointed) (and_then t (member t n 1 (kept ∙ e) at_1 in-1) (no_more t)))) (from t (stop t)) (init t j room' typed') $ z)
