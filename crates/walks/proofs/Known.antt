-- The types of parameters and results, each as a slot of a signature with n lifetimes, with what a walk wants of it.
--     Known n          a slot; the machine values of a value of its type, and that they can only be those; and that they are of its MIR types
--     uint, one_of, record_of      an unsigned integer, an enum and a struct
--     shared, lent     a `&'j [R]` and a `&'j mut [R]`
--     slots, rows, spells, tells, passed_as, Related, typed    of a list of them, as a function's parameters are
--     ended            a signature with these parameters and this result, each parameter kept
--     Value n          one whose values own nothing.        number, enum, struct       an unsigned integer, an enum and a struct
--     types_of, owned_values      of a list of values
--     Parameter n      one that is a parameter, with what is had of it at exit
--     by_value, seen, held     a value and a `&'j [R]`, of which nothing is had; and a `&'j mut [R]`, which is had at its last list
--     knowns, stays, goes      of a list of parameters
-- Assumes nothing.
use mathlib.Core.Path.{◌≡◌, refl}
use Prim.Native.Nat.{ℕ}
use mathlib.Core.List.{List, [], ◌∷◌}
use seplogic.Ra.Ura.{Ura}
use mir.Syntax.{Width}
use mir.Val.{Val}
use base.Logic.{ent, emp}
use base.Fml.{ftrue}
use types.Logic.{Logic, sem}
use contract.Lifetimes.{Lfts}
use denote.RattleType.{RattleType, Denots, mirs, flat, owns}
use denote.Laws.{Typed, Is, Ises, Are, Tells, Tellss, Spells, valss, Lawful, Lawfuls, Makes, Makess, all_Typed, owns_make}
use denote.Exit.{yes, Last, left}
use denote.Plain.{UInt, uint_vals, uint_Tells, uint_Lawful, uint_Makes}
use denote.Slice.{shr_slice_vals, mut_slice_vals, shr_slice_Tells, shr_slice_Lawful, mut_slice_Tells, mut_slice_Lawful}
use denote.Signature.{Slot, AllWithin, plain, name_of, meet_at, shr_slice_of, mut_slice_of, types_at}
use denote.Enum.Enum.{Few, Plainss}
use denote.Enum.Declared as E
use denote.Enum.Laws as EL
use denote.Struct.Struct.{Plains}
use denote.Struct.Declared as S
use denote.Struct.Laws as LL
use denote.Triple.End.{all}
use denote.Triple.Clauses.{Ended}
use denote.Triple.Walked.{Stay, Stays, stay_dropped, stay_slice, Goes, AllGo, Goes-dropped, Goes-slice}

-- a slot, with what a walk wants of it
pub record Known (n : ℕ) : Type 2 where
  pub slot : Slot n
  pub vals : (κs : Lfts n) → (slot.row κs).Denot → List Val
  pub tell : (κs : Lfts n) → Tells (slot.row κs) (Is (slot.row κs)) (vals κs)
  pub lawful : {M : Type 1} {𝓤 : Ura M} (𝓛 : Logic 𝓤) (κs : Lfts n) → Lawful 𝓛 (slot.row κs)

module _ {n : ℕ} where
  -- an unsigned integer
  abbrev pub uint : Width → Known n
  uint w = record { slot = plain (λ _. UInt w); vals = λ κs. uint_vals w; tell = λ κs. uint_Tells w; lawful = λ 𝓛 κs. uint_Lawful 𝓛 w }

  -- an enum
  abbrev pub one_of : (T : E.Declared) → EL.Laws T → Few (E.shape T) → Known n
  one_of T L few = record { slot = plain (λ _. E.row T); vals = λ κs. EL.vals T L; tell = λ κs. EL.tells T L; lawful = λ 𝓛 κs. EL.lawful T L 𝓛 few }

  -- a struct
  abbrev pub record_of : (T : S.Declared) → LL.Laws T → Known n
  record_of T L = record { slot = plain (λ _. S.row T); vals = λ κs. LL.vals T L; tell = λ κs. LL.tells T L; lawful = λ 𝓛 κs. LL.lawful T L 𝓛 }

  -- a `&'j [R]`
  abbrev pub shared : (j : ℕ) → AllWithin n (j ∷ []) → RattleType → Known n
  shared j ok R = record {
    slot = shr_slice_of (j ∷ []) ok (plain (λ _. R));
    vals = λ κs. shr_slice_vals;
    tell = λ κs. shr_slice_Tells (name_of (j ∷ [])) (meet_at n (j ∷ []) ok κs) R;
    lawful = λ 𝓛 κs. shr_slice_Lawful 𝓛 (name_of (j ∷ [])) (meet_at n (j ∷ []) ok κs) R;
  }

  -- a `&'j mut [R]`
  abbrev pub lent : (j : ℕ) → AllWithin n (j ∷ []) → RattleType → Known n
  lent j ok R = record {
    slot = mut_slice_of (j ∷ []) ok (plain (λ _. R));
    vals = λ κs. mut_slice_vals;
    tell = λ κs. mut_slice_Tells (name_of (j ∷ [])) (meet_at n (j ∷ []) ok κs) R;
    lawful = λ 𝓛 κs. mut_slice_Lawful 𝓛 (name_of (j ∷ [])) (meet_at n (j ∷ []) ok κs) R;
  }

  -- ---- of a list of them
  abbrev pub slots : List (Known n) → List (Slot n)
  slots [] = []
  slots (k ∷ ks) = k.slot ∷ slots ks

  module _ (κs : Lfts n) where
    -- their types
    abbrev pub rows : List (Known n) → List RattleType
    rows ks = types_at (slots ks) κs

    -- their machine values
    abbrev pub spells : (ks : List (Known n)) → Spells (rows ks)
    spells [] = tt
    spells (k ∷ ks) = (k.vals κs, spells ks)

    -- and these can only be those
    abbrev pub tells : (ks : List (Known n)) → Tellss (rows ks) (Ises (rows ks)) (spells ks)
    tells [] = tt
    tells (k ∷ ks) = (k.tell κs, tells ks)

    -- the machine values of a, in a row
    abbrev pub passed_as : (ks : List (Known n)) → Denots (rows ks) → List Val
    passed_as ks a = flat (rows ks) (valss (rows ks) (spells ks) a)

    -- a is related to its machine values
    abbrev pub Related : (ks : List (Known n)) → Denots (rows ks) → Type 0
    Related ks a = Are (rows ks) (Ises (rows ks)) a (valss (rows ks) (spells ks) a)

    module _ {M : Type 1} {𝓤 : Ura M} (𝓛 : Logic 𝓤) where
      lawfuls : (ks : List (Known n)) → Lawfuls 𝓛 (rows ks)
      lawfuls [] = tt
      lawfuls (k ∷ ks) = (k.lawful 𝓛 κs, lawfuls ks)

      -- they are of their MIR types
      pub typed : (ks : List (Known n)) (a : Denots (rows ks)) → Related ks a → Typed (mirs (rows ks)) (passed_as ks a)
      typed ks a are = all_Typed 𝓛 (rows ks) (lawfuls ks) a (valss (rows ks) (spells ks) a) are

  -- a signature with these parameters and this result
  abbrev pub ended : List (Known n) → Slot n → Ended
  ended ks r = record { signature = record { lifetimes = n; outlives = []; params = slots ks; result = r }; kept = all yes (slots ks) }

-- nothing is said of a parameter at exit
abbrev pub Silent : {n : ℕ} → Known n → Type 1
Silent {n} k = (κs : Lfts n) (x : (k.slot.row κs).Denot) (f : Last ((k.slot.row κs).exit yes) x) → left ((k.slot.row κs).exit yes) x f ≡ ftrue

-- ---- values, which own nothing
-- a type whose values own nothing, and of which nothing is said at exit
pub record Value (n : ℕ) : Type 2 where
  pub known : Known n
  pub silent : Silent known
  pub makes : {M : Type 1} {𝓤 : Ura M} (𝓛 : Logic 𝓤) (κs : Lfts n) → Makes 𝓛 (known.slot.row κs) (Is (known.slot.row κs))

module _ {n : ℕ} where
  -- an unsigned integer
  abbrev pub number : Width → Value n
  number w = record { known = uint w; silent = λ κs x f. refl; makes = λ 𝓛 κs. uint_Makes 𝓛 w }

  -- an enum
  abbrev pub enum : (T : E.Declared) (L : EL.Laws T) (few : Few (E.shape T)) → Plainss (E.variants T) → Silent {n = n} (one_of T L few) → Value n
  enum T L few plain-parts silent = record { known = one_of T L few; silent = silent; makes = λ 𝓛 κs. EL.makes T plain-parts 𝓛 }

  -- a struct
  abbrev pub struct : (T : S.Declared) (L : LL.Laws T) → Plains (S.fields T) → Silent {n = n} (record_of T L) → Value n
  struct T L plain-parts silent = record { known = record_of T L; silent = silent; makes = λ 𝓛 κs. LL.makes T plain-parts 𝓛 }

  -- the types of a list of them
  abbrev pub types_of : List (Value n) → List (Known n)
  types_of [] = []
  types_of (v ∷ vs) = v.known ∷ types_of vs

  module _ {M : Type 1} {𝓤 : Ura M} (𝓛 : Logic 𝓤) (κs : Lfts n) where
    make : (vs : List (Value n)) → Makess 𝓛 (rows κs (types_of vs)) (Ises (rows κs (types_of vs)))
    make [] = tt
    make (v ∷ vs) = (v.makes 𝓛 κs, make vs)

    -- what they own is had for nothing
    pub owned_values : (vs : List (Value n)) (a : Denots (rows κs (types_of vs))) → Related κs (types_of vs) a
        → ent 𝓤 (emp 𝓤) (sem 𝓛 (owns (rows κs (types_of vs)) a (valss (rows κs (types_of vs)) (spells κs (types_of vs)) a)))
    owned_values vs a are = owns_make 𝓛 (rows κs (types_of vs)) (Ises (rows κs (types_of vs))) (make vs) a
        (valss (rows κs (types_of vs)) (spells κs (types_of vs)) a) are

-- ---- parameters
-- a parameter, with what is had of it at exit
pub record Parameter (n : ℕ) : Type 2 where
  pub known : Known n
  pub stay : Stay known.slot yes
  pub go : {M : Type 1} {𝓤 : Ura M} (𝓛 : Logic 𝓤) → Goes 𝓛 n known.slot yes stay

module _ {n : ℕ} where
  -- a value, of which nothing is had
  abbrev pub by_value : Value n → Parameter n
  by_value v = record { known = v.known; stay = stay_dropped v.known.slot yes; go = λ 𝓛. Goes-dropped 𝓛 n v.known.slot yes v.silent }

  -- a `&'j [R]`, of which nothing is had
  abbrev pub seen : (j : ℕ) → AllWithin n (j ∷ []) → RattleType → Parameter n
  seen j ok R = record {
    known = shared j ok R;
    stay = stay_dropped (shr_slice_of (j ∷ []) ok (plain (λ _. R))) yes;
    go = λ 𝓛. Goes-dropped 𝓛 n (shr_slice_of (j ∷ []) ok (plain (λ _. R))) yes (λ κs x f. refl);
  }

  -- a `&'j mut [R]`, which is had at its last list
  abbrev pub held : (j : ℕ) → AllWithin n (j ∷ []) → RattleType → Parameter n
  held j ok R = record { known = lent j ok R; stay = stay_slice (j ∷ []) ok (plain (λ _. R)); go = λ 𝓛. Goes-slice 𝓛 n j ok (plain (λ _. R)) }

  -- ---- of a list of them
  abbrev pub knowns : List (Parameter n) → List (Known n)
  knowns [] = []
  knowns (p ∷ ps) = p.known ∷ knowns ps

  -- what is had of them at exit
  abbrev pub stays : (ps : List (Parameter n)) → Stays (slots (knowns ps)) (all yes (slots (knowns ps)))
  stays [] = tt
  stays (p ∷ ps) = (p.stay, stays ps)

  -- it gives what is said of them
  pub goes : {M : Type 1} {𝓤 : Ura M} (𝓛 : Logic 𝓤) (ps : List (Parameter n))
      → AllGo 𝓛 n (slots (knowns ps)) (all yes (slots (knowns ps))) (stays ps)
  goes 𝓛 [] = tt
  goes 𝓛 (p ∷ ps) = (p.go 𝓛, goes 𝓛 ps)
