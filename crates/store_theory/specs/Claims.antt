-- Demand 3, that the order of stores does not matter, and request 13 of document 02, the rule for stores at the same place. Each is one
-- claim about whole lists of stores. Words in quotation marks are the customer's, those of the demand and of the request.
-- Assumes nothing.
use Rattle.std.specs.Prelude.{◌≡◌, ℕ, length, get_or}
use mathlib.Core.List.{List, [], ◌∷◌, ◌++◌, map, Memᴰ}
use Rattle.store_theory.specs.Plans.{SucceedsAt, Covers}
use Rattle.store_theory.specs.Series.{Run}
use Rattle.store_theory.specs.Stores.{System, OrderOf, All, alone, stores, file_after, answers, stores_at, Distinct}

module _ {Store Answer Opened Value : Type 0} (S : System Store Answer Opened Value) where
  -- Demand 3 of one file f and one list l of stores. Each field is a sentence of the demand.
  pub record OrderFree (f : List ℕ) (l : List Store) : Type 0 where
    -- "All orders leave the same bytes": these
    pub bytes : List ℕ
    pub same : (o : List Store) → OrderOf l o → file_after S f o ≡ bytes
    -- "Then for every such list, in every order, each store gets the answer it would get alone on the file as it came."
    pub answered : (o : List Store) → OrderOf l o → answers S f o ≡ map (alone S f) o
    -- "each stored place reads back its number"
    pub stored : (s : Store) → Memᴰ s l → (a : ℕ) → SucceedsAt a (S.plan f s) → S.read bytes s ≡ S.number s
    -- "and every other byte is the old one", and the file has as many
    pub others : (i : ℕ) → All (λ s. ¬ Covers i (S.plan f s)) l → get_or bytes i 0 ≡ get_or f i 0
    pub size : length bytes ≡ length f
    -- "Opening the file as that kind (GRID and MD in that order) answers as before, whatever grid is asked for."
    pub opening : S.opening bytes ≡ S.opening f

  -- Demand 3: "Take any file, accepted or not, one kind and one byte order, and any list of stores into its samples, grid points or MD fields, refused ones included.
  -- Each store has a layout of that kind and order, stale or not, and no two that succeed name the same place." Kind, order and layouts are in `Fit`. Which of the
  -- stores succeed, and where, is judged on the file as it came; that it is the same on the file that a store gets in its turn is the law `plan-after`.
  abbrev pub Demand3 : Type 0
  Demand3 = (f : List ℕ) (l : List Store) → All S.Fit l → Distinct S f l → OrderFree f l

  -- Demand 3 of functions that store, by what their contracts say: called one after another in any order of the list, each with the file
  -- as the one before left it, they give the answers and leave the bytes that `OrderFree` says. "The first gets the file as it came, each later one as the store
  -- before left it, and nobody else writes it meanwhile."
  pub record OrderFreeRuns (f : List ℕ) (l : List Store) : Type 0 where
    pub free : OrderFree f l
    pub answered : (o : List Store) (rs : List Answer) (h : List ℕ) → OrderOf l o → Run (stores S) f o rs h → rs ≡ map (alone S f) o
    pub left : (o : List Store) (rs : List Answer) (h : List ℕ) → OrderOf l o → Run (stores S) f o rs h → h ≡ free.bytes

  -- demand 3 of functions that store, of every file and every list of stores as `Demand3` has them
  abbrev pub Demand3Runs : Type 0
  Demand3Runs = (f : List ℕ) (l : List Store) → All S.Fit l → Distinct S f l → OrderFreeRuns f l

  -- Request 13 of one file f and two lists l and m of stores.
  pub record LastStands (f : List ℕ) (l m : List Store) : Type 0 where
    -- "both leave the same bytes"
    pub same : file_after S f l ≡ file_after S f m
    -- "each stored place with its last number": s is the last of the list's stores at address a
    pub stored : (a : ℕ) (before : List Store) (s : Store) → stores_at S f a l ≡ before ++ s ∷ [] → S.read (file_after S f l) s ≡ S.number s
    -- "each store gets the same answer": the one it would get alone on the file as it came
    pub answered : answers S f l ≡ map (alone S f) l
    pub answered' : answers S f m ≡ map (alone S f) m
    -- every other byte is the old one, there are as many, and opening answers as before
    pub others : (i : ℕ) → All (λ s. ¬ Covers i (S.plan f s)) l → get_or (file_after S f l) i 0 ≡ get_or f i 0
    pub size : length (file_after S f l) ≡ length f
    pub opening : S.opening (file_after S f l) ≡ S.opening f

  -- Request 13: the two lists "hold the same stores, each as often", and "stores to the same place stand in the same order in both".
  abbrev pub Request13 : Type 0
  Request13 = (f : List ℕ) (l m : List Store) → All S.Fit l → OrderOf l m → ((a : ℕ) → stores_at S f a l ≡ stores_at S f a m)
      → LastStands f l m
