-- What deleting and adding a grid keep, of the calls themselves and of every file.
-- Assumes nothing.
use mathlib.Core.Path.{◌≡◌, refl, sym, subst}
use mathlib.Core.List.{List}
use Prim.Native.Nat.{ℕ}
use lib.IntN.{ℤ}
use lib.ListN.{length}
use Rattle.endian_rules.specs.declared.Order.{Order}
use Rattle.refusal_rules.specs.Rules.{first_fault, Verdict, Pass, Fault}
use Rattle.refusal_rules.specs.Answers.{gives}
use Rattle.refusal_rules.proofs.Answers.{gives-refuses, gives-same}
use Rattle.grid_rules.specs.declared.GridLayout.{GridLayout}
use Rattle.extent_rules.specs.declared.Extent.{Extent}
use Rattle.grid_update_rules.specs.Updates.{stretches_of, changed, delete_rules, without_grid, delete_grid, add_rules, with_grid, added, add_grid}
use Rattle.grid_update_rules.specs.declared.Added.{Added}
use Rattle.grid_update_laws.specs.Kept.{AsBefore, IsRefused, ReadsBack, AfterDeleting, new_layout, AfterAdding, GridsKept}
use Rattle.grid_update_laws.proofs.Kept.{kept}
use Rattle.grid_update_laws.proofs.Others.{deleted_keeps, deleted_stale, stale_refused, added_keeps}
use Rattle.grid_update_laws.proofs.Back.{added-back}

-- what either call leaves, by the verdict of its rules
module _ {Value : Type 0} (value : ℕ → Value) (o : Order) (f g : List ℕ) (t : List Extent) where
  -- where a value is given, the rules have passed, and the file is the changed one
  given-changed : (P : List ℕ → Value → Type 0) (v : Verdict) (x : Value) → (v ≡ Pass → P g (value (length (stretches_of o g))))
      → (changed v value o f g t).0 ≡ gives x → P (changed v value o f g t).1.0 x
  given-changed P Pass x holds e = subst (P g) (gives-same e) (holds refl)
  given-changed P (Fault r) x holds e = gives-refuses (sym e)

  -- whatever is answered, with a layout every call answers as before, if it does so in the changed file
  always_before : (l : GridLayout) (v : Verdict) → (v ≡ Pass → (changed v value o f g t).0 ≡ gives (value (length (stretches_of o g))) → AsBefore f g l)
      → AsBefore f (changed v value o f g t).1.0 l
  always_before l Pass holds = holds refl refl
  always_before l (Fault r) holds =
      record {
        opening = refl;
        place = λ x. refl;
        point = λ r c. refl;
        header = refl;
        header_bytes = refl;
        columns = λ out. refl;
        rows = λ out. refl;
      }

-- deleting a grid leaves every other one as before, and its own layouts are refused
pub deletion : (o : Order) (f : List ℕ) (number : ℕ) (t : List Extent) → AfterDeleting o f number t
unfolding delete_grid
deletion o f number t =
    let g : List ℕ = without_grid o f number in
    let verdict : Verdict = first_fault (delete_rules o f number (length t)) in
    record {
      others =
          λ l other. always_before (λ n. n) o f g t l verdict (λ pass given. kept f g l (deleted_keeps o f number (length t) pass l other));
      gone =
          λ count given l of.
          given-changed (λ n. n) o f g t (λ h n. IsRefused h l) verdict count (λ pass. stale_refused g l (deleted_stale o f number (length t) pass l of)) given;
    }

-- adding a grid leaves every other one as before, and it reads back
pub addition : (o : Order) (f header : List ℕ) (rows columns : ℕ) (values : List ℤ) (t : List Extent)
    → AfterAdding o f header rows columns values t
unfolding add_grid
addition o f header rows columns values t =
    let g : List ℕ = with_grid o f header rows columns values in
    let verdict : Verdict = first_fault (add_rules o f (length header) rows columns (length values) (length t)) in
    record {
      others =
          λ l other.
          always_before (added o f rows columns) o f g t l verdict
          (λ pass given.
          let a : Added = added o f rows columns (length (stretches_of o g)) in
          kept f g l (added_keeps o f header rows columns values (length t) pass l (other a given)));
      back =
          λ a given fit.
          given-changed (added o f rows columns) o f g t (λ h b. ReadsBack header values h (new_layout o f b rows columns)) verdict a
          (λ pass. added-back o f header rows columns values (length t) pass fit) given;
    }

-- both, of every file
pub grids_kept : GridsKept
grids_kept = record { deletion = deletion; addition = addition }
