-- The rules of telling the free stretches, and of deleting and adding a grid, those of the file first; and what each call leaves, by the verdict of its rules.
-- Assumes nothing.
use mathlib.Core.Path.{◌≡◌, refl, ap, ◌∙◌}
use mathlib.Core.Bool.{not}
use mathlib.Core.List.{List, [], ◌∷◌}
use Prim.Native.Nat.{ℕ, ◌+◌}
use lib.Dec.{eqb}
use lib.ListN.{length}
use Rattle.endian_rules.specs.Words.{word_at}
use Rattle.endian_rules.specs.declared.Order.{Order}
use Rattle.refusal_rules.specs.Rules.{Refused, Verdict, Pass, Fault, Rule, rule, judge, first, first_fault, chained}
use Rattle.refusal_rules.specs.Answers.{gives, refuses}
use Rattle.refusal_rules.specs.Tests.{within}
use Rattle.refusal_rules.proofs.Tables.{fault_joined, pass_joined, by_table}
use Rattle.grid_rules.specs.Rules.{empty_slot, grid_file_rules, wanted_rules}
use Rattle.extent_rules.specs.Steps.{GridAccepted, survey}
use Rattle.extent_rules.specs.declared.Survey.{Survey}
use Rattle.grid_update_rules.specs.Updates.{table_rule, stretch_rules, delete_own, delete_rules, add_own, add_rules}
use Rattle.grid_update_rules.specs.Steps.{counted_stretches, stepped}

-- ---- telling the free stretches

module _ (o : Order) (f : List ℕ) (size : ℕ) where
  -- a fault of the file
  pub stretch_file : (r : Refused) → first_fault (grid_file_rules (length f) (word_at o f)) ≡ Fault r → Fault r ≡ first_fault (stretch_rules o f size)
  unfolding stretch_rules
  stretch_file r e = fault_joined (grid_file_rules (length f) (word_at o f)) (table_rule (word_at o f) size ∷ []) r e

  -- of an accepted file, what the rule of the table says
  pub stretch_table : GridAccepted o f → first Pass (judge (table_rule (word_at o f) size)) ≡ first_fault (stretch_rules o f size)
  unfolding stretch_rules chained
  stretch_table a =
      by_table (table_rule (word_at o f) size ∷ []) refl ∙ pass_joined (grid_file_rules (length f) (word_at o f)) (table_rule (word_at o f) size ∷ []) a

-- ---- deleting

-- the rules before the last
abbrev pub heads : (ℕ → ℕ) → ℕ → ℕ → List Rule
heads w number size = table_rule w size ∷ rule (within 1 (w 10) number) 7 0 ∷ []

-- the last
abbrev pub slot_rule : (ℕ → ℕ) → ℕ → Rule
slot_rule w number = rule (not (eqb (w (10 + number)) empty_slot)) 6 0

module _ (o : Order) (f : List ℕ) (number size : ℕ) where
  -- a fault of the file
  pub delete_file : (r : Refused) → first_fault (grid_file_rules (length f) (word_at o f)) ≡ Fault r → Fault r ≡ first_fault (delete_rules o f number size)
  unfolding delete_rules
  delete_file r e = fault_joined (grid_file_rules (length f) (word_at o f)) (delete_own (word_at o f) number size) r e

  -- of an accepted file, a fault of the rules before the last
  pub delete_heads : GridAccepted o f → (r : Refused) → first_fault (heads (word_at o f) number size) ≡ Fault r
      → Fault r ≡ first_fault (delete_rules o f number size)
  unfolding delete_rules wanted_rules
  delete_heads a r e =
      fault_joined (heads (word_at o f) number size) (slot_rule (word_at o f) number ∷ []) r e
      ∙ pass_joined (grid_file_rules (length f) (word_at o f)) (delete_own (word_at o f) number size) a

  -- or what the last says
  pub delete_slot : GridAccepted o f → first_fault (heads (word_at o f) number size) ≡ Pass
      → first Pass (judge (slot_rule (word_at o f) number)) ≡ first_fault (delete_rules o f number size)
  unfolding delete_rules wanted_rules chained
  delete_slot a e =
      by_table (slot_rule (word_at o f) number ∷ []) refl
      ∙ pass_joined (heads (word_at o f) number size) (slot_rule (word_at o f) number ∷ []) e
      ∙ pass_joined (grid_file_rules (length f) (word_at o f)) (delete_own (word_at o f) number size) a

-- ---- adding

module _ (o : Order) (f : List ℕ) (headers rows columns values size : ℕ) where
  -- a fault of the file
  pub add_file : (r : Refused) → first_fault (grid_file_rules (length f) (word_at o f)) ≡ Fault r
      → Fault r ≡ first_fault (add_rules o f headers rows columns values size)
  unfolding add_rules
  add_file r e = fault_joined (grid_file_rules (length f) (word_at o f)) (add_own o f headers rows columns values size) r e

  -- of an accepted file, what the others say
  pub add_own_lem : GridAccepted o f → first_fault (add_own o f headers rows columns values size) ≡ first_fault (add_rules o f headers rows columns values size)
  unfolding add_rules
  add_own_lem a = pass_joined (grid_file_rules (length f) (word_at o f)) (add_own o f headers rows columns values size) a

-- ---- what a call leaves, by the verdict of its rules

module _ {Value : Type 0} (v : Verdict) (value : ℕ → Value) (o : Order) (g : List ℕ) where
  -- where they pass, for the survey of a file
  pub counted_pass : v ≡ Pass → (s : Survey) → s ≡ survey o g → (gives (value s.count), s.count) ≡ counted_stretches v value o g
  unfolding survey
  counted_pass e s surveyed = rw (e, surveyed)

  -- and where they do not
  pub counted_fault : (r : Refused) → v ≡ Fault r → (refuses r.number r.place, 0) ≡ counted_stretches v value o g
  counted_fault r e = rw e

module _ {Value : Type 0} (v : Verdict) (value : ℕ → Value) (o : Order) (f g : List ℕ) where
  -- where they pass, for the survey of the changed file
  pub step_pass : v ≡ Pass → (h : List ℕ) → h ≡ g → (s : Survey) → s ≡ survey o h → ((gives (value s.count), s.count), h) ≡ stepped v value o f g
  step_pass e h is s surveyed = rw (counted_pass v value o g e s (surveyed ∙ ap (survey o) is), e, is)

  -- and where they do not
  pub step_fault : (r : Refused) → v ≡ Fault r → ((refuses r.number r.place, 0), f) ≡ stepped v value o f g
  step_fault r e = rw e
