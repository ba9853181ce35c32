-- What is promised of a key that is found by its name: it is the first that has the name, and 7 is given exactly where no key has it.
-- Assumes nothing.
use mathlib.Core.Path.{◌≡◌, refl, sym, subst, ◌∙◌}
use mathlib.Core.Bool.{Bool, true, false, false≢true}
use mathlib.Core.Logic.{◌⊎◌, inl, inr, ⊎_elim, ◌↔◌}
use mathlib.Core.List.{List}
use Prim.Native.Nat.{ℕ, ◌+◌, ◌≤◌, ◌<◌}
use native.Mathlib.Omega.{arith}
use lib.Dec.{eqb}
use lib.ListN.{length}
use borrow.Author.Tests.{eqb-true, eqb-false}
use Rattle.refusal_rules.specs.Answers.{gives, refuses}
use Rattle.refusal_rules.specs.Tests.{Exactly}
use Rattle.refusal_rules.proofs.Answers.{gives-refuses, gives-same, seven_only, nine}
use Rattle.refusal_rules.proofs.Exactness.{numbers_exactly}
use Rattle.md_rules.specs.Opening.{open_md}
use Rattle.md_rules.specs.declared.MdLayout.{MdLayout}
use Rattle.layout_rules.specs.Layouts.{Fresh}
use Rattle.layout_rules.specs.declared.Layout.{Layout}
use Rattle.layout_rules.specs.declared.Layout.TheVariants.{Md}
use Rattle.layout_rules.proofs.OneKind.{md_then, md_nine}
use Rattle.md_part_rules.specs.Keys.{key_name, is_named, key_in, key_of}
use Rattle.md_part_rules.proofs.Names.{NoneBelow, First, first-searched, name_found, name_none, name_other}

-- a test that tells a statement exactly, where the statement does not hold
told_false : {t : Bool} {P : Type 0} → Exactly t P → ¬ P → t ≡ false
told_false {t = true} x h = absurd (h (x.sound refl))
told_false {t = false} x h = refl

module _ (f : List ℕ) (m : MdLayout) (name : List ℕ) where
  -- position k is the first of the K positions whose key has the name, which has four bytes
  pub record KeyAt (k : ℕ) : Type 0 where
    pub four : length name ≡ 4
    pub from : 1 ≤ k
    pub to : k ≤ m.keys
    pub named : key_name f k ≡ name
    pub first : (j : ℕ) → 1 ≤ j → j < k → ¬ (key_name f j ≡ name)

  -- no key has the name
  abbrev pub NoKey : Type 0
  NoKey = (j : ℕ) → 1 ≤ j → j ≤ m.keys → ¬ (key_name f j ≡ name)

  -- the test of a name tells exactly whether a key has it
  name_told : (k : ℕ) → Exactly (is_named f name k) (key_name f k ≡ name)
  name_told k = numbers_exactly (key_name f k) name

  -- where the test fails, the key has another name
  other_name : (k : ℕ) → is_named f name k ≡ false → ¬ (key_name f k ≡ name)
  other_name k e same = false≢true (sym e ∙ (name_told k).complete same)

  -- what the search answers, and why
  data Search : Type 0 where
    found : (k : ℕ) → KeyAt k → key_in f m name ≡ gives k → Search
    none : length name ≡ 4 → NoKey → key_in f m name ≡ refuses 7 0 → Search
    other : ¬ (length name ≡ 4) → key_in f m name ≡ refuses 7 0 → Search

  -- one of the three
  key-searched : Search
  key-searched = by_length (eqb (length name) 4) refl
    where
      by-search : length name ≡ 4 → ((k : ℕ) × First (is_named f name) m.keys k) ⊎ NoneBelow (is_named f name) (m.keys + 1) → Search
      by-search four (inl x) =
          let first = x.1 in
          found x.0
          (record {
            four = four;
            from = first.from;
            to = first.to;
            named = (name_told x.0).sound first.passes;
            first = λ j from lt. other_name j (first.before j from lt);
          })
          (name_found f m name x.0 four first)
      by-search four (inr others) = none four (λ j from to. other_name j (others j from (omega arith))) (name_none f m name four others)

      by_length : (b : Bool) → eqb (length name) 4 ≡ b → Search
      by_length true e = let four = eqb-true (length name) 4 e in by-search four (first-searched (is_named f name) m.keys)
      by_length false e = let long = eqb-false (length name) 4 e in other long (name_other f m name long)

  -- a key is found exactly where its position is the first that has the name
  pub key_exactly : (k : ℕ) → (key_in f m name ≡ gives k) ↔ KeyAt k
  key_exactly k = (
    λ e. step key-searched e,
    λ x.
        name_found f m name k x.four
        (record {
          from = x.from;
          to = x.to;
          passes = (name_told k).complete x.named;
          before = λ j from lt. told_false (name_told j) (x.first j from lt);
        }),
  )
    where
      step : Search → key_in f m name ≡ gives k → KeyAt k
      step (found j x given) e = subst KeyAt (gives-same (sym given ∙ e)) x
      step (none four others given) e = gives-refuses (sym e ∙ given)
      step (other long given) e = gives-refuses (sym e ∙ given)

  -- 7 is given exactly where the name has another length than four, or no key has it
  pub key-none : (key_in f m name ≡ refuses 7 0) ↔ (¬ (length name ≡ 4) ⊎ NoKey)
  key-none = (λ e. to key-searched e, λ h. from key-searched h)
    where
      to : Search → key_in f m name ≡ refuses 7 0 → ¬ (length name ≡ 4) ⊎ NoKey
      to (found j x given) e = gives-refuses (sym given ∙ e)
      to (none four others given) e = inr others
      to (other long given) e = inl long

      from : Search → ¬ (length name ≡ 4) ⊎ NoKey → key_in f m name ≡ refuses 7 0
      from (found j x given) h = absurd (⊎_elim (λ long. long x.four) (λ others. others j x.from x.to x.named) h)
      from (none four others given) h = given
      from (other long given) h = given

  -- no other refusal is given
  key_never : ¬ (key_in f m name ≡ refuses 9 0)
  key_never = step key-searched
    where
      step : Search → ¬ (key_in f m name ≡ refuses 9 0)
      step (found j x given) e = gives-refuses (sym given ∙ e)
      step (none four others given) e = seven_only nine (sym given ∙ e)
      step (other long given) e = seven_only nine (sym given ∙ e)

-- a key of a file: the layout is an MD layout that opening the file gives, and the position is the first that has the name
pub record KeyOf (f : List ℕ) (l : Layout) (name : List ℕ) (k : ℕ) : Type 0 where
  pub md : MdLayout
  pub layout : l ≡ Md md
  pub opens : open_md md.order f ≡ gives md
  pub is : KeyAt f md name k

module _ (f : List ℕ) (l : Layout) (name : List ℕ) where
  -- a key of a file is found exactly where there is one
  pub key_of_exactly : (k : ℕ) → (key_of f l name ≡ gives k) ↔ KeyOf f l name k
  key_of_exactly k =
      let y = md_then f l (λ m. key_in f m name) k in (
        λ e. let (m, (layout, opens), value) = y.0 e in record { md = m; layout = layout; opens = opens; is = (key_exactly f m name k).0 value },
        λ x. y.1 (x.md, (x.layout, x.opens), (key_exactly f x.md name k).1 x.is),
      )

  -- it is refused with 9 exactly where the layout is stale
  pub key-stale : (key_of f l name ≡ refuses 9 0) ↔ (¬ Fresh f l)
  key-stale = md_nine f l (λ m. key_in f m name) (λ m. key_never f m name)
