-- The blocks of an accepted AREA file are inside it, and no two of them share a byte.
-- Assumes nothing.
use mathlib.Core.Path.{◌≡◌, refl, sym, subst, ◌∙◌}
use mathlib.Core.Bool.{true, not}
use mathlib.Core.Logic.{◌⊎◌, inl, inr, ⊎_elim}
use mathlib.Core.List.{List, [], ◌∷◌}
use Prim.Native.Nat.{ℕ, ◌≤◌, ◌<◌}
use native.Mathlib.Nat.{one-le-mul}
use native.Mathlib.Omega.{arith}
use lib.Dec.{ltb, eqb}
use borrow.Author.Tests.{ltb-true, ltb-false, eqb-false, not-true}
use Rattle.lists.specs.Choices.{both}
use Rattle.lists.specs.Lists.{Apart}
use Rattle.lists.proofs.Choices.{both_true, both_false, pick_cases}
use Rattle.lists.proofs.Rows.{compared}
use Rattle.area_rules.specs.Samples.{line_length_in, data_end_in, audit_end_in, sample_address, IsSample, IsBlockStart, AreaFits}
use Rattle.area_rules.specs.Blocks.{block_start, block_present, nearer_start, next_start, block_starts, Among, BlockRunsTo, block_end, block_length}
use Rattle.area_rules.specs.declared.AreaLayout.{AreaLayout}
use Rattle.area_rules.specs.declared.Block.{Block}
use Rattle.area_rules.specs.declared.Block.TheVariants.{Dir, Nav, Cal, Aux, Data, Audit}
use Rattle.area_rules.proofs.Samples.{width-from, sample_data}

-- ---- the next start

-- which of the two it is
pub nearer_is : (x s n : ℕ) → ((nearer_start x s n ≡ s) × ((x < s) × (s < n))) ⊎ ((nearer_start x s n ≡ n) × ((s ≤ x) ⊎ (n ≤ s)))
nearer_is x s n =
    pick_cases (λ (m : ℕ). ((m ≡ s) × ((x < s) × (s < n))) ⊎ ((m ≡ n) × ((s ≤ x) ⊎ (n ≤ s)))) (both (ltb x s) (ltb s n)) s n
    (λ e. let p = both_true (ltb x s) (ltb s n) e in inl (refl, (ltb-true x s p.0, ltb-true s n p.1)))
    (λ e. inr (refl, ⊎_elim (λ p. inl (ltb-false x s p)) (λ p. inr (ltb-false s n p)) (both_false (ltb x s) (ltb s n) e)))

module _ (x end : ℕ) where
  -- it is at most the end
  pub next_most : (ss : List ℕ) → next_start x end ss ≤ end
  unfolding next_start
  next_most [] = omega arith
  next_most (s ∷ ss) =
      ⊎_elim (λ p. omega (arith, p.0, p.1.1, next_most ss)) (λ p. omega (arith, p.0, next_most ss)) (nearer_is x s (next_start x end ss))

  -- it is greater than x
  pub next-after : (ss : List ℕ) → x < end → x < next_start x end ss
  unfolding next_start
  next-after [] h = h
  next-after (s ∷ ss) h =
      ⊎_elim (λ p. omega (arith, p.0, p.1.0)) (λ p. omega (arith, p.0, next-after ss h)) (nearer_is x s (next_start x end ss))

  -- it is at most every start that is greater than x
  pub next_least : (ss : List ℕ) (t : ℕ) → Among t ss → x < t → next_start x end ss ≤ t
  unfolding next_start
  next_least [] t m h = elim m [ ]
  next_least (s ∷ ss) t m h =
      ⊎_elim
      (λ p. ⊎_elim (λ same. omega (arith, p.0, same)) (λ rest. omega (arith, p.0, p.1.1, next_least ss t rest h)) m)
      (λ p. ⊎_elim (λ same. ⊎_elim (λ q. omega (arith, q, same, h)) (λ q. omega (arith, p.0, q, same)) p.1)
      (λ rest. omega (arith, p.0, next_least ss t rest h)) m)
      (nearer_is x s (next_start x end ss))

  -- it is the end, or one of the starts that are greater than x
  pub next_among : (ss : List ℕ) → (next_start x end ss ≡ end) ⊎ (Among (next_start x end ss) ss × (x < next_start x end ss))
  unfolding next_start
  next_among [] = inl refl
  next_among (s ∷ ss) =
      ⊎_elim (λ p. inr (inl p.0, omega (arith, p.0, p.1.0)))
      (λ p. ⊎_elim (λ e. inl (p.0 ∙ e)) (λ q. inr (subst (λ (m : ℕ). Among m (s ∷ ss) × (x < m)) (sym p.0) (inr q.0, q.1))) (next_among ss)) (nearer_is x s (next_start x end ss))

-- ---- the end of a block that may be absent, in document 01's words

-- it runs to its end
pub next_runs : (l : AreaLayout) (x : ℕ) → x < l.length → BlockRunsTo l x (next_start x l.length (block_starts l))
next_runs l x h =
    record {
      greater = next-after x l.length (block_starts l) h;
      start = ⊎_elim (λ e. inr e) (λ p. inl p.0) (next_among x l.length (block_starts l));
      next = next_least x l.length (block_starts l);
      inside = next_most x l.length (block_starts l);
    }

-- and to no other
pub runs_only : (l : AreaLayout) (x n m : ℕ) → BlockRunsTo l x n → BlockRunsTo l x m → n ≡ m
runs_only l x n m p q = omega (arith, at_most n m p q, at_most m n q p)
  where
    at_most : (a b : ℕ) → BlockRunsTo l x a → BlockRunsTo l x b → a ≤ b
    at_most a b r s = ⊎_elim (λ among. r.next b among s.greater) (λ e. omega (arith, r.inside, e)) s.start

-- ---- blocks that may be absent

-- a NAV, CAL or AUX that is present starts at x
record Optional (l : AreaLayout) (x : ℕ) : Type 0 where
  at : IsBlockStart l x
  among : Among x (block_starts l)

-- where it ends
abbrev end_of : AreaLayout → ℕ → ℕ
end_of l x = next_start x l.length (block_starts l)

module _ (l : AreaLayout) (fits : AreaFits l) where
  there : (n : ℕ) → not (eqb n 0) ≡ true → ¬ (n ≡ 0)
  there n e = eqb-false n 0 (not-true (eqb n 0) e)

  nav_optional : block_present l Nav ≡ true → Optional l l.nav
  nav_optional p = record { at = fits.nav (there l.nav p); among = inl refl }

  cal_optional : block_present l Cal ≡ true → Optional l l.cal
  cal_optional p = record { at = fits.cal (there l.cal p); among = inr (inl refl) }

  aux_optional : block_present l Aux ≡ true → Optional l l.aux
  aux_optional p = record { at = fits.aux (there l.aux p); among = inr (inr (inl refl)) }

  -- it ends inside the file, behind its start
  optional_end : (x : ℕ) → Optional l x → (x < end_of l x) × (end_of l x ≤ l.length)
  optional_end x o = (next-after x l.length (block_starts l) o.at.to, next_most x l.length (block_starts l))

  -- it ends before DATA, or starts behind AUDIT
  optional_data : (x : ℕ) → Optional l x → (end_of l x ≤ l.data_start) ⊎ (audit_end_in l ≤ x)
  optional_data x o =
      ⊎_elim (λ h. inl (next_least x l.length (block_starts l) l.data_start (inr (inr (inr (inl refl)))) h)) (λ h. inr h) o.at.outside

  -- of two that start at different places, one ends before the other begins
  optional_two : (x y : ℕ) → Optional l x → Optional l y → ¬ (x ≡ y) → (end_of l x ≤ y) ⊎ (end_of l y ≤ x)
  optional_two x y o p differ =
      ⊎_elim (λ e. absurd (differ e))
      (⊎_elim (λ h. inl (next_least x l.length (block_starts l) y p.among h)) (λ h. inr (next_least y l.length (block_starts l) x o.among h)))
      (compared x y)

  -- ---- all blocks

  -- a line has bytes
  line-some : 1 ≤ line_length_in l
  line-some =
      omega (arith, one-le-mul (one-le-mul fits.bands_from fits.elements_from) (width-from l fits))

  -- a block that is present has bytes, and ends inside the file
  pub block_inside : (b : Block) → block_present l b ≡ true → (block_start l b < block_end l b) × (block_end l b ≤ l.length)
  block_inside Dir p = (omega arith, omega (arith, fits.data_start_from, fits.room))
  block_inside Nav p = optional_end l.nav (nav_optional p)
  block_inside Cal p = optional_end l.cal (cal_optional p)
  block_inside Aux p = optional_end l.aux (aux_optional p)
  block_inside Data p = (omega (arith, one-le-mul fits.lines_from line-some), omega (arith, fits.room))
  block_inside Audit p = (omega (arith, there l.cards p), omega (arith, fits.room))

  -- a block, other than the directory, begins behind it
  block_from : (b : Block) → block_present l b ≡ true → ¬ (b ≡ Dir) → 256 ≤ block_start l b
  block_from Dir p other = absurd (other refl)
  block_from Nav p other = (nav_optional p).at.from
  block_from Cal p other = (cal_optional p).at.from
  block_from Aux p other = (aux_optional p).at.from
  block_from Data p other = fits.data_start_from
  block_from Audit p other = omega (arith, fits.data_start_from)

  -- of a block and DATA, one ends before the other begins
  data_clear : (c : Block) → block_present l c ≡ true → ¬ (Data ≡ c) → (data_end_in l ≤ block_start l c) ⊎ (block_end l c ≤ l.data_start)
  data_clear Dir q other = inr fits.data_start_from
  data_clear Nav q other = ⊎_elim (λ h. inr h) (λ h. inl (omega arith)) (optional_data l.nav (nav_optional q))
  data_clear Cal q other = ⊎_elim (λ h. inr h) (λ h. inl (omega arith)) (optional_data l.cal (cal_optional q))
  data_clear Aux q other = ⊎_elim (λ h. inr h) (λ h. inl (omega arith)) (optional_data l.aux (aux_optional q))
  data_clear Data q other = absurd (other refl)
  data_clear Audit q other = inl (omega arith)

  -- of a block and AUDIT
  audit_clear : (c : Block) → block_present l c ≡ true → ¬ (Audit ≡ c) → (audit_end_in l ≤ block_start l c) ⊎ (block_end l c ≤ data_end_in l)
  audit_clear Dir q other = inr (omega (arith, fits.data_start_from))
  audit_clear Nav q other = ⊎_elim (λ h. inr (omega arith)) (λ h. inl h) (optional_data l.nav (nav_optional q))
  audit_clear Cal q other = ⊎_elim (λ h. inr (omega arith)) (λ h. inl h) (optional_data l.cal (cal_optional q))
  audit_clear Aux q other = ⊎_elim (λ h. inr (omega arith)) (λ h. inl h) (optional_data l.aux (aux_optional q))
  audit_clear Data q other = inr (omega arith)
  audit_clear Audit q other = absurd (other refl)

  -- a block starts at x, where no other block that may be absent does
  record Alone (b : Block) (x : ℕ) : Type 0 where
    nav : block_present l Nav ≡ true → ¬ (b ≡ Nav) → ¬ (x ≡ l.nav)
    cal : block_present l Cal ≡ true → ¬ (b ≡ Cal) → ¬ (x ≡ l.cal)
    aux : block_present l Aux ≡ true → ¬ (b ≡ Aux) → ¬ (x ≡ l.aux)

  -- of a block and one that may be absent
  optional_clear : (b : Block) (x : ℕ) → Optional l x → Alone b x → (c : Block) → block_present l c ≡ true → ¬ (b ≡ c)
      → (end_of l x ≤ block_start l c) ⊎ (block_end l c ≤ x)
  optional_clear b x o alone Dir q other = inr o.at.from
  optional_clear b x o alone Nav q other = optional_two x l.nav o (nav_optional q) (alone.nav q other)
  optional_clear b x o alone Cal q other = optional_two x l.cal o (cal_optional q) (alone.cal q other)
  optional_clear b x o alone Aux q other = optional_two x l.aux o (aux_optional q) (alone.aux q other)
  optional_clear b x o alone Data q other = ⊎_elim (λ h. inl h) (λ h. inr (omega arith)) (optional_data x o)
  optional_clear b x o alone Audit q other = ⊎_elim (λ h. inl (omega arith)) (λ h. inr h) (optional_data x o)

  nav-alone : Alone Nav l.nav
  nav-alone =
      record {
        nav = λ q other. absurd (other refl);
        cal = λ q other e. fits.cal_nav (there l.cal q) (sym e);
        aux = λ q other e. fits.aux_nav (there l.aux q) (sym e);
      }

  cal-alone : block_present l Cal ≡ true → Alone Cal l.cal
  cal-alone p =
      record {
        nav = λ q other. fits.cal_nav (there l.cal p);
        cal = λ q other. absurd (other refl);
        aux = λ q other e. fits.aux_cal (there l.aux q) (sym e);
      }

  aux-alone : block_present l Aux ≡ true → Alone Aux l.aux
  aux-alone p =
      record {
        nav = λ q other. fits.aux_nav (there l.aux p);
        cal = λ q other. fits.aux_cal (there l.aux p);
        aux = λ q other. absurd (other refl);
      }

  -- of two blocks that are present, one ends before the other begins
  pub blocks_clear : (b c : Block) → block_present l b ≡ true → block_present l c ≡ true → ¬ (b ≡ c)
      → (block_end l b ≤ block_start l c) ⊎ (block_end l c ≤ block_start l b)
  blocks_clear Dir c p q other = inl (block_from c q (λ e. other (sym e)))
  blocks_clear Nav c p q other = optional_clear Nav l.nav (nav_optional p) nav-alone c q other
  blocks_clear Cal c p q other = optional_clear Cal l.cal (cal_optional p) (cal-alone p) c q other
  blocks_clear Aux c p q other = optional_clear Aux l.aux (aux_optional p) (aux-alone p) c q other
  blocks_clear Data c p q other = data_clear c q other
  blocks_clear Audit c p q other = audit_clear c q other

  -- so they share no byte
  pub blocks_apart : (b c : Block) → block_present l b ≡ true → block_present l c ≡ true → ¬ (b ≡ c)
      → Apart (block_start l b) (block_length l b) (block_start l c) (block_length l c)
  blocks_apart b c p q other =
      ⊎_elim (λ h. inl (omega (arith, block_inside b p))) (λ h. inr (omega (arith, block_inside c q))) (blocks_clear b c p q other)

  -- no sample has a byte of another block than DATA
  pub sample_block : (i e s : ℕ) → IsSample l i e s → (b : Block) → block_present l b ≡ true → ¬ (Data ≡ b)
      → Apart (sample_address l i e s) l.width (block_start l b) (block_length l b)
  sample_block i e s is b p other =
      let inside = sample_data l fits i e s is in
      ⊎_elim (λ h. inl (omega (arith, inside.1))) (λ h. inr (omega (arith, inside.0, block_inside b p))) (data_clear b p other)
