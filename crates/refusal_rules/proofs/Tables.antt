-- Laws of tables of rules.
-- Assumes nothing.
use mathlib.Core.Path.{◌≡◌, refl, sym, ap, subst, ◌∙◌}
use mathlib.Core.Bool.{Bool, true, false}
use mathlib.Core.Logic.{◌↔◌}
use mathlib.Core.List.{List, [], ◌∷◌, ◌++◌}
use Prim.Native.Nat.{ℕ}
use native.Mathlib.Omega.{arith}
use Rattle.lists.specs.Choices.{pick}
use Rattle.refusal_rules.specs.Rules.{Refused, Verdict, Pass, Fault, Rule, refusal_of, judge, first, first_fault, chained, Every, Hold, Give, FirstFailing}

-- ---- two verdicts

-- a fault is no pass
pub fault_pass {ℓ} : {A : Type ℓ} (r : Refused) → Fault r ≡ Pass → A
fault_pass r e = let z : ◌≡◌ {A = ℕ} 0 1 = cc in let y : ⊥ = omega arith in absurd y

-- the first fault of three verdicts, grouped either way
pub first_assoc : (a b c : Verdict) → first (first a b) c ≡ first a (first b c)
unfolding first
first_assoc Pass b c = refl
first_assoc (Fault r) b c = refl

-- a pass changes nothing
pub first_pass : (a : Verdict) → first a Pass ≡ a
unfolding first
first_pass Pass = refl
first_pass (Fault r) = refl

-- where the first fault of two verdicts is a pass, both pass
pub both_pass : (a b : Verdict) → first a b ≡ Pass → (a ≡ Pass) × (b ≡ Pass)
unfolding first
both_pass Pass b e = (refl, e)
both_pass (Fault r) b e = fault_pass r e

-- and only there
pub pass_both : (a b : Verdict) → a ≡ Pass → b ≡ Pass → first a b ≡ Pass
unfolding first
pass_both a b e f = rw (e, f)

-- ---- one rule

-- a rule that holds passes
pub judge-holds : (r : Rule) → r.holds ≡ true → judge r ≡ Pass
unfolding judge
judge-holds r e = rw e

judge-fails : (r : Rule) → r.holds ≡ false → judge r ≡ Fault (refusal_of r)
unfolding judge
judge-fails r e = rw e

-- and the other way round
pub judge_pass : (r : Rule) → judge r ≡ Pass → r.holds ≡ true
unfolding judge
judge_pass r = step r.holds
  where
    step : (t : Bool) → pick t Pass (Fault (refusal_of r)) ≡ Pass → t ≡ true
    step true e = refl
    step false e = fault_pass (refusal_of r) e

-- ---- a table

-- where a table passes, every rule of it holds
pub pass_hold : (rs : List Rule) → first_fault rs ≡ Pass → Hold rs
unfolding first_fault
pass_hold [] e = tt
pass_hold (r ∷ rs) e =
    let p : (judge r ≡ Pass) × (first_fault rs ≡ Pass) = both_pass (judge r) (first_fault rs) e in
    (judge_pass r p.0, pass_hold rs p.1)

-- and the other way round
pub hold_pass : (rs : List Rule) → Hold rs → first_fault rs ≡ Pass
unfolding first_fault
hold_pass [] h = refl
hold_pass (r ∷ rs) h = pass_both (judge r) (first_fault rs) (judge-holds r h.0) (hold_pass rs h.1)

-- tables that are joined
pub joined_faults : (rs ss : List Rule) → first_fault (rs ++ ss) ≡ first (first_fault rs) (first_fault ss)
unfolding first_fault first
joined_faults [] ss = refl
joined_faults (r ∷ rs) ss =
    ap (first (judge r)) (joined_faults rs ss) ∙ sym (first_assoc (judge r) (first_fault rs) (first_fault ss))

-- where the first of them comes to a verdict
pub joined : (rs ss : List Rule) (v : Verdict) → first_fault rs ≡ v → first_fault (rs ++ ss) ≡ first v (first_fault ss)
joined rs ss v e = joined_faults rs ss ∙ ap (λ (x : Verdict). first x (first_fault ss)) e

-- a fault of the first is that of both together
pub fault_joined : (rs ss : List Rule) (f : Refused) → first_fault rs ≡ Fault f → Fault f ≡ first_fault (rs ++ ss)
unfolding first
fault_joined rs ss f e = sym (joined rs ss (Fault f) e)

-- where the first passes, the second decides
pub pass_joined : (rs ss : List Rule) → first_fault rs ≡ Pass → first_fault ss ≡ first_fault (rs ++ ss)
unfolding first
pass_joined rs ss e = sym (joined rs ss Pass e)

-- where both together pass, each does
pub joined_pass : (rs ss : List Rule) → first_fault (rs ++ ss) ≡ Pass → (first_fault rs ≡ Pass) × (first_fault ss ≡ Pass)
joined_pass rs ss e = both_pass (first_fault rs) (first_fault ss) (sym (joined_faults rs ss) ∙ e)

-- a table's fault is the refusal of its first rule that fails
pub fault_first : (rs : List Rule) (f : Refused) → first_fault rs ≡ Fault f → FirstFailing rs f
unfolding first_fault first
fault_first [] f e = fault_pass f (sym e)
fault_first (r ∷ rs) f e = step r.holds refl (fault_first rs f)
  where
    step : (t : Bool) → r.holds ≡ t → (first_fault rs ≡ Fault f → FirstFailing rs f) → FirstFailing (r ∷ rs) f
    step true h rec =
        let x : FirstFailing rs f = rec (rw (judge-holds r h) at e) in
        record {
          before = r ∷ x.before;
          failing = x.failing;
          after = x.after;
          split = ap (λ (l : List Rule). r ∷ l) x.split;
          hold = (h, x.hold);
          fails = x.fails;
          gives = x.gives;
        }
    step false h rec =
        let q : Fault (refusal_of r) ≡ Fault f = rw (judge-fails r h) at e in
        record { before = []; failing = r; after = rs; split = refl; hold = tt; fails = h; gives = cc }

-- and the other way round
pub first_fault_lem : (rs : List Rule) (f : Refused) → FirstFailing rs f → first_fault rs ≡ Fault f
unfolding first_fault first
first_fault_lem rs f x =
    ap first_fault x.split
    ∙ joined_faults x.before (x.failing ∷ x.after)
    ∙ rw (hold_pass x.before x.hold, judge-fails x.failing x.fails) (ap Fault (sym x.gives))

-- the rules of tables that are joined: of the first
pub every_left : (P : Rule → Type 0) (rs ss : List Rule) → Every P (rs ++ ss) → Every P rs
every_left P [] ss h = tt
every_left P (r ∷ rs) ss h = (h.0, every_left P rs ss h.1)

-- of the second
pub every_right : (P : Rule → Type 0) (rs ss : List Rule) → Every P (rs ++ ss) → Every P ss
every_right P [] ss h = h
every_right P (r ∷ rs) ss h = every_right P rs ss h.1

-- of both
pub every_both : (P : Rule → Type 0) (rs ss : List Rule) → Every P rs → Every P ss → Every P (rs ++ ss)
every_both P [] ss h k = k
every_both P (r ∷ rs) ss h k = (h.0, every_both P rs ss h.1 k)

-- tables that are joined hold exactly where both hold
pub hold-append : (rs ss : List Rule) → Hold (rs ++ ss) ↔ (Hold rs × Hold ss)
hold-append rs ss = (
  λ h. (every_left (λ r. r.holds ≡ true) rs ss h, every_right (λ r. r.holds ≡ true) rs ss h),
  λ h. every_both (λ r. r.holds ≡ true) rs ss h.0 h.1,
)

-- a rule that holds, and the rules after it
pub also : {P Q : Type 0} → P → Q → P × Q
also p q = (p, q)

-- where every rule gives the same refusal, that is the fault
pub same_fault : (rs : List Rule) (f r : Refused) → Give f rs → FirstFailing rs r → r ≡ f
same_fault rs f r g x =
    x.gives ∙ (every_right (λ q. refusal_of q ≡ f) x.before (x.failing ∷ x.after) (subst (Give f) x.split g)).0

-- the rules applied one after another say what the table says, after what came before it
chained-first : (v : Verdict) (rs : List Rule) → chained v rs ≡ first v (first_fault rs)
unfolding chained first_fault
chained-first v [] = sym (first_pass v)
chained-first v (r ∷ rs) = chained-first (first v (judge r)) rs ∙ first_assoc v (judge r) (first_fault rs)

-- what rules give that are applied one after another is what the table says, after a verdict
pub by_chain : (v : Verdict) (rs : List Rule) {r : Verdict} → r ≡ chained v rs → r ≡ first v (first_fault rs)
by_chain v rs e = e ∙ chained-first v rs

-- from the start
pub by_table : (rs : List Rule) {r : Verdict} → r ≡ chained Pass rs → r ≡ first_fault rs
unfolding first
by_table rs e = e ∙ chained-first Pass rs
