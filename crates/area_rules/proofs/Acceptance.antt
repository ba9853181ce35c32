-- An AREA file is accepted exactly where every rule holds, and the layout is then the one that its words give.
-- Assumes nothing.
use mathlib.Core.Path.{◌≡◌}
use mathlib.Core.Logic.{◌↔◌}
use mathlib.Core.List.{List}
use Prim.Native.Nat.{ℕ}
use lib.ListN.{length}
use Rattle.refusal_rules.specs.Rules.{FirstFailing, Refused}
use Rattle.refusal_rules.specs.Answers.{gives, refuses}
use Rattle.refusal_rules.proofs.Answers.{value_exactly, refusal_exactly}
use Rattle.area_rules.specs.Rules.{directory_of, word_in, area_order, area_rules}
use Rattle.area_rules.specs.Opening.{area_layout_of, open_area_told, open_area}
use Rattle.area_rules.specs.Accepts.{AcceptsArea}
use Rattle.area_rules.specs.declared.AreaLayout.{AreaLayout}
use Rattle.area_rules.proofs.Words.{area_rules_exactly}

-- the layout that the bytes d give, which a file of `told` bytes begins with
abbrev pub layout_told : ℕ → List ℕ → AreaLayout
layout_told told d = area_layout_of (area_order d) told (word_in (directory_of (area_order d) d))

-- a file of which the first bytes are at hand opens exactly where all rules hold, and then to that layout and no other
pub told_exactly : (told : ℕ) (d : List ℕ) (l : AreaLayout) → (open_area_told told d ≡ gives l) ↔ (AcceptsArea told d × (l ≡ layout_told told d))
unfolding open_area_told
told_exactly told d l =
    let x = value_exactly (area_rules told d) (layout_told told d) l in
    let y = area_rules_exactly told d in
    (λ e. (y.0 (x.0 e).0, (x.0 e).1), λ a. x.1 (y.1 a.0, a.1))

-- and is refused exactly where a rule fails, by the first that does
pub told_refused : (told : ℕ) (d : List ℕ) (r : Refused) → (open_area_told told d ≡ refuses r.number r.place) ↔ FirstFailing (area_rules told d) r
unfolding open_area_told
told_refused told d r = refusal_exactly (area_rules told d) (layout_told told d) r

-- a whole file: accepted exactly where all rules hold
pub area_exactly : (f : List ℕ) (l : AreaLayout) → (open_area f ≡ gives l) ↔ (AcceptsArea (length f) f × (l ≡ layout_told (length f) f))
unfolding open_area
area_exactly f l = told_exactly (length f) f l

-- and refused exactly where one fails
pub area_refused : (f : List ℕ) (r : Refused) → (open_area f ≡ refuses r.number r.place) ↔ FirstFailing (area_rules (length f) f) r
unfolding open_area
area_refused f r = told_refused (length f) f r
