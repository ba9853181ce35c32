-- The library's sum of lengths.
-- Assumes nothing.
use mathlib.Core.Path.{◌≡◌, refl, ap, ◌∙◌}
use mathlib.Core.List.{List, [], ◌∷◌}
use Prim.Native.Nat.{ℕ, ◌+◌}
use Rattle.std.specs.List.{sum}
use Rattle.std.proofs.lemmas.List.Sums.{sum_by-cons}
use Rattle.lists.specs.Segments.{total}

-- it is their total
pub sum_total : (ns : List ℕ) → sum ns ≡ total ns
sum_total [] = refl
sum_total (n ∷ ns) = sum_by-cons (λ x. x) n ns ∙ ap (λ (m : ℕ). n + m) (sum_total ns)
