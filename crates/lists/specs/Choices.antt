-- Choices by a test. Each goes by cases on its first argument, so that it computes as soon as the test is known.
-- Assumes nothing.
use Rattle.std.specs.Prelude.{Bool, true, false}

-- the first where the test holds, else the second
abbrev pub pick {ℓ} : {A : Type ℓ} → Bool → A → A → A
pick true a b = a
pick false a b = b

-- whether both tests hold
abbrev pub both : Bool → Bool → Bool
both true b = b
both false b = false

-- whether one of two tests holds, or both do
abbrev pub either : Bool → Bool → Bool
either true b = true
either false b = b
