-- What a loop stores that fills an output with what is read at equal distances in a file.
-- Assumes nothing.
use Rattle.std.specs.Prelude.{◌≡◌, ℕ, ◌+◌, ◌*◌, ◌^◌, ◌<◌}

-- a statement holds of each of n bytes: the first is at byte `at`, and each `step` bytes behind the one before
abbrev pub AtEach : (ℕ → Type 0) → ℕ → ℕ → ℕ → Type 0
AtEach holds at step n = (i : ℕ) → i < n → holds (at + i * step)

-- it can be read at a byte, whose number is below 2 ^ 63
abbrev pub Readable : (ℕ → Type 0) → ℕ → Type 0
Readable can x = (x < 2 ^ 63) × can x

-- a function has at a byte the only value that reading there gives
abbrev pub Reads : {A : Type 0} → (ℕ → A → Type 0) → (ℕ → A) → ℕ → Type 0
Reads gives value x = (v : _) → gives x v → v ≡ value x
