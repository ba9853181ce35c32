-- Samples of an accepted AREA file: each is inside DATA and behind its line's prefix, and two of them share no byte.
-- Assumes nothing.
use mathlib.Core.Path.{◌≡◌, sym, ap, ◌∙◌}
use mathlib.Core.Logic.{inl, inr, ⊎_elim}
use Prim.Native.Nat.{ℕ, ◌+◌, ◌*◌, ◌/◌, ◌%◌, ◌≤◌, ◌<◌}
use native.Mathlib.Nat.{mul_comm, mul_assoc, add-mul, eq_of_mul-eq-mul_right}
use native.Mathlib.Omega.{arith}
use Rattle.lists.specs.Lists.{Apart}
use Rattle.lists.proofs.Rows.{compared, row-before, row-inside, row_only, multiples_apart}
use Rattle.area_rules.specs.Accepts.{IsWidth}
use Rattle.area_rules.specs.Samples.{line_length_in, data_end_in, line_start, sample_address, IsSample, AreaFits}
use Rattle.area_rules.specs.declared.AreaLayout.{AreaLayout}
use Rattle.area_rules.proofs.Counts.{by_width, width_bounds}
use Rattle.area_rules.proofs.Prefixes.{rounded_exactly}

-- bands are interleaved within each element: the next slot of an element is the next sample of the line
pub sample-next : (l : AreaLayout) (i e s : ℕ) → sample_address l i e (s + 1) ≡ sample_address l i e s + l.width
sample-next l i e s = omega (arith, add-mul (e * l.bands + s) 1 l.width)

-- and the first slot of the next element comes behind the last
pub sample-row : (l : AreaLayout) (i e : ℕ) → sample_address l i (e + 1) 0 ≡ sample_address l i e 0 + l.bands * l.width
sample-row l i e = omega (arith, add-mul e 1 l.bands, add-mul (e * l.bands) l.bands l.width)

-- a multiple of four is a multiple of a sample's bytes
four_width : (n w : ℕ) → IsWidth w → n % 4 ≡ 0 → (j : ℕ) × (n ≡ j * w)
four_width n w h e = by_width (λ (x : ℕ). (j : ℕ) × (n ≡ j * x)) w h (n, omega arith) (n / 2, omega arith) (n / 4, omega arith)

module _ (l : AreaLayout) (fits : AreaFits l) where
  -- a sample has 1 to 4 bytes
  pub width-from : 1 ≤ l.width
  width-from = (width_bounds l.width fits.width).0

  pub width-to : l.width ≤ 4
  width-to = (width_bounds l.width fits.width).1

  -- line i ends where the next begins, inside DATA
  pub line-inside : (i : ℕ) → i < l.lines → line_start l i + line_length_in l ≤ data_end_in l
  line-inside i h = omega (arith, row-before (line_length_in l) i l.lines h)

  -- the place of an element's slot among the samples of a line
  slot-inside : (e s : ℕ) → e < l.elements → s < l.bands → e * l.bands + s < l.elements * l.bands
  slot-inside e s p q = row-inside l.bands e l.elements s p q

  module _ (i e s : ℕ) (is : IsSample l i e s) where
    -- a sample is behind the prefix of its line
    pub sample-from : line_start l i + l.prefix ≤ sample_address l i e s
    sample-from = omega arith

    -- and ends inside the line
    pub sample-to : sample_address l i e s + l.width ≤ line_start l i + line_length_in l
    sample-to =
        omega (
          arith,
          row-before l.width (e * l.bands + s) (l.elements * l.bands) (slot-inside e s is.element is.slot),
          ap (λ (x : ℕ). x * l.width) (mul_comm l.elements l.bands),
        )

    -- it is inside DATA
    pub sample_data : (l.data_start ≤ sample_address l i e s) × (sample_address l i e s + l.width ≤ data_end_in l)
    sample_data = (omega arith, omega (arith, sample-to, line-inside i is.line))

    -- and inside the file
    pub sample-inside : sample_address l i e s + l.width ≤ l.length
    sample-inside = omega (arith, sample_data.1, fits.room)

    -- no sample is in the directory
    pub sample-directory : 256 ≤ sample_address l i e s
    sample-directory = omega (arith, sample_data.0, fits.data_start_from)

    -- it is at a multiple of the width from the start of DATA
    pub sample_lattice : (j : ℕ) × (sample_address l i e s ≡ l.data_start + j * l.width)
    sample_lattice =
        let line = four_width (line_length_in l) l.width fits.width fits.line_four in
        let prefix = four_width l.prefix l.width fits.width ((rounded_exactly _ l.prefix).0 fits.prefix).four in
        (i * line.0 + prefix.0 + (e * l.bands + s), lattice line.0 prefix.0 line.1 prefix.1)
      where
        lattice : (p q : ℕ) → line_length_in l ≡ p * l.width → l.prefix ≡ q * l.width
            → sample_address l i e s ≡ l.data_start + (i * p + q + (e * l.bands + s)) * l.width
        lattice p q line prefix =
            omega (
              arith,
              ap (λ (x : ℕ). i * x) line,
              mul_assoc i p l.width,
              add-mul (i * p + q) (e * l.bands + s) l.width,
              add-mul (i * p) q l.width,
              prefix,
            )

    -- no sample has a byte of any line's prefix
    pub sample-prefix : (k : ℕ) → Apart (sample_address l i e s) l.width (line_start l k) l.prefix
    sample-prefix k =
        ⊎_elim (λ same. inr (omega (arith, ap (λ (x : ℕ). x * line_length_in l) same)))
        (⊎_elim (λ before. inl (omega (arith, sample-to, row-before (line_length_in l) i k before)))
        (λ after. inr (omega (arith, row-before (line_length_in l) k i after))))
        (compared i k)

  module _ (i e s j d t : ℕ) (is : IsSample l i e s) (it : IsSample l j d t) where
    -- an address settles the line
    line_only : sample_address l i e s ≡ sample_address l j d t → i ≡ j
    line_only same =
        ⊎_elim (λ e. e)
        (⊎_elim
        (λ before. let z : ⊥ = omega (arith, sample-to i e s is, row-before (line_length_in l) i j before, width-from) in absurd z)
        (λ after. let z : ⊥ = omega (arith, sample-to j d t it, row-before (line_length_in l) j i after, width-from) in absurd z))
        (compared i j)

    -- an address settles the sample
    pub sample_only : sample_address l i e s ≡ sample_address l j d t → (i ≡ j) × ((e ≡ d) × (s ≡ t))
    sample_only same =
        let line : i ≡ j = line_only same in
        let rest : (e * l.bands + s) * l.width ≡ (d * l.bands + t) * l.width = omega (arith, same, ap (λ (x : ℕ). x * line_length_in l) line) in
        let slot : e * l.bands + s ≡ d * l.bands + t =
        eq_of_mul-eq-mul_right l.width width-from (e * l.bands + s) (d * l.bands + t) rest in
        (line, row_only l.bands e s d t is.slot it.slot slot)

    -- two samples share no byte, unless they are the same
    pub samples_apart : ¬ ((i ≡ j) × ((e ≡ d) × (s ≡ t))) → Apart (sample_address l i e s) l.width (sample_address l j d t) l.width
    samples_apart differ =
        let x = sample_lattice i e s is in
        let y = sample_lattice j d t it in
        rw (x.1, y.1)
        (multiples_apart l.data_start l.width x.0 y.0
        (λ same. differ (sample_only (x.1 ∙ ap (λ (k : ℕ). l.data_start + k * l.width) same ∙ sym y.1))))
