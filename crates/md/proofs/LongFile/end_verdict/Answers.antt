-- `md::LongFile::end_verdict` meets its contract: counts within their bounds have small products.
-- Assumes nothing.
use Prim.Native.Nat.{◌*◌, ◌≤◌}
use native.Mathlib.Omega.{arith}
use Rattle.md_rules.proofs.Verdicts.{pass_counted, data_words}
use Rattle.md.proofs.LongFile.end_verdict.Goals as goal

data-small : (c : goal.After-word-end) → let s = c in s.word-rows.result * s.word-columns.result * s.word-data_keys.result ≤ 41942400000000
data-small c =
    let s = c in
    rw (s.word-rows.ensures, s.word-columns.ensures, s.word-data_keys.ensures) (data_words (pass_counted _ s.requires))

pub overflow_mul-data_end-2 : goal.overflow_mul-data_end-2
overflow_mul-data_end-2 c = omega (arith, data-small c)

pub overflow_add-data_end : goal.overflow_add-data_end
overflow_add-data_end c = omega (arith, data-small c, c.word-data_start.type_inv)
