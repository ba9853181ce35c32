-- Deleting and adding a grid: document 02, request 5, in the order of its sentences; what several of them use stands first. "Both calls take file and byte order, no
-- layout." Free words, the longest runs of them and the lowest address are defined in extent_rules. A third call tells the free stretches, and changes no file.
-- Assumes nothing.
use Rattle.std.specs.Prelude.{List, [], ◌∷◌, ◌++◌, map, ℕ, ◌+◌, ◌*◌, ◌/◌, leb, ltb, eqb, ℤ, length, drop}
use Rattle.std.proofs.lemmas.List.Edits.{sets}
use Rattle.std.specs.Int.{w32}
use Rattle.std.proofs.Common.{of_z}
use Rattle.lists.specs.Lists.{over}
use Rattle.lists.specs.Lowest.{lowest}
use Rattle.endian_rules.specs.Numbers.{encode}
use Rattle.endian_rules.specs.Words.{word_at}
use Rattle.endian_rules.specs.Files.{bytes_of}
use Rattle.endian_rules.specs.declared.Order.{Order}
use Rattle.refusal_rules.specs.Rules.{Rule, rule, first_fault, Verdict, Pass, Fault}
use Rattle.refusal_rules.specs.Answers.{Answer, gives, refuses}
use Rattle.refusal_rules.specs.Tests.{within}
use Rattle.grid_rules.specs.Rules.{empty_slot, is_empty_slot, grid_file_rules, wanted_rules}
use Rattle.extent_rules.specs.Stretches.{first_word, highest_end, free_stretches}
use Rattle.extent_rules.specs.Rooms.{lowest_address}
use Rattle.extent_rules.specs.declared.Extent.{Extent}
use Rattle.grid_update_rules.specs.declared.Added.{Added}

-- ---- words of the directory

-- a file with word k, counted from 0, set to a raw number
unfoldable pub set_word : Order → List ℕ → ℕ → ℕ → List ℕ
set_word o f k n = sets f (4 * k) (encode o 4 n)

-- a file with its next free word set: "After either call the next free word is the end of the highest grid, or 12+n if there is none."
unfoldable pub next_free_set : Order → List ℕ → List ℕ
next_free_set o f = set_word o f (11 + word_at o f 10) (highest_end (word_at o f) (first_word (word_at o f)) (word_at o f 10))

-- ---- deleting

-- a file without the grid of a number: "Deleting sets the slot to -1."
unfoldable pub without_grid : Order → List ℕ → ℕ → List ℕ
without_grid o f number = next_free_set o (set_word o f (10 + number) empty_slot)

-- ---- adding

-- how many words a grid has: its header of 64, and its data
abbrev pub grid_words : ℕ → ℕ → ℕ
grid_words rows columns = 64 + rows * columns

-- "the lowest-numbered empty slot", counted from 0; n where there is none
unfoldable pub lowest_empty : (ℕ → ℕ) → ℕ
lowest_empty w = lowest (is_empty_slot w) 0 (w 10)

-- "the lowest word address at or after 12+n where 64 + rows·columns words lie inside the file and in no grid and end by 2,147,483,647"; the number of whole words
-- where there is none
abbrev pub address_for : Order → List ℕ → ℕ → ℕ
address_for o f need = lowest_address (word_at o f) (length f / 4) need

-- a grid's bytes: "a header of 256 bytes as they go into the file", of which "words 1 to 3 are written from rows, columns and their product", and "values by
-- columns"
unfoldable pub grid_bytes : Order → List ℕ → ℕ → ℕ → List ℤ → List ℕ
grid_bytes o header rows columns values = bytes_of o (rows * columns ∷ rows ∷ columns ∷ []) ++ drop 12 header ++ bytes_of o (map (of_z w32) values)

-- a file with a grid's bytes at word a, and a as the offset of slot k
unfoldable pub grid_put : Order → List ℕ → ℕ → ℕ → List ℕ → List ℕ
grid_put o f k a bytes = next_free_set o (set_word o (sets f (4 * a) bytes) (11 + k) a)

-- a file with a grid more, which "uses the lowest-numbered empty slot and the lowest word address"
unfoldable pub with_grid : Order → List ℕ → List ℕ → ℕ → ℕ → List ℤ → List ℕ
with_grid o f header rows columns values =
    grid_put o f (lowest_empty (word_at o f)) (address_for o f (grid_words rows columns)) (grid_bytes o header rows columns values)

-- what adding a grid answers where the file then has so many free stretches: "answers both", slot and address, the slot counted from 1, and "their number
-- answered too"
abbrev pub added : Order → List ℕ → ℕ → ℕ → ℕ → Added
added o f rows columns count =
    record { number = lowest_empty (word_at o f) + 1; address = address_for o f (grid_words rows columns); stretches = count }

-- ---- the free stretches

-- "The free stretches, longest runs of words from 12+n to the file's last whole word that no grid has", in address order
abbrev pub stretches_of : Order → List ℕ → List Extent
stretches_of o f = free_stretches (word_at o f) (length f / 4)

-- ---- refusals

-- the rule of a table of `size` pairs: "10 for a table of fewer than n+1 pairs"
abbrev pub table_rule : (ℕ → ℕ) → ℕ → Rule
table_rule w size = rule (leb (w 10 + 1) size) 10 0

-- the rules of deleting the grid of a number that follow those of the file: "10 for a table of fewer than n+1 pairs; then delete 7, 6", for a table of `size`
-- pairs
abbrev pub delete_own : (ℕ → ℕ) → ℕ → ℕ → List Rule
delete_own w number size = table_rule w size ∷ wanted_rules w number

-- all rules of deleting the grid of a number: "Refusals, after 1 to 5 on the file"
unfoldable pub delete_rules : Order → List ℕ → ℕ → ℕ → List Rule
delete_rules o f number size = grid_file_rules (length f) (word_at o f) ++ delete_own (word_at o f) number size

-- the rules of adding a grid that follow those of the file: "10 for a table of fewer than n+1 pairs; .. add, in this order, 3 for rows or columns (place 0), 12 for
-- values or header of the wrong length, 13 exactly if there's no empty slot, 14 exactly if no such address exists", for so many header bytes and values, and a
-- table of `size` pairs
abbrev pub add_own : Order → List ℕ → ℕ → ℕ → ℕ → ℕ → ℕ → List Rule
add_own o f headers rows columns values size =
    table_rule (word_at o f) size
    ∷ rule (within 1 65535 rows) 3 0
    ∷ rule (within 1 65535 columns) 3 0
    ∷ rule (eqb values (rows * columns)) 12 0
    ∷ rule (eqb headers 256) 12 0
    ∷ rule (ltb (lowest_empty (word_at o f)) (word_at o f 10)) 13 0
    ∷ rule (ltb (address_for o f (grid_words rows columns)) (length f / 4)) 14 0
    ∷ []

-- all rules of adding a grid: "Refusals, after 1 to 5 on the file"
unfoldable pub add_rules : Order → List ℕ → ℕ → ℕ → ℕ → ℕ → ℕ → List Rule
add_rules o f headers rows columns values size = grid_file_rules (length f) (word_at o f) ++ add_own o f headers rows columns values size

-- ---- the two calls

-- What a call answers of the free stretches of a file, and the table that it leaves, by the verdict of its rules: the value, made of their number, and the free
-- stretches in the first places of the table t, with "places past them stay"; or the refusal, and the table as it was.
abbrev pub answer_and_table : {Value : Type 0} → Verdict → (ℕ → Value) → Order → List ℕ → List Extent → Answer Value × List Extent
answer_and_table Pass value o f t = (gives (value (length (stretches_of o f))), over (stretches_of o f) t)
answer_and_table (Fault r) value o f t = (refuses r.number r.place, t)

-- the file that a call leaves, by the verdict of its rules: the changed file g, or the file f as it was
abbrev pub file_left : Verdict → List ℕ → List ℕ → List ℕ
file_left Pass f g = g
file_left (Fault r) f g = f

-- what a call that changes a file f into g answers, of the free stretches of g, and the file and the table that it leaves
abbrev pub changed : {Value : Type 0} → Verdict → (ℕ → Value) → Order → List ℕ → List ℕ → List Extent → Answer Value × (List ℕ × List Extent)
changed v value o f g t = ((answer_and_table v value o g t).0, (file_left v f g, (answer_and_table v value o g t).1))

-- what deleting the grid of a number answers, which is the number of free stretches, and the file and the table that it leaves
unfoldable pub delete_grid : Order → List ℕ → ℕ → List Extent → Answer ℕ × (List ℕ × List Extent)
delete_grid o f number t = changed (first_fault (delete_rules o f number (length t))) (λ count. count) o f (without_grid o f number) t

-- what adding a grid answers, and the file and the table that it leaves
unfoldable pub add_grid : Order → List ℕ → List ℕ → ℕ → ℕ → List ℤ → List Extent → Answer Added × (List ℕ × List Extent)
add_grid o f header rows columns values t =
    changed (first_fault (add_rules o f (length header) rows columns (length values) (length t))) (added o f rows columns) o f (with_grid o f header rows columns values) t

-- ---- telling the free stretches, which request 5 has only after a change: without one, by its rule of the table

-- all rules of telling the free stretches in a table of `size` pairs: 1 to 5 on the file, and then "10 for a table of fewer than n+1 pairs"
unfoldable pub stretch_rules : Order → List ℕ → ℕ → List Rule
stretch_rules o f size = grid_file_rules (length f) (word_at o f) ++ table_rule (word_at o f) size ∷ []

-- what telling the free stretches of a file that stays as it is answers, which is their number, and the table that it leaves, in whose first places they stand
unfoldable pub tell_stretches : Order → List ℕ → List Extent → Answer ℕ × List Extent
tell_stretches o f t = answer_and_table (first_fault (stretch_rules o f (length t))) (λ count. count) o f t
