-- The text that the listing program prints, in bytes: document 01, "Worked files". Each line ends with a line feed.
-- Assumes nothing.
use Rattle.std.specs.Prelude.{List, [], ◌∷◌, ◌++◌, ℕ, ltb, length}
use Rattle.lists.specs.Choices.{pick}
use Rattle.endian_rules.specs.declared.Order.{Order}
use Rattle.endian_rules.specs.declared.Order.TheVariants.{Big, Little}
use Rattle.refusal_rules.specs.Answers.{Answer, gives, refuses}
use Rattle.area_rules.specs.Opening.{open_area}
use Rattle.area_rules.specs.declared.AreaLayout.{AreaLayout}
use Rattle.area_rules.specs.declared.Block.{Block}
use Rattle.area_rules.specs.declared.Block.TheVariants.{Dir, Nav, Cal, Aux, Data, Audit}
use Rattle.listing_rules.specs.Decimal.{decimal}
use Rattle.listing_rules.specs.Listing.{blocks_of}
use Rattle.listing_rules.specs.Quoted.{quoted}
use Rattle.listing_rules.specs.declared.Entry.{Entry}

-- a word and a number behind it
unfoldable pub labelled : List ℕ → ℕ → List ℕ
labelled word number = word ++ decimal number

-- ---- the lines of a file that is accepted

-- the line of the byte order: `AREA big`; "Little order prints `AREA little`"
abbrev pub order_line : Order → List ℕ
order_line Big = quoted "AREA big\n"
order_line Little = quoted "AREA little\n"

-- the lines of a layout: that of the byte order, and that of the numbers, as `lines 2 elements 3 bands 2 bytes 2 prefix 16`
unfoldable pub layout_lines : AreaLayout → List ℕ
layout_lines layout =
    order_line layout.order
    ++ labelled (quoted "lines ") layout.lines
    ++ labelled (quoted " elements ") layout.elements
    ++ labelled (quoted " bands ") layout.bands
    ++ labelled (quoted " bytes ") layout.width
    ++ labelled (quoted " prefix ") layout.prefix
    ++ quoted "\n"

-- the name of a block: "DIR, AUX, NAV, CAL, DATA, AUDIT"
abbrev pub block_name : Block → List ℕ
block_name Dir = quoted "DIR"
block_name Aux = quoted "AUX"
block_name Nav = quoted "NAV"
block_name Cal = quoted "CAL"
block_name Data = quoted "DATA"
block_name Audit = quoted "AUDIT"

-- the line of a block: its name, start and length, as `NAV 256 128`
unfoldable pub block_line : Entry → List ℕ
block_line entry = block_name entry.block ++ labelled (quoted " ") entry.start ++ labelled (quoted " ") entry.length ++ quoted "\n"

-- the lines of blocks, in the order of the blocks
unfoldable pub block_lines : List Entry → List ℕ
block_lines [] = []
block_lines (entry ∷ rest) = block_line entry ++ block_lines rest

-- ---- the whole text

-- the line of a refusal: "A refusal prints one line, as `REFUSED 5 at 34`"
unfoldable pub refusal_line : ℕ → ℕ → List ℕ
refusal_line number place = labelled (quoted "REFUSED ") number ++ labelled (quoted " at ") place ++ quoted "\n"

-- the line of a file that is too long to be listed
abbrev pub too_long_line : List ℕ
too_long_line = quoted "TOO LONG\n"

-- the text of what opening a file answers and of the file's blocks: the lines of the layout and of the blocks, or the line of the refusal
abbrev pub answer_text : Answer AreaLayout → List Entry → List ℕ
answer_text (gives layout) blocks = layout_lines layout ++ block_lines blocks
answer_text (refuses number place) blocks = refusal_line number place

-- The listing of a file, whatever its bytes are: "reads an AREA file on standard input, at most 65,536 bytes, and prints the blocks that are present (DIR, AUX,
-- NAV, CAL, DATA, AUDIT) by start"; "longer input prints `TOO LONG`".
unfoldable pub listing_text : List ℕ → List ℕ
listing_text file = pick (ltb 65536 (length file)) too_long_line (answer_text (open_area file) (blocks_of (open_area file)))
