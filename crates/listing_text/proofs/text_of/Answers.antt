-- `listing_text::text_of` meets its contract: the text is that of what the listing says, or that the file is too long.
-- Assumes nothing.
use Rattle.std.proofs.Common.{◌≡◌, ℕ, ◌≤◌, List, length, take, Result, Ok, Err, sym, ap, ◌∙◌}
use Rattle.refusal_rules.specs.Answers.{says}
use Rattle.refusal_rules.specs.declared.Refusal.{Refusal}
use Rattle.area_rules.specs.declared.AreaLayout.{AreaLayout}
use Rattle.listing_rules.specs.Listing.{listing_of}
use Rattle.listing_rules.specs.Page.{answer_text, refusal_line, listing_text}
use Rattle.listing_rules.specs.Steps.{empty_text, append_bytes}
use Rattle.listing_rules.specs.declared.BlockList.{BlockList}
use Rattle.listing_rules.proofs.Appending.{append_more, append_three}
use Rattle.listing_rules.proofs.Page.{listing_six, listing_said, listing_too_long}
use Rattle.listing_text.proofs.text_of.Goals as goal

-- the text of a file that is short enough, by what opening it answers
said : (f : List ℕ) (opening : Result AreaLayout Refusal) {o : Result AreaLayout Refusal} {b : BlockList} → (says o, b) ≡ listing_of f → o ≡ opening
    → length f ≤ 65536 → append_bytes empty_text (answer_text (says opening) (take b.count b.entries)) ≡ append_bytes empty_text (listing_text f)
said f opening {b = b} e q h = ap (append_bytes empty_text) (listing_said f (ap (λ (x : Result AreaLayout Refusal). (says x, b)) (sym q) ∙ e) h)

pub returns-then-file-gt65536 : goal.returns-then-file-gt65536
unfolding empty_text
returns-then-file-gt65536 c =
    c.append_bytes.ensures
    ∙ ap (append_bytes empty_text) (sym (listing_too_long c.args.file.now c.if-file-gt65536.true))

pub append_blocks-requires : goal.append_blocks-requires
append_blocks-requires c = listing_six c.args.file.now c.list_area-listing.ensures

pub returns-in-Ok : goal.returns-in-Ok
unfolding empty_text
returns-in-Ok c =
    rw (c.append_blocks.ensures, c.append_layout.ensures)
    (sym (append_more _ _ _) ∙ said c.args.file.now (Ok c.in-Ok.layout) c.list_area-listing.ensures c.in-Ok.is c.if-file-gt65536.false)

pub returns-in-Err : goal.returns-in-Err
unfolding empty_text refusal_line
returns-in-Err c =
    rw (c.append_bytes-in-Err.ensures, c.append_two-line.ensures, c.number-number.ensures, c.place.ensures)
    (append_three _ _ _ _ ∙ said c.args.file.now (Err c.in-Err.refusal) c.list_area-listing.ensures c.in-Err.is c.if-file-gt65536.false)
