-- `listing_text::list_text` meets its contract: the text is the listing, and it is copied where the output has a place for each byte.
-- Assumes nothing.
use Rattle.std.proofs.Common.{◌≡◌, ℕ, List, ◌++◌, take, drop, sym, ap, ap₂, ◌∙◌, arith}
use Rattle.copy_rules.proofs.Copies.{counted_over, counted_short}
use Rattle.listing_rules.specs.Page.{listing_text}
use Rattle.listing_rules.specs.Steps.{empty_text, append_bytes}
use Rattle.listing_rules.specs.declared.Text.{Text}
use Rattle.listing_rules.proofs.Appending.{TextIs, text_is}
use Rattle.listing_rules.proofs.Page.{listing_most}
use Rattle.listing_text.proofs.list_text.Goals as goal

-- the bytes of the text are the listing
is-listing : (f : List ℕ) {t : Text} → t ≡ append_bytes empty_text (listing_text f) → TextIs t (listing_text f)
is-listing f e = rw e (text_is (listing_text f) (omega (arith, listing_most f)))

pub returns-then-out-count : goal.returns-then-out-count
returns-then-out-count c =
    let text = is-listing c.args.file.now c.text_of-text.ensures in
    counted_short (listing_text c.args.file.now) c.args.out.now c.text_of-text.result.count (sym text.count) c.if-out-count.true

pub shared_ref_as_front-listing : goal.shared_ref_as_front-listing
shared_ref_as_front-listing c = omega (arith, (is-listing c.args.file.now c.text_of-text.ensures).count, listing_most c.args.file.now)

pub returns : goal.returns
returns c =
    let t = c.text_of-text.result in
    let text = is-listing c.args.file.now c.text_of-text.ensures in
    counted_over (listing_text c.args.file.now) c.args.out.now _ t.count
    (ap₂ (λ (l : List ℕ) (n : ℕ). l ++ drop n c.args.out.now) (c.copy_from_slice.ensures.after ∙ ap (λ (n : ℕ). take n t.bytes) text.count ∙ text.front) text.count)
    (sym text.count)
    c.if-out-count.false
