-- The stores of single values give what the theory of stores asks of a file format, so the order of stores does not matter: demand 3. A store that succeeds
-- writes at the place that the single read names; opening reads none of these bytes; places are on one lattice.
-- Assumes nothing.
use mathlib.Core.Path.{◌≡◌, refl, sym, ap, ap₂, ◌∙◌}
use mathlib.Core.Logic.{◌↔◌, inl}
use mathlib.Core.List.{List}
use Prim.Native.Nat.{ℕ, ◌+◌, ◌*◌, ◌^◌, ◌≤◌, ◌<◌}
use native.Mathlib.Omega.{arith}
use lib.IntN.{ℤ}
use lib.ListN.{length, get_or}
use lib.Seq.{sets, length-sets}
use mir.Syntax.{w32}
use mir.Val.{to_z, of_z, SFits}
use mir.Facts.{to_z-of_z}
use Rattle.lists.specs.Lists.{part}
use Rattle.lists.proofs.Stores.{sets-outside}
use Rattle.endian_rules.specs.Numbers.{encode, number_at}
use Rattle.endian_rules.specs.Words.{signed_at, word_at}
use Rattle.endian_rules.specs.declared.Order.{Order}
use Rattle.endian_rules.proofs.Numbers.{length-encode}
use Rattle.endian_rules.proofs.Places.{number_held, number_frame, word_number, words-apart}
use Rattle.refusal_rules.specs.Answers.{Answer, gives, refuses, mapped}
use Rattle.refusal_rules.specs.declared.Place.{Place}
use Rattle.refusal_rules.proofs.Answers.{gives-refuses}
use Rattle.store_theory.specs.Plans.{Plan, write, answer, outcome, SucceedsAt, Holds}
use Rattle.store_theory.specs.Formats.{Writes, FormatLaws, system}
use Rattle.store_theory.specs.Stores.{All, file_after}
use Rattle.store_theory.proofs.Plans.{refuse-write}
use Rattle.store_theory.proofs.Claims.{plan-after}
use Rattle.store_theory.proofs.Formats.{laws, demand3_runs}
use Rattle.area_rules.specs.Opening.{open_area}
use Rattle.area_rules.specs.declared.AreaLayout.{AreaLayout}
use Rattle.area_rules.proofs.Facts.{area_of_lem}
use Rattle.area_rules.proofs.Footprint.{area_footprint}
use Rattle.area_rules.proofs.Samples.{sample-directory}
use Rattle.grid_rules.specs.Points.{point_word}
use Rattle.grid_rules.proofs.Facts.{store_frame}
use Rattle.grid_rules.specs.Opening.{open_grid}
use Rattle.md_rules.proofs.Facts.{md_of_lem}
use Rattle.md_rules.proofs.Fields.{field_high}
use Rattle.md_rules.proofs.Footprint.{md_footprint}
use Rattle.layout_rules.specs.Layouts.{Kind, area, grid, md, open_as, kind_of, layout_order, Fresh}
use Rattle.layout_rules.specs.declared.Layout.{Layout}
use Rattle.layout_rules.specs.declared.Layout.TheVariants.{Area, Grid, Md}
use Rattle.layout_rules.proofs.Freshness.{that_exactly}
use Rattle.value_rules.specs.Places.{place_of}
use Rattle.value_rules.specs.declared.ValueName.{ValueName}
use Rattle.value_rules.proofs.Places.{Located, sample_at, point_at_lem, field_at, located, place-inside, base, wide, place_lattice}
use Rattle.value_rules.specs.Reading.{place_in, read_sample, read_word}
use Rattle.store_rules.specs.Stores.{unsigned, signed, Request, sample, point, field, Store, value_name_of, request_number, bits_of, InType, Done, put_in, when_fresh, read_back, Key, store_format, plan_of, stores_in, OrderDoesNotMatter}
use Rattle.store_rules.proofs.Puts.{Comes, none, large, there, comes, coming}
use Rattle.value_rules.proofs.Reading.{word_width, place_exactly}

-- ---- a store that writes

-- it has a place, and writes there the bytes of its number, which fits them
record Put (o : Order) (n : ℕ) (x : Answer Place) (a : ℕ) (b : List ℕ) : Type 0 where
  place : Place
  given : x ≡ gives place
  address : a ≡ place.address
  bytes : b ≡ encode o place.width n
  small : n < 256 ^ place.width

-- equal plans that write have one address and the same bytes
write-same : {r q : Done} {a c : ℕ} {b d : List ℕ} → write r a b ≡ write q c d → (a ≡ c) × (b ≡ d)
write-same e = (cc, cc)

put : (o : Order) (n : ℕ) (x : Answer Place) (r : Done) (a : ℕ) (b : List ℕ) → put_in o n x ≡ write r a b → Put o n x a b
put o n x r a b = step (put_in o n x) (comes o n x)
  where
    step : (y : Plan Done) → Comes o n x y → y ≡ write r a b → Put o n x a b
    step _ (none k q w) e = refuse-write e
    step _ (large p w h) e = refuse-write e
    step _ (there p w h) e =
        let (address, bytes) = write-same e in
        record { place = p; given = w; address = sym address; bytes = sym bytes; small = h }

-- the layout, the name and the number of a store
abbrev order_in : Store → Order
order_in s = layout_order s.layout

abbrev bits_in : Store → ℕ
bits_in s = bits_of (request_number s.request)

-- a store that succeeds: what it puts, and where
record Stored (f : List ℕ) (s : Store) (a : ℕ) (b : List ℕ) : Type 0 where
  place : Place
  fresh : Fresh f s.layout
  at : Located f s.layout (value_name_of s.request) place
  address : a ≡ place.address
  bytes : b ≡ encode (order_in s) place.width (bits_in s)
  small : bits_in s < 256 ^ place.width

stored : {f : List ℕ} {s : Store} {a : ℕ} {b : List ℕ} → Writes store_format f s a b → Stored f s a b
unfolding when_fresh
stored {f} {s} {a} {b} w =
    let p = put (order_in s) (bits_in s) (place_of s.layout (value_name_of s.request)) w.told a b w.planned in
    record {
      place = p.place;
      fresh = w.fresh;
      at = located f s.layout (value_name_of s.request) p.place w.fresh p.given;
      address = p.address;
      bytes = p.bytes;
      small = p.small;
    }

module _ {f : List ℕ} {s : Store} {a : ℕ} {b : List ℕ} (w : Stored f s a b) where
  -- it writes as many bytes as its place has
  size : length b ≡ w.place.width
  size = ap length w.bytes ∙ length-encode (order_in s) w.place.width (bits_in s)

  -- inside the file
  inside : a + length b ≤ length f
  inside = omega (arith, w.address, size, place-inside w.at)

-- ---- opening answers as before

-- a byte that is stored from 256 on leaves those below 256
below : (f b : List ℕ) (a : ℕ) → 256 ≤ a → (i : ℕ) → i < 256 → get_or (sets f a b) i 0 ≡ get_or f i 0
below f b a h i lt = sets-outside b f a i 0 (inl (omega arith))

-- a word that is stored leaves every other word
other_words : (o : Order) (f : List ℕ) (k n x : ℕ) → ¬ (x ≡ k) → word_at o (sets f (4 * k) (encode o 4 n)) x ≡ word_at o f x
other_words o f k n x other =
    word_number o (sets f (4 * k) (encode o 4 n)) x
    ∙ number_frame o o 4 4 f (4 * k) n (4 * x) (words-apart x k other)
    ∙ sym (word_number o f x)

-- by kind
frame_at : {f : List ℕ} {l : Layout} {x : ValueName} {p : Place} → Located f l x p → (n g : ℕ)
    → open_as (kind_of l) (layout_order l) g (sets f p.address (encode (layout_order l) p.width n)) ≡ open_as (kind_of l) (layout_order l) g f
unfolding open_as
frame_at {f} (sample_at {l} {i} {e} {s} {p = p} opens slot is at) n g =
    let b = encode l.order p.width n in
    let high : 256 ≤ p.address = omega (arith, ap (λ (q : Place). q.address) at, sample-directory l (area_of_lem f l opens).fits i e s is) in
    ap (mapped Area) (area_footprint (sets f p.address b) f (length-sets f p.address b) (below f b p.address high))
frame_at {f} (field_at {l} {r} {c} {k} {p} opens is at) n g =
    let b = encode l.order p.width n in
    let high : 256 ≤ p.address = omega (arith, ap (λ (q : Place). q.address) at, field_high (md_of_lem l.order f l opens).fits is) in
    ap (mapped Md) (md_footprint l.order (sets f p.address b) f (length-sets f p.address b) (below f b p.address high))
frame_at {f} (point_at_lem {l} {r} {c} {p} opens is at) n g =
    let k : ℕ = point_word l r c in
    let b = encode l.order 4 n in
    ap (λ (q : Place). mapped Grid (open_grid l.order (sets f q.address (encode l.order q.width n)) g)) at
    ∙ ap (mapped Grid)
    (store_frame l.order f (sets f (4 * k) b) l.number l opens r c is (length-sets f (4 * k) b) (other_words l.order f k n) g)

frame : {f : List ℕ} {s : Store} {a : ℕ} {b : List ℕ} → Stored f s a b → (g : ℕ)
    → open_as (kind_of s.layout) (layout_order s.layout) g (sets f a b) ≡ open_as (kind_of s.layout) (layout_order s.layout) g f
frame {f} {s} {a} {b} w g =
    ap₂ (λ (x : ℕ) (y : List ℕ). open_as (kind_of s.layout) (layout_order s.layout) g (sets f x y)) w.address w.bytes ∙ frame_at w.at (bits_in s) g

-- ---- one lattice

-- the byte from which the places of a file and a kind are counted, and how wide each is: those of the layout that opening gives
base_of : Answer AreaLayout → ℕ
base_of (gives l) = l.data_start
base_of (refuses n p) = 0

wide_of : Answer AreaLayout → ℕ
wide_of (gives l) = l.width
wide_of (refuses n p) = 0

base_in : List ℕ → Kind → ℕ
base_in f area = base_of (open_area f)
base_in f grid = 0
base_in f md = 0

wide_in : List ℕ → Kind → ℕ
wide_in f area = wide_of (open_area f)
wide_in f grid = 4
wide_in f md = 4

-- by kind
same_lattice : {f : List ℕ} {l : Layout} {x : ValueName} {p : Place} → Located f l x p → (base l ≡ base_in f (kind_of l)) × (wide l ≡ wide_in f (kind_of l))
unfolding base_in wide_in base_of wide_of
same_lattice (sample_at opens slot is at) = (sym (ap base_of opens), sym (ap wide_of opens))
same_lattice (point_at_lem opens is at) = (refl, refl)
same_lattice (field_at opens is at) = (refl, refl)

lattice : {f : List ℕ} {s : Store} {a : ℕ} {b : List ℕ} → Stored f s a b
    → (j : ℕ) × (a ≡ base_in f (kind_of s.layout) + j * wide_in f (kind_of s.layout)) × (length b ≡ wide_in f (kind_of s.layout))
lattice w =
    let (j, at, wide) = place_lattice w.at in
    let (same_base, same-wide) = same_lattice w.at in
    (j, w.address ∙ at ∙ ap₂ (λ (x y : ℕ). x + j * y) same_base same-wide, size w ∙ wide ∙ same-wide)

-- ---- reading back

-- where a place holds a store's bytes, the number there is the store's
module _ {f : List ℕ} {s : Store} {a : ℕ} {b : List ℕ} (w : Stored f s a b) (h : Holds f a b) where
  held : number_at (order_in s) w.place.width f w.place.address ≡ bits_in s
  held =
      number_held (order_in s) w.place.width f w.place.address (bits_in s)
      (sym (ap₂ (λ (x y : ℕ). part x y f) w.address (size w)) ∙ h ∙ w.bytes)
      w.small

  here : place_in f s.layout (value_name_of s.request) ≡ gives w.place
  here = (place_exactly f s.layout (value_name_of s.request) w.place).1 (w.fresh, w.at)

-- a signed word
held_word : {f : List ℕ} {s : Store} {a : ℕ} {b : List ℕ} (v : ℤ) (w : Stored f s a b) → Holds f a b → bits_in s ≡ of_z w32 v → SFits w32 v
    → w.place.width ≡ 4 → signed_at (order_in s) f w.place.address ≡ v
held_word {f} {s} v w h bits typed four =
    ap (λ (n : ℕ). to_z w32 (number_at (order_in s) n f w.place.address)) (sym four) ∙ ap (to_z w32) (held w h ∙ bits) ∙ to_z-of_z typed

-- the single read gives it
reads : (f : List ℕ) (l : Layout) (q : Request) {a : ℕ} {b : List ℕ} → InType (request_number q) → Stored f (record { layout = l; request = q }) a b → Holds f a b
    → read_back f l q ≡ gives (request_number q)
unfolding read_sample read_word
reads f l (sample i e c n) typed w h = rw (here w h) (ap (λ (x : ℕ). gives (unsigned x)) (held w h))
reads f l (point r c v) typed w h = rw (here w h) (ap (λ (x : ℤ). gives (signed x)) (held_word v w h refl typed (word_width w.at tt)))
reads f l (field r c k v) typed w h = rw (here w h) (ap (λ (x : ℤ). gives (signed x)) (held_word v w h refl typed (word_width w.at tt)))

-- ---- demand 3

-- what the theory of stores asks of a format
pub store_laws : FormatLaws store_format
store_laws =
    record {
      exact = λ s x. let e = that_exactly s.layout x in (e.sound, e.complete);
      inside = λ w. inside (stored w);
      frame = λ w g. frame (stored w) g;
      base = λ f k. base_in f k.kind;
      width = λ f k. wide_in f k.kind;
      lattice = λ w. lattice (stored w);
      reads = λ {f} {s} w h. reads f s.layout s.request w.typed (stored w) h;
    }

-- a store succeeds exactly where it is answered that it is done
succeeds : (f : List ℕ) (s : Store) → ((a : ℕ) × SucceedsAt a (plan_of f s)) ↔ ((stores_in f s).0 ≡ gives tt)
unfolding outcome
succeeds f s = (λ h. to (plan_of f s) comes_of h.0 h.1, from (plan_of f s) comes_of)
  where
    comes_of : Comes (order_in s) (bits_in s) (place_in f s.layout (value_name_of s.request)) (plan_of f s)
    comes_of = coming f s.layout s.request

    to : (y : Plan Done) → Comes (order_in s) (bits_in s) (place_in f s.layout (value_name_of s.request)) y → (a : ℕ) → SucceedsAt a y → answer y ≡ gives tt
    to _ (none k q w) a h = absurd h
    to _ (large p w m) a h = absurd h
    to _ (there p w m) a h = refl

    from : (y : Plan Done) → Comes (order_in s) (bits_in s) (place_in f s.layout (value_name_of s.request)) y → answer y ≡ gives tt → (a : ℕ) × SucceedsAt a y
    from _ (none k q w) e = gives-refuses (sym e)
    from _ (large p w m) e = gives-refuses (sym e)
    from _ (there p w m) e = (p.address, refl)

-- Whether a store succeeds, and at which address, is the same on the file as it came and on the file that stores of the same kind and byte order before it leave: so
-- that no two of a list succeed at one place may be judged on the file as it came.
pub plan_in_a_run : (kind : Kind) (order : Order) → let S = system store_format (record { kind = kind; order = order }) in
    (f : List ℕ) (before : List Store) (s : Store) → All S.Fit before → S.Fit s → plan_of (file_after S f before) s ≡ plan_of f s
plan_in_a_run kind order f before s ok fit =
    let k : Key = record { kind = kind; order = order } in plan-after (system store_format k) (laws store_format store_laws k) f before s ok fit

-- Demand 3: of any file, and any list of stores of single values with layouts of one kind and byte order, no two of which succeed at the same place.
pub order_does_not_matter : OrderDoesNotMatter
order_does_not_matter =
    record {
      claim = λ kind order. demand3_runs store_format store_laws (record { kind = kind; order = order });
      succeeds = succeeds;
    }
