-- What a store of a single value does: document 01, "What comes back". It refuses 9, then 7 for its kind, then 4 at 19 where a band is named, then the other
-- 7s, as the single read does, and then 8 for a sample above W11 bytes. Otherwise the number's bytes stand at its place, in the file's order.
--
-- Demand 3 is stated of these stores.
-- Assumes nothing.
use Rattle.std.specs.Prelude.{◌≡◌, ◌↔◌, List, ℕ, ◌^◌, ◌<◌, ltb, ℤ}
use Rattle.std.specs.Int.{w32}
use Rattle.std.proofs.Common.{of_z, SFits}
use Rattle.lists.specs.Choices.{pick}
use Rattle.endian_rules.specs.Numbers.{encode}
use Rattle.endian_rules.specs.declared.Order.{Order}
use Rattle.refusal_rules.specs.Answers.{Answer, gives, refuses, mapped}
use Rattle.refusal_rules.specs.declared.Place.{Place}
use Rattle.store_theory.specs.Plans.{Plan, write, refuse, outcome, SucceedsAt}
use Rattle.store_theory.specs.Formats.{Format, plan, system}
use Rattle.store_theory.specs.Claims.{Demand3Runs}
use Rattle.layout_rules.specs.Layouts.{Kind, open_as, kind_of, layout_order, grid_number_of, gives_that}
use Rattle.layout_rules.specs.declared.Layout.{Layout}
use Rattle.area_rules.specs.declared.SlotOrBand.{SlotOrBand}
use Rattle.value_rules.specs.Places.{place_of}
use Rattle.value_rules.specs.declared.ValueName.{ValueName}
use Rattle.value_rules.specs.declared.ValueName.TheVariants.{Sample, Point, Field}
use Rattle.value_rules.specs.Reading.{read_sample, read_word}

-- a number to store, and that a read answers: "0 to 4,294,967,295 for AREA and a signed word otherwise"
pub data Number : Type 0 where
  unsigned : ℕ → Number
  signed : ℤ → Number

-- what each of the three calls that store one value is asked: line, element, slot or band, and number; row, column and value; row, column, position and value
pub data Request : Type 0 where
  sample : ℕ → ℕ → SlotOrBand → ℕ → Request
  point : ℕ → ℕ → ℤ → Request
  field : ℕ → ℕ → ℕ → ℤ → Request

-- a store of a single value: a layout, and what is asked
pub record Store : Type 0 where
  pub layout : Layout
  pub request : Request

-- the name of the value that a store is asked to set
abbrev pub value_name_of : Request → ValueName
value_name_of (sample i e b n) = Sample i e b
value_name_of (point r c v) = Point r c
value_name_of (field r c k v) = Field r c k

-- the number that a store is asked to put there
abbrev pub request_number : Request → Number
request_number (sample i e b n) = unsigned n
request_number (point r c v) = signed v
request_number (field r c k v) = signed v

-- the unsigned number that the bits of a number to store are
abbrev pub bits_of : Number → ℕ
bits_of (unsigned n) = n
bits_of (signed v) = of_z w32 v

-- the number is one that the type of a number to store has
abbrev pub InType : Number → Type 0
InType (unsigned n) = n < 2 ^ 32
InType (signed v) = SFits w32 v

-- what a store is answered: that it is done, or a refusal
abbrev pub Done : Type 0
Done = Answer (Unit {0})

-- what a store does that puts a number at a place: 8 where the number does not fit the place's bytes, else its bytes are written
unfoldable pub put_at : Order → ℕ → Place → Plan Done
put_at o n p = pick (ltb n (256 ^ p.width)) (write (gives tt) p.address (encode o p.width n)) (refuse (refuses 8 0))

-- what a store does that puts a number at the place that an answer gives; it is refused as the answer is
abbrev pub put_in : Order → ℕ → Answer Place → Plan Done
put_in o n (gives p) = put_at o n p
put_in o n (refuses k q) = refuse (refuses k q)

-- what a store does whose layout is fresh
unfoldable pub when_fresh : Store → Plan Done
when_fresh s = put_in (layout_order s.layout) (bits_of (request_number s.request)) (place_of s.layout (value_name_of s.request))

-- what the single read of a store's place with its layout answers
abbrev pub read_back : List ℕ → Layout → Request → Answer Number
read_back f l (sample i e b n) = mapped unsigned (read_sample f l i e b)
read_back f l (point r c v) = mapped signed (read_word f l (Point r c))
read_back f l (field r c k v) = mapped signed (read_word f l (Field r c k))

-- one kind and one byte order, as demand 3 has them
pub record Key : Type 0 where
  pub kind : Kind
  pub order : Order

-- the stores of single values, of all three kinds, in the terms of the theory of stores
abbrev pub store_format : Format Store Key (Answer Layout) Done (Answer Number)
store_format =
    record {
      key = λ s. record { kind = kind_of s.layout; order = layout_order s.layout };
      grid = λ s. grid_number_of s.layout;
      Typed = λ s. InType (request_number s.request);
      open_as = λ f k g. open_as k.kind k.order g f;
      layout = λ s. gives s.layout;
      same = λ s x. gives_that s.layout x;
      stale = refuses 9 0;
      when_fresh = when_fresh;
      read = λ f s. read_back f s.layout s.request;
      number = λ s. gives (request_number s.request);
    }

-- what a store does to a file: 9 where its layout is stale
abbrev pub plan_of : List ℕ → Store → Plan Done
plan_of = plan store_format

-- what a store is answered, and the file that it leaves
abbrev pub stores_in : List ℕ → Store → Done × List ℕ
stores_in f s = outcome f (plan_of f s)

-- what a store of a number into a sample is answered, and the file that it leaves
abbrev pub store_sample : List ℕ → Layout → ℕ → ℕ → SlotOrBand → ℕ → Done × List ℕ
store_sample f l i e b n = stores_in f (record { layout = l; request = sample i e b n })

-- what a store of a signed word into a point of a grid is answered, and the file that it leaves
abbrev pub store_point : List ℕ → Layout → ℕ → ℕ → ℤ → Done × List ℕ
store_point f l r c v = stores_in f (record { layout = l; request = point r c v })

-- what a store of a signed word into a field of an MD file is answered, and the file that it leaves
abbrev pub store_field : List ℕ → Layout → ℕ → ℕ → ℕ → ℤ → Done × List ℕ
store_field f l r c k v = stores_in f (record { layout = l; request = field r c k v })

-- Demand 3 of the stores of single values: see `Demand3`, `OrderFree` and `OrderFreeRuns`. A run is one of functions whose contracts say `stores_in`.
pub record OrderDoesNotMatter : Type 0 where
  -- the claim, for "one kind and one byte order"
  pub claim : (kind : Kind) (order : Order) → Demand3Runs (system store_format (record { kind = kind; order = order }))
  -- the stores that succeed, as the claim has it, are those that are answered that they are done: "succeeds, that is, isn't refused"
  pub succeeds : (f : List ℕ) (s : Store) → ((a : ℕ) × SucceedsAt a (plan_of f s)) ↔ ((stores_in f s).0 ≡ gives tt)
