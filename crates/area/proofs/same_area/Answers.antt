-- `area::same_area` meets its contract: both tests say exactly whether the layouts are equal.
-- Assumes nothing.
use mathlib.Core.Path.{◌≡◌}
use mathlib.Core.Bool.{Bool, true, false, ◌&&◌, beq}
use denote.Enum.Bare.{sameb, same_true, true_same}
use Rattle.std.specs.Cmp.{booleans_Decides}
use Rattle.endian_rules.specs.contracts.Order.{the_type}
use Rattle.endian_rules.specs.declared.Order.{Order}
use Rattle.refusal_rules.specs.Tests.{Exactly}
use Rattle.refusal_rules.proofs.Exactness.{exactly_same, iff_exactly, both_exactly, eq_exactly}
use Rattle.area_rules.proofs.Layouts.{same_area_exactly}
use Rattle.area.proofs.same_area.Goals as goal

-- two tests
and_exactly : {s t : Bool} {P Q : Type 0} → Exactly s P → Exactly t Q → Exactly (s && t) (P × Q)
and_exactly {s = true} x y = both_exactly {a = true} x y
and_exactly {s = false} x y = both_exactly {a = false} x y

-- orders
order_exactly : (x y : Order) → Exactly (sameb the_type x y) (x ≡ y)
order_exactly x y = record { sound = λ e. same_true the_type tt x y e; complete = λ e. true_same the_type x y e }

-- flags
flag_exactly : (x y : Bool) → Exactly (beq x y) (x ≡ y)
flag_exactly x y = iff_exactly (booleans_Decides x y)

pub returns : goal.returns
returns c =
    let a = c.args.a in
    let b = c.args.b in
    let x =
    and_exactly (order_exactly a.order b.order)
    (and_exactly (eq_exactly a.length b.length)
    (and_exactly (eq_exactly a.lines b.lines)
    (and_exactly (eq_exactly a.elements b.elements)
    (and_exactly (eq_exactly a.width b.width)
    (and_exactly (eq_exactly a.bands b.bands)
    (and_exactly (eq_exactly a.prefix b.prefix)
    (and_exactly (eq_exactly a.map b.map)
    (and_exactly (eq_exactly a.map2 b.map2)
    (and_exactly (eq_exactly a.data_start b.data_start)
    (and_exactly (eq_exactly a.nav b.nav)
    (and_exactly (eq_exactly a.documentation b.documentation)
    (and_exactly (eq_exactly a.calibration b.calibration)
    (and_exactly (eq_exactly a.band_list b.band_list)
    (and_exactly (eq_exactly a.padding b.padding)
    (and_exactly (eq_exactly a.aux b.aux)
    (and_exactly (eq_exactly a.cal b.cal)
    (and_exactly (eq_exactly a.cards b.cards)
    (flag_exactly a.no_validity_code b.no_validity_code)))))))))))))))))) in
    let y : Exactly c.eq.result (a ≡ b) =
    rw c.eq.ensures
    (record {
      sound =
          λ e. let (order, (length, (lines, (elements, (width, (bands, (prefix, (map, (map2, (data_start, (nav, (documentation, (calibration, (band_list, (padding, (aux, (cal, (cards, no_validity_code)))))))))))))))))) = x.sound e in
          λ i. record { order = order i; length = length i; lines = lines i; elements = elements i; width = width i; bands = bands i; prefix = prefix i; map = map i; map2 = map2 i; data_start = data_start i; nav = nav i; documentation = documentation i; calibration = calibration i; band_list = band_list i; padding = padding i; aux = aux i; cal = cal i; cards = cards i; no_validity_code = no_validity_code i };
      complete = λ e. x.complete (λ i. (e i).order, (λ i. (e i).length, (λ i. (e i).lines, (λ i. (e i).elements, (λ i. (e i).width, (λ i. (e i).bands, (λ i. (e i).prefix, (λ i. (e i).map, (λ i. (e i).map2, (λ i. (e i).data_start, (λ i. (e i).nav, (λ i. (e i).documentation, (λ i. (e i).calibration, (λ i. (e i).band_list, (λ i. (e i).padding, (λ i. (e i).aux, (λ i. (e i).cal, (λ i. (e i).cards, λ i. (e i).no_validity_code))))))))))))))))));
    }) in
    exactly_same y (same_area_exactly a b)
