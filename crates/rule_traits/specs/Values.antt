-- What the fields of each trait hold: the trait without any field, and the trait after one field
-- was read.
use Rattle.std.specs.Prelude.{ℕ, Bool, true, false, ◌&&◌, List, [], codes, if◌then◌else◌, nat_le}
use Rattle.std.specs.Prelude.{Option, Some, None, Result, Ok, Err}
use Rattle.std.specs.Str.{bytes_eq}
use Rattle.base.specs.Numbers.{number_of}
use Rattle.rule_values.specs.NameList.{names_of}
use Rattle.rule_values.specs.Distances.{dist_of}
use Rattle.yaml_lines.specs.declared.place.Place.{Place}
use Rattle.yaml_lines.specs.Trees.{Trees}
use Rattle.rule_traits.specs.declared.fault.RuleFault.{RuleFault}
use Rattle.rule_traits.specs.declared.fault.RuleFault.TheVariants.{BadValue, OutOfRange}
use Rattle.rule_traits.specs.declared.field.Field.{Field}
use Rattle.rule_traits.specs.declared.field.Form.{Form}
use Rattle.rule_traits.specs.declared.field.Form.TheVariants.{Number, Distance}
use Rattle.rule_traits.specs.declared.trait_fields.Health.{Health}
use Rattle.rule_traits.specs.declared.trait_fields.Mobile.{Mobile}
use Rattle.rule_traits.specs.declared.trait_fields.Harvester.{Harvester}
use Rattle.rule_traits.specs.declared.trait_fields.Refinery.{Refinery}
use Rattle.rule_traits.specs.declared.trait_fields.Production.{Production}
use Rattle.rule_traits.specs.declared.trait_fields.Buildable.{Buildable}
use Rattle.rule_traits.specs.declared.trait_fields.Valued.{Valued}
use Rattle.rule_traits.specs.declared.trait_fields.Armament.{Armament}
use Rattle.rule_traits.specs.declared.trait_fields.Reveals.{Reveals}
use Rattle.rule_traits.specs.Kinds.{numbers_after}
use Rattle.rule_traits.specs.Table.{hp, speed, turn_speed, clear_cost, road_cost, rough_cost}
use Rattle.rule_traits.specs.Table.{water_cost, capacity, bale_load_delay, bale_unload_delay}
use Rattle.rule_traits.specs.Table.{bale_value, build_duration, cost, range, damage, spread, reload}
use Rattle.rule_traits.specs.Table.{reveal_range}

-- The number that a text writes in this form.
abbrev pub form_value : Form → List ℕ → Option ℕ
form_value Number text = number_of text
form_value Distance text = dist_of text

abbrev pub in_range : Field → Place → Option ℕ → Result ℕ RuleFault
in_range field place None = Err (BadValue place)
in_range field place (Some n) =
    if nat_le field.least n && nat_le n field.greatest then Ok n else Err (OutOfRange place)

-- The value of a field that holds a number.
unfoldable pub field_value : Field → List ℕ → Place → Result ℕ RuleFault
field_value field text place = in_range field place (form_value field.form text)

-- A trait after one field was read, and whether it has such a field.
abbrev pub After : Type 0 → Type 0
After T = Result (T × Bool) RuleFault

-- The trait hasn't such a field.
abbrev pub unknown : {T : Type 0} → T → After T
unknown trait = Ok (trait, false)

-- A member is set to what a field has, or the field is at fault.
abbrev pub set_to : {A T : Type 0} → Result A RuleFault → (A → T) → After T
set_to (Ok value) make = Ok (make value, true)
set_to (Err fault) make = Err fault

-- Health.
abbrev pub plain_health : Health
plain_health = record { hp = hp.default }

unfoldable pub health_with : Health → (key value : List ℕ) → Place → After Health
health_with t key value place =
    if bytes_eq key (codes "HP") then set_to (field_value hp value place) (λ n. record t { hp = n })
    else unknown t

-- Mobile.
abbrev pub plain_mobile : Mobile
plain_mobile =
    record {
      speed = speed.default;
      turn = turn_speed.default;
      costs =
          record {
            clear = clear_cost.default;
            road = road_cost.default;
            rough = rough_cost.default;
            water = water_cost.default;
          };
    }

unfoldable pub mobile_with : Mobile → (key value : List ℕ) → Place → After Mobile
mobile_with t key value place =
    if bytes_eq key (codes "Speed") then
    set_to (field_value speed value place) (λ n. record t { speed = n })
    else (if bytes_eq key (codes "TurnSpeed") then
    set_to (field_value turn_speed value place) (λ n. record t { turn = n })
    else (if bytes_eq key (codes "ClearCost") then
    set_to (field_value clear_cost value place) (λ n. record t { costs = record t.costs { clear = n } })
    else (if bytes_eq key (codes "RoadCost") then
    set_to (field_value road_cost value place) (λ n. record t { costs = record t.costs { road = n } })
    else (if bytes_eq key (codes "RoughCost") then
    set_to (field_value rough_cost value place) (λ n. record t { costs = record t.costs { rough = n } })
    else (if bytes_eq key (codes "WaterCost") then
    set_to (field_value water_cost value place) (λ n. record t { costs = record t.costs { water = n } })
    else unknown t)))))

-- Harvester.
abbrev pub plain_harvester : Harvester
plain_harvester =
    record {
      capacity =
          capacity.default;
      load_delay = bale_load_delay.default;
      unload_delay = bale_unload_delay.default;
    }

unfoldable pub harvester_with : Harvester → (key value : List ℕ) → Place → After Harvester
harvester_with t key value place =
    if bytes_eq key (codes "Capacity") then
    set_to (field_value capacity value place) (λ n. record t { capacity = n })
    else (if bytes_eq key (codes "BaleLoadDelay") then
    set_to (field_value bale_load_delay value place) (λ n. record t { load_delay = n })
    else (if bytes_eq key (codes "BaleUnloadDelay") then
    set_to (field_value bale_unload_delay value place) (λ n. record t { unload_delay = n })
    else unknown t))

-- Refinery.
abbrev pub plain_refinery : Refinery
plain_refinery = record { value = bale_value.default }

unfoldable pub refinery_with : Refinery → (key value : List ℕ) → Place → After Refinery
refinery_with t key value place =
    if bytes_eq key (codes "BaleValue") then
    set_to (field_value bale_value value place) (λ n. record t { value = n })
    else unknown t

-- Production.
abbrev pub plain_production : Production
plain_production = record { produces = [] }

unfoldable pub production_with : Production → (key value : List ℕ) → After Production
production_with t key value =
    if bytes_eq key (codes "Produces") then
    set_to (Ok (names_of value)) (λ names. record t { produces = names })
    else unknown t

-- Buildable. The kinds of its needs are those of the top-level nodes `top`.
abbrev pub plain_buildable : Buildable
plain_buildable = record { queue = []; duration = build_duration.default; needs = [] }

unfoldable pub buildable_with : Trees → Buildable → (key value : List ℕ) → Place → After Buildable
buildable_with top t key value place =
    if bytes_eq key (codes "Queue") then
    set_to (Ok (names_of value)) (λ names. record t { queue = names })
    else (if bytes_eq key (codes "BuildDuration") then
    set_to (field_value build_duration value place) (λ n. record t { duration = n })
    else (if bytes_eq key (codes "Needs") then
    set_to (numbers_after top place (names_of value) []) (λ numbers. record t { needs = numbers })
    else unknown t))

-- Valued.
abbrev pub plain_valued : Valued
plain_valued = record { cost = cost.default }

unfoldable pub valued_with : Valued → (key value : List ℕ) → Place → After Valued
valued_with t key value place =
    if bytes_eq key (codes "Cost") then
    set_to (field_value cost value place) (λ n. record t { cost = n })
    else unknown t

-- Armament.
abbrev pub plain_armament : Armament
plain_armament =
    record {
      range = range.default;
      damage = damage.default;
      spread = spread.default;
      reload = reload.default;
    }

unfoldable pub armament_with : Armament → (key value : List ℕ) → Place → After Armament
armament_with t key value place =
    if bytes_eq key (codes "Range") then
    set_to (field_value range value place) (λ n. record t { range = n })
    else (if bytes_eq key (codes "Damage") then
    set_to (field_value damage value place) (λ n. record t { damage = n })
    else (if bytes_eq key (codes "Spread") then
    set_to (field_value spread value place) (λ n. record t { spread = n })
    else (if bytes_eq key (codes "Reload") then
    set_to (field_value reload value place) (λ n. record t { reload = n })
    else unknown t)))

-- RevealsShroud.
abbrev pub plain_reveals : Reveals
plain_reveals = record { range = reveal_range.default }

unfoldable pub reveals_with : Reveals → (key value : List ℕ) → Place → After Reveals
reveals_with t key value place =
    if bytes_eq key (codes "Range") then
    set_to (field_value reveal_range value place) (λ n. record t { range = n })
    else unknown t
