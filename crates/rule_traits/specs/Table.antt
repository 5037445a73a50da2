-- The fields that hold numbers: for each its form, its least and greatest value, and the value of a
-- trait without it.
use Rattle.std.specs.Prelude.{ℕ}
use Rattle.rule_traits.specs.declared.field.Field.{Field}
use Rattle.rule_traits.specs.declared.field.Form.TheVariants.{Number, Distance}

abbrev pub number : (least greatest default : ℕ) → Field
number least greatest default =
    record { form = Number; least = least; greatest = greatest; default = default }

abbrev pub distance : (least greatest default : ℕ) → Field
distance least greatest default =
    record { form = Distance; least = least; greatest = greatest; default = default }

-- Health.
abbrev pub hp : Field
hp = number 1 1000000000 1

-- Mobile.
abbrev pub speed : Field
speed = distance 0 65535 1

abbrev pub turn_speed : Field
turn_speed = number 0 1023 512

abbrev pub clear_cost : Field
clear_cost = number 0 10 2

abbrev pub road_cost : Field
road_cost = number 0 10 1

abbrev pub rough_cost : Field
rough_cost = number 0 10 4

abbrev pub water_cost : Field
water_cost = number 0 10 0

-- Harvester.
abbrev pub capacity : Field
capacity = number 1 10000 28

abbrev pub bale_load_delay : Field
bale_load_delay = number 0 65535 4

abbrev pub bale_unload_delay : Field
bale_unload_delay = number 0 65535 4

-- Refinery.
abbrev pub bale_value : Field
bale_value = number 0 10000 25

-- Buildable.
abbrev pub build_duration : Field
build_duration = number 0 65535 100

-- Valued.
abbrev pub cost : Field
cost = number 0 2000000000 0

-- Armament.
abbrev pub range : Field
range = distance 0 131072 1536

abbrev pub damage : Field
damage = number 0 1000000 0

abbrev pub spread : Field
spread = number 0 1000000 0

abbrev pub reload : Field
reload = number 0 65535 25

-- RevealsShroud.
abbrev pub reveal_range : Field
reveal_range = distance 0 131072 5120
