-- What the traits of a kind say, and what stands for a trait that it lacks.
use Rattle.std.specs.Prelude.{ℕ, ◌&&◌, Bool, List, [], Option, Some, None, is_some}
use Rattle.std.specs.Option.{unwrap_or}
use Rattle.rule_traits.specs.declared.kind.Kind.{Kind}
use Rattle.rule_traits.specs.declared.trait_fields.Armament.{Armament}
use Rattle.rule_traits.specs.declared.trait_fields.Buildable.{Buildable}
use Rattle.rule_traits.specs.declared.trait_fields.Costs.{Costs}
use Rattle.rule_traits.specs.declared.trait_fields.Mobile.{Mobile}
use Rattle.rule_traits.specs.declared.trait_fields.Refinery.{Refinery}
use Rattle.rule_traits.specs.declared.trait_fields.Harvester.{Harvester}
use Rattle.rule_traits.specs.Rules.{kind_at, moves}
use Rattle.rule_traits.specs.Typed.{plain_kind}

-- The kind of a number. A number that is no kind's stands for a kind without traits.
abbrev pub kind_of : List Kind → ℕ → Kind
kind_of rules number = unwrap_or (kind_at rules number) (plain_kind [])

-- A kind gathers ore where it moves and has Harvester.
abbrev pub gathers : Kind → Bool
gathers kind = moves kind && is_some kind.harvester

-- A kind is a unit that can be built where it has Buildable and moves.
abbrev pub is_unit : Kind → Bool
is_unit kind = is_some kind.buildable && moves kind

-- Units that it moves in a turn: 0 without Mobile.
abbrev pub speed_in : Option Mobile → ℕ
speed_in (Some mobile) = mobile.speed
speed_in None = 0

-- How far it turns in a turn, as an angle: not at all without Mobile.
abbrev pub turning_in : Option Mobile → ℕ
turning_in (Some mobile) = mobile.turn
turning_in None = 0

-- What cells cost that it enters. Without Mobile it enters none.
abbrev pub costs_in : Option Mobile → Costs
costs_in (Some mobile) = mobile.costs
costs_in None = record { clear = 0; road = 0; rough = 0; water = 0 }

-- How far it shoots, in units, and what a hit takes away: at least, and at most more.
abbrev pub range_in : Option Armament → ℕ
range_in (Some armament) = armament.range
range_in None = 0

abbrev pub damage_in : Option Armament → ℕ
damage_in (Some armament) = armament.damage
damage_in None = 0

abbrev pub spread_in : Option Armament → ℕ
spread_in (Some armament) = armament.spread
spread_in None = 0

-- The turns from shot to shot: 0 without Armament.
abbrev pub reload_in : Option Armament → ℕ
reload_in (Some armament) = armament.reload
reload_in None = 0

-- The most bales that a kind holds: none without Harvester.
abbrev pub capacity_in : Option Harvester → ℕ
capacity_in (Some harvester) = harvester.capacity
capacity_in None = 0

-- The turns that it takes to load a bale, and to unload one.
abbrev pub load_delay_in : Option Harvester → ℕ
load_delay_in (Some harvester) = harvester.load_delay
load_delay_in None = 0

abbrev pub unload_delay_in : Option Harvester → ℕ
unload_delay_in (Some harvester) = harvester.unload_delay
unload_delay_in None = 0

-- What a bale is worth that it takes in: nothing without Refinery.
abbrev pub bale_value_in : Option Refinery → ℕ
bale_value_in (Some refinery) = refinery.value
bale_value_in None = 0

-- The turns that it takes to build a unit of the kind.
abbrev pub duration_in : Option Buildable → ℕ
duration_in (Some buildable) = buildable.duration
duration_in None = 0

-- The kinds that its owner needs to build it: none without Buildable.
abbrev pub needs_in : Option Buildable → List ℕ
needs_in (Some buildable) = buildable.needs
needs_in None = []
