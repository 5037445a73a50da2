-- Valid rules: at most `MAX_KINDS` kinds, each number of a field in its range, and each kind that
-- is needed among them.
use Rattle.std.specs.Prelude.{ℕ, ◌<◌, ◌≤◌, List, length, All, IfSome}
use Rattle.rule_traits.specs.declared.TheConstants.{MAX_KINDS}
use Rattle.rule_traits.specs.declared.field.Field.{Field}
use Rattle.rule_traits.specs.declared.kind.Kind.{Kind}
use Rattle.rule_traits.specs.declared.trait_fields.Health.{Health}
use Rattle.rule_traits.specs.declared.trait_fields.Mobile.{Mobile}
use Rattle.rule_traits.specs.declared.trait_fields.Harvester.{Harvester}
use Rattle.rule_traits.specs.declared.trait_fields.Refinery.{Refinery}
use Rattle.rule_traits.specs.declared.trait_fields.Buildable.{Buildable}
use Rattle.rule_traits.specs.declared.trait_fields.Valued.{Valued}
use Rattle.rule_traits.specs.declared.trait_fields.Armament.{Armament}
use Rattle.rule_traits.specs.declared.trait_fields.Reveals.{Reveals}
use Rattle.rule_traits.specs.Table as table

-- The number is one that the field may have.
abbrev pub IsInRange : Field → ℕ → Type 0
IsInRange field n = (field.least ≤ n) × (n ≤ field.greatest)

pub record IsValidHealth (t : Health) : Type 0 where
  pub hp : IsInRange table.hp t.hp

pub record IsValidMobile (t : Mobile) : Type 0 where
  pub speed : IsInRange table.speed t.speed
  pub turn : IsInRange table.turn_speed t.turn
  pub clear : IsInRange table.clear_cost t.costs.clear
  pub road : IsInRange table.road_cost t.costs.road
  pub rough : IsInRange table.rough_cost t.costs.rough
  pub water : IsInRange table.water_cost t.costs.water

pub record IsValidHarvester (t : Harvester) : Type 0 where
  pub capacity : IsInRange table.capacity t.capacity
  pub load_delay : IsInRange table.bale_load_delay t.load_delay
  pub unload_delay : IsInRange table.bale_unload_delay t.unload_delay

pub record IsValidRefinery (t : Refinery) : Type 0 where
  pub value : IsInRange table.bale_value t.value

-- The kinds that are needed are below the number of kinds.
pub record IsValidBuildable (kinds : ℕ) (t : Buildable) : Type 0 where
  pub duration : IsInRange table.build_duration t.duration
  pub needs : All (λ kind. kind < kinds) t.needs

pub record IsValidValued (t : Valued) : Type 0 where
  pub cost : IsInRange table.cost t.cost

pub record IsValidArmament (t : Armament) : Type 0 where
  pub range : IsInRange table.range t.range
  pub damage : IsInRange table.damage t.damage
  pub spread : IsInRange table.spread t.spread
  pub reload : IsInRange table.reload t.reload

pub record IsValidReveals (t : Reveals) : Type 0 where
  pub range : IsInRange table.reveal_range t.range

-- The traits of a kind are valid among so many kinds.
pub record IsValidKind (kinds : ℕ) (kind : Kind) : Type 0 where
  pub health : IfSome kind.health IsValidHealth
  pub mobile : IfSome kind.mobile IsValidMobile
  pub harvester : IfSome kind.harvester IsValidHarvester
  pub refinery : IfSome kind.refinery IsValidRefinery
  pub buildable : IfSome kind.buildable (IsValidBuildable kinds)
  pub valued : IfSome kind.valued IsValidValued
  pub armament : IfSome kind.armament IsValidArmament
  pub reveals : IfSome kind.reveals IsValidReveals

pub record AreValidRules (rules : List Kind) : Type 0 where
  pub limit : length rules ≤ MAX_KINDS
  pub kinds : All (IsValidKind (length rules)) rules
