-- The sample rules as values: the kinds 0 jeep, 1 harv, 2 fact, 3 proc.
use Rattle.std.specs.Prelude.{ℕ, true, false, List, [], ◌∷◌, codes, Option, Some, None}
use Rattle.rule_traits.specs.declared.kind.Kind.{Kind}
use Rattle.rule_traits.specs.declared.trait_fields.Armament.{Armament}
use Rattle.rule_traits.specs.declared.trait_fields.Buildable.{Buildable}
use Rattle.rule_traits.specs.declared.trait_fields.Harvester.{Harvester}
use Rattle.rule_traits.specs.declared.trait_fields.Health.{Health}
use Rattle.rule_traits.specs.declared.trait_fields.Mobile.{Mobile}
use Rattle.rule_traits.specs.declared.trait_fields.Production.{Production}
use Rattle.rule_traits.specs.declared.trait_fields.Refinery.{Refinery}

abbrev pub sample_health : Option Health
sample_health = Some (record { hp = 100 })

abbrev pub sample_mobile : Option Mobile
sample_mobile =
    Some (record {
      speed = 128;
      turn = 64;
      costs = record { clear = 2; road = 1; rough = 4; water = 0 };
    })

abbrev pub sample_buildable : Option Buildable
sample_buildable = Some (record { queue = codes "Vehicle" ∷ []; duration = 20; needs = [] })

abbrev pub sample_vehicle : List ℕ → ℕ → Option Harvester → Option Armament → Kind
sample_vehicle name cost harvester armament =
    record {
      name = name;
      health = sample_health;
      mobile = sample_mobile;
      building = false;
      harvester = harvester;
      refinery = None;
      production = None;
      buildable = sample_buildable;
      valued = Some (record { cost = cost });
      armament = armament;
      reveals = None;
    }

abbrev pub sample_building : List ℕ → Option Refinery → Option Production → Kind
sample_building name refinery production =
    record {
      name = name;
      health = sample_health;
      mobile = None;
      building = true;
      harvester = None;
      refinery = refinery;
      production = production;
      buildable = None;
      valued = None;
      armament = None;
      reveals = None;
    }

abbrev pub sample_kinds : List Kind
sample_kinds =
    sample_vehicle (codes "jeep") 300 None
    (Some (record { range = 4096; damage = 10; spread = 4; reload = 10 }))
    ∷ sample_vehicle (codes "harv") 800
    (Some (record { capacity = 10; load_delay = 4; unload_delay = 4 })) None
    ∷ sample_building (codes "fact") None (Some (record { produces = codes "Vehicle" ∷ [] }))
    ∷ sample_building (codes "proc") (Some (record { value = 25 })) None
    ∷ []
