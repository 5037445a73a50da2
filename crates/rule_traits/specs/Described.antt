-- What rule text describes: kind by kind, trait by trait, member by member.
use Rattle.std.specs.Prelude.{ℕ, ◌==◌, Bool, List, [], ◌∷◌, map, codes, Option, Some, None, is_some}
use Rattle.std.specs.Prelude.{option_map, if◌then◌else◌}
use Rattle.std.specs.List.{before_first}
use Rattle.std.specs.Option.{option_or, unwrap_or}
use Rattle.std.specs.Str.{bytes_eq}
use Rattle.rule_values.specs.NameList.{names_of}
use Rattle.yaml_lines.specs.Trees.{Trees, none, more}
use Rattle.rule_traits.specs.declared.field.Field.{Field}
use Rattle.rule_traits.specs.declared.kind.Kind.{Kind}
use Rattle.rule_traits.specs.declared.traits.Trait.{Trait}
use Rattle.rule_traits.specs.declared.traits.Trait.TheVariants as known
use Rattle.rule_traits.specs.declared.trait_fields.Health.{Health}
use Rattle.rule_traits.specs.declared.trait_fields.Mobile.{Mobile}
use Rattle.rule_traits.specs.declared.trait_fields.Harvester.{Harvester}
use Rattle.rule_traits.specs.declared.trait_fields.Refinery.{Refinery}
use Rattle.rule_traits.specs.declared.trait_fields.Production.{Production}
use Rattle.rule_traits.specs.declared.trait_fields.Buildable.{Buildable}
use Rattle.rule_traits.specs.declared.trait_fields.Valued.{Valued}
use Rattle.rule_traits.specs.declared.trait_fields.Armament.{Armament}
use Rattle.rule_traits.specs.declared.trait_fields.Reveals.{Reveals}
use Rattle.rule_traits.specs.Kinds.{is_kind, number_of_kind}
use Rattle.rule_traits.specs.Table as table
use Rattle.rule_traits.specs.Traits.{name_of}
use Rattle.rule_traits.specs.Values.{form_value}

-- The value of the last field of this name, if there is one.
abbrev pub last_value : List ℕ → Trees → Option (List ℕ)
last_value name none = None
last_value name (more key value place children rest) =
    option_or (last_value name rest) (if bytes_eq key name then Some value else None)

-- The number that a value writes in the field's form. Where there is no fault, it writes one.
abbrev pub written : Field → List ℕ → ℕ
written field value = unwrap_or (form_value field.form value) 0

-- The numbers of the kinds that a value names. Where there is no fault, each is there.
abbrev pub named_kinds : Trees → List ℕ → List ℕ
named_kinds top value = map (λ name. unwrap_or (number_of_kind top name) 0) (names_of value)

-- A member: what the value of its field has, or the default where there is no such field.
abbrev pub number_or : Field → ℕ → Option (List ℕ) → ℕ
number_or field default None = default
number_or field default (Some value) = written field value

abbrev pub names_or : List (List ℕ) → Option (List ℕ) → List (List ℕ)
names_or default None = default
names_or default (Some value) = names_of value

abbrev pub kinds_or : Trees → List ℕ → Option (List ℕ) → List ℕ
kinds_or top default None = default
kinds_or top default (Some value) = named_kinds top value

abbrev pub number : Field → List ℕ → Trees → ℕ
number field name fields = number_or field field.default (last_value name fields)

-- Each trait by the fields below its node.
abbrev pub health_of : Trees → Health
health_of fields =
    record {
      hp = number table.hp (codes "HP") fields;
    }

abbrev pub mobile_of : Trees → Mobile
mobile_of fields =
    record {
      speed = number table.speed (codes "Speed") fields;
      turn = number table.turn_speed (codes "TurnSpeed") fields;
      costs =
          record {
            clear = number table.clear_cost (codes "ClearCost") fields;
            road = number table.road_cost (codes "RoadCost") fields;
            rough = number table.rough_cost (codes "RoughCost") fields;
            water = number table.water_cost (codes "WaterCost") fields;
          };
    }

abbrev pub harvester_of : Trees → Harvester
harvester_of fields =
    record {
      capacity = number table.capacity (codes "Capacity") fields;
      load_delay = number table.bale_load_delay (codes "BaleLoadDelay") fields;
      unload_delay = number table.bale_unload_delay (codes "BaleUnloadDelay") fields;
    }

abbrev pub refinery_of : Trees → Refinery
refinery_of fields =
    record {
      value = number table.bale_value (codes "BaleValue") fields;
    }

abbrev pub production_of : Trees → Production
production_of fields =
    record {
      produces = names_or [] (last_value (codes "Produces") fields);
    }

abbrev pub buildable_of : Trees → Trees → Buildable
buildable_of top fields =
    record {
      queue = names_or [] (last_value (codes "Queue") fields);
      duration = number table.build_duration (codes "BuildDuration") fields;
      needs = kinds_or top [] (last_value (codes "Needs") fields);
    }

abbrev pub valued_of : Trees → Valued
valued_of fields =
    record {
      cost = number table.cost (codes "Cost") fields;
    }

abbrev pub armament_of : Trees → Armament
armament_of fields =
    record {
      range = number table.range (codes "Range") fields;
      damage = number table.damage (codes "Damage") fields;
      spread = number table.spread (codes "Spread") fields;
      reload = number table.reload (codes "Reload") fields;
    }

abbrev pub reveals_of : Trees → Reveals
reveals_of fields =
    record {
      range = number table.reveal_range (codes "Range") fields;
    }

-- A node is one of a trait: the part of its key before the first `@` (64) is the trait's name.
abbrev pub is_of : Trait → List ℕ → Bool
is_of trait key = bytes_eq (name_of trait) (before_first (λ byte. byte == 64) key)

-- The fields of the first node of a trait, if there is one.
abbrev pub fields_of : Trait → Trees → Option Trees
fields_of trait none = None
fields_of trait (more key value place children rest) =
    if is_of trait key then Some children else fields_of trait rest

-- A kind has a trait exactly where a node of the trait stands below its own.
abbrev pub kind_of : Trees → List ℕ → Trees → Kind
kind_of top key traits =
    record {
      name = key;
      health = option_map health_of (fields_of known.Health traits);
      mobile = option_map mobile_of (fields_of known.Mobile traits);
      building = is_some (fields_of known.Building traits);
      harvester = option_map harvester_of (fields_of known.Harvester traits);
      refinery = option_map refinery_of (fields_of known.Refinery traits);
      production = option_map production_of (fields_of known.Production traits);
      buildable = option_map (buildable_of top) (fields_of known.Buildable traits);
      valued = option_map valued_of (fields_of known.Valued traits);
      armament = option_map armament_of (fields_of known.Armament traits);
      reveals = option_map reveals_of (fields_of known.RevealsShroud traits);
    }

-- The kinds that the nodes of a list describe, in order, where `top` are all top-level nodes.
abbrev pub kinds_of : Trees → Trees → List Kind
kinds_of top none = []
kinds_of top (more key value place children rest) =
    if is_kind key then kind_of top key children ∷ kinds_of top rest else kinds_of top rest
