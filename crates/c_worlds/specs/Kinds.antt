-- Kinds, as C reads them.
use Rattle.std.specs.Prelude.{ℕ, ◌+◌, ◌*◌, List, [], ◌∷◌, Option, None, Some, Result, Ok, Err}
use Rattle.std.specs.Prelude.{slice_get, unwrap_or}
use Rattle.game_orders.specs.Order.{flag_number}
use Rattle.rule_traits.specs.declared.kind.Kind.{Kind}
use Rattle.rule_traits.specs.declared.trait_fields.Armament.{Armament}
use Rattle.rule_traits.specs.declared.trait_fields.Buildable.{Buildable}
use Rattle.rule_traits.specs.declared.trait_fields.Harvester.{Harvester}
use Rattle.rule_traits.specs.declared.trait_fields.Mobile.{Mobile}
use Rattle.rule_traits.specs.declared.trait_fields.Refinery.{Refinery}
use Rattle.rule_traits.specs.declared.trait_fields.Reveals.{Reveals}
use Rattle.rule_traits.specs.declared.traits.Trait.TheVariants as trait
use Rattle.rule_traits.specs.Rules.{hp_of, cost_of}
use Rattle.rule_traits.specs.Traits.{has_trait}
use Rattle.setup_files.specs.declared.making.Made.{Made}
use Rattle.c_objects.specs.declared.code.TheConstants.{NONE}
use Rattle.c_worlds.specs.declared.kinds.CKind.{CKind}

abbrev pub no_mobile : Mobile
no_mobile =
    record {
      speed = 0;
      turn = 0;
      costs = record { clear = 0; road = 0; rough = 0; water = 0 };
    }

abbrev pub no_armament : Armament
no_armament = record { range = 0; damage = 0; spread = 0; reload = 0 }

abbrev pub no_harvester : Harvester
no_harvester = record { capacity = 0; load_delay = 0; unload_delay = 0 }

abbrev pub no_refinery : Refinery
no_refinery = record { value = 0 }

abbrev pub no_reveals : Reveals
no_reveals = record { range = 0 }

abbrev pub duration_in : Option Buildable → ℕ
duration_in None = 0
duration_in (Some buildable) = buildable.duration

-- A bit for each of the first five traits, in the order of their table.
abbrev pub first_traits : Kind → ℕ
first_traits kind =
    flag_number (has_trait kind trait.Health) + 2 * flag_number (has_trait kind trait.Mobile)
    + 4 * flag_number (has_trait kind trait.Building)
    + 8 * flag_number (has_trait kind trait.Harvester)
    + 16 * flag_number (has_trait kind trait.Refinery)

-- A bit for each of the others.
abbrev pub last_traits : Kind → ℕ
last_traits kind =
    flag_number (has_trait kind trait.Production)
    + 2 * flag_number (has_trait kind trait.Buildable)
    + 4 * flag_number (has_trait kind trait.Valued)
    + 8 * flag_number (has_trait kind trait.Armament)
    + 16 * flag_number (has_trait kind trait.RevealsShroud)

abbrev pub c_kind_with : Kind → Mobile → Armament → Harvester → CKind
c_kind_with kind mobile armament harvester =
    record {
      traits = first_traits kind + 32 * last_traits kind;
      hp = hp_of kind;
      cost = cost_of kind;
      speed = mobile.speed;
      turn = mobile.turn;
      costs =
          mobile.costs.clear ∷ mobile.costs.road ∷ mobile.costs.rough ∷ mobile.costs.water ∷ [];
      range = armament.range;
      damage = armament.damage;
      spread = armament.spread;
      reload = armament.reload;
      capacity = harvester.capacity;
      load_delay = harvester.load_delay;
      unload_delay = harvester.unload_delay;
      value = (unwrap_or kind.refinery no_refinery).value;
      duration = duration_in kind.buildable;
      sight = (unwrap_or kind.reveals no_reveals).range;
    }

abbrev pub c_kind_of : Kind → CKind
c_kind_of kind =
    c_kind_with kind (unwrap_or kind.mobile no_mobile) (unwrap_or kind.armament no_armament)
    (unwrap_or kind.harvester no_harvester)

abbrev pub kind_by : Option Kind → Result CKind ℕ
kind_by None = Err NONE
kind_by (Some kind) = Ok (c_kind_of kind)

-- The kind of this number.
abbrev pub kind_told : ℕ → Made → Result CKind ℕ
kind_told kind made = kind_by (slice_get made.maker.rules kind)

abbrev pub name_by : Option Kind → Result (List ℕ) ℕ
name_by None = Err NONE
name_by (Some kind) = Ok kind.name

-- The bytes of its name.
abbrev pub name_told : ℕ → Made → Result (List ℕ) ℕ
name_told kind made = name_by (slice_get made.maker.rules kind)
