-- The fields that are read are those that the text describes: trait by trait, member by member.
use Rattle.std.proofs.Common.{◌≡◌, ℕ, Bool, true, false, cond, List, [], ◌∷◌}
use Rattle.std.proofs.Common.{◌++◌, map, codes}
use Rattle.std.proofs.Common.{refl, sym, ◌∙◌, ap, subst, append-nil, append_assoc, Option}
use Rattle.std.proofs.Common.{Some, None, Result, Ok, Err}
use Rattle.std.proofs.lemmas.Result.{IfOk-weaker}
use Rattle.std.proofs.lemmas.Slice.Eq.{bytes_eq-Decides}
use Rattle.std.specs.Option.{option_or, unwrap_or}
use Rattle.std.specs.Result.{IfOk}
use Rattle.std.specs.Str.{bytes_eq}
use Rattle.rule_values.specs.NameList.{names_of}
use Rattle.yaml_lines.specs.declared.place.Place.{Place}
use Rattle.yaml_lines.specs.Trees.{Trees, none, more}
use Rattle.rule_traits.specs.declared.fault.RuleFault.{RuleFault}
use Rattle.rule_traits.specs.declared.fault.RuleFault.TheVariants.{OutOfRange}
use Rattle.rule_traits.specs.declared.field.Field.{Field}
use Rattle.rule_traits.specs.declared.skipped.Skipped.{Skipped}
use Rattle.rule_traits.specs.declared.traits.Trait.{Trait}
use Rattle.rule_traits.specs.declared.trait_value.TraitValue.{TraitValue}
use Rattle.rule_traits.specs.declared.trait_value.TraitValue.TheVariants.{Health, Mobile, Building}
use Rattle.rule_traits.specs.declared.trait_value.TraitValue.TheVariants.{Harvester, Refinery}
use Rattle.rule_traits.specs.declared.trait_value.TraitValue.TheVariants.{Production, Buildable}
use Rattle.rule_traits.specs.declared.trait_value.TraitValue.TheVariants.{Valued, Armament}
use Rattle.rule_traits.specs.declared.trait_value.TraitValue.TheVariants.{RevealsShroud}
use Rattle.rule_traits.specs.declared.trait_fields.Health as health_type
use Rattle.rule_traits.specs.declared.trait_fields.Mobile as mobile_type
use Rattle.rule_traits.specs.declared.trait_fields.Harvester as harvester_type
use Rattle.rule_traits.specs.declared.trait_fields.Refinery as refinery_type
use Rattle.rule_traits.specs.declared.trait_fields.Production as production_type
use Rattle.rule_traits.specs.declared.trait_fields.Buildable as buildable_type
use Rattle.rule_traits.specs.declared.trait_fields.Valued as valued_type
use Rattle.rule_traits.specs.declared.trait_fields.Armament as armament_type
use Rattle.rule_traits.specs.declared.trait_fields.Reveals as reveals_type
use Rattle.rule_traits.specs.Kinds.{number_of_kind, with_number, numbers_after}
use Rattle.rule_traits.specs.Table as table
use Rattle.rule_traits.specs.Described.{last_value, written, named_kinds, number_or, names_or}
use Rattle.rule_traits.specs.Described.{kinds_or}
use Rattle.rule_traits.specs.Typed.{each, plain, wrapped, value_with, noted, field_taken}
use Rattle.rule_traits.specs.Typed.{trait_read}
use Rattle.rule_traits.specs.Values.{After, unknown, set_to, in_range, form_value, field_value}
use Rattle.rule_traits.specs.Values.{health_with, mobile_with, harvester_with, refinery_with}
use Rattle.rule_traits.specs.Values.{production_with, buildable_with, valued_with, armament_with}
use Rattle.rule_traits.specs.Values.{reveals_with}
use Rattle.rule_traits.proofs.OutcomeLemmas.{followed}

-- A choice by a test, each side with what the test tells.
by_key :
    {A T : Type 0} (P : T → Type 0) (test : Bool) (outcome : Result A RuleFault) (make : A → T) (rest : After T) →
    (test ≡ true → IfOk outcome (λ value. P (make value))) → (test ≡ false → IfOk rest (λ after. P after.0)) →
    IfOk (cond test (set_to outcome make) rest) (λ after. P after.0)
by_key P true (Ok value) make rest here other = here refl
by_key P true (Err fault) make rest here other = tt
by_key P false outcome make rest here other = other refl

-- A field's value is what its text writes.
written_in :
    (test : Bool) (field : Field) (place : Place) (n m : ℕ) → n ≡ m →
    IfOk (cond test (Ok n) (Err (OutOfRange place))) (λ value. value ≡ m)
written_in true field place n m e = e
written_in false field place n m e = tt

form_written :
    (field : Field) (place : Place) (n : Option ℕ) → IfOk (in_range field place n) (λ value. value ≡ unwrap_or n 0)
form_written field place None = tt
form_written field place (Some n) = written_in _ field place n n refl

value_written : (field : Field) (text : List ℕ) (place : Place) → IfOk (field_value field text place) (λ n. n ≡ written field text)
unfolding field_value
value_written field text place = form_written field place (form_value field.form text)

-- The key is a field's name.
pub same_key : (key name : List ℕ) → bytes_eq key name ≡ true → key ≡ name
same_key key name e = (bytes_eq-Decides key name).0 e

-- One more node before the others.
number_next :
    (field : Field) (start : ℕ) (value : List ℕ) (test : Bool) (later : Option (List ℕ)) →
    number_or field (cond test (written field value) start) later
    ≡ number_or field start (option_or later (cond test (Some value) None))
number_next field start value true None = refl
number_next field start value false None = refl
number_next field start value test (Some text) = refl

names_next :
    (start : List (List ℕ)) (value : List ℕ) (test : Bool) (later : Option (List ℕ)) →
    names_or (cond test (names_of value) start) later ≡ names_or start (option_or later (cond test (Some value) None))
names_next start value true None = refl
names_next start value false None = refl
names_next start value test (Some text) = refl

kinds_next :
    (top : Trees) (start value : List ℕ) (test : Bool) (later : Option (List ℕ)) →
    kinds_or top (cond test (named_kinds top value) start) later
    ≡ kinds_or top start (option_or later (cond test (Some value) None))
kinds_next top start value true None = refl
kinds_next top start value false None = refl
kinds_next top start value test (Some text) = refl

-- The numbers of kinds that a list names.
number_named :
    (top : Trees) (place : Place) (names : List (List ℕ)) (done : List ℕ) (number : Option ℕ) →
    ((all : List ℕ) →
    IfOk (numbers_after top place names all) (λ numbers. numbers ≡ all ++ map (λ name. unwrap_or (number_of_kind top name) 0) names)) →
    IfOk (with_number place done number (numbers_after top place names))
    (λ numbers. numbers ≡ done ++ unwrap_or number 0 ∷ map (λ name. unwrap_or (number_of_kind top name) 0) names)
number_named top place names done None others = tt
number_named top place names done (Some n) others =
    let later : List ℕ = map (λ name. unwrap_or (number_of_kind top name) 0) names in
    IfOk-weaker (numbers_after top place names (done ++ n ∷ [])) (λ numbers. numbers ≡ (done ++ n ∷ []) ++ later)
    (λ numbers. numbers ≡ done ++ n ∷ later) (λ numbers e. e ∙ append_assoc done (n ∷ []) later)
    (others (done ++ n ∷ []))

numbers_named :
    (top : Trees) (place : Place) (names : List (List ℕ)) (done : List ℕ) →
    IfOk (numbers_after top place names done) (λ numbers. numbers ≡ done ++ map (λ name. unwrap_or (number_of_kind top name) 0) names)
numbers_named top place [] done = sym (append-nil done)
numbers_named top place (name ∷ names) done = number_named top place names done (number_of_kind top name) (numbers_named top place names)

-- Health.
abbrev health_from : health_type.Health → Trees → health_type.Health
health_from t fields =
    record {
      hp = number_or table.hp t.hp (last_value (codes "HP") fields);
    }

abbrev health_set : health_type.Health → (key value : List ℕ) → health_type.Health
health_set t key value =
    record {
      hp = cond (bytes_eq key (codes "HP")) (written table.hp value) t.hp;
    }

abbrev health_keep : health_type.Health → health_type.Health
health_keep t =
    record {
      hp = t.hp;
    }

health_step :
    (t : health_type.Health) (key value : List ℕ) (place : Place) →
    IfOk (health_with t key value place) (λ after. after.0 ≡ health_set t key value)
unfolding health_with
health_step t key value place =
    let Set : health_type.Health → Type 0 = λ now. now ≡ health_set t key value in
    let make0 : ℕ → health_type.Health = λ n. record t { hp = n } in
    let rest0 : After health_type.Health = unknown t in
    by_key Set (bytes_eq key (codes "HP")) (field_value table.hp value place) make0 rest0
    (λ e.
    IfOk-weaker (field_value table.hp value place) (λ n. n ≡ written table.hp value) (λ n. make0 n ≡ health_set t key value)
    (λ n is.
    subst (λ k. make0 n ≡ health_set t k value) (sym (same_key key (codes "HP") e)) (ap make0 is)) (value_written table.hp value place))
    (λ e0. (let same : health_keep t ≡ health_set t key value = cc in same))

health_next :
    (t : health_type.Health) (key value : List ℕ) (place : Place) (children rest : Trees) →
    health_from (health_set t key value) rest ≡ health_from t (more key value place children rest)
health_next t key value place children rest =
    let e0 = number_next table.hp t.hp value (bytes_eq key (codes "HP")) (last_value (codes "HP") rest) in
    cc

-- Mobile.
abbrev mobile_from : mobile_type.Mobile → Trees → mobile_type.Mobile
mobile_from t fields =
    record {
      speed = number_or table.speed t.speed (last_value (codes "Speed") fields);
      turn = number_or table.turn_speed t.turn (last_value (codes "TurnSpeed") fields);
      costs =
          record {
            clear = number_or table.clear_cost t.costs.clear (last_value (codes "ClearCost") fields);
            road = number_or table.road_cost t.costs.road (last_value (codes "RoadCost") fields);
            rough = number_or table.rough_cost t.costs.rough (last_value (codes "RoughCost") fields);
            water = number_or table.water_cost t.costs.water (last_value (codes "WaterCost") fields);
          };
    }

abbrev mobile_set : mobile_type.Mobile → (key value : List ℕ) → mobile_type.Mobile
mobile_set t key value =
    record {
      speed = cond (bytes_eq key (codes "Speed")) (written table.speed value) t.speed;
      turn = cond (bytes_eq key (codes "TurnSpeed")) (written table.turn_speed value) t.turn;
      costs =
          record {
            clear = cond (bytes_eq key (codes "ClearCost")) (written table.clear_cost value) t.costs.clear;
            road = cond (bytes_eq key (codes "RoadCost")) (written table.road_cost value) t.costs.road;
            rough = cond (bytes_eq key (codes "RoughCost")) (written table.rough_cost value) t.costs.rough;
            water = cond (bytes_eq key (codes "WaterCost")) (written table.water_cost value) t.costs.water;
          };
    }

abbrev mobile_keep : mobile_type.Mobile → mobile_type.Mobile
mobile_keep t =
    record {
      speed = t.speed;
      turn = t.turn;
      costs =
          record {
            clear = t.costs.clear;
            road = t.costs.road;
            rough = t.costs.rough;
            water = t.costs.water;
          };
    }

mobile_step :
    (t : mobile_type.Mobile) (key value : List ℕ) (place : Place) →
    IfOk (mobile_with t key value place) (λ after. after.0 ≡ mobile_set t key value)
unfolding mobile_with
mobile_step t key value place =
    let Set : mobile_type.Mobile → Type 0 = λ now. now ≡ mobile_set t key value in
    let make0 : ℕ → mobile_type.Mobile = λ n. record t { speed = n } in
    let make1 : ℕ → mobile_type.Mobile = λ n. record t { turn = n } in
    let make2 : ℕ → mobile_type.Mobile = λ n. record t { costs = record t.costs { clear = n } } in
    let make3 : ℕ → mobile_type.Mobile = λ n. record t { costs = record t.costs { road = n } } in
    let make4 : ℕ → mobile_type.Mobile = λ n. record t { costs = record t.costs { rough = n } } in
    let make5 : ℕ → mobile_type.Mobile = λ n. record t { costs = record t.costs { water = n } } in
    let rest5 : After mobile_type.Mobile = unknown t in
    let rest4 : After mobile_type.Mobile =
    cond (bytes_eq key (codes "WaterCost")) (set_to (field_value table.water_cost value place) make5) rest5 in
    let rest3 : After mobile_type.Mobile =
    cond (bytes_eq key (codes "RoughCost")) (set_to (field_value table.rough_cost value place) make4) rest4 in
    let rest2 : After mobile_type.Mobile =
    cond (bytes_eq key (codes "RoadCost")) (set_to (field_value table.road_cost value place) make3) rest3 in
    let rest1 : After mobile_type.Mobile =
    cond (bytes_eq key (codes "ClearCost")) (set_to (field_value table.clear_cost value place) make2) rest2 in
    let rest0 : After mobile_type.Mobile =
    cond (bytes_eq key (codes "TurnSpeed")) (set_to (field_value table.turn_speed value place) make1) rest1 in
    by_key Set (bytes_eq key (codes "Speed")) (field_value table.speed value place) make0 rest0
    (λ e.
    IfOk-weaker (field_value table.speed value place) (λ n. n ≡ written table.speed value) (λ n. make0 n ≡ mobile_set t key value)
    (λ n is.
    subst (λ k. make0 n ≡ mobile_set t k value) (sym (same_key key (codes "Speed") e)) (ap make0 is)) (value_written table.speed value place))
    (λ e0. by_key Set (bytes_eq key (codes "TurnSpeed")) (field_value table.turn_speed value place) make1 rest1
    (λ e.
    IfOk-weaker (field_value table.turn_speed value place) (λ n. n ≡ written table.turn_speed value) (λ n. make1 n ≡ mobile_set t key value)
    (λ n is.
    subst (λ k. make1 n ≡ mobile_set t k value) (sym (same_key key (codes "TurnSpeed") e)) (ap make1 is)) (value_written table.turn_speed value place))
    (λ e1. by_key Set (bytes_eq key (codes "ClearCost")) (field_value table.clear_cost value place) make2 rest2
    (λ e.
    IfOk-weaker (field_value table.clear_cost value place) (λ n. n ≡ written table.clear_cost value) (λ n. make2 n ≡ mobile_set t key value)
    (λ n is.
    subst (λ k. make2 n ≡ mobile_set t k value) (sym (same_key key (codes "ClearCost") e)) (ap make2 is)) (value_written table.clear_cost value place))
    (λ e2. by_key Set (bytes_eq key (codes "RoadCost")) (field_value table.road_cost value place) make3 rest3
    (λ e.
    IfOk-weaker (field_value table.road_cost value place) (λ n. n ≡ written table.road_cost value) (λ n. make3 n ≡ mobile_set t key value)
    (λ n is.
    subst (λ k. make3 n ≡ mobile_set t k value) (sym (same_key key (codes "RoadCost") e)) (ap make3 is)) (value_written table.road_cost value place))
    (λ e3. by_key Set (bytes_eq key (codes "RoughCost")) (field_value table.rough_cost value place) make4 rest4
    (λ e.
    IfOk-weaker (field_value table.rough_cost value place) (λ n. n ≡ written table.rough_cost value) (λ n. make4 n ≡ mobile_set t key value)
    (λ n is.
    subst (λ k. make4 n ≡ mobile_set t k value) (sym (same_key key (codes "RoughCost") e)) (ap make4 is)) (value_written table.rough_cost value place))
    (λ e4. by_key Set (bytes_eq key (codes "WaterCost")) (field_value table.water_cost value place) make5 rest5
    (λ e.
    IfOk-weaker (field_value table.water_cost value place) (λ n. n ≡ written table.water_cost value) (λ n. make5 n ≡ mobile_set t key value)
    (λ n is.
    subst (λ k. make5 n ≡ mobile_set t k value) (sym (same_key key (codes "WaterCost") e)) (ap make5 is)) (value_written table.water_cost value place))
    (λ e5. (let same : mobile_keep t ≡ mobile_set t key value = cc in same)))))))

mobile_next :
    (t : mobile_type.Mobile) (key value : List ℕ) (place : Place) (children rest : Trees) →
    mobile_from (mobile_set t key value) rest ≡ mobile_from t (more key value place children rest)
mobile_next t key value place children rest =
    let e0 = number_next table.speed t.speed value (bytes_eq key (codes "Speed")) (last_value (codes "Speed") rest) in
    let e1 = number_next table.turn_speed t.turn value (bytes_eq key (codes "TurnSpeed")) (last_value (codes "TurnSpeed") rest) in
    let e2 = number_next table.clear_cost t.costs.clear value (bytes_eq key (codes "ClearCost")) (last_value (codes "ClearCost") rest) in
    let e3 = number_next table.road_cost t.costs.road value (bytes_eq key (codes "RoadCost")) (last_value (codes "RoadCost") rest) in
    let e4 = number_next table.rough_cost t.costs.rough value (bytes_eq key (codes "RoughCost")) (last_value (codes "RoughCost") rest) in
    let e5 = number_next table.water_cost t.costs.water value (bytes_eq key (codes "WaterCost")) (last_value (codes "WaterCost") rest) in
    cc

-- Harvester.
abbrev harvester_from : harvester_type.Harvester → Trees → harvester_type.Harvester
harvester_from t fields =
    record {
      capacity = number_or table.capacity t.capacity (last_value (codes "Capacity") fields);
      load_delay = number_or table.bale_load_delay t.load_delay (last_value (codes "BaleLoadDelay") fields);
      unload_delay = number_or table.bale_unload_delay t.unload_delay (last_value (codes "BaleUnloadDelay") fields);
    }

abbrev harvester_set : harvester_type.Harvester → (key value : List ℕ) → harvester_type.Harvester
harvester_set t key value =
    record {
      capacity = cond (bytes_eq key (codes "Capacity")) (written table.capacity value) t.capacity;
      load_delay = cond (bytes_eq key (codes "BaleLoadDelay")) (written table.bale_load_delay value) t.load_delay;
      unload_delay = cond (bytes_eq key (codes "BaleUnloadDelay")) (written table.bale_unload_delay value) t.unload_delay;
    }

abbrev harvester_keep : harvester_type.Harvester → harvester_type.Harvester
harvester_keep t =
    record {
      capacity = t.capacity;
      load_delay = t.load_delay;
      unload_delay = t.unload_delay;
    }

harvester_step :
    (t : harvester_type.Harvester) (key value : List ℕ) (place : Place) →
    IfOk (harvester_with t key value place) (λ after. after.0 ≡ harvester_set t key value)
unfolding harvester_with
harvester_step t key value place =
    let Set : harvester_type.Harvester → Type 0 = λ now. now ≡ harvester_set t key value in
    let make0 : ℕ → harvester_type.Harvester = λ n. record t { capacity = n } in
    let make1 : ℕ → harvester_type.Harvester = λ n. record t { load_delay = n } in
    let make2 : ℕ → harvester_type.Harvester = λ n. record t { unload_delay = n } in
    let rest2 : After harvester_type.Harvester = unknown t in
    let rest1 : After harvester_type.Harvester =
    cond (bytes_eq key (codes "BaleUnloadDelay")) (set_to (field_value table.bale_unload_delay value place) make2) rest2 in
    let rest0 : After harvester_type.Harvester =
    cond (bytes_eq key (codes "BaleLoadDelay")) (set_to (field_value table.bale_load_delay value place) make1) rest1 in
    by_key Set (bytes_eq key (codes "Capacity")) (field_value table.capacity value place) make0 rest0
    (λ e.
    IfOk-weaker (field_value table.capacity value place) (λ n. n ≡ written table.capacity value) (λ n. make0 n ≡ harvester_set t key value)
    (λ n is.
    subst (λ k. make0 n ≡ harvester_set t k value) (sym (same_key key (codes "Capacity") e)) (ap make0 is)) (value_written table.capacity value place))
    (λ e0. by_key Set (bytes_eq key (codes "BaleLoadDelay")) (field_value table.bale_load_delay value place) make1 rest1
    (λ e.
    IfOk-weaker (field_value table.bale_load_delay value place) (λ n. n ≡ written table.bale_load_delay value) (λ n. make1 n ≡ harvester_set t key value)
    (λ n is.
    subst (λ k. make1 n ≡ harvester_set t k value) (sym (same_key key (codes "BaleLoadDelay") e)) (ap make1 is)) (value_written table.bale_load_delay value place))
    (λ e1. by_key Set (bytes_eq key (codes "BaleUnloadDelay")) (field_value table.bale_unload_delay value place) make2 rest2
    (λ e.
    IfOk-weaker (field_value table.bale_unload_delay value place) (λ n. n ≡ written table.bale_unload_delay value) (λ n. make2 n ≡ harvester_set t key value)
    (λ n is.
    subst (λ k. make2 n ≡ harvester_set t k value) (sym (same_key key (codes "BaleUnloadDelay") e)) (ap make2 is)) (value_written table.bale_unload_delay value place))
    (λ e2. (let same : harvester_keep t ≡ harvester_set t key value = cc in same))))

harvester_next :
    (t : harvester_type.Harvester) (key value : List ℕ) (place : Place) (children rest : Trees) →
    harvester_from (harvester_set t key value) rest ≡ harvester_from t (more key value place children rest)
harvester_next t key value place children rest =
    let e0 = number_next table.capacity t.capacity value (bytes_eq key (codes "Capacity")) (last_value (codes "Capacity") rest) in
    let e1 = number_next table.bale_load_delay t.load_delay value (bytes_eq key (codes "BaleLoadDelay")) (last_value (codes "BaleLoadDelay") rest) in
    let e2 = number_next table.bale_unload_delay t.unload_delay value (bytes_eq key (codes "BaleUnloadDelay")) (last_value (codes "BaleUnloadDelay") rest) in
    cc

-- Refinery.
abbrev refinery_from : refinery_type.Refinery → Trees → refinery_type.Refinery
refinery_from t fields =
    record {
      value = number_or table.bale_value t.value (last_value (codes "BaleValue") fields);
    }

abbrev refinery_set : refinery_type.Refinery → (key value : List ℕ) → refinery_type.Refinery
refinery_set t key value =
    record {
      value = cond (bytes_eq key (codes "BaleValue")) (written table.bale_value value) t.value;
    }

abbrev refinery_keep : refinery_type.Refinery → refinery_type.Refinery
refinery_keep t =
    record {
      value = t.value;
    }

refinery_step :
    (t : refinery_type.Refinery) (key value : List ℕ) (place : Place) →
    IfOk (refinery_with t key value place) (λ after. after.0 ≡ refinery_set t key value)
unfolding refinery_with
refinery_step t key value place =
    let Set : refinery_type.Refinery → Type 0 = λ now. now ≡ refinery_set t key value in
    let make0 : ℕ → refinery_type.Refinery = λ n. record t { value = n } in
    let rest0 : After refinery_type.Refinery = unknown t in
    by_key Set (bytes_eq key (codes "BaleValue")) (field_value table.bale_value value place) make0 rest0
    (λ e.
    IfOk-weaker (field_value table.bale_value value place) (λ n. n ≡ written table.bale_value value) (λ n. make0 n ≡ refinery_set t key value)
    (λ n is.
    subst (λ k. make0 n ≡ refinery_set t k value) (sym (same_key key (codes "BaleValue") e)) (ap make0 is)) (value_written table.bale_value value place))
    (λ e0. (let same : refinery_keep t ≡ refinery_set t key value = cc in same))

refinery_next :
    (t : refinery_type.Refinery) (key value : List ℕ) (place : Place) (children rest : Trees) →
    refinery_from (refinery_set t key value) rest ≡ refinery_from t (more key value place children rest)
refinery_next t key value place children rest =
    let e0 = number_next table.bale_value t.value value (bytes_eq key (codes "BaleValue")) (last_value (codes "BaleValue") rest) in
    cc

-- Production.
abbrev production_from : production_type.Production → Trees → production_type.Production
production_from t fields =
    record {
      produces = names_or t.produces (last_value (codes "Produces") fields);
    }

abbrev production_set : production_type.Production → (key value : List ℕ) → production_type.Production
production_set t key value =
    record {
      produces = cond (bytes_eq key (codes "Produces")) (names_of value) t.produces;
    }

abbrev production_keep : production_type.Production → production_type.Production
production_keep t =
    record {
      produces = t.produces;
    }

production_step :
    (t : production_type.Production) (key value : List ℕ) (place : Place) →
    IfOk (production_with t key value) (λ after. after.0 ≡ production_set t key value)
unfolding production_with
production_step t key value place =
    let Set : production_type.Production → Type 0 = λ now. now ≡ production_set t key value in
    let make0 : List (List ℕ) → production_type.Production = λ n. record t { produces = n } in
    let rest0 : After production_type.Production = unknown t in
    by_key Set (bytes_eq key (codes "Produces")) (Ok (names_of value)) make0 rest0
    (λ e. subst (λ k. make0 (names_of value) ≡ production_set t k value) (sym (same_key key (codes "Produces") e)) refl)
    (λ e0. (let same : production_keep t ≡ production_set t key value = cc in same))

production_next :
    (t : production_type.Production) (key value : List ℕ) (place : Place) (children rest : Trees) →
    production_from (production_set t key value) rest ≡ production_from t (more key value place children rest)
production_next t key value place children rest =
    let e0 = names_next t.produces value (bytes_eq key (codes "Produces")) (last_value (codes "Produces") rest) in
    cc

-- Buildable.
abbrev buildable_from : Trees → buildable_type.Buildable → Trees → buildable_type.Buildable
buildable_from top t fields =
    record {
      queue = names_or t.queue (last_value (codes "Queue") fields);
      duration = number_or table.build_duration t.duration (last_value (codes "BuildDuration") fields);
      needs = kinds_or top t.needs (last_value (codes "Needs") fields);
    }

abbrev buildable_set : Trees → buildable_type.Buildable → (key value : List ℕ) → buildable_type.Buildable
buildable_set top t key value =
    record {
      queue = cond (bytes_eq key (codes "Queue")) (names_of value) t.queue;
      duration = cond (bytes_eq key (codes "BuildDuration")) (written table.build_duration value) t.duration;
      needs = cond (bytes_eq key (codes "Needs")) (named_kinds top value) t.needs;
    }

abbrev buildable_keep : buildable_type.Buildable → buildable_type.Buildable
buildable_keep t =
    record {
      queue = t.queue;
      duration = t.duration;
      needs = t.needs;
    }

buildable_step :
    (top : Trees) (t : buildable_type.Buildable) (key value : List ℕ) (place : Place) →
    IfOk (buildable_with top t key value place) (λ after. after.0 ≡ buildable_set top t key value)
unfolding buildable_with
buildable_step top t key value place =
    let Set : buildable_type.Buildable → Type 0 = λ now. now ≡ buildable_set top t key value in
    let make0 : List (List ℕ) → buildable_type.Buildable = λ n. record t { queue = n } in
    let make1 : ℕ → buildable_type.Buildable = λ n. record t { duration = n } in
    let make2 : List ℕ → buildable_type.Buildable = λ n. record t { needs = n } in
    let rest2 : After buildable_type.Buildable = unknown t in
    let rest1 : After buildable_type.Buildable =
    cond (bytes_eq key (codes "Needs")) (set_to (numbers_after top place (names_of value) []) make2) rest2 in
    let rest0 : After buildable_type.Buildable =
    cond (bytes_eq key (codes "BuildDuration")) (set_to (field_value table.build_duration value place) make1) rest1 in
    by_key Set (bytes_eq key (codes "Queue")) (Ok (names_of value)) make0 rest0
    (λ e. subst (λ k. make0 (names_of value) ≡ buildable_set top t k value) (sym (same_key key (codes "Queue") e)) refl)
    (λ e0. by_key Set (bytes_eq key (codes "BuildDuration")) (field_value table.build_duration value place) make1 rest1
    (λ e.
    IfOk-weaker (field_value table.build_duration value place) (λ n. n ≡ written table.build_duration value) (λ n. make1 n ≡ buildable_set top t key value)
    (λ n is.
    subst (λ k. make1 n ≡ buildable_set top t k value) (sym (same_key key (codes "BuildDuration") e)) (ap make1 is)) (value_written table.build_duration value place))
    (λ e1. by_key Set (bytes_eq key (codes "Needs")) (numbers_after top place (names_of value) []) make2 rest2
    (λ e.
    IfOk-weaker (numbers_after top place (names_of value) []) (λ n. n ≡ named_kinds top value) (λ n. make2 n ≡ buildable_set top t key value)
    (λ n is.
    subst (λ k. make2 n ≡ buildable_set top t k value) (sym (same_key key (codes "Needs") e)) (ap make2 is)) (numbers_named top place (names_of value) []))
    (λ e2. (let same : buildable_keep t ≡ buildable_set top t key value = cc in same))))

buildable_next :
    (top : Trees) (t : buildable_type.Buildable) (key value : List ℕ) (place : Place) (children rest : Trees) →
    buildable_from top (buildable_set top t key value) rest ≡ buildable_from top t (more key value place children rest)
buildable_next top t key value place children rest =
    let e0 = names_next t.queue value (bytes_eq key (codes "Queue")) (last_value (codes "Queue") rest) in
    let e1 = number_next table.build_duration t.duration value (bytes_eq key (codes "BuildDuration")) (last_value (codes "BuildDuration") rest) in
    let e2 = kinds_next top t.needs value (bytes_eq key (codes "Needs")) (last_value (codes "Needs") rest) in
    cc

-- Valued.
abbrev valued_from : valued_type.Valued → Trees → valued_type.Valued
valued_from t fields =
    record {
      cost = number_or table.cost t.cost (last_value (codes "Cost") fields);
    }

abbrev valued_set : valued_type.Valued → (key value : List ℕ) → valued_type.Valued
valued_set t key value =
    record {
      cost = cond (bytes_eq key (codes "Cost")) (written table.cost value) t.cost;
    }

abbrev valued_keep : valued_type.Valued → valued_type.Valued
valued_keep t =
    record {
      cost = t.cost;
    }

valued_step :
    (t : valued_type.Valued) (key value : List ℕ) (place : Place) →
    IfOk (valued_with t key value place) (λ after. after.0 ≡ valued_set t key value)
unfolding valued_with
valued_step t key value place =
    let Set : valued_type.Valued → Type 0 = λ now. now ≡ valued_set t key value in
    let make0 : ℕ → valued_type.Valued = λ n. record t { cost = n } in
    let rest0 : After valued_type.Valued = unknown t in
    by_key Set (bytes_eq key (codes "Cost")) (field_value table.cost value place) make0 rest0
    (λ e.
    IfOk-weaker (field_value table.cost value place) (λ n. n ≡ written table.cost value) (λ n. make0 n ≡ valued_set t key value)
    (λ n is.
    subst (λ k. make0 n ≡ valued_set t k value) (sym (same_key key (codes "Cost") e)) (ap make0 is)) (value_written table.cost value place))
    (λ e0. (let same : valued_keep t ≡ valued_set t key value = cc in same))

valued_next :
    (t : valued_type.Valued) (key value : List ℕ) (place : Place) (children rest : Trees) →
    valued_from (valued_set t key value) rest ≡ valued_from t (more key value place children rest)
valued_next t key value place children rest =
    let e0 = number_next table.cost t.cost value (bytes_eq key (codes "Cost")) (last_value (codes "Cost") rest) in
    cc

-- Armament.
abbrev armament_from : armament_type.Armament → Trees → armament_type.Armament
armament_from t fields =
    record {
      range = number_or table.range t.range (last_value (codes "Range") fields);
      damage = number_or table.damage t.damage (last_value (codes "Damage") fields);
      spread = number_or table.spread t.spread (last_value (codes "Spread") fields);
      reload = number_or table.reload t.reload (last_value (codes "Reload") fields);
    }

abbrev armament_set : armament_type.Armament → (key value : List ℕ) → armament_type.Armament
armament_set t key value =
    record {
      range = cond (bytes_eq key (codes "Range")) (written table.range value) t.range;
      damage = cond (bytes_eq key (codes "Damage")) (written table.damage value) t.damage;
      spread = cond (bytes_eq key (codes "Spread")) (written table.spread value) t.spread;
      reload = cond (bytes_eq key (codes "Reload")) (written table.reload value) t.reload;
    }

abbrev armament_keep : armament_type.Armament → armament_type.Armament
armament_keep t =
    record {
      range = t.range;
      damage = t.damage;
      spread = t.spread;
      reload = t.reload;
    }

armament_step :
    (t : armament_type.Armament) (key value : List ℕ) (place : Place) →
    IfOk (armament_with t key value place) (λ after. after.0 ≡ armament_set t key value)
unfolding armament_with
armament_step t key value place =
    let Set : armament_type.Armament → Type 0 = λ now. now ≡ armament_set t key value in
    let make0 : ℕ → armament_type.Armament = λ n. record t { range = n } in
    let make1 : ℕ → armament_type.Armament = λ n. record t { damage = n } in
    let make2 : ℕ → armament_type.Armament = λ n. record t { spread = n } in
    let make3 : ℕ → armament_type.Armament = λ n. record t { reload = n } in
    let rest3 : After armament_type.Armament = unknown t in
    let rest2 : After armament_type.Armament =
    cond (bytes_eq key (codes "Reload")) (set_to (field_value table.reload value place) make3) rest3 in
    let rest1 : After armament_type.Armament =
    cond (bytes_eq key (codes "Spread")) (set_to (field_value table.spread value place) make2) rest2 in
    let rest0 : After armament_type.Armament =
    cond (bytes_eq key (codes "Damage")) (set_to (field_value table.damage value place) make1) rest1 in
    by_key Set (bytes_eq key (codes "Range")) (field_value table.range value place) make0 rest0
    (λ e.
    IfOk-weaker (field_value table.range value place) (λ n. n ≡ written table.range value) (λ n. make0 n ≡ armament_set t key value)
    (λ n is.
    subst (λ k. make0 n ≡ armament_set t k value) (sym (same_key key (codes "Range") e)) (ap make0 is)) (value_written table.range value place))
    (λ e0. by_key Set (bytes_eq key (codes "Damage")) (field_value table.damage value place) make1 rest1
    (λ e.
    IfOk-weaker (field_value table.damage value place) (λ n. n ≡ written table.damage value) (λ n. make1 n ≡ armament_set t key value)
    (λ n is.
    subst (λ k. make1 n ≡ armament_set t k value) (sym (same_key key (codes "Damage") e)) (ap make1 is)) (value_written table.damage value place))
    (λ e1. by_key Set (bytes_eq key (codes "Spread")) (field_value table.spread value place) make2 rest2
    (λ e.
    IfOk-weaker (field_value table.spread value place) (λ n. n ≡ written table.spread value) (λ n. make2 n ≡ armament_set t key value)
    (λ n is.
    subst (λ k. make2 n ≡ armament_set t k value) (sym (same_key key (codes "Spread") e)) (ap make2 is)) (value_written table.spread value place))
    (λ e2. by_key Set (bytes_eq key (codes "Reload")) (field_value table.reload value place) make3 rest3
    (λ e.
    IfOk-weaker (field_value table.reload value place) (λ n. n ≡ written table.reload value) (λ n. make3 n ≡ armament_set t key value)
    (λ n is.
    subst (λ k. make3 n ≡ armament_set t k value) (sym (same_key key (codes "Reload") e)) (ap make3 is)) (value_written table.reload value place))
    (λ e3. (let same : armament_keep t ≡ armament_set t key value = cc in same)))))

armament_next :
    (t : armament_type.Armament) (key value : List ℕ) (place : Place) (children rest : Trees) →
    armament_from (armament_set t key value) rest ≡ armament_from t (more key value place children rest)
armament_next t key value place children rest =
    let e0 = number_next table.range t.range value (bytes_eq key (codes "Range")) (last_value (codes "Range") rest) in
    let e1 = number_next table.damage t.damage value (bytes_eq key (codes "Damage")) (last_value (codes "Damage") rest) in
    let e2 = number_next table.spread t.spread value (bytes_eq key (codes "Spread")) (last_value (codes "Spread") rest) in
    let e3 = number_next table.reload t.reload value (bytes_eq key (codes "Reload")) (last_value (codes "Reload") rest) in
    cc

-- RevealsShroud.
abbrev reveals_from : reveals_type.Reveals → Trees → reveals_type.Reveals
reveals_from t fields =
    record {
      range = number_or table.reveal_range t.range (last_value (codes "Range") fields);
    }

abbrev reveals_set : reveals_type.Reveals → (key value : List ℕ) → reveals_type.Reveals
reveals_set t key value =
    record {
      range = cond (bytes_eq key (codes "Range")) (written table.reveal_range value) t.range;
    }

abbrev reveals_keep : reveals_type.Reveals → reveals_type.Reveals
reveals_keep t =
    record {
      range = t.range;
    }

reveals_step :
    (t : reveals_type.Reveals) (key value : List ℕ) (place : Place) →
    IfOk (reveals_with t key value place) (λ after. after.0 ≡ reveals_set t key value)
unfolding reveals_with
reveals_step t key value place =
    let Set : reveals_type.Reveals → Type 0 = λ now. now ≡ reveals_set t key value in
    let make0 : ℕ → reveals_type.Reveals = λ n. record t { range = n } in
    let rest0 : After reveals_type.Reveals = unknown t in
    by_key Set (bytes_eq key (codes "Range")) (field_value table.reveal_range value place) make0 rest0
    (λ e.
    IfOk-weaker (field_value table.reveal_range value place) (λ n. n ≡ written table.reveal_range value) (λ n. make0 n ≡ reveals_set t key value)
    (λ n is.
    subst (λ k. make0 n ≡ reveals_set t k value) (sym (same_key key (codes "Range") e)) (ap make0 is)) (value_written table.reveal_range value place))
    (λ e0. (let same : reveals_keep t ≡ reveals_set t key value = cc in same))

reveals_next :
    (t : reveals_type.Reveals) (key value : List ℕ) (place : Place) (children rest : Trees) →
    reveals_from (reveals_set t key value) rest ≡ reveals_from t (more key value place children rest)
reveals_next t key value place children rest =
    let e0 = number_next table.reveal_range t.range value (bytes_eq key (codes "Range")) (last_value (codes "Range") rest) in
    cc

-- A trait's value after the fields of a list.
abbrev pub value_from : Trees → TraitValue → Trees → TraitValue
value_from top (Health t) fields = Health (health_from t fields)
value_from top (Mobile t) fields = Mobile (mobile_from t fields)
value_from top Building fields = Building
value_from top (Harvester t) fields = Harvester (harvester_from t fields)
value_from top (Refinery t) fields = Refinery (refinery_from t fields)
value_from top (Production t) fields = Production (production_from t fields)
value_from top (Buildable t) fields = Buildable (buildable_from top t fields)
value_from top (Valued t) fields = Valued (valued_from t fields)
value_from top (Armament t) fields = Armament (armament_from t fields)
value_from top (RevealsShroud t) fields = RevealsShroud (reveals_from t fields)

abbrev value_set : Trees → TraitValue → (key value : List ℕ) → TraitValue
value_set top (Health t) key value = Health (health_set t key value)
value_set top (Mobile t) key value = Mobile (mobile_set t key value)
value_set top Building key value = Building
value_set top (Harvester t) key value = Harvester (harvester_set t key value)
value_set top (Refinery t) key value = Refinery (refinery_set t key value)
value_set top (Production t) key value = Production (production_set t key value)
value_set top (Buildable t) key value = Buildable (buildable_set top t key value)
value_set top (Valued t) key value = Valued (valued_set t key value)
value_set top (Armament t) key value = Armament (armament_set t key value)
value_set top (RevealsShroud t) key value = RevealsShroud (reveals_set t key value)

wrapped_step :
    {T : Type 0} (wrap : T → TraitValue) (outcome : After T) (now : T) → IfOk outcome (λ after. after.0 ≡ now) →
    IfOk (wrapped wrap outcome) (λ after. after.0 ≡ wrap now)
wrapped_step wrap (Ok after) now e = ap wrap e
wrapped_step wrap (Err fault) now e = tt

value_step :
    (top : Trees) (value : TraitValue) (key text : List ℕ) (place : Place) →
    IfOk (value_with top value key text place) (λ after. after.0 ≡ value_set top value key text)
value_step top (Health t) key text place =
    wrapped_step Health (health_with t key text place) (health_set t key text) (health_step t key text place)
value_step top (Mobile t) key text place =
    wrapped_step Mobile (mobile_with t key text place) (mobile_set t key text) (mobile_step t key text place)
value_step top Building key text place = refl
value_step top (Harvester t) key text place =
    wrapped_step Harvester (harvester_with t key text place) (harvester_set t key text) (harvester_step t key text place)
value_step top (Refinery t) key text place =
    wrapped_step Refinery (refinery_with t key text place) (refinery_set t key text) (refinery_step t key text place)
value_step top (Production t) key text place =
    wrapped_step Production (production_with t key text) (production_set t key text) (production_step t key text place)
value_step top (Buildable t) key text place =
    wrapped_step Buildable (buildable_with top t key text place) (buildable_set top t key text) (buildable_step top t key text place)
value_step top (Valued t) key text place =
    wrapped_step Valued (valued_with t key text place) (valued_set t key text) (valued_step t key text place)
value_step top (Armament t) key text place =
    wrapped_step Armament (armament_with t key text place) (armament_set t key text) (armament_step t key text place)
value_step top (RevealsShroud t) key text place =
    wrapped_step RevealsShroud (reveals_with t key text place) (reveals_set t key text) (reveals_step t key text place)

value_next :
    (top : Trees) (value : TraitValue) (key text : List ℕ) (place : Place) (children rest : Trees) →
    value_from top (value_set top value key text) rest ≡ value_from top value (more key text place children rest)
value_next top (Health t) key text place children rest = ap Health (health_next t key text place children rest)
value_next top (Mobile t) key text place children rest = ap Mobile (mobile_next t key text place children rest)
value_next top Building key text place children rest = refl
value_next top (Harvester t) key text place children rest = ap Harvester (harvester_next t key text place children rest)
value_next top (Refinery t) key text place children rest = ap Refinery (refinery_next t key text place children rest)
value_next top (Production t) key text place children rest = ap Production (production_next t key text place children rest)
value_next top (Buildable t) key text place children rest = ap Buildable (buildable_next top t key text place children rest)
value_next top (Valued t) key text place children rest = ap Valued (valued_next t key text place children rest)
value_next top (Armament t) key text place children rest = ap Armament (armament_next t key text place children rest)
value_next top (RevealsShroud t) key text place children rest = ap RevealsShroud (reveals_next t key text place children rest)

value_end : (top : Trees) (value : TraitValue) → value ≡ value_from top value none
value_end top (Health t) = refl
value_end top (Mobile t) = refl
value_end top Building = refl
value_end top (Harvester t) = refl
value_end top (Refinery t) = refl
value_end top (Production t) = refl
value_end top (Buildable t) = refl
value_end top (Valued t) = refl
value_end top (Armament t) = refl
value_end top (RevealsShroud t) = refl

noted_step :
    (skipped : List Skipped) (key : List ℕ) (place : Place) (outcome : After TraitValue) (now : TraitValue) →
    IfOk outcome (λ after. after.0 ≡ now) → IfOk (noted skipped key place outcome) (λ made. made.0 ≡ now)
noted_step skipped key place (Ok (value, true)) now e = e
noted_step skipped key place (Ok (value, false)) now e = e
noted_step skipped key place (Err fault) now e = tt

fields_described :
    (top : Trees) (made : TraitValue × List Skipped) (fields : Trees) →
    IfOk (each (field_taken top) made fields) (λ all. all.0 ≡ value_from top made.0 fields)
fields_described top made none = value_end top made.0
fields_described top made (more key value place children rest) =
    followed (λ next. next.0 ≡ value_set top made.0 key value)
    (λ all. all.0 ≡ value_from top made.0 (more key value place children rest)) (field_taken top made key value place children)
    (λ next. each (field_taken top) next rest)
    (noted_step made.1 key place (value_with top made.0 key value place) (value_set top made.0 key value)
    (value_step top made.0 key value place))
    (λ next e.
    IfOk-weaker (each (field_taken top) next rest) (λ all. all.0 ≡ value_from top next.0 rest)
    (λ all. all.0 ≡ value_from top made.0 (more key value place children rest))
    (λ all same. same ∙ ap (λ v. value_from top v rest) e ∙ value_next top made.0 key value place children rest)
    (fields_described top next rest))

pub trait_described :
    (top : Trees) (trait : Trait) (skipped : List Skipped) (fields : Trees) →
    IfOk (trait_read top trait skipped fields) (λ made. made.0 ≡ value_from top (plain trait) fields)
trait_described top trait skipped fields = fields_described top (plain trait, skipped) fields
