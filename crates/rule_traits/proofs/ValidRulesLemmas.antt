-- Typed rules are valid: each step keeps every member in its range, and needs among the kinds.
use Rattle.std.proofs.Common.{◌≡◌, ℕ, codes, ◌+◌, ◌<◌, ◌≤◌, Bool, true, false, cond, leb, ◌&&◌}
use Rattle.std.proofs.Common.{List}
use Rattle.std.proofs.Common.{[], ◌∷◌, ◌++◌, length, refl, sym, ◌∙◌, ap, subst, arith, Option}
use Rattle.std.proofs.Common.{Some}
use Rattle.std.proofs.Common.{None, Result, Ok, Err}
use Rattle.std.proofs.lemmas.Bool.Decides.{nat_tests}
use Rattle.std.proofs.lemmas.List.{length-append, length-map}
use Rattle.std.proofs.lemmas.List.Elements.{All-append, All-cons, All-nil}
use Rattle.std.specs.List.{All}
use Rattle.std.specs.Option.{IfSome}
use Rattle.std.specs.Result.{IfOk}
use Rattle.std.specs.Str.{bytes_eq}
use Rattle.base.specs.Steps.{◌>>=◌}
use Rattle.rule_values.specs.NameList.{names_of}
use Rattle.yaml_lines.specs.declared.place.Place.{Place}
use Rattle.yaml_lines.specs.Trees.{Trees, none, more}
use Rattle.rule_traits.specs.declared.fault.RuleFault.{RuleFault}
use Rattle.rule_traits.specs.declared.fault.RuleFault.TheVariants.{MissingField, OutOfRange}
use Rattle.rule_traits.specs.declared.fault.RuleFault.TheVariants.{TooManyKinds}
use Rattle.rule_traits.specs.declared.field.Field.{Field}
use Rattle.rule_traits.specs.declared.kind.Kind.{Kind}
use Rattle.rule_traits.specs.declared.skipped.Skipped.{Skipped}
use Rattle.rule_traits.specs.declared.traits.Trait.{Trait}
use Rattle.rule_traits.specs.declared.traits.Trait.TheVariants as known
use Rattle.rule_traits.specs.declared.trait_value.TraitValue.{TraitValue}
use Rattle.rule_traits.specs.declared.trait_value.TraitValue.TheVariants.{Health, Mobile, Building}
use Rattle.rule_traits.specs.declared.trait_value.TraitValue.TheVariants.{Harvester, Refinery}
use Rattle.rule_traits.specs.declared.trait_value.TraitValue.TheVariants.{Production, Buildable}
use Rattle.rule_traits.specs.declared.trait_value.TraitValue.TheVariants.{Valued, Armament}
use Rattle.rule_traits.specs.declared.trait_value.TraitValue.TheVariants.{RevealsShroud}
use Rattle.rule_traits.specs.declared.trait_fields.Health as health_type
use Rattle.rule_traits.specs.declared.trait_fields.Mobile as mobile_type
use Rattle.rule_traits.specs.declared.trait_fields.Harvester as harvester_type
use Rattle.rule_traits.specs.declared.trait_fields.Refinery as refinery_type
use Rattle.rule_traits.specs.declared.trait_fields.Buildable as buildable_type
use Rattle.rule_traits.specs.declared.trait_fields.Valued as valued_type
use Rattle.rule_traits.specs.declared.trait_fields.Armament as armament_type
use Rattle.rule_traits.specs.declared.trait_fields.Reveals as reveals_type
use Rattle.rule_traits.specs.declared.TheConstants.{MAX_KINDS}
use Rattle.rule_traits.specs.Kinds.{is_kind, kind_keys, next_number, number_from, number_of_kind}
use Rattle.rule_traits.specs.Kinds.{with_number, numbers_after}
use Rattle.rule_traits.specs.Table as table
use Rattle.rule_traits.specs.Traits.{has_trait, trait_of}
use Rattle.rule_traits.specs.Typed.{passed, plain, wrapped, value_with, noted, field_taken}
use Rattle.rule_traits.specs.Typed.{trait_read, lacks_field, with_trait, trait_joined, trait_step}
use Rattle.rule_traits.specs.Typed.{trait_taken, plain_kind, kind_read, kind_taken, kinds_read}
use Rattle.rule_traits.specs.Typed.{typed, names_of_kinds}
use Rattle.rule_traits.specs.ValidRules.{IsInRange, IsValidHealth, IsValidMobile, IsValidHarvester}
use Rattle.rule_traits.specs.ValidRules.{IsValidRefinery, IsValidBuildable, IsValidValued}
use Rattle.rule_traits.specs.ValidRules.{IsValidArmament, IsValidReveals, IsValidKind}
use Rattle.rule_traits.specs.ValidRules.{AreValidRules}
use Rattle.rule_traits.specs.Values.{After, unknown, set_to, in_range, form_value, field_value}
use Rattle.rule_traits.specs.Values.{health_with, mobile_with, harvester_with, refinery_with}
use Rattle.rule_traits.specs.Values.{production_with, buildable_with, valued_with, armament_with}
use Rattle.rule_traits.specs.Values.{reveals_with}
use Rattle.rule_traits.proofs.OutcomeLemmas.{either, followed, each_keeps, any_outcome}
use Rattle.rule_traits.proofs.KindKeysLemmas.{typed_named}

-- A list of one element.
all_one : {X : Type 0} (P : X → Type 0) (x : X) → P x → All P (x ∷ [])
all_one P x h = All-cons P x [] h (All-nil P)

some_weaker :
    {X : Type 0} (value : Option X) (P Q : X → Type 0) → ((x : X) → P x → Q x) → IfSome value P → IfSome value Q
some_weaker None P Q w h = tt
some_weaker (Some x) P Q w h = w x h

-- The value of a field is in its range.
tested :
    (test : Bool) (field : Field) (n : ℕ) (place : Place) → (test ≡ true → IsInRange field n) →
    IfOk (cond test (Ok n) (Err (OutOfRange place))) (IsInRange field)
tested true field n place inside = inside refl
tested false field n place inside = tt

and_true : (x y : Bool) → (x && y) ≡ true → (x ≡ true) × (y ≡ true)
and_true true y e = (refl, e)
and_true false y e = absurd (cc)

at_most : (a b : ℕ) → leb a b ≡ true → a ≤ b
at_most a b e = grind (arith, nat_tests)

in_range_kept : (field : Field) (place : Place) (n : Option ℕ) → IfOk (in_range field place n) (IsInRange field)
in_range_kept field place None = tt
in_range_kept field place (Some n) =
    tested (leb field.least n && leb n field.greatest) field n place
    (λ inside.
    let both = and_true (leb field.least n) (leb n field.greatest) inside in
    (at_most field.least n both.0, at_most n field.greatest both.1))

field_kept : (field : Field) (text : List ℕ) (place : Place) → IfOk (field_value field text place) (IsInRange field)
unfolding field_value
field_kept field text place = in_range_kept field place (form_value field.form text)

-- A member set to a field of its key, or what the other keys do.
key_kept :
    {A T : Type 0} (P : T → Type 0) (Q : A → Type 0) (test : Bool) (outcome : Result A RuleFault) (make : A → T)
    (rest : After T) → IfOk outcome Q → ((value : A) → Q value → P (make value)) → IfOk rest (λ after. P after.0) →
    IfOk (cond test (set_to outcome make) rest) (λ after. P after.0)
key_kept P Q true (Ok value) make rest o m r = m value o
key_kept P Q true (Err fault) make rest o m r = tt
key_kept P Q false outcome make rest o m r = r

health_kept :
    (t : health_type.Health) (key value : List ℕ) (place : Place) → IsValidHealth t →
    IfOk (health_with t key value place) (λ after. IsValidHealth after.0)
unfolding health_with
health_kept t key value place h =
    let rest0 : After health_type.Health = unknown t in
    key_kept IsValidHealth (IsInRange table.hp) (bytes_eq key (codes "HP")) (field_value table.hp value place)
    (λ n. record t { hp = n }) rest0 (field_kept table.hp value place)
    (λ n inside. record { hp = inside })
    h

mobile_kept :
    (t : mobile_type.Mobile) (key value : List ℕ) (place : Place) → IsValidMobile t →
    IfOk (mobile_with t key value place) (λ after. IsValidMobile after.0)
unfolding mobile_with
mobile_kept t key value place h =
    let rest5 : After mobile_type.Mobile = unknown t in
    let rest4 : After mobile_type.Mobile =
    cond (bytes_eq key (codes "WaterCost")) (set_to (field_value table.water_cost value place) (λ n. record t { costs = record t.costs { water = n } })) rest5 in
    let rest3 : After mobile_type.Mobile =
    cond (bytes_eq key (codes "RoughCost")) (set_to (field_value table.rough_cost value place) (λ n. record t { costs = record t.costs { rough = n } })) rest4 in
    let rest2 : After mobile_type.Mobile =
    cond (bytes_eq key (codes "RoadCost")) (set_to (field_value table.road_cost value place) (λ n. record t { costs = record t.costs { road = n } })) rest3 in
    let rest1 : After mobile_type.Mobile =
    cond (bytes_eq key (codes "ClearCost")) (set_to (field_value table.clear_cost value place) (λ n. record t { costs = record t.costs { clear = n } })) rest2 in
    let rest0 : After mobile_type.Mobile =
    cond (bytes_eq key (codes "TurnSpeed")) (set_to (field_value table.turn_speed value place) (λ n. record t { turn = n })) rest1 in
    key_kept IsValidMobile (IsInRange table.speed) (bytes_eq key (codes "Speed")) (field_value table.speed value place)
    (λ n. record t { speed = n }) rest0 (field_kept table.speed value place)
    (λ n inside. record { speed = inside; turn = h.turn; clear = h.clear; road = h.road; rough = h.rough; water = h.water })
    (key_kept IsValidMobile (IsInRange table.turn_speed) (bytes_eq key (codes "TurnSpeed")) (field_value table.turn_speed value place)
    (λ n. record t { turn = n }) rest1 (field_kept table.turn_speed value place)
    (λ n inside. record { speed = h.speed; turn = inside; clear = h.clear; road = h.road; rough = h.rough; water = h.water })
    (key_kept IsValidMobile (IsInRange table.clear_cost) (bytes_eq key (codes "ClearCost")) (field_value table.clear_cost value place)
    (λ n. record t { costs = record t.costs { clear = n } }) rest2 (field_kept table.clear_cost value place)
    (λ n inside. record { speed = h.speed; turn = h.turn; clear = inside; road = h.road; rough = h.rough; water = h.water })
    (key_kept IsValidMobile (IsInRange table.road_cost) (bytes_eq key (codes "RoadCost")) (field_value table.road_cost value place)
    (λ n. record t { costs = record t.costs { road = n } }) rest3 (field_kept table.road_cost value place)
    (λ n inside. record { speed = h.speed; turn = h.turn; clear = h.clear; road = inside; rough = h.rough; water = h.water })
    (key_kept IsValidMobile (IsInRange table.rough_cost) (bytes_eq key (codes "RoughCost")) (field_value table.rough_cost value place)
    (λ n. record t { costs = record t.costs { rough = n } }) rest4 (field_kept table.rough_cost value place)
    (λ n inside. record { speed = h.speed; turn = h.turn; clear = h.clear; road = h.road; rough = inside; water = h.water })
    (key_kept IsValidMobile (IsInRange table.water_cost) (bytes_eq key (codes "WaterCost")) (field_value table.water_cost value place)
    (λ n. record t { costs = record t.costs { water = n } }) rest5 (field_kept table.water_cost value place)
    (λ n inside. record { speed = h.speed; turn = h.turn; clear = h.clear; road = h.road; rough = h.rough; water = inside })
    h)))))

harvester_kept :
    (t : harvester_type.Harvester) (key value : List ℕ) (place : Place) → IsValidHarvester t →
    IfOk (harvester_with t key value place) (λ after. IsValidHarvester after.0)
unfolding harvester_with
harvester_kept t key value place h =
    let rest2 : After harvester_type.Harvester = unknown t in
    let rest1 : After harvester_type.Harvester =
    cond (bytes_eq key (codes "BaleUnloadDelay")) (set_to (field_value table.bale_unload_delay value place) (λ n. record t { unload_delay = n })) rest2 in
    let rest0 : After harvester_type.Harvester =
    cond (bytes_eq key (codes "BaleLoadDelay")) (set_to (field_value table.bale_load_delay value place) (λ n. record t { load_delay = n })) rest1 in
    key_kept IsValidHarvester (IsInRange table.capacity) (bytes_eq key (codes "Capacity")) (field_value table.capacity value place)
    (λ n. record t { capacity = n }) rest0 (field_kept table.capacity value place)
    (λ n inside. record { capacity = inside; load_delay = h.load_delay; unload_delay = h.unload_delay })
    (key_kept IsValidHarvester (IsInRange table.bale_load_delay) (bytes_eq key (codes "BaleLoadDelay")) (field_value table.bale_load_delay value place)
    (λ n. record t { load_delay = n }) rest1 (field_kept table.bale_load_delay value place)
    (λ n inside. record { capacity = h.capacity; load_delay = inside; unload_delay = h.unload_delay })
    (key_kept IsValidHarvester (IsInRange table.bale_unload_delay) (bytes_eq key (codes "BaleUnloadDelay")) (field_value table.bale_unload_delay value place)
    (λ n. record t { unload_delay = n }) rest2 (field_kept table.bale_unload_delay value place)
    (λ n inside. record { capacity = h.capacity; load_delay = h.load_delay; unload_delay = inside })
    h))

refinery_kept :
    (t : refinery_type.Refinery) (key value : List ℕ) (place : Place) → IsValidRefinery t →
    IfOk (refinery_with t key value place) (λ after. IsValidRefinery after.0)
unfolding refinery_with
refinery_kept t key value place h =
    let rest0 : After refinery_type.Refinery = unknown t in
    key_kept IsValidRefinery (IsInRange table.bale_value) (bytes_eq key (codes "BaleValue")) (field_value table.bale_value value place)
    (λ n. record t { value = n }) rest0 (field_kept table.bale_value value place)
    (λ n inside. record { value = inside })
    h

valued_kept :
    (t : valued_type.Valued) (key value : List ℕ) (place : Place) → IsValidValued t →
    IfOk (valued_with t key value place) (λ after. IsValidValued after.0)
unfolding valued_with
valued_kept t key value place h =
    let rest0 : After valued_type.Valued = unknown t in
    key_kept IsValidValued (IsInRange table.cost) (bytes_eq key (codes "Cost")) (field_value table.cost value place)
    (λ n. record t { cost = n }) rest0 (field_kept table.cost value place)
    (λ n inside. record { cost = inside })
    h

armament_kept :
    (t : armament_type.Armament) (key value : List ℕ) (place : Place) → IsValidArmament t →
    IfOk (armament_with t key value place) (λ after. IsValidArmament after.0)
unfolding armament_with
armament_kept t key value place h =
    let rest3 : After armament_type.Armament = unknown t in
    let rest2 : After armament_type.Armament =
    cond (bytes_eq key (codes "Reload")) (set_to (field_value table.reload value place) (λ n. record t { reload = n })) rest3 in
    let rest1 : After armament_type.Armament =
    cond (bytes_eq key (codes "Spread")) (set_to (field_value table.spread value place) (λ n. record t { spread = n })) rest2 in
    let rest0 : After armament_type.Armament =
    cond (bytes_eq key (codes "Damage")) (set_to (field_value table.damage value place) (λ n. record t { damage = n })) rest1 in
    key_kept IsValidArmament (IsInRange table.range) (bytes_eq key (codes "Range")) (field_value table.range value place)
    (λ n. record t { range = n }) rest0 (field_kept table.range value place)
    (λ n inside. record { range = inside; damage = h.damage; spread = h.spread; reload = h.reload })
    (key_kept IsValidArmament (IsInRange table.damage) (bytes_eq key (codes "Damage")) (field_value table.damage value place)
    (λ n. record t { damage = n }) rest1 (field_kept table.damage value place)
    (λ n inside. record { range = h.range; damage = inside; spread = h.spread; reload = h.reload })
    (key_kept IsValidArmament (IsInRange table.spread) (bytes_eq key (codes "Spread")) (field_value table.spread value place)
    (λ n. record t { spread = n }) rest2 (field_kept table.spread value place)
    (λ n inside. record { range = h.range; damage = h.damage; spread = inside; reload = h.reload })
    (key_kept IsValidArmament (IsInRange table.reload) (bytes_eq key (codes "Reload")) (field_value table.reload value place)
    (λ n. record t { reload = n }) rest3 (field_kept table.reload value place)
    (λ n inside. record { range = h.range; damage = h.damage; spread = h.spread; reload = inside })
    h)))

reveals_kept :
    (t : reveals_type.Reveals) (key value : List ℕ) (place : Place) → IsValidReveals t →
    IfOk (reveals_with t key value place) (λ after. IsValidReveals after.0)
unfolding reveals_with
reveals_kept t key value place h =
    let rest0 : After reveals_type.Reveals = unknown t in
    key_kept IsValidReveals (IsInRange table.reveal_range) (bytes_eq key (codes "Range")) (field_value table.reveal_range value place)
    (λ n. record t { range = n }) rest0 (field_kept table.reveal_range value place)
    (λ n inside. record { range = inside })
    h

-- The number of a kind is below the number of kinds.
one_below :
    (kind same : Bool) (number : ℕ) (name key : List ℕ) (rest : Trees) →
    IfSome (number_from (next_number number) name rest) (λ n. n < next_number number + length (kind_keys rest)) →
    IfSome (number_from number name rest) (λ n. n < number + length (kind_keys rest)) →
    IfSome
    (cond kind (cond same (Some number) (number_from (next_number number) name rest)) (number_from number name rest))
    (λ n. n < number + length (cond kind (key ∷ kind_keys rest) (kind_keys rest)))
one_below true true number name key rest later others = omega arith
one_below true false number name key rest later others =
    some_weaker (number_from (next_number number) name rest) _ _
    (λ n below. let step : next_number number ≤ number + 1 = grind (arith, nat_tests) in omega arith) later
one_below false same number name key rest later others = others

number_below :
    (number : ℕ) (name : List ℕ) (list : Trees) →
    IfSome (number_from number name list) (λ n. n < number + length (kind_keys list))
number_below number name none = tt
number_below number name (more key value place children rest) =
    one_below (is_kind key) (bytes_eq name key) number name key rest (number_below (next_number number) name rest)
    (number_below number name rest)

-- The kinds that are needed.
abbrev AreBelow : Trees → List ℕ → Type 0
AreBelow top = All (λ n. n < length (kind_keys top))

number_kept :
    (top : Trees) (place : Place) (names : List (List ℕ)) (done : List ℕ) (number : Option ℕ) → AreBelow top done →
    IfSome number (λ n. n < length (kind_keys top)) →
    ((all : List ℕ) → AreBelow top all → IfOk (numbers_after top place names all) (AreBelow top)) →
    IfOk (with_number place done number (numbers_after top place names)) (AreBelow top)
number_kept top place names done None h below others = tt
number_kept top place names done (Some n) h below others =
    others (done ++ n ∷ [])
    (All-append (λ n. n < length (kind_keys top)) done (n ∷ []) h (all_one (λ n. n < length (kind_keys top)) n below))

kind_below :
    (top : Trees) (name : List ℕ) → IfSome (number_of_kind top name) (λ n. n < length (kind_keys top))
unfolding number_of_kind
kind_below top name = some_weaker (number_from 0 name top) _ _ (λ n below. omega arith) (number_below 0 name top)

numbers_kept :
    (top : Trees) (place : Place) (names : List (List ℕ)) (done : List ℕ) → AreBelow top done →
    IfOk (numbers_after top place names done) (AreBelow top)
numbers_kept top place [] done h = h
numbers_kept top place (name ∷ names) done h =
    number_kept top place names done (number_of_kind top name) h (kind_below top name) (numbers_kept top place names)

buildable_kept :
    (top : Trees) (t : buildable_type.Buildable) (key value : List ℕ) (place : Place) →
    IsValidBuildable (length (kind_keys top)) t →
    IfOk (buildable_with top t key value place) (λ after. IsValidBuildable (length (kind_keys top)) after.0)
unfolding buildable_with
buildable_kept top t key value place h =
    let Valid : buildable_type.Buildable → Type 0 = IsValidBuildable (length (kind_keys top)) in
    let rest2 : After buildable_type.Buildable = unknown t in
    let rest1 : After buildable_type.Buildable =
    cond (bytes_eq key (codes "Needs")) (set_to (numbers_after top place (names_of value) []) (λ numbers. record t { needs = numbers })) rest2 in
    let rest0 : After buildable_type.Buildable =
    cond (bytes_eq key (codes "BuildDuration")) (set_to (field_value table.build_duration value place) (λ n. record t { duration = n })) rest1 in
    key_kept Valid (λ _. Unit {0}) (bytes_eq key (codes "Queue")) (Ok (names_of value)) (λ names. record t { queue = names }) rest0 tt
    (λ names _. record { duration = h.duration; needs = h.needs })
    (key_kept Valid (IsInRange table.build_duration) (bytes_eq key (codes "BuildDuration")) (field_value table.build_duration value place)
    (λ n. record t { duration = n }) rest1 (field_kept table.build_duration value place)
    (λ n inside. record { duration = inside; needs = h.needs })
    (key_kept Valid (AreBelow top) (bytes_eq key (codes "Needs")) (numbers_after top place (names_of value) []) (λ numbers. record t { needs = numbers })
    rest2 (numbers_kept top place (names_of value) [] (All-nil _)) (λ numbers below. record { duration = h.duration; needs = below })
    h))

-- A trait's value is valid among the kinds.
abbrev IsValidValue : ℕ → TraitValue → Type 0
IsValidValue kinds (Health t) = IsValidHealth t
IsValidValue kinds (Mobile t) = IsValidMobile t
IsValidValue kinds Building = Unit {0}
IsValidValue kinds (Harvester t) = IsValidHarvester t
IsValidValue kinds (Refinery t) = IsValidRefinery t
IsValidValue kinds (Production t) = Unit {0}
IsValidValue kinds (Buildable t) = IsValidBuildable kinds t
IsValidValue kinds (Valued t) = IsValidValued t
IsValidValue kinds (Armament t) = IsValidArmament t
IsValidValue kinds (RevealsShroud t) = IsValidReveals t

wrapped_kept :
    {T : Type 0} (P : T → Type 0) (Q : TraitValue → Type 0) (wrap : T → TraitValue) (outcome : After T) →
    ((t : T) → P t → Q (wrap t)) → IfOk outcome (λ after. P after.0) → IfOk (wrapped wrap outcome) (λ after. Q after.0)
wrapped_kept P Q wrap (Ok after) w h = w after.0 h
wrapped_kept P Q wrap (Err fault) w h = tt

value_kept :
    (top : Trees) (value : TraitValue) (key text : List ℕ) (place : Place) →
    IsValidValue (length (kind_keys top)) value →
    IfOk (value_with top value key text place) (λ after. IsValidValue (length (kind_keys top)) after.0)
value_kept top (Health t) key text place h =
    wrapped_kept IsValidHealth (IsValidValue (length (kind_keys top))) Health (health_with t key text place) (λ _ valid. valid)
    (health_kept t key text place h)
value_kept top (Mobile t) key text place h =
    wrapped_kept IsValidMobile (IsValidValue (length (kind_keys top))) Mobile (mobile_with t key text place) (λ _ valid. valid)
    (mobile_kept t key text place h)
value_kept top (Harvester t) key text place h =
    wrapped_kept IsValidHarvester (IsValidValue (length (kind_keys top))) Harvester (harvester_with t key text place) (λ _ valid. valid)
    (harvester_kept t key text place h)
value_kept top (Refinery t) key text place h =
    wrapped_kept IsValidRefinery (IsValidValue (length (kind_keys top))) Refinery (refinery_with t key text place) (λ _ valid. valid)
    (refinery_kept t key text place h)
value_kept top (Production t) key text place h =
    wrapped_kept (λ _. Unit {0}) (IsValidValue (length (kind_keys top))) Production (production_with t key text) (λ _ _. tt)
    (any_outcome (production_with t key text))
value_kept top (Buildable t) key text place h =
    wrapped_kept (IsValidBuildable (length (kind_keys top))) (IsValidValue (length (kind_keys top))) Buildable (buildable_with top t key text place) (λ _ valid. valid)
    (buildable_kept top t key text place h)
value_kept top (Valued t) key text place h =
    wrapped_kept IsValidValued (IsValidValue (length (kind_keys top))) Valued (valued_with t key text place) (λ _ valid. valid)
    (valued_kept t key text place h)
value_kept top (Armament t) key text place h =
    wrapped_kept IsValidArmament (IsValidValue (length (kind_keys top))) Armament (armament_with t key text place) (λ _ valid. valid)
    (armament_kept t key text place h)
value_kept top (RevealsShroud t) key text place h =
    wrapped_kept IsValidReveals (IsValidValue (length (kind_keys top))) RevealsShroud (reveals_with t key text place) (λ _ valid. valid)
    (reveals_kept t key text place h)
value_kept top Building key text place h = tt

noted_kept :
    (P : TraitValue → Type 0) (skipped : List Skipped) (key : List ℕ) (place : Place) (outcome : After TraitValue) →
    IfOk outcome (λ after. P after.0) → IfOk (noted skipped key place outcome) (λ made. P made.0)
noted_kept P skipped key place (Ok (value, true)) h = h
noted_kept P skipped key place (Ok (value, false)) h = h
noted_kept P skipped key place (Err fault) h = tt

-- A trait without fields is valid.
plain_valid : (kinds : ℕ) (trait : Trait) → IsValidValue kinds (plain trait)
plain_valid kinds known.Health =
    record { hp = (omega arith, omega arith) }
plain_valid kinds known.Mobile =
    record { speed = (omega arith, omega arith); turn = (omega arith, omega arith); clear = (omega arith, omega arith); road = (omega arith, omega arith); rough = (omega arith, omega arith); water = (omega arith, omega arith) }
plain_valid kinds known.Building = tt
plain_valid kinds known.Harvester =
    record { capacity = (omega arith, omega arith); load_delay = (omega arith, omega arith); unload_delay = (omega arith, omega arith) }
plain_valid kinds known.Refinery =
    record { value = (omega arith, omega arith) }
plain_valid kinds known.Production = tt
plain_valid kinds known.Buildable = record { duration = (omega arith, omega arith); needs = All-nil _ }
plain_valid kinds known.Valued =
    record { cost = (omega arith, omega arith) }
plain_valid kinds known.Armament =
    record { range = (omega arith, omega arith); damage = (omega arith, omega arith); spread = (omega arith, omega arith); reload = (omega arith, omega arith) }
plain_valid kinds known.RevealsShroud =
    record { range = (omega arith, omega arith) }

trait_read_kept :
    (top : Trees) (trait : Trait) (skipped : List Skipped) (fields : Trees) →
    IfOk (trait_read top trait skipped fields) (λ made. IsValidValue (length (kind_keys top)) made.0)
trait_read_kept top trait skipped fields =
    let Valid : TraitValue × List Skipped → Type 0 = λ made. IsValidValue (length (kind_keys top)) made.0 in
    each_keeps Valid (field_taken top)
    (λ made key value place children h.
    noted_kept (IsValidValue (length (kind_keys top))) made.1 key place (value_with top made.0 key value place)
    (value_kept top made.0 key value place h))
    (plain trait, skipped) fields (plain_valid (length (kind_keys top)) trait)

-- A kind with one more valid trait is valid.
with_trait_valid :
    (kinds : ℕ) (kind : Kind) (value : TraitValue) → IsValidKind kinds kind → IsValidValue kinds value →
    IsValidKind kinds (with_trait kind value)
with_trait_valid kinds kind (Health t) h v =
    record {
      health = v;
      mobile = h.mobile;
      harvester = h.harvester;
      refinery = h.refinery;
      buildable = h.buildable;
      valued = h.valued;
      armament = h.armament;
      reveals = h.reveals;
    }
with_trait_valid kinds kind (Mobile t) h v =
    record {
      health = h.health;
      mobile = v;
      harvester = h.harvester;
      refinery = h.refinery;
      buildable = h.buildable;
      valued = h.valued;
      armament = h.armament;
      reveals = h.reveals;
    }
with_trait_valid kinds kind Building h v =
    record {
      health = h.health;
      mobile = h.mobile;
      harvester = h.harvester;
      refinery = h.refinery;
      buildable = h.buildable;
      valued = h.valued;
      armament = h.armament;
      reveals = h.reveals;
    }
with_trait_valid kinds kind (Harvester t) h v =
    record {
      health = h.health;
      mobile = h.mobile;
      harvester = v;
      refinery = h.refinery;
      buildable = h.buildable;
      valued = h.valued;
      armament = h.armament;
      reveals = h.reveals;
    }
with_trait_valid kinds kind (Refinery t) h v =
    record {
      health = h.health;
      mobile = h.mobile;
      harvester = h.harvester;
      refinery = v;
      buildable = h.buildable;
      valued = h.valued;
      armament = h.armament;
      reveals = h.reveals;
    }
with_trait_valid kinds kind (Production t) h v =
    record {
      health = h.health;
      mobile = h.mobile;
      harvester = h.harvester;
      refinery = h.refinery;
      buildable = h.buildable;
      valued = h.valued;
      armament = h.armament;
      reveals = h.reveals;
    }
with_trait_valid kinds kind (Buildable t) h v =
    record {
      health = h.health;
      mobile = h.mobile;
      harvester = h.harvester;
      refinery = h.refinery;
      buildable = v;
      valued = h.valued;
      armament = h.armament;
      reveals = h.reveals;
    }
with_trait_valid kinds kind (Valued t) h v =
    record {
      health = h.health;
      mobile = h.mobile;
      harvester = h.harvester;
      refinery = h.refinery;
      buildable = h.buildable;
      valued = v;
      armament = h.armament;
      reveals = h.reveals;
    }
with_trait_valid kinds kind (Armament t) h v =
    record {
      health = h.health;
      mobile = h.mobile;
      harvester = h.harvester;
      refinery = h.refinery;
      buildable = h.buildable;
      valued = h.valued;
      armament = v;
      reveals = h.reveals;
    }
with_trait_valid kinds kind (RevealsShroud t) h v =
    record {
      health = h.health;
      mobile = h.mobile;
      harvester = h.harvester;
      refinery = h.refinery;
      buildable = h.buildable;
      valued = h.valued;
      armament = h.armament;
      reveals = v;
    }

abbrev IsValidMade : ℕ → Kind × List Skipped → Type 0
IsValidMade kinds made = IsValidKind kinds made.0

joined_kept :
    (top : Trees) (made : Kind × List Skipped) (place : Place) (fields : Trees) (trait : Trait) →
    IsValidMade (length (kind_keys top)) made →
    IfOk (trait_joined top made place fields trait) (IsValidMade (length (kind_keys top)))
unfolding trait_joined
joined_kept top made place fields trait h =
    let kinds = length (kind_keys top) in
    let next : TraitValue × List Skipped → Result (Kind × List Skipped) RuleFault =
    λ read. Ok (with_trait made.0 read.0, read.1) in
    either (IsValidMade kinds) (lacks_field trait fields) (Err (MissingField place))
    (trait_read top trait made.1 fields >>= next) tt
    (followed (λ read. IsValidValue kinds read.0) (IsValidMade kinds) (trait_read top trait made.1 fields) next
    (trait_read_kept top trait made.1 fields) (λ read v. with_trait_valid kinds made.0 read.0 h v))

step_kept :
    (top : Trees) (made : Kind × List Skipped) (key : List ℕ) (place : Place) (fields : Trees) (trait : Option Trait) →
    IsValidMade (length (kind_keys top)) made →
    IfOk (trait_step top made key place fields trait) (IsValidMade (length (kind_keys top)))
step_kept top made key place fields None h = h
step_kept top made key place fields (Some trait) h =
    either (IsValidMade (length (kind_keys top))) (has_trait made.0 trait) (Ok (made.0, passed made.1 place key))
    (trait_joined top made place fields trait) h (joined_kept top made place fields trait h)

taken_kept :
    (top : Trees) (made : Kind × List Skipped) (key value : List ℕ) (place : Place) (fields : Trees) →
    IsValidMade (length (kind_keys top)) made →
    IfOk (trait_taken top made key value place fields) (IsValidMade (length (kind_keys top)))
unfolding trait_taken
taken_kept top made key value place fields h = step_kept top made key place fields (trait_of key) h

plain_kind_valid : (kinds : ℕ) (key : List ℕ) → IsValidKind kinds (plain_kind key)
plain_kind_valid kinds key =
    record { health = tt; mobile = tt; harvester = tt; refinery = tt; buildable = tt; valued = tt; armament = tt; reveals = tt }

kind_read_kept :
    (top : Trees) (key : List ℕ) (skipped : List Skipped) (traits : Trees) →
    IfOk (kind_read top key skipped traits) (IsValidMade (length (kind_keys top)))
kind_read_kept top key skipped traits =
    each_keeps (IsValidMade (length (kind_keys top))) (trait_taken top) (taken_kept top) (plain_kind key, skipped) traits
    (plain_kind_valid (length (kind_keys top)) key)

-- The kinds so far are valid, and no more than there may be.
abbrev AreValidSoFar : ℕ → List Kind × List Skipped → Type 0
AreValidSoFar kinds made = (length made.0 ≤ MAX_KINDS) × All (IsValidKind kinds) made.0

one_kept :
    (kind : Bool) (top : Trees) (made : List Kind × List Skipped) (key : List ℕ) (place : Place) (traits : Trees) →
    AreValidSoFar (length (kind_keys top)) made → (full : Bool) → (full ≡ false → length made.0 < MAX_KINDS) →
    IfOk
    (cond kind
    (cond full (Err (TooManyKinds place))
    (kind_read top key made.1 traits >>= λ read. Ok (made.0 ++ read.0 ∷ [], read.1)))
    (Ok made))
    (AreValidSoFar (length (kind_keys top)))
one_kept false top made key place traits h full room = h
one_kept true top made key place traits h true room = tt
one_kept true top made key place traits h false room =
    let kinds = length (kind_keys top) in
    let next : Kind × List Skipped → Result (List Kind × List Skipped) RuleFault =
    λ read. Ok (made.0 ++ read.0 ∷ [], read.1) in
    followed (IsValidMade kinds) (AreValidSoFar kinds) (kind_read top key made.1 traits) next
    (kind_read_kept top key made.1 traits)
    (λ read v.
    let below : length made.0 < MAX_KINDS = room refl in
    let longer : length (made.0 ++ read.0 ∷ []) ≡ length made.0 + 1 = length-append made.0 (read.0 ∷ []) in
    (omega arith, All-append (IsValidKind kinds) made.0 (read.0 ∷ []) h.1 (all_one (IsValidKind kinds) read.0 v)))

kind_kept :
    (top : Trees) (made : List Kind × List Skipped) (key value : List ℕ) (place : Place) (traits : Trees) →
    AreValidSoFar (length (kind_keys top)) made →
    IfOk (kind_taken top made key value place traits) (AreValidSoFar (length (kind_keys top)))
unfolding kind_taken
kind_kept top made key value place traits h =
    one_kept (is_kind key) top made key place traits h (leb MAX_KINDS (length made.0))
    (λ e. grind (arith, nat_tests))

typed_kept : (top : Trees) → IfOk (typed top) (AreValidSoFar (length (kind_keys top)))
unfolding typed
typed_kept top =
    each_keeps (AreValidSoFar (length (kind_keys top))) (kind_taken top) (kind_kept top) ([], []) top
    (omega arith, All-nil _)

-- Two facts of one outcome.
both_facts : {A : Type 0} (P Q : A → Type 0) (outcome : Result A RuleFault) → IfOk outcome P → IfOk outcome Q → IfOk outcome (λ value. P value × Q value)
both_facts P Q (Ok value) p q = (p, q)
both_facts P Q (Err fault) p q = tt

rules_valid :
    (top : Trees) (kinds : List Kind) → AreValidSoFar (length (kind_keys top)) (kinds, []) →
    names_of_kinds kinds ≡ kind_keys top → AreValidRules kinds
rules_valid top kinds h named =
    let count : length kinds ≡ length (kind_keys top) =
    sym (length-map kinds (λ (kind : Kind). kind.name)) ∙ ap length named in
    record { limit = h.0; kinds = subst (λ n. All (IsValidKind n) kinds) (sym count) h.1 }

-- The kinds of typed rules are valid.
pub valid_kinds :
    (top : Trees) (kinds : List Kind) (skipped : List Skipped) → kinds_read top top ≡ Ok (kinds, skipped) →
    AreValidRules kinds
unfolding typed
valid_kinds top kinds skipped e =
    let facts = both_facts (AreValidSoFar (length (kind_keys top))) (λ made. names_of_kinds made.0 ≡ kind_keys top)
    (typed top) (typed_kept top) (typed_named top) in
    let told = subst (λ (x : Result (List Kind × List Skipped) RuleFault).
    IfOk x (λ made. AreValidSoFar (length (kind_keys top)) made × (names_of_kinds made.0 ≡ kind_keys top))) e facts in
    rules_valid top kinds told.0 told.1
