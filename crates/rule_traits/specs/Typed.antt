-- Typed rules: the kinds of a forest and what is passed over in it, or its first fault in preorder.
use Rattle.std.specs.Prelude.{ℕ, Bool, true, false, not, List, [], ◌∷◌, ◌++◌, length, map, codes}
use Rattle.std.specs.Prelude.{if◌then◌else◌, nat_le, Option, Some, None, Result, Ok, Err}
use Rattle.std.specs.Str.{bytes_eq}
use Rattle.base.specs.Steps.{◌>>=◌, IsFault}
use Rattle.yaml_lines.specs.declared.place.Place.{Place}
use Rattle.yaml_lines.specs.declared.forest.Node.{Node}
use Rattle.yaml_lines.specs.declared.forest.Forest.TheViews.{out-Node}
use Rattle.yaml_lines.specs.Trees.{Trees, none, more, trees_of}
use Rattle.rule_traits.specs.declared.fault.RuleFault.{RuleFault}
use Rattle.rule_traits.specs.declared.fault.RuleFault.TheVariants.{MissingField, NoMemory}
use Rattle.rule_traits.specs.declared.fault.RuleFault.TheVariants.{TooManyKinds}
use Rattle.rule_traits.specs.declared.kind.Kind.{Kind}
use Rattle.rule_traits.specs.declared.skipped.Skipped.{Skipped}
use Rattle.rule_traits.specs.declared.traits.Trait.{Trait}
use Rattle.rule_traits.specs.declared.traits.Trait.TheVariants as known
use Rattle.rule_traits.specs.declared.trait_value.TraitValue.{TraitValue}
use Rattle.rule_traits.specs.declared.trait_value.TraitValue.TheVariants.{Health, Mobile, Building}
use Rattle.rule_traits.specs.declared.trait_value.TraitValue.TheVariants.{Harvester, Refinery}
use Rattle.rule_traits.specs.declared.trait_value.TraitValue.TheVariants.{Production, Buildable}
use Rattle.rule_traits.specs.declared.trait_value.TraitValue.TheVariants.{Valued, Armament}
use Rattle.rule_traits.specs.declared.trait_value.TraitValue.TheVariants.{RevealsShroud}
use Rattle.rule_traits.specs.declared.TheConstants.{MAX_KINDS}
use Rattle.rule_traits.specs.Kinds.{is_kind}
use Rattle.rule_traits.specs.Traits.{has_trait, trait_of}
use Rattle.rule_traits.specs.Values.{After, plain_health, health_with, plain_mobile, mobile_with}
use Rattle.rule_traits.specs.Values.{plain_harvester, harvester_with, plain_refinery, refinery_with}
use Rattle.rule_traits.specs.Values.{plain_production, production_with, plain_buildable}
use Rattle.rule_traits.specs.Values.{buildable_with, plain_valued, valued_with, plain_armament}
use Rattle.rule_traits.specs.Values.{armament_with, plain_reveals, reveals_with}

-- The nodes of a list taken in order, each by a step from what was made so far. Its first fault
-- ends it.
abbrev pub each :
    {S : Type 0} → (S → (key value : List ℕ) → Place → Trees → Result S RuleFault) → S → Trees →
    Result S RuleFault
each step made none = Ok made
each step made (more key value place children rest) =
    step made key value place children >>= λ next. each step next rest

-- Such a step at a node.
abbrev pub step_at :
    {S : Type 0} → (S → (key value : List ℕ) → Place → Trees → Result S RuleFault) → S → Node →
    Result S RuleFault
step_at step made node =
    step made (out-Node node).key (out-Node node).value (out-Node node).place
    (trees_of (out-Node node).children)

-- A node passed over, after those before it.
abbrev pub passed : List Skipped → Place → List ℕ → List Skipped
passed skipped place key = skipped ++ record { place = place; key = key } ∷ []

-- A known trait without any field.
abbrev pub plain : Trait → TraitValue
plain known.Health = Health plain_health
plain known.Mobile = Mobile plain_mobile
plain known.Building = Building
plain known.Harvester = Harvester plain_harvester
plain known.Refinery = Refinery plain_refinery
plain known.Production = Production plain_production
plain known.Buildable = Buildable plain_buildable
plain known.Valued = Valued plain_valued
plain known.Armament = Armament plain_armament
plain known.RevealsShroud = RevealsShroud plain_reveals

abbrev pub wrapped : {T : Type 0} → (T → TraitValue) → After T → After TraitValue
wrapped wrap (Ok (value, has)) = Ok (wrap value, has)
wrapped wrap (Err fault) = Err fault

-- A trait after one field was read.
abbrev pub value_with : Trees → TraitValue → (key value : List ℕ) → Place → After TraitValue
value_with top (Health t) key value place = wrapped Health (health_with t key value place)
value_with top (Mobile t) key value place = wrapped Mobile (mobile_with t key value place)
value_with top Building key value place = Ok (Building, false)
value_with top (Harvester t) key value place = wrapped Harvester (harvester_with t key value place)
value_with top (Refinery t) key value place = wrapped Refinery (refinery_with t key value place)
value_with top (Production t) key value place = wrapped Production (production_with t key value)
value_with top (Buildable t) key value place =
    wrapped Buildable (buildable_with top t key value place)
value_with top (Valued t) key value place = wrapped Valued (valued_with t key value place)
value_with top (Armament t) key value place = wrapped Armament (armament_with t key value place)
value_with top (RevealsShroud t) key value place =
    wrapped RevealsShroud (reveals_with t key value place)

-- A field that its trait hasn't is passed over. What stands below a field is not looked at.
abbrev pub noted :
    List Skipped → List ℕ → Place → After TraitValue → Result (TraitValue × List Skipped) RuleFault
noted skipped key place (Ok (value, true)) = Ok (value, skipped)
noted skipped key place (Ok (value, false)) = Ok (value, passed skipped place key)
noted skipped key place (Err fault) = Err fault

abbrev pub field_taken :
    Trees → TraitValue × List Skipped → (key value : List ℕ) → Place → Trees →
    Result (TraitValue × List Skipped) RuleFault
field_taken top made key value place children =
    noted made.1 key place (value_with top made.0 key value place)

-- A known trait with the fields below its node, where these nodes were passed over before.
abbrev pub trait_read :
    Trees → Trait → List Skipped → Trees → Result (TraitValue × List Skipped) RuleFault
trait_read top trait skipped fields = each (field_taken top) (plain trait, skipped) fields

-- A field of this name stands in the list.
abbrev pub has_field : List ℕ → Trees → Bool
has_field name none = false
has_field name (more key value place children rest) =
    if bytes_eq key name then true else has_field name rest

-- The trait lacks a field that it needs.
abbrev pub lacks_field : Trait → Trees → Bool
lacks_field known.Production fields = not (has_field (codes "Produces") fields)
lacks_field _ fields = false

-- The kind with a trait.
abbrev pub with_trait : Kind → TraitValue → Kind
with_trait kind (Health t) = record kind { health = Some t }
with_trait kind (Mobile t) = record kind { mobile = Some t }
with_trait kind Building = record kind { building = true }
with_trait kind (Harvester t) = record kind { harvester = Some t }
with_trait kind (Refinery t) = record kind { refinery = Some t }
with_trait kind (Production t) = record kind { production = Some t }
with_trait kind (Buildable t) = record kind { buildable = Some t }
with_trait kind (Valued t) = record kind { valued = Some t }
with_trait kind (Armament t) = record kind { armament = Some t }
with_trait kind (RevealsShroud t) = record kind { reveals = Some t }

-- A known trait, with the fields below it, joins a kind that hasn't got it.
unfoldable pub trait_joined :
    Trees → Kind × List Skipped → Place → Trees → Trait → Result (Kind × List Skipped) RuleFault
trait_joined top made place fields trait =
    if lacks_field trait fields then Err (MissingField place)
    else trait_read top trait made.1 fields >>= λ read. Ok (with_trait made.0 read.0, read.1)

-- A trait that isn't known is passed over, and so is one that the kind has.
abbrev pub trait_step :
    Trees → Kind × List Skipped → List ℕ → Place → Trees → Option Trait →
    Result (Kind × List Skipped) RuleFault
trait_step top made key place fields None = Ok (made.0, passed made.1 place key)
trait_step top made key place fields (Some trait) =
    if has_trait made.0 trait then Ok (made.0, passed made.1 place key)
    else trait_joined top made place fields trait

-- The value of a trait's node is not looked at.
unfoldable pub trait_taken :
    Trees → Kind × List Skipped → (key value : List ℕ) → Place → Trees →
    Result (Kind × List Skipped) RuleFault
trait_taken top made key value place fields = trait_step top made key place fields (trait_of key)

-- A call fails with the fault of this outcome, or it is out of memory.
abbrev pub IsRuleFault : {A : Type 0} → RuleFault → Result A RuleFault → Type 0
IsRuleFault fault outcome = IsFault NoMemory fault outcome

-- A kind without traits.
abbrev pub plain_kind : List ℕ → Kind
plain_kind name =
    record {
      name = name;
      health = None;
      mobile = None;
      building = false;
      harvester = None;
      refinery = None;
      production = None;
      buildable = None;
      valued = None;
      armament = None;
      reveals = None;
    }

-- A kind with the traits below its node, where these nodes were passed over before.
abbrev pub kind_read :
    Trees → List ℕ → List Skipped → Trees → Result (Kind × List Skipped) RuleFault
kind_read top key skipped traits = each (trait_taken top) (plain_kind key, skipped) traits

-- A top-level node: a kind with its traits, or one that is only inherited.
unfoldable pub kind_taken :
    Trees → List Kind × List Skipped → (key value : List ℕ) → Place → Trees →
    Result (List Kind × List Skipped) RuleFault
kind_taken top made key value place traits =
    if is_kind key then
    (if nat_le MAX_KINDS (length made.0) then Err (TooManyKinds place)
    else kind_read top key made.1 traits >>= λ read. Ok (made.0 ++ read.0 ∷ [], read.1))
    else Ok made

-- The kinds of these nodes, and what is passed over in them.
abbrev pub kinds_read : Trees → Trees → Result (List Kind × List Skipped) RuleFault
kinds_read top nodes = each (kind_taken top) ([], []) nodes

-- The kinds of a forest in order and what is passed over in it in preorder, or its first fault in
-- preorder, where a trait's node comes before its fields.
unfoldable pub typed : Trees → Result (List Kind × List Skipped) RuleFault
typed top = kinds_read top top

-- The names of kinds, by their numbers.
abbrev pub names_of_kinds : List Kind → List (List ℕ)
names_of_kinds kinds = map (λ (kind : Kind). kind.name) kinds
