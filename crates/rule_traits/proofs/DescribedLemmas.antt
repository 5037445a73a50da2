-- Typed rules are what the text describes.
use Rattle.std.proofs.Common.{◌≡◌, ℕ, ◌==◌, leb, length, Bool, true, false, cond, List, [], ◌∷◌}
use Rattle.std.proofs.Common.{◌++◌}
use Rattle.std.proofs.Common.{refl, sym, ◌∙◌, ap, subst, append-nil, append_assoc, is_some, Option}
use Rattle.std.proofs.Common.{Some, None, Result, Ok, Err}
use Rattle.std.proofs.lemmas.Result.{IfOk-weaker}
use Rattle.std.specs.List.{before_first, find}
use Rattle.std.specs.Option.{option_map, option_or}
use Rattle.std.specs.Result.{IfOk}
use Rattle.std.specs.Str.{bytes_eq}
use Rattle.base.specs.Steps.{◌>>=◌}
use Rattle.yaml_lines.specs.declared.place.Place.{Place}
use Rattle.yaml_lines.specs.Trees.{Trees, none, more}
use Rattle.rule_traits.specs.declared.fault.RuleFault.{RuleFault}
use Rattle.rule_traits.specs.declared.fault.RuleFault.TheVariants.{MissingField}
use Rattle.rule_traits.specs.declared.fault.RuleFault.TheVariants.{TooManyKinds}
use Rattle.rule_traits.specs.declared.kind.Kind.{Kind}
use Rattle.rule_traits.specs.declared.skipped.Skipped.{Skipped}
use Rattle.rule_traits.specs.declared.traits.Trait.{Trait}
use Rattle.rule_traits.specs.declared.traits.Trait.TheVariants as known
use Rattle.rule_traits.specs.declared.trait_value.TraitValue.{TraitValue}
use Rattle.rule_traits.specs.declared.TheConstants.{MAX_KINDS}
use Rattle.rule_traits.specs.Kinds.{is_kind}
use Rattle.rule_traits.specs.Traits.{all_traits, has_trait, name_of, trait_of}
use Rattle.rule_traits.specs.Described.{is_of, fields_of, kind_of, kinds_of, health_of}
use Rattle.rule_traits.specs.Described.{mobile_of, harvester_of, refinery_of, production_of}
use Rattle.rule_traits.specs.Described.{buildable_of, valued_of, armament_of, reveals_of}
use Rattle.rule_traits.specs.Typed.{each, passed, plain}
use Rattle.rule_traits.specs.Typed.{trait_read, lacks_field, with_trait, trait_joined, trait_step}
use Rattle.rule_traits.specs.Typed.{trait_taken, plain_kind, kind_read, kind_taken, kinds_read}
use Rattle.rule_traits.specs.Typed.{typed}
use Rattle.rule_traits.proofs.OutcomeLemmas.{either, followed}
use Rattle.rule_traits.proofs.FieldLemmas.{same_key, value_from, trait_described}

-- A kind with the traits of a list.
abbrev kind_from : Trees → Kind → Trees → Kind
kind_from top kind traits =
    record {
      name = kind.name;
      health = option_or kind.health (option_map health_of (fields_of known.Health traits));
      mobile = option_or kind.mobile (option_map mobile_of (fields_of known.Mobile traits));
      building = cond kind.building true (is_some (fields_of known.Building traits));
      harvester = option_or kind.harvester (option_map harvester_of (fields_of known.Harvester traits));
      refinery = option_or kind.refinery (option_map refinery_of (fields_of known.Refinery traits));
      production = option_or kind.production (option_map production_of (fields_of known.Production traits));
      buildable = option_or kind.buildable (option_map (buildable_of top) (fields_of known.Buildable traits));
      valued = option_or kind.valued (option_map valued_of (fields_of known.Valued traits));
      armament = option_or kind.armament (option_map armament_of (fields_of known.Armament traits));
      reveals = option_or kind.reveals (option_map reveals_of (fields_of known.RevealsShroud traits));
    }

-- A kind after one node, whose key has this before its first `@`.
abbrev kind_set : Trees → Kind → List ℕ → Trees → Kind
kind_set top kind part fields =
    record {
      name = kind.name;
      health = option_or kind.health (cond (bytes_eq (name_of known.Health) part) (Some (health_of fields)) None);
      mobile = option_or kind.mobile (cond (bytes_eq (name_of known.Mobile) part) (Some (mobile_of fields)) None);
      building = cond kind.building true (bytes_eq (name_of known.Building) part);
      harvester = option_or kind.harvester (cond (bytes_eq (name_of known.Harvester) part) (Some (harvester_of fields)) None);
      refinery = option_or kind.refinery (cond (bytes_eq (name_of known.Refinery) part) (Some (refinery_of fields)) None);
      production = option_or kind.production (cond (bytes_eq (name_of known.Production) part) (Some (production_of fields)) None);
      buildable = option_or kind.buildable (cond (bytes_eq (name_of known.Buildable) part) (Some (buildable_of top fields)) None);
      valued = option_or kind.valued (cond (bytes_eq (name_of known.Valued) part) (Some (valued_of fields)) None);
      armament = option_or kind.armament (cond (bytes_eq (name_of known.Armament) part) (Some (armament_of fields)) None);
      reveals = option_or kind.reveals (cond (bytes_eq (name_of known.RevealsShroud) part) (Some (reveals_of fields)) None);
    }

or_none : {A : Type 0} (held : Option A) → option_or held None ≡ held
or_none None = refl
or_none (Some a) = refl

or_first : {A : Type 0} (held : Option A) (a : A) → is_some held ≡ false → option_or held (Some a) ≡ Some a
or_first None a e = refl
or_first (Some b) a e = absurd (cc)

or_held : {A : Type 0} (held : Option A) (a : A) → is_some held ≡ true → option_or held (Some a) ≡ held
or_held None a e = absurd (cc)
or_held (Some b) a e = refl

true_or : (held : Bool) → cond held true false ≡ held
true_or true = refl
true_or false = refl

-- The next node of a trait stands before the others.
one_next :
    {A : Type 0} (of : Trees → A) (held : Option A) (test : Bool) (children : Trees) (later : Option Trees) →
    option_or (option_or held (cond test (Some (of children)) None)) (option_map of later)
    ≡ option_or held (option_map of (cond test (Some children) later))
one_next of (Some a) test children later = refl
one_next of None true children later = refl
one_next of None false children later = refl

flag_next :
    (held test : Bool) (children : Trees) (later : Option Trees) →
    cond (cond held true test) true (is_some later) ≡ cond held true (is_some (cond test (Some children) later))
flag_next true test children later = refl
flag_next false true children later = refl
flag_next false false children later = refl

kind_next :
    (top : Trees) (kind : Kind) (key value : List ℕ) (place : Place) (children rest : Trees) →
    kind_from top (kind_set top kind (before_first (λ byte. byte == 64) key) children) rest
    ≡ kind_from top kind (more key value place children rest)
kind_next top kind key value place children rest =
    let e0 = one_next health_of kind.health (is_of known.Health key) children (fields_of known.Health rest) in
    let e1 = one_next mobile_of kind.mobile (is_of known.Mobile key) children (fields_of known.Mobile rest) in
    let e2 = flag_next kind.building (is_of known.Building key) children (fields_of known.Building rest) in
    let e3 = one_next harvester_of kind.harvester (is_of known.Harvester key) children (fields_of known.Harvester rest) in
    let e4 = one_next refinery_of kind.refinery (is_of known.Refinery key) children (fields_of known.Refinery rest) in
    let e5 = one_next production_of kind.production (is_of known.Production key) children (fields_of known.Production rest) in
    let e6 = one_next (buildable_of top) kind.buildable (is_of known.Buildable key) children (fields_of known.Buildable rest) in
    let e7 = one_next valued_of kind.valued (is_of known.Valued key) children (fields_of known.Valued rest) in
    let e8 = one_next armament_of kind.armament (is_of known.Armament key) children (fields_of known.Armament rest) in
    let e9 = one_next reveals_of kind.reveals (is_of known.RevealsShroud key) children (fields_of known.RevealsShroud rest) in
    cc

abbrev kind_keep : Kind → Kind
kind_keep kind =
    record {
      name = kind.name;
      health = kind.health;
      mobile = kind.mobile;
      building = kind.building;
      harvester = kind.harvester;
      refinery = kind.refinery;
      production = kind.production;
      buildable = kind.buildable;
      valued = kind.valued;
      armament = kind.armament;
      reveals = kind.reveals;
    }

-- A node of a trait that the kind has changes nothing.
second_node :
    (top : Trees) (kind : Kind) (trait : Trait) (fields : Trees) → has_trait kind trait ≡ true →
    kind_keep kind ≡ kind_set top kind (name_of trait) fields
second_node top kind known.Health fields held =
    let e1 = or_none kind.mobile in
    let e2 = true_or kind.building in
    let e3 = or_none kind.harvester in
    let e4 = or_none kind.refinery in
    let e5 = or_none kind.production in
    let e6 = or_none kind.buildable in
    let e7 = or_none kind.valued in
    let e8 = or_none kind.armament in
    let e9 = or_none kind.reveals in
    let own = or_held kind.health (health_of fields) held in
    cc
second_node top kind known.Mobile fields held =
    let e0 = or_none kind.health in
    let e2 = true_or kind.building in
    let e3 = or_none kind.harvester in
    let e4 = or_none kind.refinery in
    let e5 = or_none kind.production in
    let e6 = or_none kind.buildable in
    let e7 = or_none kind.valued in
    let e8 = or_none kind.armament in
    let e9 = or_none kind.reveals in
    let own = or_held kind.mobile (mobile_of fields) held in
    cc
second_node top kind known.Building fields held =
    let e0 = or_none kind.health in
    let e1 = or_none kind.mobile in
    let e3 = or_none kind.harvester in
    let e4 = or_none kind.refinery in
    let e5 = or_none kind.production in
    let e6 = or_none kind.buildable in
    let e7 = or_none kind.valued in
    let e8 = or_none kind.armament in
    let e9 = or_none kind.reveals in
    let own = held in
    cc
second_node top kind known.Harvester fields held =
    let e0 = or_none kind.health in
    let e1 = or_none kind.mobile in
    let e2 = true_or kind.building in
    let e4 = or_none kind.refinery in
    let e5 = or_none kind.production in
    let e6 = or_none kind.buildable in
    let e7 = or_none kind.valued in
    let e8 = or_none kind.armament in
    let e9 = or_none kind.reveals in
    let own = or_held kind.harvester (harvester_of fields) held in
    cc
second_node top kind known.Refinery fields held =
    let e0 = or_none kind.health in
    let e1 = or_none kind.mobile in
    let e2 = true_or kind.building in
    let e3 = or_none kind.harvester in
    let e5 = or_none kind.production in
    let e6 = or_none kind.buildable in
    let e7 = or_none kind.valued in
    let e8 = or_none kind.armament in
    let e9 = or_none kind.reveals in
    let own = or_held kind.refinery (refinery_of fields) held in
    cc
second_node top kind known.Production fields held =
    let e0 = or_none kind.health in
    let e1 = or_none kind.mobile in
    let e2 = true_or kind.building in
    let e3 = or_none kind.harvester in
    let e4 = or_none kind.refinery in
    let e6 = or_none kind.buildable in
    let e7 = or_none kind.valued in
    let e8 = or_none kind.armament in
    let e9 = or_none kind.reveals in
    let own = or_held kind.production (production_of fields) held in
    cc
second_node top kind known.Buildable fields held =
    let e0 = or_none kind.health in
    let e1 = or_none kind.mobile in
    let e2 = true_or kind.building in
    let e3 = or_none kind.harvester in
    let e4 = or_none kind.refinery in
    let e5 = or_none kind.production in
    let e7 = or_none kind.valued in
    let e8 = or_none kind.armament in
    let e9 = or_none kind.reveals in
    let own = or_held kind.buildable (buildable_of top fields) held in
    cc
second_node top kind known.Valued fields held =
    let e0 = or_none kind.health in
    let e1 = or_none kind.mobile in
    let e2 = true_or kind.building in
    let e3 = or_none kind.harvester in
    let e4 = or_none kind.refinery in
    let e5 = or_none kind.production in
    let e6 = or_none kind.buildable in
    let e8 = or_none kind.armament in
    let e9 = or_none kind.reveals in
    let own = or_held kind.valued (valued_of fields) held in
    cc
second_node top kind known.Armament fields held =
    let e0 = or_none kind.health in
    let e1 = or_none kind.mobile in
    let e2 = true_or kind.building in
    let e3 = or_none kind.harvester in
    let e4 = or_none kind.refinery in
    let e5 = or_none kind.production in
    let e6 = or_none kind.buildable in
    let e7 = or_none kind.valued in
    let e9 = or_none kind.reveals in
    let own = or_held kind.armament (armament_of fields) held in
    cc
second_node top kind known.RevealsShroud fields held =
    let e0 = or_none kind.health in
    let e1 = or_none kind.mobile in
    let e2 = true_or kind.building in
    let e3 = or_none kind.harvester in
    let e4 = or_none kind.refinery in
    let e5 = or_none kind.production in
    let e6 = or_none kind.buildable in
    let e7 = or_none kind.valued in
    let e8 = or_none kind.armament in
    let own = or_held kind.reveals (reveals_of fields) held in
    cc

-- A node of a trait that the kind hasn't adds it.
first_node :
    (top : Trees) (kind : Kind) (trait : Trait) (fields : Trees) → has_trait kind trait ≡ false →
    with_trait (kind_keep kind) (value_from top (plain trait) fields) ≡ kind_set top kind (name_of trait) fields
first_node top kind known.Health fields held =
    let e1 = or_none kind.mobile in
    let e2 = true_or kind.building in
    let e3 = or_none kind.harvester in
    let e4 = or_none kind.refinery in
    let e5 = or_none kind.production in
    let e6 = or_none kind.buildable in
    let e7 = or_none kind.valued in
    let e8 = or_none kind.armament in
    let e9 = or_none kind.reveals in
    let own = or_first kind.health (health_of fields) held in
    cc
first_node top kind known.Mobile fields held =
    let e0 = or_none kind.health in
    let e2 = true_or kind.building in
    let e3 = or_none kind.harvester in
    let e4 = or_none kind.refinery in
    let e5 = or_none kind.production in
    let e6 = or_none kind.buildable in
    let e7 = or_none kind.valued in
    let e8 = or_none kind.armament in
    let e9 = or_none kind.reveals in
    let own = or_first kind.mobile (mobile_of fields) held in
    cc
first_node top kind known.Building fields held =
    let e0 = or_none kind.health in
    let e1 = or_none kind.mobile in
    let e3 = or_none kind.harvester in
    let e4 = or_none kind.refinery in
    let e5 = or_none kind.production in
    let e6 = or_none kind.buildable in
    let e7 = or_none kind.valued in
    let e8 = or_none kind.armament in
    let e9 = or_none kind.reveals in
    let own = held in
    cc
first_node top kind known.Harvester fields held =
    let e0 = or_none kind.health in
    let e1 = or_none kind.mobile in
    let e2 = true_or kind.building in
    let e4 = or_none kind.refinery in
    let e5 = or_none kind.production in
    let e6 = or_none kind.buildable in
    let e7 = or_none kind.valued in
    let e8 = or_none kind.armament in
    let e9 = or_none kind.reveals in
    let own = or_first kind.harvester (harvester_of fields) held in
    cc
first_node top kind known.Refinery fields held =
    let e0 = or_none kind.health in
    let e1 = or_none kind.mobile in
    let e2 = true_or kind.building in
    let e3 = or_none kind.harvester in
    let e5 = or_none kind.production in
    let e6 = or_none kind.buildable in
    let e7 = or_none kind.valued in
    let e8 = or_none kind.armament in
    let e9 = or_none kind.reveals in
    let own = or_first kind.refinery (refinery_of fields) held in
    cc
first_node top kind known.Production fields held =
    let e0 = or_none kind.health in
    let e1 = or_none kind.mobile in
    let e2 = true_or kind.building in
    let e3 = or_none kind.harvester in
    let e4 = or_none kind.refinery in
    let e6 = or_none kind.buildable in
    let e7 = or_none kind.valued in
    let e8 = or_none kind.armament in
    let e9 = or_none kind.reveals in
    let own = or_first kind.production (production_of fields) held in
    cc
first_node top kind known.Buildable fields held =
    let e0 = or_none kind.health in
    let e1 = or_none kind.mobile in
    let e2 = true_or kind.building in
    let e3 = or_none kind.harvester in
    let e4 = or_none kind.refinery in
    let e5 = or_none kind.production in
    let e7 = or_none kind.valued in
    let e8 = or_none kind.armament in
    let e9 = or_none kind.reveals in
    let own = or_first kind.buildable (buildable_of top fields) held in
    cc
first_node top kind known.Valued fields held =
    let e0 = or_none kind.health in
    let e1 = or_none kind.mobile in
    let e2 = true_or kind.building in
    let e3 = or_none kind.harvester in
    let e4 = or_none kind.refinery in
    let e5 = or_none kind.production in
    let e6 = or_none kind.buildable in
    let e8 = or_none kind.armament in
    let e9 = or_none kind.reveals in
    let own = or_first kind.valued (valued_of fields) held in
    cc
first_node top kind known.Armament fields held =
    let e0 = or_none kind.health in
    let e1 = or_none kind.mobile in
    let e2 = true_or kind.building in
    let e3 = or_none kind.harvester in
    let e4 = or_none kind.refinery in
    let e5 = or_none kind.production in
    let e6 = or_none kind.buildable in
    let e7 = or_none kind.valued in
    let e9 = or_none kind.reveals in
    let own = or_first kind.armament (armament_of fields) held in
    cc
first_node top kind known.RevealsShroud fields held =
    let e0 = or_none kind.health in
    let e1 = or_none kind.mobile in
    let e2 = true_or kind.building in
    let e3 = or_none kind.harvester in
    let e4 = or_none kind.refinery in
    let e5 = or_none kind.production in
    let e6 = or_none kind.buildable in
    let e7 = or_none kind.valued in
    let e8 = or_none kind.armament in
    let own = or_first kind.reveals (reveals_of fields) held in
    cc

-- What a search through the traits tells.
no_first :
    {A : Type 0} (test : Bool) (x : A) (later : Option A) → cond test (Some x) later ≡ None →
    (test ≡ false) × (later ≡ None)
no_first true x later e = absurd (cc)
no_first false x later e = (refl, e)

none_named :
    (part : List ℕ) → find (λ trait. bytes_eq (name_of trait) part) all_traits ≡ None →
    (bytes_eq (name_of known.Health) part ≡ false) ×
    (bytes_eq (name_of known.Mobile) part ≡ false) ×
    (bytes_eq (name_of known.Building) part ≡ false) ×
    (bytes_eq (name_of known.Harvester) part ≡ false) ×
    (bytes_eq (name_of known.Refinery) part ≡ false) ×
    (bytes_eq (name_of known.Production) part ≡ false) ×
    (bytes_eq (name_of known.Buildable) part ≡ false) ×
    (bytes_eq (name_of known.Valued) part ≡ false) ×
    (bytes_eq (name_of known.Armament) part ≡ false) ×
    (bytes_eq (name_of known.RevealsShroud) part ≡ false)
none_named part absent =
    let s0 = no_first (bytes_eq (name_of known.Health) part) known.Health _ absent in
    let s1 = no_first (bytes_eq (name_of known.Mobile) part) known.Mobile _ s0.1 in
    let s2 = no_first (bytes_eq (name_of known.Building) part) known.Building _ s1.1 in
    let s3 = no_first (bytes_eq (name_of known.Harvester) part) known.Harvester _ s2.1 in
    let s4 = no_first (bytes_eq (name_of known.Refinery) part) known.Refinery _ s3.1 in
    let s5 = no_first (bytes_eq (name_of known.Production) part) known.Production _ s4.1 in
    let s6 = no_first (bytes_eq (name_of known.Buildable) part) known.Buildable _ s5.1 in
    let s7 = no_first (bytes_eq (name_of known.Valued) part) known.Valued _ s6.1 in
    let s8 = no_first (bytes_eq (name_of known.Armament) part) known.Armament _ s7.1 in
    let s9 = no_first (bytes_eq (name_of known.RevealsShroud) part) known.RevealsShroud _ s8.1 in
    (s0.0, s1.0, s2.0, s3.0, s4.0, s5.0, s6.0, s7.0, s8.0, s9.0)

found_step :
    {A : Type 0} (p : A → Bool) (x t : A) (test : Bool) (later : Option A) → p x ≡ test →
    cond test (Some x) later ≡ Some t → (later ≡ Some t → p t ≡ true) → p t ≡ true
found_step p x t true later e h others = let same : x ≡ t = cc in subst (λ y. p y ≡ true) same e
found_step p x t false later e h others = others h

found_passes : {A : Type 0} (p : A → Bool) (xs : List A) (t : A) → find p xs ≡ Some t → p t ≡ true
found_passes p [] t e = absurd (cc)
found_passes p (x ∷ xs) t e = found_step p x t (p x) (find p xs) refl e (found_passes p xs t)

-- A node of no trait changes nothing.
no_node :
    (top : Trees) (kind : Kind) (part : List ℕ) (fields : Trees) →
    find (λ trait. bytes_eq (name_of trait) part) all_traits ≡ None → kind_keep kind ≡ kind_set top kind part fields
no_node top kind part fields absent =
    let n = none_named part absent in
    let f0 : bytes_eq (name_of known.Health) part ≡ false = n.0 in
    let f1 : bytes_eq (name_of known.Mobile) part ≡ false = n.1 in
    let f2 : bytes_eq (name_of known.Building) part ≡ false = n.2 in
    let f3 : bytes_eq (name_of known.Harvester) part ≡ false = n.3 in
    let f4 : bytes_eq (name_of known.Refinery) part ≡ false = n.4 in
    let f5 : bytes_eq (name_of known.Production) part ≡ false = n.5 in
    let f6 : bytes_eq (name_of known.Buildable) part ≡ false = n.6 in
    let f7 : bytes_eq (name_of known.Valued) part ≡ false = n.7 in
    let f8 : bytes_eq (name_of known.Armament) part ≡ false = n.8 in
    let f9 : bytes_eq (name_of known.RevealsShroud) part ≡ false = n.9 in
    let e0 = or_none kind.health in
    let e1 = or_none kind.mobile in
    let e2 = true_or kind.building in
    let e3 = or_none kind.harvester in
    let e4 = or_none kind.refinery in
    let e5 = or_none kind.production in
    let e6 = or_none kind.buildable in
    let e7 = or_none kind.valued in
    let e8 = or_none kind.armament in
    let e9 = or_none kind.reveals in
    cc

kind_end : (top : Trees) (kind : Kind) → kind_keep kind ≡ kind_from top kind none
kind_end top kind =
    let e0 = or_none kind.health in
    let e1 = or_none kind.mobile in
    let e2 = true_or kind.building in
    let e3 = or_none kind.harvester in
    let e4 = or_none kind.refinery in
    let e5 = or_none kind.production in
    let e6 = or_none kind.buildable in
    let e7 = or_none kind.valued in
    let e8 = or_none kind.armament in
    let e9 = or_none kind.reveals in
    cc

joined_described :
    (top : Trees) (made : Kind × List Skipped) (place : Place) (fields : Trees) (trait : Trait) →
    IfOk (trait_joined top made place fields trait)
    (λ next. next.0 ≡ with_trait made.0 (value_from top (plain trait) fields))
unfolding trait_joined
joined_described top made place fields trait =
    let Next : Kind × List Skipped → Type 0 = λ next. next.0 ≡ with_trait made.0 (value_from top (plain trait) fields) in
    let next : TraitValue × List Skipped → Result (Kind × List Skipped) RuleFault =
    λ read. Ok (with_trait made.0 read.0, read.1) in
    either Next (lacks_field trait fields) (Err (MissingField place)) (trait_read top trait made.1 fields >>= next) tt
    (followed (λ read. read.0 ≡ value_from top (plain trait) fields) Next (trait_read top trait made.1 fields) next
    (trait_described top trait made.1 fields) (λ read e. ap (with_trait made.0) e))

-- A node of a known trait, whether the kind has the trait or not.
node_described :
    (top : Trees) (made : Kind × List Skipped) (key : List ℕ) (place : Place) (fields : Trees) (trait : Trait) (held : Bool) →
    has_trait made.0 trait ≡ held →
    IfOk (cond held (Ok (made.0, passed made.1 place key)) (trait_joined top made place fields trait))
    (λ next. next.0 ≡ kind_set top made.0 (name_of trait) fields)
node_described top made key place fields trait true held = second_node top made.0 trait fields held
node_described top made key place fields trait false held =
    IfOk-weaker (trait_joined top made place fields trait)
    (λ next. next.0 ≡ with_trait made.0 (value_from top (plain trait) fields))
    (λ next. next.0 ≡ kind_set top made.0 (name_of trait) fields)
    (λ next e. e ∙ first_node top made.0 trait fields held) (joined_described top made place fields trait)

step_described :
    (top : Trees) (made : Kind × List Skipped) (key part : List ℕ) (place : Place) (fields : Trees) (found : Option Trait) →
    find (λ trait. bytes_eq (name_of trait) part) all_traits ≡ found →
    IfOk (trait_step top made key place fields found) (λ next. next.0 ≡ kind_set top made.0 part fields)
step_described top made key part place fields None e = no_node top made.0 part fields e
step_described top made key part place fields (Some trait) e =
    let named : bytes_eq (name_of trait) part ≡ true =
    found_passes (λ trait. bytes_eq (name_of trait) part) all_traits trait e in
    subst
    (λ part. IfOk (trait_step top made key place fields (Some trait)) (λ next. next.0 ≡ kind_set top made.0 part fields))
    (same_key (name_of trait) part named)
    (node_described top made key place fields trait (has_trait made.0 trait) refl)

taken_described :
    (top : Trees) (made : Kind × List Skipped) (key value : List ℕ) (place : Place) (fields : Trees) →
    IfOk (trait_taken top made key value place fields)
    (λ next. next.0 ≡ kind_set top made.0 (before_first (λ byte. byte == 64) key) fields)
unfolding trait_taken trait_of
taken_described top made key value place fields =
    step_described top made key (before_first (λ byte. byte == 64) key) place fields _ refl

traits_described :
    (top : Trees) (made : Kind × List Skipped) (list : Trees) →
    IfOk (each (trait_taken top) made list) (λ all. all.0 ≡ kind_from top made.0 list)
traits_described top made none = kind_end top made.0
traits_described top made (more key value place children rest) =
    followed (λ next. next.0 ≡ kind_set top made.0 (before_first (λ byte. byte == 64) key) children)
    (λ all. all.0 ≡ kind_from top made.0 (more key value place children rest))
    (trait_taken top made key value place children) (λ next. each (trait_taken top) next rest)
    (taken_described top made key value place children)
    (λ next e.
    IfOk-weaker (each (trait_taken top) next rest) (λ all. all.0 ≡ kind_from top next.0 rest)
    (λ all. all.0 ≡ kind_from top made.0 (more key value place children rest))
    (λ all same. same ∙ ap (λ k. kind_from top k rest) e ∙ kind_next top made.0 key value place children rest)
    (traits_described top next rest))

kind_described :
    (top : Trees) (key : List ℕ) (skipped : List Skipped) (traits : Trees) →
    IfOk (kind_read top key skipped traits) (λ made. made.0 ≡ kind_of top key traits)
kind_described top key skipped traits = traits_described top (plain_kind key, skipped) traits

-- The kind of one top-level node, where it is one.
abbrev own : Bool → Kind → List Kind
own kind described = cond kind (described ∷ []) []

own_first : (kind : Bool) (described : Kind) (kinds : List Kind) → own kind described ++ kinds ≡ cond kind (described ∷ kinds) kinds
own_first true described kinds = refl
own_first false described kinds = refl

one_described :
    (kind full : Bool) (top : Trees) (made : List Kind × List Skipped) (key : List ℕ) (place : Place) (traits : Trees) →
    IfOk
    (cond kind
    (cond full (Err (TooManyKinds place))
    (kind_read top key made.1 traits >>= λ read. Ok (made.0 ++ read.0 ∷ [], read.1)))
    (Ok made))
    (λ (next : List Kind × List Skipped). next.0 ≡ made.0 ++ own kind (kind_of top key traits))
one_described false full top made key place traits = sym (append-nil made.0)
one_described true true top made key place traits = tt
one_described true false top made key place traits =
    let next : Kind × List Skipped → Result (List Kind × List Skipped) RuleFault =
    λ read. Ok (made.0 ++ read.0 ∷ [], read.1) in
    followed (λ read. read.0 ≡ kind_of top key traits)
    (λ (next : List Kind × List Skipped). next.0 ≡ made.0 ++ kind_of top key traits ∷ [])
    (kind_read top key made.1 traits) next (kind_described top key made.1 traits)
    (λ read e. ap (λ k. made.0 ++ k ∷ []) e)

kind_taken_described :
    (top : Trees) (made : List Kind × List Skipped) (key value : List ℕ) (place : Place) (traits : Trees) →
    IfOk (kind_taken top made key value place traits)
    (λ (next : List Kind × List Skipped). next.0 ≡ made.0 ++ own (is_kind key) (kind_of top key traits))
unfolding kind_taken
kind_taken_described top made key value place traits =
    one_described (is_kind key) (leb MAX_KINDS (length made.0)) top made key place traits

kinds_described :
    (top : Trees) (made : List Kind × List Skipped) (list : Trees) →
    IfOk (each (kind_taken top) made list) (λ (all : List Kind × List Skipped). all.0 ≡ made.0 ++ kinds_of top list)
kinds_described top made none = sym (append-nil made.0)
kinds_described top made (more key value place children rest) =
    let first = own (is_kind key) (kind_of top key children) in
    followed (λ (next : List Kind × List Skipped). next.0 ≡ made.0 ++ first)
    (λ (all : List Kind × List Skipped). all.0 ≡ made.0 ++ kinds_of top (more key value place children rest))
    (kind_taken top made key value place children) (λ next. each (kind_taken top) next rest)
    (kind_taken_described top made key value place children)
    (λ next n.
    IfOk-weaker (each (kind_taken top) next rest)
    (λ (all : List Kind × List Skipped). all.0 ≡ next.0 ++ kinds_of top rest)
    (λ (all : List Kind × List Skipped). all.0 ≡ made.0 ++ kinds_of top (more key value place children rest))
    (λ all e. e
    ∙ ap (λ l. l ++ kinds_of top rest) n
    ∙ append_assoc made.0 first (kinds_of top rest)
    ∙ ap (λ l. made.0 ++ l) (own_first (is_kind key) (kind_of top key children) (kinds_of top rest)))
    (kinds_described top next rest))

typed_described : (top : Trees) → IfOk (typed top) (λ (made : List Kind × List Skipped). made.0 ≡ kinds_of top top)
unfolding typed
typed_described top = kinds_described top ([], []) top

-- The kinds of typed rules are those that the text describes.
pub described_kinds :
    (top : Trees) (kinds : List Kind) (skipped : List Skipped) → kinds_read top top ≡ Ok (kinds, skipped) →
    kinds ≡ kinds_of top top
unfolding typed
described_kinds top kinds skipped e =
    subst
    (λ (x : Result (List Kind × List Skipped) RuleFault).
    IfOk x (λ (all : List Kind × List Skipped). all.0 ≡ kinds_of top top)) e (typed_described top)
