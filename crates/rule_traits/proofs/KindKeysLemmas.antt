-- The kinds of typed rules are the top-level nodes that are kinds, in order.
use Rattle.std.proofs.Common.{◌≡◌, ℕ, Bool, true, false, cond, leb, List, [], ◌∷◌, ◌++◌, length}
use Rattle.std.proofs.Common.{refl, sym, ap, ◌∙◌, append-nil, append_assoc, Option, Some, None}
use Rattle.std.proofs.Common.{Result, Ok, Err, subst}
use Rattle.std.proofs.lemmas.List.{map-append}
use Rattle.std.proofs.lemmas.Result.{IfOk-weaker}
use Rattle.std.specs.Result.{IfOk}
use Rattle.base.specs.Steps.{◌>>=◌}
use Rattle.yaml_lines.specs.declared.place.Place.{Place}
use Rattle.yaml_lines.specs.Trees.{Trees, none, more}
use Rattle.rule_traits.specs.declared.fault.RuleFault.{RuleFault}
use Rattle.rule_traits.specs.declared.fault.RuleFault.TheVariants.{MissingField, TooManyKinds}
use Rattle.rule_traits.specs.declared.kind.Kind.{Kind}
use Rattle.rule_traits.specs.declared.skipped.Skipped.{Skipped}
use Rattle.rule_traits.specs.declared.traits.Trait.{Trait}
use Rattle.rule_traits.specs.declared.trait_value.TraitValue.{TraitValue}
use Rattle.rule_traits.specs.declared.trait_value.TraitValue.TheVariants.{Health, Mobile, Building}
use Rattle.rule_traits.specs.declared.trait_value.TraitValue.TheVariants.{Harvester, Refinery}
use Rattle.rule_traits.specs.declared.trait_value.TraitValue.TheVariants.{Production, Buildable}
use Rattle.rule_traits.specs.declared.trait_value.TraitValue.TheVariants.{Valued, Armament}
use Rattle.rule_traits.specs.declared.trait_value.TraitValue.TheVariants.{RevealsShroud}
use Rattle.rule_traits.specs.declared.TheConstants.{MAX_KINDS}
use Rattle.rule_traits.specs.Kinds.{is_kind, kind_keys}
use Rattle.rule_traits.specs.Traits.{has_trait, trait_of}
use Rattle.rule_traits.proofs.OutcomeLemmas.{either, followed, any_outcome}
use Rattle.rule_traits.specs.Typed.{each, passed, plain, field_taken, lacks_field, with_trait}
use Rattle.rule_traits.specs.Typed.{trait_joined, trait_step, trait_taken, plain_kind, kind_taken}
use Rattle.rule_traits.specs.Typed.{kinds_read, typed, names_of_kinds}

-- A kind keeps its name while its traits are read.
abbrev IsNamed : List ℕ → Kind × List Skipped → Type 0
IsNamed name made = made.0.name ≡ name

with_trait-name : (kind : Kind) (value : TraitValue) → (with_trait kind value).name ≡ kind.name
with_trait-name kind (Health t) = refl
with_trait-name kind (Mobile t) = refl
with_trait-name kind Building = refl
with_trait-name kind (Harvester t) = refl
with_trait-name kind (Refinery t) = refl
with_trait-name kind (Production t) = refl
with_trait-name kind (Buildable t) = refl
with_trait-name kind (Valued t) = refl
with_trait-name kind (Armament t) = refl
with_trait-name kind (RevealsShroud t) = refl

joined_named : (top : Trees) (made : Kind × List Skipped) (place : Place) (fields : Trees) (trait : Trait) (name : List ℕ) → IsNamed name made →
    IfOk (trait_joined top made place fields trait) (IsNamed name)
unfolding trait_joined
joined_named top made place fields trait name h =
    let read : Result (TraitValue × List Skipped) RuleFault = each (field_taken top) (plain trait, made.1) fields in
    let next : TraitValue × List Skipped → Result (Kind × List Skipped) RuleFault = λ read. Ok (with_trait made.0 read.0, read.1) in
    either (IsNamed name) (lacks_field trait fields) (Err (MissingField place)) (read >>= next) tt
    (followed (λ _. Unit {0}) (IsNamed name) read next (any_outcome read) (λ value _. with_trait-name made.0 value.0 ∙ h))

step_named : (top : Trees) (made : Kind × List Skipped) (key : List ℕ) (place : Place) (fields : Trees) (trait : Option Trait) (name : List ℕ) → IsNamed name made →
    IfOk (trait_step top made key place fields trait) (IsNamed name)
step_named top made key place fields None name h = h
step_named top made key place fields (Some trait) name h =
    either (IsNamed name) (has_trait made.0 trait) (Ok (made.0, passed made.1 place key)) (trait_joined top made place fields trait) h
    (joined_named top made place fields trait name h)

taken_named : (top : Trees) (made : Kind × List Skipped) (key value : List ℕ) (place : Place) (fields : Trees) (name : List ℕ) → IsNamed name made →
    IfOk (trait_taken top made key value place fields) (IsNamed name)
unfolding trait_taken
taken_named top made key value place fields name h = step_named top made key place fields (trait_of key) name h

traits_named : (top : Trees) (made : Kind × List Skipped) (list : Trees) (name : List ℕ) → IsNamed name made → IfOk (each (trait_taken top) made list) (IsNamed name)
traits_named top made none name h = h
traits_named top made (more key value place children rest) name h =
    followed (IsNamed name) (IsNamed name) (trait_taken top made key value place children) (λ next. each (trait_taken top) next rest)
    (taken_named top made key value place children name h) (λ next n. traits_named top next rest name n)

-- The key of one top-level node, where it is a kind.
abbrev own : Bool → List ℕ → List (List ℕ)
own kind key = cond kind (key ∷ []) []

own_first : (kind : Bool) (key : List ℕ) (keys : List (List ℕ)) → own kind key ++ keys ≡ cond kind (key ∷ keys) keys
own_first true key keys = refl
own_first false key keys = refl

one_kind : (kind : Bool) (top : Trees) (made : List Kind × List Skipped) (key : List ℕ) (place : Place) (traits : Trees) →
    IfOk
    (cond kind
    (cond (leb MAX_KINDS (length made.0)) (Err (TooManyKinds place))
    (each (trait_taken top) (plain_kind key, made.1) traits >>= λ read. Ok (made.0 ++ read.0 ∷ [], read.1)))
    (Ok made))
    (λ (next : List Kind × List Skipped). names_of_kinds next.0 ≡ names_of_kinds made.0 ++ own kind key)
one_kind true top made key place traits =
    let Next : List Kind × List Skipped → Type 0 = λ next. names_of_kinds next.0 ≡ names_of_kinds made.0 ++ key ∷ [] in
    let read : Result (Kind × List Skipped) RuleFault = each (trait_taken top) (plain_kind key, made.1) traits in
    let next : Kind × List Skipped → Result (List Kind × List Skipped) RuleFault = λ read. Ok (made.0 ++ read.0 ∷ [], read.1) in
    either Next (leb MAX_KINDS (length made.0)) (Err (TooManyKinds place)) (read >>= next) tt
    (followed (IsNamed key) Next read next (traits_named top (plain_kind key, made.1) traits key refl)
    (λ value n. map-append (λ (kind : Kind). kind.name) made.0 (value.0 ∷ []) ∙ ap (λ k. names_of_kinds made.0 ++ k ∷ []) n))
one_kind false top made key place traits = sym (append-nil (names_of_kinds made.0))

kind_named : (top : Trees) (made : List Kind × List Skipped) (key value : List ℕ) (place : Place) (traits : Trees) →
    IfOk (kind_taken top made key value place traits) (λ (next : List Kind × List Skipped). names_of_kinds next.0 ≡ names_of_kinds made.0 ++ own (is_kind key) key)
unfolding kind_taken
kind_named top made key value place traits = one_kind (is_kind key) top made key place traits

kinds_named : (top : Trees) (made : List Kind × List Skipped) (list : Trees) →
    IfOk (each (kind_taken top) made list) (λ (all : List Kind × List Skipped). names_of_kinds all.0 ≡ names_of_kinds made.0 ++ kind_keys list)
kinds_named top made none = sym (append-nil (names_of_kinds made.0))
kinds_named top made (more key value place children rest) =
    let first = own (is_kind key) key in
    followed (λ (next : List Kind × List Skipped). names_of_kinds next.0 ≡ names_of_kinds made.0 ++ first)
    (λ (all : List Kind × List Skipped). names_of_kinds all.0 ≡ names_of_kinds made.0 ++ kind_keys (more key value place children rest))
    (kind_taken top made key value place children) (λ next. each (kind_taken top) next rest)
    (kind_named top made key value place children)
    (λ next n. IfOk-weaker (each (kind_taken top) next rest) (λ (all : List Kind × List Skipped). names_of_kinds all.0 ≡ names_of_kinds next.0 ++ kind_keys rest)
    (λ (all : List Kind × List Skipped). names_of_kinds all.0 ≡ names_of_kinds made.0 ++ kind_keys (more key value place children rest))
    (λ all e. e
    ∙ ap (λ l. l ++ kind_keys rest) n
    ∙ append_assoc (names_of_kinds made.0) first (kind_keys rest)
    ∙ ap (λ l. names_of_kinds made.0 ++ l) (own_first (is_kind key) key (kind_keys rest)))
    (kinds_named top next rest))

pub typed_named : (top : Trees) → IfOk (typed top) (λ (made : List Kind × List Skipped). names_of_kinds made.0 ≡ kind_keys top)
unfolding typed
typed_named top = kinds_named top ([], []) top

-- The names of the kinds are the keys of their nodes.
pub keyed_kinds :
    (top : Trees) (kinds : List Kind) (skipped : List Skipped) → kinds_read top top ≡ Ok (kinds, skipped) →
    names_of_kinds kinds ≡ kind_keys top
unfolding typed
keyed_kinds top kinds skipped e =
    subst
    (λ (x : Result (List Kind × List Skipped) RuleFault).
    IfOk x (λ (all : List Kind × List Skipped). names_of_kinds all.0 ≡ kind_keys top)) e (typed_named top)
