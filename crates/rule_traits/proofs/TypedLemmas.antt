-- What typed rules keep, as the call that types a forest tells it.
use Rattle.std.proofs.Common.{◌≡◌, List, ◌∙◌, ap, subst, Ok}
use Rattle.yaml_lines.specs.declared.forest.Forest.{Forest}
use Rattle.yaml_lines.specs.Trees.{trees_of}
use Rattle.rule_traits.specs.declared.kind.Kind.{Kind}
use Rattle.rule_traits.specs.declared.skipped.Skipped.{Skipped}
use Rattle.rule_traits.specs.Described.{kinds_of}
use Rattle.rule_traits.specs.Kinds.{kind_keys}
use Rattle.rule_traits.specs.Typed.{kinds_read, names_of_kinds}
use Rattle.rule_traits.specs.ValidRules.{AreValidRules}
use Rattle.rule_traits.proofs.DescribedLemmas.{described_kinds}
use Rattle.rule_traits.proofs.KindKeysLemmas.{keyed_kinds}
use Rattle.rule_traits.proofs.ValidRulesLemmas.{valid_kinds}

-- The names of the kinds are those of the forest.
same_forest :
    (forest names : Forest) (kinds : List Kind) (skipped : List Skipped) → names ≡ forest →
    kinds_read (trees_of names) (trees_of forest) ≡ Ok (kinds, skipped) →
    kinds_read (trees_of forest) (trees_of forest) ≡ Ok (kinds, skipped)
same_forest forest names kinds skipped same read =
    subst (λ f. kinds_read (trees_of f) (trees_of forest) ≡ Ok (kinds, skipped)) same read

pub valid_told :
    (forest names : Forest) (kinds : List Kind) (skipped : List Skipped) → names ≡ forest →
    kinds_read (trees_of names) (trees_of forest) ≡ Ok (kinds, skipped) → AreValidRules kinds
valid_told forest names kinds skipped same read =
    valid_kinds (trees_of forest) kinds skipped (same_forest forest names kinds skipped same read)

pub keyed_told :
    (forest names : Forest) (kinds result : List Kind) (skipped : List Skipped) → result ≡ kinds → names ≡ forest →
    kinds_read (trees_of names) (trees_of forest) ≡ Ok (kinds, skipped) →
    names_of_kinds result ≡ kind_keys (trees_of forest)
keyed_told forest names kinds result skipped is same read =
    ap names_of_kinds is
    ∙ keyed_kinds (trees_of forest) kinds skipped (same_forest forest names kinds skipped same read)

pub described_told :
    (forest names : Forest) (kinds result : List Kind) (skipped : List Skipped) → result ≡ kinds → names ≡ forest →
    kinds_read (trees_of names) (trees_of forest) ≡ Ok (kinds, skipped) →
    result ≡ kinds_of (trees_of forest) (trees_of forest)
described_told forest names kinds result skipped is same read =
    is ∙ described_kinds (trees_of forest) kinds skipped (same_forest forest names kinds skipped same read)
