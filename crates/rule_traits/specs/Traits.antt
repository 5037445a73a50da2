-- The known traits, and which of them a kind has.
use Rattle.std.specs.Prelude.{ℕ, Bool, List, [], ◌∷◌, codes, is_some, Option, ◌==◌}
use Rattle.std.specs.List.{before_first, find}
use Rattle.std.specs.Str.{bytes_eq}
use Rattle.rule_traits.specs.declared.kind.Kind.{Kind}
use Rattle.rule_traits.specs.declared.traits.Trait.{Trait}
use Rattle.rule_traits.specs.declared.traits.Trait.TheVariants.{Health, Mobile, Building, Harvester}
use Rattle.rule_traits.specs.declared.traits.Trait.TheVariants.{Refinery, Production, Buildable}
use Rattle.rule_traits.specs.declared.traits.Trait.TheVariants.{Valued, Armament, RevealsShroud}

-- All traits, in the order of the table.
abbrev pub all_traits : List Trait
all_traits =
    Health ∷ Mobile ∷ Building ∷ Harvester ∷ Refinery
    ∷ Production ∷ Buildable ∷ Valued ∷ Armament ∷ RevealsShroud ∷ []

abbrev pub name_of : Trait → List ℕ
name_of Health = codes "Health"
name_of Mobile = codes "Mobile"
name_of Building = codes "Building"
name_of Harvester = codes "Harvester"
name_of Refinery = codes "Refinery"
name_of Production = codes "Production"
name_of Buildable = codes "Buildable"
name_of Valued = codes "Valued"
name_of Armament = codes "Armament"
name_of RevealsShroud = codes "RevealsShroud"

-- The kind has the trait.
abbrev pub has_trait : Kind → Trait → Bool
has_trait kind Health = is_some kind.health
has_trait kind Mobile = is_some kind.mobile
has_trait kind Building = kind.building
has_trait kind Harvester = is_some kind.harvester
has_trait kind Refinery = is_some kind.refinery
has_trait kind Production = is_some kind.production
has_trait kind Buildable = is_some kind.buildable
has_trait kind Valued = is_some kind.valued
has_trait kind Armament = is_some kind.armament
has_trait kind RevealsShroud = is_some kind.reveals

-- The trait of a key: the one whose name stands before the first `@` (64), or is the whole key.
unfoldable pub trait_of : List ℕ → Option Trait
trait_of key =
    find (λ trait. bytes_eq (name_of trait) (before_first (λ byte. byte == 64) key)) all_traits
