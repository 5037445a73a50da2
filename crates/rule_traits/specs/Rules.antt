-- What a world asks of rules.
use Rattle.std.specs.Prelude.{ℕ, Bool, false, not, ◌&&◌, List, [], Option, Some, None, is_some}
use Rattle.std.specs.Prelude.{slice_get}
use Rattle.std.specs.List.{list_any, position_from}
use Rattle.std.specs.Str.{bytes_eq}
use Rattle.rule_traits.specs.declared.kind.Kind.{Kind}
use Rattle.rule_traits.specs.declared.trait_fields.Health.{Health}
use Rattle.rule_traits.specs.declared.trait_fields.Production.{Production}
use Rattle.rule_traits.specs.declared.trait_fields.Buildable.{Buildable}
use Rattle.rule_traits.specs.declared.trait_fields.Valued.{Valued}

-- The kind of a number.
abbrev pub kind_at : List Kind → ℕ → Option Kind
kind_at rules number = slice_get rules number

-- The least number of a kind of this name.
abbrev pub number_named : List Kind → List ℕ → Option ℕ
number_named rules name = position_from (λ (kind : Kind). bytes_eq kind.name name) 0 rules

-- A kind moves where it has Mobile and not Building.
abbrev pub moves : Kind → Bool
moves kind = is_some kind.mobile && not kind.building

-- Hit points at full health: 1 without Health.
abbrev pub full_health : Option Health → ℕ
full_health None = 1
full_health (Some health) = health.hp

abbrev pub hp_of : Kind → ℕ
hp_of kind = full_health kind.health

-- The price: 0 without Valued.
abbrev pub price : Option Valued → ℕ
price None = 0
price (Some valued) = valued.cost

abbrev pub cost_of : Kind → ℕ
cost_of kind = price kind.valued

-- The names of the queues that a kind produces: none without Production.
abbrev pub produced : Option Production → List (List ℕ)
produced None = []
produced (Some production) = production.produces

abbrev pub produces_of : Kind → List (List ℕ)
produces_of kind = produced kind.production

-- The names of the queues in which a kind is built: none without Buildable.
abbrev pub queued : Option Buildable → List (List ℕ)
queued None = []
queued (Some buildable) = buildable.queue

abbrev pub queue_of : Kind → List (List ℕ)
queue_of kind = queued kind.buildable

-- The name stands in the list.
abbrev pub is_listed : List (List ℕ) → List ℕ → Bool
is_listed names name = list_any (bytes_eq name) names

-- A name of the product's queues is one that the builder produces.
unfoldable pub can_build : Kind → Kind → Bool
can_build builder product = list_any (is_listed (produces_of builder)) (queue_of product)

abbrev pub builds_between : Option Kind → Option Kind → Bool
builds_between (Some builder) (Some product) = can_build builder product
builds_between (Some builder) None = false
builds_between None product = false

-- The same of two numbers. A number that is no kind's builds nothing, and is not built.
abbrev pub builds : List Kind → ℕ → ℕ → Bool
builds rules builder product = builds_between (kind_at rules builder) (kind_at rules product)
