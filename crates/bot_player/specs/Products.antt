-- Which kinds a client can order to be produced now, whatever produces them.
use Rattle.std.specs.Prelude.{◌≡◌, ℕ, nat_le, ◌&&◌, Bool, false, List, length, find}
use Rattle.std.specs.Prelude.{Option, Some, None, slice_index}
use Rattle.std.specs.List.{list_all, range_with_len}
use Rattle.rule_traits.specs.declared.kind.Kind.{Kind}
use Rattle.rule_traits.specs.Rules.{builds, cost_of, kind_at}
use Rattle.game_model.specs.Kinds.{is_unit, kind_of, needs_in}
use Rattle.game_tick.specs.Orders.{Goods, has_needs}
use Rattle.bot_player.specs.KindFlags.{flag_of}

-- The kind is a unit, the client owns all that it needs, and has its price.
abbrev pub is_ready : (owned : List Bool) → (cash : ℕ) → Kind → Bool
is_ready owned cash product =
    is_unit product && list_all (flag_of owned) (needs_in product.buildable)
    && nat_le (cost_of product) cash

-- A number that is no kind's is not ready.
abbrev pub is_ready_at : (owned : List Bool) → (cash : ℕ) → Option Kind → Bool
is_ready_at owned cash (Some product) = is_ready owned cash product
is_ready_at owned cash None = false

-- The flags tell of each kind whether it is ready.
pub record AreReady (rules : List Kind) (owned : List Bool) (cash : ℕ) (ready : List Bool) : Type 0 where
  pub each : (k : ℕ) → flag_of ready k ≡ is_ready_at owned cash (kind_at rules k)

-- The rules, and which kinds are ready.
pub record ProductState : Type 0 where
  pub rules : List Kind
  pub ready : List Bool

-- The kind is ready, and actors of the other kind build it.
abbrev pub is_product : ProductState → (builder number : ℕ) → Bool
is_product p builder number = flag_of p.ready number && builds p.rules builder number

-- The least such kind.
abbrev pub first_product : ProductState → (builder : ℕ) → Option ℕ
first_product p builder = find (is_product p builder) (range_with_len 0 (length p.rules))

-- What makes a Produce of a kind fit, apart from the actor.
abbrev pub can_produce : List Kind → Goods → (c number : ℕ) → Bool
can_produce rules goods c number =
    let product = kind_of rules number in
    is_unit product && has_needs goods.actors c product
    && nat_le (cost_of product) (slice_index goods.cash c)

-- The least such kind that actors of the other kind build.
abbrev pub least_ready : List Kind → Goods → (c builder : ℕ) → Option ℕ
least_ready rules goods c builder =
    find (λ (number : ℕ). can_produce rules goods c number && builds rules builder number)
    (range_with_len 0 (length rules))
