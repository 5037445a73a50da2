-- What a bot looks for among the actors.
use Rattle.std.specs.Prelude.{◌≡◌, ℕ, ◌<◌, Bool, List, length, find, fold, Option, option_map}
use Rattle.std.specs.Prelude.{IfSome}
use Rattle.rule_traits.specs.declared.kind.Kind.{Kind}
use Rattle.game_model.specs.declared.actor.Actor.{Actor}
use Rattle.game_tick.specs.Orders.{Goods}
use Rattle.bot_player.specs.declared.survey.Enemy.{Enemy}
use Rattle.bot_player.specs.BotOrders.{is_enemy, is_own}
use Rattle.bot_player.specs.KindFlags.{no_flags, with_flag}
use Rattle.bot_player.specs.Products.{first_product, least_ready, ProductState}

-- What a bot looks at: the rules, the actors and the cash of the clients, and which client it is.
pub record Sight : Type 0 where
  pub rules : List Kind
  pub goods : Goods
  pub c : ℕ

-- What of an actor is kept of an enemy.
abbrev pub enemy_of : Actor → Enemy
enemy_of x = record { id = x.id; cell = x.cell }

-- The first of the client's enemies, if it has one.
abbrev pub first_enemy : List Kind → List Actor → (c : ℕ) → Option Enemy
first_enemy rules actors c = option_map enemy_of (find (is_enemy rules c) actors)

-- The kinds of the client's living actors, with one actor more, and of all these.
abbrev pub owned_with : (c : ℕ) → List Bool → Actor → List Bool
owned_with c owned a = with_flag owned a.kind (is_own c a)

abbrev pub owned_of : (c : ℕ) → List Actor → List Bool
owned_of c actors = fold (owned_with c) no_flags actors

-- The products find for each kind of producer the least kind that is ready.
abbrev pub AreProductsOf : Sight → ProductState → Type 0
AreProductsOf s p =
    (builder : ℕ) → first_product p builder ≡ least_ready s.rules s.goods s.c builder

-- The client has cash, and what was looked for already was found.
pub record FitsSight (s : Sight) (products : Option ProductState) (first : Option (Option Enemy))
    : Type 0 where
  pub client : s.c < length s.goods.cash
  pub are_products : IfSome products (AreProductsOf s)
  pub is_first :
      IfSome first (λ (found : Option Enemy). found ≡ first_enemy s.rules s.goods.actors s.c)
