-- The orders of the drafts are a bot's.
use Rattle.std.proofs.Common.{◌≡◌, Bool, true, false, cond, List, [], ◌∷◌, map, take, Option, Some, None, refl, sym, ap, ap₂, ◌∙◌}
use Rattle.std.specs.Prelude.{filter, filter_map, fold, option_map}
use Rattle.std.specs.List.{cons_option, take-map}
use Rattle.std.specs.Option.{option_or}
use Rattle.game_orders.specs.declared.limits.TheConstants.{MAX_ORDERS}
use Rattle.game_orders.specs.declared.order.Order.{Order}
use Rattle.game_model.specs.declared.actor.Actor.{Actor}
use Rattle.bot_player.specs.declared.draft.Draft.{Draft}
use Rattle.bot_player.specs.declared.draft.Draft.TheVariants.{Whole}
use Rattle.bot_player.specs.BotOrders.{bot_orders_by, harvest_order, is_own, order_for, produce_order}
use Rattle.bot_player.specs.Drafts.{attack_draft, draft_for, drafts_of, ordered, own_draft, shown}
use Rattle.bot_player.specs.Survey.{first_enemy, Sight}
use Rattle.bot_player.proofs.DraftLemmas.{attack_is, finished, finished_all, finished_whole}

-- The draft for an actor becomes its order.
order_is :
    (s : Sight) (a : Actor) →
    option_map (finished s.rules s.goods.actors s.c) (draft_for s a) ≡ order_for s.rules s.goods s.c a
order_is s a =
    at (produce_order s.rules s.goods s.c a) (harvest_order s.rules a)
    (attack_draft s.rules (first_enemy s.rules s.goods.actors s.c) a)
    ∙ ap (λ (o : Option Order). option_or (produce_order s.rules s.goods s.c a) (option_or (harvest_order s.rules a) o))
    (attack_is s.rules s.goods.actors s.c a)
  where
    at :
        (x y : Option Order) (z : Option Draft) →
        option_map (finished s.rules s.goods.actors s.c) (option_or (option_map Whole x) (option_or (option_map Whole y) z))
        ≡ option_or x (option_or y (option_map (finished s.rules s.goods.actors s.c) z))
    at (Some o) y z = ap (λ (q : Order). Some q) (finished_whole s.rules s.goods.actors s.c o)
    at None (Some o) z = ap (λ (q : Order). Some q) (finished_whole s.rules s.goods.actors s.c o)
    at None None z = refl

-- The same of all actors, of which the own ones get orders.
made_same :
    {X Y Z : Type 0} (h : Y → Z) (own : X → Bool) (draft : X → Option Y) (order : X → Option Z) (xs : List X) →
    ((x : X) → option_map h (draft x) ≡ order x) →
    map h (filter_map (λ (x : X). cond (own x) (draft x) None) xs) ≡ filter_map order (filter own xs)
made_same h own draft order [] same = refl
made_same {X} {Y} {Z} h own draft order (x ∷ xs) same =
    at (own x) (draft x) (same x) (made_same h own draft order xs same)
  where
    rest : List Y
    rest = filter_map (λ (y : X). cond (own y) (draft y) None) xs

    first : (d : Option Y) → map h (cons_option d rest) ≡ cons_option (option_map h d) (map h rest)
    first None = refl
    first (Some y) = refl

    at :
        (t : Bool) (d : Option Y) → option_map h d ≡ order x →
        map h rest ≡ filter_map order (filter own xs) →
        map h (cons_option (cond t d None) rest)
        ≡ filter_map order (cond t (x ∷ filter own xs) (filter own xs))
    at true d e later =
        first d ∙ ap₂ (λ (o : Option Z) (zs : List Z). cons_option o zs) e later
    at false d e later = later

-- The drafts, once all actors were shown to them, become a bot's orders.
pub orders_are :
    (s : Sight) →
    map ordered (fold (shown s.rules s.c) (drafts_of s) s.goods.actors)
    ≡ bot_orders_by s.rules s.goods s.c
unfolding bot_orders_by
orders_are s =
    finished_all s.rules s.c s.goods.actors (drafts_of s)
    ∙ sym (take-map (finished s.rules s.goods.actors s.c) MAX_ORDERS (filter_map (own_draft s) s.goods.actors))
    ∙ ap (take MAX_ORDERS)
    (made_same (finished s.rules s.goods.actors s.c) (is_own s.c) (draft_for s) (order_for s.rules s.goods s.c) s.goods.actors
    (order_is s))
