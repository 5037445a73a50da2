-- A bot orders in each world by its rule.
use Rattle.std.proofs.Common.{◌≡◌, ℕ, zero, suc, ◌+◌, ◌<◌, Bool, List, [], length}
use Rattle.std.proofs.Common.{refl, sym, ap, subst, ◌∙◌, lt-ltb}
use Rattle.std.specs.Prelude.{if◌then◌else◌}
use Rattle.std.proofs.lemmas.List.{length-map}
use Rattle.game_orders.specs.declared.order.Order.{Order}
use Rattle.game_orders.specs.declared.entry.Entry.{Entry as one_entry}
use Rattle.frame_core.specs.Fold.{folded}
use Rattle.frame_core.specs.Ready.{or_leave}
use Rattle.peer_core.specs.declared.arrived.Arrived.{Arrived}
use Rattle.peer_core.specs.Arrived.{each_of, frame_by}
use Rattle.match_net.specs.Plays.{own_orders}
use Rattle.match_net.specs.Stages.{bot_terms}
use Rattle.match_net.specs.WritesInTurn.{world_after, orders_by}

-- A frame has an entry of each client.
each_size : (arrived : List Arrived) (c more n : ℕ) → length (each_of arrived c more n) ≡ more
each_size arrived c zero n = refl
each_size arrived c (suc more) n = ap (λ (k : ℕ). suc k) (each_size arrived (c + 1) more n)

frame_size : (arrived : List Arrived) (clients n : ℕ) → length (frame_by arrived clients n) ≡
    clients
frame_size arrived clients n =
    length-map (each_of arrived 0 clients n) or_leave ∙ each_size arrived 0 clients n

-- Worlds keep their clients, where each step does.
worlds_have :
    {W : Type 0} (after : W → List one_entry → W) (clients_of : W → ℕ) (start : W) (clients : ℕ)
    (arrived : List Arrived) (n : ℕ) →
    ((w : W) (f : List one_entry) → length f ≡ clients_of w → clients_of (after w f) ≡ clients_of
    w) →
    clients_of start ≡ clients →
    clients_of (folded after start (λ k. frame_by arrived clients k) n) ≡ clients
worlds_have after clients_of start clients arrived zero keeps is = is
worlds_have after clients_of start clients arrived (suc n) keeps is =
    let so = worlds_have after clients_of start clients arrived n keeps is in
    keeps (folded after start (λ k. frame_by arrived clients k) n) (frame_by arrived clients n)
    (frame_size arrived clients n ∙ sym so)
    ∙ so

own_are :
    {W : Type 0} (clients_of : W → ℕ) (ordered : W → ℕ → List Order) (world : W) (client : ℕ) →
    client < clients_of world → own_orders clients_of ordered world client ≡ ordered world client
own_are clients_of ordered world client less =
    ap (λ (b : Bool). if b then ordered world client else []) (lt-ltb client (clients_of world)
    less)

pub bot_orders_are :
    {W : Type 0} (made : ℕ → ℕ → W) (after : W → List one_entry → W) (hash clients_of : W → ℕ)
    (ordered : W → ℕ → List Order) (rules frames : ℕ) (start : W) (client clients ticked n : ℕ)
    (arrived : List Arrived) →
    ((w : W) (f : List one_entry) → length f ≡ clients_of w → clients_of (after w f) ≡ clients_of
    w) →
    clients_of start ≡ clients → client < clients →
    orders_by (bot_terms made after hash clients_of ordered rules frames) start client clients
    arrived ticked n
    ≡ ordered (world_after (bot_terms made after hash clients_of ordered rules frames) start clients
    arrived ticked) client
bot_orders_are made after hash clients_of ordered rules frames start client clients ticked n arrived
    keeps is below =
    own_are clients_of ordered (folded after start (λ k. frame_by arrived clients k) ticked) client
    (subst (λ (k : ℕ). client < k)
    (sym (worlds_have after clients_of start clients arrived ticked keeps is)) below)
