-- Proofs of what orders, turns and ticks keep, whatever world they are of.
use Rattle.std.specs.Prelude.{◌≡◌, ℕ, zero, suc, ◌+◌, Bool, true, false, if◌then◌else◌, List, []}
use Rattle.std.specs.Prelude.{◌∷◌, length, Option, Some, None, is_some, refl, slice_get, ◌⊎◌, ◌↔◌}
use Rattle.std.proofs.Common.{sym, ◌∙◌, ap, subst}
use Rattle.game_orders.specs.declared.order.Order.{Order}
use Rattle.game_orders.specs.declared.order.Order.TheVariants.{Move, Attack, Harvest, Stop, Produce}
use Rattle.game_orders.specs.declared.order.Order.TheVariants.{Cancel, Donate, Pace}
use Rattle.game_orders.specs.declared.entry.Entry.{Entry}
use Rattle.game_orders.specs.declared.entry.Entry.TheVariants.{Play, Leave}
use Rattle.rule_traits.specs.Rules.{cost_of}
use Rattle.game_model.specs.declared.actor.Actor.{Actor}
use Rattle.game_model.specs.declared.builds.Build.{Build}
use Rattle.game_model.specs.declared.world.World.{World}
use Rattle.game_model.specs.ActorChanges.{changed_at}
use Rattle.game_model.specs.Setup.{Setup}
use Rattle.game_model.specs.World.{ids_of}
use Rattle.game_model.specs.Kinds.{kind_of}
use Rattle.game_model.specs.Flags.{is_gone}
use Rattle.game_tick.specs.Building.{with_builds}
use Rattle.game_tick.specs.Departures.{with_departures}
use Rattle.game_tick.specs.Harvesting.{paid_to}
use Rattle.game_tick.specs.Keeps.{KeepsCash, OrdersKeep, TickKeeps}
use Rattle.game_tick.specs.Orders.{Doing, after_cancel, after_order, after_produce, attacking}
use Rattle.game_tick.specs.Orders.{but_last, cancelled, changed_if, harvesting, last_of, moving}
use Rattle.game_tick.specs.Orders.{own_of, produce_fits, produced, stopping, with_order, goods_of}
use Rattle.game_tick.specs.Orders.{with_goods, after_orders, donation_fits, pace_fits}
use Rattle.game_tick.specs.Orders.{after_donation}
use Rattle.game_tick.specs.Tick.{after_entries, after_entry, after_turns, tick_of, with_orders}
use Rattle.game_tick.specs.Turn.{after_turn}
use Rattle.game_tick.proofs.CashLemmas.{same_cash, then_cash, price_keeps, paid_keeps, donated_keeps}
use Rattle.game_tick.proofs.DeparturesLemmas.{gone_after_tells, length-gone_after}
use Rattle.game_tick.proofs.StepKeepsLemmas.{steps_keep}

pub then_keep : (a b c : World) → OrdersKeep a b → OrdersKeep b c → OrdersKeep a c
then_keep a b c first second =
    record {
      seed = second.seed ∙ first.seed;
      cash = then_cash a.cash b.cash c.cash first.cash second.cash;
      gone = second.gone ∙ first.gone;
    }

-- Only actors and cash have changed.
keeps_with :
    (w : World) (actors : List Actor) (cash : List ℕ) → KeepsCash w.cash cash →
    OrdersKeep w (record w { actors = actors; cash = cash })
keeps_with w actors cash keeps = record { seed = refl; cash = keeps; gone = refl }

same_world : (w : World) → OrdersKeep w w
same_world w = keeps_with w w.actors w.cash (same_cash w.cash)

produced_keeps :
    (fits : Bool) (setup : Setup) (w : World) (client number : ℕ) (a : Actor) →
    OrdersKeep w
    (with_goods w (if fits then produced setup.rules (goods_of w) client number a else goods_of w))
produced_keeps true setup w client number a =
    keeps_with w (produced setup.rules (goods_of w) client number a).actors
    (produced setup.rules (goods_of w) client number a).cash
    (price_keeps w.cash client (cost_of (kind_of setup.rules number)))
produced_keeps false setup w client number a = same_world w

produce_keeps :
    (setup : Setup) (w : World) (client number : ℕ) (found : Option Actor) →
    OrdersKeep w (after_produce setup w client number found)
produce_keeps setup w client number None = same_world w
produce_keeps setup w client number (Some a) =
    produced_keeps (produce_fits setup.rules (goods_of w) client number a) setup w client number a

cancelled_keeps :
    (setup : Setup) (w : World) (client : ℕ) (a : Actor) (last : Option Build) →
    OrdersKeep w (with_goods w (cancelled setup.rules (goods_of w) client a last))
cancelled_keeps setup w client a None = same_world w
cancelled_keeps setup w client a (Some build) =
    keeps_with w (changed_at w.actors a.id (with_builds (but_last a.body.builds)))
    (paid_to w.cash client (cost_of (kind_of setup.rules build.kind)))
    (paid_keeps w.cash client (cost_of (kind_of setup.rules build.kind)))

cancel_by :
    (can : Bool) (setup : Setup) (w : World) (client : ℕ) (a : Actor) →
    OrdersKeep w
    (with_goods w
    (if can then cancelled setup.rules (goods_of w) client a (last_of a.body.builds) else
    goods_of w))
cancel_by true setup w client a = cancelled_keeps setup w client a (last_of a.body.builds)
cancel_by false setup w client a = same_world w

cancel_keeps :
    (setup : Setup) (w : World) (client : ℕ) (found : Option Actor) →
    OrdersKeep w (after_cancel setup w client found)
cancel_keeps setup w client None = same_world w
cancel_keeps setup w client (Some a) =
    cancel_by (is_some (kind_of setup.rules a.kind).production) setup w client a

with_order_keeps :
    (setup : Setup) (w : World) (client id : ℕ) (doing : Doing) →
    OrdersKeep w (with_order setup w client id doing)
with_order_keeps setup w client id doing =
    keeps_with w (changed_if setup.rules w.actors doing (own_of w.actors client id)) w.cash
    (same_cash w.cash)

either_keeps :
    (fits : Bool) (w v : World) → (fits ≡ true → OrdersKeep w v) →
    OrdersKeep w (if fits then v else w)
either_keeps true w v keeps = keeps refl
either_keeps false w v keeps = same_world w

-- A donation that fits only moves cash.
donation_keeps :
    (w : World) (client to amount : ℕ) → donation_fits w client to amount ≡ true →
    OrdersKeep w (after_donation w client to amount)
donation_keeps w client to amount fits =
    keeps_with w w.actors (after_donation w client to amount).cash
    (donated_keeps w client to amount fits)

pub order_keeps :
    (setup : Setup) (w : World) (client : ℕ) (order : Order) →
    OrdersKeep w (after_order setup w client order)
order_keeps setup w client (Move actor cell queued) =
    with_order_keeps setup w client actor (moving setup cell queued)
order_keeps setup w client (Attack actor target queued) =
    with_order_keeps setup w client actor (attacking setup w.actors target queued)
order_keeps setup w client (Harvest actor cell queued) =
    with_order_keeps setup w client actor (harvesting setup cell queued)
order_keeps setup w client (Stop actor) = with_order_keeps setup w client actor stopping
order_keeps setup w client (Produce actor kind) =
    produce_keeps setup w client kind (own_of w.actors client actor)
order_keeps setup w client (Cancel actor) =
    cancel_keeps setup w client (own_of w.actors client actor)
order_keeps setup w client (Donate to amount) =
    either_keeps (donation_fits w client to amount) w (after_donation w client to amount)
    (donation_keeps w client to amount)
order_keeps setup w client (Pace ticks) =
    either_keeps (pace_fits client ticks) w (record w { pace = ticks })
    (λ fits. record { seed = refl; cash = same_cash w.cash; gone = refl })

-- What a turn keeps, and that it makes no ore.
pub turn_keeps : (setup : Setup) (w : World) → OrdersKeep w (after_turn setup w)
unfolding after_turn
turn_keeps setup w =
    let steps = steps_keep setup w (ids_of w.actors) in
    record { seed = steps.seed; cash = steps.cash; gone = steps.gone }

turns_keep : (setup : Setup) (turns : ℕ) (w : World) → OrdersKeep w (after_turns setup turns w)
turns_keep setup zero w = record { seed = refl; cash = same_cash w.cash; gone = refl }
turns_keep setup (suc more) w =
    then_keep w (after_turn setup w) (after_turns setup more (after_turn setup w))
    (turn_keeps setup w)
    (turns_keep setup more (after_turn setup w))

orders_keep :
    (setup : Setup) (w : World) (client : ℕ) (orders : List Order) →
    OrdersKeep w (after_orders setup w client orders)
orders_keep setup w client [] = record { seed = refl; cash = same_cash w.cash; gone = refl }
orders_keep setup w client (order ∷ orders) =
    then_keep w (after_order setup w client order)
    (after_orders setup (after_order setup w client order) client orders)
    (order_keeps setup w client order)
    (orders_keep setup (after_order setup w client order) client orders)

pub entry_keeps :
    (setup : Setup) (w : World) (client : ℕ) (entry : Entry) →
    OrdersKeep w (after_entry setup w client entry)
entry_keeps setup w client (Play orders) = orders_keep setup w client orders
entry_keeps setup w client Leave = record { seed = refl; cash = same_cash w.cash; gone = refl }

entries_keep :
    (setup : Setup) (c : ℕ) (w : World) (entries : List Entry) →
    OrdersKeep w (after_entries setup c w entries)
entries_keep setup c w [] = record { seed = refl; cash = same_cash w.cash; gone = refl }
entries_keep setup c w (entry ∷ entries) =
    then_keep w (after_entry setup w c entry)
    (after_entries setup (c + 1) (after_entry setup w c entry) entries)
    (entry_keeps setup w c entry)
    (entries_keep setup (c + 1) (after_entry setup w c entry) entries)

-- What a tick keeps.
pub tick_keeps :
    (setup : Setup) (w : World) (frame : List Entry) → TickKeeps w frame (tick_of setup w frame)
tick_keeps setup w frame =
    let departed : World = with_departures w frame in
    let ordered : World = with_orders setup departed frame in
    let same : OrdersKeep departed (tick_of setup w frame) =
    then_keep departed ordered (tick_of setup w frame) (entries_keep setup 0 departed frame)
    (turns_keep setup w.pace ordered) in
    let P : List Bool → Type 0 =
    λ flags. (c : ℕ) →
    (is_gone flags c ≡ true) ↔ ((is_gone w.gone c ≡ true) ⊎ (slice_get frame c ≡ Some Leave)) in
    record {
      seed = same.seed;
      cash = same.cash;
      flags = ap length same.gone ∙ length-gone_after w.gone frame;
      gone = subst P (sym same.gone) (gone_after_tells w.gone frame);
    }
