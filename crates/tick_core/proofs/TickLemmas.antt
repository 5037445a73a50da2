-- How a tick goes on from one client of a frame to the next, and from one order to the next.
use Rattle.std.proofs.Common.{◌≡◌, ℕ, zero, suc, ◌+◌, Bool, true, List, [], ◌∷◌, length, drop, take}
use Rattle.std.proofs.Common.{refl, ap, ap₂, sym, ◌<◌, ◌≤◌, ◌-◌, ◌*◌, ◌%◌, ◌^◌, ◌∙◌, add-one, arith}
use Rattle.std.proofs.Math.ListN.{set}
use Rattle.std.proofs.lemmas.List.{length-set}
use Rattle.std.proofs.lemmas.List.Sums.{sum_by-cons}
use Rattle.std.specs.Prelude.{Some, slice_get}
use Rattle.std.specs.List.{sum_by}
use Rattle.game_orders.specs.declared.order.Order.{Order}
use Rattle.game_orders.specs.declared.entry.Entry.{Entry}
use Rattle.game_orders.specs.declared.entry.Entry.TheVariants.{Play, Leave}
use Rattle.game_model.specs.declared.actor.Actor.{Actor}
use Rattle.game_model.specs.declared.world.World.{World}
use Rattle.game_tick.proofs.KeepsLemmas.{entry_keeps, order_keeps}
use Rattle.game_model.specs.World.{clients_of, ids_of}
use Rattle.game_tick.specs.Orders.{after_order, after_orders}
use Rattle.game_tick.specs.Tick.{after_entry, after_entries, after_turns, with_orders}
use Rattle.game_tick.specs.Turn.{after_turn}
use Rattle.tick_core.specs.Departures.{departed_by}
use Rattle.game_tick.proofs.StepKeepsLemmas.{steps_keep}
use Rattle.game_tick.proofs.OrdersLemmas.{order_valid}
use Rattle.game_tick.proofs.TickLemmas.{entry_valid}
use Rattle.game_model.specs.declared.limits.TheConstants.{MAX_ACTORS}
use Rattle.game_model.specs.Setup.{Setup}
use Rattle.game_tick.specs.Departures.{gone_by, gone_after}
use Rattle.sync_hash.specs.Kept.{actor_number}
use Rattle.tick_core.specs.Live.{Standing}
use Rattle.tick_core.specs.Ordered.{IsReady}

-- A valid world is valid at its own tick and draws.
pub ready_now : (setup : Setup) (before w : World) → IsReady setup before w → IsReady setup w w
ready_now setup before w valid =
    record {
      ore = valid.ore;
      least_tick = omega arith;
      most_tick = omega arith;
      drawn = omega arith;
      pace = valid.pace;
      clients = valid.clients;
      cash = valid.cash;
      actors = valid.actors;
      health = valid.health;
    }

-- A turn counts one tick, and draws once for each actor at most.
pub turn_tick : (setup : Setup) (w : World) → (after_turn setup w).tick ≡ w.tick + 1
unfolding after_turn
turn_tick setup w = ap (λ n. n + 1) (steps_keep setup w (ids_of w.actors)).tick

-- The element at n begins what is left from n on.
pub drop_at : {A : Type 0} (xs : List A) (n : ℕ) (x : A) → slice_get xs n ≡ Some x → drop n xs ≡ x ∷ drop (suc n) xs
drop_at [] n x at = absurd cc
drop_at (y ∷ xs) zero x at = let same : y ≡ x = cc in ap (λ z. z ∷ xs) same
drop_at (y ∷ xs) (suc n) x at = drop_at xs n x at

-- The number of the next actor is added, and those of the rest after it.
pub sum_next :
    (actors : List Actor) (i sum total : ℕ) (a : Actor) → slice_get actors i ≡ Some a →
    (sum + sum_by actor_number (drop i actors)) % 2 ^ 64 ≡ total →
    ((sum + actor_number a) % 2 ^ 64 + sum_by actor_number (drop (i + 1) actors)) % 2 ^ 64 ≡ total
sum_next actors i sum total a at so_far =
    let split : sum_by actor_number (drop i actors) ≡ actor_number a + sum_by actor_number (drop (i + 1) actors) =
    ap (sum_by actor_number) (drop_at actors i a at) ∙ sum_by-cons actor_number a (drop (suc i) actors)
    ∙ ap (λ k. actor_number a + sum_by actor_number (drop k actors)) (sym (add-one i)) in
    omega (arith, so_far, split)

-- The next order is applied, and the rest after it.
order_next :
    (setup : Setup) (w : World) (client i : ℕ) (orders : List Order) (order : Order) → slice_get orders i ≡ Some order →
    after_orders setup (after_order setup w client order) client (drop (i + 1) orders) ≡ after_orders setup w client (drop i orders)
order_next setup w client i orders order at = rw (add-one, drop_at orders i order at) refl

-- The entry of the next client is applied, and those of the clients after it.
entry_next :
    (setup : Setup) (w : World) (c : ℕ) (frame : List Entry) (entry : Entry) → slice_get frame c ≡ Some entry →
    after_entries setup (c + 1) (after_entry setup w c entry) (drop (c + 1) frame) ≡ after_entries setup c w (drop c frame)
entry_next setup w c frame entry at =
    rw (drop_at frame c entry at) (ap (λ n. after_entries setup (c + 1) (after_entry setup w c entry) (drop n frame)) (add-one c))

-- Past the end nothing is left.
pub drop_past : {A : Type 0} (xs : List A) (n : ℕ) → length xs ≤ n → drop n xs ≡ []
drop_past [] zero past = refl
drop_past [] (suc n) past = refl
drop_past (x ∷ xs) zero past = absurd (omega arith)
drop_past (x ∷ xs) (suc n) past = drop_past xs n (omega arith)

-- What stands on the same, with this world.
abbrev pub the_standing : Setup → World → Standing
the_standing setup world = record { setup = setup; world = world }

-- The first orders of a client were applied.
pub record OrderedSoFar (start now : Standing) (client : ℕ) (orders : List Order) (i : ℕ) : Type 0 where
  pub setup : now.setup ≡ start.setup
  pub rest : after_orders now.setup now.world client (drop i orders) ≡ after_orders now.setup start.world client orders
  pub clients : clients_of now.world ≡ clients_of start.world
  pub ready : IsReady now.setup start.world now.world

pub ordered_next :
    (start now new : Standing) (client i : ℕ) (orders : List Order) (order : Order) → slice_get orders i ≡ Some order →
    new ≡ record now { world = after_order now.setup now.world client order } →
    OrderedSoFar start now client orders i → OrderedSoFar start new client orders (i + 1)
ordered_next start now new client i orders order at is far =
    rw is (record {
      setup = far.setup;
      rest = order_next now.setup now.world client i orders order at ∙ far.rest;
      clients = (order_keeps now.setup now.world client order).cash.clients ∙ far.clients;
      ready = order_valid now.setup 0 start.world.tick start.world.drawn now.world client order far.ready;
    })

pub ordered_all :
    (start now : Standing) (client i : ℕ) (orders : List Order) → length orders ≤ i →
    OrderedSoFar start now client orders i →
    now ≡ record start { world = after_orders start.setup start.world client orders }
ordered_all start now client i orders past far =
    ap₂ the_standing far.setup
    (sym (ap (after_orders now.setup now.world client) (drop_past orders i past)) ∙ far.rest
    ∙ ap (λ s. after_orders s start.world client orders) far.setup)

-- The entries of the first clients were applied.
pub record EnteredSoFar (start now : Standing) (frame : List Entry) (c : ℕ) : Type 0 where
  pub setup : now.setup ≡ start.setup
  pub rest : after_entries now.setup c now.world (drop c frame) ≡ after_entries now.setup 0 start.world frame
  pub clients : clients_of now.world ≡ clients_of start.world
  pub ready : IsReady now.setup start.world now.world

pub entered_next :
    (start now new : Standing) (c : ℕ) (frame : List Entry) (entry : Entry) → slice_get frame c ≡ Some entry →
    new ≡ record now { world = after_entry now.setup now.world c entry } →
    EnteredSoFar start now frame c → EnteredSoFar start new frame (c + 1)
entered_next start now new c frame entry at is far =
    rw is (record {
      setup = far.setup;
      rest = entry_next now.setup now.world c frame entry at ∙ far.rest;
      clients = (entry_keeps now.setup now.world c entry).cash.clients ∙ far.clients;
      ready = entry_valid now.setup 0 start.world.tick start.world.drawn now.world c entry far.ready;
    })

pub entered_all :
    (start now : Standing) (c : ℕ) (frame : List Entry) → length frame ≤ c → EnteredSoFar start now frame c →
    now ≡ record start { world = with_orders start.setup start.world frame }
entered_all start now c frame past far =
    ap₂ the_standing far.setup
    (sym (ap (after_entries now.setup c now.world) (drop_past frame c past)) ∙ far.rest
    ∙ ap (λ s. after_entries s 0 start.world frame) far.setup)

-- A frame without entries changes no flag.
pub gone_after-nil : (flags : List Bool) → gone_after flags [] ≡ flags
gone_after-nil [] = refl
gone_after-nil (before ∷ flags) = refl

-- After a Leave of client c, its flag is set.
leave_next :
    (flags : List Bool) (frame : List Entry) (c : ℕ) → length frame ≡ length flags → slice_get frame c ≡ Some Leave →
    set (gone_after flags (take c frame)) c true ≡ gone_after flags (take (suc c) frame)
leave_next flags [] c same at = absurd cc
leave_next [] (entry ∷ entries) c same at = absurd cc
leave_next (before ∷ flags) (entry ∷ entries) zero same at =
    let leaves : entry ≡ Leave = cc in
    ap (λ rest. true ∷ rest) (sym (gone_after-nil flags)) ∙ ap (λ e. gone_by before e ∷ gone_after flags []) (sym leaves)
leave_next (before ∷ flags) (entry ∷ entries) (suc c) same at =
    ap (λ rest. gone_by before entry ∷ rest) (leave_next flags entries c (omega arith) at)

-- After a play of client c, the flags are as before.
play_next :
    (flags : List Bool) (frame : List Entry) (c : ℕ) (orders : List Order) → length frame ≡ length flags →
    slice_get frame c ≡ Some (Play orders) → gone_after flags (take c frame) ≡ gone_after flags (take (suc c) frame)
play_next flags [] c orders same at = absurd cc
play_next [] (entry ∷ entries) c orders same at = absurd cc
play_next (before ∷ flags) (entry ∷ entries) zero orders same at =
    let plays : entry ≡ Play orders = cc in
    ap (λ rest. before ∷ rest) (sym (gone_after-nil flags)) ∙ ap (λ e. gone_by before e ∷ gone_after flags []) (sym plays)
play_next (before ∷ flags) (entry ∷ entries) (suc c) orders same at =
    ap (λ rest. gone_by before entry ∷ rest) (play_next flags entries c orders (omega arith) at)

-- The entry of client c goes on from the flags after the entries before it.
pub departed_next :
    (flags : List Bool) (frame : List Entry) (c : ℕ) (entry : Entry) → length frame ≡ length flags →
    slice_get frame c ≡ Some entry →
    departed_by (gone_after flags (take c frame)) c entry ≡ gone_after flags (take (c + 1) frame)
departed_next flags frame c (Play orders) same at =
    rw add-one (play_next flags frame c orders same at)
departed_next flags frame c Leave same at = rw add-one (leave_next flags frame c same at)

-- An entry changes no number of flags.
pub length-departed_by : (flags : List Bool) (c : ℕ) (entry : Entry) → length (departed_by flags c entry) ≡ length flags
length-departed_by flags c (Play orders) = refl
length-departed_by flags c Leave = length-set flags c true

-- One turn more.
turn_next :
    (setup : Setup) (turns k : ℕ) (w : World) → k < turns →
    after_turns setup (turns - (k + 1)) (after_turn setup w) ≡ after_turns setup (turns - k) w
turn_next setup turns k w below = by_count (turns - k) (turns - (k + 1)) (omega arith) where
  by_count : (more less : ℕ) → more ≡ suc less → after_turns setup less (after_turn setup w) ≡ after_turns setup more w
  by_count more less same = rw same refl

-- The first turns were run.
pub record TurnedSoFar (start now : Standing) (turns k : ℕ) : Type 0 where
  pub setup : now.setup ≡ start.setup
  pub rest : after_turns now.setup (turns - k) now.world ≡ after_turns now.setup turns start.world
  pub room : now.world.tick + (turns - k) < 2 ^ 32
  pub draws : now.world.drawn + 2 ^ 12 * (turns - k) < 2 ^ 64

pub turned_next :
    (start now new : Standing) (turns k : ℕ) → k < turns →
    new ≡ record now { world = after_turn now.setup now.world } →
    new.world.drawn ≤ now.world.drawn + MAX_ACTORS → TurnedSoFar start now turns k →
    TurnedSoFar start new turns (k + 1)
turned_next start now new turns k below is few far =
    let drawn : (after_turn now.setup now.world).drawn ≤ now.world.drawn + MAX_ACTORS = rw is at few in
    let tick : (after_turn now.setup now.world).tick ≡ now.world.tick + 1 = turn_tick now.setup now.world in
    rw is (record {
      setup = far.setup;
      rest = turn_next now.setup turns k now.world below ∙ far.rest;
      room = omega (arith, far.room, tick);
      draws = omega (arith, far.draws, drawn);
    })

pub turned_all :
    (start now : Standing) (turns k : ℕ) → turns ≤ k → TurnedSoFar start now turns k →
    now ≡ record start { world = after_turns start.setup turns start.world }
turned_all start now turns k past far =
    let none : turns - k ≡ 0 = omega arith in
    ap₂ the_standing far.setup
    (sym (ap (λ n. after_turns now.setup n now.world) none) ∙ far.rest
    ∙ ap (λ s. after_turns s turns start.world) far.setup)
