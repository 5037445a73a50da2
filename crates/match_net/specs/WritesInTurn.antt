-- What a player writes, packet by packet.
use Rattle.std.specs.Prelude.{◌≡◌, ℕ, ◌+◌, ◌<◌, ◌≤◌, min, false, List, [], ◌∷◌, ◌++◌}
use Rattle.game_orders.specs.declared.order.Order.{Order}
use Rattle.frame_core.specs.Fold.{folded}
use Rattle.order_packets.specs.declared.up.Up.{Up}
use Rattle.order_packets.specs.declared.up.Up.TheVariants.{Hello, Orders, Sync, Bye}
use Rattle.order_packets.specs.PacketBytes.{up_bytes}
use Rattle.peer_core.specs.declared.arrived.Arrived.{Arrived}
use Rattle.peer_core.specs.Arrived.{frame_by}
use Rattle.match_net.specs.Playing.{Stage}
use Rattle.match_net.specs.Stages.{Terms, greeting_bytes}

-- These packets as bytes, one after another.
abbrev pub ups_bytes : List Up → List ℕ
ups_bytes [] = []
ups_bytes (packet ∷ packets) = up_bytes packet ++ ups_bytes packets

-- How many of them send orders of a frame, and how many report a frame.
abbrev pub count_orders : List Up → ℕ
count_orders [] = 0
count_orders (Hello version rules ∷ packets) = count_orders packets
count_orders (Orders frame orders ∷ packets) = count_orders packets + 1
count_orders (Sync frame hash ∷ packets) = count_orders packets
count_orders (Bye ∷ packets) = count_orders packets

abbrev pub count_reports : List Up → ℕ
count_reports [] = 0
count_reports (Hello version rules ∷ packets) = count_reports packets
count_reports (Orders frame orders ∷ packets) = count_reports packets
count_reports (Sync frame hash ∷ packets) = count_reports packets + 1
count_reports (Bye ∷ packets) = count_reports packets

-- What a player writes after its greeting that has reported and sealed so many frames. It plays so
-- many frames with this lag; `play r n` is its orders of the frame n where it has reported r frames
-- by then, and `hash n` is that of its world after the frame n. It reports frame by frame, and it
-- sends its orders frame by frame, none of them for a frame that is its lag or more beyond the
-- frames that it has ticked and reported. Its farewell comes only when each of its frames was reported, and
-- nothing comes after it.
abbrev pub IsInTurn : ℕ → (ℕ → ℕ → List Order) → ℕ → (ℕ → ℕ) → ℕ → ℕ → List Up → Type 0
IsInTurn frames play lag hash reported sealed [] = Unit {0}
IsInTurn frames play lag hash reported sealed (Hello version rules ∷ packets) = ⊥
IsInTurn frames play lag hash reported sealed (Orders frame orders ∷ packets) =
    (frame ≡ sealed) × (sealed < frames) × (orders ≡ play reported sealed)
    × (sealed < reported + lag) × IsInTurn frames play lag hash reported (sealed + 1) packets
IsInTurn frames play lag hash reported sealed (Sync frame sum ∷ packets) =
    (frame ≡ reported) × (sum ≡ hash reported)
    × IsInTurn frames play lag hash (reported + 1) sealed packets
IsInTurn frames play lag hash reported sealed (Bye ∷ packets) =
    (frames ≤ reported) × (packets ≡ [])

-- The world that has ticked so many frames, where so many clients play from this opening world on:
-- the step of worlds is folded over these frames of the entries that came down.
abbrev pub world_after : {W : Type 0} → Terms W → W → ℕ → List Arrived → ℕ → W
world_after terms start clients arrived ticked =
    folded terms.course.after start (λ k. frame_by arrived clients k) ticked

-- The hash of the world after the frame n.
abbrev pub hash_after : {W : Type 0} → Terms W → W → ℕ → List Arrived → ℕ → ℕ
hash_after terms start clients arrived n =
    terms.course.hash (world_after terms start clients arrived (n + 1))

-- The client's orders of the frame n by the world that has ticked so many frames.
abbrev pub orders_by :
    {W : Type 0} → Terms W → W → (client clients : ℕ) → List Arrived → ℕ → ℕ → List Order
orders_by terms start client clients arrived ticked n =
    terms.plays.orders (world_after terms start clients arrived ticked) client n

-- All that a player has written that was welcomed to a match of so many clients, with this lag and
-- opening world. The orders of each frame are those by the world that it held when it sealed it,
-- which has ticked the frames that it had reported by then. While it writes, it has reported each
-- frame that it has ticked, and has sent its orders for as many frames as its lag allows.
pub record WritesInTurn {W : Type 0} (terms : Terms W) (start : W) (client clients lag : ℕ)
    (now : Stage W) : Type 0 where
  pub written : List Up
  pub said_is : now.said ≡ greeting_bytes terms.rules ++ ups_bytes written
  pub in_turn :
      IsInTurn terms.plays.frames
      (orders_by terms start client clients now.player.peer.arrived) lag
      (hash_after terms start clients now.player.peer.arrived) 0 0 written
  pub ahead : (front back : List Up) → written ≡ front ++ back →
      count_orders front ≤ count_reports front + lag
  pub whole : now.player.quiet ≡ false →
      (count_reports written ≡ now.player.peer.ticked)
      × (count_orders written ≡ min terms.plays.frames (now.player.peer.ticked + lag))
