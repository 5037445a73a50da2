-- What the answer to a tick of a peer means.
use Rattle.std.specs.Prelude.{◌≡◌, ◌≢◌, ℕ, ◌+◌, ◌≤◌, List, Some}
use Rattle.game_orders.specs.declared.order.Order.{Order}
use Rattle.game_orders.specs.declared.entry.Entry.{Entry}
use Rattle.game_orders.specs.declared.entry.Entry.TheVariants.{Play, Leave}
use Rattle.frame_core.specs.declared.ready.Ready.{Ready}
use Rattle.frame_core.specs.declared.ready.Ready.TheVariants.{Yes, NotYet as Waits, Over as Ended}
use Rattle.frame_core.specs.declared.tick_answer.TickAnswer.{TickAnswer}
use Rattle.frame_core.specs.declared.tick_answer.TickAnswer.TheVariants.{Ticked, NotYet, Over}
use Rattle.frame_core.specs.Input.{MeansReady}
use Rattle.peer_core.specs.declared.arrived.Arrived.{Arrived}
use Rattle.peer_core.specs.Arrived.{kept_at, frame_by}
use Rattle.peer_core.specs.Peer.{PeerState}

-- A play of client c for frame n has arrived.
abbrev pub HasPlayed : List Arrived → ℕ → ℕ → Type 0
HasPlayed arrived n c = (orders : List Order) × (kept_at arrived c n ≡ Some (Play orders))

-- A departure of client c at frame n or before it has arrived.
abbrev pub HasLeftBy : List Arrived → ℕ → ℕ → Type 0
HasLeftBy arrived n c = (m : ℕ) × (m ≤ n) × (kept_at arrived c m ≡ Some Leave)

-- Neither has.
abbrev pub HasNothing : List Arrived → ℕ → ℕ → Type 0
HasNothing arrived n c =
    ((orders : List Order) → kept_at arrived c n ≢ Some (Play orders))
    × ((m : ℕ) → m ≤ n → kept_at arrived c m ≢ Some Leave)

-- What an answer on frame n means: of each client a play for n or a departure at or before it has
-- arrived, and of one a play; or some client is the least of which neither has; or a departure of
-- all has.
abbrev pub MeansReadyBy : List Arrived → ℕ → ℕ → Ready → Type 0
MeansReadyBy arrived clients n =
    MeansReady (HasPlayed arrived n) (HasLeftBy arrived n) (HasNothing arrived n) clients

-- What the answer to a tick means. `Ticked` has the frame that was next, which was ready; the world
-- made one step by that frame, and the count grew by one. The other answers say why it was not
-- ready, and nothing changed.
abbrev pub MeansTick :
    {W : Type 0} → (W → List Entry → W) → (old new : PeerState W) → TickAnswer → Type 0
MeansTick after old new (Ticked n) =
    (n ≡ old.ticked) × MeansReadyBy old.arrived old.clients n Yes
    × (new ≡ record old {
      ticked = n + 1;
      world = after old.world (frame_by old.arrived old.clients n);
    })
MeansTick after old new (NotYet c) =
    MeansReadyBy old.arrived old.clients old.ticked (Waits c) × (new ≡ old)
MeansTick after old new Over =
    MeansReadyBy old.arrived old.clients old.ticked Ended × (new ≡ old)
