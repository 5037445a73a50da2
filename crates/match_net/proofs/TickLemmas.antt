-- Ticks and seals, one after another.
use Rattle.std.proofs.Common.{◌≡◌, ℕ, zero, suc, ◌+◌, ◌-◌, Bool, true, false, List, [], ◌++◌, refl}
use Rattle.std.proofs.Common.{sym, ap, ◌∙◌, append_assoc, append-nil}
use Rattle.std.specs.Prelude.{nat_le, max}
use Rattle.game_orders.specs.declared.order.Order.{Order}
use Rattle.order_packets.specs.declared.up.Up.TheVariants.{Orders}
use Rattle.order_packets.specs.PacketBytes.{up_bytes}
use Rattle.game_orders.specs.declared.limits.TheConstants.{MAX_FRAMES}
use Rattle.frame_core.specs.declared.ready.Ready.{Ready}
use Rattle.frame_core.specs.declared.ready.Ready.TheVariants as ready
use Rattle.peer_core.specs.Arrived.{ready_by}
use Rattle.peer_core.specs.Peer.{ticked_peer}
use Rattle.match_net.specs.Plays.{Plays}
use Rattle.match_net.specs.Playing.{Course, Player, Stage, Telling, telling, stage_at, report_bytes}
use Rattle.match_net.specs.Playing.{ticked_if, tick_once, ticks, all_ticked, RestsIf, sealed_bytes}
use Rattle.match_net.specs.Playing.{may_seal, farewell_bytes, sealed_if, round}

-- A tick more.
pub ticks_step :
    {W : Type 0} (more rest : ℕ) (course : Course W) (quiet : Bool) (now next : Telling W) → more
    ≡ suc rest →
    next ≡ tick_once course quiet now → ticks more course quiet now ≡ ticks rest course quiet next
unfolding ticks
ticks_step more rest course quiet now next is ticked =
    ap (λ (k : ℕ). ticks k course quiet now) is ∙ ap (ticks rest course quiet) (sym ticked)

-- Where no frame is ready, ticks change nothing.
pub ticks_rest :
    {W : Type 0} (more : ℕ) (course : Course W) (quiet : Bool) (now : Telling W) → now
    ≡ tick_once course quiet now →
    ticks more course quiet now ≡ now
unfolding ticks
ticks_rest zero course quiet now rests = refl
ticks_rest (suc more) course quiet now rests =
    ap (ticks more course quiet) (sym rests) ∙ ticks_rest more course quiet now rests

pub ticks_stop :
    {W : Type 0} (more : ℕ) (course : Course W) (quiet went : Bool) (first now next : Telling W) →
    ticks more course quiet now ≡ first → next ≡ tick_once course quiet now →
    RestsIf went now next → went ≡ false →
    next ≡ first
ticks_stop more course quiet went first now next so_far ticked rests stays =
    let same : next ≡ now = by went rests stays in
    same ∙ sym (ticks_rest more course quiet now (sym same ∙ ticked)) ∙ so_far
  where
    by : (went : Bool) → RestsIf went now next → went ≡ false → next ≡ now
    by true rests stays = absurd cc
    by false rests stays = rests

pub ticks_end :
    {W : Type 0} (more : ℕ) (course : Course W) (quiet : Bool) (first now : Telling W) → more ≡ 0 →
    ticks more course quiet now ≡ first → now ≡ first
unfolding ticks
ticks_end more course quiet first now none so_far =
    sym (ap (λ (k : ℕ). ticks k course quiet now) none) ∙ so_far

-- A frame more that is sealed.
pub sealed_step :
    (play : ℕ → List Order) (n more rest : ℕ) (said now next : List ℕ) → more ≡ suc rest →
    now ++ sealed_bytes play n more ≡ said → next
    ≡ now ++ up_bytes (Orders n (play n)) →
    next ++ sealed_bytes play (n + 1) rest ≡ said
unfolding sealed_bytes
sealed_step play n more rest said now next is so_far wrote =
    ap (λ (b : List ℕ). b ++ sealed_bytes play (n + 1) rest) wrote
    ∙ append_assoc now (up_bytes (Orders n (play n)))
    (sealed_bytes play (n + 1) rest)
    ∙ ap (λ (k : ℕ). now ++ sealed_bytes play n k) (sym is)
    ∙ so_far

pub sealed_end :
    (play : ℕ → List Order) (n more : ℕ) (said now : List ℕ) → more ≡ 0 →
    now ++ sealed_bytes play n more ≡ said → now ≡ said
unfolding sealed_bytes
sealed_end play n more said now none so_far =
    sym (append-nil now) ∙ ap (λ (k : ℕ). now ++ sealed_bytes play n k) (sym none) ∙ so_far

-- What was said before a tick stays before what it says.
abbrev before : {W : Type 0} → List ℕ → Telling W → Telling W
before said now = record { peer = now.peer; said = said ++ now.said }

tick_before :
    {W : Type 0} (ready_is : Ready) (course : Course W) (quiet : Bool) (said : List ℕ)
    (now : Telling W) →
    ticked_if ready_is course quiet (before said now)
    ≡ before said (ticked_if ready_is course quiet now)
tick_before ready.Yes course quiet said now =
    ap (λ (b : List ℕ). record { peer = ticked_peer course.after now.peer; said = b })
    (append_assoc said now.said (report_bytes quiet now.peer.ticked
    (course.hash (ticked_peer course.after now.peer).world)))
tick_before (ready.NotYet c) course quiet said now = refl
tick_before ready.Over course quiet said now = refl

ticks_before :
    {W : Type 0} (more : ℕ) (course : Course W) (quiet : Bool) (said : List ℕ) (now : Telling W) →
    ticks more course quiet (before said now) ≡ before said (ticks more course quiet now)
unfolding ticks
ticks_before zero course quiet said now = refl
ticks_before (suc more) course quiet said now =
    ap (ticks more course quiet)
    (tick_before (ready_by now.peer.arrived now.peer.clients now.peer.ticked) course quiet said
    now)
    ∙ ticks_before more course quiet said (tick_once course quiet now)

abbrev stage_before : {W : Type 0} → List ℕ → Stage W → Stage W
stage_before said now = record { player = now.player; said = said ++ now.said }

seals_before :
    {W : Type 0} (quiet : Bool) (plays : Plays W) (sealed : ℕ) (said : List ℕ)
    (now : Telling W) →
    sealed_if quiet plays sealed (before said now)
    ≡ stage_before said (sealed_if quiet plays sealed now)
seals_before true plays sealed said now = refl
seals_before {W = W} false plays sealed said now =
    let bytes =
    sealed_bytes (plays.orders now.peer.world now.peer.me) sealed (may_seal plays.frames
    now.peer.ticked now.peer.lag -
    sealed) in
    let bye = farewell_bytes (nat_le plays.frames now.peer.ticked) in
    ap (λ (b : List ℕ). stage_at now.peer
    (max sealed (may_seal plays.frames now.peer.ticked now.peer.lag))
    (nat_le plays.frames now.peer.ticked) b)
    (ap (λ (b : List ℕ). b ++ bye) (append_assoc said now.said bytes)
    ∙ append_assoc said (now.said ++ bytes) bye)

round_before :
    {W : Type 0} (course : Course W) (plays : Plays W) (player : Player W)
    (said : List ℕ) →
    round course plays (record { player = player; said = said })
    ≡ stage_before said (round course plays (record { player = player; said = [] }))
round_before course plays player said =
    ap (λ (b : List ℕ). sealed_if player.quiet plays player.sealed
    (all_ticked course player.quiet (telling player.peer b))) (sym (append-nil said))
    ∙ ap (sealed_if player.quiet plays player.sealed) (ticks_before MAX_FRAMES course player.quiet
    said (telling player.peer []))
    ∙ seals_before player.quiet plays player.sealed said
    (all_ticked course player.quiet (telling player.peer []))

-- A round by what it says, after anything that was said before.
pub round_moves :
    {W : Type 0} (course : Course W) (plays : Plays W) (player after : Player W)
    (said bytes : List ℕ) →
    record { player = after; said = bytes }
    ≡ round course plays (record { player = player; said = [] }) →
    (after ≡ (round course plays (record { player = player; said = said })).player)
    × ((round course plays (record { player = player; said = said })).said ≡ said ++ bytes)
round_moves {W = W} course plays player after said bytes is =
    let all : round course plays (record { player = player; said = said })
    ≡ stage_before said (record { player = after; said = bytes })
    = round_before course plays player said ∙ ap (stage_before said) (sym is) in
    (ap (λ (s : Stage W). s.player) (sym all), ap (λ (s : Stage W). s.said) all)
