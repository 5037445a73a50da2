-- A player's match, packet by packet: how it stands after packets, and how it ends.
use Rattle.std.specs.Prelude.{ℕ, ◌&&◌, nat_lt, nat_le, if◌then◌else◌, Bool, false, List, []}
use Rattle.std.specs.Prelude.{◌∷◌, Option, Some, None, Result, Ok, Err}
use Rattle.base.specs.Steps.{◌>>=◌}
use Rattle.game_orders.specs.declared.entry.Entry.{Entry as one_entry}
use Rattle.game_orders.specs.declared.order.Order.{Order}
use Rattle.game_orders.specs.declared.limits.TheConstants.{MAX_CLIENTS, MAX_LAG}
use Rattle.order_packets.specs.declared.down.Down.{Down}
use Rattle.order_packets.specs.declared.down.Down.TheVariants as down
use Rattle.order_packets.specs.declared.up.Up.TheVariants.{Hello}
use Rattle.order_packets.specs.PacketBytes.{up_bytes}
use Rattle.order_packets.specs.PacketReading.{FirstPacket}
use Rattle.peer_core.specs.Peer.{fresh_peer}
use Rattle.order_packets.specs.declared.limits.TheConstants.{VERSION}
use Rattle.match_net.specs.declared.limits.TheConstants.{MAX_PLAY_BYTES}
use Rattle.match_net.specs.declared.stop_reason.StopReason.{StopReason}
use Rattle.match_net.specs.declared.stop_reason.StopReason.TheVariants as stop
use Rattle.match_net.specs.declared.play_cause.PlayCause.{PlayCause}
use Rattle.match_net.specs.declared.play_cause.PlayCause.TheVariants as cause
use Rattle.match_net.specs.Plays.{Plays, scripted, bot_plays}
use Rattle.match_net.specs.Playing.{Course, Player, Stage, round, is_over, after_entry}

-- A welcome names a match that can be, and a client of it.
abbrev pub is_match : ℕ → ℕ → ℕ → Bool
is_match client clients lag =
    nat_lt client clients && (nat_le clients MAX_CLIENTS && (nat_le 1 lag && nat_le lag MAX_LAG))

-- What a player plays by: what makes the opening world of a seed and a number of clients, how
-- worlds go on, the hash of its rules and map, and what it plays.
pub record Terms (W : Type 0) : Type 0 where
  pub made : ℕ → ℕ → W
  pub course : Course W
  pub rules : ℕ
  pub plays : Plays W

-- The same, from its parts.
abbrev pub terms_from :
    {W : Type 0} → (ℕ → ℕ → W) → (W → List one_entry → W) → (W → ℕ) → ℕ → Plays W → Terms W
terms_from made after hash rules plays =
    record {
      made = made;
      course = record { after = after; hash = hash };
      rules = rules;
      plays = plays;
    }

-- The same for a player of a script.
abbrev pub terms_by :
    {W : Type 0} → (ℕ → ℕ → W) → (W → List one_entry → W) → (W → ℕ) → ℕ → List (List Order) →
    Terms W
terms_by made after hash rules script = terms_from made after hash rules (scripted script)

-- The same for a bot that plays so many frames by this rule, in worlds that have these clients.
abbrev pub bot_terms :
    {W : Type 0} → (ℕ → ℕ → W) → (W → List one_entry → W) → (W → ℕ) → (W → ℕ) →
    (W → ℕ → List Order) → (rules frames : ℕ) → Terms W
bot_terms made after hash clients_of ordered rules frames =
    terms_from made after hash rules (bot_plays clients_of ordered frames)

-- A player that was welcomed, before it has done anything.
abbrev pub welcomed : {W : Type 0} → (ℕ → ℕ → W) → ℕ → ℕ → ℕ → ℕ → Player W
welcomed made client clients lag seed =
    record {
      peer = fresh_peer client clients lag (made seed clients);
      sealed = 0;
      quiet = false;
    }

-- The greeting of a player with these rules.
abbrev pub greeting_bytes : ℕ → List ℕ
greeting_bytes rules = up_bytes (Hello VERSION rules)

-- The first packet: only a welcome goes on. The player then does what it can.
abbrev pub after_first :
    {W : Type 0} → Terms W → Down → Result (Stage W) StopReason
after_first terms (down.Welcome client clients lag seed) =
    if is_match client clients lag
    then Ok (round terms.course terms.plays (record {
      player = welcomed terms.made client clients lag seed;
      said = greeting_bytes terms.rules;
    }))
    else Err (stop.Bad cause.BadWelcome)
after_first terms (down.Refused code) = Err (stop.Refused code)
after_first terms (down.Entry client frame entry) = Err (stop.Bad cause.BadWelcome)

-- What a later packet makes of the player, before it does what it can.
abbrev pub after_down : {W : Type 0} → Player W → Down → Result (Player W) PlayCause
after_down player (down.Welcome client clients lag seed) = Err cause.BadWelcome
after_down player (down.Refused code) = Err cause.BadWelcome
after_down player (down.Entry client frame entry) = after_entry player client frame entry

abbrev pub rounded :
    {W : Type 0} → Terms W → List ℕ → Result (Player W) PlayCause → Result (Stage W) StopReason
rounded terms said (Ok player) =
    Ok (round terms.course terms.plays (record { player = player; said = said }))
rounded terms said (Err why) = Err (stop.Bad why)

-- A later packet. A match that is over takes none.
abbrev pub after_later :
    {W : Type 0} → Terms W → Stage W → Down → Result (Stage W) StopReason
after_later terms now packet =
    if is_over now.player.peer then Err stop.Over
    else rounded terms now.said (after_down now.player packet)

-- How a player stands, if it was welcomed.
abbrev pub after_packet :
    {W : Type 0} → Terms W → Option (Stage W) → Down → Result (Stage W) StopReason
after_packet terms None packet = after_first terms packet
after_packet terms (Some now) packet = after_later terms now packet

-- Packets one after another, none of which ends the match.
abbrev pub after_packets :
    {W : Type 0} → Terms W → Option (Stage W) → List Down → Result (Option (Stage W)) StopReason
after_packets terms now [] = Ok now
after_packets terms now (packet ∷ packets) =
    after_packet terms now packet
    >>= λ next. after_packets terms (Some next) packets

-- How a match ends by what stands next in the bytes, if it ends there.
abbrev pub stop_of : {W : Type 0} → Result (Stage W) StopReason → Option StopReason
stop_of (Ok now) = None
stop_of (Err why) = Some why

abbrev pub is_over_stage : {W : Type 0} → Option (Stage W) → Bool
is_over_stage None = false
is_over_stage (Some now) = is_over now.player.peer

abbrev pub stop_by :
    {W : Type 0} → Terms W → Option (Stage W) → FirstPacket Down → Option StopReason
stop_by terms now (Ok None) = Some stop.Open
stop_by terms now (Ok (Some first)) =
    stop_of (after_packet terms now first.0)
stop_by terms now (Err fault) = Some (stop.Bad (cause.Feed fault))

abbrev pub stop_at :
    {W : Type 0} → Terms W → Option (Stage W) → FirstPacket Down → Option StopReason
stop_at terms now first =
    if is_over_stage now then Some stop.Over else stop_by terms now first

-- Bytes that end, or are too many, before the match is over.
abbrev pub bad_end : ℕ → PlayCause
bad_end size = if nat_lt size MAX_PLAY_BYTES then cause.Early else cause.SessionTooLong

abbrev pub stop_in : ℕ → StopReason → StopReason
stop_in size stop.Open = stop.Bad (bad_end size)
stop_in size stop.Over = stop.Over
stop_in size (stop.Refused code) = stop.Refused code
stop_in size (stop.Bad why) = stop.Bad why

-- Why no packet is read where this stands.
abbrev pub bad_at : ℕ → FirstPacket Down → Option PlayCause
bad_at size (Ok None) = Some (bad_end size)
bad_at size (Ok (Some first)) = None
bad_at size (Err fault) = Some (cause.Feed fault)

-- The player, if it was welcomed.
abbrev pub player_of : {W : Type 0} → Option (Stage W) → Option (Player W)
player_of None = None
player_of (Some now) = Some now.player

-- All that a player has written: its greeting, and what it wrote after each packet.
abbrev pub said_by : {W : Type 0} → ℕ → Option (Stage W) → List ℕ
said_by rules None = greeting_bytes rules
said_by rules (Some now) = now.said
