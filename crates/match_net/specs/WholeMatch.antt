-- The match that all bytes of a player's link make.
use Rattle.std.specs.Prelude.{◌≡◌, ℕ, ◌+◌, List, length, take, Option, Some, None, Ok}
use Rattle.std.specs.Option.{option_map}
use Rattle.order_packets.specs.declared.down.Down.{Down}
use Rattle.order_packets.specs.PacketReading.{packet_at, down_at}
use Rattle.order_packets.specs.Feed.{ReadsAll}
use Rattle.match_net.specs.declared.stop_reason.StopReason.{StopReason}
use Rattle.match_net.specs.declared.stop_reason.StopReason.TheVariants as stop
use Rattle.match_net.specs.declared.limits.TheConstants.{MAX_PLAY_BYTES}
use Rattle.match_net.specs.declared.play_end.PlayEnd.{PlayEnd}
use Rattle.match_net.specs.declared.play_end.PlayEnd.TheVariants as end
use Rattle.match_net.specs.Playing.{Stage}
use Rattle.match_net.specs.Stages.{Terms, after_packets, stop_at, stop_in, player_of}
use Rattle.match_net.specs.PlayMatch.{Shows}

-- A match to its end: the packets that the player follows, which are a welcome and then entries;
-- how it stands after them, if it was welcomed; how the match ends; and the place in the bytes at
-- which that stands which ends it.
pub record WholeMatch (W : Type 0) : Type 0 where
  pub packets : List Down
  pub now : Option (Stage W)
  pub stop : StopReason
  pub at : ℕ

-- These bytes, of which no more than the first `MAX_PLAY_BYTES` are looked at, make this match. Its
-- packets stand first in them, and what stands next ends it.
pub record IsWholeMatch {W : Type 0} (terms : Terms W) (bytes : List ℕ) (whole : WholeMatch W) :
    Type 0 where
  pub rest : List ℕ
  pub reads : ReadsAll down_at (take MAX_PLAY_BYTES bytes) whole.packets rest
  pub place : whole.at + length rest ≡ length (take MAX_PLAY_BYTES bytes)
  pub follows : after_packets terms None whole.packets ≡ Ok whole.now
  pub ends :
      option_map (stop_in (length bytes)) (stop_at terms whole.now (packet_at down_at rest))
      ≡ Some whole.stop

-- What is answered to a match that ends so, at this place.
abbrev pub end_of : StopReason → ℕ → PlayEnd
end_of stop.Over at = end.Over
end_of (stop.Refused code) at = end.Refused code
end_of (stop.Bad why) at = end.BadLink at why
end_of stop.Open at = end.Lost

-- What is handed back of a player is the match that these bytes make: its end, and the client, the
-- ticked count and the world of the player after it.
pub record IsPlayed {W : Type 0} (terms : Terms W) (bytes : List ℕ) (answer : PlayEnd)
    (client frames : ℕ) (sim : Option W) : Type 0 where
  pub whole : WholeMatch W
  pub is : IsWholeMatch terms bytes whole
  pub answered : answer ≡ end_of whole.stop whole.at
  pub shows : Shows (player_of whole.now) client frames sim
