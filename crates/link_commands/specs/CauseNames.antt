-- The causes of links as they are printed: of a fault within one, its own name.
use Rattle.std.specs.Prelude.{ℕ, List, codes}
use Rattle.order_packets.specs.declared.feed_fault.FeedFault.{FeedFault}
use Rattle.order_packets.specs.declared.feed_fault.FeedFault.TheVariants as fault
use Rattle.match_net.specs.declared.play_cause.PlayCause.{PlayCause}
use Rattle.match_net.specs.declared.play_cause.PlayCause.TheVariants as play

abbrev pub feed_name : FeedFault → List ℕ
feed_name fault.BadTag = codes "BadTag"
feed_name fault.TooManyOrders = codes "TooManyOrders"
feed_name fault.BadOrder = codes "BadOrder"
feed_name fault.TrailingInPacket = codes "TrailingInPacket"
feed_name fault.LengthTooLarge = codes "LengthTooLarge"
feed_name fault.ShortPacket = codes "ShortPacket"

abbrev pub play_name : PlayCause → List ℕ
play_name (play.Feed fault) = feed_name fault
play_name play.BadWelcome = codes "BadWelcome"
play_name play.BadClient = codes "BadClient"
play_name play.Conflict = codes "Conflict"
play_name play.Past = codes "Past"
play_name play.Beyond = codes "Beyond"
play_name play.Early = codes "Early"
play_name play.SessionTooLong = codes "SessionTooLong"
