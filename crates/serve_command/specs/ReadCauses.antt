-- The causes for which a client's bytes are refused, as they are printed: of a fault within one, its
-- own name.
use Rattle.std.specs.Prelude.{ℕ, List, codes}
use Rattle.match_net.specs.declared.read_cause.ReadCause.{ReadCause}
use Rattle.match_net.specs.declared.read_cause.ReadCause.TheVariants as read
use Rattle.link_commands.specs.CauseNames.{feed_name}

abbrev pub read_name : ReadCause → List ℕ
read_name (read.Feed fault) = feed_name fault
read_name read.Conflict = codes "Conflict"
read_name read.Ahead = codes "Ahead"
read_name read.Full = codes "Full"
read_name read.SecondHello = codes "SecondHello"
read_name read.Version = codes "Version"
read_name read.OtherRules = codes "OtherRules"
read_name read.NoHello = codes "NoHello"
read_name read.SessionTooLong = codes "SessionTooLong"
