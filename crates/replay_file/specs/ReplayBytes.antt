-- Replays as bytes. Each replay has one spelling.
use Rattle.std.specs.Prelude.{ℕ, ◌<◌, ◌^◌, List, ◌++◌}
use Rattle.std.specs.List.{AllByRecursion}
use Rattle.wire_bytes.specs.Field.{field_bytes}
use Rattle.replay_file.specs.declared.limits.TheConstants.{MAGIC}
use Rattle.replay_file.specs.declared.replay.Replay.{Replay}
use Rattle.replay_file.specs.PartBytes.{parts_bytes, end_bytes, FitsPart}

-- The first four bytes: LSRP, as a number of four bytes, the lowest first.
abbrev pub magic_bytes : List ℕ
magic_bytes = field_bytes 4 MAGIC

-- The header: version, rules number, seed and the number of clients.
unfoldable pub header_bytes : (version rules seed clients : ℕ) → List ℕ
header_bytes version rules seed clients =
    magic_bytes ++ (field_bytes 2 version ++ (field_bytes 8 rules ++ (field_bytes 4 seed
    ++ field_bytes 1 clients)))

-- The spelling of a replay.
unfoldable pub replay_bytes : Replay → List ℕ
replay_bytes r =
    header_bytes r.version r.rules r.seed r.clients ++ (parts_bytes r.parts ++ end_bytes)

-- The numbers of a replay fit their fields.
pub record FitsReplay (r : Replay) : Type 0 where
  pub version : r.version < 2 ^ 16
  pub rules : r.rules < 2 ^ 64
  pub seed : r.seed < 2 ^ 32
  pub clients : r.clients < 2 ^ 8
  pub parts : AllByRecursion FitsPart r.parts
