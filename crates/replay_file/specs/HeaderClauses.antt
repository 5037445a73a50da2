-- What the bytes that were read for a header are.
use Rattle.std.specs.Prelude.{◌≡◌, ◌<◌, ◌^◌, ℕ, true, List, ◌++◌}
use Rattle.replay_file.specs.declared.header.Header.{Header}
use Rattle.replay_file.specs.PartRules.{is_known}
use Rattle.replay_file.specs.FirstFault.{is_client_count}
use Rattle.replay_file.specs.ReplayBytes.{header_bytes}

-- They are its spelling, and it meets the rules of its version.
pub record IsHeader (here : ℕ) (old new : List ℕ) (h : Header) : Type 0 where
  pub spelled : old ≡ header_bytes h.version h.rules h.seed h.clients ++ new
  pub rules : h.rules ≡ here
  pub version : is_known h.version ≡ true
  pub clients : is_client_count h.version h.clients ≡ true
  pub version_fits : h.version < 2 ^ 16
  pub rules_fit : h.rules < 2 ^ 64
  pub seed_fits : h.seed < 2 ^ 32
  pub clients_fit : h.clients < 2 ^ 8
