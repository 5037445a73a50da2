-- Addresses of links over UDP.
use Rattle.std.specs.Prelude.{ℕ, List, ◌∷◌, []}

-- What such an address begins with: `udp:`.
abbrev pub udp_prefix : List ℕ
udp_prefix = 117 ∷ 100 ∷ 112 ∷ 58 ∷ []
