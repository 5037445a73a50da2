-- What the lines of a host's console say.
use Rattle.std.specs.Prelude.{◌≡◌, ℕ, ◌<◌, Bool, true, false, List, ◌++◌, codes}
use Rattle.std.specs.Str.{bytes_eq}
use Rattle.std.specs.Fmt.{decimal}
use Rattle.game_io.specs.declared.net.TheConstants.{MAX_LINKS}
use Rattle.host_standing.specs.declared.typed.Typed.{Typed}
use Rattle.host_standing.specs.declared.typed.Typed.TheVariants.{Kick, Stop, Other}

-- The line that kicks client c.
abbrev pub kick_line : ℕ → List ℕ
kick_line c = codes "kick " ++ decimal c

abbrev pub kicks_client : ℕ → List ℕ → Bool
kicks_client c line = bytes_eq line (kick_line c)

-- The line that ends the match.
abbrev pub stops : List ℕ → Bool
stops line = bytes_eq line (codes "stop")

-- The line kicks no client.
abbrev pub KicksNobody : List ℕ → Type 0
KicksNobody line = (c : ℕ) → c < MAX_LINKS → kicks_client c line ≡ false

-- What a line says: a kick only of the client whose line it is, `stop` only where it is that line, and
-- else nothing.
abbrev pub Says : List ℕ → Typed → Type 0
Says line (Kick c) = (c < MAX_LINKS) × (kicks_client c line ≡ true)
Says line Stop = stops line ≡ true
Says line Other = (stops line ≡ false) × KicksNobody line
