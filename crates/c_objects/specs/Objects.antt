-- The numbers by which an object tells C what it holds.
use Rattle.std.specs.Prelude.{ℕ, Option, None, Some}
use Rattle.c_objects.specs.declared.kept.Kept.{Kept}
use Rattle.c_objects.specs.declared.kept.Kept.TheVariants.{Setup, World, Peer, Server}

abbrev pub kind_in : Kept → ℕ
kind_in (Setup stage) = 1
kind_in (World game) = 2
kind_in (Peer peer) = 3
kind_in (Server server) = 4

-- 0 where nothing is held.
abbrev pub kind_of : Option Kept → ℕ
kind_of None = 0
kind_of (Some kept) = kind_in kept
