-- A script that is played over the first link of a net, which was handed back to the net then.
use Rattle.std.specs.Prelude.{◌≡◌, ◌⊎◌, ℕ, ◌≤◌, [], ◌∷◌, drop, Option, Some}
use Rattle.std.specs.Option.{option_map}
use Rattle.base.specs.Cause.{Increased}
use Rattle.game_io.specs.NetState.{NetState, IsNewLink, taken_back}
use Rattle.game_io.specs.SinkState.{SinkState}
use Rattle.game_io.specs.SourceState.{SourceState}
use Rattle.match_net.specs.declared.play_end.PlayEnd.{PlayEnd}
use Rattle.match_net.specs.PlayMatch.{PlaysAs, PlaysPartly}
use Rattle.match_net.specs.Stages.{Terms}
use Rattle.link_commands.specs.declared.play_fault.PlayFault.{PlayFault}
use Rattle.link_commands.specs.declared.play_fault.PlayFault.TheVariants as fault

-- The net gave its first link, whose halves were in these states, and took it back in those.
pub record LendsLink
    (old new : NetState) (input input_after : SourceState) (output output_after : SinkState)
    : Type 0 where
  pub link : IsNewLink old.coming input output
  pub coming : new.coming ≡ option_map (drop 1) old.coming
  pub given : new.given ≡ Some (taken_back input_after output_after) ∷ []
  pub later : old.faults ≤ new.faults

-- A match was played over it: what was read, what was written and what is handed back is that of
-- these terms.
pub record PlayedLink {W : Type 0} (terms : Terms W) (old new : NetState)
    (answer : PlayEnd) (client frames : ℕ) (sim : Option W) : Type 0 where
  pub input : SourceState
  pub input_after : SourceState
  pub output : SinkState
  pub output_after : SinkState
  pub lends : LendsLink old new input input_after output output_after
  pub plays : PlaysAs terms input input_after output output_after answer client frames sim

-- Memory ran out in the match: all was written that these terms write to some packets that the bytes
-- begin with, or nothing.
pub record PartlyPlayedLink {W : Type 0} (terms : Terms W) (old new : NetState) : Type 0 where
  pub input : SourceState
  pub input_after : SourceState
  pub output : SinkState
  pub output_after : SinkState
  pub lends : LendsLink old new input input_after output output_after
  pub plays : PlaysPartly terms input input_after output output_after

-- The net gave no link: its count of faults rose, and all else of it is as it was.
pub record GivesNone (old new : NetState) : Type 0 where
  pub coming : new.coming ≡ old.coming
  pub given : new.given ≡ old.given
  pub rose : Increased old.faults new.faults

-- Why no match was played to its end.
abbrev pub NotPlayed : {W : Type 0} → Terms W → (old new : NetState) → PlayFault → Type 0
NotPlayed terms old new fault.Net = GivesNone old new
NotPlayed terms old new fault.NoMemory = PartlyPlayedLink terms old new
