-- A script that is played over a link, and what is printed of it.
use Rattle.std.specs.Prelude.{◌≡◌, ℕ, ◌⊎◌, Option}
use Rattle.base.specs.Cause.{Increased}
use Rattle.frame_core.specs.declared.summary.Summary.{Summary}
use Rattle.game_io.specs.NetState.{NetState, link_faults}
use Rattle.game_io.specs.SinkState.{SinkState}
use Rattle.match_net.specs.declared.play_end.PlayEnd.{PlayEnd}
use Rattle.match_net.specs.Stages.{Terms}
use Rattle.command_answers.specs.declared.statuses.TheConstants.{DONE, REFUSED_FILE}
use Rattle.command_answers.specs.declared.statuses.TheConstants.{OUT_OF_MEMORY}
use Rattle.command_answers.specs.Printing.{MayPrintReply}
use Rattle.link_commands.specs.PlayedLink.{PlayedLink, PartlyPlayedLink, GivesNone}
use Rattle.link_commands.specs.PlayText.{played_reply, link_fault}

-- A match was played to its end, whatever that is, and its answer printed.
pub record PlaysOut {W : Type 0}
    (hash : W → ℕ) (summary : W → Summary) (terms : Terms W) (status : ℕ)
    (old new : NetState) (before after : SinkState) : Type 0 where
  pub end : PlayEnd
  pub client : ℕ
  pub frames : ℕ
  pub sim : Option W
  pub played : PlayedLink terms old new end client frames sim
  pub prints : MayPrintReply (played_reply hash summary end client frames sim) status before after

-- A match was played to its end; or memory ran out in it, and nothing was printed; or the net gave
-- no link, and that was printed.
abbrev pub PlaysBy :
    {W : Type 0} → (W → ℕ) → (W → Summary) → Terms W → ℕ → (old new : NetState) →
    (before after : SinkState) → Type 0
PlaysBy hash summary terms status old new before after =
    PlaysOut hash summary terms status old new before after
    ⊎ ((PartlyPlayedLink terms old new
    × (status ≡ OUT_OF_MEMORY)
    × (after.written ≡ before.written))
    ⊎ (GivesNone old new × MayPrintReply link_fault status before after))

-- The net's count of faults rose, or a half of its first link has failed.
abbrev pub LinkFailed : (old new : NetState) → Type 0
LinkFailed old new = Increased old.faults new.faults ⊎ Increased 0 (link_faults new.given 0)

-- The match is over, or the server or the bytes of the link were refused.
abbrev pub IsPlayDone : ℕ → Type 0
IsPlayDone status = (status ≡ DONE) ⊎ (status ≡ REFUSED_FILE)
