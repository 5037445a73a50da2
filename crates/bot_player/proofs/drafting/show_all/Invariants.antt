use Rattle.std.proofs.Common.{◌≡◌, take}
use Rattle.std.specs.Prelude.{fold}
use Rattle.bot_player.specs.Drafts.{shown}
use Rattle.bot_player.proofs.drafting.show_all.Given as goal

abbrev pub invariant-loop-i : goal.invariant-loop-i
invariant-loop-i g l =
    l.drafts
    ≡ fold (shown l.rules l.c) l.initial.drafts (take l.i (g.A.LendsActors.actors_of l.fn.actors))
