use Rattle.std.proofs.Common.{◌≡◌, ◌++◌, map, take, drop}
use Rattle.bot_player.specs.Drafts.{seeing}
use Rattle.bot_player.proofs.drafts.show_each.Given as goal

abbrev pub invariant-loop-i : goal.invariant-loop-i
invariant-loop-i l = l.drafts ≡ map (seeing l.enemy) (take l.i l.initial.drafts) ++ drop l.i l.initial.drafts
