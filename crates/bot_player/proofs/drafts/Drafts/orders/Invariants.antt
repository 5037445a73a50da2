use Rattle.std.proofs.Common.{◌≡◌, map, take}
use Rattle.bot_player.specs.Drafts.{ordered}
use Rattle.bot_player.proofs.drafts.Drafts.orders.Given as goal

abbrev pub invariant-loop-draft : goal.invariant-loop-draft
invariant-loop-draft l = l.orders ≡ map ordered (take l.draft-index l.draft-items)
