use Rattle.std.proofs.Common.{◌≡◌, ◌≤◌, length, take}
use Rattle.std.specs.Prelude.{filter_map}
use Rattle.game_orders.specs.declared.limits.TheConstants.{MAX_ORDERS}
use Rattle.bot_player.specs.Drafts.{own_draft}
use Rattle.bot_player.proofs.drafting.draft_all.Given as goal

abbrev pub invariant-loop-i : goal.invariant-loop-i
invariant-loop-i g l =
    (l.survey ≡ l.initial.survey)
    × (l.drafts
    ≡ filter_map (own_draft l.initial.survey) (take l.i l.initial.survey.goods.actors))
    × (length l.drafts ≤ MAX_ORDERS)
