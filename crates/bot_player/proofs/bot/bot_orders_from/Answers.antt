use Rattle.std.proofs.Common.{◌≡◌, map, ap, ◌∙◌}
use Rattle.std.specs.Prelude.{List, fold}
use Rattle.game_model.specs.declared.actor.Actor.{Actor}
use Rattle.bot_player.specs.declared.draft.Draft.{Draft}
use Rattle.bot_player.specs.Drafts.{drafts_of, ordered, shown}
use Rattle.bot_player.specs.Survey.{Sight}
use Rattle.bot_player.proofs.BotLemmas.{orders_are}
use Rattle.bot_player.proofs.bot.bot_orders_from.Goals as goal

pub returns : goal.returns
returns g c =
    let actors : List Actor = g.A.LendsActors.actors_of c.args.actors.now in
    let s : Sight =
    (record { rules = c.args.rules.now; goods = record { actors = actors; cash = c.args.cash.now }; c = c.args.c }) in
    let drafts : c.draft_all.new.drafts ≡ drafts_of s =
    c.draft_all.ensures ∙ ap (λ (t : Sight). drafts_of t) c.new.ensures in
    c.orders.ensures
    ∙ ap (λ (ds : List Draft). map ordered ds)
    (c.show_all.ensures ∙ ap (λ (ds : List Draft). fold (shown s.rules s.c) ds actors) drafts)
    ∙ orders_are s
