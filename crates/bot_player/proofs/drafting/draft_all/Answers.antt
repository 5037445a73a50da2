use Rattle.std.proofs.Common.{◌≡◌, ◌≤◌, ◌++◌, length, take, Some, subst, ap, ap₂, ◌∙◌, arith}
use Rattle.std.specs.Prelude.{List, Option, filter_map, option_to_list, slice_get}
use Rattle.game_orders.specs.declared.limits.TheConstants.{MAX_ORDERS}
use Rattle.game_model.specs.declared.actor.Actor.{Actor}
use Rattle.bot_player.specs.declared.draft.Draft.{Draft}
use Rattle.bot_player.specs.Drafts.{own_draft}
use Rattle.bot_player.specs.Survey.{Sight}
use Rattle.bot_player.proofs.ListLemmas.{made_first, made_next}
use Rattle.bot_player.proofs.drafting.draft_all.Goals as goal

pub returns-then-is_full : goal.returns-then-is_full
returns-then-is_full g c =
    let s : Sight = c.args.survey.now in
    let full : MAX_ORDERS ≤ length c.loop-i.drafts = c.is_full.ensures.0 c.if-is_full.true in
    let size : length (filter_map (own_draft s) (take c.loop-i.i s.goods.actors)) ≡ MAX_ORDERS =
    omega (arith, ap (λ (ds : List Draft). length ds) c.loop-i.invariant.1, c.loop-i.invariant.2, full) in
    c.loop-i.invariant.1 ∙ made_first (own_draft s) s.goods.actors c.loop-i.i MAX_ORDERS size

pub loop-i-preserved : goal.loop-i-preserved
loop-i-preserved g c =
    let s : Sight = c.args.survey.now in
    let a : Actor = c.nth_actor.result.now in
    let found : slice_get s.goods.actors c.loop-i.i ≡ Some a =
    subst (λ (actors : List Actor). slice_get actors c.loop-i.i ≡ Some a) c.actors-actors.ensures c.nth_actor.ensures in
    let draft : c.own_draft.result ≡ own_draft s a =
    c.own_draft.ensures.value ∙ ap (λ (t : Sight). own_draft t a) c.loop-i.invariant.0 in (
      c.own_draft.ensures.same ∙ c.loop-i.invariant.0,
      c.add.ensures.added
          ∙ ap₂ (λ (ds : List Draft) (d : Option Draft). ds ++ option_to_list d) c.loop-i.invariant.1 draft
          ∙ made_next (own_draft s) s.goods.actors c.loop-i.i a found,
      c.add.ensures.limit,
    )
