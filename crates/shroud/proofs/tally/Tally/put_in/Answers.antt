use Rattle.std.proofs.Common.{◌<◌, ◌∷◌, [], List, length, sym, subst}
use Rattle.rule_traits.specs.declared.kind.Kind.{Kind}
use Rattle.shroud.specs.declared.viewer.Viewer.{Viewer}
use Rattle.shroud.specs.Spots.{AreChanged, SpotState}
use Rattle.shroud.specs.Tally.{IsFollowed, TallyState, any_views, views_at}
use Rattle.shroud.proofs.TallyLemmas.{Leaves, state, was_put_in}
use Rattle.shroud.proofs.tally.Tally.put_in.Goals as goal

left :
    (c : goal.After-push) →
    Leaves (λ place. any_views (state c.self.inside.rules.value c.self.inside.spots c.self.inside.viewers) place (c.args.v.now ∷ []))
    c.self.inside.rules.value c.self.inside.spots c.count.new.spots
    c.self.inside.viewers c.push.new.self
left c =
    let s : SpotState = c.self.inside.spots in
    let rules : List Kind = c.self.inside.rules.value in
    let v : Viewer = c.args.v.now in
    let room : length c.self.inside.viewers.fresh < 2048 =
    subst (λ (t : TallyState). length t.lists.fresh < 2048) (sym c.self.view_is) c.requires in
    let changes : AreChanged 1 (λ place. views_at rules s.width s.height place v) s.cells c.count.new.spots.cells =
    subst (λ (r : List Kind). AreChanged 1 (λ place. views_at r s.width s.height place v) s.cells c.count.new.spots.cells)
    c.deref.ensures c.count.ensures.changes in
    was_put_in rules s c.count.new.spots c.self.inside.viewers c.push.new.self v c.self.invariant
    room changes c.count.ensures.same c.push.ensures

pub invariant_of-self : goal.invariant_of-self
invariant_of-self c = (left c).0

pub returns-clause-follows : goal.returns-clause-follows
returns-clause-follows c =
    subst (λ (t : TallyState). IsFollowed (λ place. any_views t place (c.args.v.now ∷ [])) t (state c.self.inside.rules.value c.count.new.spots c.push.new.self))
    c.self.view_is (left c).1
