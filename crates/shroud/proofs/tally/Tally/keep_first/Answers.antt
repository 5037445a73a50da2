use Rattle.std.proofs.Common.{◌≡◌, ◌<◌, ◌∷◌, ◌++◌, [], Some, List, drop, length, sym, ap, subst, ◌∙◌}
use Rattle.std.specs.Prelude.{slice_get}
use Rattle.rule_traits.specs.declared.kind.Kind.{Kind}
use Rattle.shroud.specs.declared.viewer.Viewer.{Viewer}
use Rattle.shroud.specs.Spots.{SpotState}
use Rattle.shroud.specs.Tally.{IsFollowed, TallyState, any_views}
use Rattle.shroud.specs.Viewers.{Lists}
use Rattle.shroud.proofs.TallyLemmas.{Leaves, state, was_kept}
use Rattle.shroud.proofs.tally.Tally.keep_first.Goals as goal

left :
    (c : goal.After-push) →
    Leaves (λ place. any_views (state c.self.inside.rules.value c.self.inside.spots c.self.inside.viewers) place (c.args.first.now ∷ []))
    c.self.inside.rules.value c.self.inside.spots c.self.inside.spots
    c.self.inside.viewers c.push.new.self
left c =
    let s : SpotState = c.self.inside.spots in
    let rules : List Kind = c.self.inside.rules.value in
    let first : Viewer = c.args.first.now in
    let is : slice_get c.self.inside.viewers.left 0 ≡ Some first =
    ap (λ (t : TallyState). slice_get t.lists.left 0) c.self.view_is ∙ c.requires.first in
    let room : length c.self.inside.viewers.fresh < 2048 =
    subst (λ (t : TallyState). length t.lists.fresh < 2048) (sym c.self.view_is) c.requires.room in
    let lists_are : c.push.new.self ≡ record { left = drop 1 c.self.inside.viewers.left; fresh = c.self.inside.viewers.fresh ++ first ∷ [] } =
    c.push.ensures ∙ ap (λ (l : Lists). record l { fresh = l.fresh ++ first ∷ [] }) c.pass.ensures in
    was_kept rules s c.self.inside.viewers c.push.new.self first c.self.invariant is room lists_are

pub invariant_of-self : goal.invariant_of-self
invariant_of-self c = (left c).0

pub returns-clause-follows : goal.returns-clause-follows
returns-clause-follows c =
    subst (λ (t : TallyState). IsFollowed (λ place. any_views t place (c.args.first.now ∷ [])) t (state c.self.inside.rules.value c.self.inside.spots c.push.new.self))
    c.self.view_is (left c).1
