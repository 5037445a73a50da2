use Rattle.std.proofs.Common.{◌≡◌, Some, List, ap, subst, ◌∙◌}
use Rattle.std.specs.Prelude.{slice_get}
use Rattle.rule_traits.specs.declared.kind.Kind.{Kind}
use Rattle.shroud.specs.declared.viewer.Viewer.{Viewer}
use Rattle.shroud.specs.Spots.{AreChanged, SpotState}
use Rattle.shroud.specs.Tally.{IsFollowed, TallyState, no_place, views_at}
use Rattle.shroud.proofs.TallyLemmas.{Leaves, state, taken_out}
use Rattle.shroud.proofs.tally.Tally.take_first_out.Goals as goal

left :
    (c : goal.After-pass) →
    Leaves no_place c.self.inside.rules.value c.self.inside.spots c.count.new.spots
    c.self.inside.viewers c.pass.new.self
left c =
    let s : SpotState = c.self.inside.spots in
    let rules : List Kind = c.self.inside.rules.value in
    let first : Viewer = c.args.first.now in
    let is : slice_get c.self.inside.viewers.left 0 ≡ Some first =
    ap (λ (t : TallyState). slice_get t.lists.left 0) c.self.view_is ∙ c.requires in
    let changes : AreChanged 65535 (λ place. views_at rules s.width s.height place first) s.cells c.count.new.spots.cells =
    subst (λ (r : List Kind). AreChanged 65535 (λ place. views_at r s.width s.height place first) s.cells c.count.new.spots.cells)
    c.deref.ensures c.count.ensures.changes in
    taken_out rules s c.count.new.spots c.self.inside.viewers c.pass.new.self first c.self.invariant
    is changes c.count.ensures.same c.pass.ensures

pub invariant_of-self : goal.invariant_of-self
invariant_of-self c = (left c).0

pub returns-clause-follows : goal.returns-clause-follows
returns-clause-follows c =
    subst (λ (t : TallyState). IsFollowed no_place t (state c.self.inside.rules.value c.count.new.spots c.pass.new.self))
    c.self.view_is (left c).1
