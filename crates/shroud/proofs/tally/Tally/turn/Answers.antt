use Rattle.std.proofs.Common.{◌≡◌, [], ap, subst, ◌∙◌}
use Rattle.shroud.specs.Tally.{IsFollowed, TallyState, no_place}
use Rattle.shroud.proofs.TallyLemmas.{Leaves, state, was_turned}
use Rattle.shroud.proofs.tally.Tally.turn.Goals as goal

left :
    (c : goal.After-turn) →
    Leaves no_place c.self.inside.rules.value c.self.inside.spots c.self.inside.spots
    c.self.inside.viewers c.turn.new.self
left c =
    let none : c.self.inside.viewers.left ≡ [] =
    ap (λ (t : TallyState). t.lists.left) c.self.view_is ∙ c.requires in
    was_turned c.self.inside.rules.value c.self.inside.spots c.self.inside.viewers c.turn.new.self
    c.self.invariant none c.turn.ensures

pub invariant_of-self : goal.invariant_of-self
invariant_of-self c = (left c).0

pub returns-clause-follows : goal.returns-clause-follows
returns-clause-follows c =
    subst (λ (t : TallyState). IsFollowed no_place t (state c.self.inside.rules.value c.self.inside.spots c.turn.new.self))
    c.self.view_is (left c).1

pub returns-clause-tally : goal.returns-clause-tally
returns-clause-tally c = (left c).0
