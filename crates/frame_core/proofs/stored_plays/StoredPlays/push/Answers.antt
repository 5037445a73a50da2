use Rattle.std.proofs.Common.{◌∙◌, ◌∷◌, [], ◌++◌, ap}
use Rattle.frame_core.proofs.StoredPlaysLemmas.{pushed}
use Rattle.frame_core.proofs.stored_plays.StoredPlays.push.Goals as goal

pub invariant_of-self-2 : goal.invariant_of-self-2
invariant_of-self-2 c =
    let more =
    pushed c.self.inside.full.items c.keep.new.full.items c.self.inside.places.items c.reserve.new.self.items
    c.push_reserved.new.self.items c.args.orders.now c.in_ok-place.place c.self.invariant.0 c.self.invariant.1
    c.reserve.ensures.items c.push_reserved.ensures.items c.in_ok-place.ensures.kept in
    (more.there, more.plays, c.self.invariant.2)

pub returns-clause-added : goal.returns-clause-added
returns-clause-added c =
    (pushed c.self.inside.full.items c.keep.new.full.items c.self.inside.places.items c.reserve.new.self.items
    c.push_reserved.new.self.items c.args.orders.now c.in_ok-place.place c.self.invariant.0 c.self.invariant.1
    c.reserve.ensures.items c.push_reserved.ensures.items c.in_ok-place.ensures.kept).seen
    ∙ ap (λ plays. plays ++ c.args.orders.now ∷ []) c.self.view_is
