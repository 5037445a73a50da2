use Rattle.std.proofs.Common.{◌≡◌, ◌≤◌, take}
use Rattle.shroud.specs.Tally.{IsFollowed, any_views}
use Rattle.shroud.specs.Viewers.{viewers_of}
use Rattle.shroud.proofs.tally.Tally.follow_each.Given as goal

abbrev pub invariant-loop-i : goal.invariant-loop-i
invariant-loop-i g l =
    (l.self.lists.fresh ≡ viewers_of (take l.i (g.A.LendsActors.actors_of l.fn.actors)))
    × IsFollowed
    (λ place. any_views l.initial.self place (viewers_of (take l.i (g.A.LendsActors.actors_of l.fn.actors))))
    l.initial.self l.self
    × (l.anew ≤ l.i)
