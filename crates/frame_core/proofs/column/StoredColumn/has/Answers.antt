use Rattle.frame_core.proofs.StoredColumnLemmas.{has_play, has_none, has_leave}
use Rattle.frame_core.proofs.column.StoredColumn.has.Goals as goal

-- A play that is kept is what the client has.
pub returns-in-Some-clause-value : goal.returns-in-Some-clause-value
returns-in-Some-clause-value c =
    has_play c.self.inside.plays c.self.inside.has_left c.args.n _ c.self.view_is _ c.in-Some.ensures

-- Without a departure the client has nothing after its plays.
pub returns-then-not-self-clause-value : goal.returns-then-not-self-clause-value
returns-then-not-self-clause-value c =
    has_none c.self.inside.plays c.self.inside.has_left c.args.n _ c.self.view_is
    c.in_default.ensures c.if-not-self.true

-- After its plays a client that has left has its departure.
pub returns-clause-value : goal.returns-clause-value
returns-clause-value c =
    has_leave c.self.inside.plays c.self.inside.has_left c.args.n _ c.self.view_is c.self.inside.leave
    c.in_default.ensures c.if-not-self.false c.self.invariant.0
