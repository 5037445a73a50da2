use Rattle.frame_core.proofs.StoredColumnLemmas.{stands_play, stands_leave, stands_none}
use Rattle.frame_core.proofs.StoredColumnLemmas.{stands_elsewhere}
use Rattle.frame_core.proofs.column.StoredColumn.entry.Goals as goal

-- A play that is kept stands.
pub returns-in-Some : goal.returns-in-Some
returns-in-Some c =
    stands_play c.self.inside.plays c.self.inside.has_left c.args.n _ c.self.view_is _ c.in-Some.ensures

-- Without a departure nothing stands after the plays.
pub returns-then-not-self : goal.returns-then-not-self
returns-then-not-self c =
    stands_none c.self.inside.plays c.self.inside.has_left c.args.n _ c.self.view_is
    c.in_default.ensures c.if-not-self.true

-- A departure stands at no other frame than that after the plays.
pub returns-then-n-len : goal.returns-then-n-len
returns-then-n-len c =
    stands_elsewhere c.self.inside.plays c.self.inside.has_left c.args.n _ c.self.view_is
    c.in_default.ensures (rw c.len.ensures at c.if-n-len.true)

-- The departure stands after the plays.
pub returns : goal.returns
returns c =
    stands_leave c.self.inside.plays c.self.inside.has_left c.args.n _ c.self.view_is c.self.inside.leave
    c.in_default.ensures c.if-not-self.false (rw c.len.ensures at c.if-n-len.false) c.self.invariant.0
