use Rattle.frame_core.proofs.GrowsLemmas.{Grows-refl}
use Rattle.server_core.proofs.ServerLemmas.{grow_is_server}
use Rattle.server_core.proofs.server.Server.up.Goals as goal

-- A greeting and a report leave the columns as they are.
pub returns-in-Hello-clause-grows : goal.returns-in-Hello-clause-grows
returns-in-Hello-clause-grows g c = Grows-refl c.args.self.now.columns

pub returns-in_ok-reported-in-Sync-clause-grows : goal.returns-in_ok-reported-in-Sync-clause-grows
returns-in_ok-reported-in-Sync-clause-grows g c =
    rw (← c.self.view_is) (Grows-refl c.self.inside.columns)

pub returns-in_err-reported-in-Sync-clause-grows : goal.returns-in_err-reported-in-Sync-clause-grows
returns-in_err-reported-in-Sync-clause-grows g c =
    rw (← c.self.view_is) (Grows-refl c.self.inside.columns)

-- Orders and a farewell grow the columns.
pub invariant_of-self-in-Orders : goal.invariant_of-self-in-Orders
invariant_of-self-in-Orders g c =
    grow_is_server g.S.Sim.clients_of g.S.Sim.steps _ c.put_play.new.self c.put_play.ensures.grows
    c.self.invariant

pub invariant_of-self-in-Bye : goal.invariant_of-self-in-Bye
invariant_of-self-in-Bye g c =
    grow_is_server g.S.Sim.clients_of g.S.Sim.steps _ c.leave.new.self c.leave.ensures.grows
    c.self.invariant
