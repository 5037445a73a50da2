use Rattle.server_core.proofs.ServerLemmas.{grow_is_server}
use Rattle.server_core.proofs.server.Server.drop_client.Goals as goal

pub invariant_of-self : goal.invariant_of-self
invariant_of-self g c =
    grow_is_server g.S.Sim.clients_of g.S.Sim.steps _ c.leave.new.self c.leave.ensures.grows
    c.self.invariant
