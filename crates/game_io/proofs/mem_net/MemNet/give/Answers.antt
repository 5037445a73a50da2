use Rattle.game_io.proofs.LinkLemmas.{given_link}
use Rattle.game_io.proofs.mem_net.MemNet.give.Goals as goal

pub returns-clause-gives : goal.returns-clause-gives
returns-clause-gives c =
    rw (← c.self.view_is)
    (given_link c.self.inside.coming.items c.self.inside.given.items c.self.inside.schedule c.next-2.new.self c.next-2.result
    c.next-2.ensures.link c.next-2.ensures.coming c.next-2.ensures.given (rw c.next-2.ensures.plan c.next.ensures.later))
