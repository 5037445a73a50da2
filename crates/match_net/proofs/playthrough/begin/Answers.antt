use Rattle.std.proofs.Common.{refl}
use Rattle.match_net.proofs.OpeningLemmas.{first_ends, entry_first}
use Rattle.match_net.proofs.playthrough.begin.Goals as goal

pub returns-in-Welcome-clause-ok : goal.returns-in-Welcome-clause-ok
returns-in-Welcome-clause-ok g c = rw c.in-Welcome.is (c.accept.ensures.ok)

pub returns-in-Welcome-clause-err : goal.returns-in-Welcome-clause-err
returns-in-Welcome-clause-err g c = rw c.in-Welcome.is (c.accept.ensures.err)

pub returns-in-Refused-clause-ok : goal.returns-in-Refused-clause-ok
returns-in-Refused-clause-ok g c =
    rw c.in-Refused.is (λ rules first before more stream finds said.
    first_ends _ first _ before _ _ _ more _ _ _ _ _ refl finds said c.unwelcomed.ensures)

pub returns-in-Entry-clause-ok : goal.returns-in-Entry-clause-ok
returns-in-Entry-clause-ok g c =
    rw c.in-Entry.is (λ rules first before more stream finds said.
    entry_first _ first _ before _ _ _ _ _ more _ _ _ _ _ c.bad_welcome.ensures finds said
    c.unwelcomed-in-Entry.ensures)
