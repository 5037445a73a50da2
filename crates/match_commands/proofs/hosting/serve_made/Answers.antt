use Rattle.match_commands.proofs.hosting.serve_made.Goals as goal

-- There is what the match stands on.
pub returns-in-Ok-clause-serves : goal.returns-in-Ok-clause-serves
returns-in-Ok-clause-serves g c old new =
    let serves = rw (c.invite_to-invite.ensures.value) at c.serve_over.ensures.serves in
    rw (c.in-Ok.is) serves
