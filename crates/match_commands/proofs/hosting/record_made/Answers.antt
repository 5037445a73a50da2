use Rattle.match_commands.proofs.hosting.record_made.Goals as goal

-- There is what the match stands on.
pub returns-in-Ok-clause-records : goal.returns-in-Ok-clause-records
returns-in-Ok-clause-records g c =
    let records = rw (c.invite_to-invite.ensures.value) at c.serve_recorded.ensures.records in
    rw (c.in-Ok.is) records
