use Rattle.local_command.proofs.local.local_text.Goals as goal

-- The maker without kept hashes makes the same games.
pub returns : goal.returns
returns g c = rw (← c.in_ok-maker.ensures) c.match_text.ensures
