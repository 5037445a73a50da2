use Rattle.std.proofs.Common.{refl}
use Rattle.match_run.proofs.LocalPasses.{client_still}
use Rattle.match_run.proofs.playing.play_or_raise.Goals as goal

pub returns-then-is_err-clause-own : goal.returns-then-is_err-clause-own
returns-then-is_err-clause-own g c =
    let played = c.play_script-played.ensures in
    record { pass = played.pass; client = c.requires.client; made = client_still _ _ c.args.own.now _ c.play_script-played.new.pass c.requires refl played.others }

pub returns-else-is_err-clause-own : goal.returns-else-is_err-clause-own
returns-else-is_err-clause-own g c =
    let played = c.play_script-played.ensures in
    record { pass = played.pass; client = c.requires.client; made = client_still _ _ c.args.own.now _ c.play_script-played.new.pass c.requires refl played.others }
