use Rattle.std.proofs.Common.{refl}
use Rattle.match_commands.proofs.RunLemmas.{request_runs}
use Rattle.match_commands.proofs.waiting.run_request.Goals as goal

pub returns-in-Local : goal.returns-in-Local
returns-in-Local g c = rw (c.in-Local.is) (request_runs _ _ _ _ _ c.run_local_match.ensures, (refl, refl))

pub returns-in-Serve : goal.returns-in-Serve
returns-in-Serve g c = rw (c.in-Serve.is) c.run_serve.ensures

pub returns-in-Play : goal.returns-in-Play
returns-in-Play g c = rw (c.in-Play.is) (c.run_play.ensures (g.C.Source.state c.args.console.now))

pub returns-in-PlayBot : goal.returns-in-PlayBot
returns-in-PlayBot g c = rw (c.in-PlayBot.is) (c.run_bot.ensures (g.C.Source.state c.args.console.now))
