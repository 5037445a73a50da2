use Rattle.std.proofs.Common.{length, arith}
use Rattle.std.proofs.lemmas.Bool.{eqb-true}
use Rattle.match_run.proofs.LocalPasses.{acted_knows, acted_local, found_follows}
use Rattle.match_run.proofs.Taking.{taken_so}
use Rattle.match_run.proofs.ticking.take_client.Goals as goal

pub returns-clause-own : goal.returns-clause-own
returns-clause-own g c =
    let (K, acted, is) = c.in_ok-plays.ensures.ok in
    taken_so _ _ c.args.n 256 c.in_ok-plays.plays _ K (c.requires.pass.columns c.args.c c.requires.client) c.requires.seen (omega arith) acted.found is
    (λ none. eqb-true (length c.in_ok-plays.plays) 0 none) _ c.hold.ensures.from c.hold.ensures.plays c.hold.ensures.left

pub returns-clause-pass : goal.returns-clause-pass
returns-clause-pass g c =
    let (K, acted, is) = c.in_ok-plays.ensures.ok in
    acted_local _ _ _ _ c.requires.pass c.in_ok-plays.ensures.pass _ c.requires.client K K acted
    (found_follows _ _ K (c.requires.pass.columns c.args.c c.requires.client) acted.found)

pub returns-clause-knows : goal.returns-clause-knows
returns-clause-knows g c =
    let (K, acted, is) = c.in_ok-plays.ensures.ok in
    acted_knows _ _ _ _ c.requires.pass c.in_ok-plays.ensures.pass _ c.requires.client K K acted
    (found_follows _ _ K (c.requires.pass.columns c.args.c c.requires.client) acted.found)
    c.requires.knows
