use Rattle.std.proofs.Common.{sym, subst}
use Rattle.sync_hash.specs.Kept.{Kept, IsKeptOf}
use Rattle.sync_hash.proofs.SumLemmas.{hash_kept}
use Rattle.sync_hash.proofs.hasher.Hasher.hash.Goals as goal

pub returns-clause-world : goal.returns-clause-world
returns-clause-world c w is same =
    let kept = subst (λ (k : Kept). IsKeptOf k w.actors w.ore) (sym c.self.view_is) is in
    hash_kept _ w c.args.head.now c.header_number-header.result c.self.inside.sum c.len.result c.len.ensures.value
    c.header_number-header.ensures c.self.invariant.summed kept same
