use Rattle.std.proofs.Common.{sym, subst}
use Rattle.sync_hash.specs.Kept.{Kept, IsKeptOf}
use Rattle.sync_hash.proofs.SumLemmas.{hash_1_kept}
use Rattle.sync_hash.proofs.hasher.Hasher.hash_1.Goals as goal

pub returns-clause-world : goal.returns-clause-world
returns-clause-world c w is same =
    let kept = subst (λ (k : Kept). IsKeptOf k w.actors w.ore) (sym c.self.view_is) is in
    hash_1_kept _ w c.args.head.now c.header_number_1-header.result c.self.inside.sum c.len.result c.len.ensures.value
    c.header_number_1-header.ensures c.self.invariant.summed kept same
