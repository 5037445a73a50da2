use Rattle.sync_hash.proofs.AnyOrderLemmas.{same_after_header, same_in_any_order}
use Rattle.sync_hash.proofs.law.parts_tell_the_world_in_any_order.Goals as goal

pub returns : goal.returns
returns c =
    record {
      after_header = λ w v are first permuted. same_after_header w v are first permuted;
      any_order = λ w v are other back permuted. same_in_any_order w v are other back permuted;
    }
