use Rattle.std.proofs.Common.{ap, sym, subst, ◌∙◌, ℕ, List}
use Rattle.replay_file.specs.PartStore.{parts_in, IsCountedStore}
use Rattle.replay_file.proofs.StoreLemmas.{count_begins, no_parts}
use Rattle.replay_file.proofs.parts.Parts.new.Goals as goal

pub invariant_of-result : goal.invariant_of-result
invariant_of-result c =
    subst (λ (bytes : List ℕ). IsCountedStore bytes 0) (sym c.new.ensures.items) count_begins

pub returns : goal.returns
returns c = ap parts_in c.new.ensures.items ∙ no_parts
