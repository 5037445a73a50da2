use Rattle.std.proofs.Common.{Bool, ap, ◌∙◌}
use Rattle.std.specs.Prelude.{List}
use Rattle.std.proofs.lemmas.Bool.{both_ways}
use Rattle.bot_player.specs.KindFlags.{flag_of}
use Rattle.bot_player.proofs.FlagLemmas.{none_set}
use Rattle.bot_player.proofs.products.Products.of.Goals as goal

pub invariant_of-result : goal.invariant_of-result
invariant_of-result c =
    λ b set. absurd (both_ways (flag_of c.none.result b)
    (ap (λ (fs : List Bool). flag_of fs b) c.none.ensures ∙ none_set b) set)
