use Rattle.std.proofs.Common.{Bool, List, ap, ◌∙◌, arith}
use Rattle.bot_player.specs.KindFlags.{flag_of}
use Rattle.bot_player.proofs.WordLemmas.{bit_in, past_in}
use Rattle.bot_player.proofs.kind_flags.KindFlags.get.Goals as goal

pub returns-then-kind-lt-MAX_KINDS : goal.returns-then-kind-lt-MAX_KINDS
returns-then-kind-lt-MAX_KINDS c =
    bit_in c.self.inside.words c.args.kind c.from.result (omega (arith, c.if-kind-lt-MAX_KINDS.true))
    (omega (arith, c.from.ensures))
    ∙ ap (λ (flags : List Bool). flag_of flags c.args.kind) c.self.view_is

pub returns-else-kind-lt-MAX_KINDS : goal.returns-else-kind-lt-MAX_KINDS
returns-else-kind-lt-MAX_KINDS c =
    past_in c.self.inside.words c.args.kind (omega (arith, c.if-kind-lt-MAX_KINDS.false))
    ∙ ap (λ (flags : List Bool). flag_of flags c.args.kind) c.self.view_is
