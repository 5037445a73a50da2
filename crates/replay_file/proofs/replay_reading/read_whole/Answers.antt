use Rattle.std.proofs.Common.{List, ℕ, subst}
use Rattle.replay_file.specs.HeaderClauses.{IsHeader}
use Rattle.replay_file.proofs.WholeLemmas.{whole_read}
use Rattle.replay_file.proofs.replay_reading.read_whole.Goals as goal

pub returns : goal.returns
returns c =
    whole_read c.args.here c.args.bytes.now c.read_header.new.c c.in_ok-header.header
    c.in_ok-parts.parts
    (subst (λ (old : List ℕ). IsHeader c.args.here old c.read_header.new.c c.in_ok-header.header)
    c.over-c.ensures c.in_ok-header.ensures.header) c.in_ok-parts.ensures
