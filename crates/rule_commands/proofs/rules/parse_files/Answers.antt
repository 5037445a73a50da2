-- A file with a fault in its lines.
use Rattle.std.proofs.Common.{◌+◌, ap, ◌∙◌, drop, map}
use Rattle.command_answers.proofs.ListLemmas.{left_is}
use Rattle.rule_commands.proofs.StopLemmas.{parse_stops}
use Rattle.rule_commands.proofs.rules.parse_files.Goals as goal

pub returns-in-Err : goal.returns-in-Err
returns-in-Err c =
    parse_stops _ _ _ _ c.deref.result.now (map (λ bytes. bytes.items) (drop (c.loop-bytes.bytes-index + 1) c.args.contents.now)) _ _ _
    (left_is (λ bytes. bytes.items) c.args.contents.now c.loop-bytes.bytes-index c.bytes-item.result c.deref.result.now c.loop-bytes-test.true (c.deref.ensures.value ∙ ap (λ b. b.items) c.bytes-item.is))
    c.loop-bytes.invariant.0 c.line_stop.ensures c.in-Err.ensures.fault
