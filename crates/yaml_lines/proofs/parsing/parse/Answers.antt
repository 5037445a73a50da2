use Rattle.std.proofs.Common.{arith}
use Rattle.yaml_lines.proofs.ParseSteps.{line_within, kept_step, fault_step}
use Rattle.yaml_lines.proofs.ForestSteps.{parsed-end}
use Rattle.yaml_lines.proofs.LinesReadable.{nodes_readable}
use Rattle.yaml_lines.proofs.LimitSteps.{limits-end, nodes_low, nodes_few}
use Rattle.yaml_lines.proofs.parsing.parse.Goals as goal

pub loop-text-preserved : goal.loop-text-preserved
loop-text-preserved c =
    let added = c.in_ok-add_line.ensures {u = tt} in
    let told = c.loop-text.invariant in
    let lines = c.in-Some.ensures.0 in
    record {
      line = omega (arith, line_within _ _ _ added.sound);
      kept = kept_step c.args.file c.loop-text.line c.loop-text.rest.now c.in-Some.text.now c.in-Some.after.now _ _ _ lines added.added told.kept;
      fault = fault_step c.args.file c.loop-text.line _ _ c.loop-text.rest.now c.in-Some.text.now c.in-Some.after.now _ lines added.sound added.level told.fault;
    }

pub returns-clause-readable : goal.returns-clause-readable
returns-clause-readable c =
    nodes_readable c.args.file c.loop-text.line c.args.bytes.now c.loop-text.rest.now _ _ c.in_default.ensures (c.in_ok-forest.ensures {u = tt}) c.loop-text.invariant.kept

pub returns-clause-done : goal.returns-clause-done
returns-clause-done c =
    parsed-end c.args.file c.loop-text.line _ c.args.bytes.now c.loop-text.rest.now _ _ c.in_default.ensures (c.in_ok-forest.ensures {u = tt}) c.loop-text.invariant.kept c.loop-text.invariant.fault

pub returns-clause-nodes : goal.returns-clause-nodes
returns-clause-nodes c =
    let e = limits-end c.args.file c.loop-text.line _ c.args.bytes.now c.loop-text.rest.now _ _ c.in_default.ensures (c.in_ok-forest.ensures {u = tt}) c.loop-text.invariant.kept c.loop-text.invariant.fault in
    nodes_few c.args.file c.args.bytes.now _ e.0 e.1

pub returns-clause-low : goal.returns-clause-low
returns-clause-low c =
    let e = limits-end c.args.file c.loop-text.line _ c.args.bytes.now c.loop-text.rest.now _ _ c.in_default.ensures (c.in_ok-forest.ensures {u = tt}) c.loop-text.invariant.kept c.loop-text.invariant.fault in
    nodes_low c.args.file c.args.bytes.now _ e.0 e.1
