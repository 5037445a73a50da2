use Rattle.std.proofs.Common.{rules, refl, ◌∙◌, ◌≡◌}
use Rattle.std.specs.Prelude.{None}
use Rattle.replay_file.specs.declared.limits.TheConstants.{VERSION}
use Rattle.replay_file.specs.PartKind.{part_of}
use Rattle.replay_file.specs.ReplayBytes.{header_bytes}
use Rattle.replay_run.proofs.MigratingLemmas.{all_written, difference_found, written_begins}
use Rattle.replay_run.proofs.MigratingLemmas.{written_step}
use Rattle.replay_run.specs.Rerun.{rerun_over}
use Rattle.replay_run.proofs.RerunLemmas.{IsSoFar, begins, part_step, skips_none}
use Rattle.replay_run.proofs.migration.migrate.Goals as goal

pub loop-kind-init : goal.loop-kind-init
loop-kind-init g c =
    let r = c.args.r.now in
    let run =
    rerun_over g.S.Sim.after g.S.Sim.hash_of g.S.FirstHash.first_hash_of g.S.Sim.summary_of
    c.args.world in
    let so_far :
    IsSoFar run 0 r c.iter-left.result
    (record { difference = None; frames = 0; world = c.args.world }) =
    begins _ _ _ _ _ c.requires.valid (skips_none _ _ c.iter-left.ensures) refl refl refl in (
      c.requires.clients,
      c.requires.fresh,
      refl,
      so_far,
      written_begins run r (header_bytes VERSION r.rules r.seed r.clients) c.in_ok-writer.writer
          c.iter-left.result _ c.requires.valid so_far c.iter-left.ensures c.in_ok-writer.ensures,
    )

pub loop-kind-preserved : goal.loop-kind-preserved
loop-kind-preserved g c =
    let r = c.args.r.now in
    let run =
    rerun_over g.S.Sim.after g.S.Sim.hash_of g.S.FirstHash.first_hash_of g.S.Sim.summary_of
    c.args.world in
    let is = c.loop-kind.invariant in
    let none : c.pass.new.self.difference ≡ None = search rules in (
      c.pass.ensures.clients ∙ is.0,
      c.pass.ensures.steps is.1,
      none,
      part_step _ _ _ _ _ _ _ _ is.3 c.in-Some.ensures c.pass.ensures.value,
      written_step run r (header_bytes VERSION r.rules r.seed r.clients) (part_of c.in-Some.kind c.next_into.new.frame)
          c.loop-kind.left c.next_into.new.self c.loop-kind.run c.pass.new.self c.loop-kind.writer
          c.write_anew.new.writer c.loop-kind.marks c.in_ok-marks.field-0 is.3 c.in-Some.ensures
          c.pass.ensures.value c.in_ok-marks.ensures.written c.in_ok-marks.ensures.fits
          c.in_ok-marks.ensures.marks is.4,
    )

pub returns-in-Some-difference : goal.returns-in-Some-difference
returns-in-Some-difference g c =
    let run =
    rerun_over g.S.Sim.after g.S.Sim.hash_of g.S.FirstHash.first_hash_of g.S.Sim.summary_of
    c.args.world in
    difference_found run c.args.r.now c.next_into.new.self c.pass.new.self c.in-Some-difference.difference
    (part_step _ _ _ _ _ _ _ _ c.loop-kind.invariant.3 c.in-Some.ensures c.pass.ensures.value)
    (search rules)

pub returns : goal.returns
returns g c =
    let r = c.args.r.now in
    let is = c.loop-kind.invariant in
    all_written _ r c.loop-kind.run c.loop-kind.left
    (header_bytes VERSION r.rules r.seed r.clients) c.loop-kind.writer c.in_ok-finish.field-0
    c.loop-kind.marks c.requires.valid c.replay_fits.ensures refl is.3 is.2 c.in_default.ensures.0
    is.4 c.in_ok-finish.ensures
