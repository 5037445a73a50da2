use Rattle.replay_run.specs.declared.migration.Migration.TheVariants.{Migrated}
use Rattle.replay_run.specs.Migrating.{Migrates}
use Rattle.replay_commands.specs.Replays.{game_rerun}
use Rattle.replay_commands.proofs.MigrateLemmas.{migrated_again}
use Rattle.replay_commands.proofs.replays.answer_migrate.Goals as goal

pub returns-in_ok-migrated_text-in-Migrated-clause-again :
    goal.returns-in_ok-migrated_text-in-Migrated-clause-again
returns-in_ok-migrated_text-in-Migrated-clause-again c = λ bytes read name.
    let made = c.in-Migrated in
    let migrates : Migrates (game_rerun c.args.maker.now c.args.r.now) c.args.r.now (Migrated made.bytes made.frames made.marks) =
    rw (c.in-Migrated.is, c.in_ok-world.ensures.opens) at c.in_ok-difference.ensures in
    migrated_again c.args.maker.now c.args.to.now c.args.r.now bytes made.bytes.items
    c.a_migrated_replay_gives_the_same.ensures migrates.0 migrates.1 read name
