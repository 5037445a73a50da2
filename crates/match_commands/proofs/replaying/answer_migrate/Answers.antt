use Rattle.std.proofs.Common.{◌≡◌, ℕ, Option, [], Ok, subst}
use Rattle.std.specs.Prelude.{unwrap_or}
use Rattle.game_model.specs.Setup.{Setup}
use Rattle.command_words.specs.RequestPlain.{plain_match}
use Rattle.command_answers.specs.FileWrite.{FileWrite}
use Rattle.command_answers.specs.Given.{replay_contents}
use Rattle.rule_commands.specs.Numbers.{numbered_setup_step}
use Rattle.replay_commands.specs.Replays.{ReplaysAgain}
use Rattle.match_commands.proofs.KeptLemmas.{made_kept}
use Rattle.match_commands.proofs.replaying.answer_migrate.Goals as goal

-- The rules and the map were read.
pub returns-clause-keeps : goal.returns-clause-keeps
returns-clause-keeps c =
    let query = plain_match c.args.query.now in
    let contents = replay_contents c.args.given.now in
    let made : Setup × ℕ = (c.in_ok-maker.maker, c.in_ok-maker.number) in
    made_kept (λ (made : Setup × ℕ) (write : Option FileWrite). ReplaysAgain made.1 made.0 (unwrap_or contents.replay []) write) c.migrate_answer.result
    (numbered_setup_step query.rules query.map_file contents) made
    (subst (λ names. numbered_setup_step names query.map_file contents ≡ Ok made) c.as_slice.ensures c.in_ok-maker.ensures)
    (rw c.deref.ensures.value at c.migrate_answer.ensures.again)
