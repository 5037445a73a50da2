use Rattle.std.proofs.Common.{◌≡◌, ℕ, [], Ok, subst}
use Rattle.std.specs.Prelude.{unwrap_or}
use Rattle.game_model.specs.Setup.{Setup}
use Rattle.command_words.specs.RequestPlain.{plain_match}
use Rattle.command_answers.specs.Answer.{reply_of}
use Rattle.command_answers.specs.Given.{compared_contents}
use Rattle.command_answers.specs.Stop.{ReturnsStep}
use Rattle.compare_command.specs.Comparing.{compare_step}
use Rattle.rule_commands.specs.Numbers.{numbered_setup_step}
use Rattle.match_commands.proofs.ComparedLemmas.{then_returns}
use Rattle.match_commands.proofs.comparing.answer_over.Goals as goal

-- The rules and the map were read.
pub returns : goal.returns
returns c =
    let query = plain_match c.args.query.now in
    let second = c.args.second.now in
    let contents = compared_contents c.args.given.now in
    let made : Setup × ℕ = (c.in_ok-maker.maker, c.in_ok-maker.number) in
    then_returns c.compare_answer.result (numbered_setup_step query.rules query.map_file contents) made
    (λ made. compare_step query.file second made.1 made.0 c.args.given.now.first.items (unwrap_or contents.replay []))
    (subst (λ names. numbered_setup_step names query.map_file contents ≡ Ok made) c.as_slice-names.ensures c.in_ok-maker.ensures)
    (subst (λ others. ReturnsStep c.compare_answer.result reply_of (compare_step query.file second made.1 made.0 c.args.given.now.first.items others)) c.second_bytes.ensures
    (subst (λ bytes. ReturnsStep c.compare_answer.result reply_of (compare_step query.file second made.1 made.0 bytes c.second_bytes.result.now)) c.deref.ensures.value
    c.compare_answer.ensures))
