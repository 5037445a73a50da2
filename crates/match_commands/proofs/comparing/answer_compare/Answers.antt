use Rattle.std.proofs.Common.{◌≡◌, Ok, subst}
use Rattle.command_words.specs.RequestPlain.{plain_match}
use Rattle.command_answers.specs.Given.{compared_contents}
use Rattle.match_commands.specs.Compared.{compared_over, first_step}
use Rattle.match_commands.proofs.ComparedLemmas.{then_returns}
use Rattle.match_commands.proofs.comparing.answer_compare.Goals as goal

-- The first file is not too long.
pub returns : goal.returns
returns c =
    let query = plain_match c.args.query.now in
    let contents = compared_contents c.args.given.now in
    then_returns c.answer_over.result (first_step query.file c.args.given.now.first.items) c.args.given.now.first.items
    (compared_over query c.args.second.now contents)
    (subst (λ bytes. first_step query.file bytes ≡ Ok bytes) c.deref.ensures.value c.in_ok-check_first.ensures)
    c.answer_over.ensures
