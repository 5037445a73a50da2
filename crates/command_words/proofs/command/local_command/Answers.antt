use Rattle.std.proofs.Common.{◌≡◌, ◌∙◌, ap, codes, rules, ℕ}
use Rattle.command_words.specs.declared.TheConstants.{MAX_BOTS}
use Rattle.command_words.specs.Commands.{local_app, number_option}
use Rattle.command_words.proofs.command.local_command.Goals as goal

pub returns : goal.returns
unfolding local_app
returns c =
    let most : c.from.result ≡ MAX_BOTS = search rules in
    let rule = c.number_option.ensures.rule ∙ ap (λ (most : ℕ). number_option (codes "bots") 0 most) most in
    c.with_arg.ensures _ _
    (c.with_arg-command.ensures _ _ c.played_command.ensures rule c.number_option.ensures.local)
    c.file_names.ensures.rule c.file_names.ensures.local
