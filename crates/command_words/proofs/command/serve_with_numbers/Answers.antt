use Rattle.std.proofs.Common.{◌≡◌, ◌∙◌, ap, codes, rules, ℕ}
use Rattle.game_orders.specs.declared.limits.TheConstants.{MAX_LAG}
use Rattle.command_words.specs.Commands.{timed_app, number_option}
use Rattle.command_words.proofs.command.serve_with_numbers.Goals as goal

pub returns : goal.returns
unfolding timed_app
returns c =
    let most : c.from.result ≡ MAX_LAG = search rules in
    let rule = c.number_option.ensures.rule ∙ ap (λ (most : ℕ). number_option (codes "lag") 1 most) most in
    c.with_arg.ensures _ _
    (c.with_arg-command.ensures _ _ c.hosted_command.ensures rule c.number_option.ensures.local)
    c.number_option-2.ensures.rule c.number_option-2.ensures.local
