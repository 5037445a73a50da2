use Rattle.std.proofs.Common.{◌≡◌, ◌∙◌, ap, codes, rules, ℕ}
use Rattle.clap.specs.Simple.{new_app}
use Rattle.game_orders.specs.declared.limits.TheConstants.{MAX_CLIENTS}
use Rattle.command_words.specs.Commands.{hosted_app, required_number}
use Rattle.command_words.proofs.command.hosted_command.Goals as goal

pub returns : goal.returns
unfolding hosted_app
returns c =
    let most : c.from.result ≡ MAX_CLIENTS = search rules in
    let rule = c.required_number.ensures.rule ∙ ap (λ (most : ℕ). required_number (codes "clients") 1 most) most in
    c.with_arg.ensures _ _
    (c.with_arg-command.ensures (new_app (codes "serve")) _ (record { app = c.new.ensures.app; local = c.new.ensures.local })
    c.required_option.ensures.rule c.required_option.ensures.local)
    rule c.required_number.ensures.local
