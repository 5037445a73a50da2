use Rattle.std.proofs.Common.{◌≡◌, ◌∙◌, ap, ap₂}
use Rattle.command_answers.specs.Reply.{printed}
use Rattle.serve_command.proofs.serve_text.closed_answer.Goals as goal

pub returns : goal.returns
returns g c = ap₂ printed c.status.ensures (ap (λ v. v.items) c.into_bytes.ensures.value ∙ c.in_ok-text.ensures)
