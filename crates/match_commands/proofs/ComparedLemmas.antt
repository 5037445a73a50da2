-- A step that was made, and what is answered after it.
use Rattle.std.proofs.Common.{◌≡◌, Ok, Result, sym, subst}
use Rattle.base.specs.Steps.{◌>>=◌}
use Rattle.command_answers.specs.declared.answer.Answer.{Answer}
use Rattle.command_answers.specs.declared.stop.Stop.{Stop}
use Rattle.command_answers.specs.Answer.{reply_of}
use Rattle.command_answers.specs.Reply.{Reply}
use Rattle.command_answers.specs.Step.{Step}
use Rattle.command_answers.specs.Stop.{ReturnsStep}

pub then_returns :
    {T : Type 0} (result : Result Answer Stop) (step : Step T) (value : T) (next : T → Step Reply) →
    step ≡ Ok value → ReturnsStep result reply_of (next value) → ReturnsStep result reply_of (step >>= next)
then_returns result step value next is returns = subst (λ step. ReturnsStep result reply_of (step >>= next)) (sym is) returns
