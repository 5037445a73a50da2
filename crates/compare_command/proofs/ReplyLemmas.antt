-- The reply with what was found.
use Rattle.std.specs.Prelude.{◌≡◌, ℕ, ◌+◌, List, length, Result, Ok, Err, IfOk}
use Rattle.std.proofs.Common.{ap, ◌∙◌, arith}
use Rattle.command_answers.specs.declared.answer.Answer.{Answer}
use Rattle.command_answers.specs.Answer.{reply_of}
use Rattle.game_model.specs.Setup.{Setup}
use Rattle.game_model.specs.declared.world.World.{World}
use Rattle.game_model.specs.ValidWorld.{IsSavedWorld}
use Rattle.compare_command.specs.Comparing.{compared_reply, found_reply}
use Rattle.compare_command.specs.Difference.{Difference}
use Rattle.compare_command.specs.Found.{FoundState, nothing_found, with_found}
use Rattle.compare_command.specs.Lines.{lines_of}
use Rattle.compare_command.specs.Merging.{HasIds}

-- The ids of a saved world.
pub ids_of :
    (setup : Setup) (frames : ℕ) (w : World) → IsSavedWorld setup frames w → HasIds w
ids_of setup frames w saved =
    record {
      rise = saved.valid.actors.rise;
      below = λ k d within. (saved.valid.actors.each k d within).most_id;
    }

pub replied :
    {E : Type 0} (result : Result Answer E) (first last : FoundState)
    (differences : List Difference) → first ≡ nothing_found →
    last ≡ with_found first differences →
    IfOk result (λ answer. reply_of answer ≡ found_reply last) →
    IfOk result (λ answer. reply_of answer ≡ compared_reply differences)
replied (Ok answer) first last differences begun found reply =
    let count : 0 + length differences ≡ length differences = omega arith in
    reply
    ∙ ap found_reply (found ∙ ap (λ (f : FoundState). with_found f differences) begun)
    ∙ ap (λ (n : ℕ). found_reply (record { text = lines_of differences; count = n })) count
replied (Err fault) first last differences begun found reply = tt
