-- No made match is refused for a fault.
use Rattle.std.proofs.Common.{◌≡◌, ap, sym, subst, ℕ, Ok, IsOk, codes, refl}
use Rattle.base.specs.Steps.{◌>>=◌}
use Rattle.game_io.specs.Files.{Files}
use Rattle.game_model.specs.Setup.{Setup}
use Rattle.command_answers.specs.Step.{Step}
use Rattle.command_words.specs.RequestPlain.{Make}
use Rattle.drill.specs.MadeDrill.{made_drill_of}
use Rattle.rule_commands.specs.SampleSetup.{sample_setup}
use Rattle.rule_commands.proofs.SampleLemmas.{sample_has_no_fault}
use Rattle.match_commands.specs.Made.{make_step, made_text}
use Rattle.match_commands.specs.Request.{IsFaultless, text_reply}

pub make_is : (number : ℕ) → make_step number ≡ Ok (made_text sample_setup (made_drill_of number))
make_is number =
    ap (λ (step : Step Setup). step >>= λ setup. Ok (made_text setup (made_drill_of number)))
    (sample_has_no_fault (codes "sample rules") (codes "sample map"))

pub made_matches_are_accepted : (number : ℕ) (files : Files) → IsFaultless (Make number) files
made_matches_are_accepted number files = subst (λ step. IsOk (text_reply step)) (sym (make_is number)) refl
