-- The answer of the command `datagrams`.
use Rattle.std.proofs.Common.{ℕ, List, None, Result, Ok, Err, IsOk, ◌≡◌, refl, inl}
use Rattle.drill_words.specs.declared.drill_fault.DrillFault.{DrillFault}
use Rattle.command_answers.specs.declared.statuses.TheConstants.{DONE}
use Rattle.command_answers.proofs.CausesLemmas.{done_settled}
use Rattle.command_answers.specs.Reply.{done}
use Rattle.command_answers.specs.Step.{replied}
use Rattle.datagrams_command.specs.Datagrams.{answered, datagrams_step, script_text}
use Rattle.match_commands.proofs.AnswerLemmas.{AllFit, ok_fits}

-- It writes no file.
pub datagrams_fit : (script bytes : List ℕ) → AllFit None (datagrams_step script bytes)
datagrams_fit script bytes = choice (script_text bytes)
  where
    choice : (text : Result (List ℕ) DrillFault) → AllFit None (answered script text)
    choice (Ok text) = ok_fits None (done text) (record { settled = done_settled; named = inl refl })
    choice (Err fault) = λ reply is. absurd cc

-- Where it is no refusal, it is done.
pub datagrams_done : (script bytes : List ℕ) → IsOk (datagrams_step script bytes) → (replied (datagrams_step script bytes)).status ≡ DONE
datagrams_done script bytes ok = choice (script_text bytes) ok
  where
    choice : (text : Result (List ℕ) DrillFault) → IsOk (answered script text) → (replied (answered script text)).status ≡ DONE
    choice (Ok text) ok = refl
    choice (Err fault) ok = absurd cc
