-- The whole text, and what its end says.
use Rattle.std.proofs.Common.{◌≡◌, ◌≤◌, ℕ, ◌+◌, List, [], ◌++◌, Option, Some, None, IsNone, Result, Ok, Err, inl, inr}
use Rattle.std.proofs.Common.{refl, sym, subst, append-nil}
use Rattle.base.specs.Written.{WrotePrefix}
use Rattle.base.proofs.WrittenLemmas.{nothing_yet, prefix_of}
use Rattle.base.specs.Steps.{◌>>=◌}
use Rattle.game_io.specs.SinkState.{SinkState}
use Rattle.command_answers.specs.declared.statuses.TheConstants.{OUT_OF_MEMORY}
use Rattle.command_answers.specs.declared.stop.Stop.{Stop}
use Rattle.command_answers.specs.declared.stop.Stop.TheVariants as stop
use Rattle.command_answers.specs.Printing.{MayPrintReply}
use Rattle.command_answers.specs.Reply.{Reply, done}
use Rattle.command_answers.specs.Step.{Step, ended}
use Rattle.command_answers.specs.Stop.{IsStepStop, PrintsStop}
use Rattle.game_model.specs.Setup.{Setup}
use Rattle.replay_file.specs.declared.replay.Replay.{Replay}
use Rattle.tick_core.specs.Game.{GameState, game_start}
use Rattle.world_text.specs.declared.print_fault.PrintFault.{PrintFault}
use Rattle.world_text.specs.declared.print_fault.PrintFault.TheVariants.{Write, NoMemory}
use Rattle.world_text.specs.Printing.{PrintState, HasPrinted, IsPrinted, Prints}
use Rattle.worlds_command.specs.Chosen.{count_from, texts_from}
use Rattle.worlds_command.specs.declared.chosen.Chosen.{Chosen}
use Rattle.worlds_command.specs.SetupLines.{setup_lines}
use Rattle.worlds_command.specs.Worlds.{last_lines, lines_at, status_of, worlds_text}
use Rattle.worlds_command.proofs.ChosenLemmas.{lines_over}
use Rattle.worlds_command.proofs.LineLemmas.{failed_any, prints_two}

-- The last lines have the right count wherever they are printed.
last_printed :
    (now new : PrintState) (count right : ℕ) → (IsNone now.fault → count ≡ right) →
    Prints now new (last_lines count) → Prints now new (last_lines right)
last_printed now new count right counts prints = by_fault now.fault refl
  where
    by_fault : (fault : Option PrintFault) → now.fault ≡ fault → Prints now new (last_lines right)
    by_fault None is =
        subst (λ (n : ℕ). Prints now new (last_lines n)) (counts (rw is refl)) prints
    by_fault (Some fault) is =
        failed_any now new (last_lines count) (last_lines right) (rw is refl) prints

-- All pieces make the text.
pub text_printed :
    (setup : Setup) (r : Replay) (chosen : Chosen) (game : GameState) (a b c d : PrintState)
    (count : ℕ) → game ≡ game_start setup r.seed r.clients → Prints a b (setup_lines setup) →
    Prints b c (texts_from (lines_over game r) chosen 0 (chosen.last + 1)) →
    (IsNone c.fault → count ≡ count_from chosen 0 (chosen.last + 1)) →
    Prints c d (last_lines count) → Prints a d (worlds_text setup r chosen)
unfolding worlds_text
text_printed setup r chosen game a b c d count opens of_setup of_worlds counts of_last =
    let worlds : Prints b c (texts_from (lines_at setup r) chosen 0 (chosen.last + 1)) =
    subst (λ (g : GameState). Prints b c (texts_from (lines_over g r) chosen 0 (chosen.last + 1)))
    opens of_worlds in
    let right = count_from chosen 0 (chosen.last + 1) in
    prints_two a b d (setup_lines setup)
    (texts_from (lines_at setup r) chosen 0 (chosen.last + 1) ++ last_lines right) of_setup
    (prints_two b c d (texts_from (lines_at setup r) chosen 0 (chosen.last + 1)) (last_lines right)
    worlds (last_printed c d count right counts of_last))

-- The end of a text that was printed from the start.
pub has_printed :
    {T : Type 0} (first now : SinkState) (a d : PrintState) (text : List ℕ)
    (result : Result T PrintFault) →
    ((from : SinkState) (whole : List ℕ) → IsPrinted from d [] whole → HasPrinted from now whole result) →
    IsPrinted first a text text → Prints a d text → HasPrinted first now text result
unfolding Prints
has_printed first now a d text result ends fresh prints =
    ends first text
    (prints first [] text
    (subst (λ (bytes : List ℕ). IsPrinted first a bytes text) (sym (append-nil text)) fresh))

-- It is the reply that may be printed.
pub may_print :
    {T : Type 0} (first now : SinkState) (text : List ℕ) (result : Result T PrintFault) →
    HasPrinted first now text result → MayPrintReply (done text) (status_of result) first now
may_print first now text (Ok value) has = inl (inl (refl, has.0))
may_print first now text (Err Write) has = inl (inr (refl, has.2, has.0))
may_print first now text (Err NoMemory) has = inr (refl, has.0)

pub printed_later :
    {T : Type 0} (first now : SinkState) (text : List ℕ) (result : Result T PrintFault) →
    HasPrinted first now text result → first.faults ≤ now.faults
printed_later first now text (Ok value) has = has.1
printed_later first now text (Err Write) has = has.1
printed_later first now text (Err NoMemory) has = has.1

-- Memory ran out before anything was printed.
pub nothing_printed : (reply : Reply) (s : SinkState) → MayPrintReply reply OUT_OF_MEMORY s s
nothing_printed reply s =
    inr (refl, prefix_of s.written s.written reply.text reply.text (nothing_yet s.written reply.text))

-- The step's value makes the text.
pub text_of_step :
    {T : Type 0} (step : Step T) (value : T) (text_of : T → List ℕ) (status : ℕ)
    (old new : SinkState) → step ≡ Ok value → MayPrintReply (done (text_of value)) status old new →
    MayPrintReply (ended (step >>= λ made. Ok (text_of made)) done) status old new
text_of_step step value text_of status old new is prints = rw is prints

-- The step's refusal is printed.
pub stop_of_step :
    {T : Type 0} (why : Stop) (step : Step T) (text_of : T → List ℕ) (status : ℕ)
    (old new : SinkState) → IsStepStop why step → PrintsStop why status old new →
    MayPrintReply (ended (step >>= λ made. Ok (text_of made)) done) status old new
stop_of_step (stop.Refused name place cause) step text_of status old new is prints =
    rw is prints
stop_of_step stop.ReadFault step text_of status old new is prints = absurd is
stop_of_step stop.NoMemory step text_of status old new is prints =
    let reply : Reply = ended (step >>= λ made. Ok (text_of made)) done in
    inr (
      prints.0,
      subst (λ written. WrotePrefix old.written written reply.text) (sym prints.1)
          (prefix_of old.written old.written reply.text reply.text (nothing_yet old.written reply.text)),
    )
