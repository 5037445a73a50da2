-- From a fault of a part to the refusal of the program.
use Rattle.std.proofs.Common.{◌≡◌, ◌+◌, ℕ, [], ◌∷◌, ◌++◌, List, Option, None, Some, Err, sym, ap, subst, inl, inr, ◌∙◌}
use Rattle.yaml_lines.specs.declared.place.Place.{Place}
use Rattle.yaml_lines.specs.declared.fault.LineFault.{LineFault}
use Rattle.yaml_lines.specs.Fault.{place_of, cause_of}
use Rattle.yaml_lines.specs.Kept.{Kept, IsLineFault, first_line_fault, kept_lines}
use Rattle.yaml_lines.specs.Trees.{Trees}
use Rattle.yaml_lines.specs.Built.{parsed_by, parsed}
use Rattle.base.specs.Steps.{◌>>=◌}
use Rattle.command_answers.specs.declared.stop.Stop.{Stop}
use Rattle.command_answers.specs.declared.stop.Stop.TheVariants.{Refused, ReadFault, NoMemory}
use Rattle.command_answers.specs.Reply.{Reply}
use Rattle.command_answers.specs.Step.{Step}
use Rattle.rule_commands.specs.RuleFiles.{fault_reply, line_step, parsed_after}
use Rattle.command_answers.specs.Stop.{IsRefusal, IsStepStop}
use Rattle.rule_commands.specs.Refusals.{IsFaultStop}

-- Memory ran out.
pub memory_step : {T : Type 0} (stop : Stop) (step : Step T) → stop ≡ NoMemory → IsStepStop stop step
memory_step stop step e = subst (λ s. IsStepStop s step) (sym e) tt

-- The step has the refusal with which the code stops.
pub stop_step :
    {T : Type 0} (stop : Stop) (reply : Reply) (step : Step T) → step ≡ Err reply → IsRefusal stop reply → IsStepStop stop step
stop_step (Refused name place cause) reply step e refused = e ∙ ap Err refused
stop_step ReadFault reply step e refused = absurd refused
stop_step NoMemory reply step e refused = absurd refused

-- A step that has a fault of rule files, and the stop of this fault.
pub fault_step :
    {T : Type 0} (names : List (List ℕ)) (place : Option Place) (cause : List ℕ) (stop : Stop) (step : Step T) →
    IsFaultStop names place cause stop → step ≡ Err (fault_reply names place cause) → IsStepStop stop step
fault_step names None cause stop step is e = memory_step stop step is
fault_step names (Some place) cause stop step is e = stop_step stop (fault_reply names (Some place) cause) step e is

-- The first fault of a file's lines.
pub line_stops :
    (names : List (List ℕ)) (fault : LineFault) (stop : Stop) (first : Option LineFault) (kept : List Kept) →
    IsFaultStop names (place_of fault) (cause_of fault) stop → IsLineFault fault first →
    IsStepStop stop (line_step names (parsed_by first kept))
line_stops names fault stop first kept is (inl memory) =
    memory_step stop (line_step names (parsed_by first kept))
    (subst (λ f. IsFaultStop names (place_of f) (cause_of f) stop) memory is)
line_stops names fault stop first kept is (inr found) =
    fault_step names (place_of fault) (cause_of fault) stop (line_step names (parsed_by first kept)) is
    (ap (λ f. line_step names (parsed_by f kept)) found)

-- A step that stops, and what would have come after it.
pub stop_stops :
    {T V : Type 0} (stop : Stop) (step : Step T) (next : T → Step V) →
    IsStepStop stop step → IsStepStop stop (step >>= next)
stop_stops (Refused name place cause) step next stops = ap (λ s. s >>= next) stops
stop_stops ReadFault step next stops = stops
stop_stops NoMemory step next stops = tt

-- The first file with a fault in its lines.
pub parse_stops :
    (names : List (List ℕ)) (got : List Trees) (file : ℕ) (left : List (List ℕ)) (bytes : List ℕ) (rest : List (List ℕ)) (step : Step (List Trees))
    (fault : LineFault) (stop : Stop) →
    left ≡ bytes ∷ rest → parsed_after names got file left ≡ step →
    IsFaultStop names (place_of fault) (cause_of fault) stop → IsLineFault fault (first_line_fault file bytes) → IsStepStop stop step
unfolding parsed
parse_stops names got file left bytes rest step fault stop left_is so_far is found =
    let next : Trees → Step (List Trees) = λ forest. parsed_after names (got ++ forest ∷ []) (file + 1) rest in
    let lines : Step Trees = line_step names (parsed_by (first_line_fault file bytes) (kept_lines file bytes)) in
    subst (IsStepStop stop) (sym (ap (parsed_after names got file) left_is) ∙ so_far)
    (stop_stops stop lines next (line_stops names fault stop (first_line_fault file bytes) (kept_lines file bytes) is found))
