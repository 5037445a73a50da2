-- A link of a net in memory, as it is given.
use Rattle.std.specs.Prelude.{count_by, nat_lt}
use Rattle.std.proofs.Common.{◌≡◌, ℕ, ◌≤◌, List, [], ◌∷◌, ◌++◌, drop, map, Option, None, Some, Ok, refl, ap, ◌∙◌, arith, cond}
use Rattle.std.proofs.lemmas.Bool.Decides.{nat_tests}
use Rattle.game_io.specs.Plan.{Plan, is_past, faults_of, fresh}
use Rattle.game_io.specs.PlannedBytes.{PlannedBytes, sink_state, source_state}
use Rattle.game_io.specs.NetState.{GivesLink, TakenBack, next_bytes}
use Rattle.game_io.specs.PlannedLinks.{Halves, PlannedLink, PlannedLinks, halves_of, net_state, next_link}
use Rattle.game_io.specs.declared.failed.Failed.{Failed}
use Rattle.game_io.specs.declared.failing_call.FailingCall.{FailingCall}
use Rattle.game_io.proofs.PlannedFaults.{past-cons}

not_past : (call : ℕ) → cond (nat_lt call 0) 1 0 ≤ 0
not_past call = grind (arith, nat_tests)

-- Before its first call no planned call of an object is past.
none_past : (failing : List FailingCall) → count_by (is_past 0) failing ≡ 0
none_past [] = refl
none_past (planned ∷ rest) = past-cons 0 planned rest ∙ (let here = not_past planned.call in let others = none_past rest in omega arith)

no_faults : (failing : List FailingCall) → faults_of (fresh failing) ≡ 0
no_faults failing = rw (none_past failing) refl

next_is : (links : List PlannedLink) → (next_link links).bytes ≡ next_bytes (map (λ (link : PlannedLink). link.bytes) links)
next_is [] = refl
next_is (link ∷ rest) = refl

rest_is : (links : List PlannedLink) → map (λ (link : PlannedLink). link.bytes) (drop 1 links) ≡ drop 1 (map (λ (link : PlannedLink). link.bytes) links)
rest_is [] = refl
rest_is (link ∷ rest) = refl

-- The next link is given.
pub given_link :
    (coming : List PlannedLink) (given : List (Option TakenBack)) (plan : Plan) (new : PlannedLinks) (link : PlannedBytes × PlannedBytes) →
    record { input = link.0; output = link.1 } ≡ halves_of (next_link coming) → new.coming ≡ drop 1 coming → new.given ≡ given ++ None ∷ [] →
    faults_of plan ≤ faults_of new.plan →
    GivesLink {I = PlannedBytes} {O = PlannedBytes} {E = Failed} source_state sink_state
    (net_state (record { coming = coming; given = given; plan = plan })) (net_state new) (Ok link)
given_link coming given plan new link halves rest more later =
    record {
      link = record {
        bytes = ap (λ (h : Halves). Some h.input.bytes) halves ∙ ap Some (next_is coming);
        no_input_faults = ap (λ (h : Halves). faults_of h.input.plan) halves ∙ no_faults (next_link coming).takes;
        unwritten = ap (λ (h : Halves). h.output.bytes) halves;
        no_output_faults = ap (λ (h : Halves). faults_of h.output.plan) halves ∙ no_faults (next_link coming).puts;
      };
      coming = ap (λ links. Some (map (λ (link : PlannedLink). link.bytes) links)) rest ∙ ap Some (rest_is coming);
      given = more;
      still_coming = tt;
      none_given = tt;
      later = later;
      failed = tt;
    }
