-- The sample rules and the sample map have no fault.
use Rattle.std.proofs.Common.{◌≡◌, ◌++◌, ap, ℕ, List, [], ◌∷◌, Some, Result, Ok, Err, refl}
use Rattle.std.proofs.lemmas.Option.{none-some, same_Some}
use Rattle.base.specs.Steps.{◌>>=◌}
use Rattle.yaml_lines.specs.declared.fault.LineFault.{LineFault}
use Rattle.yaml_lines.specs.Built.{parsed}
use Rattle.yaml_lines.specs.Trees.{Trees}
use Rattle.yaml_merge.specs.Resolving.{Outcome, resolved_files}
use Rattle.rule_traits.specs.declared.fault.RuleFault.{RuleFault}
use Rattle.rule_traits.specs.declared.kind.Kind.{Kind}
use Rattle.rule_traits.specs.declared.sample.TheConstants.{SAMPLE_RULES}
use Rattle.rule_traits.specs.declared.skipped.Skipped.{Skipped}
use Rattle.rule_traits.specs.Sample.{sample_kinds}
use Rattle.rule_traits.specs.Typed.{typed}
use Rattle.game_model.specs.declared.map.Map.{Map}
use Rattle.map_grid.specs.declared.fault.MapFault.{MapFault}
use Rattle.map_grid.specs.declared.sample.TheConstants.{SAMPLE_MAP}
use Rattle.map_grid.specs.MapOf.{map_of}
use Rattle.rule_sample.specs.RuleText.{rules_of}
use Rattle.rule_sample.specs.RuleText as rules
use Rattle.rule_sample.specs.MapText.{map_in}
use Rattle.rule_sample.specs.MapText as grid
use Rattle.rule_sample.specs.SampleMap.{sample_map}
use Rattle.rule_sample.proofs.SampleLemmas.{sample_is}
use Rattle.rule_sample.proofs.SampleMapLemmas.{map_is}
use Rattle.rule_commands.specs.RuleFiles.{line_step, merge_step, parsed_after, resolved_rules}
use Rattle.rule_commands.specs.Maps.{typed_step, typed_rules, made_step, map_step}
use Rattle.rule_commands.specs.SampleSetup.{sample_setup}
use Rattle.rule_commands.specs.Setups.{setup_step}

-- The rules of a text that has no fault are those of its file, whatever its name is.
rules_by : (name text : List ℕ) (made : List Kind × List Skipped) → rules_of text ≡ Some made → typed_rules (name ∷ []) (text ∷ []) ≡ Ok made
unfolding typed_rules resolved_rules
rules_by name text made is = by_lines (parsed 0 text) is
  where
    by_kinds : (kinds : Result (List Kind × List Skipped) RuleFault) → rules.if_typed kinds ≡ Some made → typed_step (name ∷ []) kinds ≡ Ok made
    by_kinds (Ok kinds) is = ap Ok (same_Some kinds made is)
    by_kinds (Err fault) is = absurd (none-some made is)

    by_forest : (forest : Outcome) → rules.if_resolved forest ≡ Some made → (merge_step (name ∷ []) forest >>= λ forest. typed_step (name ∷ []) (typed forest)) ≡ Ok made
    by_forest (Ok forest) is = by_kinds (typed forest) is
    by_forest (Err fault) is = absurd (none-some made is)

    by_lines : (lines : Result Trees LineFault) → rules.if_parsed lines ≡ Some made
        → (((line_step (name ∷ []) lines >>= λ forest. parsed_after (name ∷ []) ([] ++ forest ∷ []) 1 []) >>= λ forests. merge_step (name ∷ []) (resolved_files forests)) >>= λ forest. typed_step (name ∷ []) (typed forest)) ≡ Ok made
    by_lines (Ok forest) is = by_forest (resolved_files (forest ∷ [])) is
    by_lines (Err fault) is = absurd (none-some made is)

-- The same of a map.
map_by : (kinds : List Kind) (name text : List ℕ) (made : Map) → map_in kinds text ≡ Some made → map_step kinds name text ≡ Ok made
unfolding map_step resolved_rules
map_by kinds name text made is = by_lines (parsed 0 text) is
  where
    by_map : (result : Result Map MapFault) → grid.if_made result ≡ Some made → made_step name result ≡ Ok made
    by_map (Ok result) is = ap Ok (same_Some result made is)
    by_map (Err fault) is = absurd (none-some made is)

    by_forest : (forest : Outcome) → grid.if_resolved kinds forest ≡ Some made → (merge_step (name ∷ []) forest >>= λ forest. made_step name (map_of kinds forest)) ≡ Ok made
    by_forest (Ok forest) is = by_map (map_of kinds forest) is
    by_forest (Err fault) is = absurd (none-some made is)

    by_lines : (lines : Result Trees LineFault) → grid.if_parsed kinds lines ≡ Some made
        → (((line_step (name ∷ []) lines >>= λ forest. parsed_after (name ∷ []) ([] ++ forest ∷ []) 1 []) >>= λ forests. merge_step (name ∷ []) (resolved_files forests)) >>= λ forest. made_step name (map_of kinds forest)) ≡ Ok made
    by_lines (Ok forest) is = by_forest (resolved_files (forest ∷ [])) is
    by_lines (Err fault) is = absurd (none-some made is)

setup_by :
    (names contents : List (List ℕ)) (name bytes : List ℕ) (made : List Kind × List Skipped) (m : Map) →
    typed_rules names contents ≡ Ok made → map_step made.0 name bytes ≡ Ok m →
    setup_step names contents (Some name) (Some bytes) ≡ Ok (record { rules = made.0; map = m })
unfolding setup_step
setup_by names contents name bytes made m typed read = rw typed (rw read refl)

-- Whatever the names of the two files are.
pub sample_has_no_fault :
    (rules_name map_name : List ℕ) →
    setup_step (rules_name ∷ []) (SAMPLE_RULES.now ∷ []) (Some map_name) (Some SAMPLE_MAP.now) ≡ Ok sample_setup
sample_has_no_fault rules_name map_name =
    setup_by (rules_name ∷ []) (SAMPLE_RULES.now ∷ []) map_name SAMPLE_MAP.now (sample_kinds, []) sample_map
    (rules_by rules_name SAMPLE_RULES.now (sample_kinds, []) sample_is)
    (map_by sample_kinds map_name SAMPLE_MAP.now sample_map map_is)
