-- What holds after one field was read.
use Rattle.std.specs.Prelude.{◌≡◌, ℕ, Bool, List, Result, Ok, IfOk, IfErr}
use Rattle.base.specs.Steps.{IsFault}
use Rattle.yaml_lines.specs.declared.place.Place.{Place}
use Rattle.yaml_lines.specs.declared.forest.Node.{Node}
use Rattle.yaml_lines.specs.declared.forest.Forest.TheViews.{out-Node}
use Rattle.rule_traits.specs.declared.fault.RuleFault.{RuleFault}
use Rattle.rule_traits.specs.declared.fault.RuleFault.TheVariants.{NoMemory}
use Rattle.rule_traits.specs.Values.{After}

-- A function of a node's key, value and place.
abbrev pub of_node : {A : Type 0} → ((key value : List ℕ) → Place → A) → Node → A
of_node of node = of (out-Node node).key (out-Node node).value (out-Node node).place

-- A field was read as it should be: the trait afterwards is `now`, and the answer says whether it
-- has such a field.
pub record Sets {T :
    Type 0} (now : T) (outcome : After T) (result : Result Bool RuleFault) : Type 0 where
  pub set : IfOk result (λ has. outcome ≡ Ok (now, has))
  pub fault : IfErr result (λ fault. IsFault NoMemory fault outcome)
