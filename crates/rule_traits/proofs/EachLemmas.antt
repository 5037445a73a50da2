-- One node of a list whose nodes are taken in order.
use Rattle.std.proofs.Common.{◌≡◌, ℕ, ◌+◌, ◌<◌, true, false, List, length, drop, get_or, sym, ap}
use Rattle.std.proofs.Common.{◌∙◌, Result, Ok, Err, inl, inr}
use Rattle.std.proofs.lemmas.Bool.{cond-true, cond-false}
use Rattle.std.proofs.lemmas.List.{drop_more}
use Rattle.std.proofs.lemmas.Slice.Eq.{bytes_eq-Decides}
use Rattle.std.specs.Str.{bytes_eq}
use Rattle.base.specs.Steps.{◌>>=◌}
use Rattle.yaml_lines.specs.declared.forest.Node.{Node}
use Rattle.yaml_lines.specs.declared.forest.Forest.{Forest}
use Rattle.yaml_lines.specs.declared.forest.Forest.TheViews.{out-Node, out-Forest}
use Rattle.yaml_lines.specs.declared.place.Place.{Place}
use Rattle.yaml_lines.specs.Trees.{Trees, trees_of, before, trees_of_nodes}
use Rattle.yaml_lines.proofs.TreeSteps.{trees_out, before_out}
use Rattle.rule_traits.specs.declared.fault.RuleFault.{RuleFault}
use Rattle.rule_traits.specs.Typed.{each, step_at, has_field, IsRuleFault}

-- What a step takes: what was made so far, and a node's key, value, place and children.
abbrev pub Step : Type 0 → Type 0
Step S = S → (key value : List ℕ) → Place → Trees → Result S RuleFault

each_at : {S : Type 0} (step : Step S) (nodes : List Node) (at : ℕ) (node : Node) (made : S) → at < length nodes → node ≡ get_or nodes at node →
    each step made (trees_of_nodes (drop at nodes)) ≡ (step_at step made node >>= λ next. each step next (trees_of_nodes (drop (at + 1) nodes)))
each_at step nodes at node made h n =
    let rest = trees_of_nodes (drop (at + 1) nodes) in
    ap (λ l. each step made (trees_of_nodes l)) (drop_more nodes at node h)
    ∙ sym (ap (λ x. each step made (before x rest)) n)
    ∙ ap (λ g. each step made (g rest)) (before_out node)

-- A node that the step takes.
pub each_next : {S : Type 0} (step : Step S) (nodes : List Node) (at : ℕ) (node : Node) (made next : S) (all : Result S RuleFault) →
    at < length nodes → node ≡ get_or nodes at node →
    step_at step made node ≡ Ok next →
    each step made (trees_of_nodes (drop at nodes)) ≡ all → each step next (trees_of_nodes (drop (at + 1) nodes)) ≡ all
each_next {S} step nodes at node made next all h n t e =
    let rest : S → Result S RuleFault = λ made. each step made (trees_of_nodes (drop (at + 1) nodes)) in
    sym (each_at step nodes at node made h n ∙ ap (λ o. o >>= rest) t) ∙ e

-- A node at which the step fails.
pub each_fault : {S : Type 0} (step : Step S) (nodes : List Node) (at : ℕ) (node : Node) (made : S) (fault : RuleFault) (all : Result S RuleFault) →
    at < length nodes → node ≡ get_or nodes at node →
    step_at step made node ≡ Err fault →
    each step made (trees_of_nodes (drop at nodes)) ≡ all → all ≡ Err fault
each_fault {S} step nodes at node made fault all h n t e =
    let rest : S → Result S RuleFault = λ made. each step made (trees_of_nodes (drop (at + 1) nodes)) in
    sym e ∙ each_at step nodes at node made h n ∙ ap (λ o. o >>= rest) t

-- A node at which a call of the step fails, with its fault or out of memory.
pub each_stops : {S : Type 0} (step : Step S) (nodes : List Node) (at : ℕ) (node : Node) (made : S) (fault : RuleFault) (all : Result S RuleFault) →
    at < length nodes → node ≡ get_or nodes at node → IsRuleFault fault (step_at step made node) →
    each step made (trees_of_nodes (drop at nodes)) ≡ all → IsRuleFault fault all
each_stops step nodes at node made fault all h n f e = elim f [
  | inl memory ↦ inl memory
  | inr told ↦ inr (each_fault step nodes at node made fault all h n told e)
]

pub each_out : {S : Type 0} (step : Step S) (made : S) (list : Forest) → each step made (trees_of list) ≡ each step made (trees_of_nodes (out-Forest list).nodes.items)
each_out step made list = ap (each step made) (trees_out list)

pub ruleset each_steps = (each_next, each_fault, each_out)

-- The search for a field of a name.
pub field_here : (name : List ℕ) (nodes : List Node) (at : ℕ) (d : Node) → at < length nodes → bytes_eq (out-Node (get_or nodes at d)).key name ≡ true →
    has_field name (trees_of_nodes (drop at nodes)) ≡ true
field_here name nodes at d h k =
    ap (λ l. has_field name (trees_of_nodes l)) (drop_more nodes at d h)
    ∙ ap (λ g. has_field name (g (trees_of_nodes (drop (at + 1) nodes)))) (before_out (get_or nodes at d))
    ∙ cond-true _ _ _ k

pub field_next : (name : List ℕ) (nodes : List Node) (at : ℕ) (d : Node) → at < length nodes → bytes_eq (out-Node (get_or nodes at d)).key name ≡ false →
    has_field name (trees_of_nodes (drop at nodes)) ≡ has_field name (trees_of_nodes (drop (at + 1) nodes))
field_next name nodes at d h k =
    ap (λ l. has_field name (trees_of_nodes l)) (drop_more nodes at d h)
    ∙ ap (λ g. has_field name (g (trees_of_nodes (drop (at + 1) nodes)))) (before_out (get_or nodes at d))
    ∙ cond-false _ _ _ k

pub field_out : (name : List ℕ) (f : Forest) → has_field name (trees_of f) ≡ has_field name (trees_of_nodes (out-Forest f).nodes.items)
field_out name f = ap (has_field name) (trees_out f)

pub ruleset field_steps = (field_here, field_next, field_out)

-- Texts that the test takes for the same are the same.
pub same_text : (xs ys : List ℕ) → bytes_eq xs ys ≡ true → xs ≡ ys
same_text xs ys e = (bytes_eq-Decides xs ys).0 e
