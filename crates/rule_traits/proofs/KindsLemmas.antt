-- The numbers of kinds by their names, node by node.
use Rattle.std.proofs.Common.{arith, ◌≡◌, ℕ, ◌+◌, ◌<◌, Bool, true, false, cond, List, length, drop}
use Rattle.std.proofs.Common.{get_or, refl, sym, ap, ◌∙◌, Option, Some, None, is_some}
use Rattle.std.proofs.lemmas.Bool.{cond-true, cond-false}
use Rattle.std.proofs.lemmas.List.{drop_more}
use Rattle.std.proofs.lemmas.Slice.Eq.{bytes_eq-Decides}
use Rattle.std.specs.Option.{option_or}
use Rattle.std.specs.Str.{bytes_eq}
use Rattle.yaml_lines.specs.declared.forest.Node.{Node}
use Rattle.yaml_lines.specs.declared.forest.Forest.TheViews.{out-Node}
use Rattle.yaml_lines.specs.Trees.{before, trees_of_nodes}
use Rattle.yaml_lines.proofs.TreeSteps.{trees_out, before_out}
use Rattle.rule_traits.specs.Kinds.{is_kind, next_number, number_from}

from_at : (number : ℕ) (q : List ℕ) (nodes : List Node) (at : ℕ) (node : Node) → at < length nodes → node ≡ get_or nodes at node →
    number_from number q (trees_of_nodes (drop at nodes))
    ≡ cond (is_kind (out-Node node).key)
    (cond (bytes_eq q (out-Node node).key) (Some number) (number_from (next_number number) q (trees_of_nodes (drop (at + 1) nodes))))
    (number_from number q (trees_of_nodes (drop (at + 1) nodes)))
from_at number q nodes at node h n =
    let rest = trees_of_nodes (drop (at + 1) nodes) in
    ap (λ l. number_from number q (trees_of_nodes l)) (drop_more nodes at node h)
    ∙ sym (ap (λ x. number_from number q (before x rest)) n)
    ∙ ap (λ g. number_from number q (g rest)) (before_out node)

-- A node that is no kind.
pub kind_past : (number : ℕ) (q : List ℕ) (nodes : List Node) (at : ℕ) (node : Node) (held all : Option ℕ) → at < length nodes → node ≡ get_or nodes at node →
    is_kind (out-Node node).key ≡ false →
    option_or held (number_from number q (trees_of_nodes (drop at nodes))) ≡ all →
    option_or held (number_from number q (trees_of_nodes (drop (at + 1) nodes))) ≡ all
kind_past number q nodes at node held all h n k e =
    ap (option_or held) (sym (from_at number q nodes at node h n ∙ cond-false _ _ _ k)) ∙ e

-- A number noted under a name, and the numbers after it.
noted : (held : Option ℕ) (same : Bool) (number : ℕ) (later : Option ℕ) →
    option_or (option_or held (cond same (Some number) None)) later ≡ option_or held (cond same (Some number) later)
noted (Some n) same number later = refl
noted None true number later = refl
noted None false number later = refl

-- A node that is a kind.
pub kind_next : (number : ℕ) (q : List ℕ) (nodes : List Node) (at : ℕ) (node : Node) (held next all : Option ℕ) → at < length nodes → node ≡ get_or nodes at node →
    is_kind (out-Node node).key ≡ true →
    next ≡ option_or held (cond (bytes_eq q (out-Node node).key) (Some number) None) →
    option_or held (number_from number q (trees_of_nodes (drop at nodes))) ≡ all →
    option_or next (number_from (next_number number) q (trees_of_nodes (drop (at + 1) nodes))) ≡ all
kind_next number q nodes at node held next all h n k w e =
    let later = number_from (next_number number) q (trees_of_nodes (drop (at + 1) nodes)) in
    ap (λ o. option_or o later) w
    ∙ noted held (bytes_eq q (out-Node node).key) number later
    ∙ ap (option_or held) (sym (from_at number q nodes at node h n ∙ cond-true _ _ _ k))
    ∙ e

pub or_none : (held : Option ℕ) → option_or held None ≡ held
or_none None = refl
or_none (Some n) = refl

pub ruleset kind_steps = (kind_past, kind_next, or_none, trees_out)

pub ruleset note_steps = (or_none)

-- A number that is noted under a name that has none yet.
pub name_noted : (held next : List ℕ → Option ℕ) (name q : List ℕ) (number : ℕ) → is_some (held name) ≡ false →
    next q ≡ cond (bytes_eq name q) (Some number) (held q) → next q ≡ option_or (held q) (cond (bytes_eq q name) (Some number) None)
name_noted held next name q number f u = grind (arith, bytes_eq-Decides, or_none)
