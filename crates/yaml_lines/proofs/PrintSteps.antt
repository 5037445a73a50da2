-- The lines of a node, of its children, and of the nodes after it.
use Rattle.std.proofs.Common.{◌≡◌, ℕ, ◌+◌, List, [], ◌∷◌, ◌++◌, refl, sym, ap, ◌∙◌, append_assoc}
use Rattle.yaml_lines.specs.declared.forest.Node.{Node}
use Rattle.yaml_lines.specs.declared.forest.Forest.TheViews.{out-Node}
use Rattle.yaml_lines.specs.Kept.{Kept}
use Rattle.yaml_lines.specs.Printed.{printed, printed_line, printed_text, tabs}
use Rattle.yaml_lines.specs.Trees.{trees_of, trees_of_nodes, flat}
use Rattle.yaml_lines.proofs.TreeSteps.{trees_roll, trees_out, before_roll, before_out}

pub printed-append : (xs ys : List Kept) → printed (xs ++ ys) ≡ printed xs ++ printed ys
printed-append [] ys = refl
printed-append (x ∷ xs) ys =
    ap (λ l. printed_line x.words ++ l) (printed-append xs ys) ∙ sym (append_assoc (printed_line x.words) (printed xs) (printed ys))

pub printed_node : (level : ℕ) (n : Node) (rest : List Node) →
    printed (flat level (trees_of_nodes (n ∷ rest)))
    ≡ printed_line (record { level = level; key = (out-Node n).key; value = (out-Node n).value })
    ++ (printed (flat (level + 1) (trees_of (out-Node n).children)) ++ printed (flat level (trees_of_nodes rest)))
printed_node level n rest =
    ap (λ f. printed (flat level (f (trees_of_nodes rest)))) (before_out n)
    ∙ ap (λ l. printed_line (record { level = level; key = (out-Node n).key; value = (out-Node n).value }) ++ l)
    (printed-append (flat (level + 1) (trees_of (out-Node n).children)) (flat level (trees_of_nodes rest)))

pub ruleset print_steps = (trees_out, printed_node)

-- One node written: its line, then its children one level deeper.
pub print_step : (level deeper : ℕ) (indent : List ℕ) (n : Node) (rest : List Node) (out lined written all : List ℕ) →
    indent ≡ tabs level → deeper ≡ level + 1 →
    lined ≡ out ++ ((indent ++ printed_text (out-Node n).key (out-Node n).value) ++ 10 ∷ []) →
    written ≡ lined ++ printed (flat deeper (trees_of (out-Node n).children)) →
    out ++ printed (flat level (trees_of_nodes (n ∷ rest))) ≡ all →
    written ++ printed (flat level (trees_of_nodes rest)) ≡ all
unfolding printed_line
print_step level deeper indent n rest out lined written all i d l w h =
    let line = printed_line (record { level = level; key = (out-Node n).key; value = (out-Node n).value }) in
    let below = printed (flat (level + 1) (trees_of (out-Node n).children)) in
    let after = printed (flat level (trees_of_nodes rest)) in
    let l' : lined ≡ out ++ line = l ∙ ap (λ t. out ++ ((t ++ printed_text (out-Node n).key (out-Node n).value) ++ 10 ∷ [])) i in
    let w' : written ≡ (out ++ line) ++ below = w ∙ ap (λ t. t ++ printed (flat deeper (trees_of (out-Node n).children))) l' ∙ ap (λ k. (out ++ line) ++ printed (flat k (trees_of (out-Node n).children))) d in
    ap (λ t. t ++ after) w'
    ∙ append_assoc (out ++ line) below after
    ∙ append_assoc out line (below ++ after)
    ∙ ap (λ t. out ++ t) (sym (printed_node level n rest))
    ∙ h
