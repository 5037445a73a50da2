-- One more node in a list, and a closed node among the children of the one before it.
use Rattle.std.proofs.Common.{◌≡◌, ℕ, suc, ◌+◌, List, [], ◌∷◌, ◌++◌, length, refl, sym, ap, ◌∙◌}
use Rattle.std.proofs.Common.{Vec, Global, append_assoc, append-nil, arith}
use Rattle.std.proofs.lemmas.List.{length_push}
use Rattle.yaml_lines.specs.declared.forest.Forest.{Forest}
use Rattle.yaml_lines.specs.declared.forest.Node.{Node}
use Rattle.yaml_lines.specs.declared.growing.Open.{Open}
use Rattle.yaml_lines.specs.declared.forest.Forest.TheOpen.{Node-F}
use Rattle.yaml_lines.specs.declared.forest.Forest.TheViews.{out-Node, roll-Forest, roll-Node}
use Rattle.yaml_lines.specs.Kept.{Kept}
use Rattle.yaml_lines.specs.Grown.{flat_open, opened}
use Rattle.yaml_lines.specs.Trees.{Trees, none, trees_of, before, trees_of_nodes, flat}
use Rattle.yaml_lines.proofs.TreeSteps.{trees_roll, trees_out, before_roll, before_out}

-- The nodes of a list, each by itself.
flat_before : (level : ℕ) (n : Node) (rest : Trees) → flat level (before n rest) ≡ flat level (before n none) ++ flat level rest
flat_before level n rest =
    let e = before_out n in
    let o = out-Node n in
    ap (λ f. flat level (f rest)) e
    ∙ ap (λ l. record { words = record { level = level; key = o.key; value = o.value }; place = o.place } ∷ l)
    (ap (λ l. l ++ flat level rest) (sym (append-nil (flat (level + 1) (trees_of o.children)))))
    ∙ sym (ap (λ f. flat level (f none) ++ flat level rest) e)

pub flat_nodes-append : (level : ℕ) (xs ys : List Node) → flat level (trees_of_nodes (xs ++ ys)) ≡ flat level (trees_of_nodes xs) ++ flat level (trees_of_nodes ys)
flat_nodes-append level [] ys = refl
flat_nodes-append level (x ∷ xs) ys =
    flat_before level x (trees_of_nodes (xs ++ ys))
    ∙ ap (λ l. flat level (before x none) ++ l) (flat_nodes-append level xs ys)
    ∙ sym (append_assoc (flat level (before x none)) (flat level (trees_of_nodes xs)) (flat level (trees_of_nodes ys)))
    ∙ ap (λ l. l ++ flat level (trees_of_nodes ys)) (sym (flat_before level x (trees_of_nodes xs)))

-- A node that is made of an open one.
flat_made : (level : ℕ) (x : Node-F Forest Node) →
    flat level (trees_of_nodes (roll-Node x ∷ [])) ≡ record { words = record { level = level; key = x.key; value = x.value }; place = x.place } ∷ flat (level + 1) (trees_of x.children)
flat_made level x =
    ap (λ f. flat level (f none)) (before_roll x)
    ∙ ap (λ l. record { words = record { level = level; key = x.key; value = x.value }; place = x.place } ∷ l) (append-nil (flat (level + 1) (trees_of x.children)))

-- The open nodes with one more.
pub flat_open-push : (level : ℕ) (os : List Open) (o : Open) →
    flat_open level (os ++ o ∷ []) ≡ flat_open level os ++ opened (level + length os) o ∷ flat (level + length os + 1) (trees_of_nodes o.nodes.items)
flat_open-push level [] o =
    ap (λ l. opened level o ∷ l) (append-nil (flat (level + 1) (trees_of_nodes o.nodes.items)))
    ∙ ap (λ i. opened i o ∷ flat (i + 1) (trees_of_nodes o.nodes.items)) (let e : level ≡ level + 0 = omega arith in e)
flat_open-push level (p ∷ os) o =
    let f = flat (level + 1) (trees_of_nodes p.nodes.items) in
    let at : level + 1 + length os ≡ level + suc (length os) = omega arith in
    ap (λ l. opened level p ∷ (f ++ l))
    (flat_open-push (level + 1) os o
    ∙ ap (λ i. flat_open (level + 1) os ++ opened i o ∷ flat (i + 1) (trees_of_nodes o.nodes.items)) at)
    ∙ ap (λ l. opened level p ∷ l) (sym (append_assoc f (flat_open (level + 1) os) _))

-- The node of an open one.
abbrev pub made_node : Open → Node
made_node o = roll-Node (record { key = o.key; value = o.value; place = o.place; children = roll-Forest (record { nodes = o.nodes }) })

flat_made_node : (level : ℕ) (o : Open) → flat level (trees_of_nodes (made_node o ∷ [])) ≡ opened level o ∷ flat (level + 1) (trees_of_nodes o.nodes.items)
flat_made_node level o =
    flat_made level (record { key = o.key; value = o.value; place = o.place; children = roll-Forest (record { nodes = o.nodes }) })
    ∙ ap (λ t. opened level o ∷ flat (level + 1) t) (trees_roll (record { nodes = o.nodes }))

flat_more_node : (level : ℕ) (nodes : List Node) (o : Open) →
    flat level (trees_of_nodes (nodes ++ made_node o ∷ [])) ≡ flat level (trees_of_nodes nodes) ++ opened level o ∷ flat (level + 1) (trees_of_nodes o.nodes.items)
flat_more_node level nodes o =
    flat_nodes-append level nodes (made_node o ∷ []) ∙ ap (λ l. flat level (trees_of_nodes nodes) ++ l) (flat_made_node level o)

-- The last open node made a child of the one before it.
pub closed_inner : (os : List Open) (p o : Open) (v : Vec Node Global) → v.items ≡ p.nodes.items ++ made_node o ∷ [] →
    flat_open 0 (os ++ record p { nodes = v } ∷ []) ≡ flat_open 0 ((os ++ p ∷ []) ++ o ∷ [])
closed_inner os p o v e =
    let k = 0 + length os in
    let at : k + 1 ≡ 0 + length (os ++ p ∷ []) = omega (arith, length_push os p) in
    flat_open-push 0 os (record p { nodes = v })
    ∙ ap (λ l. flat_open 0 os ++ opened k p ∷ l) (ap (λ l. flat (k + 1) (trees_of_nodes l)) e ∙ flat_more_node (k + 1) p.nodes.items o)
    ∙ sym (append_assoc (flat_open 0 os) (opened k p ∷ flat (k + 1) (trees_of_nodes p.nodes.items)) (opened (k + 1) o ∷ flat (k + 1 + 1) (trees_of_nodes o.nodes.items)))
    ∙ ap (λ l. l ++ opened (k + 1) o ∷ flat (k + 1 + 1) (trees_of_nodes o.nodes.items)) (sym (flat_open-push 0 os p))
    ∙ ap (λ i. flat_open 0 (os ++ p ∷ []) ++ opened i o ∷ flat (i + 1) (trees_of_nodes o.nodes.items)) at
    ∙ sym (flat_open-push 0 (os ++ p ∷ []) o)

-- The only open node made a complete node.
pub closed_outer : (nodes : List Node) (o : Open) →
    flat 0 (trees_of_nodes (nodes ++ made_node o ∷ [])) ++ flat_open 0 [] ≡ flat 0 (trees_of_nodes nodes) ++ flat_open 0 (o ∷ [])
closed_outer nodes o =
    append-nil _ ∙ flat_more_node 0 nodes o ∙ ap (λ l. flat 0 (trees_of_nodes nodes) ++ l) (sym (flat_open-push 0 [] o))

-- A new open node without children.
pub opened_last : (nodes : List Kept) (os : List Open) (o : Open) → o.nodes.items ≡ [] →
    nodes ++ flat_open 0 (os ++ o ∷ []) ≡ (nodes ++ flat_open 0 os) ++ opened (length os) o ∷ []
opened_last nodes os o e =
    let at : 0 + length os ≡ length os = omega arith in
    ap (λ l. nodes ++ l)
    (flat_open-push 0 os o
    ∙ ap (λ l. flat_open 0 os ++ opened (0 + length os) o ∷ flat (0 + length os + 1) (trees_of_nodes l)) e
    ∙ ap (λ i. flat_open 0 os ++ opened i o ∷ []) at)
    ∙ sym (append_assoc nodes (flat_open 0 os) (opened (length os) o ∷ []))

pub ruleset grow_steps = (trees_roll, closed_inner, closed_outer, opened_last)
