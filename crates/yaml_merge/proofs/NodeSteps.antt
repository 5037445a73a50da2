-- A complete list of nodes, and the search for their names.
use Rattle.std.proofs.Common.{◌≡◌, ℕ, zero, suc, ◌+◌, ◌<◌, Bool, true, false, cond, List, [], ◌∷◌}
use Rattle.std.proofs.Common.{◌++◌, length, get_or, take, drop, refl, sym, ap, ◌∙◌, arith, subst}
use Rattle.std.proofs.Common.{Option, Some, None, inl, inr}
use Rattle.std.proofs.lemmas.Bool.{cases_Bool, cond-true, cond-false}
use Rattle.std.proofs.lemmas.List.{take_more, drop_more}
use Rattle.std.proofs.lemmas.Slice.Eq.{bytes_eq-Decides}
use Rattle.std.specs.Prelude.{is_some, option_map, MatchOption}
use Rattle.std.specs.Str.{bytes_eq}
use Rattle.yaml_lines.specs.declared.place.Place.{Place}
use Rattle.yaml_lines.specs.declared.forest.Forest.{Forest}
use Rattle.yaml_lines.specs.declared.forest.Node.{Node}
use Rattle.yaml_lines.specs.declared.forest.Forest.TheViews.{roll-Node, out-Node, out-Forest}
use Rattle.yaml_lines.specs.Trees.{Trees, none, more, trees_of, before, trees_of_nodes}
use Rattle.yaml_lines.proofs.TreeSteps.{before_out, before_roll, trees_out}
use Rattle.yaml_merge.specs.Places.{Stands, place_in, width}
use Rattle.yaml_merge.specs.Merging.{Lacks}
use Rattle.yaml_merge.specs.Resolving.{added}

-- A node added last.
pub added_last : (nodes : List Node) (key value : List ℕ) (place : Place) (children : Trees) (made : Node) →
    before made ≡ (λ rest. more key value place children rest) → trees_of_nodes (nodes ++ made ∷ []) ≡ added key value place children (trees_of_nodes nodes)
added_last [] key value place children made m = ap (λ g. g none) m
added_last (first ∷ nodes) key value place children made m =
    ap (before first) (added_last nodes key value place children made m)
    ∙ ap (λ g. g (added key value place children (trees_of_nodes nodes))) (before_out first)
    ∙ sym (ap (λ g. added key value place children (g (trees_of_nodes nodes))) (before_out first))

pub node_made : (key value : List ℕ) (place : Place) (children : Forest) (below : Trees) → trees_of children ≡ below →
    before (roll-Node (record { key = key; value = value; place = place; children = children })) ≡ (λ rest. more key value place below rest)
node_made key value place children below b =
    before_roll (record { key = key; value = value; place = place; children = children })
    ∙ ap (λ x. (λ rest. more key value place x rest)) b

-- What the search for a name tells.
abbrev pub IsNamed : List ℕ → Trees → Option ℕ → Type 0
IsNamed name list found = MatchOption found (Lacks name list) (λ at. Stands name at list)

past_one : (name : List ℕ) (found : Option ℕ) (first value : List ℕ) (place : Place) (children rest : Trees) → bytes_eq first name ≡ false → IsNamed name rest found →
    IsNamed name (more first value place children rest) (option_map suc found)
past_one name None first value place children rest n h = (n, h)
past_one name (Some at) first value place children rest n h = (n, h)

pub is_named : (name : List ℕ) (list : Trees) → IsNamed name list (place_in name list)
is_named name none = tt
is_named name (more first value place children rest) = elim (cases_Bool (bytes_eq first name)) [
  | inl y ↦ subst (IsNamed name (more first value place children rest)) (sym (cond-true _ _ _ y)) y
  | inr n ↦
      subst (IsNamed name (more first value place children rest)) (sym (cond-false _ _ _ n))
      (past_one name (place_in name rest) first value place children rest n (is_named name rest))
]

-- The place where a key was found, or that of a last node.
abbrev or_last : Option ℕ → Bool → ℕ → Option ℕ
or_last None test at = cond test (Some at) None
or_last (Some found) test at = Some found

suc_last : (found : Option ℕ) (test : Bool) (at : ℕ) → option_map suc (or_last found test at) ≡ or_last (option_map suc found) test (suc at)
suc_last None true at = refl
suc_last None false at = refl
suc_last (Some found) test at = refl

place_added : (name key value : List ℕ) (place : Place) (children list : Trees) →
    place_in name (added key value place children list) ≡ or_last (place_in name list) (bytes_eq key name) (width list)
place_added name key value place children none = refl
place_added name key value place children (more first old last others rest) = elim (cases_Bool (bytes_eq first name)) [
  | inl y ↦ cond-true _ _ _ y ∙ sym (ap (λ f. or_last f (bytes_eq key name) (suc (width rest))) (cond-true _ _ _ y))
  | inr n ↦ cond-false _ _ _ n
      ∙ ap (option_map suc) (place_added name key value place children rest)
      ∙ suc_last (place_in name rest) (bytes_eq key name) (width rest)
      ∙ sym (ap (λ f. or_last f (bytes_eq key name) (suc (width rest))) (cond-false _ _ _ n))
]

-- The list up to one more node.
pub more_nodes : (nodes : List Node) (at : ℕ) (node : Node) → at < length nodes → node ≡ get_or nodes at node →
    trees_of_nodes (take (at + 1) nodes) ≡ added (out-Node node).key (out-Node node).value (out-Node node).place (trees_of (out-Node node).children) (trees_of_nodes (take at nodes))
more_nodes nodes at node h n =
    let o = out-Node node in
    ap trees_of_nodes (take_more nodes at node h)
    ∙ ap (λ x. trees_of_nodes (take at nodes ++ x ∷ [])) (sym n)
    ∙ added_last (take at nodes) o.key o.value o.place (trees_of o.children) node (before_out node)

-- The list from a node on.
pub nodes_from : (nodes : List Node) (at : ℕ) (node : Node) → at < length nodes → node ≡ get_or nodes at node →
    trees_of_nodes (drop at nodes)
    ≡ more (out-Node node).key (out-Node node).value (out-Node node).place (trees_of (out-Node node).children) (trees_of_nodes (drop (at + 1) nodes))
nodes_from nodes at node h n =
    let rest = trees_of_nodes (drop (at + 1) nodes) in
    ap trees_of_nodes (drop_more nodes at node h)
    ∙ sym (ap (λ x. before x rest) n)
    ∙ ap (λ g. g rest) (before_out node)

width_taken : (nodes : List Node) (at : ℕ) → at < length nodes → width (trees_of_nodes (take at nodes)) ≡ at
width_taken [] at h = absurd (omega arith)
width_taken (node ∷ nodes) zero h = refl
width_taken (node ∷ nodes) (suc at) h = ap (λ g. width (g (trees_of_nodes (take at nodes)))) (before_out node) ∙ ap suc (width_taken nodes at (omega arith))

place_more : (name : List ℕ) (nodes : List Node) (at : ℕ) (node : Node) → at < length nodes → node ≡ get_or nodes at node →
    place_in name (trees_of_nodes (take (at + 1) nodes)) ≡ or_last (place_in name (trees_of_nodes (take at nodes))) (bytes_eq (out-Node node).key name) at
place_more name nodes at node h n =
    let o = out-Node node in
    let list = trees_of_nodes (take at nodes) in
    ap (place_in name) (more_nodes nodes at node h n)
    ∙ place_added name o.key o.value o.place (trees_of o.children) list
    ∙ ap (or_last (place_in name list) (bytes_eq o.key name)) (width_taken nodes at h)

chosen_last : (found : Option ℕ) (test : Bool) (at : ℕ) → (test ≡ true → is_some found ≡ false) → cond test (Some at) found ≡ or_last found test at
chosen_last None test at h = refl
chosen_last (Some found) true at h = let e : true ≡ false = h refl in cc
chosen_last (Some found) false at h = refl

kept_first : (found : Option ℕ) (test : Bool) (at : ℕ) → (test ≡ true → is_some found ≡ true) → found ≡ or_last found test at
kept_first None true at h = let e : false ≡ true = h refl in cc
kept_first None false at h = refl
kept_first (Some found) test at h = refl

-- What finds the names of the nodes up to a place.
abbrev pub NamesUpTo : ℕ → List Node → (List ℕ → Option ℕ) → Type 0
NamesUpTo at nodes search = (name : List ℕ) → search name ≡ place_in name (trees_of_nodes (take at nodes))

pub names_new : (nodes : List Node) (at : ℕ) (node : Node) (old new : List ℕ → Option ℕ) → at < length nodes → node ≡ get_or nodes at node → is_some (old (out-Node node).key) ≡ false →
    ((name : List ℕ) → new name ≡ cond (bytes_eq (out-Node node).key name) (Some at) (old name)) → NamesUpTo at nodes old → NamesUpTo (at + 1) nodes new
names_new nodes at node old new h n f u k name =
    let key = (out-Node node).key in
    u name
    ∙ chosen_last (old name) (bytes_eq key name) at (λ y. sym (ap (λ x. is_some (old x)) ((bytes_eq-Decides key name).0 y)) ∙ f)
    ∙ ap (λ o. or_last o (bytes_eq key name) at) (k name)
    ∙ sym (place_more name nodes at node h n)

pub names_old : (nodes : List Node) (at : ℕ) (node : Node) (old : List ℕ → Option ℕ) → at < length nodes → node ≡ get_or nodes at node → is_some (old (out-Node node).key) ≡ true →
    NamesUpTo at nodes old → NamesUpTo (at + 1) nodes old
names_old nodes at node old h n f k name =
    let key = (out-Node node).key in
    kept_first (old name) (bytes_eq key name) at (λ y. sym (ap (λ x. is_some (old x)) ((bytes_eq-Decides key name).0 y)) ∙ f)
    ∙ ap (λ o. or_last o (bytes_eq key name) at) (k name)
    ∙ sym (place_more name nodes at node h n)

-- A list without nodes.
pub no_nodes : (list : Forest) (nodes : List Node) → nodes ≡ (out-Forest list).nodes.items → nodes ≡ [] → trees_of list ≡ none
no_nodes list nodes n e = trees_out list ∙ ap trees_of_nodes (sym n ∙ e)

pub no_nodes_long : (list : Forest) (nodes : List Node) → nodes ≡ (out-Forest list).nodes.items → length nodes ≡ 0 → trees_of list ≡ none
no_nodes_long list [] n e = no_nodes list [] n refl
no_nodes_long list (node ∷ nodes) n e = absurd (omega (arith, e))

pub ruleset leaf_steps = (no_nodes, no_nodes_long)
