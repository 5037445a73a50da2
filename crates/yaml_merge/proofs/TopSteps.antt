-- The top-level nodes, found by their names.
use Rattle.std.proofs.Common.{◌≡◌, ℕ, zero, suc, ◌-◌, ◌<◌, ◌≤◌, true, false, List, [], ◌∷◌, length}
use Rattle.std.proofs.Common.{replicate, get_or, refl, sym, ap, ◌∙◌, arith, Option, Some, None, Ok}
use Rattle.std.proofs.Common.{MatchOption}
use Rattle.std.proofs.lemmas.Bool.{cond-true, cond-false}
use Rattle.std.specs.Prelude.{IfSome}
use Rattle.yaml_lines.specs.declared.forest.Node.{Node}
use Rattle.yaml_lines.specs.declared.forest.Forest.TheViews.{out-Node, out-Forest}
use Rattle.yaml_lines.specs.Trees.{Trees, none, more, trees_of, trees_of_nodes}
use Rattle.yaml_lines.specs.declared.forest.Forest.{Forest}
use Rattle.yaml_lines.proofs.TreeSteps.{before_out, trees_out}
use Rattle.yaml_merge.proofs.KeptSteps.{filled}
use Rattle.yaml_merge.specs.declared.resolved.Resolved.{Resolved}
use Rattle.yaml_merge.specs.declared.TheConstants.{MAX_PATH, MAX_FOREST_NODES}
use Rattle.yaml_merge.specs.Kept.{key_from, slot, resolved_at, AreKept}
use Rattle.yaml_merge.specs.Places.{width, Stands, children_from}
use Rattle.yaml_merge.specs.Merging.{Lacks, count}
use Rattle.yaml_merge.specs.Resolving.{removes, parent_of, resolved_tops}

pub parent_none : (name : List ℕ) (tops : Trees) → removes name ≡ true → parent_of name tops ≡ None
parent_none name none h = refl
parent_none name (more key value place children rest) h = cond-true _ _ _ h

pub parent_lost : (name : List ℕ) (tops : Trees) → removes name ≡ false → Lacks name tops → parent_of name tops ≡ None
parent_lost name none r h = refl
parent_lost name (more key value place children rest) r h = cond-false _ _ _ r ∙ cond-false _ _ _ h.0 ∙ parent_lost name rest r h.1

pub parent_found : (name : List ℕ) (at : ℕ) (tops : Trees) → removes name ≡ false → Stands name at tops → parent_of name tops ≡ Some (children_from at tops)
parent_found name at none r h = absurd h
parent_found name zero (more key value place children rest) r h = cond-false _ _ _ r ∙ cond-true _ _ _ h
parent_found name (suc at) (more key value place children rest) r h = cond-false _ _ _ r ∙ cond-false _ _ _ h.0 ∙ parent_found name at rest r h.1

pub width_nodes : (nodes : List Node) → width (trees_of_nodes nodes) ≡ length nodes
width_nodes [] = refl
width_nodes (node ∷ nodes) = ap (λ g. width (g (trees_of_nodes nodes))) (before_out node) ∙ ap suc (width_nodes nodes)

pub children_nodes : (at : ℕ) (nodes : List Node) (d : Node) → at < length nodes → d ≡ get_or nodes at d → children_from at (trees_of_nodes nodes) ≡ trees_of (out-Node d).children
children_nodes at [] d h e = absurd (omega arith)
children_nodes zero (node ∷ nodes) d h e = ap (λ g. children_from 0 (g (trees_of_nodes nodes))) (before_out node) ∙ ap (λ n. trees_of (out-Node n).children) (sym e)
children_nodes (suc at) (node ∷ nodes) d h e = ap (λ g. children_from (suc at) (g (trees_of_nodes nodes))) (before_out node) ∙ children_nodes at nodes d (omega arith) e

pub key_nodes : (at : ℕ) (nodes : List Node) (d : Node) → at < length nodes → d ≡ get_or nodes at d → key_from at (trees_of_nodes nodes) ≡ (out-Node d).key
key_nodes at [] d h e = absurd (omega arith)
key_nodes zero (node ∷ nodes) d h e = ap (λ g. key_from 0 (g (trees_of_nodes nodes))) (before_out node) ∙ ap (λ n. (out-Node n).key) (sym e)
key_nodes (suc at) (node ∷ nodes) d h e = ap (λ g. key_from (suc at) (g (trees_of_nodes nodes))) (before_out node) ∙ key_nodes at nodes d (omega arith) e

-- What the top-level nodes so far make: a list, with so many nodes, from which those that are left
-- make the outcome.
pub record SoFar (tops left : Trees) (total : ℕ) : Type 0 where
  pub made : Trees
  pub rest : resolved_tops left tops made ≡ resolved_tops tops tops none
  pub total_is : total ≡ count made
  pub small : total ≤ MAX_FOREST_NODES

-- A kept top-level node in the path of its own name.
pub kept_top : (tops : Trees) (kept : List (Option Resolved)) (at : ℕ) (held : Resolved) → AreKept tops kept → slot kept at ≡ Some held → held.height < MAX_PATH →
    resolved_at tops at (MAX_PATH - 1) [] ≡ Ok (trees_of held.children)
kept_top tops kept at held are e h = are at held e (MAX_PATH - 1) [] (omega arith) (λ other o p q. refl)

-- What looking for a name found.
pub place_done : (name : List ℕ) (tops : Trees) (found : Option ℕ) → removes name ≡ false → MatchOption found (Lacks name tops) (λ at. Stands name at tops) →
    MatchOption found (parent_of name tops ≡ None) (λ at. parent_of name tops ≡ Some (children_from at tops))
place_done name tops None r h = parent_lost name tops r h
place_done name tops (Some at) r h = parent_found name at tops r h

pub place_stands : (name : List ℕ) (tops : Trees) (found : Option ℕ) → MatchOption found (Lacks name tops) (λ at. Stands name at tops) →
    IfSome found (λ at. Stands name at tops)
place_stands name tops None h = tt
place_stands name tops (Some at) h = h

pub width_forest : (forest : Forest) → width (trees_of forest) ≡ length (out-Forest forest).nodes.items
width_forest forest = ap width (trees_out forest) ∙ width_nodes (out-Forest forest).nodes.items

slot_vacant : (len at : ℕ) → slot (replicate len None) at ≡ None
slot_vacant zero at = refl
slot_vacant (suc len) zero = refl
slot_vacant (suc len) (suc at) = slot_vacant len at

-- Where nothing is kept, all that is kept is right.
pub none_kept : (tops : Trees) (kept : List (Option Resolved)) (len : ℕ) → kept ≡ replicate len None → AreKept tops kept
none_kept tops kept len n at held e = absurd (filled held (sym (slot_vacant len at) ∙ ap (λ l. slot l at) (sym n) ∙ e))

length_vacant : (len : ℕ) → length (replicate {A = Option Resolved} len None) ≡ len
length_vacant zero = refl
length_vacant (suc len) = ap suc (length_vacant len)

pub vacant_long : (kept : List (Option Resolved)) (len : ℕ) → kept ≡ replicate len None → length kept ≡ len
vacant_long kept len n = ap length n ∙ length_vacant len
