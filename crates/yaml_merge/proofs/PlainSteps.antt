-- Lists in which nothing is inherited or removed.
use Rattle.std.proofs.Common.{◌≡◌, ℕ, suc, ◌+◌, ◌-◌, ◌<◌, ◌≤◌, false, List, [], ◌∷◌, ◌++◌, length}
use Rattle.std.proofs.Common.{take, drop, get_or, sym, ap, ◌∙◌, subst, Option, Some, Ok, arith}
use Rattle.std.specs.Prelude.{IfSome}
use Rattle.yaml_lines.specs.declared.forest.Node.{Node}
use Rattle.yaml_lines.specs.declared.forest.Forest.TheViews.{out-Node}
use Rattle.yaml_lines.specs.declared.TheConstants.{MAX_LEVELS}
use Rattle.yaml_lines.specs.Trees.{Trees, none, more, trees_of, before, trees_of_nodes}
use Rattle.yaml_merge.specs.declared.resolved.Resolved.{Resolved}
use Rattle.yaml_merge.specs.declared.TheConstants.{MAX_FOREST_NODES, MAX_LIST_NODES}
use Rattle.yaml_merge.specs.Kept.{Gives}
use Rattle.yaml_merge.specs.Laws.{AreSmall, IsPlain, IsPlainTop}
use Rattle.yaml_merge.specs.Merging.{count}
use Rattle.yaml_merge.specs.Resolving.{inherits, removes, resolved_list, added}
use Rattle.yaml_merge.specs.Settled.{IsSettled, IsSettledTop, IsDistinct}
use Rattle.yaml_merge.proofs.NodeSteps.{added_last, more_nodes, nodes_from}
use Rattle.yaml_merge.proofs.SettledSteps.{none_apart}
use Rattle.yaml_merge.proofs.StaysSteps.{list_stays}

-- What is known of the nodes from a place on is known of all: that they are plain, and how many
-- they are.
pub record PlainSoFar (left all : Trees) (total : ℕ) : Type 0 where
  pub plain : IsPlain left → IsPlain all
  pub total_is : total + count left ≡ count all

pub plain_next : (nodes : List Node) (at : ℕ) (node : Node) (all : Trees) (total next below : ℕ) → at < length nodes → node ≡ get_or nodes at node →
    inherits (out-Node node).key ≡ false → removes (out-Node node).key ≡ false → IsPlain (trees_of (out-Node node).children) →
    below ≡ count (trees_of (out-Node node).children) → next ≡ suc total + below →
    PlainSoFar (trees_of_nodes (drop at nodes)) all total → PlainSoFar (trees_of_nodes (drop (at + 1) nodes)) all next
plain_next nodes at node all total next below h n i r p b t s =
    let from = nodes_from nodes at node h n in
    let counted = ap count from in
    record {
      plain = λ rest. s.plain (subst IsPlain (sym from) (i, r, p, rest));
      total_is = omega (arith, s.total_is, counted, b, t);
    }

pub plain_settled : (list : Trees) → IsPlain list → IsDistinct list → IsSettled list
plain_settled none p d = tt
plain_settled (more key value place children rest) (i, r, c, p) (l, b, d) =
    (l, i, r, plain_settled children c b, plain_settled rest p d)

-- The same of the nodes of a top level, and that they are not too many.
pub record TopsSoFar (left all : Trees) (total : ℕ) : Type 0 where
  pub plain : IsPlainTop left → IsPlainTop all
  pub small : AreSmall left → AreSmall all
  pub total_is : total + count left ≡ count all
  pub few : total ≤ MAX_FOREST_NODES

pub tops_next : (nodes : List Node) (at : ℕ) (node : Node) (all : Trees) (total next below : ℕ) → at < length nodes → node ≡ get_or nodes at node →
    removes (out-Node node).key ≡ false → IsPlain (trees_of (out-Node node).children) →
    below ≡ count (trees_of (out-Node node).children) → below ≤ MAX_LIST_NODES → next ≡ suc total + below → next ≤ MAX_FOREST_NODES →
    TopsSoFar (trees_of_nodes (drop at nodes)) all total → TopsSoFar (trees_of_nodes (drop (at + 1) nodes)) all next
tops_next nodes at node all total next below h n r p b low t few s =
    let from = nodes_from nodes at node h n in
    let counted = ap count from in
    record {
      plain = λ rest. s.plain (subst IsPlainTop (sym from) (r, p, rest));
      small = λ rest. s.small (subst AreSmall (sym from) (omega (arith, b, low), rest));
      total_is = omega (arith, s.total_is, counted, b, t);
      few = few;
    }

pub plain_settled_top : (list : Trees) → IsPlainTop list → IsDistinct list → IsSettledTop list
plain_settled_top none p d = tt
plain_settled_top (more key value place children rest) (r, c, p) (l, b, d) =
    (l, r, plain_settled children c b, plain_settled_top rest p d)

-- A plain list resolves to itself.
pub plain_gives : (tops : Trees) (kept : List (Option Resolved)) (height : ℕ) (list made : Trees) → IsDistinct list → IsPlain list →
    count list ≤ MAX_LIST_NODES → made ≡ list →
    Gives tops kept height (λ free path. resolved_list free list (MAX_LEVELS - 1) tops path none) made
plain_gives tops kept height list made d p n m = λ free path h clear.
    list_stays free (MAX_LEVELS - 1) tops path list none (plain_settled list p d) (none_apart list) n ∙ ap Ok (sym m)

-- One more node of a copy.
pub copied_next : (nodes copy : List Node) (at : ℕ) (node made : Node) (children : Trees) → at < length nodes → node ≡ get_or nodes at node →
    before made ≡ (λ rest. more (out-Node node).key (out-Node node).value (out-Node node).place children rest) →
    children ≡ trees_of (out-Node node).children → trees_of_nodes copy ≡ trees_of_nodes (take at nodes) →
    (next : List Node) → next ≡ copy ++ made ∷ [] → trees_of_nodes next ≡ trees_of_nodes (take (at + 1) nodes)
copied_next nodes copy at node made children h n m c s next e =
    let o = out-Node node in
    ap trees_of_nodes e
    ∙ added_last copy o.key o.value o.place children made m
    ∙ ap (λ b. added o.key o.value o.place b (trees_of_nodes copy)) c
    ∙ ap (added o.key o.value o.place (trees_of o.children)) s
    ∙ sym (more_nodes nodes at node h n)

pub some_given : {A : Type 0} (P : A → Type 0) (found : Option A) (made : A) → found ≡ Some made → IfSome found P → P made
some_given P found made e h = subst (λ o. IfSome o P) e h
