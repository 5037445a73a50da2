-- One top-level node.
use Rattle.std.proofs.Common.{◌≡◌, ℕ, ◌+◌, ◌-◌, ◌<◌, true, false, ◌≤◌, List, [], ◌∷◌, ◌++◌, map}
use Rattle.std.proofs.Common.{length, drop, get_or, refl, sym, ap, ◌∙◌, arith, inl, inr, subst}
use Rattle.std.proofs.Common.{cond, Bool, Option, Some, None, Ok, Err}
use Rattle.std.proofs.lemmas.Bool.{cases_eq, cond-true, cond-false}
use Rattle.std.proofs.lemmas.List.{drop_more}
use Rattle.base.specs.Steps.{◌>>=◌, IsFault}
use Rattle.yaml_lines.specs.declared.forest.Node.{Node}
use Rattle.yaml_lines.specs.declared.forest.Forest.{Forest}
use Rattle.yaml_lines.specs.declared.forest.Forest.TheViews.{out-Node, out-Forest}
use Rattle.yaml_lines.specs.declared.TheConstants.{MAX_LEVELS}
use Rattle.yaml_lines.specs.Trees.{Trees, none, trees_of, before, trees_of_nodes}
use Rattle.yaml_lines.proofs.TreeSteps.{trees_out, trees_roll, before_out}
use Rattle.yaml_merge.specs.declared.fault.MergeFault.{MergeFault}
use Rattle.yaml_merge.specs.declared.fault.MergeFault.TheVariants.{NoMemory, TooLarge}
use Rattle.yaml_merge.specs.declared.TheConstants.{MAX_PATH, MAX_FOREST_NODES}
use Rattle.yaml_merge.specs.Kept.{key_from, slot, resolved_at, AreKept, AreKeptBefore, StayKept}
use Rattle.yaml_merge.specs.declared.resolved.Resolved.{Resolved}
use Rattle.std.specs.Prelude.{is_some, IsSome, MatchOption, ⊤}
use Rattle.yaml_merge.specs.Places.{children_from}
use Rattle.yaml_merge.specs.Merging.{merged_into, merged_files, count}
use Rattle.yaml_merge.specs.Resolving.{Outcome, within, removes, resolved_list, added}
use Rattle.yaml_merge.specs.Resolving.{resolved_tops}
use Rattle.yaml_merge.proofs.DescentSteps.{node_key}
use Rattle.yaml_merge.proofs.SlotSteps.{count_added}
use Rattle.yaml_merge.proofs.StepSteps.{within_small, within_large}
use Rattle.yaml_merge.proofs.TopSteps.{SoFar, children_nodes, key_nodes, kept_top, width_forest}

-- What is left after a removal is passed over.
pub tops_past : (nodes : List Node) (at : ℕ) (d : Node) (tops done : Trees) → at < length nodes → removes (out-Node (get_or nodes at d)).key ≡ true →
    resolved_tops (trees_of_nodes (drop at nodes)) tops done ≡ resolved_tops (trees_of_nodes (drop (at + 1) nodes)) tops done
tops_past nodes at d tops kept h r =
    ap (λ l. resolved_tops (trees_of_nodes l) tops kept) (drop_more nodes at d h)
    ∙ ap (λ g. resolved_tops (g (trees_of_nodes (drop (at + 1) nodes))) tops kept) (before_out (get_or nodes at d))
    ∙ cond-true _ _ _ r

-- One more file.
pub merge_file : (files : List Forest) (at : ℕ) (d : Forest) (list next all : Trees) → at < length files →
    next ≡ merged_into (trees_of (get_or files at d)) list → merged_files (map trees_of (drop at files)) list ≡ all → merged_files (map trees_of (drop (at + 1) files)) next ≡ all
merge_file files at d list next all h n e =
    ap (merged_files (map trees_of (drop (at + 1) files))) n ∙ sym (ap (λ l. merged_files (map trees_of l) list) (drop_more files at d h)) ∙ e

tops_at : (nodes : List Node) (at : ℕ) (node : Node) (tops start : Trees) → at < length nodes → node ≡ get_or nodes at node → removes (out-Node node).key ≡ false →
    resolved_tops (trees_of_nodes (drop at nodes)) tops start
    ≡ (resolved_list (MAX_PATH - 1) (trees_of (out-Node node).children) (MAX_LEVELS - 1) tops ((out-Node node).key ∷ []) none
    >>= (λ below. within MAX_FOREST_NODES (out-Node node).place (added (out-Node node).key (out-Node node).value (out-Node node).place below start))
    >>= λ next. resolved_tops (trees_of_nodes (drop (at + 1) nodes)) tops next)
tops_at nodes at node tops start h n r =
    let rest = trees_of_nodes (drop (at + 1) nodes) in
    ap (λ l. resolved_tops (trees_of_nodes l) tops start) (drop_more nodes at node h)
    ∙ sym (ap (λ x. resolved_tops (before x rest) tops start) n)
    ∙ ap (λ g. resolved_tops (g rest) tops start) (before_out node)
    ∙ cond-false _ _ _ r

pub tops_next : (nodes : List Node) (at : ℕ) (node : Node) (tops start below next kept : Trees) (all : Outcome) → at < length nodes → node ≡ get_or nodes at node →
    removes (out-Node node).key ≡ false →
    resolved_list (MAX_PATH - 1) (trees_of (out-Node node).children) (MAX_LEVELS - 1) tops ((out-Node node).key ∷ []) none ≡ Ok below →
    next ≡ added (out-Node node).key (out-Node node).value (out-Node node).place below start →
    within MAX_FOREST_NODES (out-Node node).place next ≡ Ok kept →
    resolved_tops (trees_of_nodes (drop at nodes)) tops start ≡ all → resolved_tops (trees_of_nodes (drop (at + 1) nodes)) tops kept ≡ all
tops_next nodes at node tops start below next kept all h n r b x w e =
    let o = out-Node node in
    let rest : Trees → Outcome = λ t. resolved_tops (trees_of_nodes (drop (at + 1) nodes)) tops t in
    sym (tops_at nodes at node tops start h n r
    ∙ ap (λ u. u >>= (λ c. within MAX_FOREST_NODES o.place (added o.key o.value o.place c start)) >>= rest) b
    ∙ ap (λ t. within MAX_FOREST_NODES o.place t >>= rest) (sym x)
    ∙ ap (λ u. u >>= rest) w)
    ∙ e

pub tops_large : (nodes : List Node) (at : ℕ) (node : Node) (tops start below next : Trees) (fault : MergeFault) (all : Outcome) → at < length nodes → node ≡ get_or nodes at node →
    removes (out-Node node).key ≡ false →
    resolved_list (MAX_PATH - 1) (trees_of (out-Node node).children) (MAX_LEVELS - 1) tops ((out-Node node).key ∷ []) none ≡ Ok below →
    next ≡ added (out-Node node).key (out-Node node).value (out-Node node).place below start →
    within MAX_FOREST_NODES (out-Node node).place next ≡ Err fault →
    resolved_tops (trees_of_nodes (drop at nodes)) tops start ≡ all → all ≡ Err fault
tops_large nodes at node tops start below next fault all h n r b x w e =
    let o = out-Node node in
    let rest : Trees → Outcome = λ t. resolved_tops (trees_of_nodes (drop (at + 1) nodes)) tops t in
    sym e
    ∙ tops_at nodes at node tops start h n r
    ∙ ap (λ u. u >>= (λ c. within MAX_FOREST_NODES o.place (added o.key o.value o.place c start)) >>= rest) b
    ∙ ap (λ t. within MAX_FOREST_NODES o.place t >>= rest) (sym x)
    ∙ ap (λ u. u >>= rest) w

-- A top-level node, found by its place.
pub top_at : (forest : Forest) (nodes : List Node) (at : ℕ) (node : Node) (free : ℕ) (path : List (List ℕ)) → nodes ≡ (out-Forest forest).nodes.items →
    at < length nodes → node ≡ get_or nodes at node →
    resolved_at (trees_of forest) at free path
    ≡ resolved_list free (trees_of (out-Node node).children) (MAX_LEVELS - 1) (trees_of forest) (path ++ (out-Node node).key ∷ []) none
top_at forest nodes at node free path n h e =
    let tops = trees_of forest in
    let all : tops ≡ trees_of_nodes nodes = trees_out forest ∙ ap trees_of_nodes (sym n) in
    ap (λ c. resolved_list free c (MAX_LEVELS - 1) tops (path ++ key_from at tops ∷ []) none) (ap (children_from at) all ∙ children_nodes at nodes node h e)
    ∙ ap (λ k. resolved_list free (trees_of (out-Node node).children) (MAX_LEVELS - 1) tops (path ++ k ∷ []) none) (ap (key_from at) all ∙ key_nodes at nodes node h e)

-- The top-level nodes one by one.
pub far_first : (tops : Trees) (nodes : List Node) → tops ≡ trees_of_nodes nodes → SoFar tops (trees_of_nodes nodes) 0
far_first tops nodes e = record { made = none; rest = ap (λ l. resolved_tops l tops none) (sym e); total_is = refl; small = omega arith }

pub far_past : (nodes : List Node) (at : ℕ) (node : Node) (tops : Trees) (total : ℕ) → at < length nodes → node ≡ get_or nodes at node → removes (out-Node node).key ≡ true →
    SoFar tops (trees_of_nodes (drop at nodes)) total → SoFar tops (trees_of_nodes (drop (at + 1) nodes)) total
far_past nodes at node tops total h n r far = record {
  made = far.made;
  rest = sym (tops_past nodes at node tops far.made h (ap (λ x. removes (out-Node x).key) (sym n) ∙ r)) ∙ far.rest;
  total_is = far.total_is;
  small = far.small;
}

pub far_more : (nodes : List Node) (at : ℕ) (node : Node) (tops below : Trees) (total next : ℕ) → at < length nodes → node ≡ get_or nodes at node →
    removes (out-Node node).key ≡ false →
    resolved_list (MAX_PATH - 1) (trees_of (out-Node node).children) (MAX_LEVELS - 1) tops ((out-Node node).key ∷ []) none ≡ Ok below →
    next ≡ total + count below + 1 → next ≤ MAX_FOREST_NODES →
    SoFar tops (trees_of_nodes (drop at nodes)) total → SoFar tops (trees_of_nodes (drop (at + 1) nodes)) next
far_more nodes at node tops below total next h n r b t s far =
    let o = out-Node node in
    let made = added o.key o.value o.place below far.made in
    let all = count_added o.key o.value o.place below far.made in
    record {
      made = made;
      rest = tops_next nodes at node tops far.made below made made _ h n r b refl
          (within_small MAX_FOREST_NODES o.place made (omega (arith, all, t, s, far.total_is))) far.rest;
      total_is = omega (arith, all, t, far.total_is);
      small = s;
    }

pub far_large : (nodes : List Node) (at : ℕ) (node : Node) (tops below : Trees) (total : ℕ) → at < length nodes → node ≡ get_or nodes at node →
    removes (out-Node node).key ≡ false →
    resolved_list (MAX_PATH - 1) (trees_of (out-Node node).children) (MAX_LEVELS - 1) tops ((out-Node node).key ∷ []) none ≡ Ok below →
    MAX_FOREST_NODES < total + count below + 1 →
    SoFar tops (trees_of_nodes (drop at nodes)) total → resolved_tops tops tops none ≡ Err (TooLarge (out-Node node).place)
far_large nodes at node tops below total h n r b large far =
    let o = out-Node node in
    let made = added o.key o.value o.place below far.made in
    let all = count_added o.key o.value o.place below far.made in
    tops_large nodes at node tops far.made below made (TooLarge o.place) _ h n r b refl
    (within_large MAX_FOREST_NODES o.place made (omega (arith, all, large, far.total_is))) far.rest

pub far_fault : (nodes : List Node) (at : ℕ) (node : Node) (tops : Trees) (total : ℕ) (fault : MergeFault) → at < length nodes → node ≡ get_or nodes at node →
    removes (out-Node node).key ≡ false →
    IsFault NoMemory fault (resolved_list (MAX_PATH - 1) (trees_of (out-Node node).children) (MAX_LEVELS - 1) tops ((out-Node node).key ∷ []) none) →
    SoFar tops (trees_of_nodes (drop at nodes)) total → IsFault NoMemory fault (resolved_tops tops tops none)
far_fault nodes at node tops total fault h n r (inl memory) far = inl memory
far_fault nodes at node tops total fault h n r (inr e) far =
    let o = out-Node node in
    let rest : Trees → Outcome = λ t. resolved_tops (trees_of_nodes (drop (at + 1) nodes)) tops t in
    inr (sym far.rest
    ∙ tops_at nodes at node tops far.made h n r
    ∙ ap (λ u. u >>= (λ c. within MAX_FOREST_NODES o.place (added o.key o.value o.place c far.made)) >>= rest) e)

-- A kept top-level node, and how many nodes are below it.
pub record Counted (kept : List (Option Resolved)) (at total : ℕ) : Type 0 where
  pub held : Resolved
  pub held_is : slot kept at ≡ Some held
  pub total_is : total ≡ count (trees_of held.children)

counted_found : (kept : List (Option Resolved)) (at total : ℕ) (found : Option Resolved) → slot kept at ≡ found → is_some found ≡ true →
    MatchOption found ⊤ (λ held. total ≡ count (trees_of held.children)) → Counted kept at total
counted_found kept at total None e is h = absurd (subst (λ (b : Bool). cond b ⊥ (Unit {0})) is tt)
counted_found kept at total (Some held) e is h = record { held = held; held_is = e; total_is = h }

pub counted : (kept : List (Option Resolved)) (at total : ℕ) → is_some (slot kept at) ≡ true →
    MatchOption (slot kept at) ⊤ (λ held. total ≡ count (trees_of held.children)) → Counted kept at total
counted kept at total is h = counted_found kept at total (slot kept at) refl is h

pub kept_at : (forest : Forest) (at : ℕ) (node : Node) (kept : List (Option Resolved)) (held : Resolved) → at < length (out-Forest forest).nodes.items →
    node ≡ get_or (out-Forest forest).nodes.items at node → AreKept (trees_of forest) kept → slot kept at ≡ Some held →
    resolved_list (MAX_PATH - 1) (trees_of (out-Node node).children) (MAX_LEVELS - 1) (trees_of forest) ((out-Node node).key ∷ []) none ≡ Ok (trees_of held.children)
kept_at forest at node kept held h n are e =
    sym (top_at forest (out-Forest forest).nodes.items at node (MAX_PATH - 1) [] refl h n) ∙ kept_top (trees_of forest) kept at held are e held.low

pub far_kept : (forest : Forest) (at : ℕ) (node : Node) (kept : List (Option Resolved)) (total below next : ℕ) → at < length (out-Forest forest).nodes.items →
    node ≡ get_or (out-Forest forest).nodes.items at node → removes (out-Node node).key ≡ false → AreKept (trees_of forest) kept → Counted kept at below →
    next ≡ total + below + 1 → next ≤ MAX_FOREST_NODES →
    SoFar (trees_of forest) (trees_of_nodes (drop at (out-Forest forest).nodes.items)) total →
    SoFar (trees_of forest) (trees_of_nodes (drop (at + 1) (out-Forest forest).nodes.items)) next
far_kept forest at node kept total below next h n r are k t s far =
    far_more (out-Forest forest).nodes.items at node (trees_of forest) (trees_of k.held.children) total next h n r
    (kept_at forest at node kept k.held h n are k.held_is) (omega (arith, t, k.total_is)) s far

pub far_full : (forest : Forest) (at : ℕ) (node : Node) (kept : List (Option Resolved)) (total below : ℕ) → at < length (out-Forest forest).nodes.items →
    node ≡ get_or (out-Forest forest).nodes.items at node → removes (out-Node node).key ≡ false → AreKept (trees_of forest) kept → Counted kept at below →
    MAX_FOREST_NODES < total + below + 1 →
    SoFar (trees_of forest) (trees_of_nodes (drop at (out-Forest forest).nodes.items)) total →
    resolved_tops (trees_of forest) (trees_of forest) none ≡ Err (TooLarge (out-Node node).place)
far_full forest at node kept total below h n r are k large far =
    far_large (out-Forest forest).nodes.items at node (trees_of forest) (trees_of k.held.children) total h n r
    (kept_at forest at node kept k.held h n are k.held_is) (omega (arith, large, k.total_is)) far

pub far_lost : (forest : Forest) (at : ℕ) (node : Node) (total : ℕ) (fault : MergeFault) → at < length (out-Forest forest).nodes.items →
    node ≡ get_or (out-Forest forest).nodes.items at node → removes (out-Node node).key ≡ false →
    IsFault NoMemory fault (resolved_at (trees_of forest) at (MAX_PATH - 1) []) →
    SoFar (trees_of forest) (trees_of_nodes (drop at (out-Forest forest).nodes.items)) total →
    IsFault NoMemory fault (resolved_tops (trees_of forest) (trees_of forest) none)
far_lost forest at node total fault h n r f far =
    far_fault (out-Forest forest).nodes.items at node (trees_of forest) total fault h n r
    (subst (IsFault NoMemory fault) (top_at forest (out-Forest forest).nodes.items at node (MAX_PATH - 1) [] refl h n) f) far

-- One more top-level node is kept, or is a removal.
pub before_kept : (tops : Trees) (at : ℕ) (kept news : List (Option Resolved)) → StayKept kept news → IsSome (slot news at) →
    AreKeptBefore at tops kept → AreKeptBefore (at + 1) tops news
before_kept tops at kept news stay is earlier other h r =
    elim (cases_eq other at) [
      | inl same ↦ subst (λ a. IsSome (slot news a)) (sym same) is
      | inr apart ↦ stay other (earlier other (omega (arith, h, apart)) r)
    ]

pub before_past : (forest : Forest) (at : ℕ) (node : Node) (kept : List (Option Resolved)) → at < length (out-Forest forest).nodes.items →
    node ≡ get_or (out-Forest forest).nodes.items at node → removes (out-Node node).key ≡ true →
    AreKeptBefore at (trees_of forest) kept → AreKeptBefore (at + 1) (trees_of forest) kept
before_past forest at node kept place n is earlier other h r =
    elim (cases_eq other at) [
      | inl same ↦ absurd (subst (λ (b : Bool). cond b (Unit {0}) ⊥)
          (sym is ∙ ap removes (node_key forest at node (omega (arith, place, width_forest forest)) n) ∙ ap (λ a. removes (key_from a (trees_of forest))) (sym same) ∙ r) tt)
      | inr apart ↦ earlier other (omega (arith, h, apart)) r
    ]

pub ruleset top_steps = (tops_past, trees_roll, trees_out)
