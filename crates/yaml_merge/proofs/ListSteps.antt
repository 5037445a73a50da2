-- One node of a list that is being resolved.
use Rattle.std.proofs.Common.{◌≡◌, ℕ, zero, suc, ◌+◌, ◌-◌, ◌*◌, ◌<◌, List, length, drop, get_or}
use Rattle.std.proofs.Common.{refl, sym, ap, ◌∙◌, arith, inl, inr, Ok, Err}
use Rattle.std.proofs.lemmas.List.{drop_more}
use Rattle.base.specs.Steps.{◌>>=◌, IsFault}
use Rattle.yaml_lines.specs.declared.forest.Node.{Node}
use Rattle.yaml_lines.specs.declared.forest.Forest.{Forest}
use Rattle.yaml_lines.specs.declared.forest.Forest.TheViews.{out-Node, out-Forest}
use Rattle.yaml_lines.specs.declared.place.Place.{Place}
use Rattle.yaml_lines.specs.Trees.{Trees, none, more, trees_of, before, trees_of_nodes}
use Rattle.yaml_lines.proofs.TreeSteps.{trees_out, before_out}
use Rattle.yaml_merge.specs.declared.fault.MergeFault.{MergeFault}
use Rattle.yaml_merge.specs.declared.fault.MergeFault.TheVariants.{NoMemory}
use Rattle.yaml_merge.specs.declared.TheConstants.{MAX_LIST_NODES}
use Rattle.yaml_merge.specs.Merging.{joined, children_at}
use Rattle.yaml_merge.specs.Resolving.{Outcome, within, taken_in, resolved_list}
use Rattle.yaml_merge.proofs.PlaceLaws.{joined_below}

-- The measure falls where a parent is looked into.
pub falls : (free s c n : ℕ) → 0 < free → c < s → 4 * ((free - 1) * (s + 1) + c) + 3 < 4 * (free * (s + 1) + n) + 1
falls free s c n h l = grind arith

pub resolved_cons : (free room : ℕ) (tops : Trees) (path : List (List ℕ)) (key value : List ℕ) (place : Place) (children rest start : Trees) →
    resolved_list free (more key value place children rest) room tops path start
    ≡ (taken_in free room tops path key value place children start >>= within MAX_LIST_NODES place >>= λ list. resolved_list free rest room tops path list)
unfolding resolved_list taken_in
resolved_cons zero room tops path key value place children rest start = refl
resolved_cons (suc free) room tops path key value place children rest start = refl

resolved_at : (free room : ℕ) (tops : Trees) (path : List (List ℕ)) (nodes : List Node) (at : ℕ) (node : Node) (start : Trees) → at < length nodes → node ≡ get_or nodes at node →
    resolved_list free (trees_of_nodes (drop at nodes)) room tops path start
    ≡ (taken_in free room tops path (out-Node node).key (out-Node node).value (out-Node node).place (trees_of (out-Node node).children) start
    >>= within MAX_LIST_NODES (out-Node node).place
    >>= λ list. resolved_list free (trees_of_nodes (drop (at + 1) nodes)) room tops path list)
resolved_at free room tops path nodes at node start h n =
    let o = out-Node node in
    let rest = trees_of_nodes (drop (at + 1) nodes) in
    ap (λ l. resolved_list free (trees_of_nodes l) room tops path start) (drop_more nodes at node h)
    ∙ sym (ap (λ x. resolved_list free (before x rest) room tops path start) n)
    ∙ ap (λ g. resolved_list free (g rest) room tops path start) (before_out node)
    ∙ resolved_cons free room tops path o.key o.value o.place (trees_of o.children) rest start

pub resolved_step : (free room : ℕ) (tops : Trees) (path : List (List ℕ)) (nodes : List Node) (at : ℕ) (node : Node) (start next kept : Trees) (all : Outcome) →
    at < length nodes → node ≡ get_or nodes at node →
    taken_in free room tops path (out-Node node).key (out-Node node).value (out-Node node).place (trees_of (out-Node node).children) start ≡ Ok next →
    within MAX_LIST_NODES (out-Node node).place next ≡ Ok kept →
    resolved_list free (trees_of_nodes (drop at nodes)) room tops path start ≡ all →
    resolved_list free (trees_of_nodes (drop (at + 1) nodes)) room tops path kept ≡ all
resolved_step free room tops path nodes at node start next kept all h n t w e =
    let rest = λ (list : Trees). resolved_list free (trees_of_nodes (drop (at + 1) nodes)) room tops path list in
    sym (resolved_at free room tops path nodes at node start h n
    ∙ ap (λ o. o >>= within MAX_LIST_NODES (out-Node node).place >>= rest) t
    ∙ ap (λ o. o >>= rest) w)
    ∙ e

pub resolved_fault : (free room : ℕ) (tops : Trees) (path : List (List ℕ)) (nodes : List Node) (at : ℕ) (node : Node) (start : Trees) (fault : MergeFault) (all : Outcome) →
    at < length nodes → node ≡ get_or nodes at node →
    taken_in free room tops path (out-Node node).key (out-Node node).value (out-Node node).place (trees_of (out-Node node).children) start ≡ Err fault →
    resolved_list free (trees_of_nodes (drop at nodes)) room tops path start ≡ all → all ≡ Err fault
resolved_fault free room tops path nodes at node start fault all h n t e =
    let rest = λ (list : Trees). resolved_list free (trees_of_nodes (drop (at + 1) nodes)) room tops path list in
    sym e ∙ resolved_at free room tops path nodes at node start h n ∙ ap (λ o. o >>= within MAX_LIST_NODES (out-Node node).place >>= rest) t

pub resolved_faulted : (free room : ℕ) (tops : Trees) (path : List (List ℕ)) (nodes : List Node) (at : ℕ) (node : Node) (start : Trees) (fault : MergeFault) (all : Outcome) →
    at < length nodes → node ≡ get_or nodes at node →
    IsFault NoMemory fault (taken_in free room tops path (out-Node node).key (out-Node node).value (out-Node node).place (trees_of (out-Node node).children) start) →
    resolved_list free (trees_of_nodes (drop at nodes)) room tops path start ≡ all → IsFault NoMemory fault all
resolved_faulted free room tops path nodes at node start fault all h n (inl memory) e = inl memory
resolved_faulted free room tops path nodes at node start fault all h n (inr t) e = inr (resolved_fault free room tops path nodes at node start fault all h n t e)

pub resolved_large : (free room : ℕ) (tops : Trees) (path : List (List ℕ)) (nodes : List Node) (at : ℕ) (node : Node) (start next : Trees) (fault : MergeFault) (all : Outcome) →
    at < length nodes → node ≡ get_or nodes at node →
    taken_in free room tops path (out-Node node).key (out-Node node).value (out-Node node).place (trees_of (out-Node node).children) start ≡ Ok next →
    within MAX_LIST_NODES (out-Node node).place next ≡ Err fault →
    resolved_list free (trees_of_nodes (drop at nodes)) room tops path start ≡ all → all ≡ Err fault
resolved_large free room tops path nodes at node start next fault all h n t w e =
    let rest = λ (list : Trees). resolved_list free (trees_of_nodes (drop (at + 1) nodes)) room tops path list in
    sym e
    ∙ resolved_at free room tops path nodes at node start h n
    ∙ ap (λ o. o >>= within MAX_LIST_NODES (out-Node node).place >>= rest) t
    ∙ ap (λ o. o >>= rest) w

pub resolved_none : (free room : ℕ) (tops : Trees) (path : List (List ℕ)) (start : Trees) → resolved_list free none room tops path start ≡ Ok start
unfolding resolved_list
resolved_none free room tops path start = refl

pub resolved_out : (free room : ℕ) (tops : Trees) (path : List (List ℕ)) (list : Forest) (start : Trees) →
    resolved_list free (trees_of list) room tops path start ≡ resolved_list free (trees_of_nodes (out-Forest list).nodes.items) room tops path start
resolved_out free room tops path list start = ap (λ l. resolved_list free l room tops path start) (trees_out list)

-- A node joined to the list with its resolved children.
pub join_done : (free room : ℕ) (tops : Trees) (path : List (List ℕ)) (key value : List ℕ) (place : Place) (children list old below next : Trees) →
    children_at key list ≡ old → resolved_list free children (room - 1) tops path old ≡ Ok below → next ≡ joined key value place (λ _. below) list →
    (resolved_list free children (room - 1) tops path (children_at key list) >>= λ (b : Trees). Ok (joined key value place (λ _. b) list)) ≡ Ok next
join_done free room tops path key value place children list old below next c r n =
    let f : Trees → Outcome = λ b. Ok (joined key value place (λ _. b) list) in
    ap (λ o. resolved_list free children (room - 1) tops path o >>= f) c ∙ ap (λ o. o >>= f) r ∙ ap Ok (sym n)

-- A node without children joined to the list.
pub leaf_done : (free room : ℕ) (tops : Trees) (path : List (List ℕ)) (key value : List ℕ) (place : Place) (children list next : Trees) → children ≡ none →
    next ≡ joined key value place (λ below. below) list →
    (resolved_list free children (room - 1) tops path (children_at key list) >>= λ (b : Trees). Ok (joined key value place (λ _. b) list)) ≡ Ok next
leaf_done free room tops path key value place children list next c n =
    let f : Trees → Outcome = λ b. Ok (joined key value place (λ _. b) list) in
    ap (λ l. resolved_list free l (room - 1) tops path (children_at key list) >>= f) c
    ∙ ap (λ o. o >>= f) (resolved_none free (room - 1) tops path (children_at key list))
    ∙ ap Ok (joined_below key value place (λ below. below) list ∙ sym n)
