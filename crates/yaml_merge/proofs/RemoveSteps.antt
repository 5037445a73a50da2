-- Removals at the top level, by flags.
use Rattle.std.proofs.Common.{◌≡◌, ℕ, zero, suc, ◌+◌, ◌<◌, Bool, true, false, cond, List, [], ◌∷◌}
use Rattle.std.proofs.Common.{◌++◌, length, drop, get_or, set, replicate, refl, sym, ap, ◌∙◌, subst}
use Rattle.std.proofs.Common.{Some, None, Err, arith, length-append}
use Rattle.std.proofs.lemmas.Bool.{cond-true, cond-false}
use Rattle.std.proofs.lemmas.Slice.Eq.{bytes_eq-Decides}
use Rattle.base.specs.Steps.{◌>>=◌}
use Rattle.yaml_lines.specs.declared.forest.Node.{Node}
use Rattle.yaml_lines.specs.declared.forest.Forest.TheViews.{out-Node}
use Rattle.yaml_lines.specs.declared.place.Place.{Place}
use Rattle.yaml_lines.specs.Trees.{Trees, none, more, trees_of, trees_of_nodes}
use Rattle.yaml_lines.proofs.TreeSteps.{before_out}
use Rattle.yaml_merge.specs.declared.fault.MergeFault.TheVariants.{NothingToRemove}
use Rattle.yaml_merge.specs.Places.{Stands, width}
use Rattle.yaml_merge.specs.Merging.{Lacks, without, with_first}
use Rattle.yaml_merge.specs.Removing.{TakesFlag, left_by}
use Rattle.yaml_merge.specs.Resolving.{removes, removed, added, removed_tops}
use Rattle.yaml_merge.specs.Settled.{IsOnce}
use Rattle.yaml_merge.proofs.NodeSteps.{added_last, nodes_from}
use Rattle.yaml_merge.proofs.SettledSteps.{either}
use Rattle.yaml_merge.proofs.TopSteps.{width_nodes}

lacks_left : (q : List ℕ) (flags : List Bool) (list : Trees) → Lacks q list → Lacks q (left_by flags list)
lacks_left q flags none h = tt
lacks_left q [] (more key value place children rest) h = tt
lacks_left q (flag ∷ flags) (more key value place children rest) h =
    either (Lacks q) flag (more key value place children (left_by flags rest)) (left_by flags rest)
    (h.0, lacks_left q flags rest h.1) (lacks_left q flags rest h.1)

without_lacked : (q : List ℕ) (list : Trees) → Lacks q list → without q list ≡ None
without_lacked q none h = refl
without_lacked q (more key value place children rest) h =
    cond-false _ _ _ h.0 ∙ ap (with_first key value place children) (without_lacked q rest h.1)

-- A node whose flag isn't set.
lacks_gone : (name : List ℕ) (at : ℕ) (flags : List Bool) (list : Trees) → Stands name at list → IsOnce list → get_or flags at false ≡ false →
    Lacks name (left_by flags list)
lacks_gone name at flags none s o f = absurd s
lacks_gone name at [] (more key value place children rest) s o f = tt
lacks_gone name zero (flag ∷ flags) (more key value place children rest) s o f =
    subst (Lacks name) (sym (cond-false flag (more key value place children (left_by flags rest)) (left_by flags rest) f))
    (lacks_left name flags rest (subst (λ k. Lacks k rest) ((bytes_eq-Decides key name).0 s) o.0))
lacks_gone name (suc at) (flag ∷ flags) (more key value place children rest) s o f =
    either (Lacks name) flag (more key value place children (left_by flags rest)) (left_by flags rest)
    (s.0, lacks_gone name at flags rest s.1 o.1 f) (lacks_gone name at flags rest s.1 o.1 f)

-- A node whose flag is taken back.
without_taken : (name : List ℕ) (at : ℕ) (flags : List Bool) (list : Trees) → Stands name at list → get_or flags at false ≡ true →
    without name (left_by flags list) ≡ Some (left_by (set flags at false) list)
without_taken name at flags none s f = absurd s
without_taken name at [] (more key value place children rest) s f = let e : false ≡ true = f in cc
without_taken name zero (flag ∷ flags) (more key value place children rest) s f =
    ap (without name) (cond-true flag (more key value place children (left_by flags rest)) (left_by flags rest) f)
    ∙ cond-true _ _ _ s
without_taken name (suc at) (true ∷ flags) (more key value place children rest) s f =
    cond-false _ _ _ s.0 ∙ ap (with_first key value place children) (without_taken name at flags rest s.1 f)
without_taken name (suc at) (false ∷ flags) (more key value place children rest) s f = without_taken name at flags rest s.1 f

pub named_taken : (name : List ℕ) (at : ℕ) (old new : List Bool) (list : Trees) (result : Bool) → Stands name at list → IsOnce list →
    TakesFlag at old new result →
    without name (left_by old list) ≡ cond result (Some (left_by new list)) None
named_taken name at old new list true s o (f, n) = without_taken name at old list s f ∙ ap (λ flags. Some (left_by flags list)) (sym n)
named_taken name at old new list false s o (f, n) = without_lacked name (left_by old list) (lacks_gone name at old list s o f)

pub named_lacked : (name : List ℕ) (flags : List Bool) (list : Trees) → Lacks name list → without name (left_by flags list) ≡ None
named_lacked name flags list h = without_lacked name (left_by flags list) (lacks_left name flags list h)

-- All flags set.
pub left_all : (list : Trees) (len : ℕ) → len ≡ width list → left_by (replicate len true) list ≡ list
left_all none len h = refl
left_all (more key value place children rest) zero h = let e : zero ≡ suc (width rest) = h in cc
left_all (more key value place children rest) (suc len) h = ap (more key value place children) (left_all rest len (omega (arith, h)))

-- The removals from a node on.
pub removed_past : (nodes : List Node) (at : ℕ) (node : Node) (start : Trees) → at < length nodes → node ≡ get_or nodes at node →
    removes (out-Node node).key ≡ false →
    removed_tops (trees_of_nodes (drop at nodes)) start ≡ removed_tops (trees_of_nodes (drop (at + 1) nodes)) start
removed_past nodes at node start h n r = ap (λ t. removed_tops t start) (nodes_from nodes at node h n) ∙ cond-false _ _ _ r

pub removed_next : (nodes : List Node) (at : ℕ) (node : Node) (start next : Trees) → at < length nodes → node ≡ get_or nodes at node →
    removes (out-Node node).key ≡ true → without (drop 1 (out-Node node).key) start ≡ Some next →
    removed_tops (trees_of_nodes (drop at nodes)) start ≡ removed_tops (trees_of_nodes (drop (at + 1) nodes)) next
removed_next nodes at node start next h n r w =
    let rest = trees_of_nodes (drop (at + 1) nodes) in
    ap (λ t. removed_tops t start) (nodes_from nodes at node h n)
    ∙ cond-true _ _ _ r
    ∙ ap (λ left. removed (out-Node node).place left >>= (λ list. removed_tops rest list)) w

pub removed_lost : (nodes : List Node) (at : ℕ) (node : Node) (start : Trees) → at < length nodes → node ≡ get_or nodes at node →
    removes (out-Node node).key ≡ true → without (drop 1 (out-Node node).key) start ≡ None →
    removed_tops (trees_of_nodes (drop at nodes)) start ≡ Err (NothingToRemove (out-Node node).place)
removed_lost nodes at node start h n r w =
    let rest = trees_of_nodes (drop (at + 1) nodes) in
    ap (λ t. removed_tops t start) (nodes_from nodes at node h n)
    ∙ cond-true _ _ _ r
    ∙ ap (λ left. removed (out-Node node).place left >>= (λ list. removed_tops rest list)) w

-- The nodes whose flags are set, one after the other.
past_choice : (first : Trees → Trees) (test : Bool) (one other : Trees) → first (cond test one other) ≡ cond test (first one) (first other)
past_choice first true one other = refl
past_choice first false one other = refl

left_added : (flags : List Bool) (list : Trees) (key value : List ℕ) (place : Place) (children : Trees) →
    left_by flags (added key value place children list)
    ≡ cond (get_or flags (width list) false) (added key value place children (left_by flags list)) (left_by flags list)
left_added [] none key value place children = refl
left_added (flag ∷ flags) none key value place children = refl
left_added [] (more first old last others rest) key value place children = refl
left_added (true ∷ flags) (more first old last others rest) key value place children =
    ap (more first old last others) (left_added flags rest key value place children)
    ∙ past_choice (more first old last others) (get_or flags (width rest) false) (added key value place children (left_by flags rest)) (left_by flags rest)
left_added (false ∷ flags) (more first old last others rest) key value place children = left_added flags rest key value place children

left_more : (flags : List Bool) (nodes : List Node) (node : Node) →
    left_by flags (trees_of_nodes (nodes ++ node ∷ []))
    ≡ cond (get_or flags (length nodes) false)
    (added (out-Node node).key (out-Node node).value (out-Node node).place (trees_of (out-Node node).children) (left_by flags (trees_of_nodes nodes)))
    (left_by flags (trees_of_nodes nodes))
left_more flags nodes node =
    let o = out-Node node in
    let list = trees_of_nodes nodes in
    let next = added o.key o.value o.place (trees_of o.children) (left_by flags list) in
    ap (left_by flags) (added_last nodes o.key o.value o.place (trees_of o.children) node (before_out node))
    ∙ left_added flags list o.key o.value o.place (trees_of o.children)
    ∙ ap (λ at. cond (get_or flags at false) next (left_by flags list)) (width_nodes nodes)

flag_at : (flags : List Bool) (at : ℕ) → get_or (drop at flags) 0 false ≡ get_or flags at false
flag_at [] zero = refl
flag_at [] (suc at) = refl
flag_at (flag ∷ flags) zero = refl
flag_at (flag ∷ flags) (suc at) = flag_at flags at

flags_after : (flags : List Bool) (at : ℕ) → drop 1 (drop at flags) ≡ drop (suc at) flags
flags_after [] zero = refl
flags_after [] (suc at) = refl
flags_after (flag ∷ flags) zero = refl
flags_after (flag ∷ flags) (suc at) = flags_after flags at

length_pushed : (nodes : List Node) (node : Node) → length (nodes ++ node ∷ []) ≡ suc (length nodes)
length_pushed nodes node = omega (arith, length-append nodes (node ∷ []))

-- The nodes that were gone over: the flags of those that are left, and the nodes whose flags are
-- set.
pub record LeftSoFar (flags left : List Bool) (seen kept : List Node) : Type 0 where
  pub left_are : left ≡ drop (length seen) flags
  pub kept_are : trees_of_nodes kept ≡ left_by flags (trees_of_nodes seen)

left_pushed : (flags : List Bool) (seen kept : List Node) (node : Node) (keep : Bool) → keep ≡ get_or flags (length seen) false →
    trees_of_nodes kept ≡ left_by flags (trees_of_nodes seen) →
    trees_of_nodes (cond keep (kept ++ node ∷ []) kept) ≡ left_by flags (trees_of_nodes (seen ++ node ∷ []))
left_pushed flags seen kept node true k l =
    let o = out-Node node in
    added_last kept o.key o.value o.place (trees_of o.children) node (before_out node)
    ∙ ap (added o.key o.value o.place (trees_of o.children)) l
    ∙ sym (left_more flags seen node ∙ cond-true _ _ _ (sym k))
left_pushed flags seen kept node false k l = l ∙ sym (left_more flags seen node ∙ cond-false _ _ _ (sym k))

pub left_next : (flags left rest : List Bool) (seen kept next : List Node) (node : Node) (keep : Bool) →
    keep ≡ get_or left 0 false → rest ≡ drop 1 left → next ≡ cond keep (kept ++ node ∷ []) kept →
    LeftSoFar flags left seen kept → LeftSoFar flags rest (seen ++ node ∷ []) next
left_next flags left rest seen kept next node keep k r n s = record {
  left_are = r ∙ ap (drop 1) s.left_are ∙ flags_after flags (length seen) ∙ ap (λ at. drop at flags) (sym (length_pushed seen node));
  kept_are = ap trees_of_nodes n
      ∙ left_pushed flags seen kept node keep (k ∙ ap (λ l. get_or l 0 false) s.left_are ∙ flag_at flags (length seen)) s.kept_are;
}
