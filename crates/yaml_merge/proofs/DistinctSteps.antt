-- Lists in which each key stands once, at all depths.
use Rattle.std.proofs.Common.{◌≡◌, ℕ, ◌+◌, ◌<◌, ◌≤◌, arith, true, false, List, [], ◌∷◌, length, take, drop, get_or}
use Rattle.std.proofs.Common.{refl, sym, ap, ◌∙◌, subst, Option, Some, None, cond, map}
use Rattle.std.specs.Prelude.{is_some}
use Rattle.std.specs.Str.{bytes_eq}
use Rattle.yaml_lines.specs.declared.forest.Node.{Node}
use Rattle.yaml_lines.specs.declared.forest.Forest.{Forest}
use Rattle.yaml_lines.specs.declared.forest.Forest.TheViews.{out-Node}
use Rattle.yaml_lines.specs.declared.place.Place.{Place}
use Rattle.yaml_lines.specs.Trees.{Trees, none, more, trees_of, trees_of_nodes}
use Rattle.yaml_merge.specs.Places.{place_in}
use Rattle.yaml_merge.specs.Merging.{Lacks, merged_into, merged_files}
use Rattle.yaml_merge.specs.Resolving.{added}
use Rattle.yaml_merge.specs.Laws.{followed_by}
use Rattle.yaml_merge.specs.Settled.{IsOnce, IsDistinct}
use Rattle.yaml_merge.proofs.KeySteps.{bytes_flip}
use Rattle.yaml_merge.proofs.NodeSteps.{NamesUpTo, IsNamed, is_named, more_nodes, names_new, nodes_from}
use Rattle.yaml_merge.proofs.SettledSteps.{IsApart, none_apart, lacks_added}
use Rattle.yaml_merge.proofs.StaysSteps.{followed_none, followed_followed, last_apart, joined_last}
use Rattle.yaml_merge.proofs.StaysSteps.{with_last}

-- Such a list merged with nothing is itself.
merged_apart : (list start : Trees) → IsDistinct list → IsApart start list → merged_into list start ≡ followed_by start list
merged_apart none start d a = sym (followed_none start)
merged_apart (more key value place children rest) start (l, c, d) a =
    let next = with_last key value place children start in
    ap (merged_into rest)
    (joined_last key value place (merged_into children) start a.0 ∙ ap (λ b. with_last key value place b start) (merged_apart children none c (none_apart children)))
    ∙ merged_apart rest next d (last_apart key value place children start rest l a.1)
    ∙ followed_followed start (more key value place children none) rest

pub merged_alone : (made file : Trees) → IsDistinct file → made ≡ file → made ≡ merged_into file none
merged_alone made file d m = m ∙ sym (merged_apart file none d (none_apart file))

pub one_file : (files : List Forest) (file : Forest) (made : Trees) → 1 ≤ length files → length files < 2 → file ≡ get_or files 0 file →
    IsDistinct (trees_of file) → made ≡ trees_of file → made ≡ merged_files (map trees_of files) none
one_file [] file made l b e d m = absurd (omega arith)
one_file (first ∷ []) file made l b e d m = merged_alone made (trees_of file) d m ∙ ap (λ f. merged_into (trees_of f) none) e
one_file (first ∷ second ∷ rest) file made l b e d m = absurd (omega arith)

-- A key that the nodes from a place on lack, and those before it too.
pub lacks_from : (key : List ℕ) (nodes : List Node) (at : ℕ) (node : Node) (all : Trees) → at < length nodes → node ≡ get_or nodes at node →
    bytes_eq (out-Node node).key key ≡ false →
    (Lacks key (trees_of_nodes (drop at nodes)) → Lacks key all) → Lacks key (trees_of_nodes (drop (at + 1) nodes)) → Lacks key all
lacks_from key nodes at node all h n k s = λ rest. s (subst (Lacks key) (sym (nodes_from nodes at node h n)) (k, rest))

pub once_from : (nodes : List Node) (at : ℕ) (node : Node) (all : Trees) → at < length nodes → node ≡ get_or nodes at node →
    Lacks (out-Node node).key (trees_of_nodes (drop (at + 1) nodes)) →
    (IsOnce (trees_of_nodes (drop at nodes)) → IsOnce all) → IsOnce (trees_of_nodes (drop (at + 1) nodes)) → IsOnce all
once_from nodes at node all h n k s = λ rest. s (subst IsOnce (sym (nodes_from nodes at node h n)) (k, rest))

-- Where the nodes from a place on are distinct if each of their keys stands once, so are all.
pub record DistinctSoFar (left all : Trees) : Type 0 where
  pub from : (IsOnce left → IsDistinct left) → IsOnce all → IsDistinct all

pub distinct_from : (nodes : List Node) (at : ℕ) (node : Node) (all : Trees) → at < length nodes → node ≡ get_or nodes at node →
    IsDistinct (trees_of (out-Node node).children) →
    DistinctSoFar (trees_of_nodes (drop at nodes)) all → DistinctSoFar (trees_of_nodes (drop (at + 1) nodes)) all
distinct_from nodes at node all h n c s =
    let equal = nodes_from nodes at node h n in
    record {
      from = λ rest. s.from (λ once. let parts = subst IsOnce equal once in subst IsDistinct (sym equal) (parts.0, c, rest parts.1));
    }

pub distinct_done : (left all : Trees) → left ≡ none → DistinctSoFar left all → IsOnce all → IsDistinct all
distinct_done left all l s = s.from (λ once. subst IsDistinct (sym l) tt)

-- The nodes up to a place: where their keys stand, each once.
pub record NamedSoFar (at : ℕ) (nodes : List Node) (search : List ℕ → Option ℕ) : Type 0 where
  pub named : NamesUpTo at nodes search
  pub once : IsOnce (trees_of_nodes (take at nodes))

once_added : (key value : List ℕ) (place : Place) (children list : Trees) → Lacks key list → IsOnce list → IsOnce (added key value place children list)
once_added key value place children none l o = (tt, tt)
once_added key value place children (more first old last others rest) l (f, o) =
    (lacks_added first key value place children rest (bytes_flip key first ∙ l.0) f, once_added key value place children rest l.1 o)

lost : (found : Option ℕ) → is_some found ≡ false → found ≡ None
lost None h = refl
lost (Some at) h = let e : true ≡ false = h in cc

pub named_next : (nodes : List Node) (at : ℕ) (node : Node) (old new : List ℕ → Option ℕ) → at < length nodes → node ≡ get_or nodes at node →
    is_some (old (out-Node node).key) ≡ false →
    ((name : List ℕ) → new name ≡ cond (bytes_eq (out-Node node).key name) (Some at) (old name)) →
    NamedSoFar at nodes old → NamedSoFar (at + 1) nodes new
named_next nodes at node old new h n f u s =
    let o = out-Node node in
    let list = trees_of_nodes (take at nodes) in
    let absent : place_in o.key list ≡ None = sym (s.named o.key) ∙ lost (old o.key) f in
    let lacked : Lacks o.key list = subst (IsNamed o.key list) absent (is_named o.key list) in
    record {
      named = names_new nodes at node old new h n f u s.named;
      once = subst IsOnce (sym (more_nodes nodes at node h n)) (once_added o.key o.value o.place (trees_of o.children) list lacked s.once);
    }

pub ruleset distinct_steps = (lacks_from, once_from)
