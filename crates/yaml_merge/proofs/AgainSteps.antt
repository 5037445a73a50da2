-- An `Inherits` directly after one that names the same parent changes nothing.
use Rattle.std.proofs.Common.{◌≡◌, ℕ, zero, suc, ◌-◌, ◌≤◌, Bool, true, false, cond, ltb, eqb}
use Rattle.std.proofs.Common.{List, [], ◌∷◌, ◌++◌, refl, sym, ap, ◌∙◌, subst, Option, Some}
use Rattle.std.proofs.Common.{None, Ok, Err, Bor}
use Rattle.std.proofs.lemmas.Bool.{ltb-false}
use Rattle.std.specs.Result.{IfOk}
use Rattle.base.specs.Steps.{◌>>=◌}
use Rattle.yaml_lines.specs.declared.forest.Node.{Node}
use Rattle.yaml_lines.specs.declared.forest.Forest.TheViews.{out-Node}
use Rattle.yaml_lines.specs.declared.place.Place.{Place}
use Rattle.yaml_lines.specs.declared.TheConstants.{MAX_LEVELS}
use Rattle.yaml_lines.specs.Trees.{Trees, none, trees_of}
use Rattle.yaml_merge.specs.declared.fault.MergeFault.TheVariants.{Cycle, TooLarge, TooDeep}
use Rattle.yaml_merge.specs.declared.resolved.Resolved.{Resolved}
use Rattle.yaml_merge.specs.declared.TheConstants.{MAX_LIST_NODES}
use Rattle.yaml_merge.specs.Kept.{IsClear, Repeats}
use Rattle.yaml_merge.specs.Merging.{count, levels, merged_into}
use Rattle.yaml_merge.specs.Resolving.{Outcome, inherits, parent_of, in_path, within, inherited}
use Rattle.yaml_merge.specs.Resolving.{inherit_step, parents, taken_in}
use Rattle.yaml_merge.specs.Settled.{IsSettled}
use Rattle.yaml_merge.proofs.KeptSteps.{took_inherits}
use Rattle.yaml_merge.proofs.SettledSteps.{resolved_list_settled}
use Rattle.yaml_merge.proofs.TwiceLemmas.{merged_twice}

given : Outcome → Trees
given (Ok trees) = trees
given (Err fault) = none

given_ok : (trees next : Trees) (made : Outcome) → made ≡ Ok trees → made ≡ Ok next → trees ≡ next
unfolding given
given_ok trees next made e f = sym (ap given e) ∙ ap given f

merged_again : (deep : Bool) (place other : Place) (list parent next : Trees) → IsSettled parent → cond deep (Err (TooDeep place)) (Ok (merged_into parent list)) ≡ Ok next →
    cond deep (Err (TooDeep other)) (Ok (merged_into parent next)) ≡ Ok next
merged_again true place other list parent next s e = cc
merged_again false place other list parent next s e =
    let n = given_ok (merged_into parent list) next (Ok (merged_into parent list)) refl e in
    ap Ok (sym (ap (merged_into parent) n) ∙ merged_twice parent list s ∙ n)

inherited_again : (room : ℕ) (place other : Place) (list parent next : Trees) → IsSettled parent → inherited room place list parent ≡ Ok next → inherited room other next parent ≡ Ok next
unfolding inherited
inherited_again room place other list parent next s e = merged_again (ltb room (levels parent)) place other list parent next s e

chosen_again : (cycle deep : Bool) (outcome : Outcome) (room : ℕ) (place other : Place) (list next : Trees) → IfOk outcome IsSettled →
    cond cycle (Err (Cycle place)) (cond deep (Err (TooDeep place)) (outcome >>= inherited room place list)) ≡ Ok next →
    cond cycle (Err (Cycle other)) (cond deep (Err (TooDeep other)) (outcome >>= inherited room other next)) ≡ Ok next
chosen_again true deep outcome room place other list next s e = cc
chosen_again false true outcome room place other list next s e = cc
chosen_again false false (Err fault) room place other list next s e = cc
chosen_again false false (Ok parent) room place other list next s e = inherited_again room place other list parent next s e

parents_settled : (free : ℕ) (tops : Trees) (path : List (List ℕ)) (name : List ℕ) (children : Trees) → IfOk (parents free tops path name children) IsSettled
parents_settled zero tops path name children = tt
parents_settled (suc free) tops path name children = resolved_list_settled free children (MAX_LEVELS - 1) tops (path ++ name ∷ []) none tt

step_again : (free room : ℕ) (place other : Place) (tops : Trees) (path : List (List ℕ)) (name : List ℕ) (list next : Trees) (parent : Option Trees) →
    inherit_step free room place name path (parents free tops path name) list parent ≡ Ok next → inherit_step free room other name path (parents free tops path name) next parent ≡ Ok next
step_again free room place other tops path name list next None e = cc
step_again free room place other tops path name list next (Some children) e =
    chosen_again (in_path name path) (eqb free 0) (parents free tops path name children) room place other list next (parents_settled free tops path name children) e

pub taken_again : (free room : ℕ) (tops : Trees) (path : List (List ℕ)) (key other value : List ℕ) (place last : Place) (children below list next : Trees) → inherits key ≡ true → inherits other ≡ true →
    taken_in free room tops path key value place children list ≡ Ok next → taken_in free room tops path other value last below next ≡ Ok next
taken_again free room tops path key other value place last children below list next i j e =
    took_inherits free room tops path other value last below next j
    ∙ step_again free room place last tops path value list next (parent_of value tops) (sym (took_inherits free room tops path key value place children list i) ∙ e)

kept_small : (test : Bool) (limit : ℕ) (place : Place) (list kept : Trees) → test ≡ ltb limit (count list) → cond test (Err (TooLarge place)) (Ok list) ≡ Ok kept → (list ≡ kept) × (count list ≤ limit)
kept_small true limit place list kept t e = cc
kept_small false limit place list kept t e = (given_ok list kept (Ok list) refl e, ltb-false limit (count list) (sym t))

pub kept_within : (limit : ℕ) (place : Place) (list kept : Trees) → within limit place list ≡ Ok kept → (list ≡ kept) × (count list ≤ limit)
unfolding within
kept_within limit place list kept e = kept_small (ltb limit (count list)) limit place list kept refl e

-- Taking in the node that was taken in last once more changes nothing, where it is an `Inherits`.
abbrev pub IsAgain : Trees → List (Option Resolved) → (high room : ℕ) → Trees → Option (Bor Node) → Type 0
IsAgain tops kept high room list None = Unit {0}
IsAgain tops kept high room list (Some node) =
    (count list ≤ MAX_LIST_NODES)
    × (inherits (out-Node node.now).key ≡ true → (free : ℕ) → (path : List (List ℕ)) → high ≤ free → IsClear tops kept high path →
    taken_in free room tops path (out-Node node.now).key (out-Node node.now).value (out-Node node.now).place (trees_of (out-Node node.now).children) list ≡ Ok list)

-- A repeated `Inherits` changes nothing.
pub repeated : (tops : Trees) (kept : List (Option Resolved)) (high room : ℕ) (list : Trees) (before : Option (Bor Node)) (node : Node) → IsAgain tops kept high room list before → Repeats before node →
    (count list ≤ MAX_LIST_NODES)
    × ((free : ℕ) → (path : List (List ℕ)) → high ≤ free → IsClear tops kept high path →
    taken_in free room tops path (out-Node node).key (out-Node node).value (out-Node node).place (trees_of (out-Node node).children) list ≡ Ok list)
repeated tops kept high room list None node a r = absurd r
repeated tops kept high room list (Some before) node a r =
    let o = out-Node node in
    let b = out-Node before.now in (
      a.0,
      λ free path h clear.
          subst (λ v. taken_in free room tops path o.key v o.place (trees_of o.children) list ≡ Ok list) r.2
          (taken_again free room tops path b.key o.key b.value b.place o.place (trees_of b.children) (trees_of o.children) list list r.0 r.1 (a.1 r.0 free path h clear)),
    )
