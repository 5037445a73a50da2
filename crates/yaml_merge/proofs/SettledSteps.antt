-- In a resolved forest each key stands once in its list, and nothing is left to inherit or to
-- remove.
use Rattle.std.proofs.Common.{◌≡◌, ℕ, zero, suc, ◌-◌, Bool, true, false, cond, ltb, eqb, List, []}
use Rattle.std.proofs.Common.{◌∷◌, ◌++◌, map, drop, sym, ◌∙◌, inl, inr, Option, Some, None, Result}
use Rattle.std.proofs.Common.{Ok, Err, subst}
use Rattle.std.proofs.lemmas.Bool.{cases_Bool, cond-true, cond-false}
use Rattle.std.proofs.lemmas.Result.{IfOk-weaker}
use Rattle.std.specs.Prelude.{IfSome}
use Rattle.std.specs.Result.{IfOk}
use Rattle.std.specs.Str.{bytes_eq}
use Rattle.base.specs.Steps.{◌>>=◌}
use Rattle.yaml_lines.specs.declared.forest.Forest.{Forest}
use Rattle.yaml_lines.specs.declared.place.Place.{Place}
use Rattle.yaml_lines.specs.declared.TheConstants.{MAX_LEVELS}
use Rattle.yaml_lines.specs.Trees.{Trees, none, more, trees_of}
use Rattle.yaml_merge.specs.declared.fault.MergeFault.{MergeFault}
use Rattle.yaml_merge.specs.declared.fault.MergeFault.TheVariants.{Cycle, TooLarge, TooDeep}
use Rattle.yaml_merge.specs.declared.TheConstants.{MAX_PATH, MAX_LIST_NODES, MAX_FOREST_NODES}
use Rattle.yaml_merge.specs.Merging.{Lacks, newer_value, joined, children_at, merged_into}
use Rattle.yaml_merge.specs.Merging.{merged_files, with_first, without, count, levels}
use Rattle.yaml_merge.specs.Resolving.{inherits, removes, parent_of, in_path, Outcome, within}
use Rattle.yaml_merge.specs.Resolving.{inherited, removed, inherit_step, join_step, node_step}
use Rattle.yaml_merge.specs.Resolving.{resolved_list, added, resolved_tops, removed_tops}
use Rattle.yaml_merge.specs.Resolving.{resolved_files}
use Rattle.yaml_merge.specs.Places.{children_from}
use Rattle.yaml_merge.specs.Settled.{IsSettled, IsSettledTop, IsSettledForest, IsOnce, IsDistinct}
use Rattle.yaml_merge.proofs.KeySteps.{bytes_flip}

-- What holds of both sides of a choice.
pub either : {A : Type 0} (P : A → Type 0) (test : Bool) (x y : A) → P x → P y → P (cond test x y)
either P true x y f g = f
either P false x y f g = g

-- What holds of each side where it is taken.
pub chosen : {A : Type 0} (P : A → Type 0) (test : Bool) (x y : A) → (test ≡ true → P x) → (test ≡ false → P y) → P (cond test x y)
chosen P test x y f g = elim (cases_Bool test) [
  | inl t ↦ subst P (sym (cond-true test x y t)) (f t)
  | inr t ↦ subst P (sym (cond-false test x y t)) (g t)
]

-- What holds after a step and what follows it.
pub followed : (P Q : Trees → Type 0) (outcome : Outcome) (next : Trees → Outcome) → IfOk outcome P → ((trees : Trees) → P trees → IfOk (next trees) Q) →
    IfOk (outcome >>= next) Q
followed P Q (Ok trees) next h n = n trees h
followed P Q (Err fault) next h n = tt

pub within_kept : (P : Trees → Type 0) (limit : ℕ) (place : Place) (list : Trees) → P list → IfOk (within limit place list) P
unfolding within
within_kept P limit place list h = either (λ (o : Outcome). IfOk o P) (ltb limit (count list)) (Err (TooLarge place)) (Ok list) tt h

pub removed_kept : (P : Trees → Type 0) (place : Place) (left : Option Trees) → IfSome left P → IfOk (removed place left) P
removed_kept P place None h = tt
removed_kept P place (Some list) h = h

-- A key that a list lacks.
pub lacks_joined : (q key value : List ℕ) (place : Place) (below : Trees → Trees) (list : Trees) → bytes_eq key q ≡ false → Lacks q list →
    Lacks q (joined key value place below list)
lacks_joined q key value place below none n h = (n, tt)
lacks_joined q key value place below (more first old last children rest) n h =
    either (Lacks q) (bytes_eq first key) (more first (newer_value old value) place (below children) rest)
    (more first old last children (joined key value place below rest)) h (h.0, lacks_joined q key value place below rest n h.1)

pub lacks_added : (q key value : List ℕ) (place : Place) (children list : Trees) → bytes_eq key q ≡ false → Lacks q list → Lacks q (added key value place children list)
lacks_added q key value place children none n h = (n, tt)
lacks_added q key value place children (more first old last others rest) n h = (h.0, lacks_added q key value place children rest n h.1)

lacks_with_first : (q key value : List ℕ) (place : Place) (children : Trees) (left : Option Trees) → bytes_eq key q ≡ false → IfSome left (Lacks q) →
    IfSome (with_first key value place children left) (Lacks q)
lacks_with_first q key value place children None n h = tt
lacks_with_first q key value place children (Some rest) n h = (n, h)

pub lacks_without : (q key : List ℕ) (list : Trees) → Lacks q list → IfSome (without key list) (Lacks q)
lacks_without q key none h = tt
lacks_without q key (more first value place children rest) h =
    either (λ (left : Option Trees). IfSome left (Lacks q)) (bytes_eq first key) (Some rest) (with_first first value place children (without key rest)) h.1
    (lacks_with_first q first value place children (without key rest) h.0 (lacks_without q key rest h.1))

-- Lists below the top level.
pub joined_settled : (key value : List ℕ) (place : Place) (below : Trees → Trees) (list : Trees) → inherits key ≡ false → removes key ≡ false →
    ((trees : Trees) → IsSettled trees → IsSettled (below trees)) → IsSettled list → IsSettled (joined key value place below list)
joined_settled key value place below none i r b h = (tt, i, r, b none tt, tt)
joined_settled key value place below (more first old last children rest) i r b (l, fi, fr, c, s) =
    chosen IsSettled (bytes_eq first key) (more first (newer_value old value) place (below children) rest)
    (more first old last children (joined key value place below rest)) (λ same. (l, fi, fr, b children c, s))
    (λ other. (lacks_joined first key value place below rest (bytes_flip key first ∙ other) l, fi, fr, c, joined_settled key value place below rest i r b s))

children_at_settled : (key : List ℕ) (list : Trees) → IsSettled list → IsSettled (children_at key list)
children_at_settled key none h = tt
children_at_settled key (more first value place children rest) (l, fi, fr, c, s) =
    either IsSettled (bytes_eq first key) children (children_at key rest) c (children_at_settled key rest s)

merged_into_settled : (new old : Trees) → IsSettled new → IsSettled old → IsSettled (merged_into new old)
merged_into_settled none old n h = h
merged_into_settled (more key value place children rest) old (l, i, r, c, s) h =
    merged_into_settled rest (joined key value place (merged_into children) old) s
    (joined_settled key value place (merged_into children) old i r (λ trees t. merged_into_settled children trees c t) h)

with_first_settled : (key value : List ℕ) (place : Place) (children : Trees) (left : Option Trees) → IfSome left (Lacks key) → inherits key ≡ false → removes key ≡ false →
    IsSettled children → IfSome left IsSettled → IfSome (with_first key value place children left) IsSettled
with_first_settled key value place children None l i r c s = tt
with_first_settled key value place children (Some rest) l i r c s = (l, i, r, c, s)

without_settled : (key : List ℕ) (list : Trees) → IsSettled list → IfSome (without key list) IsSettled
without_settled key none h = tt
without_settled key (more first value place children rest) (l, i, r, c, s) =
    either (λ (left : Option Trees). IfSome left IsSettled) (bytes_eq first key) (Some rest) (with_first first value place children (without key rest)) s
    (with_first_settled first value place children (without key rest) (lacks_without first key rest l) i r c (without_settled key rest s))

abbrev pub IfSettled : Outcome → Type 0
IfSettled outcome = IfOk outcome IsSettled

inherited_settled : (room : ℕ) (place : Place) (list parent : Trees) → IsSettled list → IsSettled parent → IfSettled (inherited room place list parent)
unfolding inherited
inherited_settled room place list parent h p =
    either IfSettled (ltb room (levels parent)) (Err (TooDeep place)) (Ok (merged_into parent list)) tt (merged_into_settled parent list p h)

inherit_step_settled : (free room : ℕ) (place : Place) (name : List ℕ) (path : List (List ℕ)) (parents : Trees → Outcome) (list : Trees) (parent : Option Trees) →
    ((trees : Trees) → IfSettled (parents trees)) → IsSettled list → IfSettled (inherit_step free room place name path parents list parent)
inherit_step_settled free room place name path parents list None p h = tt
inherit_step_settled free room place name path parents list (Some children) p h =
    let taken = parents children >>= inherited room place list in
    either IfSettled (in_path name path) (Err (Cycle place)) (cond (eqb free 0) (Err (TooDeep place)) taken) tt
    (either IfSettled (eqb free 0) (Err (TooDeep place)) taken tt
    (followed IsSettled IsSettled (parents children) (inherited room place list) (p children) (λ trees t. inherited_settled room place list trees h t)))

pub node_step_settled : (free room : ℕ) (tops : Trees) (path : List (List ℕ)) (key value : List ℕ) (place : Place) (parents below : Trees → Outcome) (list : Trees) →
    ((trees : Trees) → IfSettled (parents trees)) → ((trees : Trees) → IsSettled trees → IfSettled (below trees)) → IsSettled list →
    IfSettled (node_step free room tops path key value place parents below list)
unfolding node_step
node_step_settled free room tops path key value place parents below list p b h =
    let taken = inherit_step free room place value path parents list (parent_of value tops) in
    let less = removed place (without (drop 1 key) list) in
    let add : Trees → Outcome = λ children. Ok (joined key value place (λ _. children) list) in
    chosen IfSettled (inherits key) taken (cond (removes key) less (join_step key value place below list))
    (λ _. inherit_step_settled free room place value path parents list (parent_of value tops) p h)
    (λ i. chosen IfSettled (removes key) less (join_step key value place below list)
    (λ _. removed_kept IsSettled place (without (drop 1 key) list) (without_settled (drop 1 key) list h))
    (λ r. followed IsSettled IsSettled (below (children_at key list)) add (b (children_at key list) (children_at_settled key list h))
    (λ children c. joined_settled key value place (λ _. children) list i r (λ _ _. c) h)))

pub resolved_list_settled : (free : ℕ) (list : Trees) (room : ℕ) (tops : Trees) (path : List (List ℕ)) (start : Trees) → IsSettled start →
    IfSettled (resolved_list free list room tops path start)
unfolding resolved_list
resolved_list_settled free none room tops path start h = h
resolved_list_settled zero (more key value place children rest) room tops path start h =
    followed IsSettled IsSettled _ _
    (followed IsSettled IsSettled _ _
    (node_step_settled zero room tops path key value place _ _ start (λ parent. tt) (λ old o. resolved_list_settled zero children (room - 1) tops path old o) h)
    (λ list k. within_kept IsSettled MAX_LIST_NODES place list k))
    (λ list k. resolved_list_settled zero rest room tops path list k)
resolved_list_settled (suc free) (more key value place children rest) room tops path start h =
    followed IsSettled IsSettled _ _
    (followed IsSettled IsSettled _ _
    (node_step_settled (suc free) room tops path key value place _ _ start
    (λ parent. resolved_list_settled free parent (MAX_LEVELS - 1) tops (path ++ value ∷ []) none tt)
    (λ old o. resolved_list_settled (suc free) children (room - 1) tops path old o) h)
    (λ list k. within_kept IsSettled MAX_LIST_NODES place list k))
    (λ list k. resolved_list_settled (suc free) rest room tops path list k)

-- The merged files: each key stands once at the top level.
joined_once : (key value : List ℕ) (place : Place) (below : Trees → Trees) (list : Trees) → IsOnce list → IsOnce (joined key value place below list)
joined_once key value place below none h = (tt, tt)
joined_once key value place below (more first old last children rest) (l, s) =
    chosen IsOnce (bytes_eq first key) (more first (newer_value old value) place (below children) rest)
    (more first old last children (joined key value place below rest)) (λ same. (l, s))
    (λ other. (lacks_joined first key value place below rest (bytes_flip key first ∙ other) l, joined_once key value place below rest s))

merged_into_once : (new old : Trees) → IsOnce old → IsOnce (merged_into new old)
merged_into_once none old h = h
merged_into_once (more key value place children rest) old h =
    merged_into_once rest (joined key value place (merged_into children) old) (joined_once key value place (merged_into children) old h)

pub merged_files_once : (files : List Trees) (list : Trees) → IsOnce list → IsOnce (merged_files files list)
merged_files_once [] list h = h
merged_files_once (file ∷ files) list h = merged_files_once files (merged_into file list) (merged_into_once file list h)

-- The merged files: each key stands once in its list, at all depths.
joined_distinct : (key value : List ℕ) (place : Place) (below : Trees → Trees) (list : Trees) →
    ((trees : Trees) → IsDistinct trees → IsDistinct (below trees)) → IsDistinct list → IsDistinct (joined key value place below list)
joined_distinct key value place below none b h = (tt, b none tt, tt)
joined_distinct key value place below (more first old last children rest) b (l, c, s) =
    chosen IsDistinct (bytes_eq first key) (more first (newer_value old value) place (below children) rest)
    (more first old last children (joined key value place below rest)) (λ same. (l, b children c, s))
    (λ other. (lacks_joined first key value place below rest (bytes_flip key first ∙ other) l, c, joined_distinct key value place below rest b s))

merged_into_distinct : (new old : Trees) → IsDistinct old → IsDistinct (merged_into new old)
merged_into_distinct none old h = h
merged_into_distinct (more key value place children rest) old h =
    merged_into_distinct rest (joined key value place (merged_into children) old)
    (joined_distinct key value place (merged_into children) old (λ trees t. merged_into_distinct children trees t) h)

pub merged_files_distinct : (files : List Trees) (list : Trees) → IsDistinct list → IsDistinct (merged_files files list)
merged_files_distinct [] list h = h
merged_files_distinct (file ∷ files) list h = merged_files_distinct files (merged_into file list) (merged_into_distinct file list h)

pub distinct_once : (list : Trees) → IsDistinct list → IsOnce list
distinct_once none h = tt
distinct_once (more key value place children rest) (l, c, s) = (l, distinct_once rest s)

pub distinct_at : (at : ℕ) (list : Trees) → IsDistinct list → IsDistinct (children_from at list)
distinct_at at none h = tt
distinct_at zero (more key value place children rest) (l, c, s) = c
distinct_at (suc at) (more key value place children rest) (l, c, s) = distinct_at at rest s

pub top_once : (list : Trees) → IsSettledTop list → IsOnce list
top_once none h = tt
top_once (more key value place children rest) (l, r, c, s) = (l, top_once rest s)

-- The top level: what is made so far has none of the keys that are left.
abbrev pub IsApart : (made left : Trees) → Type 0
IsApart made none = Unit {0}
IsApart made (more key value place children rest) = Lacks key made × IsApart made rest

pub none_apart : (left : Trees) → IsApart none left
none_apart none = tt
none_apart (more key value place children rest) = (tt, none_apart rest)

added_apart : (key value : List ℕ) (place : Place) (children made left : Trees) → Lacks key left → IsApart made left → IsApart (added key value place children made) left
added_apart key value place children made none l a = tt
added_apart key value place children made (more first old last others rest) l a =
    (lacks_added first key value place children made (bytes_flip key first ∙ l.0) a.0, added_apart key value place children made rest l.1 a.1)

added_top : (key value : List ℕ) (place : Place) (children made : Trees) → Lacks key made → removes key ≡ false → IsSettled children → IsSettledTop made →
    IsSettledTop (added key value place children made)
added_top key value place children none l r c h = (tt, r, c, tt)
added_top key value place children (more first old last others rest) l r c (fl, fr, fc, s) =
    (lacks_added first key value place children rest (bytes_flip key first ∙ l.0) fl, fr, fc, added_top key value place children rest l.1 r c s)

pub resolved_tops_settled : (left tops made : Trees) → IsOnce left → IsApart made left → IsSettledTop made → IfOk (resolved_tops left tops made) IsSettledTop
resolved_tops_settled none tops made o a h = h
resolved_tops_settled (more key value place children rest) tops made o a h =
    let Next : Trees → Type 0 = λ next. IsSettledTop next × IsApart next rest in
    chosen (λ (x : Outcome). IfOk x IsSettledTop) (removes key) (resolved_tops rest tops made) _
    (λ _. resolved_tops_settled rest tops made o.1 a.1 h)
    (λ r. followed Next IsSettledTop _ _
    (followed IsSettled Next (resolved_list (MAX_PATH - 1) children (MAX_LEVELS - 1) tops (key ∷ []) none) _
    (resolved_list_settled (MAX_PATH - 1) children (MAX_LEVELS - 1) tops (key ∷ []) none tt)
    (λ below b. within_kept Next MAX_FOREST_NODES place (added key value place below made)
    (added_top key value place below made a.0 r b h, added_apart key value place below made rest o.0 a.1)))
    (λ next n. resolved_tops_settled rest tops next o.1 n.1 n.0))

with_first_top : (key value : List ℕ) (place : Place) (children : Trees) (left : Option Trees) → IfSome left (Lacks key) → removes key ≡ false →
    IsSettled children → IfSome left IsSettledTop → IfSome (with_first key value place children left) IsSettledTop
with_first_top key value place children None l r c s = tt
with_first_top key value place children (Some rest) l r c s = (l, r, c, s)

without_top : (key : List ℕ) (list : Trees) → IsSettledTop list → IfSome (without key list) IsSettledTop
without_top key none h = tt
without_top key (more first value place children rest) (l, r, c, s) =
    either (λ (left : Option Trees). IfSome left IsSettledTop) (bytes_eq first key) (Some rest) (with_first first value place children (without key rest)) s
    (with_first_top first value place children (without key rest) (lacks_without first key rest l) r c (without_top key rest s))

removed_tops_settled : (left made : Trees) → IsSettledTop made → IfOk (removed_tops left made) IsSettledTop
removed_tops_settled none made h = h
removed_tops_settled (more key value place children rest) made h =
    either (λ (x : Outcome). IfOk x IsSettledTop) (removes key) (removed place (without (drop 1 key) made) >>= (λ next. removed_tops rest next)) (removed_tops rest made)
    (followed IsSettledTop IsSettledTop (removed place (without (drop 1 key) made)) (λ next. removed_tops rest next)
    (removed_kept IsSettledTop place (without (drop 1 key) made) (without_top (drop 1 key) made h)) (λ next n. removed_tops_settled rest next n))
    (removed_tops_settled rest made h)

pub resolved_files_settled : (files : List Trees) → IfOk (resolved_files files) IsSettledTop
unfolding resolved_files
resolved_files_settled files =
    let tops = merged_files files none in
    followed IsSettledTop IsSettledTop (resolved_tops tops tops none) (λ made. removed_tops tops made)
    (resolved_tops_settled tops tops none (merged_files_once files none tt) (none_apart tops) tt)
    (λ made d. removed_tops_settled tops made d)

-- The answer of resolving files.
pub resolve_settled : (files : List Forest) (answer : Result Forest MergeFault) →
    IfOk answer (λ forest. resolved_files (map trees_of files) ≡ Ok (trees_of forest)) → IfOk answer IsSettledForest
resolve_settled files answer e =
    IfOk-weaker answer (λ forest. resolved_files (map trees_of files) ≡ Ok (trees_of forest)) IsSettledForest
    (λ forest h. subst (λ (x : Outcome). IfOk x IsSettledTop) h (resolved_files_settled (map trees_of files))) e

-- Each key stands once at the top level of what resolving the top-level nodes gave.
pub resolved_tops_once : (tops made : Trees) → IsOnce tops → resolved_tops tops tops none ≡ Ok made → IsOnce made
resolved_tops_once tops made o e =
    let settled : IfOk (resolved_tops tops tops none) IsSettledTop = resolved_tops_settled tops tops none o (none_apart tops) tt in
    top_once made (subst (λ (x : Outcome). IfOk x IsSettledTop) e settled)
