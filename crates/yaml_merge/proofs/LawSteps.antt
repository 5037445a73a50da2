-- Lists one after another, removals, and the values of keys.
use Rattle.std.proofs.Common.{◌≡◌, ℕ, zero, suc, ◌-◌, Bool, true, false, cond, eqb, ltb, ◌&&◌, List}
use Rattle.std.proofs.Common.{[], ◌∷◌, ◌++◌, drop, refl, sym, ap, ◌∙◌, subst, inl, inr, Option, Some}
use Rattle.std.proofs.Common.{None, Ok, Err}
use Rattle.std.proofs.lemmas.Bool.{cases_Bool, cond-true, cond-false}
use Rattle.std.proofs.lemmas.Slice.Eq.{bytes_eq-Decides}
use Rattle.std.specs.Prelude.{IfSome}
use Rattle.std.specs.Result.{IfOk}
use Rattle.std.specs.Str.{bytes_eq}
use Rattle.base.specs.Steps.{◌>>=◌}
use Rattle.yaml_lines.specs.declared.place.Place.{Place}
use Rattle.yaml_lines.specs.declared.TheConstants.{MAX_LEVELS}
use Rattle.yaml_lines.specs.Trees.{Trees, none, more}
use Rattle.yaml_merge.specs.declared.fault.MergeFault.TheVariants.{Cycle, TooDeep}
use Rattle.yaml_merge.specs.declared.TheConstants.{MAX_LIST_NODES}
use Rattle.yaml_merge.specs.Merging.{Lacks, newer_value, joined, children_at, merged_into}
use Rattle.yaml_merge.specs.Merging.{merged_files, with_first, without, levels}
use Rattle.yaml_merge.specs.Resolving.{inherits, removes, parent_of, in_path, Outcome, within}
use Rattle.yaml_merge.specs.Resolving.{inherited, removed, inherit_step, join_step, node_step}
use Rattle.yaml_merge.specs.Resolving.{taken_in, parents, resolved_list, resolved_tops}
use Rattle.yaml_merge.specs.Resolving.{removed_tops, resolved_files}
use Rattle.yaml_merge.specs.Settled.{IsSettled, IsSettledTop, IsOnce}
use Rattle.yaml_merge.specs.Laws.{followed_by, has_node, value_at, IsGiven, LeavesAlone}
use Rattle.yaml_merge.specs.Laws.{RemovalRemoves, TopRemovalRemoves, ChildWins, EmptyGivesWay}
use Rattle.yaml_merge.specs.Laws.{ParentWins}
use Rattle.yaml_merge.proofs.ListSteps.{resolved_cons}
use Rattle.yaml_merge.proofs.SettledSteps.{either, chosen, followed, within_kept, removed_kept}
use Rattle.yaml_merge.proofs.SettledSteps.{lacks_without, resolved_list_settled}
use Rattle.yaml_merge.proofs.SettledSteps.{resolved_tops_settled, merged_files_once, none_apart}

-- Lists one after another.
after_both : (first : Outcome) (then last whole : Trees → Outcome) → ((list : Trees) → whole list ≡ (then list >>= last)) →
    (first >>= whole) ≡ ((first >>= then) >>= last)
after_both (Ok list) then last whole e = e list
after_both (Err fault) then last whole e = refl

pub resolved_none : (free room : ℕ) (tops : Trees) (path : List (List ℕ)) (start : Trees) → resolved_list free none room tops path start ≡ Ok start
unfolding resolved_list
resolved_none zero room tops path start = refl
resolved_none (suc free) room tops path start = refl

pub resolved_followed : (free room : ℕ) (tops : Trees) (path : List (List ℕ)) (list last start : Trees) →
    resolved_list free (followed_by list last) room tops path start
    ≡ (resolved_list free list room tops path start >>= resolved_list free last room tops path)
resolved_followed free room tops path none last start =
    ap (λ o. o >>= resolved_list free last room tops path) (sym (resolved_none free room tops path start))
resolved_followed free room tops path (more key value place children rest) last start =
    let step = taken_in free room tops path key value place children start >>= within MAX_LIST_NODES place in
    resolved_cons free room tops path key value place children (followed_by rest last) start
    ∙ after_both step (λ list. resolved_list free rest room tops path list) (resolved_list free last room tops path)
    (λ list. resolved_list free (followed_by rest last) room tops path list) (λ list. resolved_followed free room tops path rest last list)
    ∙ ap (λ o. o >>= resolved_list free last room tops path) (sym (resolved_cons free room tops path key value place children rest start))

-- What holds after a node and what follows it.
pub cons_holds : (P Q : Trees → Type 0) (free room : ℕ) (tops : Trees) (path : List (List ℕ)) (key value : List ℕ) (place : Place) (children rest start : Trees) →
    IfOk (taken_in free room tops path key value place children start) P →
    ((list : Trees) → P list → IfOk (resolved_list free rest room tops path list) Q) →
    IfOk (resolved_list free (more key value place children rest) room tops path start) Q
cons_holds P Q free room tops path key value place children rest start t n =
    subst (λ (o : Outcome). IfOk o Q) (sym (resolved_cons free room tops path key value place children rest start))
    (followed P Q (taken_in free room tops path key value place children start >>= within MAX_LIST_NODES place) (λ list. resolved_list free rest room tops path list)
    (followed P P (taken_in free room tops path key value place children start) (within MAX_LIST_NODES place) t (λ list k. within_kept P MAX_LIST_NODES place list k))
    n)

-- What holds of a list that ends in another one.
pub last_holds : (P Q : Trees → Type 0) (free room : ℕ) (tops : Trees) (path : List (List ℕ)) (list last start : Trees) →
    IfOk (resolved_list free list room tops path start) P →
    ((made : Trees) → P made → IfOk (resolved_list free last room tops path made) Q) →
    IfOk (resolved_list free (followed_by list last) room tops path start) Q
last_holds P Q free room tops path list last start p n =
    subst (λ (o : Outcome). IfOk o Q) (sym (resolved_followed free room tops path list last start))
    (followed P Q (resolved_list free list room tops path start) (resolved_list free last room tops path) p n)

abbrev Any : Trees → Type 0
Any list = Unit {0}

any_outcome : (outcome : Outcome) → IfOk outcome Any
any_outcome (Ok list) = tt
any_outcome (Err fault) = tt

any_last : (Q : Trees → Type 0) (free room : ℕ) (tops : Trees) (path : List (List ℕ)) (list last start : Trees) →
    ((made : Trees) → IfOk (resolved_list free last room tops path made) Q) →
    IfOk (resolved_list free (followed_by list last) room tops path start) Q
any_last Q free room tops path list last start n =
    last_holds Any Q free room tops path list last start (any_outcome (resolved_list free list room tops path start)) (λ made _. n made)

-- One node, by its key.
pub taken_removal : (free room : ℕ) (tops : Trees) (path : List (List ℕ)) (key value : List ℕ) (place : Place) (children list : Trees) → inherits key ≡ false → removes key ≡ true →
    taken_in free room tops path key value place children list ≡ removed place (without (drop 1 key) list)
unfolding taken_in node_step
taken_removal free room tops path key value place children list i r = cond-false _ _ _ i ∙ cond-true _ _ _ r

pub taken_join : (free room : ℕ) (tops : Trees) (path : List (List ℕ)) (key value : List ℕ) (place : Place) (children list : Trees) → inherits key ≡ false → removes key ≡ false →
    taken_in free room tops path key value place children list
    ≡ join_step key value place (λ old. resolved_list free children (room - 1) tops path old) list
unfolding taken_in node_step
taken_join free room tops path key value place children list i r = cond-false _ _ _ i ∙ cond-false _ _ _ r

pub taken_inherits : (free room : ℕ) (tops : Trees) (path : List (List ℕ)) (key value : List ℕ) (place : Place) (children list : Trees) → inherits key ≡ true →
    taken_in free room tops path key value place children list
    ≡ inherit_step free room place value path (parents free tops path value) list (parent_of value tops)
unfolding taken_in node_step
taken_inherits free room tops path key value place children list i = cond-true _ _ _ i

-- Removals.
same_key : (key : List ℕ) → bytes_eq key key ≡ true
same_key key = (bytes_eq-Decides key key).1 refl

lacks_same : (one other : List ℕ) (list : Trees) → bytes_eq one other ≡ true → Lacks one list → Lacks other list
lacks_same one other list e h = subst (λ k. Lacks k list) ((bytes_eq-Decides one other).0 e) h

gone_with_first : (name key value : List ℕ) (place : Place) (children : Trees) (left : Option Trees) → bytes_eq key name ≡ false → IfSome left (Lacks name) →
    IfSome (with_first key value place children left) (Lacks name)
gone_with_first name key value place children None n h = tt
gone_with_first name key value place children (Some rest) n h = (n, h)

gone : (name : List ℕ) (list : Trees) → IsOnce list → IfSome (without name list) (Lacks name)
gone name none h = tt
gone name (more key value place children rest) h =
    chosen (λ (left : Option Trees). IfSome left (Lacks name)) (bytes_eq key name) (Some rest) (with_first key value place children (without name rest))
    (λ y. lacks_same key name rest y h.0)
    (λ n. gone_with_first name key value place children (without name rest) n (gone name rest h.1))

settled_once : (list : Trees) → IsSettled list → IsOnce list
settled_once none h = tt
settled_once (more key value place children rest) (l, i, r, c, s) = (l, settled_once rest s)

top_once : (list : Trees) → IsSettledTop list → IsOnce list
top_once none h = tt
top_once (more key value place children rest) (l, r, c, s) = (l, top_once rest s)

removal_no_inherits : (name : List ℕ) → inherits (45 ∷ name) ≡ false
unfolding inherits
removal_no_inherits name = refl

pub removal_removes : RemovalRemoves
removal_removes free room tops path start above below name value place s =
    last_holds IsSettled (Lacks name) free room tops path above (more (45 ∷ name) value place below none) start
    (resolved_list_settled free above room tops path start s)
    (λ made h. cons_holds (Lacks name) (Lacks name) free room tops path (45 ∷ name) value place below none made
    (subst (λ (o : Outcome). IfOk o (Lacks name)) (sym (taken_removal free room tops path (45 ∷ name) value place below made (removal_no_inherits name) refl))
    (removed_kept (Lacks name) place (without name made) (gone name made (settled_once made h))))
    (λ list k. subst (λ (o : Outcome). IfOk o (Lacks name)) (sym (resolved_none free room tops path list)) k))

-- Removals at the top level only take nodes away.
still_gone : (name : List ℕ) (left made : Trees) → Lacks name made → IfOk (removed_tops left made) (Lacks name)
still_gone name none made h = h
still_gone name (more key value place children rest) made h =
    either (λ (o : Outcome). IfOk o (Lacks name)) (removes key) _ _
    (followed (Lacks name) (Lacks name) (removed place (without (drop 1 key) made)) (λ next. removed_tops rest next)
    (removed_kept (Lacks name) place (without (drop 1 key) made) (lacks_without name (drop 1 key) made h)) (λ next n. still_gone name rest next n))
    (still_gone name rest made h)

once_with_first : (key value : List ℕ) (place : Place) (children : Trees) (left : Option Trees) → IfSome left (Lacks key) → IfSome left IsOnce →
    IfSome (with_first key value place children left) IsOnce
once_with_first key value place children None l s = tt
once_with_first key value place children (Some rest) l s = (l, s)

once_without : (key : List ℕ) (list : Trees) → IsOnce list → IfSome (without key list) IsOnce
once_without key none h = tt
once_without key (more first value place children rest) h =
    either (λ (left : Option Trees). IfSome left IsOnce) (bytes_eq first key) (Some rest) (with_first first value place children (without key rest)) h.1
    (once_with_first first value place children (without key rest) (lacks_without first key rest h.0) (once_without key rest h.1))

removal_key : (key name : List ℕ) → bytes_eq key (45 ∷ name) ≡ true → key ≡ 45 ∷ name
removal_key key name e = (bytes_eq-Decides key (45 ∷ name)).0 e

has_true : (test : Bool) (rest : Bool) → cond test true rest ≡ true → test ≡ false → rest ≡ true
has_true true rest h n = cc
has_true false rest h n = h

top_removed : (left made : Trees) (name : List ℕ) → IsOnce made → has_node (45 ∷ name) left ≡ true → IfOk (removed_tops left made) (Lacks name)
top_removed none made name o h = cc
top_removed (more key value place children rest) made name o h =
    let Goal : Outcome → Type 0 = λ outcome. IfOk outcome (Lacks name) in
    elim (cases_Bool (bytes_eq key (45 ∷ name))) [
      | inl y ↦
          let k = removal_key key name y in
          subst Goal (sym (cond-true _ _ _ (ap removes k)))
          (followed (Lacks name) (Lacks name) (removed place (without (drop 1 key) made)) (λ next. removed_tops rest next)
          (removed_kept (Lacks name) place (without (drop 1 key) made) (subst (λ q. IfSome (without (drop 1 q) made) (Lacks name)) (sym k) (gone name made o)))
          (λ next n. still_gone name rest next n))
      | inr n ↦
          let later = has_true (bytes_eq key (45 ∷ name)) (has_node (45 ∷ name) rest) h n in
          either Goal (removes key) _ _
          (followed IsOnce (Lacks name) (removed place (without (drop 1 key) made)) (λ next. removed_tops rest next)
          (removed_kept IsOnce place (without (drop 1 key) made) (once_without (drop 1 key) made o)) (λ next k. top_removed rest next name k later))
          (top_removed rest made name o later)
    ]

pub top_removal_removes : TopRemovalRemoves
unfolding resolved_files
top_removal_removes files name h =
    let tops = merged_files files none in
    followed IsSettledTop (Lacks name) (resolved_tops tops tops none) (λ made. removed_tops tops made)
    (resolved_tops_settled tops tops none (merged_files_once files none tt) (none_apart tops) tt)
    (λ made s. top_removed tops made name (top_once made s) h)

-- The value that a key has once a node joined.
abbrev newer_of : Option (List ℕ) → List ℕ → List ℕ
newer_of None value = value
newer_of (Some old) value = newer_value old value

value_joined : (key value : List ℕ) (place : Place) (below : Trees → Trees) (list : Trees) →
    value_at key (joined key value place below list) ≡ Some (newer_of (value_at key list) value)
value_joined key value place below none = cond-true _ _ _ (same_key key)
value_joined key value place below (more first old last children rest) = elim (cases_Bool (bytes_eq first key)) [
  | inl y ↦
      ap (value_at key) (cond-true _ _ _ y)
      ∙ cond-true _ _ _ y
      ∙ ap (λ o. Some (newer_of o value)) (sym (cond-true _ _ _ y))
  | inr n ↦
      ap (value_at key) (cond-false _ _ _ n)
      ∙ cond-false _ _ _ n
      ∙ value_joined key value place below rest
      ∙ ap (λ o. Some (newer_of o value)) (sym (cond-false _ _ _ n))
]

value_other : (key other value : List ℕ) (place : Place) (below : Trees → Trees) (list : Trees) → bytes_eq other key ≡ false →
    value_at key (joined other value place below list) ≡ value_at key list
value_other key other value place below none n = cond-false _ _ _ n
value_other key other value place below (more first old last children rest) n = elim (cases_Bool (bytes_eq first other)) [
  | inl y ↦
      let apart : bytes_eq first key ≡ false = ap (λ k. bytes_eq k key) ((bytes_eq-Decides first other).0 y) ∙ n in
      ap (value_at key) (cond-true _ _ _ y) ∙ cond-false _ _ _ apart ∙ sym (cond-false _ _ _ apart)
  | inr m ↦
      ap (value_at key) (cond-false _ _ _ m)
      ∙ ap (λ v. cond (bytes_eq first key) (Some old) v) (value_other key other value place below rest n)
]

given_newer : (old : Option (List ℕ)) (value : List ℕ) → IsGiven value → newer_of old value ≡ value
given_newer old [] g = absurd g
given_newer None (byte ∷ rest) g = refl
given_newer (Some old) (byte ∷ rest) g = refl

value_lacks : (key : List ℕ) (list : Trees) → Lacks key list → value_at key list ≡ None
value_lacks key none h = refl
value_lacks key (more first value place children rest) h = cond-false _ _ _ h.0 ∙ value_lacks key rest h.1

-- A merged list has the values of the newer one.
merged_other : (key : List ℕ) (new old : Trees) → Lacks key new → value_at key (merged_into new old) ≡ value_at key old
merged_other key none old h = refl
merged_other key (more first value place children rest) old h =
    merged_other key rest (joined first value place (merged_into children) old) h.1
    ∙ value_other key first value place (merged_into children) old h.0

merged_value : (key value : List ℕ) (new old : Trees) → IsOnce new → value_at key new ≡ Some value → IsGiven value →
    value_at key (merged_into new old) ≡ Some value
merged_value key value none old o h g = cc
merged_value key value (more first newest place children rest) old o h g = elim (cases_Bool (bytes_eq first key)) [
  | inl y ↦
      let k = (bytes_eq-Decides first key).0 y in
      let v : Some newest ≡ Some value = sym (cond-true _ _ _ y) ∙ h in
      let w : newest ≡ value = cc in
      merged_other key rest (joined first newest place (merged_into children) old) (lacks_same first key rest y o.0)
      ∙ ap (λ q. value_at key (joined q newest place (merged_into children) old)) k
      ∙ value_joined key newest place (merged_into children) old
      ∙ ap (λ q. Some (newer_of (value_at key old) q)) w
      ∙ ap (λ q. Some q) (given_newer (value_at key old) value g)
  | inr n ↦
      merged_value key value rest (joined first newest place (merged_into children) old) o.1 (sym (cond-false _ _ _ n) ∙ h) g
]

-- Nodes that leave a key alone.
value_with_first : (key first value : List ℕ) (place : Place) (children rest : Trees) (left : Option Trees) →
    IfSome left (λ list. value_at key list ≡ value_at key rest) →
    IfSome (with_first first value place children left) (λ list. value_at key list ≡ value_at key (more first value place children rest))
value_with_first key first value place children rest None h = tt
value_with_first key first value place children rest (Some list) h = ap (λ v. cond (bytes_eq first key) (Some value) v) h

value_without : (key other : List ℕ) (list : Trees) → bytes_eq other key ≡ false → IfSome (without other list) (λ left. value_at key left ≡ value_at key list)
value_without key other none n = tt
value_without key other (more first value place children rest) n =
    let Goal : Option Trees → Type 0 = λ found. IfSome found (λ left. value_at key left ≡ value_at key (more first value place children rest)) in
    chosen Goal (bytes_eq first other) (Some rest) (with_first first value place children (without other rest))
    (λ y. sym (cond-false _ _ _ (ap (λ k. bytes_eq k key) ((bytes_eq-Decides first other).0 y) ∙ n)))
    (λ _. value_with_first key first value place children rest (without other rest) (value_without key other rest n))

and_false : (one other : Bool) → one ≡ true → (one && other) ≡ false → other ≡ false
and_false true other t h = h
and_false false other t h = cc

other_removed : (first key : List ℕ) → removes first ≡ true → bytes_eq first (45 ∷ key) ≡ false → bytes_eq (drop 1 first) key ≡ false
other_removed [] key r n = cc
other_removed (byte ∷ rest) key r n = and_false (eqb byte 45) (bytes_eq rest key) r n

join_other : (key first value : List ℕ) (place : Place) (below : Trees → Outcome) (list : Trees) → bytes_eq first key ≡ false →
    IfOk (join_step first value place below list) (λ made. value_at key made ≡ value_at key list)
join_other key first value place below list n =
    followed Any (λ made. value_at key made ≡ value_at key list) (below (children_at first list)) (λ children. Ok (joined first value place (λ _. children) list))
    (any_outcome (below (children_at first list))) (λ children _. value_other key first value place (λ _. children) list n)

taken_alone : (key : List ℕ) (free room : ℕ) (tops : Trees) (path : List (List ℕ)) (first value : List ℕ) (place : Place) (children list : Trees) →
    inherits first ≡ false → bytes_eq first key ≡ false → bytes_eq first (45 ∷ key) ≡ false →
    IfOk (taken_in free room tops path first value place children list) (λ made. value_at key made ≡ value_at key list)
taken_alone key free room tops path first value place children list i n m =
    let Same : Trees → Type 0 = λ made. value_at key made ≡ value_at key list in
    elim (cases_Bool (removes first)) [
      | inl r ↦
          subst (λ (o : Outcome). IfOk o Same) (sym (taken_removal free room tops path first value place children list i r))
          (removed_kept Same place (without (drop 1 first) list) (value_without key (drop 1 first) list (other_removed first key r m)))
      | inr r ↦
          subst (λ (o : Outcome). IfOk o Same) (sym (taken_join free room tops path first value place children list i r))
          (join_other key first value place (λ old. resolved_list free children (room - 1) tops path old) list n)
    ]

value_stays : (key : List ℕ) (value : Option (List ℕ)) (free room : ℕ) (tops : Trees) (path : List (List ℕ)) (below start : Trees) →
    LeavesAlone key below → value_at key start ≡ value →
    IfOk (resolved_list free below room tops path start) (λ list. value_at key list ≡ value)
value_stays key value free room tops path none start l h =
    subst (λ (o : Outcome). IfOk o (λ list. value_at key list ≡ value)) (sym (resolved_none free room tops path start)) h
value_stays key value free room tops path (more first other place children rest) start (i, n, m, l) h =
    cons_holds (λ list. value_at key list ≡ value_at key start) (λ list. value_at key list ≡ value) free room tops path first other place children rest start
    (taken_alone key free room tops path first other place children start i n m)
    (λ list e. value_stays key value free room tops path rest list l (e ∙ h))

-- A node with a key, after whatever stands above it.
joins_with : (key value wanted : List ℕ) (free room : ℕ) (tops : Trees) (path : List (List ℕ)) (place : Place) (children below made : Trees) →
    inherits key ≡ false → removes key ≡ false → LeavesAlone key below → newer_of (value_at key made) value ≡ wanted →
    IfOk (resolved_list free (more key value place children below) room tops path made) (λ list. value_at key list ≡ Some wanted)
joins_with key value wanted free room tops path place children below made i r l w =
    let Has : Trees → Type 0 = λ list. value_at key list ≡ Some wanted in
    let deeper : Trees → Outcome = λ old. resolved_list free children (room - 1) tops path old in
    cons_holds Has Has free room tops path key value place children below made
    (subst (λ (o : Outcome). IfOk o Has) (sym (taken_join free room tops path key value place children made i r))
    (followed Any Has (deeper (children_at key made)) (λ c. Ok (joined key value place (λ _. c) made)) (any_outcome (deeper (children_at key made)))
    (λ c _. value_joined key value place (λ _. c) made ∙ ap (λ v. Some v) w)))
    (λ list k. value_stays key (Some wanted) free room tops path below list l k)

pub child_wins : ChildWins
child_wins free room tops path start above below children key value place i r g l =
    any_last (λ list. value_at key list ≡ Some value) free room tops path above (more key value place children below) start
    (λ made. joins_with key value value free room tops path place children below made i r l (given_newer (value_at key made) value g))

pub empty_gives_way : EmptyGivesWay
empty_gives_way free room tops path start above below children so_far key value place i r l e v =
    let Has : Trees → Type 0 = λ list. value_at key list ≡ Some value in
    subst (λ (o : Outcome). IfOk o Has)
    (sym (resolved_followed free room tops path above (more key [] place children below) start
    ∙ ap (λ o. o >>= resolved_list free (more key [] place children below) room tops path) e))
    (joins_with key [] value free room tops path place children below so_far i r l (ap (λ o. newer_of o []) v))

-- An `Inherits`, after whatever stands above it.
parents_settled : (free : ℕ) (tops : Trees) (path : List (List ℕ)) (name : List ℕ) (parent : Trees) → IfOk (parents free tops path name parent) IsSettled
parents_settled zero tops path name parent = tt
parents_settled (suc free) tops path name parent = resolved_list_settled free parent (MAX_LEVELS - 1) tops (path ++ name ∷ []) none tt

inherited_value : (key value : List ℕ) (room : ℕ) (place : Place) (list parent : Trees) → IsOnce parent → value_at key parent ≡ Some value → IsGiven value →
    IfOk (inherited room place list parent) (λ made. value_at key made ≡ Some value)
unfolding inherited
inherited_value key value room place list parent o h g =
    either (λ (x : Outcome). IfOk x (λ made. value_at key made ≡ Some value)) (ltb room (levels parent)) (Err (TooDeep place)) (Ok (merged_into parent list)) tt
    (merged_value key value parent list o h g)

inherit_value : (key value : List ℕ) (free room : ℕ) (place : Place) (name : List ℕ) (path : List (List ℕ)) (from : Trees → Outcome) (list parent resolved : Trees) →
    from parent ≡ Ok resolved → IsOnce resolved → value_at key resolved ≡ Some value → IsGiven value →
    IfOk (inherit_step free room place name path from list (Some parent)) (λ made. value_at key made ≡ Some value)
inherit_value key value free room place name path from list parent resolved e o h g =
    let Has : Outcome → Type 0 = λ x. IfOk x (λ made. value_at key made ≡ Some value) in
    let taken = from parent >>= inherited room place list in
    either Has (in_path name path) (Err (Cycle place)) (cond (eqb free 0) (Err (TooDeep place)) taken) tt
    (either Has (eqb free 0) (Err (TooDeep place)) taken tt
    (subst Has (sym (ap (λ x. x >>= inherited room place list) e)) (inherited_value key value room place list resolved o h g)))

pub parent_wins : ParentWins
parent_wins free room tops path start above below children parent resolved word name key value place i p e v g l =
    let Has : Trees → Type 0 = λ list. value_at key list ≡ Some value in
    let settled : IsSettled resolved = subst (λ (x : Outcome). IfOk x IsSettled) e (parents_settled free tops path name parent) in
    any_last Has free room tops path above (more word name place children below) start
    (λ made. cons_holds Has Has free room tops path word name place children below made
    (subst (λ (o : Outcome). IfOk o Has)
    (sym (taken_inherits free room tops path word name place children made i ∙ ap (inherit_step free room place name path (parents free tops path name) made) p))
    (inherit_value key value free room place name path (parents free tops path name) made parent resolved e (settled_once resolved settled) v g))
    (λ list k. value_stays key (Some value) free room tops path below list l k))
