-- A resolved forest has no more nodes and no more levels than it may.
use Rattle.std.proofs.Common.{◌≡◌, ℕ, suc, ◌+◌, ◌-◌, ◌<◌, ◌≤◌, cond, eqb, ltb}
use Rattle.std.proofs.Common.{List, [], ◌∷◌, ◌++◌, length, map, drop, refl, sym, subst}
use Rattle.std.proofs.Common.{inl, inr, Option, Some, None, Result, Ok, Err, arith, length-append}
use Rattle.std.proofs.lemmas.Bool.{cases_Bool, ltb-false}
use Rattle.std.proofs.lemmas.List.Elements.{All-head, All-tail}
use Rattle.std.proofs.lemmas.Result.{IfOk-weaker}
use Rattle.std.specs.List.{All}
use Rattle.std.specs.Prelude.{IfSome}
use Rattle.std.specs.Result.{IfOk}
use Rattle.std.specs.Str.{bytes_eq}
use Rattle.base.specs.Steps.{◌>>=◌}
use Rattle.yaml_lines.specs.declared.forest.Forest.{Forest}
use Rattle.yaml_lines.specs.declared.place.Place.{Place}
use Rattle.yaml_lines.specs.declared.TheConstants.{MAX_LEVELS}
use Rattle.yaml_lines.specs.Kept.{Kept}
use Rattle.yaml_lines.specs.Limits.{nodes_in, AllLow, IsLowForest}
use Rattle.yaml_lines.specs.Trees.{Trees, none, more, trees_of, flat}
use Rattle.yaml_merge.specs.declared.fault.MergeFault.{MergeFault}
use Rattle.yaml_merge.specs.declared.fault.MergeFault.TheVariants.{Cycle, TooDeep}
use Rattle.yaml_merge.specs.declared.TheConstants.{MAX_PATH, MAX_FOREST_NODES}
use Rattle.yaml_merge.specs.Merging.{newer_value, joined, children_at, merged_into, merged_files}
use Rattle.yaml_merge.specs.Merging.{with_first, without, count, levels}
use Rattle.yaml_merge.specs.Resolving.{inherits, removes, parent_of, in_path, Outcome}
use Rattle.yaml_merge.specs.Resolving.{inherited, removed, inherit_step, taken_in}
use Rattle.yaml_merge.specs.Resolving.{parents, resolved_list, added, resolved_tops, removed_tops}
use Rattle.yaml_merge.specs.Resolving.{resolved_files}
use Rattle.yaml_merge.proofs.LawSteps.{cons_holds, resolved_none, taken_removal, taken_join}
use Rattle.yaml_merge.proofs.LawSteps.{taken_inherits}
use Rattle.yaml_merge.proofs.SettledSteps.{either, chosen, followed, within_kept, removed_kept}
use Rattle.yaml_merge.proofs.StaysSteps.{resolved_files_small}

-- Levels that a list takes up.
abbrev Fits : ℕ → Trees → Type 0
Fits room list = levels list ≤ room

any_fits : (outcome : Outcome) → IfOk outcome (λ _. Unit {0})
any_fits (Ok list) = tt
any_fits (Err fault) = tt

joined_fits : (room : ℕ) (key value : List ℕ) (place : Place) (below : Trees → Trees) (list : Trees) → 0 < room →
    ((trees : Trees) → Fits (room - 1) trees → Fits (room - 1) (below trees)) → Fits room list → Fits room (joined key value place below list)
joined_fits room key value place below none r b h = let one : levels (below none) ≤ room - 1 = b none (omega arith) in omega (arith, r, one)
joined_fits room key value place below (more first old last children rest) r b h =
    chosen (Fits room) (bytes_eq first key) (more first (newer_value old value) place (below children) rest)
    (more first old last children (joined key value place below rest))
    (λ _. let one : levels (below children) ≤ room - 1 = b children (omega (arith, h)) in omega (arith, r, h, one))
    (λ _. let later : levels (joined key value place below rest) ≤ room = joined_fits room key value place below rest r b (omega (arith, h)) in omega (arith, h, later))

children_fit : (room : ℕ) (key : List ℕ) (list : Trees) → Fits room list → Fits (room - 1) (children_at key list)
children_fit room key none h = omega arith
children_fit room key (more first value place children rest) h =
    either (Fits (room - 1)) (bytes_eq first key) children (children_at key rest) (omega (arith, h)) (children_fit room key rest (omega (arith, h)))

merged_fits : (new old : Trees) (room : ℕ) → Fits room new → Fits room old → Fits room (merged_into new old)
merged_fits none old room n h = h
merged_fits (more key value place children rest) old room n h =
    merged_fits rest (joined key value place (merged_into children) old) room (omega (arith, n))
    (joined_fits room key value place (merged_into children) old (omega (arith, n)) (λ trees t. merged_fits children trees (room - 1) (omega (arith, n)) t) h)

with_first_fits : (room : ℕ) (key value : List ℕ) (place : Place) (children : Trees) (left : Option Trees) → suc (levels children) ≤ room → IfSome left (Fits room) →
    IfSome (with_first key value place children left) (Fits room)
with_first_fits room key value place children None c h = tt
with_first_fits room key value place children (Some rest) c h = omega (arith, c, h)

without_fits : (room : ℕ) (key : List ℕ) (list : Trees) → Fits room list → IfSome (without key list) (Fits room)
without_fits room key none h = tt
without_fits room key (more first value place children rest) h =
    either (λ (left : Option Trees). IfSome left (Fits room)) (bytes_eq first key) (Some rest) (with_first first value place children (without key rest)) (omega (arith, h))
    (with_first_fits room first value place children (without key rest) (omega (arith, h)) (without_fits room key rest (omega (arith, h))))

inherited_fits : (room : ℕ) (place : Place) (list parent : Trees) → Fits room list → IfOk (inherited room place list parent) (Fits room)
unfolding inherited
inherited_fits room place list parent h =
    chosen (λ (o : Outcome). IfOk o (Fits room)) (ltb room (levels parent)) (Err (TooDeep place)) (Ok (merged_into parent list)) (λ _. tt)
    (λ n. merged_fits parent list room (ltb-false room (levels parent) n) h)

inherit_fits : (free room : ℕ) (place : Place) (name : List ℕ) (path : List (List ℕ)) (from : Trees → Outcome) (list : Trees) (parent : Option Trees) → Fits room list →
    IfOk (inherit_step free room place name path from list parent) (Fits room)
inherit_fits free room place name path from list None h = tt
inherit_fits free room place name path from list (Some children) h =
    let Goal : Outcome → Type 0 = λ o. IfOk o (Fits room) in
    let taken = from children >>= inherited room place list in
    either Goal (in_path name path) (Err (Cycle place)) (cond (eqb free 0) (Err (TooDeep place)) taken) tt
    (either Goal (eqb free 0) (Err (TooDeep place)) taken tt
    (followed (λ _. Unit {0}) (Fits room) (from children) (inherited room place list) (any_fits (from children)) (λ parent _. inherited_fits room place list parent h)))

taken_fits : (free room : ℕ) (tops : Trees) (path : List (List ℕ)) (key value : List ℕ) (place : Place) (children list : Trees) → 0 < room → Fits room list →
    ((old : Trees) → Fits (room - 1) old → IfOk (resolved_list free children (room - 1) tops path old) (Fits (room - 1))) →
    IfOk (taken_in free room tops path key value place children list) (Fits room)
taken_fits free room tops path key value place children list r h b =
    let Goal : Outcome → Type 0 = λ o. IfOk o (Fits room) in
    let deeper : Trees → Outcome = λ old. resolved_list free children (room - 1) tops path old in
    elim (cases_Bool (inherits key)) [
      | inl i ↦ subst Goal (sym (taken_inherits free room tops path key value place children list i))
          (inherit_fits free room place value path (parents free tops path value) list (parent_of value tops) h)
      | inr i ↦ elim (cases_Bool (removes key)) [
        | inl m ↦ subst Goal (sym (taken_removal free room tops path key value place children list i m))
            (removed_kept (Fits room) place (without (drop 1 key) list) (without_fits room (drop 1 key) list h))
        | inr m ↦ subst Goal (sym (taken_join free room tops path key value place children list i m))
            (followed (Fits (room - 1)) (Fits room) (deeper (children_at key list)) (λ c. Ok (joined key value place (λ _. c) list))
            (b (children_at key list) (children_fit room key list h)) (λ c f. joined_fits room key value place (λ _. c) list r (λ _ _. f) h))
      ]
    ]

list_fits : (free room : ℕ) (tops : Trees) (path : List (List ℕ)) (list start : Trees) → Fits room list → Fits room start →
    IfOk (resolved_list free list room tops path start) (Fits room)
list_fits free room tops path none start l h = subst (λ (o : Outcome). IfOk o (Fits room)) (sym (resolved_none free room tops path start)) h
list_fits free room tops path (more key value place children rest) start l h =
    cons_holds (Fits room) (Fits room) free room tops path key value place children rest start
    (taken_fits free room tops path key value place children start (omega (arith, l)) h (λ old o. list_fits free (room - 1) tops path children old (omega (arith, l)) o))
    (λ list k. list_fits free room tops path rest list (omega (arith, l)) k)

added_fits : (room : ℕ) (key value : List ℕ) (place : Place) (children list : Trees) → suc (levels children) ≤ room → Fits room list → Fits room (added key value place children list)
added_fits room key value place children none c h = omega (arith, c)
added_fits room key value place children (more first old last others rest) c h =
    let later : levels (added key value place children rest) ≤ room = added_fits room key value place children rest c (omega (arith, h)) in
    omega (arith, h, later)

tops_fit : (left tops made : Trees) → Fits MAX_LEVELS left → Fits MAX_LEVELS made → IfOk (resolved_tops left tops made) (Fits MAX_LEVELS)
tops_fit none tops made l h = h
tops_fit (more key value place children rest) tops made l h =
    let Low : Trees → Type 0 = Fits MAX_LEVELS in
    either (λ (o : Outcome). IfOk o Low) (removes key) (resolved_tops rest tops made) _
    (tops_fit rest tops made (omega (arith, l)) h)
    (followed Low Low _ _
    (followed (Fits (MAX_LEVELS - 1)) Low (resolved_list (MAX_PATH - 1) children (MAX_LEVELS - 1) tops (key ∷ []) none) _
    (list_fits (MAX_PATH - 1) (MAX_LEVELS - 1) tops (key ∷ []) children none (omega (arith, l)) (omega arith))
    (λ below b. within_kept Low MAX_FOREST_NODES place (added key value place below made) (added_fits MAX_LEVELS key value place below made (omega (arith, b)) h)))
    (λ next n. tops_fit rest tops next (omega (arith, l)) n))

removed_fit : (left made : Trees) → Fits MAX_LEVELS made → IfOk (removed_tops left made) (Fits MAX_LEVELS)
removed_fit none made h = h
removed_fit (more key value place children rest) made h =
    let Low : Trees → Type 0 = Fits MAX_LEVELS in
    either (λ (o : Outcome). IfOk o Low) (removes key) (removed place (without (drop 1 key) made) >>= (λ next. removed_tops rest next)) (removed_tops rest made)
    (followed Low Low (removed place (without (drop 1 key) made)) (λ next. removed_tops rest next)
    (removed_kept Low place (without (drop 1 key) made) (without_fits MAX_LEVELS (drop 1 key) made h)) (λ next n. removed_fit rest next n))
    (removed_fit rest made h)

-- The same of the nodes in preorder.
low_append : (xs ys : List Kept) → AllLow xs → AllLow ys → AllLow (xs ++ ys)
low_append [] ys f g = g
low_append (x ∷ xs) ys f g = (f.0, low_append xs ys f.1 g)

low_parts : (xs ys : List Kept) → AllLow (xs ++ ys) → AllLow xs × AllLow ys
low_parts [] ys h = (tt, h)
low_parts (x ∷ xs) ys h = let p = low_parts xs ys h.1 in ((h.0, p.0), p.1)

flat_low : (level : ℕ) (trees : Trees) → level + levels trees ≤ MAX_LEVELS → AllLow (flat level trees)
flat_low level none h = tt
flat_low level (more key value place children rest) h =
    (omega (arith, h), low_append (flat (level + 1) children) (flat level rest) (flat_low (level + 1) children (omega (arith, h))) (flat_low level rest (omega (arith, h))))

low_flat : (level : ℕ) (trees : Trees) → level ≤ MAX_LEVELS → AllLow (flat level trees) → level + levels trees ≤ MAX_LEVELS
low_flat level none l h = omega (arith, l)
low_flat level (more key value place children rest) l h =
    let p = low_parts (flat (level + 1) children) (flat level rest) h.1 in
    let here : level < MAX_LEVELS = h.0 in
    let deeper : level + 1 + levels children ≤ MAX_LEVELS = low_flat (level + 1) children (omega (arith, here)) p.0 in
    let later : level + levels rest ≤ MAX_LEVELS = low_flat level rest l p.1 in
    omega (arith, deeper, later)

length_flat : (level : ℕ) (trees : Trees) → length (flat level trees) ≡ count trees
length_flat level none = refl
length_flat level (more key value place children rest) =
    let whole = length-append (flat (level + 1) children) (flat level rest) in
    let deeper = length_flat (level + 1) children in
    let later = length_flat level rest in
    omega (arith, whole, deeper, later)

files_fit : (files : List Forest) (list : Trees) → All IsLowForest files → Fits MAX_LEVELS list → Fits MAX_LEVELS (merged_files (map trees_of files) list)
files_fit [] list f h = h
files_fit (file ∷ files) list f h =
    let low : levels (trees_of file) ≤ MAX_LEVELS = omega (arith, low_flat 0 (trees_of file) (omega arith) (All-head IsLowForest file files f)) in
    files_fit files (merged_into (trees_of file) list) (All-tail IsLowForest file files f) (merged_fits (trees_of file) list MAX_LEVELS low h)

resolved_files_fit : (files : List Forest) → All IsLowForest files → IfOk (resolved_files (map trees_of files)) (Fits MAX_LEVELS)
unfolding resolved_files
resolved_files_fit files f =
    let tops = merged_files (map trees_of files) none in
    followed (Fits MAX_LEVELS) (Fits MAX_LEVELS) (resolved_tops tops tops none) (λ made. removed_tops tops made)
    (tops_fit tops tops none (files_fit files none f (omega arith)) (omega arith)) (λ made h. removed_fit tops made h)

-- The answer of resolving files.
pub resolve_few : (files : List Forest) (answer : Result Forest MergeFault) →
    IfOk answer (λ forest. resolved_files (map trees_of files) ≡ Ok (trees_of forest)) → IfOk answer (λ forest. nodes_in forest ≤ MAX_FOREST_NODES)
resolve_few files answer e =
    IfOk-weaker answer (λ forest. resolved_files (map trees_of files) ≡ Ok (trees_of forest)) (λ forest. nodes_in forest ≤ MAX_FOREST_NODES)
    (λ forest h.
    let small : count (trees_of forest) ≤ MAX_FOREST_NODES = (subst (λ (x : Outcome). IfOk x (λ t. count t ≤ MAX_FOREST_NODES)) h (few files)) in
    let same = length_flat 0 (trees_of forest) in
    omega (arith, small, same)) e
  where
    few : (files : List Forest) → IfOk (resolved_files (map trees_of files)) (λ t. count t ≤ MAX_FOREST_NODES)
    few files = IfOk-weaker (resolved_files (map trees_of files)) _ (λ t. count t ≤ MAX_FOREST_NODES) (λ t s. s.0) (resolved_files_small (map trees_of files))

pub resolve_low : (files : List Forest) (answer : Result Forest MergeFault) →
    IfOk answer (λ forest. resolved_files (map trees_of files) ≡ Ok (trees_of forest)) → All IsLowForest files → IfOk answer IsLowForest
resolve_low files answer e f =
    IfOk-weaker answer (λ forest. resolved_files (map trees_of files) ≡ Ok (trees_of forest)) IsLowForest
    (λ forest h. flat_low 0 (trees_of forest) (omega (arith, subst (λ (x : Outcome). IfOk x (Fits MAX_LEVELS)) h (resolved_files_fit files f)))) e
