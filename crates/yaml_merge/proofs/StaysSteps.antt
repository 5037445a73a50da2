-- Settled forests resolve to themselves, and files in which nothing is left to resolve are merged.
use Rattle.std.proofs.Common.{◌≡◌, ℕ, suc, ◌+◌, ◌-◌, ◌≤◌, false, ltb, List}
use Rattle.std.proofs.Common.{[], ◌∷◌, drop, refl, sym, ap, ◌∙◌, subst, Option, Some, None, Ok, Err}
use Rattle.std.proofs.Common.{arith}
use Rattle.std.proofs.lemmas.Bool.{cond-false, ltb-false}
use Rattle.std.proofs.lemmas.List.Elements.{All-head, All-tail}
use Rattle.std.specs.List.{All}
use Rattle.std.specs.Prelude.{IfSome}
use Rattle.std.specs.Result.{IfOk}
use Rattle.std.specs.Str.{bytes_eq}
use Rattle.base.specs.Steps.{◌>>=◌}
use Rattle.yaml_lines.specs.declared.place.Place.{Place}
use Rattle.yaml_lines.specs.declared.TheConstants.{MAX_LEVELS}
use Rattle.yaml_lines.specs.Trees.{Trees, none, more}
use Rattle.yaml_merge.specs.declared.fault.MergeFault.TheVariants.{TooLarge}
use Rattle.yaml_merge.specs.declared.TheConstants.{MAX_PATH, MAX_LIST_NODES, MAX_FOREST_NODES}
use Rattle.yaml_merge.specs.Merging.{Lacks, newer_value, joined, children_at, merged_into}
use Rattle.yaml_merge.specs.Merging.{merged_files, with_first, without, count}
use Rattle.yaml_merge.specs.Resolving.{inherits, removes, Outcome, within, removed}
use Rattle.yaml_merge.specs.Resolving.{taken_in, resolved_list, added, resolved_tops, removed_tops}
use Rattle.yaml_merge.specs.Resolving.{resolved_files}
use Rattle.yaml_merge.specs.Settled.{IsSettled, IsSettledTop}
use Rattle.yaml_merge.specs.Laws.{followed_by, AreSmall, IsSmall, IsPlain, IsPlainTop}
use Rattle.yaml_merge.specs.Laws.{SettledStays, ResolvedStays, PlainIsMerged}
use Rattle.yaml_merge.proofs.KeySteps.{bytes_flip}
use Rattle.yaml_merge.proofs.ListSteps.{resolved_cons}
use Rattle.yaml_merge.proofs.StepSteps.{within_small}
use Rattle.yaml_merge.proofs.LawSteps.{cons_holds, resolved_none, taken_join}
use Rattle.yaml_merge.proofs.SettledSteps.{either, chosen, followed, within_kept, removed_kept}
use Rattle.yaml_merge.proofs.SettledSteps.{joined_settled, lacks_joined, IsApart, none_apart, resolved_files_settled}

-- How many nodes resolving gives.
within_count : (limit : ℕ) (place : Place) (list : Trees) → IfOk (within limit place list) (λ made. count made ≤ limit)
unfolding within
within_count limit place list =
    chosen (λ (o : Outcome). IfOk o (λ made. count made ≤ limit)) (ltb limit (count list)) (Err (TooLarge place)) (Ok list) (λ _. tt) (λ n. ltb-false limit (count list) n)

both_ok : (P Q R : Trees → Type 0) (outcome : Outcome) → IfOk outcome P → IfOk outcome Q → ((list : Trees) → P list → Q list → R list) → IfOk outcome R
both_ok P Q R (Ok list) p q r = r list p q
both_ok P Q R (Err fault) p q r = tt

list_small : (free room : ℕ) (tops : Trees) (path : List (List ℕ)) (list start : Trees) → count start ≤ MAX_LIST_NODES →
    IfOk (resolved_list free list room tops path start) (λ made. count made ≤ MAX_LIST_NODES)
list_small free room tops path none start h = subst (λ (o : Outcome). IfOk o (λ made. count made ≤ MAX_LIST_NODES)) (sym (resolved_none free room tops path start)) h
list_small free room tops path (more key value place children rest) start h =
    let Small : Trees → Type 0 = λ made. count made ≤ MAX_LIST_NODES in
    subst (λ (o : Outcome). IfOk o Small) (sym (resolved_cons free room tops path key value place children rest start))
    (followed Small Small (taken_in free room tops path key value place children start >>= within MAX_LIST_NODES place) (λ list. resolved_list free rest room tops path list)
    (small_taken (taken_in free room tops path key value place children start) place)
    (λ list k. list_small free room tops path rest list k))
  where
    small_taken : (outcome : Outcome) (place : Place) → IfOk (outcome >>= within MAX_LIST_NODES place) (λ made. count made ≤ MAX_LIST_NODES)
    small_taken (Ok list) place = within_count MAX_LIST_NODES place list
    small_taken (Err fault) place = tt

added_small : (key value : List ℕ) (place : Place) (children list : Trees) → count children ≤ MAX_LIST_NODES → AreSmall list → AreSmall (added key value place children list)
added_small key value place children none c h = (c, tt)
added_small key value place children (more first old at others rest) c h = (h.0, added_small key value place children rest c h.1)

tops_small : (left tops made : Trees) → IsSmall made → IfOk (resolved_tops left tops made) IsSmall
tops_small none tops made h = h
tops_small (more key value place children rest) tops made h =
    let add : Trees → Trees = λ below. added key value place below made in
    either (λ (o : Outcome). IfOk o IsSmall) (removes key) (resolved_tops rest tops made) _
    (tops_small rest tops made h)
    (followed IsSmall IsSmall _ _
    (followed (λ below. count below ≤ MAX_LIST_NODES) IsSmall (resolved_list (MAX_PATH - 1) children (MAX_LEVELS - 1) tops (key ∷ []) none) _
    (list_small (MAX_PATH - 1) (MAX_LEVELS - 1) tops (key ∷ []) children none (omega arith))
    (λ below b. both_ok (λ next. count next ≤ MAX_FOREST_NODES) AreSmall IsSmall (within MAX_FOREST_NODES place (add below))
    (within_count MAX_FOREST_NODES place (add below))
    (within_kept AreSmall MAX_FOREST_NODES place (add below) (added_small key value place below made b h.1))
    (λ next n s. (n, s))))
    (λ next n. tops_small rest tops next n))

less_with_first : (key value : List ℕ) (place : Place) (children rest : Trees) (left : Option Trees) → count children ≤ MAX_LIST_NODES →
    IfSome left (λ list. (count list ≤ count rest) × AreSmall list) →
    IfSome (with_first key value place children left) (λ list. (count list ≤ suc (count children + count rest)) × AreSmall list)
less_with_first key value place children rest None c h = tt
less_with_first key value place children rest (Some list) c h = (omega (arith, h.0), (c, h.1))

less_without : (key : List ℕ) (list : Trees) → AreSmall list → IfSome (without key list) (λ left. (count left ≤ count list) × AreSmall left)
less_without key none h = tt
less_without key (more first value place children rest) h =
    either (λ (found : Option Trees). IfSome found (λ left. (count left ≤ suc (count children + count rest)) × AreSmall left)) (bytes_eq first key)
    (Some rest) (with_first first value place children (without key rest))
    (omega arith, h.1)
    (less_with_first first value place children rest (without key rest) h.0 (less_without key rest h.1))

smaller : (list : Trees) (left : Option Trees) → IsSmall list → IfSome left (λ found. (count found ≤ count list) × AreSmall found) → IfSome left IsSmall
smaller list None s h = tt
smaller list (Some found) s h = (omega (arith, s.0, h.0), h.1)

removed_small : (left made : Trees) → IsSmall made → IfOk (removed_tops left made) IsSmall
removed_small none made h = h
removed_small (more key value place children rest) made h =
    either (λ (o : Outcome). IfOk o IsSmall) (removes key) (removed place (without (drop 1 key) made) >>= (λ next. removed_tops rest next)) (removed_tops rest made)
    (followed IsSmall IsSmall (removed place (without (drop 1 key) made)) (λ next. removed_tops rest next)
    (removed_kept IsSmall place (without (drop 1 key) made) (smaller made (without (drop 1 key) made) h (less_without (drop 1 key) made h.1)))
    (λ next n. removed_small rest next n))
    (removed_small rest made h)

pub resolved_files_small : (files : List Trees) → IfOk (resolved_files files) IsSmall
unfolding resolved_files
resolved_files_small files =
    let tops = merged_files files none in
    followed IsSmall IsSmall (resolved_tops tops tops none) (λ made. removed_tops tops made)
    (tops_small tops tops none (omega arith, tt)) (λ made h. removed_small tops made h)

-- Lists one after another.
pub followed_none : (list : Trees) → followed_by list none ≡ list
followed_none none = refl
followed_none (more key value place children rest) = ap (more key value place children) (followed_none rest)

pub followed_followed : (one two three : Trees) → followed_by (followed_by one two) three ≡ followed_by one (followed_by two three)
followed_followed none two three = refl
followed_followed (more key value place children rest) two three = ap (more key value place children) (followed_followed rest two three)

count_followed : (one two : Trees) → count (followed_by one two) ≡ count one + count two
count_followed none two = omega arith
count_followed (more key value place children rest) two = omega (arith, count_followed rest two)

lacks_followed : (q : List ℕ) (one two : Trees) → Lacks q one → Lacks q two → Lacks q (followed_by one two)
lacks_followed q none two h k = k
lacks_followed q (more key value place children rest) two h k = (h.0, lacks_followed q rest two h.1 k)

-- A list with a node more.
abbrev pub with_last : (key value : List ℕ) → Place → Trees → Trees → Trees
with_last key value place children list = followed_by list (more key value place children none)

pub last_apart : (key value : List ℕ) (place : Place) (children made left : Trees) → Lacks key left → IsApart made left → IsApart (with_last key value place children made) left
last_apart key value place children made none l a = tt
last_apart key value place children made (more first old last others rest) l a =
    (lacks_followed first made (more key value place children none) a.0 (bytes_flip key first ∙ l.0, tt), last_apart key value place children made rest l.1 a.1)

pub joined_last : (key value : List ℕ) (place : Place) (below : Trees → Trees) (list : Trees) → Lacks key list →
    joined key value place below list ≡ with_last key value place (below none) list
joined_last key value place below none h = refl
joined_last key value place below (more first old last children rest) h =
    cond-false _ _ _ h.0 ∙ ap (more first old last children) (joined_last key value place below rest h.1)

added_last : (key value : List ℕ) (place : Place) (children list : Trees) → added key value place children list ≡ with_last key value place children list
added_last key value place children none = refl
added_last key value place children (more first old last others rest) = ap (more first old last others) (added_last key value place children rest)

children_lacked : (key : List ℕ) (list : Trees) → Lacks key list → children_at key list ≡ none
children_lacked key none h = refl
children_lacked key (more first value place children rest) h = cond-false _ _ _ h.0 ∙ children_lacked key rest h.1

same_after : (outcome : Outcome) (one other : Trees → Outcome) → ((list : Trees) → one list ≡ other list) → (outcome >>= one) ≡ (outcome >>= other)
same_after (Ok list) one other e = e list
same_after (Err fault) one other e = refl

-- A new node of a list that is being resolved.
taken_new : (free room : ℕ) (tops : Trees) (path : List (List ℕ)) (key value : List ℕ) (place : Place) (children start : Trees) →
    inherits key ≡ false → removes key ≡ false → Lacks key start →
    taken_in free room tops path key value place children start
    ≡ (resolved_list free children (room - 1) tops path none >>= λ below. Ok (with_last key value place below start))
taken_new free room tops path key value place children start i r l =
    taken_join free room tops path key value place children start i r
    ∙ ap (λ c. resolved_list free children (room - 1) tops path c >>= λ below. Ok (joined key value place (λ _. below) start)) (children_lacked key start l)
    ∙ same_after (resolved_list free children (room - 1) tops path none) (λ below. Ok (joined key value place (λ _. below) start)) (λ below. Ok (with_last key value place below start))
    (λ below. ap (λ t. Ok t) (joined_last key value place (λ _. below) start l))

-- A settled list that isn't too large stays as it is.
pub list_stays : (free room : ℕ) (tops : Trees) (path : List (List ℕ)) (list start : Trees) → IsSettled list → IsApart start list →
    count (followed_by start list) ≤ MAX_LIST_NODES → resolved_list free list room tops path start ≡ Ok (followed_by start list)
list_stays free room tops path none start s a n = resolved_none free room tops path start ∙ ap (λ t. Ok t) (sym (followed_none start))
list_stays free room tops path (more key value place children rest) start (l, i, r, c, s) a n =
    let next = with_last key value place children start in
    let one : count (followed_by start (more key value place children rest)) ≡ count start + suc (count children + count rest) =
    count_followed start (more key value place children rest) in
    let two : count next ≡ count start + suc (count children + 0) = count_followed start (more key value place children none) in
    let whole : followed_by next rest ≡ followed_by start (more key value place children rest) = followed_followed start (more key value place children none) rest in
    let below : resolved_list free children (room - 1) tops path none ≡ Ok children = list_stays free (room - 1) tops path children none c (none_apart children) (omega (arith, one, n)) in
    let later : Trees → Outcome = λ list. resolved_list free rest room tops path list in
    resolved_cons free room tops path key value place children rest start
    ∙ ap (λ o. o >>= within MAX_LIST_NODES place >>= later)
    (taken_new free room tops path key value place children start i r a.0 ∙ ap (λ o. o >>= λ b. Ok (with_last key value place b start)) below)
    ∙ ap (λ o. o >>= later) (within_small MAX_LIST_NODES place next (omega (arith, one, two, n)))
    ∙ list_stays free room tops path rest next s (last_apart key value place children start rest l a.1) (subst (λ t. count t ≤ MAX_LIST_NODES) (sym whole) n)
    ∙ ap (λ t. Ok t) whole

-- A settled list, whatever its size: where nothing is refused it stays as it is.
list_plain : (free room : ℕ) (tops : Trees) (path : List (List ℕ)) (list start : Trees) → IsSettled list → IsApart start list →
    IfOk (resolved_list free list room tops path start) (λ made. made ≡ followed_by start list)
list_plain free room tops path none start s a =
    subst (λ (o : Outcome). IfOk o (λ made. made ≡ followed_by start none)) (sym (resolved_none free room tops path start)) (sym (followed_none start))
list_plain free room tops path (more key value place children rest) start (l, i, r, c, s) a =
    let next = with_last key value place children start in
    let Next : Trees → Type 0 = λ made. made ≡ next in
    let all = followed_by start (more key value place children rest) in
    let whole : followed_by next rest ≡ all = followed_followed start (more key value place children none) rest in
    let last : IfOk (resolved_list free rest room tops path next) (λ made. made ≡ followed_by next rest) =
    list_plain free room tops path rest next s (last_apart key value place children start rest l a.1) in
    cons_holds Next (λ made. made ≡ all) free room tops path key value place children rest start
    (subst (λ (o : Outcome). IfOk o Next) (sym (taken_new free room tops path key value place children start i r a.0))
    (followed (λ below. below ≡ children) Next (resolved_list free children (room - 1) tops path none) (λ below. Ok (with_last key value place below start))
    (list_plain free (room - 1) tops path children none c (none_apart children))
    (λ below e. ap (λ b. with_last key value place b start) e)))
    (λ list e. subst (λ from. IfOk (resolved_list free rest room tops path from) (λ made. made ≡ all)) (sym e)
    (subst (λ w. IfOk (resolved_list free rest room tops path next) (λ made. made ≡ w)) whole last))

-- The top level.
tops_stay : (left tops made : Trees) → IsSettledTop left → AreSmall left → count (followed_by made left) ≤ MAX_FOREST_NODES →
    resolved_tops left tops made ≡ Ok (followed_by made left)
tops_stay none tops made s h n = ap (λ t. Ok t) (sym (followed_none made))
tops_stay (more key value place children rest) tops made (l, r, c, s) h n =
    let next = with_last key value place children made in
    let one : count (followed_by made (more key value place children rest)) ≡ count made + suc (count children + count rest) =
    count_followed made (more key value place children rest) in
    let two : count next ≡ count made + suc (count children + 0) = count_followed made (more key value place children none) in
    let whole : followed_by next rest ≡ followed_by made (more key value place children rest) = followed_followed made (more key value place children none) rest in
    let last : added key value place children made ≡ next = added_last key value place children made in
    let below : resolved_list (MAX_PATH - 1) children (MAX_LEVELS - 1) tops (key ∷ []) none ≡ Ok children =
    list_stays (MAX_PATH - 1) (MAX_LEVELS - 1) tops (key ∷ []) children none c (none_apart children) h.0 in
    let later : Trees → Outcome = λ list. resolved_tops rest tops list in
    cond-false _ _ _ r
    ∙ ap (λ o. o >>= (λ b. within MAX_FOREST_NODES place (added key value place b made)) >>= later) below
    ∙ ap (λ t. within MAX_FOREST_NODES place t >>= later) last
    ∙ ap (λ o. o >>= later) (within_small MAX_FOREST_NODES place next (omega (arith, one, two, n)))
    ∙ tops_stay rest tops next s h.1 (subst (λ t. count t ≤ MAX_FOREST_NODES) (sym whole) n)
    ∙ ap (λ t. Ok t) whole

tops_plain : (left tops made : Trees) → IsSettledTop left → IfOk (resolved_tops left tops made) (λ list. list ≡ followed_by made left)
tops_plain none tops made s = sym (followed_none made)
tops_plain (more key value place children rest) tops made (l, r, c, s) =
    let next = with_last key value place children made in
    let Next : Trees → Type 0 = λ list. list ≡ next in
    let all = followed_by made (more key value place children rest) in
    let whole : followed_by next rest ≡ all = followed_followed made (more key value place children none) rest in
    let steps : Trees → Outcome = λ below. within MAX_FOREST_NODES place (added key value place below made) in
    subst (λ (o : Outcome). IfOk o (λ list. list ≡ all)) (sym (cond-false _ _ _ r))
    (followed Next (λ list. list ≡ all) (resolved_list (MAX_PATH - 1) children (MAX_LEVELS - 1) tops (key ∷ []) none >>= steps) (λ list. resolved_tops rest tops list)
    (followed (λ below. below ≡ children) Next (resolved_list (MAX_PATH - 1) children (MAX_LEVELS - 1) tops (key ∷ []) none) steps
    (list_plain (MAX_PATH - 1) (MAX_LEVELS - 1) tops (key ∷ []) children none c (none_apart children))
    (λ below e. within_kept Next MAX_FOREST_NODES place (added key value place below made)
    (added_last key value place below made ∙ ap (λ b. with_last key value place b made) e)))
    (λ list e. subst (λ from. IfOk (resolved_tops rest tops from) (λ t. t ≡ all)) (sym e)
    (subst (λ w. IfOk (resolved_tops rest tops next) (λ t. t ≡ w)) whole (tops_plain rest tops next s))))

nothing_removed : (left made : Trees) → IsSettledTop left → removed_tops left made ≡ Ok made
nothing_removed none made h = refl
nothing_removed (more key value place children rest) made (l, r, c, s) = cond-false _ _ _ r ∙ nothing_removed rest made s

-- Merging a list in which each key stands once, at all depths, into one that has none of its keys.
abbrev IsOnceBelow : Trees → Type 0
IsOnceBelow none = Unit {0}
IsOnceBelow (more key value place children rest) = Lacks key rest × IsOnceBelow children × IsOnceBelow rest

settled_below : (list : Trees) → IsSettled list → IsOnceBelow list
settled_below none h = tt
settled_below (more key value place children rest) (l, i, r, c, s) = (l, settled_below children c, settled_below rest s)

top_below : (list : Trees) → IsSettledTop list → IsOnceBelow list
top_below none h = tt
top_below (more key value place children rest) (l, r, c, s) = (l, settled_below children c, top_below rest s)

merged_apart : (new old : Trees) → IsOnceBelow new → IsApart old new → merged_into new old ≡ followed_by old new
merged_apart none old h a = sym (followed_none old)
merged_apart (more key value place children rest) old (l, c, s) a =
    let next = with_last key value place children old in
    let join : joined key value place (merged_into children) old ≡ next =
    joined_last key value place (merged_into children) old a.0
    ∙ ap (λ b. with_last key value place b old) (merged_apart children none c (none_apart children)) in
    ap (merged_into rest) join
    ∙ merged_apart rest next s (last_apart key value place children old rest l a.1)
    ∙ followed_followed old (more key value place children none) rest

-- The laws.
pub settled_stays : SettledStays
unfolding resolved_files
settled_stays trees s n =
    let same : merged_into trees none ≡ trees = merged_apart trees none (top_below trees s) (none_apart trees) in
    ap (λ t. resolved_tops t t none >>= λ made. removed_tops t made) same
    ∙ ap (λ o. o >>= λ made. removed_tops trees made) (tops_stay trees trees none s n.1 n.0)
    ∙ nothing_removed trees trees s

pub resolved_stays : ResolvedStays
resolved_stays files =
    both_ok IsSettledTop IsSmall (λ trees. resolved_files (trees ∷ []) ≡ Ok trees) (resolved_files files) (resolved_files_settled files) (resolved_files_small files)
    (λ trees s n. settled_stays trees s n)

-- Merged files in which nothing is inherited or removed are settled.
merged_plain : (new old : Trees) → IsPlain new → IsSettled old → IsSettled (merged_into new old)
merged_plain none old p h = h
merged_plain (more key value place children rest) old (i, r, c, p) h =
    merged_plain rest (joined key value place (merged_into children) old) p
    (joined_settled key value place (merged_into children) old i r (λ trees t. merged_plain children trees c t) h)

joined_top : (key value : List ℕ) (place : Place) (below : Trees → Trees) (list : Trees) → removes key ≡ false →
    ((trees : Trees) → IsSettled trees → IsSettled (below trees)) → IsSettledTop list → IsSettledTop (joined key value place below list)
joined_top key value place below none r b h = (tt, r, b none tt, tt)
joined_top key value place below (more first old last children rest) r b (l, fr, c, s) =
    chosen IsSettledTop (bytes_eq first key) (more first (newer_value old value) place (below children) rest)
    (more first old last children (joined key value place below rest)) (λ same. (l, fr, b children c, s))
    (λ other. (lacks_joined first key value place below rest (bytes_flip key first ∙ other) l, fr, c, joined_top key value place below rest r b s))

merged_top : (new old : Trees) → IsPlainTop new → IsSettledTop old → IsSettledTop (merged_into new old)
merged_top none old p h = h
merged_top (more key value place children rest) old (r, c, p) h =
    merged_top rest (joined key value place (merged_into children) old) p
    (joined_top key value place (merged_into children) old r (λ trees t. merged_plain children trees c t) h)

files_top : (files : List Trees) (list : Trees) → All IsPlainTop files → IsSettledTop list → IsSettledTop (merged_files files list)
files_top [] list p h = h
files_top (file ∷ files) list p h =
    files_top files (merged_into file list) (All-tail IsPlainTop file files p) (merged_top file list (All-head IsPlainTop file files p) h)

pub plain_is_merged : PlainIsMerged
unfolding resolved_files
plain_is_merged files p =
    let tops = merged_files files none in
    let s : IsSettledTop tops = files_top files none p tt in
    let Same : Trees → Type 0 = λ trees. trees ≡ tops in
    followed Same Same (resolved_tops tops tops none) (λ made. removed_tops tops made)
    (tops_plain tops tops none s)
    (λ made e. subst (λ (o : Outcome). IfOk o Same) (sym (nothing_removed tops made s)) e)
