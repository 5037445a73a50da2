-- For which questions something is kept after fields are put back, taken up and forgotten, and
-- after walks are taken in.
use Rattle.std.proofs.Common.{◌≡◌, ℕ, ◌<◌, ◌⊎◌, inl, inr, Bool, true, false, length, List, [], ◌∷◌, ◌++◌, get_or, set, Option, Some, None, refl, ap, sym, ◌∙◌, arith, subst}
use Rattle.std.specs.Prelude.{Contains, IfSome, IsSomeAnd, slice_get, not, if◌then◌else◌}
use Rattle.std.specs.List.{All}
use Rattle.std.proofs.lemmas.List.Elements.{All-append, All-cons, All-contains, All-contains_itself, All-head, All-map, All-nil, All-push, All-same, All-set, All-tail, All-weaker, Contains-append_left, Contains-append_right, Contains-push}
use Rattle.std.proofs.lemmas.Option.{get_or_from_slice_get, slice_get_within}
use Rattle.world_units.specs.declared.cell.CPos.{CPos}
use Rattle.grid_routes.specs.Asked.{CountsOn, IsOrIn, asks_of, field_asks, one_more, walk_asks, with_ask}
use Rattle.grid_routes.specs.Kept.{AreForgotten, IsFinal, IsRoom, IsWidened}
use Rattle.grid_routes.specs.KnownWalks.{IsKnown, IsPut}
use Rattle.grid_routes.specs.declared.ask.Ask.{Ask}
use Rattle.grid_routes.specs.declared.fields.Kept.{Kept}
use Rattle.grid_routes.specs.declared.known_walk.KnownWalk.{KnownWalk}
use Rattle.grid_routes.proofs.Keeping.{asked-for}

first : (ask : Ask) (asks : List Ask) → Contains (ask ∷ asks) ask
first ask asks = Contains-append_left (ask ∷ []) asks ask (Contains-push [] ask)

rest : (ask a : Ask) (asks : List Ask) → Contains asks a → Contains (ask ∷ asks) a
rest ask a asks there = Contains-append_right (ask ∷ []) asks a there

with-own : (o : Option Ask) (asks : List Ask) → IfSome o (Contains (with_ask o asks))
with-own None asks = tt
with-own (Some ask) asks = first ask asks

with-rest : (o : Option Ask) (asks : List Ask) (a : Ask) → Contains asks a → Contains (with_ask o asks) a
with-rest None asks a there = there
with-rest (Some ask) asks a there = rest ask a asks there

none-some : (o : Option Ask) (P : Ask → Type 0) → o ≡ None → IfSome o P
none-some None P none = tt
none-some (Some ask) P none = absurd (cc)

some-weaker : (o : Option Ask) (P Q : Ask → Type 0) → ((a : Ask) → P a → Q a) → IfSome o P → IfSome o Q
some-weaker None P Q f p = tt
some-weaker (Some ask) P Q f p = f ask p

with-all :
    (P : Ask → Type 0) (o : Option Ask) (asks : List Ask) → IfSome o P → All P asks → All P (with_ask o asks)
with-all P None asks one all = all
with-all P (Some ask) asks one all = All-cons P ask asks one all

fields-all :
    (P : Ask → Type 0) (kept : List Kept) → All (λ (k : Kept). IfSome k.ask P) kept → All P (field_asks kept)
fields-all P [] all = All-nil P
fields-all P (k ∷ kept) all =
    let R : Kept → Type 0 = λ (x : Kept). IfSome x.ask P in
    with-all P k.ask (field_asks kept) (All-head R k kept all) (fields-all P kept (All-tail R k kept all))

-- Each field belongs to one of the questions to which these belong.
fields-themselves : (kept : List Kept) → All (λ (k : Kept). IfSome k.ask (Contains (field_asks kept))) kept
fields-themselves [] = All-nil (λ (k : Kept). IfSome k.ask (Contains (field_asks [])))
fields-themselves (k ∷ kept) =
    let before : Kept → Type 0 = λ (x : Kept). IfSome x.ask (Contains (field_asks kept)) in
    let after : Kept → Type 0 = λ (x : Kept). IfSome x.ask (Contains (with_ask k.ask (field_asks kept))) in
    All-cons after k kept (with-own k.ask (field_asks kept))
    (All-weaker before after
    (λ x one. some-weaker x.ask (Contains (field_asks kept)) (Contains (with_ask k.ask (field_asks kept)))
    (λ a there. with-rest k.ask (field_asks kept) a there) one) kept (fields-themselves kept))

fields-were :
    (P : Ask → Type 0) (kept : List Kept) → ((a : Ask) → Contains (field_asks kept) a → P a) →
    All (λ (k : Kept). IfSome k.ask P) kept
fields-were P kept were =
    All-weaker (λ (k : Kept). IfSome k.ask (Contains (field_asks kept))) (λ (k : Kept). IfSome k.ask P)
    (λ k one. some-weaker k.ask (Contains (field_asks kept)) P were one) kept (fields-themselves kept)

set-asks :
    (P : Ask → Type 0) (xs ys : List Kept) (i : ℕ) (x : Kept) → ys ≡ set xs i x → IfSome x.ask P →
    ((a : Ask) → Contains (field_asks xs) a → P a) → All P (field_asks ys)
set-asks P xs ys i x is one were =
    let R : Kept → Type 0 = λ (k : Kept). IfSome k.ask P in
    fields-all P ys (All-same R ys (set xs i x) is (All-set R xs i x one (fields-were P xs were)))

-- A field that is put back.
pub back-asks :
    (own : Option Ask) (xs ys : List Kept) (i : ℕ) (x : Kept) → ys ≡ set xs i x → x.ask ≡ own →
    All (Contains (asks_of own xs)) (field_asks ys)
back-asks own xs ys i x is same =
    let P : Ask → Type 0 = Contains (asks_of own xs) in
    set-asks P xs ys i x is (subst (λ (o : Option Ask). IfSome o P) (sym same) (with-own own (field_asks xs)))
    (λ a there. with-rest own (field_asks xs) a there)

-- Room for one more field.
pub widened-asks :
    (w h : ℕ) (own : Option Ask) (old new : List Kept) → IsWidened w h old new →
    All (Contains (asks_of own old)) (asks_of own new)
widened-asks w h own old new (inl same) =
    subst (λ (l : List Kept). All (Contains (asks_of own old)) (asks_of own l)) (sym same)
    (All-contains_itself (asks_of own old))
widened-asks w h own old new (inr (more, room, is)) =
    let P : Ask → Type 0 = Contains (asks_of own old) in
    let R : Kept → Type 0 = λ (k : Kept). IfSome k.ask P in
    let all : All R (old ++ more ∷ []) =
    All-push R old more (fields-were P old (λ a there. with-rest own (field_asks old) a there))
    (none-some more.ask P room.none) in
    subst (λ (l : List Kept). All P (asks_of own l)) (sym is)
    (with-all P own (field_asks (old ++ more ∷ [])) (with-own own (field_asks old))
    (fields-all P (old ++ more ∷ []) all))

-- A field that is taken up for a question, and its place is room then.
pub take-asks :
    (own : Option Ask) (ask : Ask) (xs ys : List Kept) (i : ℕ) (x : Kept) → ys ≡ set xs i x → x.ask ≡ None →
    All (IsOrIn ask (asks_of own xs)) (asks_of (Some ask) ys)
take-asks own ask xs ys i x is none =
    let P : Ask → Type 0 = IsOrIn ask (asks_of own xs) in
    All-cons P ask (field_asks ys) (inl refl)
    (set-asks P xs ys i x is (none-some x.ask P none) (λ a there. inr (with-rest own (field_asks xs) a there)))

-- What is found at a place belongs to a question to which these fields belong.
pub found-ask :
    (own : Option Ask) (xs : List Kept) (i : ℕ) (d : Kept) (found : Option Ask) (ask : Ask) → i < length xs →
    found ≡ (get_or xs i d).ask → found ≡ Some ask → Contains (asks_of own xs) ask
found-ask own xs i d found ask within same is =
    with-rest own (field_asks xs) ask
    (asked-for (Contains (field_asks xs)) (get_or xs i d).ask ask (sym same ∙ is) (fields-themselves xs i d within))

pub own-ask : (own : Option Ask) (xs : List Kept) (ask : Ask) → own ≡ Some ask → Contains (asks_of own xs) ask
own-ask own xs ask is = subst (λ (o : Option Ask). Contains (asks_of o xs) ask) (sym is) (first ask (field_asks xs))

-- So does a field that is read where it lies.
pub final-ask :
    (own : Option Ask) (xs : List Kept) (i : ℕ) (ask : Ask) (p : CPos) (o : Option Kept) → slice_get xs i ≡ o →
    IsSomeAnd o (IsFinal ask p) → Contains (asks_of own xs) ask
final-ask own xs i ask p None at final = absurd final
final-ask own xs i ask p (Some k) at final =
    let here : get_or xs i k ≡ k = get_or_from_slice_get xs i k k at in
    let one : IfSome k.ask (Contains (field_asks xs)) =
    subst (λ (x : Kept). IfSome x.ask (Contains (field_asks xs))) here
    (fields-themselves xs i k (slice_get_within xs i k at)) in
    with-rest own (field_asks xs) ask (asked-for (Contains (field_asks xs)) k.ask ask final.asked one)

none-asks : (kept : List Kept) → All (λ (k : Kept). k.ask ≡ None) kept → field_asks kept ≡ []
none-asks [] none = refl
none-asks (k ∷ kept) none =
    let R : Kept → Type 0 = λ (x : Kept). x.ask ≡ None in
    ap (λ (o : Option Ask). with_ask o (field_asks kept)) (All-head R k kept none)
    ∙ none-asks kept (All-tail R k kept none)

-- Room belongs to no question.
pub room_asks : (w h : ℕ) (kept : List Kept) → All (IsRoom w h) kept → asks_of None kept ≡ []
room_asks w h kept room =
    none-asks kept (All-weaker (IsRoom w h) (λ (k : Kept). k.ask ≡ None) (λ k is. is.none) kept room)

-- Neither do fields that are forgotten.
pub forgotten-asks : (old new : List Kept) → AreForgotten old new (length old) → asks_of None new ≡ []
forgotten-asks old new forgotten =
    none-asks new (λ i d within. forgotten.none i d (omega (arith, forgotten.same)))

or-through : (a b : List Ask) (ask x : Ask) → All (Contains a) b → IsOrIn ask b x → IsOrIn ask a x
or-through a b ask x all (inl is) = inl is
or-through a b ask x all (inr there) = inr (All-contains (Contains a) b x all there)

or-twice : (a b : List Ask) (ask x : Ask) → All (IsOrIn ask a) b → IsOrIn ask b x → IsOrIn ask a x
or-twice a b ask x all (inl is) = inl is
or-twice a b ask x all (inr there) = All-contains (IsOrIn ask a) b x all there

or-left : (a b : List Ask) (ask x : Ask) → IsOrIn ask a x → IsOrIn ask (a ++ b) x
or-left a b ask x (inl is) = inl is
or-left a b ask x (inr there) = inr (Contains-append_left a b x there)

-- Questions that were there before, and then this one beside them.
pub through :
    (a b c : List Ask) (ask : Ask) → All (Contains a) b → All (IsOrIn ask b) c → All (IsOrIn ask a) c
through a b c ask before after =
    All-weaker (IsOrIn ask b) (IsOrIn ask a) (λ x is. or-through a b ask x before is) c after

pub twice :
    (a b c : List Ask) (ask : Ask) → All (IsOrIn ask a) b → All (IsOrIn ask b) c → All (IsOrIn ask a) c
twice a b c ask before after =
    All-weaker (IsOrIn ask b) (IsOrIn ask a) (λ x is. or-twice a b ask x before is) c after

pub contained-twice :
    (a b c : List Ask) → All (Contains a) b → All (Contains b) c → All (Contains a) c
contained-twice a b c before after =
    All-weaker (Contains b) (Contains a) (λ x there. All-contains (Contains a) b x before there) c after

pub contained : (a b : List Ask) (ask : Ask) → All (Contains a) b → Contains b ask → Contains a ask
contained a b ask all there = All-contains (Contains a) b ask all there

pub unchanged : (asks : List Ask) (ask : Ask) → All (IsOrIn ask asks) asks
unchanged asks ask =
    All-weaker (Contains asks) (IsOrIn ask asks) (λ x there. inr there) asks (All-contains_itself asks)

pub same_asks : (old new : List Ask) (ask : Ask) → new ≡ old → All (IsOrIn ask old) new
same_asks old new ask is = All-same (IsOrIn ask old) new old is (unchanged old ask)

-- Beside walks that stay.
pub fields-grow :
    (a after b : List Ask) (ask : Ask) → All (IsOrIn ask a) after → All (IsOrIn ask (a ++ b)) (after ++ b)
fields-grow a after b ask all =
    let P : Ask → Type 0 = IsOrIn ask (a ++ b) in
    All-append P after b (All-weaker (IsOrIn ask a) P (λ x is. or-left a b ask x is) after all)
    (All-weaker (Contains b) P (λ x there. inr (Contains-append_right a b x there)) b (All-contains_itself b))

pub in-fields : (a b : List Ask) (ask : Ask) → Contains a ask → Contains (a ++ b) ask
in-fields a b ask there = Contains-append_left a b ask there

walks-themselves : (walks : List KnownWalk) → All (λ (w : KnownWalk). Contains (walk_asks walks) w.ask) walks
walks-themselves [] = All-nil (λ (w : KnownWalk). Contains (walk_asks []) w.ask)
walks-themselves (w ∷ walks) =
    let before : KnownWalk → Type 0 = λ (x : KnownWalk). Contains (walk_asks walks) x.ask in
    let after : KnownWalk → Type 0 = λ (x : KnownWalk). Contains (w.ask ∷ walk_asks walks) x.ask in
    All-cons after w walks (first w.ask (walk_asks walks))
    (All-weaker before after (λ x there. rest w.ask x.ask (walk_asks walks) there) walks (walks-themselves walks))

put-walks :
    (P : Ask → Type 0) (old new : List KnownWalk) (walk : KnownWalk) → IsPut old new walk → P walk.ask →
    All (λ (w : KnownWalk). P w.ask) old → All (λ (w : KnownWalk). P w.ask) new
put-walks P old new walk (inl same) one were = All-same (λ (w : KnownWalk). P w.ask) new old same were
put-walks P old new walk (inr (inl more)) one were =
    let R : KnownWalk → Type 0 = λ (w : KnownWalk). P w.ask in
    All-same R new (old ++ walk ∷ []) more (All-push R old walk were one)
put-walks P old new walk (inr (inr (place, is))) one were =
    let R : KnownWalk → Type 0 = λ (w : KnownWalk). P w.ask in
    All-same R new (set old place walk) is (All-set R old place walk one were)

-- A walk for this question is taken in.
pub put-asks :
    (a : List Ask) (old new : List KnownWalk) (walk : KnownWalk) (ask : Ask) → IsPut old new walk → walk.ask ≡ ask →
    All (IsOrIn ask (a ++ walk_asks old)) (a ++ walk_asks new)
put-asks a old new walk ask put asked =
    let P : Ask → Type 0 = IsOrIn ask (a ++ walk_asks old) in
    let were : All (λ (w : KnownWalk). P w.ask) old =
    All-weaker (λ (w : KnownWalk). Contains (walk_asks old) w.ask) (λ (w : KnownWalk). P w.ask)
    (λ w there. inr (Contains-append_right a (walk_asks old) w.ask there)) old (walks-themselves old) in
    All-append P a (walk_asks new)
    (All-weaker (Contains a) P (λ x there. inr (Contains-append_left a (walk_asks old) x there)) a (All-contains_itself a))
    (All-map P (λ (w : KnownWalk). w.ask) new (put-walks P old new walk put (inl asked) were))

-- What is known is known of a walk for this question.
pub known-ask :
    (a : List Ask) (walks : List KnownWalk) (ask : Ask) (cell : CPos) (found : Option ℕ) →
    IfSome found (IsKnown walks ask cell) → IfSome found (λ d. Contains (a ++ walk_asks walks) ask)
known-ask a walks ask cell None known = tt
known-ask a walks ask cell (Some d) known =
    Contains-append_right a (walk_asks walks) ask
    (subst (Contains (walk_asks walks)) known.asked
    (All-contains (λ (w : KnownWalk). Contains (walk_asks walks) w.ask) walks known.walk (walks-themselves walks)
    known.known))

pub not-false : (b : Bool) → not b ≡ false → b ≡ true
not-false true is = refl
not-false false is = absurd (cc)

pub not-true : (b : Bool) → not b ≡ true → b ≡ false
not-true true is = absurd (cc)
not-true false is = refl

-- A count over fewer questions.
pub count-through :
    (a b : List Ask) (ask : Ask) (old new : ℕ) → All (Contains a) b → CountsOn b ask old new → CountsOn a ask old new
count-through a b ask old new all (inl (there, same)) = inl (All-contains (Contains a) b ask all there, same)
count-through a b ask old new all (inr more) = inr more

none-contained : (ask : Ask) → Contains [] ask → ⊥
none-contained ask there = let lt = there.1 in omega arith

-- A count over none.
pub count-anew :
    (asks : List Ask) (ask : Ask) (old new : ℕ) → asks ≡ [] → CountsOn asks ask old new → new ≡ one_more old
count-anew asks ask old new none (inl (there, same)) =
    absurd (none-contained ask (subst (λ (l : List Ask). Contains l ask) none there))
count-anew asks ask old new none (inr more) = more

-- A field that is begun counts, and else goes on with one that was kept.
pub settled-count :
    (a b : List Ask) (ask : Ask) (begun : Bool) (old new : ℕ) → new ≡ (if begun then one_more old else old) →
    (begun ≡ false → Contains a ask) → CountsOn (a ++ b) ask old new
settled-count a b ask true old new is kept = inr is
settled-count a b ask false old new is kept = inl (Contains-append_left a b ask (kept refl), is)

pub not-begun :
    (begun : Bool) (old new : ℕ) → new ≡ (if begun then one_more old else old) → begun ≡ false → new ≡ old
not-begun true old new is not = absurd (cc)
not-begun false old new is not = is

-- A count after a look.
pub count-looked :
    (a b : List Ask) (ask : Ask) (old mid new : ℕ) → mid ≡ old → All (Contains a) b → CountsOn b ask mid new →
    CountsOn a ask old new
count-looked a b ask old mid new is all counts =
    subst (λ (n : ℕ). CountsOn a ask n new) is (count-through a b ask mid new all counts)

pub count-anew-looked :
    (asks : List Ask) (ask : Ask) (old mid new : ℕ) → mid ≡ old → asks ≡ [] → CountsOn asks ask mid new →
    new ≡ one_more old
count-anew-looked asks ask old mid new is none counts =
    count-anew asks ask mid new none counts ∙ ap one_more is

-- Whether a field was begun, after a look.
pub begun_looked :
    (ask : Ask) (old mid new : ℕ) (last : Option Ask) → mid ≡ old → (new ≡ mid) ⊎ (last ≡ Some ask) →
    (new ≡ old) ⊎ (last ≡ Some ask)
begun_looked ask old mid new last is (inl same) = inl (same ∙ is)
begun_looked ask old mid new last is (inr asked) = inr asked

-- A field that is read where it lies.
pub final_counts :
    (own : Option Ask) (xs : List Kept) (b : List Ask) (i : ℕ) (ask : Ask) (p : CPos) (n : ℕ) →
    IsSomeAnd (slice_get xs i) (IsFinal ask p) → CountsOn (asks_of own xs ++ b) ask n n
final_counts own xs b i ask p n final =
    inl (Contains-append_left (asks_of own xs) b ask (final-ask own xs i ask p (slice_get xs i) refl final), refl)

pub same_fields :
    (own after : Option Ask) (xs ys : List Kept) (b : List Ask) (ask : Ask) → after ≡ own → ys ≡ xs →
    All (IsOrIn ask (asks_of own xs ++ b)) (asks_of after ys ++ b)
same_fields own after xs ys b ask is same =
    same_asks (asks_of own xs ++ b) (asks_of after ys ++ b) ask
    (ap (λ (o : Option Ask). asks_of o ys ++ b) is ∙ ap (λ (l : List Kept). asks_of own l ++ b) same)

-- What is known of walks.
pub known_counts :
    (asks : List Ask) (ask : Ask) (old new : ℕ) → Contains asks ask → new ≡ old → CountsOn asks ask old new
known_counts asks ask old new there is = inl (there, is)

-- After what leaves questions and count.
pub counts_after :
    (a b : List Ask) (ask : Ask) (old mid new : ℕ) → b ≡ a → mid ≡ old → CountsOn b ask mid new →
    CountsOn a ask old new
counts_after a b ask old mid new same is counts =
    subst (λ (n : ℕ). CountsOn a ask n new) is (subst (λ (l : List Ask). CountsOn l ask mid new) same counts)

pub asks_after :
    (a b c : List Ask) (ask : Ask) → b ≡ a → All (IsOrIn ask b) c → All (IsOrIn ask a) c
asks_after a b c ask same all = subst (λ (l : List Ask). All (IsOrIn ask l) c) same all

pub asks_twice :
    (a b c d : List Ask) (ask : Ask) → b ≡ a → All (IsOrIn ask b) c → All (IsOrIn ask c) d → All (IsOrIn ask a) d
asks_twice a b c d ask same first_all then_all = asks_after a b d ask same (twice b c d ask first_all then_all)
