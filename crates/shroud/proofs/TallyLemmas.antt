-- Tallies after an actor was put in, taken out or kept.
use Rattle.std.proofs.Common.{◌≡◌, ◌⊎◌, ℕ, ◌+◌, ◌*◌, ◌<◌, ◌≤◌, Bool, true, false, ◌||◌, ◌&&◌, cond, eqb, List, [], ◌∷◌, ◌++◌, length, take, drop, get_or, replicate, Option, Some, None, refl, sym, ap, ap₂, subst, ◌∙◌, inl, inr, arith}
use Rattle.std.specs.Prelude.{slice_get, nat_lt, if◌then◌else◌}
use Rattle.std.specs.List.{count_by, list_any}
use Rattle.std.specs.Option.{unwrap_or}
use Rattle.std.proofs.lemmas.Option.{slice_get_within, unwrap_or-slice_get}
use Rattle.std.proofs.lemmas.Bool.{and_right, eqb-true, lt-ltb, ltb-true, or_cases, true≢false}
use Rattle.std.proofs.lemmas.List.{get_or-replicate, length-replicate, length_push, map_more}
use Rattle.std.proofs.lemmas.List.Folds.{list_any-append}
use Rattle.std.proofs.lemmas.List.Sums.{count_by-le-length, sum_by-cons, sum_by_push}
use Rattle.world_units.specs.declared.cell.CPos.{CPos}
use Rattle.rule_traits.specs.declared.kind.Kind.{Kind}
use Rattle.rule_traits.specs.declared.trait_fields.Reveals.{Reveals}
use Rattle.rule_traits.specs.Rules.{kind_at}
use Rattle.game_model.specs.declared.actor.Actor.{Actor}
use Rattle.game_model.specs.declared.limits.TheConstants.{MAX_ACTORS}
use Rattle.shroud.specs.declared.disc.Disc.{Disc}
use Rattle.shroud.specs.declared.spot.Spot.{Spot}
use Rattle.shroud.specs.declared.viewer.Viewer.{Viewer}
use Rattle.shroud.specs.Sights.{reaches, reveals_in}
use Rattle.shroud.specs.Spots.{AreChanged, SpotState, cell_in, changed, client_at, dark, in_case, in_disc, spot_at}
use Rattle.shroud.specs.Tally.{IsFollowed, IsTally, TallyState, any_views, no_place, views_at}
use Rattle.shroud.specs.Viewers.{Lists, disc_in, disc_seen, viewer_of, viewers_of}
use Rattle.shroud.proofs.ChangeLemmas.{changed_as, none_changed}
use Rattle.shroud.proofs.DiscLemmas.{reaches_as}
use Rattle.shroud.proofs.PlaceLemmas.{client_within}

-- ---- what an actor sees, by its disc

-- With the parts of the test as values.
seen_as :
    (known alive own : Bool) (r : Option Reveals) (cell p : CPos) (o : Option Disc) →
    (if known && alive then disc_in cell r else None) ≡ o → (own ≡ true → known ≡ true) →
    ((alive && own) && reaches r cell p) ≡ in_case own o p
seen_as known false own r cell p o is knows =
    subst (λ (x : Option Disc). false ≡ in_case own x p)
    (ap (λ (b : Bool). if b then disc_in cell r else None) (sym (and_right known false refl)) ∙ is) refl
seen_as false true true r cell p o is knows = absurd (true≢false (sym (knows refl)))
seen_as false true false r cell p None is knows = refl
seen_as false true false r cell p (Some disc) is knows = refl
seen_as true true own None cell p o is knows =
    subst (λ (x : Option Disc). (own && false) ≡ in_case own x p) is (and_right own false refl)
seen_as true true own (Some r) cell p o is knows =
    subst (λ (x : Option Disc). (own && reaches (Some r) cell p) ≡ in_case own x p) is
    (ap (λ (b : Bool). own && b) (reaches_as r cell p))

-- Of a place of one of the clients.
views_as :
    (rules : List Kind) (width height clients place : ℕ) (v : Viewer) (o : Option Disc) →
    client_at width height place < clients → disc_seen rules clients v ≡ o →
    views_at rules width height place v
    ≡ in_case (eqb v.owner (client_at width height place)) o (cell_in width height place)
views_as rules width height clients place v o within is =
    seen_as (nat_lt v.owner clients) v.alive (eqb v.owner (client_at width height place))
    (reveals_in (kind_at rules v.kind)) v.cell (cell_in width height place) o is
    (λ own. lt-ltb v.owner clients (omega (arith, within, eqb-true v.owner (client_at width height place) own)))

-- Nothing is changed for an actor that sees nothing.
pub sees_none :
    (by : ℕ) (rules : List Kind) (s : SpotState) (v : Viewer) →
    length s.cells ≡ (s.clients * s.height) * s.width → disc_seen rules s.clients v ≡ None →
    AreChanged by (λ place. views_at rules s.width s.height place v) s.cells s.cells
sees_none by rules s v whole none =
    none_changed by (λ place. views_at rules s.width s.height place v) s.cells
    (λ place within.
    views_as rules s.width s.height s.clients place v None
    (client_within s.width s.height s.clients place (length s.cells) whole within) none)

-- The cells of its disc are changed for one that sees some.
pub sees_disc :
    (by : ℕ) (rules : List Kind) (s : SpotState) (new : List Spot) (v : Viewer) (disc : Disc) →
    length s.cells ≡ (s.clients * s.height) * s.width → disc_seen rules s.clients v ≡ Some disc →
    AreChanged by (in_disc s.width s.height v.owner disc) s.cells new →
    AreChanged by (λ place. views_at rules s.width s.height place v) s.cells new
sees_disc by rules s new v disc whole some changes =
    changed_as by (in_disc s.width s.height v.owner disc)
    (λ place. views_at rules s.width s.height place v) s.cells new changes
    (λ place within.
    sym (views_as rules s.width s.height s.clients place v (Some disc)
    (client_within s.width s.height s.clients place (length s.cells) whole within) some))

-- Who sees something is owned by a client.
pub owner_known :
    (rules : List Kind) (clients : ℕ) (v : Viewer) (disc : Disc) →
    disc_seen rules clients v ≡ Some disc → v.owner < clients
owner_known rules clients v disc some = by_test (nat_lt v.owner clients) refl some
  where
    by_test :
        (t : Bool) → nat_lt v.owner clients ≡ t →
        (if t && v.alive then disc_in v.cell (reveals_in (kind_at rules v.kind)) else None) ≡ Some disc →
        v.owner < clients
    by_test true is has = ltb-true v.owner clients is
    by_test false is has = absurd cc

-- ---- counts and flags of one spot

or_false : (b : Bool) → b || false ≡ b
or_false true = refl
or_false false = refl

or_true : (b : Bool) → b || true ≡ true
or_true true = refl
or_true false = refl

-- A spot that was explored stays so.
stays : (b : Bool) (by : ℕ) (s : Spot) → s.explored ≡ true → (changed b by s).explored ≡ true
stays true by s is = refl
stays false by s is = is

-- One viewer less.
less : (b : Bool) (s : Spot) (fresh rest : ℕ) → s.count ≡ fresh + (cond b 1 0 + rest) →
    fresh + rest < 65535 → (changed b 65535 s).count ≡ fresh + rest
less true s fresh rest is few = omega arith
less false s fresh rest is few = omega arith

-- One more.
more : (b : Bool) (s : Spot) (fresh left : ℕ) → s.count ≡ fresh + left →
    fresh + left < 65535 → (changed b 1 s).count ≡ (fresh + cond b 1 0) + left
more true s fresh left is few = omega arith
more false s fresh left is few = omega arith

-- What is seen by one that was counted was explored, and stays so.
same_flag :
    (b : Bool) (by : ℕ) (s : Spot) → (b ≡ true → s.explored ≡ true) →
    (changed b by s).explored ≡ s.explored || false
same_flag true by s known = sym (known refl) ∙ sym (or_false s.explored)
same_flag false by s known = sym (or_false s.explored)

-- What is seen by one that is counted now is explored.
new_flag :
    (b : Bool) (by : ℕ) (s : Spot) → (changed b by s).explored ≡ s.explored || (b || false)
new_flag true by s = sym (or_true s.explored)
new_flag false by s = sym (or_false s.explored)

-- What is seen by one that stays counted was explored.
kept_flag :
    (b : Bool) (s : Spot) → (b ≡ true → s.explored ≡ true) →
    s.explored ≡ s.explored || (b || false)
kept_flag true s known = known refl ∙ sym (or_true s.explored)
kept_flag false s known = sym (or_false s.explored)

-- ---- counts of lists

count_cons :
    {X : Type 0} (p : X → Bool) (x : X) (xs : List X) →
    count_by p (x ∷ xs) ≡ cond (p x) 1 0 + count_by p xs
count_cons {X} p x xs = sum_by-cons (λ (y : X). cond (p y) 1 0) x xs

count_push :
    {X : Type 0} (p : X → Bool) (xs : List X) (x : X) →
    count_by p (xs ++ x ∷ []) ≡ count_by p xs + cond (p x) 1 0
count_push {X} p xs x = sum_by_push (λ (y : X). cond (p y) 1 0) xs x

any_first : {X : Type 0} (p : X → Bool) (x : X) (xs : List X) → p x ≡ true → list_any p (x ∷ xs) ≡ true
any_first p x xs is = ap (λ (b : Bool). b || list_any p xs) is

any_later :
    {X : Type 0} (p : X → Bool) (x : X) (xs : List X) → list_any p xs ≡ true →
    list_any p (x ∷ xs) ≡ true
any_later p x xs is = ap (λ (b : Bool). p x || b) is ∙ or_true (p x)

-- One of these sees it, or the one that comes last.
last_or :
    {X : Type 0} (p : X → Bool) (xs : List X) (x : X) →
    list_any p (xs ++ x ∷ []) ≡ true → (list_any p xs ≡ true) ⊎ (p x ≡ true)
last_or p xs x is = elim (or_cases (list_any p xs) (p x || false) (sym (list_any-append p xs (x ∷ [])) ∙ is)) [
  | inl before ↦ inl before
  | inr last ↦ inr (sym (or_false (p x)) ∙ last)
]

-- ---- a tally after one actor

abbrev pub state : List Kind → SpotState → Lists → TallyState
state rules s ls = record { rules = rules; spots = s; lists = ls }

abbrev with_cells : SpotState → List Spot → SpotState
with_cells s cells = record s { cells = cells }

abbrev lists : (left fresh : List Viewer) → Lists
lists left fresh = record { left = left; fresh = fresh }

-- Counts fit.
few_counted :
    (p : Viewer → Bool) (xs ys : List Viewer) → length xs ≤ MAX_ACTORS → length ys ≤ MAX_ACTORS →
    count_by p xs + count_by p ys < 65535
few_counted p xs ys few also =
    let a = count_by-le-length p xs in
    let b = count_by-le-length p ys in
    omega (arith, a, b, few, also)

first_then :
    (left : List Viewer) (first : Viewer) → slice_get left 0 ≡ Some first → left ≡ first ∷ drop 1 left
first_then [] first is = absurd cc
first_then (v ∷ rest) first is =
    let same : v ≡ first = cc in
    ap (λ (x : Viewer). x ∷ rest) same

-- The first one is taken out.
out_tally :
    (rules : List Kind) (s : SpotState) (new : List Spot) (first : Viewer)
    (rest fresh : List Viewer) → IsTally (state rules s (lists (first ∷ rest) fresh)) →
    AreChanged 65535 (λ place. views_at rules s.width s.height place first) s.cells new →
    IsTally (state rules (with_cells s new) (lists rest fresh))
out_tally rules s new first rest fresh t changes =
    let p : ℕ → Viewer → Bool = λ place v. views_at rules s.width s.height place v in
    record {
      whole = changes.size ∙ t.whole;
      few_left = omega (arith, t.few_left);
      few_fresh = t.few_fresh;
      counts =
          λ place within.
          let inside : place < length s.cells = omega (arith, within, changes.size) in
          let few : length rest ≤ MAX_ACTORS = omega (arith, t.few_left) in
          ap {B = ℕ} (λ (x : Spot). x.count) (changes.each place inside)
          ∙ less (p place first) (spot_at s.cells place) (count_by (p place) fresh)
          (count_by (p place) rest)
          (t.counts place inside
          ∙ ap (λ (n : ℕ). count_by (p place) fresh + n) (count_cons (p place) first rest))
          (few_counted (p place) fresh rest t.few_fresh few);
      known_left =
          λ place within any.
          let inside : place < length s.cells = omega (arith, within, changes.size) in
          ap {B = Bool} (λ (x : Spot). x.explored) (changes.each place inside)
          ∙ stays (p place first) 65535 (spot_at s.cells place)
          (t.known_left place inside (any_later (p place) first rest any));
      known_fresh =
          λ place within any.
          let inside : place < length s.cells = omega (arith, within, changes.size) in
          ap {B = Bool} (λ (x : Spot). x.explored) (changes.each place inside)
          ∙ stays (p place first) 65535 (spot_at s.cells place) (t.known_fresh place inside any);
    }

out_follows :
    (rules : List Kind) (s : SpotState) (new : List Spot) (first : Viewer)
    (rest fresh : List Viewer) (old_lists new_lists : Lists) →
    IsTally (state rules s (lists (first ∷ rest) fresh)) →
    AreChanged 65535 (λ place. views_at rules s.width s.height place first) s.cells new →
    IsFollowed no_place (state rules s old_lists) (state rules (with_cells s new) new_lists)
out_follows rules s new first rest fresh old_lists new_lists t changes =
    let p : ℕ → Viewer → Bool = λ place v. views_at rules s.width s.height place v in
    record {
      rules = refl;
      width = refl;
      height = refl;
      clients = refl;
      size = changes.size;
      explored =
          λ place within.
          ap {B = Bool} (λ (x : Spot). x.explored) (changes.each place within)
          ∙ same_flag (p place first) 65535 (spot_at s.cells place)
          (λ sees. t.known_left place within (any_first (p place) first rest sees));
    }

-- What a step leaves of a tally: one again, that has followed these places.
abbrev pub Leaves :
    (seen : ℕ → Bool) → List Kind → (s new : SpotState) → (ls ls_new : Lists) → Type 0
Leaves seen rules s new ls ls_new =
    IsTally (state rules new ls_new)
    × IsFollowed seen (state rules s ls) (state rules new ls_new)

-- Said of the new spots and lists by their equations.
leaves_as :
    (seen : ℕ → Bool) (rules : List Kind) (s new : SpotState) (ls ls_new ls_is : Lists) →
    new ≡ record s { cells = new.cells } → ls_new ≡ ls_is →
    Leaves seen rules s (with_cells s new.cells) ls ls_is → Leaves seen rules s new ls ls_new
leaves_as seen rules s new ls ls_new ls_is same lists_are leaves =
    subst (λ (n : SpotState). Leaves seen rules s n ls ls_new) (sym same)
    (subst (λ (l : Lists). Leaves seen rules s (with_cells s new.cells) ls l) (sym lists_are)
    leaves)

pub taken_out :
    (rules : List Kind) (s new : SpotState) (ls ls_new : Lists) (first : Viewer) →
    IsTally (state rules s ls) → slice_get ls.left 0 ≡ Some first →
    AreChanged 65535 (λ place. views_at rules s.width s.height place first) s.cells new.cells →
    new ≡ record s { cells = new.cells } → ls_new ≡ record ls { left = drop 1 ls.left } →
    Leaves no_place rules s new ls ls_new
taken_out rules s new ls ls_new first t is changes same lists_are =
    let split : IsTally (state rules s (lists (first ∷ drop 1 ls.left) ls.fresh)) =
    subst (λ (xs : List Viewer). IsTally (state rules s (lists xs ls.fresh)))
    (first_then ls.left first is) t in
    leaves_as no_place rules s new ls ls_new (lists (drop 1 ls.left) ls.fresh) same lists_are (
      out_tally rules s new.cells first (drop 1 ls.left) ls.fresh split changes,
      out_follows rules s new.cells first (drop 1 ls.left) ls.fresh ls
          (lists (drop 1 ls.left) ls.fresh) split changes,
    )

-- An actor is put in.
seen_now : (b : Bool) (by : ℕ) (s : Spot) → b ≡ true → (changed b by s).explored ≡ true
seen_now true by s is = refl
seen_now false by s is = absurd (true≢false (sym is))

in_tally :
    (rules : List Kind) (s : SpotState) (new : List Spot) (v : Viewer) (left fresh : List Viewer) →
    IsTally (state rules s (lists left fresh)) → length fresh < MAX_ACTORS →
    AreChanged 1 (λ place. views_at rules s.width s.height place v) s.cells new →
    IsTally (state rules (with_cells s new) (lists left (fresh ++ v ∷ [])))
in_tally rules s new v left fresh t room changes =
    let p : ℕ → Viewer → Bool = λ place x. views_at rules s.width s.height place x in
    record {
      whole = changes.size ∙ t.whole;
      few_left = t.few_left;
      few_fresh = omega (arith, length_push fresh v, room);
      counts =
          λ place within.
          let inside : place < length s.cells = omega (arith, within, changes.size) in
          ap {B = ℕ} (λ (x : Spot). x.count) (changes.each place inside)
          ∙ more (p place v) (spot_at s.cells place) (count_by (p place) fresh)
          (count_by (p place) left) (t.counts place inside)
          (few_counted (p place) fresh left t.few_fresh t.few_left)
          ∙ ap (λ (n : ℕ). n + count_by (p place) left) (sym (count_push (p place) fresh v));
      known_left =
          λ place within any.
          let inside : place < length s.cells = omega (arith, within, changes.size) in
          ap {B = Bool} (λ (x : Spot). x.explored) (changes.each place inside)
          ∙ stays (p place v) 1 (spot_at s.cells place) (t.known_left place inside any);
      known_fresh =
          λ place within any.
          let inside : place < length s.cells = omega (arith, within, changes.size) in
          ap {B = Bool} (λ (x : Spot). x.explored) (changes.each place inside)
          ∙ put_known (p place) fresh v (spot_at s.cells place) any (t.known_fresh place inside);
    }
  where
    put_known :
        (q : Viewer → Bool) (xs : List Viewer) (x : Viewer) (spot : Spot) →
        list_any q (xs ++ x ∷ []) ≡ true → (list_any q xs ≡ true → spot.explored ≡ true) →
        (changed (q x) 1 spot).explored ≡ true
    put_known q xs x spot any known = elim (last_or q xs x any) [
      | inl before ↦ stays (q x) 1 spot (known before)
      | inr now ↦ seen_now (q x) 1 spot now
    ]

in_follows :
    (rules : List Kind) (s : SpotState) (new : List Spot) (v : Viewer) (old_lists new_lists : Lists) →
    AreChanged 1 (λ place. views_at rules s.width s.height place v) s.cells new →
    IsFollowed (λ place. any_views (state rules s old_lists) place (v ∷ []))
    (state rules s old_lists) (state rules (with_cells s new) new_lists)
in_follows rules s new v old_lists new_lists changes =
    record {
      rules = refl;
      width = refl;
      height = refl;
      clients = refl;
      size = changes.size;
      explored =
          λ place within.
          ap {B = Bool} (λ (x : Spot). x.explored) (changes.each place within)
          ∙ new_flag (views_at rules s.width s.height place v) 1 (spot_at s.cells place);
    }

pub was_put_in :
    (rules : List Kind) (s new : SpotState) (ls ls_new : Lists) (v : Viewer) →
    IsTally (state rules s ls) → length ls.fresh < MAX_ACTORS →
    AreChanged 1 (λ place. views_at rules s.width s.height place v) s.cells new.cells →
    new ≡ record s { cells = new.cells } → ls_new ≡ record ls { fresh = ls.fresh ++ v ∷ [] } →
    Leaves (λ place. any_views (state rules s ls) place (v ∷ [])) rules s new ls ls_new
was_put_in rules s new ls ls_new v t room changes same lists_are =
    leaves_as (λ place. any_views (state rules s ls) place (v ∷ [])) rules s new ls ls_new
    (lists ls.left (ls.fresh ++ v ∷ [])) same lists_are (
      in_tally rules s new.cells v ls.left ls.fresh t room changes,
      in_follows rules s new.cells v ls (lists ls.left (ls.fresh ++ v ∷ [])) changes,
    )

-- The first one is kept.
moved : (n fresh left d rest fresh_new : ℕ) → n ≡ fresh + left → left ≡ d + rest →
    fresh_new ≡ fresh + d → n ≡ fresh_new + rest
moved n fresh left d rest fresh_new a b c = omega arith

keep_known :
    (q : Viewer → Bool) (xs rest : List Viewer) (x : Viewer) (spot : Spot) →
    list_any q (xs ++ x ∷ []) ≡ true → (list_any q xs ≡ true → spot.explored ≡ true) →
    (list_any q (x ∷ rest) ≡ true → spot.explored ≡ true) → spot.explored ≡ true
keep_known q xs rest x spot any known left = elim (last_or q xs x any) [
  | inl before ↦ known before
  | inr now ↦ left (any_first q x rest now)
]

keep_tally :
    (rules : List Kind) (s : SpotState) (first : Viewer) (rest fresh : List Viewer) →
    IsTally (state rules s (lists (first ∷ rest) fresh)) → length fresh < MAX_ACTORS →
    IsTally (state rules s (lists rest (fresh ++ first ∷ [])))
keep_tally rules s first rest fresh t room =
    let p : ℕ → Viewer → Bool = λ place v. views_at rules s.width s.height place v in
    record {
      whole = t.whole;
      few_left = omega (arith, t.few_left);
      few_fresh = omega (arith, length_push fresh first, room);
      counts =
          λ place within.
          moved (spot_at s.cells place).count (count_by (p place) fresh)
          (count_by (p place) (first ∷ rest)) (cond (p place first) 1 0)
          (count_by (p place) rest) (count_by (p place) (fresh ++ first ∷ []))
          (t.counts place within) (count_cons (p place) first rest)
          (count_push (p place) fresh first);
      known_left =
          λ place within any. t.known_left place within (any_later (p place) first rest any);
      known_fresh =
          λ place within any.
          keep_known (p place) fresh rest first (spot_at s.cells place) any
          (t.known_fresh place within) (t.known_left place within);
    }

keep_follows :
    (rules : List Kind) (s : SpotState) (first : Viewer) (rest fresh : List Viewer)
    (old_lists new_lists : Lists) → IsTally (state rules s (lists (first ∷ rest) fresh)) →
    IsFollowed (λ place. any_views (state rules s old_lists) place (first ∷ []))
    (state rules s old_lists) (state rules s new_lists)
keep_follows rules s first rest fresh old_lists new_lists t =
    let p : ℕ → Viewer → Bool = λ place v. views_at rules s.width s.height place v in
    record {
      rules = refl;
      width = refl;
      height = refl;
      clients = refl;
      size = refl;
      explored =
          λ place within.
          kept_flag (p place first) (spot_at s.cells place)
          (λ sees. t.known_left place within (any_first (p place) first rest sees));
    }

pub was_kept :
    (rules : List Kind) (s : SpotState) (ls ls_new : Lists) (first : Viewer) →
    IsTally (state rules s ls) → slice_get ls.left 0 ≡ Some first →
    length ls.fresh < MAX_ACTORS →
    ls_new ≡ record { left = drop 1 ls.left; fresh = ls.fresh ++ first ∷ [] } →
    Leaves (λ place. any_views (state rules s ls) place (first ∷ [])) rules s s ls ls_new
was_kept rules s ls ls_new first t is room lists_are =
    let split : IsTally (state rules s (lists (first ∷ drop 1 ls.left) ls.fresh)) =
    subst (λ (xs : List Viewer). IsTally (state rules s (lists xs ls.fresh)))
    (first_then ls.left first is) t in
    subst (λ (l : Lists). Leaves (λ place. any_views (state rules s ls) place (first ∷ [])) rules s s ls l)
    (sym lists_are) (
      keep_tally rules s first (drop 1 ls.left) ls.fresh split room,
      keep_follows rules s first (drop 1 ls.left) ls.fresh ls
          (lists (drop 1 ls.left) (ls.fresh ++ first ∷ [])) split,
    )

-- None was left, and the actors of this update are now those of the last.
turned_tally :
    (rules : List Kind) (s : SpotState) (fresh : List Viewer) →
    IsTally (state rules s (lists [] fresh)) → IsTally (state rules s (lists fresh []))
turned_tally rules s fresh t =
    let p : ℕ → Viewer → Bool = λ place v. views_at rules s.width s.height place v in
    record {
      whole = t.whole;
      few_left = t.few_fresh;
      few_fresh = t.few_left;
      counts = λ place within. t.counts place within ∙ other_way (count_by (p place) fresh);
      known_left = λ place within any. t.known_fresh place within any;
      known_fresh = λ place within any. absurd (true≢false (sym any));
    }
  where
    other_way : (n : ℕ) → n + 0 ≡ 0 + n
    other_way n = omega arith

pub was_turned :
    (rules : List Kind) (s : SpotState) (ls ls_new : Lists) → IsTally (state rules s ls) →
    ls.left ≡ [] → ls_new ≡ record { left = ls.fresh; fresh = [] } →
    Leaves no_place rules s s ls ls_new
was_turned rules s ls ls_new t none lists_are =
    subst (λ (l : Lists). Leaves no_place rules s s ls l) (sym lists_are) (
      turned_tally rules s ls.fresh
          (subst (λ (xs : List Viewer). IsTally (state rules s (lists xs ls.fresh))) none t),
      record {
        rules = refl;
        width = refl;
        height = refl;
        clients = refl;
        size = refl;
        explored = λ place within. sym (or_false (spot_at s.cells place).explored);
      },
    )

-- The tally of no actors.
pub made_tally :
    (rules : List Kind) (width height clients : ℕ) →
    IsTally (state rules (record {
      width = width;
      height = height;
      clients = clients;
      cells = replicate ((clients * height) * width) dark;
    }) (lists [] []))
made_tally rules width height clients =
    let n : ℕ = (clients * height) * width in
    record {
      whole = length-replicate n dark;
      few_left = omega arith;
      few_fresh = omega arith;
      counts =
          λ place within.
          let inside : place < n = omega (arith, within, length-replicate n dark) in
          ap {B = ℕ} (λ (x : Spot). x.count) (get_or-replicate n place dark dark inside);
      known_left = λ place within any. absurd (true≢false (sym any));
      known_fresh = λ place within any. absurd (true≢false (sym any));
    }

-- ---- one step after another

or_assoc : (a b c : Bool) → (a || b) || c ≡ a || (b || c)
or_assoc true b c = refl
or_assoc false b c = refl

followed_both :
    (f g h : ℕ → Bool) (a b c : TallyState) → IsFollowed f a b → IsFollowed g b c →
    ((place : ℕ) → h place ≡ f place || g place) → IsFollowed h a c
followed_both f g h a b c first second joined =
    record {
      rules = second.rules ∙ first.rules;
      width = second.width ∙ first.width;
      height = second.height ∙ first.height;
      clients = second.clients ∙ first.clients;
      size = second.size ∙ first.size;
      explored =
          λ place within.
          let inside : place < length b.spots.cells = omega (arith, within, first.size) in
          second.explored place inside
          ∙ ap (λ (e : Bool). e || g place) (first.explored place within)
          ∙ or_assoc (spot_at a.spots.cells place).explored (f place) (g place)
          ∙ ap (λ (e : Bool). (spot_at a.spots.cells place).explored || e) (sym (joined place));
    }

pub followed_self : (t : TallyState) → IsFollowed no_place t t
followed_self t =
    record {
      rules = refl;
      width = refl;
      height = refl;
      clients = refl;
      size = refl;
      explored = λ place within. sym (or_false (spot_at t.spots.cells place).explored);
    }

-- Steps that explore nothing may follow, or come before.
pub then_none :
    (f : ℕ → Bool) (a b c : TallyState) → IsFollowed f a b → IsFollowed no_place b c →
    IsFollowed f a c
then_none f a b c first second =
    followed_both f no_place f a b c first second (λ place. sym (or_false (f place)))

any_as :
    (f : ℕ → Bool) (a b : TallyState) (place : ℕ) (vs : List Viewer) → IsFollowed f a b →
    any_views b place vs ≡ any_views a place vs
any_as f a b place vs is =
    ap (λ (r : List Kind). list_any (views_at r b.spots.width b.spots.height place) vs) is.rules
    ∙ ap₂ (λ (w h : ℕ). list_any (views_at a.rules w h place) vs) is.width is.height

pub none_then :
    (a b c : TallyState) (vs : List Viewer) → IsFollowed no_place a b →
    IsFollowed (λ place. any_views b place vs) b c →
    IsFollowed (λ place. any_views a place vs) a c
none_then a b c vs first second =
    followed_both no_place (λ place. any_views b place vs) (λ place. any_views a place vs) a b c
    first second (λ place. sym (any_as no_place a b place vs first))

-- One actor more.
pub then_one :
    (a b c : TallyState) (xs : List Viewer) (v : Viewer) →
    IsFollowed (λ place. any_views a place xs) a b →
    IsFollowed (λ place. any_views b place (v ∷ [])) b c →
    IsFollowed (λ place. any_views a place (xs ++ v ∷ [])) a c
then_one a b c xs v first second =
    followed_both (λ place. any_views a place xs) (λ place. any_views b place (v ∷ []))
    (λ place. any_views a place (xs ++ v ∷ [])) a b c first second
    (λ place.
    list_any-append (views_at a.rules a.spots.width a.spots.height place) xs (v ∷ [])
    ∙ ap (λ (e : Bool). any_views a place xs || e)
    (sym (any_as (λ place. any_views a place xs) a b place (v ∷ []) first)))

-- The actors up to one, as they are kept.
pub viewers_more :
    (actors : List Actor) (i : ℕ) (a : Actor) → slice_get actors i ≡ Some a →
    viewers_of (take (i + 1) actors) ≡ viewers_of (take i actors) ++ viewer_of a ∷ []
viewers_more actors i a found =
    let within : i < length actors = slice_get_within actors i a found in
    let is : get_or actors i a ≡ a =
    sym (unwrap_or-slice_get actors i a) ∙ ap (λ (o : Option Actor). unwrap_or o a) found in
    map_more viewer_of actors i a within
    ∙ ap (λ (x : Actor). viewers_of (take i actors) ++ viewer_of x ∷ []) is

-- Where there is no first one there is none.
pub none_left : (left : List Viewer) → slice_get left 0 ≡ None → left ≡ []
none_left [] none = refl
none_left (v ∷ left) none = absurd cc
