-- What the drafts for the actors are, once all actors were shown to them.
use Rattle.std.proofs.Common.{◌≡◌, ℕ, eqb, Bool, true, false, cond, ◌&&◌, List, [], ◌∷◌, map, length, Option, Some, None, is_some, refl, sym, subst, ap, ◌∙◌}
use Rattle.std.specs.Prelude.{filter, find, fold, option_map}
use Rattle.std.specs.List.{list_any, reduce}
use Rattle.std.proofs.lemmas.Bool.{true≢false}
use Rattle.std.proofs.lemmas.List.{map-id}
use Rattle.world_units.specs.declared.cell.CPos.{CPos}
use Rattle.rule_traits.specs.declared.kind.Kind.{Kind}
use Rattle.game_orders.specs.declared.order.Order.{Order}
use Rattle.game_orders.specs.declared.order.Order.TheVariants as order
use Rattle.game_model.specs.declared.actor.Actor.{Actor}
use Rattle.game_model.specs.Kinds.{kind_of}
use Rattle.game_model.specs.NearestActor.{is_nearer}
use Rattle.bot_player.specs.declared.draft.Draft.{Draft}
use Rattle.bot_player.specs.declared.draft.Draft.TheVariants.{Whole, Attack}
use Rattle.bot_player.specs.declared.draft.Aim.{Aim}
use Rattle.bot_player.specs.declared.survey.Enemy.{Enemy}
use Rattle.bot_player.specs.BotOrders.{attack_order, is_enemy, nearer_of, nearest_enemy}
use Rattle.bot_player.specs.Drafts.{aim_at, attack_draft, is_attack, nearer_aim, ordered, seeing, shown}
use Rattle.bot_player.specs.Survey.{enemy_of, first_enemy}

-- A draft after one actor more.
abbrev one_more : List Kind → (c : ℕ) → Draft → Actor → Draft
one_more rules c d x = cond (is_enemy rules c x) (seeing (enemy_of x) d) d

-- The order of a draft, once all actors were shown to it.
abbrev pub finished : List Kind → List Actor → (c : ℕ) → Draft → Order
finished rules actors c d = ordered (fold (one_more rules c) d actors)

-- Drafts are shown actors each for itself.
shown_each :
    (rules : List Kind) (c : ℕ) (actors : List Actor) (drafts : List Draft) →
    fold (shown rules c) drafts actors ≡ map (λ (d : Draft). fold (one_more rules c) d actors) drafts
shown_each rules c [] drafts = sym (map-id drafts)
shown_each rules c (x ∷ actors) drafts =
    shown_each rules c actors (shown rules c drafts x)
    ∙ at (is_enemy rules c x) drafts
  where
    rest : Draft → Draft
    rest d = fold (one_more rules c) d actors

    all : (ds : List Draft) → map rest (map (seeing (enemy_of x)) ds) ≡ map (λ (d : Draft). rest (seeing (enemy_of x) d)) ds
    all [] = refl
    all (d ∷ ds) = ap (λ (es : List Draft). rest (seeing (enemy_of x) d) ∷ es) (all ds)

    at :
        (test : Bool) (ds : List Draft) →
        map rest (cond test (map (seeing (enemy_of x)) ds) ds)
        ≡ map (λ (d : Draft). rest (cond test (seeing (enemy_of x) d) d)) ds
    at true ds = all ds
    at false ds = refl

pub finished_all :
    (rules : List Kind) (c : ℕ) (actors : List Actor) (drafts : List Draft) →
    map ordered (fold (shown rules c) drafts actors) ≡ map (finished rules actors c) drafts
finished_all rules c actors drafts =
    ap (map ordered) (shown_each rules c actors drafts) ∙ all drafts
  where
    rest : Draft → Draft
    rest d = fold (one_more rules c) d actors

    all : (ds : List Draft) → map ordered (map rest ds) ≡ map (λ (d : Draft). ordered (rest d)) ds
    all [] = refl
    all (d ∷ ds) = ap (λ (es : List Order). ordered (rest d) ∷ es) (all ds)

-- A whole order stays.
whole_stays :
    (rules : List Kind) (c : ℕ) (actors : List Actor) (o : Order) →
    fold (one_more rules c) (Whole o) actors ≡ Whole o
whole_stays rules c [] o = refl
whole_stays rules c (x ∷ actors) o =
    ap (λ (d : Draft). fold (one_more rules c) d actors) (same (is_enemy rules c x))
    ∙ whole_stays rules c actors o
  where
    same : (test : Bool) → cond test (Whole o) (Whole o) ≡ Whole o
    same true = refl
    same false = refl

pub finished_whole :
    (rules : List Kind) (actors : List Actor) (c : ℕ) (o : Order) → finished rules actors c (Whole o) ≡ o
finished_whole rules actors c o = ap ordered (whole_stays rules c actors o)

-- The aim is at the nearest enemy of those that were shown.
nearer_is :
    (from : CPos) (x y : Actor) →
    nearer_aim (aim_at from (enemy_of x)) (aim_at from (enemy_of y)) ≡ aim_at from (enemy_of (nearer_of from x y))
nearer_is from x y = at (is_nearer from y x)
  where
    at :
        (test : Bool) →
        cond test (aim_at from (enemy_of y)) (aim_at from (enemy_of x))
        ≡ aim_at from (enemy_of (cond test y x))
    at true = refl
    at false = refl

aim_after :
    (rules : List Kind) (c : ℕ) (actors : List Actor) (actor : ℕ) (from : CPos) (y : Actor) →
    fold (one_more rules c) (Attack actor from (aim_at from (enemy_of y))) actors
    ≡ Attack actor from (aim_at from (enemy_of (fold (nearer_of from) y (filter (is_enemy rules c) actors))))
aim_after rules c [] actor from y = refl
aim_after rules c (x ∷ actors) actor from y =
    at (is_enemy rules c x) (λ (z : Actor). aim_after rules c actors actor from z)
  where
    at :
        (test : Bool) → ((z : Actor) →
        fold (one_more rules c) (Attack actor from (aim_at from (enemy_of z))) actors
        ≡ Attack actor from
        (aim_at from (enemy_of (fold (nearer_of from) z (filter (is_enemy rules c) actors))))) →
        fold (one_more rules c)
        (cond test (seeing (enemy_of x) (Attack actor from (aim_at from (enemy_of y)))) (Attack actor from (aim_at from (enemy_of y))))
        actors
        ≡ Attack actor from
        (aim_at from (enemy_of (fold (nearer_of from) y (cond test (x ∷ filter (is_enemy rules c) actors) (filter (is_enemy rules c) actors)))))
    at true later =
        ap (λ (aim : Aim). fold (one_more rules c) (Attack actor from aim) actors) (nearer_is from y x)
        ∙ later (nearer_of from y x)
    at false later = later y

-- The nearest is found from the first on.
from_first :
    {X : Type 0} (f : X → X → X) (test : X → Bool) (xs : List X) (o : Option X) → ((x : X) → f x x ≡ x) →
    find test xs ≡ o →
    reduce f (filter test xs) ≡ option_map (λ (y : X). fold f y (filter test xs)) o
from_first f test [] o same found = subst (λ p. None ≡ option_map (λ y. y) p) found refl
from_first {X} f test (x ∷ xs) o same found =
    at (test x) (λ later. from_first f test xs o same later) found
  where
    at :
        (t : Bool) →
        (find test xs ≡ o →
        reduce f (filter test xs) ≡ option_map (λ (y : X). fold f y (filter test xs)) o) →
        cond t (Some x) (find test xs) ≡ o →
        reduce f (cond t (x ∷ filter test xs) (filter test xs))
        ≡ option_map (λ (y : X). fold f y (cond t (x ∷ filter test xs) (filter test xs))) o
    at true rest found =
        subst (λ (p : Option X). Some (fold f x (filter test xs)) ≡ option_map (λ (y : X). fold f y (x ∷ filter test xs)) p)
        found (ap (λ (y : X). Some (fold f y (filter test xs))) (sym (same x)))
    at false rest found = rest found

nearest_from :
    (rules : List Kind) (actors : List Actor) (c : ℕ) (from : CPos) (o : Option Actor) →
    find (is_enemy rules c) actors ≡ o →
    nearest_enemy rules actors c from
    ≡ option_map (λ (y : Actor). fold (nearer_of from) y (filter (is_enemy rules c) actors)) o
nearest_from rules actors c from o found =
    from_first (nearer_of from) (is_enemy rules c) actors o same found
  where
    same : (x : Actor) → nearer_of from x x ≡ x
    same x = at (is_nearer from x x)
      where
        at : (test : Bool) → cond test x x ≡ x
        at true = refl
        at false = refl

-- The draft to attack becomes the order to attack.
pub attack_is :
    (rules : List Kind) (actors : List Actor) (c : ℕ) (a : Actor) →
    option_map (finished rules actors c)
    (attack_draft rules (first_enemy rules actors c) a)
    ≡ attack_order rules actors c a
attack_is rules actors c a =
    at (is_some (kind_of rules a.kind).armament && eqb (length a.body.acts) 0)
    (find (is_enemy rules c) actors) refl
  where
    at :
        (armed : Bool) (o : Option Actor) → find (is_enemy rules c) actors ≡ o →
        option_map (finished rules actors c)
        (cond armed (option_map (λ (e : Enemy). Attack a.id a.cell (aim_at a.cell e)) (option_map enemy_of o)) None)
        ≡ cond armed (option_map (λ (e : Actor). order.Attack a.id e.id false) (nearest_enemy rules actors c a.cell)) None
    at false o found = refl
    at true None found =
        sym (ap (λ (p : Option Actor). option_map (λ (e : Actor). order.Attack a.id e.id false) p)
        (nearest_from rules actors c a.cell None found))
    at true (Some y) found =
        ap (λ (d : Draft). Some (ordered d)) (aim_after rules c actors a.id a.cell y)
        ∙ sym (ap (λ (p : Option Actor). option_map (λ (e : Actor). order.Attack a.id e.id false) p)
        (nearest_from rules actors c a.cell (Some y) found))

-- Drafts of which none is to attack stay.
pub none_shown :
    (rules : List Kind) (c : ℕ) (actors : List Actor) (drafts : List Draft) →
    list_any is_attack drafts ≡ false → fold (shown rules c) drafts actors ≡ drafts
none_shown rules c [] drafts none = refl
none_shown rules c (x ∷ actors) drafts none =
    ap (λ (ds : List Draft). fold (shown rules c) ds actors) (same (is_enemy rules c x))
    ∙ none_shown rules c actors drafts none
  where
    stay : (ds : List Draft) → list_any is_attack ds ≡ false → map (seeing (enemy_of x)) ds ≡ ds
    stay [] none = refl
    stay (Whole o ∷ ds) none = ap (λ (es : List Draft). Whole o ∷ es) (stay ds none)
    stay (Attack actor from aim ∷ ds) none = absurd (true≢false none)

    same : (test : Bool) → cond test (map (seeing (enemy_of x)) drafts) drafts ≡ drafts
    same true = stay drafts none
    same false = refl
