-- A shroud after any list of updates.
use Rattle.std.specs.Prelude.{◌≡◌, ℕ, ◌||◌, Bool, true, false, List, [], ◌∷◌, ◌++◌}
use Rattle.std.specs.List.{list_any}
use Rattle.std.proofs.Common.{refl, sym, ap, ap₂, ◌∙◌, append_assoc}
use Rattle.std.proofs.lemmas.List.{append-nil}
use Rattle.rule_traits.specs.declared.kind.Kind.{Kind}
use Rattle.game_model.specs.declared.world.World.{World}
use Rattle.game_model.specs.Grid.{Grid}
use Rattle.shroud.specs.Explored.{is_explored}
use Rattle.shroud.specs.Grids.{grids_of, flag_of}
use Rattle.shroud.proofs.GridsLemmas.{flag_is, same_grids}
use Rattle.shroud.specs.Laws.{Update, after_updates, worlds_of, FollowsWorlds, FollowsAll}
use Rattle.shroud.specs.Laws.{HasExplored}
use Rattle.shroud.specs.ShroudState.{ShroudState, shrouded, updated, explored_by}
use Rattle.shroud.specs.Sights.{is_seen, sees_in}

or_false : (b : Bool) → b || false ≡ b
or_false true = refl
or_false false = refl

or_assoc : (a b c : Bool) → (a || b) || c ≡ a || (b || c)
or_assoc true b c = refl
or_assoc false b c = refl

-- One of these or the last one does.
any_last :
    {X : Type 0} (test : X → Bool) (xs : List X) (x : X) →
    list_any test (xs ++ x ∷ []) ≡ list_any test xs || test x
any_last test [] x = or_false (test x)
any_last test (y ∷ xs) x =
    ap (λ (b : Bool). test y || b) (any_last test xs x)
    ∙ sym (or_assoc (test y) (list_any test xs) (test x))

-- What was explored before and what is seen now is what was explored in all these worlds.
explored_more :
    (rules : List Kind) (width height clients : ℕ) (worlds : List World) (w : World) →
    (s : ShroudState) → HasExplored rules width height clients worlds s →
    grids_of s.width s.height s.clients (explored_by s w.actors)
    ≡ grids_of width height clients (is_explored rules (worlds ++ w ∷ []))
explored_more rules width height clients worlds w s has =
    let size : grids_of s.width s.height s.clients (explored_by s w.actors)
    ≡ grids_of width height clients (explored_by s w.actors) =
    ap₂ (λ (a b : ℕ). grids_of a b s.clients (explored_by s w.actors)) has.width has.height
    ∙ ap (λ (n : ℕ). grids_of width height n (explored_by s w.actors)) has.clients in
    size
    ∙ same_grids width height clients (explored_by s w.actors)
    (is_explored rules (worlds ++ w ∷ []))
    (λ c p within on.
    let before : flag_of s.explored c p ≡ is_explored rules worlds c p =
    ap (λ (g : List (Grid Bool)). flag_of g c p) has.explored
    ∙ flag_is width height clients (is_explored rules worlds) c p within on in
    let now : is_seen s.rules w.actors c p ≡ is_seen rules w.actors c p =
    ap (λ (kinds : List Kind). is_seen kinds w.actors c p) has.rules in
    ap₂ (λ (a b : Bool). a || b) before now ∙ sym (any_last (sees_in rules c p) worlds w))

-- One world more.
pub goes_on :
    (rules : List Kind) (width height clients : ℕ) (worlds : List World) (w : World) →
    (s : ShroudState) (touched : ℕ) → HasExplored rules width height clients worlds s →
    HasExplored rules width height clients (worlds ++ w ∷ []) (updated s w.actors touched)
goes_on rules width height clients worlds w s touched has =
    record {
      rules = has.rules;
      width = has.width;
      height = has.height;
      clients = has.clients;
      explored = explored_more rules width height clients worlds w s has;
    }

-- What the last world leaves.
pub last_one :
    (rules : List Kind) (width height clients : ℕ) (worlds : List World) (last : World) →
    (s : ShroudState) (touched : ℕ) → HasExplored rules width height clients worlds s →
    FollowsWorlds rules width height clients worlds last (updated s last.actors touched)
last_one rules width height clients worlds last s touched has =
    record {
      seen =
          ap₂ (λ (a b : ℕ). grids_of a b s.clients (is_seen s.rules last.actors)) has.width
          has.height
          ∙ ap₂ (λ (n : ℕ) (kinds : List Kind). grids_of width height n (is_seen kinds last.actors))
          has.clients has.rules;
      explored = explored_more rules width height clients worlds last s has;
    }

-- After some worlds, the other updates follow.
all_follow :
    (rules : List Kind) (width height clients : ℕ) (before : List World) (after : List Update) →
    (last : Update) (s : ShroudState) → HasExplored rules width height clients before s →
    FollowsWorlds rules width height clients (before ++ worlds_of after) last.world
    (after_updates s (after ++ last ∷ []))
all_follow rules width height clients before [] last s has =
    rw append-nil (last_one rules width height clients before last.world s last.touched has)
all_follow rules width height clients before (u ∷ after) last s has =
    rw (sym (append_assoc before (u.world ∷ []) (worlds_of after)))
    (all_follow rules width height clients (before ++ u.world ∷ []) after last
    (updated s u.world.actors u.touched)
    (goes_on rules width height clients before u.world s u.touched has))

-- A new shroud has explored nothing.
pub nothing_explored :
    (rules : List Kind) (width height clients : ℕ) →
    HasExplored rules width height clients [] (shrouded rules width height clients)
nothing_explored rules width height clients =
    record { rules = refl; width = refl; height = refl; clients = refl; explored = refl }

pub follows_all :
    (rules : List Kind) (width height clients : ℕ) (updates : List Update) (last : Update) →
    FollowsAll rules width height clients updates last
follows_all rules width height clients updates last =
    all_follow rules width height clients [] updates last
    (shrouded rules width height clients) (nothing_explored rules width height clients)
