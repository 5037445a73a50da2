-- What a tally shows.
use Rattle.std.proofs.Common.{◌≡◌, ℕ, ◌+◌, ◌*◌, ◌<◌, Bool, true, false, ◌||◌, cond, List, [], ◌∷◌, length, refl, sym, ap, ap₂, ◌∙◌, arith, lt-ltb, replicate}
use Rattle.std.specs.Prelude.{nat_lt}
use Rattle.std.specs.List.{count_by, list_any}
use Rattle.std.proofs.lemmas.List.{get_or-replicate}
use Rattle.std.proofs.lemmas.List.Sums.{sum_by-cons}
use Rattle.world_units.specs.declared.cell.CPos.{CPos}
use Rattle.rule_traits.specs.declared.kind.Kind.{Kind}
use Rattle.game_model.specs.declared.actor.Actor.{Actor}
use Rattle.game_model.specs.Grid.{Grid, IsOn}
use Rattle.shroud.specs.declared.spot.Spot.{Spot}
use Rattle.shroud.specs.declared.viewer.Viewer.{Viewer}
use Rattle.shroud.specs.Grids.{flag_of, grids_of}
use Rattle.shroud.proofs.GridsLemmas.{flag_is, same_grids}
use Rattle.shroud.specs.ShroudState.{ShroudState, explored_by, nowhere, shrouded, updated}
use Rattle.shroud.specs.Sights.{is_seen, sees}
use Rattle.shroud.specs.Spots.{dark, place_in, spot_at, SpotState}
use Rattle.shroud.specs.Tally.{IsFollowed, IsTally, TallyState, any_views, count_views, explored_in, is_counted, is_marked, seen_in, shroud_of, views_at}
use Rattle.shroud.specs.Viewers.{Lists, viewers_of, views}
use Rattle.shroud.proofs.PlaceLemmas.{cell_again, client_again, place_within}

-- Some are counted exactly where there is one.
counted_any :
    {X : Type 0} (p : X → Bool) (xs : List X) → nat_lt 0 (count_by p xs) ≡ list_any p xs
counted_any p [] = refl
counted_any {X} p (x ∷ xs) =
    ap (λ (n : ℕ). nat_lt 0 n) (sum_by-cons (λ (y : X). cond (p y) 1 0) x xs)
    ∙ first (p x) (count_by p xs)
    ∙ ap (λ (b : Bool). p x || b) (counted_any p xs)
  where
    first : (b : Bool) (n : ℕ) → nat_lt 0 (cond b 1 0 + n) ≡ b || nat_lt 0 n
    first true n = lt-ltb 0 (1 + n) (omega arith)
    first false n = ap (λ (m : ℕ). nat_lt 0 m) (zero_and n)
      where
        zero_and : (n : ℕ) → 0 + n ≡ n
        zero_and n = omega arith

-- What kept actors see is what the actors see.
any_of_kept :
    (rules : List Kind) (c : ℕ) (p : CPos) (actors : List Actor) →
    list_any (views rules c p) (viewers_of actors) ≡ list_any (sees rules c p) actors
any_of_kept rules c p [] = refl
any_of_kept rules c p (a ∷ actors) =
    ap (λ (b : Bool). sees rules c p a || b) (any_of_kept rules c p actors)

-- At the place of a client's cell.
views_there :
    (rules : List Kind) (width height c : ℕ) (p : CPos) (vs : List Viewer) → IsOn width height p →
    list_any (views_at rules width height (place_in width height c p)) vs
    ≡ list_any (views rules c p) vs
views_there rules width height c p vs on =
    ap₂ (λ (client : ℕ) (cell : CPos). list_any (views rules client cell) vs)
    (client_again width height c p on) (cell_again width height c p on)

-- What these actors see at that place.
seen_there :
    (t : TallyState) (c : ℕ) (p : CPos) (actors : List Actor) →
    IsOn t.spots.width t.spots.height p →
    any_views t (place_in t.spots.width t.spots.height c p) (viewers_of actors)
    ≡ is_seen t.rules actors c p
seen_there t c p actors on =
    views_there t.rules t.spots.width t.spots.height c p (viewers_of actors) on
    ∙ any_of_kept t.rules c p actors

no_more : (n m : ℕ) → n ≡ 0 + m → n ≡ m
no_more n m is = omega arith

-- By the counts between two updates a client sees what the actors see.
shows_seen :
    (t : TallyState) (actors : List Actor) → IsTally t → t.lists.left ≡ viewers_of actors →
    t.lists.fresh ≡ [] →
    seen_in t.spots ≡ grids_of t.spots.width t.spots.height t.spots.clients (is_seen t.rules actors)
shows_seen t actors is left fresh =
    let s = t.spots in
    same_grids s.width s.height s.clients (is_counted s) (is_seen t.rules actors)
    (λ c p known on.
    let place : ℕ = place_in s.width s.height c p in
    let within : place < length s.cells =
    place_within s.width s.height s.clients c p (length s.cells) is.whole known on in
    let count : (spot_at s.cells place).count ≡ count_views t place (viewers_of actors) =
    no_more (spot_at s.cells place).count (count_views t place (viewers_of actors))
    (is.counts place within
    ∙ ap₂ (λ (xs ys : List Viewer). count_views t place xs + count_views t place ys) fresh left) in
    ap (λ (n : ℕ). nat_lt 0 n) count
    ∙ counted_any (views_at t.rules s.width s.height place) (viewers_of actors)
    ∙ seen_there t c p actors on)

-- And has explored what it had explored, and that.
shows_explored :
    (old new : TallyState) (actors : List Actor) → IsTally old →
    IsFollowed (λ place. any_views old place (viewers_of actors)) old new → (touched : ℕ) →
    explored_in new.spots
    ≡ grids_of old.spots.width old.spots.height old.spots.clients
    (explored_by (shroud_of old touched) actors)
shows_explored old new actors is follows touched =
    let s = old.spots in
    let size : explored_in new.spots ≡ grids_of s.width s.height s.clients (is_marked new.spots) =
    ap₂ (λ (w h : ℕ). grids_of w h new.spots.clients (is_marked new.spots)) follows.width
    follows.height
    ∙ ap (λ (n : ℕ). grids_of s.width s.height n (is_marked new.spots)) follows.clients in
    size
    ∙ same_grids s.width s.height s.clients (is_marked new.spots)
    (explored_by (shroud_of old touched) actors)
    (λ c p known on.
    let place : ℕ = place_in s.width s.height c p in
    let within : place < length s.cells =
    place_within s.width s.height s.clients c p (length s.cells) is.whole known on in
    let at : is_marked new.spots c p ≡ (spot_at new.spots.cells place).explored =
    ap₂ (λ (w h : ℕ). (spot_at new.spots.cells (place_in w h c p)).explored) follows.width
    follows.height in
    let before : (spot_at s.cells place).explored ≡ flag_of (explored_in s) c p =
    sym (flag_is s.width s.height s.clients (is_marked s) c p known on) in
    at ∙ follows.explored place within
    ∙ ap₂ (λ (a b : Bool). a || b) before (seen_there old c p actors on))

abbrev shown :
    List Kind → (width height clients : ℕ) → (seen explored : List (Grid Bool)) → ℕ → ShroudState
shown rules width height clients seen explored touched =
    record {
      rules = rules;
      width = width;
      height = height;
      clients = clients;
      seen = seen;
      explored = explored;
      touched = touched;
    }

-- After an update.
pub shows_update :
    (old new : TallyState) (actors : List Actor) (before touched : ℕ) → IsTally old → IsTally new →
    IsFollowed (λ place. any_views old place (viewers_of actors)) old new →
    new.lists ≡ record { left = viewers_of actors; fresh = [] } →
    shroud_of new touched ≡ updated (shroud_of old before) actors touched
shows_update old new actors before touched was is follows lists_are =
    let s = old.spots in
    let left : new.lists.left ≡ viewers_of actors = ap (λ (l : Lists). l.left) lists_are in
    let fresh : new.lists.fresh ≡ [] = ap (λ (l : Lists). l.fresh) lists_are in
    let sizes : (rules : List Kind) →
    grids_of new.spots.width new.spots.height new.spots.clients (is_seen rules actors)
    ≡ grids_of s.width s.height s.clients (is_seen rules actors) =
    λ rules.
    ap₂ (λ (w h : ℕ). grids_of w h new.spots.clients (is_seen rules actors)) follows.width follows.height
    ∙ ap (λ (n : ℕ). grids_of s.width s.height n (is_seen rules actors)) follows.clients in
    let seen : seen_in new.spots ≡ grids_of s.width s.height s.clients (is_seen old.rules actors) =
    shows_seen new actors is left fresh ∙ sizes new.rules
    ∙ ap (λ (r : List Kind). grids_of s.width s.height s.clients (is_seen r actors)) follows.rules in
    let explored = shows_explored old new actors was follows before in
    ap₂ (λ (r : List Kind) (w : ℕ). shown r w new.spots.height new.spots.clients (seen_in new.spots) (explored_in new.spots) touched)
    follows.rules follows.width
    ∙ ap₂ (λ (h n : ℕ). shown old.rules s.width h n (seen_in new.spots) (explored_in new.spots) touched)
    follows.height follows.clients
    ∙ ap₂ (λ (a b : List (Grid Bool)). shown old.rules s.width s.height s.clients a b touched) seen explored

-- Of no actors.
pub shows_nothing :
    (rules : List Kind) (width height clients : ℕ) →
    shroud_of (record {
      rules = rules;
      spots = record {
        width = width;
        height = height;
        clients = clients;
        cells = replicate ((clients * height) * width) dark;
      };
      lists = record { left = []; fresh = [] };
    }) 0
    ≡ shrouded rules width height clients
shows_nothing rules width height clients =
    let n : ℕ = (clients * height) * width in
    let s : SpotState = record { width = width; height = height; clients = clients; cells = replicate n dark } in
    let spot : (c : ℕ) (p : CPos) → c < clients → IsOn width height p →
    spot_at (replicate n dark) (place_in width height c p) ≡ dark =
    λ c p known on.
    get_or-replicate n (place_in width height c p) dark dark
    (place_within width height clients c p n refl known on) in
    ap₂ (λ (a b : List (Grid Bool)). shown rules width height clients a b 0)
    (same_grids width height clients (is_counted s) nowhere
    (λ c p known on. ap (λ (x : Spot). nat_lt 0 x.count) (spot c p known on)))
    (same_grids width height clients (is_marked s) nowhere
    (λ c p known on. ap (λ (x : Spot). x.explored) (spot c p known on)))
