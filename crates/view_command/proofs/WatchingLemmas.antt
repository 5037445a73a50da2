-- A shroud that follows a replay frame by frame.
use Rattle.std.proofs.Common.{◌≡◌, ℕ, ◌+◌, ◌<◌, List, [], ◌∷◌, ◌++◌, Bool, true, length, sym, ap, ap₂, subst, ◌∙◌, arith}
use Rattle.std.proofs.lemmas.List.FromFn.{map-range_with_len_more}
use Rattle.world_units.specs.declared.cell.CPos.{CPos}
use Rattle.game_model.specs.declared.world.World.{World}
use Rattle.game_model.specs.Grid.{Grid, IsOn}
use Rattle.game_model.specs.Setup.{Setup}
use Rattle.game_orders.specs.declared.entry.Entry.{Entry}
use Rattle.replay_file.specs.declared.replay.Replay.{Replay}
use Rattle.replay_run.specs.Playing.{IsPlayback, PlaybackState, PlaysOn, played}
use Rattle.replay_run.specs.Rerun.{frame_count}
use Rattle.shroud.specs.Grids.{flag_of, grids_of}
use Rattle.shroud.proofs.GridsLemmas.{flag_is}
use Rattle.shroud.specs.Explored.{is_explored}
use Rattle.shroud.specs.Laws.{HasExplored}
use Rattle.shroud.proofs.LawsLemmas.{goes_on, last_one, nothing_explored}
use Rattle.shroud.specs.ShroudState.{ShroudState, shrouded, updated}
use Rattle.shroud.specs.Sights.{is_seen}
use Rattle.tick_core.specs.Game.{GameState, game_after, game_start}
use Rattle.drill.specs.Text.{end_line}
use Rattle.view_command.specs.ViewText.{cell_at, view_line, view_lines}
use Rattle.view_command.proofs.ViewTextLemmas.{same_rows}
use Rattle.view_command.specs.Views.{view_text, world_after, worlds_to}
use Rattle.view_command.specs.Watching.{HasWatched}

-- The world of a game that plays the replay back.
pub world_is :
    (setup : Setup) (r : Replay) (start : GameState) (p : PlaybackState GameState) →
    start ≡ game_start setup r.seed r.clients → IsPlayback game_after start r p →
    p.world.world ≡ world_after setup r p.frames
world_is setup r start p opens plays =
    ap (λ (g : GameState). g.world) plays.world
    ∙ ap (λ (g : GameState). (played game_after g r p.frames).world) opens

-- What a shroud has watched after an update, by worlds that are said apart.
watched_by :
    (setup : Setup) (r : Replay) (n : ℕ) (before : List World) (s new : ShroudState) (w : World) →
    HasExplored setup.rules setup.map.width setup.map.height r.clients before s →
    before ++ w ∷ [] ≡ worlds_to setup r n → w ≡ world_after setup r n →
    new ≡ updated s w.actors new.touched → HasWatched setup r n new
watched_by setup r n before s new w has worlds_are world_is new_is =
    let rules = setup.rules in
    let width : ℕ = setup.map.width in
    let height : ℕ = setup.map.height in
    let more = goes_on rules width height r.clients before w s new.touched has in
    let last = last_one rules width height r.clients before w s new.touched has in
    subst (λ (x : ShroudState). HasWatched setup r n x) (sym new_is) (record {
      so_far =
          subst (λ (ws : List World). HasExplored rules width height r.clients ws (updated s w.actors new.touched))
          worlds_are more;
      now =
          last.seen
          ∙ ap (λ (x : World). grids_of width height r.clients (is_seen rules x.actors)) world_is;
    })

-- After the opening world.
pub watch_begins :
    (setup : Setup) (r : Replay) (s new : ShroudState) (w : World) →
    s ≡ shrouded setup.rules setup.map.width setup.map.height r.clients →
    w ≡ world_after setup r 0 → new ≡ updated s w.actors new.touched → HasWatched setup r 0 new
watch_begins setup r s new w shrouds world_is new_is =
    let has : HasExplored setup.rules setup.map.width setup.map.height r.clients [] s =
    subst (λ (x : ShroudState). HasExplored setup.rules setup.map.width setup.map.height r.clients [] x)
    (sym shrouds) (nothing_explored setup.rules setup.map.width setup.map.height r.clients) in
    let worlds_are : [] ++ w ∷ [] ≡ worlds_to setup r 0 =
    ap (λ (x : World). x ∷ []) world_is in
    watched_by setup r 0 [] s new w has worlds_are world_is new_is

-- After one frame more.
pub watch_goes_on :
    (setup : Setup) (r : Replay) (n m : ℕ) (s new : ShroudState) (w : World) →
    HasWatched setup r n s → m ≡ n + 1 → w ≡ world_after setup r m →
    new ≡ updated s w.actors new.touched → HasWatched setup r m new
watch_goes_on setup r n m s new w has next world_is new_is =
    let more : worlds_to setup r (n + 1) ≡ worlds_to setup r n ++ world_after setup r (n + 1) ∷ [] =
    map-range_with_len_more (world_after setup r) 0 (n + 1) (n + 1) (omega arith) in
    let here : w ≡ world_after setup r (n + 1) =
    world_is ∙ ap (λ (k : ℕ). world_after setup r k) next in
    let worlds_are : worlds_to setup r n ++ w ∷ [] ≡ worlds_to setup r m =
    ap (λ (x : World). worlds_to setup r n ++ x ∷ []) here ∙ sym more
    ∙ ap (λ (k : ℕ). worlds_to setup r k) (sym next) in
    watched_by setup r m (worlds_to setup r n) s new w has.so_far worlds_are world_is new_is

-- A step that was made.
pub goes_further :
    (old new : PlaybackState GameState) → PlaysOn game_after old new true → new.frames ≡ old.frames + 1
goes_further old new on = on.2

shorter : (xs ys : List (List Entry)) (x : List Entry) → xs ≡ x ∷ ys → length ys < length xs
shorter xs ys x is = omega (arith, ap (λ (l : List (List Entry)). length l) is)

pub fewer_left :
    (old new : PlaybackState GameState) → PlaysOn game_after old new true →
    length new.left < length old.left
fewer_left old new on = shorter old.left new.left on.0 on.1

-- All frames were played.
pub all_played :
    (start : GameState) (r : Replay) (p : PlaybackState GameState) → IsPlayback game_after start r p →
    p.left ≡ [] → p.frames ≡ frame_count r
all_played start r p plays none =
    let n = ap (λ (l : List (List Entry)). length l) none in
    omega (arith, plays.count, n)

-- The lines of a shroud that has watched the replay are those of the view.
pub watched_text :
    (setup : Setup) (r : Replay) (s : ShroudState) (client frames : ℕ) →
    HasWatched setup r (frame_count r) s → client < r.clients → frames ≡ frame_count r →
    view_lines (flag_of s.seen client) (flag_of s.explored client) client frames setup.map.width
    setup.map.height
    ≡ view_text setup r client
watched_text setup r s client frames has known all =
    let width : ℕ = setup.map.width in
    let height : ℕ = setup.map.height in
    let last : World = world_after setup r (frame_count r) in
    let worlds : List World = worlds_to setup r (frame_count r) in
    let seen : (p : CPos) → IsOn width height p →
    flag_of s.seen client p ≡ is_seen setup.rules last.actors client p =
    λ p on.
    ap (λ (g : List (Grid Bool)). flag_of g client p) has.now
    ∙ flag_is width height r.clients (is_seen setup.rules last.actors) client p known on in
    let explored : (p : CPos) → IsOn width height p →
    flag_of s.explored client p ≡ is_explored setup.rules worlds client p =
    λ p on.
    ap (λ (g : List (Grid Bool)). flag_of g client p) has.so_far.explored
    ∙ flag_is width height r.clients (is_explored setup.rules worlds) client p known on in
    let rows =
    same_rows (flag_of s.seen client) (flag_of s.explored client)
    (is_seen setup.rules last.actors client) (is_explored setup.rules worlds client) width height
    (λ x y column row.
    let on : IsOn width height (cell_at x y) = record { column = column; row = row } in
    (seen (cell_at x y) on, explored (cell_at x y) on)) in
    ap₂ (λ (n : ℕ) (lines : List ℕ). view_line client n ++ lines ++ end_line) all rows

-- At the end of the replay.
pub watch_ends :
    (setup : Setup) (r : Replay) (start : GameState) (p : PlaybackState GameState) (s : ShroudState) →
    IsPlayback game_after start r p → p.left ≡ [] → HasWatched setup r p.frames s →
    HasWatched setup r (frame_count r) s
watch_ends setup r start p s plays none has =
    let empty : length p.left ≡ 0 = ap length none in
    let count : p.frames ≡ frame_count r = omega (arith, plays.count, empty) in
    subst (λ (n : ℕ). HasWatched setup r n s) count has
