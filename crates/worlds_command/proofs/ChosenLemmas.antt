-- The worlds of a replay, printed while they pass.
use Rattle.std.proofs.Common.{◌≡◌, ◌<◌, ◌≤◌, ℕ, suc, ◌+◌, ◌-◌, Bool, true, false, List, [], ◌++◌, length}
use Rattle.std.proofs.Common.{refl, ap, subst, ◌∙◌, arith}
use Rattle.game_orders.specs.declared.limits.TheConstants.{MAX_FRAMES}
use Rattle.replay_file.specs.declared.replay.Replay.{Replay}
use Rattle.replay_file.proofs.SoFarLemmas.{few_frames}
use Rattle.replay_file.proofs.ValidLemmas.{valid_obeys}
use Rattle.replay_file.specs.ValidReplay.{IsValidReplay}
use Rattle.replay_run.specs.Playing.{played, PlaybackState, IsPlayback, PlaysOn}
use Rattle.replay_run.specs.Rerun.{frame_count}
use Rattle.tick_core.specs.Game.{GameState, game_after}
use Rattle.world_text.specs.Printing.{PrintState, Prints, PrintsBut}
use Rattle.world_text.proofs.PrintingLemmas.{prints_nothing, prints_whole}
use Rattle.worlds_command.specs.Chosen.{count_from, count_if_chosen, is_chosen, text_if_chosen}
use Rattle.worlds_command.specs.Chosen.{texts_from}
use Rattle.worlds_command.specs.declared.chosen.Chosen.{Chosen}
use Rattle.worlds_command.specs.Worlds.{game_lines}
use Rattle.worlds_command.proofs.LineLemmas.{prints_all, prints_step}

-- A replay has few frames.
pub few_chosen :
    (r : Replay) (last : ℕ) → IsValidReplay r → last ≤ frame_count r → last ≤ MAX_FRAMES
few_chosen r last valid within =
    let obeys = valid_obeys r valid in
    omega (arith, obeys.few, few_frames r.version, within)

-- The lines of the world after n frames, over an opening game.
abbrev pub lines_over : GameState → Replay → (n : ℕ) → List ℕ
lines_over game r n = game_lines n (played game_after game r n)

-- The worlds below n were printed, and these are left, if more frames are wanted.
pub record IsPrintedBelow
    (game : GameState) (r : Replay) (chosen : Chosen) (old now : PrintState) (n count : ℕ)
    (p : PlaybackState GameState) : Type 0 where
  pub prints :
      PrintsBut old now (texts_from (lines_over game r) chosen 0 (chosen.last + 1))
      (texts_from (lines_over game r) chosen n (chosen.last + 1 - n))
  pub counts :
      count + count_from chosen n (chosen.last + 1 - n)
      ≡ count_from chosen 0 (chosen.last + 1)
  pub few : count ≤ n
  pub plays : IsPlayback game_after game r p
  pub frames : n ≤ chosen.last → p.frames ≡ n

pub begins :
    (game : GameState) (r : Replay) (chosen : Chosen) (state : PrintState)
    (p : PlaybackState GameState) → IsPlayback game_after game r p → p.frames ≡ 0 →
    IsPrintedBelow game r chosen state state 0 0 p
begins game r chosen state p plays none =
    let all : chosen.last + 1 ≡ chosen.last + 1 - 0 = omega arith in
    record {
      prints =
          prints_all state (texts_from (lines_over game r) chosen 0 (chosen.last + 1))
          (texts_from (lines_over game r) chosen 0 (chosen.last + 1 - 0))
          (ap (texts_from (lines_over game r) chosen 0) all);
      counts = omega (arith, ap (count_from chosen 0) all);
      few = omega arith;
      plays = plays;
      frames = λ most. none;
    }

one_more : (last n : ℕ) → n < last + 1 → last + 1 - n ≡ suc (last + 1 - (n + 1))
one_more last n within = omega (arith, within)

next_texts :
    (text : ℕ → List ℕ) (chosen : Chosen) (n : ℕ) → n < chosen.last + 1 →
    texts_from text chosen n (chosen.last + 1 - n)
    ≡ text_if_chosen text chosen n
    ++ texts_from text chosen (n + 1) (chosen.last + 1 - (n + 1))
next_texts text chosen n within = ap (texts_from text chosen n) (one_more chosen.last n within)

next_count :
    (chosen : Chosen) (n : ℕ) → n < chosen.last + 1 →
    count_from chosen n (chosen.last + 1 - n)
    ≡ count_if_chosen chosen n + count_from chosen (n + 1) (chosen.last + 1 - (n + 1))
next_count chosen n within = ap (count_from chosen n) (one_more chosen.last n within)

pub at_most_one : (chosen : Chosen) (n : ℕ) → count_if_chosen chosen n ≤ 1
at_most_one chosen n = by_test (is_chosen chosen n) refl
  where
    by_test : (b : Bool) → is_chosen chosen n ≡ b → count_if_chosen chosen n ≤ 1
    by_test true is = rw is (omega arith)
    by_test false is = rw is (omega arith)

-- One frame further, if there is one.
frames_on :
    (game : GameState) (r : Replay) (last n : ℕ) (p q : PlaybackState GameState) (step : Bool) →
    IsPlayback game_after game r p → p.frames ≡ n → PlaysOn game_after p q step →
    last ≤ frame_count r → n + 1 ≤ last → q.frames ≡ n + 1
frames_on game r last n p q true plays here on within more =
    on.2 ∙ ap (λ (k : ℕ). k + 1) here
frames_on game r last n p q false plays here on within more =
    let none : length p.left ≡ 0 = ap length on.0 in
    absurd (omega (arith, none, plays.count, here, within, more))

-- The next world.
pub next_world :
    (game : GameState) (r : Replay) (chosen : Chosen) (old now new : PrintState) (n count more : ℕ)
    (p q : PlaybackState GameState) (step : Bool) →
    IsPrintedBelow game r chosen old now n count p → n < chosen.last + 1 →
    chosen.last ≤ frame_count r →
    Prints now new (text_if_chosen (λ n. game_lines n p.world) chosen n) →
    more ≡ count_if_chosen chosen n → PlaysOn game_after p q step →
    IsPlayback game_after game r q →
    IsPrintedBelow game r chosen old new (n + 1) (count + more) q
next_world game r chosen old now new n count more p q step so_far within most prints adds on plays =
    let here : p.frames ≡ n = so_far.frames (omega (arith, within)) in
    let world : p.world ≡ played game_after game r n =
    so_far.plays.world ∙ ap (played game_after game r) here in
    let line : Prints now new (text_if_chosen (lines_over game r) chosen n) =
    subst (λ (w : GameState). Prints now new (text_if_chosen (λ n. game_lines n w) chosen n)) world
    prints in
    record {
      prints =
          prints_step old now new (texts_from (lines_over game r) chosen 0 (chosen.last + 1))
          (texts_from (lines_over game r) chosen n (chosen.last + 1 - n))
          (text_if_chosen (lines_over game r) chosen n)
          (texts_from (lines_over game r) chosen (n + 1) (chosen.last + 1 - (n + 1)))
          (next_texts (lines_over game r) chosen n within) so_far.prints line;
      counts = omega (arith, so_far.counts, next_count chosen n within, adds);
      few = omega (arith, so_far.few, adds, at_most_one chosen n);
      plays = plays;
      frames = λ further. frames_on game r chosen.last n p q step so_far.plays here on most further;
    }

none_left :
    (text : ℕ → List ℕ) (chosen : Chosen) (n : ℕ) → chosen.last + 1 ≤ n →
    texts_from text chosen n (chosen.last + 1 - n) ≡ []
none_left text chosen n past =
    let none : chosen.last + 1 - n ≡ 0 = omega (arith, past) in
    ap (texts_from text chosen n) none

none_counted :
    (chosen : Chosen) (n : ℕ) → chosen.last + 1 ≤ n → count_from chosen n (chosen.last + 1 - n) ≡ 0
none_counted chosen n past =
    let none : chosen.last + 1 - n ≡ 0 = omega (arith, past) in
    ap (count_from chosen n) none

-- All were printed.
pub all_printed :
    (game : GameState) (r : Replay) (chosen : Chosen) (old now : PrintState) (n count : ℕ)
    (p : PlaybackState GameState) → IsPrintedBelow game r chosen old now n count p →
    chosen.last + 1 ≤ n →
    Prints old now (texts_from (lines_over game r) chosen 0 (chosen.last + 1))
all_printed game r chosen old now n count p so_far past =
    prints_whole old now (texts_from (lines_over game r) chosen 0 (chosen.last + 1))
    (texts_from (lines_over game r) chosen n (chosen.last + 1 - n))
    (none_left (lines_over game r) chosen n past) so_far.prints

pub all_counted :
    (game : GameState) (r : Replay) (chosen : Chosen) (old now : PrintState) (n count : ℕ)
    (p : PlaybackState GameState) → IsPrintedBelow game r chosen old now n count p →
    chosen.last + 1 ≤ n → count ≡ count_from chosen 0 (chosen.last + 1)
all_counted game r chosen old now n count p so_far past =
    omega (arith, so_far.counts, none_counted chosen n past)

-- A number that is not chosen has no text.
pub not_chosen :
    (state : PrintState) (text : ℕ → List ℕ) (chosen : Chosen) (n : ℕ) →
    is_chosen chosen n ≡ false → Prints state state (text_if_chosen text chosen n)
not_chosen state text chosen n is = rw is (prints_nothing state)

pub one_chosen :
    (old new : PrintState) (text : ℕ → List ℕ) (chosen : Chosen) (n : ℕ) →
    is_chosen chosen n ≡ true → Prints old new (text n) →
    Prints old new (text_if_chosen text chosen n)
one_chosen old new text chosen n is prints = rw is prints
