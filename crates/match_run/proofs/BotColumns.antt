-- The columns of a match with bots: the frames that they make, and the world after them.
use Rattle.std.proofs.Common.{◌≡◌, ℕ, zero, suc, ◌+◌, ◌-◌, ◌^◌, ◌<◌, ◌≤◌, ◌==◌, ◌&&◌, ◌⊎◌, Bool, true, List, [], ◌∷◌, ◌++◌, length, map, refl, sym, ap, ap₂, ◌∙◌, subst, inl, inr, ⊎_elim, arith, add-one, length-append, append-nil}
use Rattle.std.proofs.lemmas.List.FromFn.{length-map-range_with_len, map-range_with_len_more, get_or-map-range_with_len}
use Rattle.std.proofs.lemmas.Option.{slice_get_past}
use Rattle.std.proofs.lemmas.Bool.Decides.{eqb_tells}
use Rattle.std.specs.Prelude.{slice_get, Some, Result, Ok, Err, IfOk, OnOk}
use Rattle.std.specs.List.{range_with_len}
use Rattle.game_orders.specs.declared.order.Order.{Order}
use Rattle.game_orders.specs.declared.entry.Entry.{Entry}
use Rattle.game_orders.specs.declared.entry.Entry.TheVariants.{Play, Leave}
use Rattle.frame_core.specs.Column.{Column, no_column, length_of, column_of, entry_from, entry_at, has_at}
use Rattle.frame_core.specs.Ready.{or_leave, frame_at}
use Rattle.frame_core.specs.World.{world_at}
use Rattle.drill_words.specs.Scripts.{plays_of}
use Rattle.frame_table.specs.declared.pass.Pass.{Pass}
use Rattle.frame_table.specs.declared.table.FrameTable.{FrameTable}
use Rattle.frame_table.specs.Calls.{plan_of, view_of, standing, IsPassOf}
use Rattle.match_run.specs.Local.{script_column, script_columns, frames_of, world_of, IsAll, IsFilled}
use Rattle.match_run.specs.Bots.{BotMatch, bot_entries, world_after, bot_plays, bot_column, match_columns, match_world, IsPlayed}

get_range : {X : Type 0} (f : ℕ → X) (a n i : ℕ) → i < n → slice_get (map f (range_with_len a n)) i ≡ Some (f (a + i))
get_range f a zero i below = absurd (omega arith)
get_range f a (suc n) zero below = ap (λ k. Some (f k)) (let same : a ≡ a + 0 = omega arith in same)
get_range f a (suc n) (suc i) below = get_range f (a + 1) n i (omega arith) ∙ ap (λ k. Some (f k)) (let same : a + 1 + i ≡ a + suc i = omega arith in same)

frame_append : (xs ys : List Column) (n : ℕ) → frame_at (xs ++ ys) n ≡ frame_at xs n ++ frame_at ys n
frame_append [] ys n = refl
frame_append (x ∷ xs) ys n = ap (λ (l : List Entry). or_leave (has_at x n) ∷ l) (frame_append xs ys n)

script_at : (scripts : List (List (List Order))) (ys : List Column) (c : ℕ) → c < length scripts → column_of (script_columns scripts ++ ys) c ≡ script_column (plays_of scripts c)
script_at [] ys c below = absurd (omega arith)
script_at (s ∷ scripts) ys zero below = refl
script_at (s ∷ scripts) ys (suc c) below = script_at scripts ys c (omega arith)

after_at : (scripts : List (List (List Order))) (ys : List Column) (j c : ℕ) → length scripts + j ≡ c → column_of (script_columns scripts ++ ys) c ≡ column_of ys j
after_at [] ys j c is = ap (column_of ys) (let same : c ≡ j = omega arith in same)
after_at (s ∷ scripts) ys j zero is = absurd (omega arith)
after_at (s ∷ scripts) ys j (suc c) is = after_at scripts ys j c (omega arith)

pub below_or : (a b : ℕ) → (a < b) ⊎ (b ≤ a)
below_or a zero = inr (omega arith)
below_or zero (suc b) = inl (omega arith)
below_or (suc a) (suc b) = ⊎_elim (λ less. inl (omega arith)) (λ more. inr (omega arith)) (below_or a b)

same_number : (n m : ℕ) → m ≡ n → (n == m) ≡ true
same_number n m is = ⊎_elim (λ yes. yes.0) (λ no. absurd (no.1 (sym is))) (eqb_tells n m)

script_left : (scripts : List (List (List Order))) → length (script_columns scripts) ≡ length scripts
script_left [] = refl
script_left (s ∷ scripts) = ap suc (script_left scripts)

module _ {W : Type 0} (m : BotMatch W) where
  pub plays_length : (n c : ℕ) → length (bot_plays m n c) ≡ n
  plays_length n c = length-map-range_with_len (λ (k : ℕ). m.orders (world_after m k) c) 0 n

  pub plays_more : (n c : ℕ) → bot_plays m (n + 1) c ≡ bot_plays m n c ++ m.orders (world_after m n) c ∷ []
  plays_more n c = map-range_with_len_more (λ (k : ℕ). m.orders (world_after m k) c) 0 n n (omega arith)

  pub world_more : (n : ℕ) → world_after m (n + 1) ≡ m.after (world_after m n) (frame_at (script_columns m.scripts) n ++ bot_entries m (world_after m n))
  world_more n = rw add-one refl

  play_of : (n c : ℕ) → n < frames_of m.scripts → slice_get (bot_plays m (frames_of m.scripts) c) n ≡ Some (m.orders (world_after m n) c)
  play_of n c before = get_range (λ (k : ℕ). m.orders (world_after m k) c) 0 (frames_of m.scripts) n before ∙ ap (λ (k : ℕ). Some (m.orders (world_after m k) c)) (let same : 0 + n ≡ n = omega arith in same)

  bots_frame : (n a k : ℕ) → n < frames_of m.scripts → frame_at (map (bot_column m) (range_with_len a k)) n ≡ map (λ (c : ℕ). Play (m.orders (world_after m n) c)) (range_with_len a k)
  bots_frame n a zero before = refl
  bots_frame n a (suc k) before =
      ap₂ (λ (e : Entry) (l : List Entry). e ∷ l)
      (ap (λ at. or_leave (entry_from at true)) (play_of n a before))
      (bots_frame n (a + 1) k before)

  pub frame_is : (n : ℕ) → n < frames_of m.scripts → frame_at (match_columns m) n ≡ frame_at (script_columns m.scripts) n ++ bot_entries m (world_after m n)
  frame_is n before =
      frame_append (script_columns m.scripts) (map (bot_column m) (range_with_len (length m.scripts) m.bots)) n
      ∙ ap (λ (l : List Entry). frame_at (script_columns m.scripts) n ++ l) (bots_frame n (length m.scripts) m.bots before)

  pub world_is : (n : ℕ) → n ≤ frames_of m.scripts → world_at m.after m.start (match_columns m) n ≡ world_after m n
  world_is zero within = refl
  world_is (suc n) within = ap₂ m.after (world_is n (omega arith)) (frame_is n (omega arith))

  pub end_world : world_after m (frames_of m.scripts) ≡ match_world m
  end_world = sym (world_is (frames_of m.scripts) (omega arith))

  columns_long : length (match_columns m) ≡ length m.scripts + m.bots
  columns_long =
      let all = length-append (script_columns m.scripts) (map (bot_column m) (range_with_len (length m.scripts) m.bots)) in
      let scripts = script_left m.scripts in
      let bots = length-map-range_with_len (bot_column m) (length m.scripts) m.bots in
      omega arith

  bot_at : (c : ℕ) → length m.scripts ≤ c → c < length m.scripts + m.bots → column_of (match_columns m) c ≡ bot_column m c
  bot_at c past below =
      after_at m.scripts (map (bot_column m) (range_with_len (length m.scripts) m.bots)) (c - length m.scripts) c (omega arith)
      ∙ get_or-map-range_with_len (bot_column m) (length m.scripts) m.bots (c - length m.scripts) c no_column (omega arith) (omega arith)

  entry_play : (n c : ℕ) → n < frames_of m.scripts → entry_at (bot_column m c) n ≡ Some (Play (m.orders (world_after m n) c))
  entry_play n c before = ap (λ at. entry_from at (true && (n == length_of (bot_column m c)))) (play_of n c before)

  entry_end : (c : ℕ) → entry_at (bot_column m c) (frames_of m.scripts) ≡ Some Leave
  entry_end c =
      let long = plays_length (frames_of m.scripts) c in
      ap₂ (λ at (b : Bool). entry_from at (true && b))
      (slice_get_past (bot_plays m (frames_of m.scripts) c) (frames_of m.scripts) (omega arith))
      (same_number (frames_of m.scripts) (length_of (bot_column m c)) long)

  pub is_played : IsPlayed m (match_columns m)
  is_played =
      record {
        clients = columns_long;
        scripts = λ c below. script_at m.scripts (map (bot_column m) (range_with_len (length m.scripts) m.bots)) c below;
        bots = λ c n past below before.
            let long = columns_long in
            ap (λ (k : Column). entry_at k n) (bot_at c past (omega arith))
            ∙ entry_play n c before
            ∙ ap (λ (w : W). Some (Play (m.orders w c))) (sym (world_is n (omega arith)));
        ends = λ c past below.
            let long = columns_long in
            ap (λ (k : Column). entry_at k (frames_of m.scripts)) (bot_at c past (omega arith)) ∙ entry_end c;
      }

  -- The table of a run.
  pub is_filled : (table : FrameTable) (pass : Pass) → IsPassOf table pass → length (plan_of table) ≡ length m.scripts + m.bots → (view_of pass).share ≡ 2 ^ 62 →
      ((c : ℕ) → c < length m.scripts → IsAll (standing pass c) (script_column (plays_of m.scripts c))) →
      ((c : ℕ) → length m.scripts ≤ c → c < length (plan_of table) → IsAll (standing pass c) (bot_column m c)) → IsFilled (match_columns m) table pass
  is_filled table pass of_table plan share scripts bots =
      record {
        of_table = of_table;
        clients = plan ∙ sym columns_long;
        share = share;
        columns = λ c below. (which c below).0;
        left = λ c below. (which c below).1;
      }
    where
      Holds : Column → ℕ → Type 0
      Holds column c = IsAll (standing pass c) column × (column.left ≡ true)

      which : (c : ℕ) → c < length (match_columns m) → Holds (column_of (match_columns m) c) c
      which c below =
          let long = columns_long in
          ⊎_elim
          (λ here. subst (λ (k : Column). Holds k c) (sym (script_at m.scripts (map (bot_column m) (range_with_len (length m.scripts) m.bots)) c here)) (scripts c here, refl))
          (λ past. subst (λ (k : Column). Holds k c) (sym (bot_at c past (omega arith))) (bots c past (omega arith), refl))
          (below_or c (length m.scripts))

-- Without bots.
pub no_bots : {W : Type 0} (m : BotMatch W) → m.bots ≡ 0 → match_columns m ≡ script_columns m.scripts
no_bots m none = ap (λ (k : ℕ). script_columns m.scripts ++ map (bot_column m) (range_with_len (length m.scripts) k)) none ∙ append-nil (script_columns m.scripts)

pub filled_alone : {W : Type 0} (m : BotMatch W) (table : FrameTable) (pass : Pass) → m.bots ≡ 0 → IsFilled (match_columns m) table pass → IsFilled (script_columns m.scripts) table pass
filled_alone m table pass none so = subst (λ (l : List Column). IsFilled l table pass) (no_bots m none) so

pub world_alone : {W : Type 0} (m : BotMatch W) → m.bots ≡ 0 → match_world m ≡ world_of m.after m.start m.scripts
world_alone m none = ap (λ (l : List Column). world_at m.after m.start l (frames_of m.scripts)) (no_bots m none)

-- What holds of a value that a call gives.
pub if_ok : {T E : Type 0} (r : Result T E) (P Q : T → Type 0) → ((x : T) → P x → Q x) → IfOk r P → IfOk r Q
if_ok (Ok x) P Q more so = more x so
if_ok (Err e) P Q more so = tt

pub on_ok : {T E : Type 0} (r : Result T E) (P Q : Type 0) → (P → Q) → OnOk r P → OnOk r Q
on_ok (Ok x) P Q more so = more so
on_ok (Err e) P Q more so = tt
