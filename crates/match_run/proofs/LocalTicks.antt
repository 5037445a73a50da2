-- The ticking thread.
use Rattle.std.proofs.Common.{◌≡◌, true, ℕ, suc, ◌+◌, ◌<◌, ◌≤◌, ◌⊎◌, List, [], ◌∷◌, ◌++◌, length, map, take, refl, sym, ap, ◌∙◌, subst, arith}
use Rattle.std.specs.List.{range_with_len}
use Rattle.std.proofs.lemmas.List.FromFn.{length-map-range_with_len}
use Rattle.game_orders.specs.declared.order.Order.{Order}
use Rattle.game_orders.specs.declared.entry.Entry.{Entry}
use Rattle.game_orders.specs.declared.entry.Entry.TheVariants.{Play}
use Rattle.frame_core.specs.Column.{Column}
use Rattle.frame_core.specs.Ready.{frame_at}
use Rattle.frame_core.specs.declared.ready.Ready.{Ready}
use Rattle.frame_core.specs.declared.ready.Ready.TheVariants.{Yes, Over}
use Rattle.drill_words.specs.Scripts.{plays_of}
use Rattle.frame_table.specs.declared.pass.Pass.{Pass}
use Rattle.frame_table.specs.declared.table.FrameTable.{FrameTable}
use Rattle.frame_table.specs.Word.{whole_of}
use Rattle.frame_table.specs.Calls.{view_of, standing, HasSeen, IsPassOf, IsLater, MeansReadySeen}
use Rattle.match_run.specs.Bots.{BotMatch, bot_column, bot_entries, bot_plays}
use Rattle.match_run.specs.Feeding.{MayFeedAll, HasFed, HasFedAll, HasEndedAll}
use Rattle.match_run.specs.Local.{script_column, script_columns, frames_of, IsAll}
use Rattle.match_run.specs.Passes.{IsLocalPass, KnowsAllSeen, IsStepped}
use Rattle.match_run.specs.declared.taken.Taken.{Taken}
use Rattle.match_run.specs.Taken.{AreTaken}
use Rattle.match_run.proofs.BotColumns.{plays_length, plays_more, world_more}
use Rattle.match_run.proofs.TakenFrames.{taken_later}
use Rattle.match_run.proofs.LocalPasses.{later_local, later_knows}
use Rattle.match_run.proofs.Splitting.{Scripts}

-- n frames were ticked.
pub record TickedSoFar {W : Type 0} (m : BotMatch W) (clients_of steps : W → ℕ) (table : FrameTable) (start pass : Pass) (world : W) (taken : List Taken) (n : ℕ) : Type 0 where
  pub local : IsLocalPass m.scripts table pass
  pub knows : KnowsAllSeen m.scripts pass
  pub share : (view_of pass).share ≡ (view_of start).share
  pub fed : HasFedAll (length m.scripts) table (bot_plays m n) pass
  pub stepped : IsStepped m clients_of steps world n
  pub held : AreTaken m.scripts taken n

pub may_feed_all : (clients : ℕ) (table : FrameTable) (plays : ℕ → List (List Order)) (pass : Pass) → HasFedAll clients table plays pass → MayFeedAll clients table pass
may_feed_all clients table plays pass fed c past below = (fed c past below).may

module _ {W : Type 0} (m : BotMatch W) (clients_of steps : W → ℕ) (table : FrameTable) (start : Pass) where
  pub ticked_none : (world : W) (taken : List Taken) → world ≡ m.start → IsLocalPass m.scripts table start → KnowsAllSeen m.scripts start → HasFedAll (length m.scripts) table (λ c. []) start → clients_of world ≡ length m.scripts + m.bots → steps world ≡ 0 → AreTaken m.scripts taken 0 → TickedSoFar m clients_of steps table start start world taken 0
  ticked_none world taken is local knows fed clients fresh held = record {
    local = local;
    knows = knows;
    share = refl;
    fed = fed;
    stepped = record { world_is = is; clients = clients; steps_are = fresh };
    held = held;
  }

  pub ordered_length : (world : W) (ordered : List Entry) → ordered ≡ map (λ (c : ℕ). Play (m.orders world c)) (range_with_len (length m.scripts) m.bots) → length ordered ≡ m.bots
  ordered_length world ordered is = ap length is ∙ length-map-range_with_len (λ (c : ℕ). Play (m.orders world c)) (length m.scripts) m.bots

  pub ticked_more : (p q r : Pass) (world next : W) (taken after : List Taken) (ordered : List Entry) (n : ℕ) → TickedSoFar m clients_of steps table start p world taken n →
      ((plays : ℕ → List (List Order)) → ((c : ℕ) → length (plays c) ≡ n) → HasFedAll (length m.scripts) table plays p → HasFedAll (length m.scripts) table (λ c. plays c ++ m.orders world c ∷ []) q) →
      ((plays : ℕ → List (List Order)) → HasFedAll (length m.scripts) table plays q → HasFedAll (length m.scripts) table plays r) →
      IsLocalPass m.scripts table r → KnowsAllSeen m.scripts r → (view_of r).share ≡ (view_of start).share →
      ordered ≡ map (λ (c : ℕ). Play (m.orders world c)) (range_with_len (length m.scripts) m.bots) →
      next ≡ m.after world (frame_at (script_columns m.scripts) n ++ ordered) → clients_of next ≡ clients_of world → steps next ≡ steps world + 1 → AreTaken m.scripts after n →
      TickedSoFar m clients_of steps table start r next after (n + 1)
  ticked_more p q r world next taken after ordered n far put waited local knows share ordered_is is clients more held =
      let at = far.stepped.world_is in
      let fed = waited (λ c. bot_plays m n c ++ m.orders world c ∷ []) (put (bot_plays m n) (λ c. plays_length m n c) far.fed) in
      record {
        local = local;
        knows = knows;
        share = share;
        fed = λ c past below. subst (λ (l : List (List Order)). HasFed l (standing r c))
            (ap (λ (w : W). bot_plays m n c ++ m.orders w c ∷ []) at ∙ sym (plays_more m n c)) (fed c past below);
        stepped = record {
          world_is =
              is
              ∙ ap (λ (l : List Entry). m.after world (frame_at (script_columns m.scripts) n ++ l)) ordered_is
              ∙ ap (λ (w : W). m.after w (frame_at (script_columns m.scripts) n ++ bot_entries m w)) at
              ∙ sym (world_more m n);
          clients = clients ∙ far.stepped.clients;
          steps_are = more ∙ ap (λ k. k + 1) far.stepped.steps_are;
        };
        held = taken_later m.scripts after n held;
      }

  pub ended_all : (p q r : Pass) (world : W) (taken : List Taken) (n : ℕ) → TickedSoFar m clients_of steps table start p world taken n → n ≡ frames_of m.scripts →
      ((plays : ℕ → List (List Order)) → HasFedAll (length m.scripts) table plays p → HasEndedAll (length m.scripts) table (λ c. record { plays = plays c; left = true }) q) →
      ((columns : ℕ → Column) → HasEndedAll (length m.scripts) table columns q → HasEndedAll (length m.scripts) table columns r) → HasEndedAll (length m.scripts) table (bot_column m) r
  ended_all p q r world taken n far same left waited =
      waited (bot_column m) (subst (λ k. HasEndedAll (length m.scripts) table (λ c. record { plays = bot_plays m k c; left = true }) q) same (left (bot_plays m n) far.fed))

-- A frame is waited for.
pub record WaitedSoFar (scripts : Scripts) (table : FrameTable) (start pass : Pass) : Type 0 where
  pub local : IsLocalPass scripts table pass
  pub knows : KnowsAllSeen scripts pass
  pub share : (view_of pass).share ≡ (view_of start).share

pub waited_later : (scripts : Scripts) (table : FrameTable) (start p q : Pass) → WaitedSoFar scripts table start p → IsPassOf table q → IsLater (view_of p) (view_of q) → WaitedSoFar scripts table start q
waited_later scripts table start p q far is later = record {
  local = later_local scripts table p q far.local is later;
  knows = later_knows scripts table p q far.local is later far.knows;
  share = later.share ∙ far.share;
}

-- All clients have something for the frame.
pub yes_seen : (scripts : Scripts) (table : FrameTable) (pass : Pass) (n : ℕ) (answer : Ready) → IsLocalPass scripts table pass → answer ≡ Yes → MeansReadySeen (view_of pass) n answer →
    (c : ℕ) → c < length scripts → HasSeen (standing pass c).reach n
yes_seen scripts table pass n answer local is means c here =
    let yes : MeansReadySeen (view_of pass) n Yes = subst (MeansReadySeen (view_of pass) n) is means in
    let marks = local.of_table.marks in
    let clients = local.clients in
    yes.0 c (omega arith)

-- All that was seen at the end.
pub over_all : (scripts : Scripts) (table : FrameTable) (pass : Pass) (n : ℕ) (answer : Ready) → IsLocalPass scripts table pass → KnowsAllSeen scripts pass → answer ≡ Over → MeansReadySeen (view_of pass) n answer →
    (c : ℕ) → c < length scripts → IsAll (standing pass c) (script_column (plays_of scripts c)) × (length (plays_of scripts c) ≤ n)
over_all scripts table pass n answer local knows is means c below =
    let over : MeansReadySeen (view_of pass) n Over = subst (MeansReadySeen (view_of pass) n) is means in
    let marks = local.of_table.marks in
    let clients = local.clients in
    let left = over c (omega arith) in
    let end = (local.columns c below).within.1 left.0 in
    let reach : (standing pass c).reach ≡ whole_of (script_column (plays_of scripts c)) = λ i. record { plays = end i; left = left.0 i } in (
      record {
        reach = reach;
        known = knows c below ∙ (λ i. record { plays = (ap (λ k. take k (plays_of scripts c)) end ∙ take_length (plays_of scripts c)) i; left = left.0 i });
      },
      (let l = left.1 in omega arith),
    )
  where
    take_length : (xs : List (List Order)) → take (length xs) xs ≡ xs
    take_length [] = refl
    take_length (x ∷ xs) = ap (λ l. x ∷ l) (take_length xs)

-- The number of frames of the match.
pub longest_most : (scripts : Scripts) (n : ℕ) → ((c : ℕ) → c < length scripts → length (plays_of scripts c) ≤ n) → frames_of scripts ≤ n
longest_most [] n each = omega arith
longest_most (s ∷ scripts) n each =
    let here = each 0 (omega arith) in
    let rest = longest_most scripts n (λ c below. each (suc c) (omega arith)) in
    grind (arith, here, rest)

-- So while one of the scripts has a play, not all have left.
pub not_over : (scripts : Scripts) (table : FrameTable) (pass : Pass) (n : ℕ) (answer : Ready) → IsLocalPass scripts table pass → KnowsAllSeen scripts pass → n < frames_of scripts → answer ≡ Over → MeansReadySeen (view_of pass) n answer → ⊥
not_over scripts table pass n answer local knows played is means =
    let end = longest_most scripts n (λ c below. (over_all scripts table pass n answer local knows is means c below).1) in
    absurd (omega arith)
