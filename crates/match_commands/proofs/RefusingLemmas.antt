-- What the commands on replays refuse, by the steps of their definitions.
use Rattle.std.proofs.Common.{◌≡◌, ◌≢◌, ◌<◌, ◌≤◌, ◌⊎◌, ◌∙◌, ℕ, Bool, true, false, List, [], length, Result, Ok, Err, refl, sym, ap, ap₂, subst, inl, inr, arith}
use Rattle.std.specs.Prelude.{◌==◌, ◌&&◌, ◌||◌, ◌+◌, nat_le, nat_lt, if◌then◌else◌, unwrap_or}
use Rattle.std.proofs.lemmas.Bool.{leb-true, leb-false, ltb-true, ltb-false}
use Rattle.std.proofs.lemmas.Bool.Decides.{eqb_tells}
use Rattle.base.specs.Steps.{◌>>=◌}
use Rattle.command_words.specs.RequestPlain.{MatchPlain, RangePlain, Continue, Local, Save, View, Worlds}
use Rattle.drill_words.specs.declared.drill_fault.DrillFault.{DrillFault}
use Rattle.drill_words.specs.Script.{ScriptPlain, read_script_of}
use Rattle.frame_core.specs.declared.summary.Summary.{Summary}
use Rattle.game_orders.specs.declared.entry.Entry.{Entry}
use Rattle.game_orders.specs.declared.order.Order.{Order}
use Rattle.game_orders.specs.declared.limits.TheConstants.{MAX_CLIENTS}
use Rattle.local_command.specs.LocalText.{local_step, match_step, script_step, too_many_clients}
use Rattle.game_bots.specs.GameOrders.{game_orders}
use Rattle.tick_core.specs.Game.{game_start, game_after, game_hash, game_summary}
use Rattle.game_model.specs.Setup.{Setup}
use Rattle.game_model.specs.World.{clients_of}
use Rattle.game_save.specs.declared.saved.Saved.{Saved}
use Rattle.game_save.specs.ReadSave.{read_save_of}
use Rattle.replay_file.specs.declared.replay.Replay.{Replay}
use Rattle.replay_file.specs.Reading.{read_of}
use Rattle.replay_run.specs.Rerun.{frame_count}
use Rattle.command_answers.specs.Contents.{Contents}
use Rattle.command_answers.specs.Reply.{Reply, done}
use Rattle.command_answers.specs.Step.{Step}
use Rattle.replay_commands.specs.Refusals.{read_step}
use Rattle.save_commands.specs.Refusals.{of_match, with_frames}
use Rattle.replay_commands.specs.SaveRefusals.{read_save_step}
use Rattle.save_commands.specs.Saves.{continued_reply, save_bytes_at, saved_reply}
use Rattle.view_command.specs.Views.{client_step, no_such_client, view_text}
use Rattle.match_commands.specs.Refusing.{Accepts, AcceptsSave, AcceptsScript, IsOtherMatch, IsRefusedWhere, other_match, too_few}
use Rattle.match_commands.specs.Request.{answer_of, text_reply}
use Rattle.match_commands.specs.Worlds.{worlds_over}
use Rattle.worlds_command.specs.Chosen.{chosen_of}
use Rattle.worlds_command.specs.Worlds.{fitting_step, worlds_text}

-- A step with a value, and what follows.
then_is : {T U : Type 0} (step : Step T) (value : T) (next : T → Step U) → step ≡ Ok value → (step >>= next) ≡ next value
then_is step value next is = ap (λ step. step >>= next) is

by_test :
    (a b : ℕ) (is : Bool) → nat_lt a b ≡ is → (name : List ℕ) (r : Replay) (reply : Replay → Reply) →
    IsRefusedWhere (a < b) ((if is then Err (too_few name) else Ok r) >>= λ long. Ok (reply long)) (too_few name)
by_test a b true test name r reply =
    record { refused = λ so. refl; accepted = λ never. absurd (never (ltb-true a b test)) }
by_test a b false test name r reply =
    record { refused = λ so. absurd (omega (arith, ltb-false a b test, so)); accepted = λ never. refl }

-- The same of a step that is this one.
at_step : (so : Type 0) (step whole : Step Reply) (reply : Reply) → whole ≡ step → IsRefusedWhere so step reply → IsRefusedWhere so whole reply
at_step so step whole reply is refused = subst (λ step. IsRefusedWhere so step reply) (sym is) refused

pub saves_where :
    (query : MatchPlain) (frames : ℕ) (to : List ℕ) (contents : Contents) (made : Setup × ℕ) (r : Replay) → Accepts query contents made r →
    IsRefusedWhere (frame_count r < frames) (answer_of (Save query frames to) contents) (too_few query.file)
saves_where query frames to contents made r accepts =
    at_step (frame_count r < frames) (with_frames query.file frames r >>= λ long. Ok (saved_reply to frames (save_bytes_at made.1 frames made.0 long))) _ (too_few query.file)
    (then_is _ made _ accepts.stands ∙ then_is (read_step query.file (read_of made.1 (unwrap_or contents.replay []))) r _ accepts.reads)
    (by_test (frame_count r) frames (nat_lt (frame_count r) frames) refl query.file r (λ long. saved_reply to frames (save_bytes_at made.1 frames made.0 long)))

-- The steps of `continue` after its files were accepted.
abbrev fitted : MatchPlain → Setup → Saved → Replay → Step Reply
fitted query setup saved r = do
  same ← of_match query.file saved r
  long ← with_frames query.file saved.frames same
  Ok (continued_reply setup saved long)

continues_so :
    (query : MatchPlain) (save : List ℕ) (contents : Contents) (made : Setup × ℕ) (saved : Saved) (r : Replay) →
    Accepts query contents made r → AcceptsSave save contents made saved → answer_of (Continue query save) contents ≡ fitted query made.0 saved r
continues_so query save contents made saved r accepts save_accepts =
    then_is _ made _ accepts.stands
    ∙ then_is (read_save_step save (read_save_of made.1 made.0 (unwrap_or contents.first []))) saved _ save_accepts
    ∙ then_is (read_step query.file (read_of made.1 (unwrap_or contents.replay []))) r _ accepts.reads

-- The test of a match, by its two parts.
same_match : (a b c d : ℕ) → ((a ≢ b) ⊎ (c ≢ d) → ⊥) → ((a == b) && (c == d)) ≡ true
same_match a b c d never = by (a == b) (c == d) (eqb_tells a b) (eqb_tells c d) never
  where
    by : (x y : Bool) → ((x ≡ true) × (a ≡ b)) ⊎ ((x ≡ false) × (a ≢ b)) → ((y ≡ true) × (c ≡ d)) ⊎ ((y ≡ false) × (c ≢ d)) →
        ((a ≢ b) ⊎ (c ≢ d) → ⊥) → (x && y) ≡ true
    by x y (inl one) (inl two) never = ap₂ (λ x y. x && y) one.0 two.0
    by x y (inl one) (inr other) never = absurd (never (inr other.1))
    by x y (inr other) second never = absurd (never (inl other.1))

not_same : (a b c d : ℕ) → (a ≢ b) ⊎ (c ≢ d) → ((a == b) && (c == d)) ≡ false
not_same a b c d differs = by (a == b) (c == d) (eqb_tells a b) (eqb_tells c d) differs
  where
    by : (x y : Bool) → ((x ≡ true) × (a ≡ b)) ⊎ ((x ≡ false) × (a ≢ b)) → ((y ≡ true) × (c ≡ d)) ⊎ ((y ≡ false) × (c ≢ d)) →
        (a ≢ b) ⊎ (c ≢ d) → (x && y) ≡ false
    by x y (inl one) (inl two) (inl apart) = absurd (apart one.1)
    by x y (inl one) (inl two) (inr apart) = absurd (apart two.1)
    by x y (inl one) (inr other) differ = ap₂ (λ x y. x && y) one.0 other.0
    by x y (inr other) second differ = ap (λ x. x && y) other.0

pub other_refused :
    (query : MatchPlain) (save : List ℕ) (contents : Contents) (made : Setup × ℕ) (saved : Saved) (r : Replay) →
    Accepts query contents made r → AcceptsSave save contents made saved → IsOtherMatch saved r →
    answer_of (Continue query save) contents ≡ Err (other_match query.file)
other_refused query save contents made saved r accepts save_accepts other =
    continues_so query save contents made saved r accepts save_accepts
    ∙ ap (λ (is : Bool). (if is then Ok r else Err (other_match query.file)) >>= λ same. with_frames query.file saved.frames same >>= λ long. Ok (continued_reply made.0 saved long))
    (not_same r.clients (clients_of saved.world) r.seed saved.world.seed other)

pub continues_where :
    (query : MatchPlain) (save : List ℕ) (contents : Contents) (made : Setup × ℕ) (saved : Saved) (r : Replay) →
    Accepts query contents made r → AcceptsSave save contents made saved → (IsOtherMatch saved r → ⊥) →
    IsRefusedWhere (frame_count r < saved.frames) (answer_of (Continue query save) contents) (too_few query.file)
continues_where query save contents made saved r accepts save_accepts same =
    at_step (frame_count r < saved.frames) (with_frames query.file saved.frames r >>= λ long. Ok (continued_reply made.0 saved long)) _ (too_few query.file)
    (continues_so query save contents made saved r accepts save_accepts
    ∙ ap (λ (is : Bool). (if is then Ok r else Err (other_match query.file)) >>= λ same. with_frames query.file saved.frames same >>= λ long. Ok (continued_reply made.0 saved long))
    (same_match r.clients (clients_of saved.world) r.seed saved.world.seed same))
    (by_test (frame_count r) saved.frames (nat_lt (frame_count r) saved.frames) refl query.file r (λ long. continued_reply made.0 saved long))

view_test :
    (a b : ℕ) (is : Bool) → nat_lt a b ≡ is → (text : List ℕ) →
    IsRefusedWhere (b ≤ a) (if is then Ok (done text) else Err no_such_client) no_such_client
view_test a b true test text = record { refused = λ so. absurd (omega (arith, ltb-true a b test, so)); accepted = λ never. refl }
view_test a b false test text = record { refused = λ so. refl; accepted = λ never. absurd (never (ltb-false a b test)) }

pub views_where :
    (query : MatchPlain) (client : ℕ) (contents : Contents) (made : Setup × ℕ) (r : Replay) → Accepts query contents made r →
    IsRefusedWhere (r.clients ≤ client) (answer_of (View query client) contents) no_such_client
views_where query client contents made r accepts =
    at_step (r.clients ≤ client) (client_step made.0 r client) _ no_such_client
    (then_is _ made _ accepts.stands ∙ then_is (read_step query.file (read_of made.1 (unwrap_or contents.replay []))) r _ accepts.reads)
    (view_test client r.clients (nat_lt client r.clients) refl (view_text made.0 r client))

-- Two values as one, of types that need no name.
abbrev pair : {A B : Type 0} → A → B → A × B
pair a b = (a, b)

-- The steps of `worlds` after its files were accepted, by the test of the numbers.
abbrev told_step : MatchPlain → RangePlain → Setup → Replay → Bool → Step Reply
told_step query range setup r is =
    text_reply ((if is then Err (too_few query.file) else Ok (pair r (chosen_of range.from range.to range.every (frame_count r))))
    >>= λ found. Ok (worlds_text setup found.0 found.1))

worlds_so :
    (query : MatchPlain) (range : RangePlain) (contents : Contents) (made : Setup × ℕ) (r : Replay) → Accepts query contents made r →
    answer_of (Worlds query range) contents
    ≡ told_step query range made.0 r (nat_lt (frame_count r) range.from || nat_lt (frame_count r) (unwrap_or range.to (frame_count r)))
worlds_so query range contents made r accepts =
    ap (λ (step : Step (Setup × ℕ)). text_reply (step >>= worlds_over query range (unwrap_or contents.replay []))) accepts.stands
    ∙ ap (λ (step : Step Replay). text_reply ((step >>= λ r. fitting_step query.file r (chosen_of range.from range.to range.every (frame_count r)))
    >>= λ found. Ok (worlds_text made.0 found.0 found.1))) accepts.reads

told_test :
    (query : MatchPlain) (range : RangePlain) (setup : Setup) (r : Replay) (n a b : ℕ) (x y : Bool) → nat_lt n a ≡ x → nat_lt n b ≡ y →
    IsRefusedWhere ((n < a) ⊎ (n < b)) (told_step query range setup r (x || y)) (too_few query.file)
told_test query range setup r n a b true y one two =
    record { refused = λ so. refl; accepted = λ never. absurd (never (inl (ltb-true n a one))) }
told_test query range setup r n a b false true one two =
    record { refused = λ so. refl; accepted = λ never. absurd (never (inr (ltb-true n b two))) }
told_test query range setup r n a b false false one two =
    record { refused = λ so. absurd (neither n a b (ltb-false n a one) (ltb-false n b two) so); accepted = λ never. refl }
  where
    neither : (n a b : ℕ) → a ≤ n → b ≤ n → (n < a) ⊎ (n < b) → ⊥
    neither n a b first second (inl so) = absurd (omega (arith, first, so))
    neither n a b first second (inr so) = absurd (omega (arith, second, so))

pub worlds_where :
    (query : MatchPlain) (range : RangePlain) (contents : Contents) (made : Setup × ℕ) (r : Replay) → Accepts query contents made r →
    IsRefusedWhere ((frame_count r < range.from) ⊎ (frame_count r < unwrap_or range.to (frame_count r))) (answer_of (Worlds query range) contents) (too_few query.file)
worlds_where query range contents made r accepts =
    at_step _ (told_step query range made.0 r (nat_lt (frame_count r) range.from || nat_lt (frame_count r) (unwrap_or range.to (frame_count r)))) _ (too_few query.file)
    (worlds_so query range contents made r accepts)
    (told_test query range made.0 r (frame_count r) range.from (unwrap_or range.to (frame_count r)) _ _ refl refl)

-- ---- `local`

count_test :
    (n most : ℕ) (is : Bool) → nat_le n most ≡ is → (text : List ℕ) (reply : Reply) →
    IsRefusedWhere (most < n) (text_reply (if is then Ok text else Err reply)) reply
count_test n most true test text reply = record { refused = λ so. absurd (omega (arith, leb-true n most test, so)); accepted = λ never. refl }
count_test n most false test text reply = record { refused = λ so. refl; accepted = λ never. absurd (never (leb-false n most test)) }

local_where :
    {W : Type 0} (after : W → List Entry → W) (hash : W → ℕ) (summary : W → Summary) (orders : W → ℕ → List Order) (made : ℕ → ℕ → W)
    (name : List ℕ) (bots : ℕ) (read : Result ScriptPlain DrillFault) (script : ScriptPlain) → read ≡ Ok script →
    IsRefusedWhere (MAX_CLIENTS < length script.scripts + bots) (text_reply (script_step after hash summary orders made name bots read)) (too_many_clients name)
local_where after hash summary orders made name bots read script is =
    at_step _ (text_reply (match_step after hash summary orders made name bots script)) _ (too_many_clients name)
    (ap (λ (read : Result ScriptPlain DrillFault). text_reply (script_step after hash summary orders made name bots read)) is)
    (count_test (length script.scripts + bots) MAX_CLIENTS (nat_le (length script.scripts + bots) MAX_CLIENTS) refl _ (too_many_clients name))

pub locals_where :
    (query : MatchPlain) (bots : ℕ) (contents : Contents) (setup : Setup) (script : ScriptPlain) → AcceptsScript query contents setup script →
    IsRefusedWhere (MAX_CLIENTS < length script.scripts + bots) (answer_of (Local query bots) contents) (too_many_clients query.file)
locals_where query bots contents setup script accepts =
    at_step _ (text_reply (local_step setup query.file (unwrap_or contents.script []) bots)) _ (too_many_clients query.file)
    (ap (λ (step : Step Setup). text_reply (step >>= λ setup. local_step setup query.file (unwrap_or contents.script []) bots)) accepts.stands)
    (local_where game_after game_hash game_summary game_orders (game_start setup) query.file bots (read_script_of false (unwrap_or contents.script [])) script accepts.reads)
