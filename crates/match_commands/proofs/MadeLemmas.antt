-- The text of a made match.
use Rattle.std.proofs.Common.{◌≡◌, ℕ, List, ◌++◌, length, Result, Ok, Err, IfOk, subst}
use Rattle.drill.specs.declared.drilled.Drilled.{Drilled}
use Rattle.drill.specs.Drilled.{IsLeftBy}
use Rattle.drill.specs.Record.{record_of}
use Rattle.drill.specs.Report.{closing}
use Rattle.drill.specs.Shown.{shown_server}
use Rattle.drill_words.specs.declared.drill.Drill.{Drill}
use Rattle.drill_words.specs.Drill.{DrillPlain, plain_of}
use Rattle.drill_words.specs.declared.event.Event.{Event}
use Rattle.frame_core.specs.Match.{Match}
use Rattle.game_model.specs.Setup.{Setup}
use Rattle.replay_commands.specs.Matches.{game_match}
use Rattle.match_commands.specs.Made.{closing_of, made_line, made_text}
use Rattle.tick_core.specs.Game.{GameState}

-- From one fact of a value to another.
pub on_ok : {T E : Type 0} (r : Result T E) (P Q : T → Type 0) → ((value : T) → P value → Q value) → IfOk r P → IfOk r Q
on_ok (Ok value) P Q next has = next value has
on_ok (Err error) P Q next has = tt

-- The closing lines are those of the record of the events.
pub closing_is :
    (m : Match GameState) (events : List Event) (left : Drilled GameState) (text : List ℕ) →
    IsLeftBy m events left → text ≡ closing m.hash m.summary left.server left.peers → text ≡ closing_of m events
closing_is m events left text is closes =
    subst (λ peers. text ≡ closing m.hash m.summary (shown_server m (record_of m events)) peers) is.peers
    (subst (λ server. text ≡ closing m.hash m.summary server left.peers) is.server closes)

-- The text, from its parts.
pub made_is :
    (setup : Setup) (drill : Drill) (plain : DrillPlain) (events : ℕ) (closing text : List ℕ) →
    plain_of drill ≡ plain → events ≡ length drill.events → closing ≡ closing_of (game_match setup (plain_of drill)) drill.events →
    text ≡ made_line events ++ closing → text ≡ made_text setup plain
unfolding made_text
made_is setup drill plain events closing text is count end told =
    subst (λ plain. text ≡ made_text setup plain) is
    (subst (λ closing. text ≡ made_line (length drill.events) ++ closing) end
    (subst (λ events. text ≡ made_line events ++ closing) count told))
