-- The canonical text of a drill and of a script: one space between words, numbers without leading
-- zeros, no
-- comments, and a line feed after each line.
use Rattle.std.specs.Prelude.{ℕ, Bool, if◌then◌else◌, List, [], ◌∷◌, ◌++◌, map, codes}
use Rattle.std.specs.List.{flat_map}
use Rattle.std.specs.Fmt.{decimal}
use Rattle.game_orders.specs.declared.order.Order.{Order}
use Rattle.game_orders.specs.declared.order.Order.TheVariants.{Move, Attack, Harvest, Stop}
use Rattle.game_orders.specs.declared.order.Order.TheVariants.{Produce, Cancel, Donate, Pace}
use Rattle.drill_words.specs.declared.event.Event.{Event}
use Rattle.drill_words.specs.declared.event.Event.TheVariants.{Seal, Up, Down, Tick, TickServer}
use Rattle.drill_words.specs.declared.event.Event.TheVariants.{DropClient, Report, Forge, Bye}
use Rattle.drill_words.specs.Hash.{hash_digits}
use Rattle.drill_words.specs.declared.script_words.ScriptPlay.{ScriptPlay}
use Rattle.drill_words.specs.Drill.{DrillPlain}

-- Words with a space between them.
abbrev pub spaced : List (List ℕ) → List ℕ
spaced [] = []
spaced (word ∷ []) = word
spaced (word ∷ (next ∷ words)) = word ++ 32 ∷ spaced (next ∷ words)

-- Lines with a line feed after each.
abbrev pub text_of : List (List ℕ) → List ℕ
text_of [] = []
text_of (line ∷ lines) = line ++ 10 ∷ text_of lines

-- An order's first word, with `+` where it is queued.
abbrev pub queued_word : (word : List ℕ) → Bool → List ℕ
queued_word word queued = if queued then word ++ codes "+" else word

abbrev pub order_words : Order → List (List ℕ)
order_words (Move actor cell queued) =
    queued_word (codes "move") queued ∷ decimal actor ∷ decimal cell.x ∷ decimal cell.y ∷ []
order_words (Attack actor target queued) =
    queued_word (codes "attack") queued ∷ decimal actor ∷ decimal target ∷ []
order_words (Harvest actor cell queued) =
    queued_word (codes "harvest") queued ∷ decimal actor ∷ decimal cell.x ∷ decimal cell.y ∷ []
order_words (Stop actor) = codes "stop" ∷ decimal actor ∷ []
order_words (Produce actor kind) = codes "produce" ∷ decimal actor ∷ decimal kind ∷ []
order_words (Cancel actor) = codes "cancel" ∷ decimal actor ∷ []
order_words (Donate to amount) = codes "donate" ∷ decimal to ∷ decimal amount ∷ []
order_words (Pace ticks) = codes "pace" ∷ decimal ticks ∷ []

-- Orders with `;` between them.
abbrev pub orders_words : List Order → List (List ℕ)
orders_words [] = []
orders_words (order ∷ orders) =
    order_words order ++ flat_map (λ next. codes ";" ∷ order_words next) orders

abbrev pub event_words : Event → List (List ℕ)
event_words (Seal peer orders) = codes "seal" ∷ decimal peer ∷ orders_words orders
event_words (Up packet) = codes "up" ∷ decimal packet ∷ []
event_words (Down peer client frame) =
    codes "down" ∷ decimal peer ∷ decimal client ∷ decimal frame ∷ []
event_words (Tick peer) = codes "tick" ∷ decimal peer ∷ []
event_words TickServer = codes "tick" ∷ codes "server" ∷ []
event_words (DropClient client) = codes "drop" ∷ decimal client ∷ []
event_words (Report peer) = codes "report" ∷ decimal peer ∷ []
event_words (Forge client frame hash) =
    codes "forge" ∷ decimal client ∷ decimal frame ∷ hash_digits hash ∷ []
event_words (Bye peer) = codes "bye" ∷ decimal peer ∷ []

abbrev pub match_words : (clients lag seed : ℕ) → List (List ℕ)
match_words clients lag seed =
    codes "match" ∷ decimal clients ∷ decimal lag ∷ decimal seed ∷ []

abbrev pub event_line : Event → List ℕ
event_line event = spaced (event_words event)

abbrev pub match_line : (clients lag seed : ℕ) → List ℕ
match_line clients lag seed = spaced (match_words clients lag seed)

abbrev pub drill_text : DrillPlain → List ℕ
drill_text drill =
    text_of (match_line drill.clients drill.lag drill.seed ∷ map event_line drill.events)

abbrev pub script_words : (clients seed : ℕ) → List (List ℕ)
script_words clients seed = codes "script" ∷ decimal clients ∷ decimal seed ∷ []

abbrev pub play_words : ScriptPlay → List (List ℕ)
play_words play = decimal play.client ∷ orders_words play.orders

abbrev pub play_line : ScriptPlay → List ℕ
play_line play = spaced (play_words play)

-- The text of a script whose clients have these plays, in the order of its lines.
abbrev pub script_text : (clients seed : ℕ) → List ScriptPlay → List ℕ
script_text clients seed plays = text_of (spaced (script_words clients seed) ∷ map play_line plays)
