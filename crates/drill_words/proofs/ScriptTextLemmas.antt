-- The canonical text of a script is read back as exactly its plays.
use Rattle.std.proofs.Common.{◌≡◌, ℕ, ◌+◌, ◌-◌, ◌<◌, ◌≤◌, ◌==◌, ◌^◌, Bool, true, false, List, []}
use Rattle.std.proofs.Common.{◌∷◌, length, map}
use Rattle.std.proofs.Common.{cond, Ok, Err, refl, ap, ap₂, ◌∙◌, arith}
use Rattle.std.specs.Prelude.{Result, nat_lt, nat_le, not}
use Rattle.std.specs.List.{list_all}
use Rattle.std.specs.Fmt.{decimal}
use Rattle.std.proofs.lemmas.Bool.{and_parts, ne_eqb, ltb-true, leb-true}
use Rattle.base.specs.Lines.{lines_of}
use Rattle.base.specs.Steps.{◌>>=◌}
use Rattle.game_orders.specs.declared.order.Order.{Order}
use Rattle.game_orders.specs.declared.limits.TheConstants.{MAX_CLIENTS, MAX_ORDERS}
use Rattle.drill_words.specs.declared.limits.TheConstants.{MAX_EVENTS}
use Rattle.drill_words.specs.declared.word_fault.WordFault.{WordFault}
use Rattle.drill_words.specs.declared.script_words.ScriptHead.{ScriptHead}
use Rattle.drill_words.specs.declared.script_words.ScriptPlay.{ScriptPlay}
use Rattle.drill_words.specs.declared.drill_fault.DrillFault.{DrillFault}
use Rattle.drill_words.specs.declared.drill_fault.DrillFault.TheVariants.{TooManyEvents}
use Rattle.drill_words.specs.KeptLine.{KeptLine, kept_from, is_kept, is_comment}
use Rattle.drill_words.specs.Read.{Read, after_word, number_at, at_end}
use Rattle.drill_words.specs.DrillFault.{on_line}
use Rattle.drill_words.specs.OrderList.{orders_at}
use Rattle.drill_words.specs.Event.{order_in_range}
use Rattle.drill_words.specs.ScriptLine.{most_clients, script_head_of, script_play_of}
use Rattle.drill_words.specs.Script.{play_on, plays_from, scripts_of, ScriptPlain}
use Rattle.drill_words.specs.Script.{script_of, read_script_of, play_fits}
use Rattle.drill_words.specs.Text.{orders_words, script_words, play_words, play_line, script_text}
use Rattle.drill_words.specs.Text.{text_of}
use Rattle.drill_words.proofs.ReadLemmas.{decimal_all, number_at-decimal}
use Rattle.drill_words.proofs.SpacedLemmas.{is_word, kept_line, kept_spaced}
use Rattle.drill_words.proofs.EventLineLemmas.{client_back, orders_back, client_word, number_word}
use Rattle.drill_words.proofs.EventLineLemmas.{orders_words-are}

-- The first line.
abbrev head_seed : ℕ → Read ℕ → Result ScriptHead WordFault
head_seed clients read = read >>= λ seed. at_end
    (record { clients = clients; seed = seed.0 }) seed.1

abbrev head_clients : Read ℕ → Result ScriptHead WordFault
head_clients read = read >>= λ clients. head_seed clients.0 (number_at 0 (2 ^ 32 - 1) clients.1)

few_clients : (solo : Bool) (clients : ℕ) → clients ≤ most_clients solo → clients ≤ MAX_CLIENTS
few_clients true clients few = omega (arith, few)
few_clients false clients few = few

head_back :
    (solo : Bool) (clients seed : ℕ) → 1 ≤ clients → clients ≤ most_clients solo → seed < 2 ^ 32 →
    script_head_of solo (script_words clients seed) ≡ Ok (record { clients = clients; seed = seed })
unfolding script_head_of after_word
head_back solo clients seed some few fits =
    let low = few_clients solo clients few in
    ap head_clients (number_at-decimal 1 (most_clients solo) clients (decimal seed ∷ []) some few
    (omega (arith, low)))
    ∙ ap (head_seed clients) (number_at-decimal 0 (2 ^ 32 - 1) seed [] (omega arith)
    (omega (arith, fits)) (omega (arith, fits)))

head_are : (clients seed : ℕ) → clients ≤ MAX_CLIENTS → seed < 2 ^ 32 →
    list_all is_word (script_words clients seed) ≡ true
head_are clients seed few fits =
    number_word clients (2 ^ 8) (decimal seed ∷ []) (omega (arith, few)) (omega arith)
    (number_word seed (2 ^ 32) [] fits (omega arith) refl)

-- The line of a play.
abbrev play_orders : ℕ → Read (List Order) → Result ScriptPlay WordFault
play_orders client read = read >>= λ orders. at_end
    (record { client = client; orders = orders.0 }) orders.1

abbrev play_client : Read ℕ → Result ScriptPlay WordFault
play_client read = read >>= λ client. play_orders client.0 (orders_at client.1)

play_back :
    (clients : ℕ) (play : ScriptPlay) → clients ≤ MAX_CLIENTS → play_fits clients play ≡ true →
    script_play_of clients (play_words play) ≡ Ok play
unfolding script_play_of
play_back clients play few fits =
    let parts = and_parts (nat_lt play.client clients) _ fits in
    let orders = and_parts (nat_le (length play.orders) MAX_ORDERS)
    (list_all order_in_range play.orders) parts.1 in
    ap play_client (client_back clients play.client (orders_words play.orders) few parts.0)
    ∙ ap (play_orders play.client) (orders_back play.orders
    (leb-true (length play.orders) MAX_ORDERS orders.0) orders.1)

play_are : (clients : ℕ) (play : ScriptPlay) → clients ≤ MAX_CLIENTS →
    play_fits clients play ≡ true → list_all is_word (play_words play) ≡ true
play_are clients play few fits =
    let parts = and_parts (nat_lt play.client clients) _ fits in
    let orders = and_parts (nat_le (length play.orders) MAX_ORDERS)
    (list_all order_in_range play.orders) parts.1 in
    client_word clients play.client (orders_words play.orders) few parts.0
    (orders_words-are play.orders orders.1)

no_hash : ℕ → Bool
no_hash b = not (b == 35)

no_comment : (word : List ℕ) → list_all no_hash word ≡ true → is_comment word ≡ false
unfolding no_hash
no_comment [] all = refl
no_comment (b ∷ word) all = not_true (b == 35)
    (and_parts (not (b == 35)) (list_all no_hash word) all).0
  where
    not_true : (b : Bool) → not b ≡ true → b ≡ false
    not_true true is = absurd cc
    not_true false is = refl

play_kept : (play : ScriptPlay) → play.client < 2 ^ 64 → is_kept (play_words play) ≡ true
unfolding no_hash
play_kept play small = ap not (no_comment (decimal play.client)
    (decimal_all no_hash refl play.client small))

small_client : (clients : ℕ) (play : ScriptPlay) → clients ≤ MAX_CLIENTS →
    play_fits clients play ≡ true → play.client < 2 ^ 64
small_client clients play few fits =
    let parts = and_parts (nat_lt play.client clients) _ fits in
    let below = ltb-true play.client clients parts.0 in
    omega (arith, below, few)

play_on-back :
    (clients before number : ℕ) (words : List (List ℕ)) (play : ScriptPlay) → before < MAX_EVENTS →
    script_play_of clients words ≡ Ok play → play_on clients before
    (kept_line number words) ≡ Ok play
unfolding play_on
play_on-back clients before number words play room read =
    ap (λ b. cond b (Err (TooManyEvents number)) (on_line number (script_play_of clients words)))
    (ne_eqb before MAX_EVENTS (λ is. omega (arith, room, is)))
    ∙ ap (on_line number) read

abbrev with_plays : Result (List ScriptPlay) DrillFault → Result ScriptPlay DrillFault →
    Result (List ScriptPlay) DrillFault
with_plays others read = read >>= λ play. others >>= λ plays. Ok (play ∷ plays)

plays_back :
    (clients number before : ℕ) (plays : List ScriptPlay) → clients ≤ MAX_CLIENTS →
    before + length plays ≤ MAX_EVENTS → list_all (play_fits clients) plays ≡ true →
    plays_from clients before (kept_from number (lines_of (text_of (map play_line plays)))) ≡ Ok
    plays
unfolding plays_from
plays_back clients number before [] few room fits = refl
plays_back clients number before (play ∷ plays) few room fits =
    let fit = and_parts (play_fits clients play) (list_all (play_fits clients) plays) fits in
    ap (plays_from clients before)
    (kept_spaced number (play_words play) (text_of (map play_line plays))
    (play_are clients play few fit.0) (play_kept play (small_client clients play few fit.0)))
    ∙ ap₂ with_plays
    (plays_back clients (number + 1) (before + 1) plays few (omega (arith, room)) fit.1)
    (play_on-back clients before number (play_words play) play (omega (arith, room))
    (play_back clients play few fit.0))

abbrev script_from : ScriptHead → Result (List ScriptPlay) DrillFault →
    Result ScriptPlain DrillFault
script_from head read =
    (read >>= λ plays. Ok (scripts_of head.clients plays)) >>= λ scripts. Ok
    (record { seed = head.seed; scripts = scripts })

abbrev script_after : List KeptLine → Result ScriptHead DrillFault → Result ScriptPlain DrillFault
script_after lines read = read >>= λ head. script_from head (plays_from head.clients 0 lines)

-- The text of a script.
pub script_text-back :
    (solo : Bool) (clients seed : ℕ) (plays : List ScriptPlay) → 1 ≤ clients →
    clients ≤ most_clients solo → seed < 2 ^ 32 → length plays ≤ MAX_EVENTS →
    list_all (play_fits clients) plays ≡ true →
    read_script_of solo (script_text clients seed plays)
    ≡ Ok (record { seed = seed; scripts = scripts_of clients plays })
unfolding read_script_of script_of
script_text-back solo clients seed plays some few fits short fit =
    let rest : List ℕ = text_of (map play_line plays) in
    let low = few_clients solo clients few in
    ap (script_of solo) (kept_spaced 1 (script_words clients seed) rest
    (head_are clients seed low fits) refl)
    ∙ ap (λ r. script_after (kept_from 2 (lines_of rest)) (on_line 1 r))
    (head_back solo clients seed some few fits)
    ∙ ap (script_from (record { clients = clients; seed = seed }))
    (plays_back clients 2 0 plays low (omega (arith, short)) fit)
