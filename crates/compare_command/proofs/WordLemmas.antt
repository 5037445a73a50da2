-- Words that are joined by colons.
use Rattle.std.specs.Prelude.{◌≡◌, ℕ, ◌<◌, ◌^◌, Bool, true, false, List, [], ◌∷◌, ◌++◌, codes}
use Rattle.std.specs.Prelude.{Result, Ok, Err, OnOk}
use Rattle.std.specs.Fmt.{decimal}
use Rattle.std.specs.List.{flat_map, list_all}
use Rattle.std.specs.Str.{bytes_eq}
use Rattle.std.proofs.Common.{refl, sym, ap, ap₂, ◌∙◌, append_assoc}
use Rattle.std.proofs.lemmas.Grind.{flat_map-append}
use Rattle.std.proofs.lemmas.Bool.{and_parts}
use Rattle.std.proofs.lemmas.List.{append-nil}
use Rattle.std.proofs.lemmas.Slice.Eq.{bytes_eq-Decides}
use Rattle.world_units.specs.declared.cell.CPos.{CPos}
use Rattle.activities.specs.declared.activity.Activity.TheVariants.{Move, Attack, Harvest, Deliver}
use Rattle.drill.specs.Text.{end_line}
use Rattle.drill_words.proofs.ReadLemmas.{decimal_all}
use Rattle.drill_words.specs.Text.{order_words, queued_word, spaced}
use Rattle.game_orders.specs.declared.order.Order.{Order}
use Rattle.game_orders.specs.declared.order.Order.TheVariants as order
use Rattle.world_text.specs.WorldText.{at_cell_text, waits_text}
use Rattle.compare_command.specs.JoinedWords.{later_order_word, number_word, order_word}
use Rattle.compare_command.specs.JoinedWords.{place_word, timer_word, waits_word}
use Rattle.compare_command.specs.Lines.{activity_word, joined, joined_byte, last_lines, orders_word}

-- The byte stays as it is.
abbrev stays : ℕ → Bool
stays byte = bytes_eq (joined_byte byte) (byte ∷ [])

all_stay : (word : List ℕ) → list_all stays word ≡ true → flat_map joined_byte word ≡ word
all_stay [] all = refl
all_stay (byte ∷ word) all =
    let parts = and_parts (stays byte) (list_all stays word) all in
    ap₂ (λ (first rest : List ℕ). first ++ rest)
    ((bytes_eq-Decides (joined_byte byte) (byte ∷ [])).0 parts.0) (all_stay word parts.1)

number_stays : (n : ℕ) → n < 2 ^ 64 → flat_map joined_byte (decimal n) ≡ decimal n
number_stays n small = all_stay (decimal n) (decimal_all stays refl n small)

-- A number after a colon.
pub colon_number : (n : ℕ) → n < 2 ^ 64 → number_word n ≡ codes ":" ++ decimal n
unfolding number_word joined
colon_number n small = ap (λ (word : List ℕ). 58 ∷ word) (number_stays n small)

pub ruleset number_words = (colon_number)

-- The bytes of words that are joined.
abbrev words : List ℕ → List ℕ
words line = flat_map joined_byte line

place_words :
    (x y rest : List ℕ) →
    words (x ++ codes "," ++ y ++ rest) ≡ words x ++ (58 ∷ (words y ++ words rest))
place_words x y rest =
    let line : x ++ codes "," ++ y ++ rest ≡ x ++ (44 ∷ (y ++ rest)) = simp append_assoc refl in
    ap words line ∙ flat_map-append joined_byte x (44 ∷ (y ++ rest))
    ∙ ap (λ (more : List ℕ). words x ++ (58 ∷ more)) (flat_map-append joined_byte y rest)

waits_words :
    (w : List ℕ) → words (codes " waits " ++ w ++ codes "\n") ≡ codes ":waits:" ++ words w
waits_words w =
    ap (λ (more : List ℕ). codes ":waits:" ++ more)
    (flat_map-append joined_byte w (codes "\n") ∙ append-nil (words w))

-- The lines of activities, as words.
pub move_word :
    (goal : CPos) (waits : ℕ) →
    activity_word (Move goal waits) ≡ codes "move" ++ (place_word goal ++ waits_word waits)
unfolding activity_word joined number_word at_cell_text waits_text
move_word goal waits =
    let x = decimal goal.x in
    let y = decimal goal.y in
    let w = decimal waits in
    ap (λ (more : List ℕ). codes "move:" ++ more)
    (place_words x y (codes " waits " ++ w ++ codes "\n")
    ∙ ap (λ (more : List ℕ). words x ++ (58 ∷ (words y ++ more))) (waits_words w)
    ∙ sym (append_assoc (words x) (58 ∷ words y) (codes ":waits:" ++ words w)))

pub attack_word :
    (target waits : ℕ) →
    activity_word (Attack target waits)
    ≡ codes "attack" ++ (number_word target ++ waits_word waits)
unfolding activity_word joined number_word waits_text
attack_word target waits =
    let t = decimal target in
    let w = decimal waits in
    ap (λ (more : List ℕ). codes "attack:" ++ more)
    (flat_map-append joined_byte t (codes " waits " ++ w ++ codes "\n")
    ∙ ap (λ (more : List ℕ). words t ++ more) (waits_words w))

loading_words :
    (x y t w : List ℕ) →
    words (x ++ codes "," ++ y ++ (codes " timer " ++ t) ++ (codes " waits " ++ w ++ codes "\n"))
    ≡ (words x ++ (58 ∷ words y)) ++ ((codes ":timer:" ++ words t) ++ (codes ":waits:" ++ words w))
loading_words x y t w =
    let waits : List ℕ = codes ":waits:" ++ words w in
    let group : (words x ++ (58 ∷ (words y ++ (codes ":timer:" ++ words t)))) ++ waits
    ≡ (words x ++ (58 ∷ words y)) ++ ((codes ":timer:" ++ words t) ++ waits) =
    simp append_assoc refl in
    flat_map-append joined_byte (x ++ codes "," ++ y ++ (codes " timer " ++ t))
    (codes " waits " ++ w ++ codes "\n")
    ∙ ap₂ (λ (first more : List ℕ). first ++ more) (place_words x y (codes " timer " ++ t))
    (waits_words w)
    ∙ group

pub harvest_word :
    (cell : CPos) (timer waits : ℕ) →
    activity_word (Harvest cell timer waits)
    ≡ codes "harvest" ++ (place_word cell ++ (timer_word timer ++ waits_word waits))
unfolding activity_word joined number_word at_cell_text waits_text
harvest_word cell timer waits =
    ap (λ (more : List ℕ). codes "harvest:" ++ more)
    (loading_words (decimal cell.x) (decimal cell.y) (decimal timer) (decimal waits))

pub deliver_word :
    (home : CPos) (timer waits : ℕ) →
    activity_word (Deliver home timer waits)
    ≡ codes "deliver" ++ (place_word home ++ (timer_word timer ++ waits_word waits))
unfolding activity_word joined number_word at_cell_text waits_text
deliver_word home timer waits =
    ap (λ (more : List ℕ). codes "deliver:" ++ more)
    (loading_words (decimal home.x) (decimal home.y) (decimal timer) (decimal waits))

pub ruleset act_words = (move_word, attack_word, harvest_word, deliver_word)

-- The words of orders.
word_stays : (queued : Bool) →
    (flat_map joined_byte (queued_word (codes "move") queued) ≡ queued_word (codes "move") queued)
    × (flat_map joined_byte (queued_word (codes "attack") queued)
    ≡ queued_word (codes "attack") queued)
    × (flat_map joined_byte (queued_word (codes "harvest") queued)
    ≡ queued_word (codes "harvest") queued)
word_stays true = (refl, refl, refl)
word_stays false = (refl, refl, refl)

pub move_order :
    (actor : ℕ) (cell : CPos) (queued : Bool) →
    order_word (order.Move actor cell queued)
    ≡ queued_word (codes "move") queued ++ (number_word actor ++ place_word cell)
unfolding order_word joined number_word
move_order actor cell queued =
    let stays = (word_stays queued).0 in
    simp (flat_map-append, append_assoc, stays) refl

pub attack_order :
    (actor target : ℕ) (queued : Bool) →
    order_word (order.Attack actor target queued)
    ≡ queued_word (codes "attack") queued ++ (number_word actor ++ number_word target)
unfolding order_word joined number_word
attack_order actor target queued =
    let stays = (word_stays queued).1 in
    simp (flat_map-append, append_assoc, stays) refl

pub harvest_order :
    (actor : ℕ) (cell : CPos) (queued : Bool) →
    order_word (order.Harvest actor cell queued)
    ≡ queued_word (codes "harvest") queued ++ (number_word actor ++ place_word cell)
unfolding order_word joined number_word
harvest_order actor cell queued =
    let stays = (word_stays queued).2 in
    simp (flat_map-append, append_assoc, stays) refl

pub stop_order : (actor : ℕ) → order_word (order.Stop actor) ≡ codes "stop" ++ number_word actor
unfolding order_word joined number_word
stop_order actor = refl

pub produce_order :
    (actor kind : ℕ) →
    order_word (order.Produce actor kind)
    ≡ (codes "produce" ++ number_word actor) ++ number_word kind
unfolding order_word joined number_word
produce_order actor kind = simp (flat_map-append, append_assoc) refl

pub cancel_order : (actor : ℕ) → order_word (order.Cancel actor) ≡ codes "cancel" ++ number_word actor
unfolding order_word joined number_word
cancel_order actor = refl

pub donate_order :
    (to amount : ℕ) →
    order_word (order.Donate to amount)
    ≡ (codes "donate" ++ number_word to) ++ number_word amount
unfolding order_word joined number_word
donate_order to amount = simp (flat_map-append, append_assoc) refl

pub pace_order : (ticks : ℕ) → order_word (order.Pace ticks) ≡ codes "pace" ++ number_word ticks
unfolding order_word joined number_word
pace_order ticks = refl

pub ruleset order_steps = (
  move_order,
  attack_order,
  harvest_order,
  stop_order,
  produce_order,
  cancel_order,
  donate_order,
  pace_order,
)

spaced_after :
    (first : List ℕ) (firsts more : List (List ℕ)) (next : List ℕ) →
    spaced (first ∷ (firsts ++ (next ∷ more)))
    ≡ spaced (first ∷ firsts) ++ (32 ∷ spaced (next ∷ more))
spaced_after first [] more next = refl
spaced_after first (second ∷ firsts) more next =
    ap (λ (rest : List ℕ). first ++ (32 ∷ rest)) (spaced_after second firsts more next)
    ∙ sym (append_assoc first (32 ∷ spaced (second ∷ firsts)) (32 ∷ spaced (next ∷ more)))

-- The words of an order, and others after them.
order_before :
    (o : Order) (more : List (List ℕ)) (next : List ℕ) →
    spaced (order_words o ++ (next ∷ more)) ≡ spaced (order_words o) ++ (32 ∷ spaced (next ∷ more))
order_before (order.Move actor cell queued) more next =
    spaced_after (queued_word (codes "move") queued)
    (decimal actor ∷ decimal cell.x ∷ decimal cell.y ∷ []) more next
order_before (order.Attack actor target queued) more next =
    spaced_after (queued_word (codes "attack") queued) (decimal actor ∷ decimal target ∷ []) more
    next
order_before (order.Harvest actor cell queued) more next =
    spaced_after (queued_word (codes "harvest") queued)
    (decimal actor ∷ decimal cell.x ∷ decimal cell.y ∷ []) more next
order_before (order.Stop actor) more next = spaced_after (codes "stop") (decimal actor ∷ []) more next
order_before (order.Produce actor kind) more next =
    spaced_after (codes "produce") (decimal actor ∷ decimal kind ∷ []) more next
order_before (order.Cancel actor) more next =
    spaced_after (codes "cancel") (decimal actor ∷ []) more next
order_before (order.Donate to amount) more next =
    spaced_after (codes "donate") (decimal to ∷ decimal amount ∷ []) more next
order_before (order.Pace ticks) more next = spaced_after (codes "pace") (decimal ticks ∷ []) more next

-- A semicolon before the words of an order.
semicolon :
    (o : Order) (more : List (List ℕ)) →
    spaced (codes ";" ∷ (order_words o ++ more)) ≡ codes ";" ++ (32 ∷ spaced (order_words o ++ more))
semicolon (order.Move actor cell queued) more = refl
semicolon (order.Attack actor target queued) more = refl
semicolon (order.Harvest actor cell queued) more = refl
semicolon (order.Stop actor) more = refl
semicolon (order.Produce actor kind) more = refl
semicolon (order.Cancel actor) more = refl
semicolon (order.Donate to amount) more = refl
semicolon (order.Pace ticks) more = refl

-- The words of later orders.
abbrev later_words : List Order → List (List ℕ)
later_words orders = flat_map (λ next. codes ";" ∷ order_words next) orders

orders_joined :
    (first : Order) (orders : List Order) →
    words (spaced (order_words first ++ later_words orders))
    ≡ order_word first ++ flat_map later_order_word orders
unfolding order_word joined
orders_joined first [] =
    ap (λ (all : List (List ℕ)). words (spaced all)) (append-nil (order_words first))
    ∙ sym (append-nil (words (spaced (order_words first))))
orders_joined first (o ∷ orders) =
    let rest : List (List ℕ) = order_words o ++ later_words orders in
    ap words (order_before first rest (codes ";"))
    ∙ flat_map-append joined_byte (spaced (order_words first)) (32 ∷ spaced (codes ";" ∷ rest))
    ∙ ap (λ (more : List ℕ). words (spaced (order_words first)) ++ (58 ∷ words more))
    (semicolon o (later_words orders))
    ∙ ap (λ (more : List ℕ). words (spaced (order_words first)) ++ (codes ":;:" ++ more))
    (orders_joined o orders)

pub orders_cons :
    (first : Order) (orders : List Order) →
    orders_word (first ∷ orders) ≡ order_word first ++ flat_map later_order_word orders
unfolding joined
orders_cons first orders = orders_joined first orders

-- The last lines were added.
pub last_added :
    {T E : Type 0} (result : Result T E) (old mid new : List ℕ) (count : ℕ) →
    mid ≡ old ++ (codes "differences " ++ (decimal count ++ codes "\n")) →
    OnOk result (new ≡ mid ++ end_line) → OnOk result (new ≡ old ++ last_lines count)
unfolding last_lines
last_added (Ok done) old mid new count first last =
    let all : (old ++ (codes "differences " ++ (decimal count ++ codes "\n"))) ++ end_line
    ≡ old ++ (codes "differences " ++ decimal count ++ codes "\n" ++ end_line) =
    simp append_assoc refl in
    last ∙ ap (λ (text : List ℕ). text ++ end_line) first ∙ all
last_added (Err fault) old mid new count first last = tt

-- The mark of a queued order was added after its word.
pub queued_added :
    {T E : Type 0} (result : Result T E) (old mid new word : List ℕ) → mid ≡ old ++ word →
    OnOk result (new ≡ mid ++ codes "+") → OnOk result (new ≡ old ++ queued_word word true)
queued_added (Ok done) old mid new word first last =
    last ∙ ap (λ (text : List ℕ). text ++ codes "+") first ∙ append_assoc old word (codes "+")
queued_added (Err fault) old mid new word first last = tt
