-- What reached a peer: entries with their clients and frames, by rising client and then by rising
-- frame.
use Rattle.std.specs.Prelude.{◌≡◌, ℕ, zero, suc, ◌+◌, ◌==◌, ◌&&◌, ◌||◌, nat_lt, min, not}
use Rattle.std.specs.Prelude.{Bool, true, false, if◌then◌else◌, List, [], ◌∷◌, Option, Some, None}
use Rattle.std.specs.List.{AllByRecursion, find, list_any}
use Rattle.std.specs.Option.{option_map}
use Rattle.game_orders.specs.declared.entry.Entry.{Entry}
use Rattle.game_orders.specs.declared.entry.Entry.TheVariants.{Leave}
use Rattle.game_orders.specs.Entry.{is_play}
use Rattle.frame_core.specs.declared.ready.Ready.{Ready}
use Rattle.frame_core.specs.declared.input.Input.{Input}
use Rattle.frame_core.specs.Input.{ready_of}
use Rattle.frame_core.specs.Ready.{inputs_of, frame_of}
use Rattle.peer_core.specs.declared.arrived.Arrived.{Arrived}

-- It is that of client c at frame n.
abbrev pub is_of : ℕ → ℕ → Arrived → Bool
is_of c n a = (a.client == c) && (a.frame == n)

-- It is the departure of client c, before frame n.
abbrev pub is_left : ℕ → ℕ → Arrived → Bool
is_left c n a = (a.client == c) && (nat_lt a.frame n && not (is_play a.entry))

-- It is one of client c after frame n.
abbrev pub is_after : ℕ → ℕ → Arrived → Bool
is_after c n a = (a.client == c) && nat_lt n a.frame

-- The entry of client c that is kept at frame n.
abbrev pub kept_at : List Arrived → ℕ → ℕ → Option Entry
kept_at arrived c n = option_map (λ a. a.entry) (find (is_of c n) arrived)

-- The frame of the kept departure of client c, if it is before frame n.
abbrev pub left_before : List Arrived → ℕ → ℕ → Option ℕ
left_before arrived c n = option_map (λ a. a.frame) (find (is_left c n) arrived)

-- The lesser of two numbers that may be there.
abbrev pub least_of : Option ℕ → Option ℕ → Option ℕ
least_of None later = later
least_of (Some n) None = Some n
least_of (Some n) (Some m) = Some (min n m)

-- Its frame, where the test holds.
abbrev pub frame_if : Bool → Arrived → Option ℕ
frame_if true a = Some a.frame
frame_if false a = None

-- The least frame after n at which an entry of client c is kept.
abbrev pub kept_after : List Arrived → ℕ → ℕ → Option ℕ
kept_after [] c n = None
kept_after (a ∷ arrived) c n = least_of (frame_if (is_after c n a) a) (kept_after arrived c n)

-- An entry if there is one, else a departure if there is one.
abbrev pub or_left : Option Entry → Option ℕ → Option Entry
or_left (Some entry) left = Some entry
or_left None (Some at) = Some Leave
or_left None None = None

-- What client c has for frame n: its kept entry there, or its kept departure before it.
abbrev pub has_of : List Arrived → ℕ → ℕ → Option Entry
has_of arrived c n = or_left (kept_at arrived c n) (left_before arrived c n)

-- What each of `more` clients from c on has for frame n.
abbrev pub each_of : List Arrived → ℕ → ℕ → ℕ → List (Option Entry)
each_of arrived c zero n = []
each_of arrived c (suc more) n = has_of arrived c n ∷ each_of arrived (c + 1) more n

-- What each client of a match of so many clients has for frame n.
abbrev pub inputs_by : List Arrived → ℕ → ℕ → List Input
inputs_by arrived clients n = inputs_of (each_of arrived 0 clients n)

-- Whether frame n is ready.
abbrev pub ready_by : List Arrived → ℕ → ℕ → Ready
ready_by arrived clients n = ready_of (inputs_by arrived clients n)

-- Frame n: the entry of each client, by rising number.
abbrev pub frame_by : List Arrived → ℕ → ℕ → List Entry
frame_by arrived clients n = frame_of (each_of arrived 0 clients n)

-- The first stands before the second: by the clients' numbers, then by the frames.
abbrev pub stands_before : Arrived → Arrived → Bool
stands_before a b = nat_lt a.client b.client || ((a.client == b.client) && nat_lt a.frame b.frame)

-- With one more, at its place.
abbrev pub with_arrived : Arrived → List Arrived → List Arrived
with_arrived a [] = a ∷ []
with_arrived a (b ∷ arrived) =
    if stands_before a b then a ∷ b ∷ arrived else b ∷ with_arrived a arrived

-- It is the departure of client c, at whatever frame.
abbrev pub is_departure_of : ℕ → Arrived → Bool
is_departure_of c a = (a.client == c) && not (is_play a.entry)

-- The departure of client c is kept.
abbrev pub has_left : List Arrived → ℕ → Bool
has_left arrived c = list_any (is_departure_of c) arrived

-- By rising client, and for one client by rising frame: each stands before all that follow. So no
-- client has two entries at one frame.
abbrev pub IsRising : List Arrived → Type 0
IsRising [] = Unit
IsRising (a ∷ arrived) = AllByRecursion (λ b. stands_before a b ≡ true) arrived × IsRising arrived

-- After the departure of a client nothing of it is kept.
abbrev pub IsEnded : List Arrived → Type 0
IsEnded arrived = (c n : ℕ) → kept_at arrived c n ≡ Some Leave → kept_after arrived c n ≡ None
