-- What each client has, one client at a time.
use Rattle.std.proofs.Common.{◌≡◌, ℕ, suc, ◌+◌, ◌-◌, ◌≤◌, ◌<◌, List, [], ◌∷◌, ◌++◌}
use Rattle.std.proofs.Common.{append_assoc, refl, ap, sym, ◌∙◌, arith}
use Rattle.std.specs.Prelude.{Bool, true, false, if◌then◌else◌, nat_le}
use Rattle.std.specs.Prelude.{zero, length, slice_get, Option, Some, None}
use Rattle.std.specs.Option.{unwrap_or}
use Rattle.game_orders.specs.declared.entry.Entry.{Entry}
use Rattle.game_orders.specs.declared.order.Order.{Order}
use Rattle.game_orders.specs.declared.entry.Entry.TheVariants.{Play, Leave}
use Rattle.frame_core.specs.Input.{input_of}
use Rattle.frame_core.specs.Ready.{frame_of, inputs_of, or_leave}
use Rattle.peer_core.specs.declared.arrived.Arrived.{Arrived}
use Rattle.peer_core.specs.Arrived.{has_of, each_of, inputs_by}
use Rattle.peer_core.specs.Entries.{own_has}

step_by :
    (xs : List Arrived) (c more rest n : ℕ) → more ≡ suc rest →
    each_of xs c more n ≡ has_of xs c n ∷ each_of xs (c + 1) rest n
step_by xs c more rest n e = rw e refl

pub each_step :
    (xs : List Arrived) (c clients n : ℕ) → c < clients →
    each_of xs c (clients - c) n ≡ has_of xs c n ∷ each_of xs (c + 1) (clients - (c + 1)) n
each_step xs c clients n below = step_by xs c (clients - c) (clients - (c + 1)) n (omega arith)

pub each_none : (xs : List Arrived) (c clients n : ℕ) → clients ≤ c →
    each_of xs c (clients - c) n ≡ []
each_none xs c clients n all = let e : clients - c ≡ 0 = omega arith in rw e refl

or_leave_is : (has : Option Entry) → unwrap_or has Leave ≡ or_leave has
or_leave_is None = refl
or_leave_is (Some entry) = refl

abbrev pub entry_by : Option (List Order) → Entry
entry_by (Some orders) = Play orders
entry_by None = Leave

-- Where a client has no play for a frame, its entry is a departure.
pub play_or_leave : (play : Option (List Order)) (left : Option ℕ) (n : ℕ) →
    unwrap_or (own_has play left n) Leave ≡ entry_by play
play_or_leave (Some orders) left n = refl
play_or_leave None None n = refl
play_or_leave None (Some at) n = by_test (nat_le at n) where
  by_test : (up_to : Bool) → unwrap_or (if up_to then Some Leave else None) Leave ≡ Leave
  by_test true = refl
  by_test false = refl

-- The next client's entry after the frame so far.
pub frame_step :
    (xs : List Arrived) (frame : List Entry) (c clients n : ℕ) → c < clients →
    (frame ++ unwrap_or (has_of xs c n) Leave ∷ []) ++ frame_of
    (each_of xs (c + 1) (clients - (c + 1)) n)
    ≡ frame ++ frame_of (each_of xs c (clients - c) n)
frame_step xs frame c clients n below =
    append_assoc frame (unwrap_or (has_of xs c n) Leave ∷ [])
    (frame_of (each_of xs (c + 1) (clients - (c + 1)) n))
    ∙ ap (λ first. frame ++ first ∷ frame_of (each_of xs (c + 1) (clients - (c + 1)) n))
    (or_leave_is (has_of xs c n))
    ∙ ap (λ each. frame ++ frame_of each) (sym (each_step xs c clients n below))

-- What each client has, without its orders.
each_length : (xs : List Arrived) (c more n : ℕ) → length (inputs_of (each_of xs c more n)) ≡ more
each_length xs c zero n = refl
each_length xs c (suc more) n = ap suc (each_length xs (c + 1) more n)

pub inputs_length : (xs : List Arrived) (clients n : ℕ) → length (inputs_by xs clients n) ≡ clients
inputs_length xs clients n = each_length xs 0 clients n

each_there :
    (xs : List Arrived) (first c more n : ℕ) → c < more →
    slice_get (inputs_of (each_of xs first more n)) c ≡ Some (input_of (has_of xs (first + c) n))
each_there xs first c zero n below = absurd (omega arith)
each_there xs first zero (suc more) n below =
    let same : first ≡ first + 0 = omega arith in
    ap (λ d. Some (input_of (has_of xs d n))) same
each_there xs first (suc c) (suc more) n below =
    let same : (first + 1) + c ≡ first + suc c = omega arith in
    each_there xs (first + 1) c more n (omega arith)
    ∙ ap (λ d. Some (input_of (has_of xs d n))) same

pub input_there :
    (xs : List Arrived) (clients c n : ℕ) → c < clients →
    slice_get (inputs_by xs clients n) c ≡ Some (input_of (has_of xs c n))
input_there xs clients c n below =
    let same : 0 + c ≡ c = omega arith in
    each_there xs 0 c clients n below ∙ ap (λ d. Some (input_of (has_of xs d n))) same
