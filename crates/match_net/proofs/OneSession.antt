-- A link's bytes have one session and one end.
use Rattle.std.proofs.Common.{◌≡◌, ℕ, Bool, true, false, List, [], ◌∷◌, ◌++◌, length, take, Option, Some, None, Ok, Err, refl, sym, ap, ap₂, subst, ◌∙◌, arith, append_assoc, append-nil}
use Rattle.game_orders.specs.declared.order.Order.{Order}
use Rattle.game_orders.specs.declared.entry.Entry.TheVariants.{Play}
use Rattle.frame_core.specs.Column.{put_answer}
use Rattle.frame_core.specs.declared.put.Put.{Put}
use Rattle.frame_core.specs.declared.put.Put.TheVariants as put
use Rattle.order_packets.specs.declared.up.Up.TheVariants.{Hello, Orders, Sync, Bye}
use Rattle.match_net.specs.declared.greeting.Greeting.{Greeting}
use Rattle.match_net.specs.declared.greeting.Greeting.TheVariants as greeting
use Rattle.match_net.specs.Greeting.{greeting_of}
use Rattle.std.specs.Option.{option_map}
use Rattle.base.specs.Steps.{◌>>=◌}
use Rattle.order_packets.specs.declared.up.Up.{Up}
use Rattle.order_packets.specs.PacketReading.{packet_at, up_at}
use Rattle.order_packets.proofs.PacketLemmas.{same_first}
use Rattle.order_packets.specs.Feed.{ReadsAll}
use Rattle.match_net.specs.declared.limits.TheConstants.{MAX_LINK_BYTES}
use Rattle.match_net.specs.declared.ending.Ending.{Ending}
use Rattle.match_net.specs.Session.{Session, no_session, own_column, After, after_greeting, after_put, after_packet_if, after_packet, after_all, end_by, end_at, limited, Makes, IsSession}

-- The session stands at an end there.
abbrev IsAtEnd : ℕ → ℕ → Session → List ℕ → Type 0
IsAtEnd c here session rest = (end : Ending) × (end_at c here session (packet_at up_at rest) ≡ Some end)

-- A first packet that goes on.
goes_to : (a : After) (f : Session → After) (last : Session) → (a >>= f) ≡ Ok last → (next : Session) × (a ≡ Ok next) × (f next ≡ Ok last)
goes_to (Ok next) f last is = (next, refl, is)
goes_to (Err end) f last is = absurd cc

-- At an end no packet goes on.
goes_no_further :
    (c here : ℕ) (session next : Session) (rest mid : List ℕ) (packet : Up) → IsAtEnd c here session rest →
    packet_at up_at rest ≡ Ok (Some (packet, mid)) → after_packet c here session packet ≡ Ok next → ⊥
goes_no_further c here session next rest mid packet ends is goes =
    let none : None ≡ Some ends.0 = sym (ap end_by goes) ∙ sym (ap (end_at c here session) is) ∙ ends.1 in
    absurd cc

one_way :
    (c here : ℕ) (bytes rest more : List ℕ) (packets others : List Up) (first s t : Session) →
    ReadsAll up_at bytes packets rest → ReadsAll up_at bytes others more →
    after_all c here first packets ≡ Ok s → after_all c here first others ≡ Ok t →
    IsAtEnd c here s rest → IsAtEnd c here t more → (s ≡ t) × (rest ≡ more)
one_way c here bytes rest more [] [] first s t reads also follows too ends end =
    let a : first ≡ s = cc in
    let b : first ≡ t = cc in
    (sym a ∙ b, sym reads ∙ also)
one_way c here bytes rest more [] (other ∷ others) first s t reads also follows too ends end =
    let a : first ≡ s = cc in
    let goes = goes_to (after_packet c here first other) (λ next. after_all c here next others) t too in
    absurd (goes_no_further c here s goes.0 rest also.0 other ends (ap (packet_at up_at) (sym reads) ∙ also.1) (ap (λ (x : Session). after_packet c here x other) (sym a) ∙ goes.1))
one_way c here bytes rest more (packet ∷ packets) [] first s t reads also follows too ends end =
    let a : first ≡ t = cc in
    let goes = goes_to (after_packet c here first packet) (λ next. after_all c here next packets) s follows in
    absurd (goes_no_further c here t goes.0 more reads.0 packet end (ap (packet_at up_at) (sym also) ∙ reads.1) (ap (λ (x : Session). after_packet c here x packet) (sym a) ∙ goes.1))
one_way c here bytes rest more (packet ∷ packets) (other ∷ others) first s t reads also follows too ends end =
    let same = same_first packet other reads.0 also.0 (packet_at up_at bytes) reads.1 also.1 in
    let goes = goes_to (after_packet c here first packet) (λ next. after_all c here next packets) s follows in
    let moves = goes_to (after_packet c here first other) (λ next. after_all c here next others) t too in
    let steps : Ok goes.0 ≡ Ok moves.0 = sym goes.1 ∙ ap (after_packet c here first) same.0 ∙ moves.1 in
    let step : goes.0 ≡ moves.0 = cc in
    one_way c here reads.0 rest more packets others goes.0 s t reads.2
    (subst (λ (mid : List ℕ). ReadsAll up_at mid others more) (sym same.1) also.2) goes.2
    (ap (λ (x : Session). after_all c here x others) step ∙ moves.2) ends end

-- An end that counts is an end.
is_at_end : (c here size : ℕ) (session : Session) (rest : List ℕ) (end : Ending) →
    option_map (limited size) (end_at c here session (packet_at up_at rest)) ≡ Some end → IsAtEnd c here session rest
is_at_end c here size session rest end is = by (end_at c here session (packet_at up_at rest)) is
  where
    by : (found : Option Ending) → option_map (limited size) found ≡ Some end → (e : Ending) × (found ≡ Some e)
    by None is = absurd cc
    by (Some e) is = (e, refl)

-- The session of a link's bytes, its end and the place of that.
pub one_session :
    (c here : ℕ) (bytes : List ℕ) (s t : Session) (end other : Ending) (at there : ℕ) →
    IsSession c here bytes s end at → IsSession c here bytes t other there →
    (s ≡ t) × (end ≡ other) × (at ≡ there)
one_session c here bytes s t end other at there one two =
    let size = length bytes in
    let first = take MAX_LINK_BYTES bytes in
    let same = one_way c here first one.rest two.rest one.makes.packets two.makes.packets no_session s t one.makes.reads two.makes.reads one.makes.follows two.makes.follows
    (is_at_end c here size s one.rest end one.ends) (is_at_end c here size t two.rest other two.ends) in
    let ends : Some end ≡ Some other =
    sym one.ends ∙ ap₂ (λ (x : Session) (b : List ℕ). option_map (limited size) (end_at c here x (packet_at up_at b))) same.0 same.1 ∙ two.ends in
    let long = ap length same.1 in
    (same.0, cc, let a = one.place in let b = two.place in omega (arith, a, b, long))

-- The second list of plays goes on where the first ends.
abbrev pub GoesOn : Session → Session → Type 0
GoesOn s t = (more : List (List Order)) × (t.plays ≡ s.plays ++ more)

still : (s t : Session) → t.plays ≡ s.plays → GoesOn s t
still s t same = ([], same ∙ sym (append-nil s.plays))

goes_twice : (s t u : Session) → GoesOn s t → GoesOn t u → GoesOn s u
goes_twice s t u one two =
    (one.0 ++ two.0, two.1 ∙ ap (λ (xs : List (List Order)). xs ++ two.0) one.1 ∙ append_assoc s.plays one.0 two.0)

put_goes_on : (s next : Session) (orders : List Order) (answer : Put) → after_put s orders answer ≡ Ok next → GoesOn s next
put_goes_on s next orders put.Fixed is = let same : record s { plays = s.plays ++ orders ∷ [] } ≡ next = cc in (orders ∷ [], ap (λ (x : Session). x.plays) (sym same))
put_goes_on s next orders put.Repeat is = let same : s ≡ next = cc in still s next (ap (λ (x : Session). x.plays) (sym same))
put_goes_on s next orders (put.Conflict kept) is = absurd cc
put_goes_on s next orders (put.Left at) is = let same : s ≡ next = cc in still s next (ap (λ (x : Session). x.plays) (sym same))
put_goes_on s next orders (put.Ahead plays) is = absurd cc
put_goes_on s next orders put.Full is = absurd cc

greeting_goes_on : (s next : Session) (g : Greeting) → after_greeting s g ≡ Ok next → GoesOn s next
greeting_goes_on s next greeting.Welcome is = let same : record s { welcomed = true } ≡ next = cc in still s next (ap (λ (x : Session). x.plays) (sym same))
greeting_goes_on s next (greeting.Refuse code) is = absurd cc
greeting_goes_on s next (greeting.Fault fault) is = absurd cc
greeting_goes_on s next greeting.Ended is = absurd cc
greeting_goes_on s next greeting.Lost is = absurd cc

packet_goes_on : (c here : ℕ) (s next : Session) (packet : Up) (welcomed : Bool) → after_packet_if welcomed c here s packet ≡ Ok next → GoesOn s next
packet_goes_on c here s next packet false is = greeting_goes_on s next (greeting_of here packet) is
packet_goes_on c here s next (Hello version rules) true is = absurd cc
packet_goes_on c here s next (Orders frame orders) true is = put_goes_on s next orders (put_answer (own_column s) frame (Play orders)) is
packet_goes_on c here s next (Sync frame hash) true is =
    let same : record s { reports = s.reports ++ record { client = c; frame = frame; hash = hash } ∷ [] } ≡ next = cc in
    still s next (ap (λ (x : Session). x.plays) (sym same))
packet_goes_on c here s next Bye true is = absurd cc

all_go_on : (c here : ℕ) (first last : Session) (packets : List Up) → after_all c here first packets ≡ Ok last → GoesOn first last
all_go_on c here first last [] is = let same : first ≡ last = cc in still first last (ap (λ (x : Session). x.plays) (sym same))
all_go_on c here first last (packet ∷ packets) is =
    let goes = goes_to (after_packet c here first packet) (λ next. after_all c here next packets) last is in
    goes_twice first goes.0 last (packet_goes_on c here first goes.0 packet first.welcomed goes.1) (all_go_on c here goes.0 last packets goes.2)

begins :
    (c here : ℕ) (bytes rest more : List ℕ) (packets others : List Up) (first s t : Session) →
    ReadsAll up_at bytes packets rest → ReadsAll up_at bytes others more →
    after_all c here first packets ≡ Ok s → after_all c here first others ≡ Ok t →
    IsAtEnd c here t more → GoesOn s t
begins c here bytes rest more [] others first s t reads also follows too end =
    let a : first ≡ s = cc in
    subst (λ (x : Session). GoesOn x t) a (all_go_on c here first t others too)
begins c here bytes rest more (packet ∷ packets) [] first s t reads also follows too end =
    let a : first ≡ t = cc in
    let goes = goes_to (after_packet c here first packet) (λ next. after_all c here next packets) s follows in
    absurd (goes_no_further c here t goes.0 more reads.0 packet end (ap (packet_at up_at) (sym also) ∙ reads.1) (ap (λ (x : Session). after_packet c here x packet) (sym a) ∙ goes.1))
begins c here bytes rest more (packet ∷ packets) (other ∷ others) first s t reads also follows too end =
    let same = same_first packet other reads.0 also.0 (packet_at up_at bytes) reads.1 also.1 in
    let goes = goes_to (after_packet c here first packet) (λ next. after_all c here next packets) s follows in
    let moves = goes_to (after_packet c here first other) (λ next. after_all c here next others) t too in
    let steps : Ok goes.0 ≡ Ok moves.0 = sym goes.1 ∙ ap (after_packet c here first) same.0 ∙ moves.1 in
    let step : goes.0 ≡ moves.0 = cc in
    begins c here reads.0 rest more packets others goes.0 s t reads.2
    (subst (λ (mid : List ℕ). ReadsAll up_at mid others more) (sym same.1) also.2) goes.2
    (ap (λ (x : Session). after_all c here x others) step ∙ moves.2) end

-- What a session put so far begins what its bytes put in all.
pub session_begins :
    (c here : ℕ) (bytes rest : List ℕ) (s t : Session) (end : Ending) (at : ℕ) →
    Makes c here (take MAX_LINK_BYTES bytes) s rest → IsSession c here bytes t end at →
    (more : List (List Order)) × (t.plays ≡ s.plays ++ more)
session_begins c here bytes rest s t end at makes is =
    begins c here (take MAX_LINK_BYTES bytes) rest is.rest makes.packets is.makes.packets no_session s t makes.reads is.makes.reads makes.follows is.makes.follows
    (is_at_end c here (length bytes) t is.rest end is.ends)
