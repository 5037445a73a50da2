-- The rules part by part are the rules of the whole.
use Rattle.std.specs.Prelude.{◌≡◌, ℕ, zero, suc, ◌+◌, ◌≤◌, Bool, true, false, not}
use Rattle.std.specs.Prelude.{List, [], ◌∷◌, ◌++◌, length, slice_get, Some}
use Rattle.std.specs.Prelude.{replicate}
use Rattle.std.specs.List.{AllByRecursion}
use Rattle.std.proofs.Common.{refl, sym, ap, subst, ◌∙◌, arith}
use Rattle.std.proofs.lemmas.List.{length-map, length-replicate}
use Rattle.game_orders.specs.declared.entry.Entry.{Entry}
use Rattle.game_orders.specs.declared.entry.Entry.TheVariants.{Play, Leave}
use Rattle.game_orders.specs.Entry.{is_play}
use Rattle.replay_file.specs.declared.part.Part.{Part}
use Rattle.replay_file.specs.declared.part.Part.TheVariants.{Frame, Mark}
use Rattle.replay_file.specs.declared.standing.Standing.{Standing}
use Rattle.replay_file.proofs.EntriesLemmas.{stay_length}
use Rattle.replay_file.specs.Frames.{frames_of}
use Rattle.replay_file.specs.PartRules.{after_part, departed_in, most_frames, opening, greatest_tag}
use Rattle.replay_file.specs.PartRules.{EntryFollows, StayDeparted}
use Rattle.replay_file.specs.PartRules.{EachMayFollow}
use Rattle.replay_file.specs.RuleLaws.{StayedAway, DeparturesStay, IsFrameOf, MarksApart, ObeysRules}
use Rattle.replay_file.specs.RuleLaws.{HasKnownOrders}

-- A flag of a client says that it has left in the frame.
abbrev LeftByFlags : List Bool → List Entry → Type 0
LeftByFlags flags frame = (c : ℕ) → slice_get flags c ≡ Some true → slice_get frame c ≡ Some Leave

left_here : (gone : Bool) (entry : Entry) → EntryFollows gone entry → Some gone ≡ Some true →
    Some entry ≡ Some Leave
left_here true (Play orders) follows is = absurd cc
left_here false (Play orders) follows is = absurd cc
left_here gone Leave follows is = refl

left_by_flags : (flags : List Bool) (frame : List Entry) → StayDeparted flags frame →
    LeftByFlags flags frame
left_by_flags [] [] stay c is = absurd cc
left_by_flags [] (entry ∷ entries) stay c is = elim stay [ ]
left_by_flags (gone ∷ more) [] stay c is = elim stay [ ]
left_by_flags (gone ∷ more) (entry ∷ entries) stay zero is = left_here gone entry stay.0 is
left_by_flags (gone ∷ more) (entry ∷ entries) stay (suc c) is =
    left_by_flags more entries stay.1 c is

follows_here : (gone : Bool) (entry : Entry) → (Some gone ≡ Some true → Some entry ≡ Some Leave) →
    EntryFollows gone entry
follows_here true (Play orders) left =
    let is : Some (Play orders) ≡ Some Leave = left refl in absurd cc
follows_here true Leave left = refl
follows_here false entry left = refl

flags_stay : (flags : List Bool) (frame : List Entry) → length frame ≡ length flags →
    LeftByFlags flags frame → StayDeparted flags frame
flags_stay [] [] same left = tt
flags_stay [] (entry ∷ entries) same left = absurd (omega arith)
flags_stay (gone ∷ more) [] same left = absurd (omega arith)
flags_stay (gone ∷ more) (entry ∷ entries) same left =
    (follows_here gone entry (left 0), flags_stay more entries (omega arith) (λ c. left (suc c)))

flag_here : (entry : Entry) → Some entry ≡ Some Leave → Some (not (is_play entry)) ≡ Some true
flag_here (Play orders) is = absurd cc
flag_here Leave is = refl

flag_of_left : (frame : List Entry) (c : ℕ) → slice_get frame c ≡ Some Leave →
    slice_get (departed_in frame) c ≡ Some true
flag_of_left [] c is = absurd cc
flag_of_left (entry ∷ entries) zero is = flag_here entry is
flag_of_left (entry ∷ entries) (suc c) is = flag_of_left entries c is

leave_here : (entry : Entry) → Some (not (is_play entry)) ≡ Some true → Some entry ≡ Some Leave
leave_here (Play orders) is = absurd cc
leave_here Leave is = refl

left_of_flag : (frame : List Entry) (c : ℕ) → slice_get (departed_in frame) c ≡ Some true →
    slice_get frame c ≡ Some Leave
left_of_flag [] c is = absurd cc
left_of_flag (entry ∷ entries) zero is = leave_here entry is
left_of_flag (entry ∷ entries) (suc c) is = left_of_flag entries c is

-- So many frames at most.
frames_few : (version : ℕ) (s : Standing) (parts : List Part) → EachMayFollow version s parts →
    s.frames ≤ most_frames version →
    s.frames + length (frames_of parts) ≤ most_frames version
frames_few version s [] follow few = omega arith
frames_few version s (Frame entries ∷ parts) follow few =
    omega (
      arith,
      frames_few version (after_part s (Frame entries)) parts follow.1
          (omega (arith, follow.0.room)),
    )
frames_few version s (Mark hash ∷ parts) follow few =
    frames_few version (after_part s (Mark hash)) parts follow.1 few

-- Each frame has one entry for each client, and a play.
frames_whole : (version clients : ℕ) (s : Standing) (parts : List Part) →
    EachMayFollow version s parts → length s.departed ≡ clients →
    AllByRecursion (IsFrameOf clients) (frames_of parts)
frames_whole version clients s [] follow same = tt
frames_whole version clients s (Frame entries ∷ parts) follow same =
    let long : length entries ≡ clients =
    stay_length s.departed entries follow.0.departed ∙ same in (
      (long, follow.0.play),
      frames_whole version clients (after_part s (Frame entries)) parts follow.1
          (length-map entries (λ entry. not (is_play entry)) ∙ long),
    )
frames_whole version clients s (Mark hash ∷ parts) follow same =
    frames_whole version clients (after_part s (Mark hash)) parts follow.1 same

-- Who has left stays away.
all_away :
    (version : ℕ) (s : Standing) (parts : List Part) (frame : List Entry) →
    EachMayFollow version s parts →
    ((c : ℕ) → slice_get frame c ≡ Some Leave → slice_get s.departed c ≡ Some true) →
    AllByRecursion (StayedAway frame) (frames_of parts)
all_away version s [] frame follow known = tt
all_away version s (Frame entries ∷ parts) frame follow known =
    let away : StayedAway frame entries =
    λ c left. left_by_flags s.departed entries follow.0.departed c (known c left) in (
      away,
      all_away version (after_part s (Frame entries)) parts frame follow.1
          (λ c left. flag_of_left entries c (away c left)),
    )
all_away version s (Mark hash ∷ parts) frame follow known =
    all_away version (after_part s (Mark hash)) parts frame follow.1 known

departures_stay : (version : ℕ) (s : Standing) (parts : List Part) →
    EachMayFollow version s parts → DeparturesStay (frames_of parts)
departures_stay version s [] follow = tt
departures_stay version s (Frame entries ∷ parts) follow = (
  all_away version (after_part s (Frame entries)) parts entries follow.1 (flag_of_left entries),
  departures_stay version (after_part s (Frame entries)) parts follow.1,
)
departures_stay version s (Mark hash ∷ parts) follow =
    departures_stay version (after_part s (Mark hash)) parts follow.1

never_twice : (version : ℕ) (s : Standing) (before after : List Part) (hash other : ℕ) →
    EachMayFollow version s (before ++ Mark hash ∷ Mark other ∷ after) → ⊥
never_twice version s [] after hash other follow =
    let never : true ≡ false = follow.1.0 in absurd cc
never_twice version s (part ∷ before) after hash other follow =
    never_twice version (after_part s part) before after hash other follow.1

marks_apart : (version : ℕ) (s : Standing) (parts : List Part) → EachMayFollow version s parts →
    MarksApart parts
marks_apart version s parts follow before after hash other are =
    never_twice version s before after hash other
    (subst (λ (ps : List Part). EachMayFollow version s ps) are follow)

-- Parts that may follow one another obey the rules as a whole.
pub rules_obeyed : (version clients : ℕ) (parts : List Part) →
    EachMayFollow version (opening clients) parts →
    ObeysRules clients (most_frames version) parts
rules_obeyed version clients parts follow =
    let start = opening clients in
    record {
      few = omega (arith, frames_few version start parts follow (omega arith));
      each =
          frames_whole version clients start parts follow (length-replicate clients false);
      departures = departures_stay version start parts follow;
      marks = marks_apart version start parts follow;
    }

-- The other way round.
all_map : {A : Type 0} (P Q : A → Type 0) (items : List A) → ((x : A) → P x → Q x) →
    AllByRecursion P items → AllByRecursion Q items
all_map P Q [] step all = tt
all_map P Q (item ∷ items) step all = (step item all.0, all_map P Q items step all.1)

all_of : {A : Type 0} (P : A → Type 0) (items : List A) → ((x : A) → P x) →
    AllByRecursion P items
all_of P [] each = tt
all_of P (item ∷ items) each = (each item, all_of P items each)

abbrev NotAMark : List Part → Type 0
NotAMark [] = Unit {0}
NotAMark (Frame entries ∷ parts) = Unit {0}
NotAMark (Mark hash ∷ parts) = ⊥

not_a_mark : (hash : ℕ) (parts : List Part) → MarksApart (Mark hash ∷ parts) → NotAMark parts
not_a_mark hash [] apart = tt
not_a_mark hash (Frame entries ∷ parts) apart = tt
not_a_mark hash (Mark other ∷ parts) apart = apart [] parts hash other refl

tail_apart : (part : Part) (parts : List Part) → MarksApart (part ∷ parts) → MarksApart parts
tail_apart part parts apart before after hash other are =
    apart (part ∷ before) after hash other (ap (λ (ps : List Part). part ∷ ps) are)

unmarked : (marked : Bool) → (marked ≡ true → ⊥) → marked ≡ false
unmarked true never = absurd (never refl)
unmarked false never = refl

follow_of_rules :
    (version clients : ℕ) (s : Standing) (parts : List Part) →
    s.frames + length (frames_of parts) ≤ most_frames version → length s.departed ≡ clients →
    AllByRecursion (IsFrameOf clients) (frames_of parts) →
    AllByRecursion (LeftByFlags s.departed) (frames_of parts) →
    DeparturesStay (frames_of parts) → MarksApart parts → (s.marked ≡ true → NotAMark parts) →
    AllByRecursion (HasKnownOrders (greatest_tag version)) parts → EachMayFollow version s parts
follow_of_rules version clients s [] few same each left away apart first known = tt
follow_of_rules version clients s (Frame entries ∷ parts) few same each left away apart first known =
    let never : (after_part s (Frame entries)).marked ≡ true → NotAMark parts =
    λ is. absurd cc in
    let later =
    all_map (StayedAway entries) (LeftByFlags (departed_in entries)) (frames_of parts)
    (λ frame stayed c is. stayed c (left_of_flag entries c is)) away.0 in (
      record {
        room = omega arith;
        departed = flags_stay s.departed entries (each.0.0 ∙ sym same) left.0;
        play = each.0.1;
        orders = known.0;
      },
      follow_of_rules version clients (after_part s (Frame entries)) parts (omega arith)
          (length-map entries (λ entry. not (is_play entry)) ∙ each.0.0) each.1 later away.1
          (tail_apart (Frame entries) parts apart) never known.1,
    )
follow_of_rules version clients s (Mark hash ∷ parts) few same each left away apart first known = (
  unmarked s.marked first,
  follow_of_rules version clients (after_part s (Mark hash)) parts few same each left away
      (tail_apart (Mark hash) parts apart) (λ is. not_a_mark hash parts apart) known.1,
)

no_flag : (n c : ℕ) → slice_get (replicate n false) c ≡ Some true → ⊥
no_flag zero c is = absurd cc
no_flag (suc n) zero is = absurd cc
no_flag (suc n) (suc c) is = no_flag n c is

-- Parts that obey the rules as a whole may follow one another.
pub parts_follow : (version clients : ℕ) (parts : List Part) →
    ObeysRules clients (most_frames version) parts →
    AllByRecursion (HasKnownOrders (greatest_tag version)) parts →
    EachMayFollow version (opening clients) parts
parts_follow version clients parts obeys known =
    let never : (opening clients).marked ≡ true → NotAMark parts = λ is. absurd cc in
    follow_of_rules version clients (opening clients) parts (omega (arith, obeys.few))
    (length-replicate clients false) obeys.each
    (all_of (LeftByFlags (replicate clients false)) (frames_of parts)
    (λ frame c is. absurd (no_flag clients c is)))
    obeys.departures obeys.marks never known

known_of_follow : (version : ℕ) (s : Standing) (parts : List Part) →
    EachMayFollow version s parts → AllByRecursion (HasKnownOrders (greatest_tag version)) parts
known_of_follow version s [] follow = tt
known_of_follow version s (Frame entries ∷ parts) follow =
    (follow.0.orders, known_of_follow version (after_part s (Frame entries)) parts follow.1)
known_of_follow version s (Mark hash ∷ parts) follow =
    (tt, known_of_follow version (after_part s (Mark hash)) parts follow.1)

pub orders_known_of : (version clients : ℕ) (parts : List Part) →
    EachMayFollow version (opening clients) parts →
    AllByRecursion (HasKnownOrders (greatest_tag version)) parts
orders_known_of version clients parts follow = known_of_follow version (opening clients) parts follow
