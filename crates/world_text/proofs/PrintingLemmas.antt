-- What is printed one after the other is printed as a whole.
use Rattle.std.proofs.Common.{◌≡◌, ◌≤◌, ℕ, zero, suc, ◌+◌, List, [], ◌∷◌, ◌++◌, length, drop}
use Rattle.std.proofs.Common.{Option, None, Some, IsNone, IsSome}
use Rattle.std.proofs.Common.{Err, sym, subst, arith, append_assoc, append-nil}
use Rattle.std.proofs.Common.{◌<◌, refl, ap, ◌∙◌, add-one}
use Rattle.std.specs.Prelude.{slice_get, slice_index_or}
use Rattle.std.specs.List.{flat_map}
use Rattle.base.specs.Cause.{Increased}
use Rattle.base.specs.Written.{Wrote, WroteUpTo, WrotePrefix}
use Rattle.base.proofs.WrittenLemmas.{nothing_yet, one_more, prefix_of}
use Rattle.base.proofs.WrittenLemmas.{prefix_put, last_piece}
use Rattle.game_io.specs.SinkState.{SinkState}
use Rattle.world_text.specs.declared.print_fault.PrintFault.{PrintFault}
use Rattle.world_text.specs.declared.print_fault.PrintFault.TheVariants.{Write, NoMemory}
use Rattle.world_text.specs.Printing.{PrintState, printing, HasPrinted, IsPrinted, Prints}
use Rattle.world_text.specs.Printing.{PrintsBut}

-- A state by which a text is printed but what is left, and the next of it.
pub prints_next :
    (old now new : PrintState) (text next left : List ℕ) → PrintsBut old now text (next ++ left) →
    Prints now new next → PrintsBut old new text left
unfolding PrintsBut Prints
prints_next old now new text next left so_far more first rest whole printed =
    more first (left ++ rest) whole
    (subst (λ (bytes : List ℕ). IsPrinted first now bytes whole) (append_assoc next left rest)
    (so_far first rest whole printed))

-- Nothing more is left.
pub prints_last :
    (old now new : PrintState) (text last : List ℕ) → PrintsBut old now text last →
    Prints now new last → Prints old new text
unfolding PrintsBut Prints
prints_last old now new text last so_far more first rest whole printed =
    more first rest whole (so_far first rest whole printed)

-- Before the first piece all is left.
pub prints_none : (p : PrintState) (text : List ℕ) → PrintsBut p p text text
unfolding PrintsBut Prints
prints_none p text first rest whole printed = printed

pub prints_nothing : (p : PrintState) → Prints p p []
unfolding Prints
prints_nothing p first rest whole printed = printed

pub then_nothing :
    (old now new : PrintState) (text : List ℕ) → Prints old now text → Prints now new [] →
    Prints old new text
unfolding Prints
then_nothing old now new text before after first rest whole printed =
    after first rest whole (before first rest whole printed)

pub nothing_then :
    (old now new : PrintState) (text : List ℕ) → Prints old now [] → Prints now new text →
    Prints old new text
unfolding Prints
nothing_then old now new text before after first rest whole printed =
    after first rest whole (before first (text ++ rest) whole printed)

-- Nothing is left.
pub prints_whole :
    (old new : PrintState) (text left : List ℕ) → left ≡ [] → PrintsBut old new text left →
    Prints old new text
unfolding PrintsBut Prints
prints_whole old new text left none so_far first rest whole printed =
    subst (λ (bytes : List ℕ). IsPrinted first new (bytes ++ rest) whole) none
    (so_far first rest whole printed)

-- The text of the next item.
pub next_item :
    {X : Type 0} (text_of : X → List ℕ) (old now new : PrintState) (text : List ℕ) (item : X)
    (items rest : List X) → items ≡ item ∷ rest →
    PrintsBut old now text (flat_map text_of items) → Prints now new (text_of item) →
    PrintsBut old new text (flat_map text_of rest)
next_item {X = X} text_of old now new text item items rest is so_far next =
    prints_next old now new text (text_of item) (flat_map text_of rest)
    (subst (λ (left : List X). PrintsBut old now text (flat_map text_of left)) is so_far) next

drop_further :
    {X : Type 0} (x : X) (items : List X) (i : ℕ) →
    drop (i + 1) items ≡ drop (suc i + 1) (x ∷ items)
drop_further {X = X} x items i =
    ap (λ (k : ℕ). drop k items) (add-one i)
    ∙ sym (ap (λ (k : ℕ). drop k (x ∷ items)) (add-one (suc i)))

-- What is left from an item on.
pub item_here :
    {X : Type 0} (items : List X) (i : ℕ) (item : X) → slice_get items i ≡ Some item →
    drop i items ≡ item ∷ drop (i + 1) items
item_here {X = X} [] i item here = absurd cc
item_here {X = X} (x ∷ items) zero item here = ap (λ (y : X). y ∷ items) cc
item_here {X = X} (x ∷ items) (suc i) item here =
    item_here items i item here
    ∙ ap (λ (left : List X). item ∷ left) (drop_further x items i)

pub item_at :
    {X : Type 0} (items : List X) (i : ℕ) (default : X) → i < length items →
    drop i items ≡ slice_index_or items i default ∷ drop (i + 1) items
item_at {X = X} [] i default within = absurd (omega (arith, within))
item_at {X = X} (x ∷ items) zero default within = refl
item_at {X = X} (x ∷ items) (suc i) default within =
    item_at items i default (omega (arith, within))
    ∙ ap (λ (left : List X). slice_index_or items i default ∷ left) (drop_further x items i)

-- There is an item below the length.
pub is_there :
    {X : Type 0} (items : List X) (i : ℕ) → i < length items → slice_get items i ≡ None → ⊥
is_there [] i within none = absurd (omega (arith, within))
is_there (x ∷ items) zero within none = absurd cc
is_there (x ∷ items) (suc i) within none = is_there items i (omega (arith, within)) none

-- Nothing is left past the end.
pub none_left : {X : Type 0} (items : List X) (i : ℕ) → length items ≤ i → drop i items ≡ []
none_left [] zero past = refl
none_left [] (suc i) past = refl
none_left (x ∷ items) zero past = absurd (omega (arith, past))
none_left (x ∷ items) (suc i) past = none_left items i (omega (arith, past))

-- A new printer.
pub begins_printing :
    (first : SinkState) (whole : List ℕ) → IsPrinted first (printing [] None first) whole whole
begins_printing first whole = (nothing_yet first.written whole, omega arith)

-- Words are kept back.
pub keeps_words :
    (fault : Option PrintFault) (kept kept' words : List ℕ) (sink : SinkState) → IsNone fault →
    kept' ≡ kept ++ words → Prints (printing kept fault sink) (printing kept' fault sink) words
unfolding Prints
keeps_words None kept kept' words sink none added first rest whole printed =
    let held : WroteUpTo first.written sink.written ((kept ++ words) ++ rest) whole =
    subst (λ (bytes : List ℕ). WroteUpTo first.written sink.written bytes whole)
    (sym (append_assoc kept words rest)) printed.0 in (
      subst (λ (bytes : List ℕ). WroteUpTo first.written sink.written (bytes ++ rest) whole)
          (sym added) held,
      printed.1,
    )
keeps_words (Some fault) kept kept' words sink none added first rest whole printed = absurd cc

-- Memory runs out.
pub runs_out :
    (fault : Option PrintFault) (kept kept' words : List ℕ) (sink : SinkState) → IsNone fault →
    Prints (printing kept fault sink) (printing kept' (Some NoMemory) sink) words
unfolding Prints
runs_out None kept kept' words sink none first rest whole printed =
    (prefix_of first.written sink.written (kept ++ (words ++ rest)) whole printed.0, printed.1)
runs_out (Some fault) kept kept' words sink none first rest whole printed = absurd cc

gives_up :
    (kept words : List ℕ) (fault : PrintFault) (sink : SinkState) →
    Prints (printing kept (Some fault) sink) (printing kept (Some fault) sink) words
unfolding Prints
gives_up kept words Write sink first rest whole printed = printed
gives_up kept words NoMemory sink first rest whole printed = printed

-- A printer that gave up stays as it is.
pub prints_no_more :
    (kept words : List ℕ) (fault : Option PrintFault) (sink : SinkState) → IsSome fault →
    Prints (printing kept fault sink) (printing kept fault sink) words
unfolding Prints
prints_no_more kept words None sink some = absurd cc
prints_no_more kept words (Some fault) sink some = gives_up kept words fault sink

-- What is kept back is written.
pub writes_kept :
    (fault : Option PrintFault) (kept kept' : List ℕ) (sink sink' : SinkState) → IsNone fault →
    kept' ≡ [] → Wrote sink.written sink'.written kept → sink.faults ≤ sink'.faults →
    Prints (printing kept fault sink) (printing kept' fault sink') []
unfolding Prints
writes_kept None kept kept' sink sink' none empty wrote later first rest whole printed =
    let held =
    one_more first.written sink.written sink'.written kept rest whole printed.0 wrote in (
      subst (λ (bytes : List ℕ). WroteUpTo first.written sink'.written (bytes ++ rest) whole)
          (sym empty) held,
      omega (arith, printed.1, later),
    )
writes_kept (Some fault) kept kept' sink sink' none empty wrote later first rest whole printed =
    absurd cc

rose_since : (a b c : ℕ) → a ≤ b → Increased b c → Increased a c
rose_since a b c before rose = omega arith

-- A write of what is kept back fails.
pub fails_to_write :
    (fault : Option PrintFault) (kept kept' words : List ℕ) (sink sink' : SinkState) →
    IsNone fault → WrotePrefix sink.written sink'.written kept → sink.faults ≤ sink'.faults →
    Increased sink.faults sink'.faults →
    Prints (printing kept fault sink) (printing kept' (Some Write) sink') words
unfolding Prints
fails_to_write None kept kept' words sink sink' none part later rose first rest whole printed = (
  prefix_put first.written sink.written sink'.written kept (words ++ rest) whole printed.0 part,
  omega (arith, printed.1, later),
  rose_since first.faults sink.faults sink'.faults printed.1 rose,
)
fails_to_write (Some fault) kept kept' words sink sink' none part later rose first rest whole
    printed =
    absurd cc

-- Words are written where nothing is kept back.
pub writes_words :
    (fault : Option PrintFault) (kept words : List ℕ) (sink sink' : SinkState) → IsNone fault →
    kept ≡ [] → Wrote sink.written sink'.written words → sink.faults ≤ sink'.faults →
    Prints (printing kept fault sink) (printing kept fault sink') words
unfolding Prints
writes_words None kept words sink sink' none empty wrote later first rest whole printed =
    let all : WroteUpTo first.written sink.written (words ++ rest) whole =
    subst
    (λ (bytes : List ℕ). WroteUpTo first.written sink.written (bytes ++ (words ++ rest)) whole)
    empty printed.0 in
    let held = one_more first.written sink.written sink'.written words rest whole all wrote in (
      subst (λ (bytes : List ℕ). WroteUpTo first.written sink'.written (bytes ++ rest) whole)
          (sym empty) held,
      omega (arith, printed.1, later),
    )
writes_words (Some fault) kept words sink sink' none empty wrote later first rest whole printed =
    absurd cc

-- A write of words fails.
pub fails_to_write_words :
    (fault : Option PrintFault) (kept kept' words : List ℕ) (sink sink' : SinkState) →
    IsNone fault → kept ≡ [] → WrotePrefix sink.written sink'.written words →
    sink.faults ≤ sink'.faults → Increased sink.faults sink'.faults →
    Prints (printing kept fault sink) (printing kept' (Some Write) sink') words
unfolding Prints
fails_to_write_words None kept kept' words sink sink' none empty part later rose first rest whole
    printed =
    let all : WroteUpTo first.written sink.written (words ++ rest) whole =
    subst
    (λ (bytes : List ℕ). WroteUpTo first.written sink.written (bytes ++ (words ++ rest)) whole)
    empty printed.0 in (
      prefix_put first.written sink.written sink'.written words rest whole all part,
      omega (arith, printed.1, later),
      rose_since first.faults sink.faults sink'.faults printed.1 rose,
    )
fails_to_write_words (Some fault) kept kept' words sink sink' none empty part later rose first rest
    whole printed =
    absurd cc

-- The last piece is written.
pub ends_whole :
    (fault : Option PrintFault) (kept whole : List ℕ) (first sink sink' : SinkState) →
    IsNone fault → IsPrinted first (printing kept fault sink) [] whole →
    Wrote sink.written sink'.written kept → sink.faults ≤ sink'.faults →
    Wrote first.written sink'.written whole × (first.faults ≤ sink'.faults)
ends_whole None kept whole first sink sink' none printed wrote later =
    let all : WroteUpTo first.written sink.written kept whole =
    subst (λ (bytes : List ℕ). WroteUpTo first.written sink.written bytes whole)
    (append-nil kept) printed.0 in (
      last_piece first.written sink.written sink'.written kept whole all wrote,
      omega (arith, printed.1, later),
    )
ends_whole (Some fault) kept whole first sink sink' none printed wrote later = absurd cc

-- A write of it fails.
pub ends_cut :
    (fault : Option PrintFault) (kept whole : List ℕ) (first sink sink' : SinkState) →
    IsNone fault → IsPrinted first (printing kept fault sink) [] whole →
    WrotePrefix sink.written sink'.written kept → sink.faults ≤ sink'.faults →
    Increased sink.faults sink'.faults →
    WrotePrefix first.written sink'.written whole × (first.faults ≤ sink'.faults)
    × Increased first.faults sink'.faults
ends_cut None kept whole first sink sink' none printed part later rose = (
  prefix_put first.written sink.written sink'.written kept [] whole printed.0 part,
  omega (arith, printed.1, later),
  rose_since first.faults sink.faults sink'.faults printed.1 rose,
)
ends_cut (Some fault) kept whole first sink sink' none printed part later rose = absurd cc

ended_by :
    (fault : PrintFault) (kept rest whole : List ℕ) (first sink : SinkState) →
    IsPrinted first (printing kept (Some fault) sink) rest whole →
    HasPrinted {T = Unit {0}} first sink whole (Err fault)
ended_by Write kept rest whole first sink printed = printed
ended_by NoMemory kept rest whole first sink printed = printed

-- Something went wrong before.
pub ends_early :
    (fault : Option PrintFault) (cause : PrintFault) (kept rest whole : List ℕ)
    (first sink : SinkState) → fault ≡ Some cause →
    IsPrinted first (printing kept fault sink) rest whole →
    HasPrinted {T = Unit {0}} first sink whole (Err cause)
ends_early fault cause kept rest whole first sink is printed =
    ended_by cause kept rest whole first sink
    (subst (λ (f : Option PrintFault). IsPrinted first (printing kept f sink) rest whole) is
    printed)

pub ruleset printing_steps = (
  prints_nothing,
  keeps_words,
  runs_out,
  prints_no_more,
  writes_kept,
  fails_to_write,
  writes_words,
  fails_to_write_words,
)

pub ruleset printing_ends = (ends_whole, ends_cut)
