-- Pieces taken from a link, one after another.
use Rattle.std.proofs.Common.{◌≡◌, ℕ, ◌≤◌, List, [], ◌++◌, take, drop, Option, Some, None, IfSome, Result, Ok, Err, refl, sym, ap, ◌∙◌, arith, append_assoc}
use Rattle.std.specs.Prelude.{IfOk, OnErr}
use Rattle.std.proofs.lemmas.List.{take-append-drop, length-append}
use Rattle.std.specs.Option.{option_map}
use Rattle.game_io.specs.SourceState.{SourceState}
use Rattle.order_packets.specs.Feed.{Fed}
use Rattle.match_net.specs.declared.piece.Piece.{Piece}
use Rattle.match_net.specs.PieceTaking.{Took, Counts, TookAtMost, TakesPiece}

-- Before the first piece nothing is taken.
pub took_nothing : (left : Option (List ℕ)) → Took left left []
took_nothing None = refl
took_nothing (Some bytes) = refl

both : (new : Option (List ℕ)) (xs ys : List ℕ) →
    option_map (λ left. xs ++ left) (option_map (λ left. ys ++ left) new)
    ≡ option_map (λ left. (xs ++ ys) ++ left) new
both None xs ys = refl
both (Some bytes) xs ys = ap Some (sym (append_assoc xs ys bytes))

-- Two pieces are their join.
pub took_more :
    (old mid new : Option (List ℕ)) (xs ys : List ℕ) → Took old mid xs → Took mid new ys →
    Took old new (xs ++ ys)
took_more old mid new xs ys first second =
    first ∙ ap (option_map (λ left. xs ++ left)) second ∙ both new xs ys

pub counts_more :
    (old mid new : ℕ) (xs ys : List ℕ) → Counts old mid xs → Counts mid new ys → Counts old new (xs ++ ys)
counts_more old mid new xs ys first second =
    let long = length-append xs ys in omega (arith, first, second, long)

-- What a call took from what was left.
pub took_so :
    (old new : Option (List ℕ)) (into : List ℕ) (count : ℕ) → new ≡ option_map (drop count) old →
    IfSome old (λ bytes. take count into ≡ take count bytes) → Took old new (take count into)
took_so None new into count left moved = sym (ap (option_map (λ rest. take count into ++ rest)) left)
took_so (Some bytes) new into count left moved =
    ap Some (sym (take-append-drop count bytes) ∙ ap (λ first. first ++ drop count bytes) (sym moved))
    ∙ sym (ap (option_map (λ rest. take count into ++ rest)) left)

-- A piece that fits into less room fits into more.
pub wider_ok :
    {E : Type 0} (small room : ℕ) (old new : SourceState) (from count : ℕ) (before after : Fed) (result : Result Piece E) →
    small ≤ room → IfOk result (λ piece. (takes : TakesPiece small old new before after piece) × Counts from count takes.taken) →
    IfOk result (λ piece. (takes : TakesPiece room old new before after piece) × Counts from count takes.taken)
wider_ok small room old new from count before after (Ok piece) less (takes, counted) = (
  record {
    taken = takes.taken;
    few = omega (arith, less, takes.few);
    short = takes.short;
    took = takes.took;
    later = takes.later;
    fed = takes.fed;
    means = takes.means;
  },
  counted,
)
wider_ok small room old new from count before after (Err failed) less known = tt

pub wider_err :
    {E : Type 0} (small room : ℕ) (old new : SourceState) (from count : ℕ) (result : Result Piece E) →
    small ≤ room → OnErr result ((took : TookAtMost small old new) × Counts from count took.taken) →
    OnErr result ((took : TookAtMost room old new) × Counts from count took.taken)
wider_err small room old new from count (Ok piece) less known = tt
wider_err small room old new from count (Err failed) less (took, counted) =
    (record { taken = took.taken; few = omega (arith, less, took.few); took = took.took; later = took.later }, counted)
