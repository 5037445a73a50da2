-- `empty`: null becomes a handle's word. It owns nothing.
use Rattle.std.proofs.Common.{◌≡◌, [], ◌∷◌, Option, None, refl}
use mir.Val.{Val}
use base.Logic.{SProp, emp}
use base.Fml.{ftrue}
use types.Kit.{‵, raw, ◌⊛◌, ◌$◌, ◌∵◌, !, qed, by, move, keep, split, use0}
use types.Run.{no_more, and_then, lit, returns, enter}
use types.ByLocal.{alloc_all, pass_all, free_all, look_at, sets}
use types.Part.{agg}
use contract.Monad.{fact, fact_i}
use contract.Running.{tables}
use denote.RattleType.{owns}
use denote.Signature.{types_at}
use denote.RawPtr.{null_ptr}
use denote.Steps.{nothing}
use denote.Triple.Walked.{Stays, walk_of}
use Rattle.core.proofs.atomic.Steps.{Ptr-Good}
use Rattle.std.proofs.raw_atomic.Walks.{proved_at, leaves}
use Rattle.c_objects.specs.declared.kept.Kept.{Kept}
use Rattle.c_objects.proofs.Words.{word, put_together}
use Rattle.c_objects.specs.contracts.handle.Handle.empty as f
use Rattle.c_objects.proofs.handle.Handle.empty.Statement.{statement}
use Rattle.c_objects.proofs.handle.Handle.empty.Code as code

pub empty_spec : {M : Type 1} → statement M
empty_spec 𝓤 𝓛 𝓜 𝓡 wired =
    let c = f.clauses 𝓛 𝓜.mem 𝓡.returns in
    let 𝓣 = tables 𝓤 𝓛.H 𝓜 𝓡 𝓡.env in
    let kept : Stays f.ended.signature.params f.ended.kept = tt in
    proved_at 𝓛 f.ended kept c 𝓜 𝓡 tt f.Key.name code.function (code.unfolded 𝓤 𝓛.H 𝓜 𝓡 wired) (λ z are.
    let none : Option Kept = None in
    let Post : Val → SProp 𝓤 = (walk_of 𝓛 f.ended kept c).post z in
    qed 𝓛 ((‵ ftrue ⊛ ‵ (owns (types_at f.ended.signature.params z.0.0) z.0.3 z.0.4)) ∷ raw ((c z.0.0 z.0.3).requires z.1) ∷ []) ∵
    split ! $ keep ! (0 ∷ []) $
    enter ! 𝓣.C 𝓣.Λ code.function [] Post $ alloc_all ! (λ l. pass_all ! refl tt $
    sets ! (agg ! (and_then ! (lit ! tt) (no_more !))) refl (tt, ((Ptr-Good null_ptr).1, tt)) $
    returns ! (look_at ! 0 refl) $ free_all ! refl $
    nothing ! $ put_together ! null_ptr none $ nothing ! $
    use0 𝓛 (raw (fact 𝓤 (none ≡ none))) (fact_i 𝓤 (none ≡ none) (emp 𝓤) refl) $ move ! (3 ∷ 1 ∷ 2 ∷ 0 ∷ []) $
    by ! (leaves 𝓛 f.ended kept c z (word null_ptr) (record { at = null_ptr; held = none }) tt tt)))
