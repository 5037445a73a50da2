-- `open`: a handle's word and the allocator become a `Loose`.
use Rattle.std.proofs.Common.{◌≡◌, ◌≢◌, List, [], ◌∷◌, ◌++◌, Option, None, Some, refl, sym, subst}
use mir.Raw.{raw as bare}
use mir.Val.{Val, vptr}
use base.Logic.{SProp, ent, emp, never, id⊢, fst∗}
use base.Fml.{ftrue}
use prog.Wp.{WpFn}
use types.Logic.{sem}
use types.Kit.{‵, raw, ◌⊛◌, ◌$◌, ◌∵◌, !, qed, by, move, keep, split, fsplit, fjoin, suffices, use0, rewrite}
use types.Run.{stop, fld, of_opd, no_more, and_then, returns, enter}
use types.ByLocal.{alloc_all, pass_all, free_all, look_at, get, get_in, sets}
use types.Part.{agg, sub, whole}
use contract.Monad.{fact, fact_i}
use contract.Running.{tables}
use denote.Exit.{yes}
use denote.Memory.{lone}
use denote.RattleType.{RattleType, owns}
use denote.Signature.{types_at, plain}
use denote.RawPtr.{Ptr, block_ptr, null_ptr, in_a_block}
use denote.Steps.{nothing, heard}
use denote.Triple.Walked.{Stays, stay_dropped, walk_of, Goes-dropped}
use mir.Syntax.{impl, tnil, dnil}
use Rattle.core.proofs.alloc.Calls.{Al, handle_tells}
use Rattle.std.proofs.raw_atomic.Walks.{proved_at, leaves}
use Rattle.std_alloc.specs.Box.Ownership.{box_owns}
use Rattle.libc.specs.Heap.{chunk}
use Rattle.std_heap.specs.contracts.Global as heap
use Rattle.std_heap.proofs.Global.TheLaws as heap_laws
use Rattle.std_heap.specs.contracts.GlobalAllocator.TheImpl.{ghosts}
use Rattle.boxed_pointer.proofs.Words as loose
use Rattle.c_objects.specs.declared.kept.Kept.{Kept}
use Rattle.c_objects.specs.contracts.kept.Kept.{the_row as KeptRow}
use Rattle.c_objects.specs.contracts.handle.Handle as handle
use Rattle.c_objects.specs.Owns.{kept_owned}
use Rattle.c_objects.proofs.Words.{word, Holds, holds, taken_apart}
use Rattle.c_objects.specs.contracts.handle.Handle.open as f
use Rattle.c_objects.proofs.handle.Handle.open.Statement.{statement}
use Rattle.c_objects.proofs.handle.Handle.open.Code as code

pub open_spec : {M : Type 1} → statement M
open_spec 𝓤 𝓛 𝓜 𝓡 wired =
    let c = f.clauses 𝓛 𝓜.mem 𝓡.returns in
    let 𝓣 = tables 𝓤 𝓛.H 𝓜 𝓡 𝓡.env in
    let Z : RattleType = heap.the_row in
    let LZ = heap_laws.the_row_laws in
    let freeing : Al = record { row = Z; laws = LZ; g = ghosts; d = impl [] tnil dnil; drops = impl [] tnil dnil } in
    let kept : Stays f.ended.signature.params f.ended.kept = (stay_dropped (plain (λ _. handle.the_row)) yes, (stay_dropped (plain (λ _. Z)) yes, tt)) in
    proved_at 𝓛 f.ended kept c 𝓜 𝓡 (Goes-dropped 𝓛 0 (plain (λ _. handle.the_row)) yes (λ κs x w. refl), (Goes-dropped 𝓛 0 (plain (λ _. Z)) yes (λ κs x w. refl), tt)) f.Key.name code.function (code.unfolded 𝓤 𝓛.H 𝓜 𝓡 wired) (λ z are.
    let h = z.0.3.0 in
    let a = z.0.3.1.0 in
    let Post : Val → SProp 𝓤 = (walk_of 𝓛 f.ended kept c).post z in
    let Run : List Val → SProp 𝓤 = λ ws. WpFn 𝓤 𝓛.H 𝓣.C 𝓣.Λ code.function ws Post in
    -- [the tokens, none, with the parameters; that it holds something]
    qed 𝓛 ((‵ ftrue ⊛ ‵ (owns (types_at f.ended.signature.params z.0.0) z.0.3 z.0.4)) ∷ raw (fact 𝓤 (h.held ≢ None)) ∷ []) ∵
    move ! (1 ∷ []) $ heard ! (h.held ≢ None) (λ some.
    let found : Holds h.held = holds h.held some in
    split ! $ move ! (1 ∷ []) $ fsplit ! $
    taken_apart ! h z.0.4.0 (λ first.
    rewrite ! 0 (λ (held : Option Kept). ‵ (kept_owned h.at held)) found.is refl $
    in_a_block ! h.at (λ p. box_owns chunk KeptRow p found.kept) (fst∗ 𝓤 (never 𝓤) (sem 𝓛 (chunk (bare (lone KeptRow.mir)) null_ptr))) (λ b o lies.
    move ! (1 ∷ []) $ fsplit ! $ handle_tells freeing ! a z.0.4.1.0 (λ u second fits.
    keep ! (2 ∷ 0 ∷ 3 ∷ []) $
    -- [the box; the allocator; the tokens, none]
    let w : Val = word (block_ptr b o) in
    suffices ! (Run (w ∷ u ∷ [])) (subst (λ (us : List Val). ent 𝓤 (Run (w ∷ u ∷ [])) (Run us)) (sym (λ i. subst (λ (p : Ptr). z.0.4.0 ≡ word p ∷ []) lies first i ++ (second i ++ []))) (id⊢ 𝓤 (Run (w ∷ u ∷ [])))) $
    enter ! 𝓣.C 𝓣.Λ code.function (w ∷ u ∷ []) Post $ alloc_all ! (λ l. pass_all ! refl ((tt, (tt, tt)), (fits, tt)) $
    sets ! (of_opd ! (get_in ! (fld ! refl (stop !)) (sub ! 0 refl (whole !)))) refl (tt, tt) $
    sets ! (agg ! (and_then ! (get ! refl) (and_then ! (get ! refl) (no_more !)))) refl (loose.pair_good KeptRow Z LZ ghosts b o u fits) $
    returns ! (look_at ! 0 refl) $ free_all ! refl $
    loose.put_together KeptRow Z LZ ghosts ! b o u a found.kept $ nothing ! $ nothing ! $ fjoin ! $ nothing ! $ fjoin ! $
    use0 𝓛 (raw (fact 𝓤 (Some found.kept ≡ h.held))) (fact_i 𝓤 (Some found.kept ≡ h.held) (emp 𝓤) (sym found.is)) $ move ! (3 ∷ 1 ∷ 2 ∷ 0 ∷ []) $
    by ! (leaves 𝓛 f.ended kept c z (loose.pair_val (vptr b o) u) (record { at = block_ptr b o; alloc = a; value = found.kept }) (_, (_, tt)) (tt, (tt, tt)))))))))
