-- What a `Loose` is in the machine: two words, of which the first is an address. Taken apart it is
-- [what the box owns; the allocator], and it is put together of the same two.
use Rattle.std.proofs.Common.{◌≡◌, ℕ, List, [], ◌∷◌, ◌++◌, refl, subst}
use mathlib.Core.Bool.{◌&&◌, true}
use lib.Dec.{T}
use seplogic.Ra.Ura.{Ura}
use mir.Syntax.{impl, tnil, dnil}
use mir.Raw.{raw as bare}
use mir.Val.{Val, vptr, vstruct, vcons, vnil, of_list, has_ty, WT}
use base.Logic.{never, fst∗}
use types.Logic.{Logic, sem}
use types.Kit.{Item, Goal, Seq, Step, step, ‵, ◌$◌, move, drop, fsplit, fjoin, fpick, fpack, feq_i, feq_l}
use denote.RattleType.{RattleType, Valss}
use denote.Builtin.{RawPtr}
use denote.Memory.{lone}
use denote.RawPtr.{Ptr, block_ptr, null_ptr, ptr_val, in_a_block}
use denote.Steps.{nothing}
use denote.Param.{layout}
use denote.Param.Laws.{Laws}
use denote.Struct.Struct.{within}
use denote.Struct.Owning.{shape}
use Rattle.core.specs.declared.alloc.Allocator.{Ghosts}
use Rattle.core.proofs.alloc.Calls.{Al, handle_tells}
use Rattle.core.proofs.cell.Inside.{Good}
use Rattle.std_alloc.specs.Box.Ownership.{box_owns}
use Rattle.std_alloc.proofs.ResultValues.{and_tt}
use Rattle.boxed_pointer.specs.contracts.loose.Loose as loose

-- A struct of two words.
abbrev pub pair_val : Val → Val → Val
pair_val first second = vstruct (vcons first (vcons second vnil))

-- R is the row of the value, Z that of the allocator.
module _ (R Z : RattleType) (LZ : Laws Z) (g : Ghosts Z.Denot) where
  abbrev pub Row : RattleType
  Row = loose.the_row R Z g

  abbrev freeing : Al
  freeing = record { row = Z; laws = LZ; g = g; d = impl [] tnil dnil; drops = impl [] tnil dnil }

  -- The two words have their types.
  pub pair_good : (b o : ℕ) (h : Val) → Good (layout Z) h → T (has_ty (layout Z) h && true) × WT (pair_val (vptr b o) h)
  pair_good b o h fits = (and_tt (has_ty (layout Z) h) fits.0, (tt, (fits.1, tt)))

  module _ {M : Type 1} {𝓤 : Ura M} {𝓛 : Logic 𝓤} {K : Type 0} {Γ : List (Item 𝓤)} {G : Goal 𝓤 𝓛.H} where
    pub taken_apart : K → (l : Row.Denot) (vs : List Val)
        → ((b o : ℕ) (h : Val) → l.at ≡ block_ptr b o → vs ≡ pair_val (vptr b o) h ∷ [] → Good (layout Z) h
        → Seq K 𝓛 (‵ (box_owns (g.dealloc_token l.alloc) R (block_ptr b o) l.value) ∷ ‵ (Z.own_val l.alloc (h ∷ [])) ∷ Γ) G)
        → Seq K 𝓛 (‵ (Row.own_val l vs) ∷ Γ) G
    taken_apart t l vs next =
        fsplit t $ fpick t (λ words. fsplit t $ feq_l t (λ is. fsplit t $ feq_l t (λ first. fsplit t $
        handle_tells freeing t l.alloc words.1.0 (λ h second fits. move t (1 ∷ []) $ drop t $ move t (1 ∷ []) $
        in_a_block t l.at (λ p. box_owns (g.dealloc_token l.alloc) R p l.value) (fst∗ 𝓤 (never 𝓤) (sem 𝓛 (g.dealloc_token l.alloc (bare (lone R.mir)) null_ptr))) (λ b o lies.
        let by_first : vs ≡ vstruct (of_list (ptr_val l.at ∷ (words.1.0 ++ []))) ∷ [] = subst (λ (us : List Val). vs ≡ vstruct (of_list (us ++ (words.1.0 ++ []))) ∷ []) first is in
        let by_second : vs ≡ vstruct (of_list (ptr_val l.at ∷ h ∷ [])) ∷ [] = subst (λ (us : List Val). vs ≡ vstruct (of_list (ptr_val l.at ∷ (us ++ []))) ∷ []) second by_first in
        next b o h lies (subst (λ (p : Ptr). vs ≡ vstruct (of_list (ptr_val p ∷ h ∷ [])) ∷ []) lies by_second) fits)))))

    pub put_together : K → (b o : ℕ) (h : Val) (a : Z.Denot) (x : R.Denot)
        → Step K 𝓛 (‵ (Row.own_val (record { at = block_ptr b o; alloc = a; value = x }) (pair_val (vptr b o) h ∷ [])) ∷ Γ) G
        (‵ (box_owns (g.dealloc_token a) R (block_ptr b o) x) ∷ ‵ (Z.own_val a (h ∷ [])) ∷ Γ) G
    put_together t b o h a x = step (λ rest. let v : Val = pair_val (vptr b o) h in
        nothing t $ move t (2 ∷ 0 ∷ []) $ fjoin t $ feq_i t (List Val) (vptr b o ∷ []) (vptr b o ∷ []) refl $ fjoin t $
        feq_i t (List Val) (v ∷ []) (v ∷ []) refl $ fjoin t $
        fpack t (Valss (RawPtr ∷ Z ∷ [])) (within (shape (loose.the_type R Z g)) (block_ptr b o, (a, tt)) (v ∷ [])) (vptr b o ∷ [], (h ∷ [], tt)) $ fjoin t $ rest)
