-- `give_back` makes memory of the words again, and the heap takes it. Assumes `Logic`.
use Rattle.std.proofs.Common.{◌*◌, ◌^◌, ◌<◌, List, [], ◌∷◌, refl, sym, ap, subst, lit<, arith, w64}
use lib.Dec.{T}
use base.Fml.{ftrue, flft}
use base.Logic.{emp, id⊢}
use mir.Syntax.{named, ty_unit}
use mir.Val.{Val, vunit, has_ty, WT}
use contract.Monad.{fact, fact_i}
use contract.Running.{tables}
use types.Kit.{‵, raw, ◌⊛◌, some, later, at_ret, ◌$◌, ◌∵◌, !, qed, move, keep, drop, use0, use1, use2, split, join, fsplit, fjoin, feq_i, feq_l, pick, await, suffices, done}
use types.Part.{sub, whole}
use types.Run.{enter, of_opd, unit_lit, lit, bin, stop, fld, no_more, and_then, first, blocks, exec, returns}
use types.ByLocal.{alloc_all, pass_all, free_all, look_at, get, get_in, sets, lands_last, env}
use denote.Builtin.{unit, usize}
use denote.Exit.{yes}
use denote.Plain.{uint_vals, uint_Makes}
use denote.RattleType.{owns}
use denote.RawPtr.{rawptr_vals, rawptr_Lawful, rawptr_Makes, RawPtr}
use denote.Ref.{ShrRef, shr_vals, shr_Tells}
use denote.Signature.{plain}
use denote.Steps.{nothing, owned, heard, only}
use denote.Triple.Call.{calls_at_last}
use denote.Triple.Clauses.{lasts}
use denote.Triple.Spec.{triple_of}
use denote.Triple.Table.{framed}
use denote.Triple.Walked.{Stays, walk_of, stay_dropped, Goes-dropped, ends_at}
use Rattle.std.specs.Allocator.{HasLayout, owned_block}
use Rattle.std.specs.contracts.alloc.Global.{the_row as Heap}
use Rattle.std.specs.contracts.impls.GlobalAllocator.TheImpl.{ghosts}
use Rattle.std.specs.contracts.impls.GlobalAllocator.deallocate as g
use Rattle.std.proofs.impls.GlobalAllocator.deallocate.Met.{met}
use Rattle.std.proofs.raw_atomic.Walks.{proved}
use Rattle.word_pool.specs.Ownership.{heap, shape_of}
use Rattle.word_pool.proofs.WordsAreMemory.{handle, laid_out, ended}
use Rattle.word_pool.specs.contracts.block.Block.{the_row as Owner}
use Rattle.word_pool.proofs.block.Block.TheLaws.{lowers, the_row_laws}
use Rattle.word_pool.specs.contracts.block.Block.give_back as f
use Rattle.word_pool.proofs.block.Block.give_back.Statement.{statement}
use Rattle.word_pool.proofs.block.Block.give_back.Code as code

abbrev left : Stays f.ended.signature.params f.ended.kept
left = (stay_dropped (plain (λ _. Owner)) yes, (stay_dropped handle yes, tt))

pub give_back_spec : {M : Type 1} → statement M
give_back_spec 𝓤 𝓛 𝓜 𝓡 wired =
    let c = f.clauses 𝓛 𝓜.mem 𝓡.returns in let W = walk_of 𝓛 f.ended left c in let 𝓣 = tables 𝓤 𝓛.H 𝓜 𝓡 𝓡.env in
    proved 𝓛 f.ended left c 𝓜 𝓡 (Goes-dropped 𝓛 1 (plain (λ _. Owner)) yes (λ κs x w. refl), (Goes-dropped 𝓛 1 handle yes (λ κs x w. refl), tt))
    f.Key.name code.function (code.unfolded 𝓤 𝓛.H 𝓜 𝓡 wired)
    (λ κs. ((λ d. lowers.lowered d ∷ []), (shr_vals, tt))) (λ κs. (lowers.val_is, (shr_Tells (named 0) κs.0 Heap, tt))) (λ κs qs bounds a _ are.
    let d = a.0 in let n = d.words in let r = a.1.0 in let Block' = owned_block (ghosts.dealloc_token heap) (shape_of n) d.start in
    let vss : List Val × (List Val × Unit {0}) = (lowers.lowered d ∷ [], (shr_vals r, tt)) in let y : W.Ghost = ((κs, qs, bounds, a, vss), tt) in
    let good = ((the_row_laws.lawful 𝓛).typed d _ are.0).0 in let ptr = ((rawptr_Lawful 𝓛).typed d.start (rawptr_vals d.start) refl).0 in
    let G = triple_of 𝓛 g.signature (g.spec 𝓛 𝓜.mem 𝓡.returns) in
    let z : G.Ghost = (
      (
        κs,
        qs,
        tt,
        (r, (d.start, (n * 4, (4, tt)))),
        (shr_vals r, (rawptr_vals d.start, (uint_vals w64 (n * 4), (uint_vals w64 4, tt)))),
      ),
      shape_of n,
    ) in
    qed 𝓛 (((‵ (flft κs.0 qs.0) ⊛ ‵ ftrue) ⊛ ‵ (owns (Owner ∷ ShrRef (named 0) κs.0 Heap ∷ []) a vss)) ∷ ‵ ftrue ∷ []) ∵
    split ! $ split ! $ move ! (2 ∷ []) $ fsplit ! $ move ! (1 ∷ []) $ fsplit ! $ keep ! (2 ∷ 0 ∷ 3 ∷ []) $ fsplit ! $ drop ! $
    use1 𝓛 (raw (fact 𝓤 (n * 4 < 2 ^ 63)) ⊛ ‵ Block') (ended 𝓛 n d.start d.content) $ split ! $ heard ! _ (λ small.
    let bytes : n * 4 < 2 ^ 64 = omega arith in let size : n < 2 ^ 64 = omega arith in
    -- [the block; the handle; the token]
    enter ! _ _ _ _ _ $ alloc_all ! (λ l. pass_all ! refl (good, ((tt, tt), tt)) $
    sets ! (of_opd ! (get_in ! (fld ! refl (stop !)) (sub ! 0 refl (whole !)))) refl ptr $
    sets ! (of_opd ! (get_in ! (fld ! refl (stop !)) (sub ! 1 refl (whole !)))) refl (tt, record { fits = size }) $
    first ! $ blocks ! $ sets ! (of_opd ! (get ! refl)) refl ptr $
    sets ! (bin ! (get ! refl) (lit ! tt) (record { fits = bytes })) refl (tt, record { fits = bytes }) $
    use0 𝓛 (raw (fact 𝓤 (HasLayout (shape_of n) (n * 4) 4))) (fact_i 𝓤 _ (emp 𝓤) (laid_out n small)) $ join ! $
    nothing ! $ owned ! usize _ (uint_Makes 𝓛 w64) 4 (uint_vals w64 4) (refl, lit< tt) $ fjoin ! $
    owned ! usize _ (uint_Makes 𝓛 w64) (n * 4) (uint_vals w64 (n * 4)) (refl, bytes) $ fjoin ! $
    owned ! RawPtr _ (rawptr_Makes 𝓛) d.start (rawptr_vals d.start) refl $ fjoin ! $ move ! (2 ∷ 0 ∷ []) $ fjoin ! $
    nothing ! $ move ! (3 ∷ 0 ∷ []) $ join ! $ join ! $ use2 𝓛 (raw (G.pre z)) (id⊢ 𝓤 _) $
    calls_at_last ! (framed 𝓤 𝓛.H 𝓜 𝓣) G (met 𝓤 𝓛 𝓜 𝓡 (code.calls-std_heap::GlobalAllocator::deallocate 𝓡.env wired)) z
    (and_then ! (get ! refl) (and_then ! (get ! refl) (and_then ! (get ! refl) (and_then ! (lit ! tt) (no_more !))))) (λ v.
    use1 𝓛 (later (some (λ (u : Unit {0}). ((‵ (flft κs.0 qs.0) ⊛ ‵ ftrue) ⊛ ‵ (unit.own_val u (v ∷ []))) ⊛
    some (λ (ws : Unit {0} × (Unit {0} × (Unit {0} × (Unit {0} × Unit {0})))). ‵ (lasts g.ended κs z.0.3 ws) ⊛ ‵ ftrue)))) (id⊢ 𝓤 _) $
    await ! tt $ pick ! (λ u. split ! $ move ! (1 ∷ []) $ drop ! $ split ! $ move ! (1 ∷ []) $ feq_l ! (λ is_unit.
    lands_last ! refl (subst (λ (w : Val). T (has_ty ty_unit w) × WT w) (sym (ap only is_unit)) (tt, tt)) $
    exec ! 𝓣.C 𝓣.Λ (env code.Mir.locals l) code.Mir.t-4 (at_ret _ (W.post y)) $ sets ! (of_opd ! (unit_lit !)) refl (tt, tt) $
    returns ! (look_at ! 0 refl) $ free_all ! refl $
    suffices ! _ (ends_at 𝓛 f.ended left c y vunit tt (tt, (tt, tt)) (tt, (tt, tt))) $
    nothing ! $ feq_i ! _ (vunit ∷ []) _ refl $ nothing ! $ nothing ! $ join ! $ nothing ! $ join ! $ join ! $ move ! (2 ∷ 0 ∷ []) $ join ! $ done !))))))
