-- `put` makes a hole of the word that was there, whatever it was, and fills it. Assumes `Logic`.
use Rattle.std.proofs.Common.{ℕ, ◌<◌, ◌*◌, ◌+◌, ◌^◌, List, [], ◌∷◌, length, length-set, refl, sym, ap, ◌∙◌, arith, w32, w64}
use base.Fraction.{full_share}
use base.Fml.{ftrue, froom, flft}
use base.Logic.{id⊢}
use mir.Syntax.{named}
use mir.Val.{Val, vunit}
use contract.Monad.{fact}
use contract.Running.{tables}
use types.Kit.{‵, raw, ◌⊛◌, at_ret, ◌$◌, ◌∵◌, !, qed, move, keep, use1, use2, split, join, fsplit, fsplit3, fjoin, feq_i, feq_l, flt_i, flt_l, rewrite, suffices, frame, group, done}
use types.Part.{look_in, sub, whole}
use types.Run.{enter, of_opd, unit_lit, lit, bin, load, init, stop, fld, assigns_last, first, blocks, exec, returns}
use types.ByLocal.{alloc_all, pass_all, free_all, look_at, get, through, sets, env}
use denote.Builtin.{u32, usize}
use denote.Exit.{yes}
use denote.Laws.{shows}
use denote.Memory.{cell_at, part_at}
use denote.Plain.{uint_in, uint_vals, uint_Tells}
use denote.RawPtr.{Ptr, in_a_block}
use denote.Ref.{MutRef, mut_vals, mut_Tells}
use denote.RattleType.{owns}
use denote.Signature.{plain}
use denote.Steps.{nothing, heard, opens, closes, peeks}
use denote.Triple.Walked.{Stays, walk_of, says, stay_dropped, stay_ref, Goes-dropped, Goes-ref, ends_at}
use Rattle.std.specs.Prelude.{Some, slice_set}
use Rattle.std.proofs.raw_atomic.Walks.{proved}
use Rattle.word_pool.specs.Ownership.{words_at, block_owned}
use Rattle.word_pool.proofs.WordsAreMemory.{cell, others, vacated, settled}
use Rattle.word_pool.specs.contracts.block.Block.{the_row as Owner}
use Rattle.word_pool.proofs.block.Block.TheLaws.{lowers}
use Rattle.word_pool.specs.contracts.block.Block.put as f
use Rattle.word_pool.proofs.block.Block.put.Statement.{statement}
use Rattle.word_pool.proofs.block.Block.put.Code as code

abbrev left : Stays f.ended.signature.params f.ended.kept
left = (stay_ref (0 ∷ []) tt (plain (λ _. Owner)), (stay_dropped (plain (λ _. usize)) yes, (stay_dropped (plain (λ _. u32)) yes, tt)))

pub put_spec : {M : Type 1} → statement M
put_spec 𝓤 𝓛 𝓜 𝓡 wired =
    let c = f.clauses 𝓛 𝓜.mem 𝓡.returns in let W = walk_of 𝓛 f.ended left c in let 𝓣 = tables 𝓤 𝓛.H 𝓜 𝓡 𝓡.env in
    proved 𝓛 f.ended left c 𝓜 𝓡 (
      Goes-ref 𝓛 1 0 tt (plain (λ _. Owner)),
      (Goes-dropped 𝓛 1 (plain (λ _. usize)) yes (λ κs x w. refl), (Goes-dropped 𝓛 1 (plain (λ _. u32)) yes (λ κs x w. refl), tt)),
    )
    f.Key.name code.function (code.unfolded 𝓤 𝓛.H 𝓜 𝓡 wired)
    (λ κs. (mut_vals, (uint_vals w64, (uint_vals w32, tt))))
    (λ κs. (mut_Tells (named 0) κs.0 Owner, (uint_Tells w64, (uint_Tells w32, tt)))) (λ κs qs bounds a _ are.
    let i = a.1.0 in
    let x = a.1.1.0 in
    let d = a.0.now in
    let n = d.words in let cs = d.content in let new = slice_set cs i (Some x) in let rb = a.0.ref_ptr.0 in let ro = a.0.ref_ptr.1 in
    let vss : List Val × (List Val × (List Val × Unit {0})) = (mut_vals a.0, (uint_vals w64 i, (uint_vals w32 x, tt))) in
    let y : W.Ghost = ((κs, qs, bounds, a, vss), tt) in
    qed 𝓛 (((‵ (flft κs.0 qs.0) ⊛ ‵ ftrue) ⊛ ‵ (owns (MutRef (named 0) κs.0 Owner ∷ usize ∷ u32 ∷ []) a vss)) ∷ raw (fact 𝓤 (i < length cs)) ∷ []) ∵
    split ! $ move ! (2 ∷ []) $ heard ! _ (λ inside. split ! $ move ! (2 ∷ []) $ fsplit ! $ fsplit3 ! $ keep ! (1 ∷ 2 ∷ 4 ∷ []) $
    enter ! _ _ _ _ _ $ alloc_all ! (λ l. pass_all ! refl ((tt, tt), ((tt, record { fits = are.1.0.1 }), ((tt, record { fits = are.1.1.0.1 }), tt))) $
    opens ! tt Owner rb ro (λ us. move ! (1 ∷ []) $ peeks ! Owner _ (shows 𝓛 Owner) d us (λ is. fsplit ! $ move ! (1 ∷ []) $
    in_a_block ! d.start (λ p. block_owned p n cs) (id⊢ 𝓤 _) (λ b o e. fsplit ! $ fsplit ! $ feq_l ! (λ long. flt_l ! (λ small. fsplit ! $
    let at = i * 4 + o in let far : i * 4 < 2 ^ 64 = omega (arith, inside, long, small) in
    let word = lowers.val_is d us is ∙ ap (λ (p : Ptr). lowers.lowered (record d { start = p }) ∷ []) e in
    let Cell = λ (ws : List Val). ‵ (cell_at full_share Owner.mir ws rb ro) in
    use1 𝓛 (‵ (froom cell b at) ⊛ ‵ (others b o cs i)) (vacated 𝓛 b o cs i at refl inside) $ split ! $ rewrite ! 4 Cell word refl $
    -- [the hole; the other words; the right to free; what the fields own; the block's cell; the open borrow, in three entries]
    first ! $ blocks ! $
    sets ! (of_opd ! (load ! (through ! refl (fld ! refl (stop !))) (look_in ! 4 (sub ! 0 refl (whole !))))) refl (tt, tt) $
    sets ! (bin ! (get ! refl) (lit ! tt) (record { fits = far })) refl (tt, record { fits = far }) $
    sets ! (bin ! (get ! refl) (get ! refl) tt) refl (tt, tt) $
    assigns_last ! (of_opd ! (get ! refl)) (through ! refl (stop !)) (init ! 0 refl (tt, record { fits = are.1.1.0.1 })) $
    exec ! 𝓣.C 𝓣.Λ (env code.Mir.locals l) code.Mir.t-2 (at_ret _ (W.post y)) $
    sets ! (of_opd ! (unit_lit !)) refl (tt, tt) $
    use1 𝓛 (‵ (part_at u32 full_share x b at)) (uint_in 𝓛 full_share w32 x b at) $
    use2 𝓛 (‵ (words_at b o new)) (settled 𝓛 b o cs i at x refl inside) $ fjoin ! $
    flt_i ! (n * 4) (2 ^ 63) small $ feq_i ! ℕ (length new) n (length-set cs i (Some x) ∙ long) $ fjoin ! $ fjoin ! $
    rewrite ! 0 (λ (p : Ptr). ‵ (block_owned p n new)) (sym e) refl $ rewrite ! 2 Cell (sym word) refl $
    move ! (1 ∷ []) $ fjoin ! $ move ! (1 ∷ []) $ closes ! tt Owner (record d { content = new }) us rb ro $
    returns ! (look_at ! 0 refl) $ free_all ! refl $
    suffices ! _ (ends_at 𝓛 f.ended left c y vunit tt (record d { content = new }, (tt, (tt, tt))) (tt, (tt, (tt, tt)))) $ says ! refl $
    feq_i ! _ (mut_vals a.0) _ refl $ group ! 3 $ nothing ! $ nothing ! $ join ! $ nothing ! $ join ! $ move ! (1 ∷ 0 ∷ []) $ join ! $
    nothing ! $ move ! (2 ∷ 0 ∷ []) $ join ! $ frame ! $ frame ! $ feq_i ! _ (vunit ∷ []) _ refl $ done !))))))))
