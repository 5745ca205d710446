-- `get` reads a word that the `&` to the block lends. Assumes `Logic`.
use Rattle.std.proofs.Common.{ℕ, ◌+◌, ◌*◌, ◌^◌, ◌<◌, List, [], ◌∷◌, refl, arith, w32, w64}
use base.Fml.{Lft, ftrue, flft}
use base.Logic.{ent, sep, id⊢}
use seplogic.Ra.Ura.{Ura}
use mir.Syntax.{named}
use mir.Val.{Val, vint}
use contract.Monad.{fact}
use contract.Running.{tables}
use types.Logic.{Logic, sem}
use types.Kit.{‵, raw, ◌⊛◌, at_ret, ◌$◌, ◌∵◌, !, qed, move, keep, use1, split, join, fsplit, feq_i, feq_l, flt_l, rewrite, suffices, done}
use types.Run.{enter, of_opd, lit, bin, load, look, stop, fld, first, blocks, exec, returns}
use types.ByLocal.{alloc_all, pass_all, free_all, look_at, get, through, sets, sets_last, env}
use denote.Builtin.{RefOf, u32, usize}
use denote.Copied.{uint_Copied}
use denote.Exit.{yes}
use denote.Memory.{cell_at, hidden_shr, shared_of}
use denote.Opens.{hide, unhide}
use denote.Plain.{uint_vals, uint_Tells, uint_Makes}
use denote.RattleType.{owns}
use denote.RawPtr.{Ptr, RawPtr, block_ptr, in_a_block, rawptr_vals}
use denote.Ref.{ShrRef, shr_vals, shr_Tells}
use denote.Signature.{Slot, plain}
use denote.Steps.{nothing, heard, owned, looks, shuts}
use denote.Struct.Laws.{RawPtr-copy}
use denote.Triple.Walked.{Stays, walk_of, says, stay_dropped, Goes-dropped, ends_at}
use Rattle.std.proofs.raw_atomic.Walks.{proved}
use Rattle.word_pool.specs.Ownership.{block_lent}
use Rattle.word_pool.specs.Readable.{IsReadable}
use Rattle.word_pool.proofs.WordsAreMemory.{within, seen}
use Rattle.word_pool.specs.contracts.block.Block.{the_row as Owner}
use Rattle.word_pool.specs.contracts.block.Block.get as f
use Rattle.word_pool.proofs.block.Block.get.Statement.{statement}
use Rattle.word_pool.proofs.block.Block.get.Code as code

abbrev lender : Slot 1
lender = RefOf (0 ∷ []) tt (plain (λ _. Owner)) (λ _. tt)

abbrev left : Stays f.ended.signature.params f.ended.kept
left = (stay_dropped lender yes, (stay_dropped (plain (λ _. usize)) yes, tt))

-- where the block begins, and its words
reaches : {M : Type 1} {𝓤 : Ura M} (𝓛 : Logic 𝓤) (κ : Lft) (d : Owner.Denot) (rb ro : ℕ)
    → ent 𝓤 (sem 𝓛 (hidden_shr Owner κ d rb ro)) (sep 𝓤 (sem 𝓛 (hidden_shr RawPtr κ d.start rb (ro + 0))) (sem 𝓛 (block_lent d.start d.words d.content κ)))
reaches 𝓛 κ d rb ro = qed 𝓛 (‵ (hidden_shr Owner κ d rb ro) ∷ []) ∵ unhide ! $ fsplit ! $ fsplit ! $ fsplit ! $ keep ! (0 ∷ 3 ∷ []) $ hide ! $ done !

pub get_spec : {M : Type 1} → statement M
get_spec 𝓤 𝓛 𝓜 𝓡 wired =
    let c = f.clauses 𝓛 𝓜.mem 𝓡.returns in let W = walk_of 𝓛 f.ended left c in let 𝓣 = tables 𝓤 𝓛.H 𝓜 𝓡 𝓡.env in
    proved 𝓛 f.ended left c 𝓜 𝓡 (Goes-dropped 𝓛 1 lender yes (λ κs x w. refl), (Goes-dropped 𝓛 1 (plain (λ _. usize)) yes (λ κs x w. refl), tt))
    f.Key.name code.function (code.unfolded 𝓤 𝓛.H 𝓜 𝓡 wired)
    (λ κs. (shr_vals, (uint_vals w64, tt))) (λ κs. (shr_Tells (named 0) κs.0 Owner, (uint_Tells w64, tt))) (λ κs qs bounds a _ are.
    let i = a.1.0 in let d = a.0.now in let n = d.words in let cs = d.content in let rb = a.0.ref_ptr.0 in let ro = a.0.ref_ptr.1 in
    let vss : List Val × (List Val × Unit {0}) = (shr_vals a.0, (uint_vals w64 i, tt)) in let y : W.Ghost = ((κs, qs, bounds, a, vss), tt) in
    qed 𝓛 (((‵ (flft κs.0 qs.0) ⊛ ‵ ftrue) ⊛ ‵ (owns (ShrRef (named 0) κs.0 Owner ∷ usize ∷ []) a vss)) ∷ raw (fact 𝓤 (IsReadable cs i)) ∷ []) ∵
    split ! $ move ! (2 ∷ []) $ heard ! _ (λ ok. split ! $ move ! (2 ∷ []) $ fsplit ! $ fsplit ! $ keep ! (1 ∷ 3 ∷ []) $
    use1 𝓛 (‵ (hidden_shr RawPtr κs.0 d.start rb (ro + 0)) ⊛ ‵ (block_lent d.start n cs κs.0)) (reaches 𝓛 κs.0 d rb ro) $ split ! $ move ! (1 ∷ []) $
    in_a_block ! d.start (λ p. block_lent p n cs κs.0) (id⊢ 𝓤 _) (λ b o e. fsplit ! $ fsplit ! $ feq_l ! (λ long. flt_l ! (λ small.
    let x = ok.0 in let at = i * 4 + o in let inside = within cs i x ok.1 in let far : i * 4 < 2 ^ 64 = omega (arith, inside, long, small) in
    use1 𝓛 (‵ (shared_of u32 x b at κs.0)) (seen 𝓛 b κs.0 o cs i at x refl ok.1) $ hide ! $
    rewrite ! 1 (λ (p : Ptr). ‵ (hidden_shr RawPtr κs.0 p rb (ro + 0))) e refl $ move ! (1 ∷ 2 ∷ []) $
    -- [the beginning, as the `&` shows it; the token; the word, as the `&` shows it]
    enter ! _ _ _ _ _ $ alloc_all ! (λ l. pass_all ! refl ((tt, tt), ((tt, record { fits = are.1.0.1 }), tt)) $ first ! $ blocks ! $
    looks ! tt RawPtr (RawPtr-copy.copied _ 𝓤 𝓛).opens (block_ptr b o) rb (ro + 0)
    (λ q vs. move ! (1 ∷ []) $ feq_l ! (λ is_p. rewrite ! 0 (λ (ws : List Val). ‵ (cell_at q RawPtr.mir ws rb (ro + 0))) is_p refl $
    sets ! (of_opd ! (load ! (through ! refl (fld ! refl (stop !))) (look ! 0 refl))) refl (tt, tt) $
    feq_i ! _ (rawptr_vals (block_ptr b o)) _ refl $ move ! (1 ∷ 0 ∷ []) $ shuts ! tt RawPtr q (block_ptr b o) (rawptr_vals (block_ptr b o)) rb (ro + 0) $
    sets ! (bin ! (get ! refl) (lit ! tt) (record { fits = far })) refl (tt, record { fits = far }) $
    sets ! (bin ! (get ! refl) (get ! refl) tt) refl (tt, tt) $ move ! (2 ∷ 0 ∷ []) $
    looks ! tt u32 (uint_Copied 𝓛 w32).opens x b at
    (λ q vs. move ! (1 ∷ []) $ fsplit ! $ feq_l ! (λ is_x. flt_l ! (λ fits. rewrite ! 0 (λ (ws : List Val). ‵ (cell_at q u32.mir ws b at)) is_x refl $
    sets_last ! (of_opd ! (load ! (through ! refl (stop !)) (look ! 0 refl))) refl (tt, record { fits = fits }) $
    exec ! 𝓣.C 𝓣.Λ (env code.Mir.locals l) code.Mir.t-2 (at_ret _ (W.post y)) $ sets ! (of_opd ! (get ! refl)) refl (tt, record { fits = fits }) $
    owned ! u32 _ (uint_Makes 𝓛 w32) x (uint_vals w32 x) (refl, fits) $ move ! (1 ∷ 0 ∷ []) $ shuts ! tt u32 q x (uint_vals w32 x) b at $
    returns ! (look_at ! 0 refl) $ free_all ! refl $ keep ! (0 ∷ []) $
    suffices ! _ (ends_at 𝓛 f.ended left c y (vint w32 x) x (tt, (tt, tt)) (tt, (tt, tt))) $ says ! ok.1 $
    owned ! u32 _ (uint_Makes 𝓛 w32) x (uint_vals w32 x) (refl, fits) $ nothing ! $ nothing ! $ join ! $ nothing ! $ join ! $ join ! $
    nothing ! $ move ! (2 ∷ 0 ∷ []) $ join ! $ join ! $ done !)))))))))))
