-- `of` makes a block of what the heap gives, or passes on that there is none. Assumes `Logic`.
use Rattle.std.proofs.Common.{◌≡◌, ℕ, ◌*◌, ◌^◌, ◌<◌, List, [], ◌∷◌, ◌++◌, refl, ap, ◌∙◌, lit<, arith, w64, replicate}
use base.Fml.{ftrue, flft}
use base.Logic.{emp, id⊢}
use seplogic.Ra.Ura.{Ura}
use mir.Syntax.{named, ty_ptr}
use mir.Val.{Val, vstruct, vcons, vnil, of_list}
use contract.Monad.{fact, fact_i}
use contract.Running.{tables}
use types.Logic.{Logic}
use types.Kit.{Item, Goal, Seq, ‵, raw, ◌⊛◌, some, later, at_ret, prop, Sq, ◌$◌, ◌∵◌, !, qed, move, keep, drop, use0, use1, use2, split, join, fsplit, fjoin, fpick, feq_l, pick, await, suffices, done}
use types.Match.{live, vrt, in_variant}
use types.Part.{agg, whole}
use types.Run.{enter, of_opd, lit, bin, stop, fld, no_more, and_then, first, switches, exec, returns}
use types.ByLocal.{alloc_all, pass_all, free_all, look_at, get, get_in, get_tag, sets, sets_last, lands_as, env}
use denote.Builtin.{usize}
use denote.Exit.{yes}
use denote.Laws.{Is}
use denote.Param.{layout}
use denote.Plain.{uint_vals, uint_Tells, uint_Makes, uint_Lawful}
use denote.RattleType.{RattleType, owns}
use denote.RawPtr.{Ptr, RawPtr, ptr_val, rawptr_vals, rawptr_Lawful}
use denote.Ref.{ShrRef, shr_vals, shr_Tells}
use denote.Signature.{plain}
use denote.Steps.{nothing, owned, heard, only}
use denote.Struct.Declared as Declared
use denote.Struct.Owning.{shape}
use denote.Struct.Struct.{Struct, Struct-Lawful, Struct-Makes}
use denote.Triple.Call.{calls_at}
use denote.Triple.Clauses.{lasts}
use denote.Triple.Spec.{triple_of}
use denote.Triple.Table.{framed}
use denote.Triple.Walked.{Stays, walk_of, says, stay_dropped, Goes-dropped, ends_at}
use Rattle.std.specs.Prelude.{None, IfOk, Ok, Err}
use Rattle.std.specs.Allocator.{HasLayout, owned_block, block_if_ok}
use Rattle.std.specs.contracts.alloc.AllocError as Refusal
use Rattle.std.specs.contracts.alloc.Global.{the_row as Heap}
use Rattle.std.specs.contracts.impls.GlobalAllocator.TheImpl.{ghosts}
use Rattle.std.specs.contracts.impls.GlobalAllocator.allocate as g
use Rattle.std.specs.contracts.result.Result as Either
use Rattle.std.proofs.impls.GlobalAllocator.allocate.Met.{met}
use Rattle.std.proofs.raw_atomic.Walks.{proved}
use Rattle.std.proofs.RcSteps.{Good, first_Good}
use Rattle.std.proofs.ResultValues.{ok_of, err_of}
use Rattle.word_pool.specs.Ownership.{heap, shape_of, block_owned}
use Rattle.word_pool.proofs.WordsAreMemory.{handle, laid_out, begun}
use Rattle.word_pool.specs.contracts.block.Block as B
use Rattle.word_pool.proofs.block.Block.TheLaws.{lowers}
use Rattle.word_pool.specs.contracts.block.Block.of as f
use Rattle.word_pool.proofs.block.Block.of.Statement.{statement}
use Rattle.word_pool.proofs.block.Block.of.Code as code

abbrev left : Stays f.ended.signature.params f.ended.kept
left = (stay_dropped handle yes, (stay_dropped (plain (λ _. usize)) yes, tt))

abbrev Fields : RattleType
Fields = Struct (shape B.the_type)

abbrev Answer : RattleType
Answer = Either.the_row RawPtr Refusal.the_row

abbrev Made : RattleType
Made = Either.the_row B.the_row Refusal.the_row

abbrev Bare : RattleType
Bare = Struct (Declared.shape Refusal.the_type)

abbrev gave : Val → Val
gave v = live 0 (vcons v vnil)

abbrev refused : Val
refused = live 1 (vcons (vstruct vnil) vnil)

refused-good : Good (layout Made) refused
refused-good = (tt, (record { fits = lit< tt }, (tt, tt)))

-- the heap's answer tells which of the two it is
module _ {M : Type 1} {𝓤 : Ura M} {𝓛 : Logic 𝓤} {K : Type 0} {Γ : List (Item 𝓤)} {G : Goal 𝓤 𝓛.H} (n : ℕ) (v : Val) where
  told : K → (r : Answer.Denot)
      → ((p : Ptr) → v ≡ gave (ptr_val p) → Seq K 𝓛 (‵ (owned_block (ghosts.dealloc_token heap) (shape_of n) p) ∷ Γ) G)
      → (v ≡ refused → Seq K 𝓛 Γ G)
      → Seq K 𝓛 (‵ (Answer.own_val r (v ∷ [])) ∷ ‵ (block_if_ok (ghosts.dealloc_token heap) (shape_of n) r) ∷ Γ) G
  told t (Ok p) some_memory none = fpick t (λ us. fsplit t $ feq_l t (λ e. fpick t (λ ws. fsplit t $ feq_l t (λ e1. fsplit t $ feq_l t (λ e2. drop t $
      some_memory p (ap only e ∙ ap (λ (us : List Val). live 0 (of_list us)) (e1 ∙ ap (λ (us : List Val). us ++ []) e2)))))))
  told t (Err x) some_memory none =
      fpick t (λ us. fsplit t $ feq_l t
      (λ e. fpick t (λ ws. fsplit t $ feq_l t (λ e1. fsplit t $ fpick t (λ us. fsplit t $ feq_l t (λ e2. drop t $ drop t $ drop t $
      none (ap only e ∙ ap (λ (us : List Val). live 1 (of_list us)) (e1 ∙ ap (λ (us : List Val). us ++ []) e2))))))))

pub of_spec : {M : Type 1} → statement M
of_spec 𝓤 𝓛 𝓜 𝓡 wired =
    let c = f.clauses 𝓛 𝓜.mem 𝓡.returns in let W = walk_of 𝓛 f.ended left c in let 𝓣 = tables 𝓤 𝓛.H 𝓜 𝓡 𝓡.env in
    proved 𝓛 f.ended left c 𝓜 𝓡 (Goes-dropped 𝓛 1 handle yes (λ κs x w. refl), (Goes-dropped 𝓛 1 (plain (λ _. usize)) yes (λ κs x w. refl), tt))
    f.Key.name code.function (code.unfolded 𝓤 𝓛.H 𝓜 𝓡 wired)
    (λ κs. (shr_vals, (uint_vals w64, tt))) (λ κs. (shr_Tells (named 0) κs.0 Heap, (uint_Tells w64, tt))) (λ κs qs bounds a _ are.
    let r = a.0 in let n = a.1.0 in
    let vss : List Val × (List Val × Unit {0}) = (shr_vals r, (uint_vals w64 n, tt)) in let y : W.Ghost = ((κs, qs, bounds, a, vss), tt) in
    let G = triple_of 𝓛 g.signature (g.spec 𝓛 𝓜.mem 𝓡.returns) in
    let z : G.Ghost = ((κs, qs, tt, (r, (n * 4, (4, tt))), (shr_vals r, (uint_vals w64 (n * 4), (uint_vals w64 4, tt)))), shape_of n) in
    -- [what is returned; the token]
    let ends : (v : Val) (x : Made.Denot) → IfOk x (λ b. b.content ≡ replicate n None)
    → Sq 𝓛 (‵ (Made.own_val x (v ∷ [])) ∷ ‵ (flft κs.0 qs.0) ∷ []) (prop (W.post y v)) = λ v x ok.
    suffices ! _ (ends_at 𝓛 f.ended left c y v x (tt, (tt, tt)) (tt, (tt, tt))) $ says ! ok $
    nothing ! $ nothing ! $ join ! $ nothing ! $ join ! $ join ! $ nothing ! $ move ! (2 ∷ 0 ∷ []) $ join ! $ join ! $ done ! in
    qed 𝓛 (((‵ (flft κs.0 qs.0) ⊛ ‵ ftrue) ⊛ ‵ (owns (ShrRef (named 0) κs.0 Heap ∷ usize ∷ []) a vss)) ∷ raw (fact 𝓤 (n * 4 < 2 ^ 63)) ∷ []) ∵
    split ! $ move ! (2 ∷ []) $ heard ! _ (λ small. split ! $ move ! (2 ∷ []) $ fsplit ! $ keep ! (0 ∷ 2 ∷ []) $
    let bytes : n * 4 < 2 ^ 64 = omega arith in
    enter ! _ _ _ _ _ $ alloc_all ! (λ l. pass_all ! refl ((tt, tt), ((tt, record { fits = are.1.0.1 }), tt)) $
    sets ! (bin ! (get ! refl) (lit ! tt) (record { fits = bytes })) refl (tt, record { fits = bytes }) $
    -- [the handle; the token]
    use0 𝓛 (raw (fact 𝓤 (HasLayout (shape_of n) (n * 4) 4))) (fact_i 𝓤 _ (emp 𝓤) (laid_out n small)) $ move ! (1 ∷ []) $
    nothing ! $ owned ! usize _ (uint_Makes 𝓛 w64) 4 (uint_vals w64 4) (refl, lit< tt) $ fjoin ! $
    owned ! usize _ (uint_Makes 𝓛 w64) (n * 4) (uint_vals w64 (n * 4)) (refl, bytes) $ fjoin ! $
    move ! (1 ∷ 0 ∷ []) $ fjoin ! $ nothing ! $ move ! (3 ∷ 0 ∷ []) $ join ! $ join ! $ use2 𝓛 (raw (G.pre z)) (id⊢ 𝓤 _) $
    calls_at ! (framed 𝓤 𝓛.H 𝓜 𝓣) G (met 𝓤 𝓛 𝓜 𝓡 (code.calls-std_heap::GlobalAllocator::allocate 𝓡.env wired)) z
    (and_then ! (get ! refl) (and_then ! (get ! refl) (and_then ! (lit ! tt) (no_more !)))) (λ v.
    use1 𝓛 (later (some (λ (x : Answer.Denot). ((‵ (flft κs.0 qs.0) ⊛ ‵ ftrue) ⊛ ‵ (Answer.own_val x (v ∷ []))) ⊛
    some (λ (ws : Unit {0} × (Unit {0} × (Unit {0} × Unit {0}))). ‵ (lasts g.ended κs z.0.3 ws) ⊛ ‵
    (block_if_ok (ghosts.dealloc_token heap) (shape_of n) x))))) (id⊢ 𝓤 _) $
    await ! tt $ pick !
    (λ x. split ! $ move ! (1 ∷ []) $ pick ! (λ ws. split ! $ drop ! $ move ! (1 ∷ []) $ split ! $ split ! $ move !
    (1 ∷ []) $ drop ! $ move ! (1 ∷ 2 ∷ []) $
    told n v ! x (λ p is_p.
    let d : B.the_row.Denot = record { start = p; words = n; content = replicate n None } in let made = lowers.lowered d in
    let ptr = ((rawptr_Lawful 𝓛).typed p (rawptr_vals p) refl).0 in
    let laid : Is Fields (p, (n, tt)) (made ∷ []) = ((rawptr_vals p, (uint_vals w64 n, tt)), (refl, (refl, ((refl, are.1.0.1), tt)))) in
    let good = ((Struct-Lawful 𝓛 (shape B.the_type) (rawptr_Lawful 𝓛, (uint_Lawful 𝓛 w64, tt))).typed (p, (n, tt)) (made ∷ []) laid).0 in
    let gave-good = first_Good (layout B.the_row) made good in
    lands_as ! is_p refl (first_Good ty_ptr (ptr_val p) ptr) $ first ! $ switches ! (get_tag ! (vrt ! refl (fld ! refl (stop !))) (whole !)) (
      (λ _.
          sets ! (of_opd ! (get_in ! (vrt ! refl (fld ! refl (stop !))) (in_variant ! 0 0 refl refl (whole !)))) refl ptr $
          sets ! (of_opd ! (get ! refl)) refl ptr $
          sets ! (agg ! (and_then ! (get ! refl) (and_then ! (get ! refl) (no_more !)))) refl good $
          sets_last ! (agg ! (and_then ! (lit ! tt) (and_then ! (get ! refl) (no_more !)))) refl gave-good $
          exec ! 𝓣.C 𝓣.Λ (env code.Mir.locals l) code.Mir.t-4 (at_ret _ (W.post y)) $ sets ! (of_opd ! (get ! refl)) refl gave-good $
          returns ! (look_at ! 0 refl) $ free_all ! refl $
          use1 𝓛 (‵ (block_owned p n d.content)) (begun 𝓛 n p small) $
          owned ! Fields (Is Fields) (Struct-Makes 𝓛 (shape B.the_type) ((λ _ _. tt), ((λ _ _. (tt, tt)), tt)))
          (p, (n, tt)) (made ∷ []) laid $ fjoin ! $
          use1 𝓛 (‵ (Made.own_val (Ok d) (gave made ∷ []))) (ok_of 𝓛 B.the_row Refusal.the_row d made) $ ends (gave made) (Ok d) refl),
      ((λ wrong. absurd (omega (arith, wrong))), (λ none. absurd (none.0.1 refl))),
    ))
    (λ is_none.
    lands_as ! is_none refl refused-good $ first ! $ switches ! (get_tag ! (vrt ! refl (fld ! refl (stop !))) (whole !)) (
      (λ wrong. absurd (omega (arith, wrong))),
      (
        (λ _.
            sets ! (of_opd ! (get_in ! (vrt ! refl (fld ! refl (stop !))) (in_variant ! 1 0 refl refl (whole !)))) refl (tt, tt) $
            sets_last ! (agg ! (and_then ! (lit ! tt) (and_then ! (get ! refl) (no_more !)))) refl refused-good $
            exec ! 𝓣.C 𝓣.Λ (env code.Mir.locals l) code.Mir.t-4 (at_ret _ (W.post y)) $
            sets ! (of_opd ! (get ! refl)) refl refused-good $ returns ! (look_at ! 0 refl) $ free_all ! refl $
            owned ! Bare (Is Bare) (Struct-Makes 𝓛 (Declared.shape Refusal.the_type) tt) tt (vstruct vnil ∷ []) (tt, (refl, tt)) $
            use1 𝓛 (‵ (Made.own_val (Err (record {})) (refused ∷ [])))
            (err_of 𝓛 B.the_row Refusal.the_row (record {}) (vstruct vnil)) $ ends refused (Err (record {})) tt),
        (λ none. absurd (none.1 refl)),
      ),
    ))))))))
