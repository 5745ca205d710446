-- Nothing runs: the borrow of the list is opened, and closed at the list with one piece more.
use Rattle.std.proofs.Common.{[], ◌∷◌, ◌++◌, refl}
use Rattle.std.proofs.raw_atomic.Walks.{proved}
use base.Logic.{id⊢}
use base.Fml.{ftrue, flft}
use mir.Syntax.{named}
use mir.Val.{vunit}
use contract.Running.{tables}
use types.Kit.{‵, ◌⊛◌, ◌$◌, ◌∵◌, !, qed, done, move, keep, use1, split, join, fsplit3, feq_i, suffices, frame, group}
use types.Run.{enter, of_opd, unit_lit, returns}
use types.ByLocal.{alloc_all, pass_all, free_all, look_at, sets}
use denote.Builtin.{u8, SliceRefOf}
use denote.Exit.{yes}
use denote.Ref.{MutRef, mut_vals, mut_Tells}
use denote.Slice.{ShrSlice, shr_slice_vals, shr_slice_Tells}
use denote.Signature.{plain}
use denote.Steps.{nothing, opens, closes}
use denote.Triple.Walked.{Stays, walk_of, says, stay_ref, Goes-ref, stay_dropped, Goes-dropped, ends_at}
use Rattle.jk_outside.specs.contracts.handed_pieces.HandedPieces.{the_row as row}
use Rattle.jk_outside.specs.contracts.handed_pieces.HandedPieces.note as noted
use Rattle.jk_outside.proofs.handed_pieces.HandedPieces.note.Statement.{statement}
use Rattle.jk_outside.proofs.handed_pieces.HandedPieces.note.Code as code

abbrev left : Stays noted.ended.signature.params noted.ended.kept
left = (stay_ref (0 ∷ []) tt (plain (λ _. row)), (stay_dropped _ yes, tt))

pub note_spec : {M : Type 1} → statement M
note_spec 𝓤 𝓛 𝓜 𝓡 wired =
    let clauses = noted.clauses 𝓛 𝓜.mem 𝓡.returns in
    let W = walk_of 𝓛 noted.ended left clauses in
    let 𝓣 = tables 𝓤 𝓛.H 𝓜 𝓡 𝓡.env in
    proved 𝓛 noted.ended left clauses 𝓜 𝓡
    (Goes-ref 𝓛 2 0 tt (plain (λ _. row)), (Goes-dropped 𝓛 2 (SliceRefOf (1 ∷ []) tt (plain (λ _. u8)) (λ _. tt)) yes (λ κs x w. refl), tt))
    noted.Key.name code.function (code.unfolded 𝓤 𝓛.H 𝓜 𝓡 wired)
    (λ κs. (mut_vals, (shr_slice_vals, tt))) (λ κs. (mut_Tells (named 0) κs.0 row, (shr_slice_Tells (named 1) κs.1.0 u8, tt)))
    (λ κs qs bounds a _ are.
    let block = a.0.ref_ptr.0 in
    let offset = a.0.ref_ptr.1 in
    let piece = a.1.0 in
    let after : (row).Denot = record { pieces = a.0.now.pieces ++ piece.now ∷ [] } in
    let own = mut_vals a.0 in
    let slice = shr_slice_vals piece in
    let entry : W.Ghost = ((κs, qs, bounds, a, (own, (slice, tt))), tt) in
    qed 𝓛 (((‵ (flft κs.0 qs.0) ⊛ (‵ (flft κs.1.0 qs.1.0) ⊛ ‵ ftrue)) ⊛
    (‵ ((MutRef (named 0) κs.0 row).own_val a.0 own) ⊛ (‵ ((ShrSlice (named 1) κs.1.0 u8).own_val piece slice) ⊛ ‵ ftrue))) ∷ ‵ ftrue ∷ []) ∵
    split ! $ split ! $ move ! (2 ∷ []) $ split ! $ keep ! (0 ∷ 2 ∷ 3 ∷ []) $
    enter ! _ _ _ _ _ $ alloc_all ! (λ l. pass_all ! refl ((tt, tt), ((tt, (tt, (record { fits = are.1.0.0.1.0 }, tt))), tt)) $
    fsplit3 ! $ move ! (1 ∷ 2 ∷ 3 ∷ []) $ opens ! tt row block offset (λ us.
    sets ! (of_opd ! (unit_lit !)) refl (tt, tt) $
    move ! (1 ∷ []) $ use1 𝓛 (‵ ((row).own_val after us)) (id⊢ 𝓤 _) $
    move ! (1 ∷ 0 ∷ []) $ closes ! tt row after us block offset $
    returns ! (look_at ! 0 refl) $ free_all ! refl $
    move ! (3 ∷ []) $
    suffices ! _ (ends_at 𝓛 noted.ended left clauses entry vunit tt (after, (tt, tt)) (tt, (tt, tt))) $ says ! refl $
    group ! 3 $ nothing ! $ nothing ! $ join ! $ move ! (1 ∷ 0 ∷ []) $ join ! $ move ! (1 ∷ 2 ∷ []) $ join ! $ frame ! $ frame ! $
    feq_i ! _ (vunit ∷ []) _ refl $ done !)))
