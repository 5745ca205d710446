-- The struct of no bytes is made, and has the empty list.
use Rattle.std.proofs.Common.{List, [], ◌∷◌, refl}
use Rattle.std.proofs.raw_atomic.Walks.{proved}
use mir.Val.{Val, vstruct, vnil}
use types.Kit.{raw, ◌$◌, ◌∵◌, !, qed, done, drop, fjoin, fpack, feq_i, suffices}
use types.Part.{agg}
use types.Run.{enter, no_more, returns}
use types.ByLocal.{alloc_all, pass_all, free_all, look_at, sets}
use denote.RattleType.{Valss}
use denote.Steps.{nothing}
use denote.Struct.Struct.{within}
use denote.Triple.Entry.{on_entry}
use denote.Triple.Walked.{Stays, walk_of, says, ends_at}
use Rattle.jk_outside.specs.contracts.handed_pieces.HandedPieces.new as made
use Rattle.jk_outside.proofs.handed_pieces.HandedPieces.new.Statement.{statement}
use Rattle.jk_outside.proofs.handed_pieces.HandedPieces.new.Code as code

abbrev left : Stays made.ended.signature.params made.ended.kept
left = tt

pub new_spec : {M : Type 1} → statement M
new_spec 𝓤 𝓛 𝓜 𝓡 wired =
    let clauses = made.clauses 𝓛 𝓜.mem 𝓡.returns in
    let W = walk_of 𝓛 made.ended left clauses in
    proved 𝓛 made.ended left clauses 𝓜 𝓡 tt made.Key.name code.function (code.unfolded 𝓤 𝓛.H 𝓜 𝓡 wired)
    (λ κs. tt) (λ κs. tt)
    (λ κs qs bounds a none are.
    let empty : Val = vstruct vnil in
    let entry : W.Ghost = ((κs, qs, bounds, a, tt), none) in
    qed 𝓛 (raw (on_entry 𝓛 made.signature κs qs a tt) ∷ raw ((clauses κs a).requires none) ∷ []) ∵ drop ! $ drop ! $
    enter ! _ _ _ _ _ $ alloc_all ! (λ l. pass_all ! refl tt $
    sets ! (agg ! (no_more !)) refl (tt, tt) $
    returns ! (look_at ! 0 refl) $ free_all ! refl $
    suffices ! _ (ends_at 𝓛 made.ended left clauses entry empty (record { pieces = [] }) tt tt) $ says ! refl $
    nothing ! $ nothing ! $ feq_i ! (List Val) (empty ∷ []) (empty ∷ []) refl $ fjoin ! $
    fpack ! (Valss []) (within (record { name = []; args = []; types = []; fields = [] }) tt (empty ∷ [])) tt $ fjoin ! $
    nothing ! $ nothing ! $ done !))
