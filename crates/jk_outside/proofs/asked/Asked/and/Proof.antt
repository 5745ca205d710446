-- `and` makes a value whose list is the old one with this call's ask at its end. Assumes `Logic`.
use Rattle.std.proofs.Common.{[], ◌∷◌, ◌++◌, refl}
use Rattle.std.proofs.raw_atomic.Walks.{proved}
use mir.Syntax.{named}
use types.Kit.{‵, raw, ◌⊛◌, ◌$◌, ◌∵◌, !, qed, done, drop, keep, move, split, fjoin, suffices}
use types.Part.{agg}
use types.Run.{enter, returns, no_more}
use types.ByLocal.{alloc_all, pass_all, free_all, look_at, sets}
use denote.Builtin.{RefOf}
use denote.Exit.{yes}
use denote.Ref.{shr_vals, shr_Tells}
use denote.Signature.{plain, named_lft, types_at}
use denote.Steps.{nothing}
use denote.RattleType.{owns}
use denote.Triple.Entry.{alive}
use denote.Triple.Walked.{Stays, walk_of, says, stay_dropped, Goes-dropped, ends_at}
use Rattle.jk_outside.proofs.EmptyStruct.{empty, makes_empty}
use Rattle.jk_outside.specs.Asks.{ask_of}
use Rattle.jk_outside.specs.declared.asked.Asked.{Asked}
use Rattle.jk_outside.specs.contracts.asked.Asked as T
use Rattle.jk_outside.specs.contracts.asked.Call as Call
use Rattle.jk_outside.specs.contracts.asked.Asked.and as f
use Rattle.jk_outside.proofs.asked.Asked.and.Statement.{statement}
use Rattle.jk_outside.proofs.asked.Asked.and.Code as code

abbrev stayed : Stays f.ended.signature.params f.ended.kept
stayed = (stay_dropped _ yes, (stay_dropped _ yes, tt))

pub and_spec : {M : Type 1} → statement M
and_spec 𝓤 𝓛 𝓜 𝓡 wired =
    let c = f.clauses 𝓛 𝓜.mem 𝓡.returns in
    let W = walk_of 𝓛 f.ended stayed c in
    let self_goes = Goes-dropped 𝓛 3 (RefOf (0 ∷ []) tt (plain (λ _. T.the_row)) (λ _. tt)) yes (λ κs x w. refl) in
    let call_goes = Goes-dropped 𝓛 3 (RefOf (1 ∷ []) tt (plain (λ κs. Call.the_row (named_lft 3 2 tt κs))) (λ _. tt)) yes (λ κs x w. refl) in
    proved 𝓛 f.ended stayed c 𝓜 𝓡 (self_goes, (call_goes, tt))
    f.Key.name code.function (code.unfolded 𝓤 𝓛.H 𝓜 𝓡 wired)
    (λ κs. (shr_vals, (shr_vals, tt)))
    (λ κs. (shr_Tells (named 0) κs.0 T.the_row, (shr_Tells (named 1) κs.1.0 (Call.the_row (named_lft 3 2 tt κs)), tt))) (λ κs qs bounds a n are.
    let y : W.Ghost = ((κs, qs, bounds, a, (shr_vals a.0, (shr_vals a.1.0, tt))), n) in
    let more : Asked = record { asks = a.0.now.asks ++ ask_of a.1.0.now ∷ [] } in
    qed 𝓛 ((raw (alive 𝓛 f.signature κs qs) ⊛ ‵ (owns (types_at f.signature.params κs) a y.0.4)) ∷ raw ((c κs a).requires n) ∷ []) ∵
    keep ! (0 ∷ []) $ split ! $ move ! (1 ∷ []) $ drop ! $
    enter ! _ _ _ _ _ $ alloc_all ! (λ l. pass_all ! refl ((tt, tt), ((tt, tt), tt)) $
    sets ! (agg ! (no_more !)) refl (tt, tt) $
    returns ! (look_at ! 0 refl) $ free_all ! refl $
    suffices ! _ (ends_at 𝓛 f.ended stayed c y empty more (tt, (tt, tt)) (tt, (tt, tt))) $ says ! refl $
    makes_empty ! $ fjoin ! $
    nothing ! $ nothing ! $ fjoin ! $ nothing ! $ fjoin ! $ move ! (2 ∷ 0 ∷ 1 ∷ []) $ done !))
