-- One entry after another.
use Rattle.std.proofs.Common.{◌≡◌, ℕ, ◌+◌, ◌-◌, suc, List, [], ◌∷◌, ◌++◌, length, take, slice_get, Some, refl, sym, ap, subst, ◌∙◌, arith}
use Rattle.jk_model.specs.declared.values.Value.{Value}
use Rattle.list_lemmas.proofs.ItemsByPlace.{length_take}
use Rattle.list_lemmas.proofs.LastItems.{take_next}
use Rattle.domain_crossing.proofs.EntriesOnTop.{peeked_at}
use Rattle.domain_crossing.proofs.arguments.entries.Goals as goal

take_length : (vs : List Value) → take (length vs) vs ≡ vs
take_length [] = refl
take_length (v ∷ vs) = ap (λ (x : List Value). v ∷ x) (take_length vs)

pub put-requires : goal.put-requires
put-requires g c =
    let few = ap length (c.loop-i.invariant c.requires.on_top.0 c.requires.on_top.1 c.requires.on_top.2) in
    let most = length_take c.requires.on_top.0 c.loop-i.i in
    let many = c.requires.few in
    omega (arith, few, most, many)

pub loop-i-preserved : goal.loop-i-preserved
loop-i-preserved g c = λ values on many.
    let from_top : c.args.count - 1 - c.loop-i.i ≡ length values - 1 - c.loop-i.i = omega (arith, many) in
    let read = peeked_at (g.F.SegmentFrames.content c.args.frames.now) c.args.s values on c.loop-i.i c.peek.result (omega (arith, many))
    (λ f top. subst (λ (k : ℕ). slice_get f.stack (length f.stack - 1 - k) ≡ Some c.peek.result) from_top (c.peek.ensures f top)) in
    let next : c.loop-i.i + 1 ≡ suc c.loop-i.i = omega arith in
    c.put.ensures ∙ ap (λ (vs : List Value). vs ++ c.peek.result ∷ []) (c.loop-i.invariant values on many)
    ∙ sym (take_next values c.loop-i.i c.peek.result read) ∙ ap (λ (n : ℕ). take n values) (sym next)

pub returns : goal.returns
returns g c = λ values on many.
    let all : c.loop-i.i ≡ length values = omega (arith, many) in
    c.loop-i.invariant values on many ∙ ap (λ (n : ℕ). take n values) all ∙ take_length values
