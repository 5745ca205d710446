-- The two topmost entries are exchanged, or are not of one slot.
use Rattle.std.proofs.Common.{◌≡◌, ◌++◌, ◌∷◌, [], List, append_assoc, ◌∙◌, ap, subst, sym, refl, true}
use Rattle.jk_model_typing.specs.declared.frames.VType.{VType}
use Rattle.jk_model_typing.specs.declared.frames.FrameType.{FrameType}
use Rattle.jk_model_typing.specs.Groups.{Swaps}
use Rattle.type_rows.specs.Steps.{IsDone}
use Rattle.type_rows.proofs.RowsAreDone.{swapped, not_swapped}
use Rattle.type_rows.proofs.entries.swap.Goals as goal

pub returns-in_ok-push-in-Some-Some-2 : goal.returns-in_ok-push-in-Some-Some-2
returns-in_ok-push-in-Some-Some-2 c =
    λ s place is.
    let before = c.args.frame.now in
    let low = c.pop-next.new.stack in
    let a = c.in-Some-Some.a in
    let b = c.in-Some-Some.b in
    let stack : c.push-then-are_single.new.self ≡ low ++ b ∷ a ∷ [] =
    c.in_ok-push-in-Some-Some-2.ensures.ok ∙ ap (λ (xs : List VType). xs ++ a ∷ []) c.in_ok-push-in-Some-Some.ensures.ok
    ∙ append_assoc low (b ∷ []) (a ∷ []) in
    subst (λ (xs : List VType). IsDone s place Swaps before true (let f : FrameType = record before { stack = xs } in f)) (sym stack)
    (swapped s place before c.pop-top.new.stack low a b is (rw c.in-Some-Some.is-1 at c.pop-top.ensures.some)
    (rw c.in-Some-Some.is-0 at c.pop-next.ensures.some) (c.if-are_single.ensures.0 refl))

pub returns-else-are_single : goal.returns-else-are_single
returns-else-are_single c =
    λ s place is.
    not_swapped s place c.args.frame.now c.pop-top.new.stack c.pop-next.new.stack c.in-Some-Some.a c.in-Some-Some.b _
    (rw c.in-Some-Some.is-1 at c.pop-top.ensures.some) (rw c.in-Some-Some.is-0 at c.pop-next.ensures.some)
    (λ single. let no = c.if-are_single.ensures.1 single in absurd cc)
