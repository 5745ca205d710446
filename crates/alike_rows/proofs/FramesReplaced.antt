-- A frame whose entries are replaced is determined by how many are taken and by what is put in their place.
use Rattle.std.proofs.Common.{◌≡◌, List, ◌++◌, length, sym, ap, ◌∙◌}
use Rattle.list_lemmas.proofs.EndsOfLists.{one_split}
use Rattle.jk_model.specs.declared.values.Value.{Value}
use Rattle.jk_model_frames.specs.Frames.{FrameState}
use Rattle.jk_model_domains.specs.NumberRows.{IsOnTop, Replaces}

-- a frame with this stack
abbrev with_stack : FrameState → List Value → FrameState
with_stack f stack = record f { stack = stack }

-- as many entries on top of one stack are the same
pub same_top : (f : FrameState) (ts us : List Value) → IsOnTop f ts → IsOnTop f us → length ts ≡ length us → ts ≡ us
same_top f ts us a b long = (one_split a.0 b.0 ts us (sym a.1 ∙ b.1) long).1

pub on_top : {f g : FrameState} {ts ps : List Value} → Replaces f g ts ps → IsOnTop f ts
on_top h = (h.below, h.before)

pub replaced_agree : {f g h : FrameState} {ts ps us qs : List Value} → Replaces f g ts ps → Replaces f h us qs → length ts ≡ length us
    → (ts ≡ us → ps ≡ qs) → g ≡ h
replaced_agree {f = f} {ts = ts} {ps = ps} {us = us} {qs = qs} p q long then =
    let split = one_split p.below q.below ts us (sym p.before ∙ q.before) long in
    let low : p.below ≡ q.below = split.0 in
    let top : ps ≡ qs = then split.1 in
    let stacks : p.below ++ ps ≡ q.below ++ qs = cc in
    p.after ∙ ap (with_stack f) stacks ∙ sym q.after
