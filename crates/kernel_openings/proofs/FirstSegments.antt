-- The store's calls with which a segment begins: its one frame has the given value as its first local.
use Rattle.std.proofs.Common.{◌≡◌, ◌≤◌, ◌+◌, ◌-◌, ℕ, List, [], ◌∷◌, ◌++◌, set, replicate, Option, Some, refl, sym, ap, subst, ◌∙◌, arith}
use Rattle.std.proofs.lemmas.List.{length-replicate}
use Rattle.std.proofs.lemmas.List.Sums.{sum_by-cons}
use Rattle.std.proofs.lemmas.Option.{same_Some}
use Rattle.list_lemmas.proofs.LastItems.{one_last}
use Rattle.jk_model.specs.declared.frames.FrameHead.{FrameHead}
use Rattle.jk_model.specs.declared.identifiers.DomainId.{DomainId}
use Rattle.jk_model.specs.declared.identifiers.SegmentNo.{SegmentNo}
use Rattle.jk_model.specs.declared.values.Value.TheVariants as Held
use Rattle.jk_model_frames.specs.Frames.{FrameState, called_frame, head_chunks, new_frame, segment_chunks}
use Rattle.frame_store.specs.FrameContents.{Begins, Changes, FrameContent, HasLocal, SetsTop, StoredSegment, TopFrame}
use Rattle.frame_store.proofs.ArgumentsInLocals.{one_given}
use Rattle.frame_store.proofs.ChangesInTurn.{then_changes}
use Rattle.kernel_openings.specs.FirstFrames.{BeginsSegment}

abbrev stored : DomainId → FrameState → StoredSegment
stored d f = record { domain = d; frames = f ∷ [] }

-- ---- The one frame of a segment is set.

module _ (c new : FrameContent) (s : SegmentNo) (d : DomainId) (f g : FrameState) (there : c.segment s ≡ Some (stored d f)) where
  pub top_there : TopFrame c s f
  top_there = record { segment = stored d f; is_there = there; lower = []; frames = refl }

  one_set : SetsTop c new s g → Changes c new s d (Some (stored d g)) (c.used d)
  one_set (h, top, changes) =
      let is : top.segment ≡ stored d f = same_Some top.segment (stored d f) (sym top.is_there ∙ there) in
      let lists : top.lower ++ h ∷ [] ≡ [] ++ f ∷ [] = sym top.frames ∙ ap (λ (x : StoredSegment). x.frames) is in
      let none : top.lower ≡ [] = (one_last top.lower [] h f lists).0 in
      let flat : Changes c new s top.segment.domain (Some (record { domain = top.segment.domain; frames = g ∷ [] })) (c.used top.segment.domain) =
      subst (λ (l : List FrameState). Changes c new s top.segment.domain
      (Some (let y : StoredSegment = record { domain = top.segment.domain; frames = l ++ g ∷ [] } in y)) (c.used top.segment.domain)) none changes in
      subst (λ (x : DomainId). Changes c new s x (Some (stored x g)) (c.used x)) (ap (λ (y : StoredSegment). y.domain) is) flat

-- ---- A segment begins.

module _ (old mid : FrameContent) (s : SegmentNo) (d : DomainId) (head : FrameHead) (room : 1 ≤ head.max_locals) (begins : Begins old mid d s head) where
  top : TopFrame mid s (new_frame head)
  top = top_there mid mid s d (new_frame head) (new_frame head) begins.becomes

  pub first_local : HasLocal mid s 0
  first_local = (new_frame head, top, omega (arith, room, length-replicate head.max_locals Held.Unset))

  module _ (a : ℕ) where
    abbrev with_first : FrameState → FrameState
    with_first f = record f { locals = set f.locals 0 (Held.Obj a) }

    first_is : with_first (new_frame head) ≡ called_frame head (Held.Obj a ∷ [])
    first_is =
        let all : head.max_locals ≡ head.max_locals - 0 = omega arith in
        ap (λ (n : ℕ). let f : FrameState = record { head = head; locals = set (replicate n Held.Unset) 0 (Held.Obj a); stack = [] } in f) all
        ∙ one_given head [] (Held.Obj a) room

    costs : old.used d + 1 + head_chunks head ≡ old.used d + segment_chunks (called_frame head (Held.Obj a ∷ []) ∷ [])
    costs =
        let one = sum_by-cons (λ (f : FrameState). head_chunks f.head) (called_frame head (Held.Obj a ∷ [])) [] in
        omega (arith, one)

    pub first_begun : (new : FrameContent) → ((f : FrameState) → TopFrame mid s f → SetsTop mid new s (with_first f))
        → BeginsSegment old new d s head (Held.Obj a)
    first_begun new sets =
        let second = one_set mid new s d (new_frame head) (with_first (new_frame head)) begins.becomes (sets (new_frame head) top) in
        let both = then_changes old mid new s d (Some (stored d (new_frame head))) (Some (stored d (with_first (new_frame head))))
        (old.used d + 1 + head_chunks head) (mid.used d) begins second in
        let used : mid.used d ≡ old.used d + segment_chunks (called_frame head (Held.Obj a ∷ []) ∷ []) = begins.uses ∙ costs in
        subst (λ (n : ℕ). Changes old new s d (Some (stored d (called_frame head (Held.Obj a ∷ [])))) n) used
        (subst (λ (f : FrameState). Changes old new s d (Some (stored d f)) (mid.used d)) first_is both)
