-- A value comes into the locals of a frame that begins.
use Rattle.std.proofs.Common.{◌≡◌, ℕ, ℤ, ◌-◌, ◌≤◌, List, [], ◌∷◌, ◌++◌, length, replicate, set, Option, Some, refl, subst, ◌∙◌, arith}
use Rattle.std.proofs.lemmas.List.{length-append, length-replicate}
use Rattle.jk_model.specs.declared.frames.FrameHead.{FrameHead}
use Rattle.jk_model.specs.declared.identifiers.DomainId.{DomainId}
use Rattle.jk_model.specs.declared.identifiers.SegmentNo.{SegmentNo}
use Rattle.jk_model.specs.declared.values.Value.{Value}
use Rattle.jk_model.specs.declared.values.Value.TheVariants as Held
use Rattle.jk_model_frames.specs.Frames.{FrameState, as_locals, called_frame, locals_of, new_frame}
use Rattle.frame_store.specs.FrameContents.{Changes, FrameContent, HasLocal, SetsTop, StoredSegment, TopFrame}
use Rattle.frame_store.proofs.ArgumentsInLocals.{locals_length, none_given, one_given, takes_local}
use Rattle.number_ops.proofs.TopFrames.{both_keep}
use Rattle.domain_crossing.specs.MovedArguments.{BeginsWith, FitsLocals}
use Rattle.domain_crossing.proofs.TopsTakenOff.{set_so}

-- ---- One value.

pub has_local : (c : FrameContent) (n : SegmentNo) (head : FrameHead) (before : List Value) (v : Value) → BeginsWith c n head before
    → FitsLocals head (before ++ v ∷ []) → HasLocal c n (length (locals_of before))
has_local c n head before v top fits = (
  called_frame head before,
  top,
  omega (
    arith,
    fits,
    locals_length before v,
    takes_local v,
    length-append (locals_of before) (replicate (head.max_locals - length (locals_of before)) Held.Unset),
    length-replicate (head.max_locals - length (locals_of before)) Held.Unset,
  ),
)

pub one_put : (old new : FrameContent) (n : SegmentNo) (head : FrameHead) (before : List Value) (v : Value) (at : ℕ)
    → at ≡ length (locals_of before) → BeginsWith old n head before → FitsLocals head (before ++ v ∷ [])
    → ((f : FrameState) → TopFrame old n f → SetsTop old new n (record f { locals = set f.locals at v }))
    → SetsTop old new n (called_frame head (before ++ v ∷ []))
one_put old new n head before v at is top fits sets =
    subst (SetsTop old new n) (one_given head before v fits)
    (subst (λ (k : ℕ). SetsTop old new n
    (let f : FrameState = record (called_frame head before) { locals = set (called_frame head before).locals k v } in f)) is
    (sets (called_frame head before) top))

-- one that isn't a long takes one local
pub one_local : (v : Value) → ((n : ℤ) → v ≡ Held.Long n → ⊥) → length (as_locals v) ≡ 1
one_local (Held.Long n) not = absurd (not n refl)
one_local (Held.Int n) not = refl
one_local Held.Null not = refl
one_local (Held.Obj a) not = refl
one_local (Held.Cap c) not = refl
one_local Held.Unset not = refl

-- ---- The frame begins.

-- one change of a segment after another
pub then_changes : (a b c : FrameContent) (n : SegmentNo) (d : DomainId) (x y : Option StoredSegment) (used : ℕ) → Changes a b n d x used
    → Changes b c n d y (b.used d) → Changes a c n d y used
then_changes a b c n d x y used first second = record {
  domains = both_keep a b c first.domains second.domains;
  becomes = second.becomes;
  others = λ k differ. second.others k differ ∙ first.others k differ;
  uses = second.uses ∙ first.uses;
  other_domains = λ e differ. second.other_domains e differ ∙ first.other_domains e differ;
}

pub begun_with : (old mid new : FrameContent) (n : SegmentNo) (d : DomainId) (head : FrameHead) (a : ℕ) (used : ℕ)
    → Changes old mid n d (Some (let s : StoredSegment = record { domain = d; frames = new_frame head ∷ [] } in s)) used → 1 ≤ head.max_locals
    → ((f : FrameState) → TopFrame mid n f → SetsTop mid new n (record f { locals = set f.locals 0 (Held.Obj a) }))
    → Changes old new n d (Some (let s : StoredSegment = record { domain = d; frames = called_frame head (Held.Obj a ∷ []) ∷ [] } in s)) used
begun_with old mid new n d head a used begins room sets =
    then_changes old mid new n d (Some (record { domain = d; frames = new_frame head ∷ [] }))
    (Some (record { domain = d; frames = called_frame head (Held.Obj a ∷ []) ∷ [] })) used begins
    (set_so mid new n (record { domain = d; frames = new_frame head ∷ [] }) [] (new_frame head) (called_frame head (Held.Obj a ∷ [])) begins.becomes refl put)
  where
    top : TopFrame mid n (new_frame head)
    top = record { segment = record { domain = d; frames = new_frame head ∷ [] }; is_there = begins.becomes; lower = []; frames = refl }

    put : SetsTop mid new n (called_frame head (Held.Obj a ∷ []))
    put =
        subst (SetsTop mid new n) (one_given head [] (Held.Obj a) room)
        (subst (λ (f : FrameState). SetsTop mid new n (let g : FrameState = record f { locals = set f.locals 0 (Held.Obj a) } in g)) (none_given head)
        (sets (new_frame head) top))
