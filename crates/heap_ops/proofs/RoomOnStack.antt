-- An instruction that pushes a value and takes none has room for it.
use Rattle.std.proofs.Common.{◌≡◌, inl, inr, ℕ, List, [], ◌∷◌, ◌++◌, length, append-nil, refl, sym, ap, subst, ◌∙◌, arith}
use Rattle.std.proofs.lemmas.List.{length-append}
use Rattle.jk_model.specs.declared.opcodes.TheConstants.{GETSTATIC, LDC_W, NEW}
use Rattle.jk_model_typing.specs.declared.frames.FrameType.{FrameType}
use Rattle.jk_model_typing.specs.declared.frames.VType.{VType}
use Rattle.jk_model_typing.specs.Groups.{Makes, Takes, group_of}
use Rattle.jk_model_typing.specs.Rows.{AllMeet, HasShape}
use Rattle.frame_store.specs.FrameContents.{FrameContent, HasFreeEntry}
use Rattle.object_store.specs.HeapContents.{HeapContent}
use Rattle.number_laws.proofs.ValuesFit.{fits-length, long_slots}
use Rattle.heap_laws.specs.RunningFrames.{RunsWell}
use Rattle.step_contents.specs.Conditions.{around}
use Rattle.row_laws.specs.StandingFrames.{StandsTyped}
use Rattle.row_laws.proofs.OperandsOnTop.{does_shape}
use Rattle.row_laws.proofs.StandsHere.{room, stands_typed}
use Rattle.step_contents.proofs.InstructionsBegin.{runs_code, runs_well}
use Rattle.heap_ops.specs.declared.here.Here.{Here}
use Rattle.heap_ops.specs.OneInstruction.{place_in}
use Rattle.heap_ops.proofs.DoingHere.{Doing, i, s, top, w}

-- the frame type after it has one entry more
abbrev pub OneMore : FrameType → FrameType → Type 0
OneMore before after = (t : VType) × (after.stack ≡ before.stack ++ t ∷ [])

module _ (heaps : HeapContent) (frames : FrameContent) (h : Here) (k : Doing heaps frames h) where
  abbrev runs : RunsWell (around k.may.domain) k.setting (w heaps frames h k)
  runs = runs_well k.may k.setting k.is_setting

  pub typed : StandsTyped h.world.now.classes (w heaps frames h k).inside.heap (w heaps frames h k).frame
      (runs_code k.may)
  typed =
      stands_typed h.world.now.classes k.may.domain.codes (w heaps frames h k).frame
      (runs_code k.may) runs.fits.0 (w heaps frames h k).inside.heap runs.fits.1

  pub shape_at : (op : ℕ) → (place_in h).instr.op ≡ op → HasShape (s heaps frames h k) (i heaps frames h k) (group_of op) typed.typed.row.shape
  shape_at op is =
      subst (λ (n : ℕ). HasShape (s heaps frames h k) (i heaps frames h k) (group_of n) typed.typed.row.shape) is typed.typed.row.shape_is

  has_room : OneMore typed.before typed.after → HasFreeEntry frames h.segment
  has_room more =
      let f = (w heaps frames h k).frame in
      let max = (room h.world.now.classes k.may.domain.codes f (runs_code k.may) runs.fits.0).1 in
      let many = fits-length (s heaps frames h k) (w heaps frames h k).inside.heap f.stack typed.before.stack typed.typed.holds.stack in
      let few = long_slots typed.after.stack in
      let fits = typed.typed.row.room.stack in
      (f, top heaps frames h k, omega (arith, max, many, few, fits, ap length more.1, length-append typed.before.stack (more.0 ∷ [])))

  by_takes : (t : VType) → typed.typed.row.shape ≡ Takes [] (t ∷ []) → OneMore typed.before typed.after
  by_takes t is =
      let does = does_shape (s heaps frames h k) (w heaps frames h k).inside.heap (w heaps frames h k).frame.head.at (i heaps frames h k)
      (w heaps frames h k).frame typed.before typed.after (Takes [] (t ∷ [])) typed.typed is in
      let none = nothing does.1 does.3 in (
        t,
        ap (λ (x : FrameType). x.stack) does.4 ∙ ap (λ (xs : List VType). xs ++ t ∷ [])
            (sym (does.2 ∙ ap (λ (xs : List VType). does.0 ++ xs) none ∙ append-nil does.0)),
      )
    where
      nothing : (taken : List VType) → AllMeet (s heaps frames h k) [] taken → taken ≡ []
      nothing [] meet = refl
      nothing (v ∷ taken) meet = absurd meet

  pub room_for_static : (place_in h).instr.op ≡ GETSTATIC → HasFreeEntry frames h.segment
  room_for_static op = let is = shape_at GETSTATIC op in has_room (by_takes _ is.4)

  pub room_for_constant : (place_in h).instr.op ≡ LDC_W → HasFreeEntry frames h.segment
  room_for_constant op = elim (shape_at LDC_W op) [
    | inl is ↦ has_room (by_takes _ is.2)
    | inr is ↦ has_room (by_takes _ is.2)
  ]

  pub room_for_object : (place_in h).instr.op ≡ NEW → HasFreeEntry frames h.segment
  room_for_object op =
      let is = shape_at NEW op in
      let does = does_shape (s heaps frames h k) (w heaps frames h k).inside.heap (w heaps frames h k).frame.head.at (i heaps frames h k)
      (w heaps frames h k).frame typed.before typed.after Makes typed.typed is.2 in
      has_room (_, ap (λ (x : FrameType). x.stack) does.1)
