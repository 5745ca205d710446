-- When a frame became what a shape says that changes locals.
use Rattle.std.proofs.Common.{◌≡◌, ◌≢◌, ℕ, ◌+◌, ◌≤◌, ◌↔◌, inl, inr, Bool, true, false, IsTrue, List, [], ◌∷◌, ◌++◌, length, Result, Ok, Err, refl, sym, ap, subst, ◌∙◌, append_assoc, arith}
use Rattle.std.specs.Prelude.{IfOk, Contains}
use Rattle.std.proofs.lemmas.Bool.Decides.{Decides-eqb}
use Rattle.list_lemmas.proofs.EndsOfLists.{one_split}
use Rattle.list_lemmas.proofs.LastItems.{one_last as one_top}
use Rattle.jk_model.specs.declared.identifiers.ClassId.{ClassId}
use Rattle.jk_model.specs.declared.identifiers.MemberId.{MemberId}
use Rattle.jk_model_classes.specs.declared.records.LinkedCode.{LinkedCode}
use Rattle.jk_model_typing.specs.declared.frames.VType.{VType}
use Rattle.jk_model_typing.specs.declared.frames.VType.TheVariants.{Unusable, Int, Long, Null, Ref, Fresh, FreshThis}
use Rattle.jk_model_typing.specs.declared.frames.Demand.{Demand}
use Rattle.jk_model_typing.specs.declared.frames.FrameType.{FrameType}
use Rattle.jk_model_typing.specs.FrameTypes.{IsFrameOf, of_class, slots_of}
use Rattle.jk_model_typing.specs.Groups.{Constructs, Makes, Stores}
use Rattle.jk_model_typing.specs.Rows.{Meets, is_made_at, is_fresh_this, replaced, with_local}
use Rattle.jk_model_typing.specs.Scopes.{CodeScope}
use Rattle.type_rows.specs.Steps.{Constructed, IsConstructed, IsDone, IsStackOf, IsTaken}
use Rattle.type_rows.proofs.EntriesTaken.{as_many}
use Rattle.type_rows.proofs.LocalsKeepHalves.{Halves, replaced_halves, replaced_many, room_for, stored_halves, stored_many}
use Rattle.type_rows.proofs.RowsAreDone.{as_room_says, done, front_fits, not_done, some_slots, stack_of}

halves_of : (code : LinkedCode) (f : FrameType) → IsFrameOf code f → Halves f.locals
halves_of code f h = record { after = h.halves }

module _ (s : CodeScope) (place : ℕ) (before : FrameType) (demand : Demand) (n : ℕ) where
  pub stored : (mid locals : List VType) (v : VType) → IsFrameOf s.code before → before.stack ≡ mid ++ v ∷ []
      → Meets s demand v × (n + slots_of v ≤ length before.locals) → locals ≡ with_local before.locals n v
      → IsDone s place (Stores demand n) before true (record before { locals = locals; stack = mid })
  stored mid locals v is top may put =
      let room : IsStackOf s.code mid = front_fits s.code before.stack mid (v ∷ []) top (stack_of s.code before is) in
      let halves = stored_halves before.locals n v may.1 (halves_of s.code before is) in
      let f : List VType → FrameType = λ ls. record before { locals = ls; stack = mid } in
      let some = some_slots v in
      subst (λ (ls : List VType). IsDone s place (Stores demand n) before true (f ls)) (sym put)
      (done s place (Stores demand n) before (f (with_local before.locals n v))
      (mid, v, top, may.0, omega (arith, may.1, some), refl)
      (record {
        locals = stored_many before.locals n v ∙ is.locals;
        stack = room.0;
        usable = room.1;
        halves = halves.after;
      }))

  pub not_stored : (mid : List VType) (v : VType) (after : FrameType) → before.stack ≡ mid ++ v ∷ []
      → (Meets s demand v × (n + slots_of v ≤ length before.locals) → ⊥) → IsDone s place (Stores demand n) before false after
  not_stored mid v after top may_not =
      not_done s place (Stores demand n) before after
      (λ other (below, w, also, meets, within, is) frame.
      let same : w ≡ v = (one_top below mid w v (sym also ∙ top)).1 in
      let locals : other.locals ≡ with_local before.locals n w = ap (λ (f : FrameType). f.locals) is in
      let halves : Halves (with_local before.locals n w) =
      subst (λ (ls : List VType). Halves ls) locals (halves_of s.code other frame) in
      let room = room_for before.locals n w within halves in
      may_not
      (subst (λ (x : VType). Meets s demand x × (n + slots_of x ≤ length before.locals)) same (meets, room)))

-- ---- Tests for fresh objects.

pub made_at : (place : ℕ) (v : VType) → IsTrue (is_made_at place v) ↔ (v ≡ Fresh place)
made_at place Unusable = (λ h. absurd cc, λ h. absurd cc)
made_at place Int = (λ h. absurd cc, λ h. absurd cc)
made_at place Long = (λ h. absurd cc, λ h. absurd cc)
made_at place Null = (λ h. absurd cc, λ h. absurd cc)
made_at place (Ref t) = (λ h. absurd cc, λ h. absurd cc)
made_at place (Fresh p) =
    (λ h. ap (λ (n : ℕ). Fresh n) ((Decides-eqb p place).0 h), λ h. (Decides-eqb p place).1 (let e : p ≡ place = cc in e))
made_at place FreshThis = (λ h. absurd cc, λ h. absurd cc)

module _ (s : CodeScope) (place : ℕ) (before : FrameType) where
  pub made : {E : Type 0} (r : Result Bool E) (locals stack : List VType) → IsFrameOf s.code before
      → (Contains before.stack (Fresh place) → ⊥) → locals ≡ replaced (is_made_at place) Unusable before.locals
      → IfOk r (λ yes. IsTrue yes ↔ IsStackOf s.code stack) → IfOk r (λ yes. stack ≡ before.stack ++ Fresh place ∷ [])
      → IfOk r (λ yes. IsDone s place Makes before yes (record before { locals = locals; stack = stack }))
  made (Err x) locals stack is none change room push = tt
  made (Ok b) locals stack is none change room push =
      let f : List VType → List VType → FrameType = λ ls xs. record before { locals = ls; stack = xs } in
      let whole : f locals stack ≡ f (replaced (is_made_at place) Unusable before.locals) (before.stack ++ Fresh place ∷ []) =
      ap (λ (ls : List VType). f ls stack) change
      ∙ ap (λ (xs : List VType). f (replaced (is_made_at place) Unusable before.locals) xs) push in
      let halves : Halves locals =
      subst (λ (ls : List VType). Halves ls) (sym change)
      (replaced_halves (is_made_at place) Unusable before.locals refl (λ e. cc) (halves_of s.code before is)) in
      as_room_says s place Makes before b (f locals stack) (none, whole)
      (λ other does. does.1 ∙ sym whole)
      (λ fits. record {
        locals = ap (λ (ls : List VType). length ls) change ∙ replaced_many (is_made_at place) Unusable before.locals ∙ is.locals;
        stack = fits.0;
        usable = fits.1;
        halves = halves.after;
      })
      room

-- ---- Constructors.

module _ (s : CodeScope) (place : ℕ) (c : ClassId) (m : MemberId) (ds : List Demand) (before : FrameType) where
  object_frame : (low : List VType) (receiver : VType) (after : FrameType) → IsFrameOf s.code before
      → Constructed s c m receiver (record before { stack = low }) after → IsStackOf s.code after.stack → IsFrameOf s.code after
  object_frame low receiver after is which room =
      let parts = locals_are in record { locals = parts.0; stack = room.0; usable = room.1; halves = parts.1.after }
    where
      replaced_so : (test : VType → Bool) (object : VType) → test Unusable ≡ false → object ≢ Long
          → after.locals ≡ replaced test object before.locals → (length after.locals ≡ s.code.max_locals) × Halves after.locals
      replaced_so test object untouched short e = (
        ap (λ (ls : List VType). length ls) e ∙ replaced_many test object before.locals ∙ is.locals,
        subst (λ (ls : List VType). Halves ls) (sym e) (replaced_halves test object before.locals untouched short (halves_of s.code before is)),
      )

      locals_are : (length after.locals ≡ s.code.max_locals) × Halves after.locals
      locals_are =
          elim which [
            | inl (p, _, _, _, e) ↦
                replaced_so (is_made_at p) (of_class s.classes c) refl (λ bad. cc) (ap (λ (f : FrameType). f.locals) e)
            | inr (_, _, e) ↦
                replaced_so is_fresh_this (of_class s.classes s.self) refl (λ bad. cc) (ap (λ (f : FrameType). f.locals) e)
          ]

  pub constructed : (mid low : List VType) (receiver : VType) (b : Bool) (after : FrameType) → IsFrameOf s.code before
      → IsTaken s ds before.stack true mid → mid ≡ low ++ receiver ∷ []
      → IsConstructed s c m receiver (record before { stack = low }) b after
      → IsDone s place (Constructs c m ds) before b after
  constructed mid low receiver b after is taken top built = record {
    holds = λ h.
        let got = taken.holds refl in
        let so = built.holds h in
        let whole : before.stack ≡ low ++ receiver ∷ got.0 =
        got.1 ∙ ap (λ (xs : List VType). xs ++ got.0) top ∙ append_assoc low (receiver ∷ []) got.0 in
        ((low, receiver, got.0, whole, got.2, so.0), object_frame low receiver after is so.0 so.1);
    fails = λ h other (below, at, entries, whole, meet, which) frame.
        let got = taken.holds refl in
        let many : length entries ≡ length got.0 = sym (as_many s ds entries meet) ∙ as_many s ds got.0 got.2 in
        let split : (below ++ at ∷ []) ++ entries ≡ mid ++ got.0 = append_assoc below (at ∷ []) entries ∙ sym whole ∙ got.1 in
        let front = (one_split (below ++ at ∷ []) mid entries got.0 split many).0 in
        let same = one_top below low at receiver (front ∙ top) in
        let one : Constructed s c m at (record before { stack = low }) other =
        subst (λ (xs : List VType). Constructed s c m at (let f : FrameType = record before { stack = xs } in f) other) same.0 which in
        built.fails h other
        (subst (λ (v : VType). Constructed s c m v (let f : FrameType = record before { stack = low } in f) other) same.1 one)
        (stack_of s.code other frame);
  }

  pub no_arguments : (mid : List VType) (after : FrameType) → IsTaken s ds before.stack false mid
      → IsDone s place (Constructs c m ds) before false after
  no_arguments mid after taken =
      not_done s place (Constructs c m ds) before after
      (λ other (below, at, entries, whole, meet, which) frame.
      taken.fails refl (below ++ at ∷ []) entries (whole ∙ sym (append_assoc below (at ∷ []) entries)) meet)

  pub no_receiver : (mid : List VType) (after : FrameType) → IsTaken s ds before.stack true mid → mid ≡ []
      → IsDone s place (Constructs c m ds) before false after
  no_receiver mid after taken none =
      not_done s place (Constructs c m ds) before after
      (λ other (below, at, entries, whole, meet, which) frame.
      let got = taken.holds refl in
      let many : length entries ≡ length got.0 = sym (as_many s ds entries meet) ∙ as_many s ds got.0 got.2 in
      let split : (below ++ at ∷ []) ++ entries ≡ mid ++ got.0 = append_assoc below (at ∷ []) entries ∙ sym whole ∙ got.1 in
      let front = (one_split (below ++ at ∷ []) mid entries got.0 split many).0 in
      empty below at (front ∙ none))
    where
      empty : (below : List VType) (at : VType) → below ++ at ∷ [] ≡ [] → ⊥
      empty [] at e = cc
      empty (x ∷ below) at e = cc
