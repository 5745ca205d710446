-- Objects that an instruction makes, or that don't fit.
use Rattle.std.proofs.Common.{◌≡◌, inl, inr, ℕ, ◌+◌, ◌-◌, ◌<◌, ◌≤◌, List, [], ◌∷◌, ◌++◌, Option, Some, None, refl, sym, ap, subst, ◌∙◌, arith}
use Rattle.std.specs.Option.{option_map_or}
use Rattle.std.proofs.lemmas.Option.{same_Some}
use Rattle.jk_model.specs.declared.steps.After.TheVariants as Next
use Rattle.jk_model.specs.declared.steps.Raise.{Raise}
use Rattle.jk_model.specs.declared.steps.Raise.TheVariants as Raised
use Rattle.jk_model.specs.declared.steps.Standing.TheVariants as Stands
use Rattle.jk_model.specs.declared.values.Value.{Value}
use Rattle.jk_model.specs.declared.values.Value.TheVariants as Held
use Rattle.jk_model_classes.specs.declared.records.ClassRecord.{ClassRecord}
use Rattle.jk_model_frames.specs.Frames.{FrameState}
use Rattle.jk_model_domains.specs.NumberRows.{IsOnTop}
use Rattle.jk_model_domains.specs.Objects.{NamedObject, Object, object_named, object_words}
use Rattle.jk_model_domains.specs.OwnStates.{OwnState}
use Rattle.jk_model_heaps.specs.declared.shapes.Shape.{Shape}
use Rattle.jk_model_heaps.specs.Heaps.{MakesOne, heap_words, named, zero_object}
use Rattle.jk_model_heaps.specs.Workings.{GoesOn, GoesOnWith, Inside, Outcome, Raises, Working, with_heap}
use Rattle.jk_model_heaps.proofs.OneIsMade.{one_is_made}
use Rattle.jk_model_heap_rows.specs.HeapRows.{HeapRow}
use Rattle.jk_model_heap_rows.specs.NewObjectRows.{LacksWords, PushesNew}
use Rattle.class_init.specs.KeptStates.{KeptState}
use Rattle.frame_store.specs.FrameContents.{FrameContent, SetsTop}
use Rattle.heap_laws.proofs.ObjectsAfterChanges.{costs_together}
use Rattle.object_store.specs.HeapContents.{HeapBecomes, HeapContent, IsHeapContent, IsSame, MakesObject, shape_words, words_left}
use Rattle.number_laws.proofs.FrameParts.{with_stack}
use Rattle.step_contents.specs.Contents.{InsideBecomes, contents_of}
use Rattle.heap_ops.specs.declared.here.Here.{Here}
use Rattle.heap_ops.specs.OneInstruction.{place_in}
use Rattle.heap_ops.proofs.DoingHere.{Doing, Done, c, here, i, s, same_classes, same_heap, w}
use Rattle.heap_ops.proofs.InstructionDone.{frame_stays, going, goes_on, heap_words_used, inside_becomes, inside_stays, raises}

-- ---- Words that are left.

left_of : (used : ℕ) (q : Option ℕ) (n : ℕ) → q ≡ Some n → option_map_or (λ (m : ℕ). m - used) q 0 ≡ n - used
left_of used None n is = absurd cc
left_of used (Some m) n is = let same : m ≡ n = same_Some m n is in ap (λ (k : ℕ). k - used) same

module _ (heaps : HeapContent) (frames : FrameContent) (h : Here) (k : Doing heaps frames h) where
  abbrev pub heap : List NamedObject
  heap = (w heaps frames h k).inside.heap

  used_is : heaps.used h.domain ≡ heap_words h.world.now.classes heap
  used_is = heap_words_used (c heaps frames h k) (here heaps frames h k) (place_in h) k.may

  left_is : words_left heaps h.domain ≡ k.setting.quota - heap_words h.world.now.classes heap
  left_is =
      left_of (heaps.used h.domain) (heaps.quota h.domain) k.setting.quota k.is_setting.quota
      ∙ ap (λ (n : ℕ). k.setting.quota - n) used_is

  -- so many words fit, or don't
  pub fits : IsHeapContent heaps → (words : ℕ) → words ≤ words_left heaps h.domain → heap_words h.world.now.classes heap + words ≤ k.setting.quota
  fits holds words low =
      let within = (holds.within h.domain k.setting.quota k.is_setting.quota).0 in
      omega (arith, low, left_is, used_is, within)

  pub lacks : (words : ℕ) → words_left heaps h.domain < words → LacksWords k.setting (w heaps frames h k) words
  lacks words low =
      let short : k.setting.quota < heap_words h.world.now.classes heap + words = omega (arith, low, left_is) in
      subst (λ (classes : List ClassRecord). k.setting.quota < heap_words classes heap + words) (sym (same_classes heaps frames h k)) short

  -- ---- What is made.

  -- the heap with these objects behind is the store's
  pub grown_by : (new : HeapContent) (made : List NamedObject)
      → HeapBecomes heaps new h.domain (heaps.heap h.domain ++ made) (heaps.used h.domain + heap_words h.world.now.classes made)
      → HeapBecomes heaps new h.domain (heap ++ made) (heap_words h.world.now.classes (heap ++ made))
  grown_by new made becomes = record {
    domains = becomes.domains;
    becomes = becomes.becomes ∙ ap (λ (xs : List NamedObject). xs ++ made) (sym (same_heap heaps frames h k));
    others = becomes.others;
    uses = becomes.uses ∙ ap (λ (n : ℕ). n + heap_words h.world.now.classes made) used_is ∙ sym (costs_together h.world.now.classes heap made);
    other_uses = becomes.other_uses;
    mark = becomes.mark;
  }

  -- another heap and another own state
  pub inside_now : (new_heaps : HeapContent) (new_frames : FrameContent) (new_heap : List NamedObject) (own : OwnState) (g : FrameState)
      → HeapBecomes heaps new_heaps h.domain new_heap (heap_words h.world.now.classes new_heap) → SetsTop frames new_frames h.segment g
      → InsideBecomes (c heaps frames h k)
      (contents_of new_heaps new_frames (let o : KeptState = record k.own { state = own } in o)) (here heaps frames h k)
      (let i : Inside = record (w heaps frames h k).inside { heap = new_heap; own = own } in i)
  inside_now new_heaps new_frames new_heap own g becomes sets =
      inside_becomes (c heaps frames h k) (contents_of new_heaps new_frames (let o : KeptState = record k.own { state = own } in o))
      (here heaps frames h k) (w heaps frames h k).inside new_heap own k.may.holds.inside becomes refl (sets.2.domains.first_page h.domain)

  pub own_is : k.own.state ≡ (w heaps frames h k).inside.own
  own_is = sym (ap (λ (x : Inside). x.own) k.may.holds.inside)

  -- the frame goes on with another heap
  pub went_on_grown : (new_heaps : HeapContent) (new_frames : FrameContent) (new_heap : List NamedObject) (taken pushed : List Value)
      (on_top : IsOnTop (w heaps frames h k).frame taken)
      → HeapBecomes heaps new_heaps h.domain new_heap (heap_words h.world.now.classes new_heap)
      → SetsTop frames new_frames h.segment (with_stack (w heaps frames h k).frame (on_top.0 ++ pushed))
      → ((new_w : Working) → GoesOnWith (w heaps frames h k) taken pushed (with_heap (w heaps frames h k).inside new_heap) new_w
      (GoesOn ((w heaps frames h k).frame.head.at + 1))
      → HeapRow k.setting (s heaps frames h k) (i heaps frames h k) (w heaps frames h k) new_w (GoesOn ((w heaps frames h k).frame.head.at + 1)))
      → Done heaps frames h k new_heaps new_frames k.own (Next.Goto ((place_in h).head.at + 1))
  went_on_grown new_heaps new_frames new_heap taken pushed on_top becomes sets row =
      let g = with_stack (w heaps frames h k).frame (on_top.0 ++ pushed) in
      let inside = with_heap (w heaps frames h k).inside new_heap in
      let kept : KeptState → Type 0 = λ o. InsideBecomes (c heaps frames h k) (contents_of new_heaps new_frames o) (here heaps frames h k) inside in
      let same : (let o : KeptState = record k.own { state = (w heaps frames h k).inside.own } in o) ≡ k.own =
      ap (λ (x : OwnState). let o : KeptState = record k.own { state = x } in o) (sym own_is) in
      goes_on (c heaps frames h k) (contents_of new_heaps new_frames k.own) (here heaps frames h k) (place_in h) k.may k.setting inside g
      (row (record { inside = inside; frame = g }) (going (w heaps frames h k) taken pushed inside on_top)) refl sets
      (subst kept same (inside_now new_heaps new_frames new_heap (w heaps frames h k).inside.own g becomes sets))

  -- something is raised, and the stores are as before
  pub raised_so : (new_heaps : HeapContent) → IsSame heaps new_heaps → (r : Raise)
      → HeapRow k.setting (s heaps frames h k) (i heaps frames h k) (w heaps frames h k) (w heaps frames h k) (Raises r)
      → Done heaps frames h k new_heaps frames k.own (Next.Raise r)
  raised_so new_heaps same r row =
      raises (c heaps frames h k) (contents_of new_heaps frames k.own) (here heaps frames h k) (place_in h) k.may k.setting r row
      (frame_stays (c heaps frames h k) (here heaps frames h k) (place_in h) k.may)
      (inside_stays (c heaps frames h k) (here heaps frames h k) (place_in h) k.may (contents_of new_heaps frames k.own) same refl refl)

  -- ---- One object.

  one_cost : (a : ℕ) (o : Object) → heap_words h.world.now.classes (named a o ∷ []) ≡ object_words h.world.now.classes o
  one_cost a o = omega arith

  pub one_made : IsHeapContent heaps → (new_heaps : HeapContent) (a : ℕ) (o : Object) → MakesObject heaps new_heaps h.world.now.classes h.domain a o
      → object_words h.world.now.classes o ≤ words_left heaps h.domain
      → MakesOne k.setting.classes k.setting.quota heap a o (heap ++ named a o ∷ [])
      × HeapBecomes heaps new_heaps h.domain (heap ++ named a o ∷ []) (heap_words h.world.now.classes (heap ++ named a o ∷ []))
  one_made holds new_heaps a o makes low =
      let fresh : object_named heap a ≡ None =
      subst (λ (xs : List NamedObject). object_named xs a ≡ None) (sym (same_heap heaps frames h k)) makes.fresh in
      let cost = one_cost a o in
      let fitting : heap_words h.world.now.classes heap + heap_words h.world.now.classes (named a o ∷ []) ≤ k.setting.quota =
      subst (λ (n : ℕ). heap_words h.world.now.classes heap + n ≤ k.setting.quota) (sym cost) (fits holds (object_words h.world.now.classes o) low) in
      let made = one_is_made h.world.now.classes k.setting.quota heap a o fresh fitting in
      let becomes : HeapBecomes heaps new_heaps h.domain (heaps.heap h.domain ++ named a o ∷ [])
      (heaps.used h.domain + heap_words h.world.now.classes (named a o ∷ [])) =
      subst (λ (n : ℕ). HeapBecomes heaps new_heaps h.domain (heaps.heap h.domain ++ named a o ∷ []) (heaps.used h.domain + n)) (sym cost)
      makes.becomes in (
        subst (λ (classes : List ClassRecord). MakesOne classes k.setting.quota heap a o (heap ++ named a o ∷ []))
            (sym (same_classes heaps frames h k)) made,
        grown_by new_heaps (named a o ∷ []) becomes,
      )

  -- a new object of a shape is pushed, or doesn't fit
  module _ (taken : List Value) (on_top : IsOnTop (w heaps frames h k).frame taken) (shape : Shape) where
    abbrev pub Pushes : Working → Outcome → Type 0
    Pushes new outcome = PushesNew k.setting (w heaps frames h k) taken shape new outcome

    same_object : zero_object h.world.now.classes shape ≡ zero_object k.setting.classes shape
    same_object = ap (λ (classes : List ClassRecord). zero_object classes shape) (sym (same_classes heaps frames h k))

    pub pushed_new : IsHeapContent heaps → (new_heaps : HeapContent) (new_frames : FrameContent) (a : ℕ)
        → MakesObject heaps new_heaps h.world.now.classes h.domain a (zero_object h.world.now.classes shape)
        → shape_words h.world.now.classes shape ≤ words_left heaps h.domain
        → SetsTop frames new_frames h.segment (with_stack (w heaps frames h k).frame (on_top.0 ++ Held.Obj a ∷ []))
        → ((new_w : Working) → Pushes new_w (GoesOn ((w heaps frames h k).frame.head.at + 1))
        → HeapRow k.setting (s heaps frames h k) (i heaps frames h k) (w heaps frames h k) new_w (GoesOn ((w heaps frames h k).frame.head.at + 1)))
        → Done heaps frames h k new_heaps new_frames k.own (Next.Goto ((place_in h).head.at + 1))
    pushed_new holds new_heaps new_frames a makes low sets row =
        let o = zero_object h.world.now.classes shape in
        let made = one_made holds new_heaps a o makes low in
        let after : List NamedObject = heap ++ named a o ∷ [] in
        let made_so : MakesOne k.setting.classes k.setting.quota heap a (zero_object k.setting.classes shape) after =
        subst (λ (x : Object). MakesOne k.setting.classes k.setting.quota heap a x after) same_object made.0 in
        went_on_grown new_heaps new_frames after taken (Held.Obj a ∷ []) on_top made.1 sets
        (λ new_w goes. row new_w (inl (a, after, made_so, goes)))

    pub fails_new : (new_heaps : HeapContent) → IsSame heaps new_heaps → words_left heaps h.domain < shape_words h.world.now.classes shape
        → (Pushes (w heaps frames h k) (Raises (Raised.Standing Stands.OutOfMemoryError))
        → HeapRow k.setting (s heaps frames h k) (i heaps frames h k) (w heaps frames h k) (w heaps frames h k)
        (Raises (Raised.Standing Stands.OutOfMemoryError)))
        → Done heaps frames h k new_heaps frames k.own (Next.Raise (Raised.Standing Stands.OutOfMemoryError))
    fails_new new_heaps same low row =
        let lacking : LacksWords k.setting (w heaps frames h k) (object_words k.setting.classes (zero_object k.setting.classes shape)) =
        subst (λ (classes : List ClassRecord). LacksWords k.setting (w heaps frames h k) (object_words classes (zero_object classes shape)))
        (sym (same_classes heaps frames h k)) (lacks (shape_words h.world.now.classes shape) low) in
        raised_so new_heaps same (Raised.Standing Stands.OutOfMemoryError) (row (inr (lacking, (refl, refl))))
