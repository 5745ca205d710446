-- A load of a literal's text keeps what is kept: its object is known, or it is made and becomes the literal's.
use Rattle.std.proofs.Common.{inl, inr, ◌≡◌, ℕ, Bool, List, [], ◌∷◌, Some, None, find, refl, sym, ap, subst, ◌∙◌, arith}
use Rattle.std.specs.Prelude.{bytes_eq}
use Rattle.std.proofs.lemmas.Slice.Eq.{bytes_eq-Decides}
use Rattle.list_lemmas.proofs.FoundItems.{Finds, finds}
use Rattle.list_lemmas.proofs.ItemsOfLists.{Contains-at}
use Rattle.list_lemmas.proofs.TestsAndOrders.{mapped_option}
use Rattle.jk_model.specs.declared.steps.Raise.TheVariants as Raised
use Rattle.jk_model.specs.declared.steps.Standing.TheVariants as Stands
use Rattle.jk_model.specs.declared.values.Value.TheVariants as Held
use Rattle.jk_model_classes.specs.declared.records.ClassRecord.{ClassRecord}
use Rattle.jk_model_classes.specs.declared.records.Link.TheVariants as To
use Rattle.jk_model_classes.specs.Worlds.{IsNamed}
use Rattle.jk_model_typing.specs.FrameTypes.{STRING, string}
use Rattle.jk_model_typing.specs.Groups.{Takes}
use Rattle.jk_model_domains.specs.Objects.{NamedObject, Text, object_named}
use Rattle.jk_model_domains.specs.OwnStates.{Literal, literal_named}
use Rattle.jk_model_domains.specs.ValueTypes.{ValueFits}
use Rattle.jk_model_heaps.specs.Heaps.{MakesOne}
use Rattle.jk_model_heaps.specs.RunningCode.{RunsCode}
use Rattle.jk_model_heaps.specs.Workings.{GoesOnWith, Inside, Outcome, Setting, Working, with_heap}
use Rattle.jk_model_heap_rows.specs.NewObjectRows.{LoadsText, with_literal}
use Rattle.jk_model_sealing.specs.SealedInsides.{IsSealedInside, Surroundings}
use Rattle.heap_laws.proofs.SealedStill.{literal_sealed}
use Rattle.heap_laws.specs.KeptInsides.{KeepsInside}
use Rattle.heap_laws.specs.RunningFrames.{RunsWell}
use Rattle.typing_lemmas.proofs.OneScope.{one_link}
use Rattle.row_laws.proofs.HeapFramesLeft.{Keeps, in_line, raised, shape_at, took, took_only, typed}
use Rattle.row_laws.proofs.InsidesMade.{one_made_keeps, one_made_there}

-- ---- What is a literal already.

abbrev of_text : List ℕ → Literal → Bool
of_text text l = bytes_eq l.text text

pub found_literal : (around : Surroundings) (quota : ℕ) (inside : Inside) → IsSealedInside around quota inside → (text : List ℕ) (a : ℕ)
    → literal_named inside.own text ≡ Some a → object_named inside.heap a ≡ Some (Text text)
found_literal around quota inside sealed text a is =
    let found = mapped_option (λ (l : Literal). l.name) (find (of_text text) inside.own.literals) a is in
    let at = subst (Finds (of_text text) inside.own.literals) found.1 (finds (of_text text) inside.own.literals) in
    let same : found.0.text ≡ text = (bytes_eq-Decides found.0.text text).0 at.2 in
    let there = sealed.literals found.0 (Contains-at inside.own.literals at.0 found.0 at.1) in
    subst (λ (n : ℕ). object_named inside.heap n ≡ Some (Text text)) found.2
    (there ∙ ap (λ (units : List ℕ). Some (Text units)) same)

-- ---- What becomes one.

module _ (around : Surroundings) (x : Setting) (inside : Inside) (sealed : IsSealedInside around x.quota inside)
    (knows : IsNamed around.table STRING) (text : List ℕ) (a : ℕ) (heap : List NamedObject) (none : literal_named inside.own text ≡ None)
    (makes : MakesOne around.classes x.quota inside.heap a (Text text) heap) where
  abbrev literal : Literal
  literal = record { text = text; name = a }

  literal_keeps : KeepsInside around x inside (with_heap (with_literal inside literal) heap)
  literal_keeps =
      let made = one_made_keeps around x inside sealed a (Text text) heap makes knows (λ n e. absurd cc) in
      let there = one_made_there around x inside sealed a (Text text) heap makes in
      record {
        sealed = literal_sealed around x.quota (with_heap inside heap) literal made.sealed none there;
        grown = made.grown;
        tasks = made.tasks;
        pages = (refl, refl);
      }

-- ---- The row.

module _ (around : Surroundings) (x : Setting) (w new : Working) (outcome : Outcome) (runs : RunsWell around x w)
    (code : RunsCode around.classes w.frame) where
  abbrev Kept : Type 0
  Kept = Keeps around x w runs code new outcome

  text_typed : (heap : List NamedObject) (a : ℕ) (text : List ℕ) → object_named heap a ≡ Some (Text text)
      → ValueFits code.scope heap (Held.Obj a) string
  text_typed heap a text is = (Text text, is, inl refl)

  text_shape : (text : List ℕ) → LoadsText x code.scope code.instr w new outcome
      → (typed around x w runs code).typed.row.shape ≡ Takes [] (string ∷ [])
  text_shape text h = elim (shape_at around x w runs code 0x13 h.op) [
    | inl (n, leads, shape) ↦
        (let link : To.Int n ≡ To.Text h.text = one_link code.scope code.instr (To.Int n) (To.Text h.text) leads h.names in absurd cc)
    | inr (other, leads, shape) ↦ shape
  ]

  abbrev LoadsBy : List ℕ → List ClassRecord → Type 0
  LoadsBy text classes =
      ((a : ℕ) × (heap : List NamedObject) × (literal_named w.inside.own text ≡ None) × MakesOne classes x.quota w.inside.heap a (Text text) heap
      × GoesOnWith w [] (Held.Obj a ∷ []) (with_heap (with_literal w.inside (record { text = text; name = a })) heap) new outcome)
      → Kept

  made_literal : (h : LoadsText x code.scope code.instr w new outcome) → LoadsBy h.text around.classes
  made_literal h (a, heap, none, makes, goes) =
      let there = one_made_there around x w.inside runs.inside a (Text h.text) heap makes in
      let kept = literal_keeps around x w.inside runs.inside (runs.setting.table.knows_system STRING (omega arith)) h.text a heap none makes in
      took around x w runs code [] (string ∷ []) (text_shape h.text h) [] (Held.Obj a ∷ [])
      (with_heap (with_literal w.inside (record { text = h.text; name = a })) heap) new outcome goes (in_line code.instr 0x13 h.op refl) refl kept
      (λ c. refl) ((Text h.text, there), tt) (text_typed heap a h.text there, tt)

  pub text_keeps : LoadsText x code.scope code.instr w new outcome → Kept
  text_keeps h = elim h.does [
    | inl (a, named, goes) ↦
        let there = found_literal around x.quota w.inside runs.inside h.text a named in
        took_only around x w runs code [] (string ∷ []) (text_shape h.text h) [] (Held.Obj a ∷ []) new outcome goes
        (in_line code.instr 0x13 h.op refl) refl ((Text h.text, there), tt) (text_typed w.inside.heap a h.text there, tt)
    | inr (inl made) ↦ subst (LoadsBy h.text) (sym runs.setting.classes) (made_literal h) made
    | inr (inr (none, (lacks, raises))) ↦ raised around x w runs code (Raised.Standing Stands.OutOfMemoryError) new outcome raises tt
  ]
