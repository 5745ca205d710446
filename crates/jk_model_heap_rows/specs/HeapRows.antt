-- What the instructions on objects, arrays, static fields and literals do (the Java Virtual Machine Specification, chapter 6), one row
-- for each group: to the frame that runs them and to what the domain has inside, and what is done next. Numbers and calls have their
-- rows elsewhere.
use Rattle.std.specs.Prelude.{◌≡◌, ℕ, ◌≤◌, ◌⊎◌, List, [], ◌∷◌}
use Rattle.jk_model.specs.declared.instructions.Instr.{Instr}
use Rattle.jk_model.specs.declared.opcodes.TheConstants.{AALOAD, AASTORE, GETSTATIC, IALOAD, IASTORE, INSTANCEOF, LALOAD, LASTORE, LDC_W, MULTIANEWARRAY, NEW, PUTFIELD, SALOAD, SASTORE}
use Rattle.jk_model_classes.specs.declared.records.Link.TheVariants as To
use Rattle.jk_model_classes.specs.Items.{HasItem}
use Rattle.jk_model_typing.specs.Scopes.{CodeScope, LeadsToLink}
use Rattle.jk_model_heaps.specs.Workings.{Outcome, Setting, Working}
use Rattle.jk_model_heap_rows.specs.ElementRows.{ArrayLength, LoadsElement, StoresElement}
use Rattle.jk_model_heap_rows.specs.FieldRows.{GetsField, GetsStatic, PutsField, PutsStatic}
use Rattle.jk_model_heap_rows.specs.InstanceRows.{Casts, RaisesObject, Tests}
use Rattle.jk_model_heap_rows.specs.NewObjectRows.{LoadsText, MakesArray, MakesArrays, MakesObject}

pub data HeapRow (x : Setting) (s : CodeScope) (i : Instr) (w new : Working) (outcome : Outcome) : Type 0 where
  loads_text : LoadsText x s i w new outcome → HeapRow x s i w new outcome
  gets_static : GetsStatic x s i w new outcome → HeapRow x s i w new outcome
  puts_static : PutsStatic x s i w new outcome → HeapRow x s i w new outcome
  gets_field : GetsField x s i w new outcome → HeapRow x s i w new outcome
  puts_field : PutsField x s i w new outcome → HeapRow x s i w new outcome
  loads_element : LoadsElement i w new outcome → HeapRow x s i w new outcome
  stores_element : StoresElement x i w new outcome → HeapRow x s i w new outcome
  array_length : ArrayLength i w new outcome → HeapRow x s i w new outcome
  makes_object : MakesObject x s i w new outcome → HeapRow x s i w new outcome
  makes_array : MakesArray x s i w new outcome → HeapRow x s i w new outcome
  makes_arrays : MakesArrays x s i w new outcome → HeapRow x s i w new outcome
  casts : Casts x s i w new outcome → HeapRow x s i w new outcome
  tests : Tests x s i w new outcome → HeapRow x s i w new outcome
  raises_object : RaisesObject i w new outcome → HeapRow x s i w new outcome

-- ---- Which instructions these are.

-- iaload, laload; aaload to saload; iastore, lastore; aastore to sastore; getstatic to putfield; new to instanceof, among them
-- newarray, anewarray, arraylength, athrow and checkcast; multianewarray
abbrev pub heap_opcodes : List (ℕ × ℕ)
heap_opcodes =
    (IALOAD, LALOAD) ∷ (AALOAD, SALOAD) ∷ (IASTORE, LASTORE) ∷ (AASTORE, SASTORE) ∷ (GETSTATIC, PUTFIELD) ∷ (NEW, INSTANCEOF)
    ∷ (MULTIANEWARRAY, MULTIANEWARRAY) ∷ []

-- the instruction is one of these, or an ldc of a text
abbrev pub IsOfHeaps : CodeScope → Instr → Type 0
IsOfHeaps s i =
    HasItem (λ (r : ℕ × ℕ). (r.0 ≤ i.op) × (i.op ≤ r.1)) heap_opcodes
    ⊎ ((i.op ≡ LDC_W) × ((text : List ℕ) × LeadsToLink s i (To.Text text)))
