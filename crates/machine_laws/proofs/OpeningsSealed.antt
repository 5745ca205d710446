-- What a domain has inside that was just opened is sealed: a PrintStream, standing throwables, and static fields as they begin.
use Rattle.std.proofs.Common.{◌≡◌, ◌≢◌, ℕ, ◌==◌, ◌<◌, false, length, Contains, Some, inl, inr, refl, sym, ap, subst, ◌∙◌, arith}
use Rattle.std.proofs.lemmas.Bool.{eq-eqb, false≢true}
use Rattle.std.proofs.lemmas.Option.{same_Some}
use Rattle.list_lemmas.proofs.ItemsOfLists.{none_in, stands_at}
use Rattle.jk_model.specs.declared.identifiers.ClassId.{ClassId}
use Rattle.jk_model.specs.declared.identifiers.SegmentNo.{SegmentNo}
use Rattle.jk_model.specs.declared.steps.Standing.{Standing}
use Rattle.jk_model.specs.declared.steps.Standing.TheVariants as Stands
use Rattle.jk_model.specs.SystemTable.{system_classes}
use Rattle.jk_model_typing.specs.FrameTypes.{STRING}
use Rattle.jk_model_domains.specs.Objects.{CAPABILITY, NamedObject, PRINT_STREAM, Plain, TASK, Task, object_named}
use Rattle.jk_model_heaps.specs.declared.shapes.Shape.TheVariants as Of
use Rattle.jk_model_heaps.specs.Heaps.{zero_fields, zero_object}
use Rattle.jk_model_heaps.specs.SystemClasses.{REMOTE}
use Rattle.jk_model_heaps.specs.Throwables.{standing_class}
use Rattle.jk_model_heaps.specs.Workings.{Inside}
use Rattle.jk_model_openings.specs.OpenedDomains.{IsOpening, IsOpeningName}
use Rattle.jk_model_sealing.specs.SealedInsides.{IsSealedInside, IsSealedObject, Surroundings}
use Rattle.heap_laws.specs.SoundCodes.{AreSoundCodes}
use Rattle.heap_laws.specs.SoundTables.{IsSoundTable}
use Rattle.heap_laws.specs.SealedChanges.{IsNamedShape}
use Rattle.heap_laws.proofs.NewObjects.{new_sealed}
use Rattle.heap_laws.proofs.ObjectsAfterChanges.{stands_found}
use Rattle.machine_laws.proofs.StaticsBegin.{statics_begin}

-- ---- Which classes its objects are of.

another : (c d : ClassId) → c.0 == d.0 ≡ false → c ≢ d
another c d e same = false≢true (sym e ∙ eq-eqb c.0 d.0 (ap (λ (x : ClassId). x.0) same))

-- a system class of plain objects
abbrev IsPlainSystem : ClassId → Type 0
IsPlainSystem c =
    (c.0 < length system_classes) × (c.0 == STRING.0 ≡ false) × (c.0 == TASK.0 ≡ false) × (c.0 == CAPABILITY.0 ≡ false)
    × (c.0 == REMOTE.0 ≡ false)

low : (n : ℕ) → n < 45 → n < length system_classes
low n h = let many : length system_classes ≡ 45 = refl in omega (arith, many)

stream_plain : IsPlainSystem PRINT_STREAM
stream_plain = (low 6 (omega arith), refl, refl, refl, refl)

standing_plain : (s : Standing) → IsPlainSystem (standing_class s)
standing_plain Stands.OutOfMemoryError = (low 40 (omega arith), refl, refl, refl, refl)
standing_plain Stands.StackOverflowError = (low 41 (omega arith), refl, refl, refl, refl)
standing_plain Stands.Revoked = (low 42 (omega arith), refl, refl, refl, refl)
standing_plain Stands.Quota = (low 43 (omega arith), refl, refl, refl, refl)
standing_plain Stands.NotCopiable = (low 44 (omega arith), refl, refl, refl, refl)
standing_plain Stands.Remote = (low 18 (omega arith), refl, refl, refl, refl)
standing_plain Stands.ThreadDeath = (low 34 (omega arith), refl, refl, refl, refl)
standing_plain Stands.Security = (low 27 (omega arith), refl, refl, refl, refl)

module _ (around : Surroundings) (quota : ℕ) (inside : Inside) (codes : AreSoundCodes around.classes)
    (sound : IsSoundTable around.classes around.table) (opening : IsOpening around.classes around.table quota inside) where
  shape_named : (c : ClassId) → IsPlainSystem c → IsNamedShape around.table (Of.Plain c)
  shape_named c (is_low, no_text, no_task, no_capability, no_remote) = (
    sound.knows_system c is_low,
    another c STRING no_text,
    another c TASK no_task,
    another c CAPABILITY no_capability,
    another c REMOTE no_remote,
  )

  -- each object is a new one of a class of plain objects
  record IsNewPlain (e : NamedObject) : Type 0 where
    class : ClassId
    plain : IsPlainSystem class
    is : e.object ≡ zero_object around.classes (Of.Plain class)

  object_by : (e : NamedObject) (a : ℕ) (c : ClassId) → Contains inside.heap e → e.name ≡ a → IsPlainSystem c
      → object_named inside.heap a ≡ Some (zero_object around.classes (Of.Plain c)) → IsNewPlain e
  object_by e a c has name plain is =
      let at = stands_at inside.heap e has in
      let found : object_named inside.heap e.name ≡ Some e.object = stands_found inside.heap at.0 e opening.makes.differ at.2 in
      let there : object_named inside.heap e.name ≡ Some (zero_object around.classes (Of.Plain c)) =
      ap (object_named inside.heap) name ∙ is in
      record { class = c; plain = plain; is = same_Some e.object (zero_object around.classes (Of.Plain c)) (sym found ∙ there) }

  object_named_so : (e : NamedObject) → Contains inside.heap e → IsOpeningName inside.own e.name → IsNewPlain e
  object_named_so e has (inl out) = object_by e inside.own.out PRINT_STREAM has out stream_plain opening.out
  object_named_so e has (inr (s, stands)) =
      let there = opening.standing s in
      object_by e there.0 (standing_class s) has (same_Some e.name there.0 (sym stands ∙ there.1)) (standing_plain s) there.2

  object_sealed : (e : NamedObject) → Contains inside.heap e → IsSealedObject around inside.heap e.object
  object_sealed e has =
      let new = object_named_so e has (opening.nothing_else e has) in
      subst (IsSealedObject around inside.heap) (sym new.is) (new_sealed around inside.heap (Of.Plain new.class) (shape_named new.class new.plain))

  -- there is no Task
  pub no_task_yet : (a : ℕ) (n : SegmentNo) → Contains inside.heap (record { name = a; object = Task n }) → ⊥
  no_task_yet a n has =
      let e : NamedObject = record { name = a; object = Task n } in
      let new = object_named_so e has (opening.nothing_else e has) in
      let same : Task n ≡ Plain new.class (zero_fields around.classes new.class) = new.is in
      absurd cc

  pub opening_sealed : IsSealedInside around quota inside
  opening_sealed = record {
    names_differ = opening.makes.differ;
    own = opening.own.state;
    objects = object_sealed;
    out = (zero_fields around.classes PRINT_STREAM, opening.out);
    standing = λ s. let there = opening.standing s in (there.0, there.1, (zero_fields around.classes (standing_class s), there.2));
    literals = λ l has. absurd (none_in l inside.own.literals opening.own.no_literals has);
    statics = λ m v field value is. statics_begin around inside.own codes opening.own inside.heap m v field value is;
    words = let fits = opening.makes.fits in omega (arith, fits);
  }
