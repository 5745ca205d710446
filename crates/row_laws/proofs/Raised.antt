-- What is raised: there is an object, which is a throwable of the domain, and the domain stays sealed.
use Rattle.std.proofs.Common.{inl, inr, ◌≡◌, ℕ, ◌+◌, ◌<◌, List, [], ◌∷◌, length, refl, sym, ap, subst, ◌∙◌}
use Rattle.std.proofs.lemmas.Bool.{cases_lt}
use Rattle.std.proofs.lemmas.Option.{same_Some}
use Rattle.list_lemmas.proofs.ItemsOfLists.{Contains-here, only_in}
use Rattle.jk_model.specs.SystemTable.{system_classes}
use Rattle.jk_model.specs.declared.identifiers.ClassId.{ClassId}
use Rattle.jk_model.specs.declared.steps.Raise.{Raise}
use Rattle.jk_model.specs.declared.steps.Raise.TheVariants as Raised
use Rattle.jk_model.specs.declared.steps.Standing.{Standing}
use Rattle.jk_model.specs.declared.steps.Standing.TheVariants as Stands
use Rattle.jk_model_classes.specs.declared.records.ClassRecord.{ClassRecord}
use Rattle.jk_model_classes.specs.Classes.{IsSubclass}
use Rattle.jk_model_typing.specs.FrameTypes.{THROWABLE}
use Rattle.jk_model_domains.specs.Objects.{NamedObject, Object, Task, object_words}
use Rattle.jk_model_heaps.specs.declared.shapes.Shape.TheVariants as Of
use Rattle.jk_model_heaps.specs.Heaps.{MakesOne, heap_words, named, zero_fields}
use Rattle.jk_model_heaps.specs.Throwables.{IsRaised, IsStanding, fresh_throwable, standing_class}
use Rattle.jk_model_heaps.specs.Workings.{Inside, Setting, with_heap}
use Rattle.jk_model_sealing.specs.SealedInsides.{IsSealedInside, IsSealedObject, Surroundings}
use Rattle.heap_laws.proofs.FreshNames.{fitting_made}
use Rattle.heap_laws.proofs.GrownHeaps.{grown_self, making_grows}
use Rattle.heap_laws.proofs.NewObjects.{new_sealed}
use Rattle.heap_laws.proofs.ObjectsAfterChanges.{made_there, nothing_else}
use Rattle.heap_laws.proofs.SealedStill.{made_sealed}
use Rattle.heap_laws.specs.KeptInsides.{KeepsInside}
use Rattle.heap_laws.specs.RaisableObjects.{IsThrowable, MayBeRaised}
use Rattle.heap_laws.specs.RunningFrames.{IsKnownSetting}
use Rattle.heap_laws.specs.SoundCodes.{AreSoundCodes}
use Rattle.row_laws.proofs.SystemParents.{below_listed, no_capability, no_remote, no_task, no_text}

-- ---- Classes.

module _ (classes : List ClassRecord) (sound : AreSoundCodes classes) where
  standing_below : (s : Standing) → IsSubclass classes (standing_class s) THROWABLE
  standing_below Stands.OutOfMemoryError = below_listed classes sound 9 (standing_class Stands.OutOfMemoryError).0 9 refl
  standing_below Stands.StackOverflowError = below_listed classes sound 9 (standing_class Stands.StackOverflowError).0 9 refl
  standing_below Stands.Revoked = below_listed classes sound 9 (standing_class Stands.Revoked).0 9 refl
  standing_below Stands.Quota = below_listed classes sound 9 (standing_class Stands.Quota).0 9 refl
  standing_below Stands.NotCopiable = below_listed classes sound 9 (standing_class Stands.NotCopiable).0 9 refl
  standing_below Stands.Remote = below_listed classes sound 9 (standing_class Stands.Remote).0 9 refl
  standing_below Stands.ThreadDeath = below_listed classes sound 9 (standing_class Stands.ThreadDeath).0 9 refl
  standing_below Stands.Security = below_listed classes sound 9 (standing_class Stands.Security).0 9 refl

-- ---- There is an object.

pub raised_there : (around : Surroundings) (x : Setting) (old : Inside) (r : Raise) → IsSealedInside around x.quota old
    → (new : Inside) × (a : ℕ) × IsRaised x old r new a
raised_there around x old (Raised.Object a) sealed = (old, a, (refl, refl))
raised_there around x old (Raised.Standing s) sealed = let there = sealed.standing s in (old, there.0, (refl, there.1))
raised_there around x old (Raised.Fresh c) sealed =
    let object : Object = fresh_throwable x.classes c in
    elim (cases_lt x.quota (heap_words x.classes old.heap + object_words x.classes object)) [
      | inl lacks ↦ (let there = sealed.standing Stands.OutOfMemoryError in (old, there.0, inr (lacks, refl, there.1)))
      | inr fits ↦
          let made = fitting_made x.classes x.quota old.heap object fits in (with_heap old made.1, made.0, inl (made.1, made.2, refl))
    ]

-- ---- It is a throwable, and what is kept of the domain is kept.

module _ (around : Surroundings) (x : Setting) (known : IsKnownSetting around x) (old : Inside) (sealed : IsSealedInside around x.quota old) where
  abbrev IsThrown : Inside → ℕ → Type 0
  IsThrown new a = KeepsInside around x old new × IsThrowable around.classes new.heap a × (new.own ≡ old.own)

  unchanged : KeepsInside around x old old
  unchanged = record { sealed = sealed; grown = grown_self old.heap; tasks = λ a n is. inl is; pages = (refl, refl) }

  same_inside : (new : Inside) (a : ℕ) → new ≡ old → IsThrowable around.classes old.heap a → IsThrown new a
  same_inside new a same throwable = subst (λ (i : Inside). IsThrown i a) (sym same) (unchanged, throwable, refl)

  standing_thrown : (s : Standing) (a : ℕ) → IsStanding old.own s a → IsThrowable around.classes old.heap a
  standing_thrown s a is =
      let there = sealed.standing s in
      let same : there.0 ≡ a = same_Some there.0 a (sym there.1 ∙ is) in
      let fields = there.2 in
      subst (IsThrowable around.classes old.heap) same (standing_class s, fields.0, fields.1, standing_below around.classes known.codes s)

  abbrev fresh : ClassId → Object
  fresh c = fresh_throwable around.classes c

  made_thrown : (c : ClassId) (a : ℕ) (heap : List NamedObject) → c.0 < length system_classes → IsSubclass around.classes c THROWABLE
      → MakesOne around.classes x.quota old.heap a (fresh_throwable around.classes c) heap → IsThrown (with_heap old heap) a
  made_thrown c a heap low below makes = (
    record {
      sealed = made_sealed around x.quota old (named a (fresh c) ∷ []) heap sealed makes
          (λ e has.
          subst (λ (f : NamedObject). IsSealedObject around heap f.object) (only_in e (named a (fresh c)) (named a (fresh c) ∷ []) refl has) fits);
      grown = making_grows around.classes x.quota old.heap (named a (fresh c) ∷ []) heap makes;
      tasks = λ b n is. elim (nothing_else around.classes x.quota old.heap (named a (fresh c) ∷ []) heap makes b (Task n) is) [
        | inl before ↦ inl before
        | inr new ↦
            let one : named a (fresh c) ≡ named b (Task n) = only_in (named b (Task n)) (named a (fresh c)) (named a (fresh c) ∷ []) refl new in
            let of_object : fresh c ≡ Task n = ap (λ (f : NamedObject). f.object) one in
            absurd cc
      ];
      pages = (refl, refl);
    },
    (
      c,
      zero_fields around.classes c,
      made_there around.classes x.quota old.heap (named a (fresh c) ∷ []) heap makes (named a (fresh c))
          (Contains-here (named a (fresh c)) []),
      below,
    ),
    refl,
  )
    where
      fits : IsSealedObject around heap (fresh c)
      fits = new_sealed around heap (Of.Plain c) (
        known.table.knows_system c low,
        no_text around.classes known.codes c below,
        no_task around.classes known.codes c below,
        no_capability around.classes known.codes c below,
        no_remote around.classes known.codes c below,
      )

  pub thrown : (new : Inside) (r : Raise) (a : ℕ) → MayBeRaised around.classes old.heap r → IsRaised x old r new a → IsThrown new a
  thrown new (Raised.Object b) a may (same, is) = same_inside new a same (subst (IsThrowable around.classes old.heap) (sym is) may)
  thrown new (Raised.Standing s) a may (same, is) = same_inside new a same (standing_thrown s a is)
  thrown new (Raised.Fresh c) a may (inl (heap, makes, is)) =
      subst (λ (i : Inside). IsThrown i a) (sym is)
      (made_thrown c a heap may.0 may.1
      (subst (λ (classes : List ClassRecord). MakesOne classes x.quota old.heap a (fresh_throwable classes c) heap) known.classes makes))
  thrown new (Raised.Fresh c) a may (inr (lacks, same, is)) = same_inside new a same (standing_thrown Stands.OutOfMemoryError a is)
