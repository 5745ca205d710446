-- A class that is untouched has an initialiser frame: it runs the class's `<clinit>`, or has no code.
use Rattle.std.proofs.Common.{inl, inr, ◌≡◌, ◌⊎◌, ℕ, ◌==◌, List, Option, Some, None, slice_get, refl, sym, subst, ◌∙◌}
use Rattle.std.specs.Option.{option_map_or}
use Rattle.std.proofs.lemmas.Bool.{eqb-true}
use Rattle.std.proofs.lemmas.Option.{same_Some}
use Rattle.list_lemmas.proofs.FoundItems.{Finds, finds}
use Rattle.list_lemmas.proofs.ItemsOfLists.{Contains-at}
use Rattle.decided_lookups.proofs.DecidedParts.{text_decided}
use Rattle.decided_lookups.proofs.ListsSearched.{first_or_none}
use Rattle.jk_model.specs.declared.frames.FrameHead.{FrameHead}
use Rattle.jk_model.specs.declared.identifiers.ClassId.{ClassId}
use Rattle.jk_model.specs.declared.identifiers.MemberId.{MemberId}
use Rattle.jk_model_classes.specs.declared.records.ClassRecord.{ClassRecord}
use Rattle.jk_model_classes.specs.declared.records.LinkedCode.{LinkedCode}
use Rattle.jk_model_classes.specs.declared.records.MethodRecord.{MethodRecord}
use Rattle.jk_model_classes.specs.Classes.{record_of}
use Rattle.jk_model_classes.specs.Lookups.{MethodIs}
use Rattle.jk_model_classes.specs.Members.{CLINIT}
use Rattle.jk_model_classes.specs.Worlds.{NamedClass}
use Rattle.jk_model_domains.specs.declared.states.ClassState.TheVariants as State
use Rattle.jk_model_domains.specs.OwnStates.{ClassPart, HasState, IsOwnState, OwnState, part_of, state_of}
use Rattle.jk_model_heaps.specs.RunningCode.{HasNoClinit, IsClinitOf}
use Rattle.jk_model_running.specs.Initialising.{IsInitialiserHead}
use Rattle.model_lemmas.proofs.SameNumbers.{same_class}
use Rattle.heap_laws.specs.SoundCodes.{AreSoundCodes}

module _ (classes : List ClassRecord) (sound : AreSoundCodes classes) (c : ClassId) (r : ClassRecord) (is : record_of classes c ≡ Some r) where
  abbrev member : ℕ → MemberId
  member index = record { class = c; index = index }

  clinit_decided : ((m : MemberId) × (code : LinkedCode) × IsClinitOf classes c m code) ⊎ HasNoClinit classes c
  clinit_decided = elim (first_or_none (λ (method : MethodRecord). method.name ≡ CLINIT) (λ method. text_decided method.name CLINIT) r.methods) [
    | inl (place, method, first) ↦
        let there : MethodIs classes (member place) method = (r, is, first.at) in
        let runs = sound.initialisers (member place) method there first.holds in
        inl (
          member place,
          runs.0.0,
          (
            refl,
            record {
              suits = (method, there, first.holds);
              first = λ i low (other, (s, is_too, at), named).
                  let same : s ≡ r = same_Some s r (sym is_too ∙ is) in
                  first.first (i, other, low, subst (λ (k : ClassRecord). slice_get k.methods i ≡ Some other) same at, named);
            },
            (method, there, runs.0.1),
          ),
        )
    | inr none ↦ inr (λ m code (of, first, rest).
        let suits = first.suits in
        let class : record_of classes c ≡ Some suits.1.0 = subst (λ (d : ClassId). record_of classes d ≡ Some suits.1.0) of suits.1.1 in
        let same : suits.1.0 ≡ r = same_Some suits.1.0 r (sym class ∙ is) in
        none (m.index, suits.0, subst (λ (k : ClassRecord). slice_get k.methods m.index ≡ Some suits.0) same suits.1.2, suits.2))
  ]

  head_there : (p : ClassId) → r.parent ≡ Some p → (head : FrameHead) × IsInitialiserHead classes c head
  head_there p parent = elim clinit_decided [
    | inl (m, code, clinit) ↦ (
      record { method = Some m; at = 0; need = Some p; initialises = Some c; max_locals = code.max_locals; max_stack = code.max_stack },
      record {
        initialises = refl;
        at = refl;
        class = r;
        is_class = is;
        parent = p;
        is_parent = parent;
        need = refl;
        code = inl (m, code, clinit, refl, refl, refl);
      },
    )
    | inr without ↦ (
      record { method = None; at = 0; need = Some p; initialises = Some c; max_locals = 0; max_stack = 0 },
      record {
        initialises = refl;
        at = refl;
        class = r;
        is_class = is;
        parent = p;
        is_parent = parent;
        need = refl;
        code = inr (without, refl, refl, refl);
      },
    )
  ]

-- ---- A class that is untouched has a part, so it isn't of the system and has a parent.

module _ (classes : List ClassRecord) (sound : AreSoundCodes classes) (table : List NamedClass) (own : OwnState)
    (is_own : IsOwnState classes table own) (c : ClassId) (untouched : state_of own c ≡ State.Untouched) where
  state_by : (o : Option ClassPart) → part_of own c ≡ o → option_map_or (λ (e : ClassPart). e.state) o State.Done ≡ State.Untouched → HasState own c
  state_by (Some e) is same = (e, is)
  state_by None is same = absurd cc

  pub state_there : HasState own c
  state_there = state_by (part_of own c) refl untouched

  pub initialiser_there : (head : FrameHead) × IsInitialiserHead classes c head
  initialiser_there =
      let e : ClassPart = state_there.0 in
      let found = subst (Finds (λ (x : ClassPart). x.class.0 == c.0) own.classes) state_there.1
      (finds (λ (x : ClassPart). x.class.0 == c.0) own.classes) in
      let same : e.class ≡ c = same_class e.class c (eqb-true e.class.0 c.0 found.2) in
      let part = is_own.each e (Contains-at own.classes found.0 e found.1) in
      let is : record_of classes c ≡ Some part.0 = subst (λ (d : ClassId). record_of classes d ≡ Some part.0) same part.1.1 in
      let parent = sound.homed c part.0 is part.1.2 in
      head_there classes sound c part.0 is parent.0 parent.1
