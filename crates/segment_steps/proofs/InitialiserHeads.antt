-- The frame that initialises a class begins the first method `<clinit>`, where there is one.
use Rattle.std.proofs.Common.{inl, inr, ◌≡◌, ℕ, List, Some, None, slice_get, refl, sym, ap, subst, ◌∙◌}
use Rattle.std.proofs.lemmas.Option.{same_Some}
use Rattle.jk_model.specs.declared.frames.FrameHead.{FrameHead}
use Rattle.jk_model.specs.declared.identifiers.ClassId.{ClassId}
use Rattle.jk_model.specs.declared.identifiers.MemberId.{MemberId}
use Rattle.jk_model_classes.specs.declared.records.ClassRecord.{ClassRecord}
use Rattle.jk_model_classes.specs.declared.records.MethodRecord.{MethodRecord}
use Rattle.jk_model_classes.specs.Classes.{record_of}
use Rattle.jk_model_classes.specs.Lookups.{MethodIs}
use Rattle.jk_model_heaps.specs.CalledFrames.{call_head}
use Rattle.jk_model_heaps.specs.RunningCode.{HasNoClinit, IsClinitOf}
use Rattle.jk_model_running.specs.Initialising.{IsInitialiserHead}
use Rattle.jk_model_typing.specs.Scopes.{CodeScope, IsScopeOf}
use Rattle.typing_lemmas.proofs.OneScope.{scope, scope_of}
use Rattle.heap_laws.specs.SoundCodes.{AreSoundCodes}
use Rattle.segment_steps.specs.Initialisers.{IsFirstClinit, NoClinit}

-- the head with the class that it initialises, and that class's parent as its need
abbrev pub begins_with : ClassId → ClassRecord → FrameHead → FrameHead
begins_with c k code = record code { need = k.parent; initialises = Some c }

module _ (classes : List ClassRecord) (sound : AreSoundCodes classes) (c p : ClassId) (k : ClassRecord) (is : record_of classes c ≡ Some k)
    (parent : k.parent ≡ Some p) where
  abbrev member : ℕ → MemberId
  member index = record { class = c; index = index }

  same_class : (m : MemberId) (method : MethodRecord) → m.class ≡ c → MethodIs classes m method → slice_get k.methods m.index ≡ Some method
  same_class m method of (r, is_too, at) =
      let there : record_of classes c ≡ Some r = subst (λ (d : ClassId). record_of classes d ≡ Some r) of is_too in
      subst (λ (x : ClassRecord). slice_get x.methods m.index ≡ Some method) (same_Some r k (sym there ∙ is)) at

  -- ---- There is one.

  module _ (index : ℕ) (first : IsFirstClinit k.methods index) where
    abbrev there : MethodIs classes (member index) first.method
    there = (k, is, first.stands)

    pub has_code : (s : CodeScope) × IsScopeOf classes (member index) s
    has_code =
        let runs = sound.initialisers (member index) first.method there first.named in
        (scope classes c k.links first.method runs.0.0, scope_of classes (member index) first.method runs.0.0 there runs.0.1)

    is_clinit : (s : CodeScope) → IsScopeOf classes (member index) s → IsClinitOf classes c (member index) s.code
    is_clinit s of = (
      refl,
      record {
        suits = (first.method, there, first.named);
        first = λ i low (other, is_other, named). first.first i other low (same_class (member i) other refl is_other) named;
      },
      (s.method, (of.class, of.class_is, of.method), of.body),
    )

    pub begins_code : (code : FrameHead) (s : CodeScope) → IsScopeOf classes (member index) s → code ≡ call_head (member index) s.code
        → IsInitialiserHead classes c (begins_with c k code)
    begins_code code s of same = record {
      initialises = refl;
      at = ap (λ (h : FrameHead). h.at) same;
      class = k;
      is_class = is;
      parent = p;
      is_parent = parent;
      need = parent;
      code = inl (
        member index,
        s.code,
        is_clinit s of,
        ap (λ (h : FrameHead). h.method) same,
        ap (λ (h : FrameHead). h.max_locals) same,
        ap (λ (h : FrameHead). h.max_stack) same,
      );
    }

  -- ---- There is none.

  has_none : NoClinit k.methods → HasNoClinit classes c
  has_none none m code (of, first, rest) =
      let suits = first.suits in none m.index suits.0 (same_class m suits.0 of suits.1) suits.2

  pub begins_nothing : (code : FrameHead) → NoClinit k.methods
      → code ≡ (record { method = None; at = 0; need = None; initialises = None; max_locals = 0; max_stack = 0 })
      → IsInitialiserHead classes c (begins_with c k code)
  begins_nothing code none same = record {
    initialises = refl;
    at = ap (λ (h : FrameHead). h.at) same;
    class = k;
    is_class = is;
    parent = p;
    is_parent = parent;
    need = parent;
    code = inr (
      has_none none,
      ap (λ (h : FrameHead). h.method) same,
      ap (λ (h : FrameHead). h.max_locals) same,
      ap (λ (h : FrameHead). h.max_stack) same,
    );
  }
