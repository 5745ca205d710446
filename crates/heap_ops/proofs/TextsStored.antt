-- Each static field whose constant is a text is set to the text's object, one field after the other.
use Rattle.std.proofs.Common.{◌≡◌, ℕ, List, [], ◌∷◌, ◌++◌, length, Contains, Option, Some, None, slice_get, refl, sym, ap, subst, ◌∙◌}
use Rattle.std.specs.Prelude.{IsTrue}
use Rattle.jk_model.specs.Flags.{has, STATIC}
use Rattle.jk_model.specs.declared.identifiers.ClassId.{ClassId}
use Rattle.jk_model.specs.declared.identifiers.MemberId.{MemberId}
use Rattle.jk_model.specs.declared.values.Value.TheVariants as Held
use Rattle.jk_model_classes.specs.declared.records.ClassRecord.{ClassRecord}
use Rattle.jk_model_classes.specs.declared.records.FieldRecord.{FieldRecord}
use Rattle.jk_model_domains.specs.OwnStates.{ClassPart, HasStatic, OwnState, StaticField, literal_named, with_static}
use Rattle.jk_model_heap_rows.specs.Constants.{with_constants}
use Rattle.class_init.specs.KeptStates.{KeptState}
use Rattle.class_init.specs.MissingTexts.{HasTextConstant}
use Rattle.heap_ops.specs.ConstantTexts.{HasStaticsOf}
use Rattle.heap_ops.proofs.StaticsByPlace.{static_kept}
use Rattle.heap_ops.proofs.StaticsInTurn.{constant_set, constants_none, constants_same, constants_same_without, text_said}
use Rattle.heap_ops.proofs.TextsInTurn.{link_by, of_fields}

module _ (own : KeptState) (c : ClassId) (r : ClassRecord) where
  -- the constants of these fields are set
  abbrev pub stored : List FieldRecord → KeptState
  stored fs = record own { state = with_constants c (of_fields r fs) own.state }

  abbrev kept_with : OwnState → KeptState
  kept_with state = record own { state = state }

  pub none_stored : own ≡ stored []
  none_stored = sym (ap kept_with (constants_none c own.state r))

  module _ (fs : List FieldRecord) (f : FieldRecord) (now : KeptState) (so_far : now ≡ stored fs) where
    -- ---- The field isn't static, or its constant is no text.

    module _ (statics : HasStaticsOf own.state c r) (at : slice_get r.fields (length fs) ≡ Some f)
        (none : (t : List ℕ) → HasTextConstant f t → ⊥) where
      absent : (t : List ℕ) → text_said f.constant ≡ Some t → (e : ClassPart) (g : StaticField) → Contains own.state.classes e → e.class ≡ c
          → Contains e.statics g → g.index ≡ length fs → ⊥
      absent t is e g among class has_field same =
          let static : IsTrue (has f.flags STATIC) =
          statics.no_other e g f among class has_field (ap (λ (n : ℕ). slice_get r.fields n) same ∙ at) in
          none t (record { static = static; is = link_by f.constant t is })

      nothing_by : (o : Option (List ℕ)) → text_said f.constant ≡ o
          → with_constants c (of_fields r (fs ++ f ∷ [])) own.state ≡ with_constants c (of_fields r fs) own.state
      nothing_by None is = constants_same c own.state r fs f is
      nothing_by (Some t) is = constants_same_without c own.state r fs f (absent t is)

      pub nothing_stored : now ≡ stored (fs ++ f ∷ [])
      nothing_stored = so_far ∙ ap kept_with (sym (nothing_by (text_said f.constant) refl))

    -- ---- It is static, and its constant is a text.

    module _ (t : List ℕ) (is : HasTextConstant f t) where
      -- the text has the object that it had
      pub named_now : literal_named now.state t ≡ literal_named own.state t
      named_now = ap (λ (k : KeptState). literal_named k.state t) so_far

      module _ (i : ℕ) (cut : i ≡ length fs) where
        abbrev member : MemberId
        member = record { class = c; index = i }

        pub static_there : HasStaticsOf own.state c r → slice_get r.fields i ≡ Some f → HasStatic now.state member
        static_there statics at =
            subst (λ (k : KeptState). HasStatic k.state member) (sym so_far)
            (static_kept own.state c (of_fields r fs) member (statics.each i f at is.static))

        pub one_stored : (then : KeptState) (a : ℕ) → Some a ≡ literal_named now.state t
            → (let k : KeptState = record now { state = with_static now.state member (Held.Obj a) } in then ≡ k) → then ≡ stored (fs ++ f ∷ [])
        one_stored then a named kept =
            let object : literal_named own.state t ≡ Some a = sym (named ∙ named_now) in
            kept
            ∙ ap (λ (k : KeptState). let x : KeptState = record k { state = with_static k.state member (Held.Obj a) } in x) so_far
            ∙ ap (λ (n : ℕ). let m : MemberId = record { class = c; index = n } in
            kept_with (with_static (with_constants c (of_fields r fs) own.state) m (Held.Obj a))) cut
            ∙ ap kept_with (constant_set c own.state r fs f t a (ap text_said is.is) object)
