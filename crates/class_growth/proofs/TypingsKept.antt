-- A typing of a method of closed, ordered classes is one still with more classes behind.
use Rattle.std.proofs.Common.{◌≡◌, ℕ, Bool, List, [], ◌∷◌, ◌++◌, Option, Some, None, flat_map, refl, sym, ap, subst, ◌∙◌, if◌then◌else◌}
use Rattle.jk_model.specs.declared.identifiers.ClassId.{ClassId}
use Rattle.jk_model.specs.declared.identifiers.MemberId.{MemberId}
use Rattle.jk_model.specs.declared.instructions.Instr.{Instr}
use Rattle.jk_model_classes.specs.declared.records.Caught.{Caught}
use Rattle.jk_model_classes.specs.declared.records.ClassRecord.{ClassRecord}
use Rattle.jk_model_classes.specs.Classes.{HasClass, AreOrdered}
use Rattle.jk_model_typing.specs.declared.frames.VType.{VType}
use Rattle.jk_model_typing.specs.declared.frames.VType.TheVariants.{FreshThis}
use Rattle.jk_model_typing.specs.declared.frames.FrameType.{FrameType}
use Rattle.jk_model_typing.specs.FrameTypes.{of_class, throwable}
use Rattle.jk_model_typing.specs.Rows.{Row}
use Rattle.jk_model_typing.specs.Scopes.{CodeScope, IsScopeOf, own_receiver, parameter_values, is_static, is_init}
use Rattle.jk_model_typing.specs.Typing.{FitsAt, IsStart, GoesWell, IsTyping, as_locals, caught_value, handler_frame}
use Rattle.class_growth.specs.ScopesOver.{among, with_more}
use Rattle.class_growth.specs.ClosedClasses.{HasCaught, IsClosed}
use Rattle.class_growth.proofs.MoreClasses.{record-still}
use Rattle.class_growth.proofs.TypesKept.{of_class-kept, frame_fits-still}
use Rattle.class_growth.proofs.ScopesKept.{IsClosedScope, closed-scope}
use Rattle.class_growth.proofs.ShapesKept.{parameters-kept}
use Rattle.class_growth.proofs.RowsKept.{row-still}

module _ (s : CodeScope) (more : List ClassRecord) where
  pub fits_at-still : (frames : List (Option FrameType)) (place : ℕ) (f : FrameType) → FitsAt s frames place f → FitsAt (with_more s more) frames place f
  fits_at-still frames place f (g, at, fits) = (g, at, frame_fits-still s.classes more f g fits)

  caught_by : (o : Option ClassId) → ((c : ClassId) → o ≡ Some c → HasClass s.classes c)
      → elim o as (λ _. VType) [ Some c ↦ of_class (s.classes ++ more) c | None ↦ throwable ]
      ≡ elim o as (λ _. VType) [ Some c ↦ of_class s.classes c | None ↦ throwable ]
  caught_by None there = refl
  caught_by (Some c) there = of_class-kept s.classes more c (there c refl)

  pub caught_value-kept : (h : Caught) → HasCaught s.classes h → caught_value (with_more s more) h ≡ caught_value s h
  caught_value-kept h there = caught_by h.class there

  fits_handler-still : (frames : List (Option FrameType)) (h : Caught) (locals : List VType) (fresh : Bool) → HasCaught s.classes h
      → FitsAt s frames h.handler (handler_frame s h locals fresh)
      → FitsAt (with_more s more) frames h.handler (handler_frame (with_more s more) h locals fresh)
  fits_handler-still frames h locals fresh there fits =
      subst (λ v. FitsAt (with_more s more) frames h.handler (record { locals = locals; stack = v ∷ []; fresh = fresh }))
      (sym (caught_value-kept h there)) (fits_at-still frames h.handler (handler_frame s h locals fresh) fits)

  pub own_receiver-kept : HasClass s.classes s.self → own_receiver (with_more s more) ≡ own_receiver s
  own_receiver-kept there =
      ap (λ v. if is_static s.method then [] else (if is_init s.method then FreshThis ∷ [] else v ∷ [])) (of_class-kept s.classes more s.self there)

  pub start-still : (f : FrameType) → IsClosedScope s → IsStart s f → IsStart (with_more s more) f
  start-still f closed start =
      record {
        given = start.given;
        given_is =
            start.given_is
            ∙ ap (λ receiver. receiver ++ flat_map as_locals (parameter_values s s.method)) (sym (own_receiver-kept closed.self))
            ∙ ap (λ values. own_receiver (with_more s more) ++ flat_map as_locals values) (sym (parameters-kept s more s.method closed.method));
        room = start.room;
        locals = start.locals;
        stack = start.stack;
        fresh = start.fresh;
      }

  module _ (ordered : AreOrdered s.classes) (closed : IsClosedScope s) where
    pub goes_well-still : (frames : List (Option FrameType)) (place : ℕ) (i : Instr) (f : FrameType) → GoesWell s frames place i f
        → GoesWell (with_more s more) frames place i f
    goes_well-still frames place i f well =
        record {
          after = well.after;
          row = row-still s more ordered closed place i f well.after well.row;
          goes_on = λ next goes.
              let on = well.goes_on next goes in
              (on.0, on.1, fits_at-still frames on.0 well.after on.2);
          caught = λ h is covers. fits_handler-still frames h f.locals f.fresh (closed.handlers h is) (well.caught h is covers);
          caught_after = λ h is covers stores.
              fits_handler-still frames h well.after.locals f.fresh (closed.handlers h is) (well.caught_after h is covers stores);
        }

pub typing-still : (classes more : List ClassRecord) → AreOrdered classes → IsClosed classes → (m : MemberId) (frames : List (Option FrameType))
    → IsTyping classes m frames → IsTyping (classes ++ more) m frames
typing-still classes more ordered closed m frames typing =
    let s : CodeScope = typing.scope in
    let there : IsClosedScope s = closed-scope classes closed m s typing.scope_is in
    let in_order : AreOrdered s.classes = subst AreOrdered (sym typing.scope_is.all) ordered in
    record {
      scope = with_more s more;
      scope_is =
          record {
            all = ap (λ all. all ++ more) typing.scope_is.all;
            self = typing.scope_is.self;
            class = typing.scope_is.class;
            class_is = record-still classes more m.class typing.scope_is.class typing.scope_is.class_is;
            links = typing.scope_is.links;
            method = typing.scope_is.method;
            body = typing.scope_is.body;
          };
      as_many = typing.as_many;
      sized = typing.sized;
      start = typing.start;
      start_is = start-still s more typing.start there typing.start_is;
      first = fits_at-still s more frames 0 typing.start typing.first;
      each = λ place i f is at. goes_well-still s more in_order there frames place i f (typing.each place i f is at);
    }

-- ---- In the scope of a method of a class that was there.

module _ (classes more : List ClassRecord) (m : MemberId) (s : CodeScope) (scope : IsScopeOf classes m s) where
  -- what is judged in the scope with more classes behind its own
  among_all : (Judged : CodeScope → Type 0) → Judged (with_more s more) → Judged (among s (classes ++ more))
  among_all Judged h = subst (λ all. Judged (among s (all ++ more))) scope.all h

  pub fits_at-in_scope : (frames : List (Option FrameType)) (place : ℕ) (f : FrameType) → FitsAt s frames place f
      → FitsAt (among s (classes ++ more)) frames place f
  fits_at-in_scope frames place f h = among_all (λ t. FitsAt t frames place f) (fits_at-still s more frames place f h)

  module _ (closed : IsClosed classes) where
    there : IsClosedScope s
    there = closed-scope classes closed m s scope

    pub start-in_scope : (f : FrameType) → IsStart s f → IsStart (among s (classes ++ more)) f
    start-in_scope f h = among_all (λ t. IsStart t f) (start-still s more f there h)

    module _ (ordered : AreOrdered classes) where
      in_order : AreOrdered s.classes
      in_order = subst AreOrdered (sym scope.all) ordered

      pub row-in_scope : (place : ℕ) (i : Instr) (before after : FrameType) → Row s place i before after
          → Row (among s (classes ++ more)) place i before after
      row-in_scope place i before after h =
          among_all (λ t. Row t place i before after) (row-still s more in_order there place i before after h)

      pub goes_well-in_scope : (frames : List (Option FrameType)) (place : ℕ) (i : Instr) (f : FrameType) → GoesWell s frames place i f
          → GoesWell (among s (classes ++ more)) frames place i f
      goes_well-in_scope frames place i f h =
          among_all (λ t. GoesWell t frames place i f) (goes_well-still s more in_order there frames place i f h)
