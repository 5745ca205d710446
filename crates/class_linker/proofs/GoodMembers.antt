-- What each part of a class file that breaks no rule can't but be.
use Rattle.std.proofs.Common.{◌≡◌, ℕ, ◌+◌, ◌<◌, ◌^◌, inl, inr, List, length, refl, sym, subst, Bool, true, false, Option, Some, None, IsSome, slice_get}
use Rattle.std.specs.Prelude.{IsTrue, not}
use Rattle.list_lemmas.proofs.TestsAndOrders.{both_true}
use Rattle.list_lemmas.proofs.ItemsOfLists.{each-by_place}
use Rattle.jk_model.specs.declared.class_file.ClassFile.{ClassFile}
use Rattle.jk_model.specs.declared.class_file.PoolEntry.{PoolEntry}
use Rattle.jk_model.specs.declared.class_file.MemberInfo.{MemberInfo}
use Rattle.jk_model.specs.declared.class_file.Attribute.{Attribute}
use Rattle.jk_model.specs.declared.class_file.Code.{Code}
use Rattle.jk_model.specs.declared.descriptors.Base.{Base}
use Rattle.jk_model.specs.declared.descriptors.Base.TheVariants.{Byte, Char, Double, Float, Int, Long, Short, Bool as Boolean, Class}
use Rattle.jk_model.specs.declared.descriptors.FieldType.{FieldType}
use Rattle.jk_model.specs.declared.descriptors.MethodType.{MethodType}
use Rattle.jk_model.specs.declared.output.Rule.TheVariants.{C7, C8, C9, C10, C11, C12, C13, C15}
use Rattle.jk_model.specs.ClassFile.{CodeLayout}
use Rattle.jk_model.specs.Descriptors.{IsFieldText, IsMethodText, base_text}
use Rattle.jk_model.specs.Flags.{NATIVE, ABSTRACT, has}
use Rattle.jk_model_classes.specs.ClassFlags.{MethodFlags}
use Rattle.jk_model_classes.specs.ClassNames.{BeginsArray, NamesClass}
use Rattle.jk_model_classes.specs.Items.{HasItem, Member, Entry}
use Rattle.jk_model_classes.specs.MemberAttributes.{IsCodeAttribute}
use Rattle.jk_model_classes.specs.MemberCode.{CodeAt}
use Rattle.jk_model_classes.specs.MemberDescriptors.{IsFloatBase, IsFloatResult}
use Rattle.jk_model_classes.specs.Members.{TextAt, ClassAt}
use Rattle.jk_model_classes.specs.Worlds.{NamedClass, class_named}
use Rattle.class_lemmas.proofs.ArraysHaveNoNames.{begins_by}
use Rattle.class_lemmas.proofs.OneText.{one_text, one_class, few_units}
use Rattle.class_linker.specs.KnownCodes.{IsGoodCode}
use Rattle.class_linker.specs.KnownMembers.{IsGoodField, IsGoodMethod, HasGoodCode}
use Rattle.class_linker.specs.KnownTypes.{Meaning, IsKnownBase, IsKnownType, IsKnownResult, IsKnownKind}
use Rattle.class_linker.specs.LinkedFiles.{IsLinkable}
use Rattle.class_linker.proofs.ShortBodies.{short_body}

-- ---- Texts.

pub short_text : (c : ClassFile) (names : List NamedClass) → IsLinkable c names → (i : ℕ) (units : List ℕ) → TextAt c.pool i units → length units < 2 ^ 31
short_text c names h i units at = few_units c i units h.writable at

-- ---- Classes.

some_or_none : {T : Type 0} (o : Option T) → (o ≡ None → ⊥) → IsSome o
some_or_none None h = absurd (h refl)
some_or_none (Some x) h = refl

not_none : {T : Type 0} (o : Option T) → IsSome o → o ≡ None → ⊥
not_none None some none = let never : false ≡ true = some in cc
not_none (Some x) some none = cc

-- the name of a Class entry that is none of an array means something
pub class_known : (c : ClassFile) (names : List NamedClass) → IsLinkable c names → (i : ℕ) (name : List ℕ) → ((NamesClass c.pool i → ⊥) → ⊥)
    → ClassAt c.pool i name → IsSome (class_named names name)
class_known c names h i name named at =
    some_or_none (class_named names name) (λ none. h.alone C7 (Entry i) (inl (
      name,
      at,
      λ form. elim form [
        | inl is_class ↦ not_none (class_named names name) (h.known i name (inl (name, at, inl (is_class, refl)))) none
        | inr array ↦
            named (λ (us, at2, plain). plain (subst (λ (u : List ℕ). BeginsArray u) (one_class c.pool i name us at at2)
            (begins_by array.0.dims (base_text array.0.base) name array.1 array.2.1)))
      ],
    )))

-- ---- Types.

known_base : (meaning : Meaning) (base : Base) → (IsFloatBase base → ⊥) → ((name : List ℕ) → base ≡ Class name → IsSome
    (meaning name)) → IsKnownBase meaning base
known_base meaning Double f k = f (inr refl)
known_base meaning Float f k = f (inl refl)
known_base meaning (Class name) f k = k name refl
known_base meaning Byte f k = tt
known_base meaning Char f k = tt
known_base meaning Int f k = tt
known_base meaning Long f k = tt
known_base meaning Short f k = tt
known_base meaning Boolean f k = tt

known_result : (meaning : Meaning) (o : Option FieldType) → ((t : FieldType) → o ≡ Some t → IsKnownType meaning t) → IsKnownResult meaning o
known_result meaning None h = tt
known_result meaning (Some t) h = h t refl

-- ---- Fields.

pub good_field : (c : ClassFile) (names : List NamedClass) → IsLinkable c names → (i : ℕ) (field : MemberInfo) → slice_get c.fields i ≡ Some field
    → IsGoodField (class_named names) c.pool field
good_field c names h i field at = record {
  name = λ none. h.alone C7 (Member (i + 1)) (inr (inl (field, (i, refl, at), λ (units, there, is). none units there)));
  kind = record {
    there = λ none. h.alone C8 (Member (i + 1)) (inl (field, (i, refl, at), λ (units, there, is). none units there));
    is = λ units there. record {
      short = short_text c names h field.descriptor units there;
      some = λ none. h.alone C8 (Member (i + 1)) (inl (
        field,
        (i, refl, at),
        λ (us, at2, (t, text)).
            none t (subst (λ (u : List ℕ). IsFieldText u t) (one_text c.pool field.descriptor us units at2 there) text),
      ));
      known = λ t text. known_base (class_named names) t.base
          (λ float. h.alone C10 (Member (i + 1)) (inl (inl (field, (i, refl, at), (units, there, (t, text, float))))))
          (λ name is. h.known field.descriptor name (inr (units, inl (i, field, at, refl), there, inl (t, text, is))));
    };
  };
  constant = λ bad. h.alone C9 (Member (i + 1)) (inr (inl (field, (i, refl, at), inr bad)));
}

-- ---- Methods.

flag_off : (b : Bool) → (IsTrue b → ⊥) → IsTrue (not b)
flag_off true h = absurd (h refl)
flag_off false h = refl

method_kind : (c : ClassFile) (names : List NamedClass) → IsLinkable c names → (i : ℕ) (method : MemberInfo) → slice_get c.methods i ≡ Some method
    → (units : List ℕ) → TextAt c.pool method.descriptor units → (m : MethodType) → IsMethodText units m → IsKnownKind (class_named names) m
method_kind c names h i method at units there m text = record {
  params = each-by_place (IsKnownType (class_named names)) m.params (λ k t at_t. known_base (class_named names) t.base
      (λ float. h.alone C10 (Member (length c.fields + i + 1)) (inl (inr (method, (i, refl, at), (units, there, (m, text, inl (k, t, at_t, float)))))))
      (λ name is. h.known method.descriptor name (inr (units, inr (inl (i, method, at, refl)), there, inr (m, text, inl (k, t, at_t, is))))));
  returns = known_result (class_named names) m.result (λ t is_t. known_base (class_named names) t.base
      (λ float. h.alone C10 (Member (length c.fields + i + 1)) (inl (inr (
        method,
        (i, refl, at),
        (
          units,
          there,
          (m, text, inr (subst (λ (o : Option FieldType). IsFloatResult o) (sym is_t) float)),
        ),
      ))))
      (λ name is. h.known method.descriptor name (inr (units, inr (inl (i, method, at, refl)), there, inr (m, text, inr (t, is_t, is))))));
}

good_code : (c : ClassFile) (names : List NamedClass) → IsLinkable c names → (n : ℕ) (code : Code) → CodeAt c n code → length code.code < 2 ^ 16
    → IsGoodCode c.pool code
good_code c names h n code at short = record {
  decodable = record {
    short = short;
    decodes = λ bad. h.alone C15 (Member n) (code, at, inl bad);
    float = λ shows. h.alone C10 (Member n) (inr (code, at, inl shows));
    subroutine = λ shows. h.alone C11 (Member n) (code, at, shows);
    monitor = λ shows. h.alone C12 (Member n) (inl (code, at, shows));
  };
  targets = λ (instrs, decodes, (k, instr, there, nowhere)). h.alone C15 (Member n) (code, at, inr (inl (instrs, decodes, (k, instr, there, inl nowhere))));
  handlers = λ instrs decodes bad. h.alone C15 (Member n) (code, at, inr (inr (inl (instrs, decodes, bad))));
}

code_short : (pool : List PoolEntry) (attributes : List Attribute) (code : Code)
    → HasItem (λ (a : Attribute). IsCodeAttribute pool a × CodeLayout a.body code) attributes → length code.code < 2 ^ 16
code_short pool attributes code (k, a, at, (called, layout)) = layout.code.1

method_code : (c : ClassFile) (names : List NamedClass) → IsLinkable c names → (i : ℕ) (method : MemberInfo) → slice_get c.methods i ≡ Some method
    → (flags : ℕ) → MethodFlags c method flags → IsTrue (not (has flags ABSTRACT)) → HasGoodCode c method
method_code c names h i method at flags counted is_open =
    let n = length c.fields + i + 1 in
    let own : IsTrue (not (has flags NATIVE)) = flag_off (has flags NATIVE) (λ on. h.alone C13 (Member n) (method, flags, (i, refl, at), counted, on)) in
    record {
      some = λ none. h.alone C9 (Member n) (inr (inr (method, (i, refl, at), inr (inl (flags, counted, inl (is_open, own, inl none))))));
      code = λ code body. good_code c names h n code (record {
        method = method;
        at = (i, refl, at);
        flags = flags;
        counted = counted;
        concrete = both_true (not (has flags ABSTRACT)) (not (has flags NATIVE)) is_open own;
        body = body;
      }) (code_short c.pool method.attributes code body);
    }

pub good_method : (c : ClassFile) (names : List NamedClass) → IsLinkable c names → (i : ℕ) (method : MemberInfo) → slice_get c.methods i ≡ Some method
    → IsGoodMethod c (class_named names) method
good_method c names h i method at =
    let n = length c.fields + i + 1 in
    record {
      name = λ none. h.alone C7 (Member n) (inr (inr (method, (i, refl, at), λ (units, there, is). none units there)));
      kind = record {
        there = λ none. h.alone C8 (Member n) (inr (method, (i, refl, at), λ t is. none is.text.0 is.text.1));
        is = λ units there. record {
          short = short_text c names h method.descriptor units there;
          some = λ none. h.alone C8 (Member n) (inr (
            method,
            (i, refl, at),
            λ t is.
                none t (subst (λ (u : List ℕ). IsMethodText u t) (one_text c.pool method.descriptor is.text.0 units is.text.1 there) is.text.2),
          ));
          known = method_kind c names h i method at units there;
        };
      };
      bodies = λ k a at_a called. record {
        short = short_body c h.writable i method at k a at_a;
        some = λ none. h.alone C9 (Member n) (inr (inr (method, (i, refl, at), inr (inr (inl (k, a, at_a, (called, inl none)))))));
      };
      code = method_code c names h i method at;
    }

-- ---- The header.

pub names_this : (c : ClassFile) (names : List NamedClass) → IsLinkable c names → (NamesClass c.pool c.this_class → ⊥) → ⊥
names_this c names h never = h.alone C7 (Member 0) (inl (refl, inl never))

pub names_super : (c : ClassFile) (names : List NamedClass) → IsLinkable c names → (NamesClass c.pool c.super_class → ⊥) → ⊥
names_super c names h never = h.alone C7 (Member 0) (inl (refl, inr (inl never)))

pub names_interface : (c : ClassFile) (names : List NamedClass) → IsLinkable c names → (k i : ℕ) → slice_get c.interfaces k ≡ Some i
    → (NamesClass c.pool i → ⊥) → ⊥
names_interface c names h k i at never = h.alone C7 (Member 0) (inl (refl, inr (inr (k, i, at, never))))
