-- What the instructions of accepted code name: fields and methods of the sort that the instruction works on, and classes of which objects
-- may be made. The rule of loading that asks for a fact stands behind it.
use Rattle.std.specs.Prelude.{◌≡◌, ◌≢◌, ℕ, ◌==◌, ◌||◌, Bool, IsFalse, IsTrue, List, Contains, Some}
use Rattle.jk_model.specs.Flags.{has, ABSTRACT, FINAL, INTERFACE, PRIVATE, STATIC}
use Rattle.jk_model.specs.declared.identifiers.ClassId.{ClassId}
use Rattle.jk_model.specs.declared.identifiers.MemberId.{MemberId}
use Rattle.jk_model.specs.declared.instructions.Instr.{Instr}
use Rattle.jk_model.specs.declared.opcodes.TheConstants.{GETFIELD, GETSTATIC, INVOKEINTERFACE, INVOKESPECIAL, INVOKESTATIC, INVOKEVIRTUAL, NEW, PUTFIELD, PUTSTATIC}
use Rattle.jk_model_classes.specs.declared.records.ClassRecord.{ClassRecord}
use Rattle.jk_model_classes.specs.declared.records.FieldRecord.{FieldRecord}
use Rattle.jk_model_classes.specs.declared.records.Link.TheVariants as To
use Rattle.jk_model_classes.specs.declared.records.MethodRecord.{MethodRecord}
use Rattle.jk_model_classes.specs.Classes.{IsInterface, record_of}
use Rattle.jk_model_classes.specs.Members.{CLINIT, INIT}
use Rattle.jk_model_typing.specs.Scopes.{CodeScope, LeadsToLink, NamesClass, is_static}
use Rattle.jk_model_heaps.specs.RunningCode.{NamesField, NamesMethod}
use Rattle.system_facts.specs.ClosedClasses.{IsClosedClass}

-- ---- Which instructions these are.

abbrev pub uses_static_field : ℕ → Bool
uses_static_field op = op == GETSTATIC || op == PUTSTATIC

abbrev pub uses_object_field : ℕ → Bool
uses_object_field op = op == GETFIELD || op == PUTFIELD

abbrev pub puts_field : ℕ → Bool
puts_field op = op == PUTSTATIC || op == PUTFIELD

-- the calls that have a receiver
abbrev pub calls_object : ℕ → Bool
calls_object op = op == INVOKEVIRTUAL || op == INVOKESPECIAL || op == INVOKEINTERFACE

abbrev pub calls_method : ℕ → Bool
calls_method op = op == INVOKESTATIC || calls_object op

-- ---- Classes of which `new` may make objects.

-- It is no interface and not abstract, and a closed class of the system has a constructor (C21).
pub record MayBeMade (classes : List ClassRecord) (c : ClassId) : Type 0 where
  pub class : ClassRecord
  pub is_class : record_of classes c ≡ Some class
  pub no_interface : IsFalse (has class.flags INTERFACE)
  pub concrete : IsFalse (has class.flags ABSTRACT)
  pub constructed : IsClosedClass c → (method : MethodRecord) × Contains class.methods method × (method.name ≡ INIT)

-- ---- One instruction of a method's code.

pub record NamesWell (s : CodeScope) (i : Instr) : Type 0 where
  -- static fields and fields of objects have instructions of their own (C20)
  pub static_field : (m : MemberId) (field : FieldRecord) → IsTrue (uses_static_field i.op) → NamesField s i m field
      → IsTrue (has field.flags STATIC)
  pub object_field : (m : MemberId) (field : FieldRecord) → IsTrue (uses_object_field i.op) → NamesField s i m field
      → IsFalse (has field.flags STATIC)
  -- a class puts no other class's final field (C21)
  pub own_final_field : (m : MemberId) (field : FieldRecord) → IsTrue (puts_field i.op) → NamesField s i m field
      → IsTrue (has field.flags FINAL) → m.class ≡ s.self
  -- static methods are called by invokestatic, and no others are (C20)
  pub static_method : (m : MemberId) (method : MethodRecord) → i.op ≡ INVOKESTATIC → NamesMethod s i m method → IsTrue (is_static method)
  pub object_method : (m : MemberId) (method : MethodRecord) → IsTrue (calls_object i.op) → NamesMethod s i m method
      → IsFalse (is_static method)
  -- what invokespecial names can run (C20)
  pub concrete_method : (m : MemberId) (method : MethodRecord) → i.op ≡ INVOKESPECIAL → NamesMethod s i m method
      → IsFalse (has method.flags ABSTRACT)
  -- constructors are called by invokespecial alone (C15), and initialisers of classes by nothing (C7)
  pub constructor_call : (m : MemberId) (method : MethodRecord) → IsTrue (calls_method i.op) → NamesMethod s i m method
      → method.name ≡ INIT → i.op ≡ INVOKESPECIAL
  pub no_initialiser_call : (m : MemberId) (method : MethodRecord) → IsTrue (calls_method i.op) → NamesMethod s i m method
      → method.name ≢ CLINIT
  -- a class calls no other class's private method (C21)
  pub own_private_method : (m : MemberId) (method : MethodRecord) → IsTrue (calls_method i.op) → NamesMethod s i m method
      → IsTrue (has method.flags PRIVATE) → m.class ≡ s.self
  -- invokeinterface names an interface, and the other calls don't (C20)
  pub interface_call : (c : ClassId) (m : MemberId) → i.op ≡ INVOKEINTERFACE → LeadsToLink s i (To.Method c m) → IsInterface s.classes c
  pub class_call : (c : ClassId) (m : MemberId) → IsTrue (calls_method i.op) → i.op ≢ INVOKEINTERFACE → LeadsToLink s i (To.Method c m)
      → IsInterface s.classes c → ⊥
  pub new_object : (c : ClassId) → i.op ≡ NEW → NamesClass s i c → MayBeMade s.classes c
