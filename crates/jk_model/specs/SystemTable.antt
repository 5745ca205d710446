-- The system classes: their order, members and flags. All are public; what else is said of a class or member
-- stands beside it.
use Rattle.std.specs.Prelude.{ℕ, ◌+◌, Bool, true, false, List, [], ◌∷◌, ◌++◌, length, map, take, sum_by, Option, Some, None, position, option_and_then, bytes_eq, codes}
use Rattle.jk_model.specs.Flags.{PUBLIC, STATIC, FINAL, INTERFACE, ABSTRACT}

pub record SystemField : Type 0 where
  pub name : List ℕ
  pub descriptor : List ℕ
  pub flags : ℕ

pub record SystemMethod : Type 0 where
  pub name : List ℕ
  pub descriptor : List ℕ
  pub flags : ℕ

pub record SystemClass : Type 0 where
  pub name : List ℕ
  -- the name of its parent; java/lang/Object has none
  pub parent : Option (List ℕ)
  pub flags : ℕ
  -- the names of the interfaces that it lists
  pub interfaces : List (List ℕ)
  -- it isn't extended, and `new` makes it only by the constructors that stand here
  pub closed : Bool
  -- its objects are copied when a call enters another domain
  pub copiable : Bool
  pub fields : List SystemField
  pub methods : List SystemMethod

-- ---- Flags. Public is a part of each.

abbrev pub public : ℕ
public = PUBLIC

abbrev pub static : ℕ
static = PUBLIC + STATIC

abbrev pub final : ℕ
final = PUBLIC + FINAL

abbrev pub static_final : ℕ
static_final = PUBLIC + STATIC + FINAL

abbrev pub interface : ℕ
interface = PUBLIC + INTERFACE

abbrev pub abstract : ℕ
abstract = PUBLIC + ABSTRACT

-- ---- Words for the table. A method is written as its flags, its name and its descriptor.

abbrev pub method : ℕ → List ℕ → List ℕ → SystemMethod
method flags name descriptor = record { name = name; descriptor = descriptor; flags = flags }

-- a field that no class file can name, since a name has no `.` in it: a text
abbrev pub hidden : List ℕ → SystemField
hidden name = record { name = name; descriptor = codes "Ljava/lang/String;"; flags = public }

abbrev pub object : List ℕ
object = codes "java/lang/Object"

abbrev pub serializable : List (List ℕ)
serializable = codes "java/io/Serializable" ∷ []

abbrev pub interface_without_members : List ℕ → SystemClass
interface_without_members name = record {
  name = name;
  parent = Some object;
  flags = interface;
  interfaces = [];
  closed = false;
  copiable = false;
  fields = [];
  methods = [];
}

-- a child of java/lang/Object that is closed
abbrev pub closed_class : List ℕ → List SystemField → List SystemMethod → SystemClass
closed_class name fields methods = record {
  name = name;
  parent = Some object;
  flags = public;
  interfaces = [];
  closed = true;
  copiable = false;
  fields = fields;
  methods = methods;
}

-- the same, copiable and serializable
abbrev pub closed_copiable_class : List ℕ → List SystemField → List SystemMethod → SystemClass
closed_copiable_class name fields methods =
    record (closed_class name fields methods) { interfaces = serializable; copiable = true }

-- the constructors without an argument, and with a text
abbrev pub constructor : SystemMethod
constructor = method public (codes "<init>") (codes "()V")

abbrev pub constructor_of_text : SystemMethod
constructor_of_text = method public (codes "<init>") (codes "(Ljava/lang/String;)V")

-- StringBuffer and StringBuilder, by the name and its descriptor
abbrev pub buffer : List ℕ → List ℕ → SystemClass
buffer name own =
    closed_copiable_class name (hidden (codes ".text") ∷ [])
    (constructor
    ∷ constructor_of_text
    ∷ method public (codes "length") (codes "()I")
    ∷ method public (codes "toString") (codes "()Ljava/lang/String;")
    ∷ method public (codes "append") (codes "(Ljava/lang/String;)" ++ own)
    ∷ method public (codes "append") (codes "(I)" ++ own)
    ∷ method public (codes "append") (codes "(J)" ++ own)
    ∷ method public (codes "append") (codes "(C)" ++ own)
    ∷ method public (codes "append") (codes "(Z)" ++ own)
    ∷ [])

-- a class below java/lang/Throwable, by its parent's name: copiable, not closed
abbrev pub throwable_with : List SystemMethod → ℕ → List ℕ → List ℕ → SystemClass
throwable_with methods flags parent name = record {
  name = name;
  parent = Some parent;
  flags = flags;
  interfaces = [];
  closed = false;
  copiable = true;
  fields = [];
  methods = methods;
}

abbrev pub throwable : List ℕ → List ℕ → SystemClass
throwable parent name = throwable_with (constructor ∷ constructor_of_text ∷ []) public parent name

-- ---- The table.

abbrev pub system_classes : List SystemClass
system_classes =
    record {
      name = object;
      parent = None;
      flags = public;
      interfaces = [];
      closed = false;
      copiable = false;
      fields = [];
      methods = constructor ∷ method public (codes "equals") (codes "(Ljava/lang/Object;)Z") ∷ [];
    }
    ∷ interface_without_members (codes "java/io/Serializable")
    ∷ interface_without_members (codes "java/lang/Cloneable")
    ∷ closed_copiable_class (codes "java/lang/String") []
    (method public (codes "length") (codes "()I")
    ∷ method public (codes "charAt") (codes "(I)C")
    ∷ method public (codes "equals") (codes "(Ljava/lang/Object;)Z")
    ∷ method public (codes "concat") (codes "(Ljava/lang/String;)Ljava/lang/String;")
    ∷ method public (codes "substring") (codes "(II)Ljava/lang/String;")
    ∷ method static (codes "valueOf") (codes "(I)Ljava/lang/String;")
    ∷ method static (codes "valueOf") (codes "(J)Ljava/lang/String;")
    ∷ method static (codes "valueOf") (codes "(C)Ljava/lang/String;")
    ∷ method static (codes "valueOf") (codes "(Z)Ljava/lang/String;")
    ∷ [])
    ∷ buffer (codes "java/lang/StringBuffer") (codes "Ljava/lang/StringBuffer;")
    ∷ buffer (codes "java/lang/StringBuilder") (codes "Ljava/lang/StringBuilder;")
    ∷ closed_class (codes "java/io/PrintStream") []
    (method public (codes "println") (codes "()V")
    ∷ method public (codes "println") (codes "(Ljava/lang/String;)V")
    ∷ method public (codes "println") (codes "(I)V")
    ∷ method public (codes "println") (codes "(J)V")
    ∷ method public (codes "println") (codes "(C)V")
    ∷ method public (codes "println") (codes "(Z)V")
    ∷ [])
    ∷ closed_class (codes "java/lang/System")
    (record { name = codes "out"; descriptor = codes "Ljava/io/PrintStream;"; flags = static_final } ∷ [])
    (method static (codes "arraycopy") (codes "(Ljava/lang/Object;ILjava/lang/Object;II)V") ∷ [])
    ∷ closed_class (codes "java/lang/Integer") [] (method static (codes "parseInt") (codes "(Ljava/lang/String;)I") ∷ [])
    ∷ record {
      name = codes "java/lang/Throwable";
      parent = Some object;
      flags = public;
      interfaces = serializable;
      closed = false;
      copiable = true;
      fields = hidden (codes ".message") ∷ [];
      methods = constructor ∷ constructor_of_text ∷ method public (codes "getMessage") (codes "()Ljava/lang/String;") ∷ [];
    }
    ∷ interface_without_members (codes "jk/Remote")
    ∷ record (closed_class (codes "jk/Capability") []
    (method static (codes "create") (codes "(Ljk/Remote;)Ljk/Capability;")
    ∷ method final (codes "revoke") (codes "()V")
    ∷ [])) { flags = abstract }
    ∷ closed_class (codes "jk/Repository") []
    (method static (codes "bind") (codes "(Ljava/lang/String;Ljk/Capability;)V")
    ∷ method static (codes "lookup") (codes "(Ljava/lang/String;)Ljk/Capability;")
    ∷ method static (codes "unbind") (codes "(Ljava/lang/String;)V")
    ∷ [])
    ∷ closed_class (codes "jk/Domain") []
    (method static (codes "name") (codes "()Ljava/lang/String;")
    ∷ method static (codes "freeWords") (codes "()I")
    ∷ method static (codes "terminate") (codes "()V")
    ∷ [])
    ∷ closed_class (codes "jk/Task") []
    (method static (codes "current") (codes "()Ljk/Task;")
    ∷ method public (codes "suspend") (codes "()V")
    ∷ method public (codes "resume") (codes "()V")
    ∷ method public (codes "stop") (codes "()V")
    ∷ [])
    ∷ throwable (codes "java/lang/Throwable") (codes "java/lang/Exception")
    ∷ throwable (codes "java/lang/Throwable") (codes "java/lang/Error")
    ∷ throwable (codes "java/lang/Exception") (codes "java/lang/RuntimeException")
    ∷ throwable (codes "java/lang/Exception") (codes "jk/RemoteException")
    ∷ throwable (codes "java/lang/RuntimeException") (codes "java/lang/ArithmeticException")
    ∷ throwable (codes "java/lang/RuntimeException") (codes "java/lang/ArrayStoreException")
    ∷ throwable (codes "java/lang/RuntimeException") (codes "java/lang/ClassCastException")
    ∷ throwable (codes "java/lang/RuntimeException") (codes "java/lang/IllegalArgumentException")
    ∷ throwable (codes "java/lang/RuntimeException") (codes "java/lang/IllegalStateException")
    ∷ throwable (codes "java/lang/RuntimeException") (codes "java/lang/IndexOutOfBoundsException")
    ∷ throwable (codes "java/lang/RuntimeException") (codes "java/lang/NegativeArraySizeException")
    ∷ throwable (codes "java/lang/RuntimeException") (codes "java/lang/NullPointerException")
    ∷ throwable (codes "java/lang/RuntimeException") (codes "java/lang/SecurityException")
    ∷ throwable (codes "java/lang/RuntimeException") (codes "java/lang/UnsupportedOperationException")
    ∷ throwable (codes "java/lang/IllegalArgumentException") (codes "java/lang/NumberFormatException")
    ∷ throwable (codes "java/lang/IndexOutOfBoundsException") (codes "java/lang/ArrayIndexOutOfBoundsException")
    ∷ throwable (codes "java/lang/IndexOutOfBoundsException") (codes "java/lang/StringIndexOutOfBoundsException")
    ∷ throwable (codes "java/lang/Error") (codes "java/lang/LinkageError")
    ∷ throwable_with (constructor ∷ constructor_of_text ∷ []) abstract (codes "java/lang/Error") (codes "java/lang/VirtualMachineError")
    ∷ throwable_with (constructor ∷ []) public (codes "java/lang/Error") (codes "java/lang/ThreadDeath")
    ∷ throwable (codes "java/lang/LinkageError") (codes "java/lang/IncompatibleClassChangeError")
    ∷ throwable (codes "java/lang/LinkageError") (codes "java/lang/NoClassDefFoundError")
    ∷ throwable (codes "java/lang/LinkageError") (codes "java/lang/ExceptionInInitializerError")
    ∷ throwable (codes "java/lang/IncompatibleClassChangeError") (codes "java/lang/AbstractMethodError")
    ∷ throwable (codes "java/lang/IncompatibleClassChangeError") (codes "java/lang/IllegalAccessError")
    ∷ throwable (codes "java/lang/VirtualMachineError") (codes "java/lang/OutOfMemoryError")
    ∷ throwable (codes "java/lang/VirtualMachineError") (codes "java/lang/StackOverflowError")
    ∷ throwable (codes "jk/RemoteException") (codes "jk/RevokedException")
    ∷ throwable (codes "jk/RemoteException") (codes "jk/QuotaException")
    ∷ throwable (codes "jk/RemoteException") (codes "jk/NotCopiableException")
    ∷ []

-- ---- Numbers: of a class, its place; of a method, its place among all methods of all classes in order.

-- the number of the class of this name
abbrev pub number_named : List ℕ → Option ℕ
number_named name = position (λ c. bytes_eq c.name name) system_classes

-- the number of its parent; none where it has no parent
abbrev pub parent_number : SystemClass → Option ℕ
parent_number c = option_and_then number_named c.parent

-- the numbers of the interfaces that it lists, each of which is a class of the table
abbrev pub interface_numbers : SystemClass → List (Option ℕ)
interface_numbers c = map number_named c.interfaces

-- the number of the first method of the class at a place
abbrev pub first_method_number : ℕ → ℕ
first_method_number n = sum_by (λ c. length c.methods) (take n system_classes)

-- the number of the method at place i of the class at place n
abbrev pub method_number : ℕ → ℕ → ℕ
method_number n i = first_method_number n + i
