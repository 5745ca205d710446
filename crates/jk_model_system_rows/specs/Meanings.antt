-- What each method of the system classes means. There is a list for each class, in the order of the system table, and its methods stand
-- in it in their order. That the names and descriptors beside the meanings are those of the table is a law of this crate.
use Rattle.std.specs.Prelude.{ℕ, List, [], ◌∷◌, ◌++◌, flat_map, map, replicate, Option, slice_get, option_and_then, option_map, codes}
use Rattle.jk_model.specs.declared.identifiers.ClassId.{ClassId}
use Rattle.jk_model.specs.declared.identifiers.MemberId.{MemberId}
use Rattle.jk_model.specs.SystemTable.{SystemClass, SystemField, SystemMethod, method_number, system_classes}
use Rattle.jk_model_system_rows.specs.declared.meanings.Shown.TheVariants as As
use Rattle.jk_model_system_rows.specs.declared.meanings.SystemMeaning.{SystemMeaning}
use Rattle.jk_model_system_rows.specs.declared.meanings.SystemMeaning.TheVariants as Means

pub record MethodMeaning : Type 0 where
  pub name : List ℕ
  pub descriptor : List ℕ
  pub meaning : SystemMeaning

abbrev pub method : List ℕ → List ℕ → SystemMeaning → MethodMeaning
method name descriptor meaning = record { name = name; descriptor = descriptor; meaning = meaning }

-- ---- Class by class.

abbrev pub of_object : List MethodMeaning
of_object =
    method (codes "<init>") (codes "()V") Means.Initialises
    ∷ method (codes "equals") (codes "(Ljava/lang/Object;)Z") Means.IsSame
    ∷ []

abbrev pub of_string : List MethodMeaning
of_string =
    method (codes "length") (codes "()I") Means.TextLength
    ∷ method (codes "charAt") (codes "(I)C") Means.CharAt
    ∷ method (codes "equals") (codes "(Ljava/lang/Object;)Z") Means.IsSameText
    ∷ method (codes "concat") (codes "(Ljava/lang/String;)Ljava/lang/String;") Means.Concat
    ∷ method (codes "substring") (codes "(II)Ljava/lang/String;") Means.Substring
    ∷ method (codes "valueOf") (codes "(I)Ljava/lang/String;") (Means.TextOf As.Int)
    ∷ method (codes "valueOf") (codes "(J)Ljava/lang/String;") (Means.TextOf As.Long)
    ∷ method (codes "valueOf") (codes "(C)Ljava/lang/String;") (Means.TextOf As.Char)
    ∷ method (codes "valueOf") (codes "(Z)Ljava/lang/String;") (Means.TextOf As.Truth)
    ∷ []

-- StringBuffer and StringBuilder, by the descriptor of their own name
abbrev pub of_buffer : List ℕ → List MethodMeaning
of_buffer own =
    method (codes "<init>") (codes "()V") Means.BufferInitialises
    ∷ method (codes "<init>") (codes "(Ljava/lang/String;)V") Means.BufferInitialisesWith
    ∷ method (codes "length") (codes "()I") Means.BufferLength
    ∷ method (codes "toString") (codes "()Ljava/lang/String;") Means.BufferText
    ∷ method (codes "append") (codes "(Ljava/lang/String;)" ++ own) (Means.Appends As.Text)
    ∷ method (codes "append") (codes "(I)" ++ own) (Means.Appends As.Int)
    ∷ method (codes "append") (codes "(J)" ++ own) (Means.Appends As.Long)
    ∷ method (codes "append") (codes "(C)" ++ own) (Means.Appends As.Char)
    ∷ method (codes "append") (codes "(Z)" ++ own) (Means.Appends As.Truth)
    ∷ []

abbrev pub of_print_stream : List MethodMeaning
of_print_stream =
    method (codes "println") (codes "()V") Means.PrintsEmptyLine
    ∷ method (codes "println") (codes "(Ljava/lang/String;)V") (Means.Prints As.Text)
    ∷ method (codes "println") (codes "(I)V") (Means.Prints As.Int)
    ∷ method (codes "println") (codes "(J)V") (Means.Prints As.Long)
    ∷ method (codes "println") (codes "(C)V") (Means.Prints As.Char)
    ∷ method (codes "println") (codes "(Z)V") (Means.Prints As.Truth)
    ∷ []

abbrev pub of_system : List MethodMeaning
of_system = method (codes "arraycopy") (codes "(Ljava/lang/Object;ILjava/lang/Object;II)V") Means.CopiesArray ∷ []

abbrev pub of_integer : List MethodMeaning
of_integer = method (codes "parseInt") (codes "(Ljava/lang/String;)I") Means.ParsesInt ∷ []

-- a class below java/lang/Throwable, but java/lang/ThreadDeath
abbrev pub of_throwable : List MethodMeaning
of_throwable =
    method (codes "<init>") (codes "()V") Means.Initialises
    ∷ method (codes "<init>") (codes "(Ljava/lang/String;)V") Means.SetsMessage
    ∷ []

abbrev pub of_thread_death : List MethodMeaning
of_thread_death = method (codes "<init>") (codes "()V") Means.Initialises ∷ []

abbrev pub of_all_throwables : List MethodMeaning
of_all_throwables = of_throwable ++ method (codes "getMessage") (codes "()Ljava/lang/String;") Means.GetsMessage ∷ []

abbrev pub of_capability : List MethodMeaning
of_capability =
    method (codes "create") (codes "(Ljk/Remote;)Ljk/Capability;") Means.CreatesCapability
    ∷ method (codes "revoke") (codes "()V") Means.RevokesCapability
    ∷ []

abbrev pub of_repository : List MethodMeaning
of_repository =
    method (codes "bind") (codes "(Ljava/lang/String;Ljk/Capability;)V") Means.BindsName
    ∷ method (codes "lookup") (codes "(Ljava/lang/String;)Ljk/Capability;") Means.LooksUpName
    ∷ method (codes "unbind") (codes "(Ljava/lang/String;)V") Means.UnbindsName
    ∷ []

abbrev pub of_domain : List MethodMeaning
of_domain =
    method (codes "name") (codes "()Ljava/lang/String;") Means.NamesDomain
    ∷ method (codes "freeWords") (codes "()I") Means.CountsFreeWords
    ∷ method (codes "terminate") (codes "()V") Means.TerminatesDomain
    ∷ []

abbrev pub of_task : List MethodMeaning
of_task =
    method (codes "current") (codes "()Ljk/Task;") Means.GetsTask
    ∷ method (codes "suspend") (codes "()V") Means.SuspendsTask
    ∷ method (codes "resume") (codes "()V") Means.ResumesTask
    ∷ method (codes "stop") (codes "()V") Means.StopsTask
    ∷ []

-- ---- All classes, in the order of the table. Interfaces have no methods.

abbrev pub system_meanings : List (List MethodMeaning)
system_meanings =
    of_object
    ∷ []
    ∷ []
    ∷ of_string
    ∷ of_buffer (codes "Ljava/lang/StringBuffer;")
    ∷ of_buffer (codes "Ljava/lang/StringBuilder;")
    ∷ of_print_stream
    ∷ of_system
    ∷ of_integer
    ∷ of_all_throwables
    ∷ []
    ∷ of_capability
    ∷ of_repository
    ∷ of_domain
    ∷ of_task
    ∷ replicate 19 of_throwable ++ of_thread_death ∷ replicate 10 of_throwable

-- what a method of a system class means; nothing of any other method
abbrev pub meaning_of : MemberId → Option SystemMeaning
meaning_of m =
    option_and_then (λ (methods : List MethodMeaning). option_map (λ (e : MethodMeaning). e.meaning) (slice_get methods m.index))
    (slice_get system_meanings m.class.0)

-- ---- The same by the numbers of the table, which count the methods of all classes in order from 0.

abbrev pub number_of : MemberId → ℕ
number_of m = method_number m.class.0 m.index

-- what the method of a number means
abbrev pub meaning_numbered : ℕ → Option SystemMeaning
meaning_numbered number =
    option_map (λ (e : MethodMeaning). e.meaning) (slice_get (flat_map (λ (methods : List MethodMeaning). methods) system_meanings) number)

-- ---- Names and descriptors alone, of the meanings and of the table, and the names of the table's fields.

pub record Signature : Type 0 where
  pub name : List ℕ
  pub descriptor : List ℕ

abbrev pub meant_signatures : List MethodMeaning → List Signature
meant_signatures methods = map (λ (e : MethodMeaning). record { name = e.name; descriptor = e.descriptor }) methods

abbrev pub table_signatures : SystemClass → List Signature
table_signatures class = map (λ (e : SystemMethod). record { name = e.name; descriptor = e.descriptor }) class.methods

abbrev pub field_names : ClassId → Option (List (List ℕ))
field_names c = option_map (λ (class : SystemClass). map (λ (e : SystemField). e.name) class.fields) (slice_get system_classes c.0)
