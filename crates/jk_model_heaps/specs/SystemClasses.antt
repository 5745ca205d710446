-- The system classes that rules name, by their places in the system table. What stands in no other definition stands here.
use Rattle.jk_model.specs.declared.identifiers.ClassId.{ClassId}

abbrev pub SERIALIZABLE : ClassId
SERIALIZABLE = record { 0 = 1 }

abbrev pub CLONEABLE : ClassId
CLONEABLE = record { 0 = 2 }

abbrev pub STRING_BUFFER : ClassId
STRING_BUFFER = record { 0 = 4 }

abbrev pub STRING_BUILDER : ClassId
STRING_BUILDER = record { 0 = 5 }

abbrev pub SYSTEM : ClassId
SYSTEM = record { 0 = 7 }

abbrev pub INTEGER : ClassId
INTEGER = record { 0 = 8 }

abbrev pub REMOTE : ClassId
REMOTE = record { 0 = 10 }

abbrev pub REPOSITORY : ClassId
REPOSITORY = record { 0 = 12 }

abbrev pub DOMAIN : ClassId
DOMAIN = record { 0 = 13 }

-- ---- Throwables.

abbrev pub ERROR : ClassId
ERROR = record { 0 = 16 }

abbrev pub REMOTE_EXCEPTION : ClassId
REMOTE_EXCEPTION = record { 0 = 18 }

abbrev pub ARRAY_STORE_EXCEPTION : ClassId
ARRAY_STORE_EXCEPTION = record { 0 = 20 }

abbrev pub CLASS_CAST_EXCEPTION : ClassId
CLASS_CAST_EXCEPTION = record { 0 = 21 }

abbrev pub ILLEGAL_ARGUMENT_EXCEPTION : ClassId
ILLEGAL_ARGUMENT_EXCEPTION = record { 0 = 22 }

abbrev pub NEGATIVE_ARRAY_SIZE_EXCEPTION : ClassId
NEGATIVE_ARRAY_SIZE_EXCEPTION = record { 0 = 25 }

abbrev pub NULL_POINTER_EXCEPTION : ClassId
NULL_POINTER_EXCEPTION = record { 0 = 26 }

abbrev pub SECURITY_EXCEPTION : ClassId
SECURITY_EXCEPTION = record { 0 = 27 }

abbrev pub NUMBER_FORMAT_EXCEPTION : ClassId
NUMBER_FORMAT_EXCEPTION = record { 0 = 29 }

abbrev pub ARRAY_INDEX_EXCEPTION : ClassId
ARRAY_INDEX_EXCEPTION = record { 0 = 30 }

abbrev pub STRING_INDEX_EXCEPTION : ClassId
STRING_INDEX_EXCEPTION = record { 0 = 31 }

abbrev pub THREAD_DEATH : ClassId
THREAD_DEATH = record { 0 = 34 }

abbrev pub INCOMPATIBLE_CLASS_CHANGE_ERROR : ClassId
INCOMPATIBLE_CLASS_CHANGE_ERROR = record { 0 = 35 }

abbrev pub NO_CLASS_DEF_FOUND_ERROR : ClassId
NO_CLASS_DEF_FOUND_ERROR = record { 0 = 36 }

abbrev pub EXCEPTION_IN_INITIALIZER_ERROR : ClassId
EXCEPTION_IN_INITIALIZER_ERROR = record { 0 = 37 }

abbrev pub ABSTRACT_METHOD_ERROR : ClassId
ABSTRACT_METHOD_ERROR = record { 0 = 38 }

abbrev pub ILLEGAL_ACCESS_ERROR : ClassId
ILLEGAL_ACCESS_ERROR = record { 0 = 39 }

abbrev pub OUT_OF_MEMORY_ERROR : ClassId
OUT_OF_MEMORY_ERROR = record { 0 = 40 }

abbrev pub STACK_OVERFLOW_ERROR : ClassId
STACK_OVERFLOW_ERROR = record { 0 = 41 }

abbrev pub REVOKED_EXCEPTION : ClassId
REVOKED_EXCEPTION = record { 0 = 42 }

abbrev pub QUOTA_EXCEPTION : ClassId
QUOTA_EXCEPTION = record { 0 = 43 }

abbrev pub NOT_COPIABLE_EXCEPTION : ClassId
NOT_COPIABLE_EXCEPTION = record { 0 = 44 }
