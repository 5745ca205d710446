-- What is answered of the bytes of a `resolver.txt`.
use Rattle.std.specs.Prelude.{◌≡◌, ℕ, List, ◌++◌, Result, Ok, Err}
use Rattle.jk_model_classes.specs.Resolver.{resolver_of}
use Rattle.jk_model_classes.specs.declared.sharing.ResolverLine.{ResolverLine}
use Rattle.domain_resolver.specs.declared.resolver.ResolverError.{ResolverError}
use Rattle.domain_resolver.specs.declared.resolver.ResolverError.TheVariants.{BadResolver, OutOfMemory}

-- what some lines say, where those before them say this
abbrev pub onto : List ResolverLine → Result (List ResolverLine) ℕ → Result (List ResolverLine) ℕ
onto before (Ok lines) = Ok (before ++ lines)
onto before (Err n) = Err n

-- what the lines say, or the first that is outside the grammar
abbrev pub IsAnswer : List ℕ → Result (List ResolverLine) ResolverError → Type 0
IsAnswer bytes (Ok lines) = resolver_of bytes ≡ Ok lines
IsAnswer bytes (Err (BadResolver n)) = resolver_of bytes ≡ Err n
IsAnswer bytes (Err OutOfMemory) = Unit {0}
