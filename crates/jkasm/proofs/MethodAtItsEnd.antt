-- A method that is built is the method of its text once that ends.
use Rattle.std.proofs.Common.{◌≡◌, ◌≢◌, ℕ, ◌≤◌, ◌<◌, inl, inr, List, [], ◌∷◌, ◌++◌, length, refl, sym, ap, subst, arith, Some, None}
use Rattle.std.proofs.lemmas.List.{append-nil}
use Rattle.jk_model.specs.declared.class_file.Attribute.{Attribute}
use Rattle.jk_model.specs.declared.class_file.Code.{Code}
use Rattle.jk_model.specs.declared.class_file.MemberInfo.{MemberInfo}
use Rattle.jk_model.specs.declared.class_file.PoolEntry.{PoolEntry}
use Rattle.jk_model.specs.ClassFile.{AreAttributes, IsMember, IsU2}
use Rattle.asm_reader.specs.declared.items.CodeLine.{CodeLine}
use Rattle.asm_reader.specs.declared.items.Item.TheVariants as item
use Rattle.asm_reader.specs.declared.items.LineReading.{LineReading}
use Rattle.asm_reader.specs.declared.items.LineReading.TheVariants as reading
use Rattle.jkasm.specs.declared.method_builder.MethodBuilder.{MethodBuilder}
use Rattle.jkasm.specs.Assembled.{Agree, IsHandlerOf, IsCodeOf, IsMethodOf, HasThrowsAttribute}
use Rattle.jkasm.specs.Building.{IsCodeName, IsNamed, IsMethodSoFar}
use Rattle.jkasm.specs.CodeBody.{IsCodeBody}
use Rattle.jkasm.specs.CodePlaces.{place_after}
use Rattle.jkasm.specs.GoodLines.{HasCodeOrNothing}
use Rattle.jkasm.specs.Limits.{MAX_COUNT}
use Rattle.jkasm.specs.Outline.{MethodText}
use Rattle.jkasm.specs.Written.{AreWritten}

-- what stands in the attribute Code
abbrev pub code_of : MethodBuilder → Code
code_of b = record { max_stack = b.stack; max_locals = b.locals; code = b.code; handlers = b.handlers; attributes = [] }

-- the method with these attributes
abbrev pub member_of : MethodBuilder → List Attribute → MemberInfo
member_of b attributes = record { flags = b.flags; name = b.name; descriptor = b.descriptor; attributes = attributes }

-- the numbers of a method have two bytes
abbrev pub HasShortNumbers : MethodBuilder → Type 0
HasShortNumbers b = IsU2 b.flags × IsU2 b.name × IsU2 b.descriptor

-- what has a place after its lines has lines
some_code : (codes : List CodeLine) → 0 < place_after 0 codes → codes ≢ []
some_code [] h none = omega arith
some_code (line ∷ codes) h none = cc

is_code : (pool : List PoolEntry) (m : MethodText) (later : List LineReading) (b : MethodBuilder) (body : List ℕ)
    → IsMethodSoFar pool m (reading.Short item.End ∷ later) b → IsCodeBody (code_of b) body → IsCodeOf pool m body
is_code pool m later b body is has =
    let all : m.codes ++ [] ≡ m.codes = append-nil m.codes in
    let short : place_after 0 m.codes ≤ MAX_COUNT = subst (λ (n : ℕ). n ≤ MAX_COUNT) is.size is.short in
    let fits : place_after 0 (m.codes ++ []) ≤ MAX_COUNT = subst (λ codes. place_after 0 codes ≤ MAX_COUNT) (sym all) short in record {
      code = code_of b;
      layout = has.layout;
      limits = is.limits;
      bytes = subst (λ codes. AreWritten pool codes 0 m.codes b.code) all (is.written fits);
      handlers = subst (λ codes. Agree (IsHandlerOf pool codes) m.catches b.handlers) all (is.handlers fits);
      plain = refl;
    }

pub thrown_few : (pool : List PoolEntry) (classes : List (List ℕ)) (attributes : List Attribute) → HasThrowsAttribute pool classes attributes
    → length attributes ≤ 1
thrown_few pool [] attributes h =
    let none = ap length h in
    omega arith
thrown_few pool (class ∷ classes) attributes (a, one, has) =
    let single = ap length one in
    omega arith

pub ended_with_code : (pool : List PoolEntry) (m : MethodText) (later : List LineReading) (b : MethodBuilder) (i : ℕ) (body : List ℕ)
    (attributes : List Attribute) → IsMethodSoFar pool m (reading.Short item.End ∷ later) b → b.code_name ≡ Some i → IsU2 i
    → HasShortNumbers b → IsCodeBody (code_of b) body → attributes ≡ record { name = i; body = body } ∷ b.thrown
    → IsMethodOf pool m (member_of b attributes) × IsMember (member_of b attributes) × HasCodeOrNothing m
ended_with_code pool m later b i body attributes is named short (flags, name, descriptor) has all =
    let some : 0 < place_after 0 m.codes = subst (λ (n : ℕ). 0 < n) is.size has.layout.code.0 in
    let code : Attribute = record { name = i; body = body } in
    let few = thrown_few pool m.line.throws b.thrown is.thrown in
    let fit : AreAttributes (code ∷ b.thrown) = (omega arith, ((short, has.short, has.bytes), is.thrown_fits.1)) in (
      record {
        flags = is.flags;
        name = is.name;
        descriptor = is.descriptor;
        code = code ∷ [];
        thrown = b.thrown;
        has_code = inr (some_code m.codes some, (code, refl, (subst (IsCodeName pool) named is.code_name, is_code pool m later b body is has)));
        has_thrown = is.thrown;
        attributes = all;
      },
      (flags, name, descriptor, subst AreAttributes (sym all) fit),
      inr some,
    )

pub ended_without_code : (pool : List PoolEntry) (m : MethodText) (later : List LineReading) (b : MethodBuilder)
    → IsMethodSoFar pool m (reading.Short item.End ∷ later) b → b.code_name ≡ None → HasShortNumbers b
    → IsMethodOf pool m (member_of b b.thrown) × IsMember (member_of b b.thrown) × HasCodeOrNothing m
ended_without_code pool m later b is unnamed (flags, name, descriptor) =
    let none : IsNamed m (reading.Short item.End ∷ later) None = subst (IsNamed m (reading.Short item.End ∷ later)) unnamed is.named in (
      record {
        flags = is.flags;
        name = is.name;
        descriptor = is.descriptor;
        code = [];
        thrown = b.thrown;
        has_code = inl (none.0, none.1, refl);
        has_thrown = is.thrown;
        attributes = refl;
      },
      (flags, name, descriptor, is.thrown_fits),
      inl (none.0, none.1),
    )
