-- What is written of code, handlers and two limits is the body of an attribute Code.
use Rattle.std.proofs.Common.{Bool, true, false, IsTrue, ◌≡◌, ◌≢◌, ℕ, ◌+◌, ◌*◌, ◌≤◌, ◌<◌, List, [], ◌∷◌, length, refl, sym, ap, ◌∙◌, subst, arith, length-append}
use Rattle.std.specs.List.{AllByRecursion, flat_map}
use Rattle.jk_model.specs.declared.class_file.Code.{Code}
use Rattle.jk_model.specs.declared.class_file.Handler.{Handler}
use Rattle.jk_model.specs.ClassFile.{AreBytes, CodeLayout, IsHandler, IsU2, code_bytes, handler_bytes}
use Rattle.jk_model.proofs.EmptyByLength.{length_from_not_nil as some_items}
use Rattle.jkasm.specs.CodeBody.{IsCodeBody}
use Rattle.jkasm.specs.Limits.{MAX_COUNT}

-- what doesn't test as empty has items
pub not_empty : {X : Type 0} (xs : List X) (empty : Bool) → (xs ≡ [] → IsTrue empty) → empty ≡ false → xs ≢ []
not_empty xs empty says h none =
    let yes : empty ≡ true = says none in
    cc

-- limits, code and handlers that fit a Code attribute
pub record FitsCode (code : Code) : Type 0 where
  pub limits : IsU2 code.max_stack × IsU2 code.max_locals
  pub some : code.code ≢ []
  pub short : length code.code ≤ MAX_COUNT
  pub bytes : AreBytes code.code
  pub few : length code.handlers ≤ MAX_COUNT
  pub handlers : AllByRecursion IsHandler code.handlers
  pub plain : code.attributes ≡ []

pub layout_of : (code : Code) → FitsCode code → CodeLayout (code_bytes code) code
layout_of code fits = record {
  sections = refl;
  limits = fits.limits;
  code = (some_items code.code fits.some, omega (arith, fits.short), fits.bytes);
  handlers = (omega (arith, fits.few), fits.handlers);
  attributes = rw fits.plain (omega arith, tt);
}

handlers_length : (handlers : List Handler) → length (flat_map handler_bytes handlers) ≡ 8 * length handlers
handlers_length [] = refl
handlers_length (h ∷ handlers) =
    let rest = handlers_length handlers in
    omega (arith, length-append (handler_bytes h) (flat_map handler_bytes handlers))

body_length : (stack locals : ℕ) (bytes : List ℕ) (handlers : List Handler)
    → length (code_bytes (record { max_stack = stack; max_locals = locals; code = bytes; handlers = handlers; attributes = [] }))
    ≡ 12 + length bytes + 8 * length handlers
body_length stack locals bytes handlers =
    simp length-append (omega (arith, handlers_length handlers))

pub body_of : (stack locals : ℕ) (bytes : List ℕ) (handlers : List Handler) (body : List ℕ)
    → FitsCode (record { max_stack = stack; max_locals = locals; code = bytes; handlers = handlers; attributes = [] })
    → body ≡ code_bytes (record { max_stack = stack; max_locals = locals; code = bytes; handlers = handlers; attributes = [] })
    → AreBytes body → IsCodeBody (record { max_stack = stack; max_locals = locals; code = bytes; handlers = handlers; attributes = [] }) body
body_of stack locals bytes handlers body fits written are =
    let code : Code = record { max_stack = stack; max_locals = locals; code = bytes; handlers = handlers; attributes = [] } in
    let size : length body ≡ 12 + length bytes + 8 * length handlers = ap length written ∙ body_length stack locals bytes handlers in record {
      layout = subst (λ b. CodeLayout b code) (sym written) (layout_of code fits);
      short = omega (arith, fits.short, fits.few);
      bytes = are;
    }
