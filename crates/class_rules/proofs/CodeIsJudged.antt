-- What a code says by its one reading, and by the error that refuses it.
use Rattle.std.proofs.Common.{◌≡◌, ℕ, ◌<◌, ◌⊎◌, inl, inr, ◌↔◌, Bool, true, false, IsTrue, List, length, refl, sym, ap, subst, arith}
use Rattle.std.specs.Prelude.{Result, Ok, Err, IfOk}
use Rattle.jk_model.specs.declared.class_file.PoolEntry.{PoolEntry}
use Rattle.jk_model.specs.declared.class_file.Code.{Code}
use Rattle.jk_model.specs.declared.instructions.Instr.{Instr}
use Rattle.jk_model.specs.Instructions.{Decodes, Fault, IllegalOpcode, BadSwitch, BadOperand, FloatOpcode, Subroutine, Monitor, HasFault, IsCutAt}
use Rattle.jk_model_classes.specs.Items.{HasItem}
use Rattle.jk_model_classes.specs.MemberCode.{HasInstr, Shows, LoadsFloat, IsUndecodable, HasBadEntry, IsBadInstr}
use Rattle.jk_opcodes.specs.declared.errors.CodeError.{CodeError}
use Rattle.jk_opcodes.specs.declared.errors.CodeError.TheVariants as errors
use Rattle.jk_opcodes.specs.Errors.{error_of}
use Rattle.class_rules.specs.declared.codes.CodeJudgment.{CodeJudgment}
use Rattle.class_rules.specs.Codes.{UsesFloatIn, LoadsClassBy, IsBadCode, IsJudgment, IsReading, IsRefusal, IsMisuse, IsBadIn, refused_judgment, IsMemoryError, ArePlacesOf, ArePlaces, LeadsOut, BeginWithin}
use Rattle.class_rules.proofs.PlacesWithin.{begin_within}

-- ---- By its instructions.

in_reading : (P : Instr → Type 0) (code : Code) (instrs : List Instr) → IsReading code instrs → HasInstr P code → HasItem P instrs
in_reading P code instrs r (others, d, h) = subst (HasItem P) (sym (r.only others d)) h

pub instrs_within : (code : Code) (instrs : List Instr) (long : ℕ) → IsReading code instrs → long ≡ length code.code → BeginWithin long instrs
instrs_within code instrs long r e k instr at = omega (arith, begin_within 0 code.code instrs r.read k instr at, e)

pub places_of_code : (code : Code) (instrs : List Instr) (places : List Bool) → IsReading code instrs → ArePlacesOf instrs places → ArePlaces code places
places_of_code code instrs places r all place =
    (λ h. (instrs, r.read, (all place).0 h), λ b. (all place).1 (in_reading _ code instrs r b))

not_shown : (f : Fault) (code : Code) (instrs : List Instr) → IsReading code instrs → Shows f code → ⊥
not_shown f code instrs r (place, h) = r.no_fault f place h

bad_code : (pool : List PoolEntry) (arguments : ℕ) (code : Code) (instrs : List Instr) → IsReading code instrs → IsBadIn pool arguments code instrs
    → IsBadCode pool arguments code
bad_code pool arguments code instrs r (inl few) = inr (inr (inr few))
bad_code pool arguments code instrs r (inr (inl h)) = inr (inl (instrs, r.read, h))
bad_code pool arguments code instrs r (inr (inr h)) = inr (inr (inl (instrs, r.read, h)))

bad_in : (pool : List PoolEntry) (arguments : ℕ) (code : Code) (instrs : List Instr) → IsReading code instrs → IsBadCode pool arguments code
    → IsBadIn pool arguments code instrs
bad_in pool arguments code instrs r (inl (inl h)) = absurd (not_shown IllegalOpcode code instrs r h)
bad_in pool arguments code instrs r (inl (inr (inl h))) = absurd (not_shown BadSwitch code instrs r h)
bad_in pool arguments code instrs r (inl (inr (inr (inl h)))) = absurd (not_shown BadOperand code instrs r h)
bad_in pool arguments code instrs r (inl (inr (inr (inr (place, h))))) = absurd (r.no_cut place h)
bad_in pool arguments code instrs r (inr (inl h)) = inr (inl (in_reading (IsBadInstr pool code) code instrs r h))
bad_in pool arguments code instrs r (inr (inr (inl (others, d, h)))) = inr (inr h)
bad_in pool arguments code instrs r (inr (inr (inr few))) = inl few

float_in : (pool : List PoolEntry) (code : Code) (instrs : List Instr) → IsReading code instrs → UsesFloatIn pool code → HasItem (LoadsFloat pool) instrs
float_in pool code instrs r (inl h) = absurd (not_shown FloatOpcode code instrs r h)
float_in pool code instrs r (inr h) = in_reading (LoadsFloat pool) code instrs r h

pub read_judgment : (pool : List PoolEntry) (arguments : ℕ) (code : Code) (instrs : List Instr) (float class bad : Bool) → IsReading code instrs
    → (IsTrue float ↔ HasItem (LoadsFloat pool) instrs) → (IsTrue class ↔ HasItem (LoadsClassBy pool) instrs)
    → (IsTrue bad ↔ IsBadIn pool arguments code instrs)
    → IsJudgment pool arguments code
    (record { has_float = float; has_subroutine = false; has_monitor = false; loads_class = class; is_bad = bad })
read_judgment pool arguments code instrs float class bad r f l b = record {
  has_float = (λ t. inr (instrs, r.read, f.0 t), λ h. f.1 (float_in pool code instrs r h));
  has_subroutine = (λ t. absurd cc, λ h. absurd (not_shown Subroutine code instrs r h));
  has_monitor = (λ t. absurd cc, λ h. absurd (not_shown Monitor code instrs r h));
  loads_class = (λ t. (instrs, r.read, l.0 t), λ h. l.1 (in_reading (LoadsClassBy pool) code instrs r h));
  is_bad = (λ t. bad_code pool arguments code instrs r (b.0 t), λ h. b.1 (bad_in pool arguments code instrs r h));
}

pub out_is_bad : (pool : List PoolEntry) (code : Code) (places : List Bool) (instr : Instr) → ArePlaces code places → LeadsOut places instr
    → IsTrue true ↔ IsBadInstr pool code instr
out_is_bad pool code places instr all (place, leads, none) = (λ t. inl (place, leads, λ b. none ((all place).1 b)), λ h. refl)

pub entry_is_bad : (pool : List PoolEntry) (code : Code) (instr : Instr) → HasBadEntry pool instr → IsTrue true ↔ IsBadInstr pool code instr
entry_is_bad pool code instr bad = (λ t. inr (inl bad), λ h. refl)

-- an instruction that leads nowhere else and names the entry that it needs
pub misuse_is_bad : (r : Bool) (pool : List PoolEntry) (code : Code) (places : List Bool) (instr : Instr) → ArePlaces code places
    → (LeadsOut places instr → ⊥) → (HasBadEntry pool instr → ⊥) → (IsTrue r ↔ IsMisuse pool code.max_locals instr)
    → IsTrue r ↔ IsBadInstr pool code instr
misuse_is_bad r pool code places instr all stays named (to, from) = (λ t. inr (inr (to t)), λ h. from (only_misuse h))
  where
    only_misuse : IsBadInstr pool code instr → IsMisuse pool code.max_locals instr
    only_misuse (inl (place, leads, none)) = absurd (stays (place, leads, λ h. none ((all place).0 h)))
    only_misuse (inr (inl bad)) = absurd (named bad)
    only_misuse (inr (inr misuse)) = misuse

-- ---- By the error that refuses it.

-- this error alone refuses the code, and memory was left
abbrev IsRefusedBy : Code → CodeError → Type 0
IsRefusedBy code e = IsRefusal code e × (IsMemoryError e → ⊥)

not_memory : (e : CodeError) → (IsMemoryError e → ⊥) → e ≡ errors.OutOfMemory → ⊥
not_memory e none same = none (subst IsMemoryError (sym same) tt)

never_read : (P : Instr → Type 0) (code : Code) (e : CodeError) → IsRefusedBy code e → HasInstr P code → ⊥
never_read P code e r (instrs, d, h) = not_memory e r.1 (r.0.unread instrs d)

-- a fault that shows is the error
shown : (f : Fault) (code : Code) (e : CodeError) → IsRefusedBy code e → Shows f code → (place : ℕ) × (e ≡ error_of f place)
shown f code e r (place, h) = elim (r.0.only_fault f place h) [ inl same ↦ (place, same) | inr memory ↦ absurd (not_memory e r.1 memory) ]

abbrev IsNot : Fault → CodeError → Type 0
IsNot f e = (place : ℕ) → e ≡ error_of f place → ⊥

never_shown : (f : Fault) (code : Code) (e : CodeError) → IsRefusedBy code e → IsNot f e → IsTrue false ↔ Shows f code
never_shown f code e r other = (λ t. absurd cc, λ h. let (place, same) = shown f code e r h in absurd (other place same))

error_shows : (f : Fault) (code : Code) (place : ℕ) → IsRefusedBy code (error_of f place) → IsTrue true ↔ Shows f code
error_shows f code place r = (λ t. (place, r.0.fault f place refl), λ h. refl)

never_loads : (pool : List PoolEntry) (code : Code) (e : CodeError) → IsRefusedBy code e → IsTrue false ↔ HasInstr (LoadsClassBy pool) code
never_loads pool code e r = (λ t. absurd cc, λ h. absurd (never_read (LoadsClassBy pool) code e r h))

never_float : (pool : List PoolEntry) (code : Code) (e : CodeError) → IsRefusedBy code e → IsNot FloatOpcode e → IsTrue false ↔ UsesFloatIn pool code
never_float pool code e r other = (
  λ t. absurd cc,
  λ h. absurd (elim h [
    | inl s ↦ let (place, same) = shown FloatOpcode code e r s in other place same
    | inr i ↦ never_read (LoadsFloat pool) code e r i
  ]),
)

abbrev HasFewLocals : ℕ → Code → Bool → Type 0
HasFewLocals arguments code few = IsTrue few ↔ (code.max_locals < arguments)

undecodable_is_bad : (pool : List PoolEntry) (arguments : ℕ) (code : Code) → IsUndecodable code → IsTrue true ↔ IsBadCode pool arguments code
undecodable_is_bad pool arguments code h = (λ t. inl h, λ b. refl)

-- what no error of those that are left out can be
record IsLeftOut (e : CodeError) : Type 0 where
  opcode : IsNot IllegalOpcode e
  switch : IsNot BadSwitch e
  operand : IsNot BadOperand e
  cut : (place : ℕ) → e ≡ errors.CutInstruction place → ⊥

not_undecodable : (code : Code) (e : CodeError) → IsRefusedBy code e → IsLeftOut e → IsUndecodable code → ⊥
not_undecodable code e r out (inl h) = let (place, same) = shown IllegalOpcode code e r h in out.opcode place same
not_undecodable code e r out (inr (inl h)) = let (place, same) = shown BadSwitch code e r h in out.switch place same
not_undecodable code e r out (inr (inr (inl h))) = let (place, same) = shown BadOperand code e r h in out.operand place same
not_undecodable code e r out (inr (inr (inr (place, h)))) =
    elim (r.0.only_cut place h) [ inl same ↦ out.cut place same | inr memory ↦ not_memory e r.1 memory ]

few_if_bad : (pool : List PoolEntry) (arguments : ℕ) (code : Code) (e : CodeError) → IsRefusedBy code e → IsLeftOut e
    → IsBadCode pool arguments code → code.max_locals < arguments
few_if_bad pool arguments code e r out (inl h) = absurd (not_undecodable code e r out h)
few_if_bad pool arguments code e r out (inr (inl h)) = absurd (never_read (IsBadInstr pool code) code e r h)
few_if_bad pool arguments code e r out (inr (inr (inl (instrs, d, h)))) = absurd (not_memory e r.1 (r.0.unread instrs d))
few_if_bad pool arguments code e r out (inr (inr (inr few))) = few

left_out_is_bad : (pool : List PoolEntry) (arguments : ℕ) (code : Code) (e : CodeError) (few : Bool) → IsRefusedBy code e → IsLeftOut e
    → HasFewLocals arguments code few → IsTrue few ↔ IsBadCode pool arguments code
left_out_is_bad pool arguments code e few r out h = (λ t. inr (inr (inr (h.0 t))), λ b. h.1 (few_if_bad pool arguments code e r out b))

-- an error that says that the code is undecodable, and none of those that are left out
undecodable_judgment : (pool : List PoolEntry) (arguments : ℕ) (code : Code) (e : CodeError) → IsRefusedBy code e → IsNot FloatOpcode e
    → IsNot Subroutine e → IsNot Monitor e → IsUndecodable code
    → IsJudgment pool arguments code (record { has_float = false; has_subroutine = false; has_monitor = false; loads_class = false; is_bad = true })
undecodable_judgment pool arguments code e r float subroutine monitor bad = record {
  has_float = never_float pool code e r float;
  has_subroutine = never_shown Subroutine code e r subroutine;
  has_monitor = never_shown Monitor code e r monitor;
  loads_class = never_loads pool code e r;
  is_bad = undecodable_is_bad pool arguments code bad;
}

judged_by : (pool : List PoolEntry) (arguments : ℕ) (code : Code) (e : CodeError) (few : Bool) → IsRefusedBy code e → HasFewLocals arguments code few
    → IsJudgment pool arguments code (refused_judgment e few)
judged_by pool arguments code (errors.IllegalOpcode place) few r h =
    undecodable_judgment pool arguments code (errors.IllegalOpcode place) r (λ p e. cc) (λ p e. cc) (λ p e. cc)
    (inl (place, r.0.fault IllegalOpcode place refl))
judged_by pool arguments code (errors.BadSwitch place) few r h =
    undecodable_judgment pool arguments code (errors.BadSwitch place) r (λ p e. cc) (λ p e. cc) (λ p e. cc)
    (inr (inl (place, r.0.fault BadSwitch place refl)))
judged_by pool arguments code (errors.BadOperand place) few r h =
    undecodable_judgment pool arguments code (errors.BadOperand place) r (λ p e. cc) (λ p e. cc) (λ p e. cc)
    (inr (inr (inl (place, r.0.fault BadOperand place refl))))
judged_by pool arguments code (errors.CutInstruction place) few r h =
    undecodable_judgment pool arguments code (errors.CutInstruction place) r (λ p e. cc) (λ p e. cc) (λ p e. cc)
    (inr (inr (inr (place, r.0.cut place refl))))
judged_by pool arguments code (errors.FloatOpcode place) few r h = record {
  has_float = (λ t. inl (place, r.0.fault FloatOpcode place refl), λ u. refl);
  has_subroutine = never_shown Subroutine code (errors.FloatOpcode place) r (λ p e. cc);
  has_monitor = never_shown Monitor code (errors.FloatOpcode place) r (λ p e. cc);
  loads_class = never_loads pool code (errors.FloatOpcode place) r;
  is_bad = left_out_is_bad pool arguments code (errors.FloatOpcode place) few r
      (record { opcode = λ p e. cc; switch = λ p e. cc; operand = λ p e. cc; cut = λ p e. cc }) h;
}
judged_by pool arguments code (errors.Subroutine place) few r h = record {
  has_float = never_float pool code (errors.Subroutine place) r (λ p e. cc);
  has_subroutine = error_shows Subroutine code place r;
  has_monitor = never_shown Monitor code (errors.Subroutine place) r (λ p e. cc);
  loads_class = never_loads pool code (errors.Subroutine place) r;
  is_bad = left_out_is_bad pool arguments code (errors.Subroutine place) few r
      (record { opcode = λ p e. cc; switch = λ p e. cc; operand = λ p e. cc; cut = λ p e. cc }) h;
}
judged_by pool arguments code (errors.Monitor place) few r h = record {
  has_float = never_float pool code (errors.Monitor place) r (λ p e. cc);
  has_subroutine = never_shown Subroutine code (errors.Monitor place) r (λ p e. cc);
  has_monitor = error_shows Monitor code place r;
  loads_class = never_loads pool code (errors.Monitor place) r;
  is_bad = left_out_is_bad pool arguments code (errors.Monitor place) few r
      (record { opcode = λ p e. cc; switch = λ p e. cc; operand = λ p e. cc; cut = λ p e. cc }) h;
}
judged_by pool arguments code errors.OutOfMemory few r h = absurd (r.1 tt)

pub refused_is_judged : (pool : List PoolEntry) (arguments : ℕ) (code : Code) (e : CodeError) (few : Bool) (j : CodeJudgment) → IsRefusal code e
    → (IsMemoryError e → ⊥) → (IsTrue few ↔ (code.max_locals < arguments)) → j ≡ refused_judgment e few → IsJudgment pool arguments code j
refused_is_judged pool arguments code e few j r memory h same =
    subst (IsJudgment pool arguments code) (sym same) (judged_by pool arguments code e few (r, memory) h)

pub error_is_judged : {E : Type 0} (pool : List PoolEntry) (arguments : ℕ) (code : Code) (e : CodeError) (few : Bool) (r : Result CodeJudgment E)
    → IsRefusal code e → (IsTrue few ↔ (code.max_locals < arguments)) → IfOk r (λ j. j ≡ refused_judgment e few)
    → IfOk r (λ _. IsMemoryError e → ⊥) → IfOk r (λ j. IsJudgment pool arguments code j)
error_is_judged pool arguments code e few (Ok j) r h same memory = refused_is_judged pool arguments code e few j r memory h same
error_is_judged pool arguments code e few (Err memory) r h same none = tt

-- ---- What decoding says of a code, whose bytes these are.

abbrev ErrorOf : CodeError → Result (List Instr) CodeError
ErrorOf e = Err e

pub reading_of : (code : Code) (bytes : List ℕ) (found instrs : List Instr) → bytes ≡ code.code → found ≡ instrs → Decodes bytes instrs
    → ((others : List Instr) → Decodes bytes others → instrs ≡ others) → ((f : Fault) (place : ℕ) → HasFault bytes f place → ⊥)
    → ((place : ℕ) → IsCutAt bytes place → ⊥) → IsReading code found
reading_of code bytes found instrs e same read only fault cut =
    subst (λ (xs : List Instr). IsReading code xs) (sym same) (record {
      read = subst (λ (xs : List ℕ). Decodes xs instrs) e read;
      only = λ others d. only others (subst (λ (xs : List ℕ). Decodes xs others) (sym e) d);
      no_fault = λ f place h. fault f place (subst (λ (xs : List ℕ). HasFault xs f place) (sym e) h);
      no_cut = λ place h. cut place (subst (λ (xs : List ℕ). IsCutAt xs place) (sym e) h);
    })

pub refusal_of : (code : Code) (bytes : List ℕ) (e : CodeError) → bytes ≡ code.code
    → ((instrs : List Instr) → Decodes bytes instrs → e ≡ errors.OutOfMemory)
    → ((f : Fault) (place : ℕ) → ErrorOf e ≡ ErrorOf (error_of f place) → HasFault bytes f place)
    → ((f : Fault) (place : ℕ) → HasFault bytes f place → (e ≡ error_of f place) ⊎ (e ≡ errors.OutOfMemory))
    → ((place : ℕ) → ErrorOf e ≡ ErrorOf (errors.CutInstruction place) → IsCutAt bytes place)
    → ((place : ℕ) → IsCutAt bytes place → (e ≡ errors.CutInstruction place) ⊎ (e ≡ errors.OutOfMemory)) → IsRefusal code e
refusal_of code bytes e same only fault only_fault cut only_cut = record {
  unread = λ instrs d. only instrs (subst (λ (xs : List ℕ). Decodes xs instrs) (sym same) d);
  fault = λ f place h. subst (λ (xs : List ℕ). HasFault xs f place) same (fault f place (ap ErrorOf h));
  only_fault = λ f place h. only_fault f place (subst (λ (xs : List ℕ). HasFault xs f place) (sym same) h);
  cut = λ place h. subst (λ (xs : List ℕ). IsCutAt xs place) same (cut place (ap ErrorOf h));
  only_cut = λ place h. only_cut place (subst (λ (xs : List ℕ). IsCutAt xs place) (sym same) h);
}
