-- Instructions one after another have one reading, and stop being any at one place: each answer rules out the others.
use Rattle.std.proofs.Common.{◌≡◌, ◌≢◌, ℕ, ◌+◌, ◌-◌, ◌<◌, ◌⊎◌, inl, inr, List, [], ◌∷◌, ◌++◌, length, refl, sym, ◌∙◌, ap, subst, arith, length-append, append-nil, append_assoc, Result, Ok, Err, MatchResult}
use Rattle.jk_model.specs.declared.instructions.Instr.{Instr}
use Rattle.jk_model.specs.Instructions.{IsInstr, AreInstrs, Decodes, Fault, Shows, BeginsWithInstr, GoesOn, HasFault, IsCutAt}
use Rattle.model_lemmas.proofs.PlacesOfInstrs.{some_bytes}
use Rattle.jk_opcodes.specs.declared.errors.CodeError.{CodeError}
use Rattle.jk_opcodes.specs.declared.errors.CodeError.TheVariants as errors
use Rattle.jk_opcodes.specs.declared.errors.Stop.{Stop}
use Rattle.jk_opcodes.specs.declared.errors.Stop.TheVariants as stops
use Rattle.jk_opcodes.specs.declared.errors.StepError.{StepError}
use Rattle.jk_opcodes.specs.declared.errors.StepError.TheVariants as steps
use Rattle.jk_opcodes.specs.Errors.{error_of, stop_of, stop_error, code_error}
use Rattle.jk_opcodes.specs.Reading.{FailsInMemory}
use Rattle.jk_opcodes.specs.Plain.{Read}
use Rattle.jk_opcodes.specs.Steps.{step_at}
use Rattle.jk_opcodes.specs.Answer.{IsAnswer}
use Rattle.byte_fields.specs.Layouts.{IsBytes}
use Rattle.byte_fields.specs.PartsAreBytes.{IsBytes-after}
use Rattle.jk_opcodes.proofs.StepReadsMeaning.{StepSound, step_sound, step_again, step_refused, none_begins, cut_there, stopped}

-- what is known once some instructions are read
abbrev pub IsSoFar : List ℕ → List ℕ → List Instr → Type 0
IsSoFar code rest instrs = (front : List ℕ) × (code ≡ front ++ rest) × Decodes front instrs

instrs_one : (at : ℕ) (front encoding : List ℕ) (instrs : List Instr) (i : Instr) → AreInstrs at front instrs → IsInstr (at + length front) encoding i
    → AreInstrs at (front ++ encoding) (instrs ++ i ∷ [])
instrs_one at front encoding [] i h one =
    let here : at + length front ≡ at = omega (arith, ap length h) in
    (encoding, [], subst (λ (p : ℕ). IsInstr p encoding i) here one, rw h (sym (append-nil encoding)), refl)
instrs_one at front encoding (j ∷ instrs) i (f, rest, first, e, h) one =
    let here : at + length front ≡ at + length f + length rest = omega (arith, ap length e, length-append f rest) in (
      f,
      rest ++ encoding,
      first,
      rw e (append_assoc f rest encoding),
      instrs_one (at + length f) rest encoding instrs i h
          (subst (λ (p : ℕ). IsInstr p encoding i) here one),
    )

-- where the rest begins
place_is : (code front rest : List ℕ) → code ≡ front ++ rest → length code - length rest ≡ length front
place_is code front rest e = omega (arith, ap length e, length-append front rest)

one_more : (code rest after : List ℕ) (instrs : List Instr) (i : Instr) (front : List ℕ) (place : ℕ) → code ≡ front ++ rest → Decodes front instrs
    → place ≡ length front → StepSound place rest (Ok (i, after)) → IsSoFar code after (instrs ++ i ∷ [])
one_more code rest after instrs i front place e h at_place (encoding, is, parts) =
    let here : place ≡ 0 + length front = omega arith in (
      front ++ encoding,
      e ∙ rw parts (sym (append_assoc front encoding after)),
      instrs_one 0 front encoding instrs i h
          (subst (λ (p : ℕ). IsInstr p encoding i) here is),
    )

pub after_instr : (code rest after : List ℕ) (instrs : List Instr) (i : Instr) → IsBytes code → IsSoFar code rest instrs
    → step_at (length code - length rest) rest ≡ Ok (i, after) → IsSoFar code after (instrs ++ i ∷ [])
after_instr code rest after instrs i fits (front, e, h) step =
    let sound = subst (StepSound (length code - length rest) rest) step (step_sound (length code - length rest) rest (IsBytes-after code front rest e fits)) in
    one_more code rest after instrs i front (length code - length rest) e h (place_is code front rest e) sound

shorter_encoding : (place : ℕ) (encoding rest after : List ℕ) (i : Instr) → IsInstr place encoding i → rest ≡ encoding ++ after → length after < length rest
shorter_encoding place [] rest after i is e = absurd is
shorter_encoding place (b ∷ encoding) rest after i is e = omega (arith, ap length e, length-append (b ∷ encoding) after)

shorter_step : (place : ℕ) (rest after : List ℕ) (i : Instr) → StepSound place rest (Ok (i, after)) → length after < length rest
shorter_step place rest after i (encoding, is, e) = shorter_encoding place encoding rest after i is e

pub shorter : (code rest after : List ℕ) (instrs : List Instr) (place : ℕ) (i : Instr) → IsBytes code → IsSoFar code rest instrs
    → step_at place rest ≡ Ok (i, after) → length after < length rest
shorter code rest after instrs place i fits (front, e, h) step =
    shorter_step place rest after i (subst (StepSound place rest) step (step_sound place rest (IsBytes-after code front rest e fits)))

pub all_read : (code rest : List ℕ) (instrs : List Instr) → IsSoFar code rest instrs → rest ≡ [] → Decodes code instrs
all_read code rest instrs (front, e, h) none =
    let whole : code ≡ front = e ∙ rw none (append-nil front) in
    rw whole h

-- ---- Where reading stops.

pub record Stopped (code : List ℕ) (error : CodeError) : Type 0 where
  pub place : ℕ
  pub rest : List ℕ
  pub stop : Stop
  pub goes_on : GoesOn code place rest
  pub some : rest ≢ []
  pub stops : step_at place rest ≡ Err stop
  pub is : error ≡ stop_error place stop

rest_fits : (code rest : List ℕ) (place : ℕ) → IsBytes code → GoesOn code place rest → IsBytes rest
rest_fits code rest place fits (front, instrs, e, h, long) = IsBytes-after code front rest e fits

shown_is_some : (place : ℕ) (rest : List ℕ) (f : Fault) → Shows place rest f → rest ≢ []
shown_is_some place [] f h = absurd h
shown_is_some place (b ∷ rest) f h = λ e. absurd cc

as_stop : (f : Fault) (place : ℕ) → error_of f place ≡ stop_error place (stop_of f)
as_stop Fault.IllegalOpcode place = refl
as_stop Fault.BadSwitch place = refl
as_stop Fault.BadOperand place = refl
as_stop Fault.FloatOpcode place = refl
as_stop Fault.Subroutine place = refl
as_stop Fault.Monitor place = refl

stopped_by_fault : (code : List ℕ) (f : Fault) (place : ℕ) → IsBytes code → HasFault code f place → Stopped code (error_of f place)
stopped_by_fault code f place fits (rest, goes_on, shows) =
    record {
      place = place;
      rest = rest;
      stop = stop_of f;
      goes_on = goes_on;
      some = shown_is_some place rest f shows;
      stops = step_refused place rest f (rest_fits code rest place fits goes_on) shows;
      is = as_stop f place;
    }

stopped_by_cut : (code : List ℕ) (place : ℕ) → IsBytes code → IsCutAt code place → Stopped code (errors.CutInstruction place)
stopped_by_cut code place fits (rest, goes_on, some, unshown, never) =
    record {
      place = place;
      rest = rest;
      stop = stops.CutInstruction;
      goes_on = goes_on;
      some = some;
      stops = cut_there place rest (rest_fits code rest place fits goes_on) unshown never;
      is = refl;
    }

-- every answer other than instructions and want of memory
stopped_by : (code : List ℕ) (e : CodeError) → IsBytes code → IsAnswer code (Err e) → (e ≡ errors.OutOfMemory) ⊎ Stopped code e
stopped_by code (errors.IllegalOpcode place) fits h = inr (stopped_by_fault code Fault.IllegalOpcode place fits h)
stopped_by code (errors.CutInstruction place) fits h = inr (stopped_by_cut code place fits h)
stopped_by code (errors.BadSwitch place) fits h = inr (stopped_by_fault code Fault.BadSwitch place fits h)
stopped_by code (errors.BadOperand place) fits h = inr (stopped_by_fault code Fault.BadOperand place fits h)
stopped_by code (errors.FloatOpcode place) fits h = inr (stopped_by_fault code Fault.FloatOpcode place fits h)
stopped_by code (errors.Subroutine place) fits h = inr (stopped_by_fault code Fault.Subroutine place fits h)
stopped_by code (errors.Monitor place) fits h = inr (stopped_by_fault code Fault.Monitor place fits h)
stopped_by code errors.OutOfMemory fits h = inl refl

no_fault_is_cut : (f : Fault) (r : Read) → r ≡ Err stops.CutInstruction → r ≡ Err (stop_of f) → ⊥
no_fault_is_cut Fault.IllegalOpcode r e g = absurd cc
no_fault_is_cut Fault.BadSwitch r e g = absurd cc
no_fault_is_cut Fault.BadOperand r e g = absurd cc
no_fault_is_cut Fault.FloatOpcode r e g = absurd cc
no_fault_is_cut Fault.Subroutine r e g = absurd cc
no_fault_is_cut Fault.Monitor r e g = absurd cc

-- what a step that stops says of the whole
some_rest_shows : (code rest : List ℕ) (place : ℕ) (stop : Stop) → IsBytes code → GoesOn code place rest → rest ≢ []
    → step_at place rest ≡ Err stop
    → StepSound place rest (Err stop) → IsAnswer code (Err (stop_error place stop))
some_rest_shows code rest place stops.IllegalOpcode fits goes_on some e h = (rest, goes_on, h)
some_rest_shows code rest place stops.BadSwitch fits goes_on some e h = (rest, goes_on, h)
some_rest_shows code rest place stops.BadOperand fits goes_on some e h = (rest, goes_on, h)
some_rest_shows code rest place stops.FloatOpcode fits goes_on some e h = (rest, goes_on, h)
some_rest_shows code rest place stops.Subroutine fits goes_on some e h = (rest, goes_on, h)
some_rest_shows code rest place stops.Monitor fits goes_on some e h = (rest, goes_on, h)
some_rest_shows code rest place stops.CutInstruction fits goes_on some e h =
    let after = rest_fits code rest place fits goes_on in (
      rest,
      goes_on,
      some,
      λ f shows. no_fault_is_cut f (step_at place rest) e (step_refused place rest f after shows),
      none_begins place rest stops.CutInstruction after e,
    )

pub at_stop : (code rest : List ℕ) (instrs : List Instr) (e : StepError) → IsBytes code → IsSoFar code rest instrs → rest ≢ []
    → FailsInMemory e (step_at (length code - length rest) rest) → IsAnswer code (Err (code_error (length code - length rest) e))
at_stop code rest instrs steps.Memory fits so_far some h = tt
at_stop code rest instrs (steps.Stop stop) fits (front, e, h) some stops =
    let place = length code - length rest in
    let goes_on : GoesOn code place rest = (front, instrs, e, h, sym (place_is code front rest e)) in
    let after = IsBytes-after code front rest e fits in
    some_rest_shows code rest place stop fits goes_on some stops (subst (StepSound place rest) stops (step_sound place rest after))

-- ---- There is one way to read instructions.

-- no instruction is the front of another
record Same (f g : List ℕ) (i j : Instr) (r s : List ℕ) : Type 0 where
  pub instr : i ≡ j
  pub long : length f ≡ length g
  pub after : r ≡ s

abbrev found_pair : Instr × List ℕ → Read
found_pair x = Ok x

same_pair : (x y : Instr × List ℕ) → found_pair x ≡ found_pair y → x ≡ y
same_pair x y e = cc

same_instr : (at : ℕ) (f g : List ℕ) (i j : Instr) (r s : List ℕ) → IsBytes (f ++ r) → IsInstr at f i → IsInstr at g j
    → f ++ r ≡ g ++ s → Same f g i j r s
same_instr at f g i j r s fits hf hg e =
    let left = step_again at f r i fits hf in
    let right = step_again at g s j (subst IsBytes e fits) hg in
    let pairs = same_pair (i, r) (j, s) (sym left ∙ ap (step_at at) e ∙ right) in
    let after : r ≡ s = ap (λ (p : Instr × List ℕ). p.1) pairs in
    record {
      instr = ap (λ (p : Instr × List ℕ). p.0) pairs;
      long = omega (arith, ap length e, ap length after, length-append f r, length-append g s);
      after = after;
    }

one_reading : (at : ℕ) (bytes : List ℕ) (us vs : List Instr) → IsBytes bytes → AreInstrs at bytes us → AreInstrs at bytes vs → us ≡ vs
one_reading at bytes [] [] fits h k = refl
one_reading at bytes [] (v ∷ vs) fits h (g, s, one, e, others) = absurd (some_bytes at g s v one (sym e ∙ h))
one_reading at bytes (u ∷ us) [] fits (f, r, one, e, others) k = absurd (some_bytes at f r u one (sym e ∙ k))
one_reading at bytes (u ∷ us) (v ∷ vs) fits (f, r, hf, ef, hr) (g, s, hg, eg, hs) =
    let same = same_instr at f g u v r s (subst IsBytes ef fits) hf hg (sym ef ∙ eg) in
    let right : AreInstrs (at + length f) r vs = rw (same.after, same.long) hs in
    let others : us ≡ vs = one_reading (at + length f) r us vs (IsBytes-after bytes f r ef fits) hr right in
    rw (same.instr, others) refl

-- where no instruction begins, there is no reading
no_reading : (at : ℕ) (front rest : List ℕ) (us : List Instr) (bytes : List ℕ) (vs : List Instr) → IsBytes bytes → AreInstrs at front us
    → bytes ≡ front ++ rest → rest ≢ [] → (BeginsWithInstr (at + length front) rest → ⊥) → AreInstrs at bytes vs → ⊥
no_reading at front rest [] bytes [] fits h e some never k =
    let none : rest ≡ [] = sym (ap (λ (xs : List ℕ). xs ++ rest) h) ∙ sym e ∙ k in
    some none
no_reading at front rest [] bytes (v ∷ vs) fits h e some never (g, s, hg, eg, hs) =
    let whole : rest ≡ g ++ s = sym (ap (λ (xs : List ℕ). xs ++ rest) h) ∙ sym e ∙ eg in
    let here : at + length front ≡ at = omega (arith, ap length h) in
    never (g, s, v, subst (λ (p : ℕ). IsInstr p g v) (sym here) hg, whole)
no_reading at front rest (u ∷ us) bytes [] fits (f, r, hf, ef, hr) e some never k =
    let whole : bytes ≡ f ++ (r ++ rest) = e ∙ rw ef (append_assoc f r rest) in
    some_bytes at f (r ++ rest) u hf (sym whole ∙ k)
no_reading at front rest (u ∷ us) bytes (v ∷ vs) fits (f, r, hf, ef, hr) e some never (g, s, hg, eg, hs) =
    let whole : bytes ≡ f ++ (r ++ rest) = e ∙ rw ef (append_assoc f r rest) in
    let same = same_instr at f g u v (r ++ rest) s (subst IsBytes whole fits) hf hg (sym whole ∙ eg) in
    let here : at + length front ≡ at + length f + length r = omega (arith, ap length ef, length-append f r) in
    let none : BeginsWithInstr (at + length f + length r) rest → ⊥ = λ b. never (subst (λ (p : ℕ). BeginsWithInstr p rest) (sym here) b) in
    let right : AreInstrs (at + length f) s vs = rw same.long hs in
    no_reading (at + length f) r rest us s vs (IsBytes-after bytes g s eg fits) hr (sym same.after) some none right

-- instructions stop at one place
record SamePlace (front front2 rest rest2 : List ℕ) : Type 0 where
  pub place : length front ≡ length front2
  pub after : rest ≡ rest2

one_place : (at : ℕ) (front rest : List ℕ) (us : List Instr) (front2 rest2 : List ℕ) (vs : List Instr) → IsBytes (front ++ rest)
    → AreInstrs at front us
    → (BeginsWithInstr (at + length front) rest → ⊥) → AreInstrs at front2 vs → (BeginsWithInstr (at + length front2) rest2 → ⊥)
    → front ++ rest ≡ front2 ++ rest2 → SamePlace front front2 rest rest2
one_place at front rest [] front2 rest2 [] fits h never h2 never2 e =
    record { place = ap length (h ∙ sym h2); after = sym (ap (λ (xs : List ℕ). xs ++ rest) h) ∙ e ∙ ap (λ (xs : List ℕ). xs ++ rest2) h2 }
one_place at front rest [] front2 rest2 (v ∷ vs) fits h never (g, s, hg, eg, hs) never2 e =
    let whole : rest ≡ g ++ (s ++ rest2) = sym (ap (λ (xs : List ℕ). xs ++ rest) h) ∙ e ∙ rw eg (append_assoc g s rest2) in
    let here : at + length front ≡ at = omega (arith, ap length h) in
    absurd (never (g, s ++ rest2, v, subst (λ (p : ℕ). IsInstr p g v) (sym here) hg, whole))
one_place at front rest (u ∷ us) front2 rest2 [] fits (f, r, hf, ef, hr) never h2 never2 e =
    let whole : rest2 ≡ f ++ (r ++ rest) = sym (ap (λ (xs : List ℕ). xs ++ rest2) h2) ∙ sym e ∙ rw ef (append_assoc f r rest) in
    let here : at + length front2 ≡ at = omega (arith, ap length h2) in
    absurd (never2 (f, r ++ rest, u, subst (λ (p : ℕ). IsInstr p f u) (sym here) hf, whole))
one_place at front rest (u ∷ us) front2 rest2 (v ∷ vs) fits (f, r, hf, ef, hr) never (g, s, hg, eg, hs) never2 e =
    let left : front ++ rest ≡ f ++ (r ++ rest) = rw ef (append_assoc f r rest) in
    let right : front2 ++ rest2 ≡ g ++ (s ++ rest2) = rw eg (append_assoc g s rest2) in
    let same = same_instr at f g u v (r ++ rest) (s ++ rest2) (subst IsBytes left fits) hf hg (sym left ∙ e ∙ right) in
    let here : at + length front ≡ at + length f + length r = omega (arith, ap length ef, length-append f r) in
    let here2 : at + length front2 ≡ at + length f + length s = omega (arith, ap length eg, length-append g s, same.long) in
    let none : BeginsWithInstr (at + length f + length r) rest → ⊥ = λ b. never (subst (λ (p : ℕ). BeginsWithInstr p rest) (sym here) b) in
    let none2 : BeginsWithInstr (at + length f + length s) rest2 → ⊥ = λ b. never2 (subst (λ (p : ℕ). BeginsWithInstr p rest2) (sym here2) b) in
    let hs2 : AreInstrs (at + length f) s vs = rw same.long hs in
    let others = one_place (at + length f) r rest us s rest2 vs (IsBytes-after (front ++ rest) f (r ++ rest) left fits) hr none hs2 none2 same.after in
    record { place = omega (arith, ap length ef, ap length eg, length-append f r, length-append g s, same.long, others.place); after = others.after }

-- ---- What one answer says of each reading, each fault and each place.

-- what stands before the place is the same in each
unread : (code : List ℕ) (e : CodeError) (instrs : List Instr) → IsBytes code → (s : Stopped code e) → GoesOn code s.place s.rest
    → Decodes code instrs → ⊥
unread code e instrs fits s (front, us, parts, h, long) read =
    let here : s.place ≡ 0 + length front = omega (arith, long) in
    let stops : step_at (0 + length front) s.rest ≡ Err s.stop = subst (λ (p : ℕ). step_at p s.rest ≡ Err s.stop) here s.stops in
    no_reading 0 front s.rest us code instrs fits h parts s.some
    (none_begins (0 + length front) s.rest s.stop (IsBytes-after code front s.rest parts fits) stops) read

one_stop_at : (code : List ℕ) (e e2 : CodeError) → IsBytes code → (s : Stopped code e) → (t : Stopped code e2) → GoesOn code s.place s.rest
    → GoesOn code t.place t.rest → e ≡ e2
one_stop_at code e e2 fits s t (front, us, parts, h, long) (front2, vs, parts2, h2, long2) =
    let here : s.place ≡ 0 + length front = omega (arith, long) in
    let here2 : t.place ≡ 0 + length front2 = omega (arith, long2) in
    let stops : step_at (0 + length front) s.rest ≡ Err s.stop = subst (λ (p : ℕ). step_at p s.rest ≡ Err s.stop) here s.stops in
    let stops2 : step_at (0 + length front2) t.rest ≡ Err t.stop = subst (λ (p : ℕ). step_at p t.rest ≡ Err t.stop) here2 t.stops in
    let never = none_begins (0 + length front) s.rest s.stop (IsBytes-after code front s.rest parts fits) stops in
    let never2 = none_begins (0 + length front2) t.rest t.stop (IsBytes-after code front2 t.rest parts2 fits) stops2 in
    let same = one_place 0 front s.rest us front2 t.rest vs (subst IsBytes parts fits) h never h2 never2 (sym parts ∙ parts2) in
    let place : s.place ≡ t.place = omega (arith, long, long2, same.place) in
    let same_steps : step_at s.place s.rest ≡ step_at t.place t.rest = rw (place, same.after) refl in
    let both : stopped s.stop ≡ stopped t.stop = sym s.stops ∙ same_steps ∙ t.stops in
    let stop : s.stop ≡ t.stop = cc in
    s.is ∙ rw (place, stop) (sym t.is)

stopped_unread : (code : List ℕ) (e : CodeError) (instrs : List Instr) → IsBytes code → Stopped code e → Decodes code instrs → ⊥
stopped_unread code e instrs fits s read = unread code e instrs fits s s.goes_on read

one_stop : (code : List ℕ) (e e2 : CodeError) → IsBytes code → Stopped code e → Stopped code e2 → e ≡ e2
one_stop code e e2 fits s t = one_stop_at code e e2 fits s t s.goes_on t.goes_on

pub only : (code : List ℕ) (result : Result (List Instr) CodeError) → IsBytes code → IsAnswer code result → (instrs : List Instr)
    → Decodes code instrs
    → MatchResult result (λ found. found ≡ instrs) (λ e. e ≡ errors.OutOfMemory)
only code (Ok found) fits h instrs k = one_reading 0 code found instrs fits h k
only code (Err e) fits h instrs k = elim (stopped_by code e fits h) [ inl memory ↦ memory | inr s ↦ absurd (stopped_unread code e instrs fits s k) ]

only_stop : (code : List ℕ) (result : Result (List Instr) CodeError) (e2 : CodeError) → IsBytes code → IsAnswer code result → Stopped code e2
    → MatchResult result (λ _. ⊥) (λ e. (e ≡ e2) ⊎ (e ≡ errors.OutOfMemory))
only_stop code (Ok found) e2 fits h t = stopped_unread code e2 found fits t h
only_stop code (Err e) e2 fits h t = elim (stopped_by code e fits h) [ inl memory ↦ inr memory | inr s ↦ inl (one_stop code e e2 fits s t) ]

pub only_fault : (code : List ℕ) (result : Result (List Instr) CodeError) (f : Fault) (place : ℕ) → IsBytes code → IsAnswer code result
    → HasFault code f place → MatchResult result (λ _. ⊥) (λ e. (e ≡ error_of f place) ⊎ (e ≡ errors.OutOfMemory))
only_fault code result f place fits h fault = only_stop code result (error_of f place) fits h (stopped_by_fault code f place fits fault)

pub only_cut : (code : List ℕ) (result : Result (List Instr) CodeError) (place : ℕ) → IsBytes code → IsAnswer code result → IsCutAt code place
    → MatchResult result (λ _. ⊥) (λ e. (e ≡ errors.CutInstruction place) ⊎ (e ≡ errors.OutOfMemory))
only_cut code result place fits h cut = only_stop code result (errors.CutInstruction place) fits h (stopped_by_cut code place fits cut)

fault_of : (code : List ℕ) (f : Fault) (place : ℕ) → IsAnswer code (Err (error_of f place)) → HasFault code f place
fault_of code Fault.IllegalOpcode place h = h
fault_of code Fault.BadSwitch place h = h
fault_of code Fault.BadOperand place h = h
fault_of code Fault.FloatOpcode place h = h
fault_of code Fault.Subroutine place h = h
fault_of code Fault.Monitor place h = h

pub fault : (code : List ℕ) (result : Result (List Instr) CodeError) (f : Fault) (place : ℕ) → IsAnswer code result → result ≡ Err (error_of f place)
    → HasFault code f place
fault code result f place h e = fault_of code f place (subst (IsAnswer code) e h)
