-- Units are the descriptor of one type or stop being one at one place: where the part stops that is read last.
use Rattle.std.proofs.Common.{◌≡◌, ℕ, ◌-◌, ◌<◌, ◌≤◌, ◌⊎◌, inl, inr, List, [], ◌∷◌, ◌++◌, length, replicate, refl, sym, ◌∙◌, ap, arith, length-append, append_assoc, take, drop, get_or, subst, Result, Ok, Err, MatchResult}
use Rattle.std.proofs.lemmas.List.{take-append-drop, take_rest}
use Rattle.std.specs.List.{AllByRecursion}
use Rattle.jk_model.specs.declared.descriptors.FieldType.{FieldType}
use Rattle.jk_model.specs.declared.descriptors.MethodType.{MethodType}
use Rattle.jk_model.specs.Descriptors.{IsFieldType, field_text, IsFieldText, method_text, IsMethodText, IsBadFieldText, IsBadMethodText, IsFieldDescriptor, IsMethodDescriptor}
use Rattle.descriptors.specs.declared.error.DescriptorError.{DescriptorError}
use Rattle.descriptors.specs.declared.error.DescriptorError.TheVariants.{BadDescriptor, OutOfMemory}
use Rattle.descriptors.specs.Stops.{IsStuck, StopsAt, IsStop}
use Rattle.descriptors.specs.Names.{IsNameText, IsNameLength}
use Rattle.descriptors.specs.PartTexts.{IsBaseText, IsParamsText, IsResultText, AreDimensions, IsNoLetter, ReadsMethod, ReadsField}
use Rattle.descriptors.specs.TypeOrPlace.{IsFieldAnswer, IsMethodAnswer}
use Rattle.descriptors.proofs.PartStopsTheWhole.{EndsAt, stuck_ends, trailing_ends, one_end}
use Rattle.descriptors.proofs.NoTextBeginsAnother.{stuck_class, stuck_nothing, stuck_unit, stuck_field, params_text, stuck_params, stuck_result, stuck_at_params, stuck_at_result, field_texts_free, method_texts_free, one_field, one_method}

stops_at : (IsText : List ℕ → Type 0) (units front rest : List ℕ) (whole place : ℕ) → units ≡ front ++ rest → length units ≤ whole
    → place ≡ whole - length rest → IsStuck IsText front rest → StopsAt IsText units whole place
stops_at IsText units front rest whole place e le same stuck =
    (front, rest, e, omega (arith, same, ap length e, length-append front rest), stuck)

-- nothing begins here
pub stops_here : (IsText : List ℕ → Type 0) (units : List ℕ) (whole place : ℕ) → length units ≤ whole → place ≡ whole - length units
    → IsStuck IsText [] units → StopsAt IsText units whole place
stops_here IsText units whole place le same stuck = stops_at IsText units [] units whole place refl le same stuck

pub name_stop : (units : List ℕ) (n whole place : ℕ) → IsNameLength units (Err n) → length units ≤ whole
    → place ≡ whole - length (take (length units - n) (drop n units)) → StopsAt IsNameText units whole place
name_stop units n whole place h le same =
    stops_at IsNameText units (take n units) (drop n units) whole place (sym (take-append-drop n units)) le
    (same ∙ ap (λ w. whole - length w) (take_rest units n)) h.1

pub no_letter : (units : List ℕ) → 1 ≤ length units → ((more : List ℕ) → units ≡ 76 ∷ more → ⊥) → IsNoLetter (get_or units 0 0) → IsStuck IsBaseText [] units
no_letter [] len class h = absurd (omega arith)
no_letter (u ∷ units) len class h = stuck_unit u units h (λ e. class units (ap (λ w. w ∷ units) e))

pub no_unit : (units : List ℕ) → length units < 1 → IsStuck IsBaseText [] units
no_unit [] len = stuck_nothing
no_unit (u ∷ units) len = absurd (omega arith)

-- a part stops where one of its parts does
pub whole_stop : (A B : List ℕ → Type 0) (pre units all : List ℕ) (whole : ℕ) (error : DescriptorError) → all ≡ pre ++ units
    → ((front rest : List ℕ) → units ≡ front ++ rest → IsStuck A front rest → IsStuck B (pre ++ front) rest)
    → IsStop A units whole error → IsStop B all whole error
whole_stop A B pre units all whole (BadDescriptor place) e further (front, rest, split, sum, stuck) =
    (pre ++ front, rest, e ∙ ap (λ w. pre ++ w) split ∙ sym (append_assoc pre front rest), sum, further front rest split stuck)
whole_stop A B pre units all whole OutOfMemory e further h = tt

pub class_stop : (units all : List ℕ) (whole place : ℕ) → all ≡ 76 ∷ units → StopsAt IsNameText units whole place
    → StopsAt IsBaseText all whole place
class_stop units all whole place e h =
    whole_stop IsNameText IsBaseText (76 ∷ []) units all whole (BadDescriptor place) e (λ front rest split stuck. stuck_class front rest stuck) h

pub field_stop : (n m : ℕ) (all : List ℕ) (whole : ℕ) (error : DescriptorError) → AreDimensions all n → m ≡ n
    → IsStop IsBaseText (take (length all - m) (drop m all)) whole error → IsStop IsFieldDescriptor all whole error
field_stop n m all whole error (le, short, front, full) same h =
    let split : all ≡ replicate n 91 ++ drop n all = sym (take-append-drop n all) ∙ ap (λ w. w ++ drop n all) front in
    let tail : take (length all - m) (drop m all) ≡ drop n all = take_rest all m ∙ ap (λ k. drop k all) same in
    whole_stop IsBaseText IsFieldDescriptor (replicate n 91) (drop n all) all whole error split
    (λ first rest parts stuck. stuck_field n first rest le (rw parts at full) stuck)
    (subst (λ w. IsStop IsBaseText w whole error) tail h)

pub params_stop : (params : List FieldType) (units all : List ℕ) (whole : ℕ) (error : DescriptorError) → AllByRecursion IsFieldType params
    → all ≡ params_text params ++ units → ((after : List ℕ) → units ≡ 41 ∷ after → ⊥)
    → IsStop IsFieldDescriptor units whole error → IsStop IsParamsText all whole error
params_stop params units all whole error are e unclosed h =
    whole_stop IsFieldDescriptor IsParamsText (params_text params) units all whole error e
    (λ front rest split stuck. stuck_params params front rest are (λ after same. unclosed after (split ∙ same)) stuck)
    h

pub result_stop : (units : List ℕ) (whole : ℕ) (error : DescriptorError) → ((after : List ℕ) → units ≡ 86 ∷ after → ⊥)
    → IsStop IsFieldDescriptor units whole error → IsStop IsResultText units whole error
result_stop units whole error typed h =
    whole_stop IsFieldDescriptor IsResultText [] units units whole error refl
    (λ front rest split stuck. stuck_result front rest (λ after same. typed after (split ∙ same)) stuck)
    h

pub method_params_stop : (units all : List ℕ) (whole : ℕ) (error : DescriptorError) → all ≡ 40 ∷ units → IsStop IsParamsText units whole error
    → IsStop IsMethodDescriptor all whole error
method_params_stop units all whole error e h =
    whole_stop IsParamsText IsMethodDescriptor (40 ∷ []) units all whole error e (λ front rest split stuck. stuck_at_params front rest stuck) h

pub method_result_stop : (params : List FieldType) (units opened all : List ℕ) (whole : ℕ) (error : DescriptorError) → all ≡ 40 ∷ opened
    → AllByRecursion IsFieldType params × (opened ≡ params_text params ++ 41 ∷ units)
    → IsStop IsResultText units whole error → IsStop IsMethodDescriptor all whole error
method_result_stop params units opened all whole error e (are, f) h =
    let split : all ≡ 40 ∷ ((params_text params ++ 41 ∷ []) ++ units) = e ∙ ap (λ w. 40 ∷ w) (f ∙ sym (append_assoc (params_text params) (41 ∷ []) units)) in
    whole_stop IsResultText IsMethodDescriptor (40 ∷ (params_text params ++ 41 ∷ [])) units all whole error split
    (λ front rest parts stuck. stuck_at_result params front rest are stuck)
    h

-- ---- A whole descriptor.

bad_field : (units : List ℕ) (n : ℕ) → EndsAt IsFieldDescriptor units n → IsBadFieldText units n
bad_field units n (never, (le, begins, last)) =
    ((λ t h. never (t, h)), (le, (begins.1.0, begins.0, begins.1.1), λ m low high b. last m low high (b.1, (b.0, b.2))))

field_end : (units : List ℕ) (n : ℕ) → IsBadFieldText units n → EndsAt IsFieldDescriptor units n
field_end units n (never, (le, begins, last)) =
    ((λ t. never t.0 t.1), (le, (begins.1, (begins.0, begins.2)), λ m low high b. last m low high (b.1.0, b.0, b.1.1)))

bad_method : (units : List ℕ) (n : ℕ) → EndsAt IsMethodDescriptor units n → IsBadMethodText units n
bad_method units n (never, (le, begins, last)) =
    ((λ m h. never (m, h)), (le, (begins.1.0, begins.0, begins.1.1), λ m low high b. last m low high (b.1, (b.0, b.2))))

method_end : (units : List ℕ) (n : ℕ) → IsBadMethodText units n → EndsAt IsMethodDescriptor units n
method_end units n (never, (le, begins, last)) =
    ((λ m. never m.0 m.1), (le, (begins.1, (begins.0, begins.2)), λ m low high b. last m low high (b.1.0, b.0, b.1.1)))

stop_end : (IsText : List ℕ → Type 0) (units : List ℕ) (place : ℕ) → StopsAt IsText units (length units) place → EndsAt IsText units place
stop_end IsText units place (front, rest, e, sum, stuck) =
    let long : place ≡ length front = omega (arith, ap length e, length-append front rest) in
    rw (long, e) (stuck_ends IsText front rest stuck)

trailing_end : (IsText : List ℕ → Type 0) (units front rest : List ℕ) → ((a b r s : List ℕ) → IsText a → IsText b → a ++ r ≡ b ++ s → (a ≡ b) × (r ≡ s))
    → IsText front → units ≡ front ++ rest → (rest ≡ [] → ⊥) → EndsAt IsText units (length units - length rest)
trailing_end IsText units front rest free h e some =
    let long : length units - length rest ≡ length front = omega (arith, ap length e, length-append front rest) in
    rw (long, e) (trailing_ends IsText free front rest h some)

pub field_stopped : (units : List ℕ) (error : DescriptorError) → IsStop IsFieldDescriptor units (length units) error → IsFieldAnswer units (Err error)
field_stopped units (BadDescriptor place) h = bad_field units place (stop_end IsFieldDescriptor units place h)
field_stopped units OutOfMemory h = tt

pub field_trailing : (units rest : List ℕ) (t : FieldType) → ReadsField units t rest → (rest ≡ [] → ⊥)
    → IsFieldAnswer units (Err (BadDescriptor (length units - length rest)))
field_trailing units rest t (h, e) some =
    bad_field units (length units - length rest) (trailing_end IsFieldDescriptor units (field_text t) rest field_texts_free (t, (h, refl)) e some)

pub method_stopped : (units : List ℕ) (error : DescriptorError) → IsStop IsMethodDescriptor units (length units) error → IsMethodAnswer units (Err error)
method_stopped units (BadDescriptor place) h = bad_method units place (stop_end IsMethodDescriptor units place h)
method_stopped units OutOfMemory h = tt

pub method_trailing : (units rest : List ℕ) (m : MethodType) → ReadsMethod units m rest → (rest ≡ [] → ⊥)
    → IsMethodAnswer units (Err (BadDescriptor (length units - length rest)))
method_trailing units rest m (h, e) some =
    bad_method units (length units - length rest) (trailing_end IsMethodDescriptor units (method_text m) rest method_texts_free (m, (h, refl)) e some)

-- ---- What one answer says of each type and each place.

pub only_field : (units : List ℕ) (result : Result FieldType DescriptorError) → IsFieldAnswer units result → (t : FieldType) → IsFieldText units t
    → MatchResult result (λ found. found ≡ t) (λ e. e ≡ OutOfMemory)
only_field units (Ok found) h t k = one_field units found t h k
only_field units (Err (BadDescriptor place)) h t k = absurd (h.0 t k)
only_field units (Err OutOfMemory) h t k = refl

pub only_bad_field : (units : List ℕ) (result : Result FieldType DescriptorError) → IsFieldAnswer units result → (n : ℕ) → IsBadFieldText units n
    → MatchResult result (λ _. ⊥) (λ e. (e ≡ BadDescriptor n) ⊎ (e ≡ OutOfMemory))
only_bad_field units (Ok found) h n k = k.0 found h
only_bad_field units (Err (BadDescriptor place)) h n k =
    inl (ap (λ p. BadDescriptor p) (one_end IsFieldDescriptor units place n (field_end units place h) (field_end units n k)))
only_bad_field units (Err OutOfMemory) h n k = inr refl

pub only_method : (units : List ℕ) (result : Result MethodType DescriptorError) → IsMethodAnswer units result → (m : MethodType) → IsMethodText units m
    → MatchResult result (λ found. found ≡ m) (λ e. e ≡ OutOfMemory)
only_method units (Ok found) h m k = one_method units found m h k
only_method units (Err (BadDescriptor place)) h m k = absurd (h.0 m k)
only_method units (Err OutOfMemory) h m k = refl

pub only_bad_method : (units : List ℕ) (result : Result MethodType DescriptorError) → IsMethodAnswer units result → (n : ℕ) → IsBadMethodText units n
    → MatchResult result (λ _. ⊥) (λ e. (e ≡ BadDescriptor n) ⊎ (e ≡ OutOfMemory))
only_bad_method units (Ok found) h n k = k.0 found h
only_bad_method units (Err (BadDescriptor place)) h n k =
    inl (ap (λ p. BadDescriptor p) (one_end IsMethodDescriptor units place n (method_end units place h) (method_end units n k)))
only_bad_method units (Err OutOfMemory) h n k = inr refl
