-- The rules that ask of codes alone read one method at a time, and are answered by what its code says.
use Rattle.std.proofs.Common.{◌≡◌, ℕ, zero, suc, ◌+◌, ◌<◌, ◌≤◌, ◌⊎◌, inl, inr, ◌↔◌, false, IsTrue, List, [], ◌∷◌, ◌++◌, length, Option, Some, None, refl, sym, ◌∙◌, ap, subst, arith, length-append}
use Rattle.std.specs.Prelude.{slice_get, Result, Ok, Err, IfOk}
use Rattle.std.proofs.lemmas.Option.{same_Some, none-some, slice_get_cases, slice_get_within, slice_get-get_or, slice_get_read}
use Rattle.std.proofs.Math.ListN.{get_or}
use Rattle.jk_model.specs.declared.class_file.ClassFile.{ClassFile}
use Rattle.jk_model.specs.declared.class_file.MemberInfo.{MemberInfo}
use Rattle.jk_model.specs.declared.class_file.Code.{Code}
use Rattle.jk_model_classes.specs.Items.{MethodAt, Spot, Member, Entry}
use Rattle.jk_model_classes.specs.MemberAttributes.{HasBadAttribute}
use Rattle.jk_model_classes.specs.MemberCode.{CodeAt}
use Rattle.class_rules.specs.Attributes.{HasBadMethodAttributes}
use Rattle.class_rules.specs.CodeRules.{AreJudged, AreMethodsJudged, breaks, IsCodeRuleBroken, BreaksCodeRule, HasWrongMethodCode}
use Rattle.class_rules.specs.MethodCodes.{IsCodeOf, TakesMore, IsMethodJudged}
use Rattle.class_rules.specs.Walks.{BreaksAt, ReadsEach, IsLeastItem}
use Rattle.class_rules.specs.declared.code_rules.CodeRule.{CodeRule}
use Rattle.class_rules.specs.declared.code_rules.CodeRule.TheVariants.{Floats, Subroutines, Monitors, ClassConstants, BadCode}
use Rattle.class_rules.specs.declared.codes.CodeJudgment.{CodeJudgment}
use Rattle.class_rules.proofs.MethodsByFlags.{one_value}

-- ---- One method.

code_at : (c : ClassFile) (n : ℕ) (method : MemberInfo) (code : Code) → MethodAt c n method → IsCodeOf c method code → CodeAt c n code
code_at c n method code at (flags, counted, concrete, body) =
    record { method = method; at = at; flags = flags; counted = counted; concrete = concrete; body = body }

code_of : (c : ClassFile) (n : ℕ) (code : Code) → (h : CodeAt c n code) → IsCodeOf c h.method code
code_of c n code h = (h.flags, h.counted, h.concrete, h.body)

one_method_at : (c : ClassFile) (n : ℕ) (a b : MemberInfo) → MethodAt c n a → MethodAt c n b → a ≡ b
one_method_at c n a b (i, e, at) (j, f, found) =
    let here : i ≡ j = omega arith in
    same_Some a b (sym (subst (λ (k : ℕ). slice_get c.methods k ≡ Some a) here at) ∙ found)

-- ---- Each rule reads one method at a time.

pub wrong_at : (rule : CodeRule) (c : ClassFile) (n : ℕ) (method : MemberInfo) → MethodAt c n method → HasWrongMethodCode rule c method
    → IsCodeRuleBroken rule c (Member n)
wrong_at Floats c n method at (code, of, h) = (code, code_at c n method code at of, h)
wrong_at Subroutines c n method at (code, of, h) = (code, code_at c n method code at of, h)
wrong_at Monitors c n method at (code, of, h) = (code, code_at c n method code at of, h)
wrong_at ClassConstants c n method at (code, of, h) = (code, code_at c n method code at of, h)
wrong_at BadCode c n method at (code, of, inl h) = (code, code_at c n method code at of, inl h)
wrong_at BadCode c n method at (code, of, inr (inl h)) = (code, code_at c n method code at of, inr (inl h))
wrong_at BadCode c n method at (code, of, inr (inr (inl h))) = (code, code_at c n method code at of, inr (inr (inl h)))
wrong_at BadCode c n method at (code, of, inr (inr (inr (flags, counted, (t, text, more))))) =
    (code, code_at c n method code at of, inr (inr (inr (method, flags, t, at, counted, text, more))))

pub its_wrong : (rule : CodeRule) (c : ClassFile) (n : ℕ) → IsCodeRuleBroken rule c (Member n)
    → (method : MemberInfo) × MethodAt c n method × HasWrongMethodCode rule c method
its_wrong Floats c n (code, h, uses) = (h.method, h.at, (code, code_of c n code h, uses))
its_wrong Subroutines c n (code, h, shows) = (h.method, h.at, (code, code_of c n code h, shows))
its_wrong Monitors c n (code, h, shows) = (h.method, h.at, (code, code_of c n code h, shows))
its_wrong ClassConstants c n (code, h, loads) = (h.method, h.at, (code, code_of c n code h, loads))
its_wrong BadCode c n (code, h, inl bad) = (h.method, h.at, (code, code_of c n code h, inl bad))
its_wrong BadCode c n (code, h, inr (inl bad)) = (h.method, h.at, (code, code_of c n code h, inr (inl bad)))
its_wrong BadCode c n (code, h, inr (inr (inl bad))) = (h.method, h.at, (code, code_of c n code h, inr (inr (inl bad))))
its_wrong BadCode c n (code, h, inr (inr (inr (method, flags, t, at, counted, text, more)))) =
    let same : h.method ≡ method = one_method_at c n h.method method h.at at in (
      method,
      at,
      (
        code,
        subst (λ (m : MemberInfo). IsCodeOf c m code) same (code_of c n code h),
        inr (inr (inr (flags, counted, (t, text, more)))),
      ),
    )

abbrev CodesAt : CodeRule → ClassFile → Spot → Type 0
CodesAt rule c spot = BreaksAt c ⊥ (λ field. ⊥) (HasWrongMethodCode rule c) (λ entry. ⊥) spot

codes_broken : (rule : CodeRule) (c : ClassFile) (spot : Spot) → CodesAt rule c spot → IsCodeRuleBroken rule c spot
codes_broken rule c (Member n) (inl (e, never)) = absurd never
codes_broken rule c (Member n) (inr (inl (field, at, never))) = absurd never
codes_broken rule c (Member n) (inr (inr (method, at, h))) = wrong_at rule c n method at h
codes_broken rule c (Entry i) h = absurd h.2

no_entry : (rule : CodeRule) (c : ClassFile) (i : ℕ) → IsCodeRuleBroken rule c (Entry i) → ⊥
no_entry Floats c i h = h
no_entry Subroutines c i h = h
no_entry Monitors c i h = h
no_entry ClassConstants c i h = h
no_entry BadCode c i h = h

codes_only : (rule : CodeRule) (c : ClassFile) (spot : Spot) → IsCodeRuleBroken rule c spot → CodesAt rule c spot
codes_only rule c (Member n) h = inr (inr (its_wrong rule c n h))
codes_only rule c (Entry i) h = absurd (no_entry rule c i h)

pub codes_read_each : (rule : CodeRule) (c : ClassFile) → ReadsEach c ⊥ (λ field. ⊥) (HasWrongMethodCode rule c) (λ entry. ⊥) (IsCodeRuleBroken rule c)
codes_read_each rule c = record { broken = codes_broken rule c; only = codes_only rule c }

-- none of these rules asks anything of the class itself
pub false_is_never : IsTrue false ↔ ⊥
false_is_never = (λ t. absurd cc, λ h. absurd h)

-- ---- What is answered of one method.

of_judgment : (rule : CodeRule) (c : ClassFile) (method : MemberInfo) (j : CodeJudgment) → IsMethodJudged c method (Some j) → IsTrue (breaks rule (Some j))
    → HasWrongMethodCode rule c method
of_judgment Floats c method j (code, of, only, m) t = (code, of, m.judged.has_float.0 t)
of_judgment Subroutines c method j (code, of, only, m) t = (code, of, m.judged.has_subroutine.0 t)
of_judgment Monitors c method j (code, of, only, m) t = (code, of, m.judged.has_monitor.0 t)
of_judgment ClassConstants c method j (code, of, only, m) t = (code, of, m.judged.loads_class.0 t)
of_judgment BadCode c method j (code, of, only, m) t =
    elim (m.judged.is_bad.0 t) [
      | inl h ↦ (code, of, inl h)
      | inr rest ↦ elim rest [
        | inl h ↦ (code, of, inr (inl h))
        | inr last ↦ elim last [
          | inl h ↦ (code, of, inr (inr (inl h)))
          | inr few ↦ (code, of, inr (inr (inr (m.flags, m.counted, m.takes.0 few))))
        ]
      ]
    ]

to_judgment : (rule : CodeRule) (c : ClassFile) (method : MemberInfo) (j : CodeJudgment) → IsMethodJudged c method (Some j)
    → (code : Code) → IsCodeOf c method code → BreaksCodeRule rule c method code → IsTrue (breaks rule (Some j))
to_judgment rule c method j (code, of, only, m) other also h = here rule (subst (BreaksCodeRule rule c method) (sym (only other also)) h)
  where
    here : (rule : CodeRule) → BreaksCodeRule rule c method code → IsTrue (breaks rule (Some j))
    here Floats h = m.judged.has_float.1 h
    here Subroutines h = m.judged.has_subroutine.1 h
    here Monitors h = m.judged.has_monitor.1 h
    here ClassConstants h = m.judged.loads_class.1 h
    here BadCode (inl h) = m.judged.is_bad.1 (inl h)
    here BadCode (inr (inl h)) = m.judged.is_bad.1 (inr (inl h))
    here BadCode (inr (inr (inl h))) = m.judged.is_bad.1 (inr (inr (inl h)))
    here BadCode (inr (inr (inr (flags, counted, (t, text, more))))) =
        let same : flags ≡ m.flags = one_value c.pool method flags m.flags counted m.counted in
        m.judged.is_bad.1
        (inr (inr (inr (m.takes.1 (subst (λ (n : ℕ). TakesMore c.pool n method code.max_locals) same (t, text, more))))))

none_breaks : (rule : CodeRule) → IsTrue (breaks rule None) → ⊥
none_breaks Floats t = absurd cc
none_breaks Subroutines t = absurd cc
none_breaks Monitors t = absurd cc
none_breaks ClassConstants t = absurd cc
none_breaks BadCode t = absurd cc

decided : (rule : CodeRule) (c : ClassFile) (method : MemberInfo) (found : Option CodeJudgment) → IsMethodJudged c method found
    → IsTrue (breaks rule found) ↔ HasWrongMethodCode rule c method
decided rule c method None none = (λ t. absurd (none_breaks rule t), λ (code, of, h). absurd (none code of))
decided rule c method (Some j) judged =
    (λ t. of_judgment rule c method j judged t, λ (code, of, h). to_judgment rule c method j judged code of h)

-- ---- All methods.

not_missing : {X : Type 0} (xs : List X) (i : ℕ) → i < length xs → slice_get xs i ≡ None → ⊥
not_missing xs i within e =
    elim (slice_get_cases xs i).1 [ inl h ↦ none-some h.0 (sym e ∙ h.2) | inr h ↦ omega (arith, h.0) ]

module _ (rule : CodeRule) (c : ClassFile) (judged : List (Option CodeJudgment)) (all : AreMethodsJudged c judged) where
  abbrev Breaks : Option CodeJudgment → Type 0
  Breaks j = IsTrue (breaks rule j)

  method_of : (i : ℕ) (j : Option CodeJudgment) → slice_get judged i ≡ Some j → Breaks j
      → (m : MemberInfo) × (slice_get c.methods i ≡ Some m) × HasWrongMethodCode rule c m
  method_of i j at h = method_at (slice_get c.methods i) refl
    where
      method_at : (found : Option MemberInfo) → slice_get c.methods i ≡ found
          → (m : MemberInfo) × (slice_get c.methods i ≡ Some m) × HasWrongMethodCode rule c m
      method_at None e =
          absurd (not_missing c.methods i (omega (arith, slice_get_within judged i j at, all.long)) e)
      method_at (Some m) e = (m, e, (decided rule c m j (all.at i m j e at)).0 h)

  judged_of : (i : ℕ) (m : MemberInfo) → slice_get c.methods i ≡ Some m → HasWrongMethodCode rule c m
      → (j : Option CodeJudgment) × (slice_get judged i ≡ Some j) × Breaks j
  judged_of i m at h =
      let within : i < length judged = omega (arith, slice_get_within c.methods i m at, all.long) in
      let found = slice_get-get_or judged i None within in
      (get_or judged i None, found, (decided rule c m (get_or judged i None) (all.at i m (get_or judged i None) at found)).1 h)

  pub least_code : (r : Option ℕ) → IsLeastItem Breaks judged r → IsLeastItem (HasWrongMethodCode rule c) c.methods r
  least_code None none = λ (i, m, at, h). let (j, found, b) = judged_of i m at h in none (i, j, found, b)
  least_code (Some n) ((j, at, b), none) = (
    method_of n j at b,
    λ (i, m, below, found, h). let (k, there, d) = judged_of i m found h in none (i, k, below, there, d),
  )

-- ---- Methods judged one after the other.

-- an item of a list with one more at its end
get_append : {X : Type 0} (xs : List X) (y : X) (i : ℕ) (x : X) → slice_get (xs ++ y ∷ []) i ≡ Some x
    → (slice_get xs i ≡ Some x) ⊎ ((i ≡ length xs) × (x ≡ y))
get_append [] y zero x e = inr (refl, sym (same_Some y x e))
get_append [] y (suc i) x e = absurd (none-some x e)
get_append (z ∷ xs) y zero x e = inl e
get_append (z ∷ xs) y (suc i) x e = elim (get_append xs y i x e) [ inl h ↦ inl h | inr h ↦ inr (ap suc h.0, h.1) ]

-- what is answered of the methods before this place
pub record AreJudgedBefore (c : ClassFile) (methods : List MemberInfo) (k : ℕ) (judged : List (Option CodeJudgment)) : Type 0 where
  pub long : length judged ≡ k
  pub at : (i : ℕ) (method : MemberInfo) (found : Option CodeJudgment) → slice_get methods i ≡ Some method → slice_get judged i ≡ Some found
      → IsMethodJudged c method found

pub none_judged : (c : ClassFile) (methods : List MemberInfo) → AreJudgedBefore c methods 0 []
none_judged c methods = record { long = refl; at = λ i method found here there. absurd (none-some found there) }

pub one_more_judged : (c : ClassFile) (methods : List MemberInfo) (k : ℕ) (judged now : List (Option CodeJudgment)) (m : MemberInfo)
    (found : Option CodeJudgment) → now ≡ judged ++ found ∷ [] → k < length methods → m ≡ get_or methods k m → IsMethodJudged c m found
    → AreJudgedBefore c methods k judged → AreJudgedBefore c methods (k + 1) now
one_more_judged c methods k judged now m found e within is h so_far = record {
  long = omega (arith, ap length e, length-append judged (found ∷ []), so_far.long);
  at = λ i method other here there.
      elim (get_append judged found i other (sym (ap (λ (xs : List (Option CodeJudgment)). slice_get xs i) e) ∙ there)) [
        | inl before ↦ so_far.at i method other here before
        | inr last ↦
            let place : k ≡ i = omega (arith, last.0, so_far.long) in
            let there2 : slice_get methods i ≡ Some m =
            subst (λ (n : ℕ). slice_get methods n ≡ Some m) place (slice_get_read methods (length methods) k m refl within is) in
            let same : m ≡ method = same_Some m method (sym there2 ∙ here) in
            subst (IsMethodJudged c method) (sym last.1) (subst (λ (x : MemberInfo). IsMethodJudged c x found) same h)
      ];
}

pub all_judged : (c : ClassFile) (methods : List MemberInfo) (k : ℕ) (judged : List (Option CodeJudgment)) → length methods ≤ k → k ≤ length methods
    → AreJudgedBefore c methods k judged → AreJudged c methods judged
all_judged c methods k judged low high h = record { long = omega (arith, h.long); at = h.at }

pub own_judged : {E : Type 0} (c : ClassFile) (methods : List MemberInfo) (r : Result (List (Option CodeJudgment)) E) → methods ≡ c.methods
    → IfOk r (λ judged. AreJudged c methods judged) → IfOk r (λ judged. AreMethodsJudged c judged)
own_judged c methods (Ok judged) e h = subst (λ (xs : List MemberInfo). AreJudged c xs judged) e h
own_judged c methods (Err error) e h = tt

pub good_method : (c : ClassFile) (methods : List MemberInfo) → methods ≡ c.methods → ((spot : Spot) → HasBadAttribute c spot → ⊥) → (i : ℕ)
    (m : MemberInfo) → slice_get methods i ≡ Some m → HasBadMethodAttributes c m → ⊥
good_method c methods e good i m at bad =
    let there : slice_get c.methods i ≡ Some m = sym (ap (λ (xs : List MemberInfo). slice_get xs i) e) ∙ at in
    good (Member (length c.fields + i + 1)) (inr (inr (m, (i, refl, there), bad)))
