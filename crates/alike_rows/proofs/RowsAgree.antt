-- Two rows of one instruction in one frame leave one frame, and the same is done after both: kind by kind.
use Rattle.std.proofs.Common.{◌≡◌, ◌≢◌, ℕ, ◌+◌, inl, inr, ℤ, pos, Bool, not, List, [], ◌∷◌, ◌++◌, length, Some, slice_get, refl, sym, ap, subst, ◌∙◌, arith}
use Rattle.std.specs.Prelude.{slice_set}
use Rattle.std.specs.Int.{int_wrapping_add, w32}
use Rattle.std.proofs.lemmas.List.Sums.{sum_by-append}
use Rattle.std.proofs.lemmas.Option.{same_Some}
use Rattle.list_lemmas.proofs.EndsOfLists.{one_split}
use Rattle.jk_model.specs.declared.instructions.Instr.{Instr}
use Rattle.jk_model.specs.declared.opcodes.TheConstants.{IFEQ, IF_ICMPEQ}
use Rattle.jk_model.specs.declared.steps.After.{After}
use Rattle.jk_model.specs.declared.steps.After.TheVariants as Next
use Rattle.jk_model.specs.declared.values.Value.{Value}
use Rattle.jk_model.specs.declared.values.Value.TheVariants.{Int, Long}
use Rattle.jk_model_classes.specs.declared.records.Link.{Link}
use Rattle.jk_model_classes.specs.declared.records.Link.TheVariants as To
use Rattle.jk_model_typing.specs.Scopes.{CodeScope, LeadsToLink}
use Rattle.jk_model_frames.specs.Frames.{FrameState}
use Rattle.jk_model_domains.specs.NumberRows.{HasRow, NumberRow, compared, comparisons, copies, drops, int_divisions, int_operations, is_null, is_same_reference, long_divisions, long_operations, long_shifts, place_after, switch_target, value_slots, values_slots, with_value}
use Rattle.typing_lemmas.proofs.OneScope.{one_link}
use Rattle.number_laws.proofs.FrameParts.{same_index}
use Rattle.number_laws.proofs.SlotsOfValues.{same_length}
use Rattle.alike_rows.proofs.ConversionsAgree.{one_conversion}
use Rattle.alike_rows.proofs.DoneByKind.{Decided, Divided, Done, Exchanged, Refused, row_done}
use Rattle.alike_rows.proofs.FramesReplaced.{on_top, replaced_agree, same_top}
use Rattle.alike_rows.proofs.InstructionKinds.{Kind, NoEntry, NullEntry, IntEntry, LongEntry, IntLink, LongLink, Dropping, Copying, Swapping, OfInts, IntQuotient, OfLongs, LongQuotient, Shifting, Comparing, Converting, Loading, Storing, Counting, JumpOnInt, JumpOnInts, JumpIfSame, JumpIfDifferent, JumpIfNull, JumpIfNoNull, Jumping, Switching, ReturnOfValue, ReturnOfNone, Other, kind_of}
use Rattle.alike_rows.proofs.RowsOfTables.{one_row}

-- ---- Equal entries have equal contents.

one_entry : (v w : Value) (ts us : List Value) → ts ≡ us → ts ≡ v ∷ [] → us ≡ w ∷ [] → v ≡ w
one_entry v w ts us e p q = cc

first_entry : (v w x y : Value) (ts us : List Value) → ts ≡ us → ts ≡ v ∷ w ∷ [] → us ≡ x ∷ y ∷ [] → v ≡ x
first_entry v w x y ts us e p q = cc

second_entry : (v w x y : Value) (ts us : List Value) → ts ≡ us → ts ≡ v ∷ w ∷ [] → us ≡ x ∷ y ∷ [] → w ≡ y
second_entry v w x y ts us e p q = cc

same_int : (m n : ℤ) → Int m ≡ Int n → m ≡ n
same_int m n e = cc

same_long : (m n : ℤ) → Long m ≡ Long n → m ≡ n
same_long m n e = cc

-- one function of equal arguments
applied : {X Y Z : Type 0} (f g : X → Y → Z) (a b : X) (c d : Y) → f ≡ g → a ≡ b → c ≡ d → f a c ≡ g b d
applied f g a b c d e p q = λ j. e j (p j) (q j)

same_int_link : (m n : ℤ) → To.Int m ≡ To.Int n → m ≡ n
same_int_link m n e = cc

same_long_link : (m n : ℤ) → To.Long m ≡ To.Long n → m ≡ n
same_long_link m n e = cc

one : (v w : Value) → v ≡ w → v ∷ [] ≡ w ∷ []
one v w e = ap (λ (x : Value). x ∷ []) e

two : (v w x y : Value) → v ≡ x → w ≡ y → v ∷ w ∷ [] ≡ x ∷ y ∷ []
two v w x y e p = applied (λ (a b : Value). a ∷ b ∷ []) (λ (a b : Value). a ∷ b ∷ []) v x w y refl e p

twice : (a b c d : List Value) → a ≡ c → b ≡ d → b ++ a ++ b ≡ d ++ c ++ d
twice a b c d e p = applied (λ (x y : List Value). y ++ x ++ y) (λ (x y : List Value). y ++ x ++ y) a c b d refl e p

same_left : (x y : ℕ × ℕ) → x ≡ y → x.0 ≡ y.0
same_left x y e = ap (λ (p : ℕ × ℕ). p.0) e

same_right : (x y : ℕ × ℕ) → x ≡ y → x.1 ≡ y.1
same_right x y e = ap (λ (p : ℕ × ℕ). p.1) e

same_place : (op base a b : ℕ) → op ≡ base + a → op ≡ base + b → a ≡ b
same_place op base a b e p = omega arith

module _ (s : CodeScope) (place : ℕ) (i : Instr) (f g h : FrameState) (a b : After) where
  abbrev Agree : Type 0
  Agree = (g ≡ h) × (a ≡ b)

  abbrev AsMany : {X : Type 0} → (List Value → X → Type 0) → Type 0
  AsMany {X} Q = (ts : List Value) (ps : X) (us : List Value) (qs : X) → Q ts ps → Q us qs
      → (below lower : List Value) → below ++ ts ≡ lower ++ us → length ts ≡ length us

  abbrev OneResult : {X : Type 0} → (List Value → X → Type 0) → Type 0
  OneResult {X} Q = (ts : List Value) (ps : X) (us : List Value) (qs : X) → Q ts ps → Q us qs → ts ≡ us → ps ≡ qs

  exchanged : {Q : List Value → List Value → Type 0} → Exchanged s place i f g a Q → Exchanged s place i f h b Q → AsMany Q → OneResult Q → Agree
  exchanged p q many result =
      let long : length p.taken ≡ length q.taken =
      many p.taken p.pushed q.taken q.pushed p.fits q.fits p.replaced.below q.replaced.below (sym p.replaced.before ∙ q.replaced.before) in
      (replaced_agree p.replaced q.replaced long (result p.taken p.pushed q.taken q.pushed p.fits q.fits), p.goes_on ∙ sym q.goes_on)

  decided : {Q : List Value → Bool → Type 0} → Decided s place i f g a Q → Decided s place i f h b Q → AsMany Q → OneResult Q → Agree
  decided p q many result =
      let long : length p.taken ≡ length q.taken =
      many p.taken p.holds q.taken q.holds p.fits q.fits p.replaced.below q.replaced.below (sym p.replaced.before ∙ q.replaced.before) in
      let taken : p.taken ≡ q.taken = same_top f p.taken q.taken (on_top p.replaced) (on_top q.replaced) long in
      let holds : p.holds ≡ q.holds = result p.taken p.holds q.taken q.holds p.fits q.fits taken in
      let next : p.next ≡ q.next =
      same_index (place_after place p.holds i.a) p.next q.next p.target (ap (λ (t : Bool). place_after place t i.a) holds ∙ q.target) in
      (replaced_agree p.replaced q.replaced long (λ e. refl), p.goes_on ∙ ap Next.Goto next ∙ sym q.goes_on)

  -- ---- Quotients.

  abbrev Single : (ℤ → Value) → Type 0
  Single made = (m n : ℤ) → made m ≡ made n → m ≡ n

  abbrev OneRow : List (ℕ × (ℤ → ℤ → ℤ)) → Type 0
  OneRow rows = (o r : ℤ → ℤ → ℤ) → HasRow rows i.op o → HasRow rows i.op r → o ≡ r

  module _ (rows : List (ℕ × (ℤ → ℤ → ℤ))) (made : ℤ → Value) (single : Single made) (row : OneRow rows) where
    -- a quotient isn't had where the divisor is 0
    never_both : (w z : FrameState) (c d : After)
        → (p : Exchanged s place i f w c (λ taken pushed. (o : ℤ → ℤ → ℤ) × (x : ℤ) × (y : ℤ) × HasRow rows i.op o × (y ≢ pos 0)
        × (taken ≡ made x ∷ made y ∷ []) × (pushed ≡ made (o x y) ∷ [])))
        → (q : Refused s place i f z d (λ taken. (o : ℤ → ℤ → ℤ) × (x : ℤ) × HasRow rows i.op o × (taken ≡ made x ∷ made (pos 0) ∷ []))) → ⊥
    never_both w z c d p q =
        let long : length p.taken ≡ length q.taken = ap length p.fits.5 ∙ sym (ap length q.fits.3) in
        let taken : p.taken ≡ q.taken = same_top f p.taken q.taken (on_top p.replaced) q.on_top long in
        p.fits.4 (single p.fits.2 (pos 0)
        (second_entry (made p.fits.1) (made p.fits.2) (made q.fits.1) (made (pos 0)) p.taken q.taken taken p.fits.5 q.fits.3))

    divided : Divided s place i f g a rows made → Divided s place i f h b rows made → Agree
    divided (inl p) (inl q) =
        exchanged p q
        (λ ts ps us qs p q below lower e. ap length p.5 ∙ sym (ap length q.5))
        (λ ts ps us qs p q e. p.6 ∙ ap (λ (z : ℤ). made z ∷ []) (applied p.0 q.0 p.1 q.1 p.2 q.2 (row p.0 q.0 p.3 q.3)
        (single p.1 q.1 (first_entry (made p.1) (made p.2) (made q.1) (made q.2) ts us e p.5 q.5))
        (single p.2 q.2 (second_entry (made p.1) (made p.2) (made q.1) (made q.2) ts us e p.5 q.5))) ∙ sym q.6)
    divided (inl p) (inr q) = absurd (never_both g h a b p q)
    divided (inr p) (inl q) = absurd (never_both h g b a q p)
    divided (inr p) (inr q) = (p.same ∙ sym q.same, p.raised ∙ sym q.raised)

  agree : (k : Kind) → Done s place i f g a k → Done s place i f h b k → Agree
  agree NoEntry p q =
      exchanged p q
      (λ ts ps us qs p q below lower e. ap length p.0 ∙ sym (ap length q.0)) (λ ts ps us qs p q e. p.1 ∙ sym q.1)
  agree NullEntry p q =
      exchanged p q
      (λ ts ps us qs p q below lower e. ap length p.0 ∙ sym (ap length q.0)) (λ ts ps us qs p q e. p.1 ∙ sym q.1)
  agree IntEntry p q =
      exchanged p q
      (λ ts ps us qs p q below lower e. ap length p.0 ∙ sym (ap length q.0)) (λ ts ps us qs p q e. p.1 ∙ sym q.1)
  agree LongEntry p q =
      exchanged p q
      (λ ts ps us qs p q below lower e. ap length p.0 ∙ sym (ap length q.0)) (λ ts ps us qs p q e. p.1 ∙ sym q.1)
  agree IntLink p q =
      exchanged p q
      (λ ts ps us qs p q below lower e. ap length p.0 ∙ sym (ap length q.0))
      (λ ts ps us qs p q e. p.1.2 ∙ ap (λ (n : ℤ). Int n ∷ [])
      (same_int_link p.1.0 q.1.0 (one_link s i (To.Int p.1.0) (To.Int q.1.0) p.1.1 q.1.1)) ∙ sym q.1.2)
  agree LongLink p q =
      exchanged p q
      (λ ts ps us qs p q below lower e. ap length p.0 ∙ sym (ap length q.0))
      (λ ts ps us qs p q e. p.1.2 ∙ ap (λ (n : ℤ). Long n ∷ [])
      (same_long_link p.1.0 q.1.0 (one_link s i (To.Long p.1.0) (To.Long q.1.0) p.1.1 q.1.1)) ∙ sym q.1.2)
  agree Dropping p q =
      exchanged p q
      (λ ts ps us qs p q below lower e. same_length below ts lower us e (p.2 ∙ one_row drops i.op p.0 q.0 refl p.1 q.1 ∙ sym q.2))
      (λ ts ps us qs p q e. p.3 ∙ sym q.3)
  agree Copying p q =
      exchanged p q
      (λ ts ps us qs p q below lower e.
      let same = one_row copies i.op (p.0, p.1) (q.0, q.1) refl p.4 q.4 in
      let low : p.0 ≡ q.0 = same_left (p.0, p.1) (q.0, q.1) same in
      let high : p.1 ≡ q.1 = same_right (p.0, p.1) (q.0, q.1) same in
      let first : values_slots ts ≡ values_slots p.2 + values_slots p.3 = ap values_slots p.7 ∙ sum_by-append value_slots p.2 p.3 in
      let second : values_slots us ≡ values_slots q.2 + values_slots q.3 = ap values_slots q.7 ∙ sum_by-append value_slots q.2 q.3 in
      same_length below ts lower us e (omega (arith, first, second, low, high, p.5, p.6, q.5, q.6)))
      (λ ts ps us qs p q e.
      let same = one_row copies i.op (p.0, p.1) (q.0, q.1) refl p.4 q.4 in
      let slots : values_slots p.3 ≡ values_slots q.3 = p.6 ∙ same_right (p.0, p.1) (q.0, q.1) same ∙ sym q.6 in
      let whole : p.2 ++ p.3 ≡ q.2 ++ q.3 = sym p.7 ∙ e ∙ q.7 in
      let split = one_split p.2 q.2 p.3 q.3 whole (same_length p.2 p.3 q.2 q.3 whole slots) in
      p.8 ∙ twice p.2 p.3 q.2 q.3 split.0 split.1 ∙ sym q.8)
  agree Swapping p q =
      exchanged p q
      (λ ts ps us qs p q below lower e. ap length p.4 ∙ sym (ap length q.4))
      (λ ts ps us qs p q e. p.5 ∙ two p.1 p.0 q.1 q.0 (second_entry p.0 p.1 q.0 q.1 ts us e p.4 q.4)
      (first_entry p.0 p.1 q.0 q.1 ts us e p.4 q.4) ∙ sym q.5)
  agree OfInts p q =
      exchanged p q
      (λ ts ps us qs p q below lower e. ap length p.4 ∙ sym (ap length q.4))
      (λ ts ps us qs p q e. p.5 ∙ ap (λ (z : ℤ). Int z ∷ []) (applied p.0 q.0 p.1 q.1 p.2 q.2 (one_row int_operations i.op p.0 q.0 refl p.3 q.3)
      (same_int p.1 q.1 (first_entry (Int p.1) (Int p.2) (Int q.1) (Int q.2) ts us e p.4 q.4))
      (same_int p.2 q.2 (second_entry (Int p.1) (Int p.2) (Int q.1) (Int q.2) ts us e p.4 q.4))) ∙ sym q.5)
  agree IntQuotient p q = divided int_divisions Int same_int (λ o r x y. one_row int_divisions i.op o r refl x y) p q
  agree OfLongs p q =
      exchanged p q
      (λ ts ps us qs p q below lower e. ap length p.4 ∙ sym (ap length q.4))
      (λ ts ps us qs p q e. p.5 ∙ ap (λ (z : ℤ). Long z ∷ []) (applied p.0 q.0 p.1 q.1 p.2 q.2 (one_row long_operations i.op p.0 q.0 refl p.3 q.3)
      (same_long p.1 q.1 (first_entry (Long p.1) (Long p.2) (Long q.1) (Long q.2) ts us e p.4 q.4))
      (same_long p.2 q.2 (second_entry (Long p.1) (Long p.2) (Long q.1) (Long q.2) ts us e p.4 q.4))) ∙ sym q.5)
  agree LongQuotient p q = divided long_divisions Long same_long (λ o r x y. one_row long_divisions i.op o r refl x y) p q
  agree Shifting p q =
      exchanged p q
      (λ ts ps us qs p q below lower e. ap length p.4 ∙ sym (ap length q.4))
      (λ ts ps us qs p q e. p.5 ∙ ap (λ (z : ℤ). Long z ∷ []) (applied p.0 q.0 p.1 q.1 p.2 q.2 (one_row long_shifts i.op p.0 q.0 refl p.3 q.3)
      (same_long p.1 q.1 (first_entry (Long p.1) (Int p.2) (Long q.1) (Int q.2) ts us e p.4 q.4))
      (same_int p.2 q.2 (second_entry (Long p.1) (Int p.2) (Long q.1) (Int q.2) ts us e p.4 q.4))) ∙ sym q.5)
  agree Comparing p q =
      exchanged p q
      (λ ts ps us qs p q below lower e. ap length p.2 ∙ sym (ap length q.2))
      (λ ts ps us qs p q e. p.3 ∙ ap (λ (z : ℤ). Int z ∷ []) (applied compared compared p.0 q.0 p.1 q.1 refl
      (same_long p.0 q.0 (first_entry (Long p.0) (Long p.1) (Long q.0) (Long q.1) ts us e p.2 q.2))
      (same_long p.1 q.1 (second_entry (Long p.0) (Long p.1) (Long q.0) (Long q.1) ts us e p.2 q.2))) ∙ sym q.3)
  agree Converting p q =
      exchanged p q
      (λ ts ps us qs p q below lower e. ap length p.3 ∙ sym (ap length q.3))
      (λ ts ps us qs p q e. p.4 ∙ one p.1 q.1 (one_conversion i.op p.0 q.0 p.1 q.1 (one_entry p.0 q.0 ts us e p.3 q.3) p.2 q.2) ∙ sym q.4)
  agree Loading p q =
      let n : p.0.0 ≡ q.0.0 = same_index i.a p.0.0 q.0.0 p.0.2 q.0.2 in
      let v : p.0.1 ≡ q.0.1 = same_Some p.0.1 q.0.1 (sym p.0.3 ∙ ap (slice_get f.locals) n ∙ q.0.3) in
      (p.0.4 ∙ ap (λ (w : Value). record f { stack = f.stack ++ w ∷ [] }) v ∙ sym q.0.4, p.1 ∙ sym q.1)
  agree Storing p q =
      let n : p.0.0 ≡ q.0.0 = same_index i.a p.0.0 q.0.0 p.0.3 q.0.3 in
      let split = one_split p.0.2 q.0.2 (p.0.1 ∷ []) (q.0.1 ∷ []) (sym p.0.4 ∙ q.0.4) refl in
      let v : p.0.1 ≡ q.0.1 = one_entry p.0.1 q.0.1 (p.0.1 ∷ []) (q.0.1 ∷ []) split.1 refl refl in
      let low : p.0.2 ≡ q.0.2 = split.0 in
      (p.0.5 ∙ (λ j. record f { locals = with_value f.locals (n j) (v j); stack = low j }) ∙ sym q.0.5, p.1 ∙ sym q.1)
  agree Counting p q =
      let n : p.0.0 ≡ q.0.0 = same_index i.a p.0.0 q.0.0 p.0.2 q.0.2 in
      let x : p.0.1 ≡ q.0.1 = same_int p.0.1 q.0.1 (same_Some (Int p.0.1) (Int q.0.1) (sym p.0.3 ∙ ap (slice_get f.locals) n ∙ q.0.3)) in
      (p.0.4 ∙ (λ j. record f { locals = slice_set f.locals (n j) (Int (int_wrapping_add w32 (x j) i.b)) }) ∙ sym q.0.4, p.1 ∙ sym q.1)
  agree JumpOnInt p q =
      decided p q
      (λ ts ps us qs p q below lower e. ap length p.5 ∙ sym (ap length q.5))
      (λ ts ps us qs p q e. p.6 ∙ applied p.1 q.1 p.2 q.2 (pos 0) (pos 0)
      (one_row comparisons p.0 p.1 q.1 refl p.3 (subst (λ (n : ℕ). HasRow comparisons n q.1) (same_place i.op IFEQ q.0 p.0 q.4 p.4) q.3))
      (same_int p.2 q.2 (one_entry (Int p.2) (Int q.2) ts us e p.5 q.5)) refl ∙ sym q.6)
  agree JumpOnInts p q =
      decided p q
      (λ ts ps us qs p q below lower e. ap length p.6 ∙ sym (ap length q.6))
      (λ ts ps us qs p q e. p.7 ∙ applied p.1 q.1 p.2 q.2 p.3 q.3
      (one_row comparisons p.0 p.1 q.1 refl p.4 (subst (λ (n : ℕ). HasRow comparisons n q.1) (same_place i.op IF_ICMPEQ q.0 p.0 q.5 p.5) q.4))
      (same_int p.2 q.2 (first_entry (Int p.2) (Int p.3) (Int q.2) (Int q.3) ts us e p.6 q.6))
      (same_int p.3 q.3 (second_entry (Int p.2) (Int p.3) (Int q.2) (Int q.3) ts us e p.6 q.6)) ∙ sym q.7)
  agree JumpIfSame p q =
      decided p q
      (λ ts ps us qs p q below lower e. ap length p.2 ∙ sym (ap length q.2))
      (λ ts ps us qs p q e. p.3 ∙ applied is_same_reference is_same_reference p.0 q.0 p.1 q.1 refl
      (first_entry p.0 p.1 q.0 q.1 ts us e p.2 q.2) (second_entry p.0 p.1 q.0 q.1 ts us e p.2 q.2) ∙ sym q.3)
  agree JumpIfDifferent p q =
      decided p q
      (λ ts ps us qs p q below lower e. ap length p.2 ∙ sym (ap length q.2))
      (λ ts ps us qs p q e. p.3 ∙ ap not (applied is_same_reference is_same_reference p.0 q.0 p.1 q.1 refl
      (first_entry p.0 p.1 q.0 q.1 ts us e p.2 q.2) (second_entry p.0 p.1 q.0 q.1 ts us e p.2 q.2)) ∙ sym q.3)
  agree JumpIfNull p q =
      decided p q
      (λ ts ps us qs p q below lower e. ap length p.1 ∙ sym (ap length q.1))
      (λ ts ps us qs p q e. p.2 ∙ ap is_null (one_entry p.0 q.0 ts us e p.1 q.1) ∙ sym q.2)
  agree JumpIfNoNull p q =
      decided p q
      (λ ts ps us qs p q below lower e. ap length p.1 ∙ sym (ap length q.1))
      (λ ts ps us qs p q e. p.2 ∙ ap (λ (v : Value). not (is_null v)) (one_entry p.0 q.0 ts us e p.1 q.1) ∙ sym q.2)
  agree Jumping p q =
      decided p q
      (λ ts ps us qs p q below lower e. ap length p.0 ∙ sym (ap length q.0)) (λ ts ps us qs p q e. p.1 ∙ sym q.1)
  agree Switching p q =
      let taken = same_top f (Int p.0 ∷ []) (Int q.0 ∷ []) (on_top p.2) (on_top q.2) refl in
      let key : p.0 ≡ q.0 = same_int p.0 q.0 (one_entry (Int p.0) (Int q.0) (Int p.0 ∷ []) (Int q.0 ∷ []) taken refl refl) in
      let next : p.1 ≡ q.1 = same_index (switch_target i p.0) p.1 q.1 p.3 (ap (switch_target i) key ∙ q.3) in
      (replaced_agree p.2 q.2 refl (λ e. refl), p.4 ∙ ap Next.Goto next ∙ sym q.4)
  agree ReturnOfValue p q =
      let taken = same_top f (p.0 ∷ []) (q.0 ∷ []) (on_top p.1) (on_top q.1) refl in
      let v : p.0 ≡ q.0 = one_entry p.0 q.0 (p.0 ∷ []) (q.0 ∷ []) taken refl refl in
      (replaced_agree p.1 q.1 refl (λ e. refl), p.2 ∙ ap (λ (w : Value). Next.Return (Some w)) v ∙ sym q.2)
  agree ReturnOfNone p q = (p.0 ∙ sym q.0, p.1 ∙ sym q.1)
  agree Other p q = absurd p

pub rows_agree : (s : CodeScope) (place : ℕ) (i : Instr) (f g h : FrameState) (a b : After) → NumberRow s place i f g a → NumberRow s place i f h b
    → (g ≡ h) × (a ≡ b)
rows_agree s place i f g h a b p q =
    agree s place i f g h a b (kind_of i.op) (row_done s place i f g a p) (row_done s place i f h b q)
