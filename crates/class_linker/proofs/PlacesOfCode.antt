-- The instructions of a code that breaks no rule stand in order, and it leads to some of them alone.
use Rattle.std.proofs.Common.{◌≡◌, ℕ, ◌<◌, ◌≤◌, inl, inr, ℤ, pos, List, [], length, refl, sym, ◌∙◌, ap, subst, arith, Some, Err, Ordering, get_or, slice_get}
use Rattle.std.proofs.Common.{SFits, w32, to_z, of_z, negsuc, true, false}
use lib.IntN.{nat_abs}
use lib.Signed.{lt_z}
use Rattle.std.proofs.lemmas.Int.{to_z-of_z}
use Rattle.std.specs.Ordering.{MatchOrdering, nat_cmp, ordering_index}
use Rattle.std.specs.declared.cmp.Ordering.TheVariants.{Less, Equal, Greater}
use Rattle.std.specs.List.{HoldsAt}
use Rattle.std.specs.List.Sorted.{IsNonDecreasingBy, IsBinarySearchResult}
use Rattle.std.proofs.lemmas.Bool.{cases_lt, cases_eq}
use Rattle.std.proofs.lemmas.Cmp.{nat_cmp_total, ranked, tied_itself}
use Rattle.std.proofs.lemmas.Map.Lookups.{exact_unsigned}
use Rattle.std.proofs.lemmas.Option.{slice_get_within, slice_get-get_or, get_or_from_slice_get}
use Rattle.jk_model.specs.declared.class_file.PoolEntry.{PoolEntry}
use Rattle.jk_model.specs.declared.class_file.Code.{Code}
use Rattle.jk_model.specs.declared.class_file.Handler.{Handler}
use Rattle.jk_model.specs.declared.instructions.Instr.{Instr}
use Rattle.jk_model_classes.specs.MemberCode.{BeginsAt, IsGoodHandler}
use Rattle.model_lemmas.proofs.PlacesOfInstrs.{rise, as_many}
use Rattle.jk_model_folders.specs.LinkedClasses.{IsPlaceOf}
use Rattle.class_linker.specs.KnownCodes.{AreInOrder, HasPlace, HasPlaces, IsGoodCode, IsReading, LeadsWithin}

-- ---- Instructions stand in order.

pub in_order : (pool : List PoolEntry) (code : Code) (instrs : List Instr) → IsGoodCode pool code → IsReading code instrs → AreInOrder instrs
in_order pool code instrs good reading = record {
  few = omega (arith, good.decodable.short, as_many 0 code.code instrs reading.decodes);
  rising = rise 0 code.code instrs reading.decodes;
}

-- ---- The search for a place.

ranks : (m n x : ℕ) → m ≤ n → ordering_index (nat_cmp m x) ≤ ordering_index (nat_cmp n x)
ranks m n x le = by (nat_cmp m x) (nat_cmp n x) (ranked m x (nat_cmp m x) refl) (ranked n x (nat_cmp n x) refl)
  where
    by : (r s : Ordering) → MatchOrdering r (m < x) (m ≡ x) (x < m) → MatchOrdering s (n < x) (n ≡ x) (x < n) → ordering_index r ≤ ordering_index s
    by Less s h k = omega arith
    by Equal Less h k = absurd (omega arith)
    by Equal Equal h k = omega arith
    by Equal Greater h k = omega arith
    by Greater Less h k = absurd (omega arith)
    by Greater Equal h k = absurd (omega arith)
    by Greater Greater h k = omega arith

rising_ranks : (instrs : List Instr) (byte : ℕ) → AreInOrder instrs → IsNonDecreasingBy (λ (y : Instr). ordering_index (nat_cmp y.at byte)) instrs
rising_ranks instrs byte order i j d le within =
    let a = get_or instrs i d in
    let b = get_or instrs j d in
    ranks a.at b.at byte (elim (cases_eq i j) [
      | inl same ↦ omega (arith, ap (λ (k : ℕ). (get_or instrs k d).at) same)
      | inr other ↦
          let less : a.at < b.at = order.rising i j a b (omega arith) (slice_get-get_or instrs i d (omega arith)) (slice_get-get_or instrs j d within) in
          omega (arith, less)
    ])

pub found_at : (instrs : List Instr) (byte : ℕ) (n : ℕ) → n < length instrs → HoldsAt (λ (y : Instr). nat_cmp y.at byte ≡ Equal) instrs n
    → IsPlaceOf instrs (pos byte) n
found_at instrs byte n within tie =
    let d : Instr = record { at = 0; op = 0; a = pos 0; b = pos 0; cases = [] } in
    (get_or instrs n d, slice_get-get_or instrs n d within, ap pos (exact_unsigned (get_or instrs n d).at byte (tie d)))

pub never_missed : (instrs : List Instr) (byte k : ℕ) → AreInOrder instrs
    → IsBinarySearchResult (λ (y : Instr). nat_cmp y.at byte) instrs (Err k) → (n : ℕ) → IsPlaceOf instrs (pos byte) n → ⊥
never_missed instrs byte k order found n (i, at, same) =
    let parts = found (rising_ranks instrs byte order) in
    let within : n < length instrs = slice_get_within instrs n i at in
    let here : get_or instrs n i ≡ i = get_or_from_slice_get instrs n i i at in
    let number : i.at ≡ byte = cc in
    let tie : nat_cmp i.at byte ≡ Equal = subst (λ (m : ℕ). nat_cmp m byte ≡ Equal) (sym number) (tied_itself nat_cmp_total byte) in
    elim (cases_lt n k) [
      | inl early ↦
          let less : nat_cmp (get_or instrs n i).at byte ≡ Less = parts.0 n i (omega arith) early in
          let both : Less ≡ Equal = sym less ∙ ap (λ (y : Instr). nat_cmp y.at byte) here ∙ tie in
          cc
      | inr late ↦
          let more : nat_cmp (get_or instrs n i).at byte ≡ Greater = parts.1 n i late within in
          let both : Greater ≡ Equal = sym more ∙ ap (λ (y : Instr). nat_cmp y.at byte) here ∙ tie in
          cc
    ]

-- ---- Where a code leads.

begins : (code : Code) (instrs : List Instr) (place : ℤ) → IsReading code instrs → BeginsAt code place → HasPlace instrs place
begins code instrs place reading (others, decodes, (n, i, at, same)) none =
    none n (i, subst (λ (is : List Instr). slice_get is n ≡ Some i) (sym (reading.only others decodes)) at, same)

pub leads_within : (pool : List PoolEntry) (code : Code) (instrs : List Instr) → IsGoodCode pool code → IsReading code instrs → (k : ℕ) (instr : Instr)
    → slice_get instrs k ≡ Some instr → LeadsWithin instrs instr
leads_within pool code instrs good reading k instr at place leads none =
    good.targets (instrs, reading.decodes, (k, instr, at, (place, leads, λ there. begins code instrs place reading there none)))

pub has_places : (pool : List PoolEntry) (code : Code) (instrs : List Instr) → IsGoodCode pool code → IsReading code instrs → (k : ℕ) (h : Handler)
    → slice_get code.handlers k ≡ Some h → HasPlaces pool code instrs h
has_places pool code instrs good reading k h at = record {
  start = λ none. is (λ g. begins code instrs (pos h.start) reading g.start none);
  end = λ other none. is (λ g. elim g.end [
    | inl there ↦ begins code instrs (pos h.end) reading there none
    | inr e ↦ other e
  ]);
  handler = λ none. is (λ g. begins code instrs (pos h.handler) reading g.place none);
  catch = λ some none. is (λ g. elim g.catch [
    | inl e ↦ some e
    | inr named ↦ none named
  ]);
}
  where
    is : (IsGoodHandler pool code h → ⊥) → ⊥
    is bad = good.handlers instrs reading.decodes (k, h, at, bad)

-- ---- Numbers that are passed on.

nonneg : (z : ℤ) → lt_z z (pos 0) ≡ false → pos (nat_abs z) ≡ z
nonneg (pos n) h = refl
nonneg (negsuc n) h = let never : true ≡ false = h in absurd cc

pub passed_on : (z : ℤ) → SFits w32 z → lt_z (to_z w32 (of_z w32 z)) (pos 0) ≡ false → pos (nat_abs (to_z w32 (of_z w32 z))) ≡ z
passed_on z fits h =
    let same : to_z w32 (of_z w32 z) ≡ z = to_z-of_z w32 z fits in
    ap (λ (x : ℤ). pos (nat_abs x)) same ∙ nonneg z (subst (λ (x : ℤ). lt_z x (pos 0) ≡ false) same h)
