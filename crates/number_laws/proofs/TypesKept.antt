-- After an instruction on numbers the frame holds values of the types that typing leaves.
use Rattle.std.proofs.Common.{◌≡◌, inl, inr, ℕ, zero, suc, ◌+◌, ◌<◌, ℤ, pos, Bool, true, false, not, ◌||◌, ◌==◌, List, [], ◌∷◌, ◌++◌, length, set, get_or, Option, Some, None, slice_get, IsTrue, refl, sym, ap, subst, ◌∙◌, append_assoc, arith}
use Rattle.std.specs.List.{AllByRecursion}
use Rattle.std.specs.Option.{option_map_or}
use Rattle.std.proofs.lemmas.List.{append-nil}
use Rattle.std.proofs.lemmas.List.Sums.{sum_by-cons}
use Rattle.std.proofs.lemmas.Option.{same_Some}
use Rattle.list_lemmas.proofs.EndsOfLists.{one_split}
use Rattle.jk_model.specs.declared.instructions.Instr.{Instr}
use Rattle.jk_model.specs.declared.steps.After.{After}
use Rattle.jk_model.specs.declared.steps.After.TheVariants as Next
use Rattle.jk_model.specs.declared.values.Value.{Value}
use Rattle.jk_model.specs.declared.values.Value.TheVariants as Held
use Rattle.jk_model_classes.specs.declared.records.Link.TheVariants as To
use Rattle.jk_model_classes.specs.MemberCode.{is_jump, is_switch}
use Rattle.jk_model_typing.specs.declared.frames.Demand.{Demand}
use Rattle.jk_model_typing.specs.declared.frames.Demand.TheVariants.{AnyReference}
use Rattle.jk_model_typing.specs.declared.frames.FrameType.{FrameType}
use Rattle.jk_model_typing.specs.declared.frames.VType.{VType}
use Rattle.jk_model_typing.specs.declared.frames.VType.TheVariants.{Unusable, Int, Long, Null, Ref, Fresh, FreshThis}
use Rattle.jk_model_typing.specs.FrameTypes.{IsUsable, slots, slots_of}
use Rattle.jk_model_typing.specs.Groups.{Group, Shape, Always, LoadsLocal, StoresLocal, Takes, Drops, Copies, Swaps, group_of, int, long, takes}
use Rattle.jk_model_typing.specs.Rows.{Does, HasShape, cut, cut_before, with_local}
use Rattle.jk_model_typing.specs.Scopes.{CodeScope, LeadsToLink}
use Rattle.jk_model_typing.specs.Typing.{GoesOnAt, leaves_line}
use Rattle.typing_lemmas.proofs.OneScope.{one_link}
use Rattle.jk_model_frames.specs.Frames.{FrameState}
use Rattle.jk_model_domains.specs.NumberRows.{Calculates, Decides, Exchanges, HasRow, IsConversion, Moves, NumberRow, Pushes, Replaces, UsesLocal, comparisons, copies, drops, exchanges, int_divisions, int_operations, is_load, is_store_of_top, jumps, divides_by_zero, long_divisions, long_operations, long_shifts, place_after, returns, returns_nothing, switches, switch_target, uses_local, value_slots, values_slots, with_value}
use Rattle.jk_model_domains.specs.Objects.{NamedObject}
use Rattle.jk_model_domains.specs.ValueTypes.{EachValueFits, FrameHolds, ValueFits}
use Rattle.number_laws.specs.FrameLaws.{IsTyped}
use Rattle.number_laws.specs.NumberOpcodes.{load_opcodes, store_opcodes, switch_opcodes}
use Rattle.number_laws.proofs.FrameParts.{with_stack, same_index, short_value}
use Rattle.number_laws.proofs.EachOpcode.{each_among, three_ways}
use Rattle.number_laws.proofs.EntriesExchanged.{exchange_kept, takes_kept}
use Rattle.number_laws.proofs.SlotsOfValues.{same_length}
use Rattle.number_laws.proofs.JumpsGoOn.{jump_goes_on, switch_goes_on}
use Rattle.number_laws.proofs.ValuesFit.{end_fits, fits-append, fits-length, fits-slots, long_fits, usable-append, value_at, value_slots-fit}

-- ---- Tables and tests.

-- what holds of each row of a table holds of the row of an opcode
row_holds : {X : Type 0} (P : ℕ → X → Type 0) (rows : List (ℕ × X)) (op : ℕ) (x : X) → AllByRecursion (λ (r : ℕ × X). P r.0 r.1) rows
    → HasRow rows op x → P op x
row_holds {X = X} P rows op x all h = at rows h.0 all h.1 h.2
  where
    at : (rs : List (ℕ × X)) (k : ℕ) → AllByRecursion (λ (r : ℕ × X). P r.0 r.1) rs → k < length rs → get_or rs k (op, x) ≡ (op, x) → P op x
    at [] k each lt e = absurd (omega arith)
    at (r ∷ rs) zero each lt e = let Q : ℕ × X → Type 0 = λ q. P q.0 q.1 in subst Q e each.0
    at (r ∷ rs) (suc k) each lt e = at rs k each.1 (omega arith) e

-- ---- Locals.

module _ (s : CodeScope) (heap : List NamedObject) where
  fits-set : (vs : List Value) (ts : List VType) (n : ℕ) (v : Value) (t : VType) → EachValueFits s heap vs ts → ValueFits s heap v t
      → EachValueFits s heap (set vs n v) (set ts n t)
  fits-set [] [] n v t h k = tt
  fits-set [] (u ∷ ts) n v t h k = absurd h
  fits-set (w ∷ vs) [] n v t h k = absurd h
  fits-set (w ∷ vs) (u ∷ ts) zero v t h k = (k, h.1)
  fits-set (w ∷ vs) (u ∷ ts) (suc n) v t h k = (h.0, fits-set vs ts n v t h.1 k)

  fits-keep : (vs : List Value) (ts : List VType) (n : ℕ) (v : Value) (t : VType) → EachValueFits s heap vs ts → slice_get ts n ≡ Some t
      → ValueFits s heap v t → EachValueFits s heap (set vs n v) ts
  fits-keep [] [] n v t h at k = tt
  fits-keep [] (u ∷ ts) n v t h at k = absurd h
  fits-keep (w ∷ vs) [] n v t h at k = absurd h
  fits-keep (w ∷ vs) (u ∷ ts) zero v t h at k = (subst (ValueFits s heap v) (sym (same_Some u t at)) k, h.1)
  fits-keep (w ∷ vs) (u ∷ ts) (suc n) v t h at k = (h.0, fits-keep vs ts n v t h.1 at k)

  fits-cut : (v : Value) (t : VType) → ValueFits s heap v t → ValueFits s heap v (cut t)
  fits-cut v Unusable h = tt
  fits-cut v Int h = h
  fits-cut v Long h = tt
  fits-cut v Null h = h
  fits-cut v (Ref t) h = h
  fits-cut v (Fresh p) h = h
  fits-cut v FreshThis h = h

  fits-cut_at : (vs : List Value) (ts : List VType) (n : ℕ) (t : VType) → EachValueFits s heap vs ts → slice_get ts n ≡ Some t
      → EachValueFits s heap vs (set ts n (cut t))
  fits-cut_at [] [] n t h at = tt
  fits-cut_at [] (u ∷ ts) n t h at = absurd h
  fits-cut_at (w ∷ vs) [] n t h at = absurd h
  fits-cut_at (w ∷ vs) (u ∷ ts) zero t h at = (fits-cut w t (subst (ValueFits s heap w) (same_Some u t at) h.0), h.1)
  fits-cut_at (w ∷ vs) (u ∷ ts) (suc n) t h at = (h.0, fits-cut_at vs ts n t h.1 at)

  fits-cut_before : (vs : List Value) (ts : List VType) (n : ℕ) → EachValueFits s heap vs ts → EachValueFits s heap vs (cut_before ts n)
  fits-cut_before vs ts zero h = h
  fits-cut_before vs ts (suc n) h = one (slice_get ts n) refl
    where
      one : (o : Option VType) → slice_get ts n ≡ o → EachValueFits s heap vs (option_map_or (λ t. set ts n (cut t)) o ts)
      one None e = h
      one (Some t) e = fits-cut_at vs ts n t h e

  -- a value that isn't long is put into one local
  fits-short : (vs : List Value) (ts : List VType) (n : ℕ) (v : Value) (t : VType) → EachValueFits s heap vs ts → ValueFits s heap v t
      → value_slots v ≡ 1 → EachValueFits s heap (with_value vs n v) (set (cut_before ts n) n t)
  fits-short vs ts n v t h k one =
      let short = short_value vs n v (λ x e. absurd (omega (arith, one, ap value_slots e))) in
      subst (λ (xs : List Value). EachValueFits s heap xs (set (cut_before ts n) n t)) (sym short)
      (fits-set vs (cut_before ts n) n v t (fits-cut_before vs ts n h) k)

  fits-stored : (vs : List Value) (ts : List VType) (n : ℕ) (v : Value) (t : VType) → EachValueFits s heap vs ts → ValueFits s heap v t
      → IsUsable t → EachValueFits s heap (with_value vs n v) (with_local ts n t)
  fits-stored vs ts n v Long h k u =
      let is = long_fits s heap v k in
      let there : EachValueFits s heap (with_value vs n (Held.Long is.0)) (with_local ts n Long) =
      fits-set (set vs n (Held.Long is.0)) (set (cut_before ts n) n Long) (suc n) Held.Unset Unusable
      (fits-set vs (cut_before ts n) n (Held.Long is.0) Long (fits-cut_before vs ts n h) tt) tt in
      subst (λ (x : Value). EachValueFits s heap (with_value vs n x) (with_local ts n Long)) (sym is.1) there
  fits-stored vs ts n v Unusable h k u = absurd u
  fits-stored vs ts n v Int h k u = fits-short vs ts n v Int h k (value_slots-fit s heap v Int k u)
  fits-stored vs ts n v Null h k u = fits-short vs ts n v Null h k (value_slots-fit s heap v Null k u)
  fits-stored vs ts n v (Ref t) h k u = fits-short vs ts n v (Ref t) h k (value_slots-fit s heap v (Ref t) k u)
  fits-stored vs ts n v (Fresh p) h k u = fits-short vs ts n v (Fresh p) h k (value_slots-fit s heap v (Fresh p) k u)
  fits-stored vs ts n v FreshThis h k u = fits-short vs ts n v FreshThis h k (value_slots-fit s heap v FreshThis k u)

-- ---- One instruction.

module _ (s : CodeScope) (heap : List NamedObject) (place : ℕ) (i : Instr) (f g : FrameState) (before after : FrameType)
    (typed : IsTyped s heap place i f before after) where
  does_always : (x : Shape) → group_of i.op ≡ Always x → Does s place x before after
  does_always x e =
      subst (λ (y : Shape). Does s place y before after) (subst (λ (p : Group). HasShape s i p typed.row.shape) e typed.row.shape_is) typed.row.does

  -- by slots, the entries that are taken are as many as their types
  as_many_by_slots : (below old : List VType) (taken pushed : List Value) → before.stack ≡ below ++ old → Replaces f g taken pushed
      → values_slots taken ≡ slots old → length taken ≡ length old
  as_many_by_slots below old taken pushed stack rep same =
      let split = end_fits s heap f.stack below old (subst (EachValueFits s heap f.stack) stack typed.holds.stack) in
      let usable = usable-append below old (subst (AllByRecursion IsUsable) stack typed.sized.usable) in
      let whole : rep.below ++ taken ≡ split.front ++ split.back = sym rep.before ∙ split.whole in
      same_length rep.below taken split.front split.back whole (same ∙ sym (fits-slots s heap split.back old split.back_fits usable.1))
      ∙ fits-length s heap split.back old split.back_fits

  -- What is taken and pushed by a shape that names demands and types.
  record IsPlain (taken pushed : List Value) : Type 0 where
    ds : List Demand
    gives : List VType
    does : Does s place (Takes ds gives) before after
    line : leaves_line i.op ≡ false
    many : length taken ≡ length ds
    fit : EachValueFits s heap pushed gives

  plain : (ds : List Demand) (gives : List VType) (taken pushed : List Value)
      → (group_of i.op ≡ takes ds gives) × (leaves_line i.op ≡ false) → length taken ≡ length ds → EachValueFits s heap pushed gives
      → IsPlain taken pushed
  plain ds gives taken pushed h many fit = record {
    ds = ds;
    gives = gives;
    does = does_always (Takes ds gives) h.0;
    line = h.1;
    many = many;
    fit = fit;
  }

  fit_one : (p : Value) (t : VType) (pushed : List Value) → pushed ≡ p ∷ [] → ValueFits s heap p t → EachValueFits s heap pushed (t ∷ [])
  fit_one p t pushed e h = subst (λ (vs : List Value). EachValueFits s heap vs (t ∷ [])) (sym e) (h, tt)

  -- ---- Constants.

  ldc_plain : (n : ℤ) (pushed : List Value) → i.op ≡ 0x13 → LeadsToLink s i (To.Int n) → pushed ≡ Held.Int n ∷ [] → IsPlain [] pushed
  ldc_plain n pushed op leads e =
      elim (subst (λ (k : ℕ). HasShape s i (group_of k) typed.row.shape) op typed.row.shape_is) [
        | inl h ↦ record {
          ds = [];
          gives = Int ∷ [];
          does = subst (λ (y : Shape). Does s place y before after) h.2 typed.row.does;
          line = ap leaves_line op;
          many = refl;
          fit = fit_one (Held.Int n) Int pushed e tt;
        }
        | inr h ↦ (let same = one_link s i (To.Int n) (To.Text h.0) leads h.1 in absurd cc)
      ]

  ldc2_plain : (n : ℤ) (pushed : List Value) → i.op ≡ 0x14 → pushed ≡ Held.Long n ∷ [] → IsPlain [] pushed
  ldc2_plain n pushed op e =
      let h = subst (λ (k : ℕ). HasShape s i (group_of k) typed.row.shape) op typed.row.shape_is in
      record {
        ds = [];
        gives = Long ∷ [];
        does = subst (λ (y : Shape). Does s place y before after) h.2 typed.row.does;
        line = ap leaves_line op;
        many = refl;
        fit = fit_one (Held.Long n) Long pushed e tt;
      }

  pushes_plain : (pushed : List Value) → Pushes s i pushed → IsPlain [] pushed
  pushes_plain pushed (inl h) =
      plain [] [] [] pushed (ap group_of h.0, ap leaves_line h.0) refl (subst (λ (vs : List Value). EachValueFits s heap vs []) (sym h.1) tt)
  pushes_plain pushed (inr (inl h)) =
      plain [] (Null ∷ []) [] pushed (ap group_of h.0, ap leaves_line h.0) refl (fit_one Held.Null Null pushed h.1 tt)
  pushes_plain pushed (inr (inr (inl h))) =
      plain [] (Int ∷ []) [] pushed (ap group_of h.0, ap leaves_line h.0) refl (fit_one (Held.Int i.a) Int pushed h.1 tt)
  pushes_plain pushed (inr (inr (inr (inl h)))) =
      plain [] (Long ∷ []) [] pushed (ap group_of h.0, ap leaves_line h.0) refl (fit_one (Held.Long i.a) Long pushed h.1 tt)
  pushes_plain pushed (inr (inr (inr (inr (inl h))))) = ldc_plain h.1.0 pushed h.0 h.1.1 h.1.2
  pushes_plain pushed (inr (inr (inr (inr (inr h))))) = ldc2_plain h.1.0 pushed h.0 h.1.2

  -- ---- Arithmetic.

  converts_plain : (v w : Value) (taken pushed : List Value) → IsConversion i.op v w → taken ≡ v ∷ [] → pushed ≡ w ∷ [] → IsPlain taken pushed
  converts_plain (Held.Int x) w taken pushed h et ep = elim h [
    | inl a ↦ plain (int ∷ []) (Int ∷ []) taken pushed (ap group_of a.0, ap leaves_line a.0) (ap length et)
        (fit_one _ Int pushed (ep ∙ ap (λ (z : Value). z ∷ []) a.1) tt)
    | inr (inl a) ↦ plain (int ∷ []) (Long ∷ []) taken pushed (ap group_of a.0, ap leaves_line a.0) (ap length et)
        (fit_one _ Long pushed (ep ∙ ap (λ (z : Value). z ∷ []) a.1) tt)
    | inr (inr (inl a)) ↦ plain (int ∷ []) (Int ∷ []) taken pushed (ap group_of a.0, ap leaves_line a.0) (ap length et)
        (fit_one _ Int pushed (ep ∙ ap (λ (z : Value). z ∷ []) a.1) tt)
    | inr (inr (inr (inl a))) ↦ plain (int ∷ []) (Int ∷ []) taken pushed (ap group_of a.0, ap leaves_line a.0) (ap length et)
        (fit_one _ Int pushed (ep ∙ ap (λ (z : Value). z ∷ []) a.1) tt)
    | inr (inr (inr (inr a))) ↦ plain (int ∷ []) (Int ∷ []) taken pushed (ap group_of a.0, ap leaves_line a.0) (ap length et)
        (fit_one _ Int pushed (ep ∙ ap (λ (z : Value). z ∷ []) a.1) tt)
  ]
  converts_plain (Held.Long x) w taken pushed h et ep = elim h [
    | inl a ↦ plain (long ∷ []) (Long ∷ []) taken pushed (ap group_of a.0, ap leaves_line a.0) (ap length et)
        (fit_one _ Long pushed (ep ∙ ap (λ (z : Value). z ∷ []) a.1) tt)
    | inr a ↦ plain (long ∷ []) (Int ∷ []) taken pushed (ap group_of a.0, ap leaves_line a.0) (ap length et)
        (fit_one _ Int pushed (ep ∙ ap (λ (z : Value). z ∷ []) a.1) tt)
  ]
  converts_plain Held.Null w taken pushed h et ep = absurd h
  converts_plain (Held.Obj a) w taken pushed h et ep = absurd h
  converts_plain (Held.Cap k) w taken pushed h et ep = absurd h
  converts_plain Held.Unset w taken pushed h et ep = absurd h

  calculates_plain : (taken pushed : List Value) → Calculates i.op taken pushed → IsPlain taken pushed
  calculates_plain taken pushed (inl h) =
      plain (int ∷ int ∷ []) (Int ∷ []) taken pushed
      (row_holds (λ op x. (group_of op ≡ takes (int ∷ int ∷ []) (Int ∷ [])) × (leaves_line op ≡ false)) int_operations i.op h.0 (
        (refl, refl),
        (
          (refl, refl),
          (
            (refl, refl),
            (
              (refl, refl),
              (
                (refl, refl),
                (
                  (refl, refl),
                  (
                    (refl, refl),
                    (
                      (refl, refl),
                      ((refl, refl), tt),
                    ),
                  ),
                ),
              ),
            ),
          ),
        ),
      ) h.3) (ap length h.4) (fit_one _ Int pushed h.5 tt)
  calculates_plain taken pushed (inr (inl h)) =
      plain (int ∷ int ∷ []) (Int ∷ []) taken pushed
      (row_holds (λ op x. (group_of op ≡ takes (int ∷ int ∷ []) (Int ∷ [])) × (leaves_line op ≡ false)) int_divisions i.op h.0
      ((refl, refl), ((refl, refl), tt)) h.3) (ap length h.5) (fit_one _ Int pushed h.6 tt)
  calculates_plain taken pushed (inr (inr (inl h))) =
      plain (long ∷ long ∷ []) (Long ∷ []) taken pushed
      (row_holds (λ op x. (group_of op ≡ takes (long ∷ long ∷ []) (Long ∷ [])) × (leaves_line op ≡ false)) long_operations i.op h.0
      ((refl, refl), ((refl, refl), ((refl, refl), ((refl, refl), ((refl, refl), ((refl, refl), tt)))))) h.3) (ap length h.4) (fit_one _ Long pushed h.5 tt)
  calculates_plain taken pushed (inr (inr (inr (inl h)))) =
      plain (long ∷ long ∷ []) (Long ∷ []) taken pushed
      (row_holds (λ op x. (group_of op ≡ takes (long ∷ long ∷ []) (Long ∷ [])) × (leaves_line op ≡ false)) long_divisions i.op h.0
      ((refl, refl), ((refl, refl), tt)) h.3) (ap length h.5) (fit_one _ Long pushed h.6 tt)
  calculates_plain taken pushed (inr (inr (inr (inr (inl h))))) =
      plain (long ∷ int ∷ []) (Long ∷ []) taken pushed
      (row_holds (λ op x. (group_of op ≡ takes (long ∷ int ∷ []) (Long ∷ [])) × (leaves_line op ≡ false)) long_shifts i.op h.0
      ((refl, refl), ((refl, refl), ((refl, refl), tt))) h.3) (ap length h.4) (fit_one _ Long pushed h.5 tt)
  calculates_plain taken pushed (inr (inr (inr (inr (inr (inl h)))))) =
      plain (long ∷ long ∷ []) (Int ∷ []) taken pushed (ap group_of h.2, ap leaves_line h.2) (ap length h.3) (fit_one _ Int pushed h.4 tt)
  calculates_plain taken pushed (inr (inr (inr (inr (inr (inr h)))))) = converts_plain h.0 h.1 taken pushed h.2 h.3 h.4

  -- ---- The operand stack.

  drops_kept : (n : ℕ) (taken pushed : List Value) → group_of i.op ≡ Always (Drops n) → values_slots taken ≡ n → pushed ≡ []
      → Replaces f g taken pushed → FrameHolds s heap g after
  drops_kept n taken pushed e same none rep =
      let does = does_always (Drops n) e in
      exchange_kept s heap place f g before after typed.holds does.0 does.1 [] taken pushed does.2
      (ap (λ (t : FrameType). t.stack) does.4 ∙ sym (append-nil does.0))
      (ap (λ (t : FrameType). t.locals) does.4) rep (as_many_by_slots does.0 does.1 taken pushed does.2 rep (same ∙ sym does.3))
      (λ h. subst (λ (vs : List Value). EachValueFits s heap vs []) (sym none) tt)

  copies_kept : (m n : ℕ) (skipped copied taken pushed : List Value) → group_of i.op ≡ Always (Copies m n) → values_slots skipped ≡ m
      → values_slots copied ≡ n → taken ≡ skipped ++ copied → pushed ≡ copied ++ skipped ++ copied → Replaces f g taken pushed
      → FrameHolds s heap g after
  copies_kept m n skipped copied taken pushed e em en et ep rep =
      let does = does_always (Copies m n) e in
      let stack : before.stack ≡ does.0 ++ (does.1 ++ does.2) = does.3 ∙ append_assoc does.0 does.1 does.2 in
      let now : after.stack ≡ does.0 ++ (does.2 ++ does.1 ++ does.2) =
      ap (λ (t : FrameType). t.stack) does.6 ∙ ap (λ (ts : List VType). ts ++ does.2) (append_assoc does.0 does.2 does.1)
      ∙ append_assoc does.0 (does.2 ++ does.1) does.2 in
      let sums : values_slots taken ≡ slots (does.1 ++ does.2) =
      ap values_slots et ∙ value_sums skipped copied ∙ ap (λ (k : ℕ). k + values_slots copied) (em ∙ sym does.4)
      ∙ ap (λ (k : ℕ). slots does.1 + k) (en ∙ sym does.5) ∙ sym (type_sums does.1 does.2) in
      exchange_kept s heap place f g before after typed.holds does.0 (does.1 ++ does.2) (does.2 ++ does.1 ++ does.2) taken pushed stack now
      (ap (λ (t : FrameType). t.locals) does.6) rep
      (as_many_by_slots does.0 (does.1 ++ does.2) taken pushed stack rep sums)
      (λ h. copied_fit does.0 does.1 does.2 stack h (em ∙ sym does.4) (en ∙ sym does.5))
    where
      value_sums : (a b : List Value) → values_slots (a ++ b) ≡ values_slots a + values_slots b
      value_sums [] b = omega arith
      value_sums (v ∷ a) b = omega (arith, value_sums a b, sum_by-cons value_slots v (a ++ b), sum_by-cons value_slots v a)

      type_sums : (a b : List VType) → slots (a ++ b) ≡ slots a + slots b
      type_sums [] b = omega arith
      type_sums (v ∷ a) b = omega (arith, type_sums a b, sum_by-cons slots_of v (a ++ b), sum_by-cons slots_of v a)

      copied_fit : (below : List VType) (between top : List VType) → before.stack ≡ below ++ (between ++ top)
          → EachValueFits s heap taken (between ++ top) → values_slots skipped ≡ slots between → values_slots copied ≡ slots top
          → EachValueFits s heap pushed (top ++ between ++ top)
      copied_fit below between top stack h low high =
          let split = end_fits s heap taken between top h in
          let usable = usable-append below (between ++ top) (subst (AllByRecursion IsUsable) stack typed.sized.usable) in
          let parts = usable-append between top usable.1 in
          let whole : skipped ++ copied ≡ split.front ++ split.back = sym et ∙ split.whole in
          let many = same_length skipped copied split.front split.back whole (high ∙ sym (fits-slots s heap split.back top split.back_fits parts.1)) in
          let both = one_split skipped split.front copied split.back whole many in
          let first : EachValueFits s heap skipped between = subst (λ (vs : List Value). EachValueFits s heap vs between) (sym both.0) split.front_fits in
          let second : EachValueFits s heap copied top = subst (λ (vs : List Value). EachValueFits s heap vs top) (sym both.1) split.back_fits in
          subst (λ (vs : List Value). EachValueFits s heap vs (top ++ between ++ top)) (sym ep)
          (fits-append s heap (copied ++ skipped) copied (top ++ between) top (fits-append s heap copied skipped top between second first) second)

  swap_kept : (v w : Value) (taken pushed : List Value) → group_of i.op ≡ Always Swaps → taken ≡ v ∷ w ∷ [] → pushed ≡ w ∷ v ∷ []
      → Replaces f g taken pushed → FrameHolds s heap g after
  swap_kept v w taken pushed e et ep rep =
      let does = does_always Swaps e in
      exchange_kept s heap place f g before after typed.holds does.0 (does.1 ∷ does.2 ∷ []) (does.2 ∷ does.1 ∷ []) taken pushed does.3
      (ap (λ (t : FrameType). t.stack) does.6)
      (ap (λ (t : FrameType). t.locals) does.6) rep (ap length et)
      (λ h. let two = subst (λ (vs : List Value). EachValueFits s heap vs (does.1 ∷ does.2 ∷ [])) et h in
      subst (λ (vs : List Value). EachValueFits s heap vs (does.2 ∷ does.1 ∷ [])) (sym ep) (two.1.0, (two.0, tt)))

  moves_kept : (taken pushed : List Value) → Moves i.op taken pushed → Replaces f g taken pushed
      → FrameHolds s heap g after × (leaves_line i.op ≡ false)
  moves_kept taken pushed (inl h) rep =
      let row = row_holds (λ op n. (group_of op ≡ Always (Drops n)) × (leaves_line op ≡ false)) drops i.op h.0 ((refl, refl), ((refl, refl), tt)) h.1 in
      (drops_kept h.0 taken pushed row.0 h.2 h.3 rep, row.1)
  moves_kept taken pushed (inr (inl h)) rep =
      let row = row_holds (λ op (p : ℕ × ℕ). (group_of op ≡ Always (Copies p.0 p.1)) × (leaves_line op ≡ false)) copies i.op (h.0, h.1) (
        (refl, refl),
        ((refl, refl), ((refl, refl), ((refl, refl), ((refl, refl), ((refl, refl), tt))))),
      ) h.4 in
      (copies_kept h.0 h.1 h.2 h.3 taken pushed row.0 h.5 h.6 h.7 h.8 rep, row.1)
  moves_kept taken pushed (inr (inr h)) rep =
      (swap_kept h.1.0 h.1.1 taken pushed (ap group_of h.0) h.1.4 h.1.5 rep, ap leaves_line h.0)

  plain_kept : (taken pushed : List Value) → IsPlain taken pushed → Replaces f g taken pushed
      → FrameHolds s heap g after × (leaves_line i.op ≡ false)
  plain_kept taken pushed h rep = (takes_kept s heap place f g before after typed.holds h.ds h.gives taken pushed h.does rep h.many h.fit, h.line)

  exchanges_kept : (taken pushed : List Value) → Exchanges s i taken pushed → Replaces f g taken pushed
      → FrameHolds s heap g after × (leaves_line i.op ≡ false)
  exchanges_kept taken pushed (inl h) rep =
      plain_kept taken pushed (subst (λ (vs : List Value). IsPlain vs pushed) (sym h.0) (pushes_plain pushed h.1)) rep
  exchanges_kept taken pushed (inr (inl h)) rep = moves_kept taken pushed h rep
  exchanges_kept taken pushed (inr (inr h)) rep = plain_kept taken pushed (calculates_plain taken pushed h) rep

  -- ---- Locals.

  load_kept : (n : ℕ) (v : Value) → IsTrue (is_load i.op) → i.a ≡ pos n → slice_get f.locals n ≡ Some v
      → g ≡ with_stack f (f.stack ++ v ∷ []) → FrameHolds s heap g after × (leaves_line i.op ≡ false)
  load_kept n v op a at e =
      let among = three_ways (i.op == 0x15) (i.op == 0x16) (i.op == 0x19) op in
      let row = each_among (λ (k : ℕ). (d : Demand) × (group_of k ≡ LoadsLocal d) × (leaves_line k ≡ false)) load_opcodes i.op
      ((_, refl, refl), ((_, refl, refl), ((_, refl, refl), tt))) among in
      let is = subst (λ (p : Group). HasShape s i p typed.row.shape) row.1 typed.row.shape_is in
      let does = subst (λ (y : Shape). Does s place y before after) is.2 typed.row.does in
      let same = same_index i.a is.0 n is.1 a in
      let there : slice_get before.locals n ≡ Some does.0 = subst (λ (k : ℕ). slice_get before.locals k ≡ Some does.0) same does.1 in
      let local = value_at s heap f.locals before.locals n does.0 typed.holds.locals there in
      let value : ValueFits s heap v does.0 =
      subst (λ (x : Value). ValueFits s heap x does.0) (same_Some local.value v (sym local.at ∙ at)) local.fits in
      let new : EachValueFits s heap (f.stack ++ v ∷ []) (before.stack ++ does.0 ∷ []) =
      fits-append s heap f.stack (v ∷ []) before.stack (does.0 ∷ []) typed.holds.stack (value, tt) in
      let kept : FrameHolds s heap (with_stack f (f.stack ++ v ∷ [])) after = record {
        locals = subst (EachValueFits s heap f.locals) (sym (ap (λ (t : FrameType). t.locals) does.3)) typed.holds.locals;
        stack = subst (EachValueFits s heap (f.stack ++ v ∷ [])) (sym (ap (λ (t : FrameType). t.stack) does.3)) new;
      } in
      (subst (λ (x : FrameState). FrameHolds s heap x after) (sym e) kept, row.2)

  store_kept : (n : ℕ) (v : Value) (below : List Value) → IsTrue (is_store_of_top i.op) → i.a ≡ pos n → f.stack ≡ below ++ v ∷ []
      → g ≡ (let x : FrameState = record f { locals = with_value f.locals n v; stack = below } in x)
      → FrameHolds s heap g after × (leaves_line i.op ≡ false)
  store_kept n v below op a stack e =
      let among = three_ways (i.op == 0x36) (i.op == 0x37) (i.op == 0x3a) op in
      let row = each_among (λ (k : ℕ). (d : Demand) × (group_of k ≡ StoresLocal d) × (leaves_line k ≡ false)) store_opcodes i.op
      ((_, refl, refl), ((_, refl, refl), ((_, refl, refl), tt))) among in
      let is = subst (λ (p : Group). HasShape s i p typed.row.shape) row.1 typed.row.shape_is in
      let does = subst (λ (y : Shape). Does s place y before after) is.2 typed.row.does in
      let same = same_index i.a is.0 n is.1 a in
      let split = end_fits s heap f.stack does.0 (does.1 ∷ []) (subst (EachValueFits s heap f.stack) does.2 typed.holds.stack) in
      let usable = usable-append does.0 (does.1 ∷ []) (subst (AllByRecursion IsUsable) does.2 typed.sized.usable) in
      let both = one_split below split.front (v ∷ []) split.back (sym stack ∙ split.whole)
      (sym (fits-length s heap split.back (does.1 ∷ []) split.back_fits)) in
      let value : EachValueFits s heap (v ∷ []) (does.1 ∷ []) =
      subst (λ (vs : List Value). EachValueFits s heap vs (does.1 ∷ [])) (sym both.1) split.back_fits in
      let low : EachValueFits s heap below does.0 = subst (λ (vs : List Value). EachValueFits s heap vs does.0) (sym both.0) split.front_fits in
      let locals = fits-stored s heap f.locals before.locals n v does.1 typed.holds.locals value.0 usable.1.0 in
      let now : with_local before.locals n does.1 ≡ after.locals =
      ap (λ (k : ℕ). with_local before.locals k does.1) (sym same) ∙ sym (ap (λ (t : FrameType). t.locals) does.5) in
      let kept : FrameHolds s heap (let x : FrameState = record f { locals = with_value f.locals n v; stack = below } in x) after = record {
        locals = subst (EachValueFits s heap (with_value f.locals n v)) now locals;
        stack = subst (EachValueFits s heap below) (sym (ap (λ (t : FrameType). t.stack) does.5)) low;
      } in
      (subst (λ (x : FrameState). FrameHolds s heap x after) (sym e) kept, row.2)

  increment_kept : (n : ℕ) (r : ℤ) → i.op ≡ 0x84 → i.a ≡ pos n
      → g ≡ (let x : FrameState = record f { locals = set f.locals n (Held.Int r) } in x)
      → FrameHolds s heap g after × (leaves_line i.op ≡ false)
  increment_kept n r op a e =
      let is = subst (λ (k : ℕ). HasShape s i (group_of k) typed.row.shape) op typed.row.shape_is in
      let does = subst (λ (y : Shape). Does s place y before after) is.2 typed.row.does in
      let same = same_index i.a is.0 n is.1 a in
      let there : slice_get before.locals n ≡ Some Int = subst (λ (k : ℕ). slice_get before.locals k ≡ Some Int) same does.0 in
      let kept : FrameHolds s heap (let x : FrameState = record f { locals = set f.locals n (Held.Int r) } in x) before = record {
        locals = fits-keep s heap f.locals before.locals n (Held.Int r) Int typed.holds.locals there tt;
        stack = typed.holds.stack;
      } in
      (subst (λ (x : FrameState). FrameHolds s heap x after) (sym e) (subst (FrameHolds s heap _) (sym does.1) kept), ap leaves_line op)

  locals_kept : UsesLocal i f g → FrameHolds s heap g after × (leaves_line i.op ≡ false)
  locals_kept (inl h) = load_kept h.0 h.1 h.2 h.3 h.4 h.5
  locals_kept (inr (inl h)) = store_kept h.0 h.1 h.2 h.3 h.4 h.5 h.7
  locals_kept (inr (inr h)) = increment_kept h.0 _ h.2 h.3 h.5

  -- ---- Jumps.

  goes : (next : ℕ) (holds : Bool) → leaves_line i.op ≡ false → IsTrue (is_jump i.op) → place_after place holds i.a ≡ pos next
      → GoesOnAt place i (pos next)
  goes next true line jump at = subst (GoesOnAt place i) at (jump_goes_on place i jump)
  goes next false line jump at = inl (ap not line, sym at)

  jump_kept : (ds : List Demand) (taken : List Value) (next : ℕ) (holds : Bool)
      → (group_of i.op ≡ takes ds []) × (leaves_line i.op ≡ false) × IsTrue (is_jump i.op) → length taken ≡ length ds
      → Replaces f g taken [] → place_after place holds i.a ≡ pos next → FrameHolds s heap g after × GoesOnAt place i (pos next)
  jump_kept ds taken next holds h many rep at =
      (takes_kept s heap place f g before after typed.holds ds [] taken [] (does_always (Takes ds []) h.0) rep many tt, goes next holds h.1 h.2 at)

  jumps_kept : (taken : List Value) (holds : Bool) (next : ℕ) → Decides i.op taken holds → Replaces f g taken []
      → place_after place holds i.a ≡ pos next → FrameHolds s heap g after × GoesOnAt place i (pos next)
  jumps_kept taken holds next (inl h) rep at =
      let P : ℕ → Type 0 = λ op. (group_of op ≡ takes (int ∷ []) []) × (leaves_line op ≡ false) × IsTrue (is_jump op) in
      let row = row_holds (λ p x. P (0x99 + p)) comparisons h.0 h.1 (
        (refl, refl, refl),
        (
          (refl, refl, refl),
          (
            (refl, refl, refl),
            ((refl, refl, refl), ((refl, refl, refl), ((refl, refl, refl), tt))),
          ),
        ),
      ) h.3 in
      jump_kept (int ∷ []) taken next holds (subst P (sym h.4) row) (ap length h.5) rep at
  jumps_kept taken holds next (inr (inl h)) rep at =
      let P : ℕ → Type 0 = λ op. (group_of op ≡ takes (int ∷ int ∷ []) []) × (leaves_line op ≡ false) × IsTrue (is_jump op) in
      let row = row_holds (λ p x. P (0x9f + p)) comparisons h.0 h.1 (
        (refl, refl, refl),
        (
          (refl, refl, refl),
          (
            (refl, refl, refl),
            ((refl, refl, refl), ((refl, refl, refl), ((refl, refl, refl), tt))),
          ),
        ),
      ) h.4 in
      jump_kept (int ∷ int ∷ []) taken next holds (subst P (sym h.5) row) (ap length h.6) rep at
  jumps_kept taken holds next (inr (inr (inl h))) rep at =
      jump_kept (AnyReference ∷ AnyReference ∷ []) taken next holds (ap group_of h.2, ap leaves_line h.2, ap is_jump h.2) (ap length h.3) rep at
  jumps_kept taken holds next (inr (inr (inr (inl h)))) rep at =
      jump_kept (AnyReference ∷ AnyReference ∷ []) taken next holds (ap group_of h.2, ap leaves_line h.2, ap is_jump h.2) (ap length h.3) rep at
  jumps_kept taken holds next (inr (inr (inr (inr (inl h))))) rep at =
      jump_kept (AnyReference ∷ []) taken next holds (ap group_of h.1, ap leaves_line h.1, ap is_jump h.1) (ap length h.2) rep at
  jumps_kept taken holds next (inr (inr (inr (inr (inr (inl h)))))) rep at =
      jump_kept (AnyReference ∷ []) taken next holds (ap group_of h.1, ap leaves_line h.1, ap is_jump h.1) (ap length h.2) rep at
  jumps_kept taken holds next (inr (inr (inr (inr (inr (inr h)))))) rep at =
      let goto : place_after place true i.a ≡ pos next = subst (λ (b : Bool). place_after place b i.a ≡ pos next) h.2 at in (
        takes_kept s heap place f g before after typed.holds [] [] taken [] (does_always (Takes [] []) (ap group_of h.0)) rep (ap length h.1) tt,
        subst (GoesOnAt place i) goto (jump_goes_on place i (ap is_jump h.0)),
      )

  two_ways : (a b : Bool) → IsTrue (a || b) → IsTrue (a || (b || false))
  two_ways true b h = refl
  two_ways false true h = refl
  two_ways false false h = absurd cc

  switch_kept : (key : ℤ) (next : ℕ) → IsTrue (is_switch i.op) → Replaces f g (Held.Int key ∷ []) [] → switch_target i key ≡ pos next
      → FrameHolds s heap g after × GoesOnAt place i (pos next)
  switch_kept key next op rep at =
      let group = each_among (λ (k : ℕ). group_of k ≡ takes (int ∷ []) []) switch_opcodes i.op (refl, (refl, tt))
      (two_ways (i.op == 0xaa) (i.op == 0xab) op) in (
        takes_kept s heap place f g before after typed.holds (int ∷ []) [] (Held.Int key ∷ []) [] (does_always (Takes (int ∷ []) []) group) rep refl tt,
        subst (GoesOnAt place i) at (switch_goes_on place i key op),
      )

  -- ---- All of them.

  on_line : (next : ℕ) (a : After) → a ≡ Next.Goto (place + 1) → a ≡ Next.Goto next → FrameHolds s heap g after × (leaves_line i.op ≡ false)
      → FrameHolds s heap g after × GoesOnAt place i (pos next)
  on_line next a here there h =
      let both : Next.Goto (place + 1) ≡ Next.Goto next = sym here ∙ there in
      let same : place + 1 ≡ next = cc in
      (h.0, inl (ap not h.1, ap pos (sym same)))

  kept : (a : After) → NumberRow s place i f g a → (next : ℕ) → a ≡ Next.Goto next → FrameHolds s heap g after × GoesOnAt place i (pos next)
  kept a (exchanges taken pushed ex rep) next e = on_line next _ refl e (exchanges_kept taken pushed ex rep)
  kept a (uses_local h) next e = on_line next _ refl e (locals_kept h)
  kept a (jumps taken holds n d rep at) next e =
      let same : n ≡ next = cc in
      jumps_kept taken holds next d rep (at ∙ ap pos same)
  kept a (switches key n op rep at) next e =
      let same : n ≡ next = cc in
      switch_kept key next op rep (at ∙ ap pos same)
  kept a (divides_by_zero taken d on same) next e = absurd cc
  kept a (returns v op rep) next e = absurd cc
  kept a (returns_nothing op same) next e = absurd cc

pub rows_kept : (s : CodeScope) (heap : List NamedObject) (place : ℕ) (i : Instr) (f g : FrameState) (before after : FrameType) (next : ℕ)
    → IsTyped s heap place i f before after → NumberRow s place i f g (Next.Goto next)
    → FrameHolds s heap g after × GoesOnAt place i (pos next)
rows_kept s heap place i f g before after next typed row = kept s heap place i f g before after typed (Next.Goto next) row next refl
