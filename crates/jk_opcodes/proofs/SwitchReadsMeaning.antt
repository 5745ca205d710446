-- A switch is read as its bytes mean: what is read is what they mean, and what they mean is read.
use Rattle.std.proofs.Common.{◌≡◌, ℕ, zero, suc, ◌-◌, ◌^◌, ◌<◌, ◌⊎◌, inl, inr, true, false, List, [], ◌∷◌, ◌++◌, length, map, Option, Some, None, Ok, Err, refl, sym, ap, subst, ◌∙◌, append_assoc, arith}
use Rattle.std.specs.Prelude.{ℤ, pos, negsuc, ◌+ℤ◌, ◌-ℤ◌, ◌≤ℤ◌, ◌<ℤ◌, int_lt}
use Rattle.std.specs.List.{flat_map, AllByRecursion}
use Rattle.std.proofs.lemmas.Bool.{false≢true, cases_Bool, cases_lt, le-ltb}
use Rattle.std.proofs.lemmas.Int.{ints, by_lt_z, to_z_pos}
use Rattle.std.specs.Int.{w32}
use Rattle.jk_model.specs.declared.instructions.Instr.{Instr}
use Rattle.jk_model.specs.declared.instructions.SwitchCase.{SwitchCase}
use Rattle.jk_model.specs.ClassFile.{u4, IsU4}
use Rattle.jk_model.specs.Instructions as def
use Rattle.jk_model.specs.Instructions.{Format, Means, Refuses, gap, signed_int, case_at, table_cases, switch, IsTableSwitch, pair_bytes, IsPair, keys, Rises, IsLookupSwitch, IsBadTable, IsBadCount, IsBadKey}
use Rattle.jk_opcodes.specs.declared.errors.Stop.{Stop}
use Rattle.jk_opcodes.specs.declared.errors.Stop.TheVariants as stops
use Rattle.jk_opcodes.specs.Errors.{stop_of}
use Rattle.jk_opcodes.specs.Reading.{◌>>=◌}
use Rattle.jk_opcodes.specs.Switches.{Cases, filling_at, key_case_at, table_cases_at, nat_of, span, switch_of, table_head_at, table_switch_at, is_above, pair_at, lookup_cases_at, count_at, lookup_head_at, lookup_switch_at}
use Rattle.byte_fields.specs.Layouts.{IsBytes}
use Rattle.byte_fields.specs.OneReading.{bytes_again}
use Rattle.jk_opcodes.proofs.OperandsReadBack.{bytes_cases, int_again, int_cases}
use Rattle.jk_opcodes.proofs.LoopReadsCases.{nat_of_is}
use Rattle.jk_opcodes.proofs.PlainReadsMeaning.{Sound}

-- ---- The filling.

filling_again : (at : ℕ) (filling rest : List ℕ) → length filling ≡ gap at → filling_at at (filling ++ rest) ≡ Ok rest
unfolding filling_at
filling_again at filling rest long = rw (bytes_again (gap at) filling rest long) refl

record Filled (at : ℕ) (after : List ℕ) : Type 0 where
  pub filling : List ℕ
  pub rest : List ℕ
  pub parts : after ≡ filling ++ rest
  pub long : length filling ≡ gap at
  pub rest_fits : IsBytes rest
  pub gives : filling_at at after ≡ Ok rest

filling_cases : (at : ℕ) (after : List ℕ) → IsBytes after → Filled at after ⊎ (filling_at at after ≡ Err stops.CutInstruction)
unfolding filling_at
filling_cases at after fits =
    elim (bytes_cases (gap at) after fits) [
      | inl t ↦ inl record { filling = t.front; rest = t.rest; parts = t.parts; long = t.long; rest_fits = t.rest_fits; gives = rw t.gives refl }
      | inr cut ↦ inr (rw cut refl)
    ]

-- ---- Cases of a tableswitch.

abbrev made : ℕ → ℤ → ℕ → SwitchCase
made at key offset = case_at at key offset

key_case_again : (at : ℕ) (key : ℤ) (offset : ℕ) (rest : List ℕ) → IsU4 offset
    → key_case_at at key (u4 offset ++ rest) ≡ Ok (made at key offset, rest)
unfolding key_case_at
key_case_again at key offset rest fits = rw (int_again offset rest fits) refl

abbrev TableRead : ℕ → ℤ → ℕ → List ℕ → Cases → Type 0
TableRead at key n bytes (Ok x) =
    (offsets : List ℕ) × (bytes ≡ flat_map u4 offsets ++ x.1) × (length offsets ≡ n) × AllByRecursion IsU4 offsets ×
    (x.0 ≡ table_cases at key offsets)
TableRead at key n bytes (Err e) = e ≡ stops.CutInstruction

table_more : (at : ℕ) (key : ℤ) (n offset : ℕ) (rest : List ℕ) (r : Cases) → IsU4 offset → TableRead at (key +ℤ pos 1) n rest r
    → TableRead at key (suc n) (u4 offset ++ rest) (r >>= λ more. Ok (made at key offset ∷ more.0, more.1))
table_more at key n offset rest (Ok x) fits (offsets, parts, long, all, says) = (
  offset ∷ offsets,
  rw parts (sym (append_assoc (u4 offset) (flat_map u4 offsets) x.1)),
  ap suc long,
  (fits, all),
  ap (λ (cs : List SwitchCase). made at key offset ∷ cs) says,
)
table_more at key n offset rest (Err e) fits h = h

table_sound : (at : ℕ) (key : ℤ) (n : ℕ) (bytes : List ℕ) → IsBytes bytes → TableRead at key n bytes (table_cases_at at key n bytes)
unfolding table_cases_at key_case_at
table_sound at key zero bytes fits = ([], refl, refl, tt, refl)
table_sound at key (suc n) bytes fits =
    elim (int_cases bytes fits) [
      | inr cut ↦ rw cut refl
      | inl x ↦
          rw x.gives (subst (λ (bs : List ℕ). TableRead at key (suc n) bs
          (table_cases_at at (key +ℤ pos 1) n x.rest >>= λ more. Ok (made at key x.number ∷ more.0, more.1))) (sym x.parts)
          (table_more at key n x.number x.rest (table_cases_at at (key +ℤ pos 1) n x.rest) x.fits (table_sound at (key +ℤ pos 1) n x.rest x.rest_fits)))
    ]

table_again : (at : ℕ) (key : ℤ) (offsets rest : List ℕ) → AllByRecursion IsU4 offsets
    → table_cases_at at key (length offsets) (flat_map u4 offsets ++ rest) ≡ Ok (table_cases at key offsets, rest)
unfolding table_cases_at
table_again at key [] rest all = refl
table_again at key (offset ∷ offsets) rest all =
    ap (table_cases_at at key (suc (length offsets))) (append_assoc (u4 offset) (flat_map u4 offsets) rest)
    ∙ rw (key_case_again at key offset (flat_map u4 offsets ++ rest) all.0, table_again at (key +ℤ pos 1) offsets rest all.1) refl

-- ---- Signed tests.

int_lt_true : (a b : ℤ) → a <ℤ b → int_lt a b ≡ true
int_lt_true a b h = grind (arith, ints)

int_lt_false : (a b : ℤ) → b ≤ℤ a → int_lt a b ≡ false
int_lt_false a b h = grind (arith, ints)

int_cases_lt : (a b : ℤ) → (a <ℤ b) ⊎ (b ≤ℤ a)
int_cases_lt a b = by_lt_z a b (λ h. inl h) (λ h. inr h)

-- ---- tableswitch.

four_parts : (after a r b s c t d u : List ℕ) → after ≡ a ++ r → r ≡ b ++ s → s ≡ c ++ t → t ≡ d ++ u → after ≡ a ++ b ++ c ++ d ++ u
four_parts after a r b s c t d u e1 e2 e3 e4 = rw (e1, e2, e3, e4) (simp append_assoc)

table_end : (at op : ℕ) (after filling rest : List ℕ) (default low high : ℕ) (r : Cases) → after ≡ filling ++ u4 default ++ u4 low ++ u4 high ++ rest
    → length filling ≡ gap at
    → IsU4 default → IsU4 low → IsU4 high → signed_int low ≤ℤ signed_int high
    → TableRead at (signed_int low) (span (signed_int low) (signed_int high)) rest r
    → Sound Format.TableSwitch at op after (r >>= λ c. Ok (switch_of at op (signed_int default) c.0, c.1))
table_end at op after filling rest default low high (Ok x) layout filled dfits lfits hfits order (offsets, parts, long, all, says) =
    let keys_fit = nat_of_is (signed_int high -ℤ signed_int low) (omega (arith, ints)) in (
      filling ++ u4 default ++ u4 low ++ u4 high ++ flat_map u4 offsets,
      record {
        filling = filling;
        default = default;
        low = low;
        high = high;
        offsets = offsets;
        layout = refl;
        filled = filled;
        numbers = (dfits, lfits, hfits, all);
        order = order;
        count = omega (arith, ints);
        says = ap (λ (cs : List SwitchCase). switch_of at op (signed_int default) cs) says;
      },
      layout ∙ rw parts (simp append_assoc),
    )
table_end at op after filling rest default low high (Err e) layout filled dfits lfits hfits order h = rw h tt

pub table_switch_sound : (at op : ℕ) (after : List ℕ) → IsBytes after → Sound Format.TableSwitch at op after (table_switch_at at op after)
unfolding table_switch_at table_head_at
table_switch_sound at op after fits =
    elim (filling_cases at after fits) [
      | inr cut ↦ rw cut tt
      | inl f ↦ elim (int_cases f.rest f.rest_fits) [
        | inr cut ↦ rw (f.gives, cut) tt
        | inl d ↦ elim (int_cases d.rest d.rest_fits) [
          | inr cut ↦ rw (f.gives, d.gives, cut) tt
          | inl l ↦ elim (int_cases l.rest l.rest_fits) [
            | inr cut ↦ rw (f.gives, d.gives, l.gives, cut) tt
            | inl h ↦
                let layout = four_parts after f.filling f.rest (u4 d.number) d.rest (u4 l.number) l.rest (u4 h.number) h.rest f.parts d.parts l.parts h.parts in
                elim (int_cases_lt (signed_int h.number) (signed_int l.number)) [
                  | inl above ↦ rw (f.gives, d.gives, l.gives, h.gives, int_lt_true _ _ above) (
                    record {
                      filling = f.filling;
                      default = d.number;
                      low = l.number;
                      high = h.number;
                      more = h.rest;
                      layout = layout;
                      filled = f.long;
                      numbers = (d.fits, l.fits, h.fits);
                      order = above;
                    },
                    refl,
                  )
                  | inr order ↦ rw (f.gives, d.gives, l.gives, h.gives, int_lt_false _ _ order)
                      (table_end at op after f.filling h.rest d.number l.number h.number
                      (table_cases_at at (signed_int l.number) (span (signed_int l.number) (signed_int h.number)) h.rest) layout f.long d.fits l.fits
                      h.fits order
                      (table_sound at (signed_int l.number) (span (signed_int l.number) (signed_int h.number)) h.rest h.rest_fits))
                ]
          ]
        ]
      ]
    ]

pub table_switch_again : (at op : ℕ) (front rest : List ℕ) (i : Instr) → Means Format.TableSwitch at op front i
    → table_switch_at at op (front ++ rest) ≡ Ok (i, rest)
unfolding table_switch_at table_head_at
table_switch_again at op front rest i h =
    let whole : front ++ rest ≡ h.filling ++ (u4 h.default ++ (u4 h.low ++ (u4 h.high ++ (flat_map u4 h.offsets ++ rest)))) =
    rw h.layout (simp append_assoc) in
    let keys_fit = nat_of_is (signed_int h.high -ℤ signed_int h.low) (omega (arith, ints, h.order)) in
    let many : span (signed_int h.low) (signed_int h.high) ≡ length h.offsets = omega (arith, ints, h.count) in
    ap (table_switch_at at op) whole
    ∙ rw (
      filling_again at h.filling (u4 h.default ++ (u4 h.low ++ (u4 h.high ++ (flat_map u4 h.offsets ++ rest)))) h.filled,
      int_again h.default (u4 h.low ++ (u4 h.high ++ (flat_map u4 h.offsets ++ rest))) h.numbers.0,
      int_again h.low (u4 h.high ++ (flat_map u4 h.offsets ++ rest)) h.numbers.1,
      int_again h.high (flat_map u4 h.offsets ++ rest) h.numbers.2,
      int_lt_false (signed_int h.high) (signed_int h.low) h.order,
      many,
      table_again at (signed_int h.low) h.offsets rest h.numbers.3,
      h.says,
    ) refl

pub table_switch_refused : (at op : ℕ) (after : List ℕ) (f : def.Fault) → Refuses Format.TableSwitch at after f
    → table_switch_at at op after ≡ Err (stop_of f)
unfolding table_switch_at table_head_at
table_switch_refused at op after f (h, e) =
    let whole : after ≡ h.filling ++ (u4 h.default ++ (u4 h.low ++ (u4 h.high ++ h.more))) = rw h.layout (simp append_assoc) in
    ap (table_switch_at at op) whole
    ∙ rw (
      filling_again at h.filling (u4 h.default ++ (u4 h.low ++ (u4 h.high ++ h.more))) h.filled,
      int_again h.default (u4 h.low ++ (u4 h.high ++ h.more)) h.numbers.0,
      int_again h.low (u4 h.high ++ h.more) h.numbers.1,
      int_again h.high h.more h.numbers.2,
      int_lt_true (signed_int h.high) (signed_int h.low) h.order,
      e,
    ) refl

-- ---- Pairs of a lookupswitch.

-- the keys after one that was read before
abbrev after_key : Option ℤ → List ℤ → List ℤ
after_key None ks = ks
after_key (Some k) ks = k ∷ ks

rises_more : (before : Option ℤ) (key : ℤ) (ks : List ℤ) → is_above before key ≡ true → Rises (key ∷ ks) → Rises (after_key before (key ∷ ks))
rises_more None key ks above h = h
rises_more (Some k) key ks above h = elim (int_cases_lt k key) [ inl lt ↦ (lt, h) | inr le ↦ absurd (false≢true (sym (int_lt_false k key le) ∙ above)) ]

rises_first : (before : Option ℤ) (key : ℤ) (ks : List ℤ) → Rises (after_key before (key ∷ ks))
    → (is_above before key ≡ true) × Rises (key ∷ ks)
rises_first None key ks h = (refl, h)
rises_first (Some k) key ks h = (int_lt_true k key h.0, h.1)

abbrev pairs_cases : ℕ → List (ℕ × ℕ) → List SwitchCase
pairs_cases at pairs = map (λ p. made at (signed_int p.0) p.1) pairs

-- a key that doesn't rise above those before it
record Falls (before : Option ℤ) (n : ℕ) (bytes : List ℕ) : Type 0 where
  pub pairs : List (ℕ × ℕ)
  pub key : ℕ
  pub more : List ℕ
  pub parts : bytes ≡ flat_map pair_bytes pairs ++ u4 key ++ more
  pub all : AllByRecursion IsPair pairs
  pub fits : IsU4 key
  pub within : length pairs < n
  pub falls : Rises (after_key before (keys pairs ++ signed_int key ∷ [])) → ⊥

abbrev LookupStop : Option ℤ → ℕ → List ℕ → Stop → Type 0
LookupStop before n bytes stops.CutInstruction = Unit {0}
LookupStop before n bytes stops.BadSwitch = Falls before n bytes
LookupStop before n bytes stops.IllegalOpcode = ⊥
LookupStop before n bytes stops.BadOperand = ⊥
LookupStop before n bytes stops.FloatOpcode = ⊥
LookupStop before n bytes stops.Subroutine = ⊥
LookupStop before n bytes stops.Monitor = ⊥

abbrev LookupRead : ℕ → Option ℤ → ℕ → List ℕ → Cases → Type 0
LookupRead at before n bytes (Ok x) =
    (pairs : List (ℕ × ℕ)) × (bytes ≡ flat_map pair_bytes pairs ++ x.1) × (length pairs ≡ n) × AllByRecursion IsPair pairs × Rises
    (after_key before (keys pairs)) × (x.0 ≡ pairs_cases at pairs)
LookupRead at before n bytes (Err stop) = LookupStop before n bytes stop

lookup_more : (at : ℕ) (before : Option ℤ) (n key offset : ℕ) (rest : List ℕ) (r : Cases) → is_above before (signed_int key) ≡ true → IsU4 key
    → IsU4 offset → LookupRead at (Some (signed_int key)) n rest r
    → LookupRead at before (suc n) (u4 key ++ (u4 offset ++ rest)) (r >>= λ more. Ok (made at (signed_int key) offset ∷ more.0, more.1))
lookup_more at before n key offset rest (Ok x) above kfits ofits (pairs, parts, long, all, rises, says) = (
  (key, offset) ∷ pairs,
  rw parts (simp append_assoc),
  ap suc long,
  ((kfits, ofits), all),
  rises_more before (signed_int key) (keys pairs) above rises,
  ap (λ (cs : List SwitchCase). made at (signed_int key) offset ∷ cs) says,
)
lookup_more at before n key offset rest (Err stops.CutInstruction) above kfits ofits h = tt
lookup_more at before n key offset rest (Err stops.BadSwitch) above kfits ofits h =
    record {
      pairs = (key, offset) ∷ h.pairs;
      key = h.key;
      more = h.more;
      parts = rw h.parts (simp append_assoc);
      all = ((kfits, ofits), h.all);
      fits = h.fits;
      within = omega (arith, h.within);
      falls = λ rises. h.falls (rises_first before (signed_int key) (keys h.pairs ++ signed_int h.key ∷ []) rises).1;
    }
lookup_more at before n key offset rest (Err stops.IllegalOpcode) above kfits ofits h = h
lookup_more at before n key offset rest (Err stops.BadOperand) above kfits ofits h = h
lookup_more at before n key offset rest (Err stops.FloatOpcode) above kfits ofits h = h
lookup_more at before n key offset rest (Err stops.Subroutine) above kfits ofits h = h
lookup_more at before n key offset rest (Err stops.Monitor) above kfits ofits h = h

lookup_sound : (at : ℕ) (before : Option ℤ) (n : ℕ) (bytes : List ℕ) → IsBytes bytes
    → LookupRead at before n bytes (lookup_cases_at at before n bytes)
unfolding lookup_cases_at pair_at key_case_at
lookup_sound at None zero bytes fits = ([], refl, refl, tt, tt, refl)
lookup_sound at (Some k) zero bytes fits = ([], refl, refl, tt, tt, refl)
lookup_sound at before (suc n) bytes fits =
    elim (int_cases bytes fits) [
      | inr cut ↦ rw cut tt
      | inl k ↦ elim (cases_Bool (is_above before (signed_int k.number))) [
        | inr fails ↦ rw (k.gives, fails)
            record {
              pairs = [];
              key = k.number;
              more = k.rest;
              parts = k.parts;
              all = tt;
              fits = k.fits;
              within = omega arith;
              falls = λ rises. false≢true (sym fails ∙ (rises_first before (signed_int k.number) [] rises).0);
            }
        | inl above ↦ elim (int_cases k.rest k.rest_fits) [
          | inr cut ↦ rw (k.gives, above, cut) tt
          | inl o ↦ rw (k.gives, above, o.gives)
              (subst (λ (bs : List ℕ). LookupRead at before (suc n) bs
              (lookup_cases_at at (Some (signed_int k.number)) n o.rest >>= λ more. Ok (made at (signed_int k.number) o.number ∷ more.0, more.1)))
              (sym (k.parts ∙ ap (λ (bs : List ℕ). u4 k.number ++ bs) o.parts))
              (lookup_more at before n k.number o.number o.rest (lookup_cases_at at (Some (signed_int k.number)) n o.rest) above k.fits o.fits
              (lookup_sound at (Some (signed_int k.number)) n o.rest o.rest_fits)))
        ]
      ]
    ]

pair_again : (at : ℕ) (before : Option ℤ) (key offset : ℕ) (rest : List ℕ) → is_above before (signed_int key) ≡ true → IsU4 key → IsU4 offset
    → pair_at at before (u4 key ++ (u4 offset ++ rest)) ≡ Ok (made at (signed_int key) offset, rest)
unfolding pair_at
pair_again at before key offset rest above kfits ofits =
    rw (int_again key (u4 offset ++ rest) kfits, above, key_case_again at (signed_int key) offset rest ofits) refl

lookup_again : (at : ℕ) (before : Option ℤ) (pairs : List (ℕ × ℕ)) (rest : List ℕ) → AllByRecursion IsPair pairs
    → Rises (after_key before (keys pairs))
    → lookup_cases_at at before (length pairs) (flat_map pair_bytes pairs ++ rest) ≡ Ok (pairs_cases at pairs, rest)
unfolding lookup_cases_at
lookup_again at before [] rest all rises = refl
lookup_again at before (p ∷ pairs) rest all rises =
    let first = rises_first before (signed_int p.0) (keys pairs) rises in
    let whole : flat_map pair_bytes (p ∷ pairs) ++ rest ≡ u4 p.0 ++ (u4 p.1 ++ (flat_map pair_bytes pairs ++ rest)) = simp append_assoc in
    ap (lookup_cases_at at before (suc (length pairs))) whole
    ∙ rw (
      pair_again at before p.0 p.1 (flat_map pair_bytes pairs ++ rest) first.0 all.0.0 all.0.1,
      lookup_again at (Some (signed_int p.0)) pairs rest all.1 first.1,
    ) refl

key_refused : (at : ℕ) (before : Option ℤ) (key : ℕ) (rest : List ℕ) → IsU4 key → is_above before (signed_int key) ≡ false
    → pair_at at before (u4 key ++ rest) ≡ Err stops.BadSwitch
unfolding pair_at
key_refused at before key rest fits fails = rw (int_again key rest fits, fails) refl

lookup_refused : (at : ℕ) (before : Option ℤ) (n : ℕ) (pairs : List (ℕ × ℕ)) (key : ℕ) (more : List ℕ) → AllByRecursion IsPair pairs
    → IsU4 key
    → length pairs < n
    → (Rises (after_key before (keys pairs ++ signed_int key ∷ [])) → ⊥)
    → lookup_cases_at at before n (flat_map pair_bytes pairs ++ (u4 key ++ more)) ≡ Err stops.BadSwitch
unfolding lookup_cases_at
lookup_refused at before zero pairs key more all fits within falls = absurd (omega arith)
lookup_refused at before (suc n) [] key more all fits within falls =
    elim (cases_Bool (is_above before (signed_int key))) [
      | inl above ↦ absurd (falls (rises_more before (signed_int key) [] above tt))
      | inr fails ↦ rw (key_refused at before key more fits fails) refl
    ]
lookup_refused at before (suc n) (p ∷ pairs) key more all fits within falls =
    let whole : flat_map pair_bytes (p ∷ pairs) ++ (u4 key ++ more) ≡ u4 p.0 ++ (u4 p.1 ++ (flat_map pair_bytes pairs ++ (u4 key ++ more))) =
    simp append_assoc in
    ap (lookup_cases_at at before (suc n)) whole
    ∙ elim (cases_Bool (is_above before (signed_int p.0))) [
      | inr fails ↦ rw (key_refused at before p.0 (u4 p.1 ++ (flat_map pair_bytes pairs ++ (u4 key ++ more))) all.0.0 fails) refl
      | inl above ↦ rw (
        pair_again at before p.0 p.1 (flat_map pair_bytes pairs ++ (u4 key ++ more)) above all.0.0 all.0.1,
        lookup_refused at (Some (signed_int p.0)) n pairs key more all.1 fits (omega arith)
            (λ rises. falls (rises_more before (signed_int p.0) (keys pairs ++ signed_int key ∷ []) above rises)),
      ) refl
    ]

-- ---- lookupswitch.

count_yes : (z : ℤ) → pos 0 ≤ℤ z → count_at z ≡ Ok (nat_of z)
count_yes (pos n) h = refl
count_yes (negsuc n) h = absurd (omega (arith, ints))

count_no : (z : ℤ) → z <ℤ pos 0 → count_at z ≡ Err stops.BadSwitch
count_no (pos n) h = absurd (omega (arith, ints))
count_no (negsuc n) h = refl

three_parts : (after a r b s c t : List ℕ) → after ≡ a ++ r → r ≡ b ++ s → s ≡ c ++ t → after ≡ a ++ b ++ c ++ t
three_parts after a r b s c t e1 e2 e3 = rw (e1, e2, e3) (simp append_assoc)

-- a number that is not negative is its own signed number
signed_is : (n : ℕ) → IsU4 n → pos 0 ≤ℤ signed_int n → nat_of (signed_int n) ≡ n
signed_is n fits h =
    elim (cases_lt n (2 ^ 31)) [
      | inl lt ↦ rw (to_z_pos w32 n lt) refl
      | inr le ↦
          let negative : signed_int n ≡ negsuc (2 ^ 32 - suc n) = rw (le-ltb n (2 ^ 31) le) refl in
          absurd (omega (arith, ints))
    ]

lookup_end : (at op : ℕ) (after filling rest : List ℕ) (default count : ℕ) (r : Cases) → after ≡ filling ++ u4 default ++ u4 count ++ rest
    → length filling ≡ gap at
    → IsU4 default → IsU4 count → pos 0 ≤ℤ signed_int count → LookupRead at None (nat_of (signed_int count)) rest r
    → Sound Format.LookupSwitch at op after (r >>= λ c. Ok (switch_of at op (signed_int default) c.0, c.1))
lookup_end at op after filling rest default count (Ok x) layout filled dfits cfits order (pairs, parts, long, all, rises, says) =
    let many : count ≡ length pairs = sym (signed_is count cfits order) ∙ sym long in (
      filling ++ u4 default ++ u4 (length pairs) ++ flat_map pair_bytes pairs,
      record {
        filling = filling;
        default = default;
        pairs = pairs;
        layout = refl;
        filled = filled;
        numbers = (dfits, subst IsU4 many cfits, all);
        count = subst (λ (n : ℕ). pos 0 ≤ℤ signed_int n) many order;
        rising = rises;
        says = ap (λ (cs : List SwitchCase). switch_of at op (signed_int default) cs) says;
      },
      layout ∙ rw (parts, sym many) (simp append_assoc),
    )
lookup_end at op after filling rest default count (Err stops.CutInstruction) layout filled dfits cfits order h = tt
lookup_end at op after filling rest default count (Err stops.BadSwitch) layout filled dfits cfits order h =
    let is_count = nat_of_is (signed_int count) order in (
      inr record {
        filling = filling;
        default = default;
        count = count;
        pairs = h.pairs;
        key = h.key;
        more = h.more;
        layout = layout ∙ rw h.parts (simp append_assoc);
        filled = filled;
        numbers = (dfits, cfits, h.all, h.fits);
        within = omega (arith, ints, h.within);
        falls = h.falls;
      },
      refl,
    )
lookup_end at op after filling rest default count (Err stops.IllegalOpcode) layout filled dfits cfits order h = absurd h
lookup_end at op after filling rest default count (Err stops.BadOperand) layout filled dfits cfits order h = absurd h
lookup_end at op after filling rest default count (Err stops.FloatOpcode) layout filled dfits cfits order h = absurd h
lookup_end at op after filling rest default count (Err stops.Subroutine) layout filled dfits cfits order h = absurd h
lookup_end at op after filling rest default count (Err stops.Monitor) layout filled dfits cfits order h = absurd h

pub lookup_switch_sound : (at op : ℕ) (after : List ℕ) → IsBytes after → Sound Format.LookupSwitch at op after (lookup_switch_at at op after)
unfolding lookup_switch_at lookup_head_at
lookup_switch_sound at op after fits =
    elim (filling_cases at after fits) [
      | inr cut ↦ rw cut tt
      | inl f ↦ elim (int_cases f.rest f.rest_fits) [
        | inr cut ↦ rw (f.gives, cut) tt
        | inl d ↦ elim (int_cases d.rest d.rest_fits) [
          | inr cut ↦ rw (f.gives, d.gives, cut) tt
          | inl n ↦
              let layout = three_parts after f.filling f.rest (u4 d.number) d.rest (u4 n.number) n.rest f.parts d.parts n.parts in
              elim (int_cases_lt (signed_int n.number) (pos 0)) [
                | inl negative ↦ rw (f.gives, d.gives, n.gives, count_no _ negative) (
                  inl record {
                    filling = f.filling;
                    default = d.number;
                    count = n.number;
                    more = n.rest;
                    layout = layout;
                    filled = f.long;
                    numbers = (d.fits, n.fits);
                    negative = negative;
                  },
                  refl,
                )
                | inr order ↦ rw (f.gives, d.gives, n.gives, count_yes _ order)
                    (lookup_end at op after f.filling n.rest d.number n.number (lookup_cases_at at None (nat_of (signed_int n.number)) n.rest) layout f.long
                    d.fits n.fits order
                    (lookup_sound at None (nat_of (signed_int n.number)) n.rest n.rest_fits))
              ]
        ]
      ]
    ]

pub lookup_switch_again : (at op : ℕ) (front rest : List ℕ) (i : Instr) → Means Format.LookupSwitch at op front i
    → lookup_switch_at at op (front ++ rest) ≡ Ok (i, rest)
unfolding lookup_switch_at lookup_head_at
lookup_switch_again at op front rest i h =
    let whole : front ++ rest ≡ h.filling ++ (u4 h.default ++ (u4 (length h.pairs) ++ (flat_map pair_bytes h.pairs ++ rest))) =
    rw h.layout (simp append_assoc) in
    ap (lookup_switch_at at op) whole
    ∙ rw (
      filling_again at h.filling (u4 h.default ++ (u4 (length h.pairs) ++ (flat_map pair_bytes h.pairs ++ rest))) h.filled,
      int_again h.default (u4 (length h.pairs) ++ (flat_map pair_bytes h.pairs ++ rest)) h.numbers.0,
      int_again (length h.pairs) (flat_map pair_bytes h.pairs ++ rest) h.numbers.1,
      count_yes (signed_int (length h.pairs)) h.count,
      signed_is (length h.pairs) h.numbers.1 h.count,
      lookup_again at None h.pairs rest h.numbers.2 h.rising,
      h.says,
    ) refl

bad_count_refused : (at op : ℕ) (after : List ℕ) → IsBadCount at after → lookup_switch_at at op after ≡ Err stops.BadSwitch
unfolding lookup_switch_at lookup_head_at
bad_count_refused at op after h =
    let whole : after ≡ h.filling ++ (u4 h.default ++ (u4 h.count ++ h.more)) = rw h.layout (simp append_assoc) in
    ap (lookup_switch_at at op) whole
    ∙ rw (
      filling_again at h.filling (u4 h.default ++ (u4 h.count ++ h.more)) h.filled,
      int_again h.default (u4 h.count ++ h.more) h.numbers.0,
      int_again h.count h.more h.numbers.1,
      count_no (signed_int h.count) h.negative,
    ) refl

bad_key_refused : (at op : ℕ) (after : List ℕ) → IsBadKey at after → lookup_switch_at at op after ≡ Err stops.BadSwitch
unfolding lookup_switch_at lookup_head_at
bad_key_refused at op after h =
    let whole : after ≡ h.filling ++ (u4 h.default ++ (u4 h.count ++ (flat_map pair_bytes h.pairs ++ (u4 h.key ++ h.more)))) =
    rw h.layout (simp append_assoc) in
    let order : pos 0 ≤ℤ signed_int h.count = omega (arith, ints, h.within) in
    let is_count = nat_of_is (signed_int h.count) order in
    ap (lookup_switch_at at op) whole
    ∙ rw (
      filling_again at h.filling (u4 h.default ++ (u4 h.count ++ (flat_map pair_bytes h.pairs ++ (u4 h.key ++ h.more)))) h.filled,
      int_again h.default (u4 h.count ++ (flat_map pair_bytes h.pairs ++ (u4 h.key ++ h.more))) h.numbers.0,
      int_again h.count (flat_map pair_bytes h.pairs ++ (u4 h.key ++ h.more)) h.numbers.1,
      count_yes (signed_int h.count) order,
      lookup_refused at None (nat_of (signed_int h.count)) h.pairs h.key h.more h.numbers.2 h.numbers.3 (omega (arith, ints, h.within)) h.falls,
    ) refl

pub lookup_switch_refused : (at op : ℕ) (after : List ℕ) (f : def.Fault) → Refuses Format.LookupSwitch at after f
    → lookup_switch_at at op after ≡ Err (stop_of f)
lookup_switch_refused at op after f (h, e) =
    elim h [
      | inl bad ↦ bad_count_refused at op after bad ∙ rw e refl
      | inr bad ↦ bad_key_refused at op after bad ∙ rw e refl
    ]
