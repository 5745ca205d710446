-- A method of a folder's class is abstract, or runs code of its own (C9, C13). Its code fits 32 bits, and the keys of its switches rise (C15).
use Rattle.std.proofs.Common.{◌≡◌, ℕ, zero, suc, ◌+◌, ◌<◌, inl, inr, ℤ, pos, List, [], ◌∷◌, length, map, Some, slice_get, refl, sym, ap, subst, ◌∙◌, arith, ◌^◌}
use Rattle.std.proofs.lemmas.Bool.{false≢true}
use Rattle.std.proofs.lemmas.Int.{ints}
use Rattle.std.proofs.lemmas.Option.{slice_get_within, same_Some, none-some}
use Rattle.std.specs.Prelude.{◌+ℤ◌, IsFalse}
use Rattle.list_lemmas.proofs.ItemsByPlace.{item_there}
use Rattle.list_lemmas.proofs.ItemsOfLists.{place_of}
use Rattle.model_lemmas.proofs.PlacesOfInstrs.{as_many}
use Rattle.jk_model.specs.Flags.{has, ABSTRACT}
use Rattle.jk_model.specs.Instructions.{AreInstrs, IsInstr, Means, Format, Rises, keys, table_cases, case_at, signed_int, WideMeans, WideFormat, WideLocal, WideIncrement, format_of, wide_format_of, AsIs, Short, ByteConstant, ShortConstant, LocalIndex, BytePoolIndex, PoolIndex, Increment, Jump, FarJump, InterfaceCall, ArrayOfKind, ManyDimensions, TableSwitch, LookupSwitch, Wide}
use Rattle.jk_model.specs.declared.class_file.ClassFile.{ClassFile}
use Rattle.jk_model.specs.declared.class_file.Code.{Code}
use Rattle.jk_model.specs.declared.identifiers.ClassId.{ClassId}
use Rattle.jk_model.specs.declared.identifiers.MemberId.{MemberId}
use Rattle.jk_model.specs.declared.instructions.Instr.{Instr}
use Rattle.jk_model.specs.declared.instructions.SwitchCase.{SwitchCase}
use Rattle.jk_model_classes.specs.LinkRules.{LinkScope}
use Rattle.jk_model_classes.specs.Worlds.{NamedClass, WorldRecord}
use Rattle.jk_model_classes.specs.declared.records.LinkedCode.{LinkedCode}
use Rattle.jk_model_classes.specs.declared.records.MethodRecord.{MethodRecord}
use Rattle.jk_model_classes.specs.declared.sharing.Offer.{Offer}
use Rattle.jk_model_classes.specs.declared.sharing.Stub.{Stub}
use Rattle.class_lemmas.proofs.CodeOfMethods.{absent_has_none, same_code}
use Rattle.jk_model_folders.specs.FolderRules.{link_scope}
use Rattle.jk_model_folders.specs.LinkedClasses.{IsCaseFor, IsLinkedCode}
use Rattle.jk_model_folders.specs.Loads.{Loads}
use Rattle.jk_model_folders.specs.declared.files.FolderFiles.{FolderFiles}
use Rattle.heap_laws.specs.SoundCodes.{IsDecoded, IsRunnable}
use Rattle.machine_laws.proofs.NewMembers.{IsNewMethod}
use Rattle.jk_model_classes.specs.declared.records.Body.TheVariants as Does

-- ---- Switches.

abbrev cases_keys : List SwitchCase → List ℤ
cases_keys cases = map (λ (c : SwitchCase). c.key) cases

table_rises : (at : ℕ) (key : ℤ) (offsets : List ℕ) → Rises (cases_keys (table_cases at key offsets))
table_rises at key [] = tt
table_rises at key (o ∷ []) = tt
table_rises at key (o ∷ p ∷ offsets) = (omega (arith, ints), table_rises at (key +ℤ pos 1) (p ∷ offsets))

pairs_rise : (at : ℕ) (pairs : List (ℕ × ℕ)) → Rises (keys pairs) → Rises (cases_keys (map (λ (p : ℕ × ℕ). case_at at (signed_int p.0) p.1) pairs))
pairs_rise at [] h = tt
pairs_rise at (p ∷ []) h = tt
pairs_rise at (p ∷ q ∷ pairs) h = (h.0, pairs_rise at (q ∷ pairs) h.1)

abbrev RisesIn : Instr → Type 0
RisesIn i = Rises (cases_keys i.cases)

wide_rises : (f : WideFormat) (at op : ℕ) (operands : List ℕ) (i : Instr) → WideMeans f at op operands i → RisesIn i
wide_rises WideLocal at op (m ∷ n ∷ []) i e = subst RisesIn (sym e) tt
wide_rises WideIncrement at op (k ∷ l ∷ m ∷ n ∷ []) i e = subst RisesIn (sym e) tt
wide_rises _ at op _ i e = absurd e

rises : (f : Format) (at op : ℕ) (operands : List ℕ) (i : Instr) → Means f at op operands i → RisesIn i
rises AsIs at op [] i e = subst RisesIn (sym e) tt
rises (Short long first) at op [] i e = subst RisesIn (sym e) tt
rises ByteConstant at op (n ∷ []) i e = subst RisesIn (sym e) tt
rises ShortConstant at op (m ∷ n ∷ []) i e = subst RisesIn (sym e) tt
rises LocalIndex at op (n ∷ []) i e = subst RisesIn (sym e) tt
rises BytePoolIndex at op (n ∷ []) i e = subst RisesIn (sym e) tt
rises PoolIndex at op (m ∷ n ∷ []) i e = subst RisesIn (sym e) tt
rises Increment at op (m ∷ n ∷ []) i e = subst RisesIn (sym e) tt
rises Jump at op (m ∷ n ∷ []) i e = subst RisesIn (sym e) tt
rises FarJump at op (k ∷ l ∷ m ∷ n ∷ []) i e = subst RisesIn (sym e) tt
rises InterfaceCall at op (m ∷ n ∷ count ∷ last ∷ []) i h = subst RisesIn (sym h.2) tt
rises ArrayOfKind at op (kind ∷ []) i h = subst RisesIn (sym h.1) tt
rises ManyDimensions at op (m ∷ n ∷ dims ∷ []) i h = subst RisesIn (sym h.1) tt
rises TableSwitch at op operands i h = subst RisesIn (sym h.says) (table_rises at (signed_int h.low) h.offsets)
rises LookupSwitch at op operands i h = subst RisesIn (sym h.says) (pairs_rise at h.pairs h.rising)
rises Wide at op (widened ∷ operands) i h = wide_rises (wide_format_of widened) at widened operands i h
rises _ at op _ i e = absurd e

one_rises : (at : ℕ) (front : List ℕ) (i : Instr) → IsInstr at front i → RisesIn i
one_rises at [] i h = absurd h
one_rises at (op ∷ operands) i h = rises (format_of op) at op operands i h

each_rises : (at : ℕ) (bytes : List ℕ) (instrs : List Instr) → AreInstrs at bytes instrs → (k : ℕ) (i : Instr) → slice_get instrs k ≡ Some i → RisesIn i
each_rises at bytes [] h k i e = absurd (none-some i e)
each_rises at bytes (d ∷ instrs) (front, rest, one, e, more) zero i s = subst RisesIn (same_Some d i s) (one_rises at front d one)
each_rises at bytes (d ∷ instrs) (front, rest, one, e, more) (suc k) i s = each_rises (at + length front) rest instrs more k i s

no_cases : (placed : List SwitchCase) → length placed ≡ 0 → placed ≡ []
no_cases [] e = refl
no_cases (p ∷ placed) e = absurd (omega (arith, e))

same_keys : (instrs : List Instr) (decoded placed : List SwitchCase) → length placed ≡ length decoded
    → ((k : ℕ) (d p : SwitchCase) → slice_get decoded k ≡ Some d → slice_get placed k ≡ Some p → IsCaseFor instrs d p)
    → cases_keys placed ≡ cases_keys decoded
same_keys instrs [] placed long each = ap cases_keys (no_cases placed long)
same_keys instrs (d ∷ decoded) [] long each = absurd (omega (arith, long))
same_keys instrs (d ∷ decoded) (p ∷ placed) long each =
    let first : p.key ≡ d.key = (each 0 d p refl refl).0 in
    let rest = same_keys instrs decoded placed (omega (arith, long)) (λ k e q at there. each (suc k) e q at there) in
    ap (λ (x : ℤ). x ∷ cases_keys placed) first ∙ ap (λ (x : List ℤ). d.key ∷ x) rest

-- ---- Bodies.

no_system : (k : ℕ) → Does.Absent ≡ Does.System k → ⊥
no_system k e = cc

no_linked : (k : ℕ) (code : LinkedCode) → Does.Linked code ≡ Does.System k → ⊥
no_linked k code e = cc

module _ {f : FolderFiles} {w : WorldRecord} {into : List ℕ} {first : ClassId} {table : List NamedClass} {offers : List Offer} {stubs : List Stub}
    {new : WorldRecord} (l : Loads f w into first table offers stubs new) (m : MemberId) (method : MethodRecord)
    (n : IsNewMethod l m method) where
  pub runs : IsFalse (has method.flags ABSTRACT) → IsRunnable method.body
  runs concrete = elim n.is.body [
    | inl (abstract, absent) ↦ absurd (false≢true (sym concrete ∙ abstract))
    | inr (concrete, (a, of, made, there, called, layout, is, is_made)) ↦ inl (made, is_made)
  ]

  pub no_system_body : (k : ℕ) → method.body ≡ Does.System k → ⊥
  no_system_body k body = elim n.is.body [
    | inl (abstract, absent) ↦ no_system k (sym absent ∙ body)
    | inr (concrete, (a, of, made, there, called, layout, is, is_made)) ↦ no_linked k made (sym is_made ∙ body)
  ]

  pub own_code : IsFalse (has method.flags ABSTRACT) → (code : LinkedCode) × (method.body ≡ Does.Linked code)
  own_code concrete = elim (runs concrete) [
    | inl own ↦ own
    | inr (k, body) ↦ absurd (no_system_body k body)
  ]

  made_decoded : (s : LinkScope) (c : ClassFile) (of : Code) (made : LinkedCode) → length of.code < 2 ^ 16 → IsLinkedCode s c of made → IsDecoded made
  made_decoded s c of made few is =
      record {
        short = omega (arith, few, is.instrs.as_many, as_many 0 of.code is.decoded is.decodes);
        keys = λ i on.
            let place = place_of made.instrs i on in
            let told = item_there is.decoded place.0 (omega (arith, slice_get_within made.instrs place.0 i place.1, is.instrs.as_many)) in
            let told_for = is.instrs.each place.0 told.0 i told.1 place.1 in
            subst Rises (sym (same_keys is.decoded told.0.cases i.cases told_for.cases.as_many told_for.cases.each))
            (each_rises 0 of.code is.decoded is.decodes place.0 told.0 told.1);
      }

  pub decoded : (code : LinkedCode) → method.body ≡ Does.Linked code → IsDecoded code
  decoded code body = elim n.is.body [
    | inl (abstract, absent) ↦ absurd (absent_has_none code (sym absent ∙ body))
    | inr (concrete, (a, of, made, there, called, layout, is, is_made)) ↦
        subst IsDecoded (same_code made code (sym is_made ∙ body))
        (made_decoded (link_scope l.placed (record { 0 = length w.classes + n.of.k })) n.of.own.file of made layout.code.1 is)
  ]
