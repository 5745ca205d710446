-- Marks of leaders that only grow, and what was marked for the items of a list so far.
use Rattle.std.proofs.Common.{◌≡◌, ℕ, suc, ◌+◌, ◌<◌, ◌≤◌, inl, inr, Bool, List, length, pos, Some, refl, sym, ◌∙◌, subst, arith}
use Rattle.std.specs.Prelude.{slice_get}
use Rattle.std.proofs.lemmas.Bool.{cases_lt}
use Rattle.std.proofs.lemmas.Option.{slice_get_within, same_Some}
use Rattle.jk_model.specs.declared.instructions.Instr.{Instr}
use Rattle.jk_model.specs.declared.instructions.SwitchCase.{SwitchCase}
use Rattle.jk_model_classes.specs.declared.records.Caught.{Caught}
use Rattle.type_verifier.specs.Marks.{IsEntryMarked, IsInstrMarked, IsMarked, KeepsMarks}

pub keeps_same : (a : List Bool) → KeepsMarks a a
keeps_same a = record { as_many = refl; kept = λ place h. h }

pub keeps_both : (a b c : List Bool) → KeepsMarks a b → KeepsMarks b c → KeepsMarks a c
keeps_both a b c h k = record { as_many = k.as_many ∙ h.as_many; kept = λ place p. k.kept place (h.kept place p) }

pub marked_kept : (a b : List Bool) (place : ℕ) → KeepsMarks a b → IsMarked a place → IsMarked b place
marked_kept a b place h p within = h.kept place (p (omega (arith, h.as_many)))

pub instr_kept : (a b : List Bool) (place : ℕ) (i : Instr) → KeepsMarks a b → IsInstrMarked a place i → IsInstrMarked b place i
instr_kept a b place i h p = record {
  targets = λ next leads. marked_kept a b next h (p.targets next leads);
  calls = λ calls. marked_kept a b (suc place) h (p.calls calls);
}

pub entry_kept : (a b : List Bool) (h : Caught) → KeepsMarks a b → IsEntryMarked a h → IsEntryMarked b h
entry_kept a b h k p = record {
  handler = marked_kept a b h.handler k p.handler;
  start = marked_kept a b h.start k p.start;
  end = marked_kept a b h.end k p.end;
}

-- ---- Marks for each item of a list.

pub record MarksEach {X : Type 0} (P : List Bool → ℕ → X → Type 0) (xs : List X) (n : ℕ) (old leads : List Bool) : Type 0 where
  pub kept : KeepsMarks old leads
  pub each : (k : ℕ) (x : X) → k < n → slice_get xs k ≡ Some x → P leads k x

module _ {X : Type 0} (P : List Bool → ℕ → X → Type 0) (keeps : (a b : List Bool) (k : ℕ) (x : X) → KeepsMarks a b → P a k x → P b k x) (xs : List X) where
  pub marks_none : (old : List Bool) → MarksEach P xs 0 old old
  marks_none old = record { kept = keeps_same old; each = λ k x below at. absurd (omega arith) }

  pub marks_more : (n : ℕ) (old a b : List Bool) (x : X) → slice_get xs n ≡ Some x → MarksEach P xs n old a → KeepsMarks a b → P b n x
      → MarksEach P xs (n + 1) old b
  marks_more n old a b x at so h p = record { kept = keeps_both old a b so.kept h; each = each }
    where
      each : (k : ℕ) (y : X) → k < n + 1 → slice_get xs k ≡ Some y → P b k y
      each k y below found =
          elim (cases_lt k n) [
            | inl less ↦ keeps a b k y h (so.each k y less found)
            | inr least ↦
                let same : k ≡ n = omega arith in
                let one : x ≡ y = same_Some x y (sym at ∙ subst (λ (m : ℕ). slice_get xs m ≡ Some y) same found) in
                subst (λ (m : ℕ). P b m y) (sym same) (subst (λ (z : X). P b n z) one p)
          ]

  pub marks_all : (n : ℕ) (old a : List Bool) → length xs ≤ n → MarksEach P xs n old a → (k : ℕ) (x : X) → slice_get xs k ≡ Some x → P a k x
  marks_all n old a all so k x at = so.each k x (omega (arith, slice_get_within xs k x at)) at

-- ---- The lists that are gone over.

abbrev pub CaseMarked : List Bool → ℕ → SwitchCase → Type 0
CaseMarked leads k s = (next : ℕ) → pos next ≡ s.target → IsMarked leads next

pub case_kept : (a b : List Bool) (k : ℕ) (s : SwitchCase) → KeepsMarks a b → CaseMarked a k s → CaseMarked b k s
case_kept a b k s h p next e = marked_kept a b next h (p next e)

abbrev pub EntryMarked : List Bool → ℕ → Caught → Type 0
EntryMarked leads k h = IsEntryMarked leads h

pub entry_kept_at : (a b : List Bool) (k : ℕ) (h : Caught) → KeepsMarks a b → EntryMarked a k h → EntryMarked b k h
entry_kept_at a b k h keeps p = entry_kept a b h keeps p
