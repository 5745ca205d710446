-- A code whose instructions name kept locals by their places in a list is the code over these locals.
use Rattle.std.proofs.Common.{◌≡◌, ℕ, suc, ◌+◌, ◌*◌, ◌≤◌, inl, inr, Bool, true, false, ℤ, pos, List, [], ◌∷◌, ◌++◌, length, flat_map, Some, sym, ap, ◌∙◌, subst, arith, length-append}
use Rattle.std.specs.List.{slice_get}
use Rattle.std.specs.Prelude.{if◌then◌else◌}
use Rattle.std.proofs.lemmas.Bool.{cases_lt}
use Rattle.std.proofs.lemmas.List.{length-map}
use Rattle.std.proofs.lemmas.Option.{same_Some, slice_get_within}
use Rattle.list_lemmas.proofs.ItemsByPlace.{old_or_last}
use Rattle.jk_model.specs.declared.instructions.Instr.{Instr}
use Rattle.jk_model_classes.specs.declared.records.LinkedCode.{LinkedCode}
use Rattle.jk_model_typing.specs.declared.frames.VType.{VType}
use Rattle.jk_model_typing.specs.declared.frames.VType.TheVariants.{Long, FreshThis}
use Rattle.jk_model_typing.specs.FrameTypes.{of_class, value_of}
use Rattle.jk_model_typing.specs.Scopes.{CodeScope, is_init, is_static, own_receiver, parameter_values}
use Rattle.jk_model_typing.specs.Typing.{as_locals}
use Rattle.touched_locals.specs.KeptLocals.{AreKeptLocals, AreRenamedBy, IsRenamedBy, IsTouchedAmong, marks_from}
use Rattle.touched_locals.specs.Narrowing.{IsNarrowed, IsRenamed, IsTouched, rank}
use Rattle.touched_locals.proofs.KeptMarks.{count-marks, length-marks, mark-at}

-- ---- What a call gives.

values-most : (vs : List VType) → length (flat_map as_locals vs) ≤ 2 * length vs
values-most [] = omega arith
values-most (Long ∷ vs) = omega (arith, values-most vs)
values-most (v ∷ vs) = omega (arith, values-most vs)

receiver-most : (static init : Bool) (v : VType) → length (if static then [] else if init then FreshThis ∷ [] else v ∷ []) ≤ 1
receiver-most true init v = omega arith
receiver-most false true v = omega arith
receiver-most false false v = omega arith

given-most : (s : CodeScope) → length (own_receiver s ++ flat_map as_locals (parameter_values s s.method)) ≤ 2 * length s.method.params + 1
given-most s =
    omega (
      arith,
      length-append (own_receiver s) (flat_map as_locals (parameter_values s s.method)),
      values-most (parameter_values s s.method),
      length-map s.method.params (value_of s.classes),
      receiver-most (is_static s.method) (is_init s.method) (of_class s.classes s.self),
    )

-- ---- Instructions, one after the other.

-- these are renamed as far as they go
abbrev pub RenamedSoFar : List ℕ → ℕ → List Instr → List Instr → Type 0
RenamedSoFar kept count instrs renamed =
    (place : ℕ) (i j : Instr) → slice_get instrs place ≡ Some i → slice_get renamed place ≡ Some j → IsRenamedBy kept count i j

pub renamed-none : (kept : List ℕ) (count : ℕ) (instrs : List Instr) → RenamedSoFar kept count instrs []
renamed-none kept count instrs = λ place i j at there. cc

pub renamed-pushed : (kept : List ℕ) (count : ℕ) (instrs renamed new : List Instr) (many : ℕ) (i j : Instr) → length renamed ≡ many
    → RenamedSoFar kept count instrs renamed → slice_get instrs many ≡ Some i → IsRenamedBy kept count i j → new ≡ renamed ++ j ∷ []
    → RenamedSoFar kept count instrs new
renamed-pushed kept count instrs renamed new many i j long so i_at renames is = λ place x y at there.
    elim (old_or_last renamed j place y (ap (λ (xs : List Instr). slice_get xs place) (sym is) ∙ there)) [
      | inl (less, old) ↦ so place x y at old
      | inr (here, same) ↦
          let x_is : x ≡ i = same_Some x i (sym at ∙ subst (λ (n : ℕ). slice_get instrs n ≡ Some i) (sym (here ∙ long)) i_at) in
          subst (λ (z : Instr). IsRenamedBy kept count z y) (sym x_is) (subst (λ (z : Instr). IsRenamedBy kept count i z) (sym same) renames)
    ]

-- ---- Instructions.

module _ (first count : ℕ) (kept : List ℕ) (are : AreKeptLocals first count kept) where
  abbrev Marks : List Bool
  Marks = marks_from 0 kept count

  marked : (k m : ℕ) → slice_get kept k ≡ Some m → (slice_get Marks m ≡ Some true) × (rank Marks m ≡ k)
  marked k m at = mark-at 0 kept count are.rising k m m at (omega arith)

  touched : (local k : ℕ) → IsTouchedAmong kept count local k → IsTouched Marks local
  touched local k h = record {
    here = (marked k local h.here).0;
    before = λ m e. let (j, at) = h.before m e in (marked j m at).0;
    after = λ out. elim (cases_lt (local + 1) count) [
      | inl less ↦
          let (j, at) = h.after less in
          let there : slice_get Marks (suc local) ≡ Some true =
          subst (λ (n : ℕ). slice_get Marks n ≡ Some true) (omega arith) (marked j (local + 1) at).0 in
          let z : Some true ≡ Some false = sym there ∙ out in
          cc
      | inr past ↦ absurd (omega (arith, past, slice_get_within Marks (suc local) false out, length-marks 0 kept count are.rising))
    ];
  }

  renamed-is : (i j : Instr) → IsRenamedBy kept count i j → IsRenamed Marks i j
  renamed-is i j (a, inl (other, e), same) = inl (other, same ∙ ap (λ (x : ℤ). record i { a = x }) e)
  renamed-is i j (a, inr (names, (local, k, is, among, e)), same) =
      inr (
        names,
        (local, is, touched local k among, same ∙ ap (λ (x : ℤ). record i { a = x }) (e ∙ ap pos (sym (marked k local among.here).1))),
      )

  pub narrowed-is : (s : CodeScope) (code narrow : LinkedCode) → s.code ≡ code → code.max_locals ≡ count → 2 * length s.method.params + 1 ≤ first
      → narrow.max_locals ≡ length kept → narrow.max_stack ≡ code.max_stack → narrow.handlers ≡ code.handlers
      → AreRenamedBy kept count code.instrs narrow.instrs → (marks : List Bool) × IsNarrowed s marks narrow
  narrowed-is s code narrow is counted few locals stack handlers renamed =
      let all : s.code.max_locals ≡ count = ap (λ (c : LinkedCode). c.max_locals) is ∙ counted in
      let marks_many : length Marks ≡ count = length-marks 0 kept count are.rising ∙ omega arith in (
        Marks,
        record {
          marked = marks_many ∙ sym all;
          locals = locals ∙ sym (count-marks 0 kept count);
          stack = stack ∙ ap (λ (c : LinkedCode). c.max_stack) (sym is);
          handlers = handlers ∙ ap (λ (c : LinkedCode). c.handlers) (sym is);
          as_many = renamed.as_many ∙ ap (λ (c : LinkedCode). length c.instrs) (sym is);
          each = λ place i j at there.
              renamed-is i j (renamed.each place i j (subst (λ (c : LinkedCode). slice_get c.instrs place ≡ Some i) is at) there);
          given = λ n less within. (marked n n (are.firsts n (omega (arith, less, few, given-most s)))).0;
        },
      )
