-- The stubs of the folder's classes are made in rising number.
use Rattle.std.proofs.Common.{◌≡◌, ℕ, zero, suc, ◌+◌, ◌<◌, ◌≤◌, ◌⊎◌, List, [], ◌∷◌, ◌++◌, length, Some, slice_get, inl, inr, refl, sym, ap, subst, ◌∙◌, arith}
use Rattle.std.specs.Prelude.{Contains}
use Rattle.std.proofs.lemmas.List.Elements.{Contains-append_left, Contains-push, Contains-push_cases}
use Rattle.std.proofs.lemmas.Option.{same_Some, slice_get_within, get_or_from_slice_get}
use Rattle.std.proofs.Math.Nat.{eq-or-lt_of_le}
use Rattle.list_lemmas.proofs.ItemsOfLists.{Contains-at as has_item}
use Rattle.jk_model.specs.declared.identifiers.ClassId.{ClassId}
use Rattle.jk_model_classes.specs.declared.records.ClassRecord.{ClassRecord}
use Rattle.jk_model_classes.specs.declared.sharing.Stub.{Stub}
use Rattle.jk_model_classes.specs.Stubs.{ImplementsRemote, IsStub}
use Rattle.jk_model_folders.specs.Loads.{AreStubs}

-- the stubs of the classes from `first` up to n
pub record AreStubsUpTo (classes : List ClassRecord) (first n : ℕ) (stubs : List Stub) : Type 0 where
  pub each : (stub : Stub) → Contains stubs stub → (first ≤ stub.class.0) × (stub.class.0 < n) × IsStub classes stub.class stub
  pub all : (c : ClassId) → first ≤ c.0 → c.0 < n → ImplementsRemote classes c → (stub : Stub) × Contains stubs stub × (stub.class ≡ c)
  pub rising : (i j : ℕ) (a b : Stub) → i < j → slice_get stubs i ≡ Some a → slice_get stubs j ≡ Some b → a.class.0 < b.class.0

-- an item of a list with one more is one of the list, or the last
item_of_more : {X : Type 0} (xs : List X) (x y : X) (i : ℕ) → slice_get (xs ++ x ∷ []) i ≡ Some y
    → (slice_get xs i ≡ Some y) ⊎ ((i ≡ length xs) × (x ≡ y))
item_of_more [] x y zero at = inr (refl, same_Some x y at)
item_of_more [] x y (suc i) at = absurd cc
item_of_more (z ∷ xs) x y zero at = inl at
item_of_more (z ∷ xs) x y (suc i) at =
    elim (item_of_more xs x y i at) [
      | inl there ↦ inl there
      | inr last ↦ inr (ap (λ (n : ℕ). suc n) last.0, last.1)
    ]

module _ (classes : List ClassRecord) (first : ℕ) where
  pub none_made : AreStubsUpTo classes first first []
  none_made = record {
    each = λ stub h. absurd (omega (arith, h.1));
    all = λ c above below remote. absurd (omega (arith, above, below));
    rising = λ i j a b less at_a at_b. absurd (cc);
  }

  -- a class without a stub
  pub none_next : (n : ℕ) (stubs : List Stub) → AreStubsUpTo classes first n stubs → (ImplementsRemote classes (record { 0 = n }) → ⊥)
      → AreStubsUpTo classes first (n + 1) stubs
  none_next n stubs h none = record {
    each = λ stub has. let its = h.each stub has in (its.0, omega (arith, its.1), its.2);
    all = λ c above below remote.
        let most : c.0 ≤ n = omega (arith, below) in
        elim (eq-or-lt_of_le most) [
          | inl last ↦ absurd (none (subst (λ (k : ℕ). ImplementsRemote classes (record { 0 = k })) last remote))
          | inr less ↦ h.all c above less remote
        ];
    rising = h.rising;
  }

  -- a class with its stub
  pub stub_next : (n : ℕ) (stubs : List Stub) (stub : Stub) → first ≤ n → AreStubsUpTo classes first n stubs → IsStub classes (record { 0 = n }) stub
      → AreStubsUpTo classes first (n + 1) (stubs ++ stub ∷ [])
  stub_next n stubs stub above h is =
      let number : stub.class.0 ≡ n = ap (λ (c : ClassId). c.0) is.class in
      let own : IsStub classes stub.class stub = subst (λ (c : ClassId). IsStub classes c stub) (sym is.class) is in
      record {
        each = λ other has. elim (Contains-push_cases stubs stub other has) [
          | inl before ↦ let its = h.each other before in (its.0, omega (arith, its.1), its.2)
          | inr same ↦
              subst (λ (x : Stub). (first ≤ x.class.0) × (x.class.0 < n + 1) × IsStub classes x.class x) same
              (omega (arith, number, above), omega (arith, number), own)
        ];
        all = λ c low below remote.
            let most : c.0 ≤ n = omega (arith, below) in
            elim (eq-or-lt_of_le most) [
              | inl last ↦ (stub, Contains-push stubs stub, is.class ∙ ap (λ (k : ℕ). let d : ClassId = record { 0 = k } in d) (sym last))
              | inr less ↦ let its = h.all c low less remote in (its.0, Contains-append_left stubs (stub ∷ []) its.0 its.1, its.2)
            ];
        rising = λ i j a b less at_a at_b. elim (item_of_more stubs stub b j at_b) [
          | inl b_before ↦ elim (item_of_more stubs stub a i at_a) [
            | inl a_before ↦ h.rising i j a b less a_before b_before
            | inr a_last ↦ absurd (omega (arith, a_last.0, less, slice_get_within stubs j b b_before))
          ]
          | inr b_last ↦ elim (item_of_more stubs stub a i at_a) [
            | inl a_before ↦
                let its = h.each a (has_item stubs i a a_before) in
                omega (arith, its.1, number, ap (λ (x : Stub). x.class.0) b_last.1)
            | inr a_last ↦ absurd (omega (arith, a_last.0, b_last.0, less))
          ]
        ];
      }

  pub all_made : (n : ℕ) (stubs : List Stub) → n ≡ length classes → AreStubsUpTo classes first n stubs → AreStubs classes (record { 0 = first }) stubs
  all_made n stubs all h = record {
    each = λ stub has. let its = h.each stub has in ((its.0, omega (arith, its.1, all)), its.2);
    all = λ c own remote. h.all c own.0 (omega (arith, own.1, all)) remote;
    rising = h.rising;
  }
