-- The least number at which a class breaks C27, told part by part.
use Rattle.std.proofs.Common.{◌≡◌, ℕ, ◌+◌, ◌≤◌, inl, inr, false, true, List, [], length, Option, Some, None, refl, sym, ◌∙◌, ap, subst, slice_get, arith}
use Rattle.std.specs.Option.{option_map_or}
use Rattle.std.proofs.lemmas.Option.{same_Some, slice_get_within}
use Rattle.jk_model.specs.Flags.{has, INTERFACE}
use Rattle.jk_model.specs.declared.identifiers.ClassId.{ClassId}
use Rattle.jk_model_classes.specs.declared.records.ClassRecord.{ClassRecord}
use Rattle.jk_model_classes.specs.Classes.{record_of, listed_interfaces}
use Rattle.jk_model_classes.specs.Items.{HasItem}
use Rattle.jk_model_classes.specs.SharedRules.{BreaksC27, IsOfFolder, methods_before}
use Rattle.jk_model_classes.specs.Stubs.{ImplementsRemote}
use Rattle.shared_interfaces.specs.Earliest.{IsLeast}
use Rattle.shared_interfaces.specs.Shapes.{IsSilentAt}

module _ (classes : List ClassRecord) (first : ClassId) (declared : List (List ClassId)) (c : ClassId) (r : ClassRecord)
    (at : record_of classes c ≡ Some r)
  where
    pub no_interface : has r.flags INTERFACE ≡ false → IsLeast (BreaksC27 classes first declared c) None
    no_interface not_so n (of_folder, (s, at_s, is), implements, broken) =
        let same : s ≡ r = same_Some s r (sym at_s ∙ at) in
        let no : true ≡ false = sym is ∙ ap (λ (x : ClassRecord). has x.flags INTERFACE) same ∙ not_so in
        cc

    pub not_remote : (ImplementsRemote classes c → ⊥) → IsLeast (BreaksC27 classes first declared c) None
    not_remote never n (of_folder, is, implements, broken) = never implements

    module _ (low : first.0 ≤ c.0) (is : has r.flags INTERFACE ≡ true) (implements : ImplementsRemote classes c) where
      of_folder : IsOfFolder classes first c
      of_folder = (low, slice_get_within classes c.0 r at)

      listed : listed_interfaces classes c ≡ r.interfaces
      listed = ap (λ (o : Option ClassRecord). option_map_or (λ (x : ClassRecord). x.interfaces) o []) at

      pub lists_other_at_0 : HasItem (λ i. ImplementsRemote classes i → ⊥) r.interfaces → IsLeast (BreaksC27 classes first declared c) (Some 0)
      lists_other_at_0 (i, x, at_i, other) = ((of_folder, (r, at, is), implements, inl (refl, (i, x, there, other))), λ n below. absurd (omega arith))
        where
          there : slice_get (listed_interfaces classes c) i ≡ Some x
          there = subst (λ (l : List ClassId). slice_get l i ≡ Some x) (sym listed) at_i

      -- the methods, where each interface that is listed is remote
      module _ (all : HasItem (λ i. ImplementsRemote classes i → ⊥) r.interfaces → ⊥) where
        passed : ℕ
        passed = methods_before classes first c.0

        breaks_there : (i : ℕ) → IsSilentAt r.methods declared passed i → BreaksC27 classes first declared c (length r.fields + i + 1)
        unfolding passed
        breaks_there i (method, thrown, at_i, declares, (other, silent)) =
            (of_folder, (r, at, is), implements, inr (r, i, method, thrown, at, at_i, other, declares, silent, refl))

        breaks_only_there : (n : ℕ) → BreaksC27 classes first declared c n → (i : ℕ) × (n ≡ length r.fields + i + 1) × IsSilentAt r.methods declared passed i
        unfolding passed
        breaks_only_there n (in_folder, interface, remote, inl (zero_is, (i, x, at_i, other))) =
            absurd (all (i, x, subst (λ (l : List ClassId). slice_get l i ≡ Some x) listed at_i, other))
        breaks_only_there n (in_folder, interface, remote, inr (s, i, method, thrown, at_s, at_i, other, declares, silent, e)) =
            let same : s ≡ r = same_Some s r (sym at_s ∙ at) in
            let number : n ≡ length r.fields + i + 1 = e ∙ ap (λ (x : ClassRecord). length x.fields + i + 1) same in
            (i, number, (method, thrown, subst (λ (x : ClassRecord). slice_get x.methods i ≡ Some method) same at_i, declares, (other, silent)))

        pub breaks_by_method : (i : ℕ) → IsLeast (IsSilentAt r.methods declared (methods_before classes first c.0)) (Some i)
            → IsLeast (BreaksC27 classes first declared c) (Some (length r.fields + i + 1))
        unfolding passed
        breaks_by_method i least = (
          breaks_there i least.0,
          λ n below h. let where_broken = breaks_only_there n h in least.1 where_broken.0 (omega (arith, where_broken.1)) where_broken.2,
        )

        pub breaks_nowhere : IsLeast (IsSilentAt r.methods declared (methods_before classes first c.0)) None → IsLeast (BreaksC27 classes first declared c) None
        unfolding passed
        breaks_nowhere none n h = let where_broken = breaks_only_there n h in none where_broken.0 where_broken.2
