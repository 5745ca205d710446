-- A call selects one method, or none, and so the class of a receiver, the method that is named and the running class tell what it comes to.
use Rattle.std.proofs.Common.{◌≡◌, ◌⊎◌, Bool, not, IsTrue, inl, inr, List, [], ◌∷◌, Option, Some, None, refl, sym, ap, subst, ◌∙◌}
use Rattle.std.proofs.lemmas.Bool.{both_ways, not-true}
use Rattle.std.proofs.lemmas.Option.{none-some, same_Some}
use Rattle.list_lemmas.proofs.EndsOfLists.{head_is}
use Rattle.list_lemmas.proofs.ItemsOfLists.{Contains-at}
use Rattle.class_lemmas.proofs.OneMember.{one_on}
use Rattle.jk_model.specs.Flags.{has, PRIVATE, PUBLIC}
use Rattle.jk_model.specs.declared.identifiers.CapId.{CapId}
use Rattle.jk_model.specs.declared.identifiers.ClassId.{ClassId}
use Rattle.jk_model.specs.declared.identifiers.MemberId.{MemberId}
use Rattle.jk_model.specs.declared.values.Value.{Value}
use Rattle.jk_model.specs.declared.values.Value.TheVariants as Held
use Rattle.jk_model_classes.specs.declared.records.ClassRecord.{ClassRecord}
use Rattle.jk_model_classes.specs.declared.records.MethodRecord.{MethodRecord}
use Rattle.jk_model_classes.specs.Classes.{superclasses}
use Rattle.jk_model_classes.specs.Lookups.{FindsOn, IsFirstOn, IsNowhereOn, IsUnlessAbstract, MethodIs, RunsFor, Selects}
use Rattle.class_lemmas.proofs.OneRecord.{one_method}
use Rattle.jk_model_domains.specs.Objects.{NamedObject}
use Rattle.jk_model_heaps.specs.Instances.{RunsAs, run_class}
use Rattle.jk_model_heaps.specs.SystemClasses.{INCOMPATIBLE_CLASS_CHANGE_ERROR}
use Rattle.jk_model_call_rows.specs.CallRows.{AtReceiver}
use Rattle.jk_model_call_rows.specs.Targets.{Fails, HasInterface, InterfaceTarget, IsRunAsNamed, IsSelectedAbove, LacksInterface, LocalTarget, PublicTarget, Runs, SelectedTarget, SpecialTarget, Target, VirtualTarget}

-- ---- What a walk finds.

module _ (Suits : MemberId → Type 0) (walk : List ClassId) where
  not_both : (m : MemberId) → IsNowhereOn Suits walk → IsFirstOn Suits walk m → ⊥
  not_both m nowhere first = nowhere m.class (Contains-at walk first.place m.class first.visited) (m.index, first.member.suits)

  one_found : (a b : Option MemberId) → FindsOn Suits walk a → FindsOn Suits walk b → a ≡ b
  one_found None None p q = refl
  one_found None (Some n) p q = absurd (not_both n p q)
  one_found (Some m) None p q = absurd (not_both m q p)
  one_found (Some m) (Some n) p q = ap Some (one_on Suits walk m n p q)

module _ (classes : List ClassRecord) where
  one_unless_abstract : (found a b : Option MemberId) → IsUnlessAbstract classes found a → IsUnlessAbstract classes found b → a ≡ b
  one_unless_abstract None a b p q = p ∙ sym q
  one_unless_abstract (Some m) a b (inl p) (inl q) = p.1 ∙ sym q.1
  one_unless_abstract (Some m) a b (inl p) (inr q) = absurd (q.0 p.0)
  one_unless_abstract (Some m) a b (inr p) (inl q) = absurd (p.0 q.0)
  one_unless_abstract (Some m) a b (inr p) (inr q) = p.1 ∙ sym q.1

  pub one_selected : (receiver : ClassId) (m : MemberId) (a b : Option MemberId) → Selects classes receiver m a → Selects classes receiver m b
      → a ≡ b
  one_selected receiver m a b p q =
      let found : p.0 ≡ q.0 = one_found (RunsFor classes m) (superclasses classes receiver) p.0 q.0 p.1 q.1 in
      one_unless_abstract q.0 a b (subst (λ (o : Option MemberId). IsUnlessAbstract classes o a) found p.2) q.2

  -- ---- What the selected method is run as.

  pub one_selected_target : (c : ClassId) (m : MemberId) (t u : Target) → SelectedTarget classes c m t → SelectedTarget classes c m u → t ≡ u
  one_selected_target c m t u (inl p) (inl q) = p.1 ∙ sym q.1
  one_selected_target c m t u (inl p) (inr q) = absurd (none-some q.0 (one_selected c m None (Some q.0) p.0 q.1))
  one_selected_target c m t u (inr p) (inl q) = absurd (none-some p.0 (one_selected c m None (Some p.0) q.0 p.1))
  one_selected_target c m t u (inr p) (inr q) =
      p.2 ∙ ap Runs (same_Some p.0 q.0 (one_selected c m (Some p.0) (Some q.0) p.1 q.1)) ∙ sym q.2

  public_or_not : (m n : MemberId) (a b : MethodRecord) → m ≡ n → MethodIs classes m a → MethodIs classes n b
      → IsTrue (not (has a.flags PUBLIC)) → IsTrue (has b.flags PUBLIC) → ⊥
  public_or_not m n a b same is also hidden shown =
      let one : a ≡ b = one_method classes n a b (subst (λ (k : MemberId). MethodIs classes k a) same is) also in
      both_ways (has b.flags PUBLIC)
      (not-true (has b.flags PUBLIC) (subst (λ (x : MethodRecord). not (has x.flags PUBLIC) ≡ Bool.true) one hidden)) shown

  pub one_public_target : (c : ClassId) (m : MemberId) (t u : Target) → PublicTarget classes c m t → PublicTarget classes c m u → t ≡ u
  one_public_target c m t u (inl p) (inl q) = p.1 ∙ sym q.1
  one_public_target c m t u (inl p) (inr (inl q)) = absurd (none-some q.0 (one_selected c m None (Some q.0) p.0 q.2))
  one_public_target c m t u (inl p) (inr (inr q)) = absurd (none-some q.0 (one_selected c m None (Some q.0) p.0 q.2))
  one_public_target c m t u (inr (inl p)) (inl q) = absurd (none-some p.0 (one_selected c m None (Some p.0) q.0 p.2))
  one_public_target c m t u (inr (inl p)) (inr (inl q)) = p.5 ∙ sym q.5
  one_public_target c m t u (inr (inl p)) (inr (inr q)) =
      let same : p.0 ≡ q.0 = same_Some p.0 q.0 (one_selected c m (Some p.0) (Some q.0) p.2 q.2) in
      absurd (public_or_not p.0 q.0 p.1 q.1 same p.3 q.3 p.4 q.4)
  one_public_target c m t u (inr (inr p)) (inl q) = absurd (none-some p.0 (one_selected c m None (Some p.0) q.0 p.2))
  one_public_target c m t u (inr (inr p)) (inr (inl q)) =
      let same : q.0 ≡ p.0 = same_Some q.0 p.0 (one_selected c m (Some q.0) (Some p.0) q.2 p.2) in
      absurd (public_or_not q.0 p.0 q.1 p.1 same q.3 p.3 q.4 p.4)
  one_public_target c m t u (inr (inr p)) (inr (inr q)) =
      p.5 ∙ ap Runs (same_Some p.0 q.0 (one_selected c m (Some p.0) (Some q.0) p.2 q.2)) ∙ sym q.5

  -- ---- By the receiver.

  pub one_run_class : (heap : List NamedObject) (v : Value) (a b : ClassId) → RunsAs heap v a → RunsAs heap v b → a ≡ b
  one_run_class heap (Held.Obj n) a b (o, is, same) (r, also, too) = same ∙ ap run_class (same_Some o r (sym is ∙ also)) ∙ sym too
  one_run_class heap (Held.Cap k) a b p q = p ∙ sym q
  one_run_class heap (Held.Int n) a b p q = absurd p
  one_run_class heap (Held.Long n) a b p q = absurd p
  one_run_class heap Held.Null a b p q = absurd p
  one_run_class heap Held.Unset a b p q = absurd p

  pub one_virtual_target : (heap : List NamedObject) (v : Value) (m : MemberId) (t u : Target) → VirtualTarget classes heap v m t
      → VirtualTarget classes heap v m u → t ≡ u
  one_virtual_target heap v m t u (c, runs, selects) (d, too, also) =
      let same : c ≡ d = one_run_class heap v c d runs too in
      one_selected_target d m t u (subst (λ (k : ClassId). SelectedTarget classes k m t) same selects) also

  with_interface_or_not : (c : ClassId) (m : MemberId) → LacksInterface classes c m → HasInterface classes c m → ⊥
  with_interface_or_not c m lacks (inl e) = lacks.0 e
  with_interface_or_not c m lacks (inr implements) = lacks.1 implements

  abbrev AtClass : ClassId → MemberId → Target → Type 0
  AtClass c m t =
      (LacksInterface classes c m × (t ≡ Fails INCOMPATIBLE_CLASS_CHANGE_ERROR)) ⊎ (HasInterface classes c m × PublicTarget classes c m t)

  one_at_class : (c : ClassId) (m : MemberId) (t u : Target) → AtClass c m t → AtClass c m u → t ≡ u
  one_at_class c m t u (inl p) (inl q) = p.1 ∙ sym q.1
  one_at_class c m t u (inl p) (inr q) = absurd (with_interface_or_not c m p.0 q.0)
  one_at_class c m t u (inr p) (inl q) = absurd (with_interface_or_not c m q.0 p.0)
  one_at_class c m t u (inr p) (inr q) = one_public_target c m t u p.1 q.1

  one_local_target : (heap : List NamedObject) (v : Value) (m : MemberId) (t u : Target) → LocalTarget classes heap v m t
      → LocalTarget classes heap v m u → t ≡ u
  one_local_target heap v m t u (c, runs, p) (d, too, q) =
      let same : c ≡ d = one_run_class heap v c d runs too in
      one_at_class d m t u (subst (λ (k : ClassId). AtClass k m t) same p) q

  one_through : (heap : List NamedObject) (k : CapId) (m : MemberId) (t u : Target) → InterfaceTarget classes heap (Held.Cap k) m t
      → InterfaceTarget classes heap (Held.Cap k) m u → t ≡ u
  one_through heap k m t u (inl p) (inl q) = p.1 ∙ sym q.1
  one_through heap k m t u (inl p) (inr q) = absurd (p.0 q.0)
  one_through heap k m t u (inr p) (inl q) = absurd (q.0 p.0)
  one_through heap k m t u (inr p) (inr q) = one_local_target heap (Held.Cap k) m t u p.1 q.1

  pub one_interface_target : (heap : List NamedObject) (v : Value) (m : MemberId) (t u : Target) → InterfaceTarget classes heap v m t
      → InterfaceTarget classes heap v m u → t ≡ u
  one_interface_target heap (Held.Cap k) m t u p q = one_through heap k m t u p q
  one_interface_target heap (Held.Obj n) m t u p q = one_local_target heap (Held.Obj n) m t u p q
  one_interface_target heap (Held.Int n) m t u p q = one_local_target heap (Held.Int n) m t u p q
  one_interface_target heap (Held.Long n) m t u p q = one_local_target heap (Held.Long n) m t u p q
  one_interface_target heap Held.Null m t u p q = one_local_target heap Held.Null m t u p q
  one_interface_target heap Held.Unset m t u p q = one_local_target heap Held.Unset m t u p q

  -- ---- From the running class.

  named_or_above : (self : ClassId) (m : MemberId) (method : MethodRecord) → IsRunAsNamed classes self m method
      → IsSelectedAbove classes self m method → ⊥
  named_or_above self m method (inl constructor) above = above.no_constructor constructor
  named_or_above self m method (inr (inl private)) above =
      both_ways (has method.flags PRIVATE) (not-true (has method.flags PRIVATE) above.not_private) private
  named_or_above self m method (inr (inr (inl own))) above = above.other own
  named_or_above self m method (inr (inr (inr never))) above = never above.above

  pub one_special_target : (self : ClassId) (m : MemberId) (method : MethodRecord) (t u : Target) → SpecialTarget classes self m method t
      → SpecialTarget classes self m method u → t ≡ u
  one_special_target self m method t u (inl p) (inl q) = p.1 ∙ sym q.1
  one_special_target self m method t u (inl p) (inr q) = absurd (named_or_above self m method p.0 q.1)
  one_special_target self m method t u (inr p) (inl q) = absurd (named_or_above self m method q.0 p.1)
  one_special_target self m method t u (inr p) (inr q) =
      let parent : p.0 ≡ q.0 = head_is p.0 q.0 [] [] (sym p.2 ∙ q.2) in
      one_selected_target q.0 m t u (subst (λ (c : ClassId). SelectedTarget classes c m t) parent p.3) q.3

-- ---- At a receiver, or at null.

pub one_at_receiver : (ComesTo : Value → Target → Type 0) → ((v : Value) (t u : Target) → ComesTo v t → ComesTo v u → t ≡ u)
    → (given : List Value) (t u : Target) → AtReceiver ComesTo given t → AtReceiver ComesTo given u → t ≡ u
one_at_receiver ComesTo one [] t u p q = absurd p
one_at_receiver ComesTo one (Held.Null ∷ given) t u p q = p ∙ sym q
one_at_receiver ComesTo one (Held.Int n ∷ given) t u p q = one (Held.Int n) t u p q
one_at_receiver ComesTo one (Held.Long n ∷ given) t u p q = one (Held.Long n) t u p q
one_at_receiver ComesTo one (Held.Obj n ∷ given) t u p q = one (Held.Obj n) t u p q
one_at_receiver ComesTo one (Held.Cap k ∷ given) t u p q = one (Held.Cap k) t u p q
one_at_receiver ComesTo one (Held.Unset ∷ given) t u p q = one Held.Unset t u p q
