-- What is of no other group of methods is of package jk.
use Rattle.std.proofs.Common.{◌≡◌, inl, inr, refl}
use Rattle.jk_model_system_rows.specs.declared.meanings.Shown.{Shown}
use Rattle.jk_model_system_rows.specs.declared.meanings.SystemMeaning.{SystemMeaning}
use Rattle.jk_model_system_rows.specs.declared.meanings.SystemMeaning.TheVariants as Means
use Rattle.system_calls.specs.MethodGroups.{IsOfBuffers, IsOfJk, IsOfObjects, IsOfTexts, Prints}

module _ (m : SystemMeaning) where
  pub no_text : (m ≡ Means.TextLength → ⊥) → (m ≡ Means.CharAt → ⊥) → (m ≡ Means.IsSameText → ⊥) → (m ≡ Means.Concat → ⊥)
      → (m ≡ Means.Substring → ⊥) → ((shown : Shown) → m ≡ Means.TextOf shown → ⊥) → IsOfTexts m → ⊥
  no_text a b c d e f (inl is) = a is
  no_text a b c d e f (inr (inl is)) = b is
  no_text a b c d e f (inr (inr (inl is))) = c is
  no_text a b c d e f (inr (inr (inr (inl is)))) = d is
  no_text a b c d e f (inr (inr (inr (inr (inl is))))) = e is
  no_text a b c d e f (inr (inr (inr (inr (inr (shown, is)))))) = f shown is

  pub no_buffer : (m ≡ Means.BufferInitialises → ⊥) → (m ≡ Means.BufferInitialisesWith → ⊥) → (m ≡ Means.BufferLength → ⊥)
      → (m ≡ Means.BufferText → ⊥) → ((shown : Shown) → m ≡ Means.Appends shown → ⊥) → IsOfBuffers m → ⊥
  no_buffer a b c d e (inl is) = a is
  no_buffer a b c d e (inr (inl is)) = b is
  no_buffer a b c d e (inr (inr (inl is))) = c is
  no_buffer a b c d e (inr (inr (inr (inl is)))) = d is
  no_buffer a b c d e (inr (inr (inr (inr (shown, is))))) = e shown is

  pub no_object : (m ≡ Means.Initialises → ⊥) → (m ≡ Means.IsSame → ⊥) → (m ≡ Means.ParsesInt → ⊥) → (m ≡ Means.SetsMessage → ⊥)
      → (m ≡ Means.GetsMessage → ⊥) → IsOfObjects m → ⊥
  no_object a b c d e (inl is) = a is
  no_object a b c d e (inr (inl is)) = b is
  no_object a b c d e (inr (inr (inl is))) = c is
  no_object a b c d e (inr (inr (inr (inl is)))) = d is
  no_object a b c d e (inr (inr (inr (inr is)))) = e is

pub left_over : (m : SystemMeaning) → (IsOfTexts m → ⊥) → (IsOfBuffers m → ⊥) → (IsOfObjects m → ⊥) → (m ≡ Means.CopiesArray → ⊥) → (Prints m → ⊥)
    → IsOfJk m
left_over Means.TextLength t b o c p = absurd (t (inl refl))
left_over Means.CharAt t b o c p = absurd (t (inr (inl refl)))
left_over Means.IsSameText t b o c p = absurd (t (inr (inr (inl refl))))
left_over Means.Concat t b o c p = absurd (t (inr (inr (inr (inl refl)))))
left_over Means.Substring t b o c p = absurd (t (inr (inr (inr (inr (inl refl))))))
left_over (Means.TextOf shown) t b o c p = absurd (t (inr (inr (inr (inr (inr ((shown, refl))))))))
left_over Means.BufferInitialises t b o c p = absurd (b (inl refl))
left_over Means.BufferInitialisesWith t b o c p = absurd (b (inr (inl refl)))
left_over Means.BufferLength t b o c p = absurd (b (inr (inr (inl refl))))
left_over Means.BufferText t b o c p = absurd (b (inr (inr (inr (inl refl)))))
left_over (Means.Appends shown) t b o c p = absurd (b (inr (inr (inr (inr ((shown, refl)))))))
left_over Means.Initialises t b o c p = absurd (o (inl refl))
left_over Means.IsSame t b o c p = absurd (o (inr (inl refl)))
left_over Means.ParsesInt t b o c p = absurd (o (inr (inr (inl refl))))
left_over Means.SetsMessage t b o c p = absurd (o (inr (inr (inr (inl refl)))))
left_over Means.GetsMessage t b o c p = absurd (o (inr (inr (inr (inr refl)))))
left_over Means.CopiesArray t b o c p = absurd (c refl)
left_over Means.PrintsEmptyLine t b o c p = absurd (p (inl refl))
left_over (Means.Prints shown) t b o c p = absurd (p (inr (shown, refl)))
left_over Means.NamesDomain t b o c p = inl (inl refl)
left_over Means.CountsFreeWords t b o c p = inl (inr (inl refl))
left_over Means.GetsTask t b o c p = inl (inr (inr refl))
left_over Means.CreatesCapability t b o c p = inr (inl (inl refl))
left_over Means.RevokesCapability t b o c p = inr (inl (inr refl))
left_over Means.BindsName t b o c p = inr (inr (inl (inl refl)))
left_over Means.LooksUpName t b o c p = inr (inr (inl (inr (inl refl))))
left_over Means.UnbindsName t b o c p = inr (inr (inl (inr (inr refl))))
left_over Means.SuspendsTask t b o c p = inr (inr (inr (inl (inl refl))))
left_over Means.ResumesTask t b o c p = inr (inr (inr (inl (inr (inl refl)))))
left_over Means.StopsTask t b o c p = inr (inr (inr (inl (inr (inr refl)))))
left_over Means.TerminatesDomain t b o c p = inr (inr (inr (inr refl)))
