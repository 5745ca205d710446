-- What a frame names stays known where entries of its stack are replaced by known ones, and an instruction on numbers makes no new names.
use Rattle.std.proofs.Common.{◌≡◌, inl, inr, ℕ, zero, suc, List, [], ◌∷◌, ◌++◌, replicate, set, Some, sym, subst}
use Rattle.std.specs.List.{AllByRecursion}
use Rattle.list_lemmas.proofs.LastItems.{each-append}
use Rattle.jk_model.specs.declared.instructions.Instr.{Instr}
use Rattle.jk_model.specs.declared.steps.After.{After}
use Rattle.jk_model.specs.declared.steps.After.TheVariants as Next
use Rattle.jk_model.specs.declared.values.Value.{Value}
use Rattle.jk_model.specs.declared.values.Value.TheVariants as Held
use Rattle.jk_model.proofs.EachItem.{all_at}
use Rattle.jk_model_typing.specs.Scopes.{CodeScope}
use Rattle.jk_model_frames.specs.Frames.{FrameState}
use Rattle.jk_model_domains.specs.NumberRows.{Calculates, Exchanges, IsConversion, Moves, NumberRow, Pushes, Replaces, UsesLocal, divides_by_zero, exchanges, jumps, returns, returns_nothing, switches, uses_local, with_value}
use Rattle.jk_model_domains.specs.Objects.{NamedObject}
use Rattle.jk_model_heaps.specs.Capabilities.{CapRange}
use Rattle.jk_model_sealing.specs.SealedInsides.{IsKnownValue}
use Rattle.jk_model_sealing.specs.SealedRuns.{NamesKnown}

-- ---- Parts of lists.

module _ {X : Type 0} (P : X → Type 0) where
  pub known-parts : (xs ys : List X) → AllByRecursion P (xs ++ ys) → AllByRecursion P xs × AllByRecursion P ys
  known-parts [] ys h = (tt, h)
  known-parts (x ∷ xs) ys h = let more = known-parts xs ys h.1 in ((h.0, more.0), more.1)

module _ (caps : List CapRange) (heap : List NamedObject) where
  abbrev pub AreKnown : List Value → Type 0
  AreKnown vs = AllByRecursion (IsKnownValue caps heap) vs

  -- ---- Lists of values.

  set-known : (vs : List Value) (n : ℕ) (v : Value) → AreKnown vs → IsKnownValue caps heap v → AreKnown (set vs n v)
  set-known [] n v h k = tt
  set-known (w ∷ vs) zero v h k = (k, h.1)
  set-known (w ∷ vs) (suc n) v h k = (h.0, set-known vs n v h.1 k)

  with-known : (vs : List Value) (n : ℕ) (v : Value) → AreKnown vs → IsKnownValue caps heap v → AreKnown (with_value vs n v)
  with-known vs n (Held.Long x) h k = set-known (set vs n (Held.Long x)) (suc n) Held.Unset (set-known vs n (Held.Long x) h tt) tt
  with-known vs n (Held.Int x) h k = set-known vs n (Held.Int x) h k
  with-known vs n Held.Null h k = set-known vs n Held.Null h k
  with-known vs n (Held.Obj a) h k = set-known vs n (Held.Obj a) h k
  with-known vs n (Held.Cap c) h k = set-known vs n (Held.Cap c) h k
  with-known vs n Held.Unset h k = set-known vs n Held.Unset h k

  pub unset-known : (n : ℕ) → AreKnown (replicate n Held.Unset)
  unset-known zero = tt
  unset-known (suc n) = (tt, unset-known n)

  -- ---- Entries that are taken off the stack, and others in their place.

  pub taken-known : (f g : FrameState) (taken pushed : List Value) → NamesKnown caps heap f → Replaces f g taken pushed → AreKnown taken
  taken-known f g taken pushed h rep = (known-parts (IsKnownValue caps heap) rep.below taken (subst AreKnown rep.before h.1)).1

  pub replaced-known : (f g : FrameState) (taken pushed : List Value) → NamesKnown caps heap f → Replaces f g taken pushed → AreKnown pushed
      → NamesKnown caps heap g
  replaced-known f g taken pushed h rep k =
      let below = (known-parts (IsKnownValue caps heap) rep.below taken (subst AreKnown rep.before h.1)).0 in
      let there : NamesKnown caps heap (let x : FrameState = record f { stack = rep.below ++ pushed } in x) =
      (h.0, each-append (IsKnownValue caps heap) rep.below pushed below k) in
      subst (NamesKnown caps heap) (sym rep.after) there

  -- ---- Instructions on numbers.

  one-known : (v : Value) (pushed : List Value) → IsKnownValue caps heap v → pushed ≡ v ∷ [] → AreKnown pushed
  one-known v pushed k e = subst AreKnown (sym e) (k, tt)

  pushes-known : (s : CodeScope) (i : Instr) (pushed : List Value) → Pushes s i pushed → AreKnown pushed
  pushes-known s i pushed (inl h) = subst AreKnown (sym h.1) tt
  pushes-known s i pushed (inr (inl h)) = one-known Held.Null pushed tt h.1
  pushes-known s i pushed (inr (inr (inl h))) = one-known (Held.Int i.a) pushed tt h.1
  pushes-known s i pushed (inr (inr (inr (inl h)))) = one-known (Held.Long i.a) pushed tt h.1
  pushes-known s i pushed (inr (inr (inr (inr (inl h))))) = one-known (Held.Int h.1.0) pushed tt h.1.2
  pushes-known s i pushed (inr (inr (inr (inr (inr h))))) = one-known (Held.Long h.1.0) pushed tt h.1.2

  moves-known : (op : ℕ) (taken pushed : List Value) → AreKnown taken → Moves op taken pushed → AreKnown pushed
  moves-known op taken pushed k (inl h) = subst AreKnown (sym h.3) tt
  moves-known op taken pushed k (inr (inl h)) =
      let parts = known-parts (IsKnownValue caps heap) h.2 h.3 (subst AreKnown h.7 k) in
      subst AreKnown (sym h.8)
      (each-append (IsKnownValue caps heap) (h.3 ++ h.2) h.3 (each-append (IsKnownValue caps heap) h.3 h.2 parts.1 parts.0) parts.1)
  moves-known op taken pushed k (inr (inr h)) =
      let two : AreKnown (h.1.0 ∷ h.1.1 ∷ []) = subst AreKnown h.1.4 k in
      subst AreKnown (sym h.1.5) (two.1.0, (two.0, tt))

  converts-known : (op : ℕ) (v w : Value) (pushed : List Value) → IsConversion op v w → pushed ≡ w ∷ [] → AreKnown pushed
  converts-known op (Held.Int x) w pushed (inl a) e = one-known w pushed (subst (IsKnownValue caps heap) (sym a.1) tt) e
  converts-known op (Held.Int x) w pushed (inr (inl a)) e = one-known w pushed (subst (IsKnownValue caps heap) (sym a.1) tt) e
  converts-known op (Held.Int x) w pushed (inr (inr (inl a))) e = one-known w pushed (subst (IsKnownValue caps heap) (sym a.1) tt) e
  converts-known op (Held.Int x) w pushed (inr (inr (inr (inl a)))) e = one-known w pushed (subst (IsKnownValue caps heap) (sym a.1) tt) e
  converts-known op (Held.Int x) w pushed (inr (inr (inr (inr a)))) e = one-known w pushed (subst (IsKnownValue caps heap) (sym a.1) tt) e
  converts-known op (Held.Long x) w pushed (inl a) e = one-known w pushed (subst (IsKnownValue caps heap) (sym a.1) tt) e
  converts-known op (Held.Long x) w pushed (inr a) e = one-known w pushed (subst (IsKnownValue caps heap) (sym a.1) tt) e
  converts-known op Held.Null w pushed h e = absurd h
  converts-known op (Held.Obj a) w pushed h e = absurd h
  converts-known op (Held.Cap k) w pushed h e = absurd h
  converts-known op Held.Unset w pushed h e = absurd h

  calculates-known : (op : ℕ) (taken pushed : List Value) → Calculates op taken pushed → AreKnown pushed
  calculates-known op taken pushed (inl h) = one-known _ pushed tt h.5
  calculates-known op taken pushed (inr (inl h)) = one-known _ pushed tt h.6
  calculates-known op taken pushed (inr (inr (inl h))) = one-known _ pushed tt h.5
  calculates-known op taken pushed (inr (inr (inr (inl h)))) = one-known _ pushed tt h.6
  calculates-known op taken pushed (inr (inr (inr (inr (inl h))))) = one-known _ pushed tt h.5
  calculates-known op taken pushed (inr (inr (inr (inr (inr (inl h)))))) = one-known _ pushed tt h.4
  calculates-known op taken pushed (inr (inr (inr (inr (inr (inr h)))))) = converts-known op h.0 h.1 pushed h.2 h.4

  exchanges-known : (s : CodeScope) (i : Instr) (taken pushed : List Value) → AreKnown taken → Exchanges s i taken pushed → AreKnown pushed
  exchanges-known s i taken pushed k (inl h) = pushes-known s i pushed h.1
  exchanges-known s i taken pushed k (inr (inl h)) = moves-known i.op taken pushed k h
  exchanges-known s i taken pushed k (inr (inr h)) = calculates-known i.op taken pushed h

  local-known : (i : Instr) (f g : FrameState) → NamesKnown caps heap f → UsesLocal i f g → NamesKnown caps heap g
  local-known i f g h (inl u) =
      let v = u.1 in
      let one = all_at (IsKnownValue caps heap) f.locals u.0 v h.0 u.4 in
      subst (NamesKnown caps heap) (sym u.5) (h.0, each-append (IsKnownValue caps heap) f.stack (v ∷ []) h.1 (one, tt))
  local-known i f g h (inr (inl u)) =
      let parts = known-parts (IsKnownValue caps heap) u.2 (u.1 ∷ []) (subst AreKnown u.5 h.1) in
      subst (NamesKnown caps heap) (sym u.7) (with-known f.locals u.0 u.1 h.0 parts.1.0, parts.0)
  local-known i f g h (inr (inr u)) = subst (NamesKnown caps heap) (sym u.5) (set-known f.locals u.0 _ h.0 tt, h.1)

  module _ (s : CodeScope) (place : ℕ) (i : Instr) (f g : FrameState) (h : NamesKnown caps heap f) where
    pub number-known : (a : After) → NumberRow s place i f g a → NamesKnown caps heap g
    number-known a (exchanges taken pushed ex rep) =
        replaced-known f g taken pushed h rep (exchanges-known s i taken pushed (taken-known f g taken pushed h rep) ex)
    number-known a (uses_local u) = local-known i f g h u
    number-known a (jumps taken holds n d rep at) = replaced-known f g taken [] h rep tt
    number-known a (switches key n op rep at) = replaced-known f g (Held.Int key ∷ []) [] h rep tt
    number-known a (divides_by_zero taken d on same) = subst (NamesKnown caps heap) (sym same) h
    number-known a (returns v op rep) = replaced-known f g (v ∷ []) [] h rep tt
    number-known a (returns_nothing op same) = subst (NamesKnown caps heap) (sym same) h

    -- a value that is returned was on the stack
    pub returned-known : (a : After) → NumberRow s place i f g a → (v : Value) → a ≡ Next.Return (Some v) → IsKnownValue caps heap v
    returned-known a (exchanges taken pushed ex rep) v e = absurd cc
    returned-known a (uses_local u) v e = absurd cc
    returned-known a (jumps taken holds n d rep at) v e = absurd cc
    returned-known a (switches key n op rep at) v e = absurd cc
    returned-known a (divides_by_zero taken d on same) v e = absurd cc
    returned-known a (returns w op rep) v e =
        let same : w ≡ v = cc in
        subst (IsKnownValue caps heap) same (taken-known f g (w ∷ []) [] h rep).0
    returned-known a (returns_nothing op same) v e = absurd cc
