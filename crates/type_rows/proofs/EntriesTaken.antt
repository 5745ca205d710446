-- Entries that meet demands, taken from the top one after another.
use Rattle.std.proofs.Common.{◌≡◌, ℕ, zero, suc, ◌+◌, ◌≤◌, true, false, List, [], ◌∷◌, ◌++◌, length, drop, Some, slice_get, refl, sym, ap, subst, ◌∙◌, append_assoc, add-one, arith}
use Rattle.std.proofs.lemmas.List.{append-nil}
use Rattle.list_lemmas.proofs.EndsOfLists.{one_split}
use Rattle.list_lemmas.proofs.ItemsByPlace.{drop_next}
use Rattle.jk_model_typing.specs.declared.frames.VType.{VType}
use Rattle.jk_model_typing.specs.declared.frames.Demand.{Demand}
use Rattle.jk_model_typing.specs.Rows.{AllMeet, Meets}
use Rattle.jk_model_typing.specs.Scopes.{CodeScope}
use Rattle.type_rows.specs.Steps.{IsTaken}

-- ---- Lists with the same end.

pub drop_at : {X : Type 0} (xs : List X) (k : ℕ) (x : X) → slice_get xs k ≡ Some x → drop k xs ≡ x ∷ drop (k + 1) xs
drop_at xs k x e = rw add-one (drop_next xs k x e)

pub drop_end : {X : Type 0} (xs : List X) (k : ℕ) → k ≡ length xs → drop k xs ≡ []
drop_end [] zero e = refl
drop_end [] (suc k) e = refl
drop_end (x ∷ xs) zero e = absurd (omega (arith, e))
drop_end (x ∷ xs) (suc k) e = drop_end xs k (omega (arith, e))

module _ (s : CodeScope) where
  pub as_many : (ds : List Demand) (vs : List VType) → AllMeet s ds vs → length ds ≡ length vs
  as_many [] [] h = refl
  as_many [] (v ∷ vs) h = absurd h
  as_many (d ∷ ds) [] h = absurd h
  as_many (d ∷ ds) (v ∷ vs) h = ap suc (as_many ds vs h.1)

  -- what meets a list of demands from some place on
  pub record MeetFrom (k : ℕ) (ds : List Demand) (vs : List VType) : Type 0 where
    pub front : List VType
    pub back : List VType
    pub whole : vs ≡ front ++ back
    pub meet : AllMeet s (drop k ds) back

  pub meet_from : (k : ℕ) (ds : List Demand) (vs : List VType) → AllMeet s ds vs → MeetFrom k ds vs
  meet_from zero ds vs h = record { front = []; back = vs; whole = refl; meet = h }
  meet_from (suc k) [] [] h = record { front = []; back = []; whole = refl; meet = h }
  meet_from (suc k) [] (v ∷ vs) h = absurd h
  meet_from (suc k) (d ∷ ds) [] h = absurd h
  meet_from (suc k) (d ∷ ds) (v ∷ vs) h =
      let more = meet_from k ds vs h.1 in
      record { front = v ∷ more.front; back = more.back; whole = ap (λ xs. v ∷ xs) more.whole; meet = more.meet }

  -- the entries for the demands from this place on were taken
  pub record AreTakenFrom (ds : List Demand) (k : ℕ) (before now : List VType) : Type 0 where
    pub within : k ≤ length ds
    pub taken : List VType
    pub stack : before ≡ now ++ taken
    pub meet : AllMeet s (drop k ds) taken

  pub none_yet : (ds : List Demand) (k : ℕ) (before : List VType) → k ≡ length ds → AreTakenFrom ds k before before
  none_yet ds k before e = record {
    within = omega (arith, e);
    taken = [];
    stack = sym (append-nil before);
    meet = subst (λ (xs : List Demand). AllMeet s xs []) (sym (drop_end ds k e)) tt;
  }

  pub one_more : (ds : List Demand) (k j : ℕ) (d : Demand) (v : VType) (before now next : List VType)
      → AreTakenFrom ds k before now → k ≡ j + 1 → slice_get ds j ≡ Some d → now ≡ next ++ v ∷ [] → Meets s d v
      → AreTakenFrom ds j before next
  one_more ds k j d v before now next h e at top meets =
      let same : drop (j + 1) ds ≡ drop k ds = ap (λ n. drop n ds) (sym e) in
      let whole : drop j ds ≡ d ∷ drop k ds = drop_at ds j d at ∙ ap (λ xs. d ∷ xs) same in
      record {
        within = omega (arith, h.within, e);
        taken = v ∷ h.taken;
        stack = h.stack ∙ ap (λ xs. xs ++ h.taken) top ∙ append_assoc next (v ∷ []) h.taken;
        meet = subst (λ (xs : List Demand). AllMeet s xs (v ∷ h.taken)) (sym whole) (meets, h.meet);
      }

  -- the entry for one more demand is missing
  pub none_more : (ds : List Demand) (k j : ℕ) (d : Demand) (before now after : List VType)
      → AreTakenFrom ds k before now → k ≡ j + 1 → slice_get ds j ≡ Some d
      → ((below : List VType) (v : VType) → now ≡ below ++ v ∷ [] → Meets s d v → ⊥)
      → IsTaken s ds before false after
  none_more ds k j d before now after h e at none = record {
    holds = λ yes. absurd cc;
    fails = λ _ below taken stack meet.
        let same : drop (j + 1) ds ≡ drop k ds = ap (λ n. drop n ds) (sym e) in
        let whole : drop j ds ≡ d ∷ drop k ds = drop_at ds j d at ∙ ap (λ xs. d ∷ xs) same in
        let from = meet_from j ds taken meet in
        missing below from.front from.back (stack ∙ ap (λ xs. below ++ xs) from.whole)
        (subst (λ (xs : List Demand). AllMeet s xs from.back) whole from.meet);
  }
    where
      missing : (below front back : List VType) → before ≡ below ++ (front ++ back) → AllMeet s (d ∷ drop k ds) back → ⊥
      missing below front [] whole meet = absurd meet
      missing below front (v ∷ back) whole meet =
          let split : now ++ h.taken ≡ (below ++ front ++ v ∷ []) ++ back =
          sym h.stack ∙ whole ∙ simp append_assoc in
          let many : length h.taken ≡ length back =
          sym (as_many (drop k ds) h.taken h.meet) ∙ as_many (drop k ds) back meet.1 in
          let both = one_split now (below ++ front ++ v ∷ []) h.taken back split many in
          none (below ++ front) v both.0 meet.0

  pub all_taken : (ds : List Demand) (k : ℕ) (before now : List VType) → AreTakenFrom ds k before now → k ≡ 0
      → IsTaken s ds before true now
  all_taken ds k before now h e = record {
    holds = λ _. (h.taken, h.stack, subst (λ n. AllMeet s (drop n ds) h.taken) e h.meet);
    fails = λ no. absurd cc;
  }
