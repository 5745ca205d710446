-- A frame joined into that of a place: what the frames and the work are after it.
use Rattle.std.proofs.Common.{◌≡◌, ◌≢◌, ℕ, ◌+◌, ◌<◌, ◌≤◌, ◌⊎◌, Bool, false, IsTrue, List, [], ◌∷◌, length, set, Contains, Option, Some, None, slice_get, refl, sym, ap, subst, ◌∙◌, inl, inr, arith, get_or, true}
use Rattle.std.proofs.lemmas.Option.{same_Some, slice_get_within, get_or_from_slice_get, slice_get_read}
use Rattle.std.proofs.lemmas.Bool.{cases_eq, false≢true}
use Rattle.std.proofs.lemmas.List.{length-set}
use Rattle.std.proofs.lemmas.List.Sums.{sum_by-set}
use Rattle.std.specs.declared.cmp.Ordering.{Ordering}
use Rattle.std.specs.declared.cmp.Ordering.TheVariants.{Less, Equal, Greater}
use Rattle.std.specs.Ordering.{nat_cmp, match_ordering}
use Rattle.std.specs.BTreeSet.{insert_key}
use Rattle.std.proofs.lemmas.Map.Lookups.{exact_unsigned}
use Rattle.jk_model_classes.specs.Classes.{AreOrdered}
use Rattle.jk_model_typing.specs.declared.frames.FrameType.{FrameType}
use Rattle.jk_model_typing.specs.FrameTypes.{FrameFits, IsFrameOf}
use Rattle.jk_model_typing.specs.Typing.{FrameAt, FitsAt}
use Rattle.type_frames.specs.FrameJoins.{FitOutside}
use Rattle.type_frames.specs.Heights.{place_height}
use Rattle.list_lemmas.proofs.ItemsByPlace.{slice_get-set_same, slice_get-set_other, slice_get-set_cases}
use Rattle.list_lemmas.proofs.ItemsOfLists.{Contains-here, Contains-there, Contains-cases}
use Rattle.type_verifier.specs.declared.ranges.LocalRange.{LocalRange}
use Rattle.type_verifier.specs.declared.tasks.Task.{Task}
use Rattle.type_verifier.specs.Leaders.{Leads}
use Rattle.type_verifier.specs.Progress.{AreFrames, HasNoted, Moves, Notes}
use Rattle.type_verifier.specs.Ranges.{IsNoteAt, IsWhole, IsWithin, RangeAt, RoseFrom}
use Rattle.type_verifier.specs.Rises.{RisesTo, CannotRise}
use Rattle.type_verifier.specs.Tasks.{IsTask, scope_in, TypesTask, HasNoTyping}
use Rattle.type_frames.proofs.HeightsAreBounded.{frame_height-most}
use Rattle.type_frames.proofs.OrderOfFrames.{EachFits-length, FrameFits-refl}
use Rattle.type_verifier.proofs.FramesInOrder.{IsFrameOf-above}
use Rattle.type_verifier.proofs.MovesCompose.{FrameAt-one, RoseFrom-refl}
use Rattle.type_verifier.proofs.PartsOfLocals.{FitOutside-wider, join-outside}

-- ---- The work, after a place was put into it.

insert_key-has : (ks : List ℕ) (k : ℕ) → Contains (insert_key nat_cmp ks k) k
insert_key-has [] k = Contains-here k []
insert_key-has (x ∷ xs) k =
    let P : Ordering → Type 0 = λ o. nat_cmp k x ≡ o → Contains (match_ordering o (k ∷ x ∷ xs) (x ∷ xs) (x ∷ insert_key nat_cmp xs k)) k in
    (elim (nat_cmp k x) as P [
      | Less ↦ λ e. Contains-here k (x ∷ xs)
      | Equal ↦ λ e. subst (λ (y : ℕ). Contains (y ∷ xs) k) (exact_unsigned k x e) (Contains-here k xs)
      | Greater ↦ λ e. Contains-there k x (insert_key nat_cmp xs k) (insert_key-has xs k)
    ]) refl

insert_key-keeps : (ks : List ℕ) (k p : ℕ) → Contains ks p → Contains (insert_key nat_cmp ks k) p
insert_key-keeps [] k p h = Contains-there p k [] h
insert_key-keeps (x ∷ xs) k p h =
    let P : Ordering → Type 0 = λ o. Contains (match_ordering o (k ∷ x ∷ xs) (x ∷ xs) (x ∷ insert_key nat_cmp xs k)) p in
    elim (nat_cmp k x) as P [
      | Less ↦ Contains-there p k (x ∷ xs) h
      | Equal ↦ h
      | Greater ↦ elim (Contains-cases p x xs h) [
        | inl e ↦ subst (λ (y : ℕ). Contains (y ∷ insert_key nat_cmp xs k) p) (sym e) (Contains-here p (insert_key nat_cmp xs k))
        | inr rest ↦ Contains-there p x (insert_key nat_cmp xs k) (insert_key-keeps xs k p rest)
      ]
    ]

length-insert_key : (ks : List ℕ) (k : ℕ) → length (insert_key nat_cmp ks k) ≤ length ks + 1
length-insert_key [] k = omega arith
length-insert_key (x ∷ xs) k =
    let P : Ordering → Type 0 = λ o. length (match_ordering o (k ∷ x ∷ xs) (x ∷ xs) (x ∷ insert_key nat_cmp xs k)) ≤ length (x ∷ xs) + 1 in
    elim (nat_cmp k x) as P [
      | Less ↦ omega arith
      | Equal ↦ omega arith
      | Greater ↦ let rest = length-insert_key xs k in omega arith
    ]

nat_cases : (m n : ℕ) → (m ≡ n) ⊎ (m ≢ n)
nat_cases m n = cases_eq m n

-- ---- What a frame joined into what a place had leaves there.

module _ (task : Task) (ordered : AreOrdered (scope_in task).classes) (old : List (Option FrameType)) (place : ℕ) (from : FrameType)
    (are : AreFrames task old) (sized : IsFrameOf (scope_in task).code from) (leader : Leads task.leads.items place)
    (below : (typing : List (Option FrameType)) → TypesTask task typing → FitsAt (scope_in task) typing place from) where
  record Raised (o n : Option FrameType) : Type 0 where
    now : FrameType
    is : n ≡ Some now
    right : FrameFits (scope_in task).classes from now
    left : (f : FrameType) → o ≡ Some f → FrameFits (scope_in task).classes f now
    in_typings : (typing : List (Option FrameType)) → TypesTask task typing → FitsAt (scope_in task) typing place now

  raised : (o : Option FrameType) (rose : Bool) (n : Option FrameType) → slice_get old place ≡ Some o
      → RisesTo (scope_in task).classes o from rose n → Raised o n
  raised None rose n at rises = record {
    now = from;
    is = rises.1;
    right = FrameFits-refl (scope_in task).classes from sized.usable;
    left = λ f e. absurd cc;
    in_typings = below;
  }
  raised (Some f) rose n at (g, is, rise) = record {
    now = g;
    is = is;
    right = rise.join.right;
    left = λ x e. subst (λ (y : FrameType). FrameFits (scope_in task).classes y g) (same_Some f x e) rise.join.left;
    in_typings = λ typing types.
        let (h, ht, fit) = below typing types in
        let (k, kt, fits) = are.below typing types place f at in (
          h,
          ht,
          rise.join.least h
              (subst (λ (y : FrameType). FrameFits (scope_in task).classes f y) (FrameAt-one typing place k h kt ht) fits) fit,
        );
  }

  falls : (o : Option FrameType) (rose : Bool) (n : Option FrameType) → RisesTo (scope_in task).classes o from rose n → IsTrue rose
      → place_height (scope_in task).classes (scope_in task).code n < place_height (scope_in task).classes (scope_in task).code o
  falls None rose n rises risen = rw rises.1 (frame_height-most (scope_in task).classes (scope_in task).code from sized)
  falls (Some f) rose n (g, is, rise) risen = rw is (rise.falls risen)

  stays : (o : Option FrameType) (rose : Bool) (n : Option FrameType) → RisesTo (scope_in task).classes o from rose n → rose ≡ false
      → n ≡ o
  stays None rose n rises stayed = absurd (false≢true (subst IsTrue stayed rises.0))
  stays (Some f) rose n (g, is, rise) stayed = is ∙ ap Some (rise.same stayed)

  -- what is noted of the place
  module _ (ranges new_ranges : List LocalRange) (known looked range : LocalRange) (is_known : RangeAt ranges place known)
      (note : IsNoteAt ranges place range new_ranges) where
    noted-here : (o : Option FrameType) (rose : Bool) (n : Option FrameType) → slice_get old place ≡ Some o
        → RisesTo (scope_in task).classes o from rose n → (o ≡ None → (range.first ≡ 0) × (range.end ≡ length from.locals))
        → ((f : FrameType) → o ≡ Some f → IsWithin known range) → ((f : FrameType) → o ≡ Some f → IsWithin looked range)
        → ((f : FrameType) → o ≡ Some f → FitOutside (scope_in task).classes looked.first looked.end from.locals f.locals)
        → (f : FrameType) (r : LocalRange) → n ≡ Some f → slice_get new_ranges place ≡ Some r
        → HasNoted (scope_in task) old ranges place f r
    noted-here None rose n at rises first has_known has_looked out f r e there =
        let whole = first refl in
        let all : IsWhole (scope_in task) range = (whole.0, omega (arith, whole.1, sized.locals)) in
        subst (λ (q : LocalRange). HasNoted (scope_in task) old ranges place f q) (sym (note.here r there).0) (inl all)
    noted-here (Some g) rose n at (h, is, rise) first has_known has_looked out f r e there =
        let (same, (k, at_k)) = note.here r there in
        let had : IsWithin k range = subst (λ (q : LocalRange). IsWithin q range) (is_known k at_k) (has_known g refl) in
        let from_old : RoseFrom (scope_in task) g k h range = record {
          within = had;
          as_many = EachFits-length (scope_in task).classes g.locals h.locals rise.join.left.locals;
          outside = FitOutside-wider (scope_in task).classes looked range h.locals g.locals (has_looked g refl)
              (join-outside (scope_in task).classes g from h looked.first looked.end rise.join (out g refl));
        } in
        let one : h ≡ f = same_Some h f (sym is ∙ e) in
        subst (λ (q : LocalRange). HasNoted (scope_in task) old ranges place f q) (sym same)
        (inr (g, k, at, at_k, subst (λ (x : FrameType). RoseFrom (scope_in task) g k x range) one from_old))

  module _ (o : Option FrameType) (rose : Bool) (n : Option FrameType) (at : slice_get old place ≡ Some o)
      (rises : RisesTo (scope_in task).classes o from rose n) where
    there : slice_get (set old place n) place ≡ Some n
    there = slice_get-set_same old place n (slice_get_within old place o at)

    pub raised-frames : AreFrames task (set old place n)
    raised-frames =
        let r = raised o rose n at rises in
        let same : (f : FrameType) → n ≡ Some f → r.now ≡ f = λ f e. same_Some r.now f (sym r.is ∙ e) in
        record {
          as_many = length-set old place n ∙ are.as_many;
          sized = λ other f h. elim (slice_get-set_cases old place other n (Some f) h) [
            | inl (e, is) ↦ subst (λ (y : FrameType). IsFrameOf (scope_in task).code y) (same f is)
                (IsFrameOf-above (scope_in task).classes (scope_in task).code from r.now sized r.right)
            | inr before ↦ are.sized other f before
          ];
          leaders = λ other f h. elim (slice_get-set_cases old place other n (Some f) h) [
            | inl (e, is) ↦ subst (λ (p : ℕ). Leads task.leads.items p) e leader
            | inr before ↦ are.leaders other f before
          ];
          below = λ typing types other f h. elim (slice_get-set_cases old place other n (Some f) h) [
            | inl (e, is) ↦ subst (λ (p : ℕ). FitsAt (scope_in task) typing p f) e
                (subst (λ (y : FrameType). FitsAt (scope_in task) typing place y) (same f is) (r.in_typings typing types))
            | inr before ↦ are.below typing types other f before
          ];
        }

    pub raised-fits : FitsAt (scope_in task) (set old place n) place from
    raised-fits = let r = raised o rose n at rises in (r.now, there ∙ ap Some r.is, r.right)

    grows : (other : ℕ) (f : FrameType) → FrameAt old other f → FitsAt (scope_in task) (set old place n) other f
    grows other f h = elim (nat_cases place other) [
      | inl e ↦
          let r = raised o rose n at rises in
          let had : o ≡ Some f = same_Some o (Some f) (sym at ∙ ap (slice_get old) e ∙ h) in
          subst (λ (p : ℕ). FitsAt (scope_in task) (set old place n) p f) e (r.now, there ∙ ap Some r.is, r.left f had)
      | inr apart ↦ (f, slice_get-set_other old place other n apart ∙ h, FrameFits-refl (scope_in task).classes f (are.sized other f h).usable)
    ]

    pub raised-moves : (work : List ℕ) (ranges new_ranges : List LocalRange) (known looked range : LocalRange) → IsTrue rose
        → RangeAt ranges place known → IsNoteAt ranges place range new_ranges
        → (o ≡ None → (range.first ≡ 0) × (range.end ≡ length from.locals))
        → ((f : FrameType) → o ≡ Some f → IsWithin known range) → ((f : FrameType) → o ≡ Some f → IsWithin looked range)
        → ((f : FrameType) → o ≡ Some f → FitOutside (scope_in task).classes looked.first looked.end from.locals f.locals)
        → Moves (scope_in task) old (record { work = work; rose = ranges }) (set old place n)
        (record { work = insert_key nat_cmp work place; rose = new_ranges })
    raised-moves work ranges new_ranges known looked range risen is_known note first has_known has_looked out = record {
      grows = grows;
      pending = λ other. elim (nat_cases place other) [
        | inl e ↦ inr (subst (λ (p : ℕ). Contains (insert_key nat_cmp work place) p) e (insert_key-has work place))
        | inr apart ↦ inl (slice_get-set_other old place other n apart)
      ];
      kept = λ other h. insert_key-keeps work place other h;
      as_many = note.as_many;
      noted = λ other f r h is. elim (nat_cases place other) [
        | inl e ↦
            let back : FrameAt (set old place n) place f = subst (λ (p : ℕ). FrameAt (set old place n) p f) (sym e) h in
            let noted_there = subst (λ (p : ℕ). slice_get new_ranges p ≡ Some r) (sym e) is in
            let here : n ≡ Some f = same_Some n (Some f) (sym there ∙ back) in
            let noted : HasNoted (scope_in task) old ranges place f r =
            noted-here ranges new_ranges known looked range is_known note o rose n at rises first has_known has_looked out f r here noted_there in
            subst (λ (p : ℕ). HasNoted (scope_in task) old ranges p f r) e noted
        | inr apart ↦ inr (
          f,
          r,
          sym (slice_get-set_other old place other n apart) ∙ h,
          note.others other r (λ e. apart (sym e)) is,
          RoseFrom-refl (scope_in task) f r,
        )
      ];
      cost =
          let height = place_height (scope_in task).classes (scope_in task).code in
          let less = falls o rose n rises risen in
          let sums = sum_by-set height old place n o (slice_get_within old place o at) in
          let had = ap height (get_or_from_slice_get old place o o at) in
          omega (arith, length-insert_key work place);
    }

    pub stays-moves : (notes : Notes) → rose ≡ false → Moves (scope_in task) old notes (set old place n) notes
    stays-moves notes stayed =
        let unchanged : (other : ℕ) → slice_get (set old place n) other ≡ slice_get old other = λ other. elim (nat_cases place other) [
          | inl e ↦ subst (λ (p : ℕ). slice_get (set old place n) p ≡ slice_get old p) e
              (there ∙ ap Some (stays o rose n rises stayed) ∙ sym at)
          | inr apart ↦ slice_get-set_other old place other n apart
        ] in
        record {
          grows = grows;
          pending = λ other. inl (unchanged other);
          kept = λ other h. h;
          as_many = refl;
          noted = λ other f r h is. inr (f, r, sym (unchanged other) ∙ h, is, RoseFrom-refl (scope_in task) f r);
          cost =
              let height = place_height (scope_in task).classes (scope_in task).code in
              let same = ap height (stays o rose n rises stayed) in
              let sums = sum_by-set height old place n o (slice_get_within old place o at) in
              let had = ap height (get_or_from_slice_get old place o o at) in
              omega arith;
        }

  -- a leader is a place of the code
  pub place-read : IsTask task → (o : Option FrameType) → o ≡ get_or old place o → slice_get old place ≡ Some o
  place-read is o read =
      let within = slice_get_within task.leads.items place true leader in
      let count = are.as_many in
      let leads = is.leaders.as_many in
      slice_get_read old (length old) place o refl (omega arith) read

  -- where no frame is above both, there is no typing
  pub cannot-rise : (o : Option FrameType) → slice_get old place ≡ Some o → CannotRise (scope_in task).classes o from → HasNoTyping task
  cannot-rise o at (f, is, none) typing types =
      let (h, ht, fit) = below typing types in
      let (k, kt, fits) = are.below typing types place f (at ∙ ap Some is) in
      none h (subst (λ (y : FrameType). FrameFits (scope_in task).classes f y) (FrameAt-one typing place k h kt ht) fits) fit
