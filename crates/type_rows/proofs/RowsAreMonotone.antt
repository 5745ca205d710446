-- Rows are monotone: an instruction that may begin with a frame may begin with each frame that fits it, and leaves one that
-- fits what it leaves of the other.
use Rattle.std.proofs.Common.{◌≡◌, ℕ, ◌<◌, inl, inr, Bool, true, false, IsTrue, List, [], ◌∷◌, ◌++◌, length, Some, Contains, refl, sym, ap, ◌∙◌, subst, arith, add-one}
use Rattle.std.specs.List.{AllByRecursion, slice_get}
use Rattle.std.proofs.lemmas.Bool.{false≢true}
use Rattle.jk_model.specs.declared.instructions.Instr.{Instr}
use Rattle.jk_model.specs.declared.identifiers.ClassId.{ClassId}
use Rattle.jk_model.specs.declared.identifiers.MemberId.{MemberId}
use Rattle.jk_model_classes.specs.Classes.{AreOrdered}
use Rattle.jk_model_typing.specs.declared.frames.Demand.{Demand}
use Rattle.jk_model_typing.specs.declared.frames.FrameType.{FrameType}
use Rattle.jk_model_typing.specs.declared.frames.VType.{VType}
use Rattle.jk_model_typing.specs.declared.frames.VType.TheVariants.{Unusable, Int, Fresh, FreshThis}
use Rattle.jk_model_typing.specs.FrameTypes.{Fits, EachFits, FrameFits, IsFrameOf, IsUsable, slots, of_class}
use Rattle.jk_model_typing.specs.Groups.{Shape, Takes, Loads, Stores, Increments, Drops, Copies, Swaps, LoadsElement, Makes, Constructs, Leaves}
use Rattle.jk_model_typing.specs.Rows.{Does, Row, Meets, AllMeet, IsReferenceArray, MakesAt, MayConstruct, IsOwnOrParent, is_made_at, is_fresh_this, replaced, with_local, element}
use Rattle.jk_model_typing.specs.Scopes.{CodeScope, is_init}
use Rattle.list_lemmas.proofs.ItemsOfLists.{Contains-none, Contains-cases, Contains-here, Contains-there}
use Rattle.type_frames.proofs.OrderOfFrames.{EachFits-refl, EachFits-length, EachFits-append, EachFits-left_at, EachFits-usable, EachFits-slots}
use Rattle.type_rows.proofs.RowsAreDetermined.{row-determined}
use Rattle.type_rows.proofs.RowsCutStacks.{all_in_parts, EachFits-cut, EachFits-onto, EachFits-none, IsCutLike}
use Rattle.type_rows.proofs.RowsFitLocals.{AreHalved, with_local-halved, with_local-long, with_local-fits, replaced-halved, replaced-fits, is_made_at-fresh, is_fresh_this-fresh}
use Rattle.type_rows.proofs.RowsMeetDemands.{fits-by, meets-down, all_meet-down, reference_array-down, element-fits, long-up, fresh-up, fresh-down, fresh_this-down}

-- what an instruction of this shape makes of a frame, where it makes of one that this one fits what is given
record Follows (s : CodeScope) (place : ℕ) (shape : Shape) (f after_g : FrameType) : Type 0 where
  after : FrameType
  does : Does s place shape f after
  fits : FrameFits s.classes after after_g
  halved : AreHalved after.locals

module _ (s : CodeScope) (ordered : AreOrdered s.classes)
    (place : ℕ) (f g : FrameType) (fits : FrameFits s.classes f g) (halved : AreHalved f.locals) where
  cut_like : (below taken : List VType) → g.stack ≡ below ++ taken → IsCutLike s.classes f.stack below taken
  cut_like below taken stack_is = EachFits-cut s.classes f.stack below taken (rw stack_is at fits.stack)

  usable_taken : (below taken : List VType) → g.stack ≡ below ++ taken → AllByRecursion IsUsable taken
  usable_taken below taken stack_is = (all_in_parts IsUsable below taken (rw stack_is at fits.usable)).1

  takes : (demands : List Demand) (gives below taken : List VType) → g.stack ≡ below ++ taken → AllMeet s demands taken
      → AllByRecursion IsUsable (below ++ gives) → Follows s place (Takes demands gives) f (record g { stack = below ++ gives })
  takes demands gives below taken stack_is meet usable =
      let cut = cut_like below taken stack_is in
      record {
        after = record f { stack = cut.under ++ gives };
        does = (cut.under, cut.over, cut.joined, all_meet-down s ordered demands cut.over taken cut.over_fits meet, refl);
        fits = record {
          locals = fits.locals;
          stack = EachFits-append s.classes cut.under below gives gives cut.under_fits (EachFits-refl s.classes gives);
          usable = usable;
          fresh = fits.fresh;
        };
        halved = halved;
      }

  loads : (demand : Demand) (n : ℕ) (w : VType) → slice_get g.locals n ≡ Some w → Meets s demand w
      → AllByRecursion IsUsable (g.stack ++ w ∷ []) → Follows s place (Loads demand n) f (record g { stack = g.stack ++ w ∷ [] })
  loads demand n w at meet usable =
      let local = EachFits-left_at s.classes f.locals g.locals n w fits.locals at in
      record {
        after = record f { stack = f.stack ++ local.0 ∷ [] };
        does = (local.0, local.1, meets-down s ordered demand local.0 w local.2 meet, refl);
        fits = record {
          locals = fits.locals;
          stack = EachFits-append s.classes f.stack g.stack (local.0 ∷ []) (w ∷ []) fits.stack (local.2, tt);
          usable = usable;
          fresh = fits.fresh;
        };
        halved = halved;
      }

  -- the topmost entry alone
  top_like : (below : List VType) (w : VType) → g.stack ≡ below ++ w ∷ []
      → (under : List VType) × (v : VType) × (f.stack ≡ under ++ v ∷ []) × EachFits s.classes under below × Fits s.classes v w
  top_like below w stack_is =
      let cut = cut_like below (w ∷ []) stack_is in
      let top = EachFits-onto s.classes cut.over w [] cut.over_fits in
      let last = EachFits-none s.classes top.more top.more_fits in
      (cut.under, top.first, cut.joined ∙ ap (λ vs. cut.under ++ vs) (top.joined ∙ ap (λ vs. top.first ∷ vs) last), cut.under_fits, top.first_fits)

  stores : (demand : Demand) (n : ℕ) (below : List VType) (w : VType) → g.stack ≡ below ++ w ∷ [] → Meets s demand w → n < length g.locals
      → AllByRecursion IsUsable below → AreHalved (with_local g.locals n w)
      → Follows s place (Stores demand n) f (record g { locals = with_local g.locals n w; stack = below })
  stores demand n below w stack_is meet within usable after_halved =
      let top = top_like below w stack_is in
      let usable_top = (usable_taken below (w ∷ []) stack_is).0 in
      let by = fits-by s.classes top.1 w top.4 in
      let as_long = EachFits-length s.classes f.locals g.locals fits.locals in
      record {
        after = record f { locals = with_local f.locals n top.1; stack = top.0 };
        does = (top.0, top.1, top.2, meets-down s ordered demand top.1 w top.4 meet, omega arith, refl);
        fits = record {
          locals = with_local-fits s.classes f.locals g.locals n by usable_top fits.locals;
          stack = top.3;
          usable = usable;
          fresh = fits.fresh;
        };
        halved = with_local-halved f.locals n top.1 (omega arith)
            (λ long.
            let room = with_local-long g.locals n within (rw (long-up s.classes by usable_top long) at after_halved) in
            omega arith)
            halved;
      }

  increments : (n : ℕ) → slice_get g.locals n ≡ Some Int → Follows s place (Increments n) f g
  increments n at =
      let local = EachFits-left_at s.classes f.locals g.locals n Int fits.locals at in
      record { after = f; does = (local.1 ∙ ap (λ v. Some v) local.2, refl); fits = fits; halved = halved }

  drops : (n : ℕ) (below dropped : List VType) → g.stack ≡ below ++ dropped → slots dropped ≡ n → AllByRecursion IsUsable below
      → Follows s place (Drops n) f (record g { stack = below })
  drops n below dropped stack_is sized usable =
      let cut = cut_like below dropped stack_is in
      record {
        after = record f { stack = cut.under };
        does = (cut.under, cut.over, cut.joined, EachFits-slots s.classes cut.over dropped cut.over_fits (usable_taken below dropped stack_is) ∙ sized, refl);
        fits = record { locals = fits.locals; stack = cut.under_fits; usable = usable; fresh = fits.fresh };
        halved = halved;
      }

  copies : (skipped copied : ℕ) (below between top : List VType) → g.stack ≡ below ++ between ++ top → slots between ≡ skipped
      → slots top ≡ copied → AllByRecursion IsUsable (below ++ top ++ between ++ top)
      → Follows s place (Copies skipped copied) f (record g { stack = below ++ top ++ between ++ top })
  copies skipped copied below between top stack_is skips counts usable =
      let cut = cut_like (below ++ between) top stack_is in
      let parts = EachFits-cut s.classes cut.under below between cut.under_fits in
      let each = all_in_parts IsUsable (below ++ between) top (rw stack_is at fits.usable) in
      let usable_between = (all_in_parts IsUsable below between each.0).1 in
      record {
        after = record f { stack = parts.under ++ cut.over ++ parts.over ++ cut.over };
        does = (
          parts.under,
          parts.over,
          cut.over,
          cut.joined ∙ ap (λ vs. vs ++ cut.over) parts.joined,
          EachFits-slots s.classes parts.over between parts.over_fits usable_between ∙ skips,
          EachFits-slots s.classes cut.over top cut.over_fits each.1 ∙ counts,
          refl,
        );
        fits = record {
          locals = fits.locals;
          stack =
              EachFits-append s.classes (parts.under ++ cut.over ++ parts.over) (below ++ top ++ between) cut.over top
              (EachFits-append s.classes (parts.under ++ cut.over) (below ++ top) parts.over between
              (EachFits-append s.classes parts.under below cut.over top parts.under_fits cut.over_fits) parts.over_fits) cut.over_fits;
          usable = usable;
          fresh = fits.fresh;
        };
        halved = halved;
      }

  -- the two topmost entries
  two_like : (below : List VType) (a b : VType) → g.stack ≡ below ++ a ∷ b ∷ []
      → (under : List VType) × (x : VType) × (y : VType) × (f.stack ≡ under ++ x ∷ y ∷ []) × EachFits s.classes under below
      × Fits s.classes x a × Fits s.classes y b
  two_like below a b stack_is =
      let cut = cut_like below (a ∷ b ∷ []) stack_is in
      let first = EachFits-onto s.classes cut.over a (b ∷ []) cut.over_fits in
      let second = EachFits-onto s.classes first.more b [] first.more_fits in
      let last = EachFits-none s.classes second.more second.more_fits in
      let over : cut.over ≡ first.first ∷ second.first ∷ [] =
      first.joined ∙ ap (λ vs. first.first ∷ vs) (second.joined ∙ ap (λ vs. second.first ∷ vs) last) in (
        cut.under,
        first.first,
        second.first,
        cut.joined ∙ ap (λ vs. cut.under ++ vs) over,
        cut.under_fits,
        first.first_fits,
        second.first_fits,
      )

  swaps : (below : List VType) (a b : VType) → g.stack ≡ below ++ a ∷ b ∷ [] → slots (a ∷ []) ≡ 1 → slots (b ∷ []) ≡ 1
      → AllByRecursion IsUsable (below ++ b ∷ a ∷ []) → Follows s place Swaps f (record g { stack = below ++ b ∷ a ∷ [] })
  swaps below a b stack_is one other usable =
      let two = two_like below a b stack_is in
      let each = usable_taken below (a ∷ b ∷ []) stack_is in
      record {
        after = record f { stack = two.0 ++ two.2 ∷ two.1 ∷ [] };
        does = (
          two.0,
          two.1,
          two.2,
          two.3,
          EachFits-slots s.classes (two.1 ∷ []) (a ∷ []) (two.5, tt) (each.0, tt) ∙ one,
          EachFits-slots s.classes (two.2 ∷ []) (b ∷ []) (two.6, tt) (each.1.0, tt) ∙ other,
          refl,
        );
        fits = record {
          locals = fits.locals;
          stack = EachFits-append s.classes two.0 below (two.2 ∷ two.1 ∷ []) (b ∷ a ∷ []) two.4 (two.6, (two.5, tt));
          usable = usable;
          fresh = fits.fresh;
        };
        halved = halved;
      }

  loads_element : (below : List VType) (array : VType) → g.stack ≡ below ++ array ∷ Int ∷ [] → IsReferenceArray array
      → AllByRecursion IsUsable (below ++ element array ∷ [])
      → Follows s place LoadsElement f (record g { stack = below ++ element array ∷ [] })
  loads_element below array stack_is meet usable =
      let two = two_like below array Int stack_is in
      let by = fits-by s.classes two.1 array two.5 in
      record {
        after = record f { stack = two.0 ++ element two.1 ∷ [] };
        does = (
          two.0,
          two.1,
          two.3 ∙ ap (λ v. two.0 ++ two.1 ∷ v ∷ []) two.6,
          reference_array-down s.classes by meet,
          refl,
        );
        fits = record {
          locals = fits.locals;
          stack = EachFits-append s.classes two.0 below (element two.1 ∷ []) (element array ∷ []) two.4 (element-fits s.classes by meet, tt);
          usable = usable;
          fresh = fits.fresh;
        };
        halved = halved;
      }

  -- ---- Fresh objects.

  -- a fresh object in a stack is in each one that it fits
  none_fresh_by : (vs ws : List VType) → EachFits s.classes vs ws → AllByRecursion IsUsable ws → Contains vs (Fresh place)
      → Contains ws (Fresh place)
  none_fresh_by [] ws h u there = absurd (Contains-none (Fresh place) there)
  none_fresh_by (v ∷ vs) [] h u there = absurd h
  none_fresh_by (v ∷ vs) (w ∷ ws) h u there = elim (Contains-cases (Fresh place) v vs there) [
    | inl e ↦ rw (fresh-up s.classes (fits-by s.classes v w h.0) u.0 place e) (Contains-here (Fresh place) ws)
    | inr later ↦ Contains-there (Fresh place) w ws (none_fresh_by vs ws h.1 u.1 later)
  ]

  makes : (Contains g.stack (Fresh place) → ⊥) → AllByRecursion IsUsable (g.stack ++ Fresh place ∷ [])
      → Follows s place Makes f
      (record g { locals = replaced (is_made_at place) Unusable g.locals; stack = g.stack ++ Fresh place ∷ [] })
  makes none usable = record {
    after = record f { locals = replaced (is_made_at place) Unusable f.locals; stack = f.stack ++ Fresh place ∷ [] };
    does = (λ there. none (none_fresh_by f.stack g.stack fits.stack fits.usable there), refl);
    fits = record {
      locals = replaced-fits s.classes (is_made_at place) Unusable (is_made_at-fresh place) f.locals g.locals fits.locals;
      stack = EachFits-append s.classes f.stack g.stack (Fresh place ∷ []) (Fresh place ∷ []) fits.stack (refl, tt);
      usable = usable;
      fresh = fits.fresh;
    };
    halved = replaced-halved (is_made_at place) Unusable (is_made_at-fresh place) (λ e. cc) f.locals halved;
  }

  -- the entry below those taken
  onto_like : (below : List VType) (w : VType) (taken : List VType) → g.stack ≡ below ++ w ∷ taken
      → (under : List VType) × (v : VType) × (over : List VType) × (f.stack ≡ under ++ v ∷ over) × EachFits s.classes under below
      × Fits s.classes v w × EachFits s.classes over taken
  onto_like below w taken stack_is =
      let cut = cut_like below (w ∷ taken) stack_is in
      let onto = EachFits-onto s.classes cut.over w taken cut.over_fits in (
        cut.under,
        onto.first,
        onto.more,
        cut.joined ∙ ap (λ vs. cut.under ++ vs) onto.joined,
        cut.under_fits,
        onto.first_fits,
        onto.more_fits,
      )

  constructs_object : (c : ClassId) (m : MemberId) (arguments : List Demand) (below : List VType) (receiver : VType) (taken : List VType)
      → g.stack ≡ below ++ receiver ∷ taken → AllMeet s arguments taken
      → (made : ℕ) → receiver ≡ Fresh made → MakesAt s made c → MayConstruct s m
      → AllByRecursion IsUsable (replaced (is_made_at made) (of_class s.classes c) below)
      → Follows s place (Constructs c m arguments) f
      (record g {
        locals = replaced (is_made_at made) (of_class s.classes c) g.locals;
        stack = replaced (is_made_at made) (of_class s.classes c) below;
      })
  constructs_object c m arguments below receiver taken stack_is meet made fresh makes_it may usable =
      let onto = onto_like below receiver taken stack_is in
      let object = of_class s.classes c in
      let asks = is_made_at-fresh made in
      record {
        after = record f { locals = replaced (is_made_at made) object f.locals; stack = replaced (is_made_at made) object onto.0 };
        does = (
          onto.0,
          onto.1,
          onto.2,
          onto.3,
          all_meet-down s ordered arguments onto.2 taken onto.6 meet,
          inl (made, fresh-down s.classes (fits-by s.classes onto.1 receiver onto.5) made fresh, makes_it, may, refl),
        );
        fits = record {
          locals = replaced-fits s.classes (is_made_at made) object asks f.locals g.locals fits.locals;
          stack = replaced-fits s.classes (is_made_at made) object asks onto.0 below onto.4;
          usable = usable;
          fresh = fits.fresh;
        };
        halved = replaced-halved (is_made_at made) object asks (λ e. cc) f.locals halved;
      }

  constructs_this : (c : ClassId) (m : MemberId) (arguments : List Demand) (below : List VType) (receiver : VType) (taken : List VType)
      → g.stack ≡ below ++ receiver ∷ taken → AllMeet s arguments taken
      → receiver ≡ FreshThis → IsOwnOrParent s c
      → AllByRecursion IsUsable (replaced is_fresh_this (of_class s.classes s.self) below)
      → Follows s place (Constructs c m arguments) f
      (record {
        locals = replaced is_fresh_this (of_class s.classes s.self) g.locals;
        stack = replaced is_fresh_this (of_class s.classes s.self) below;
        fresh = false;
      })
  constructs_this c m arguments below receiver taken stack_is meet fresh own usable =
      let onto = onto_like below receiver taken stack_is in
      let object = of_class s.classes s.self in
      record {
        after = record { locals = replaced is_fresh_this object f.locals; stack = replaced is_fresh_this object onto.0; fresh = false };
        does = (
          onto.0,
          onto.1,
          onto.2,
          onto.3,
          all_meet-down s ordered arguments onto.2 taken onto.6 meet,
          inr (fresh_this-down s.classes (fits-by s.classes onto.1 receiver onto.5) fresh, own, refl),
        );
        fits = record {
          locals = replaced-fits s.classes is_fresh_this object is_fresh_this-fresh f.locals g.locals fits.locals;
          stack = replaced-fits s.classes is_fresh_this object is_fresh_this-fresh onto.0 below onto.4;
          usable = usable;
          fresh = λ e. e;
        };
        halved = replaced-halved is_fresh_this object is_fresh_this-fresh (λ e. cc) f.locals halved;
      }

  not_fresh : (a b : Bool) → (IsTrue a → IsTrue b) → b ≡ false → a ≡ false
  not_fresh true b h e = absurd (false≢true (sym e ∙ h refl))
  not_fresh false b h e = refl

  leaves : (IsTrue (is_init s.method) → g.fresh ≡ false) → Follows s place Leaves f g
  leaves done = record {
    after = f;
    does = (λ init. not_fresh f.fresh g.fresh fits.fresh (done init), refl);
    fits = fits;
    halved = halved;
  }

  -- ---- All shapes.

  follows_at : (shape : Shape) (after given : FrameType) → after ≡ given → Follows s place shape f given → Follows s place shape f after
  follows_at shape after given e follows = subst (λ a. Follows s place shape f a) (sym e) follows

  does-monotone : (shape : Shape) (after : FrameType) → Does s place shape g after → AllByRecursion IsUsable after.stack → AreHalved after.locals
      → Follows s place shape f after
  does-monotone (Takes demands gives) after (below, taken, stack_is, meet, e) usable after_halved =
      follows_at (Takes demands gives) after (record g { stack = below ++ gives }) e
      (takes demands gives below taken stack_is meet (rw e at usable))
  does-monotone (Loads demand n) after (w, at, meet, e) usable after_halved =
      follows_at (Loads demand n) after (record g { stack = g.stack ++ w ∷ [] }) e (loads demand n w at meet (rw e at usable))
  does-monotone (Stores demand n) after (below, w, stack_is, meet, within, e) usable after_halved =
      follows_at (Stores demand n) after (record g { locals = with_local g.locals n w; stack = below }) e
      (stores demand n below w stack_is meet within (rw e at usable) (rw e at after_halved))
  does-monotone (Increments n) after (at, e) usable after_halved = follows_at (Increments n) after g e (increments n at)
  does-monotone (Drops n) after (below, dropped, stack_is, sized, e) usable after_halved =
      follows_at (Drops n) after (record g { stack = below }) e (drops n below dropped stack_is sized (rw e at usable))
  does-monotone (Copies skipped copied) after (below, between, top, stack_is, skips, counts, e) usable after_halved =
      follows_at (Copies skipped copied) after (record g { stack = below ++ top ++ between ++ top }) e
      (copies skipped copied below between top stack_is skips counts (rw e at usable))
  does-monotone Swaps after (below, a, b, stack_is, one, other, e) usable after_halved =
      follows_at Swaps after (record g { stack = below ++ b ∷ a ∷ [] }) e (swaps below a b stack_is one other (rw e at usable))
  does-monotone LoadsElement after (below, array, stack_is, meet, e) usable after_halved =
      follows_at LoadsElement after (record g { stack = below ++ element array ∷ [] }) e
      (loads_element below array stack_is meet (rw e at usable))
  does-monotone Makes after (none, e) usable after_halved =
      follows_at Makes after (record g { locals = replaced (is_made_at place) Unusable g.locals; stack = g.stack ++ Fresh place ∷ [] }) e
      (makes none (rw e at usable))
  does-monotone (Constructs c m arguments) after (below, receiver, taken, stack_is, meet, inl (made, fresh, makes_it, may, e)) usable after_halved =
      follows_at (Constructs c m arguments) after
      (record g {
        locals = replaced (is_made_at made) (of_class s.classes c) g.locals;
        stack = replaced (is_made_at made) (of_class s.classes c) below;
      }) e
      (constructs_object c m arguments below receiver taken stack_is meet made fresh makes_it may (rw e at usable))
  does-monotone (Constructs c m arguments) after (below, receiver, taken, stack_is, meet, inr (fresh, own, e)) usable after_halved =
      follows_at (Constructs c m arguments) after
      (record {
        locals = replaced is_fresh_this (of_class s.classes s.self) g.locals;
        stack = replaced is_fresh_this (of_class s.classes s.self) below;
        fresh = false;
      }) e
      (constructs_this c m arguments below receiver taken stack_is meet fresh own (rw e at usable))
  does-monotone Leaves after (done, e) usable after_halved = follows_at Leaves after g e (leaves done)

-- ---- Rows.

halved_of : (s : CodeScope) (f : FrameType) → IsFrameOf s.code f → AreHalved f.locals
halved_of s f sized = λ n at. rw (← add-one) (sized.halves n at)

module _ (s : CodeScope) (ordered : AreOrdered s.classes) where
  room_for : (a b : FrameType) → FrameFits s.classes a b → AreHalved a.locals → IsFrameOf s.code b → IsFrameOf s.code a
  room_for a b fits halved sized = record {
    locals = EachFits-length s.classes a.locals b.locals fits.locals ∙ sized.locals;
    stack = rw (EachFits-slots s.classes a.stack b.stack fits.stack fits.usable) sized.stack;
    usable = EachFits-usable s.classes a.stack b.stack fits.stack fits.usable;
    halves = λ n at. rw add-one (halved n at);
  }

  -- what may begin with a frame may begin with one that fits it, and leaves one that fits
  pub row-monotone : (place : ℕ) (i : Instr) (f g after_g : FrameType) → FrameFits s.classes f g → IsFrameOf s.code f
      → Row s place i g after_g → (after_f : FrameType) × Row s place i f after_f × FrameFits s.classes after_f after_g
  row-monotone place i f g after_g fits sized row =
      let follows = does-monotone s ordered place f g fits (halved_of s f sized) row.shape after_g row.does row.room.usable
      (halved_of s after_g row.room) in (
        follows.after,
        record {
          shape = row.shape;
          shape_is = row.shape_is;
          does = follows.does;
          room = room_for follows.after after_g follows.fits follows.halved row.room;
        },
        follows.fits,
      )

  -- the frames that an instruction leaves fit as those before it do
  pub row-fits : (place : ℕ) (i : Instr) (f g after_f after_g : FrameType) → FrameFits s.classes f g → IsFrameOf s.code f
      → Row s place i f after_f → Row s place i g after_g → FrameFits s.classes after_f after_g
  row-fits place i f g after_f after_g fits sized row above =
      let below = row-monotone place i f g after_g fits sized above in
      let same : below.0 ≡ after_f = row-determined s place i f below.0 after_f below.1 row in
      rw same at below.2
