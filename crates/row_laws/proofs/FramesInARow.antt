-- Frames in a row: what holds of them where the top one is replaced or taken off, or where one is put on top.
use Rattle.std.proofs.Common.{inl, inr, ◌≡◌, ◌≢◌, ◌⊎◌, ℕ, ◌+◌, ◌==◌, Bool, false, cond, List, [], ◌∷◌, ◌++◌, Option, Some, None, sym, ap, ◌∙◌}
use Rattle.std.specs.List.{AllByRecursion}
use Rattle.std.proofs.lemmas.List.Sums.{sum_by_push}
use Rattle.list_lemmas.proofs.LastItems.{each-append}
use Rattle.jk_model.specs.declared.identifiers.ClassId.{ClassId}
use Rattle.jk_model_classes.specs.declared.records.ClassRecord.{ClassRecord}
use Rattle.jk_model_frames.specs.Frames.{FrameState, frames_chunks, head_chunks}
use Rattle.jk_model_domains.specs.Objects.{NamedObject}
use Rattle.jk_model_sealing.specs.AnsweringFrames.{EachAnswers, FrameAnswers, FramesAnswer}
use Rattle.jk_model_sealing.specs.ClassesInProgress.{initialises}
use Rattle.jk_model_sealing.specs.FittingFrames.{FitsAsCaller, FramesFit, InitialisesWell}
use Rattle.jk_model_sealing.specs.SealedInsides.{Surroundings}
use Rattle.jk_model_sealing.specs.SealedRuns.{AreSealedFrames, IsAtHome, NamesKnown}
use Rattle.heap_laws.specs.ClassesInProgress.{count_initialisers}
use Rattle.row_laws.proofs.NamesStayKnown.{known-parts}

-- ---- What holds of each.

module _ {X : Type 0} (P : X → Type 0) where
  pub all_push : (xs : List X) (y : X) → AllByRecursion P xs → P y → AllByRecursion P (xs ++ y ∷ [])
  all_push xs y h k = each-append P xs (y ∷ []) h (k, tt)

  all_below : (xs : List X) (y : X) → AllByRecursion P (xs ++ y ∷ []) → AllByRecursion P xs
  all_below xs y h = (known-parts P xs (y ∷ []) h).0

  pub all_top : (xs : List X) (y : X) → AllByRecursion P (xs ++ y ∷ []) → P y
  all_top xs y h = (known-parts P xs (y ∷ []) h).1.0

-- ---- That they fit.

-- a frame below sees of the one above it which class that initialises, and which method it runs
abbrev pub LooksAlike : FrameState → FrameState → Type 0
LooksAlike f g = (g.head.initialises ≡ f.head.initialises) × (g.head.method ≡ f.head.method)

module _ (classes : List ClassRecord) (heap : List NamedObject) (A : FrameState → Type 0) where
  pub fit_top : (callers : List FrameState) (f : FrameState) → FramesFit A classes heap (callers ++ f ∷ []) → A f
  fit_top [] f h = h
  fit_top (c ∷ []) f h = h.1
  fit_top (c ∷ d ∷ more) f h = fit_top (d ∷ more) f h.1

  fit_caller : (lower : List FrameState) (below f : FrameState) → FramesFit A classes heap ((lower ++ below ∷ []) ++ f ∷ [])
      → FitsAsCaller classes heap below f
  fit_caller [] below f h = h.0
  fit_caller (c ∷ []) below f h = h.1.0
  fit_caller (c ∷ d ∷ more) below f h = fit_caller (d ∷ more) below f h.1

  caller_still : (c f g : FrameState) → LooksAlike f g → FitsAsCaller classes heap c f → FitsAsCaller classes heap c g
  caller_still c f g same (inl h) = inl (λ e. h.0 (sym same.0 ∙ e), h.1)
  caller_still c f g same (inr h) = inr (same.0 ∙ h.0, h.1)

  module _ (B : FrameState → Type 0) where
    pub fit_replaced : (callers : List FrameState) (f g : FrameState) → LooksAlike f g → B g → FramesFit A classes heap (callers ++ f ∷ [])
        → FramesFit B classes heap (callers ++ g ∷ [])
    fit_replaced [] f g same b h = b
    fit_replaced (c ∷ []) f g same b h = (caller_still c f g same h.0, b)
    fit_replaced (c ∷ d ∷ more) f g same b h = (h.0, fit_replaced (d ∷ more) f g same b h.1)

    fit_covered : (callers : List FrameState) (f g : FrameState) → FitsAsCaller classes heap f g → B g
        → FramesFit A classes heap (callers ++ f ∷ []) → FramesFit B classes heap ((callers ++ f ∷ []) ++ g ∷ [])
    fit_covered [] f g below b h = (below, b)
    fit_covered (c ∷ []) f g below b h = (h.0, (below, b))
    fit_covered (c ∷ d ∷ more) f g below b h = (h.0, fit_covered (d ∷ more) f g below b h.1)

    fit_taken : (lower : List FrameState) (below f : FrameState) → B below → FramesFit A classes heap ((lower ++ below ∷ []) ++ f ∷ [])
        → FramesFit B classes heap (lower ++ below ∷ [])
    fit_taken [] below f b h = b
    fit_taken (c ∷ []) below f b h = (h.0, b)
    fit_taken (c ∷ d ∷ more) below f b h = (h.0, fit_taken (d ∷ more) below f b h.1)

-- ---- That calls are answered.

-- the frame on top initialises a class, or answers this one
abbrev pub IsAnswered : List ClassRecord → FrameState → FrameState → Type 0
IsAnswered classes f above = (above.head.initialises ≢ None) ⊎ FrameAnswers classes f above

module _ (classes : List ClassRecord) where
  answered_still : (c f g : FrameState) → LooksAlike f g → IsAnswered classes c f → IsAnswered classes c g
  answered_still c f g same (inl some) = inl (λ e. some (sym same.0 ∙ e))
  answered_still c f g same (inr (result, awaits, (m, method, is, there, gives))) =
      inr (result, awaits, (m, method, same.1 ∙ is, there, gives))

  each_replaced : (callers : List FrameState) (f g : FrameState) → LooksAlike f g → EachAnswers classes (callers ++ f ∷ [])
      → EachAnswers classes (callers ++ g ∷ [])
  each_replaced [] f g same h = tt
  each_replaced (c ∷ []) f g same h = (answered_still c f g same h.0, tt)
  each_replaced (c ∷ d ∷ more) f g same h = (h.0, each_replaced (d ∷ more) f g same h.1)

  pub answers_replaced : (callers : List FrameState) (f g : FrameState) → LooksAlike f g → FramesAnswer classes (callers ++ f ∷ [])
      → FramesAnswer classes (callers ++ g ∷ [])
  answers_replaced [] f g same h = (same.0 ∙ h.0, tt)
  answers_replaced (c ∷ more) f g same h = (h.0, each_replaced (c ∷ more) f g same h.1)

  each_covered : (callers : List FrameState) (f g : FrameState) → IsAnswered classes f g → EachAnswers classes (callers ++ f ∷ [])
      → EachAnswers classes ((callers ++ f ∷ []) ++ g ∷ [])
  each_covered [] f g answers h = (answers, tt)
  each_covered (c ∷ []) f g answers h = (h.0, (answers, tt))
  each_covered (c ∷ d ∷ more) f g answers h = (h.0, each_covered (d ∷ more) f g answers h.1)

  answers_covered : (callers : List FrameState) (f g : FrameState) → IsAnswered classes f g → FramesAnswer classes (callers ++ f ∷ [])
      → FramesAnswer classes ((callers ++ f ∷ []) ++ g ∷ [])
  answers_covered [] f g answers h = (h.0, (answers, tt))
  answers_covered (c ∷ more) f g answers h = (h.0, each_covered (c ∷ more) f g answers h.1)

  each_taken : (lower : List FrameState) (below f : FrameState) → EachAnswers classes ((lower ++ below ∷ []) ++ f ∷ [])
      → EachAnswers classes (lower ++ below ∷ []) × IsAnswered classes below f
  each_taken [] below f h = (tt, h.0)
  each_taken (c ∷ []) below f h = ((h.0, tt), h.1.0)
  each_taken (c ∷ d ∷ more) below f h = let rest = each_taken (d ∷ more) below f h.1 in ((h.0, rest.0), rest.1)

  answers_taken : (lower : List FrameState) (below f : FrameState) → FramesAnswer classes ((lower ++ below ∷ []) ++ f ∷ [])
      → FramesAnswer classes (lower ++ below ∷ []) × IsAnswered classes below f
  answers_taken [] below f h = ((h.0, tt), h.1.0)
  answers_taken (c ∷ more) below f h = let rest = each_taken (c ∷ more) below f h.1 in ((h.0, rest.0), rest.1)

-- ---- All of it.

-- the frames of a segment, whose top frame fits as this says
abbrev pub Stand : Surroundings → (FrameState → Type 0) → List NamedObject → List FrameState → Type 0
Stand around Top heap frames = AreSealedFrames around Top heap frames × FramesAnswer around.classes frames

-- what is asked of a frame wherever it stands
pub record KnownFrame (around : Surroundings) (heap : List NamedObject) (f : FrameState) : Type 0 where
  pub initialises : InitialisesWell around.classes f
  pub at_home : IsAtHome around.table f
  pub known : NamesKnown around.caps heap f

module _ (around : Surroundings) (heap : List NamedObject) (A : FrameState → Type 0) where
  module _ (callers : List FrameState) (f : FrameState) (h : Stand around A heap (callers ++ f ∷ [])) where
    pub top_fits : A f
    top_fits = fit_top around.classes heap A callers f h.0.fit

    pub top_known : KnownFrame around heap f
    top_known = record {
      initialises = all_top (InitialisesWell around.classes) callers f h.0.initialise;
      at_home = all_top (IsAtHome around.table) callers f h.0.at_home;
      known = all_top (NamesKnown around.caps heap) callers f h.0.known;
    }

    all_with : (P : FrameState → Type 0) (g : FrameState) → AllByRecursion P (callers ++ f ∷ []) → P g → AllByRecursion P (callers ++ g ∷ [])
    all_with P g all one = all_push P callers g (all_below P callers f all) one

    -- the top frame is replaced
    pub top_replaced : (B : FrameState → Type 0) (g : FrameState) → LooksAlike f g → B g → KnownFrame around heap g
        → Stand around B heap (callers ++ g ∷ [])
    top_replaced B g same b k = (
      record {
        fit = fit_replaced around.classes heap A B callers f g same b h.0.fit;
        initialise = all_with (InitialisesWell around.classes) g h.0.initialise k.initialises;
        at_home = all_with (IsAtHome around.table) g h.0.at_home k.at_home;
        known = all_with (NamesKnown around.caps heap) g h.0.known k.known;
      },
      answers_replaced around.classes callers f g same h.1,
    )

    -- another one is put on top
    pub top_covered : (B : FrameState → Type 0) (g : FrameState) → FitsAsCaller around.classes heap f g → IsAnswered around.classes f g → B g
        → KnownFrame around heap g → Stand around B heap ((callers ++ f ∷ []) ++ g ∷ [])
    top_covered B g below answers b k = (
      record {
        fit = fit_covered around.classes heap A B callers f g below b h.0.fit;
        initialise = all_push (InitialisesWell around.classes) (callers ++ f ∷ []) g h.0.initialise k.initialises;
        at_home = all_push (IsAtHome around.table) (callers ++ f ∷ []) g h.0.at_home k.at_home;
        known = all_push (NamesKnown around.caps heap) (callers ++ f ∷ []) g h.0.known k.known;
      },
      answers_covered around.classes callers f g answers h.1,
    )

  -- the top frame is taken off
  module _ (lower : List FrameState) (below f : FrameState) (h : Stand around A heap ((lower ++ below ∷ []) ++ f ∷ [])) where
    pub below_fits : FitsAsCaller around.classes heap below f
    below_fits = fit_caller around.classes heap A lower below f h.0.fit

    pub below_answered : IsAnswered around.classes below f
    below_answered = (answers_taken around.classes lower below f h.1).1

    pub top_taken : (B : FrameState → Type 0) → B below → Stand around B heap (lower ++ below ∷ [])
    top_taken B b = (
      record {
        fit = fit_taken around.classes heap A B lower below f b h.0.fit;
        initialise = all_below (InitialisesWell around.classes) (lower ++ below ∷ []) f h.0.initialise;
        at_home = all_below (IsAtHome around.table) (lower ++ below ∷ []) f h.0.at_home;
        known = all_below (NamesKnown around.caps heap) (lower ++ below ∷ []) f h.0.known;
      },
      (answers_taken around.classes lower below f h.1).0,
    )

-- ---- What they cost, and which classes they initialise.

pub chunks_push : (frames : List FrameState) (f : FrameState) → frames_chunks (frames ++ f ∷ []) ≡ frames_chunks frames + head_chunks f.head
chunks_push frames f = sum_by_push (λ (x : FrameState). head_chunks x.head) frames f

pub chunks_same : (callers : List FrameState) (f g : FrameState) → head_chunks g.head ≡ head_chunks f.head
    → frames_chunks (callers ++ g ∷ []) ≡ frames_chunks (callers ++ f ∷ [])
chunks_same callers f g same =
    chunks_push callers g ∙ ap (λ (n : ℕ). frames_chunks callers + n) same ∙ sym (chunks_push callers f)

abbrev pub is_for : ClassId → Option ClassId → Bool
is_for c o = elim o as (λ _. Bool) [ Some d ↦ d.0 == c.0 | None ↦ false ]

abbrev pub one_if : Bool → ℕ
one_if b = cond b 1 0

pub count_push : (c : ClassId) (frames : List FrameState) (f : FrameState)
    → count_initialisers c (frames ++ f ∷ []) ≡ count_initialisers c frames + one_if (is_for c f.head.initialises)
count_push c frames f = sum_by_push (λ (x : FrameState). cond (initialises c x) 1 0) frames f

pub count_same : (c : ClassId) (frames : List FrameState) (f g : FrameState) → g.head.initialises ≡ f.head.initialises
    → count_initialisers c (frames ++ g ∷ []) ≡ count_initialisers c (frames ++ f ∷ [])
count_same c frames f g e =
    count_push c frames g ∙ ap (λ (o : Option ClassId). count_initialisers c frames + one_if (is_for c o)) e ∙ sym (count_push c frames f)
