-- Which rule refuses a start, by what is found of its domain, its class and its `main`; or none does.
use Rattle.std.proofs.Common.{◌≡◌, ℕ, ◌<◌, ◌≤◌, List, [], ◌∷◌, Some, None, ap, ◌∙◌, arith}
use Rattle.jk_model.specs.declared.frames.FrameHead.{FrameHead}
use Rattle.jk_model.specs.declared.identifiers.ClassId.{ClassId}
use Rattle.jk_model.specs.declared.identifiers.DomainId.{DomainId}
use Rattle.jk_model.specs.declared.output.Line.TheVariants.{StartRefused}
use Rattle.jk_model_classes.specs.Worlds.{IsLiveNamed, NamedClass, class_named}
use Rattle.jk_model_frames.specs.Frames.{head_chunks}
use Rattle.jk_model_heaps.specs.CalledFrames.{call_head}
use Rattle.jk_model_sharing.specs.SharedStates.{MayBegin}
use Rattle.jk_model_machine_state.specs.Machines.{Machine}
use Rattle.jk_model_runs.specs.Starts.{HasClass, HasDomain, HasMain, StartWords, Starts, few_chunks, many_threads, many_words, no_class, no_domain, no_main, start_words_cost}
use Rattle.object_store.specs.HeapContents.{words_left}
use Rattle.frame_store.specs.FrameContents.{free_chunks as free_in}
use Rattle.thread_segments.specs.SoundStates.{AreSound}
use Rattle.kernel_parts.specs.SoundKernels.{AreKernelParts, KernelContent, kernel_machine}
use Rattle.kernel_openings.specs.FirstFrames.{BeginsMain, HasNoMain, MayStart}
use Rattle.kernel_openings.proofs.NamedDomains.{DomainHere, none_here}
use Rattle.kernel_openings.proofs.StartsOfParts.{chunks_here, few_here, many_here, words_here}

module _ (k : KernelContent) (sound : AreKernelParts k) (start : StartWords) where
  abbrev m : Machine
  m = kernel_machine k

  abbrev pub RefusedBy : ℕ → Type 0
  RefusedBy rule = Starts m start (StartRefused start.domain rule ∷ []) m

  -- ---- No live domain has the name.

  pub refused_name : ((id : DomainId) → IsLiveNamed k.world start.domain id → ⊥) → RefusedBy 1
  refused_name none = no_domain (none_here k sound start.domain none)

  -- ---- This one has.

  module _ (d : DomainId) (named : IsLiveNamed k.world start.domain d) (shared : AreSound k.shared) (here : DomainHere k sound start.domain d named) where
    abbrev has_domain : HasDomain m start
    has_domain = record { domain = here.live.domain; found = here.found; inside = here.live.inside; is_inside = here.live.is_inside }

    pub refused_class : class_named named.0.table start.class ≡ None → RefusedBy 2
    refused_class none = no_class has_domain (ap (λ (t : List NamedClass). class_named t start.class) here.table ∙ none)

    module _ (class : ClassId) (is_class : class_named named.0.table start.class ≡ Some class) where
      abbrev has_class : HasClass m start
      has_class = record { in_domain = has_domain; class = class; is_named = ap (λ (t : List NamedClass). class_named t start.class) here.table ∙ is_class }

      pub refused_main : HasNoMain m class → RefusedBy 3
      refused_main none = no_main has_class none

      module _ (head : FrameHead) (main : BeginsMain m class head) where
        abbrev has_main : HasMain m start
        has_main = record { in_class = has_class; main = main.main; code = main.code; is_main = main.is_main }

        pub refused_threads : (MayBegin k.shared d → ⊥) → RefusedBy 4
        refused_threads never = many_threads has_main (many_here k sound shared d here.live never)

        pub refused_words : MayBegin k.shared d → words_left k.heap d < start_words_cost start.words → RefusedBy 5
        refused_words may lacks =
            let left = words_here k sound shared d here.live in
            many_words has_main (few_here k sound shared d here.live may) (omega (arith, lacks, left))

        costs : head_chunks head ≡ head_chunks (call_head main.main main.code)
        costs = ap head_chunks main.head_is

        pub refused_chunks : MayBegin k.shared d → start_words_cost start.words ≤ words_left k.heap d → free_in k.frames d ≤ head_chunks head
            → RefusedBy 6
        refused_chunks may fits short =
            let left = words_here k sound shared d here.live in
            let free = chunks_here k sound shared d here.live in
            few_chunks has_main (few_here k sound shared d here.live may) (λ lacks. omega (arith, lacks, fits, left)) (omega (arith, short, free, costs))

        pub none_refuses : MayBegin k.shared d → start_words_cost start.words ≤ words_left k.heap d → head_chunks head < free_in k.frames d
            → MayStart m start d head
        none_refuses may words chunks =
            let left = words_here k sound shared d here.live in
            let free = chunks_here k sound shared d here.live in
            record {
              has_main = has_main;
              few = few_here k sound shared d here.live may;
              words = λ lacks. omega (arith, lacks, words, left);
              chunks = λ lacks. omega (arith, lacks, chunks, free, costs);
              number = here.live.numbered;
              head_is = main.head_is;
            }
