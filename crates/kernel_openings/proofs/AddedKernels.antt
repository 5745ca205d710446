-- What `add_domain` makes of a kernel, and why it doesn't, by what it made of the parts.
use Rattle.std.proofs.Common.{◌≡◌, ◌≤◌, ℕ, List, [], ◌∷◌, length, take, Option, sym, ap, subst, ◌∙◌, arith}
use Rattle.jk_model.specs.declared.output.Line.TheVariants as Says
use Rattle.jk_model.specs.declared.script.Quotas.{Quotas}
use Rattle.jk_model.specs.Outside.{Tree, ◌/-◌}
use Rattle.jk_model_classes.specs.declared.records.ClassRecord.{ClassRecord}
use Rattle.jk_model_classes.specs.Classes.{AreOrdered}
use Rattle.jk_model_classes.specs.Worlds.{WorldRecord}
use Rattle.jk_model_folders.specs.declared.files.FolderFiles.{FolderFiles}
use Rattle.jk_model_folders.specs.FolderTrees.{AreFiles, AreToldFiles}
use Rattle.jk_model_folders.specs.Loads.{Loads, MayLoad}
use Rattle.jk_model_machine_state.specs.Machines.{Machine, caps_of, world_of}
use Rattle.jk_model_heaps.specs.Capabilities.{CapRange}
use Rattle.jk_model_heaps.specs.Workings.{Inside}
use Rattle.jk_model_openings.specs.OpenedDomains.{IsOpening, with_new_domain}
use Rattle.jk_model_openings.specs.Openings.{HasManyDomains, IsAccepted, LacksPages, OpensWith, admission, opens}
use Rattle.jk_model_sharing.specs.CapabilityCalls.{LacksNumbers}
use Rattle.jk_model_sharing.specs.SharedStates.{caps_of as caps_in}
use Rattle.object_store.specs.HeapContents.{HeapContent, IsHeapContent}
use Rattle.object_store.specs.HeapContents.{IsSame as IsSameHeap}
use Rattle.frame_store.specs.FrameContents.{FrameContent, IsContent}
use Rattle.frame_store.specs.FrameContents.{IsSame as IsSameStack}
use Rattle.thread_segments.specs.SoundStates.{AreSound}
use Rattle.folder_loader.specs.declared.answers.Loaded.{Loaded}
use Rattle.folder_loader.specs.LinkedFolders.{AreTypedFrom}
use Rattle.machine_laws.specs.MachinesOfRuns.{OpensFrom}
use Rattle.machine_laws.specs.SoundFolders.{AcceptedFoldersStaySound, AcceptsFiles}
use Rattle.kernel_parts.specs.SoundKernels.{AreKernelParts, KernelContent, kernel_machine}
use Rattle.kernel_openings.specs.declared.answers.AddAnswer.{AddAnswer}
use Rattle.kernel_openings.specs.declared.answers.AddAnswer.TheVariants as Adding
use Rattle.kernel_openings.specs.AddedDomains.{AddsDomain, HasAccepted, IsCauseOf, Opening, OpensAccepted}
use Rattle.kernel_openings.specs.OpenedParts.{IsWhyNot, KeepsParts, LacksPlaces, MayOpen, OpenParts, OpensParts}
use Rattle.kernel_openings.proofs.FoldersOpen.{cut, loaded_parts, may_open}
use Rattle.kernel_openings.proofs.LoadingKernels.{as_many, may_load, world_is}
use Rattle.kernel_openings.proofs.OpenedKernels.{caps_are, classes_are, few_then, inside, kernel_then, machine_is, numbers_left, opening, pages_lack, pages_left, placed}

-- the parts of a kernel with this world
abbrev pub parts_with : KernelContent → WorldRecord → OpenParts
parts_with k w = record { world = w; owns = k.owns; shared = k.shared; heap = k.heap; frames = k.frames }

-- ---- Where all is as before.

same_heap : (c now : HeapContent) → IsSameHeap c now → now ≡ c
same_heap c now same = λ i. record {
  pages = same.domains.pages i;
  took_all = same.domains.took_all i;
  quota = λ d. same.domains.quota d i;
  first_page = λ d. same.domains.first_page d i;
  used = λ d. same.used d i;
  heap = λ d. same.heap d i;
  mark = λ d a. same.mark d a i;
}

same_stack : (c now : FrameContent) → IsSameStack c now → now ≡ c
same_stack c now same = λ i. record {
  pages = same.domains.pages i;
  took_all = same.domains.took_all i;
  quota = λ d. same.domains.quota d i;
  first_page = λ d. same.domains.first_page d i;
  used = λ d. same.used d i;
  segment = λ s. same.segment s i;
}

module _ (k : KernelContent) (h : AreKernelParts k) (law : AcceptedFoldersStaySound) (f : FolderFiles) (files : AreFiles f) (name : List ℕ) (l : Loaded)
    (w : WorldRecord) (loads : Loads f k.world name l.first l.table l.offers l.stubs w) (typed : AreTypedFrom w.classes l.first)
    (ordered : AreOrdered w.classes) where
  w_is : w ≡ record k.world { classes = w.classes }
  w_is =
      loads.world
      ∙ ap (λ (cs : List ClassRecord). let x : WorldRecord = record { classes = cs; domains = k.world.domains } in x)
      (sym (ap (λ (x : WorldRecord). x.classes) loads.world))

  loads_so : Loads f k.world name l.first l.table l.offers l.stubs (record k.world { classes = w.classes })
  loads_so = subst (Loads f k.world name l.first l.table l.offers l.stubs) w_is loads

  pub may_open_so : MayOpen (parts_with k w) l name
  may_open_so =
      subst (λ (x : WorldRecord). MayOpen (parts_with k x) l name) (sym w_is) (may_open k h law f name l w.classes loads_so typed ordered)

  abbrev m : Machine
  m = kernel_machine k

  abbrev accepted_so : IsAccepted f m name
  accepted_so = record {
    first = l.first;
    table = l.table;
    offers = l.offers;
    stubs = l.stubs;
    world = w;
    loads = subst (λ (x : WorldRecord). Loads f x name l.first l.table l.offers l.stubs w) (sym (world_is k h)) loads;
  }

  abbrev accepts_so : AcceptsFiles f (world_of m) name l.first l.table l.offers l.stubs w
  accepts_so = record {
    may = subst MayLoad (sym (world_is k h)) (may_load k h);
    loads = accepted_so.loads;
    typed = typed;
    ordered = ordered;
  }

  -- ---- All is as before where the domain isn't opened.

  pub content_again : (new : OpenParts) (cut_world : WorldRecord) (n : ℕ) → n ≡ length k.world.classes → KeepsParts (parts_with k w) new
      → cut_world ≡ record new.world { classes = take n new.world.classes }
      → ◌≡◌ {A = KernelContent} (record {
        world = cut_world;
        owns = new.owns;
        shared = new.shared;
        heap = new.heap;
        frames = new.frames;
        main_kind = k.main_kind;
      }) k
  content_again new cut_world n many keeps is =
      let front : cut_world ≡ k.world =
      is
      ∙ ap (λ (x : WorldRecord). let y : WorldRecord = record { classes = take n x.classes; domains = x.domains } in y) (keeps.world ∙ w_is)
      ∙ ap (λ (cs : List ClassRecord). let y : WorldRecord = record { classes = cs; domains = k.world.domains } in y)
      (cut k h law f name l w.classes loads_so typed ordered n many) in
      λ i. record {
        world = front i;
        owns = keeps.owns i;
        shared = keeps.shared i;
        heap = same_heap k.heap new.heap keeps.heap i;
        frames = same_stack k.frames new.frames keeps.frames i;
        main_kind = k.main_kind;
      }

  module _ (heaps : IsHeapContent k.heap) (frames : IsContent k.frames) (shared : AreSound k.shared) (q : Quotas) (tree : Option Tree) (root : List ℕ)
      (told : AreToldFiles tree (root /- name) f) where
    abbrev o : Opening
    o = record { tree = tree; root = root; name = name; quotas = q }

    abbrev accepted_here : HasAccepted o m
    accepted_here = record { files = f; are_files = files; are_told = told; accepted = accepted_so }

    pages : LacksPlaces (parts_with k w) q ≡ LacksPages m q
    pages = pages_lack k h heaps frames shared q

    lacks_pages : LacksPlaces (parts_with k w) q → LacksPages m q
    lacks_pages x = subst (λ (A : Type 0). A) pages x

    has_places : (LacksPlaces (parts_with k w) q → ⊥) → LacksPages m q → ⊥
    has_places none x = none (subst (λ (A : Type 0). A) (sym pages) x)

    numbers_so : LacksNumbers (caps_of m) q.caps ≡ LacksNumbers (caps_in k.shared) q.caps
    numbers_so = ap (λ (rs : List CapRange). LacksNumbers rs q.caps) (caps_are k h heaps frames shared)

    many_so : 65535 ≤ length k.world.domains → HasManyDomains m
    many_so many = omega (arith, many, as_many k h)

    pub cause_so : (e : AddAnswer) → IsWhyNot (parts_with k w) q e → IsCauseOf o m e
    cause_so (Adding.Refused rule place) why = absurd why
    cause_so Adding.NoRoom lacks = (accepted_here, lacks_pages lacks)
    cause_so Adding.CapNumbers (places, lacks) = (accepted_here, has_places places, subst (λ (A : Type 0). A) (sym numbers_so) lacks)
    cause_so Adding.TooManyDomains (places, numbers, many) = (
      accepted_here,
      has_places places,
      λ lacks. numbers (subst (λ (A : Type 0). A) numbers_so lacks),
      many_so (subst (λ (x : WorldRecord). 65535 ≤ length x.domains) w_is many),
    )
    cause_so Adding.ReadFault why = tt
    cause_so Adding.OutOfMemory why = tt

    -- ---- The domain is opened.

    module _ (new : OpenParts) (new_heaps : IsHeapContent new.heap) (opened : OpensParts (parts_with k w) new l name q) where
      opened_so : OpensParts (loaded_parts k h law f name l w.classes loads_so typed ordered) new l name q
      opened_so = subst (λ (x : WorldRecord). OpensParts (parts_with k x) new l name q) w_is opened

      abbrev pub kernel_of : KernelContent
      kernel_of = record {
        world = new.world;
        owns = new.owns;
        shared = new.shared;
        heap = new.heap;
        frames = new.frames;
        main_kind = k.main_kind;
      }

      pub kernel_so : AreKernelParts kernel_of
      kernel_so =
          kernel_then k h law f files name l w.classes loads_so typed ordered heaps frames shared q new new_heaps opened_so

      grown_so : new.world.classes ≡ w.classes
      grown_so = classes_are k h law f files name l w.classes loads_so typed ordered heaps frames shared q new new_heaps opened_so

      abbrev inside_now : Inside
      inside_now = inside k h law f files name l w.classes loads_so typed ordered heaps frames shared q new new_heaps opened_so

      machine_so : kernel_machine kernel_of ≡ with_new_domain m w (admission accepted_so q) inside_now
      machine_so =
          machine_is k h law f files name l w.classes loads_so typed ordered heaps frames shared q new new_heaps opened_so
          ∙ ap (λ (cs : List ClassRecord). with_new_domain m (record { classes = cs; domains = [] }) (admission accepted_so q) inside_now) grown_so

      pub opens_so : AddsDomain o m (Says.Loaded name ∷ []) (kernel_machine kernel_of)
      opens_so =
          let by_files : OpensWith f m name q (Says.Loaded name ∷ []) (with_new_domain m w (admission accepted_so q) inside_now) =
          opens accepted_so inside_now
          (pages_left k h law f files name l w.classes loads_so typed ordered heaps frames shared q new new_heaps opened_so)
          (numbers_left k h law f files name l w.classes loads_so typed ordered heaps frames shared q new new_heaps opened_so)
          (few_then k h law f files name l w.classes loads_so typed ordered heaps frames shared q new new_heaps opened_so)
          (subst (λ (cs : List ClassRecord). IsOpening cs l.table q.heap inside_now) grown_so
          (opening k h law f files name l w.classes loads_so typed ordered heaps frames shared q new new_heaps opened_so))
          (placed k h law f files name l w.classes loads_so typed ordered heaps frames shared q new new_heaps opened_so) in
          subst (AddsDomain o m (Says.Loaded name ∷ [])) (sym machine_so)
          (AddsDomain.opens accepted_here (Says.Loaded name ∷ [])
          (with_new_domain m w (admission accepted_so q) inside_now) by_files)

      abbrev opens_from : OpensFrom f m name q (kernel_machine kernel_of)
      opens_from = record {
        accepted = accepted_so;
        accepts = accepts_so;
        inside = inside_now;
        room = pages_left k h law f files name l w.classes loads_so typed ordered heaps frames shared q new new_heaps opened_so;
        numbers = numbers_left k h law f files name l w.classes loads_so typed ordered heaps frames shared q new new_heaps opened_so;
        few = few_then k h law f files name l w.classes loads_so typed ordered heaps frames shared q new new_heaps opened_so;
        opening =
            subst (λ (cs : List ClassRecord). IsOpening cs l.table q.heap inside_now) grown_so
            (opening k h law f files name l w.classes loads_so typed ordered heaps frames shared q new new_heaps opened_so);
        placed = placed k h law f files name l w.classes loads_so typed ordered heaps frames shared q new new_heaps opened_so;
        leads = machine_so;
      }

      pub opened_accepted : OpensAccepted m name q (kernel_machine kernel_of)
      opened_accepted = (f, files, opens_from)
