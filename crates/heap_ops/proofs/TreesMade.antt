-- Arrays of arrays by the counts that an instruction finds.
use Rattle.std.proofs.Common.{◌≡◌, inl, inr, ℕ, ℤ, pos, ◌+◌, ◌<◌, ◌≤◌, List, [], ◌∷◌, ◌++◌, length, map, Fits, w16, Option, Some, None, refl, sym, ap, subst, ◌∙◌, arith}
use Rattle.std.proofs.lemmas.List.{length-map}
use Rattle.std.proofs.lemmas.Option.{same_Some}
use Rattle.std.specs.Prelude.{◌↔◌, Bool, true, false, IsFalse, IsTrue, MatchOption, option_and_then, option_map}
use Rattle.std.proofs.lemmas.Bool.{cases_lt}
use Rattle.jk_model.specs.declared.identifiers.DomainId.{DomainId}
use Rattle.jk_model.specs.declared.opcodes.TheConstants.{MULTIANEWARRAY}
use Rattle.jk_model.specs.declared.steps.After.TheVariants as Next
use Rattle.jk_model.specs.declared.steps.Raise.TheVariants as Raised
use Rattle.jk_model.specs.declared.steps.Standing.TheVariants as Stands
use Rattle.jk_model.specs.declared.values.Value.TheVariants as Held
use Rattle.jk_model_classes.specs.declared.records.ClassRecord.{ClassRecord}
use Rattle.jk_model_classes.specs.declared.records.TypeRef.{TypeRef}
use Rattle.jk_model_domains.specs.Objects.{NamedObject, object_named}
use Rattle.jk_model_heaps.specs.Heaps.{Makes, heap_words}
use Rattle.jk_model_heaps.specs.SystemClasses.{NEGATIVE_ARRAY_SIZE_EXCEPTION}
use Rattle.jk_model_heap_rows.specs.ArrayTrees.{IsTree, Made, MakesTree, tree_words}
use Rattle.jk_model_heap_rows.specs.HeapRows.{makes_arrays}
use Rattle.jk_model_heap_rows.specs.NewObjectRows.{LacksWords, count_of, counts_of}
use Rattle.jk_model_heap_rows.proofs.TreesCost.{trees_cost}
use Rattle.step_contents.specs.Operands.{LeadsToType}
use Rattle.frame_store.specs.FrameContents.{FrameContent}
use Rattle.heap_loops.specs.ObjectsMade.{MakesObjects}
use Rattle.object_store.specs.HeapContents.{HeapContent, IsHeapContent, words_left}
use Rattle.row_laws.proofs.ClassesToMake.{type_short}
use Rattle.step_contents.specs.Conditions.{around}
use Rattle.step_contents.proofs.InstructionsBegin.{runs_code, runs_well}
use Rattle.heap_ops.specs.declared.here.Here.{Here}
use Rattle.heap_ops.specs.ArrayCounts.{AreIntsOnTop}
use Rattle.heap_ops.specs.OneInstruction.{place_in}
use Rattle.heap_ops.specs.TopEntries.{HasEntries, PutsFor}
use Rattle.heap_ops.proofs.CountsRead.{ints_are_one}
use Rattle.heap_ops.proofs.DoingHere.{Doing, Done, entries, found, i, put, raised, s, same_classes, same_heap, top, w}
use Rattle.heap_ops.proofs.FoundByOpcode.{NewArraysFound, found_at}
use Rattle.heap_ops.proofs.ObjectsMade.{fits, grown_by, lacks, went_on_grown}
use Rattle.heap_ops.proofs.ObjectsNew.{one_type}
use Rattle.heap_ops.proofs.RoomOnStack.{shape_at}
use Rattle.heap_ops.proofs.StaticsUsed.{never_true}
use Rattle.heap_ops.proofs.TextsLoaded.{left_most}

-- as many sizes as counts
as_many_by : (k : ℤ) (more : Option (List ℕ)) (sizes : List ℕ) (n : ℕ)
    → option_and_then (λ (count : ℕ). option_map (λ (counts : List ℕ). count ∷ counts) more) (count_of k) ≡ Some sizes
    → ((rest : List ℕ) → more ≡ Some rest → n ≡ length rest) → 1 + n ≡ length sizes
as_many_by (pos m) None sizes n is rest = absurd cc
as_many_by (pos m) (Some counts) sizes n is rest =
    let same : m ∷ counts ≡ sizes = same_Some (m ∷ counts) sizes is in
    let long = rest counts refl in
    omega (arith, long, ap length same)
as_many_by (ℤ.negsuc m) more sizes n is rest = absurd cc

pub as_many : (ks : List ℤ) (sizes : List ℕ) → counts_of ks ≡ Some sizes → length ks ≡ length sizes
as_many [] sizes is = ap length (same_Some [] sizes is)
as_many (k ∷ ks) sizes is =
    let long = as_many_by k (counts_of ks) sizes (length ks) is (λ rest e. as_many ks rest e) in
    omega (arith, long)

number : {j k : ℕ} → pos j ≡ pos k → j ≡ k
number e = cc

module _ (heaps : HeapContent) (frames : FrameContent) (h : Here) (k : Doing heaps frames h) (op : (place_in h).instr.op ≡ MULTIANEWARRAY) where
  abbrev pub here_found : NewArraysFound (s heaps frames h k) (i heaps frames h k) (w heaps frames h k)
  here_found = found_at k.setting (s heaps frames h k) (i heaps frames h k) (w heaps frames h k) MULTIANEWARRAY op refl refl (found heaps frames h k)

  pub names_type : (t : TypeRef) × LeadsToType (place_in h) t
  names_type = (here_found.kind, here_found.leads)

  pub same_type : (t : TypeRef) → LeadsToType (place_in h) t → here_found.kind ≡ t
  same_type t to = one_type heaps frames h k here_found.kind t here_found.leads to

  -- no type has more dimensions than 255, and there are at most as many counts
  pub few_counts : (t : TypeRef) → LeadsToType (place_in h) t → (n : ℕ) → (place_in h).instr.b ≡ pos n → (1 ≤ n) × (n ≤ t.dims)
  few_counts t to n b =
      let is = shape_at heaps frames h k MULTIANEWARRAY op in
      let same : is.0 ≡ t = one_type heaps frames h k is.0 t is.2 to in
      let many : is.1 ≡ n = number (sym is.3 ∙ b) in
      let some = is.4 in
      let within = is.5 in
      let dims = ap (λ (x : TypeRef). x.dims) same in
      (omega (arith, some, many), omega (arith, within, many, dims))

  -- so many counts there are
  pub counts_are_few : (n : ℕ) × ((place_in h).instr.b ≡ pos n) × (n ≤ 255)
  counts_are_few =
      let f = here_found in
      let runs = runs_well k.may k.setting k.is_setting in
      let short = type_short (around k.may.domain) k.setting (w heaps frames h k) runs
      (runs_code k.may) f.kind f.leads in
      let most = (few_counts f.kind f.leads (length f.counts) f.as_many).1 in
      (length f.counts, f.as_many, omega (arith, short, most))

  -- the counts that are found are on top
  abbrev pub ints_there : (ks : List ℤ) × AreIntsOnTop frames h.segment ks × ((place_in h).instr.b ≡ pos (length ks))
  ints_there =
      let f = here_found in (
        f.counts,
        record { frame = (w heaps frames h k).frame; top = top heaps frames h k; below = f.on_top.0; stack = f.on_top.1 },
        f.as_many,
      )

  pub ints_as_many : (n : ℕ) → (place_in h).instr.b ≡ pos n
      → (ks : List ℤ) × AreIntsOnTop frames h.segment ks × ((place_in h).instr.b ≡ pos (length ks)) × (length ks ≡ n)
  ints_as_many n b = let f = ints_there in (f.0, f.1, f.2, number (sym f.2 ∙ b))

  pub are_found : (ks : List ℤ) → AreIntsOnTop frames h.segment ks → (place_in h).instr.b ≡ pos (length ks) → here_found.counts ≡ ks
  are_found ks on_top b =
      ints_are_one frames h.segment here_found.counts ks ints_there.1 on_top (number (sym here_found.as_many ∙ b))

  pub negative_raises : (ks : List ℤ) → AreIntsOnTop frames h.segment ks → (place_in h).instr.b ≡ pos (length ks) → counts_of ks ≡ None
      → Done heaps frames h k heaps frames k.own (Next.Raise (Raised.Fresh NEGATIVE_ARRAY_SIZE_EXCEPTION))
  negative_raises ks on_top b none =
      let f = here_found in
      raised heaps frames h k (Raised.Fresh NEGATIVE_ARRAY_SIZE_EXCEPTION)
      (makes_arrays (record {
        op = op;
        kind = f.kind;
        names = f.leads;
        counts = f.counts;
        as_many = f.as_many;
        on_top = f.on_top;
        does = inl (ap counts_of (are_found ks on_top b) ∙ none, (refl, refl));
      }))

  module _ (ks : List ℤ) (on_top : AreIntsOnTop frames h.segment ks) (b : (place_in h).instr.b ≡ pos (length ks)) (sizes : List ℕ)
      (counted : counts_of ks ≡ Some sizes) (t : TypeRef) (to : LeadsToType (place_in h) t) where
    sizes_are : counts_of here_found.counts ≡ Some sizes
    sizes_are = ap counts_of (are_found ks on_top b) ∙ counted

    pub some_sizes : (1 ≤ length sizes) × (length sizes ≤ t.dims)
    some_sizes =
        let few = few_counts t to (length ks) b in
        let long = as_many ks sizes counted in
        let low = few.0 in
        let high = few.1 in
        (omega (arith, low, long), omega (arith, high, long))

    pub few_bytes : Fits w16 (length sizes)
    few_bytes =
        let runs = runs_well k.may k.setting k.is_setting in
        let short = type_short (around k.may.domain) k.setting (w heaps frames h k) runs
        (runs_code k.may) t to in
        let most = some_sizes.1 in
        let bound : length sizes < 65536 = omega (arith, short, most) in
        record { fits = bound }

    pub many_there : HasEntries frames h.segment (length sizes)
    many_there =
        let f = here_found in
        subst (HasEntries frames h.segment)
        (length-map f.counts Held.Int ∙ ap length (are_found ks on_top b) ∙ as_many ks sizes counted)
        (entries heaps frames h k (map Held.Int f.counts) f.on_top)

    pub words_fail : words_left heaps h.domain < tree_words t sizes
        → Done heaps frames h k heaps frames k.own (Next.Raise (Raised.Standing Stands.OutOfMemoryError))
    words_fail low =
        let f = here_found in
        let lacking : LacksWords k.setting (w heaps frames h k) (tree_words f.kind sizes) =
        subst (λ (u : TypeRef). LacksWords k.setting (w heaps frames h k) (tree_words u sizes)) (sym (same_type t to))
        (lacks heaps frames h k (tree_words t sizes) low) in
        raised heaps frames h k (Raised.Standing Stands.OutOfMemoryError)
        (makes_arrays (record {
          op = op;
          kind = f.kind;
          names = f.leads;
          counts = f.counts;
          as_many = f.as_many;
          on_top = f.on_top;
          does = inr (inl (sizes, sizes_are, (lacking, (refl, refl))));
        }))

    pub arrays_pushed : IsHeapContent heaps → tree_words t sizes ≤ words_left heaps h.domain → (new_heaps : HeapContent) (new_frames : FrameContent)
        (a : ℕ) (made : List NamedObject) → (let tree : Made = record { value = Held.Obj a; objects = made } in IsTree t sizes tree)
        → MakesObjects heaps new_heaps h.world.now.classes h.domain made → PutsFor frames new_frames h.segment (length sizes) (Held.Obj a)
        → Done heaps frames h k new_heaps new_frames k.own (Next.Goto ((place_in h).head.at + 1))
    arrays_pushed holds low new_heaps new_frames a made tree makes puts =
        let f = here_found in
        let tree_of : Made = record { value = Held.Obj a; objects = made } in
        let heap = (w heaps frames h k).inside.heap in
        let cost : heap_words h.world.now.classes made ≡ tree_words t sizes = trees_cost h.world.now.classes sizes t tree_of tree in
        let fitting = fits heaps frames h k holds (tree_words t sizes) low in
        let made_so : Makes h.world.now.classes k.setting.quota heap made (heap ++ made) = record {
          fresh = λ e has. subst (λ (xs : List NamedObject). object_named xs e.name ≡ None) (sym (same_heap heaps frames h k)) (makes.fresh e has);
          differ = makes.differ;
          fits = subst (λ (n : ℕ). heap_words h.world.now.classes heap + n ≤ k.setting.quota) (sym cost) fitting;
          grown = refl;
        } in
        let makes_tree : MakesTree k.setting f.kind sizes a heap (heap ++ made) = record {
          made = made;
          is_tree = subst (λ (u : TypeRef). IsTree u sizes tree_of) (sym (same_type t to)) tree;
          makes = subst (λ (classes : List ClassRecord). Makes classes k.setting.quota heap made (heap ++ made))
              (sym (same_classes heaps frames h k)) made_so;
        } in
        let long = length-map f.counts Held.Int ∙ ap length (are_found ks on_top b) ∙ as_many ks sizes counted in
        let puts_it : PutsFor frames new_frames h.segment (length (map Held.Int f.counts)) (Held.Obj a) =
        subst (λ (n : ℕ). PutsFor frames new_frames h.segment n (Held.Obj a)) (sym long) puts in
        let room : LacksWords k.setting (w heaps frames h k) (tree_words f.kind sizes) → ⊥ =
        λ lacking. not_both (subst (λ (classes : List ClassRecord). k.setting.quota < heap_words classes heap + tree_words f.kind sizes)
        (same_classes heaps frames h k) lacking)
        (subst (λ (u : TypeRef). heap_words h.world.now.classes heap + tree_words u sizes ≤ k.setting.quota) (sym (same_type t to)) fitting) in
        went_on_grown heaps frames h k new_heaps new_frames (heap ++ made) (map Held.Int f.counts) (Held.Obj a ∷ []) f.on_top
        (grown_by heaps frames h k new_heaps made makes.becomes)
        (put heaps frames h k new_frames (map Held.Int f.counts) (Held.Obj a) f.on_top puts_it)
        (λ new_w goes. makes_arrays (record {
          op = op;
          kind = f.kind;
          names = f.leads;
          counts = f.counts;
          as_many = f.as_many;
          on_top = f.on_top;
          does = inr (inr (sizes, a, heap ++ made, sizes_are, room, makes_tree, goes));
        }))
      where
        not_both : {m n : ℕ} → m < n → n ≤ m → ⊥
        not_both p q = omega (arith, p, q)

-- ---- Whether they fit.

pub trees_lack : (heaps : HeapContent) (d : DomainId) (words : ℕ) (told : Option ℕ) (free : ℕ) (fit : Bool) → IsHeapContent heaps
    → free ≡ words_left heaps d → MatchOption told (16777216 < words) (λ n. n ≡ words)
    → MatchOption told (IsFalse fit) (λ n. IsTrue fit ↔ (n ≤ free)) → fit ≡ false → words_left heaps d < words
trees_lack heaps d words None free fit holds left many none no_fit =
    let most = left_most (heaps.used d) (heaps.quota d) (λ q is. (holds.within d q is).2) in
    omega (arith, most, many)
trees_lack heaps d words (Some n) free fit holds left same tells no_fit = elim (cases_lt free n) [
  | inl low ↦ omega (arith, low, left, same)
  | inr high ↦ absurd (never_true fit no_fit (tells.1 high))
]

pub trees_fit : (heaps : HeapContent) (d : DomainId) (words : ℕ) (told : Option ℕ) (free : ℕ) (fit : Bool)
    → free ≡ words_left heaps d → MatchOption told (16777216 < words) (λ n. n ≡ words)
    → MatchOption told (IsFalse fit) (λ n. IsTrue fit ↔ (n ≤ free)) → fit ≡ true → words ≤ words_left heaps d
trees_fit heaps d words None free fit left many none is_fit = absurd (false_never fit none is_fit)
  where
    false_never : (b : Bool) → IsFalse b → b ≡ true → ⊥
    false_never true e f = absurd cc
    false_never false e f = absurd cc
trees_fit heaps d words (Some n) free fit left same tells is_fit = let low = tells.0 is_fit in omega (arith, low, left, same)
