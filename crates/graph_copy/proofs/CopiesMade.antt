-- What is found may be laid, filled and forgotten, and is copied then.
use Rattle.std.proofs.Common.{◌≡◌, ℕ, ◌+◌, ◌-◌, ◌^◌, ◌<◌, ◌≤◌, ◌⊎◌, List, [], ◌∷◌, ◌++◌, length, map, Contains, Option, Some, IsSome, sum_by, nat_eq, slice_get, refl, sym, ap, ◌∙◌, subst, inl, inr, arith}
use Rattle.std.specs.List.{IsDistinct}
use Rattle.jk_model.specs.declared.identifiers.DomainId.{DomainId}
use Rattle.jk_model.specs.declared.values.Value.{Value}
use Rattle.jk_model.specs.declared.values.Value.TheVariants as Held
use Rattle.jk_model_classes.specs.declared.records.ClassRecord.{ClassRecord}
use Rattle.jk_model_classes.specs.declared.records.FieldRecord.{FieldRecord}
use Rattle.jk_model_classes.specs.Worlds.{WorldRecord}
use Rattle.jk_model_domains.specs.Objects.{NamedObject, Object, Array, Plain, Task, Text, object_named}
use Rattle.jk_model_domains.specs.OwnStates.{zero_of}
use Rattle.jk_model_graphs.specs.Copies.{ArePaired, Corresponds, EachCorresponds, FieldsCorrespond, IsCopied, IsCopy, IsOneToOne}
use Rattle.jk_model_graphs.specs.Followed.{followed, is_left_empty, kept_values}
use Rattle.jk_model_graphs.specs.Reach.{IsReach, words_named}
use Rattle.jk_model_heaps.specs.Heaps.{field_records}
use Rattle.jk_model_heaps.proofs.NamesInHeaps.{behind}
use Rattle.heap_laws.proofs.MappedLists.{mapped, zip_mapped}
use Rattle.heap_laws.proofs.ReachIsListed.{is_listed}
use Rattle.list_lemmas.proofs.ItemsByPlace.{slice_get-back}
use Rattle.list_lemmas.proofs.ItemsOfLists.{Contains-cases, Contains-here, Contains-none, Contains-there}
use Rattle.object_store.specs.HeapContents.{AreOfFields, HeapContent, IsHeapContent, IsLaidOut, IsLive}
use Rattle.object_store.proofs.ObjectsWritten.{both_keep}
use Rattle.heap_laws.proofs.CopiesAreThere.{field_step, kept_here, kept_there}
use Rattle.graph_copy.specs.Chains.{AreInTurn, ForgetsPairs, HasChain, IsChain, IsCopyIn, IsOutside, IsSourceIn, sources_of}
use Rattle.graph_copy.specs.CopiedAll.{IsAllFound}
use Rattle.graph_copy.specs.CopyAnswers.{Copies, graph_in}
use Rattle.graph_copy.specs.Discovered.{walk_of}
use Rattle.graph_copy.specs.Filled.{Fills, HasImage, HasParts, HaveImages, MayFill, copied_fields, copied_object, image_of}
use Rattle.graph_copy.specs.FoundSoFar.{IsMet}
use Rattle.graph_copy.specs.Laid.{Lays, MayLay}
use Rattle.graph_copy.proofs.AnswersFound.{left_where_marked}
use Rattle.graph_copy.proofs.ChainsFilled.{only_source}
use Rattle.graph_copy.proofs.ChainsForgotten.{another_source, copies_are_small, first_apart, same_domain_or_not}
use Rattle.graph_copy.proofs.ObjectsLaid.{live_so_far}
use Rattle.graph_copy.proofs.QueuesForgotten.{rest_distinct}
use Rattle.graph_copy.proofs.ReachFound.{cost_found, done_is_all, none_left, reach_found}

-- ---- Values, fields and objects correspond to what stands for them.

-- the pairs have each name among the values, and its mark leads to its copy
abbrev pub AllLead : List (ℕ × ℕ) → (ℕ → ℕ) → List Value → Type 0
AllLead pairs mark values = (a : ℕ) → Contains values (Held.Obj a) → (b : ℕ) × Contains pairs (a, b) × (mark a ≡ b + 1)

corresponds : (pairs : List (ℕ × ℕ)) (mark : ℕ → ℕ) (v : Value)
    → ((a : ℕ) → v ≡ Held.Obj a → (b : ℕ) × Contains pairs (a, b) × (mark a ≡ b + 1)) → Corresponds pairs v (image_of mark v)
corresponds pairs mark (Held.Int x) h = refl
corresponds pairs mark (Held.Long x) h = refl
corresponds pairs mark Held.Null h = refl
corresponds pairs mark (Held.Obj a) h =
    let lead = h a refl in
    let is : lead.0 ≡ mark a - 1 = omega (arith, lead.2) in
    subst (λ (n : ℕ). Contains pairs (a, n)) is lead.1
corresponds pairs mark (Held.Cap k) h = refl
corresponds pairs mark Held.Unset h = refl

pub each_corresponds : (pairs : List (ℕ × ℕ)) (mark : ℕ → ℕ) (values : List Value) → AllLead pairs mark values
    → EachCorresponds pairs values (map (image_of mark) values)
each_corresponds pairs mark values h =
    zip_mapped (Corresponds pairs) (image_of mark) values
    (λ v there. corresponds pairs mark v (λ a e. h a (subst (λ (w : Value). Contains values w) e there)))

fields_correspond : (pairs : List (ℕ × ℕ)) (mark : ℕ → ℕ) (fields : List FieldRecord) (values : List Value) → AreOfFields fields values
    → AllLead pairs mark (kept_values fields values) → FieldsCorrespond pairs fields values (copied_fields mark fields values)
fields_correspond pairs mark [] [] of h = tt
fields_correspond pairs mark [] (v ∷ values) of h = absurd of
fields_correspond pairs mark (f ∷ fields) [] of h = absurd of
fields_correspond pairs mark (f ∷ fields) (v ∷ values) of h = (
  field_step (is_left_empty f) pairs v (image_of mark v) (zero_of f.kind)
      (λ is. corresponds pairs mark v (λ a e. h a (subst (λ (w : Value). Contains (kept_values (f ∷ fields) (v ∷ values)) w) e
      (kept_here (is_left_empty f) v (kept_values fields values) is)))),
  fields_correspond pairs mark fields values of.1
      (λ a there. h a (kept_there (is_left_empty f) v (Held.Obj a) (kept_values fields values) there)),
)

pub is_copied : (classes : List ClassRecord) (pairs : List (ℕ × ℕ)) (mark : ℕ → ℕ) (object : Object) → IsLaidOut classes object
    → AllLead pairs mark (followed classes object) → IsCopied classes pairs object (copied_object classes mark object)
is_copied classes pairs mark (Plain c values) laid h = (refl, fields_correspond pairs mark (field_records classes c) values laid h)
is_copied classes pairs mark (Array t items) laid h = (refl, each_corresponds pairs mark items h)
is_copied classes pairs mark (Text units) laid h = refl
is_copied classes pairs mark (Task s) laid h = refl

-- ---- Pairs of a chain.

pub mark_leads : (sources copies : ℕ → ℕ) (pairs : List (ℕ × ℕ)) (a b : ℕ) → AreInTurn sources copies pairs → Contains pairs (a, b)
    → sources a ≡ b + 1
mark_leads sources copies [] a b turn there = absurd (Contains-none (a, b) there)
mark_leads sources copies (p ∷ pairs) a b turn there = elim (Contains-cases (a, b) p pairs there) [
  | inl same ↦ ap (λ (q : ℕ × ℕ). sources q.0) (sym same) ∙ turn.0 ∙ ap (λ (q : ℕ × ℕ). q.1 + 1) same
  | inr later ↦ mark_leads sources copies pairs a b turn.2 later
]

only_copy : (ps : List (ℕ × ℕ)) → IsDistinct nat_eq (sources_of ps) → (u c d : ℕ) → Contains ps (u, c) → Contains ps (u, d) → c ≡ d
only_copy [] distinct u c d first second = absurd (Contains-none (u, c) first)
only_copy (p ∷ ps) distinct u c d first second = elim (Contains-cases (u, c) p ps first) [
  | inl one ↦ elim (Contains-cases (u, d) p ps second) [
    | inl two ↦ sym (ap (λ (q : ℕ × ℕ). q.1) one) ∙ ap (λ (q : ℕ × ℕ). q.1) two
    | inr later ↦ absurd (another_source p ps distinct u (d, later) (sym (ap (λ (q : ℕ × ℕ). q.0) one)))
  ]
  | inr later ↦ elim (Contains-cases (u, d) p ps second) [
    | inl two ↦ absurd (another_source p ps distinct u (c, later) (sym (ap (λ (q : ℕ × ℕ). q.0) two)))
    | inr also ↦ only_copy ps (rest_distinct p.0 (sources_of ps) distinct) u c d later also
  ]
]

pub one_to_one : (c : HeapContent) (from to : DomainId) (pairs : List (ℕ × ℕ)) → IsChain c from to pairs → IsOneToOne pairs
one_to_one c from to pairs chain = record {
  one_copy = λ a x y first second. only_copy pairs chain.sources_differ a x y first second;
  one_source = λ a b x first second. only_source pairs chain.copies_differ a b x first second;
}

in_pairs_or_not : (pairs : List (ℕ × ℕ)) (f : ℕ × ℕ → ℕ) (x : ℕ) → ((p : ℕ × ℕ) × Contains pairs p × (f p ≡ x)) ⊎ (((p : ℕ × ℕ) → Contains pairs p
    → f p ≡ x → ⊥))
in_pairs_or_not pairs f x = elim (is_listed (map f pairs) x) [
  | inl there ↦ let p = mapped_back f pairs x there in inl p
  | inr not_there ↦ inr (λ p there same. not_there (subst (λ (n : ℕ). Contains (map f pairs) n) same (mapped f pairs p there)))
]
  where
    mapped_back : (f : ℕ × ℕ → ℕ) (ps : List (ℕ × ℕ)) (y : ℕ) → Contains (map f ps) y → (p : ℕ × ℕ) × Contains ps p × (f p ≡ y)
    mapped_back f [] y there = absurd (Contains-none y there)
    mapped_back f (p ∷ ps) y there = elim (Contains-cases y (f p) (map f ps) there) [
      | inl same ↦ (p, Contains-here p ps, same)
      | inr later ↦ let q = mapped_back f ps y later in (q.0, Contains-there q.0 p ps q.1, q.2)
    ]

-- ---- What is found.

module _ (c now : HeapContent) (w : WorldRecord) (from to : DomainId) (values : List Value) (head : Option ℕ)
    (f : IsAllFound c now w from to values head) where
  was_live : (a : ℕ) (object : Object) → IsLive now from a object → IsLive c from a object
  was_live a object live = ap (λ (h : List NamedObject). object_named h a) (sym (f.found.marks.heap from)) ∙ live

  done_if_met : (a : ℕ) → IsMet f.found.first f.found.second a → Contains f.found.second a
  done_if_met a met = done_is_all c now (walk_of w from to values) head f.sum f.found a met

  -- what an object leads to is among what is found
  led_is_found : (a x : ℕ) (object : Object) → Contains f.found.second a → IsLive now from a object → Contains (followed w.classes object) (Held.Obj x)
      → Contains f.found.second x
  led_is_found a x object there live led = done_if_met x (f.found.further a x there (object, was_live a object live, led))

  given_is_found : (x : ℕ) → Contains values (Held.Obj x) → Contains f.found.second x
  given_is_found x there = done_if_met x (f.found.given x there)

  sum_is : sum_by (words_named w.classes (now.heap from)) f.found.second ≡ f.sum
  sum_is = ap (λ (h : List NamedObject). sum_by (words_named w.classes h) f.found.second) (f.found.marks.heap from) ∙ sym f.found.is_sum

  pub may_lay : MayLay now w.classes from to head
  may_lay = record {
    names = f.found.second;
    queue = f.found.met.done_queue;
    is_head = f.found.is_second;
    admitted = subst (λ (q : Option ℕ). IsSome q) (sym (f.found.marks.domains.quota to)) f.may.admitted.1;
    has_classes = λ a object there live. f.may.heap.has_classes a object (was_live a object live);
    fits = omega (arith, sum_is, f.fits, left_where_marked c now from to f.found.marks);
  }

  -- ---- The copies are laid.

  module _ (mid : HeapContent) (first : Option ℕ) (holds_mid : IsHeapContent mid) (l : Lays now mid w.classes from to f.found.second first) where
    leads : (x : ℕ) → Contains f.found.second x → (y : ℕ) × Contains l.pairs (x, y) × (mid.mark from x ≡ y + 1)
    leads x there =
        let source = l.all x there in
        (source.0, source.1, mark_leads (mid.mark from) (mid.mark to) l.pairs x source.0 l.laid.chain.linked source.1)

    image_there : (x : ℕ) → Contains f.found.second x → HasImage mid from x
    image_there x there =
        let lead = leads x there in
        let small = copies_are_small mid from to l.pairs holds_mid l.laid.chain lead.0 (x, lead.1) in
        record {
          is_name = l.laid.chain.sources x (lead.0, lead.1);
          marked = omega (arith, lead.2);
          small = omega (arith, lead.2, small);
        }

    live_in_mid : (a : ℕ) (object : Object) → IsLive now from a object → IsLive mid from a object
    live_in_mid a object live = live_so_far now mid w.classes from to from a object l.pairs l.made l.laid live

    pub may_fill : MayFill mid w.classes from to first
    may_fill = record {
      pairs = l.pairs;
      chain = l.laid.chain;
      is_first = l.is_first;
      each = λ a b there.
          let name = l.laid.was_there a (b, there) in
          let found = l.only a (b, there) in
          record {
            object = name.0;
            live = live_in_mid a name.0 name.1;
            laid_out = f.may.heap.laid_out a name.0 (was_live a name.0 name.1);
            has_classes = f.may.heap.has_classes a name.0 (was_live a name.0 name.1);
            images = λ x led. image_there x (led_is_found a x name.0 found name.1 led);
            empty = ap (λ (h : List NamedObject). object_named h b) l.laid.becomes
                ∙ behind (now.heap to) l.made b (l.laid.fresh b (a, there)) ∙ l.laid.empty a b name.0 there name.1;
            apart = first_apart mid from to a b l.pairs l.laid.chain there;
          };
    }

    -- ---- And filled.

    module _ (full : HeapContent) (holds_full : IsHeapContent full) (g : Fills mid full w.classes from to l.pairs) where
      pub chain_still : IsChain full from to l.pairs
      chain_still = record {
        linked = turned_on l.pairs l.laid.chain.linked;
        sources_differ = l.laid.chain.sources_differ;
        copies_differ = l.laid.chain.copies_differ;
        sources = λ a there. g.names from a (l.laid.chain.sources a there);
        copies = λ b there. g.names to b (l.laid.chain.copies b there);
        apart = l.laid.chain.apart;
      }
        where
          turned_on : (ps : List (ℕ × ℕ)) → AreInTurn (mid.mark from) (mid.mark to) ps → AreInTurn (full.mark from) (full.mark to) ps
          turned_on [] turn = tt
          turned_on (p ∷ ps) turn = (g.becomes.mark from p.0 ∙ turn.0, g.becomes.mark to p.1 ∙ turn.1, turned_on ps turn.2)

      pub given_have_images : HaveImages full from values
      given_have_images x there =
          let image = image_there x (given_is_found x there) in
          record {
            is_name = g.names from x image.is_name;
            marked = subst (λ (m : ℕ). 0 < m) (sym (g.becomes.mark from x)) image.marked;
            small = subst (λ (m : ℕ). m ≤ 2 ^ 30) (sym (g.becomes.mark from x)) image.small;
          }

      pub has_chain : HasChain full from to first
      has_chain = record { pairs = l.pairs; chain = chain_still; is_first = l.is_first }

      -- ---- And forgotten.

      module _ (last : HeapContent) (holds : IsHeapContent now) (holds_last : IsHeapContent last) (answers : List Value)
          (replaced : answers ≡ map (image_of (full.mark from)) values) (k : ForgetsPairs full last from to l.pairs) where
        parts : HasParts (now.heap to) l.made (full.heap to)
        parts = g.parts (now.heap to) l.made l.laid.becomes l.laid.fresh

        heap_is : last.heap to ≡ now.heap to ++ parts.new
        heap_is = k.heap to ∙ parts.becomes

        copy_named : (e : NamedObject) → Contains parts.new e → IsCopyIn l.pairs e.name
        copy_named e there =
            l.laid.only_copies e.name
            (subst (λ (ns : List ℕ). Contains ns e.name) parts.names (mapped (λ (x : NamedObject). x.name) parts.new e there))

        made_differ : (i j : ℕ) (a b : NamedObject) → slice_get parts.new i ≡ Some a → slice_get parts.new j ≡ Some b → a.name ≡ b.name → i ≡ j
        made_differ i j a b at_i at_j same =
            let there : (n : ℕ) (e : NamedObject) → slice_get parts.new n ≡ Some e → slice_get (last.heap to) (length (now.heap to) + n) ≡ Some e =
            λ n e at. ap (λ (h : List NamedObject). slice_get h (length (now.heap to) + n)) heap_is
            ∙ slice_get-back (now.heap to) parts.new n (length (now.heap to) + n) refl ∙ at in
            let one = holds_last.differ to (length (now.heap to) + i) (length (now.heap to) + j) a b (there i a at_i) (there j b at_j) same in
            omega (arith, one)

        paired : (a b : ℕ) → Contains l.pairs (a, b) → ArePaired w.classes (c.heap from) parts.new l.pairs a b
        paired a b there =
            let name = l.laid.was_there a (b, there) in
            let found = l.only a (b, there) in
            record {
              object = name.0;
              is_object = was_live a name.0 name.1;
              copy = copied_object w.classes (mid.mark from) name.0;
              is_copy = sym (behind (now.heap to) parts.new b (l.laid.fresh b (a, there)))
                  ∙ ap (λ (h : List NamedObject). object_named h b) (sym parts.becomes)
                  ∙ g.filled a b name.0 there (live_in_mid a name.0 name.1);
              same = is_copied w.classes l.pairs (mid.mark from) name.0 (f.may.heap.laid_out a name.0 (was_live a name.0 name.1))
                  (λ x led. leads x (led_is_found a x name.0 found name.1 led));
            }

        given_correspond : EachCorresponds l.pairs values answers
        given_correspond =
            subst (λ (vs : List Value). EachCorresponds l.pairs values vs) (sym replaced)
            (each_corresponds l.pairs (full.mark from) values
            (λ x there. let lead = leads x (given_is_found x there) in (lead.0, lead.1, g.becomes.mark from x ∙ lead.2)))

        found_reach : IsReach w.classes (graph_in c from values) f.found.second
        found_reach = reach_found c now (walk_of w from to values) head f.sum f.found

        is_copy_of : IsCopy w.classes (graph_in c from values) (c.heap to) (graph_in last to answers) l.pairs
        is_copy_of = record {
          made = parts.new;
          grown = heap_is ∙ ap (λ (h : List NamedObject). h ++ parts.new) (f.found.marks.heap to);
          fresh = λ e there.
              ap (λ (h : List NamedObject). object_named h e.name) (sym (f.found.marks.heap to)) ∙ l.laid.fresh e.name (copy_named e there);
          differ = made_differ;
          one_to_one = one_to_one mid from to l.pairs l.laid.chain;
          each_reached = λ a b there. found_reach.each a (l.only a (b, there));
          all_reached = λ a reached. l.all a (found_reach.all a reached);
          each_made = paired;
          all_made = copy_named;
          values = given_correspond;
        }

        -- a mark that was neither met nor made is as it was
        mark_outside : (e : DomainId) (x : ℕ) → IsOutside from to l.pairs e x → last.mark e x ≡ c.mark e x
        mark_outside e x outside =
            k.others e x outside ∙ g.becomes.mark e x ∙ l.laid.other_marks e x outside
            ∙ (elim (same_domain_or_not e from) [
              | inl same ↦
                  ap (λ (d : DomainId). now.mark d x) same
                  ∙ f.found.met.others x (none_left f.found.first f.found.is_first x) (λ there. outside.0 same (l.all x there))
                  ∙ sym (ap (λ (d : DomainId). c.mark d x) same ∙ f.may.calm x)
              | inr differs ↦ f.found.marks.other_domains e x differs
            ])

        fresh_unmarked : (b : ℕ) → IsCopyIn l.pairs b → c.mark to b ≡ 0
        fresh_unmarked b there = elim (same_domain_or_not to from) [
          | inl same ↦ ap (λ (d : DomainId). c.mark d b) same ∙ f.may.calm b
          | inr differs ↦ sym (f.found.marks.other_domains to b differs) ∙ holds.unmarked to b (l.laid.fresh b there)
        ]

        source_here : (e : DomainId) (x : ℕ) → ((e ≡ from) × IsSourceIn l.pairs x) ⊎ (e ≡ from → IsSourceIn l.pairs x → ⊥)
        source_here e x = elim (same_domain_or_not e from) [
          | inr differs ↦ inr (λ same. absurd (differs same))
          | inl same ↦ elim (in_pairs_or_not l.pairs (λ (p : ℕ × ℕ). p.0) x) [
            | inl there ↦ inl (same, (there.0.1, subst (λ (n : ℕ). Contains l.pairs (n, there.0.1)) there.2 there.1))
            | inr not_there ↦ inr (λ one source. not_there (x, source.0) source.1 refl)
          ]
        ]

        copy_here : (e : DomainId) (x : ℕ) → ((e ≡ to) × IsCopyIn l.pairs x) ⊎ (e ≡ to → IsCopyIn l.pairs x → ⊥)
        copy_here e x = elim (same_domain_or_not e to) [
          | inr differs ↦ inr (λ same. absurd (differs same))
          | inl same ↦ elim (in_pairs_or_not l.pairs (λ (p : ℕ × ℕ). p.1) x) [
            | inl there ↦ inl (same, (there.0.0, subst (λ (n : ℕ). Contains l.pairs (there.0.0, n)) there.2 there.1))
            | inr not_there ↦ inr (λ one copy. not_there (copy.0, x) copy.1 refl)
          ]
        ]

        all_marks : (e : DomainId) (x : ℕ) → last.mark e x ≡ c.mark e x
        all_marks e x = elim (source_here e x) [
          | inl source ↦
              ap (λ (d : DomainId). last.mark d x) source.0 ∙ k.sources x source.1
              ∙ sym (ap (λ (d : DomainId). c.mark d x) source.0 ∙ f.may.calm x)
          | inr not_source ↦ elim (copy_here e x) [
            | inl copy ↦
                ap (λ (d : DomainId). last.mark d x) copy.0 ∙ k.copies x copy.1
                ∙ sym (ap (λ (d : DomainId). c.mark d x) copy.0 ∙ fresh_unmarked x copy.1)
            | inr not_copy ↦ mark_outside e x (not_source, not_copy)
          ]
        ]

        pub all_copied : Copies c last w.classes from to values answers
        all_copied = record {
          pairs = l.pairs;
          is_copy = is_copy_of;
          words = f.sum;
          costs = cost_found c now (walk_of w from to values) head f.sum f.found;
          becomes = record {
            domains = both_keep c now last f.found.marks.domains
                (both_keep now mid last l.laid.domains (both_keep mid full last g.becomes.domains k.domains));
            becomes = refl;
            others = λ e differs. k.heap e ∙ g.becomes.others e differs ∙ l.laid.other_heaps e differs ∙ f.found.marks.heap e;
            uses = k.used to ∙ g.becomes.uses ∙ l.uses
                ∙ ap (λ (n : ℕ). now.used to + n) sum_is ∙ ap (λ (n : ℕ). n + f.sum) (f.found.marks.used to);
            other_uses = λ e differs. k.used e ∙ g.becomes.other_uses e differs ∙ l.laid.other_uses e differs ∙ f.found.marks.used e;
            mark = all_marks;
          };
        }
