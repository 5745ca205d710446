-- Of the rules of a start the first that applies is taken.
use Rattle.std.proofs.Common.{◌≡◌, ℕ, ◌+◌, List, [], ◌∷◌, Some, None, length, map, refl, sym, ap, subst, ◌∙◌, arith}
use Rattle.std.specs.Prelude.{codes, sum_by}
use Rattle.std.proofs.lemmas.List.Sums.{sum_by-cons}
use Rattle.std.proofs.lemmas.Option.{none-some, same_Some}
use Rattle.jk_model.specs.declared.descriptors.MethodType.{MethodType}
use Rattle.jk_model.specs.declared.identifiers.ClassId.{ClassId}
use Rattle.jk_model.specs.declared.identifiers.MemberId.{MemberId}
use Rattle.jk_model.specs.declared.output.Line.{Line}
use Rattle.jk_model.specs.declared.output.Line.TheVariants.{Started, StartRefused}
use Rattle.jk_model.specs.declared.values.Value.{Value}
use Rattle.jk_model.specs.declared.values.Value.TheVariants as Held
use Rattle.jk_model_classes.specs.declared.records.Body.TheVariants as Does
use Rattle.jk_model_classes.specs.declared.records.ClassRecord.{ClassRecord}
use Rattle.jk_model_classes.specs.declared.records.LinkedCode.{LinkedCode}
use Rattle.jk_model_classes.specs.declared.records.MethodRecord.{MethodRecord}
use Rattle.jk_model_classes.specs.Classes.{method_walk}
use Rattle.jk_model_classes.specs.Layouts.{HEADER_WORDS}
use Rattle.jk_model_classes.specs.Lookups.{FindsMethod, IsMethodOf, MethodIs}
use Rattle.jk_model_classes.specs.Worlds.{class_named}
use Rattle.jk_model_typing.specs.FrameTypes.{STRING}
use Rattle.jk_model_domains.specs.Objects.{Array, NamedObject, Text, class_type, object_words}
use Rattle.jk_model_heaps.specs.Heaps.{heap_words, named}
use Rattle.jk_model_heaps.specs.Workings.{Inside}
use Rattle.jk_model_machine_state.specs.Machines.{DomainState, Machine, live_domain}
use Rattle.jk_model_runs.specs.Starts.{HasClass, HasDomain, HasMain, HasManyThreads, IsMain, LacksChunks, LacksWords, MakesWords, StartWords, Starts, begins, few_chunks, many_threads, many_words, no_class, no_domain, no_main}
use Rattle.class_lemmas.proofs.OneMember.{one_on}
use Rattle.class_lemmas.proofs.OneRecord.{one_method}
use Rattle.list_lemmas.proofs.EndsOfLists.{head_is, tail_is}
use Rattle.descriptors.proofs.NoTextBeginsAnother.{one_method as one_method_type}

-- ---- What the words take where they are made.

texts_cost : (classes : List ClassRecord) (texts : List NamedObject) (words : List (List ℕ)) → map (λ (e : NamedObject). e.object) texts ≡ map Text words
    → (heap_words classes texts ≡ sum_by (λ (w : List ℕ). HEADER_WORDS + length w) words) × (length texts ≡ length words)
texts_cost classes [] [] e = (refl, refl)
texts_cost classes [] (w ∷ words) e = absurd cc
texts_cost classes (x ∷ texts) [] e = absurd cc
texts_cost classes (x ∷ texts) (w ∷ words) e =
    let f = λ (y : NamedObject). y.object in
    let first : x.object ≡ Text w = head_is x.object (Text w) (map f texts) (map Text words) e in
    let rest = texts_cost classes texts words (tail_is x.object (Text w) (map f texts) (map Text words) e) in (
      omega (
        arith,
        rest.0,
        ap (object_words classes) first,
        sum_by-cons (λ (y : NamedObject). object_words classes y.object) x texts,
        sum_by-cons (λ (v : List ℕ). HEADER_WORDS + length v) w words,
      ),
      omega (arith, rest.1),
    )

length_map : (f : NamedObject → Value) (xs : List NamedObject) → length (map f xs) ≡ length xs
length_map f [] = refl
length_map f (x ∷ xs) = omega (arith, length_map f xs)

makes_none_too_large : (m : Machine) (d : DomainState) (inside : Inside) (words : List (List ℕ)) (heap : List NamedObject)
    → MakesWords m d inside.heap words heap → LacksWords m d inside words → ⊥
makes_none_too_large m d inside words heap made lacks =
    let cost = texts_cost m.classes made.texts words made.are_words in
    let array = named made.array (Array (class_type STRING) (map (λ (e : NamedObject). Held.Obj e.name) made.texts)) in
    omega (
      arith,
      made.makes.fits,
      lacks,
      cost.0,
      cost.1,
      length_map (λ (e : NamedObject). Held.Obj e.name) made.texts,
      sum_by-cons (λ (y : NamedObject). object_words m.classes y.object) array made.texts,
    )

-- ---- One `main`.

module _ (m : Machine) (class : ClassId) (a b : MemberId) (x y : LinkedCode) (first : IsMain m class a x) (second : IsMain m class b y) where
  pub one_main : a ≡ b
  one_main =
      let types : first.type ≡ second.type = one_method_type (codes "([Ljava/lang/String;)V") first.type second.type first.text second.text in
      let found : FindsMethod m.classes class (codes "main") second.type (Some a) =
      subst (λ (t : MethodType). FindsMethod m.classes class (codes "main") t (Some a)) types first.found in
      one_on (IsMethodOf m.classes (codes "main") second.type) (method_walk m.classes class) a b found second.found

  pub one_main_code : x ≡ y
  one_main_code =
      let also : MethodIs m.classes b first.method = subst (λ (n : MemberId). MethodIs m.classes n first.method) one_main first.is_method in
      let methods : first.method ≡ second.method = one_method m.classes b first.method second.method also second.is_method in
      let linked : Does.Linked x ≡ Does.Linked y = sym first.body ∙ ap (λ (method : MethodRecord). method.body) methods ∙ second.body in
      cc

-- ---- One domain, one class.

module _ (m : Machine) (start : StartWords) where
  one_domain : (a b : HasDomain m start) → a.domain ≡ b.domain
  one_domain a b = same_Some a.domain b.domain (sym a.found ∙ b.found)

  one_inside : (a b : HasDomain m start) → a.inside ≡ b.inside
  one_inside a b = same_Some a.inside b.inside (sym a.is_inside ∙ ap (λ (d : DomainState). d.inside) (one_domain a b) ∙ b.is_inside)

  named_in : (a b : HasDomain m start) → class_named a.domain.table start.class ≡ class_named b.domain.table start.class
  named_in a b = ap (λ (d : DomainState). class_named d.table start.class) (one_domain a b)

  one_class : (a b : HasClass m start) → a.class ≡ b.class
  one_class a b = same_Some a.class b.class (sym a.is_named ∙ named_in a.in_domain b.in_domain ∙ b.is_named)

  -- what is asked of the domain, of its words and of its chunks is asked of one domain
  also_many : (a b : HasDomain m start) → HasManyThreads m a.domain → HasManyThreads m b.domain
  also_many a b many = subst (λ (d : DomainState). HasManyThreads m d) (one_domain a b) many

  also_lacks_words : (a b : HasDomain m start) → LacksWords m a.domain a.inside start.words → LacksWords m b.domain b.inside start.words
  also_lacks_words a b lacks =
      subst (λ (inside : Inside). LacksWords m b.domain inside start.words) (one_inside a b)
      (subst (λ (d : DomainState). LacksWords m d a.inside start.words) (one_domain a b) lacks)

  also_main : (a b : HasClass m start) (main : MemberId) (code : LinkedCode) → IsMain m a.class main code → IsMain m b.class main code
  also_main a b main code is = subst (λ (c : ClassId). IsMain m c main code) (one_class a b) is

  also_lacks_chunks : (a b : HasMain m start) → LacksChunks m a.in_class.in_domain.domain a.main a.code
      → LacksChunks m b.in_class.in_domain.domain b.main b.code
  also_lacks_chunks a b lacks =
      let moved : IsMain m b.in_class.class a.main a.code = also_main a.in_class b.in_class a.main a.code a.is_main in
      subst (λ (code : LinkedCode). LacksChunks m b.in_class.in_domain.domain b.main code)
      (one_main_code m b.in_class.class a.main b.main a.code b.code moved b.is_main)
      (subst (λ (main : MemberId). LacksChunks m b.in_class.in_domain.domain main a.code)
      (one_main m b.in_class.class a.main b.main a.code b.code moved b.is_main)
      (subst (λ (d : DomainState). LacksChunks m d a.main a.code) (one_domain a.in_class.in_domain b.in_class.in_domain) lacks))

  -- ---- Each rule against the others.

  abbrev refused : ℕ → List Line
  refused n = StartRefused start.domain n ∷ []

  where_no_domain : live_domain m start.domain ≡ None → (more : List Line) (other : Machine) → Starts m start more other → refused 1 ≡ more
  where_no_domain none more other (no_domain also) = refl
  where_no_domain none more other (no_class k unnamed) = absurd (none-some k.domain (sym none ∙ k.found))
  where_no_domain none more other (no_main k never) = absurd (none-some k.in_domain.domain (sym none ∙ k.in_domain.found))
  where_no_domain none more other (many_threads k many) = absurd (none-some k.in_class.in_domain.domain (sym none ∙ k.in_class.in_domain.found))
  where_no_domain none more other (many_words k few lacks) = absurd (none-some k.in_class.in_domain.domain (sym none ∙ k.in_class.in_domain.found))
  where_no_domain none more other (few_chunks k few fit lacks) = absurd (none-some k.in_class.in_domain.domain (sym none ∙ k.in_class.in_domain.found))
  where_no_domain none more other (begins k few fit heap words frame called) =
      absurd (none-some k.in_class.in_domain.domain (sym none ∙ k.in_class.in_domain.found))

  where_no_class : (h : HasDomain m start) → class_named h.domain.table start.class ≡ None → (more : List Line) (other : Machine)
      → Starts m start more other → refused 2 ≡ more
  where_no_class h none more other (no_domain also) = absurd (none-some h.domain (sym also ∙ h.found))
  where_no_class h none more other (no_class k unnamed) = refl
  where_no_class h none more other (no_main k never) = absurd (none-some k.class (sym none ∙ named_in h k.in_domain ∙ k.is_named))
  where_no_class h none more other (many_threads k many) =
      absurd (none-some k.in_class.class (sym none ∙ named_in h k.in_class.in_domain ∙ k.in_class.is_named))
  where_no_class h none more other (many_words k few lacks) =
      absurd (none-some k.in_class.class (sym none ∙ named_in h k.in_class.in_domain ∙ k.in_class.is_named))
  where_no_class h none more other (few_chunks k few fit lacks) =
      absurd (none-some k.in_class.class (sym none ∙ named_in h k.in_class.in_domain ∙ k.in_class.is_named))
  where_no_class h none more other (begins k few fit heap words frame called) =
      absurd (none-some k.in_class.class (sym none ∙ named_in h k.in_class.in_domain ∙ k.in_class.is_named))

  abbrev HasNoMain : HasClass m start → Type 0
  HasNoMain h = (main : MemberId) (code : LinkedCode) → IsMain m h.class main code → ⊥

  has_it : (h : HasClass m start) → HasNoMain h → (k : HasMain m start) → ⊥
  has_it h never k = never k.main k.code (also_main k.in_class h k.main k.code k.is_main)

  where_no_main : (h : HasClass m start) → HasNoMain h → (more : List Line) (other : Machine) → Starts m start more other → refused 3 ≡ more
  where_no_main h never more other (no_domain also) = absurd (none-some h.in_domain.domain (sym also ∙ h.in_domain.found))
  where_no_main h never more other (no_class k unnamed) = absurd (none-some h.class (sym unnamed ∙ named_in k h.in_domain ∙ h.is_named))
  where_no_main h never more other (no_main k also) = refl
  where_no_main h never more other (many_threads k many) = absurd (has_it h never k)
  where_no_main h never more other (many_words k few lacks) = absurd (has_it h never k)
  where_no_main h never more other (few_chunks k few fit lacks) = absurd (has_it h never k)
  where_no_main h never more other (begins k few fit heap words frame called) = absurd (has_it h never k)

  where_many_threads : (h : HasMain m start) → HasManyThreads m h.in_class.in_domain.domain → (more : List Line) (other : Machine)
      → Starts m start more other → refused 4 ≡ more
  where_many_threads h many more other (no_domain also) = absurd (none-some h.in_class.in_domain.domain (sym also ∙ h.in_class.in_domain.found))
  where_many_threads h many more other (no_class k unnamed) =
      absurd (none-some h.in_class.class (sym unnamed ∙ named_in k h.in_class.in_domain ∙ h.in_class.is_named))
  where_many_threads h many more other (no_main k never) = absurd (has_it k never h)
  where_many_threads h many more other (many_threads k also) = refl
  where_many_threads h many more other (many_words k few lacks) = absurd (few (also_many h.in_class.in_domain k.in_class.in_domain many))
  where_many_threads h many more other (few_chunks k few fit lacks) = absurd (few (also_many h.in_class.in_domain k.in_class.in_domain many))
  where_many_threads h many more other (begins k few fit heap words frame called) =
      absurd (few (also_many h.in_class.in_domain k.in_class.in_domain many))

  where_many_words : (h : HasMain m start) → (HasManyThreads m h.in_class.in_domain.domain → ⊥)
      → LacksWords m h.in_class.in_domain.domain h.in_class.in_domain.inside start.words → (more : List Line) (other : Machine)
      → Starts m start more other → refused 5 ≡ more
  where_many_words h few lacks more other (no_domain also) = absurd (none-some h.in_class.in_domain.domain (sym also ∙ h.in_class.in_domain.found))
  where_many_words h few lacks more other (no_class k unnamed) =
      absurd (none-some h.in_class.class (sym unnamed ∙ named_in k h.in_class.in_domain ∙ h.in_class.is_named))
  where_many_words h few lacks more other (no_main k never) = absurd (has_it k never h)
  where_many_words h few lacks more other (many_threads k many) = absurd (few (also_many k.in_class.in_domain h.in_class.in_domain many))
  where_many_words h few lacks more other (many_words k also too) = refl
  where_many_words h few lacks more other (few_chunks k also fit chunks) =
      absurd (fit (also_lacks_words h.in_class.in_domain k.in_class.in_domain lacks))
  where_many_words h few lacks more other (begins k also fit heap words frame called) =
      absurd (makes_none_too_large m k.in_class.in_domain.domain k.in_class.in_domain.inside start.words heap words
      (also_lacks_words h.in_class.in_domain k.in_class.in_domain lacks))

  where_few_chunks : (h : HasMain m start) → (HasManyThreads m h.in_class.in_domain.domain → ⊥)
      → (LacksWords m h.in_class.in_domain.domain h.in_class.in_domain.inside start.words → ⊥)
      → LacksChunks m h.in_class.in_domain.domain h.main h.code → (more : List Line) (other : Machine) → Starts m start more other → refused 6 ≡ more
  where_few_chunks h few fit lacks more other (no_domain also) =
      absurd (none-some h.in_class.in_domain.domain (sym also ∙ h.in_class.in_domain.found))
  where_few_chunks h few fit lacks more other (no_class k unnamed) =
      absurd (none-some h.in_class.class (sym unnamed ∙ named_in k h.in_class.in_domain ∙ h.in_class.is_named))
  where_few_chunks h few fit lacks more other (no_main k never) = absurd (has_it k never h)
  where_few_chunks h few fit lacks more other (many_threads k many) = absurd (few (also_many k.in_class.in_domain h.in_class.in_domain many))
  where_few_chunks h few fit lacks more other (many_words k also words) =
      absurd (fit (also_lacks_words k.in_class.in_domain h.in_class.in_domain words))
  where_few_chunks h few fit lacks more other (few_chunks k also too chunks) = refl
  where_few_chunks h few fit lacks more other (begins k also room heap words frame called) = absurd (room (also_lacks_chunks h k lacks))

  where_begins : (h : HasMain m start) → (HasManyThreads m h.in_class.in_domain.domain → ⊥)
      → (LacksChunks m h.in_class.in_domain.domain h.main h.code → ⊥)
      → (LacksWords m h.in_class.in_domain.domain h.in_class.in_domain.inside start.words → ⊥)
      → (more : List Line) (other : Machine) → Starts m start more other → Started (record { 0 = m.next_thread }) start.domain ∷ [] ≡ more
  where_begins h few room fit more other (no_domain also) = absurd (none-some h.in_class.in_domain.domain (sym also ∙ h.in_class.in_domain.found))
  where_begins h few room fit more other (no_class k unnamed) =
      absurd (none-some h.in_class.class (sym unnamed ∙ named_in k h.in_class.in_domain ∙ h.in_class.is_named))
  where_begins h few room fit more other (no_main k never) = absurd (has_it k never h)
  where_begins h few room fit more other (many_threads k many) = absurd (few (also_many k.in_class.in_domain h.in_class.in_domain many))
  where_begins h few room fit more other (many_words k also words) =
      absurd (fit (also_lacks_words k.in_class.in_domain h.in_class.in_domain words))
  where_begins h few room fit more other (few_chunks k also words chunks) = absurd (room (also_lacks_chunks k h chunks))
  where_begins h few room fit more other (begins k also too heap words frame called) = refl

  pub one_line : (lines more : List Line) (new other : Machine) → Starts m start lines new → Starts m start more other → lines ≡ more
  one_line lines more new other (no_domain none) second = where_no_domain none more other second
  one_line lines more new other (no_class h none) second = where_no_class h none more other second
  one_line lines more new other (no_main h never) second = where_no_main h never more other second
  one_line lines more new other (many_threads h many) second = where_many_threads h many more other second
  one_line lines more new other (many_words h few lacks) second = where_many_words h few lacks more other second
  one_line lines more new other (few_chunks h few fit lacks) second = where_few_chunks h few fit lacks more other second
  one_line lines more new other (begins h few room heap words frame called) second =
      where_begins h few room
      (makes_none_too_large m h.in_class.in_domain.domain h.in_class.in_domain.inside start.words heap words) more other second
