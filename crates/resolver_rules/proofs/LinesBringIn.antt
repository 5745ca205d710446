-- What the lines up to a place bring in, in turn: a line that imports keeps L7 where what it imports is offered and no name
-- that it brings in means something else, and breaks it otherwise.
use Rattle.std.proofs.Common.{◌≡◌, ◌≢◌, ℕ, zero, suc, ◌+◌, ◌<◌, ◌≤◌, ◌⊎◌, inl, inr, List, [], ◌∷◌, ◌++◌, length, refl, sym, ◌∙◌, ap, subst, arith, Bool, true, false, Option, Result, Ok, Err, Some, slice_get}
use Rattle.std.specs.Prelude.{Contains, IfOk, MatchBool}
use Rattle.std.proofs.lemmas.Bool.{cases_lt}
use Rattle.std.proofs.lemmas.List.Elements.{Contains-append_left, Contains-append_cases}
use Rattle.std.proofs.lemmas.Option.{slice_get_within, same_Some}
use Rattle.list_lemmas.proofs.ItemsByPlace.{item_there, slice_get-front}
use Rattle.list_lemmas.proofs.ItemsOfLists.{Contains-at, stands_at, Contains-none, each-of}
use Rattle.jk_model.specs.declared.identifiers.ClassId.{ClassId}
use Rattle.jk_model.specs.declared.identifiers.DomainId.{DomainId}
use Rattle.jk_model_classes.specs.declared.records.ClassRecord.{ClassRecord}
use Rattle.jk_model_classes.specs.declared.sharing.ResolverLine.{ResolverLine}
use Rattle.jk_model_classes.specs.declared.sharing.ResolverWord.TheVariants.{Share, Import}
use Rattle.jk_model_classes.specs.Classes.{HasClass}
use Rattle.jk_model_classes.specs.Resolver.{resolver_of}
use Rattle.jk_model_classes.specs.ResolverRules.{BreaksL6, BringsIn, HasFileOf, ImportsClass, IsBroughtBefore}
use Rattle.jk_model_classes.specs.SystemRecords.{system_meaning}
use Rattle.jk_model_classes.specs.Worlds.{DomainRecord, IsWorld, NamedClass, WorldRecord, class_named, domain_of, IsLiveNamed, IsOfferedTo}
use Rattle.jk_model_folders.specs.declared.files.FolderFiles.{FolderFiles}
use Rattle.jk_model_folders.specs.FolderRules.{BreaksL7, HasGoodLines, class_paths}
use Rattle.class_lemmas.proofs.ReachedByReferences.{reached_further}
use Rattle.domain_resolver.specs.Imports.{Imported, IsClash, IsOwnName}
use Rattle.resolver_rules.specs.Faults.{IsFirstNotOffered}
use Rattle.resolver_rules.specs.Imported.{AreBrought, HasOtherMeaning, HasTakenFrom, IsFreeImport, IsOffered, IsTakenImport}
use Rattle.resolver_rules.proofs.ClassesOfNames.{named_entry, same_meaning}
use Rattle.resolver_rules.proofs.ReachedByImport.{IsClosed, is_reached, reached_is_named, refers}

abbrev at_name : List ℕ → ClassId → NamedClass
at_name name c = record { name = name; class = c }

module _ (w : WorldRecord) (into : List ℕ) where
  -- ---- What is offered.

  -- a name has one class in one live domain
  offered_once : IsWorld w (length w.domains) → (from class : List ℕ) (a b : ClassId) → IsOffered w into from class a → IsOffered w into from class b → a ≡ b
  offered_once world from class a b (d, r, lives_d, at_d, means_a, to_a) (e, s, lives_e, at_e, means_b, to_b) =
      let domains : d ≡ e = world.names_differ from d e lives_d lives_e in
      let records : r ≡ s = same_Some r s (sym at_d ∙ ap (domain_of w) domains ∙ at_e) in
      same_Some a b (sym means_a ∙ ap (λ (x : DomainRecord). class_named x.table class) records ∙ means_b)

  -- nothing is offered where the one live domain of the name offers nothing under the other
  pub none_offered : IsWorld w (length w.domains) → (from class : List ℕ) (d : DomainId) (r : DomainRecord) → IsLiveNamed w from d → domain_of w d ≡ Some r
      → ((c : ClassId) → class_named r.table class ≡ Some c → IsOfferedTo r.offers c into → ⊥) → (c : ClassId) → IsOffered w into from class c → ⊥
  none_offered world from class d r lives at none c (e, s, lives_e, at_e, means, to) =
      let domains : e ≡ d = world.names_differ from e d lives_e lives in
      let records : s ≡ r = same_Some s r (sym at_e ∙ ap (domain_of w) domains ∙ at) in
      none c (ap (λ (x : DomainRecord). class_named x.table class) (sym records) ∙ means)
      (subst (λ (x : DomainRecord). IsOfferedTo x.offers c into) records to)

  -- what a line imports is what is offered under the names that it says
  imports_offered : (line : ResolverLine) (from class : List ℕ) (c : ClassId) → line.says ≡ Import from class → ImportsClass w into line c
      → IsOffered w into from class c
  imports_offered line from class c says (from_2, class_2, says_2, offered) =
      let both : Import from_2 class_2 ≡ Import from class = sym says_2 ∙ says in
      let domains : from_2 ≡ from = cc in
      let classes : class_2 ≡ class = cc in
      subst (λ (x : List ℕ). IsOffered w into from x c) classes (subst (λ (x : List ℕ). IsOffered w into x class_2 c) domains offered)

  -- the names may be told in other words
  pub offered_under : (from from_2 class class_2 : List ℕ) (c : ClassId) → from_2 ≡ from → class_2 ≡ class → IsOffered w into from_2 class_2 c
      → IsOffered w into from class c
  offered_under from from_2 class class_2 c same_from same_class h =
      subst (λ (x : List ℕ). IsOffered w into x class c) same_from (subst (λ (x : List ℕ). IsOffered w into from_2 x c) same_class h)

  -- the class that is offered is there
  pub offered_is_there : IsWorld w (length w.domains) → (from class : List ℕ) (c : ClassId) → IsOffered w into from class c → HasClass w.classes c
  offered_is_there world from class c (d, r, lives, at, means, to) = world.named d.0 r at c (class, named_entry r.table class c means)

module _ (f : FolderFiles) (w : WorldRecord) (into : List ℕ) where
  -- ---- What lines bring in.

  module _ (lines : List ResolverLine) where
    abbrev Before : ℕ → List ℕ → ClassId → Type 0
    Before place name c = IsBroughtBefore w into lines place name c

    later : (place : ℕ) (name : List ℕ) (c : ClassId) → Before place name c → Before (place + 1) name c
    later place name c (i, line, low, at, brings) = (i, line, omega (arith, low), at, brings)

    earlier_or_here : (place : ℕ) (line : ResolverLine) (name : List ℕ) (c : ClassId) → slice_get lines place ≡ Some line → Before (place + 1) name c
        → Before place name c ⊎ BringsIn w into line name c
    earlier_or_here place line name c here (i, other, low, at, brings) = by_order (cases_lt i place)
      where
        by_order : (i < place) ⊎ (place ≤ i) → Before place name c ⊎ BringsIn w into line name c
        by_order (inl lower) = inl (i, other, lower, at, brings)
        by_order (inr high) =
            let same_place : i ≡ place = omega (arith, low, high) in
            let same : other ≡ line = same_Some other line (sym at ∙ ap (slice_get lines) same_place ∙ here) in
            inr (subst (λ (l : ResolverLine). BringsIn w into l name c) same brings)

    pub none_brought : AreBrought f w into lines 0 []
    none_brought = record {
      good = λ lower low broken. omega (arith, low);
      from = λ e has. absurd (Contains-none e has);
      all = λ name c before. absurd (omega (arith, before.2));
      free = λ e has. absurd (Contains-none e has);
    }

    pub own_names : (place : ℕ) (names : List NamedClass) → AreBrought f w into lines place names → (e : NamedClass) → Contains names e → IsOwnName w.classes e
    own_names place names h e has =
        let r = (h.from e has).4.3 in
        record { of = r.0; there = r.1; named = sym r.2 }

    -- a class that is brought in was brought in with all to which it refers
    closed : IsWorld w (length w.domains) → (place : ℕ) (names : List NamedClass) → AreBrought f w into lines place names → IsClosed w.classes names
    closed world place names h c d (name, has) refer =
        let before = h.from (at_name name c) has in
        let line = before.1 in
        let brings = before.4 in
        let there = refers w.classes c d refer in
        let low = each-of (HasClass w.classes) there.0.references d (world.records c there.0 there.1).references there.2 in
        let of_d = item_there w.classes d.0 low in
        let reached = reached_further w.classes brings.0 c d there.0 brings.2 there.1 there.2 in
        let brings_d : BringsIn w into line of_d.0.name d = (brings.0, brings.1, reached, (of_d.0, of_d.1, refl)) in
        (of_d.0.name, h.all of_d.0.name d (before.0, line, before.2, before.3, brings_d))

    -- ---- A line that shares.

    shares_nothing_in : (line : ResolverLine) (class : List ℕ) (to : Option (List ℕ)) → line.says ≡ Share class to → (c : ClassId)
        → ImportsClass w into line c → ⊥
    shares_nothing_in line class to says c (from, imported, imports, offered) =
        let both : Share class to ≡ Import from imported = sym says ∙ imports in cc

    pub share_keeps : (place : ℕ) (line : ResolverLine) (class : List ℕ) (to : Option (List ℕ)) (names : List NamedClass) → slice_get lines place ≡ Some line
        → line.says ≡ Share class to → AreBrought f w into lines place names → AreBrought f w into lines (place + 1) names
    share_keeps place line class to names here says h = record {
      good = λ lower low broken. by_order lower (cases_lt lower place) low broken;
      from = λ e has. later place e.name e.class (h.from e has);
      all = λ name c before. elim (earlier_or_here place line name c here before) [
        | inl earlier ↦ h.all name c earlier
        | inr brings ↦ absurd (shares_nothing_in line class to says brings.0 brings.1)
      ];
      free = h.free;
    }
      where
        same_line : (other : ResolverLine) (lower : ℕ) → lower ≡ place → slice_get lines lower ≡ Some other → other ≡ line
        same_line other lower same at = same_Some other line (sym at ∙ ap (slice_get lines) same ∙ here)

        not_here : (lower : ℕ) → lower ≡ place → BreaksL7 f w into lines lower → ⊥
        not_here lower same (inl (other, at, (from, imported, imports, bad))) =
            let shares : other.says ≡ Share class to = ap (λ (l : ResolverLine). l.says) (same_line other lower same at) ∙ says in
            let both : Share class to ≡ Import from imported = sym shares ∙ imports in cc
        not_here lower same (inr (other, at, (name, c, d, brings, differs, means))) =
            let shares : other.says ≡ Share class to = ap (λ (l : ResolverLine). l.says) (same_line other lower same at) ∙ says in
            shares_nothing_in other class to shares brings.0 brings.1

        by_order : (lower : ℕ) → (lower < place) ⊎ (place ≤ lower) → lower < place + 1 → BreaksL7 f w into lines lower → ⊥
        by_order lower (inl low) _ broken = h.good lower low broken
        by_order lower (inr high) low broken = not_here lower (omega (arith, high, low)) broken

    -- ---- A line that imports.

    module _ (place : ℕ) (line : ResolverLine) (from class : List ℕ) (here : slice_get lines place ≡ Some line) (says : line.says ≡ Import from class) where
      -- what is new in the table is brought in by the line
      new_brought : (c : ClassId) (old new : List NamedClass) → IsOffered w into from class c → (h : Imported w.classes old c new) → (e : NamedClass)
          → Contains h.more e → BringsIn w into line e.name e.class
      new_brought c old new offered h e has =
          let own = h.own e has in
          (c, (from, class, says, offered), is_reached w.classes old c e.class own.0, (own.1.of, own.1.there, sym own.1.named))

      pub not_offered : ((c : ClassId) → IsOffered w into from class c → ⊥) → BreaksL7 f w into lines place
      not_offered none = inl (line, here, (from, class, says, inl (λ c imports. none c (imports_offered w into line from class c says imports))))

      -- ---- A name that means something else.

      is_taken : (name : List ℕ) (c : ClassId) → BringsIn w into line name c
          → (HasFileOf (class_paths f) name ⊎ ((other : ClassId) × Before place name other × (other ≢ c))) → BreaksL7 f w into lines place
      is_taken name c brings taken = inl (line, here, (from, class, says, inr (name, c, brings, taken)))

      has_two : (name : List ℕ) (c other : ClassId) → BringsIn w into line name c → (other ≢ c)
          → (BringsIn w into line name other ⊎ (system_meaning name ≡ Some other)) → BreaksL7 f w into lines place
      has_two name c other brings differs means = inr (line, here, (name, c, other, brings, differs, means))

      other_meaning : (name : List ℕ) (c : ClassId) → BringsIn w into line name c → HasOtherMeaning (class_paths f) name c → BreaksL7 f w into lines place
      other_meaning name c brings (inl file) = is_taken name c brings (inl file)
      other_meaning name c brings (inr (other, means, differs)) = has_two name c other brings differs (inr means)

      pub import_breaks : (c : ClassId) (old new : List NamedClass) → IsOffered w into from class c → AreBrought f w into lines place old
          → IsTakenImport (class_paths f) w.classes old c new → BreaksL7 f w into lines place
      import_breaks c old new offered h t = by_taken t.taken
        where
          in_new : (e : NamedClass) → Contains new e → Contains old e ⊎ BringsIn w into line e.name e.class
          in_new e has =
              let both : Contains (old ++ t.imported.more) e = rw t.imported.is at has in
              elim (Contains-append_cases old t.imported.more e both) [
                | inl before ↦ inl before
                | inr after ↦ inr (new_brought c old new offered t.imported e after)
              ]

          past_old : (k : ℕ) (e : NamedClass) (xs : List NamedClass) → length xs ≤ k → slice_get (xs ++ t.imported.more) k ≡ Some e → Contains t.imported.more e
          past_old k e [] low at = Contains-at t.imported.more k e at
          past_old zero e (x ∷ xs) low at = absurd (omega (arith, low))
          past_old (suc k) e (x ∷ xs) low at = past_old k e xs (omega (arith, low)) at

          by_taken : IsClash w.classes old c new ⊎ HasTakenFrom (class_paths f) new (length old) → BreaksL7 f w into lines place
          by_taken (inl clash) =
              let name = clash.taken.of.name in
              let brings : BringsIn w into line name clash.class =
              (c, (from, class, says, offered), is_reached w.classes old c clash.class clash.reached, (clash.taken.of, clash.taken.there, refl)) in
              elim (in_new (at_name name clash.taken.other) (named_entry new name clash.taken.other clash.taken.means)) [
                | inl before ↦ is_taken name clash.class brings (inr (clash.taken.other, h.from (at_name name clash.taken.other) before, clash.taken.differs))
                | inr also ↦ has_two name clash.class clash.taken.other brings clash.taken.differs (inl also)
              ]
          by_taken (inr (k, e, low, at, meaning)) =
              let has = past_old k e old low (rw t.imported.is at at) in
              other_meaning e.name e.class (new_brought c old new offered t.imported e has) meaning

      -- ---- Names that are free.

      module _ (world : IsWorld w (length w.domains)) (c : ClassId) (old new : List NamedClass) (offered : IsOffered w into from class c)
          (h : AreBrought f w into lines place old) (t : IsFreeImport (class_paths f) w.classes old c new) where
        new_from : (e : NamedClass) → Contains new e → Before (place + 1) e.name e.class
        new_from e has =
            let both : Contains (old ++ t.import.imported.more) e = rw t.import.imported.is at has in
            elim (Contains-append_cases old t.import.imported.more e both) [
              | inl before ↦ later place e.name e.class (h.from e before)
              | inr after ↦ (place, line, omega arith, here, new_brought c old new offered t.import.imported e after)
            ]

        here_named : (name : List ℕ) (d : ClassId) → BringsIn w into line name d → Contains new (at_name name d)
        here_named name d (imported, imports, reached, (r, at_r, named)) =
            let same : imported ≡ c = offered_once w into world from class imported c (imports_offered w into line from class imported says imports) offered in
            let means = reached_is_named w.classes old new c (closed world place old h) t.import d (rw same at reached) in
            let own = (new_from (at_name means.0 d) means.1).4.3 in
            let records : own.0 ≡ r = same_Some own.0 r (sym own.1 ∙ at_r) in
            let names : means.0 ≡ name = sym own.2 ∙ ap (λ (x : ClassRecord). x.name) records ∙ named in
            subst (λ (n : List ℕ). Contains new (at_name n d)) names means.1

        old_stays : (e : NamedClass) → Contains old e → Contains new e
        old_stays e has = rw t.import.imported.is (Contains-append_left old t.import.imported.more e has)

        new_all : (name : List ℕ) (d : ClassId) → Before (place + 1) name d → Contains new (at_name name d)
        new_all name d before = elim (earlier_or_here place line name d here before) [
          | inl earlier ↦ old_stays (at_name name d) (h.all name d earlier)
          | inr brings ↦ here_named name d brings
        ]

        new_free : (e : NamedClass) → Contains new e → HasOtherMeaning (class_paths f) e.name e.class → ⊥
        new_free e has =
            let s = stands_at new e has in
            by_order s.0 s.2 (cases_lt s.0 (length old))
          where
            by_order : (k : ℕ) → slice_get new k ≡ Some e → (k < length old) ⊎ (length old ≤ k) → HasOtherMeaning (class_paths f) e.name e.class → ⊥
            by_order k at (inl low) =
                let there : slice_get (old ++ t.import.imported.more) k ≡ Some e = rw t.import.imported.is at at in
                h.free e (Contains-at old k e (sym (slice_get-front old t.import.imported.more k low) ∙ there))
            by_order k at (inr high) = t.free k e high at

        one_class : (name : List ℕ) (a b : ClassId) → Contains new (at_name name a) → Contains new (at_name name b) → a ≡ b
        one_class name a b has_a has_b = same_meaning new name a b t.differ has_a has_b

        kept_here : BreaksL7 f w into lines place → ⊥
        kept_here (inl (other, at, (from_2, class_2, imports, inl none))) =
            let same : other ≡ line = same_Some other line (sym at ∙ here) in
            none c (subst (λ (l : ResolverLine). ImportsClass w into l c) (sym same) (from, class, says, offered))
        kept_here (inl (other, at, (from_2, class_2, imports, inr (name, d, brings, inl file)))) =
            let same : other ≡ line = same_Some other line (sym at ∙ here) in
            new_free (at_name name d) (here_named name d (subst (λ (l : ResolverLine). BringsIn w into l name d) same brings)) (inl file)
        kept_here (inl (other, at, (from_2, class_2, imports, inr (name, d, brings, inr (e, before, differs))))) =
            let same : other ≡ line = same_Some other line (sym at ∙ here) in
            let has_d = here_named name d (subst (λ (l : ResolverLine). BringsIn w into l name d) same brings) in
            differs (one_class name e d (old_stays (at_name name e) (h.all name e before)) has_d)
        kept_here (inr (other, at, (name, d, e, brings, differs, inl also))) =
            let same : other ≡ line = same_Some other line (sym at ∙ here) in
            let has_d = here_named name d (subst (λ (l : ResolverLine). BringsIn w into l name d) same brings) in
            let has_e = here_named name e (subst (λ (l : ResolverLine). BringsIn w into l name e) same also) in
            differs (one_class name e d has_e has_d)
        kept_here (inr (other, at, (name, d, e, brings, differs, inr means))) =
            let same : other ≡ line = same_Some other line (sym at ∙ here) in
            let has_d = here_named name d (subst (λ (l : ResolverLine). BringsIn w into l name d) same brings) in
            new_free (at_name name d) has_d (inr (e, means, differs))

        import_good : (lower : ℕ) → lower < place + 1 → BreaksL7 f w into lines lower → ⊥
        import_good lower low broken = by_order (cases_lt lower place)
          where
            by_order : (lower < place) ⊎ (place ≤ lower) → ⊥
            by_order (inl before) = h.good lower before broken
            by_order (inr high) =
                let same : lower ≡ place = omega (arith, low, high) in
                kept_here (subst (λ (n : ℕ). BreaksL7 f w into lines n) same broken)

        pub import_keeps : AreBrought f w into lines (place + 1) new
        import_keeps = record { good = import_good; from = new_from; all = new_all; free = new_free }

    -- what is said of the import is said of the line
    pub import_judged : {E : Type 0} (place : ℕ) (line : ResolverLine) (from class : List ℕ) → slice_get lines place ≡ Some line
        → line.says ≡ Import from class → IsWorld w (length w.domains) → (c : ClassId) (old new : List NamedClass) → IsOffered w into from class c
        → AreBrought f w into lines place old → (r : Result Bool E)
        → IfOk r (λ free. MatchBool free (IsFreeImport (class_paths f) w.classes old c new) (IsTakenImport (class_paths f) w.classes old c new))
        → IfOk r (λ good. MatchBool good (AreBrought f w into lines (place + 1) new) (BreaksL7 f w into lines place))
    import_judged place line from class here says world c old new offered h (Ok true) t =
        import_keeps place line from class here says world c old new offered h t
    import_judged place line from class here says world c old new offered h (Ok false) t =
        import_breaks place line from class here says c old new offered h t
    import_judged place line from class here says world c old new offered h (Err e) t = tt

    -- ---- All lines, or those before the first that breaks L7.

    pub good_lines : (names : List NamedClass) → resolver_of f.resolver ≡ Ok lines → ((n : ℕ) → BreaksL6 (class_paths f) f.resolver n → ⊥)
        → AreBrought f w into lines (length lines) names → HasGoodLines f w into lines
    good_lines names says shares h = record { says = says; shares = shares; imports = keeps }
      where
        keeps : (place : ℕ) → BreaksL7 f w into lines place → ⊥
        keeps place (inl bad) = h.good place (slice_get_within lines place bad.0 bad.1) (inl bad)
        keeps place (inr bad) = h.good place (slice_get_within lines place bad.0 bad.1) (inr bad)

    pub first_not_offered : (names : List NamedClass) (place n : ℕ) (line : ResolverLine) → resolver_of f.resolver ≡ Ok lines
        → ((n : ℕ) → BreaksL6 (class_paths f) f.resolver n → ⊥) → AreBrought f w into lines place names → slice_get lines place ≡ Some line
        → n ≡ line.line → BreaksL7 f w into lines place → IsFirstNotOffered f w into n
    first_not_offered names place n line says shares h at number broken = record {
      lines = lines;
      says = says;
      shares = shares;
      place = place;
      line = line;
      there = at;
      number = number;
      broken = broken;
      least = h.good;
    }
