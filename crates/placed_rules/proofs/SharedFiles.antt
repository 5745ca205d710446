-- The first class that breaks one of C25 to C27, by the order of paths, is that of the first file.
use Rattle.std.proofs.Common.{◌≡◌, ℕ, ◌+◌, ◌-◌, ◌<◌, List, [], ◌∷◌, length, Some, slice_get, inl, inr, refl, sym, ap, subst, arith}
use Rattle.list_lemmas.proofs.ItemsByPlace.{item_there}
use Rattle.jk_model.specs.declared.class_file.ClassFile.{ClassFile}
use Rattle.jk_model.specs.declared.identifiers.ClassId.{ClassId}
use Rattle.jk_model.specs.declared.identifiers.DomainId.{DomainId}
use Rattle.jk_model.specs.declared.output.Rule.{Rule}
use Rattle.jk_model.specs.declared.output.Rule.TheVariants.{C20, C21, C22, C23, C24, C25, C26, C27}
use Rattle.jk_model_classes.specs.declared.records.ClassRecord.{ClassRecord}
use Rattle.jk_model_classes.specs.declared.sharing.ClassFault.{ClassFault}
use Rattle.jk_model_classes.specs.declared.sharing.Offer.{Offer}
use Rattle.jk_model_classes.specs.Classes.{record_of}
use Rattle.jk_model_classes.specs.Items.{Spot, Member, Entry, IsBefore}
use Rattle.jk_model_classes.specs.References.{IsCalledClass}
use Rattle.jk_model_classes.specs.SharedRules.{BreaksC25, BreaksC26, BreaksC27, IsFirstToBreak, IsOfFolder, IsPathBefore, NoneBreaks}
use Rattle.jk_model_classes.specs.Worlds.{WorldRecord}
use Rattle.jk_model_folders.specs.ClassOrder.{IsClassOrder}
use Rattle.jk_model_folders.specs.FolderRules.{BreaksPlaced, IsFirstBroken, NoneBroken, PlacedFolder, placed_rules}
use Rattle.placed_rules.specs.Codes.{AtMember}
use Rattle.placed_rules.specs.PlacedFaults.{AreInPathOrder, AreRecorded, HasNoSharedFault, IsLinkedAs, IsSharedAs, IsSharedFault, class_at, earlier_rules, shared_rules}
use Rattle.placed_rules.proofs.PlacesDiffer.{places_differ}
use Rattle.placed_rules.proofs.RulesInTurn.{AreUnbroken, IsFirstOfRule, IsUnbroken, first_behind, none_broken, unbroken_by}
use Rattle.placed_rules.proofs.RulesOfClasses.{IsReadBy, reads_exposed, reads_remotes, reads_statics}

abbrev of_number : ℕ → ClassId
of_number n = record { 0 = n }

abbrev base_of : WorldRecord → ClassId
base_of old = record { 0 = length old.classes }

at_member : (P : ℕ → Type 0) (spot : Spot) → AtMember P spot → (n : ℕ) × P n
at_member P (Member n) h = (n, h)
at_member P (Entry i) h = absurd h

least_member : (P : ℕ → Type 0) (number : ℕ) → ((n : ℕ) → n < number → P n → ⊥) → (other : Spot) → IsBefore other (Member number) → AtMember P other → ⊥
least_member P number least (Member n) before h = least n before h
least_member P number least (Entry i) before h = h

-- ---- One of the rules.

-- where no class breaks the rule, no file does
unbroken : (old : WorldRecord) (cs : List ClassFile) (p : PlacedFolder) (rule : Rule) (Breaks : ClassId → ℕ → Type 0) → IsReadBy old cs p rule Breaks
    → NoneBreaks Breaks → IsUnbroken (BreaksPlaced old cs p) rule
unbroken old cs p rule Breaks reads none i spot broken =
    let b = reads.into i spot broken in
    let n = at_member (Breaks b.0) spot b.2 in
    none b.0 n.0 n.1

module _ (old : WorldRecord) (cs : List ClassFile) (p : PlacedFolder) (ordered : IsClassOrder cs p.order)
    (recorded : AreRecorded p.classes (base_of old) p.order cs) (rising : AreInPathOrder cs) where
  -- the class at a place has the name of its file's class
  named : (k i : ℕ) (self : ClassId) → slice_get p.order k ≡ Some i → self.0 ≡ length old.classes + k
      → (c : ClassFile) × (r : ClassRecord) × (slice_get cs i ≡ Some c) × (record_of p.classes self ≡ Some r) × IsCalledClass c r.name
  named k i self at number =
      let c = item_there cs i (ordered.places k i at) in
      let own = recorded.each k i c.0 at c.1 in
      let is : self ≡ class_at (base_of old) k = ap of_number number in
      (c.0, own.2, c.1, subst (λ (x : ClassId). record_of p.classes x ≡ Some own.2) (sym is) own.3, own.4.name)

  path_before : (k l i j : ℕ) (a b : ClassId) → slice_get p.order k ≡ Some i → slice_get p.order l ≡ Some j → a.0 ≡ length old.classes + k
      → b.0 ≡ length old.classes + l → i < j → IsPathBefore p.classes a b
  path_before k l i j a b at there of_a of_b less =
      let x = named k i a at of_a in
      let y = named l j b there of_b in
      (x.1, y.1, x.3, y.3, rising i j x.0 y.0 x.1.name y.1.name less x.2 y.2 x.4 y.4)

  module _ (rule : Rule) (Breaks : ClassId → ℕ → Type 0) (reads : IsReadBy old cs p rule Breaks)
      (within : (c : ClassId) (n : ℕ) → Breaks c n → IsOfFolder p.classes (base_of old) c) (class : ClassId) (file number : ℕ)
      (h : IsFirstToBreak p.classes Breaks class number) (at : slice_get p.order (class.0 - length old.classes) ≡ Some file) where
    number_is : class.0 ≡ length old.classes + (class.0 - length old.classes)
    number_is = let inside = within class number h.breaks in omega (arith, inside.0)

    earlier : (i : ℕ) (spot : Spot) → i < file → BreaksPlaced old cs p rule i spot → ⊥
    earlier i spot less broken =
        let b = reads.into i spot broken in
        let n = at_member (Breaks b.0) spot b.2 in
        h.earlier b.0 n.0 n.1 (path_before b.1.0 (class.0 - length old.classes) i file b.0 class b.1.1 at b.1.2 number_is less)

    least : (other : Spot) → IsBefore other (Member number) → BreaksPlaced old cs p rule file other → ⊥
    least other before broken =
        let b = reads.into file other broken in
        let place = places_differ cs p.order ordered b.1.0 (class.0 - length old.classes) file b.1.1 at in
        let same : b.0.0 ≡ class.0 = omega (arith, place, b.1.2, number_is) in
        let is : b.0 ≡ class = ap of_number same in
        least_member (Breaks class) number h.least other before (subst (λ (x : ClassId). AtMember (Breaks x) other) is b.2)

    first_of_rule : IsFirstOfRule (BreaksPlaced old cs p) rule (record { rule = rule; file = file; number = number })
    first_of_rule =
        let c = item_there cs file (ordered.places (class.0 - length old.classes) file at) in
        record {
          rule_is = refl;
          earlier_files = earlier;
          spot = Member number;
          broken = reads.from file c.0 class number c.1 (class.0 - length old.classes, at, number_is) h.breaks;
          least = least;
          is_number = refl;
        }

-- ---- The rules in turn.

-- the class is one of the folder
pub of_folder : (now : WorldRecord) (home : DomainId) (first : ClassId) (offers : List Offer) (declared : List (List ClassId)) (c : ClassId)
    (fault : ClassFault)
    → IsSharedFault now home first offers declared c fault → IsOfFolder now.classes first c
of_folder now home first offers declared c fault (inl (inl h)) = h.1.breaks.0
of_folder now home first offers declared c fault (inl (inr h)) = h.2.breaks.0
of_folder now home first offers declared c fault (inr h) = h.1.1.breaks.0

module _ (old : WorldRecord) (cs : List ClassFile) (p : PlacedFolder) where
  abbrev new_of : WorldRecord
  new_of = record old { classes = p.classes }

  no_statics : NoneBreaks (BreaksC25 p.classes (base_of old) p.offers) → IsUnbroken (BreaksPlaced old cs p) C25
  no_statics none = unbroken old cs p C25 (BreaksC25 p.classes (base_of old) p.offers) (reads_statics old cs p) none

  none_exposed : NoneBreaks (BreaksC26 new_of p.home (base_of old) p.offers) → IsUnbroken (BreaksPlaced old cs p) C26
  none_exposed none = unbroken old cs p C26 (BreaksC26 new_of p.home (base_of old) p.offers) (reads_exposed old cs p) none

  no_remotes : NoneBreaks (BreaksC27 p.classes (base_of old) p.declared) → IsUnbroken (BreaksPlaced old cs p) C27
  no_remotes none = unbroken old cs p C27 (BreaksC27 p.classes (base_of old) p.declared) (reads_remotes old cs p) none

  none_of_shared : HasNoSharedFault new_of p.home (base_of old) p.offers p.declared → NoneBroken shared_rules (BreaksPlaced old cs p)
  none_of_shared h =
      none_broken (BreaksPlaced old cs p) shared_rules (no_statics h.0.0, (none_exposed h.0.1, (no_remotes h.1, tt)))

  module _ (ordered : IsClassOrder cs p.order) (recorded : AreRecorded p.classes (base_of old) p.order cs) (rising : AreInPathOrder cs)
      (class : ClassId) (fault : ClassFault) (file : ℕ) (at : slice_get p.order (class.0 - length old.classes) ≡ Some file)
      (none : NoneBroken earlier_rules (BreaksPlaced old cs p)) where
    abbrev IsFirst : Rule → Type 0
    IsFirst rule = IsFirstBroken placed_rules (BreaksPlaced old cs p) rule file fault.number

    before : AreUnbroken (BreaksPlaced old cs p) earlier_rules
    before = unbroken_by (BreaksPlaced old cs p) earlier_rules none

    first_of_shared : IsSharedFault new_of p.home (base_of old) p.offers p.declared class fault → IsFirst fault.rule
    first_of_shared (inl (inl (is, h))) =
        let found = first_of_rule old cs p ordered recorded rising C25 (BreaksC25 p.classes (base_of old) p.offers) (reads_statics old cs p)
        (λ c n b. b.0) class file fault.number h at in
        subst IsFirst (sym is)
        (first_behind (BreaksPlaced old cs p) (C20 ∷ C21 ∷ C22 ∷ C24 ∷ C23 ∷ []) C25 (C26 ∷ C27 ∷ [])
        (record { rule = C25; file = file; number = fault.number }) before found)
    first_of_shared (inl (inr (is, no_static, h))) =
        let found = first_of_rule old cs p ordered recorded rising C26 (BreaksC26 new_of p.home (base_of old) p.offers) (reads_exposed old cs p)
        (λ c n b. b.0) class file fault.number h at in
        let front : AreUnbroken (BreaksPlaced old cs p) (C20 ∷ C21 ∷ C22 ∷ C24 ∷ C23 ∷ C25 ∷ []) =
        (before.0, (before.1.0, (before.1.1.0, (before.1.1.1.0, (before.1.1.1.1.0, (no_statics no_static, tt)))))) in
        subst IsFirst (sym is)
        (first_behind (BreaksPlaced old cs p) (C20 ∷ C21 ∷ C22 ∷ C24 ∷ C23 ∷ C25 ∷ []) C26 (C27 ∷ [])
        (record { rule = C26; file = file; number = fault.number }) front found)
    first_of_shared (inr ((no_static, not_exposed), (is, h))) =
        let found = first_of_rule old cs p ordered recorded rising C27 (BreaksC27 p.classes (base_of old) p.declared) (reads_remotes old cs p)
        (λ c n b. b.0) class file fault.number h at in
        let front : AreUnbroken (BreaksPlaced old cs p) (C20 ∷ C21 ∷ C22 ∷ C24 ∷ C23 ∷ C25 ∷ C26 ∷ []) =
        (before.0, (before.1.0, (before.1.1.0, (before.1.1.1.0, (before.1.1.1.1.0, (no_statics no_static, (none_exposed not_exposed, tt))))))) in
        subst IsFirst (sym is)
        (first_behind (BreaksPlaced old cs p) (C20 ∷ C21 ∷ C22 ∷ C24 ∷ C23 ∷ C25 ∷ C26 ∷ []) C27 []
        (record { rule = C27; file = file; number = fault.number }) front found)

-- ---- What was asked of the world is of the placed folder.

module _ (now : WorldRecord) (home : DomainId) (order : List ℕ) (first : ClassId) (offers : List Offer) (declared : List (List ClassId)) where
  carried : (Holds : WorldRecord → DomainId → ClassId → List Offer → List (List ClassId) → Type 0) (old : WorldRecord) (p : PlacedFolder)
      → IsLinkedAs old p now.classes order first → IsSharedAs old p now home offers declared → Holds now home first offers declared
      → Holds (record old { classes = p.classes }) p.home (base_of old) p.offers p.declared
  carried Holds old p (linked, places, number) is h =
      let base : first ≡ base_of old = ap of_number (sym number) in
      let new : WorldRecord = record old { classes = p.classes } in
      let of_world : Holds new home first offers declared = subst (λ (x : WorldRecord). Holds x home first offers declared) is.world h in
      let of_home : Holds new p.home first offers declared = subst (λ (x : DomainId). Holds new x first offers declared) (sym is.home_is) of_world in
      let of_base : Holds new p.home (base_of old) offers declared = subst (λ (x : ClassId). Holds new p.home x offers declared) base of_home in
      let of_offers : Holds new p.home (base_of old) p.offers declared =
      subst (λ (x : List Offer). Holds new p.home (base_of old) x declared) (sym is.offers_are) of_base in
      subst (λ (x : List (List ClassId)). Holds new p.home (base_of old) p.offers x) (sym is.declared_are) of_offers

  pub shared_none : HasNoSharedFault now home first offers declared → (old : WorldRecord) (cs : List ClassFile) (p : PlacedFolder)
      → IsLinkedAs old p now.classes order first → IsSharedAs old p now home offers declared → NoneBroken shared_rules (BreaksPlaced old cs p)
  shared_none h old cs p linked is =
      none_of_shared old cs p (carried (λ n m b o d. HasNoSharedFault n m b o d) old p linked is h)

  pub shared_first : (class : ClassId) (fault : ClassFault) (file : ℕ) → IsSharedFault now home first offers declared class fault
      → slice_get order (class.0 - first.0) ≡ Some file → (old : WorldRecord) (cs : List ClassFile) (p : PlacedFolder) → IsClassOrder cs order
      → AreRecorded now.classes first order cs → AreInPathOrder cs → IsLinkedAs old p now.classes order first
      → IsSharedAs old p now home offers declared → NoneBroken earlier_rules (BreaksPlaced old cs p)
      → IsFirstBroken placed_rules (BreaksPlaced old cs p) fault.rule file fault.number
  shared_first class fault file h at old cs p ordered recorded rising linked is none =
      let base : first ≡ base_of old = ap of_number (sym linked.2) in
      let by_order : IsClassOrder cs p.order = subst (λ (o : List ℕ). IsClassOrder cs o) (sym linked.1) ordered in
      let of_classes : AreRecorded p.classes first order cs = subst (λ (t : List ClassRecord). AreRecorded t first order cs) (sym linked.0) recorded in
      let of_order : AreRecorded p.classes first p.order cs = subst (λ (o : List ℕ). AreRecorded p.classes first o cs) (sym linked.1) of_classes in
      let records : AreRecorded p.classes (base_of old) p.order cs = subst (λ (f : ClassId). AreRecorded p.classes f p.order cs) base of_order in
      let of_file : slice_get p.order (class.0 - first.0) ≡ Some file =
      subst (λ (o : List ℕ). slice_get o (class.0 - first.0) ≡ Some file) (sym linked.1) at in
      let here : slice_get p.order (class.0 - length old.classes) ≡ Some file =
      subst (λ (f : ClassId). slice_get p.order (class.0 - f.0) ≡ Some file) base of_file in
      first_of_shared old cs p by_order records rising class fault file here none
      (carried (λ n m b o d. IsSharedFault n m b o d class fault) old p linked is h)
