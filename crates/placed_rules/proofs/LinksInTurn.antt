-- C20, C21 and C22 are asked in turn of the classes in their order.
use Rattle.std.proofs.Common.{◌≡◌, ℕ, ◌+◌, List, [], ◌∷◌, length, Option, Some, None, slice_get, sym, ap, subst, ◌∙◌}
use Rattle.std.specs.Prelude.{IfNone, IfSome}
use Rattle.jk_model.specs.declared.class_file.ClassFile.{ClassFile}
use Rattle.jk_model.specs.declared.identifiers.ClassId.{ClassId}
use Rattle.jk_model.specs.declared.output.Rule.{Rule}
use Rattle.jk_model.specs.declared.output.Rule.TheVariants.{C20, C21, C22, C23, C24, C25, C26, C27}
use Rattle.jk_model_classes.specs.declared.records.ClassRecord.{ClassRecord}
use Rattle.jk_model_classes.specs.Items.{Spot}
use Rattle.jk_model_classes.specs.Worlds.{NamedClass, WorldRecord}
use Rattle.jk_model_folders.specs.ClassOrder.{IsClassOrder}
use Rattle.jk_model_folders.specs.FolderRules.{BreaksPlaced, IsClassOfFile, IsFirstBroken, NoneBroken, PlacedFolder, link_scope, placed_rules}
use Rattle.class_files.specs.declared.faults.FileFault.{FileFault}
use Rattle.placed_rules.specs.FirstFiles.{BreaksInFile, IsFirstFault}
use Rattle.placed_rules.specs.PlacedFaults.{HasLinkFault, IsUnlinkedAs, class_at, link_rules, scope_at}
use Rattle.placed_rules.specs.declared.links.LinkRule.{LinkRule}
use Rattle.placed_rules.specs.declared.links.LinkRule.TheVariants.{Members, Access, Finals}
use Rattle.placed_rules.proofs.PlacesDiffer.{places_differ}
use Rattle.placed_rules.proofs.RulesInTurn.{IsRuleAnswer, first_behind, none_broken, rule_answer}

abbrev pub rule_of : LinkRule → Rule
rule_of Members = C20
rule_of Access = C21
rule_of Finals = C22

abbrev of_number : ℕ → ClassId
of_number n = record { 0 = n }

-- the class of a file is that at its place
pub numbered : (first self : ClassId) (n k : ℕ) → n ≡ first.0 → self.0 ≡ n + k → self ≡ class_at first k
numbered first self n k same is =
    let number : self.0 ≡ first.0 + k = is ∙ ap (λ (m : ℕ). m + k) same in
    ap of_number number

-- ---- One of the rules in a placed folder.

module _ (w : WorldRecord) (cs : List ClassFile) (p : PlacedFolder) (first : ClassId) (same : length w.classes ≡ first.0) where
  abbrev AtPlace : LinkRule → ℕ → Spot → Type 0
  AtPlace kind = BreaksInFile p.order cs (λ k c spot. HasLinkFault kind (scope_at p.unlinked p.table (class_at first k)) c spot)

  into_part : (kind : LinkRule) (i : ℕ) (spot : Spot) (c : ClassFile) (self : ClassId) → slice_get cs i ≡ Some c
      → IsClassOfFile (length w.classes) p i self → HasLinkFault kind (link_scope p self) c spot
      → (k : ℕ) × (slice_get p.order k ≡ Some i) × AtPlace kind k spot
  into_part kind i spot c self at (k, of_k, number) broken =
      let is : self ≡ class_at first k = numbered first self (length w.classes) k same number in
      (k, of_k, (i, c, of_k, at, subst (λ (x : ClassId). HasLinkFault kind (link_scope p x) c spot) is broken))

  into : (kind : LinkRule) (i : ℕ) (spot : Spot) → BreaksPlaced w cs p (rule_of kind) i spot
      → (k : ℕ) × (slice_get p.order k ≡ Some i) × AtPlace kind k spot
  into Members i spot (c, self, at, of, broken) = into_part Members i spot c self at of broken
  into Access i spot (c, self, at, of, broken) = into_part Access i spot c self at of broken
  into Finals i spot (c, self, at, of, broken) = into_part Finals i spot c self at of broken

  of_file : (k i : ℕ) → slice_get p.order k ≡ Some i → IsClassOfFile (length w.classes) p i (class_at first k)
  of_file k i at = (k, at, ap (λ (m : ℕ). m + k) (sym same))

  at_file : (kind : LinkRule) (k i : ℕ) (spot : Spot) → slice_get p.order k ≡ Some i → AtPlace kind k spot
      → (c : ClassFile) × (slice_get cs i ≡ Some c) × HasLinkFault kind (link_scope p (class_at first k)) c spot
  at_file kind k i spot at (j, c, of_k, of_c, broken) =
      let one : Some j ≡ Some i = sym of_k ∙ at in
      let here : j ≡ i = cc in
      (c, subst (λ (n : ℕ). slice_get cs n ≡ Some c) here of_c, broken)

  from : (kind : LinkRule) (k i : ℕ) (spot : Spot) → slice_get p.order k ≡ Some i → AtPlace kind k spot → BreaksPlaced w cs p (rule_of kind) i spot
  from Members k i spot at h = let b = at_file Members k i spot at h in (b.0, class_at first k, b.1, of_file k i at, b.2)
  from Access k i spot at h = let b = at_file Access k i spot at h in (b.0, class_at first k, b.1, of_file k i at, b.2)
  from Finals k i spot at h = let b = at_file Finals k i spot at h in (b.0, class_at first k, b.1, of_file k i at, b.2)

  link_answer : (kind : LinkRule) (found : Option FileFault) → IsClassOrder cs p.order
      → IsFirstFault (rule_of kind) (length p.order) p.order (AtPlace kind) found → IsRuleAnswer (BreaksPlaced w cs p) (rule_of kind) found
  link_answer kind found ordered h =
      rule_answer (BreaksPlaced w cs p) (rule_of kind) p.order (AtPlace kind) (places_differ cs p.order ordered) (into kind) (from kind) found h

-- ---- The rules in turn.

module _ (cs : List ClassFile) (order : List ℕ) (classes : List ClassRecord) (table : List NamedClass) (first : ClassId)
    (ordered : IsClassOrder cs order) where
  -- what is answered of one of the rules
  abbrev pub Answers : LinkRule → Option FileFault → Type 0
  Answers kind found =
      IsFirstFault (rule_of kind) (length order) order
      (BreaksInFile order cs (λ k c spot. HasLinkFault kind (scope_at classes table (class_at first k)) c spot)) found

  -- the same of a placed folder
  placed_answer : (kind : LinkRule) (found : Option FileFault) → Answers kind found → (w : WorldRecord) (p : PlacedFolder)
      → IsUnlinkedAs w p classes table order first → IsRuleAnswer (BreaksPlaced w cs p) (rule_of kind) found
  placed_answer kind found h w p (unlinked, names, places, number) =
      let Told : List ClassRecord → List NamedClass → List ℕ → Type 0 =
      λ t n o. IsFirstFault (rule_of kind) (length o) o
      (BreaksInFile o cs (λ k c spot. HasLinkFault kind (scope_at t n (class_at first k)) c spot)) found in
      let of_order : Told classes table p.order = subst (λ (o : List ℕ). Told classes table o) (sym places) h in
      let of_names : Told classes p.table p.order = subst (λ (n : List NamedClass). Told classes n p.order) (sym names) of_order in
      let of_classes : Told p.unlinked p.table p.order = subst (λ (t : List ClassRecord). Told t p.table p.order) (sym unlinked) of_names in
      link_answer w cs p first number kind found (subst (λ (o : List ℕ). IsClassOrder cs o) (sym places) ordered) of_classes

  abbrev pub IsPlacedFirst : FileFault → Type 0
  IsPlacedFirst f =
      (w : WorldRecord) (p : PlacedFolder) → IsUnlinkedAs w p classes table order first
      → IsFirstBroken placed_rules (BreaksPlaced w cs p) f.rule f.file f.number

  pub members_first : (fault : FileFault) → Answers Members (Some fault) → IsPlacedFirst fault
  members_first fault h = λ w p seen.
      first_behind (BreaksPlaced w cs p) [] C20 (C21 ∷ C22 ∷ C24 ∷ C23 ∷ C25 ∷ C26 ∷ C27 ∷ []) fault tt (placed_answer Members (Some fault) h w p seen)

  pub access_first : (fault : FileFault) → Answers Members None → Answers Access (Some fault) → IsPlacedFirst fault
  access_first fault none h = λ w p seen.
      first_behind (BreaksPlaced w cs p) (C20 ∷ []) C21 (C22 ∷ C24 ∷ C23 ∷ C25 ∷ C26 ∷ C27 ∷ []) fault
      (placed_answer Members None none w p seen, tt) (placed_answer Access (Some fault) h w p seen)

  pub finals_first : (found : Option FileFault) → Answers Members None → Answers Access None → Answers Finals found → IfSome found IsPlacedFirst
  finals_first None none no_access h = tt
  finals_first (Some fault) none no_access h = λ w p seen.
      first_behind (BreaksPlaced w cs p) (C20 ∷ C21 ∷ []) C22 (C24 ∷ C23 ∷ C25 ∷ C26 ∷ C27 ∷ []) fault
      (placed_answer Members None none w p seen, (placed_answer Access None no_access w p seen, tt)) (placed_answer Finals (Some fault) h w p seen)

  pub none_of_links : (found : Option FileFault) → Answers Members None → Answers Access None → Answers Finals found
      → IfNone found ((w : WorldRecord) (p : PlacedFolder) → IsUnlinkedAs w p classes table order first → NoneBroken link_rules (BreaksPlaced w cs p))
  none_of_links None none no_access h = λ w p seen.
      none_broken (BreaksPlaced w cs p) link_rules
      (placed_answer Members None none w p seen, (placed_answer Access None no_access w p seen, (placed_answer Finals None h w p seen, tt)))
  none_of_links (Some fault) none no_access h = tt
