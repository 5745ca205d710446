-- Whichever way the classes of a folder are put behind the others, they break the same rules at the same spots.
use Rattle.std.proofs.Common.{◌≡◌, ℕ, ◌+◌, inl, inr, List, length, Contains, Option, Some, None, slice_get, refl, sym, ap, subst, ◌∙◌, arith}
use Rattle.std.proofs.lemmas.Option.{slice_get_within}
use Rattle.list_lemmas.proofs.ItemsByPlace.{item_there as item_at, slice_get-behind as behind}
use Rattle.jk_model.specs.declared.class_file.ClassFile.{ClassFile}
use Rattle.jk_model.specs.declared.class_file.MemberInfo.{MemberInfo}
use Rattle.jk_model.specs.declared.identifiers.ClassId.{ClassId}
use Rattle.jk_model.specs.declared.identifiers.DomainId.{DomainId}
use Rattle.jk_model.specs.declared.output.Rule.{Rule}
use Rattle.jk_model.specs.declared.output.Rule.TheVariants.{C20, C21, C22, C23, C24, C25, C26, C27}
use Rattle.jk_model_classes.specs.declared.records.ClassRecord.{ClassRecord}
use Rattle.jk_model_classes.specs.declared.records.MethodRecord.{MethodRecord}
use Rattle.jk_model_classes.specs.declared.sharing.Offer.{Offer}
use Rattle.jk_model_classes.specs.Classes.{record_of}
use Rattle.jk_model_classes.specs.Items.{Spot, Member}
use Rattle.jk_model_classes.specs.LinkRules.{HasFinalOverridden, IsAccessRefused, LinkScope, MissesMember}
use Rattle.jk_model_classes.specs.SharedRules.{BreaksC25, BreaksC26, BreaksC27, DeclaredAt, GoesAlong, folder_methods, methods_before}
use Rattle.jk_model_classes.specs.Worlds.{IsOfferedAs, IsOfferedTo, WorldRecord}
use Rattle.jk_model_typing.specs.Typing.{BreaksC23, BreaksC24}
use Rattle.jk_model_folders.specs.FolderRules.{BreaksPlaced, IsClassOfFile, PlacedFolder, link_scope}
use Rattle.jk_model_folders.specs.LinkedClasses.{AreThrownBy}
use Rattle.one_verdict.proofs.OneFolder.{TwoWays, one_home, one_list_of_classes, one_order_of, one_scope, one_table, same_offers, swapped}
use Rattle.one_verdict.proofs.OneLinks.{one_list_of_thrown}

-- ---- Offers that are the same, in whatever order.

module _ (as_offers bs : List Offer) (into : (o : Offer) → Contains as_offers o → Contains bs o) where
  offered_to : (c : ClassId) (name : List ℕ) → IsOfferedTo as_offers c name → IsOfferedTo bs c name
  offered_to c name (inl all) = inl (into _ all)
  offered_to c name (inr one) = inr (into _ one)

  offered_as : (c : ClassId) (to : Option (List ℕ)) → IsOfferedAs as_offers c to → IsOfferedAs bs c to
  offered_as c None h = into _ h
  offered_as c (Some name) h = offered_to c name h

  goes_along : (w : WorldRecord) (home : DomainId) (to : Option (List ℕ)) (c : ClassId) → GoesAlong w home as_offers to c → GoesAlong w home bs to c
  goes_along w home to c (r, is, inl none) = (r, is, inl none)
  goes_along w home to c (r, is, inr (d, of_home, lives, inl (own, e), along)) =
      (r, is, inr (d, bs, lives, inl (own, refl), offered_as c to (subst (λ (os : List Offer). IsOfferedAs os c to) e along)))
  goes_along w home to c (r, is, inr (d, of_home, lives, inr other, along)) = (r, is, inr (d, of_home, lives, inr other, along))

module _ (t : TwoWays) where
  abbrev first : ClassId
  first = record { 0 = length t.world.classes }

  abbrev IsOfFile : PlacedFolder → ℕ → ClassId → Type 0
  IsOfFile p i self = IsClassOfFile (length t.world.classes) p i self

  classes : t.one.classes ≡ t.other.classes
  classes = one_list_of_classes t

  home : t.one.home ≡ t.other.home
  home = one_home t

  scope : (self : ClassId) → link_scope t.one self ≡ link_scope t.other self
  scope self = one_scope t self

  offers_there : (o : Offer) → Contains t.one.offers o → Contains t.other.offers o
  offers_there o there = same_offers t o there

  offers_here : (o : Offer) → Contains t.other.offers o → Contains t.one.offers o
  offers_here o there = same_offers (swapped t) o there

  of_there : (i : ℕ) (self : ClassId) → IsOfFile t.one i self → IsOfFile t.other i self
  of_there i self (n, place, is) =
      (n, subst (λ (o : List ℕ). slice_get o n ≡ Some i) (one_order_of t) place, is)

  -- ---- What is shared.

  c25_there : (self : ClassId) (n : ℕ) → BreaksC25 t.one.classes first t.one.offers self n → BreaksC25 t.other.classes first t.other.offers self n
  c25_there self n fault =
      let (own, (o, there, is), static) = subst (λ (rs : List ClassRecord). BreaksC25 rs first t.one.offers self n) classes fault in
      (own, (o, offers_there o there, is), static)

  c26_there : (self : ClassId) (n : ℕ) → BreaksC26 (record t.world { classes = t.one.classes }) t.one.home first t.one.offers self n
      → BreaksC26 (record t.world { classes = t.other.classes }) t.other.home first t.other.offers self n
  c26_there self n fault =
      let (own, zero, (o, there, is, (r, found, (j, d, at, stays)))) =
      subst (λ (rs : List ClassRecord). BreaksC26 (record t.world { classes = rs }) t.other.home first t.one.offers self n) classes
      (subst (λ (x : DomainId). BreaksC26 (record t.world { classes = t.one.classes }) x first t.one.offers self n) home fault) in
      let still : GoesAlong (record t.world { classes = t.other.classes }) t.other.home t.other.offers o.to d → ⊥ =
      λ goes. stays (goes_along t.other.offers t.one.offers offers_here (record t.world { classes = t.other.classes }) t.other.home o.to d goes) in
      (own, zero, (o, offers_there o there, is, (r, found, (j, d, at, still))))

  -- ---- What methods announce.

  as_many_declared : length t.one.declared ≡ length t.other.declared
  as_many_declared = t.is_one.declared_count ∙ ap (λ (rs : List ClassRecord). folder_methods rs first) classes ∙ sym t.is_other.declared_count

  -- the method of the file that gave a method of the class
  info_at : (i : ℕ) (c : ClassFile) (self : ClassId) (r : ClassRecord) (j : ℕ) (method : MethodRecord) → slice_get t.files i ≡ Some c
      → IsOfFile t.other i self → record_of t.other.classes self ≡ Some r → slice_get r.methods j ≡ Some method
      → (info : MemberInfo) × (slice_get c.methods j ≡ Some info)
  info_at i c self r j method file (n, place, is) found at =
      let added : slice_get t.is_other.added n ≡ Some r =
      sym (behind t.world.classes t.is_other.added n) ∙ ap (λ (rs : List ClassRecord). slice_get rs (length t.world.classes + n)) (sym t.is_other.classes)
      ∙ ap (λ (m : ℕ). slice_get t.other.classes m) (sym is) ∙ found in
      let methods = (t.is_other.records n i c r place file added).0.methods in
      let within = slice_get_within r.methods j method at in
      item_at c.methods j (omega (arith, within, methods.as_many))

  declared_there : (i : ℕ) (c : ClassFile) (self : ClassId) (r : ClassRecord) (j : ℕ) (method : MethodRecord) (thrown : List ClassId)
      → slice_get t.files i ≡ Some c → IsOfFile t.one i self → record_of t.other.classes self ≡ Some r → slice_get r.methods j ≡ Some method
      → DeclaredAt t.other.classes first t.one.declared self j thrown → DeclaredAt t.other.classes first t.other.declared self j thrown
  declared_there i c self r j method thrown file of found at said =
      let there = of_there i self of in
      let (info, info_is) = info_at i c self r j method file there found at in
      let place = methods_before t.other.classes first self.0 + j in
      let within = slice_get_within t.one.declared place thrown said in
      let (other, told) = item_at t.other.declared place (omega (arith, within, as_many_declared)) in
      let before : DeclaredAt t.one.classes first t.one.declared self j thrown =
      subst (λ (rs : List ClassRecord). DeclaredAt rs first t.one.declared self j thrown) (sym classes) said in
      let left : AreThrownBy (link_scope t.one self) c info thrown = t.is_one.declared i j c self info thrown file of info_is before in
      let right : AreThrownBy (link_scope t.other self) c info other = t.is_other.declared i j c self info other file there info_is told in
      let same : thrown ≡ other =
      one_list_of_thrown (link_scope t.one self) (link_scope t.other self) (one_table t) c (t.judged i c file) j info
      thrown other info_is left right in
      told ∙ ap (λ (x : List ClassId). Some x) (sym same)

  c27_there : (i : ℕ) (c : ClassFile) (self : ClassId) (n : ℕ) → slice_get t.files i ≡ Some c → IsOfFile t.one i self
      → BreaksC27 t.one.classes first t.one.declared self n → BreaksC27 t.other.classes first t.other.declared self n
  c27_there i c self n file of fault =
      let (own, interface, remote, how) = subst (λ (rs : List ClassRecord). BreaksC27 rs first t.one.declared self n) classes fault in (
        own,
        interface,
        remote,
        elim how [
          | inl lists ↦ inl lists
          | inr (r, j, method, thrown, found, at, plain, said, silent, is) ↦
              inr (r, j, method, thrown, found, at, plain, declared_there i c self r j method thrown file of found at said, silent, is)
        ],
      )

  -- ---- Each rule.

  pub faults_there : (rule : Rule) (i : ℕ) (spot : Spot) → BreaksPlaced t.world t.files t.one rule i spot → BreaksPlaced t.world t.files t.other rule i spot
  faults_there C20 i spot (c, self, file, of, fault) =
      (c, self, file, of_there i self of, subst (λ (s : LinkScope). MissesMember s c spot) (scope self) fault)
  faults_there C21 i spot (c, self, file, of, fault) =
      (c, self, file, of_there i self of, subst (λ (s : LinkScope). IsAccessRefused s c spot) (scope self) fault)
  faults_there C22 i spot (c, self, file, of, fault) =
      (c, self, file, of_there i self of, subst (λ (s : LinkScope). HasFinalOverridden s spot) (scope self) fault)
  faults_there C23 i (Member n) (c, self, file, of, fault) =
      (c, self, file, of_there i self of, subst (λ (rs : List ClassRecord). BreaksC23 rs self n) classes fault)
  faults_there C24 i (Member n) (c, self, file, of, fault) =
      (c, self, file, of_there i self of, subst (λ (rs : List ClassRecord). BreaksC24 rs self n) classes fault)
  faults_there C25 i (Member n) (c, self, file, of, fault) = (c, self, file, of_there i self of, c25_there self n fault)
  faults_there C26 i (Member n) (c, self, file, of, fault) = (c, self, file, of_there i self of, c26_there self n fault)
  faults_there C27 i (Member n) (c, self, file, of, fault) = (c, self, file, of_there i self of, c27_there i c self n file of fault)
  faults_there _ i _ (c, self, file, of, fault) = absurd fault
