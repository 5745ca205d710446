-- What is known of placed classes is what the rules on them ask.
use Rattle.std.proofs.Common.{◌≡◌, ℕ, List, length, sym, ap, subst, ◌∙◌}
use Rattle.jk_model.specs.declared.class_file.ClassFile.{ClassFile}
use Rattle.jk_model.specs.declared.identifiers.ClassId.{ClassId}
use Rattle.jk_model_classes.specs.declared.records.ClassRecord.{ClassRecord}
use Rattle.jk_model_classes.specs.declared.records.Link.{Link}
use Rattle.jk_model_classes.specs.declared.sharing.ResolverLine.{ResolverLine}
use Rattle.jk_model_classes.specs.Worlds.{NamedClass, WorldRecord}
use Rattle.jk_model_folders.specs.ClassOrder.{IsClassOrder}
use Rattle.placed_rules.specs.PlacedFaults.{AreLinkedIn, AreRecorded, IsLinkedAs, IsUnlinkedAs}
use Rattle.placed_rules.proofs.PlacedFolders.{linked_of, recorded_of}
use Rattle.folder_loader.specs.ClassesInOrder.{IsPlacing, links_in}
use Rattle.folder_loader.specs.declared.placed.Placed.{Placed}

module _ (w : WorldRecord) (lines : List ResolverLine) (files : List ClassFile) (names : List NamedClass) (x : Placed)
    (is : IsPlacing w lines files names x) where
  abbrev from : ClassId
  from = record { 0 = length w.classes }

  same_first : from ≡ x.first
  same_first = let make : ℕ → ClassId = λ n. record { 0 = n } in ap make (sym is.first_is)

  same_order : (order : List ℕ) → order ≡ x.order.items → is.placed.order ≡ order
  same_order order eo = sym is.order_is ∙ sym eo

  pub unlinked_as : (classes : List ClassRecord) (order : List ℕ) → classes ≡ is.placed.unlinked → order ≡ x.order.items
      → IsUnlinkedAs w is.placed classes x.names order x.first
  unlinked_as classes order ec eo = (sym ec, sym is.table_is, same_order order eo, sym is.first_is)

  pub linked_as : (classes : List ClassRecord) (order : List ℕ) → classes ≡ is.placed.classes → order ≡ x.order.items
      → IsLinkedAs w is.placed classes order x.first
  linked_as classes order ec eo = (sym ec, same_order order eo, sym is.first_is)

  pub in_order : (order : List ℕ) → order ≡ x.order.items → IsClassOrder files order
  in_order order eo = subst (λ (o : List ℕ). IsClassOrder files o) (same_order order eo) is.is_placed.order

  pub recorded : (classes : List ClassRecord) (order : List ℕ) → classes ≡ is.placed.classes → order ≡ x.order.items
      → AreRecorded classes x.first order files
  recorded classes order ec eo =
      let told : AreRecorded is.placed.classes from is.placed.order files = recorded_of w lines files names is.placed is.is_placed in
      let these : AreRecorded classes from is.placed.order files =
      subst (λ (c : List ClassRecord). AreRecorded c from is.placed.order files) (sym ec) told in
      let here : AreRecorded classes x.first is.placed.order files =
      subst (λ (f : ClassId). AreRecorded classes f is.placed.order files) same_first these in
      subst (λ (o : List ℕ). AreRecorded classes x.first o files) (same_order order eo) here

  pub linked : (classes : List ClassRecord) (order : List ℕ) (links : List (List Link)) → classes ≡ is.placed.unlinked → order ≡ x.order.items
      → links ≡ links_in is.is_placed.added → AreLinkedIn classes x.names x.first order files links
  linked classes order links ec eo el =
      let added : List (List Link) = links_in is.is_placed.added in
      let told : AreLinkedIn is.placed.unlinked is.placed.table from is.placed.order files added =
      linked_of w lines files names is.placed is.is_placed in
      let these : AreLinkedIn classes is.placed.table from is.placed.order files added =
      subst (λ (c : List ClassRecord). AreLinkedIn c is.placed.table from is.placed.order files added) (sym ec) told in
      let named : AreLinkedIn classes x.names from is.placed.order files added =
      subst (λ (t : List NamedClass). AreLinkedIn classes t from is.placed.order files added) (sym is.table_is) these in
      let here : AreLinkedIn classes x.names x.first is.placed.order files added =
      subst (λ (f : ClassId). AreLinkedIn classes x.names f is.placed.order files added) same_first named in
      let ordered : AreLinkedIn classes x.names x.first order files added =
      subst (λ (o : List ℕ). AreLinkedIn classes x.names x.first o files added) (same_order order eo) here in
      subst (λ (l : List (List Link)). AreLinkedIn classes x.names x.first order files l) (sym el) ordered
