-- The rules C23 to C27 are read of a class and the number of a member.
use Rattle.std.proofs.Common.{◌≡◌, ℕ, ◌+◌, List, length, Option, Some, slice_get, sym, ap, subst}
use Rattle.list_lemmas.proofs.ItemsByPlace.{item_there}
use Rattle.jk_model.specs.declared.class_file.ClassFile.{ClassFile}
use Rattle.jk_model.specs.declared.identifiers.ClassId.{ClassId}
use Rattle.jk_model.specs.declared.output.Rule.{Rule}
use Rattle.jk_model.specs.declared.output.Rule.TheVariants.{C23, C24, C25, C26, C27}
use Rattle.jk_model_classes.specs.Items.{Spot, Member, Entry}
use Rattle.jk_model_classes.specs.SharedRules.{BreaksC25, BreaksC26, BreaksC27}
use Rattle.jk_model_classes.specs.Worlds.{WorldRecord}
use Rattle.jk_model_folders.specs.ClassOrder.{IsClassOrder}
use Rattle.jk_model_folders.specs.FolderRules.{BreaksPlaced, IsClassOfFile, PlacedFolder}
use Rattle.jk_model_typing.specs.Typing.{BreaksC23, BreaksC24}
use Rattle.class_files.specs.declared.faults.FileFault.{FileFault}
use Rattle.placed_rules.specs.Codes.{AtMember}
use Rattle.placed_rules.specs.FirstFiles.{IsFirstFault}
use Rattle.placed_rules.specs.PlacedFaults.{class_at}
use Rattle.placed_rules.proofs.LinksInTurn.{numbered}
use Rattle.placed_rules.proofs.PlacesDiffer.{places_differ}
use Rattle.placed_rules.proofs.RulesInTurn.{IsRuleAnswer, rule_answer}

-- a file breaks the rule where its class does, at a member
pub record IsReadBy (w : WorldRecord) (cs : List ClassFile) (p : PlacedFolder) (rule : Rule) (Breaks : ClassId → ℕ → Type 0) : Type 0 where
  pub into : (i : ℕ) (spot : Spot) → BreaksPlaced w cs p rule i spot
      → (self : ClassId) × IsClassOfFile (length w.classes) p i self × AtMember (Breaks self) spot
  pub from : (i : ℕ) (c : ClassFile) (self : ClassId) (n : ℕ) → slice_get cs i ≡ Some c → IsClassOfFile (length w.classes) p i self → Breaks self n
      → BreaksPlaced w cs p rule i (Member n)

module _ (w : WorldRecord) (cs : List ClassFile) (p : PlacedFolder) where
  abbrev base : ClassId
  base = record { 0 = length w.classes }

  into23 : (i : ℕ) (spot : Spot) → BreaksPlaced w cs p C23 i spot
      → (self : ClassId) × IsClassOfFile (length w.classes) p i self × AtMember (BreaksC23 p.classes self) spot
  into23 i (Member n) (c, self, at, of, bad) = (self, of, bad)
  into23 i (Entry j) (c, self, at, of, bad) = absurd bad

  pub reads_typings : IsReadBy w cs p C23 (BreaksC23 p.classes)
  reads_typings = record { into = into23; from = λ i c self n at of bad. (c, self, at, of, bad) }

  into24 : (i : ℕ) (spot : Spot) → BreaksPlaced w cs p C24 i spot
      → (self : ClassId) × IsClassOfFile (length w.classes) p i self × AtMember (BreaksC24 p.classes self) spot
  into24 i (Member n) (c, self, at, of, bad) = (self, of, bad)
  into24 i (Entry j) (c, self, at, of, bad) = absurd bad

  pub reads_sizes : IsReadBy w cs p C24 (BreaksC24 p.classes)
  reads_sizes = record { into = into24; from = λ i c self n at of bad. (c, self, at, of, bad) }

  into25 : (i : ℕ) (spot : Spot) → BreaksPlaced w cs p C25 i spot
      → (self : ClassId) × IsClassOfFile (length w.classes) p i self × AtMember (BreaksC25 p.classes base p.offers self) spot
  into25 i (Member n) (c, self, at, of, bad) = (self, of, bad)
  into25 i (Entry j) (c, self, at, of, bad) = absurd bad

  pub reads_statics : IsReadBy w cs p C25 (BreaksC25 p.classes base p.offers)
  reads_statics = record { into = into25; from = λ i c self n at of bad. (c, self, at, of, bad) }

  into26 : (i : ℕ) (spot : Spot) → BreaksPlaced w cs p C26 i spot
      → (self : ClassId) × IsClassOfFile (length w.classes) p i self
      × AtMember (BreaksC26 (record w { classes = p.classes }) p.home base p.offers self) spot
  into26 i (Member n) (c, self, at, of, bad) = (self, of, bad)
  into26 i (Entry j) (c, self, at, of, bad) = absurd bad

  pub reads_exposed : IsReadBy w cs p C26 (BreaksC26 (record w { classes = p.classes }) p.home base p.offers)
  reads_exposed = record { into = into26; from = λ i c self n at of bad. (c, self, at, of, bad) }

  into27 : (i : ℕ) (spot : Spot) → BreaksPlaced w cs p C27 i spot
      → (self : ClassId) × IsClassOfFile (length w.classes) p i self × AtMember (BreaksC27 p.classes base p.declared self) spot
  into27 i (Member n) (c, self, at, of, bad) = (self, of, bad)
  into27 i (Entry j) (c, self, at, of, bad) = absurd bad

  pub reads_remotes : IsReadBy w cs p C27 (BreaksC27 p.classes base p.declared)
  reads_remotes = record { into = into27; from = λ i c self n at of bad. (c, self, at, of, bad) }

-- ---- Such a rule, asked of the classes in their order.

module _ (w : WorldRecord) (cs : List ClassFile) (p : PlacedFolder) (first : ClassId) (same : length w.classes ≡ first.0)
    (ordered : IsClassOrder cs p.order) (rule : Rule) (Breaks : ClassId → ℕ → Type 0) (reads : IsReadBy w cs p rule Breaks) where
  abbrev AtPlace : ℕ → Spot → Type 0
  AtPlace k = AtMember (Breaks (class_at first k))

  into : (i : ℕ) (spot : Spot) → BreaksPlaced w cs p rule i spot → (k : ℕ) × (slice_get p.order k ≡ Some i) × AtPlace k spot
  into i spot broken =
      let b = reads.into i spot broken in
      let k = b.1.0 in
      let is : b.0 ≡ class_at first k = numbered first b.0 (length w.classes) k same b.1.2 in
      (k, b.1.1, subst (λ (x : ClassId). AtMember (Breaks x) spot) is b.2)

  from : (k i : ℕ) (spot : Spot) → slice_get p.order k ≡ Some i → AtPlace k spot → BreaksPlaced w cs p rule i spot
  from k i (Member n) at bad =
      let c = item_there cs i (ordered.places k i at) in
      reads.from i c.0 (class_at first k) n c.1 (k, at, ap (λ (m : ℕ). m + k) (sym same)) bad
  from k i (Entry j) at bad = absurd bad

  pub class_answer : (found : Option FileFault) → IsFirstFault rule (length p.order) p.order AtPlace found
      → IsRuleAnswer (BreaksPlaced w cs p) rule found
  class_answer found h = rule_answer (BreaksPlaced w cs p) rule p.order AtPlace (places_differ cs p.order ordered) into from found h
