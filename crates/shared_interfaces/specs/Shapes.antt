-- The parts of C25, C26 and C27.
use Rattle.std.specs.Prelude.{◌≡◌, ◌≢◌, ℕ, ◌+◌, ◌<◌, ◌≤◌, IsTrue, List, length, Option, Some, slice_get}
use Rattle.jk_model.specs.Flags.{has, STATIC}
use Rattle.jk_model.specs.declared.identifiers.ClassId.{ClassId}
use Rattle.jk_model.specs.declared.identifiers.DomainId.{DomainId}
use Rattle.jk_model_classes.specs.declared.records.ClassRecord.{ClassRecord}
use Rattle.jk_model_classes.specs.declared.records.FieldRecord.{FieldRecord}
use Rattle.jk_model_classes.specs.declared.records.MethodRecord.{MethodRecord}
use Rattle.jk_model_classes.specs.declared.sharing.Offer.{Offer}
use Rattle.jk_model_classes.specs.Classes.{record_of}
use Rattle.jk_model_classes.specs.Items.{HasItem, HasItemBefore}
use Rattle.jk_model_classes.specs.Members.{CLINIT}
use Rattle.jk_model_classes.specs.SharedRules.{AnnouncesRemote, GoesAlong, OffersOf}
use Rattle.jk_model_classes.specs.Worlds.{WorldRecord, IsOfferedAs}

-- the field with this number is static
abbrev pub IsStaticAt : List FieldRecord → ℕ → Type 0
IsStaticAt fields n = (i : ℕ) × (field : FieldRecord) × (slice_get fields i ≡ Some field) × IsTrue (has field.flags STATIC) × (n ≡ i + 1)

-- the offer at `start` and those up to `end` are of one class
abbrev pub IsRun : List Offer → ℕ → ℕ → Type 0
IsRun offers start end =
    (start < end) × (end ≤ length offers)
    × ((i : ℕ) (o : Offer) (p : Offer) → start ≤ i → i < end → slice_get offers i ≡ Some o → slice_get offers start ≡ Some p → o.class ≡ p.class)

-- the class doesn't go along with one of the offers from `start` to `end`
abbrev pub StaysBehind : WorldRecord → DomainId → List Offer → ℕ → ℕ → ClassId → Type 0
StaysBehind w home offers start end c =
    (i : ℕ) × (o : Offer) × (start ≤ i) × (i < end) × (slice_get offers i ≡ Some o) × (GoesAlong w home offers o.to c → ⊥)

-- one of the classes doesn't go along with one of these offers
abbrev pub ExposesAny : WorldRecord → DomainId → List Offer → ℕ → ℕ → List ClassId → Type 0
ExposesAny w home offers start end = HasItem (StaysBehind w home offers start end)

-- the class is one of the folder, and one to which it refers doesn't go along with one of these offers
abbrev pub ExposesInRun : WorldRecord → DomainId → ClassId → List Offer → ℕ → ℕ → ClassId → Type 0
ExposesInRun w home first offers start end c =
    (first.0 ≤ c.0) × ((r : ClassRecord) × (record_of w.classes c ≡ Some r) × ExposesAny w home offers start end r.references)

-- the offer is of a class of the folder, and a class to which that refers doesn't go along
abbrev pub Exposes : WorldRecord → DomainId → ClassId → List Offer → Offer → Type 0
Exposes w home first offers offer =
    (first.0 ≤ offer.class.0)
    × ((r : ClassRecord) × (record_of w.classes offer.class ≡ Some r) × HasItem (λ c. GoesAlong w home offers offer.to c → ⊥) r.references)

-- one of the first so many offers exposes class c, which breaks C26 by itself and not by a member
abbrev pub ExposedBefore : ℕ → WorldRecord → DomainId → ClassId → List Offer → ClassId → ℕ → Type 0
ExposedBefore place w home first offers c n = (n ≡ 0) × HasItemBefore place (λ o. (o.class ≡ c) × Exposes w home first offers o) offers

-- the domain offers the class wherever an offer goes
abbrev pub IsOfferedBy : WorldRecord → DomainId → List Offer → Option (List ℕ) → DomainId → ClassId → Type 0
IsOfferedBy w home offers to d c = (of_home : List Offer) × OffersOf w home offers d of_home × IsOfferedAs of_home c to

-- the method is another than `<clinit>`, and none of these throwables announces those of a remote call
abbrev pub IsSilent : MethodRecord → List ClassId → Type 0
IsSilent method thrown = (method.name ≢ CLINIT) × (HasItem AnnouncesRemote thrown → ⊥)

-- the method at this place does so, where what the methods declare stands after the first `passed` lists
abbrev pub IsSilentAt : List MethodRecord → List (List ClassId) → ℕ → ℕ → Type 0
IsSilentAt methods declared passed i =
    (method : MethodRecord) × (thrown : List ClassId)
    × (slice_get methods i ≡ Some method) × (slice_get declared (passed + i) ≡ Some thrown) × IsSilent method thrown
