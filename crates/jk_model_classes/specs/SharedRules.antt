-- The rules on classes that domains share and on remote interfaces: C25, C26 and C27. They speak of the records of a
-- world whose classes from `first` on are those of the folder that is loaded. Of the classes that break a rule the one
-- counts whose file comes first, files being in the order of their paths.
use Rattle.std.specs.Prelude.{◌≡◌, ◌≢◌, ℕ, ◌+◌, ◌-◌, ◌<◌, ◌≤◌, ◌⊎◌, ◌&&◌, IsTrue, List, ◌∷◌, ◌++◌, length, map, sum_by, take, drop, Contains, Option, Some, None, slice_get, codes, nat_le, nat_lt, if◌then◌else◌, MatchOption}
use Rattle.jk_model.specs.Flags.{has, STATIC}
use Rattle.jk_model.specs.declared.identifiers.ClassId.{ClassId}
use Rattle.jk_model.specs.declared.identifiers.DomainId.{DomainId}
use Rattle.jk_model.specs.declared.output.Rule.{Rule}
use Rattle.jk_model.specs.declared.output.Rule.TheVariants.{C25, C26, C27}
use Rattle.jk_model_classes.specs.declared.records.ClassRecord.{ClassRecord}
use Rattle.jk_model_classes.specs.declared.records.FieldRecord.{FieldRecord}
use Rattle.jk_model_classes.specs.declared.records.MethodRecord.{MethodRecord}
use Rattle.jk_model_classes.specs.declared.sharing.ClassFault.{ClassFault}
use Rattle.jk_model_classes.specs.declared.sharing.Offer.{Offer}
use Rattle.jk_model_classes.specs.Classes.{record_of, listed_interfaces, IsInterface}
use Rattle.jk_model_classes.specs.Items.{HasItem}
use Rattle.jk_model_classes.specs.Lookups.{FieldIs, MethodIs}
use Rattle.jk_model_classes.specs.Members.{CLINIT}
use Rattle.jk_model_classes.specs.Stubs.{IsSystemNamed, ImplementsRemote}
use Rattle.jk_model_classes.specs.Worlds.{WorldRecord, DomainRecord, domain_of, IsOfferedAs}

-- ---- The order of paths. The path of a class is its name with `.class`. Paths are in the order of their bytes in
-- UTF-8, which is the order of their characters. In the UTF-16 of a path a character above 16 bits is a pair of
-- surrogates, units from d800 to dfff, and these stand in pairs alone; so they rank above all other units.

abbrev pub rank_of : ℕ → ℕ
rank_of u = if nat_le 0xd800 u && nat_lt u 0xe000 then u + 0x10000 else u

abbrev pub path_ranks : List ℕ → List ℕ
path_ranks name = map rank_of (name ++ codes ".class")

-- the first list comes before the second: it is a beginning of it, or is less at the first place where they differ
abbrev pub IsBeforeInOrder : List ℕ → List ℕ → Type 0
IsBeforeInOrder xs ys =
    ((y : ℕ) × (more : List ℕ) × (ys ≡ xs ++ y ∷ more))
    ⊎ ((front : List ℕ) × (x : ℕ) × (y : ℕ) × (after_x : List ℕ) × (after_y : List ℕ)
    × (xs ≡ front ++ x ∷ after_x) × (ys ≡ front ++ y ∷ after_y) × (x < y))

-- the path of class a comes before that of class b
abbrev pub IsPathBefore : List ClassRecord → ClassId → ClassId → Type 0
IsPathBefore classes a b =
    (of_a : ClassRecord) × (of_b : ClassRecord) × (record_of classes a ≡ Some of_a) × (record_of classes b ≡ Some of_b)
    × IsBeforeInOrder (path_ranks of_a.name) (path_ranks of_b.name)

-- ---- The first class that breaks a rule, and the least number where it does. There is one such class where the names of
-- the folder's classes differ, as those of files at different paths do.

pub record IsFirstToBreak (classes : List ClassRecord) (Breaks : ClassId → ℕ → Type 0) (c : ClassId) (number : ℕ) : Type 0 where
  pub breaks : Breaks c number
  pub least : (n : ℕ) → n < number → Breaks c n → ⊥
  pub earlier : (d : ClassId) (n : ℕ) → Breaks d n → IsPathBefore classes d c → ⊥

abbrev pub NoneBreaks : (ClassId → ℕ → Type 0) → Type 0
NoneBreaks Breaks = (c : ClassId) (n : ℕ) → Breaks c n → ⊥

-- the class is one of the folder
abbrev pub IsOfFolder : List ClassRecord → ClassId → ClassId → Type 0
IsOfFolder classes first c = (first.0 ≤ c.0) × (c.0 < length classes)

-- ---- C25: a shared class has a static field.

abbrev pub HasStaticField : List ClassRecord → ClassId → ℕ → Type 0
HasStaticField classes c number =
    (i : ℕ) × (field : FieldRecord) × FieldIs classes (record { class = c; index = i }) field × IsTrue (has field.flags STATIC)
    × (number ≡ i + 1)

abbrev pub BreaksC25 : List ClassRecord → ClassId → List Offer → ClassId → ℕ → Type 0
BreaksC25 classes first offers c number =
    IsOfFolder classes first c × ((o : Offer) × Contains offers o × (o.class ≡ c)) × HasStaticField classes c number

-- ---- C26: a shared class refers to a class that is no system class and isn't offered to at least the same domains.

-- What the home of a class offers: `offers` where that is the domain that is loaded. A domain that was killed keeps its
-- offers.
abbrev pub OffersOf : WorldRecord → DomainId → List Offer → DomainId → List Offer → Type 0
OffersOf w home offers d of_home =
    ((d ≡ home) × (of_home ≡ offers))
    ⊎ ((d ≢ home) × ((r : DomainRecord) × (domain_of w d ≡ Some r) × (of_home ≡ r.offers)))

-- the class is one of the system, or its home offers it wherever this offer goes
abbrev pub GoesAlong : WorldRecord → DomainId → List Offer → Option (List ℕ) → ClassId → Type 0
GoesAlong w home offers to c =
    (r : ClassRecord) × (record_of w.classes c ≡ Some r)
    × ((r.home ≡ None)
    ⊎ ((d : DomainId) × (of_home : List Offer) × (r.home ≡ Some d) × OffersOf w home offers d of_home × IsOfferedAs of_home c to))

abbrev pub BreaksC26 : WorldRecord → DomainId → ClassId → List Offer → ClassId → ℕ → Type 0
BreaksC26 w home first offers c number =
    IsOfFolder w.classes first c × (number ≡ 0)
    × ((o : Offer) × Contains offers o × (o.class ≡ c)
    × ((r : ClassRecord) × (record_of w.classes c ≡ Some r) × HasItem (λ d. GoesAlong w home offers o.to d → ⊥) r.references))

-- The first of C25 and C26 that is broken. C26 is read only where C25 holds of all classes.
abbrev pub IsShareFault : WorldRecord → DomainId → ClassId → List Offer → ClassId → ClassFault → Type 0
IsShareFault w home first offers c fault =
    ((fault.rule ≡ C25) × IsFirstToBreak w.classes (BreaksC25 w.classes first offers) c fault.number)
    ⊎ ((fault.rule ≡ C26) × NoneBreaks (BreaksC25 w.classes first offers)
    × IsFirstToBreak w.classes (BreaksC26 w home first offers) c fault.number)

abbrev pub HasNoShareFault : WorldRecord → DomainId → ClassId → List Offer → Type 0
HasNoShareFault w home first offers =
    NoneBreaks (BreaksC25 w.classes first offers) × NoneBreaks (BreaksC26 w home first offers)

-- ---- C27: the shape of interfaces below jk/Remote.

-- a throwable that announces the ones by which a remote call fails
abbrev pub AnnouncesRemote : ClassId → Type 0
AnnouncesRemote c =
    IsSystemNamed (codes "jk/RemoteException") c ⊎ IsSystemNamed (codes "java/lang/Exception") c
    ⊎ IsSystemNamed (codes "java/lang/Throwable") c

-- how many methods the classes from `first` up to c have
abbrev pub methods_before : List ClassRecord → ClassId → ℕ → ℕ
methods_before classes first n = sum_by (λ (r : ClassRecord). length r.methods) (take (n - first.0) (drop first.0 classes))

-- how many methods the classes of the folder have
abbrev pub folder_methods : List ClassRecord → ClassId → ℕ
folder_methods classes first = methods_before classes first (length classes)

-- Of `declared`, which has a list for each method of the folder in the order of classes and members, the list of the
-- classes that a method says it throws.
abbrev pub DeclaredAt : List ClassRecord → ClassId → List (List ClassId) → ClassId → ℕ → List ClassId → Type 0
DeclaredAt classes first declared c i thrown =
    slice_get declared (methods_before classes first c.0 + i) ≡ Some thrown

-- a method other than `<clinit>` that announces none of them
abbrev pub HasSilentMethod : List ClassRecord → ClassId → List (List ClassId) → ClassId → ℕ → Type 0
HasSilentMethod classes first declared c number =
    (r : ClassRecord) × (i : ℕ) × (method : MethodRecord) × (thrown : List ClassId)
    × (record_of classes c ≡ Some r) × (slice_get r.methods i ≡ Some method) × (method.name ≢ CLINIT)
    × DeclaredAt classes first declared c i thrown × (HasItem AnnouncesRemote thrown → ⊥)
    × (number ≡ length r.fields + i + 1)

-- an interface that the class lists is neither jk/Remote nor below it
abbrev pub ListsOther : List ClassRecord → ClassId → Type 0
ListsOther classes c = HasItem (λ i. ImplementsRemote classes i → ⊥) (listed_interfaces classes c)

abbrev pub BreaksC27 : List ClassRecord → ClassId → List (List ClassId) → ClassId → ℕ → Type 0
BreaksC27 classes first declared c number =
    IsOfFolder classes first c × IsInterface classes c × ImplementsRemote classes c
    × (((number ≡ 0) × ListsOther classes c) ⊎ HasSilentMethod classes first declared c number)

abbrev pub IsRemoteFault : List ClassRecord → ClassId → List (List ClassId) → ClassId → ClassFault → Type 0
IsRemoteFault classes first declared c fault =
    (fault.rule ≡ C27) × IsFirstToBreak classes (BreaksC27 classes first declared) c fault.number
