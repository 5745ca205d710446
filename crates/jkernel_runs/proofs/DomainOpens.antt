-- What a `domain` event does, from what the kernel answers, and how events end whose lines were printed.
use Rattle.std.proofs.Common.{◌≡◌, ◌≢◌, ℕ, zero, suc, ◌<◌, true, List, [], ◌∷◌, ◌++◌, Contains, get_or, Option, Some, None, Result, Ok, Err, refl, sym, subst, ◌∙◌, append-nil, nat_lt, nat_le, ◌&&◌, length, arith}
use Rattle.std.specs.Prelude.{IfErr, IsUtf8, OnErr, OnOk}
use Rattle.std.specs.List.{AllByRecursion, IsDistinct, list_all}
use Rattle.std.specs.Str.{bytes_eq}
use Rattle.std.proofs.lemmas.Bool.{and_parts}
use Rattle.std.proofs.lemmas.List.{append_cancel_left}
use Rattle.std.proofs.lemmas.Option.{same_Some}
use Rattle.std.proofs.lemmas.Bool.Decides.{nat_tests}
use Rattle.std.proofs.lemmas.Str.{IsUtf8-from_ascii}
use Rattle.jk_model.specs.declared.identifiers.DomainId.{DomainId}
use Rattle.jk_model.specs.declared.output.Line.{Line}
use Rattle.jk_model.specs.declared.output.Line.TheVariants.{Loaded, Refused}
use Rattle.jk_model.specs.declared.output.Place.{Place}
use Rattle.jk_model.specs.declared.output.Place.TheVariants.{Whole}
use Rattle.jk_model.specs.declared.output.Rule.{Rule}
use Rattle.jk_model.specs.declared.output.Rule.TheVariants.{L1, L2, L3, L4, L8}
use Rattle.jk_model.specs.declared.script.Event.{Event}
use Rattle.jk_model.specs.declared.script.Event.TheVariants.{Domain}
use Rattle.jk_model.specs.declared.script.Quotas.{Quotas}
use Rattle.jk_model.specs.Outside.{Ask, ListOf, Tree, HasRisen, ◌/-◌}
use Rattle.jk_model.specs.Script.{is_name_byte}
use Rattle.jk_model.specs.ScriptGrammar.{is_name}
use Rattle.jk_model.proofs.EachItem.{all_at}
use Rattle.jk_model_classes.specs.Worlds.{WorldRecord}
use Rattle.jk_model_folders.specs.declared.files.FolderFile.{FolderFile}
use Rattle.jk_model_folders.specs.declared.files.FolderFiles.{FolderFiles}
use Rattle.jk_model_folders.specs.FolderRules.{IsFilesFault, IsFolderFault, IsLive}
use Rattle.jk_model_folders.specs.FolderRules.IsFilesFault.{bad_line, not_offered, class_file}
use Rattle.jk_model_folders.specs.FolderRules.IsFolderFault.{name_is_live as told_live, no_folder as told_none, too_large as told_large, files as told_files}
use Rattle.jk_model_folders.specs.FolderTrees.{AreFiles, IsClassPath, MOST_ENTRIES, RESOLVER}
use Rattle.jk_model_machine_state.specs.Machines.{Machine, world_of}
use Rattle.jk_model_openings.specs.Openings.{OpensWith}
use Rattle.jk_model_openings.specs.Openings.OpensWith.{no_numbers, no_room, opens, too_many}
use Rattle.jk_model_runs.specs.Events.{DomainEvent, Happens, IsWhole}
use Rattle.folder_reader.specs.AskedOnce.{AsksOnce, files_asked, folders_asked}
use Rattle.folder_reader.specs.FolderAnswers.{AskedFor, AsksWithin}
use Rattle.folder_loader.specs.LoadAnswers.{IsRefused}
use Rattle.folder_loader.specs.LoadAnswers.IsRefused.{name_is_live, no_folder, too_large, files}
use Rattle.kernel_openings.specs.declared.answers.AddAnswer.{AddAnswer}
use Rattle.kernel_openings.specs.declared.answers.AddAnswer.TheVariants as Adding
use Rattle.kernel_openings.specs.AddedDomains.{AddsDomain, line_of}
use Rattle.kernel_openings.specs.FolderEvents.{IsRefusedFolder}
use Rattle.jkernel_runs.specs.declared.stop.Stop.{Stop}
use Rattle.jkernel_runs.specs.declared.stop.Stop.TheVariants.{ReadFault, WriteFault, OutOfMemory}
use Rattle.jkernel_runs.specs.Asked.{AskedInEvent, AsksForEvent, AsksForFolder}
use Rattle.jkernel_runs.specs.DomainEvents.{OpensFolder}
use Rattle.jkernel_runs.specs.Events.{Moment, EventEnds, EventAsked, EventAsks, GoesOut, IsPrinted}
use Rattle.jkernel_runs.specs.Places.{HasTextPlace, IsTextPlace}
use Rattle.jkernel_runs.specs.ToldAnswers.{Tells, line_told}

-- ---- A name is ASCII.

small_name_byte : (b : ℕ) → is_name_byte b ≡ true → b < 128
small_name_byte b e = grind (arith, nat_tests)

name_bytes : (name : List ℕ) → list_all is_name_byte name ≡ true → (i : ℕ) → get_or name i 0 < 128
name_bytes [] e i = omega arith
name_bytes (b ∷ name) e zero = small_name_byte b (and_parts (is_name_byte b) (list_all is_name_byte name) e).0
name_bytes (b ∷ name) e (suc i) = name_bytes name (and_parts (is_name_byte b) (list_all is_name_byte name) e).1 i

pub name_is_utf8 : (name : List ℕ) → is_name name ≡ true → IsUtf8 name
name_is_utf8 name is =
    IsUtf8-from_ascii name (name_bytes name (and_parts (nat_le 1 (length name) && nat_le (length name) 32) (list_all is_name_byte name) is).1)

-- ---- The path of a file is UTF-8.

small_bytes : (bs : List ℕ) → list_all (λ b. nat_lt b 128) bs ≡ true → (i : ℕ) → get_or bs i 0 < 128
small_bytes [] e i = omega arith
small_bytes (b ∷ bs) e zero =
    let first = (and_parts (nat_lt b 128) (list_all (λ b. nat_lt b 128) bs) e).0 in
    grind (arith, nat_tests)
small_bytes (b ∷ bs) e (suc i) = small_bytes bs (and_parts (nat_lt b 128) (list_all (λ b. nat_lt b 128) bs) e).1 i

resolver_is_utf8 : IsUtf8 RESOLVER
resolver_is_utf8 = IsUtf8-from_ascii RESOLVER (small_bytes RESOLVER refl)

files_place : (f : FolderFiles) (w : WorldRecord) (into : List ℕ) (rule : Rule) (place : Place) → AreFiles f → IsFilesFault f w into rule place
    → IsTextPlace place
files_place f w into rule place are (bad_line n broken least) = resolver_is_utf8
files_place f w into rule place are (not_offered lines n line says shares there broken least) = resolver_is_utf8
files_place f w into rule place are (class_file lines same i number file good there fault) =
    (all_at (λ (c : FolderFile). IsClassPath c.path × IsUtf8 c.path) f.classes i file are.paths there).1

folder_place : (t : Tree) (root : List ℕ) (w : WorldRecord) (name : List ℕ) (rule : Rule) (place : Place) → IsFolderFault t root w name rule place
    → IsTextPlace place
folder_place t root w name rule place (told_live live) = tt
folder_place t root w name rule place (told_none new none) = tt
folder_place t root w name rule place (told_large new there large) = tt
folder_place t root w name rule place (told_files f same here new are of fault) = files_place f w name rule place are fault

refused_place : (t : Option Tree) (root : List ℕ) (w : WorldRecord) (name : List ℕ) (rule : Rule) (place : Place) → IsRefused t root w name rule place
    → IsTextPlace place
refused_place t root w name rule place (name_is_live live) = tt
refused_place t root w name rule place (no_folder new none) = tt
refused_place t root w name rule place (too_large new large) = tt
refused_place t root w name rule place (files f same here new are told fault) = files_place f w name rule place are fault

whole_place : (place : Place) → Whole ≡ place → IsTextPlace place
whole_place place is = subst IsTextPlace is tt

accepted_place : (f : FolderFiles) (m : Machine) (name : List ℕ) (quotas : Quotas) (rule : Rule) (place : Place) (lines : List Line) (new : Machine)
    → OpensWith f m name quotas lines new → lines ≡ Refused name rule place ∷ [] → IsTextPlace place
accepted_place f m name quotas rule place lines new (no_room a lacks) e = whole_place place cc
accepted_place f m name quotas rule place lines new (no_numbers a room lacks) e = whole_place place cc
accepted_place f m name quotas rule place lines new (too_many a room numbers many) e = whole_place place cc
accepted_place f m name quotas rule place lines new (opens a inside room numbers few opened placed) e = absurd cc

broken_place : (t : Option Tree) (root : List ℕ) (w : WorldRecord) (name : List ℕ) (rule : Rule) (place : Place) → IsRefusedFolder t root w name rule place
    → IsTextPlace place
broken_place None root w name rule place is = refused_place None root w name rule place is
broken_place (Some t) root w name rule place is = folder_place t root w name rule place is

event_place : (t : Option Tree) (root : List ℕ) (m : Machine) (name : List ℕ) (quotas : Quotas) (rule : Rule) (place : Place) (lines : List Line)
    (new : Machine)
    → OpensFolder t root m name quotas lines new → lines ≡ Refused name rule place ∷ [] → IsTextPlace place
event_place t root m name quotas rule place lines new (AddsDomain.breaks broken here is) e =
    let same : here ≡ place = cc in subst IsTextPlace same (broken_place t root (world_of m) name broken here is)
event_place t root m name quotas rule place lines new (AddsDomain.opens a said last h) e =
    accepted_place a.files m name quotas rule place said last h e

-- The event that each answer with a line stands for. It leads to the machine as it was.
abbrev pub IsEventOf : Option Tree → List ℕ → Machine → List ℕ → Quotas → AddAnswer → Type 0
IsEventOf t root m name quotas e = (line : Line) → line_of name e ≡ Some line → OpensFolder t root m name quotas (line ∷ []) m

-- an answer of the kernel to a folder that breaks a rule names a place that is a text
pub text_place : (t : Option Tree) (root : List ℕ) (m : Machine) (name : List ℕ) (quotas : Quotas) (r : Result DomainId AddAnswer)
    → IfErr r (IsEventOf t root m name quotas) → HasTextPlace r
text_place t root m name quotas (Ok number) h = tt
text_place t root m name quotas (Err (Adding.Refused rule place)) h =
    event_place t root m name quotas rule place (Refused name rule place ∷ []) m (h (Refused name rule place) refl) refl
text_place t root m name quotas (Err Adding.NoRoom) h = tt
text_place t root m name quotas (Err Adding.CapNumbers) h = tt
text_place t root m name quotas (Err Adding.TooManyDomains) h = tt
text_place t root m name quotas (Err Adding.ReadFault) h = tt
text_place t root m name quotas (Err Adding.OutOfMemory) h = tt

-- ---- What an event leaves, by what the kernel answers.

-- what was printed is the end of an event that asks for nothing
pub ends_printed : (tree : Option Tree) (root : List ℕ) (event_opens : DomainEvent) (event : Event) (m new : Machine) (a b : Moment)
    (r : Result (Unit {0}) Stop) → ((lines : List Line) → AskedInEvent tree root event m lines []) → b.asked ≡ a.asked
    → IsPrinted (Happens event_opens event m) new a.out b.out r → EventEnds tree root event_opens event m new a b r
ends_printed tree root event_opens event m new a b (Ok x) quiet same p = (p, ([], quiet p.lines, same ∙ sym (append-nil a.asked)))
ends_printed tree root event_opens event m new a b (Err WriteFault) quiet same p =
    (p, ([], quiet (p.said ++ p.more), same ∙ sym (append-nil a.asked)))
ends_printed tree root event_opens event m new a b (Err OutOfMemory) quiet same p = absurd p
ends_printed tree root event_opens event m new a b (Err ReadFault) quiet same p = absurd p

-- an event with one line
ends_by_line : (tree : Option Tree) (root : List ℕ) (event_opens : DomainEvent) (name : List ℕ) (quotas : Quotas) (m new : Machine) (a b : Moment)
    (line : Line) (r : Result (Unit {0}) Stop) → event_opens m name quotas (line ∷ []) new → IsWhole new → GoesOut (line ∷ []) a.out b.out r
    → EventAsked tree root (Domain name quotas) m (line ∷ []) a.asked b.asked → EventEnds tree root event_opens (Domain name quotas) m new a b r
ends_by_line tree root event_opens name quotas m new a b line (Ok x) opened whole went asked =
    (record { lines = line ∷ []; happened = opened; is_whole = whole; printed = went }, asked)
ends_by_line tree root event_opens name quotas m new a b line (Err WriteFault) opened whole went asked =
    (record { said = line ∷ []; more = []; last = new; happened = opened; is_whole = whole; printed = went }, asked)
ends_by_line tree root event_opens name quotas m new a b line (Err ReadFault) opened whole went asked = absurd went
ends_by_line tree root event_opens name quotas m new a b line (Err OutOfMemory) opened whole went asked = absurd went

-- ---- What is asked.

-- What the kernel's answer says of what was asked for the folder of a name.
pub record AnswersAsks (t : Option Tree) (root name : List ℕ) (m : Machine) (old new : List Ask) (r : Result DomainId AddAnswer) : Type 0 where
  pub within : (more : List Ask) × (new ≡ old ++ more) × AllByRecursion (AsksWithin (root /- name)) more
  pub once : AsksOnce t old new
  pub live : IsLive (world_of m) name → r ≡ Err (Adding.Refused L1 Whole)
  pub live_asks : IsLive (world_of m) name → new ≡ old
  pub missed : r ≡ Err (Adding.Refused L2 Whole) → AskedFor old new (ListOf (root /- name) MOST_ENTRIES)

-- what follows some asks is the same, however it is called
same_more : (old new more other : List Ask) → new ≡ old ++ more → new ≡ old ++ other → other ≡ more
same_more old new more other is is' = append_cancel_left old other more (sym is' ∙ is)

once_from : (t : Option Tree) (old new more : List Ask) → new ≡ old ++ more → AsksOnce t old new → AsksOnce t [] more
once_from t old new more is h =
    let same = same_more old new more h.more is h.is in
    record {
      more = more;
      is = refl;
      files = subst (λ (x : List Ask). IsDistinct bytes_eq (files_asked x)) same h.files;
      folders = λ told. subst (λ (x : List Ask). IsDistinct bytes_eq (folders_asked x)) same (h.folders told);
    }

folder_asked : (t : Option Tree) (root name : List ℕ) (m : Machine) (old new : List Ask) (r : Result DomainId AddAnswer)
    → (h : AnswersAsks t root name m old new r) → AsksForFolder t (root /- name) h.within.0
folder_asked t root name m old new r h =
    record { within = h.within.2; once = once_from t old new h.within.0 h.within.1 h.once }

-- the one answer whose line says that there is no folder
no_folder_told : (name : List ℕ) (r : Result DomainId AddAnswer) (line : Line) → line_told name r ≡ Some line → line ≡ Refused name L2 Whole
    → r ≡ Err (Adding.Refused L2 Whole)
no_folder_told name (Ok number) line told is = (let e : Loaded name ≡ Refused name L2 Whole = same_Some (Loaded name) line told ∙ is in absurd cc)
no_folder_told name (Err (Adding.Refused rule place)) line told is =
    let e : Refused name rule place ≡ Refused name L2 Whole = same_Some (Refused name rule place) line told ∙ is in
    let rules : rule ≡ L2 = cc in
    let places : place ≡ Whole = cc in
    λ i. Err (Adding.Refused (rules i) (places i))
no_folder_told name (Err Adding.NoRoom) line told is =
    let e : Refused name L3 Whole ≡ Refused name L2 Whole = same_Some (Refused name L3 Whole) line told ∙ is in absurd cc
no_folder_told name (Err Adding.CapNumbers) line told is =
    let e : Refused name L4 Whole ≡ Refused name L2 Whole = same_Some (Refused name L4 Whole) line told ∙ is in absurd cc
no_folder_told name (Err Adding.TooManyDomains) line told is =
    let e : Refused name L8 Whole ≡ Refused name L2 Whole = same_Some (Refused name L8 Whole) line told ∙ is in absurd cc
no_folder_told name (Err Adding.ReadFault) line told is = (let none : None ≡ Some line = told in absurd cc)
no_folder_told name (Err Adding.OutOfMemory) line told is = (let none : None ≡ Some line = told in absurd cc)

line_is : (a b : Line) → ◌≡◌ {A = List Line} (a ∷ []) (b ∷ []) → a ≡ b
line_is a b e = cc

-- what was asked by the event of an answer with a line
line_asked : (t : Option Tree) (root name : List ℕ) (quotas : Quotas) (m : Machine) (old new : List Ask) (r : Result DomainId AddAnswer) (line : Line)
    → line_told name r ≡ Some line → AnswersAsks t root name m old new r → EventAsked t root (Domain name quotas) m (line ∷ []) old new
line_asked t root name quotas m old new r line told h = (
  h.within.0,
  record {
    of_folder = folder_asked t root name m old new r h;
    live = λ live. same_more old new [] h.within.0 (h.live_asks live ∙ sym (append-nil old)) h.within.1;
    missed = λ said.
        let there = h.missed (no_folder_told name r line told (line_is line (Refused name L2 Whole) said)) in
        subst (λ (x : List Ask). Contains x (ListOf (root /- name) MOST_ENTRIES)) (same_more old new h.within.0 there.0 h.within.1 there.1) there.2;
  },
  h.within.1,
)

-- what was asked for the folder of this name
pub asks_folder : (t : Option Tree) (root name text : List ℕ) (quotas : Quotas) (m : Machine) (old new : List Ask) (r : Result DomainId AddAnswer)
    → text ≡ name → AnswersAsks t root text m old new r → EventAsks t root (Domain name quotas) old new
asks_folder t root name text quotas m old new r e h =
    (h.within.0, subst (λ (n : List ℕ). AsksForFolder t (root /- n) h.within.0) e (folder_asked t root text m old new r h), h.within.1)

-- nothing was asked by an event that may ask for nothing
pub asks_none : (t : Option Tree) (root : List ℕ) (event : Event) (asked : List Ask) → AsksForEvent t root event [] → EventAsks t root event asked asked
asks_none t root event asked may = ([], may, sym (append-nil asked))

-- ---- A `domain` event, from what the kernel answered and what was told of that.

module _ (t : Option Tree) (root name : List ℕ) (quotas : Quotas) (m new : Machine) (a b : Moment) (whole : IsWhole new)
    (said : Result (Unit {0}) Stop) where
  -- a folder that isn't opened leaves the machine as it was
  refused_line : (line : Line) → new ≡ m → OpensFolder t root m name quotas (line ∷ []) m → GoesOut (line ∷ []) a.out b.out said
      → EventAsked t root (Domain name quotas) m (line ∷ []) a.asked b.asked
      → EventEnds t root (OpensFolder t root) (Domain name quotas) m new a b said
  refused_line line same opened went asked =
      ends_by_line t root (OpensFolder t root) name quotas m new a b line said
      (subst (λ (x : Machine). OpensFolder t root m name quotas (line ∷ []) x) (sym same) opened) whole went asked

  stopped : (stop : Stop) → said ≡ Err stop → EventEnds t root (OpensFolder t root) (Domain name quotas) m new a b (Err stop)
      → EventEnds t root (OpensFolder t root) (Domain name quotas) m new a b said
  stopped stop is h = subst (λ (r : Result (Unit {0}) Stop). EventEnds t root (OpensFolder t root) (Domain name quotas) m new a b r) (sym is) h

  pub ends_told : (r : Result DomainId AddAnswer) → OnOk r (OpensFolder t root m name quotas (Loaded name ∷ []) new)
      → IfErr r (IsEventOf t root m name quotas) → OnErr r (new ≡ m) → (r ≡ Err Adding.ReadFault → HasRisen a.files_faults b.files_faults)
      → (r ≡ Err Adding.ReadFault → b.asked ≢ a.asked) → AnswersAsks t root name m a.asked b.asked r → Tells name r a.out b.out said
      → EventEnds t root (OpensFolder t root) (Domain name quotas) m new a b said
  ends_told (Ok number) ok lines same risen something asks told =
      ends_by_line t root (OpensFolder t root) name quotas m new a b (Loaded name) said ok whole told
      (line_asked t root name quotas m a.asked b.asked (Ok number) (Loaded name) refl asks)
  ends_told (Err (Adding.Refused rule place)) ok lines same risen something asks told =
      refused_line _ same (lines _ refl) told (line_asked t root name quotas m a.asked b.asked (Err (Adding.Refused rule place)) _ refl asks)
  ends_told (Err Adding.NoRoom) ok lines same risen something asks told =
      refused_line _ same (lines _ refl) told (line_asked t root name quotas m a.asked b.asked (Err Adding.NoRoom) _ refl asks)
  ends_told (Err Adding.CapNumbers) ok lines same risen something asks told =
      refused_line _ same (lines _ refl) told (line_asked t root name quotas m a.asked b.asked (Err Adding.CapNumbers) _ refl asks)
  ends_told (Err Adding.TooManyDomains) ok lines same risen something asks told =
      refused_line _ same (lines _ refl) told (line_asked t root name quotas m a.asked b.asked (Err Adding.TooManyDomains) _ refl asks)
  ends_told (Err Adding.ReadFault) ok lines same risen something asks told =
      stopped ReadFault told.0 (
        λ live. (let no : ◌≡◌ {A = Result DomainId AddAnswer} (Err Adding.ReadFault) (Err (Adding.Refused L1 Whole)) = asks.live live in absurd cc),
        told.1,
        risen refl,
        something refl,
      )
  ends_told (Err Adding.OutOfMemory) ok lines same risen something asks told =
      stopped OutOfMemory told.0 (
        λ live. (let no : ◌≡◌ {A = Result DomainId AddAnswer} (Err Adding.OutOfMemory) (Err (Adding.Refused L1 Whole)) = asks.live live in absurd cc),
        told.1,
      )

-- the name as bytes and as a text
pub ends_named : (t : Option Tree) (root text name : List ℕ) (quotas : Quotas) (m new : Machine) (a b : Moment) (whole : IsWhole new)
    (said : Result (Unit {0}) Stop) (r : Result DomainId AddAnswer) → text ≡ name
    → OnOk r (OpensFolder t root m text quotas (Loaded text ∷ []) new)
    → IfErr r (IsEventOf t root m text quotas) → OnErr r (new ≡ m) → (r ≡ Err Adding.ReadFault → HasRisen a.files_faults b.files_faults)
    → (r ≡ Err Adding.ReadFault → b.asked ≢ a.asked) → AnswersAsks t root text m a.asked b.asked r → Tells name r a.out b.out said
    → EventEnds t root (OpensFolder t root) (Domain name quotas) m new a b said
ends_named t root text name quotas m new a b whole said r e ok lines same risen something asks told =
    subst (λ (n : List ℕ). EventEnds t root (OpensFolder t root) (Domain n quotas) m new a b said) e
    (ends_told t root text quotas m new a b whole said r ok lines same risen something asks
    (subst (λ (n : List ℕ). Tells n r a.out b.out said) (sym e) told))
