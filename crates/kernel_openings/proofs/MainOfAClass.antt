-- A class has one `main` at most: that which is found by its name and type, where it is public, static and has code. Its frame has room
-- for the one argument.
use Rattle.std.proofs.Common.{◌≡◌, ◌≤◌, ◌&&◌, IsTrue, List, [], ◌∷◌, ◌++◌, length, flat_map, Some, None, codes, refl, sym, ap, subst, ◌∙◌, arith}
use Rattle.std.proofs.lemmas.List.{length-append, length-map}
use Rattle.list_lemmas.proofs.ItemsOfLists.{Contains-at}
use Rattle.jk_model.specs.declared.descriptors.MethodType.{MethodType}
use Rattle.jk_model.specs.declared.identifiers.ClassId.{ClassId}
use Rattle.jk_model.specs.declared.identifiers.MemberId.{MemberId}
use Rattle.jk_model.specs.Descriptors.{IsMethodText}
use Rattle.jk_model.specs.Flags.{has, PUBLIC, STATIC}
use Rattle.jk_model_classes.specs.declared.records.LinkedCode.{LinkedCode}
use Rattle.jk_model_classes.specs.declared.records.MethodRecord.{MethodRecord}
use Rattle.jk_model_classes.specs.Classes.{method_walk}
use Rattle.jk_model_classes.specs.Lookups.{FindsMethod, IsFirstOn, IsMethodOf, MethodIs}
use Rattle.jk_model_typing.specs.declared.frames.FrameType.{FrameType}
use Rattle.jk_model_typing.specs.declared.frames.VType.{VType}
use Rattle.jk_model_typing.specs.declared.frames.VType.TheVariants.{Long}
use Rattle.jk_model_typing.specs.FrameTypes.{value_of}
use Rattle.jk_model_typing.specs.Scopes.{CodeScope, IsScopeOf, own_receiver, parameter_values}
use Rattle.jk_model_typing.specs.Typing.{IsStart, as_locals}
use Rattle.jk_model_machine_state.specs.Machines.{Machine}
use Rattle.jk_model_runs.specs.Starts.{IsMain}
use Rattle.descriptors.proofs.NoTextBeginsAnother.{one_method}
use Rattle.class_lemmas.proofs.OneRecord.{one_method as one-method}
use Rattle.class_lemmas.proofs.OneMember.{one_on}
use Rattle.typing_lemmas.proofs.OneScope.{one-scope}
use Rattle.machine_laws.specs.SoundMachines.{HasSoundClasses, tables_of}
use Rattle.machine_laws.proofs.LinkedAgain.{older}
use Rattle.machine_laws.proofs.MachinesOfRuns.{each_table}
use Rattle.kernel_openings.specs.FirstFrames.{HasNoMain}
use Rattle.kernel_openings.proofs.DescriptorOfMain.{main-text, type_of_main}

-- ---- The scope of a `main`.

module _ (m : Machine) (class : ClassId) (main : MemberId) (code : LinkedCode) (is : IsMain m class main code) where
  abbrev main-code : CodeScope
  main-code = record { classes = m.classes; self = main.class; links = is.is_method.0.links; method = is.method; code = code }

  main-scope : IsScopeOf m.classes main main-code
  main-scope = record {
    all = refl;
    self = refl;
    class = is.is_method.0;
    class_is = is.is_method.1;
    links = refl;
    method = is.is_method.2;
    body = is.body;
  }

-- ---- What is found by name and type.

module _ (m : Machine) (class : ClassId) (kind : MethodType) (text : IsMethodText (codes "([Ljava/lang/String;)V") kind) where
  abbrev SuitsMain : MemberId → Type 0
  SuitsMain = IsMethodOf m.classes (codes "main") kind

  main-first : (main : MemberId) (code : LinkedCode) → IsMain m class main code → IsFirstOn SuitsMain (method_walk m.classes class) main
  main-first main code is =
      let same : is.type ≡ kind = one_method (codes "([Ljava/lang/String;)V") is.type kind is.text text in
      subst (λ (k : MethodType). IsFirstOn (IsMethodOf m.classes (codes "main") k) (method_walk m.classes class) main) same is.found

  -- nothing is found
  pub none-found : FindsMethod m.classes class (codes "main") kind None → HasNoMain m class
  none-found none main code is =
      let first = main-first main code is in
      none main.class (Contains-at (method_walk m.classes class) first.place main.class first.visited) (main.index, first.member.suits)

  module _ (found : MemberId) (finds : FindsMethod m.classes class (codes "main") kind (Some found)) where
    main-found : (main : MemberId) (code : LinkedCode) → IsMain m class main code → main ≡ found
    main-found main code is = one_on SuitsMain (method_walk m.classes class) main found (main-first main code is) finds

    -- what is found has no code
    pub no-code : ((s : CodeScope) → IsScopeOf m.classes found s → ⊥) → HasNoMain m class
    no-code none main code is =
        none (main-code m class main code is)
        (subst (λ (x : MemberId). IsScopeOf m.classes x (main-code m class main code is)) (main-found main code is) (main-scope m class main code is))

    module _ (s : CodeScope) (scope : IsScopeOf m.classes found s) where
      abbrev pub IsOpen : Type 0
      IsOpen = IsTrue (has s.method.flags PUBLIC && has s.method.flags STATIC)

      -- what is found isn't public and static
      pub not-open : (IsOpen → ⊥) → HasNoMain m class
      not-open closed main code is =
          let there : MethodIs m.classes found is.method = subst (λ (x : MemberId). MethodIs m.classes x is.method) (main-found main code is) is.is_method in
          let same : is.method ≡ s.method = one-method m.classes found is.method s.method there (scope.class, scope.class_is, scope.method) in
          closed (subst (λ (x : MethodRecord). IsTrue (has x.flags PUBLIC && has x.flags STATIC)) same is.flags)

      pub is-main : IsOpen → IsMain m class found s.code
      is-main passes = record {
        type = kind;
        text = text;
        found = finds;
        method = s.method;
        is_method = (scope.class, scope.class_is, scope.method);
        flags = passes;
        body = scope.body;
      }

-- ---- Room for its argument.

one-local : (t : VType) → 1 ≤ length (as_locals t)
one-local Long = omega arith
one-local t = omega arith

some-locals : (ts : List VType) → length ts ≡ 1 → 1 ≤ length (flat_map as_locals ts)
some-locals [] one = absurd (omega (arith, one))
some-locals (t ∷ ts) one = omega (arith, one-local t, length-append (as_locals t) (flat_map as_locals ts))

module _ (m : Machine) (sound : HasSoundClasses m) (class : ClassId) (main : MemberId) (code : LinkedCode) (is : IsMain m class main code) where
  abbrev here : CodeScope
  here = main-code m class main code is

  one-param : length is.method.params ≡ 1
  one-param =
      let suits : IsMethodOf m.classes (codes "main") is.type main = is.found.member.suits in
      let one : suits.0 ≡ is.method = one-method m.classes main suits.0 is.method suits.1 is.is_method in
      let kind : is.method.kind ≡ is.type = ap (λ (x : MethodRecord). x.kind) (sym one) ∙ suits.3 in
      let typed : is.type ≡ type_of_main = one_method (codes "([Ljava/lang/String;)V") is.type type_of_main is.text main-text in
      let described = (older m.classes (tables_of m) (record { codes = sound.codes; each = each_table m sound })
      sound.linked).described main is.method is.is_method in
      described.1.as_many ∙ ap (λ (k : MethodType). length k.params) (kind ∙ typed)

  room-by : (start : FrameType) → IsStart here start → 1 ≤ code.max_locals
  room-by start is_start =
      let values = parameter_values here is.method in
      let many : length values ≡ 1 = length-map is.method.params (value_of m.classes) ∙ one-param in
      let given : length is_start.given ≡ length (own_receiver here ++ flat_map as_locals values) = ap length is_start.given_is in
      omega (arith, some-locals values many, given, length-append (own_receiver here) (flat_map as_locals values), is_start.room)

  pub main-room : 1 ≤ code.max_locals
  main-room =
      let typed = sound.codes.typed main here (main-scope m class main code is) in
      let typing = typed.1.typing in
      let one : typing.scope ≡ here = one-scope m.classes main typing.scope here typing.scope_is (main-scope m class main code is) in
      room-by typing.start (subst (λ (x : CodeScope). IsStart x typing.start) one typing.start_is)
