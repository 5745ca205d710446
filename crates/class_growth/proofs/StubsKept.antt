-- The stub of a class that was there stays its stub with more classes behind, and a method of it keeps its target.
use Rattle.std.proofs.Common.{List, ◌++◌, Option, Some, None, sym, subst, inl, inr}
use Rattle.std.proofs.lemmas.Option.{same_Some}
use Rattle.jk_model.specs.declared.identifiers.ClassId.{ClassId}
use Rattle.jk_model.specs.declared.identifiers.MemberId.{MemberId}
use Rattle.jk_model_classes.specs.declared.records.ClassRecord.{ClassRecord}
use Rattle.jk_model_classes.specs.declared.sharing.Stub.{Stub}
use Rattle.jk_model_classes.specs.Classes.{HasClass, AreOrdered, Implements}
use Rattle.jk_model_classes.specs.Lookups.{Selects}
use Rattle.jk_model_classes.specs.Stubs.{ImplementsRemote, IsRemoteInterfaceOf, IsStub, IsUnlessSystem, IsTarget}
use Rattle.class_growth.proofs.MoreClasses.{has_class-by_record, method-still, method-before, implements-still, implements-before, selects-still}

-- an interface that a class implements is there
interface_there : (classes : List ClassRecord) (c i : ClassId) → Implements classes c i → HasClass classes i
interface_there classes c i ((r, is, flag), on) = has_class-by_record classes i r is

-- the method that a call runs is one of a class that is there
selected_there : (classes : List ClassRecord) (c : ClassId) (m selected : MemberId) → Selects classes c m (Some selected)
    → HasClass classes selected.class
selected_there classes c m selected (None, on, unless) = absurd cc
selected_there classes c m selected (Some found, on, inl (abstract, none)) = absurd cc
selected_there classes c m selected (Some found, on, inr (concrete, some)) =
    let method = on.member.suits.other_is in
    subst (λ (n : MemberId). HasClass classes n.class) (sym (same_Some selected found some))
    (has_class-by_record classes found.class method.0 method.1)

module _ (classes more : List ClassRecord) (ordered : AreOrdered classes) where
  remote-still : (c : ClassId) → HasClass classes c → ImplementsRemote classes c → ImplementsRemote (classes ++ more) c
  remote-still c there (remote, is, above) = (remote, is, implements-still classes more ordered c there remote above)

  remote-before : (c : ClassId) → HasClass classes c → ImplementsRemote (classes ++ more) c → ImplementsRemote classes c
  remote-before c there (remote, is, above) = (remote, is, implements-before classes more ordered c there remote above)

  module _ (c : ClassId) (there : HasClass classes c) where
    remote_interface-still : (i : ClassId) → IsRemoteInterfaceOf classes c i → IsRemoteInterfaceOf (classes ++ more) c i
    remote_interface-still i (above, remote) =
        (implements-still classes more ordered c there i above, remote-still i (interface_there classes c i above) remote)

    remote_interface-before : (i : ClassId) → IsRemoteInterfaceOf (classes ++ more) c i → IsRemoteInterfaceOf classes c i
    remote_interface-before i (above, remote) =
        let before : Implements classes c i = implements-before classes more ordered c there i above in
        (before, remote-before i (interface_there classes c i before) remote)

    pub stub-still : (stub : Stub) → IsStub classes c stub → IsStub (classes ++ more) c stub
    stub-still stub is =
        record {
          class = is.class;
          remote = remote-still c there is.remote;
          listed = λ i on. remote_interface-still i (is.listed i on);
          all = λ i interface. is.all i (remote_interface-before i interface);
          rising = is.rising;
        }

    unless_system-still : (m : MemberId) (selected target : Option MemberId) → Selects classes c m selected → IsUnlessSystem classes selected target
        → IsUnlessSystem (classes ++ more) selected target
    unless_system-still m None target selects h = h
    unless_system-still m (Some selected) target selects (inl ((method, is, number, system), none)) =
        inl ((method, method-still classes more selected method is, number, system), none)
    unless_system-still m (Some selected) target selects (inr (other, some)) = inr (
      (λ (method, is, number, system).
          other (method, method-before classes more selected method (selected_there classes c m selected selects) is, number, system)),
      some,
    )

    pub target-still : (stub : Stub) → IsStub classes c stub → (m : MemberId) (target : Option MemberId) → IsTarget classes stub m target
        → IsTarget (classes ++ more) stub m target
    target-still stub is m target (inl (listed, (selected, selects, unless))) =
        let here : Selects classes c m selected = subst (λ (d : ClassId). Selects classes d m selected) is.class selects in
        let low : HasClass classes m.class = interface_there classes c m.class (is.listed m.class listed).0 in
        let still : Selects (classes ++ more) c m selected = selects-still classes more ordered c there m low selected here in
        inl (
          listed,
          (
            selected,
            subst (λ (d : ClassId). Selects (classes ++ more) d m selected) (sym is.class) still,
            unless_system-still m selected target here unless,
          ),
        )
    target-still stub is m target (inr other) = inr other
