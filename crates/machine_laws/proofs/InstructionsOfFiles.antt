-- An instruction of a new method's code stands in its file, but for where it leads. So no rule on instructions is broken there.
use Rattle.std.proofs.Common.{◌≡◌, ℕ, ◌+◌, ◌⊎◌, inl, inr, IsTrue, List, length, Some, slice_get, Contains, refl, sym, subst, ◌∙◌, arith}
use Rattle.std.proofs.lemmas.Bool.{cases_Bool}
use Rattle.std.proofs.lemmas.Option.{slice_get_within}
use Rattle.std.specs.Prelude.{◌||◌, not}
use Rattle.list_lemmas.proofs.ItemsByPlace.{item_there}
use Rattle.list_lemmas.proofs.ItemsOfLists.{place_of, Contains-at}
use Rattle.list_lemmas.proofs.TestsAndOrders.{both_true}
use Rattle.jk_model.specs.Flags.{has, ABSTRACT, NATIVE}
use Rattle.jk_model.specs.declared.identifiers.ClassId.{ClassId}
use Rattle.jk_model.specs.declared.identifiers.MemberId.{MemberId}
use Rattle.jk_model.specs.declared.instructions.Instr.{Instr}
use Rattle.jk_model.specs.declared.output.Rule.TheVariants.{C20, C21}
use Rattle.jk_model_classes.specs.Items.{Member}
use Rattle.jk_model_classes.specs.LinkRules.{LinkScope, FindsWrongField, FindsWrongMethod, PutsFinal, MakesWhatItMayNot}
use Rattle.jk_model_classes.specs.MemberCode.{HasBadEntry, CallsInit, HasCode, HasInstr, is_jump, is_switch}
use Rattle.jk_model_classes.specs.Worlds.{NamedClass, WorldRecord}
use Rattle.jk_model_classes.specs.declared.records.LinkedCode.{LinkedCode}
use Rattle.jk_model_classes.specs.declared.records.MethodRecord.{MethodRecord}
use Rattle.jk_model_classes.specs.declared.sharing.Offer.{Offer}
use Rattle.jk_model_classes.specs.declared.sharing.Stub.{Stub}
use Rattle.class_lemmas.proofs.CodeOfMethods.{same_code, absent_has_none}
use Rattle.jk_model_folders.specs.FolderRules.{link_scope, placed_rules}
use Rattle.jk_model_folders.specs.Loads.{Loads}
use Rattle.jk_model_folders.specs.declared.files.FolderFiles.{FolderFiles}
use Rattle.machine_laws.proofs.NewMembers.{IsNewMethod, never_native, good_code}
use Rattle.jk_model_classes.specs.declared.records.Body.TheVariants as Does

module _ {f : FolderFiles} {w : WorldRecord} {into : List ℕ} {first : ClassId} {table : List NamedClass} {offers : List Offer} {stubs : List Stub}
    {new : WorldRecord} (l : Loads f w into first table offers stubs new) (m : MemberId) (method : MethodRecord)
    (n : IsNewMethod l m method) where
  abbrev pub own_class : ClassId
  own_class = record { 0 = length w.classes + n.of.k }

  abbrev pub own_scope : LinkScope
  own_scope = link_scope l.placed own_class

  abbrev number : ℕ
  number = length n.of.own.file.fields + m.index + 1

  own_flags : IsTrue (not (has method.flags NATIVE))
  own_flags = elim (cases_Bool (has method.flags NATIVE)) [
    | inl native ↦ absurd (never_native l n.of.own.place n.of.own.file n.of.own.listed (Member number)
        (n.info, method.flags, (m.index, refl, n.listed), n.is.flags, native))
    | inr fails ↦ rw fails refl
  ]

  module _ (code : LinkedCode) (body : method.body ≡ Does.Linked code) (i : Instr) (on : Contains code.instrs i)
      (simple : IsTrue (not (is_jump i.op || is_switch i.op))) where
    in_file : (P : Instr → Type 0) → ((x : Instr) → x.op ≡ i.op → x.a ≡ i.a → P x) → HasCode (HasInstr P) n.of.own.file number
    in_file P so = elim n.is.body [
      | inl (abstract, absent) ↦ absurd (absent_has_none code (sym absent ∙ body))
      | inr (concrete, (a, of, made, there, called, layout, is, is_made)) ↦
          let same : made ≡ code = same_code made code (sym is_made ∙ body) in
          let place = place_of code.instrs i on in
          let here : slice_get made.instrs place.0 ≡ Some i = subst (λ (x : LinkedCode). slice_get x.instrs place.0 ≡ Some i) (sym same) place.1 in
          let decoded = item_there is.decoded place.0 (omega (arith, slice_get_within made.instrs place.0 i here, is.instrs.as_many)) in
          let instr = is.instrs.each place.0 decoded.0 i decoded.1 here in
          let stays : IsTrue (not (is_jump decoded.0.op || is_switch decoded.0.op)) =
          subst (λ (o : ℕ). IsTrue (not (is_jump o || is_switch o))) instr.op simple in
          let listed = place_of n.info.attributes a there in (
            of,
            record {
              method = n.info;
              at = (m.index, refl, n.listed);
              flags = method.flags;
              counted = n.is.flags;
              concrete = both_true (not (has method.flags ABSTRACT)) (not (has method.flags NATIVE)) concrete own_flags;
              body = (listed.0, a, listed.1, (called, layout));
            },
            (is.decoded, is.decodes, (place.0, decoded.0, decoded.1, so decoded.0 (sym instr.op) (sym (instr.names stays)))),
          )
    ]

    pub links_well : ((x : Instr) → x.op ≡ i.op → x.a ≡ i.a → FindsWrongField own_scope n.of.own.file x ⊎ FindsWrongMethod own_scope n.of.own.file x) → ⊥
    links_well so =
        l.none_placed C20 n.of.own.place (Member number) (Contains-at placed_rules 0 C20 refl) (
          n.of.own.file,
          own_class,
          n.of.own.listed,
          (n.of.k, n.of.own.ordered, refl),
          in_file (λ (x : Instr). FindsWrongField own_scope n.of.own.file x ⊎ FindsWrongMethod own_scope n.of.own.file x) so,
        )

    pub accesses_well : ((x : Instr) → x.op ≡ i.op → x.a ≡ i.a → PutsFinal own_scope n.of.own.file x ⊎ MakesWhatItMayNot own_scope n.of.own.file x) → ⊥
    accesses_well so =
        l.none_placed C21 n.of.own.place (Member number) (Contains-at placed_rules 1 C21 refl) (
          n.of.own.file,
          own_class,
          n.of.own.listed,
          (n.of.k, n.of.own.ordered, refl),
          in_file (λ (x : Instr). PutsFinal own_scope n.of.own.file x ⊎ MakesWhatItMayNot own_scope n.of.own.file x) so,
        )

    pub names_entries_well : ((x : Instr) → x.op ≡ i.op → x.a ≡ i.a → HasBadEntry n.of.own.file.pool x ⊎ CallsInit n.of.own.file.pool x) → ⊥
    names_entries_well so =
        let (code_there, at, (instrs, decodes, (k, x, at_k, bad))) =
        in_file (λ (x : Instr). HasBadEntry n.of.own.file.pool x ⊎ CallsInit n.of.own.file.pool x) so in
        good_code l n.of.own.place n.of.own.file n.of.own.listed (Member number) (
          code_there,
          at,
          elim bad [
            | inl entry ↦ inr (inl (instrs, decodes, (k, x, at_k, inr (inl entry))))
            | inr init ↦ inr (inl (instrs, decodes, (k, x, at_k, inr (inr (inr (inr init))))))
          ],
        )
