-- The marks of three walks together.
use Rattle.std.proofs.Common.{◌≡◌, ◌⊎◌, ◌∙◌, inl, inr, ℕ, List, Bool, false, length, replicate, sym, ap, subst}
use Rattle.std.specs.Vec.{with_items}
use Rattle.jk_model.specs.declared.class_file.MemberInfo.{MemberInfo}
use Rattle.jk_model.specs.declared.class_file.PoolEntry.{PoolEntry}
use Rattle.jk_model.specs.declared.class_file.PoolEntry.TheVariants.{NameAndType}
use Rattle.jk_model_classes.specs.Items.{HasItem}
use Rattle.jk_model_classes.specs.References.{IsDescriptorEntry}
use Rattle.name_rules.specs.Marks.{Marks, MarksOf}
use Rattle.name_rules.proofs.MarksInTurn.{marks_of, marks_then, written}
use Rattle.name_rules.proofs.known_names.descriptor_marks.Goals as goal

abbrev Members : List MemberInfo → ℕ → Type 0
Members members i = HasItem (λ (m : MemberInfo). m.descriptor ≡ i) members

abbrev Pairs : List PoolEntry → ℕ → Type 0
Pairs pool i = HasItem (λ (e : PoolEntry). (name : ℕ) × (e ≡ NameAndType name i)) pool

pub returns : goal.returns
returns c =
    let file = c.args.c.now in
    let bare = c.in_ok-marks.marks in
    let first = c.mark_members.new.marks in
    let second = c.mark_members-2.new.marks in
    let third = c.mark_pairs.new.marks in
    let after_first = written bare c.deref_mut.result.now first c.deref_mut.ensures.value c.mark_members.ensures.as_many in
    let after_second =
    written (with_items bare first) c.deref_mut-2.result.now second c.deref_mut-2.ensures.value c.mark_members-2.ensures.as_many in
    let after_third =
    written (with_items (with_items bare first) second) c.deref_mut-3.result.now third c.deref_mut-3.ensures.value c.mark_pairs.ensures.as_many in
    let one : Marks (Members file.fields) bare.items first =
    subst (λ (items : List MemberInfo). Marks (Members items) bare.items first) c.as_slice.ensures
    (subst (λ (m : List Bool). Marks (Members c.as_slice.result.now) m first) c.deref_mut.ensures.value c.mark_members.ensures) in
    let two : Marks (Members file.methods) first second =
    subst (λ (items : List MemberInfo). Marks (Members items) first second) c.as_slice-2.ensures
    (subst (λ (m : List Bool). Marks (Members c.as_slice-2.result.now) m second) (c.deref_mut-2.ensures.value ∙ after_first) c.mark_members-2.ensures) in
    let three : Marks (Pairs file.pool) second third =
    subst (λ (items : List PoolEntry). Marks (Pairs items) second third) c.as_slice-3.ensures
    (subst (λ (m : List Bool). Marks (Pairs c.as_slice-3.result.now) m third) (c.deref_mut-3.ensures.value ∙ after_second) c.mark_pairs.ensures) in
    let members : Marks (λ (i : ℕ). Members file.fields i ⊎ Members file.methods i) bare.items second =
    marks_then (Members file.fields) (Members file.methods) (λ (i : ℕ). Members file.fields i ⊎ Members file.methods i) bare.items first second
    (λ i h. inl h) (λ i h. inr h) (λ i h. h) one two in
    let all : Marks (IsDescriptorEntry file) bare.items third =
    marks_then (λ (i : ℕ). Members file.fields i ⊎ Members file.methods i) (Pairs file.pool) (IsDescriptorEntry file) bare.items second third
    (λ i h. elim h [ inl field ↦ inl field | inr method ↦ inr (inl method) ]) (λ i h. inr (inr h))
    (λ i h. elim h [ inl field ↦ inl (inl field) | inr (inl method) ↦ inl (inr method) | inr (inr pair) ↦ inr pair ]) members three in
    let items : bare.items ≡ replicate (length file.pool) false =
    c.in_ok-marks.ensures.items_if_clones_equal (λ y e. e) ∙ ap (λ (n : ℕ). replicate n false) c.len.ensures in
    subst (λ (m : List Bool). MarksOf (length file.pool) (IsDescriptorEntry file) m) (sym after_third)
    (marks_of (length file.pool) (IsDescriptorEntry file) bare.items third items all)
