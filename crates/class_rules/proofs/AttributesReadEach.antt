-- The rule C9 reads the class, one field or one method at a time.
use Rattle.std.proofs.Common.{◌≡◌, ℕ, ◌↔◌, Bool, IsTrue, List, Option, subst}
use Rattle.jk_model.specs.declared.class_file.ClassFile.{ClassFile}
use Rattle.jk_model.specs.declared.class_file.MemberInfo.{MemberInfo}
use Rattle.jk_model.specs.declared.class_file.PoolEntry.{PoolEntry}
use Rattle.jk_model.specs.declared.class_file.Attribute.{Attribute}
use Rattle.jk_model_classes.specs.Items.{Spot, Member, Entry}
use Rattle.jk_model_classes.specs.MemberAttributes.{HasBadAttribute, HasUnnamed}
use Rattle.class_rules.specs.Attributes.{HasBadFieldAttributes, HasBadMethodAttributes}
use Rattle.class_rules.specs.Walks.{BreaksAt, ReadsEach, IsLeastItem}

module _ (c : ClassFile) where
  abbrev AttributesAt : Spot → Type 0
  AttributesAt spot = BreaksAt c (HasUnnamed c.pool c.attributes) (HasBadFieldAttributes c.pool) (HasBadMethodAttributes c) (λ entry. ⊥) spot

  attributes_broken : (spot : Spot) → AttributesAt spot → HasBadAttribute c spot
  attributes_broken (Member n) h = h
  attributes_broken (Entry i) h = h.2

  attributes_only : (spot : Spot) → HasBadAttribute c spot → AttributesAt spot
  attributes_only (Member n) h = h
  attributes_only (Entry i) h = absurd h

  pub attributes_read_each : ReadsEach c (HasUnnamed c.pool c.attributes) (HasBadFieldAttributes c.pool) (HasBadMethodAttributes c) (λ entry. ⊥)
      (HasBadAttribute c)
  attributes_read_each = record { broken = attributes_broken; only = attributes_only }

-- ---- A class's own lists.

pub own_attributes : (b : Bool) (pool own : List PoolEntry) (attributes listed : List Attribute) → pool ≡ own → attributes ≡ listed
    → IsTrue b ↔ HasUnnamed pool attributes → IsTrue b ↔ HasUnnamed own listed
own_attributes b pool own attributes listed e f h =
    subst (λ (xs : List Attribute). IsTrue b ↔ HasUnnamed own xs) f
    (subst (λ (p : List PoolEntry). IsTrue b ↔ HasUnnamed p attributes) e h)

pub own_fields : (pool own : List PoolEntry) (fields listed : List MemberInfo) (r : Option ℕ) → pool ≡ own → fields ≡ listed
    → IsLeastItem (HasBadFieldAttributes pool) fields r → IsLeastItem (HasBadFieldAttributes own) listed r
own_fields pool own fields listed r e f h =
    subst (λ (xs : List MemberInfo). IsLeastItem (HasBadFieldAttributes own) xs r) f
    (subst (λ (p : List PoolEntry). IsLeastItem (HasBadFieldAttributes p) fields r) e h)

pub own_methods : (c : ClassFile) (methods : List MemberInfo) (r : Option ℕ) → methods ≡ c.methods
    → IsLeastItem (HasBadMethodAttributes c) methods r → IsLeastItem (HasBadMethodAttributes c) c.methods r
own_methods c methods r e h = subst (λ (xs : List MemberInfo). IsLeastItem (HasBadMethodAttributes c) xs r) e h
