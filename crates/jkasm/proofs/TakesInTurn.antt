-- A pool takes constants one after the other, and where some have no room all have none.
use Rattle.std.proofs.Common.{◌≡◌, List, [], ◌++◌, sym, ◌∙◌, ap, subst, append_assoc}
use Rattle.std.proofs.lemmas.List.{append-nil}
use Rattle.jk_model.specs.declared.class_file.PoolEntry.{PoolEntry}
use Rattle.jk_model_classes.specs.Items.{HasItem}
use Rattle.jk_model.proofs.EachItem.{all_front}
use Rattle.jkasm.specs.Constants.{PoolConstant, HasJust}
use Rattle.jkasm.specs.Limits.{FitPool}
use Rattle.jkasm.specs.PoolGrowth.{Extends, Takes, HasNoRoom}

pub extends_same : (pool : List PoolEntry) → Extends pool pool
extends_same pool = ([], sym (append-nil pool))

pub extends_trans : (a b d : List PoolEntry) → Extends a b → Extends b d → Extends a d
extends_trans a b d (more, e) (others, f) = (more ++ others, f ∙ (ap (λ (x : List PoolEntry). x ++ others) e ∙ append_assoc a more others))

pub takes_none : (pool : List PoolEntry) → Takes pool pool []
takes_none pool = record {
  extends = extends_same pool;
  just = λ before h. subst (HasJust pool) (sym (append-nil before)) h;
}

pub takes_trans : (a b d : List PoolEntry) (cs ds : List PoolConstant) → Takes a b cs → Takes b d ds → Takes a d (cs ++ ds)
takes_trans a b d cs ds t u = record {
  extends = extends_trans a b d t.extends u.extends;
  just = λ before h. subst (HasJust d) (append_assoc before cs ds) (u.just (before ++ cs) (t.just before h));
}

-- constants that come later have no room
pub no_room_after : (a b : List PoolEntry) (cs ds : List PoolConstant) → Takes a b cs → HasNoRoom b ds → HasNoRoom a (cs ++ ds)
no_room_after a b cs ds t none before h fit =
    none (before ++ cs) (t.just before h) (subst FitPool (sym (append_assoc before cs ds)) fit)

-- where some constants fit, the first ones do
pub first_fit : (cs ds : List PoolConstant) → FitPool (cs ++ ds) → FitPool cs
first_fit cs ds (kept, all, few) = (kept, all_front (λ c. HasItem (λ k. k ≡ c) kept) cs ds all, few)

-- constants that come first have no room
pub no_room_more : (pool : List PoolEntry) (cs ds : List PoolConstant) → HasNoRoom pool cs → HasNoRoom pool (cs ++ ds)
no_room_more pool cs ds none before h fit =
    none before h (first_fit (before ++ cs) ds (subst FitPool (sym (append_assoc before cs ds)) fit))
