-- The interfaces of a class's walk that implement jk/Remote, in the order of their numbers, make its stub.
use Rattle.std.proofs.Common.{◌≡◌, ℕ, List, refl, sym, ap, subst, ◌∙◌}
use Rattle.std.proofs.lemmas.List.Sorted.{Contains-permutation, IsPermutation-sym}
use Rattle.std.proofs.lemmas.Option.{same_Some}
use Rattle.class_table.proofs.FirstsByInsertion.{Contains-firsts, Contains-firsts_from}
use Rattle.jk_model.specs.declared.identifiers.ClassId.{ClassId}
use Rattle.jk_model_classes.specs.declared.records.ClassRecord.{ClassRecord}
use Rattle.jk_model_classes.specs.Classes.{Implements, firsts, field_walk}
use Rattle.jk_model_classes.specs.Stubs.{ImplementsRemote, IsRemote, IsStub}
use Rattle.stub_maker.specs.Kept.{IsInOrder, IsShown}
use Rattle.stub_maker.proofs.EachOnce.{once-moved, once-firsts, numbers-rise}
use Rattle.stub_maker.proofs.KeptOfAWalk.{kept-from, kept-all, kept-once}

-- the system has one class of that name
pub one-remote : (c d : ClassId) → IsRemote c → IsRemote d → c ≡ d
one-remote c d e f = ap (λ (n : ℕ). let x : ClassId = record { 0 = n } in x) (same_Some c.0 d.0 (sym e ∙ f))

module _ (classes : List ClassRecord) (remote : ClassId) (is : IsRemote remote) where
  -- a class implements jk/Remote where it implements this class
  pub implements-this : (c : ClassId) → ImplementsRemote classes c → Implements classes c remote
  implements-this c (other, also, h) = subst (Implements classes c) (one-remote other remote also is) h

  pub is-stub : (c : ClassId) (list : List ClassId) → Implements classes c remote
      → IsInOrder (IsShown classes remote) (firsts (field_walk classes c)) list → IsStub classes c (record { class = c; interfaces = list })
  is-stub c list implements h =
      let walk = firsts (field_walk classes c) in
      let shows = IsShown classes remote in
      record {
        class = refl;
        remote = (remote, is, implements);
        listed = λ i there.
            let so = kept-from shows walk h.kept i h.of_classes (Contains-permutation list h.kept i (IsPermutation-sym h.kept list h.moved) there) in
            ((so.0.0, Contains-firsts_from (field_walk classes c) i so.1), (remote, is, so.0.1));
        all = λ i (above, below).
            Contains-permutation h.kept list i h.moved
            (kept-all shows walk h.kept i h.of_classes (above.0, implements-this i below) (Contains-firsts (field_walk classes c) i above.1));
        rising = numbers-rise list
            (once-moved h.kept list h.moved (kept-once shows walk h.kept h.of_classes (once-firsts (field_walk classes c))))
            h.in_order;
      }
