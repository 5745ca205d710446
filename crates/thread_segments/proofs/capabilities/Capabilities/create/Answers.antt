-- The owner's range alone is changed, and the class stands at the new number.
use Rattle.std.proofs.Common.{◌≡◌, ◌-◌, List, Err, IsSome, Ok, Some, arith, find, set, subst, sym}
use Rattle.jk_model.specs.Capabilities.{Range}
use Rattle.jk_model.specs.declared.steps.Raise.TheVariants.{Standing}
use Rattle.jk_model.specs.declared.steps.Standing.TheVariants as Stands
use Rattle.jk_model_heaps.specs.Capabilities.{CapRange}
use Rattle.thread_segments.specs.ClassedRanges.{AreClassed, CreatesIn, ranges_with}
use Rattle.thread_segments.proofs.CreatedInRange.{classed_created, creates_in, creates_none, has_range, made_of, number_within, owned_cap}
use Rattle.thread_segments.proofs.capabilities.Capabilities.create.Goals as goal

pub create-requires : goal.create-requires
create-requires c =
    let s = c.self.inside in
    let P : List CapRange → Type 0 = λ rs. IsSome (find (owned_cap c.args.owner) rs) in
    has_range s.classes.items c.args.owner s.table (subst P (sym c.self.view_is) c.requires)

pub overflow_sub-k : goal.overflow_sub-k
overflow_sub-k c =
    let s = c.self.inside in
    (number_within s.classes.items s.table c.args.owner c.in-Some.k c.self.invariant
    (made_of s.table c.args.owner c.in-Some.k c.in-Some.ensures.number)).0

pub index_mut-requires : goal.index_mut-requires
index_mut-requires c =
    let s = c.self.inside in
    let w =
    number_within s.classes.items s.table c.args.owner c.in-Some.k c.self.invariant (made_of s.table c.args.owner c.in-Some.k c.in-Some.ensures.number) in
    omega (arith, w.0, w.1, s.classes.ok.0)

pub invariant_of-self : goal.invariant_of-self
invariant_of-self c =
    let s = c.self.inside in
    let m = made_of s.table c.args.owner c.in-Some.k c.in-Some.ensures.number in
    let P : List Range → Type 0 = λ rs. AreClassed (set s.classes.items (c.in-Some.k.0 - 1) c.args.class) rs in
    subst P (sym c.in-Some.ensures.table)
    (classed_created c.args.owner c.args.target s.classes.items (c.in-Some.k.0 - 1) c.args.class s.table m.range c.self.invariant m.is_range m.room)

pub returns-in-Some : goal.returns-in-Some
returns-in-Some c =
    λ r at.
    let s = c.self.inside in
    let m = made_of s.table c.args.owner c.in-Some.k c.in-Some.ensures.number in
    let P : List CapRange → Type 0 = λ rs. find (owned_cap c.args.owner) rs ≡ Some r in
    let Q : List Range → Type 0 =
    λ rs. CreatesIn (ranges_with s.classes.items s.table) c.args.class c.args.target r (Ok c.in-Some.k)
    (ranges_with (set s.classes.items (c.in-Some.k.0 - 1) c.args.class) rs) in
    let R : List CapRange → Type 0 =
    λ rs. CreatesIn rs c.args.class c.args.target r (Ok c.in-Some.k)
    (ranges_with (set s.classes.items (c.in-Some.k.0 - 1) c.args.class) c.create.new.self) in
    subst R c.self.view_is
    (subst Q (sym c.in-Some.ensures.table)
    (creates_in s.classes.items s.table c.args.owner c.args.class c.args.target c.in-Some.k r c.self.invariant m (subst P (sym c.self.view_is) at)))

pub returns-in-None : goal.returns-in-None
returns-in-None c =
    λ r at.
    let s = c.self.inside in
    let P : List CapRange → Type 0 = λ rs. find (owned_cap c.args.owner) rs ≡ Some r in
    let Q : List Range → Type 0 =
    λ rs. CreatesIn (ranges_with s.classes.items s.table) c.args.class c.args.target r (Err (Standing Stands.Quota)) (ranges_with s.classes.items rs) in
    let R : List CapRange → Type 0 =
    λ rs. CreatesIn rs c.args.class c.args.target r (Err (Standing Stands.Quota)) (ranges_with s.classes.items c.create.new.self) in
    subst R c.self.view_is
    (subst Q (sym c.in-None.ensures.table)
    (creates_none s.classes.items s.table c.args.owner c.args.class c.args.target r c.in-None.ensures.number (subst P (sym c.self.view_is) at)))
