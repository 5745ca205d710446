-- Two names have the same package where their beginnings up to the last `/` are the same.
use Rattle.std.proofs.lemmas.Bool.Decides.{Decides-eqb}
use Rattle.std.proofs.lemmas.Slice.Eq.{slice_eq-Decides}
use Rattle.member_lookup.proofs.OnePackage.{one-package}
use Rattle.member_lookup.proofs.packages.have_one_package.Goals as goal

pub returns : goal.returns
returns c =
    one-package _ _ _ _ (rw c.as_slice.ensures at c.package_of.ensures) (rw c.as_slice-2.ensures at c.package_of-2.ensures) _
    (slice_eq-Decides Decides-eqb _ _ _ c.eq.ensures)
