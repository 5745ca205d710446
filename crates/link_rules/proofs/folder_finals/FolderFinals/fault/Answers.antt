-- The number is right where there is one, and the class is judged by itself where there is none.
use Rattle.std.proofs.Common.{◌≡◌, ℕ, List, Option, Some, subst}
use Rattle.std.specs.Prelude.{slice_get}
use Rattle.link_rules.proofs.folder_finals.FolderFinals.fault.Goals as goal

pub returns-in-Some : goal.returns-in-Some
returns-in-Some c =
    let (place, stands, there) = c.in-Some.ensures in
    rw (← c.self.view_is)
    (c.self.invariant c.args.class place c.in-Some.number stands
    (subst (λ (ns : List (Option (Option ℕ))). slice_get ns place ≡ Some (Some c.in-Some.number)) c.as_slice.ensures.value there))

pub returns-in-None : goal.returns-in-None
returns-in-None c = rw (← c.self.view_is) c.final_fault.ensures
