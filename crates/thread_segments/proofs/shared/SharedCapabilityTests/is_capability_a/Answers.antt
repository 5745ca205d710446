-- A class that isn't one of each capability must be an interface of the stub.
use Rattle.std.proofs.Common.{◌≡◌, true, false}
use Rattle.thread_segments.proofs.InterfacesShown.{is_a_listed, listed_is_a, rising_stub}
use Rattle.thread_segments.proofs.shared.SharedCapabilityTests.is_capability_a.Goals as goal

pub shows-requires : goal.shows-requires
shows-requires c = λ stub is. rising_stub c.args.t.now c.args.self.now c.args.k stub c.requires.right.stubs is

pub returns-else-is_any_capability : goal.returns-else-is_any_capability
returns-else-is_any_capability c =
    let s = c.args.self.now in
    let stub = c.requires.right.each c.args.k c.requires.given in
    let shown = c.shows.ensures stub.0 stub.1 in (
      λ h. listed_is_a c.args.t.now s c.args.k stub.0 c.requires.right.stubs stub.1 c.args.kind.now c.in-Some.c c.in-Some.ensures (shown.0 h),
      λ h. shown.1
          (is_a_listed c.args.t.now s c.args.k stub.0 c.requires.right.stubs stub.1 c.args.kind.now c.in-Some.c c.in-Some.ensures
          (λ any. let never : false ≡ true = c.if-is_any_capability.ensures.1 any in cc) h),
    )

pub returns-in-None : goal.returns-in-None
returns-in-None c = (λ never. absurd cc, λ h. absurd (c.in-None.ensures h.class h.no_array))
