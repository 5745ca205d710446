-- All ranges are there before a capability is made.
use Rattle.std.proofs.Common.{◌∙◌}
use Rattle.thread_segments.proofs.restoring.restored_caps.Goals as goal

pub admit_all-requires-clause-state : goal.admit_all-requires-clause-state
admit_all-requires-clause-state c =
    let s = c.requires.0 in
    let h = c.requires.1 in
    (s, record { sound = h.restorable.sound; few = h.restorable.few; told = c.as_slice.ensures ∙ h.lists.domains })

pub make_all-requires : goal.make_all-requires
make_all-requires c =
    let s = c.requires.0 in
    let h = c.requires.1 in (
      s,
      record {
        sound = h.restorable.sound;
        told = c.as_slice-2.ensures ∙ h.lists.caps;
        begun =
            c.in_ok-admit_all.ensures s
            (record { sound = h.restorable.sound; few = h.restorable.few; told = c.as_slice.ensures ∙ h.lists.domains });
      },
    )

pub returns : goal.returns
returns c =
    λ s h.
    c.make_all.ensures s
    (record {
      sound = h.restorable.sound;
      told = c.as_slice-2.ensures ∙ h.lists.caps;
      begun =
          c.in_ok-admit_all.ensures s
          (record { sound = h.restorable.sound; few = h.restorable.few; told = c.as_slice.ensures ∙ h.lists.domains });
    })
