-- The capability shows Echo, for which Server has a public method with code; the copy of the text has another name in the same heap.
use Rattle.std.proofs.Common.{List, [], ◌∷◌, ◌++◌, Some, refl, inl, inr, sym, ap, ◌∙◌, true≢false, arith}
use Rattle.std.specs.Prelude.{◌+◌}
use Rattle.jk_model.specs.Flags.{ABSTRACT, PUBLIC, has}
use Rattle.jk_model.specs.declared.values.Value.TheVariants as Held
use Rattle.jk_model_classes.specs.declared.records.Body.TheVariants as Does
use Rattle.jk_model_classes.specs.declared.records.MethodRecord.{MethodRecord}
use Rattle.jk_model_classes.specs.Classes.{Implements}
use Rattle.jk_model_classes.specs.Lookups.{IsAbstract, Selects}
use Rattle.jk_model_classes.specs.Stubs.{ImplementsRemote}
use Rattle.jk_model_domains.specs.Objects.{NamedObject, Object, Plain, Text, object_words}
use Rattle.jk_model_frames.specs.Frames.{called_frame}
use Rattle.jk_model_graphs.proofs.OneObjectCopied.{one_copy, one_costs, one_may_be_copied}
use Rattle.jk_model_heaps.specs.CalledFrames.{call_head}
use Rattle.jk_model_heaps.specs.Heaps.{free_words, named}
use Rattle.jk_model_heaps.specs.SystemClasses.{REMOTE}
use Rattle.jk_model_sharing.specs.Examples.{ann, segment}
use Rattle.jk_model_machine_state.specs.Machines.{free_chunks}
use Rattle.jk_model_machine_state.specs.Places.{RunningSegment}
use Rattle.jk_model_crossings.specs.Examples.{ECHO, SERVER, ann_serving, calling, calls_itself, classes, echo, echo_code, echo_of, echo_with, inside_with, one, opening_heap, server, server_of_ann, text, with_frames}
use Rattle.jk_model_crossings.specs.RemoteCalls.{HasTarget, IsLive, IsOpen, IsShown, RemoteCall, chunks_needed}
use Rattle.jk_model_crossings.proofs.ExampleSegments.{fits_by, placed}
use Rattle.class_lemmas.proofs.OneRecord.{one_method}
use Rattle.jk_model_crossings.proofs.examples.a_domain_calls_itself.Goals as goal

-- ---- The call.

abbrev own_objects : List NamedObject
own_objects = named 9 (Plain SERVER []) ∷ text 10 1 ∷ []

abbrev place : RunningSegment calls_itself one
place = placed calls_itself [] (with_frames (segment 1 ann) (calling (Held.Cap (record { 0 = 1 }) ∷ Held.Obj 10 ∷ []) ∷ [])) (ann_serving [])
    (inside_with own_objects) (record { thread = refl; domain = refl; numbered = refl; inside_is = refl })

abbrev call : RemoteCall calls_itself one
call = record {
  place = place;
  capability = record { 0 = 1 };
  method = echo_of ECHO;
  named = echo_with (PUBLIC + ABSTRACT) Does.Absent;
  is_named = (echo, refl, refl);
  callers = [];
  frame = calling (Held.Cap (record { 0 = 1 }) ∷ Held.Obj 10 ∷ []);
  are_frames = refl;
  below = [];
  given = Held.Obj 10 ∷ [];
  as_many = refl;
  stack = refl;
  known = record { owner = ann; capability = server_of_ann };
  is_known = refl;
}

-- ---- What it needs.

abbrev live : IsLive call
live = record { unrevoked = refl; owner = place.home }

server_implements : Implements classes SERVER ECHO
server_implements = ((echo, refl, refl), (1, omega arith, refl))

echo_is_remote : ImplementsRemote classes ECHO
echo_is_remote = (REMOTE, refl, ((_, refl, refl), (1, omega arith, refl)))

abbrev shown : IsShown call
shown = record { live = live; shown = (server_implements, echo_is_remote) }

abbrev served : MethodRecord
served = echo_with PUBLIC (Does.Linked echo_code)

not_abstract : IsAbstract classes (echo_of SERVER) → ⊥
not_abstract h =
    true≢false (sym h.2 ∙ ap (λ (x : MethodRecord). has x.flags ABSTRACT) (one_method classes (echo_of SERVER) h.0 served h.1 (server, refl, refl)))

selected : Selects classes SERVER (echo_of ECHO) (Some (echo_of SERVER))
selected = (
  Some (echo_of SERVER),
  record {
    member = record {
      suits = record {
        method = echo_with (PUBLIC + ABSTRACT) Does.Absent;
        m_is = (echo, refl, refl);
        other_method = served;
        other_is = (server, refl, refl);
        is_instance = refl;
        suits = inr (refl, refl, inl (echo, refl, refl));
      };
      first = λ i before suits. absurd (omega (arith, before));
    };
    place = 0;
    visited = refl;
    earlier = λ h. absurd (omega (arith, h.2));
  },
  inr (not_abstract, refl),
)

abbrev has_target : HasTarget call
has_target = record {
  is_shown = shown;
  target = echo_of SERVER;
  selected = selected;
  target_method = served;
  is_target = (server, refl, refl);
  code = echo_code;
  body = refl;
}

abbrev opens : IsOpen call
opens = record { has_target = has_target; public = refl }

-- ---- The copy.

abbrev heap : List NamedObject
heap = opening_heap ++ own_objects

abbrev argument : Object
argument = Text (97 ∷ [])

pub returns : goal.returns
returns c = (
  call,
  record {
    is_open = opens;
    chunks = fits_by (chunks_needed has_target) (free_chunks calls_itself (ann_serving [])) 2 6 refl refl (omega arith);
    heap = heap ++ text 11 1 ∷ [];
    values = Held.Obj 11 ∷ [];
    passes = record {
      may = (
        one_may_be_copied classes heap 10 argument refl tt (ann_serving []).table (ann_serving []).table tt,
        (
          object_words classes argument,
          one_costs classes heap 10 argument refl tt,
          fits_by (object_words classes argument) (free_words classes 64 heap) 5 11 refl refl (omega arith),
        ),
      );
      pairs = (10, 11) ∷ [];
      copy = one_copy classes heap 10 argument refl tt heap 11 refl refl;
    };
    frame = called_frame (call_head (echo_of SERVER) echo_code) (Held.Obj 9 ∷ Held.Obj 11 ∷ []);
    begins = (omega arith, refl);
    leads = refl;
  },
)
