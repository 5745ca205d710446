-- What a call of a method of the system makes of the stores and of what domains share, what the step function answers, and which line goes
-- out.
use Rattle.std.specs.Prelude.{◌≡◌, ℕ, ◌+◌, List, [], ◌∷◌, ◌++◌, Option, Result, Ok, Err}
use Rattle.jk_model.specs.declared.identifiers.MemberId.{MemberId}
use Rattle.jk_model.specs.declared.output.Line.{Line}
use Rattle.jk_model.specs.declared.output.Line.TheVariants.{Said}
use Rattle.jk_model.specs.declared.steps.After.{After}
use Rattle.jk_model.specs.declared.steps.After.TheVariants as Next
use Rattle.jk_model.specs.declared.steps.Raise.{Raise}
use Rattle.jk_model.specs.declared.values.Value.{Value}
use Rattle.jk_model_heaps.specs.CalledFrames.{as_entries}
use Rattle.jk_model_heaps.specs.Workings.{Request, Setting, Working, Asks, GoesOn, Raises, Says, Terminates}
use Rattle.jk_model_call_rows.specs.CallRows.{CallsSystem}
use Rattle.jk_model_sharing.specs.Answers.{Answers}
use Rattle.jk_model_system_rows.specs.SystemCalls.{DoesSystem}
use Rattle.step_contents.specs.Conditions.{MayDo, working}
use Rattle.step_contents.specs.Contents.{Becomes, Contents, Here, LeftBehind, with_frame}
use Rattle.step_contents.specs.PlacesInCode.{PlaceInCode}
use Rattle.step_contents.specs.Settings.{IsSetting}

-- whether the sink failed, of an answer that says more
abbrev pub printed : {X E : Type 0} → Result X E → Result (Unit {0}) E
printed (Ok answer) = Ok tt
printed (Err e) = Err e

-- where a method is called, and which one
pub record CallSite : Type 0 where
  pub here : Here
  pub at : PlaceInCode
  pub member : MemberId

abbrev pub call_site : Here → PlaceInCode → MemberId → CallSite
call_site here at m = record { here = here; at = at; member = m }

-- The instruction there calls this method of the system: the one that `call_ops::step` answered.
pub record MayCall (c : Contents) (site : CallSite) : Type 0 where
  pub may : MayDo c site.here site.at
  pub calls : (x : Setting) → IsSetting c site.here x
      → (call : CallsSystem x site.at.scope site.at.instr (working may)) × (call.member ≡ site.member)

-- What comes of it where the method is given these values, by the answer and the lines that go out. The frame's place is not moved.
pub data SystemFollows {old : Contents} (site : CallSite) (x : Setting) (may : MayDo old site.here site.at) (given : List Value)
    (left : LeftBehind) : After → List Line → Type 0 where
  goes_on : (w : Working) (n : ℕ) → DoesSystem x site.member given (working may) w (GoesOn n)
      → Becomes old left.contents site.here may.run (with_frame may.callers w.frame w.inside) → left.shared ≡ site.here.shared
      → SystemFollows site x may given left (Next.Goto n) []
  says : (w : Working) (text : List ℕ) (n : ℕ) → DoesSystem x site.member given (working may) w (Says text n)
      → Becomes old left.contents site.here may.run (with_frame may.callers w.frame w.inside) → left.shared ≡ site.here.shared
      → SystemFollows site x may given left (Next.Goto n) (Said x.name text ∷ [])
  -- the stack is as it was, and the heap too, but for items that were copied before one that doesn't fit
  raises : (w : Working) (r : Raise) → DoesSystem x site.member given (working may) w (Raises r)
      → Becomes old left.contents site.here may.run (with_frame may.callers w.frame w.inside) → left.shared ≡ site.here.shared
      → SystemFollows site x may given left (Next.Raise r) []
  -- what is asked for is granted, and the answer is on the stack
  grants : (w : Working) (request : Request) (v : Option Value) → DoesSystem x site.member given (working may) w (Asks request)
      → Answers site.here.shared site.here.domain request (Ok v) left.shared
      → Becomes old left.contents site.here may.run
      (with_frame may.callers (record w.frame { stack = w.frame.stack ++ as_entries v }) w.inside)
      → SystemFollows site x may given left (Next.Goto (site.at.head.at + 1)) []
  -- it is denied, and the stores are as they were
  denies : (w : Working) (request : Request) (r : Raise) → DoesSystem x site.member given (working may) w (Asks request)
      → Answers site.here.shared site.here.domain request (Err r) left.shared → Becomes old left.contents site.here may.run may.run
      → SystemFollows site x may given left (Next.Raise r) []
  -- the running domain is to be killed; nothing changed yet
  terminates : (w : Working) → DoesSystem x site.member given (working may) w Terminates
      → Becomes old left.contents site.here may.run may.run → left.shared ≡ site.here.shared → SystemFollows site x may given left Next.Terminate []

-- The method is done, and its lines went out so.
abbrev pub SystemDone : Contents → CallSite → LeftBehind → After → (List Line → Type 0) → Type 0
SystemDone old site left after GoOut =
    (x : Setting) (may : MayDo old site.here site.at) (call : CallsSystem x site.at.scope site.at.instr (working may))
    → IsSetting old site.here x → call.member ≡ site.member
    → (lines : List Line) × SystemFollows site x may call.call.given left after lines × GoOut lines
