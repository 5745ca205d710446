-- A call of a method of a system class, in the frame that calls it: it is done in one step, and has no frame of its own.
use Rattle.std.specs.Prelude.{◌≡◌, ◌+◌, List, [], Some}
use Rattle.jk_model.specs.declared.identifiers.MemberId.{MemberId}
use Rattle.jk_model.specs.declared.values.Value.{Value}
use Rattle.jk_model_frames.specs.Frames.{FrameState}
use Rattle.jk_model_domains.specs.NumberRows.{Replaces}
use Rattle.jk_model_heaps.specs.CalledFrames.{as_entries}
use Rattle.jk_model_heaps.specs.Workings.{Asks, GoesOn, Outcome, Raises, Says, Setting, Terminates, Working}
use Rattle.jk_model_system_rows.specs.declared.meanings.SystemMeaning.{SystemMeaning}
use Rattle.jk_model_system_rows.specs.Answers.{Answer, Answered, Ends, Fails, Gives, Tells, Wants}
use Rattle.jk_model_system_rows.specs.Meanings.{meaning_of}
use Rattle.jk_model_system_rows.specs.SystemRows.{SystemRow}

-- What the answer makes of the frame: receiver and arguments leave the stack, and a value is pushed. A frame that waits for an answer from
-- outside of its domain stays at its place until that comes. Where the method fails, or its domain ends, the frame is as it was.
abbrev pub Answering : FrameState → List Value → Answer → FrameState → Outcome → Type 0
Answering f given (Gives v) g outcome = Replaces f g given (as_entries v) × (outcome ≡ GoesOn (f.head.at + 1))
Answering f given (Tells text) g outcome = Replaces f g given [] × (outcome ≡ Says text (f.head.at + 1))
Answering f given (Fails r) g outcome = (g ≡ f) × (outcome ≡ Raises r)
Answering f given (Wants request) g outcome = Replaces f g given [] × (outcome ≡ Asks request)
Answering f given Ends g outcome = (g ≡ f) × (outcome ≡ Terminates)

-- Of the method m, at this receiver and these arguments, which stand on top of the stack.
pub record DoesSystem (x : Setting) (m : MemberId) (given : List Value) (w new : Working) (outcome : Outcome) : Type 0 where
  pub meaning : SystemMeaning
  pub means : meaning_of m ≡ Some meaning
  pub done : Answered
  pub row : SystemRow x meaning given w.inside done
  pub answering : Answering w.frame given done.answer new.frame outcome
  pub inside : new.inside ≡ done.inside
