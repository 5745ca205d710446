-- The line that a borrowed line stands for.
use Rattle.jk_model.specs.declared.output.Line.{Line}
use Rattle.jk_model.specs.declared.output.Line.TheVariants as line
use Rattle.jk_model.specs.declared.output.Place.{Place}
use Rattle.jk_model.specs.declared.output.Place.TheVariants as place
use Rattle.jk_outside.specs.declared.line_refs.LineRef.{LineRef}
use Rattle.jk_outside.specs.declared.line_refs.LineRef.TheVariants.{Said, Loaded, Refused, Started, StartRefused, Ended, EndedBy, EndedByKill, Killed, KillRefused}
use Rattle.jk_outside.specs.declared.line_refs.PlaceRef.{PlaceRef}
use Rattle.jk_outside.specs.declared.line_refs.PlaceRef.TheVariants.{Whole, At}

abbrev pub place_of : PlaceRef → Place
place_of Whole = place.Whole
place_of (At path number) = place.At path.now number

abbrev pub line_of : LineRef → Line
line_of (Said domain text) = line.Said domain.now text.now
line_of (Loaded domain) = line.Loaded domain.now
line_of (Refused domain rule place) = line.Refused domain.now rule (place_of place)
line_of (Started thread domain) = line.Started thread domain.now
line_of (StartRefused domain number) = line.StartRefused domain.now number
line_of (Ended thread) = line.Ended thread
line_of (EndedBy thread class) = line.EndedBy thread class.now
line_of (EndedByKill thread) = line.EndedByKill thread
line_of (Killed domain) = line.Killed domain.now
line_of (KillRefused domain) = line.KillRefused domain.now
