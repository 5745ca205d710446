pub mod LinesJoined
mod MachinesStaySound
mod NextThreads
mod NumbersLeft
mod OneRound
mod RestingTurns
mod RoundsSoFar
mod TurnsSoFar
mod WaysJoined
