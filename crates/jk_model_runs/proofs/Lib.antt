-- The derivations of the laws and of the worked examples.
mod ExampleStarts
mod ExampleSteps
mod FirstRules
mod OneRunningSegment
mod OneStart
