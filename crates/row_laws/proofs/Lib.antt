pub mod ActingSegments
pub mod AnsweredFrames
pub mod ArraysByType
pub mod ArraysCopied
pub mod ArraysOfArraysMade
pub mod BegunMethods
pub mod BelowObject
pub mod BrokenClasses
pub mod CallersFit
pub mod CallersResume
pub mod CallsFound
pub mod CallsKept
pub mod CallsKnown
pub mod CallsOfSystem
pub mod CastsAndThrows
mod ClassesBegunAndEnded
pub mod ClassesLeft
pub mod ClassesOfReceivers
pub mod ClassesToMake
pub mod ConstantsKept
pub mod ConstantsWritten
pub mod CopiesKept
pub mod ElementsOfArrays
pub mod ElementsRead
pub mod ElementsWritten
pub mod FieldsByPlace
pub mod FieldsNamed
pub mod FieldsOfObjects
pub mod FieldsRead
pub mod FieldsWritten
pub mod FirstFields
pub mod FramesInARow
pub mod FreshObjects
pub mod GivenByNumber
pub mod GivenFromTypes
pub mod GivenToCalls
pub mod HandlersFit
pub mod HeapFramesLeft
pub mod HeapRowsKept
pub mod HeldValues
pub mod HiddenTextsKept
mod InitialisersFit
mod InitialisersFound
pub mod InsidesKept
pub mod InsidesMade
pub mod InsidesWritten
pub mod InstancesDecided
pub mod InstancesFitTypes
pub mod InstructionsFollowed
pub mod InstructionsKept
mod InstructionsThere
mod KindsOfInstructions
pub mod KnownMethods
mod LiteralsAdded
pub mod LiteralsLoaded
pub mod MeaningsOfTable
pub mod NamedMethods
pub mod NamesStayKnown
mod NeededClassesKnown
pub mod NeedsFound
mod NeedsKept
pub mod NumberRowsKept
pub mod NumberRowsThere
mod NumbersGoOn
pub mod ObjectsMade
mod OpcodesByKind
pub mod OpcodesOfHeaps
pub mod OperandsFound
pub mod OperandsOnTop
pub mod Raised
mod RaisesKept
mod RaisesThere
pub mod ReceiversFit
pub mod RoomToCatch
pub mod RowsFromGiven
pub mod RowsFromOperands
pub mod RowsKeep
pub mod RowsKept
pub mod RowsOfCalls
pub mod SelectedMethods
pub mod StacksNotRead
pub mod StandsHere
pub mod StatesOfFrames
pub mod StaticsNamed
pub mod StepsKept
pub mod StepsThere
pub mod SystemAnswersKept
pub mod SystemParents
pub mod TargetsFound
pub mod TargetsThatFail
pub mod TextsOfLiterals
pub mod TreesOfArrays
pub mod UnwindingAnswersKept
pub mod UnwindingFramesLeft
pub mod UnwoundKept
pub mod ValuesMet
pub mod ValuesOfHeaps
pub mod WaysThere
pub mod WaysUp
