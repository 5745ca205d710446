-- Lemmas on methods and arraycopy, and for worked examples.
mod ArraysOfExamples
mod CopiesAgree
mod FailuresAgree
mod FrontOfTexts
mod NumbersOfMethods
mod OneHolder
