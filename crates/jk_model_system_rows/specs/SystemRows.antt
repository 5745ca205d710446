-- What a method of the system classes makes of its receiver and arguments, and of what its domain has inside, by its meaning: one row for
-- each. The receiver comes first, where there is one. A new object that doesn't fit raises the standing OutOfMemoryError, and nothing
-- changes.
use Rattle.std.specs.Prelude.{List, []}
use Rattle.jk_model.specs.declared.values.Value.{Value}
use Rattle.jk_model_domains.specs.Objects.{Task, Text}
use Rattle.jk_model_heaps.specs.Workings.{Inside, LooksUp, Resumes, Setting, Stops, Suspends, Unbinds}
use Rattle.jk_model_system_rows.specs.declared.meanings.SystemMeaning.{SystemMeaning}
use Rattle.jk_model_system_rows.specs.declared.meanings.SystemMeaning.TheVariants as Means
use Rattle.jk_model_system_rows.specs.Answers.{Answered, Answers, AnswersNew, Ends, Tells, gives_nothing}
use Rattle.jk_model_system_rows.specs.ArrayCopies.{CopiesArray}
use Rattle.jk_model_system_rows.specs.HiddenTexts.{AppendsTo, BeginsBuffer, BeginsBufferWith, GivesBufferLength, GivesBufferText, GivesMessage, SetsMessage}
use Rattle.jk_model_system_rows.specs.PackageJk.{AsksByName, AsksOfTask, BindsName, CountsWords, CreatesCapability, RevokesCapability}
use Rattle.jk_model_system_rows.specs.TextMethods.{CutsText, GivesTextLength, GivesUnit, JoinsTexts, PrintsText, ReadsNumber, TellsEqual, TellsSame, WritesText}

abbrev pub SystemRow : Setting → SystemMeaning → List Value → Inside → Answered → Type 0
SystemRow x Means.Initialises given old done = Answers old gives_nothing done
SystemRow x Means.IsSame given old done = TellsSame given old done
SystemRow x Means.TextLength given old done = GivesTextLength given old done
SystemRow x Means.CharAt given old done = GivesUnit given old done
SystemRow x Means.IsSameText given old done = TellsEqual given old done
SystemRow x Means.Concat given old done = JoinsTexts x given old done
SystemRow x Means.Substring given old done = CutsText x given old done
SystemRow x (Means.TextOf shown) given old done = WritesText x shown given old done
SystemRow x Means.BufferInitialises given old done = BeginsBuffer x given old done
SystemRow x Means.BufferInitialisesWith given old done = BeginsBufferWith given old done
SystemRow x Means.BufferLength given old done = GivesBufferLength given old done
SystemRow x Means.BufferText given old done = GivesBufferText x given old done
SystemRow x (Means.Appends shown) given old done = AppendsTo x shown given old done
SystemRow x Means.PrintsEmptyLine given old done = Answers old (Tells []) done
SystemRow x (Means.Prints shown) given old done = PrintsText shown given old done
SystemRow x Means.CopiesArray given old done = CopiesArray x given old done
SystemRow x Means.ParsesInt given old done = ReadsNumber given old done
SystemRow x Means.SetsMessage given old done = SetsMessage given old done
SystemRow x Means.GetsMessage given old done = GivesMessage given old done
SystemRow x Means.CreatesCapability given old done = CreatesCapability x given old done
SystemRow x Means.RevokesCapability given old done = RevokesCapability given old done
SystemRow x Means.BindsName given old done = BindsName given old done
SystemRow x Means.LooksUpName given old done = AsksByName LooksUp given old done
SystemRow x Means.UnbindsName given old done = AsksByName Unbinds given old done
SystemRow x Means.NamesDomain given old done = AnswersNew x old (Text x.name) done
SystemRow x Means.CountsFreeWords given old done = CountsWords x old done
SystemRow x Means.TerminatesDomain given old done = Answers old Ends done
SystemRow x Means.GetsTask given old done = AnswersNew x old (Task x.segment) done
SystemRow x Means.SuspendsTask given old done = AsksOfTask Suspends given old done
SystemRow x Means.ResumesTask given old done = AsksOfTask Resumes given old done
SystemRow x Means.StopsTask given old done = AsksOfTask Stops given old done
