-- Which methods are done together, by their meanings.
use Rattle.std.specs.Prelude.{◌≡◌, ◌⊎◌}
use Rattle.jk_model_system_rows.specs.declared.meanings.Shown.{Shown}
use Rattle.jk_model_system_rows.specs.declared.meanings.SystemMeaning.{SystemMeaning}
use Rattle.jk_model_system_rows.specs.declared.meanings.SystemMeaning.TheVariants as Means

-- the methods of java/lang/String, but for its constructor
abbrev pub IsOfTexts : SystemMeaning → Type 0
IsOfTexts m =
    (m ≡ Means.TextLength) ⊎ (m ≡ Means.CharAt) ⊎ (m ≡ Means.IsSameText) ⊎ (m ≡ Means.Concat) ⊎ (m ≡ Means.Substring)
    ⊎ ((shown : Shown) × (m ≡ Means.TextOf shown))

-- those of java/lang/StringBuffer and java/lang/StringBuilder
abbrev pub IsOfBuffers : SystemMeaning → Type 0
IsOfBuffers m =
    (m ≡ Means.BufferInitialises) ⊎ (m ≡ Means.BufferInitialisesWith) ⊎ (m ≡ Means.BufferLength) ⊎ (m ≡ Means.BufferText)
    ⊎ ((shown : Shown) × (m ≡ Means.Appends shown))

-- those of java/lang/Object, java/lang/Integer and of throwables
abbrev pub IsOfObjects : SystemMeaning → Type 0
IsOfObjects m =
    (m ≡ Means.Initialises) ⊎ (m ≡ Means.IsSame) ⊎ (m ≡ Means.ParsesInt) ⊎ (m ≡ Means.SetsMessage) ⊎ (m ≡ Means.GetsMessage)

-- those of jk/Domain and jk/Task that touch their own domain alone
abbrev pub IsOfOwnDomain : SystemMeaning → Type 0
IsOfOwnDomain m = (m ≡ Means.NamesDomain) ⊎ (m ≡ Means.CountsFreeWords) ⊎ (m ≡ Means.GetsTask)

-- those that ask for capabilities
abbrev pub IsOfCapabilities : SystemMeaning → Type 0
IsOfCapabilities m = (m ≡ Means.CreatesCapability) ⊎ (m ≡ Means.RevokesCapability)

-- those of jk/Repository
abbrev pub IsOfRepository : SystemMeaning → Type 0
IsOfRepository m = (m ≡ Means.BindsName) ⊎ (m ≡ Means.LooksUpName) ⊎ (m ≡ Means.UnbindsName)

-- those that ask of the segment of a Task
abbrev pub IsOfTasks : SystemMeaning → Type 0
IsOfTasks m = (m ≡ Means.SuspendsTask) ⊎ (m ≡ Means.ResumesTask) ⊎ (m ≡ Means.StopsTask)

-- those that print a line
abbrev pub Prints : SystemMeaning → Type 0
Prints m = (m ≡ Means.PrintsEmptyLine) ⊎ ((shown : Shown) × (m ≡ Means.Prints shown))

-- those of package jk
abbrev pub IsOfJk : SystemMeaning → Type 0
IsOfJk m = IsOfOwnDomain m ⊎ IsOfCapabilities m ⊎ IsOfRepository m ⊎ IsOfTasks m ⊎ (m ≡ Means.TerminatesDomain)

-- it prints nothing, and its domain goes on
abbrev pub IsAnswered : SystemMeaning → Type 0
IsAnswered m = (Prints m → ⊥) × (m ≡ Means.TerminatesDomain → ⊥)
