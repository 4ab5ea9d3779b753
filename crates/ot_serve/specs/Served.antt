-- What the program writes and answers.
use Rattle.std.specs.Prelude.{◌≡◌, ◌⊎◌, ℕ, Bool, true, List, Some, None}
use Rattle.std.specs.Io.KnownBytes.{Keeps}
use Rattle.clap.specs.Words.{Text, takes}
use Rattle.ot_commands.specs.Inputs.{OfText, OfTextAs, OfWholeText, OfImage}
use Rattle.streams.specs.Outcomes.{Streams, OutOfMemory, Says}
use Rattle.ot_words.specs.Requests.{otbench_app, request_of}
use Rattle.ot_commands.specs.Ran.{MayReport}
use Rattle.ot_commands.specs.Completes.{MayComplete}
use Rattle.ot_commands.specs.Converted.{MayGiveImage, MayGiveText}
use Rattle.ot_commands.specs.Generated.{Generates}
use Rattle.ot_commands.specs.Listed.{Counts, Lists}
use Rattle.ot_commands.specs.Judged.{Judges}
use Rattle.ot_commands.specs.ExplainedOutlooks.{MayGiveOutlook}
use Rattle.ot_commands.specs.ExplainedTraces.{ExplainsTrace}
use Rattle.ot_commands.specs.ExplainedPlans.{ExplainsPlan}
use Rattle.ot_commands.specs.Checked.{MayFind}
use Rattle.ot_commands.specs.Debugged.{Debugs}
use Rattle.ot_commands.specs.Stepped.{Steps as DoesSteps}
use Rattle.ot_commands.specs.Explains.{Explains}
use Rattle.ot_commands.specs.ExplainsImages.{ExplainsImage}
use Rattle.ot_commands.specs.Conformed.{Compares}
use Rattle.ot_commands.specs.Many.{ComparesMany}
use Rattle.ot_threads.specs.Threaded.{Threads as DoesThreads}
use Rattle.ot_words.specs.declared.words.Form.TheVariants as form
use Rattle.ot_words.specs.declared.words.Subject.TheVariants as subject
use Rattle.ot_words.specs.declared.words.Request.{Request}
use Rattle.ot_words.specs.declared.words.Request.TheVariants.{Run, Check, Debug, Assemble, Disassemble, Judge, Steps, Explain, Conform, ConformMany, Complete, Generate, ListEvery, CountEvery}
use Rattle.ot_words.specs.declared.words.Asked.{Asked}
use Rattle.ot_words.specs.declared.words.Asked.TheVariants.{Plainly, Threads}

-- a subcommand that reads nothing
abbrev pub WithoutInput : (ℕ → Streams → Type 0) → List ℕ → ℕ → Streams → Type 0
WithoutInput does text = does

-- what a subcommand that needs no handle does with its input; `unread` says that the input has failed
abbrev pub Serves : Request → Bool → List ℕ → ℕ → Streams → Type 0
Serves (Run form.Text json) unread = OfTextAs json (MayReport json) unread
Serves (Run form.Image json) unread = OfImage (MayReport json) unread
Serves (Check all json) unread = OfTextAs json (MayFind all json) unread
Serves Debug unread = Debugs unread
Serves Assemble unread = OfText MayGiveImage unread
Serves Disassemble unread = OfImage MayGiveText unread
Serves (Judge json) unread = Judges json unread
Serves (Steps documents) unread = DoesSteps documents unread
Serves (Explain subject.Schedule) unread = Explains unread
Serves (Explain subject.Outlook) unread = OfWholeText MayGiveOutlook unread
Serves (Explain subject.Image) unread = ExplainsImage unread
Serves (Explain subject.Trace) unread = ExplainsTrace unread
Serves (Explain subject.Plan) unread = ExplainsPlan unread
Serves (Conform sparse json) unread = Compares sparse json unread
Serves Complete unread = OfText MayComplete unread
Serves (ConformMany all sparse json) unread = ComparesMany all sparse json unread
Serves (Generate seed shape) unread = WithoutInput (Generates shape)
Serves (ListEvery space part) unread = WithoutInput (Lists space part)
Serves (CountEvery space part) unread = WithoutInput (Counts space part)

-- what a subcommand does with its input
abbrev pub ServesAsked : Asked → Bool → List ℕ → ℕ → Streams → Type 0
ServesAsked (Plainly request) unread = Serves request unread
ServesAsked Threads unread = DoesThreads unread

-- status 2, nothing on the output, and a text on the faults
abbrev pub Advises : ℕ → Streams → Type 0
Advises status streams = (status ≡ 2) × Keeps streams.output streams.output' × ((text : List ℕ) × Says text streams)

-- what the words ask for is done; or, where `clap` does not take them or they ask for nothing, its text is given; or memory for them ran out
abbrev pub ServesWords : List Text → Bool → List ℕ → ℕ → Streams → Type 0
ServesWords words unread input status streams =
    ((asked : Asked) × (request_of words ≡ Some asked) × ServesAsked asked unread input status streams)
    ⊎ ((takes otbench_app words ≡ true → request_of words ≡ None) × Advises status streams)
    ⊎ OutOfMemory status streams
