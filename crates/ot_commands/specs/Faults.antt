-- Faults of texts and images as they are printed, and inputs that are refused.
use Rattle.std.specs.Prelude.{◌≡◌, ◌≢◌, ◌⊎◌, ℕ, Bool, true, false, Option, List, [], ◌∷◌, ◌++◌, Err, codes, decimal}
use Rattle.std.specs.Io.KnownBytes.{Keeps}
use Rattle.ot_asm.specs.declared.fault.AsmFault.{AsmFault}
use Rattle.ot_asm.specs.declared.fault.Kind as asm
use Rattle.ot_asm.specs.declared.fault.Kind.TheVariants as line
use Rattle.ot_asm.specs.Stepping.{outcome_of_lines, IsFaultlessBefore}
use Rattle.ot_image.specs.declared.fault.ImageFault.{ImageFault}
use Rattle.ot_image.specs.declared.fault.Kind as image
use Rattle.ot_image.specs.declared.fault.Kind.TheVariants as byte
use Rattle.ot_image.specs.Reading.{image_of, IsWant}
use Rattle.ot_faults.specs.Faults.{is_of_text, text_fault}
use Rattle.ot_faults.specs.Words.{fault_members}
use Rattle.streams.specs.Outcomes.{Complains, MayRefuse, Puts, Streams, memory_fault}
use Rattle.streams.specs.Streams.{Writes}

-- the names of faults as they are printed
abbrev pub line_kind : asm.Kind → List ℕ
line_kind line.BadText = codes "BadText"
line_kind line.NoClients = codes "NoClients"
line_kind line.UnknownWord = codes "UnknownWord"
line_kind line.BadNumber = codes "BadNumber"
line_kind line.BadClient = codes "BadClient"
line_kind line.BadOperation = codes "BadOperation"
line_kind line.Extra = codes "Extra"
line_kind line.TooLong = codes "TooLong"
line_kind line.TooMany = codes "TooMany"
line_kind line.Memory = codes "Memory"
line_kind line.ReadFault = codes "ReadFault"

abbrev pub byte_kind : image.Kind → List ℕ
byte_kind byte.Cut = codes "Cut"
byte_kind byte.BadMagic = codes "BadMagic"
byte_kind byte.BadNumber = codes "BadNumber"
byte_kind byte.TooLong = codes "TooLong"
byte_kind byte.TooMany = codes "TooMany"
byte_kind byte.BadScalar = codes "BadScalar"
byte_kind byte.BadOpcode = codes "BadOpcode"
byte_kind byte.BadClient = codes "BadClient"
byte_kind byte.NotNormal = codes "NotNormal"
byte_kind byte.Trailing = codes "Trailing"
byte_kind byte.Memory = codes "Memory"

-- otbench: line L: Kind, and otbench: byte B: Kind
abbrev pub line_fault : AsmFault → List ℕ
line_fault fault = codes "otbench: line " ++ (decimal fault.line ++ (codes ": " ++ (line_kind fault.kind ++ 10 ∷ [])))

abbrev pub byte_fault : ImageFault → List ℕ
byte_fault fault = codes "otbench: byte " ++ (decimal fault.at ++ (codes ": " ++ (byte_kind fault.kind ++ 10 ∷ [])))

-- the fault of a schedule's lines. One other than Memory and ReadFault is that of the first faulty line; in each case no line before is faulty.
-- ReadFault is said only where the input has failed (`unread`), as it says itself
pub record IsLineFault (unread : Bool) (lines : List (List ℕ)) (fault : AsmFault) : Type 0 where
  pub named : fault.kind ≢ line.Memory → fault.kind ≢ line.ReadFault → outcome_of_lines lines ≡ Err fault
  pub faultless : IsFaultlessBefore lines fault.line
  pub cause : fault.kind ≡ line.ReadFault → unread ≡ true

-- lines that are refused: nothing on the output, and the fault's line
pub record RefusesLines (unread : Bool) (lines : List (List ℕ)) (status : ℕ) (streams : Streams) : Type 0 where
  pub fault : AsmFault
  pub is_fault : IsLineFault unread lines fault
  pub refuses : MayRefuse (line_fault fault) status streams

-- the fault as a line of JSON: an object with its name and its line; of a fault of the text also the column, what stands there, what is wanted, the note
abbrev pub fault_json : AsmFault → List ℕ → List ℕ
fault_json fault members = codes "{\"fault\":\"" ++ (line_kind fault.kind ++ (codes "\"," ++ (members ++ codes "}\n")))

abbrev pub IsJsonOf : Bool → List (List ℕ) → AsmFault → List ℕ → Type 0
IsJsonOf false lines fault json = json ≡ fault_json fault (codes "\"line\":" ++ decimal fault.line)
IsJsonOf true lines fault json = json ≡ fault_json fault (fault_members (text_fault lines fault))

abbrev pub IsFaultJson : List (List ℕ) → AsmFault → List ℕ → Type 0
IsFaultJson lines fault json = IsJsonOf (is_of_text fault.kind) lines fault json

-- status 1; on the faults the fault's line, and on the output its JSON, as far as writing went
pub record GivesFault (lines : List (List ℕ)) (fault : AsmFault) (status : ℕ) (streams : Streams) : Type 0 where
  pub json : List ℕ
  pub is : IsFaultJson lines fault json
  pub gives : Puts 1 json status streams.output streams.output' streams.broken
  pub tells : Complains (line_fault fault) streams.faults streams.faults' streams.faults_broken

-- or memory for the JSON ran out, which the faults say behind the line; nothing on the output
pub record LacksMemory (fault : List ℕ) (status : ℕ) (streams : Streams) : Type 0 where
  pub told : Option (List ℕ)
  pub status_is : status ≡ 1
  pub output : Keeps streams.output streams.output'
  pub line : Complains fault streams.faults told streams.faults_broken
  pub behind : Writes told streams.faults' streams.faults_broken memory_fault

abbrev pub AnswersFault : List (List ℕ) → AsmFault → ℕ → Streams → Type 0
AnswersFault lines fault status streams = GivesFault lines fault status streams ⊎ LacksMemory (line_fault fault) status streams

-- in words: nothing on the output, and the fault's line; or as JSON too
abbrev pub TellsFault : Bool → List (List ℕ) → AsmFault → ℕ → Streams → Type 0
TellsFault false lines fault status streams = MayRefuse (line_fault fault) status streams
TellsFault true lines fault status streams = AnswersFault lines fault status streams

-- lines that are refused, which the answer says in words, or as JSON too
pub record RefusesLinesAs (json unread : Bool) (lines : List (List ℕ)) (status : ℕ) (streams : Streams) : Type 0 where
  pub fault : AsmFault
  pub is_fault : IsLineFault unread lines fault
  pub tells : TellsFault json lines fault status streams

-- an image that is refused, for its first bad field, or out of memory at a field before that: nothing on the output, and the fault's line
pub record RefusesImage (bytes : List ℕ) (status : ℕ) (streams : Streams) : Type 0 where
  pub fault : ImageFault
  pub is_fault : (image_of bytes ≡ Err fault) ⊎ IsWant bytes fault
  pub refuses : MayRefuse (byte_fault fault) status streams
